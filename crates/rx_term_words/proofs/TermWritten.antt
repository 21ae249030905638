-- A term is written as its frames, what is under them all, and what closes them.
use Rattle.std.proofs.Common.{◌≡◌, ◌∙◌, ap, sym, refl, ℕ, ◌+◌, List, [], ◌∷◌, ◌++◌, append_assoc, arith}
use Rattle.std.proofs.lemmas.List.{append-nil}
use Rattle.rx_poly.specs.declared.body.Body.{Body}
use Rattle.rx_term.proofs.Equations.{depth-Call, depth-Fail, depth-Frame, depth-Return, induct}
use Rattle.rx_term.specs.Stacks.{depth_of}
use Rattle.rx_term.specs.declared.term.Sym.{Sym}
use Rattle.rx_term.specs.declared.term.Term.{Term}
use Rattle.rx_term.specs.declared.term.Term.TheFolds.{fold_out-Term}
use Rattle.rx_term.specs.declared.term.Term.TheVariants as made
use Rattle.rx_term_words.specs.Terms.{applied_text, term_text}
use Rattle.rx_term_words.specs.Written.{closing_level, closing_text, innermost_level, innermost_of, opening_level, opening_text}
use Rattle.rx_term_words.proofs.TermLaws.{frame_text}

-- ---- the equations of the three parts

opening_Return : (p : Body) → opening_text (made.Return p) ≡ []
opening_Return p =
    fold_out-Term (List ℕ) opening_level (made.Return p) ∙ rw (made.outs-Return p) refl

opening_Fail : (c : ℕ) → opening_text (made.Fail c) ≡ []
opening_Fail c = fold_out-Term (List ℕ) opening_level (made.Fail c) ∙ rw (made.outs-Fail c) refl

opening_Call : (f : Sym) (ps : List Body) → opening_text (made.Call f ps) ≡ []
opening_Call f ps =
    fold_out-Term (List ℕ) opening_level (made.Call f ps) ∙ rw (made.outs-Call f ps) refl

pub opening_Frame : (f : Sym) (ps : List Body) (t : Term) → opening_text (made.Frame f ps t) ≡
    applied_text f ps ++ (59 ∷ opening_text t)
opening_Frame f ps t =
    fold_out-Term (List ℕ) opening_level (made.Frame f ps t) ∙ rw (made.outs-Frame f ps t) refl

closing_Return : (p : Body) → closing_text (made.Return p) ≡ []
closing_Return p =
    fold_out-Term (List ℕ) closing_level (made.Return p) ∙ rw (made.outs-Return p) refl

closing_Fail : (c : ℕ) → closing_text (made.Fail c) ≡ []
closing_Fail c = fold_out-Term (List ℕ) closing_level (made.Fail c) ∙ rw (made.outs-Fail c) refl

closing_Call : (f : Sym) (ps : List Body) → closing_text (made.Call f ps) ≡ []
closing_Call f ps =
    fold_out-Term (List ℕ) closing_level (made.Call f ps) ∙ rw (made.outs-Call f ps) refl

pub closing_Frame : (f : Sym) (ps : List Body) (t : Term) → closing_text (made.Frame f ps t) ≡ 41 ∷
    closing_text t
closing_Frame f ps t =
    fold_out-Term (List ℕ) closing_level (made.Frame f ps t) ∙ rw (made.outs-Frame f ps t) refl

innermost_Return : (p : Body) → innermost_of (made.Return p) ≡ made.Return p
innermost_Return p =
    fold_out-Term Term innermost_level (made.Return p) ∙ rw (made.outs-Return p) refl

innermost_Fail : (c : ℕ) → innermost_of (made.Fail c) ≡ made.Fail c
innermost_Fail c = fold_out-Term Term innermost_level (made.Fail c) ∙ rw (made.outs-Fail c) refl

innermost_Call : (f : Sym) (ps : List Body) → innermost_of (made.Call f ps) ≡ made.Call f ps
innermost_Call f ps =
    fold_out-Term Term innermost_level (made.Call f ps) ∙ rw (made.outs-Call f ps) refl

pub innermost_Frame : (f : Sym) (ps : List Body) (t : Term) → innermost_of (made.Frame f ps t) ≡
    innermost_of t
innermost_Frame f ps t =
    fold_out-Term Term innermost_level (made.Frame f ps t) ∙ rw (made.outs-Frame f ps t) refl

-- ---- the whole

-- one more closing parenthesis, before or after
closed_after : (t : Term) → closing_text t ++ (41 ∷ []) ≡ 41 ∷ closing_text t
closed_after = induct (λ t. closing_text t ++ (41 ∷ []) ≡ 41 ∷ closing_text t)
    (λ p. rw (closing_Return p) refl)
    (λ c. rw (closing_Fail c) refl)
    (λ f ps. rw (closing_Call f ps) refl)
    (λ f ps t inner. rw (closing_Frame f ps t) (ap (λ b. 41 ∷ b) inner))

abbrev InThree : Term → Type 0
InThree t = opening_text t ++ (term_text (innermost_of t) ++ closing_text t) ≡ term_text t

flat : (t : Term) → opening_text t ≡ [] → innermost_of t ≡ t → closing_text t ≡ [] → InThree t
flat t o i c = rw o (rw i (rw c (append-nil (term_text t))))

-- the text is that of the frames, of what is under them, and what closes them
pub in_three : (t : Term) → InThree t
in_three = induct InThree
    (λ p. flat (made.Return p) (opening_Return p) (innermost_Return p) (closing_Return p))
    (λ c. flat (made.Fail c) (opening_Fail c) (innermost_Fail c) (closing_Fail c))
    (λ f ps. flat (made.Call f ps) (opening_Call f ps) (innermost_Call f ps) (closing_Call f ps))
    (λ f ps t inner. framed f ps t inner)
  where
    framed : (f : Sym) (ps : List Body) (t : Term) → InThree t → InThree (made.Frame f ps t)
    framed f ps t inner =
        let a = applied_text f ps in
        let o = opening_text t in
        let m = term_text (innermost_of t) in
        let c = closing_text t in
        let closed : o ++ (m ++ (41 ∷ c)) ≡ term_text t ++ (41 ∷ []) =
        ap (λ b. o ++ (m ++ b)) (sym (closed_after t))
        ∙ ap (λ b. o ++ b) (sym (append_assoc m c (41 ∷ [])))
        ∙ sym (append_assoc o (m ++ c) (41 ∷ []))
        ∙ ap (λ b. b ++ (41 ∷ [])) inner in
        rw (opening_Frame f ps t) (rw (innermost_Frame f ps t) (rw (closing_Frame f ps t)
        (append_assoc a (59 ∷ o) (m ++ (41 ∷ c))
        ∙ ap (λ b. a ++ (59 ∷ b)) closed
        ∙ sym (frame_text f ps t))))

-- what is under all frames is under no more
pub innermost_again : (t : Term) → innermost_of (innermost_of t) ≡ innermost_of t
innermost_again = induct (λ t. innermost_of (innermost_of t) ≡ innermost_of t)
    (λ p. ap innermost_of (innermost_Return p))
    (λ c. ap innermost_of (innermost_Fail c))
    (λ f ps. ap innermost_of (innermost_Call f ps))
    (λ f ps t inner. rw (innermost_Frame f ps t) inner)

-- and so written one after the other
pub written_in_three : (out : List ℕ) (t : Term) →
    ((out ++ opening_text t) ++ term_text (innermost_of t)) ++ closing_text t ≡ out ++ term_text t
written_in_three out t =
    append_assoc (out ++ opening_text t) (term_text (innermost_of t)) (closing_text t)
    ∙ append_assoc out (opening_text t) (term_text (innermost_of t) ++ closing_text t)
    ∙ ap (λ b. out ++ b) (in_three t)

-- under all frames there is no frame
flat_under : (t : Term) → depth_of (innermost_of t) ≡ 0
flat_under = induct (λ t. depth_of (innermost_of t) ≡ 0)
    (λ p. rw (innermost_Return p) (depth-Return p))
    (λ c. rw (innermost_Fail c) (depth-Fail c))
    (λ f ps. rw (innermost_Call f ps) (depth-Call f ps))
    (λ f ps t inner. rw (innermost_Frame f ps t) inner)

pub no_frame : (u : Term) (f : Sym) (ps : List Body) (t : Term) → u ≡ made.Frame f ps t →
    innermost_of u ≡ u → ⊥
no_frame u f ps t is same =
    let none = flat_under u in
    let some_ : depth_of u ≡ 1 + depth_of t = ap depth_of is ∙ depth-Frame f ps t in
    let eq = ap depth_of same in
    omega (arith, none, some_, eq)
