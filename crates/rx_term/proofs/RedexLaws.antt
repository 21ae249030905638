-- Parts of a term and parts of its ground term: under outer frames, and at the redex.
use Rattle.std.proofs.Common.{◌≡◌, ◌∙◌, ap, sym, subst, refl, ℕ, zero, suc, ◌+◌, ◌⊎◌, inl, inr, arith, Option, Some, None, List, ℤ}
use Rattle.std.specs.Prelude.{unwrap_or, option_and_then}
use Rattle.std.specs.Option.{option_map, option_map_or}
use Rattle.std.proofs.lemmas.Option.{none-some}
use Rattle.rx_poly.specs.declared.body.Body.{Body}
use Rattle.rx_rewriting.specs.Terms as stack
use Rattle.rx_rewriting.specs.Terms.{Ground, in_context}
use Rattle.rx_term.specs.Meaning.{values, ground_at, ground_redex, outer_frames, outer_level, redex_of, IsRedex, CallRedex, ReturnRedex, FailRedex}
use Rattle.rx_term.specs.Stacks.{suffix_at, redex_place, replace_at, over_frame, under_frame}
use Rattle.rx_term.specs.declared.term.Sym.{Sym}
use Rattle.rx_term.specs.declared.term.Term.{Term, Term-F}
use Rattle.rx_term.specs.declared.term.Term.TheVariants.{Return, Fail, Call, Frame, outs-Return, outs-Fail, outs-Call}
use Rattle.rx_term.proofs.Equations.{induct, Form, AReturn, AFail, ACall, AFrame, form, suffix_at-Frame, replace_at-Frame, outer-Frame, ground-Return, ground-Fail, ground-Call, ground-Frame, redex-Return, redex-Fail, redex-Call, redex-Frame}

-- ---- parts under outer frames

module _ (a : ℕ → ℤ) (n : ℕ) (inner : Term) where
  abbrev Stands : Term → Type 0
  Stands u =
      ground_at a (replace_at (suc n) u inner) ≡
      in_context (outer_frames a (suc n) u) (ground_at a inner)

  stands : ((u : Term) → ground_at a (replace_at n u inner) ≡
      in_context (outer_frames a n u) (ground_at a inner)) → (t : Term) → Form t → Stands t
  stands further _ (AReturn p) =
      ap (λ (x : Term-F Term). ground_at a (over_frame x inner (λ rest. replace_at n rest inner)))
      (outs-Return p)
      ∙ sym (ap (λ (x : Term-F Term). in_context (outer_level a x (outer_frames a n))
      (ground_at a inner)) (outs-Return p))
  stands further _ (AFail c) =
      ap (λ (x : Term-F Term). ground_at a (over_frame x inner (λ rest. replace_at n rest inner)))
      (outs-Fail c)
      ∙ sym (ap (λ (x : Term-F Term). in_context (outer_level a x (outer_frames a n))
      (ground_at a inner)) (outs-Fail c))
  stands further _ (ACall f ps) =
      ap (λ (x : Term-F Term). ground_at a (over_frame x inner (λ rest. replace_at n rest inner)))
      (outs-Call f ps)
      ∙ sym (ap (λ (x : Term-F Term). in_context (outer_level a x (outer_frames a n))
      (ground_at a inner)) (outs-Call f ps))
  stands further _ (AFrame f ps u) =
      ap (ground_at a) (replace_at-Frame n f ps u inner) ∙
      ground-Frame a f ps (replace_at n u inner)
      ∙ ap (stack.Frame f.0 (values a ps)) (further u)
      ∙ sym (ap (λ fs. in_context fs (ground_at a inner)) (outer-Frame a n f ps u))

-- what replaces the part under outer frames is under the same frames
pub ground_replaced : (a : ℕ → ℤ) (n : ℕ) (t inner : Term) → ground_at a (replace_at n t inner) ≡
    in_context (outer_frames a n t) (ground_at a inner)
ground_replaced a zero t inner = refl
ground_replaced a (suc n) t inner = stands a n inner (λ u. ground_replaced a n u inner) t (form t)

module _ (a : ℕ → ℤ) (n : ℕ) (s : Term) where
  stands_after : ((u : Term) → suffix_at n u ≡ Some s → ground_at a u ≡
      in_context (outer_frames a n u) (ground_at a s)) → (t : Term) → Form t → suffix_at (suc n) t ≡
      Some s → ground_at a t ≡ in_context (outer_frames a (suc n) t) (ground_at a s)
  stands_after further _ (AReturn p) h =
      absurd (none-some s (sym (ap (λ (x : Term-F Term). under_frame x (suffix_at n)) (outs-Return p))
      ∙
      h))
  stands_after further _ (AFail c) h =
      absurd (none-some s (sym (ap (λ (x : Term-F Term). under_frame x (suffix_at n)) (outs-Fail c)) ∙
      h))
  stands_after further _ (ACall f ps) h =
      absurd (none-some s (sym (ap (λ (x : Term-F Term). under_frame x (suffix_at n))
      (outs-Call f ps)) ∙
      h))
  stands_after further _ (AFrame f ps u) h =
      ground-Frame a f ps u ∙ ap (stack.Frame f.0 (values a ps))
      (further u (sym (suffix_at-Frame n f ps u) ∙ h))
      ∙ sym (ap (λ fs. in_context fs (ground_at a s)) (outer-Frame a n f ps u))

-- the part under outer frames is under them
pub ground_after : (a : ℕ → ℤ) (n : ℕ) (t s : Term) → suffix_at n t ≡ Some s → ground_at a t ≡
    in_context (outer_frames a n t) (ground_at a s)
ground_after a zero t s h = let same : t ≡ s = cc in ap (ground_at a) same
ground_after a (suc n) t s h = stands_after a n s (λ u. ground_after a n u s) t (form t) h

-- ---- the redex

-- a result
pub data IsEnd : Term → Type 0 where
  EndReturn : (p : Body) → IsEnd (Return p)
  EndFail : (c : ℕ) → IsEnd (Fail c)

-- a term's redex: where it is, what it is, and what it means
pub record Found (t : Term) : Type 0 where
  pub place : ℕ
  pub part : Term
  pub at : redex_place t ≡ Some place
  pub stands : suffix_at place t ≡ Some part
  pub is : IsRedex part
  pub means : (a : ℕ → ℤ) → ground_redex (ground_at a t) ≡ Some (ground_at a part)

found_call : (f : Sym) (ps : List Body) → Found (Call f ps)
found_call f ps = record {
  place = 0;
  part = Call f ps;
  at = redex-Call f ps;
  stands = refl;
  is = CallRedex f ps;
  means = λ a. ap ground_redex (ground-Call a f ps) ∙ ap Some (sym (ground-Call a f ps));
}

end_means : (a : ℕ → ℤ) (t : Term) → IsEnd t → ground_redex (ground_at a t) ≡ None
end_means a _ (EndReturn p) = ap ground_redex (ground-Return a p)
end_means a _ (EndFail c) = ap ground_redex (ground-Fail a c)

end_place : (t : Term) → IsEnd t → redex_place t ≡ None
end_place _ (EndReturn p) = redex-Return p
end_place _ (EndFail c) = redex-Fail c

over_end : (f : Sym) (ps : List Body) (t : Term) → IsEnd t → IsRedex (Frame f ps t)
over_end f ps _ (EndReturn p) = ReturnRedex f ps p
over_end f ps _ (EndFail c) = FailRedex f ps c

found_frame : (f : Sym) (ps : List Body) (t : Term) → IsEnd t ⊎ Found t → Found (Frame f ps t)
found_frame f ps t (inl end) = record {
  place = 0;
  part = Frame f ps t;
  at =
      redex-Frame f ps t ∙ ap (λ (o : Option ℕ). Some (option_map_or (λ n. 1 + n) o 0))
      (end_place t end);
  stands = refl;
  is = over_end f ps t end;
  means =
      λ a. ap ground_redex (ground-Frame a f ps t) ∙
      ap (λ (o : Option Ground). Some (unwrap_or o (stack.Frame f.0 (values a ps) (ground_at a t))))
      (end_means a t end) ∙ ap Some (sym (ground-Frame a f ps t));
}
found_frame f ps t (inr found) =
    let q : 1 + found.place ≡ suc found.place = omega arith in record {
      place = suc found.place;
      part = found.part;
      at =
          redex-Frame f ps t ∙ ap (λ (o : Option ℕ). Some (option_map_or (λ n. 1 + n) o 0)) found.at
          ∙ ap Some q;
      stands = suffix_at-Frame found.place f ps t ∙ found.stands;
      is = found.is;
      means =
          λ a. ap ground_redex (ground-Frame a f ps t) ∙
          ap (λ (o : Option Ground). Some (unwrap_or o
          (stack.Frame f.0 (values a ps) (ground_at a t)))) (found.means a);
    }

-- each term is a result, or has a redex
pub find_redex : (t : Term) → IsEnd t ⊎ Found t
find_redex = induct (λ t. IsEnd t ⊎ Found t)
    (λ p. inl (EndReturn p))
    (λ c. inl (EndFail c))
    (λ f ps. inr (found_call f ps))
    (λ f ps t more. inr (found_frame f ps t more))

by_cases : (a : ℕ → ℤ) (t : Term) → IsEnd t ⊎ Found t → option_map (ground_at a) (redex_of t) ≡
    ground_redex (ground_at a t)
by_cases a t (inl end) =
    ap (λ (o : Option ℕ). option_map (ground_at a) (option_and_then (λ n. suffix_at n t) o))
    (end_place t end) ∙ sym (end_means a t end)
by_cases a t (inr found) =
    ap (λ (o : Option ℕ). option_map (ground_at a) (option_and_then (λ n. suffix_at n t) o))
    found.at
    ∙ ap (option_map (ground_at a)) found.stands ∙ sym (found.means a)

-- the redex of the ground term is the ground term of the redex
pub redex_ground : (a : ℕ → ℤ) (t : Term) → option_map (ground_at a) (redex_of t) ≡
    ground_redex (ground_at a t)
redex_ground a t = by_cases a t (find_redex t)

chosen : (t s : Term) → IsEnd t ⊎ Found t → redex_of t ≡ Some s → IsRedex s
chosen t s (inl end) h =
    absurd (none-some s (sym (ap (option_and_then (λ n. suffix_at n t)) (end_place t end)) ∙ h))
chosen t s (inr found) h =
    let both : Some found.part ≡ Some s = sym found.stands ∙
    sym (ap (option_and_then (λ n. suffix_at n t)) found.at) ∙ h in
    let same : found.part ≡ s = cc in
    subst IsRedex same found.is

-- a redex is a call, or a frame over a result
pub redex_is : (t s : Term) → redex_of t ≡ Some s → IsRedex s
redex_is t s h = chosen t s (find_redex t) h
