-- The parts of a right side, walked from outside to what it has in common with the left side.
use Rattle.std.proofs.Common.{◌≡◌, ◌∙◌, ap, sym, subst, refl, arith, ℕ, zero, suc, ◌-◌, ◌<◌, ◌==◌, true, false, Option, Some, None, List, [], ◌∷◌, ◌++◌, append_assoc, length}
use Rattle.std.proofs.lemmas.Bool.{eqb-true, false≢true}
use Rattle.std.proofs.lemmas.List.{append-nil, map-append}
use Rattle.std.proofs.lemmas.Option.{none-some, same_Some}
use Rattle.rx_plain.proofs.Naturals.{one_more}
use Rattle.rx_poly.specs.declared.body.Body.{Body}
use Rattle.rx_term.specs.Stacks.{suffix_at, depth_of, under_frame}
use Rattle.rx_term.specs.declared.term.Sym.{Sym}
use Rattle.rx_term.specs.declared.term.Term.{Term, Term-F}
use Rattle.rx_term.specs.declared.term.Term.TheVariants.{Return, Fail, Call, Frame, outs-Return, outs-Fail, outs-Call, outs-Frame}
use Rattle.rx_term.proofs.Equations.{Form, AReturn, AFail, ACall, AFrame, form, suffix_at-Frame, depth-Frame}
use Rattle.rx_term.proofs.KeepingLaws.{depth_after}
use Rattle.rx_pairs.specs.Common.{IsCommon, IsPart}
use Rattle.rx_pairs.specs.Lent.{IsKept, IsLargestUnder, all_lent, lent, outer_level, outer_parts}
use Rattle.rx_pairs.specs.Pairs.{AreParts, AtCall, AtFail, AtFrame, AtReturn, Common, IsRoot, IsUnder, OfCall, OfFrame, Part, part}
use Rattle.rx_pairs.specs.declared.parts.Application.{Application}
use Rattle.rx_pairs.proofs.CommonLaws.{IsEnd, inner_part, part_depth, part_of_part, whole_part}

-- ---- roots

-- a call is its own root, and a frame too
pub call_root : (t : Term) (f : Sym) (ps qs : List Body) → t ≡ Call f ps → qs ≡ ps →
    IsRoot t (part f qs)
call_root t f ps qs is same =
    subst (λ u. IsRoot u (part f qs)) (sym is)
    (subst (λ rs. IsRoot (Call f rs) (part f qs)) same (OfCall f qs))

pub frame_root : (t : Term) (f : Sym) (ps qs : List Body) (inner : Term) → t ≡ Frame f ps inner →
    qs ≡ ps → IsRoot t (part f qs)
frame_root t f ps qs inner is same =
    subst (λ u. IsRoot u (part f qs)) (sym is)
    (subst (λ rs. IsRoot (Frame f rs inner) (part f qs)) same (OfFrame f qs inner))

-- ---- parts under a frame

-- what is under a frame is a part of what the frame is over
pub under_inner : (f : Sym) (ps : List Body) (t u : Term) → IsUnder (Frame f ps t) u → IsPart t u
under_inner f ps t u (k, is) = (k, sym (suffix_at-Frame k f ps t) ∙ is)

pub inner_under : (f : Sym) (ps : List Body) (t u : Term) → IsPart t u → IsUnder (Frame f ps t) u
inner_under f ps t u (k, is) = (k, suffix_at-Frame k f ps t ∙ is)

-- so the largest common part with that is the largest that is under the frame
kept_inner : (f : Sym) (ps : List Body) (t right : Term) (found : Option Term) →
    IsCommon t right found → IsKept (Frame f ps t) right found
kept_inner f ps t right None none = λ u under in_right. none u (under_inner f ps t u under) in_right
kept_inner f ps t right (Some s) one = record {
  under = inner_under f ps t s one.of_first;
  part = one.of_second;
  largest = λ u under in_right. one.largest u (under_inner f ps t u under) in_right;
}

pub kept_under : (left inner right : Term) (f : Sym) (ps : List Body) (t : Term)
    (found : Option Term) → left ≡ Frame f ps t → inner ≡ t
    → IsCommon inner right found → IsKept left right found
kept_under left inner right f ps t found is same common =
    subst (λ u. IsKept u right found) (sym is)
    (kept_inner f ps t right found (subst (λ u. IsCommon u right found) same common))

-- ---- outer frames

pub outer-Frame : (n : ℕ) (f : Sym) (ps : List Body) (t : Term) →
    outer_parts (suc n) (Frame f ps t) ≡ part f ps ∷ outer_parts n t
outer-Frame n f ps t = ap (λ (x : Term-F Term). outer_level x (outer_parts n)) (outs-Frame f ps t)

none_outer : (n : ℕ) (t : Term) → Form t → IsEnd t → outer_parts n t ≡ []
none_outer zero t f end = refl
none_outer (suc n) _ (AReturn p) end =
    ap (λ (x : Term-F Term). outer_level x (outer_parts n)) (outs-Return p)
none_outer (suc n) _ (AFail c) end =
    ap (λ (x : Term-F Term). outer_level x (outer_parts n)) (outs-Fail c)
none_outer (suc n) _ (ACall f ps) end =
    ap (λ (x : Term-F Term). outer_level x (outer_parts n)) (outs-Call f ps)
none_outer (suc n) _ (AFrame f ps t) end = absurd (end f ps t refl)

-- what has no frame has no outer one
pub end_outer : (n : ℕ) (t : Term) → IsEnd t → outer_parts n t ≡ []
end_outer n t end = none_outer n t (form t) end

-- those so far, and then those that are left, are those of a whole
pub record Passing (done : List Application) (rest here count term : Term) : Type 0 where
  pub all : all_lent done ++ outer_parts (depth_of rest) here ≡ outer_parts (depth_of count) term

-- one more is passed
pub pass : (done : List Application) (rest here count term r h : Term) (f g : Sym)
    (ps qs : List Body) (inner further : Term) (a : Application)
    → here ≡ Frame f ps inner → rest ≡ Frame g qs further → h ≡ inner → r ≡ further → lent a ≡
    part f ps
    → Passing done rest here count term → Passing (done ++ a ∷ []) r h count term
pass done rest here count term r h f g ps qs inner further a is other at to what before =
    let first : outer_parts (depth_of rest) here ≡ part f ps ∷ outer_parts (depth_of r) h =
    ap (λ u. outer_parts (depth_of u) here) other
    ∙ ap (λ n. outer_parts n here) (depth-Frame g qs further ∙ one_more (depth_of further))
    ∙ ap (outer_parts (suc (depth_of further))) is
    ∙ outer-Frame (depth_of further) f ps inner
    ∙ ap (λ u. part f ps ∷ outer_parts (depth_of u) inner) (sym to)
    ∙ ap (λ u. part f ps ∷ outer_parts (depth_of r) u) (sym at) in
    record {
      all =
          ap (λ ps. ps ++ outer_parts (depth_of r) h) (map-append lent done (a ∷ []))
          ∙ append_assoc (all_lent done) (lent a ∷ []) (outer_parts (depth_of r) h)
          ∙ ap (λ p. all_lent done ++ p ∷ outer_parts (depth_of r) h) what
          ∙ ap (λ ps. all_lent done ++ ps) (sym first)
          ∙ before.all;
    }

-- none is left to pass
pub passed : (done : List Application) (rest here count term : Term) →
    Passing done rest here count term
    → outer_parts (depth_of rest) here ≡ [] → all_lent done ≡ outer_parts (depth_of count) term
passed done rest here count term before none =
    sym (append-nil (all_lent done)) ∙ ap (λ ps. all_lent done ++ ps) (sym none) ∙ before.all

-- ---- down to what is kept

module _ (left : Term) where
  -- no part of it that is deeper is under the left side
  abbrev Clear : Term → Term → Type 0
  Clear t s = (u : Term) → IsPart t u → depth_of s < depth_of u → IsUnder left u → ⊥

  abbrev Along : ℕ → Term → Type 0
  Along n t =
      (s : Term) (rest : List Part) → suffix_at n t ≡ Some s → Clear t s → AreParts left s rest →
      AreParts left t (outer_parts n t ++ rest)

  along_one : (n : ℕ) → ((u : Term) → Along n u) → (t : Term) → Form t → Along (suc n) t
  along_one n inner _ (AReturn p) s rest h clear are =
      absurd (none-some s (sym (ap (λ (x : Term-F Term). under_frame x (suffix_at n))
      (outs-Return p))
      ∙ h))
  along_one n inner _ (AFail c) s rest h clear are =
      absurd (none-some s (sym (ap (λ (x : Term-F Term). under_frame x (suffix_at n)) (outs-Fail c))
      ∙
      h))
  along_one n inner _ (ACall f ps) s rest h clear are =
      absurd (none-some s (sym (ap (λ (x : Term-F Term). under_frame x (suffix_at n))
      (outs-Call f ps))
      ∙ h))
  along_one n inner _ (AFrame f ps t) s rest h clear are =
      let there = sym (suffix_at-Frame n f ps t) ∙ h in
      let most = part_depth t s (n, there) in
      let deeper = depth-Frame f ps t in
      let under = inner t s rest there (λ u in_t.
      clear u (part_of_part (Frame f ps t) t u (inner_part f ps t) in_t)) are in
      subst (λ parts. AreParts left (Frame f ps t) (parts ++ rest)) (sym (outer-Frame n f ps t))
      (AtFrame f ps t (outer_parts n t ++ rest)
      (clear (Frame f ps t) (whole_part (Frame f ps t)) (omega (arith, most, deeper))) under)

  along : (n : ℕ) (t : Term) → Along n t
  along zero t = λ s rest h clear are. subst (λ u. AreParts left u rest) (sym (same_Some t s h)) are
  along (suc n) t = along_one n (λ u. along n u) t (form t)

  -- where a largest part is kept, the frames over it
  pub parts_over : (right kept count : Term) → IsLargestUnder left right kept → depth_of count ≡
      depth_of right - depth_of kept
      → AreParts left right (outer_parts (depth_of count) right)
  parts_over right kept count one deep =
      let (n, is) = one.part in
      let d = depth_after n right kept is in
      let places : n ≡ depth_of count = omega (arith, d, deep) in
      subst (AreParts left right) (append-nil (outer_parts (depth_of count) right))
      (along (depth_of count) right kept [] (ap (λ k. suffix_at k right) (sym places) ∙ is)
      (λ u in_right deeper under. let most = one.largest u under in_right in
      omega (arith, most, deeper))
      (Common kept one.under))

  -- the call that ends a stack, if there is one
  pub data IsEndPart : Term → List Part → Type 0 where
    EndCall : (f : Sym) (ps : List Body) → IsEndPart (Call f ps) (part f ps ∷ [])
    EndReturn : (p : Body) → IsEndPart (Return p) []
    EndFail : (c : ℕ) → IsEndPart (Fail c) []

  at_end : (t : Term) (rest : List Part) → (IsUnder left t → ⊥) → IsEndPart t rest →
      AreParts left t rest
  at_end _ _ clear (EndCall f ps) = AtCall f ps clear
  at_end _ _ clear (EndReturn p) = AtReturn p
  at_end _ _ clear (EndFail c) = AtFail c

  -- where none is kept, all frames and the call
  pub all_over : (right end : Term) (rest : List Part) →
      ((u : Term) → IsUnder left u → IsPart right u → ⊥)
      → IsPart right end → depth_of end ≡ 0 → IsEndPart end rest →
      AreParts left right (outer_parts (depth_of right) right ++ rest)
  all_over right end rest none (n, is) deep last =
      let d = depth_after n right end is in
      let places : n ≡ depth_of right = omega (arith, d, deep) in
      along (depth_of right) right end rest (ap (λ k. suffix_at k right) (sym places) ∙ is)
      (λ u in_right deeper under. none u under in_right)
      (at_end end rest (λ under. none end under (n, is)) last)

  -- a call that ends it
  pub all_called : (right end : Term) (f : Sym) (ps : List Body) (a : Application)
      (done : List Application) → IsKept left right None → IsPart right end
      → depth_of end ≡ 0 → end ≡ Call f ps → lent a ≡ part f ps → all_lent done ≡
      outer_parts (depth_of right) right
      → AreParts left right (all_lent (done ++ a ∷ []))
  all_called right end f ps a done none last deep is what before =
      let called : IsEndPart end (lent a ∷ []) =
      subst (λ t. IsEndPart t (lent a ∷ [])) (sym is)
      (subst (λ p. IsEndPart (Call f ps) (p ∷ [])) (sym what) (EndCall f ps)) in
      subst (AreParts left right) (ap (λ ps. ps ++ lent a ∷ []) (sym before) ∙
      sym (map-append lent done (a ∷ [])))
      (all_over right end (lent a ∷ []) none last deep called)

  result_end : (t : Term) → Form t → depth_of t ≡ 0 →
      ((f : Sym) (ps : List Body) → t ≡ Call f ps → ⊥) → IsEndPart t []
  result_end _ (AReturn p) deep no_call = EndReturn p
  result_end _ (AFail c) deep no_call = EndFail c
  result_end _ (ACall f ps) deep no_call = absurd (no_call f ps refl)
  result_end _ (AFrame f ps t) deep no_call =
      let d = depth-Frame f ps t in absurd (omega (arith, d, deep))

  -- or a result
  pub all_ended : (right end : Term) (done : List Application) → IsKept left right None →
      IsPart right end
      → depth_of end ≡ 0 → ((f : Sym) (ps : List Body) → end ≡ Call f ps → ⊥) → all_lent done ≡
      outer_parts (depth_of right) right
      → AreParts left right (all_lent done)
  all_ended right end done none last deep no_call before =
      subst (AreParts left right) (append-nil (outer_parts (depth_of right) right) ∙ sym before)
      (all_over right end [] none last deep (result_end end (form end) deep no_call))

-- ---- parts as the code borrows them

-- where none are borrowed there are none, and else there are some
pub no_lents : (made borrowed : List Application) → borrowed ≡ made → (length borrowed == 0) ≡ true →
    all_lent made ≡ []
no_lents made [] same e = ap all_lent (sym same)
no_lents made (a ∷ rest) same e =
    let no : length (a ∷ rest) ≡ 0 = eqb-true (length (a ∷ rest)) 0 e in
    absurd (omega (arith, no))

pub some_lents : (made borrowed : List Application) → borrowed ≡ made → (length borrowed == 0) ≡
    false → all_lent made ≡ [] → ⊥
some_lents [] borrowed same e none =
    false≢true (sym e ∙ ap (λ (bs : List Application). length bs == 0) same)
some_lents (a ∷ rest) borrowed same e none = cc
