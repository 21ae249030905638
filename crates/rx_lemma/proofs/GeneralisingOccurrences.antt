-- The polynomials that occur repeatedly are polynomials of the sides.
use Rattle.std.proofs.Common.{◌≡◌, ◌∙◌, ap, sym, cond, refl, ℕ, ◌+◌, Bool, true, false, ◌&&◌, not, List, [], ◌∷◌, ◌++◌}
use Rattle.std.specs.List.{fold, list_all, list_any}
use Rattle.std.proofs.lemmas.Bool.{and_from, and_parts}
use Rattle.std.proofs.lemmas.List.Folds.{list_all-append}
use Rattle.rx_poly.specs.declared.body.Body.{Body}
use Rattle.rx_term.proofs.Equations.{arguments-Call, induct}
use Rattle.rx_term.specs.Variables.{arguments_of}
use Rattle.rx_term.specs.declared.rule.Equation.{Equation}
use Rattle.rx_term.specs.declared.term.Sym.{Sym}
use Rattle.rx_term.specs.declared.term.Term.{Term}
use Rattle.rx_term.specs.declared.term.Term.TheFolds.{fold_out-Term}
use Rattle.rx_term.specs.declared.term.Term.TheVariants.{Return, Fail, Call, Frame, outs-Return, outs-Fail, outs-Call, outs-Frame}
use Rattle.rx_lemma.specs.Repeated.{is_same_poly, is_taken, occurrences, occurrences_from, occurrences_in, occurrences_level, repeated, with_taken}
use Rattle.rx_lemma.proofs.GeneralisingTerms.{two_pieces}

-- ---- any list

-- all elements pass the test
abbrev all_of : {X : Type 0} → List X → (X → Bool) → Bool
all_of xs passes = list_all passes xs

append_all : {X : Type 0} (xs ys : List X) (passes : X → Bool) → all_of (xs ++ ys) passes ≡
    (all_of xs passes && all_of ys passes)
append_all xs ys passes = list_all-append passes xs ys

same_all : {X : Type 0} {xs ys : List X} → xs ≡ ys → (passes : X → Bool) → all_of xs passes ≡
    all_of ys passes
same_all e passes = ap (list_all passes) e

module _ (test : Body → Bool) where
  -- a list that is made step by step of elements
  made_of : {X : Type 0} (step : List Body → X → List Body) (passes : X → Bool) →
      ((done : List Body) (x : X) → list_all test done ≡ true → passes x ≡ true →
      list_all test (step done x) ≡ true) → (xs : List X) (done : List Body) →
      list_all test done ≡ true → all_of xs passes ≡ true →
      list_all test (fold step done xs) ≡ true
  made_of step passes each [] done h k = h
  made_of step passes each (x ∷ xs) done h k =
      let both = and_parts (passes x) (all_of xs passes) k in
      made_of step passes each xs (step done x) (each done x h both.0) both.1

  one_more : (done : List Body) (p : Body) (b : Bool) → list_all test done ≡ true →
      test p ≡ true → list_all test (cond b (done ++ p ∷ []) done) ≡ true
  one_more done p true h k =
      list_all-append test done (p ∷ []) ∙ and_from (list_all test done) (test p && true) h
      (and_from (test p) true k refl)
  one_more done p false h k = h

  -- ---- occurrences

  from_place : (f place : ℕ) (ps : List Body) → list_all test ps ≡ true →
      all_of (occurrences_from f place ps) (λ s. test s.poly) ≡ true
  from_place f place [] h = refl
  from_place f place (p ∷ ps) h =
      let both = and_parts (test p) (list_all test ps) h in
      and_from (test p) (all_of (occurrences_from f (place + 1) ps) (λ s. test s.poly)) both.0
      (from_place f (place + 1) ps both.1)

  abbrev passed : Term → Bool
  passed t = all_of (occurrences_in t) (λ s. test s.poly)

  abbrev Occur : Term → Type 0
  Occur t = list_all test (arguments_of t) ≡ true → passed t ≡ true

  occurrences-Return : (p : Body) → occurrences_in (Return p) ≡ []
  occurrences-Return p =
      fold_out-Term _ occurrences_level (Return p) ∙ rw (outs-Return p) refl

  occurrences-Fail : (c : ℕ) → occurrences_in (Fail c) ≡ []
  occurrences-Fail c = fold_out-Term _ occurrences_level (Fail c) ∙ rw (outs-Fail c) refl

  occurrences-Call : (f : Sym) (ps : List Body) → occurrences_in (Call f ps) ≡
      occurrences_from f.0 0 ps
  occurrences-Call f ps = fold_out-Term _ occurrences_level (Call f ps) ∙ rw (outs-Call f ps) refl

  occurrences-Frame : (f : Sym) (ps : List Body) (t : Term) → occurrences_in (Frame f ps t) ≡
      occurrences_from f.0 0 ps ++ occurrences_in t
  occurrences-Frame f ps t =
      fold_out-Term _ occurrences_level (Frame f ps t) ∙ rw (outs-Frame f ps t) refl

  in_call : (f : Sym) (ps : List Body) → Occur (Call f ps)
  in_call f ps h =
      same_all (occurrences-Call f ps) (λ s. test s.poly) ∙
      from_place f.0 0 ps (sym (ap (list_all test) (arguments-Call f ps)) ∙ h)

  in_frame : (f : Sym) (ps : List Body) (t : Term) → Occur t → Occur (Frame f ps t)
  in_frame f ps t inner h =
      let both = two_pieces test f ps t h in
      same_all (occurrences-Frame f ps t) (λ s. test s.poly)
      ∙ append_all (occurrences_from f.0 0 ps) (occurrences_in t) (λ s. test s.poly)
      ∙ and_from (all_of (occurrences_from f.0 0 ps) (λ s. test s.poly)) (passed t)
      (from_place f.0 0 ps both.0) (inner both.1)

  in_term : (t : Term) → Occur t
  in_term = induct Occur (λ p h. same_all (occurrences-Return p) (λ s. test s.poly))
      (λ c h. same_all (occurrences-Fail c) (λ s. test s.poly)) in_call in_frame

  in_both : (goal : Equation) → list_all test (arguments_of goal.left) ≡ true →
      list_all test (arguments_of goal.right) ≡ true →
      all_of (occurrences goal) (λ s. test s.poly) ≡ true
  in_both goal h k =
      append_all (occurrences_in goal.left) (occurrences_in goal.right) (λ s. test s.poly)
      ∙ and_from (passed goal.left) (passed goal.right) (in_term goal.left h)
      (in_term goal.right k)

  -- a test that the polynomials of both sides pass is passed by those that occur repeatedly
  pub repeated_pass : (goal : Equation) → list_all test (arguments_of goal.left) ≡ true →
      list_all test (arguments_of goal.right) ≡ true → list_all test (repeated goal) ≡ true
  unfolding with_taken
  repeated_pass goal left right =
      made_of (with_taken (occurrences goal)) (λ s. test s.poly)
      (λ done s h k. one_more done s.poly
      (not (list_any (λ p. is_same_poly p s.poly) done) && is_taken (occurrences goal) s.poly) h k)
      (occurrences goal) [] refl (in_both goal left right)
