-- Whether two stacks are one can be decided, and so whether one is under another.
use Rattle.std.proofs.Common.{◌≡◌, ap, refl, arith, ◌⊎◌, inl, inr}
use Rattle.std.proofs.lemmas.Bool.{cases_order}
use base.Stored.{Coded, Gv, gnil, gnum, gcons}
use Rattle.rx_term.specs.contracts.term.Term as row
use Rattle.rx_term.specs.declared.term.Term.{Term}

-- the statement holds or doesn't
abbrev pub Either : Type 0 → Type 0
Either A = A ⊎ (A → ⊥)

same_code : (x y : Gv) → Either (x ≡ y)
same_code gnil gnil = inl refl
same_code gnil (gnum n) = inr (λ e. cc)
same_code gnil (gcons a b) = inr (λ e. cc)
same_code (gnum m) gnil = inr (λ e. cc)
same_code (gnum m) (gcons a b) = inr (λ e. cc)
same_code (gnum m) (gnum n) = elim (cases_order m n) [
  | inl same ↦ inl (ap gnum same)
  | inr apart ↦ inr (λ e. let same : m ≡ n = cc in
      elim apart [ inl less ↦ omega (arith, less, same) | inr more ↦ omega (arith, more, same) ])
]
same_code (gcons a b) gnil = inr (λ e. cc)
same_code (gcons a b) (gnum n) = inr (λ e. cc)
same_code (gcons a b) (gcons c d) = elim (same_code a c) [
  | inl first ↦ elim (same_code b d) [
    | inl second ↦ inl (λ i. gcons (first i) (second i))
    | inr apart ↦ inr (λ e. apart cc)
  ]
  | inr apart ↦ inr (λ e. apart cc)
]

coded_term : Coded Term
coded_term = row.the_row.coded

pub same_term : (t u : Term) → Either (t ≡ u)
same_term t u = elim (same_code (coded_term.code t) (coded_term.code u)) [
  | inl same ↦ inl (coded_term.inj t u same)
  | inr apart ↦ inr (λ e. apart (ap coded_term.code e))
]
