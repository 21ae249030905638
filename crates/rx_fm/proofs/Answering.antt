-- What the answer of an elimination says of multipliers.
use Rattle.std.proofs.Common.{◌≡◌, ◌∙◌, ap, sym, true, cond, List, length, ℤ, ℕ, ◌≤◌, nat_le, arith, Option, Some, None, IfSome, IsNone, MatchOption}
use Rattle.std.specs.List.{list_all}
use Rattle.rx_poly.specs.Normal.{is_poly}
use Rattle.rx_poly.specs.declared.body.Body.{Body}
use Rattle.rx_poly.specs.declared.body.Mono.{Mono}
use Rattle.rx_fm.specs.Elimination.{EliminationEnd, Large, eliminate, elimination, found, given, monomials, nothing}
use Rattle.rx_fm.specs.Witness.{IsWitness}
use Rattle.rx_fm.specs.declared.combination.Combination.{Combination}
use Rattle.rx_fm.proofs.Exactness.{none}
use Rattle.rx_fm.proofs.Tracking.{witness}

-- where there are not too many at the beginning, all monomials are eliminated
pub whole : (limit : ℕ) (ps : List Body) {ms : List Mono} {cs : List Combination} → length ps ≤
    limit → ms ≡ monomials ps → cs ≡ given ps → eliminate limit ms cs ≡ elimination limit ps
whole limit ps h e f =
    let few : nat_le (length ps) limit ≡ true = grind arith in
    (λ i. eliminate limit (e i) (f i)) ∙ ap (λ b.
    cond b (eliminate limit (monomials ps) (given ps)) Large) (sym few)

module _ {V : Type 0} (items : V → List ℤ) (limit : ℕ) (ps : List Body)
    (normal : list_all is_poly ps ≡ true) {o : EliminationEnd} (is : o ≡ elimination limit ps) where
  pub answered_witness : (a : Option V) → MatchOption a (o ≡ nothing) (λ v. o ≡ found (items v)) →
      IfSome a (λ v. IsWitness ps (items v))
  answered_witness None h = tt
  answered_witness (Some v) h = witness limit ps (items v) normal (sym is ∙ h)

  pub answered_none : (a : Option V) → MatchOption a (o ≡ nothing) (λ v. o ≡ found (items v)) →
      IsNone a → (ms : List ℤ) → IsWitness ps ms → ⊥
  answered_none None h n ms w = none limit ps normal (sym is ∙ h) ms w
  answered_none (Some v) h n ms w = cc
