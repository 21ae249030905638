-- What holds of all multipliers holds of those after the first.
use Rattle.std.proofs.Common.{◌≡◌, ◌∷◌, All, pos, ◌≤ℤ◌, ℤ, subst, rules}
use Rattle.std.proofs.lemmas.List.Elements.{All-tail}
use Rattle.rx_solve.proofs.sums.first_multiplier.Goals as goal

pub returns-clause-rest : goal.returns-clause-rest
returns-clause-rest c =
    let list : c.args.left.now ≡ c.in_ok-first.first.now ∷ c.in_ok-first.rest.now = search rules in
    All-tail (λ (m : ℤ). pos 0 ≤ℤ m) c.in_ok-first.first.now c.in_ok-first.rest.now
    (subst (λ ms. All (λ (m : ℤ). pos 0 ≤ℤ m) ms) list c.requires)
