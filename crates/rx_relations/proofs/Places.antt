-- A relation that says the value of a place is added to those that are solved.
use Rattle.std.proofs.Common.{◌≡◌, ◌∙◌, ap, sym, true, false, Option, Some, List, [], ◌∷◌, ◌++◌, ℕ}
use Rattle.rx_plain.specs.Formed.{Formed, map_formed}
use Rattle.rx_poly.specs.declared.body.Body.{Body}
use Rattle.rx_relations.specs.Linear.{replaced_in, solved_with}
use Rattle.rx_relations.specs.declared.linear.Solved.{Solved}

-- the relations with the value in place of the place
abbrev pub others_of : List Body → ℕ → Body → Formed (List Body)
others_of ps x e = map_formed (λ q. replaced_in q (x, e)) ps

-- where one of the others passes the limits
pub others_beyond : (done : Solved) (p : Body) (x : ℕ) (o : Option Body) (e : Body)
    (ps : List Body) → o ≡ Some e → ps ≡ done.relations → (others_of ps x e).within ≡ false →
    (solved_with done p x o).within ≡ false
others_beyond done p x o e ps is same h =
    ap (λ v. (solved_with done p x v).within) is ∙
    ap (λ qs. (others_of qs x e).within) (sym same) ∙ h

-- where none does
pub others_within : (done new : Solved) (p : Body) (x : ℕ) (o : Option Body) (e : Body)
    (ps others : List Body) → o ≡ Some e → ps ≡ done.relations → others ≡ (others_of ps x e).form →
    (others_of ps x e).within ≡ true → new ≡ record {
      relations = others ++ p ∷ [];
      given = done.given ++ x ∷ [];
      values = done.values ++ (x, e) ∷ [];
    } → (new ≡ (solved_with done p x o).form) × ((solved_with done p x o).within ≡ true)
others_within done new p x o e ps others is same made fits n = (
  n ∙ (λ i. record {
    relations = (made ∙ ap (λ qs. (others_of qs x e).form) same) i ++ p ∷ [];
    given = done.given ++ x ∷ [];
    values = done.values ++ (x, e) ∷ [];
  }) ∙ sym (ap (λ v. (solved_with done p x v).form) is),
  ap (λ v. (solved_with done p x v).within) is ∙
      ap (λ qs. (others_of qs x e).within) (sym same) ∙ fits,
)
