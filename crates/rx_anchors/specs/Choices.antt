-- All choices of one of several for each.
use Rattle.std.specs.Prelude.{List, [], ◌∷◌, Vec, map}
use Rattle.std.specs.List.{flat_map}
use Rattle.std.specs.declared.alloc.Global.{Global}
use Rattle.rx_poly.specs.declared.body.Body.{Body}

-- all lists with one of each, in lexicographic order
abbrev pub products : {A : Type 0} → List (List A) → List (List A)
products [] = [] ∷ []
products (xs ∷ lists) = flat_map (λ x. map (λ ys. x ∷ ys) (products lists)) xs

-- the lists of polynomials in memory
abbrev pub lists_in : List (Vec Body Global) → List (List Body)
lists_in lists = map (λ v. v.items) lists
