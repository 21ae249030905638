-- Relations between places and products of two of them. The polynomial at place i of a goal is x_i
-- here.
use Rattle.std.specs.Prelude.{ℕ, Bool, true, false, not, ◌&&◌, ◌==◌, nat_lt, nat_le, Option, Some, None, List, [], ◌∷◌, ◌++◌, filter, length, map, ℤ, pos}
use Rattle.std.specs.List.{list_any, range_with_len}
use Rattle.rx_plain.specs.Formed.{Formed, pure, ◌>>=◌, ◌<$>◌, map_formed}
use Rattle.rx_poly.specs.Constants.{number, variable}
use Rattle.rx_poly.specs.Products.{product_formed}
use Rattle.rx_poly.specs.Variables.{is_one_of}
use Rattle.rx_poly.specs.declared.body.Atom.{Atom, Atom-F, out-Atom}
use Rattle.rx_poly.specs.declared.body.Body.{Body, out-Body}
use Rattle.rx_poly.specs.declared.body.Mono.{Mono, out-Mono}
use Rattle.rx_relations.specs.Common.{common}
use Rattle.rx_relations.specs.Linear.{place_of}
use Rattle.rx_relations.specs.declared.instance.Instance.{Instance}

-- with more places than these no product is formed
abbrev pub most_free : ℕ
most_free = 9

-- the places, of so many, that aren't given
abbrev pub free_places : ℕ → List ℕ → List ℕ
free_places count given = filter (λ i. not (is_one_of i given)) (range_with_len 0 count)

-- ---- the basis

-- x_i times each of these places
abbrev pub times_each : ℕ → List ℕ → Formed (List Body)
times_each i places = map_formed (λ j. product_formed (variable i) (variable j)) places

-- each place times itself and those after it
abbrev pub products_of : List ℕ → Formed (List Body)
products_of [] = pure []
products_of (i ∷ places) = do
  first ← times_each i (i ∷ places)
  (λ others. first ++ others) <$> products_of places

-- 1, the products, and then the places alone
abbrev pub product_basis : List ℕ → Formed (List Body)
product_basis places =
    (λ products. number (pos 1) ∷ (products ++ map variable places)) <$> products_of places

-- ---- which relations stay

-- the atom is the place
abbrev pub is_place : ℕ → Atom-F Atom Body Mono → Bool
is_place x (Atom-F.Var n) = n == x
is_place x (Atom-F.Div p q) = false
is_place x (Atom-F.Mod p q) = false

-- the atoms are two or more, and one of them is the place
abbrev pub is_product_of : ℕ → List Atom → Bool
is_product_of x atoms = nat_lt 1 (length atoms) && list_any (λ a. is_place x (out-Atom a)) atoms

-- one of these terms is a product that has the place
abbrev pub is_multiplied : List (Mono × ℤ) → ℕ → Bool
is_multiplied ts x = list_any (λ (t : Mono × ℤ). is_product_of x (out-Mono t.0).atoms) ts

-- there is such a place, and none of the terms multiplies it
abbrev pub is_alone : List (Mono × ℤ) → Option ℕ → Bool
is_alone ts None = false
is_alone ts (Some x) = not (is_multiplied ts x)

-- some place stands alone in the relation, and in no product
abbrev pub gives_a_place : Body → Bool
gives_a_place p =
    let ts = (out-Body p).terms in
    list_any (λ (t : Mono × ℤ). is_alone ts (place_of t)) ts

-- ---- the relations

-- the relations between these places and their products that hold at all the goals, and stay
abbrev pub product_relations : List ℕ → List Instance → Formed (List Body)
product_relations places goals = do
  basis ← product_basis places
  (λ ps. filter gives_a_place ps) <$> common basis goals

-- none where there are too many places
abbrev pub products_where : Bool → List ℕ → List Instance → Formed (List Body)
products_where true places goals = product_relations places goals
products_where false places goals = pure []

abbrev pub products : List ℕ → List Instance → Formed (List Body)
products places goals = products_where (nat_le (length places) most_free) places goals
