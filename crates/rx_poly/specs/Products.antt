-- The product of two polynomials, and which of the sums and products on the way to it must keep the
-- limits.
use Rattle.std.specs.Prelude.{Bool, true, ◌&&◌, if◌then◌else◌, List, [], ◌∷◌, map, ℤ, ◌*ℤ◌}
use Rattle.std.specs.Ordering.{is_gt}
use Rattle.std.specs.declared.cmp.Ordering.{Ordering}
use Rattle.rx_plain.specs.Formed.{Formed}
use Rattle.rx_poly.specs.Limits.{of_terms, of_atoms, is_within}
use Rattle.rx_poly.specs.Order.{atom_cmp, mono_cmp}
use Rattle.rx_poly.specs.Terms.{add_terms}
use Rattle.rx_poly.specs.declared.body.Mono.{Mono, out-Mono}
use Rattle.rx_poly.specs.declared.body.Body.{Body, out-Body}

-- an element inserted into a sorted list, in front of those that do not come before it
abbrev pub insert_sorted : {A : Type 0} → (A → A → Ordering) → A → List A → List A
insert_sorted R x [] = x ∷ []
insert_sorted R x (y ∷ ys) = if is_gt (R x y) then y ∷ insert_sorted R x ys else x ∷ (y ∷ ys)

-- the elements of two sorted lists, sorted
abbrev pub join_sorted : {A : Type 0} → (A → A → Ordering) → List A → List A → List A
join_sorted R [] ys = ys
join_sorted R (x ∷ xs) ys = insert_sorted R x (join_sorted R xs ys)

-- the product of two monomials has the atoms of both
abbrev pub mono_times : Mono → Mono → Mono
mono_times m n = of_atoms (join_sorted atom_cmp (out-Mono m).atoms (out-Mono n).atoms)

-- one term times each of the others; different monomials times one monomial stay different, so
-- nothing is summed
abbrev pub term_product : Mono × ℤ → List (Mono × ℤ) → List (Mono × ℤ)
term_product t us = map (λ u. (mono_times t.0 u.0, t.1 *ℤ u.1)) us

-- a sum to which each term of a factor adds its product with the other factor
abbrev pub sum_of_products : List (Mono × ℤ) → List (Mono × ℤ) → List (Mono × ℤ) → List (Mono × ℤ)
sum_of_products sum [] us = sum
sum_of_products sum (t ∷ ts) us = sum_of_products (add_terms mono_cmp sum (term_product t us)) ts us

-- whether each of those products, and the sum after each, keeps the limits
abbrev pub sum_of_products_within : List (Mono × ℤ) → List (Mono × ℤ) → List (Mono × ℤ) → Bool
sum_of_products_within sum [] us = true
sum_of_products_within sum (t ∷ ts) us =
    let next = add_terms mono_cmp sum (term_product t us) in
    is_within (of_terms (term_product t us)) &&
    (is_within (of_terms next) && sum_of_products_within next ts us)

-- the product of two polynomials: the terms of the first in order, each times the whole second
abbrev pub body_product : Body → Body → Body
body_product p q = of_terms (sum_of_products [] (out-Body p).terms (out-Body q).terms)

-- whether all that is formed on the way to it keeps the limits
abbrev pub mul_within : Body → Body → Bool
mul_within p q = sum_of_products_within [] (out-Body p).terms (out-Body q).terms

-- both at once
abbrev pub product_formed : Body → Body → Formed Body
product_formed p q = record { form = body_product p q; within = mul_within p q }
