-- The walk over the points, in lexicographic order.
use Rattle.std.specs.Prelude.{ℕ, if◌then◌else◌, Option, None, Some, option_map, unwrap_or, List, [], ◌∷◌, length, replicate}
use Rattle.std.specs.Prelude.{ℤ, pos, ◌+ℤ◌, neg_ℤ, int_lt}

-- the first point: each argument is the least
abbrev pub lowest : (side arity : ℕ) → List ℤ
lowest side arity = replicate arity (neg_ℤ (pos side))

-- the next integer, up to side
abbrev pub next_integer : ℕ → ℤ → Option ℤ
next_integer side x = if int_lt x (pos side) then Some (x +ℤ pos 1) else None

-- the next point from a first argument and the others, and the next point of these: where there is
-- none, they start again, after the first argument's next integer
abbrev pub next_with : ℕ → ℤ → List ℤ → Option (List ℤ) → Option (List ℤ)
next_with side x xs (Some ys) = Some (x ∷ ys)
next_with side x xs None = option_map (λ y. y ∷ lowest side (length xs)) (next_integer side x)

-- the next point, where there is one
abbrev pub next : ℕ → List ℤ → Option (List ℤ)
next side [] = None
next side (x ∷ xs) = next_with side x xs (next side xs)

-- the next point; after the last one the first again
abbrev pub stepped : ℕ → List ℤ → List ℤ
stepped side xs = unwrap_or (next side xs) (lowest side (length xs))
