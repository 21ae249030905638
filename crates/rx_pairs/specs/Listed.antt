-- The pairs of rules as functions: what the relations of Pairs determine, computed.
use Rattle.std.specs.Prelude.{Bool, false, ◌&&◌, ◌||◌, if◌then◌else◌, ℕ, zero, suc, ◌==◌, Option, Some, None, List, [], ◌∷◌, ◌++◌, map}
use Rattle.std.specs.Cmp.Lexicographic.{pointwise}
use Rattle.std.specs.Option.{option_map_or}
use Rattle.rx_poly.specs.contracts.body.BodyPartialEq.TheImpl as body_equal
use Rattle.rx_poly.specs.declared.body.Body.{Body}
use Rattle.rx_term.specs.Stacks.{suffix_at, depth_of}
use Rattle.rx_term.specs.declared.rule.Rule.{Rule}
use Rattle.rx_term.specs.declared.term.Term.{Term, Term-F, fold-Term, out-Term}
use Rattle.rx_pairs.specs.Pairs.{Part, pair_of, part}
use Rattle.rx_pairs.specs.declared.pair.Pair.{Pair}

-- two lists have the same polynomials
abbrev pub same_arguments : List Body → List Body → Bool
same_arguments ps qs = pointwise (body_equal.ghosts).eq ps qs

-- two terms are the same
abbrev pub same_level : Term-F (Term → Bool) → Term-F Term → Bool
same_level (Term-F.Return p) (Term-F.Return q) = (body_equal.ghosts).eq p q
same_level (Term-F.Fail c) (Term-F.Fail d) = c == d
same_level (Term-F.Call f ps) (Term-F.Call g qs) = f.0 == g.0 && same_arguments ps qs
same_level (Term-F.Frame f ps same) (Term-F.Frame g qs other) =
    (f.0 == g.0 && same_arguments ps qs) && same other
same_level _ _ = false

abbrev pub is_same_term : Term → Term → Bool
is_same_term = fold-Term (Term → Bool) (λ level other. same_level level (out-Term other))

-- the term is what is under at most n frames of the left side, and under one at least
abbrev pub is_under_most : ℕ → Term → Term → Bool
is_under_most zero left t = false
is_under_most (suc n) left t =
    option_map_or (λ under. is_same_term under t) (suffix_at (suc n) left) false ||
    is_under_most n left t

-- it is a proper part of the left side
abbrev pub is_under : Term → Term → Bool
is_under left t = is_under_most (depth_of left) left t

-- the outermost frame or the call; a result has none
abbrev pub root_part_level : Term-F Term → Option Part
root_part_level (Term-F.Return p) = None
root_part_level (Term-F.Fail c) = None
root_part_level (Term-F.Call f ps) = Some (part f ps)
root_part_level (Term-F.Frame f ps inner) = Some (part f ps)

abbrev pub root_part_of : Term → Option Part
root_part_of t = root_part_level (out-Term t)

-- the frames and the call, from outer to inner, down to the first part that is also under the left
-- side; n at most
abbrev pub parts_level : Term-F Term → (Term → List Part) → List Part
parts_level (Term-F.Return p) inner_parts = []
parts_level (Term-F.Fail c) inner_parts = []
parts_level (Term-F.Call f ps) inner_parts = part f ps ∷ []
parts_level (Term-F.Frame f ps inner) inner_parts = part f ps ∷ inner_parts inner

abbrev pub parts_by : ℕ → Term → Term → List Part
parts_by zero left right = []
parts_by (suc n) left right =
    if is_under left right then [] else parts_level (out-Term right) (parts_by n left)

-- the pairs of a rule: a right side has one part more than it has frames, at most
abbrev pub pairs_by : Rule → List Pair
pairs_by rule =
    option_map_or (λ root. map (pair_of rule root)
    (parts_by (suc (depth_of rule.right)) rule.left rule.right)) (root_part_of rule.left) []

-- the pairs of a list of rules, those of the first rule first
abbrev pub pairs_by_all : List Rule → List Pair
pairs_by_all [] = []
pairs_by_all (rule ∷ rules) = pairs_by rule ++ pairs_by_all rules
