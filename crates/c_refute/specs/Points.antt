-- How two functions of a program compare on all small arguments.
use Rattle.std.specs.Prelude.{◌≡◌, ℕ, zero, suc, ◌+◌, ◌*◌, Bool, true, false, ◌&&◌, if◌then◌else◌, Option, None, Some}
use Rattle.std.specs.Prelude.{List, [], ◌∷◌, ◌++◌, length, map, slice_get, count_by, All, ℤ, pos, ◌+ℤ◌, neg_ℤ}
use Rattle.std.specs.List.{flat_map}
use Rattle.std.specs.Ordering.{int_eq}
use Rattle.c_ast.specs.declared.expr.Expr.{Expr}
use Rattle.c_ast.specs.declared.program.Function.{Function}
use Rattle.c_ast.specs.declared.program.Resolved.{Resolved}
use Rattle.c_meaning.specs.Expressions.{is_zero}
use Rattle.c_meaning.specs.declared.outcomes.Outcome.{Outcome}
use Rattle.c_meaning.specs.declared.outcomes.Outcome.TheVariants.{Value, DivError, More, Over}
use Rattle.c_refute.specs.declared.findings.Finding.{Finding}
use Rattle.c_refute.specs.declared.findings.Finding.TheVariants as finding
use Rattle.c_refute.specs.declared.findings.Compared.{Compared}
use Rattle.c_refute.specs.declared.findings.Compared.TheVariants as compared
use Rattle.c_meaning.specs.Counted.{counted, outcome_of}
use Rattle.c_machine.specs.Preconditions.{precondition_at}

-- `count` integers, from the first on
abbrev pub integers_from : ℤ → ℕ → List ℤ
integers_from first zero = []
integers_from first (suc count) = first ∷ integers_from (first +ℤ pos 1) count

-- the points: the lists of `arity` arguments from -side to side, in lexicographic order
abbrev pub points : (side arity : ℕ) → List (List ℤ)
points side zero = [] ∷ []
points side (suc arity) =
    flat_map (λ x. map (λ xs. x ∷ xs) (points side arity))
    (integers_from (neg_ℤ (pos side)) (2 * side + 1))

-- how many parameters the function at a place has, 0 where there is none
abbrev pub arity_at : Option Function → ℕ
arity_at None = 0
arity_at (Some function) = length function.params

abbrev pub arity : Resolved → ℕ → ℕ
arity program f = arity_at (slice_get program.functions f)

-- an integer or the division error, which more rounds don't change
abbrev pub is_decided : Outcome → Bool
is_decided (Value x) = true
is_decided DivError = true
is_decided More = false
is_decided Over = false

-- whether two outcomes are one
abbrev pub is_same : Outcome → Outcome → Bool
is_same (Value x) (Value y) = int_eq x y
is_same DivError DivError = true
is_same More More = true
is_same Over Over = true
is_same _ _ = false

-- two outcomes at a point that counts: undecided where one is 'more' or 'over'
abbrev pub finding_of : Outcome → Outcome → Finding
finding_of first second =
    if is_decided first && is_decided second
    then (if is_same first second then finding.Alike else finding.Different first second)
    else finding.Undecided

-- a point counts where the precondition has a value other than 0; it is undecided where the
-- precondition is 'more' or 'over', and excluded where the value is 0 or there is none
abbrev pub finding_under : Outcome → Finding → Finding
finding_under (Value x) counts = if is_zero x then finding.Excluded else counts
finding_under DivError counts = finding.Excluded
finding_under More counts = finding.Undecided
finding_under Over counts = finding.Undecided

-- what is found at a point, where the precondition and both calls have this number of rounds each
abbrev pub finding_at : Resolved → (f g : ℕ) → Option Expr → (rounds : ℕ) → List ℤ → Finding
finding_at program f g precondition rounds point =
    finding_under (precondition_at program precondition rounds point)
    (finding_of (outcome_of (counted program rounds f point))
    (outcome_of (counted program rounds g point)))

abbrev pub is_alike : Finding → Bool
is_alike finding.Alike = true
is_alike _ = false

abbrev pub is_undecided : Finding → Bool
is_undecided finding.Undecided = true
is_undecided _ = false

abbrev pub is_different : Finding → Bool
is_different (finding.Different first second) = true
is_different _ = false

-- the first point at which something different is found, and what: these two outcomes
pub record IsFirstDifference (found : List ℤ → Finding) (all : List (List ℤ)) (point : List ℤ)
    (first second : Outcome) : Type 0 where
  pub before : List (List ℤ)
  pub after : List (List ℤ)
  pub is_point : all ≡ before ++ point ∷ after
  pub different : found point ≡ finding.Different first second
  pub none_before : All (λ p. is_different (found p) ≡ false) before

-- nothing different is found, and these are the numbers of points found alike and undecided
pub record IsAlike (found : List ℤ → Finding) (all : List (List ℤ)) (alike undecided : ℕ) : Type 0
  where
    pub none : All (λ p. is_different (found p) ≡ false) all
    pub alike_are : alike ≡ count_by (λ p. is_alike (found p)) all
    pub undecided_are : undecided ≡ count_by (λ p. is_undecided (found p)) all

-- the answer of a comparison over these points
abbrev pub IsComparison : (List ℤ → Finding) → List (List ℤ) → Compared → Type 0
IsComparison found all (compared.Different arguments first second) =
    IsFirstDifference found all arguments first second
IsComparison found all (compared.Alike alike undecided) = IsAlike found all alike undecided
