-- What rules do at points: from a point, or from a frame over a result, one step leads to where the
-- action there leads.
use Rattle.std.specs.Prelude.{◌≡◌, ◌≢◌, ℕ, List, [], ◌∷◌, ◌++◌, Contains, length, map, take, ℤ, pos}
use Rattle.c_ast.specs.declared.integers.Integers.{Integers}
use Rattle.rx_poly.specs.Value.{value}
use Rattle.rx_row.specs.Holds.{RowHolds}
use Rattle.rx_row.specs.Negation.{negation}
use Rattle.rx_rewriting.specs.Terms as stack
use Rattle.rx_rewriting.specs.Terms.{Ground, Relation}
use Rattle.rx_rewriting.specs.Steps.{Step}
use Rattle.rx_term.specs.Assigned.{assigned}
use Rattle.rx_code.specs.Points.{division_result, with_element}
use Rattle.rx_code.specs.Rules.{failure_codes}
use Rattle.rx_code.specs.declared.action.Action.{Action}
use Rattle.rx_code.specs.declared.action.Action.TheVariants.{Go, Set, Test, Exclude, Divide, Call, Resume, Return}
use Rattle.rx_code.specs.declared.point.Point.{Point}

-- a point with these integers: a jump passes as many as the point has variables, from the first on
abbrev pub at_point : Point → List ℤ → Ground
at_point a xs = stack.Call a.symbol (take a.width xs)

-- `entry` has the symbol where the function at each place begins; `xs` are the integers of the
-- variables
module _ (integers : Integers) (R : Relation) (entry : ℕ → ℕ) where
  -- one step from the point
  abbrev pub StepsFrom : Point → List ℤ → Ground → Type 0
  StepsFrom a xs t = Step R (stack.Call a.symbol xs) t

  -- a step does what the action says, whatever the integers of the point's variables are
  abbrev pub Does : Point → Action → Type 0
  Does a (Go z) = (xs : List ℤ) → length xs ≡ a.width → StepsFrom a xs (at_point z xs)
  Does a (Set k p z) = (xs : List ℤ) → length xs ≡ a.width →
      StepsFrom a xs (at_point z (with_element k (value (assigned xs) p) xs))
  Does a (Test row y w) = (xs : List ℤ) → length xs ≡ a.width →
      (RowHolds (assigned xs) row → StepsFrom a xs (at_point y xs))
      × (RowHolds (assigned xs) (negation row) → StepsFrom a xs (at_point w xs))
  Does a (Exclude row z) = (xs : List ℤ) → length xs ≡ a.width →
      (RowHolds (assigned xs) row → StepsFrom a xs (stack.Fail 2))
      × (RowHolds (assigned xs) (negation row) → StepsFrom a xs (at_point z xs))
  Does a (Divide d p q z) = (xs : List ℤ) → length xs ≡ a.width →
      (value (assigned xs) q ≡ pos 0 → StepsFrom a xs (stack.Fail 1))
      × (value (assigned xs) q ≢ pos 0 →
      StepsFrom a xs (at_point z (xs ++ division_result d (value (assigned xs) p)
      (value (assigned xs) q) ∷ [])))
  Does a (Call f ps r) = (xs : List ℤ) → length xs ≡ a.width →
      StepsFrom a xs (stack.Frame r.symbol (take r.width xs)
      (stack.Call (entry f) (map (value (assigned xs)) ps)))
  -- a frame over a returned integer, and over each failure
  Does a (Resume z) = (xs : List ℤ) → length xs ≡ a.width →
      ((x : ℤ) → Step R (stack.Frame a.symbol xs (stack.Return x)) (at_point z (xs ++ x ∷ [])))
      × ((code : ℕ) → Contains (failure_codes integers) code →
      Step R (stack.Frame a.symbol xs (stack.Fail code)) (stack.Fail code))
  Does a (Return p) =
      (xs : List ℤ) → length xs ≡ a.width → StepsFrom a xs (stack.Return (value (assigned xs) p))

  -- the rules do what is done at points
  abbrev pub DoAll : (Point → Action → Type 0) → Type 0
  DoAll acts = (a : Point) (x : Action) → acts a x → Does a x
