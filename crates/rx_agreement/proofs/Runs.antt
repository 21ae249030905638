-- Runs of the rules, and where they lead for each outcome.
use Rattle.std.specs.Prelude.{◌≡◌, ℕ, suc, ◌≤◌, ◌<◌, ◌+◌, ◌*◌, ◌++◌, Bool, true, false, List, length, map, ℤ}
use Rattle.rx_poly.specs.Value.{value}
use Rattle.rx_poly.specs.declared.body.Body.{Body}
use Rattle.rx_rewriting.specs.Terms as stack
use Rattle.rx_rewriting.specs.Terms.{Ground, Relation}
use Rattle.rx_rewriting.specs.Steps.{ReachesIn}
use Rattle.c_meaning.specs.Expressions.{is_zero, slot}
use Rattle.rx_term.specs.Assigned.{assigned}
use Rattle.rx_code.specs.Doing.{at_point}
use Rattle.rx_code.specs.declared.point.Point.{Point}

-- the first or the second, by a test
abbrev pub Branch : Bool → Type 0 → Type 0 → Type 0
Branch true A B = A
Branch false A B = B

-- the variables of a point have the state's values in the slots in scope
pub record Over (n : ℕ) (s xs : List ℤ) : Type 0 where
  pub agree : (v : ℕ) → v < n → slot s v ≡ assigned xs v
  pub enough : n ≤ length xs

module _ (R : Relation) (w : ℕ) where
  -- some steps lead there
  abbrev pub Runs : Ground → Ground → Type 0
  Runs s t = (j : ℕ) × ReachesIn R j s t

  -- at least one step does
  abbrev pub RunsOn : Ground → Ground → Type 0
  RunsOn s t = (j : ℕ) × ReachesIn R (suc j) s t

  -- as the rounds are used up, steps are made: m rounds and not done means many steps
  pub record Long (m h : ℕ) (s : Ground) : Type 0 where
    pub steps : ℕ
    pub end : Ground
    pub run : ReachesIn R steps s end
    pub enough : m ≤ steps * w + h

  -- a polynomial has the value at these integers, and at all longer lists that begin with them
  abbrev pub Stands : Body → List ℤ → ℤ → Type 0
  Stands p ys x = (zs : List ℤ) → value (assigned (ys ++ zs)) p ≡ x

  -- the run comes from a to the point b, whose integers begin with xs and may be more, and the
  -- polynomial has the value there
  pub record Comes (a b : Point) (xs : List ℤ) (p : Body) (x : ℤ) : Type 0 where
    pub more : List ℤ
    pub run : Runs (stack.Call a.symbol xs) (stack.Call b.symbol (xs ++ more))
    pub long : length (xs ++ more) ≡ b.width
    pub stands : Stands p (xs ++ more) x

  -- the same of several polynomials
  pub record AllCome (a b : Point) (xs : List ℤ) (ps : List Body) (vs : List ℤ) : Type 0 where
    pub more : List ℤ
    pub run : Runs (stack.Call a.symbol xs) (stack.Call b.symbol (xs ++ more))
    pub long : length (xs ++ more) ≡ b.width
    pub stand : (zs : List ℤ) → map (value (assigned ((xs ++ more) ++ zs))) ps ≡ vs

  -- the run is at y, or at z where the integer is 0
  abbrev pub Forked : Ground → Point → Point → List ℤ → ℤ → Type 0
  Forked start y z xs x =
      Branch (is_zero x) (RunsOn start (at_point z xs)) (RunsOn start (at_point y xs))
