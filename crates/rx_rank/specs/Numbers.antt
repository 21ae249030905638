-- Polynomials by number: what is kept of the pairs of a component by the numbers of polynomials, and
-- what is known of a choice by that.
use Rattle.std.specs.Prelude.{◌≡◌, ◌<◌, All, Bool, IfSome, List, Option, Some, None, ℕ, length, map, option_and_then, slice_get}
use Rattle.rx_poly.specs.declared.body.Body.{Body}
use Rattle.rx_cert.specs.Findings.{Said, No}
use Rattle.rx_pairs.specs.declared.pair.Pair.{Pair}
use Rattle.rx_solve.specs.Attempts.{Tried, fails}
use Rattle.rx_rank.specs.Answers.{found}
use Rattle.rx_rank.specs.Choices.{instance_on, raised_by, tested}
use Rattle.rx_rank.specs.PairTests.{holds}
use Rattle.rx_rank.specs.Tries.{and_then}
use Rattle.rx_rank.specs.declared.attempt.Attempt.{Attempt}
use Rattle.rx_rank.specs.declared.numbered.NumberedTaking.{NumberedTaking}
use Rattle.rx_rank.specs.declared.numbered.NumberedTest.{NumberedTest}

-- the pairs of a component, and polynomials by number
pub record Numbered : Type 0 where
  pub pairs : List Pair
  pub polys : List Body

-- the polynomial with that number
abbrev pub by_number : List Body → Option ℕ → Option Body
by_number polys number = option_and_then (slice_get polys) number

abbrev pub by_numbers : List Body → List (Option ℕ) → List (Option Body)
by_numbers polys numbers = map (by_number polys) numbers

-- a number that was made has its polynomial
abbrev pub HasPoly : List Body → Option ℕ → Type 0
HasPoly polys number = IfSome number (λ k. k < length polys)

-- an attempt that makes the number of a polynomial, as an attempt that makes it
abbrev pub tried_number : List Body → Attempt ℕ → Tried Body
tried_number polys t = record { made = by_number polys t.made; noted = t.noted }

-- whether a column holds at the pair, where there is one
abbrev pub holds_at : Option Pair → Option Body → Option Body → Said
holds_at None left right = No
holds_at (Some pair) left right = tested (holds pair) left right

-- what the left symbol of the pair takes from that polynomial
abbrev pub taken_at : Option Pair → Bool → Option Body → Tried Body
taken_at None raised right = fails
taken_at (Some pair) raised right = and_then (instance_on pair right) (raised_by raised)

-- what is kept is right
abbrev pub IsRightTest : Numbered → NumberedTest → Type 0
IsRightTest n one = found one.finding ≡
    holds_at (slice_get n.pairs one.pair) (slice_get n.polys one.left) (slice_get n.polys one.right)

pub record IsRightTaking (n : Numbered) (one : NumberedTaking) : Type 0 where
  pub right_in : one.right < length n.polys
  pub made_in : HasPoly n.polys one.made
  pub is : taken_at (slice_get n.pairs one.pair) one.raised (slice_get n.polys one.right) ≡
      record { made = by_number n.polys one.made; noted = one.noted }

pub record AreRightNumbers (n : Numbered) (known : List (Option NumberedTaking))
    (tested : List (Option NumberedTest)) : Type 0 where
  pub takings : All (λ o. IfSome o (IsRightTaking n)) known
  pub tests : All (λ o. IfSome o (IsRightTest n)) tested
