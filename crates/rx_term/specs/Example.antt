-- A rule set that meets the premises of all laws: a point and a frame, rules with rows, and a
-- failure.
--
--   0  f(v0) -> ret(0)       [v0 = 0]
--   1  f(v0) -> g(v0; f(0))  [v0 != 0]
--   2  g(v0; ret(v1)) -> ret(v0 + v1)
--   3  g(v0; fail(1)) -> fail(1)
use Rattle.std.specs.Prelude.{true, false, [], ◌∷◌, All, ℤ, pos, negsuc}
use Rattle.rx_poly.specs.Constants.{number, variable}
use Rattle.rx_poly.specs.Limits.{body_sum}
use Rattle.rx_row.specs.declared.row.Row.TheVariants.{Eq, Ne}
use Rattle.rx_rewriting.specs.Terms as stack
use Rattle.rx_rewriting.specs.Terms.{Ground, Fits, TermSet}
use Rattle.rx_term.specs.Covered.{RedexArguments}
use Rattle.rx_term.specs.Meaning.{signature}
use Rattle.rx_term.specs.Shapes as shape
use Rattle.rx_term.specs.declared.rule.Rule.{Rule}
use Rattle.rx_term.specs.declared.rule_set.RuleParts.{RuleParts}
use Rattle.rx_term.specs.declared.term.Sym.{Sym}
use Rattle.rx_term.specs.declared.term.Term.TheVariants.{Return, Fail, Call, Frame}

-- the point, and the frame
abbrev pub f : Sym
f = record { 0 = 0 }

abbrev pub g : Sym
g = record { 0 = 1 }

abbrev pub ends : Rule
ends =
    record {
      left = Call f (variable 0 ∷ []);
      right = Return (number (pos 0));
      rows =
          Eq (variable 0) ∷ [];
    }

abbrev pub goes_on : Rule
goes_on = record {
  left = Call f (variable 0 ∷ []);
  right = Frame g (variable 0 ∷ []) (Call f (number (pos 0) ∷ []));
  rows = Ne (variable 0) ∷ [];
}

abbrev pub adds : Rule
adds = record {
  left = Frame g (variable 0 ∷ []) (Return (variable 1));
  right = Return (body_sum (variable 0) (variable 1));
  rows = [];
}

abbrev pub fails : Rule
fails = record { left = Frame g (variable 0 ∷ []) (Fail 1); right = Fail 1; rows = [] }

abbrev pub example : RuleParts
example = record {
  symbols = record { arity = 1; frame = false; entry = true; head = false }
      ∷ record { arity = 1; frame = true; entry = false; head = false } ∷ [];
  domains = [];
  rules = ends ∷ goes_on ∷ adds ∷ fails ∷ [];
  fails = 1;
}

-- the integer is at least 0
abbrev pub AtLeastZero : ℤ → Type 0
AtLeastZero (pos k) = Unit {0}
AtLeastZero (negsuc k) = ⊥

-- the call of a term, if it has one, is at integers that are at least 0
abbrev pub CallsCount : Ground → Type 0
CallsCount (stack.Return k) = Unit {0}
CallsCount (stack.Fail c) = Unit {0}
CallsCount (stack.Call s xs) = All AtLeastZero xs
CallsCount (stack.Frame s xs t) = CallsCount t

-- the terms that are inside: those that fit, with such a call
abbrev pub IsInside : TermSet
IsInside s = Fits (signature example) s × CallsCount s

-- a fitting term that is not inside
abbrev pub negative_call : Ground
negative_call = stack.Call 0 (negsuc 0 ∷ [])

-- the arguments that redexes have there
abbrev pub counting : RedexArguments
counting shape.Return a = Unit {0}
counting (shape.Fail c) a = Unit {0}
counting (shape.Call s) a = AtLeastZero (a 0)
counting (shape.Frame s inner) a = Unit {0}
