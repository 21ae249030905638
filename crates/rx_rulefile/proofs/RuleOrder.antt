-- The order of the lines of rule texts meets what the laws ask of an order.
use Rattle.std.proofs.Common.{◌≡◌, ◌∙◌, ap, refl, Bool, true, ◌&&◌, [], ◌∷◌}
use Rattle.rx_term.specs.declared.rule.Equation.{Equation}
use Rattle.rx_term.specs.declared.term.Term.TheFolds.{fold_out-Term}
use Rattle.rx_term.specs.declared.term.Term.TheVariants.{Fail, outs-Fail}
use Rattle.rx_term_words.specs.Equations.{equations}
use Rattle.rx_term_words.specs.Terms.{is_readable_level, is_readable_term}
use Rattle.rx_lines.specs.Orders.{CanFinish, IsLineOrder}
use Rattle.rx_rulefile.specs.Places.{rule_order}
use Rattle.rx_rulefile.specs.declared.place.Place.{Place}
use Rattle.rx_rulefile.specs.declared.place.Place.TheVariants.{AtHeader, AtFails, InSymbols, InRules, AtEnd, Finished}
use Rattle.rx_rulefile.specs.declared.rule_line.RuleLine.TheVariants as line
use Rattle.rx_rulefile.proofs.LineKinds.{lines_one}
use Rattle.rx_rulefile.proofs.OneLineRules.{line_one_line}

-- an equation that has a text
abbrev some_equation : Equation
some_equation = record { left = Fail 1; right = Fail 1; rows = [] }

readable : is_readable_term (Fail 1) ≡ true
readable = fold_out-Term Bool is_readable_level (Fail 1) ∙ rw (outs-Fail 1) refl

in_range : equations.in_range some_equation && true ≡ true
in_range = ap (λ (b : Bool). (b && (b && true)) && true) readable

finishes : (place : Place) → CanFinish rule_order place
finishes AtHeader = record {
  lines = line.Header ∷ line.Fails 0 ∷ line.Equation some_equation ∷ line.End ∷ [];
  in_range = in_range;
  arrives = refl;
}
finishes AtFails = record {
  lines = line.Fails 0 ∷ line.Equation some_equation ∷ line.End ∷ [];
  in_range = in_range;
  arrives = refl;
}
finishes (InSymbols next) = record {
  lines = line.Equation some_equation ∷ line.End ∷ [];
  in_range = in_range;
  arrives = refl;
}
finishes InRules = record {
  lines = line.Equation some_equation ∷ line.End ∷ [];
  in_range = in_range;
  arrives = refl;
}
finishes AtEnd = record { lines = line.End ∷ []; in_range = refl; arrives = refl }
finishes Finished = record { lines = []; in_range = refl; arrives = refl }

pub rules_in_order : IsLineOrder rule_order
rules_in_order = record {
  one_reading = lines_one;
  one_line = λ it r. line_one_line it;
  finishes = finishes;
}
