-- The rule set of two functions, and when there is none within the limits.
use Rattle.std.specs.Prelude.{◌≡◌, ◌<◌, ℕ, true, false, ◌&&◌, List, length}
use Rattle.std.specs.List.{list_all}
use Rattle.rx_plain.specs.Formed.{Formed}
use Rattle.c_ast.specs.declared.integers.Integers.{Integers}
use Rattle.c_ast.specs.declared.program.Resolved.{Resolved}
use Rattle.rx_row.specs.declared.row.Row.{Row}
use Rattle.rx_term.specs.WellMade.{variables_from}
use Rattle.rx_term.specs.declared.rule.Equation.{Equation}
use Rattle.rx_term.specs.declared.rule_set.RuleParts.{RuleParts}
use Rattle.rx_term.specs.declared.term.Sym.{Sym}
use Rattle.rx_term.specs.declared.term.Term.TheVariants.{Call}
use Rattle.rx_code.specs.Programs.{entry_of, program_code}
use Rattle.rx_code.specs.Reached.{AreReached}
use Rattle.rx_code.specs.Rules.{instruction_within, parts_of, symbol}

-- the equation of two symbols on n variables under the rows
abbrev pub goal_at : Sym → Sym → ℕ → List Row → Equation
goal_at f g n rows =
    record { left = Call f (variables_from 0 n); right = Call g (variables_from 0 n); rows = rows }

module _ (integers : Integers) where
  -- the rule set of these functions of a program, and whether all that is formed and opened for it
  -- keeps the limits
  abbrev pub rules_of : Resolved → List ℕ → Formed RuleParts
  rules_of program fs =
      let c = program_code integers program fs in
      record {
        form = parts_of integers c.form;
        within = c.within && list_all instruction_within
            c.form.instructions;
      }

  -- f and g are functions of the program, the parts are the rule set of all functions that they
  -- reach, within the limits, and the two symbols are their entries
  pub record IsTranslation (program : Resolved) (f g : ℕ) (parts : RuleParts)
      (first second : Sym) : Type 0 where
    pub first_there : f < length program.functions
    pub second_there : g < length program.functions
    pub functions : List ℕ
    pub reached : AreReached program f g functions
    pub within : (rules_of program functions).within ≡ true
    pub parts_are : parts ≡ (rules_of program functions).form
    pub first_is : first ≡ symbol
        (entry_of (program_code integers program functions).form.entries f)
    pub second_is : second ≡ symbol
        (entry_of (program_code integers program functions).form.entries g)

  -- something that is formed or opened for the functions that f and g reach passes the limits
  pub record IsBeyond (program : Resolved) (f g : ℕ) : Type 0 where
    pub functions : List ℕ
    pub reached : AreReached program f g functions
    pub beyond : (rules_of program functions).within ≡ false
