-- What is formed for the rules of an instruction.
use Rattle.std.specs.Prelude.{ℕ, List, ◌++◌}
use Rattle.c_ast.specs.declared.integers.Integers.{Integers}
use Rattle.rx_plain.specs.Formed.{Formed, kept}
use Rattle.rx_poly.specs.Limits.{is_within}
use Rattle.rx_poly.specs.declared.body.Body.{Body}
use Rattle.rx_term.specs.declared.rule.Rule.{Rule}
use Rattle.rx_code.specs.Programs.{entry_of}
use Rattle.rx_code.specs.Rules.{action_within, instruction_within, divided, rules_of_action, rules_of_instruction}
use Rattle.rx_code.specs.declared.action.Action.{Action}
use Rattle.rx_code.specs.declared.action.Instruction.{Instruction}
use Rattle.rx_code.specs.declared.action.Division.{Division}
use Rattle.rx_code.specs.declared.point.Point.{Point}

-- the result of a division
abbrev pub divided_formed : Division → Body → Body → Formed Body
divided_formed d p q = kept is_within (divided d p q)

-- the rules of an instruction after others
abbrev pub rules_after : Integers → List (ℕ × ℕ) → List Rule → Instruction → Formed (List Rule)
rules_after integers entries rules d =
    record {
      form = rules ++ rules_of_instruction integers (entry_of entries) d;
      within = instruction_within
          d;
    }

-- the rules of an action after others
abbrev pub action_after : Integers → List Rule → (ℕ → ℕ) → Point → Action → Formed (List Rule)
action_after integers rules entry a action =
    record {
      form = rules ++ rules_of_action integers entry a action;
      within =
          action_within action;
    }
