-- The symbols of code by marks; rules that are made instruction by instruction, and sorted by
-- symbols.
use Rattle.std.specs.Prelude.{Bool, ℕ, zero, suc, List, [], ◌∷◌, ◌++◌, length, replicate}
use Rattle.std.specs.List.{list_all}
use Rattle.c_ast.specs.declared.integers.Integers.{Integers}
use Rattle.rx_plain.specs.Formed.{Formed}
use Rattle.rx_term.specs.declared.rule.Rule.{Rule}
use Rattle.rx_term.specs.declared.rule_set.RuleParts.{RuleParts}
use Rattle.rx_term.specs.declared.rule_set.SymInfo.{SymInfo}
use Rattle.rx_code.specs.Programs.{entry_of}
use Rattle.rx_code.specs.Rules.{instruction_within, parts_of, rules_of_instruction}
use Rattle.rx_code.specs.declared.action.Instruction.{Instruction}
use Rattle.rx_code.specs.declared.code.Code.{Code}
use Rattle.rx_code.specs.declared.point.Opening.{Opening}

-- what a symbol is
abbrev pub info_of : Opening → Bool → Bool → SymInfo
info_of o entry head = record { arity = o.width; frame = o.frame; entry = entry; head = head }

-- what each symbol is, by marks of entries and of heads
abbrev pub infos_of : List Opening → List Bool → List Bool → List SymInfo
infos_of (o ∷ os) (e ∷ es) (h ∷ hs) = info_of o e h ∷ infos_of os es hs
infos_of os es hs = []

-- the lists with these elements after the list at a place, as far as it is there
abbrev pub add_at : {X : Type 0} → List (List X) → ℕ → List X → List (List X)
add_at [] k xs = []
add_at (ys ∷ yss) zero xs = (ys ++ xs) ∷ yss
add_at (ys ∷ yss) (suc k) xs = ys ∷ add_at yss k xs

module _ (integers : Integers) where
  -- the lists with the rules of each instruction added at its symbol
  abbrev pub sorted_after : List (ℕ × ℕ) → List (List Rule) → List Instruction → List (List Rule)
  sorted_after entries lists [] = lists
  sorted_after entries lists (d ∷ ds) =
      let rules = rules_of_instruction integers (entry_of entries) d in
      sorted_after entries (add_at lists d.at.symbol rules) ds

  -- the rules of code by their symbols, and whether all that is formed for them keeps the limits
  abbrev pub sorted_rules : Code → Formed (List (List Rule))
  sorted_rules c = record {
    form = sorted_after c.entries (replicate (length c.opened) []) c.instructions;
    within = list_all instruction_within c.instructions;
  }

  -- the rule set of code, and whether all that is formed for it keeps the limits
  abbrev pub parts_formed : Code → Formed RuleParts
  parts_formed c =
      record { form = parts_of integers c; within = list_all instruction_within c.instructions }
