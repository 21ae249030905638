-- A proof about two entries shows that both functions return alike.
use Rattle.std.proofs.Common.{◌≡◌, ◌∙◌, ap, subst, ℕ, ℤ, true, List, Some, length}
use Rattle.std.specs.Prelude.{slice_get}
use Rattle.c_ast.specs.Scoped.{is_scoped, parameter_counts}
use Rattle.c_ast.specs.declared.integers.Integers.{Integers}
use Rattle.c_ast.specs.declared.program.Resolved.{Resolved}
use Rattle.rx_rewriting.specs.Premises.{HaveConvertibleNormalForms}
use Rattle.rx_rewriting.specs.Steps.{Reaches}
use Rattle.rx_rewriting.specs.Terms as stack
use Rattle.rx_rewriting.specs.Terms.{Ground}
use Rattle.rx_row.specs.Holds.{AllHold}
use Rattle.rx_row.specs.declared.row.Row.{Row}
use Rattle.rx_term.specs.Assigned.{assigned}
use Rattle.rx_term.specs.Meaning.{Instance, ground_at}
use Rattle.rx_term.specs.WellMade.{variables_from}
use Rattle.rx_term.specs.declared.rule.Rule.{Rule}
use Rattle.rx_term.specs.declared.rule_set.RuleParts.{RuleParts}
use Rattle.rx_term.specs.declared.term.Sym.{Sym}
use Rattle.rx_term.specs.declared.term.Term.TheVariants.{Call}
use Rattle.rx_term.proofs.AssignedLaws.{values-assigned}
use Rattle.rx_term.proofs.Equations.{ground-Call}
use Rattle.rx_code.specs.Translation.{IsTranslation, goal_at}
use Rattle.rx_agreement.specs.Agreement.{ReachConvertible, ReturnAlike}
use Rattle.rx_agreement.proofs.Translated.{return_alike}
use Rattle.rx_pairs.specs.declared.table.RankTable.{RankTable}
use Rattle.rx_proofs.specs.Goals.{Fitting}
use Rattle.rx_proofs.specs.Runs.{IsProof}
use Rattle.rx_proofs.proofs.Runs.{proof_ends_alike}

-- a call of a symbol on the first variables is, at integers, its call on these
entry_at : (f : Sym) (xs : List ℤ) → ground_at (assigned xs) (Call f (variables_from 0 (length xs)))
    ≡ stack.Call f.0 xs
entry_at f xs =
    ground-Call (assigned xs) f (variables_from 0 (length xs)) ∙
    ap (stack.Call f.0) (values-assigned xs)

-- results that are convertible, reached from what two terms are equal to
reached_from : (parts : RuleParts) (s t u v : Ground) → s ≡ u → t ≡ v →
    HaveConvertibleNormalForms (Fitting parts) (Instance parts.rules) s t →
    ReachConvertible parts.rules u v
reached_from parts s t u v is_u is_v ends = record {
  left = ends.left.end;
  right = ends.right.end;
  left_result = ends.left.is_result;
  right_result = ends.right.is_result;
  left_reached = subst (λ g. Reaches (Instance parts.rules) g ends.left.end) is_u ends.left.reached;
  right_reached =
      subst (λ g. Reaches (Instance parts.rules) g ends.right.end) is_v ends.right.reached;
  convertible = ends.convertible;
}

pub proof_returns_alike : (integers : Integers) (program : Resolved) → is_scoped program ≡ true →
    (f g : ℕ) (parts : RuleParts) (first second : Sym) →
    IsTranslation integers program f g parts first second
    → (arguments : List ℤ) (rows : List Row) → slice_get (parameter_counts program.functions) f ≡
    Some (length arguments) → slice_get (parameter_counts program.functions) g ≡
    Some (length arguments)
    → AllHold (assigned arguments) rows → (hypotheses : List Rule) (table : RankTable) →
    IsProof parts (goal_at first second (length arguments) rows) hypotheses table →
    ReturnAlike integers program f g arguments
proof_returns_alike integers program scoped f g parts first second t arguments rows count also holds
    hypotheses table proof =
    let goal = goal_at first second (length arguments) rows in
    let a = assigned arguments in
    return_alike integers program scoped f g parts first second t arguments count also
    (reached_from parts (ground_at a goal.left) (ground_at a goal.right)
    (stack.Call first.0 arguments) (stack.Call second.0 arguments)
    (entry_at first arguments) (entry_at second arguments)
    (proof_ends_alike parts goal hypotheses table proof a holds))
