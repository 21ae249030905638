-- The rules of an instruction are in the rule set of whole code, so that the set does what is done
-- in the code.
use Rattle.std.proofs.Common.{subst, refl, ℕ, arith}
use Rattle.std.specs.Prelude.{Contains, filter}
use Rattle.std.specs.List.{enumerate_from}
use Rattle.std.proofs.lemmas.Bool.{eq-eqb}
use Rattle.c_ast.specs.declared.integers.Integers.{Integers}
use Rattle.rx_term.specs.Meaning.{Instance}
use Rattle.rx_plain.proofs.Kept.{kept}
use Rattle.rx_code.specs.Programs.{entry_of}
use Rattle.rx_code.specs.Rules.{parts_of, rules_at, rules_of_instruction}
use Rattle.rx_code.specs.declared.action.Instruction.{Instruction}
use Rattle.rx_code.specs.declared.code.Code.{Code}
use Rattle.rx_code.specs.declared.point.Opening.{Opening}
use Rattle.rx_code.specs.Carried.{acts_in}
use Rattle.rx_code.specs.Doing.{DoAll}
use Rattle.rx_code.proofs.Instructions.{Among, rules_do}
use Rattle.rx_code.proofs.Elements.{in_flat_map, in_numbered}
use Rattle.rx_code.proofs.Whole.{IsWhole, is_at, is_resume}

module _ (integers : Integers) (c : Code) (whole : IsWhole integers c) where
  rules_stand : (d : Instruction) → Contains c.instructions d →
      Among (parts_of integers c).rules (rules_of_instruction integers (entry_of c.entries) d)
  rules_stand d there r inside =
      let k = d.at.symbol in
      let opening : Opening = record { width = d.at.width; frame = is_resume d.action } in
      let at : Contains (filter (is_at k) c.instructions) d =
      kept (is_at k) c.instructions d there (eq-eqb k k refl) in
      let here : Contains (rules_at integers c k) r =
      in_flat_map (rules_of_instruction integers (entry_of c.entries))
      (filter (is_at k) c.instructions) d r at inside in
      let numbered : Contains (enumerate_from 0 c.opened) (k, opening) =
      subst (λ (n : ℕ). Contains (enumerate_from 0 c.opened) (n, opening)) (omega arith)
      (in_numbered 0 c.opened k opening (whole.fits d there).opened) in
      in_flat_map (λ (o : ℕ × Opening). rules_at integers c o.0) (enumerate_from 0 c.opened)
      (k, opening) r
      numbered here

  pub rules_do_all : DoAll integers (Instance (parts_of integers c).rules) (entry_of c.entries)
      (acts_in c)
  rules_do_all a x there =
      rules_do (parts_of integers c).rules integers (entry_of c.entries) a x
      (rules_stand (record { at = a; action = x }) there)
