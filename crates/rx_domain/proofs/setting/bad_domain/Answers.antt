-- A symbol that is left has no list.
use Rattle.std.proofs.Common.{◌≡◌, ◌∙◌, ap, sym, arith, ◌==◌, true, Some, List, [], drop, drop_of_length-le, length}
use Rattle.rx_term.specs.declared.rule_set.SymInfo.{SymInfo}
use Rattle.rx_domain.specs.Setting.{bad_from}
use Rattle.rx_domain.proofs.SettingLaws.{left_over}
use Rattle.rx_domain.proofs.setting.bad_domain.Goals as goal

pub returns-else-is_empty : goal.returns-else-is_empty
returns-else-is_empty c =
    let none : drop c.loop-sym.sym c.args.lists.now ≡ [] =
    drop_of_length-le c.args.lists.now (omega (arith, c.loop-sym-test.false)) in
    let number : c.loop-sym.sym ≡ length c.args.lists.now =
    omega (arith, c.loop-sym-test.false, c.loop-sym.auto.sym-end) in
    ap Some (sym number) ∙
    sym (left_over c.loop-sym.sym c.loop-sym.rest.now (λ empty.
    let yes : c.is_empty.result ≡ true =
    c.is_empty.ensures ∙ ap (λ (infos : List SymInfo). length infos == 0) empty in
    let no = c.if-is_empty.false in absurd (cc)))
    ∙ ap (bad_from c.loop-sym.sym c.loop-sym.rest.now) (sym none) ∙ c.loop-sym.invariant
