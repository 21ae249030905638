-- Nothing more is to be found.
use Rattle.std.proofs.Common.{◌∙◌, ap, sym}
use Rattle.std.specs.Prelude.{option_and_then}
use Rattle.rx_settle.specs.Tasks.{if_few}
use Rattle.rx_settle.proofs.DescentLaws.{over_ends}
use Rattle.rx_settle.proofs.descending.descendants.Goals as goal

pub returns-clause-exact : goal.returns-clause-exact
returns-clause-exact g c =
    c.end.ensures ∙
    sym (over_ends c.args.rules.now c.loop-alloc.descent
    (sym c.is_over.ensures ∙ c.loop-alloc-test.false)) ∙
    ap (option_and_then if_few) c.loop-alloc.invariant.found
