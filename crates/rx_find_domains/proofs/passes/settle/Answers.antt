-- The last pass, or another; at the end none is left.
use Rattle.std.proofs.Common.{◌∙◌, ◌-◌, ap, sym, List}
use Rattle.rx_row.specs.declared.row.Row.{Row}
use Rattle.rx_find_domains.specs.Finding.{passes}
use Rattle.rx_find_domains.proofs.VisitingLaws.{last_pass, more_passes, no_pass}
use Rattle.rx_find_domains.proofs.passes.settle.Goals as goal

pub returns-then-settled-clause-lists : goal.returns-then-settled-clause-lists
returns-then-settled-clause-lists g c =
    c.in_ok-settled.ensures.lists ∙
    sym (last_pass c.args.parts.now c.args.goal.now c.loop-left.lists.items c.loop-left.left
    c.loop-left-test.true (sym c.in_ok-settled.ensures.level ∙ c.if-settled.true)) ∙
    c.loop-left.invariant.decides

pub loop-left-preserved : goal.loop-left-preserved
loop-left-preserved g c = record {
  solver = c.in_ok-settled.ensures.solver;
  decides =
      ap (λ (ls : List (List Row)). passes (c.loop-left.left - 1) c.args.parts.now c.args.goal.now
      ls) c.in_ok-settled.ensures.lists ∙
      sym (more_passes c.args.parts.now c.args.goal.now c.loop-left.lists.items c.loop-left.left
      c.loop-left-test.true (sym c.in_ok-settled.ensures.level ∙ c.if-settled.false)) ∙
      c.loop-left.invariant.decides;
}

pub returns-clause-lists : goal.returns-clause-lists
returns-clause-lists g c =
    sym (no_pass c.args.parts.now c.args.goal.now c.loop-left.lists.items c.loop-left.left
    c.loop-left-test.false) ∙ c.loop-left.invariant.decides
