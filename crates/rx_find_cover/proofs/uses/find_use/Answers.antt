-- The rule that is used makes a tree.
use Rattle.std.proofs.Common.{◌∙◌, subst, sym}
use Rattle.std.specs.Option.{IfSome}
use Rattle.rx_cover.specs.Covering.{symbol}
use Rattle.rx_term.proofs.Places.{at_some}
use Rattle.rx_find_cover.proofs.TreeLaws.{use_trees}
use Rattle.rx_cover.specs.Redexes.{shape_at}
use Rattle.rx_find_cover.specs.Trees.{IsTree}
use Rattle.rx_find_cover.proofs.uses.find_use.Goals as goal

pub returns-then-is_some-clause-tree : goal.returns-then-is_some-clause-tree
returns-then-is_some-clause-tree g c =
    let at = c.loop-number.number in
    let rule = c.index-rules-number.result in
    let there = at_some c.args.rules.now at rule rule c.loop-number-test.true
    c.index-rules-number.is in
    subst (λ m. IfSome m (IsTree c.args.rules.now (shape_at (symbol c.args.sym) c.args.redex) 1
    c.args.path.now)) (sym c.noted_before.ensures.made)
    (use_trees c.args.rules.now (shape_at (symbol c.args.sym) c.args.redex) at rule c.args.path.now
    c.in_ok-tried.tried.made there (sym c.is_redex_of.ensures ∙ c.if-not-is_redex_of.false)
    c.in_ok-rule_number.ensures c.rows.ensures c.in_ok-tried.ensures.tree)
