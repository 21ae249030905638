-- A rule is used or not; the two branches of a split make its tree.
use Rattle.std.proofs.Common.{◌≡◌, ◌∙◌, ap, sym, Some}
use Rattle.rx_cover.specs.Covering.{symbol}
use Rattle.rx_term.specs.Paired.{rules_of_shape}
use Rattle.rx_find_cover.proofs.CoverageLaws.{not_used, used_covers}
use Rattle.rx_find_cover.proofs.TreeLaws.{refuted_trees, split_trees}
use Rattle.rx_find_cover.specs.Answers.{outcome}
use Rattle.rx_find_cover.specs.Coverage.{noting}
use Rattle.rx_cover.specs.Redexes.{shape_at}
use Rattle.rx_find_cover.proofs.building.+building.Goals as goal

pub build-returns-then-is_some-clause-coverage : goal.build-returns-then-is_some-clause-coverage
build-returns-then-is_some-clause-coverage g t c =
    used_covers (rules_of_shape (shape_at (symbol c.args.sym) c.args.redex) c.args.rules.now)
    c.args.left c.args.path.now (outcome c.in_ok-used.used)
    c.in_ok-used.ensures.coverage (sym c.is_some.ensures ∙ c.if-is_some.true)

pub build-returns-clause-coverage : goal.build-returns-clause-coverage
build-returns-clause-coverage g t c =
    c.noted_before.ensures.outcome
    ∙ ap (λ n. noting n (outcome c.in_ok-built.built)) c.into_noted-noted.ensures
    ∙ not_used (rules_of_shape (shape_at (symbol c.args.sym) c.args.redex) c.args.rules.now)
    c.args.left c.args.path.now (outcome c.in_ok-used.used)
    c.in_ok-used.ensures.coverage (sym c.is_some.ensures ∙ c.if-is_some.false)
    (outcome c.in_ok-built.built) c.in_ok-built.ensures.coverage

pub build_split-returns-clause-tree : goal.build_split-returns-clause-tree
build_split-returns-clause-tree g t c =
    let is : c.in_ok-first.first.made ≡ Some c.in_ok-yes.yes = cc c.in_ok-yes.ensures in
    split_trees c.args.rules.now (shape_at (symbol c.args.sym) c.args.redex) c.args.left
    c.args.path.now c.in_ok-second.second.made c.join.result
    c.requires.own c.in_ok-same.ensures c.in_ok-first.ensures.kept is c.in_ok-first.ensures.tree
    c.in_ok-second.ensures.tree c.in_ok-second.ensures.formed c.join.ensures.made

pub build_unless_used-returns-then-left-eq0-clause-tree :
    goal.build_unless_used-returns-then-left-eq0-clause-tree
build_unless_used-returns-then-left-eq0-clause-tree g t c =
    refuted_trees c.args.rules.now (shape_at (symbol c.args.sym) c.args.redex) c.args.path.now
    c.args.left c.refute_path.result c.refute_path.ensures.tree

pub build_unless_used-returns-in-None-clause-tree :
    goal.build_unless_used-returns-in-None-clause-tree
build_unless_used-returns-in-None-clause-tree g t c =
    refuted_trees c.args.rules.now (shape_at (symbol c.args.sym) c.args.redex) c.args.path.now
    c.args.left c.refute_path-in-None.result c.refute_path-in-None.ensures.tree
