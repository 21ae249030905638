-- At the end no shape is left.
use Rattle.std.proofs.Common.{drop_of_length-le, map, subst}
use Rattle.rx_cover.specs.Covering.{symbol}
use Rattle.rx_find_cover.proofs.Growing.{Growing, all_grown}
use Rattle.rx_cover.specs.Redexes.{shape_at}
use Rattle.rx_find_cover.proofs.shapes.build_shapes.Goals as goal

pub returns-clause-trees : goal.returns-clause-trees
returns-clause-trees g c =
    let whole = map (shape_at (symbol c.args.sym)) c.args.redexes.now in
    all_grown c.args.rules.now c.args.path.now whole c.loop-redex.trees
    (subst (λ rs. Growing c.args.rules.now c.args.path.now whole
    (map (shape_at (symbol c.args.sym)) rs) c.loop-redex.trees)
    (drop_of_length-le c.args.redexes.now c.loop-redex-test.false) c.loop-redex.invariant.growing)
