-- The redexes so far, and over the failures that are left, have the shapes of the frame.
use Rattle.std.proofs.Common.{◌≡◌, ◌++◌, ◌+◌, ◌-◌, map, true}
use Rattle.rx_cover.specs.Covering.{over_failures, redex_shapes}
use Rattle.rx_term.specs.declared.term.Sym.{Sym}
use Rattle.rx_cover.specs.Redexes.{shape_at}
use Rattle.rx_find_cover.proofs.shapes.frame_redexes.Given as goal

abbrev pub invariant-loop-before : goal.invariant-loop-before
invariant-loop-before l =
    (f : Sym) → map (shape_at f) l.redexes ++ over_failures f (l.before + 1) (l.fails - l.before) ≡
    redex_shapes f true l.fails
