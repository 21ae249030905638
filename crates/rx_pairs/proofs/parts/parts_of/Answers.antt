-- The frames over what is kept; all parts where nothing is.
use Rattle.std.proofs.Common.{◌≡◌, subst, sym}
use Rattle.std.specs.Prelude.{None}
use Rattle.std.proofs.lemmas.Result.{IfOk-weaker}
use Rattle.rx_term.specs.Stacks.{depth_of}
use Rattle.rx_term.specs.declared.term.Term.{Term}
use Rattle.rx_pairs.specs.Lent.{IsKept, all_lent, outer_parts}
use Rattle.rx_pairs.specs.Pairs.{AreParts}
use Rattle.rx_pairs.proofs.PartsLaws.{parts_over}
use Rattle.rx_pairs.proofs.parts.parts_of.Goals as goal

pub returns-in-Some : goal.returns-in-Some
returns-in-Some c =
    let left = c.args.left.now in
    let right = c.args.right.now in
    IfOk-weaker c.outer_frames.result (λ parts. all_lent parts.items ≡
    outer_parts (depth_of c.beyond.result.now) right)
    (λ parts. AreParts left right (all_lent parts.items))
    (λ parts same.
    subst (AreParts left right) (sym same)
    (parts_over left right c.in-Some.kept.now c.beyond.result.now c.in-Some.ensures
    c.beyond.ensures.depth))
    c.outer_frames.ensures

pub returns-in-None : goal.returns-in-None
returns-in-None c =
    let left = c.args.left.now in
    let right = c.args.right.now in
    IfOk-weaker c.all_parts.result (λ parts. (l : Term) → IsKept l right None →
    AreParts l right (all_lent parts.items))
    (λ parts. AreParts left right (all_lent parts.items))
    (λ parts all. all left c.in-None.ensures) c.all_parts.ensures
