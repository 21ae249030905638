-- None is found yet; and a part more is common, or not.
use Rattle.std.proofs.Common.{subst}
use Rattle.rx_moves.specs.SuffixAnswers.{SaysEqual, part_of, part_said}
use Rattle.rx_moves.proofs.SuffixLaws.{begin, next_part, part_beyond, part_differs}
use Rattle.rx_moves.proofs.finding.common_parts.Goals as goal

pub loop-left-init : goal.loop-left-init
loop-left-init g c =
    record {
      solver = c.requires.solver;
      along = begin c.args.given.now c.args.lefts.items c.args.rights.items;
    }

pub loop-left-preserved : goal.loop-left-preserved
loop-left-preserved g c =
    let along = next_part c.args.given.now c.loop-left.parts c.loop-left.rest.items
    c.loop-left.others.items
    c.args.lefts.items c.args.rights.items c.loop-left.invariant.along c.in-Some-Some.left
    c.in-Some-Some.right c.pop.new.self.items c.pop-in-loop-left.new.self.items
    c.in-Some-Some.ensures.items c.in-Some-Some.ensures'.items
    (subst (SaysEqual (part_said c.args.given.now (part_of c.in-Some-Some.left)
    (part_of c.in-Some-Some.right))) c.in-Shown.is c.in_ok-show_same.ensures.answer) in
    record { solver = c.in_ok-show_same.ensures.solver; along = along }

pub returns-in-NotShown-clause-common : goal.returns-in-NotShown-clause-common
returns-in-NotShown-clause-common g c =
    part_differs c.args.given.now c.loop-left.parts c.loop-left.rest.items c.loop-left.others.items
    c.args.lefts.items c.args.rights.items c.loop-left.invariant.along c.in-Some-Some.left
    c.in-Some-Some.right c.pop.new.self.items c.pop-in-loop-left.new.self.items
    c.in-Some-Some.ensures.items c.in-Some-Some.ensures'.items
    (subst (SaysEqual (part_said c.args.given.now (part_of c.in-Some-Some.left)
    (part_of c.in-Some-Some.right))) c.in-NotShown.is c.in_ok-show_same.ensures.answer)

pub returns-in-TooLarge-clause-common : goal.returns-in-TooLarge-clause-common
returns-in-TooLarge-clause-common g c =
    part_beyond c.args.given.now c.loop-left.parts c.loop-left.rest.items c.loop-left.others.items
    c.args.lefts.items c.args.rights.items c.loop-left.invariant.along c.in-Some-Some.left
    c.in-Some-Some.right c.pop.new.self.items c.pop-in-loop-left.new.self.items
    c.in-Some-Some.ensures.items c.in-Some-Some.ensures'.items
    (subst (SaysEqual (part_said c.args.given.now (part_of c.in-Some-Some.left)
    (part_of c.in-Some-Some.right))) c.in-TooLarge.is c.in_ok-show_same.ensures.answer)
