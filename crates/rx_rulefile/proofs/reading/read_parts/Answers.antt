use Rattle.std.proofs.Common.{sym, subst, ◌+◌}
use Rattle.rx_rulefile.specs.declared.place.Place.TheVariants.{AtHeader}
use Rattle.rx_rulefile.proofs.TextReading.{ReadSoFar, ends_early, line_bad, none_so_far, one_more}
use Rattle.rx_rulefile.proofs.reading.read_parts.Goals as goal

pub loop-bytes-init : goal.loop-bytes-init
loop-bytes-init c =
    let text = c.args.text.now in
    subst (ReadSoFar text text 0 AtHeader) (sym c.new-gathered.ensures) (none_so_far text)

pub returns-in_default-2 : goal.returns-in_default-2
returns-in_default-2 c =
    line_bad c.in-Some.bytes.now c.in-Some.rest.now c.loop-bytes.invariant c.in-Some.ensures.0
    c.in-Some.ensures.1 (rw c.in_default-2.is at c.in_ok-line.ensures)

pub loop-bytes-preserved : goal.loop-bytes-preserved
loop-bytes-preserved c =
    subst
    (ReadSoFar c.args.text.now c.in-Some.rest.now (c.loop-bytes.taken + 1) c.in-Some-2.next)
    (sym c.in_ok-push.ensures)
    (one_more c.in-Some.bytes.now c.in-Some.rest.now c.in-Some-2.line c.in-Some-2.next
    c.loop-bytes.invariant c.in-Some.ensures.0 (rw c.in-Some-2.is at c.in_ok-line.ensures))

pub returns-then-not-is_whole : goal.returns-then-not-is_whole
returns-then-not-is_whole c =
    ends_early c.loop-bytes.invariant c.in_default.ensures
    (λ empty there.
    let yes = c.is_whole.ensures.1 (there, empty) in
    let no = c.if-not-is_whole.true in absurd (cc))
