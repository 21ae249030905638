-- The next part is lawful or not; where it is, the rest decides.
use Rattle.std.proofs.Common.{Some, None, sym, ◌∙◌, refl, ap, arith}
use Rattle.std.specs.Option.{option_copied}
use Rattle.rx_row.proofs.Lawful.{after_lawful, not_taken}
use Rattle.rx_row.proofs.parts.are_lawful_parts.Goals as goal

pub returns-in_default : goal.returns-in_default
returns-in_default c =
    not_taken c.loop-at.from c.args.rows.now c.args.parts.now c.loop-at.at-index c.loop-at-test.true
    c.loop-at.invariant (Some c.in-Some.row.now) (sym c.in-Some.ensures)
    (sym c.is_taken_by.ensures ∙ c.if-is_taken_by.false)

pub returns-in_default-2 : goal.returns-in_default-2
returns-in_default-2 c =
    not_taken c.loop-at.from c.args.rows.now c.args.parts.now c.loop-at.at-index c.loop-at-test.true
    c.loop-at.invariant None (sym c.row_at.ensures ∙ ap option_copied c.in_default.is) refl

pub loop-at-preserved : goal.loop-at-preserved
loop-at-preserved c =
    after_lawful c.loop-at.from c.args.rows.now c.args.parts.now c.loop-at.at-index
    c.loop-at-test.true c.loop-at.invariant (Some c.in-Some.row.now) (sym c.in-Some.ensures)
    (omega arith) (sym c.is_taken_by.ensures ∙ c.if-is_taken_by.true)
