-- The first note is the one before, or else the one of this visit.
use Rattle.std.proofs.Common.{◌∙◌, ◌-◌, Option, ap}
use Rattle.std.specs.Option.{option_or}
use Rattle.rx_deepening.specs.declared.outcome.Note.{Note}
use Rattle.rx_deepening.specs.declared.counter.Ended.TheVariants.{Going}
use Rattle.rx_deepening.proofs.counter.count_open.Goals as goal

pub returns : goal.returns
returns g c =
    ap (λ (n : Option (Note _)). record { left = c.args.counter.left - 1; note = n; ended = Going })
    (c.or.ensures ∙ ap (option_or c.args.counter.note) c.with_path.ensures)
