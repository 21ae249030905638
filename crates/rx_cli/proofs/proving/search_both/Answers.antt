-- The stated search closes both.
use Rattle.std.proofs.Common.{map}
use Rattle.rx_moves.specs.Moves.{move_of}
use Rattle.rx_cli.proofs.Searching.{stated_closes}
use Rattle.rx_cli.proofs.proving.search_both.Goals as goal

pub returns-in-Ok-clause-found : goal.returns-in-Ok-clause-found
returns-in-Ok-clause-found g c =
    let s = c.args.space.now in
    let found = c.in-Ok.ensures in
    record {
      closes =
          stated_closes s.kind s.rules.now c.args.goal.now c.args.effort
          (map move_of c.in-Ok.log.steps) found.steps;
      accepted = found.accepted;
      bare = found.bare;
      shallow = found.shallow;
    }
