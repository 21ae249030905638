use Rattle.std.proofs.Common.{map, string_bytes, ◌∙◌}
use Rattle.clap.specs.Words.{app_of, found_of, rows_of}
use Rattle.rx_command.proofs.Taken.{refused, taken}
use Rattle.rx_command.proofs.command.command_of.Goals as goal

pub returns-in-Ok : goal.returns-in-Ok
returns-in-Ok c = record {
  command =
      c.command_in.ensures ∙ taken (app_of c.in_ok-app.app) (map string_bytes c.args.words.now)
      (rows_of (found_of c.in-Ok.matches)) c.in_ok-app.ensures c.in-Ok.ensures.kinds
      (λ simple. (c.in-Ok.ensures.matches simple).0);
}

pub returns : goal.returns
returns c = record {
  command =
      refused (app_of c.in_ok-app.app) (map string_bytes c.args.words.now) c.kind.result
      c.in_ok-app.ensures c.in_default.not-OutOfMemory
      (λ free. rw c.kind.ensures (c.in-Err.ensures.kinds free));
}
