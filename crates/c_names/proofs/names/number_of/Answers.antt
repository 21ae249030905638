-- A new word is added after the others.
use Rattle.std.proofs.Common.{◌∙◌, ap, sym}
use Rattle.c_names.specs.Seen.{number_in}
use Rattle.c_names.proofs.SeenLemmas.{entered, stands}
use Rattle.c_names.proofs.names.number_of.Goals as goal

pub returns-clause-known : goal.returns-clause-known
returns-clause-known c = λ w.
    ap (λ es. number_in es w) c.in_ok-insert.ensures.entries
    ∙ entered c.args.word c.args.number w c.args.seen.now.entries (sym c.in_default.ensures.value)
