-- The rows are those that put the new goal inside.
use Rattle.rx_term.specs.Domains.{inside_of}
use Rattle.rx_inference.proofs.generalising.postulate_by.Goals as goal

pub returns : goal.returns
returns c = record {
  forms =
      c.asking_formed_before.ensures (inside_of c.args.rules.now c.args.new)
      c.inside_of-inside.ensures.forms;
}
