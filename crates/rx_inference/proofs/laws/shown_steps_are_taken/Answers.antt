use Rattle.rx_inference.proofs.FormingLaws.{shown_taken}
use Rattle.rx_inference.proofs.laws.shown_steps_are_taken.Goals as goal

pub returns : goal.returns
returns c = shown_taken
