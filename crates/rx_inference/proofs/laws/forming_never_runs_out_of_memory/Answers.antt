use Rattle.rx_inference.proofs.FormingLaws.{formed_ends}
use Rattle.rx_inference.proofs.laws.forming_never_runs_out_of_memory.Goals as goal

pub returns : goal.returns
returns c = formed_ends
