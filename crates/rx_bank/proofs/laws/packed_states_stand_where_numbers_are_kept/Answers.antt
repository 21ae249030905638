use Rattle.rx_bank.proofs.Lasting.{packed_states_last}
use Rattle.rx_bank.proofs.laws.packed_states_stand_where_numbers_are_kept.Goals as goal

pub returns : goal.returns
returns c = λ old new packed state kept s. packed_states_last old new kept packed state s
