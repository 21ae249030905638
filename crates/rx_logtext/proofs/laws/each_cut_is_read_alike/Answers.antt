use Rattle.rx_logtext.proofs.Texts.{all_read_alike}
use Rattle.rx_logtext.proofs.laws.each_cut_is_read_alike.Goals as goal

pub returns : goal.returns
returns c =
    λ reader log bytes behind answer read stands all f r. all_read_alike behind answer read stands
    all f r
