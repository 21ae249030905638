-- What is formed within limits, as an option.
use Rattle.rx_relations.proofs.Applied.{applied}
use Rattle.rx_relations.proofs.common.vanishing.Goals as goal

pub returns : goal.returns
returns c = applied _ c.vanishing_at.result c.form_within.result c.vanishing_at.ensures c.form_within.ensures
