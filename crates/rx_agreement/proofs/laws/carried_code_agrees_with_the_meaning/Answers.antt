use Rattle.rx_agreement.proofs.Agreement.{carried_code_agrees}
use Rattle.rx_agreement.proofs.laws.carried_code_agrees_with_the_meaning.Goals as goal

-- src/laws.rt:17:1
pub returns : goal.returns
returns c =
    λ integers program code carries parts made paired does f symbol begins. carried_code_agrees
    integers program code
    carries parts made paired does f symbol begins
