use Rattle.rx_code.proofs.Translations.{calls_translated, crowded_beyond}
use Rattle.rx_code.proofs.laws.there_are_translations.Goals as goal

pub returns-clause-met : goal.returns-clause-met
returns-clause-met c = calls_translated

pub returns-clause-beyond : goal.returns-clause-beyond
returns-clause-beyond c = crowded_beyond
