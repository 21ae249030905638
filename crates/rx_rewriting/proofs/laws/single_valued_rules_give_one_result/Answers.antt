use Rattle.rx_rewriting.proofs.UniqueResults.{convertible_result_reached, convertible_results_equal, result_in_rest}
use Rattle.rx_rewriting.proofs.laws.single_valued_rules_give_one_result.Goals as goal

pub returns-clause-equal : goal.returns-clause-equal
returns-clause-equal g c =
    convertible_results_equal g.S.System.rule c.requires.single c.requires.rest

pub returns-clause-found : goal.returns-clause-found
returns-clause-found g c =
    convertible_result_reached g.S.System.rule c.requires.single c.requires.rest

pub returns-clause-left : goal.returns-clause-left
returns-clause-left g c =
    result_in_rest g.S.System.rule c.requires.single c.requires.rest
