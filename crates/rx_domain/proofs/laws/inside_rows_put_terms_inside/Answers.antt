use Rattle.rx_domain.proofs.Inside.{inside_inner, meets_none, redexes_inside, says_inside}
use Rattle.rx_domain.proofs.laws.inside_rows_put_terms_inside.Goals as goal

pub returns-clause-rows : goal.returns-clause-rows
returns-clause-rows c = λ parts good a t fits.
    let says = says_inside parts good a t fits in (says.meets, says.holds)

pub returns-clause-inner : goal.returns-clause-inner
returns-clause-inner c = inside_inner

pub returns-clause-redexes : goal.returns-clause-redexes
returns-clause-redexes c = redexes_inside

pub returns-clause-without : goal.returns-clause-without
returns-clause-without c = λ parts none s fits. (fits, meets_none parts none s)
