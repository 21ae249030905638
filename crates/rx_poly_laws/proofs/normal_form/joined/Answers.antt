-- Each operation has the value of its call.
use Rattle.rx_poly_laws.proofs.normal_form.joined.Goals as goal

pub returns-in-Add-clause-value : goal.returns-in-Add-clause-value
returns-in-Add-clause-value c = rw (c.in-Add.is) c.add.ensures.value

pub returns-in-Mul-clause-value : goal.returns-in-Mul-clause-value
returns-in-Mul-clause-value c = rw (c.in-Mul.is) c.mul.ensures.value

pub returns-in-Div-clause-value : goal.returns-in-Div-clause-value
returns-in-Div-clause-value c = rw (c.in-Div.is) c.quotient.ensures.value

pub returns-in-Mod-clause-value : goal.returns-in-Mod-clause-value
returns-in-Mod-clause-value c = rw (c.in-Mod.is) c.remainder.ensures.value
