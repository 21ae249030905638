-- What the instance means is what the stack does where the variables have the values of their
-- replacements.
use Rattle.rx_plain.proofs.Forming.{value_formed}
use Rattle.rx_poly.specs.Substitution.{numbered}
use Rattle.rx_poly.specs.declared.poly_end.PolyEnd.TheVariants.{Large}
use Rattle.rx_term.specs.Substitution.{term_with}
use Rattle.rx_term.proofs.MeaningLaws.{ground_in_term}
use Rattle.rx_term.proofs.term.Term.at_args.Goals as goal

pub returns-clause-value : goal.returns-clause-value
returns-clause-value c =
    value_formed Large (term_with (numbered c.args.args.now) c.args.self.now) c.instance.result _
    (λ a. ground_in_term a (numbered c.args.args.now) c.args.self.now) c.instance.ensures.forms
