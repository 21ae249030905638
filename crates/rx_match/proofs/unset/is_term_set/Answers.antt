-- The arguments of a call are its polynomials.
use Rattle.std.proofs.Common.{◌≡◌, subst}
use Rattle.std.specs.Prelude.{IfOk}
use Rattle.rx_match.specs.Settings.{is_set}
use Rattle.rx_match.specs.Variables.{polys_pass}
use Rattle.rx_match.proofs.VariableTests.{call_arguments}
use Rattle.rx_match.proofs.unset.is_term_set.Goals as goal

pub returns-in-Call : goal.returns-in-Call
returns-in-Call c =
    subst (λ ps. IfOk c.are_polys_set.result
    (λ b. b ≡ polys_pass (is_set c.args.settings.now) ps))
    (call_arguments c.args.term.now _ c.in-Call.args c.as_slice.result.now c.in-Call.is
    c.as_slice.ensures)
    c.are_polys_set.ensures
