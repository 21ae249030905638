-- The arguments of calls are their polynomials.
use Rattle.std.proofs.Common.{◌≡◌, subst}
use Rattle.std.specs.Prelude.{IfOk}
use Rattle.std.specs.List.{zip}
use Rattle.rx_term.specs.Variables.{arguments_of}
use Rattle.rx_match.specs.Arguments.{set_by_pairs}
use Rattle.rx_match.proofs.VariableTests.{call_arguments}
use Rattle.rx_match.proofs.arguments.set_by_terms.Goals as goal

pub returns-in-Call-Call : goal.returns-in-Call-Call
returns-in-Call-Call c =
    let left = call_arguments c.args.pattern.now _ c.in-Call-Call.patterns c.as_slice.result.now
    c.in-Call-Call.is-0 c.as_slice.ensures in
    let right = call_arguments c.args.part.now _ c.in-Call-Call.polys
    c.as_slice-in-Call-Call.result.now c.in-Call-Call.is-1 c.as_slice-in-Call-Call.ensures in
    subst (λ ps. IfOk c.set_by_pairs.result
    (λ ws. ws ≡ set_by_pairs (zip ps (arguments_of c.args.part.now)) c.args.settings)) left
    (subst (λ qs. IfOk c.set_by_pairs.result
    (λ ws. ws ≡ set_by_pairs (zip c.as_slice.result.now qs) c.args.settings)) right c.set_by_pairs.ensures)
