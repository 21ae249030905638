-- A term of that monomial has its coefficient.
use Rattle.std.proofs.Common.{rules, FitsSigned, ◌∙◌, ap, []}
use Rattle.std.proofs.lemmas.Int.{to_z-of_z}
use Rattle.std.specs.Int.{w128}
use Rattle.rx_poly.specs.Limits.{of_atoms}
use Rattle.rx_poly.specs.Reading.{coefficient}
use Rattle.rx_poly.proofs.ReadingLaws.{here, not_here}
use Rattle.rx_poly.specs.declared.body.Body.{Body, out-Body}
use Rattle.rx_poly.proofs.poly.Poly.constant_term.Goals as goal

pub returns-then-is_one : goal.returns-then-is_one
returns-then-is_one c =
    let f : FitsSigned w128 c.term-item.result.1 = search rules in
    to_z-of_z w128 c.term-item.result.1 f ∙ here (of_atoms []) c.as_slice-term-items.result.now
    c.loop-term.term-index c.loop-term-test.true c.term-item.is c.loop-term.invariant
    (c.is_one.ensures.0 c.if-is_one.true)
    ∙ ap (coefficient (of_atoms [])) c.as_slice-term-items.ensures ∙
    ap (λ (b : Body). coefficient (of_atoms []) (out-Body b).terms) c.body.ensures.body

pub loop-term-preserved : goal.loop-term-preserved
loop-term-preserved c =
    not_here (of_atoms []) c.as_slice-term-items.result.now c.loop-term.term-index
    c.loop-term-test.true c.term-item.is c.loop-term.invariant c.is_one.ensures
    c.if-is_one.false
