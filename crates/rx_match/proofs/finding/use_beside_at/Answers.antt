-- The part has the shape, and what is matched is used.
use Rattle.std.proofs.Common.{◌≡◌, ◌∙◌, subst, sym, ℕ, true, List}
use Rattle.std.specs.Prelude.{IfOk, IfSome}
use Rattle.rx_plain.specs.Formed.{Formed}
use Rattle.rx_poly.specs.declared.body.Body.{Body}
use Rattle.rx_term.specs.declared.rule.Rule.{Rule}
use Rattle.rx_match.specs.Beside.{matching_beside}
use Rattle.rx_match.specs.Uses.{IsShownAt}
use Rattle.rx_match.proofs.UseLaws.{answer_at}
use Rattle.rx_match.proofs.finding.use_beside_at.Goals as goal

pub returns-clause-answer : goal.returns-clause-answer
returns-clause-answer g c =
    let s = c.args.spot.now in
    let settings : List Rule → Formed (List (ℕ × Body)) =
    λ rules. matching_beside rules s.goal.now s.hypothesis.now s.side s.place c.args.part.now in
    let formed = subst (λ (rules : List Rule).
    (c.in_ok-subst.subst ≡ (settings rules).form) × ((settings rules).within ≡ true))
    c.rules.ensures c.in_ok-subst.ensures.forms in
    answer_at s.goal.now s.hypothesis.now c.args.part.now (settings c.args.rules.now.rules)
    c.in_ok-subst.subst c.use_with.result
    (sym c.has_left_shape.ensures ∙ c.if-not-has_left_shape.false) formed.1 formed.0
    c.use_with.ensures.answer

pub returns-clause-shown : goal.returns-clause-shown
returns-clause-shown g c =
    let s = c.args.spot.now in
    let settings : List Rule → Formed (List (ℕ × Body)) =
    λ rules. matching_beside rules s.goal.now s.hypothesis.now s.side s.place c.args.part.now in
    let form = subst (λ (rules : List Rule). c.in_ok-subst.subst ≡ (settings rules).form)
    c.rules.ensures c.in_ok-subst.ensures.forms.0 in
    subst (λ (ws : List (ℕ × Body)). IfOk c.use_with.result
    (λ a. IfSome a (IsShownAt s.goal.now s.hypothesis.now c.args.part.now ws))) form
    c.use_with.ensures.shown
