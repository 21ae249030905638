-- The new goal has its form, and the step is what is formed of it within the limits.
use Rattle.std.proofs.Common.{◌≡◌, ◌∙◌, ap, subst, sym, Bool, true, ◌&&◌}
use Rattle.rx_term.specs.declared.rule_set.RuleParts.{RuleParts}
use Rattle.rx_inference.specs.Forming.{Gives, limited, provided}
use Rattle.rx_inference.specs.Making.{generalised_by}
use Rattle.rx_inference.specs.Pieces.{have_one_shape, is_equation, is_substitution}
use Rattle.rx_inference.proofs.generalising.generalise.Goals as goal

pub returns : goal.returns
returns c =
    let a = c.args in
    let made = generalised_by a.rules.now a.goal.now a.new a.with.now in
    let test : RuleParts → Bool =
    λ parts. is_equation parts a.new && (is_substitution a.with.now &&
    (have_one_shape a.new.left a.goal.now.left && have_one_shape a.new.right a.goal.now.right)) in
    let tested : c.has_form.result ≡ test c.parts.result.now = c.has_form.ensures in
    let is = c.if-not-has_form.false in
    let yes : c.has_form.result ≡ true = cc in
    let so : test a.rules.now ≡ true = sym (tested ∙ ap test c.parts.ensures.parts) ∙ yes in
    subst (Gives c.limited.result) (ap (λ b. provided b (limited made)) (sym so))
    (c.limited.ensures made c.generalise_by.ensures.forms)
