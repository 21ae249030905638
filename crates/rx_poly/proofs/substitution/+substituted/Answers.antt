-- Each turn takes one atom or one term; what is left still makes the whole, and what passes the
-- limits decides.
use Rattle.std.proofs.Common.{rules, ◌≡◌, ◌∙◌, ap, false, pos, subst, sym}
use Rattle.std.proofs.lemmas.Result.{err_from_is_err_and}
use Rattle.rx_plain.proofs.Forming.{then_false}
use Rattle.rx_plain.specs.Formed.{Formed, Forms, kept}
use Rattle.rx_poly.specs.Division.{divided}
use Rattle.rx_poly.specs.Limits.{body_sum, is_within}
use Rattle.rx_poly.specs.Products.{product_formed}
use Rattle.rx_poly.specs.Substitution.{subst_atom, subst_body, subst_mono}
use Rattle.rx_poly.specs.Replacements.{replacements}
use Rattle.rx_poly.specs.declared.body.Body.{Body}
use Rattle.rx_poly.specs.declared.poly_end.PolyEnd.TheVariants.{Large}
use Rattle.rx_poly.specs.Terms.{is_zero}
use Rattle.rx_poly.proofs.Multiples.{multiple_replaced}
use Rattle.rx_poly.proofs.Alone.{first_fails, first_made, mono_first}
use Rattle.rx_poly.proofs.Substituting.{made_then, quotient_made, remainder_made, no_quotient, no_remainder, no_product, after_atom, times_end, plus_begin, plus_end, no_sum, after_term}
use Rattle.rx_poly.proofs.substitution.+substituted.Goals as goal

pub atom_with-returns-in_err-num-in-Div : goal.atom_with-returns-in_err-num-in-Div
atom_with-returns-in_err-num-in-Div t c =
    let p = err_from_is_err_and c.from_residual-in_err-num-in-Div.result
    c.from_residual-in_err-num-in-Div.ensures.1 in
    rw (p.1, p.2) (record {
      forms = λ h. no_quotient (replacements c.args.with) c.in-Div.num c.in-Div.den c.in-Div.is
          (c.in_err-num-in-Div.ensures.forms h);
    })

pub atom_with-returns-in_ok-num-in-Div : goal.atom_with-returns-in_ok-num-in-Div
atom_with-returns-in_ok-num-in-Div t c =
    record {
      forms =
          subst (Forms Large c.divided_with.result)
          (quotient_made (replacements c.args.with) c.in-Div.num c.in-Div.den c.in-Div.is
          c.in_ok-num-in-Div.ensures.forms.0 c.in_ok-num-in-Div.ensures.forms.1)
          c.divided_with.ensures.forms;
    }

pub atom_with-returns-in_err-num-in-Mod : goal.atom_with-returns-in_err-num-in-Mod
atom_with-returns-in_err-num-in-Mod t c =
    let p = err_from_is_err_and c.from_residual-in_err-num-in-Mod.result
    c.from_residual-in_err-num-in-Mod.ensures.1 in
    rw (p.1, p.2) (record {
      forms = λ h. no_remainder (replacements c.args.with) c.in-Mod.num c.in-Mod.den c.in-Mod.is
          (c.in_err-num-in-Mod.ensures.forms h);
    })

pub atom_with-returns-in_ok-num-in-Mod : goal.atom_with-returns-in_ok-num-in-Mod
atom_with-returns-in_ok-num-in-Mod t c =
    record {
      forms =
          subst (Forms Large c.divided_with-in-Mod.result)
          (remainder_made (replacements c.args.with) c.in-Mod.num c.in-Mod.den c.in-Mod.is
          c.in_ok-num-in-Mod.ensures.forms.0 c.in_ok-num-in-Mod.ensures.forms.1)
          c.divided_with-in-Mod.ensures.forms;
    }

pub divided_with-returns-in_err-den : goal.divided_with-returns-in_err-den
divided_with-returns-in_err-den t c =
    let p = err_from_is_err_and c.from_residual.result c.from_residual.ensures.1 in
    rw (p.1, p.2) (record {
      forms = λ h. then_false (subst_body (replacements c.args.with) c.args.den.now)
          (λ q. kept is_within (divided c.args.operator c.args.num q)) (c.in_err-den.ensures.forms h);
    })

pub divided_with-returns : goal.divided_with-returns
divided_with-returns t c =
    record {
      forms =
          subst (Forms Large c.divided.result)
          (made_then (λ q. kept is_within (divided c.args.operator c.args.num q))
          c.in_ok-den.ensures.forms.0 c.in_ok-den.ensures.forms.1) c.divided.ensures.forms;
    }

pub plus_mono-returns-in_err-product : goal.plus_mono-returns-in_err-product
plus_mono-returns-in_err-product t c =
    let p = err_from_is_err_and c.from_residual.result c.from_residual.ensures.1 in
    rw (p.1, p.2) (record {
      forms = λ h. then_false (subst_mono (replacements c.args.with) c.args.mono.now c.args.by.now)
          (λ q. kept is_within (body_sum c.args.sum q)) (c.in_err-product.ensures.forms h);
    })

pub plus_mono-returns : goal.plus_mono-returns
plus_mono-returns t c =
    record {
      forms =
          subst (Forms Large c.plus.result)
          (made_then (λ q. kept is_within (body_sum c.args.sum q))
          c.in_ok-product.ensures.forms.0 c.in_ok-product.ensures.forms.1) c.plus.ensures.forms;
    }

pub times_atom-returns-in_err-factor : goal.times_atom-returns-in_err-factor
times_atom-returns-in_err-factor t c =
    let p = err_from_is_err_and c.from_residual.result c.from_residual.ensures.1 in
    rw (p.1, p.2) (record {
      forms = λ h. then_false (subst_atom (replacements c.args.with) c.args.atom.now)
          (λ q. product_formed c.args.product q) (c.in_err-factor.ensures.forms h);
    })

pub times_atom-returns : goal.times_atom-returns
times_atom-returns t c =
    record {
      forms =
          subst (Forms Large c.times.result)
          (made_then (λ q. product_formed c.args.product q)
          c.in_ok-factor.ensures.forms.0 c.in_ok-factor.ensures.forms.1) c.times.ensures.forms;
    }

pub body_with-loop-term-init : goal.body_with-loop-term-init
body_with-loop-term-init t c =
    plus_begin (replacements c.args.with) c.args.body.now c.as_slice-term-items.ensures
    c.in_ok-start.ensures

pub body_with-returns-in_err-sum : goal.body_with-returns-in_err-sum
body_with-returns-in_err-sum t c =
    let p = err_from_is_err_and c.from_residual-in_err-sum.result
    c.from_residual-in_err-sum.ensures.1 in
    rw (p.1, p.2) (record {
      forms = λ h. no_sum (replacements c.args.with) c.as_slice-term-items.result.now
          c.loop-term.term-index c.loop-term-test.true c.term-item.is c.loop-term.invariant
          (c.in_err-sum.ensures.forms h);
    })

pub body_with-loop-term-preserved : goal.body_with-loop-term-preserved
body_with-loop-term-preserved t c =
    after_term (replacements c.args.with) c.as_slice-term-items.result.now c.loop-term.term-index
    c.loop-term-test.true c.term-item.is c.loop-term.invariant c.in_ok-sum.ensures.forms.0
    c.in_ok-sum.ensures.forms.1

pub body_with-returns : goal.body_with-returns
body_with-returns t c =
    let e = plus_end (replacements c.args.with) c.as_slice-term-items.result.now
    c.loop-term.term-index c.loop-term-test.false c.loop-term.invariant in
    record {
      forms = (
        ap (λ (w : Formed Body). w.form) e,
        sym (ap (λ (w : Formed Body). w.within) e),
      );
    }

pub times_atoms-returns-in_err-product : goal.times_atoms-returns-in_err-product
times_atoms-returns-in_err-product t c =
    let p = err_from_is_err_and c.from_residual.result c.from_residual.ensures.1 in
    rw (p.1, p.2) (record {
      forms = λ h. no_product (replacements c.args.with) c.args.atoms.now c.loop-atom.atom-index
          c.loop-atom-test.true c.atom-item.is c.loop-atom.invariant
          (c.in_err-product.ensures.forms h);
    })

pub times_atoms-loop-atom-preserved : goal.times_atoms-loop-atom-preserved
times_atoms-loop-atom-preserved t c =
    after_atom (replacements c.args.with) c.args.atoms.now c.loop-atom.atom-index
    c.loop-atom-test.true c.atom-item.is c.loop-atom.invariant c.in_ok-product.ensures.forms.0
    c.in_ok-product.ensures.forms.1

pub times_atoms-returns : goal.times_atoms-returns
times_atoms-returns t c =
    let e = times_end (replacements c.args.with) c.args.atoms.now c.loop-atom.atom-index
    c.loop-atom-test.false c.loop-atom.invariant in
    record {
      forms = (
        ap (λ (w : Formed Body). w.form) e,
        sym (ap (λ (w : Formed Body). w.within) e),
      );
    }

pub product_with-returns-in_err-start : goal.product_with-returns-in_err-start
product_with-returns-in_err-start t c =
    let ws = replacements c.args.with in
    let p = err_from_is_err_and c.from_residual.result c.from_residual.ensures.1 in
    let is = sym c.as_slice-atoms.ensures ∙ c.in-Some.ensures.cases.0 in
    let one : c.args.by.now ≡ pos 1 = search rules in
    rw (p.1, p.2) (record {
      forms = λ h. ap (λ (w : Formed Body). w.within) (mono_first ws c.in-Some.first.now
          c.in-Some.others.now c.args.mono.now c.args.by.now is one) ∙
          first_fails ws c.in-Some.first.now c.in-Some.others.now (c.in_err-start.ensures.forms h);
    })

pub product_with-returns-in-Some : goal.product_with-returns-in-Some
product_with-returns-in-Some t c =
    let ws = replacements c.args.with in
    let is = sym c.as_slice-atoms.ensures ∙ c.in-Some.ensures.cases.0 in
    let one : c.args.by.now ≡ pos 1 = search rules in
    let made = c.in_ok-start.ensures.forms in
    let whole = first_made ws c.in-Some.first.now c.in-Some.others.now made.0 made.1
    c.as_normal.ensures.normal ∙ sym (mono_first ws c.in-Some.first.now c.in-Some.others.now
    c.args.mono.now c.args.by.now is one) in
    record { forms = subst (Forms Large c.times_atoms.result) whole c.times_atoms.ensures.forms }

pub mono_with-returns-in-Some : goal.mono_with-returns-in-Some
mono_with-returns-in-Some t c =
    let ws = replacements c.args.with in
    let is = sym c.as_slice.ensures ∙ c.in-Some.ensures in
    let nonzero : is_zero c.args.by.now ≡ false = search rules in
    record {
      forms =
          subst (Forms Large c.times_replaced.result)
          (sym (multiple_replaced ws c.in-Some.at c.args.mono.now c.args.by.now is nonzero
          c.times_replaced.ensures.normal))
          c.times_replaced.ensures.forms;
    }
