-- The polynomials after the first one are read in a loop.
use Rattle.std.proofs.Common.{◌∙◌, ap, ◌++◌, ◌∷◌, []}
use Rattle.std.proofs.lemmas.List.{append_assoc}
use Rattle.rx_text.specs.Polynomials.{polynomials}
use Rattle.rx_text.proofs.Lists.{one_more_read}
use Rattle.rx_text.proofs.Readers.{absent, found}
use Rattle.rx_term_words.proofs.ArgumentLaws.{no_first, no_next, some_stand}
use Rattle.rx_term_words.proofs.arguments.read_some.Goals as goal

pub returns-in_default : goal.returns-in_default
returns-in_default c =
    no_first c.args.bytes.now c.args.at (absent polynomials c.args.bytes.now c.args.at
    c.in_default.is c.in_ok-first.ensures)

pub returns-in_default-2 : goal.returns-in_default-2
returns-in_default-2 c =
    let bytes = c.args.bytes.now in
    no_next bytes c.args.at (found polynomials bytes c.args.at c.in-Some.is c.in_ok-first.ensures)
    c.loop-after.invariant.2 c.in-Some-skip_word.ensures
    (absent polynomials bytes c.in-Some-skip_word.after c.in_default-2.is c.in_ok-poly.ensures)

pub loop-after-preserved : goal.loop-after-preserved
loop-after-preserved c =
    let bytes = c.args.bytes.now in
    let poly = found polynomials bytes c.in-Some-skip_word.after c.in-Some-2.is c.in_ok-poly.ensures
    in
    let listed =
    c.in_ok-push-2.ensures.ok ∙ ap (λ s. s ++ c.in-Some-2.poly ∷ []) c.loop-after.invariant.1
    ∙ append_assoc c.push.new.self c.loop-after.invariant.0 (c.in-Some-2.poly ∷ []) in
    let so_far = c.loop-after.invariant.2 in (
      c.loop-after.invariant.0 ++ c.in-Some-2.poly ∷ [],
      listed,
      one_more_read 44 polynomials bytes c.in-Some.first_end so_far c.in-Some-skip_word.ensures
          poly,
    )

pub returns : goal.returns
returns c =
    let bytes = c.args.bytes.now in
    let begin = c.in_ok-push.ensures.ok ∙ ap (λ s. s ++ c.in-Some.first ∷ []) c.new-polys.ensures in
    some_stand bytes c.args.at
    (found polynomials bytes c.args.at c.in-Some.is c.in_ok-first.ensures)
    c.loop-after.invariant.2 c.in_default-skip_word.ensures
    (c.loop-after.invariant.1 ∙ ap (λ s. s ++ c.loop-after.invariant.0) begin)
