-- What is read is the only thing that is there; where a part is missing nothing is there.
use Rattle.std.proofs.Common.{◌∙◌, ap, refl, sym, ◌++◌, ◌∷◌, []}
use Rattle.std.proofs.lemmas.List.{append_assoc}
use Rattle.rx_poly.specs.Limits.{of_atoms}
use Rattle.rx_poly.specs.Terms.{is_zero}
use Rattle.rx_text.specs.Plain.{atoms, is_plain_inside, sums_nested, terms}
use Rattle.rx_text.proofs.Atoms.{digit_after, no_close, no_comma, no_second_part, no_quotient, no_remainder, quotient_stands, remainder_stands}
use Rattle.rx_text.proofs.Integers.{same_integer}
use Rattle.rx_text.proofs.Lists.{one_more_read}
use Rattle.rx_text.proofs.Nesting.{inside_absent, inside_found, inside_unambiguous, no_room, plain_unambiguous}
use Rattle.rx_text.proofs.Readers.{absent, found}
use Rattle.rx_text.proofs.Sums.{coefficient_is_zero, no_coefficient, no_factor, no_term, sum_stands, term_stands}
use Rattle.rx_text.proofs.poly_reader.+reading.Goals as goal

-- ---- parts

pub read_parts-returns-in_default-skip_word : goal.read_parts-returns-in_default-skip_word
read_parts-returns-in_default-skip_word t c =
    let bytes = c.args.bytes.now in
    let num = found (sums_nested c.args.depth) bytes c.args.at c.in-Some.is c.in_ok-num.ensures in
    no_comma (sums_nested c.args.depth) refl refl (plain_unambiguous c.args.depth) bytes c.args.at
    num c.in_default-skip_word.ensures

pub read_parts-returns-in_default-2 : goal.read_parts-returns-in_default-2
read_parts-returns-in_default-2 t c =
    let bytes = c.args.bytes.now in
    let num = found (sums_nested c.args.depth) bytes c.args.at c.in-Some.is c.in_ok-num.ensures in
    no_second_part (sums_nested c.args.depth) refl refl (plain_unambiguous c.args.depth) bytes
    c.args.at num c.in-Some-skip_word.ensures
    (absent (sums_nested c.args.depth) bytes c.in-Some-skip_word.den_at c.in_default-2.is
    c.in_ok-den.ensures)

pub read_parts-returns-in_default-skip_word-2 : goal.read_parts-returns-in_default-skip_word-2
read_parts-returns-in_default-skip_word-2 t c =
    let bytes = c.args.bytes.now in
    let num = found (sums_nested c.args.depth) bytes c.args.at c.in-Some.is c.in_ok-num.ensures in
    let den =
    found (sums_nested c.args.depth) bytes c.in-Some-skip_word.den_at c.in-Some-2.is
    c.in_ok-den.ensures in
    no_close (sums_nested c.args.depth) refl refl (plain_unambiguous c.args.depth) bytes c.args.at
    num c.in-Some-skip_word.ensures den c.in_default-skip_word-2.ensures

pub read_parts-returns-else-ends_number : goal.read_parts-returns-else-ends_number
read_parts-returns-else-ends_number t c =
    let bytes = c.args.bytes.now in
    let num = found (sums_nested c.args.depth) bytes c.args.at c.in-Some.is c.in_ok-num.ensures in
    let den =
    found (sums_nested c.args.depth) bytes c.in-Some-skip_word.den_at c.in-Some-2.is
    c.in_ok-den.ensures in
    digit_after (sums_nested c.args.depth) refl refl (plain_unambiguous c.args.depth) bytes
    c.args.at num c.in-Some-skip_word.ensures den c.in-Some-skip_word-2.ensures
    (sym c.ends_number.ensures ∙ c.if-ends_number.false)

-- ---- atoms

pub read_atom-returns-then-depth-eq0 : goal.read_atom-returns-then-depth-eq0
read_atom-returns-then-depth-eq0 t c =
    no_room c.args.bytes.now c.args.at c.args.depth c.if-depth-eq0.true c.in_default.ensures

pub read_atom-returns-in-Some-2 : goal.read_atom-returns-in-Some-2
read_atom-returns-in-Some-2 t c =
    let bytes = c.args.bytes.now in
    let after = c.in-Some-skip_word.after in
    quotient_stands (is_plain_inside c.args.depth) bytes c.args.at c.in-Some-skip_word.ensures
    (inside_found c.args.depth bytes after c.if-depth-eq0.false c.in-Some-2.is
    c.in_ok-parts.ensures)

pub read_atom-returns-in-None-2 : goal.read_atom-returns-in-None-2
read_atom-returns-in-None-2 t c =
    let bytes = c.args.bytes.now in
    let after = c.in-Some-skip_word.after in
    no_quotient (is_plain_inside c.args.depth) bytes c.args.at c.in-Some-skip_word.ensures
    (inside_absent c.args.depth bytes after c.if-depth-eq0.false c.in-None-2.is
    c.in_ok-parts.ensures)

pub read_atom-returns-in-Some-3 : goal.read_atom-returns-in-Some-3
read_atom-returns-in-Some-3 t c =
    let bytes = c.args.bytes.now in
    let after = c.in-Some-skip_word-2.after in
    let parts = c.in_ok-parts-2.ensures in
    remainder_stands (is_plain_inside c.args.depth) bytes c.args.at c.in-Some-skip_word-2.ensures
    (inside_found c.args.depth bytes after c.if-depth-eq0.false c.in-Some-3.is parts)

pub read_atom-returns-in-None-3 : goal.read_atom-returns-in-None-3
read_atom-returns-in-None-3 t c =
    let bytes = c.args.bytes.now in
    let after = c.in-Some-skip_word-2.after in
    let parts = c.in_ok-parts-2.ensures in
    no_remainder (is_plain_inside c.args.depth) bytes c.args.at c.in-Some-skip_word-2.ensures
    (inside_absent c.args.depth bytes after c.if-depth-eq0.false c.in-None-3.is parts)

-- ---- terms

pub read_term-returns-in_default : goal.read_term-returns-in_default
read_term-returns-in_default t c =
    no_coefficient (is_plain_inside c.args.depth) (inside_unambiguous c.args.depth) c.args.bytes.now
    c.args.at c.in_default.ensures

pub read_term-returns-then-is_zero : goal.read_term-returns-then-is_zero
read_term-returns-then-is_zero t c =
    coefficient_is_zero (is_plain_inside c.args.depth) (inside_unambiguous c.args.depth)
    c.args.bytes.now c.args.at c.in-Some.ensures
    (ap is_zero (sym (same_integer c.in-Some.ensures.begins)) ∙ sym c.is_zero.ensures ∙
    c.if-is_zero.true)

pub read_term-returns-in_default-2 : goal.read_term-returns-in_default-2
read_term-returns-in_default-2 t c =
    no_factor (is_plain_inside c.args.depth) (inside_unambiguous c.args.depth) c.args.bytes.now
    c.args.at c.in-Some.ensures c.loop-after.invariant c.in-Some-skip_word.ensures
    (absent (atoms (is_plain_inside c.args.depth)) c.args.bytes.now c.in-Some-skip_word.after
    c.in_default-2.is c.in_ok-atom.ensures)

pub read_term-returns : goal.read_term-returns
read_term-returns t c =
    term_stands (is_plain_inside c.args.depth) (inside_unambiguous c.args.depth) c.args.bytes.now
    c.args.at c.in-Some.ensures
    (ap is_zero (sym (same_integer c.in-Some.ensures.begins)) ∙ sym c.is_zero.ensures ∙
    c.if-is_zero.false)
    c.loop-after.invariant c.in_default-skip_word.ensures
    (c.term_of.ensures ∙ (λ i. (
      of_atoms c.loop-after.factors,
      same_integer c.in-Some.ensures.begins i,
    )))

-- ---- sums

pub read_sum-returns-in_default-2 : goal.read_sum-returns-in_default-2
read_sum-returns-in_default-2 t c =
    let inner = is_plain_inside c.args.depth in
    let bytes = c.args.bytes.now in
    no_term inner (inside_unambiguous c.args.depth) bytes c.args.at
    (found (terms inner) bytes c.args.at c.in-Some.is c.in_ok-first.ensures)
    c.loop-after.invariant.2 c.in-Some-skip_word.ensures
    (absent (terms inner) bytes c.in-Some-skip_word.after c.in_default-2.is c.in_ok-term.ensures)

pub read_sum-loop-after-preserved : goal.read_sum-loop-after-preserved
read_sum-loop-after-preserved t c =
    let inner = is_plain_inside c.args.depth in
    let bytes = c.args.bytes.now in
    let term =
    found (terms inner) bytes c.in-Some-skip_word.after c.in-Some-2.is c.in_ok-term.ensures in
    let listed =
    c.in_ok-push-2.ensures.ok ∙ ap (λ s. s ++ c.in-Some-2.term ∷ []) c.loop-after.invariant.1
    ∙ append_assoc c.push.new.self c.loop-after.invariant.0 (c.in-Some-2.term ∷ []) in
    let so_far = c.loop-after.invariant.2 in (
      c.loop-after.invariant.0 ++ c.in-Some-2.term ∷ [],
      listed,
      one_more_read 43 (terms inner) bytes c.in-Some.first_end so_far c.in-Some-skip_word.ensures
          term,
    )

pub read_sum-returns : goal.read_sum-returns
read_sum-returns t c =
    let inner = is_plain_inside c.args.depth in
    let bytes = c.args.bytes.now in
    let begin = c.in_ok-push.ensures.ok ∙ ap (λ s. s ++ c.in-Some.first ∷ []) c.new-summands.ensures
    in
    sum_stands inner (inside_unambiguous c.args.depth) bytes c.args.at
    (found (terms inner) bytes c.args.at c.in-Some.is c.in_ok-first.ensures)
    c.loop-after.invariant.2 c.in_default-skip_word.ensures
    (c.loop-after.invariant.1 ∙ ap (λ s. s ++ c.loop-after.invariant.0) begin)
