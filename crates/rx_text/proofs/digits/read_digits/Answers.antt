-- The run of digits is the text of the number that is there, and of no other.
use Rattle.std.proofs.Common.{◌≡◌, ◌∙◌, ap, subst, sym, arith, ℕ, ◌-◌, ◌<◌, ◌≤◌, ◌^◌, true, length, List, Some}
use Rattle.std.proofs.lemmas.Bool.{leb-true}
use Rattle.rx_text.specs.Formats.{BeginsWith}
use Rattle.rx_text.specs.Numbers.{is_digit, natural_text, naturals}
use Rattle.std.specs.List.{prefix_len}
use Rattle.rx_text.proofs.Decimals.{nothing_past, run_is_text, stands}
use Rattle.rx_text.proofs.digits.read_digits.Goals as goal

most_is_less : 2 ^ 128 - 1 < 10 ^ 64
most_is_less = omega arith

fits : (n : ℕ) {bytes left : _} → BeginsWith (naturals (2 ^ 128 - 1)) bytes n left → n < 2 ^ 128
fits n b = let le : n ≤ 2 ^ 128 - 1 = leb-true n (2 ^ 128 - 1) b.in_range in omega arith

run : {n : ℕ} {s rest : List ℕ} → n ≡ prefix_len is_digit s → s ≡ rest → n ≡
    prefix_len is_digit rest
run h e = h ∙ ap (prefix_len is_digit) e

pub returns-then-at-bytes : goal.returns-then-at-bytes
returns-then-at-bytes c =
    λ thing left b. nothing_past c.args.bytes.now c.args.at most_is_less c.if-at-bytes.true b

pub returns-in_default-value_of : goal.returns-in_default-value_of
returns-in_default-value_of c = λ thing left b.
    let text =
    run_is_text c.args.bytes.now c.args.at most_is_less
    (run c.run_of_digits.ensures.run c.rest_from.ensures) b in
    let read = c.value_of.ensures.value thing (fits thing b) text in
    let other = c.in_default-value_of.is in cc

pub returns-then-is_text_of : goal.returns-then-is_text_of
returns-then-is_text_of c =
    stands c.args.bytes.now c.args.at (run c.run_of_digits.ensures.run c.rest_from.ensures)
    c.if-at-bytes.false
    (subst (λ s. c.run_of_digits.result ≤ length s) c.rest_from.ensures
    c.run_of_digits.ensures.within)
    c.in-Some-value_of.ensures.fits (c.is_text_of.ensures.0 c.if-is_text_of.true)

pub returns-else-is_text_of : goal.returns-else-is_text_of
returns-else-is_text_of c = λ thing left b.
    let text =
    run_is_text c.args.bytes.now c.args.at most_is_less
    (run c.run_of_digits.ensures.run c.rest_from.ensures) b in
    let read = c.value_of.ensures.value thing (fits thing b) text in
    let same : Some thing ≡ Some c.in-Some-value_of.value = sym read ∙ c.in-Some-value_of.is in
    let number : thing ≡ c.in-Some-value_of.value = cc in
    let told : c.is_text_of.result ≡ true =
    c.is_text_of.ensures.1 (text ∙ ap natural_text number) in
    let other = c.if-is_text_of.false in cc
