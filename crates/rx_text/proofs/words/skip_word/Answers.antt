-- The word is at the place exactly where the rest of the bytes starts with it.
use Rattle.std.proofs.Common.{◌≡◌, ◌∙◌, ap, sym, refl, arith, ◌+◌, ◌-◌, ◌≤◌, ◌++◌, length, drop, take, min, true}
use Rattle.std.proofs.lemmas.List.{drop_all, drop-drop, length-append, length-drop, length-take, take-append-drop, take_at}
use Rattle.rx_text.proofs.words.skip_word.Goals as goal

pub returns-then-at-bytes : goal.returns-then-at-bytes
returns-then-at-bytes c = λ left e.
    let past : length c.args.bytes.now ≤ c.args.at = omega arith in
    let long : 0 ≡ length c.args.word.now + length left =
    ap length (sym (drop_all c.args.at c.args.bytes.now past) ∙ e)
    ∙ length-append c.args.word.now left in
    absurd (omega (arith, long))

pub returns-then-begin_with : goal.returns-then-begin_with
returns-then-begin_with c =
    let word = c.args.word.now in
    let n = length word in
    let rest = c.rest_from.result.now in
    let begins : word ≡ take n rest = c.begin_with.ensures.0 c.if-begin_with.true in
    let counted : length word ≡ min n (length rest) = ap length begins ∙ length-take n rest in
    let bound : n ≤ length rest = omega (arith, counted) in
    let long : length rest ≡ length c.args.bytes.now - c.args.at =
    ap length c.rest_from.ensures ∙ length-drop c.args.at c.args.bytes.now in (
      refl,
      (
        omega (arith, long, bound),
        sym c.rest_from.ensures ∙ sym (take-append-drop n rest)
            ∙ (λ i. sym begins i ++ drop n (c.rest_from.ensures i))
            ∙ ap (λ s. word ++ s) (drop-drop n c.args.at c.args.bytes.now),
      ),
    )

pub returns-else-begin_with : goal.returns-else-begin_with
returns-else-begin_with c = λ left e.
    let word = c.args.word.now in
    let told : c.begin_with.result ≡ true =
    c.begin_with.ensures.1 (sym (take_at word left (length word) refl) ∙
    ap (take (length word)) (sym e ∙ sym c.rest_from.ensures)) in
    let other = c.if-begin_with.false in cc
