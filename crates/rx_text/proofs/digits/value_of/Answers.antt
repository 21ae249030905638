-- A decimal text is ASCII, and `parse` reads its number.
use Rattle.std.proofs.Common.{◌∙◌, subst, sym, arith, ◌<◌, ◌^◌}
use Rattle.std.proofs.lemmas.Fmt.{IsAscii-decimal_wide, parse-decimal_wide}
use Rattle.std.proofs.lemmas.Str.{IsUtf8-from_ascii}
use Rattle.std.specs.Str.{IsUtf8}
use Rattle.rx_text.specs.Numbers.{natural_text}
use Rattle.rx_text.proofs.digits.value_of.Goals as goal

pub returns-in_default-clause-value : goal.returns-in_default-clause-value
returns-in_default-clause-value c = λ n small is.
    let wide : n < 10 ^ 64 = omega arith in
    absurd
    (c.in_default.ensures.cases.0 (subst IsUtf8 (sym is)
    (IsUtf8-from_ascii (natural_text n) (IsAscii-decimal_wide n wide))))

pub returns-in_default-parse-clause-value : goal.returns-in_default-parse-clause-value
returns-in_default-parse-clause-value c = λ n small is.
    let wide : n < 10 ^ 64 = omega arith in
    let text = c.in-Ok.ensures.cases.0 ∙ is in
    let read =
    parse-decimal_wide 128 n c.in-Ok.text.now c.parse.result small wide text c.parse.ensures.value.0
    in
    let other = c.in_default-parse.is in cc

pub returns-clause-value : goal.returns-clause-value
returns-clause-value c = λ n small is.
    let wide : n < 10 ^ 64 = omega arith in
    let text = c.in-Ok.ensures.cases.0 ∙ is in
    let read =
    parse-decimal_wide 128 n c.in-Ok.text.now c.parse.result small wide text c.parse.ensures.value.0
    in
    let other = c.in-Ok-parse.is in cc
