use Rattle.std.proofs.Common.{◌<◌, ◌∙◌, ap, sym, arith, length}
use Rattle.std.proofs.lemmas.Result.{IfOk-weaker}
use Rattle.c_ast.specs.declared.program.Function.{Function}
use Rattle.rx_term.specs.Paired.{IsPaired}
use Rattle.rx_code.specs.Translation.{IsTranslation}
use Rattle.rx_code.proofs.CodeLawsTranslations.{translation_paired}
use Rattle.rx_translate.specs.declared.translation.Translation.{Translation}
use Rattle.rx_translate.proofs.Translated.{no_difference}
use Rattle.rx_translate.proofs.translation.rules_of.Goals as goal

pub returns-clause-paired : goal.returns-clause-paired
returns-clause-paired c =
    let program = c.args.program.now in
    IfOk-weaker c.translated.result (λ (t : Translation).
    IsTranslation c.args.integers program c.args.first c.args.second t.rules t.first t.second)
    (λ (t : Translation). IsPaired t.rules)
    (λ t is. translation_paired c.args.integers program c.requires.scoped c.args.first
    c.args.second t.rules t.first t.second is) c.translated.ensures.translation

pub returns-clause-arity : goal.returns-clause-arity
returns-clause-arity c =
    let program = c.args.program.now in
    let functions = c.as_slice-functions.result.now in
    let one = c.index-functions-first.result in
    let other = c.index-functions-second.result in
    let size = ap length c.as_slice-functions.ensures in
    let first_there = c.requires.first_there in
    let second_there = c.requires.second_there in
    let first_lent : c.args.first < length functions = omega (arith, size, first_there) in
    let second_lent : c.args.second < length functions = omega (arith, size, second_there) in
    let count = λ (h : Function). length h.params in
    let equal = ap count c.index-functions-first.is ∙ sym c.len-one.ensures ∙ c.if-one-other.false ∙
    c.len-other.ensures ∙ sym (ap count c.index-functions-second.is) in
    λ m n. (
      λ e. absurd (c.translated.ensures.no_arity m n e),
      λ differ. absurd (no_difference program functions c.args.first c.args.second one other
          c.as_slice-functions.ensures first_lent second_lent c.index-functions-first.is
          c.index-functions-second.is equal m n differ),
    )
