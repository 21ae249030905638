use Rattle.std.proofs.Common.{◌≡◌, ◌<◌, refl, sym, subst, ap, ℕ, suc, eqb, Result, Ok, Err, List, [], ◌∷◌, length, true, false, arith}
use Rattle.std.proofs.lemmas.Bool.{eqb-true}
use Rattle.std.proofs.lemmas.List.{length-drop}
use Rattle.std.specs.Result.{IsErrAnd}
use Rattle.rx_log.specs.declared.log.Log.{Log}
use Rattle.rx_logtext.specs.declared.log_end.LogEnd.{LogEnd}
use Rattle.rx_logtext.specs.Logs.{ReadsLog, up_to_feed}
use Rattle.rx_logtext.proofs.Cuts.{up_to_feed-some}
use Rattle.rx_logtext.proofs.Texts.{ReadSoFar, finished, not_finished, piece_read, refused}
use Rattle.rx_logtext.proofs.read.read_log.Goals as goal

same_end : (result : Result Log LogEnd) (end : LogEnd) → IsErrAnd result (λ e. e ≡ end) → Err end ≡
    result
same_end (Ok log) end h = absurd h
same_end (Err e) end h = ap (λ (x : LogEnd). let r : Result Log LogEnd = Err x in r) (sym h)

none_left : (xs : List ℕ) → true ≡ eqb (length xs) 0 → xs ≡ []
none_left [] e = refl
none_left (x ∷ xs) e =
    let f : suc (length xs) ≡ 0 = eqb-true (suc (length xs)) 0 (sym e) in absurd (omega arith)

some_left : (xs : List ℕ) → eqb (length xs) 0 ≡ false → xs ≡ [] → ⊥
some_left [] e f = cc
some_left (x ∷ xs) e f = cc

pub returns-in_err-count : goal.returns-in_err-count
returns-in_err-count c =
    subst (λ (result : Result Log LogEnd). ReadsLog c.args.text.now result)
    (same_end c.from_residual.result c.in_err-count.field-0.0 c.from_residual.ensures.1)
    (refused c.take.new.self c.in_err-count.field-0.0 c.loop-left.invariant
    (c.in_err-count.ensures.takes c.loop-left.log c.loop-left.invariant.front
    c.loop-left.invariant.stands))

pub returns-in_err-finish : goal.returns-in_err-finish
returns-in_err-finish c =
    subst (λ (result : Result Log LogEnd). ReadsLog c.args.text.now result)
    (same_end c.from_residual-in_err-finish.result c.in_err-finish.field-0.0
    c.from_residual-in_err-finish.ensures.1)
    (not_finished c.in_err-finish.field-0.0 c.loop-left.invariant
    (none_left c.loop-left.left.now c.loop-left-test.ensures)
    (c.in_err-finish.ensures.finishes c.loop-left.log c.loop-left.invariant.front
    c.loop-left.invariant.stands))

pub returns : goal.returns
returns c =
    finished c.loop-left.invariant (none_left c.loop-left.left.now c.loop-left-test.ensures)
    (c.in_ok-finish.ensures.finishes c.loop-left.log c.loop-left.invariant.front
    c.loop-left.invariant.stands)

pub loop-left-preserved : goal.loop-left-preserved
loop-left-preserved c =
    subst (λ (left : List ℕ). ReadSoFar c.args.text.now left c.take.new.self c.push_taken.new.log)
    (sym c.text_after-left.ensures)
    (piece_read c.in_ok-count.count c.in_ok-count.line c.take.new.self c.push_taken.new.log
    c.loop-left.invariant c.in_ok-count.ensures.count
    (some_left c.loop-left.left.now (sym c.loop-left-test.ensures))
    (c.in_ok-count.ensures.takes c.loop-left.log c.loop-left.invariant.front
    c.loop-left.invariant.stands)
    c.in_ok-count.ensures.number c.in_ok-push_taken.ensures)

pub loop-left-smaller : goal.loop-left-smaller
loop-left-smaller c =
    let some : 0 < length (up_to_feed c.loop-left.left.now) =
    up_to_feed-some c.loop-left.left.now (some_left c.loop-left.left.now
    (sym c.loop-left-test.ensures)) in
    let fewer : length c.text_after-left.result.now < length c.loop-left.left.now =
    omega (
      arith,
      some,
      c.in_ok-count.ensures.count,
      c.in_ok-count.ensures.within,
      ap length c.text_after-left.ensures,
      length-drop c.in_ok-count.count c.loop-left.left.now,
    )
    in
    fewer
