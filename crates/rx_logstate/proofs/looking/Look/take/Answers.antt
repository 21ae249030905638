-- Each turn takes a line, or the rest of the piece.
use Rattle.std.proofs.Common.{◌≡◌, ◌<◌, ℕ, eqb, sym, subst, List, [], ◌∷◌, length, false}
use Rattle.std.proofs.lemmas.Result.{err_from_is_err_and}
use Rattle.rx_logstate.proofs.LookLemmas.{TakenSoFar, ends_bad, fewer_left, line_taken, nothing_taken}
use Rattle.rx_logstate.proofs.looking.Look.take.Goals as goal

some_left : (xs : List ℕ) → eqb (length xs) 0 ≡ false → xs ≡ [] → ⊥
some_left [] e f = cc
some_left (x ∷ xs) e f = cc

pub loop-left-smaller : goal.loop-left-smaller
loop-left-smaller c =
    let fewer : length c.bytes_after-left.result.now < length c.loop-left.left.now =
    subst (λ (l : List ℕ). length l < length c.loop-left.left.now) (sym c.bytes_after-left.ensures)
    (fewer_left c.loop-left.left.now c.in_ok-count.count
    (some_left c.loop-left.left.now (sym c.loop-left-test.ensures)) c.in_ok-count.ensures.count) in
    fewer

pub loop-left-preserved : goal.loop-left-preserved
loop-left-preserved c =
    subst (λ (left : List ℕ). TakenSoFar c.args.self.now c.take_line.new.self c.args.rules.now
    c.args.piece.now left) (sym c.bytes_after-left.ensures)
    (line_taken c.in_ok-count.count c.take_line.new.self c.loop-left.invariant
    (some_left c.loop-left.left.now (sym c.loop-left-test.ensures)) c.in_ok-count.ensures.count
    c.in_ok-count.ensures.takes c.in_ok-count.ensures.lines)

pub loop-left-init : goal.loop-left-init
loop-left-init c = nothing_taken c.args.rules.now c.args.piece.now c.requires.room

pub returns-in_err-count-clause-bad : goal.returns-in_err-count-clause-bad
returns-in_err-count-clause-bad c =
    let p = err_from_is_err_and c.from_residual.result c.from_residual.ensures.1 in
    rw (p.1, p.2) (λ e. ends_bad c.loop-left.invariant (c.in_err-count.ensures.bad (cc)))
