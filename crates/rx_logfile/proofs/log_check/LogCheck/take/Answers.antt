use Rattle.std.proofs.Common.{◌≡◌, ◌<◌, ℕ, Option, eqb, sym, subst, List, [], ◌∷◌, length, false}
use Rattle.std.specs.Prelude.{IfSome}
use Rattle.rx_logfile.specs.Checking.{IsCount, TakesLine}
use Rattle.rx_logfile.proofs.LogFileLemmas.{TakenSoFar, fewer_left, line_taken, nothing_taken}
use Rattle.rx_logfile.proofs.log_check.LogCheck.take.Goals as goal

some_left : (xs : List ℕ) → eqb (length xs) 0 ≡ false → xs ≡ [] → ⊥
some_left [] e f = cc
some_left (x ∷ xs) e f = cc

pub loop-left-init : goal.loop-left-init
loop-left-init c =
    nothing_taken c.args.rules.now c.args.piece.now c.requires.step c.requires.room

pub loop-left-smaller : goal.loop-left-smaller
loop-left-smaller c =
    let count : IsCount c.loop-left.left.now c.in-Some.count =
    subst (λ (o : Option ℕ). IfSome o (IsCount c.loop-left.left.now)) c.in-Some.is
    c.in_ok-count.ensures.count in
    let fewer : length c.bytes_after-left.result.now < length c.loop-left.left.now =
    subst (λ (l : List ℕ). length l < length c.loop-left.left.now) (sym c.bytes_after-left.ensures)
    (fewer_left c.loop-left.left.now c.in-Some.count
    (some_left c.loop-left.left.now (sym c.loop-left-test.ensures)) count) in
    fewer

pub loop-left-preserved : goal.loop-left-preserved
loop-left-preserved c =
    let count : IsCount c.loop-left.left.now c.in-Some.count =
    subst (λ (o : Option ℕ). IfSome o (IsCount c.loop-left.left.now)) c.in-Some.is
    c.in_ok-count.ensures.count in
    subst (λ (left : List ℕ). TakenSoFar c.args.self.now c.take_line.new.self c.args.rules.now
    c.args.piece.now left) (sym c.bytes_after-left.ensures)
    (line_taken c.in-Some.count c.take_line.new.self c.loop-left.invariant
    (some_left c.loop-left.left.now (sym c.loop-left-test.ensures)) count
    (λ target bytes h. subst (λ (o : Option ℕ).
    TakesLine c.take_line.new.self c.args.rules.now target bytes c.loop-left.left.now o)
    c.in-Some.is (c.in_ok-count.ensures.takes target bytes h))
    c.in_ok-count.ensures.step c.in_ok-count.ensures.lines)
