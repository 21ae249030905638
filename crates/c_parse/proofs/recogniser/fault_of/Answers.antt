use Rattle.std.proofs.Common.{◌≡◌, ℕ, ◌<◌, [], ◌∷◌, Option, None, IfOk, length, reverse, sym, ◌∙◌, ap, subst, arith}
use Rattle.c_parse.specs.Recogniser.{ended, fed, fault}
use Rattle.c_parse.proofs.StackLemmas.{fault_lost, fault_on, fault_end}
use Rattle.c_parse.proofs.recogniser.fault_of.Goals as goal

pub returns-then-not-branch : goal.returns-then-not-branch
returns-then-not-branch c =
    let low : c.loop-at.at < length c.args.tokens.now = omega arith in
    sym (fault_lost c.args.tokens.now (reverse c.loop-at.stack.items) c.feed.new.stack.items
    c.loop-at.at _ low (rw c.if-not-branch.true at c.in_ok-feed.ensures)) ∙ c.loop-at.invariant

pub loop-at-preserved : goal.loop-at-preserved
loop-at-preserved c =
    let low : c.loop-at.at < length c.args.tokens.now = omega arith in
    sym (fault_on c.args.tokens.now (reverse c.loop-at.stack.items) c.feed.new.stack.items
    c.loop-at.at _ low (rw c.if-not-branch.false at c.in_ok-feed.ensures)) ∙ c.loop-at.invariant

pub returns : goal.returns
returns c =
    let over : c.loop-at.at ≡ length c.args.tokens.now = omega arith in
    let ss = reverse c.loop-at.stack.items in
    let same : ended (fed ss None) (length c.args.tokens.now) ≡
    fault (c.args.start ∷ []) 0 c.args.tokens.now =
    ap (ended (fed ss None)) (sym over) ∙ (fault_end c.args.tokens.now ss c.loop-at.at over ∙
    c.loop-at.invariant) in
    subst (λ (z : Option ℕ). IfOk c.at_end.result (λ o. o ≡ z)) same c.at_end.ensures
