use Rattle.std.proofs.Common.{◌≡◌, ◌++◌, [], ◌∷◌, Option, Ok, List, true, false, length, sym, ◌∙◌, subst}
use Rattle.rx_plain.proofs.Lists.{empty_by_length}
use Rattle.c_parse.specs.declared.symbol.Symbol.{Symbol}
use Rattle.c_parse.specs.declared.symbol.Step.TheVariants as step
use Rattle.c_parse.specs.Actions.{action}
use Rattle.c_parse.specs.Recogniser.{Acts, IsFed}
use Rattle.c_parse.proofs.StackLemmas.{fed_taken, fed_skipped, fed_lost, fed_over, fed_without}
use Rattle.c_parse.proofs.recogniser.feed.Goals as goal

pub returns-in-Shifted : goal.returns-in-Shifted
returns-in-Shifted c =
    let a : Acts (Ok step.Shifted) c.pop.new.self.items c.act.new.stack.items
    (action c.in-Some.symbol c.args.kind) = rw c.in-Shifted.is at c.in_ok-act.ensures in
    let h : c.loop-symbol.stack.items ≡ c.pop.new.self.items ++ (c.in-Some.symbol ∷ []) =
    c.in-Some.ensures.items in
    subst (λ (o : Option (List Symbol)). IsFed true c.act.new.stack.items o) c.loop-symbol.invariant
    (fed_taken c.loop-symbol.stack.items c.pop.new.self.items c.act.new.stack.items c.in-Some.symbol
    c.args.kind h a)

pub loop-symbol-preserved : goal.loop-symbol-preserved
loop-symbol-preserved c =
    let a : Acts (Ok step.Popped) c.pop.new.self.items c.act.new.stack.items
    (action c.in-Some.symbol c.args.kind) = rw c.in-Popped.is at c.in_ok-act.ensures in
    let h : c.loop-symbol.stack.items ≡ c.pop.new.self.items ++ (c.in-Some.symbol ∷ []) =
    c.in-Some.ensures.items in
    let s = fed_skipped c.loop-symbol.stack.items c.pop.new.self.items c.act.new.stack.items
    c.in-Some.symbol c.args.kind h a in
    s.0 ∙ c.loop-symbol.invariant

pub returns-in-Rejected : goal.returns-in-Rejected
returns-in-Rejected c =
    let a : Acts (Ok step.Rejected) c.pop.new.self.items c.act.new.stack.items
    (action c.in-Some.symbol c.args.kind) = rw c.in-Rejected.is at c.in_ok-act.ensures in
    let h : c.loop-symbol.stack.items ≡ c.pop.new.self.items ++ (c.in-Some.symbol ∷ []) =
    c.in-Some.ensures.items in
    subst (λ (o : Option (List Symbol)). IsFed false c.act.new.stack.items o)
    c.loop-symbol.invariant
    (fed_lost c.loop-symbol.stack.items c.pop.new.self.items c.act.new.stack.items c.in-Some.symbol
    c.args.kind h a)

pub returns-in-None : goal.returns-in-None
returns-in-None c =
    let w = c.in_default.ensures.cases in
    let old : length c.loop-symbol.stack.items ≡ 0 = sym c.loop-symbol.stack.ok.0 ∙ w.0 in
    let new : length c.pop.new.self.items ≡ 0 = sym c.pop.new.self.ok.0 ∙ w.1 in
    subst (λ (o : Option (List Symbol)). IsFed true c.pop.new.self.items o) c.loop-symbol.invariant
    (fed_over c.loop-symbol.stack.items c.pop.new.self.items c.args.kind
    (empty_by_length c.loop-symbol.stack.items old) (empty_by_length c.pop.new.self.items new) c.in-None.is)

pub returns-in-Some-kind : goal.returns-in-Some-kind
returns-in-Some-kind c =
    let w = c.in_default.ensures.cases in
    let old : length c.loop-symbol.stack.items ≡ 0 = sym c.loop-symbol.stack.ok.0 ∙ w.0 in
    subst (λ (o : Option (List Symbol)). IsFed false c.pop.new.self.items o) c.loop-symbol.invariant
    (fed_without c.loop-symbol.stack.items c.pop.new.self.items c.args.kind c.in-Some-kind.field-0
    (empty_by_length c.loop-symbol.stack.items old) c.in-Some-kind.is)
