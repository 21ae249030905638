-- One candidate more is chosen, or a list has none.
use Rattle.std.proofs.Common.{◌≡◌, ◌∙◌, ap, sym, subst, arith, [], ◌∷◌, ◌<◌, ◌/◌, ◌%◌, Some, length, reverse, slice_get}
use Rattle.std.proofs.lemmas.List.{map-append, reverse-append}
use Rattle.std.proofs.lemmas.Nat.{mod_below}
use Rattle.rx_term.proofs.Places.{at_some}
use Rattle.rx_anchors.specs.Choices.{lists_in}
use Rattle.rx_anchors.specs.Values.{polys_at}
use Rattle.rx_anchors.proofs.Products.{Leaves, next_chosen, none_chosen}
use Rattle.rx_anchors.proofs.choices.choice_at.Goals as goal

pub returns-then-count-eq0 : goal.returns-then-count-eq0
returns-then-count-eq0 c =
    let last = c.in-Some.last.now in
    let split = ap lists_in c.in-Some.ensures.cases.0 ∙
    map-append (λ v. v.items) c.in-Some.before.now (last ∷ []) in
    let none : length last.items ≡ 0 = omega (arith, c.len-count.ensures, c.if-count-eq0.true) in
    sym (none_chosen (lists_in c.args.lists.now) (lists_in c.loop-last.rest.now) c.args.number
    c.loop-last.left (polys_at (reverse c.loop-last.choice.items)) c.loop-last.invariant
    (lists_in c.in-Some.before.now) last.items split none)

pub loop-last-preserved : goal.loop-last-preserved
loop-last-preserved c =
    let lists = lists_in c.args.lists.now in
    let before = lists_in c.in-Some.before.now in
    let last = c.in-Some.last.now in
    let left = c.loop-last.left in
    let old = c.loop-last.choice.items in
    let x = c.index.result in
    let split = ap lists_in c.in-Some.ensures.cases.0 ∙
    map-append (λ v. v.items) c.in-Some.before.now (last ∷ []) in
    let count : c.len-count.result ≡ length last.items = omega (arith, c.len-count.ensures) in
    let some : 0 < c.len-count.result = omega (arith, c.if-count-eq0.false) in
    let below : left % c.len-count.result < length last.items =
    omega (arith, count, mod_below left c.len-count.result some) in
    let there : slice_get last.items (left % length last.items) ≡ Some x.now =
    subst (λ n. slice_get last.items (left % n) ≡ Some x.now) count
    (at_some last.items (left % c.len-count.result) x.now x.now below c.index.ensures) in
    let more : x.now ∷ polys_at (reverse old) ≡ polys_at (reverse c.push.new.self.items) =
    ap polys_at (sym (ap reverse c.in_ok-push.ensures.items ∙ reverse-append old (x ∷ []))) in
    subst (λ ps. Leaves lists before c.args.number (left / c.len-count.result) ps) more
    (subst (λ n. Leaves lists before c.args.number (left / n) (x.now ∷ polys_at (reverse old)))
    (sym count)
    (next_chosen lists (lists_in c.loop-last.rest.now) c.args.number left (polys_at (reverse old))
    c.loop-last.invariant before last.items x.now split there))
