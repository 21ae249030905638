-- The hypotheses are listed after the rules, where all pairs of these are listed.
use Rattle.std.proofs.Common.{◌∙◌, ap}
use Rattle.rx_pairs.proofs.InsideLaws.{ends_there, goes_further}
use Rattle.rx_pairs.proofs.listing.listed_pairs.Goals as goal

pub returns-then-first : goal.returns-then-first
returns-then-first c =
    let parts = c.args.rules.now in
    let rules = c.as_slice.ensures ∙ ap (λ all. all.rules) c.parts-all.ensures.parts in
    goes_further parts parts.rules c.args.hypotheses.now c.as_slice.result.now rules
    c.new-pairs.result c.push_listed.new.pairs c.new-pairs.ensures c.in_ok-first.first
    c.in_ok-first.ensures.pairs c.in_ok-first.ensures.whole c.if-first.true
    c.push_listed-then-first.new.pairs c.in_ok-whole.whole c.in_ok-whole.ensures.pairs
    c.in_ok-whole.ensures.whole

pub returns : goal.returns
returns c =
    let parts = c.args.rules.now in
    let rules = c.as_slice.ensures ∙ ap (λ all. all.rules) c.parts-all.ensures.parts in
    ends_there parts parts.rules c.args.hypotheses.now c.as_slice.result.now rules
    c.new-pairs.result c.push_listed.new.pairs c.new-pairs.ensures c.in_ok-first.first
    c.in_ok-first.ensures.pairs c.in_ok-first.ensures.whole c.if-first.false
