-- The kinds are what they are to be, and their numbers say how many come of them.
use Rattle.std.proofs.Common.{rules, ◌∙◌, ap, sym, length, nat_le, pos, int_lt, List}
use Rattle.std.proofs.lemmas.Bool.{and_from, and_left}
use Rattle.std.specs.List.{list_all}
use Rattle.rx_fm.specs.Elimination.{at, negative, stage, pairs_within, positive}
use Rattle.rx_fm.specs.declared.combination.Combination.{Combination}
use Rattle.rx_fm.proofs.Stages.{count_is, all_filtered}
use Rattle.rx_fm.proofs.stage.stage.Goals as goal

pub returns-then-not-are_few : goal.returns-then-not-are_few
returns-then-not-are_few c = λ _.
    let m = c.args.mono.now in
    let cs = c.args.combinations in
    let count = count_is m cs c.in_ok-split.ensures.without c.in_ok-split.ensures.positive
    c.in_ok-split.ensures.negative in
    and_left (nat_le (length (stage m cs)) c.args.limit)
    (pairs_within m (positive m cs) (negative m cs))
    (ap (λ n. nat_le n c.args.limit) (sym count) ∙ sym c.are_few.ensures ∙ c.if-not-are_few.true)

pub push_pairs-requires-clause-firsts : goal.push_pairs-requires-clause-firsts
push_pairs-requires-clause-firsts c =
    ap (λ (cs : List Combination). list_all (λ k. int_lt (pos 0) (at c.args.mono.now k)) cs)
    (c.as_slice.ensures ∙ c.in_ok-split.ensures.positive)
    ∙ all_filtered (λ k. int_lt (pos 0) (at c.args.mono.now k)) c.args.combinations

pub push_pairs-requires-clause-seconds : goal.push_pairs-requires-clause-seconds
push_pairs-requires-clause-seconds c =
    ap (λ (cs : List Combination). list_all (λ k. int_lt (at c.args.mono.now k) (pos 0)) cs)
    (c.as_slice-2.ensures ∙ c.in_ok-split.ensures.negative)
    ∙ all_filtered (λ k. int_lt (at c.args.mono.now k) (pos 0)) c.args.combinations

pub returns : goal.returns
returns c =
    let m = c.args.mono.now in
    let cs = c.args.combinations in
    let made = c.in_ok-split.ensures in
    let count = count_is m cs made.without made.positive made.negative in
    let few = ap (λ n. nat_le n c.args.limit) (sym count) ∙ sym c.are_few.ensures ∙
    c.if-not-are_few.false in
    let joined = (λ i. pairs_within m (sym (c.as_slice.ensures ∙ made.positive) i)
    (sym (c.as_slice-2.ensures ∙ made.negative) i)) ∙ c.in_ok-push_pairs.ensures.within in (
      search rules,
      and_from (nat_le (length (stage m cs)) c.args.limit)
          (pairs_within m (positive m cs) (negative m cs)) few joined,
    )
