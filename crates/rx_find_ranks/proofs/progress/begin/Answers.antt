-- One pair more, and all are open.
use Rattle.std.proofs.Common.{◌≡◌, ◌∙◌, ◌+◌, ap, arith, length, sym, List, None, [], ◌∷◌, ◌++◌}
use Rattle.std.proofs.lemmas.Iterator.Adapters.{YieldsList-from_vec}
use Rattle.std.proofs.lemmas.Iterator.Consumers.{YieldsList-end}
use Rattle.std.proofs.lemmas.List.{map-id}
use Rattle.rx_find_ranks.proofs.BeginLaws.{all_begun, none_closed, none_more, opens_count, opens_from, opens_more}
use Rattle.rx_find_ranks.specs.declared.open_pair.OpenPair.{OpenPair}
use Rattle.rx_find_ranks.proofs.progress.begin.Goals as goal

pub loop-pair-preserved : goal.loop-pair-preserved
loop-pair-preserved c =
    let past = c.loop-pair.yielded in
    let pair = c.in-Some.pair in
    let n = c.len-number.result in
    let all = ap (λ (os : List OpenPair). length os) c.loop-pair.invariant.entries ∙
    opens_count 0 past in
    let size = c.loop-pair.entries.ok.0 in
    let count : n ≡ 0 + length past = omega (arith, all, size) in
    record {
      entries =
          c.in_ok-push.ensures.items
          ∙ ap (λ os. os ++ record { number = n; pair = pair; certs = c.new.result } ∷ [])
          c.loop-pair.invariant.entries
          ∙ ap (λ cs. opens_from 0 past ++ record { number = n; pair = pair; certs = cs } ∷ [])
          c.new.ensures
          ∙ sym (opens_more 0 n past pair count);
      closed =
          c.in_ok-push-2.ensures.items ∙ ap (λ cs. cs ++ None ∷ []) c.loop-pair.invariant.closed ∙
          sym (none_more past pair);
    }

pub returns : goal.returns
returns c =
    let it = c.into_iter-pair-iterator.result in
    let items : it.rest.items ≡ c.args.pairs.items = cc in
    let count : it.rest.len ≡ length c.args.pairs.items = cc in
    let all = YieldsList-end (YieldsList-from_vec {s = it} c.args.pairs.items items count)
    c.loop-pair.yielded c.loop-pair.pair-iterator c.loop-pair.yielded_by c.next.result
    c.next.new.self c.in-None.is c.next.ensures.steps in
    let whole = sym (map-id c.loop-pair.yielded) ∙ all.0 in
    all_begun c.args.pairs.items (record {
      columns = c.new-2.result;
      entries = c.loop-pair.entries;
      closed = c.loop-pair.closed;
    })
    c.new-2.ensures.items (c.loop-pair.invariant.entries ∙ ap (opens_from 0) whole)
    (c.loop-pair.invariant.closed ∙ ap none_closed whole)
