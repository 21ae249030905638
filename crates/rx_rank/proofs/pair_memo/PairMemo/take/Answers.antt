-- One pair more is taken out.
use Rattle.std.proofs.Common.{◌∙◌, [], ◌∷◌, ◌++◌, ap, arith, sym, take}
use Rattle.std.proofs.lemmas.List.{map-append, take_more}
use denote.Ref.{Bor}
use Rattle.rx_pairs.specs.declared.pair.Pair.{Pair}
use Rattle.rx_rank.specs.Answers.{pairs_at}
use Rattle.rx_rank.proofs.pair_memo.PairMemo.take.Goals as goal

pub loop-pair-preserved : goal.loop-pair-preserved
loop-pair-preserved c =
    let refs = c.args.pairs.now in
    let i = c.loop-pair.pair-index in
    let r = c.pair-item.result in
    let fewer = c.in_ok-take_pair.ensures.count in
    let few = c.loop-pair.invariant.few in
    record {
      taken =
          c.in_ok-push.ensures.items
          ∙ (λ j. c.loop-pair.invariant.taken j ++ c.in_ok-take_pair.ensures.taken j ∷ [])
          ∙ sym (map-append (λ (s : Bor Pair). s.now) (take i refs) (r ∷ []))
          ∙ sym (ap pairs_at (take_more refs i r c.loop-pair-test.true ∙
          ap (λ s. take i refs ++ s ∷ []) (sym c.pair-item.is)));
      few = omega (arith, fewer, few);
    }
