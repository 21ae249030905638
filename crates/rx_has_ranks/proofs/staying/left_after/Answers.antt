-- One component more.
use Rattle.std.proofs.Common.{◌∙◌, ◌++◌, ℕ, ap, arith, subst, length}
use Rattle.std.proofs.lemmas.List.{map-append}
use Rattle.std.specs.Option.{IfSome, option_map}
use Rattle.rx_graph.specs.Graph.{IsOver}
use Rattle.rx_pairs.specs.Graph.{edges_of}
use Rattle.rx_pairs.specs.declared.pair.Pair.{Pair}
use denote.Ref.{Bor}
use Rattle.rx_rank.specs.Answers.{pairs_at}
use Rattle.rx_rank.specs.Ranking.{tried_in}
use Rattle.rx_has_ranks.proofs.StayingLaws.{left_failed, left_next}
use Rattle.rx_has_ranks.proofs.staying.left_after.Goals as goal

pub returns-in-None-clause-tried : goal.returns-in-None-clause-tried
returns-in-None-clause-tried g c =
    let parts = c.args.problem.now.rules.now in
    let hypotheses = c.args.problem.now.hypotheses.now in
    let pairs = pairs_at c.args.opened.now.pairs.items in
    let name = c.loop-name.name in
    let size = c.symbols-symbols.ensures in
    let inner = c.loop-name-test.true in
    left_failed c.args.problem.now.kind parts hypotheses pairs name c.loop-name.noted
    (pairs_at c.loop-name.left.items)
    c.loop-name.invariant.left (omega (arith, size, inner))
    (option_map (λ v. pairs_at v.items) c.in_ok-tried.tried.made) c.in_ok-tried.tried.noted
    (c.in_ok-tried.ensures.tried ∙ ap (λ ns. tried_in c.args.problem.now.kind parts hypotheses ns pairs name)
    c.requires.names) (ap (option_map (λ v. pairs_at v.items)) c.in-None.is)

pub loop-name-preserved : goal.loop-name-preserved
loop-name-preserved g c =
    let parts = c.args.problem.now.rules.now in
    let hypotheses = c.args.problem.now.hypotheses.now in
    let pairs = pairs_at c.args.opened.now.pairs.items in
    let name = c.loop-name.name in
    let size = c.symbols-symbols.ensures in
    let inner = c.loop-name-test.true in
    let over = subst (λ o. IfSome o (λ v. (n : ℕ) → IsOver n (edges_of pairs) →
    IsOver n (edges_of (pairs_at v.items)))) c.in-Some.is c.in_ok-tried.ensures.over in
    record {
      solver = c.left_in.ensures.solver;
      left =
          left_next c.args.problem.now.kind parts hypotheses pairs name c.loop-name.noted
          (pairs_at c.loop-name.left.items) c.loop-name.invariant.left (omega (arith, size, inner))
          (option_map (λ v. pairs_at v.items) c.in_ok-tried.tried.made) c.in_ok-tried.tried.noted
          (c.in_ok-tried.ensures.tried ∙ ap (λ ns. tried_in c.args.problem.now.kind parts hypotheses ns pairs
          name)
          c.requires.names) (pairs_at c.in-Some.more.items) (pairs_at c.append.new.self.items)
          (ap (option_map (λ v. pairs_at v.items)) c.in-Some.is)
          (ap pairs_at (c.in_ok-append-in-Some.ensures.items ∙
          ap (λ v. c.loop-name.left.items ++ v.items) c.in-Some.more-is) ∙
          map-append (λ (r : Bor Pair). r.now) c.loop-name.left.items c.in-Some.more.items)
          (over (length parts.symbols) c.requires.over);
    }
