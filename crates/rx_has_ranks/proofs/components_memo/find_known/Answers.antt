-- What is kept of the graph is right.
use Rattle.std.proofs.Common.{◌≡◌, ◌∙◌, ap, arith, subst, sym, true}
use Rattle.rx_rank.specs.Answers.{pairs_at}
use Rattle.rx_rank.specs.Components.{representatives_of}
use Rattle.rx_has_ranks.proofs.KeptComponents.{names_known}
use Rattle.rx_has_ranks.specs.KnownComponents.{AreRepresentatives, same_edges}
use Rattle.rx_has_ranks.proofs.components_memo.find_known.Goals as goal

pub returns-then-are_edges : goal.returns-then-are_edges
returns-then-are_edges c = λ all.
    let pairs = pairs_at c.args.pairs.now in
    let one = c.one-item.result in
    let right : AreRepresentatives one = subst AreRepresentatives (sym c.one-item.is)
    (all c.loop-one.one-index one c.loop-one-test.true) in
    let same : same_edges one.edges.items pairs ≡ true =
    ap (λ es. same_edges es pairs) (sym c.as_slice.ensures.value) ∙ sym c.are_edges.ensures ∙
    c.if-are_edges.true in
    let count : one.symbols ≡ c.args.symbols = omega arith in
    names_known one pairs right same ∙ ap (λ k. representatives_of k pairs) count
