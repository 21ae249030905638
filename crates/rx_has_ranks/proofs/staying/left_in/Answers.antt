-- The pairs of the component, and those that its fit leaves open.
use Rattle.std.proofs.Common.{◌≡◌, ◌∙◌, ap, arith, subst, sym}
use Rattle.std.specs.Result.{IfOk}
use Rattle.rx_graph.specs.Graph.{IsOver}
use Rattle.rx_pairs.specs.Graph.{edges_of}
use Rattle.rx_anchors.specs.Members.{is_member}
use Rattle.rx_rank.specs.Answers.{pairs_at, tried_as}
use Rattle.rx_rank.specs.Ranking.{tried_in}
use Rattle.rx_has_ranks.proofs.StayingLaws.{component_tried, over_filtered, over_from}
use Rattle.rx_has_ranks.proofs.staying.left_in.Goals as goal

pub returns-clause-tried : goal.returns-clause-tried
returns-clause-tried g c =
    let a = c.args in
    let refs = c.as_slice-pairs.result.now in
    let mine = c.as_slice-pairs.ensures.value in
    let none = c.if-len-eq0.false in
    subst (λ r. IfOk c.after_fit.result (λ t. tried_as (λ left. pairs_at left.items) t ≡ r))
    (component_tried a.problem.now.kind c.parts-parts.result.now a.problem.now.hypotheses.now c.as_slice-names.result.now a.name refs
    (pairs_at c.as_slice.result.now) (ap pairs_at mine ∙ c.in_ok-mine.ensures)
    (λ e. none (omega (arith, e))) _ c.in_ok-tried.ensures.tried
    ∙ (λ i. tried_in a.problem.now.kind (c.parts-parts.ensures.parts i) a.problem.now.hypotheses.now
    (c.as_slice-names.ensures.value i)
    (pairs_at (c.as_slice.ensures.value i)) a.name))
    c.after_fit.ensures.tried

pub returns-clause-over : goal.returns-clause-over
returns-clause-over g c =
    let a = c.args in
    let refs = c.as_slice-pairs.result.now in
    over_from c.after_fit.result (pairs_at refs) (pairs_at a.opened.now.pairs.items) (λ n over.
    subst (λ ps. IsOver n (edges_of ps))
    (sym (ap pairs_at c.as_slice-pairs.ensures.value ∙ c.in_ok-mine.ensures))
    (over_filtered n (λ pair. is_member c.as_slice-names.result.now a.name pair.left.0)
    (pairs_at c.as_slice.result.now)
    (subst (λ rs. IsOver n (edges_of (pairs_at rs))) (sym c.as_slice.ensures.value) over)))
    c.after_fit.ensures.over
