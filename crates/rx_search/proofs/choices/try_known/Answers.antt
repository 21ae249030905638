-- What is known of the first goal, at the node; ranks are found with the hypotheses of a node that
-- is reached.
use Rattle.rx_search.specs.Nodes.{IsReached}
use Rattle.rx_search.proofs.Lifting.{kept_none, kept_some, known_reached, unkept_node, unkept_tried}
use Rattle.rx_settle.proofs.ReachedLaws.{reached_fits, reached_rooted}
use Rattle.rx_search.proofs.Trying.{led_to, node_ranked_call}
use Rattle.rx_search.proofs.choices.try_known.Goals as goal

pub returns-then-not-known-clause-tried : goal.returns-then-not-known-clause-tried
returns-then-not-known-clause-tried g c =
    let s = c.args.space.now in
    let a = c.args in
    unkept_tried s.kind s.rules.now a.node.now a.known.now c.requires.right c.in_ok-trial.trial
    c.in_ok-trial.ensures c.if-not-known.true

pub returns-then-not-known-clause-nodes : goal.returns-then-not-known-clause-nodes
returns-then-not-known-clause-nodes g c = λ goal node.
    let s = c.args.space.now in
    let a = c.args in
    unkept_node s.kind s.rules.now a.node.now a.known.now c.requires.right c.in_ok-trial.trial
    c.in_ok-trial.ensures c.if-not-known.true goal node

pub where_ranked-requires-clause-roots : goal.where_ranked-requires-clause-roots
where_ranked-requires-clause-roots g c =
    let s = c.args.space.now in
    let a = c.args in
    let (goal, reached) = c.requires.reached in
    reached_rooted s.rules.now goal c.in-Some.next.steps c.in-Some.next.state
    (led_to c.in_ok-trial.trial.made c.in-Some.next (IsReached s.rules.now goal) c.in-Some.is
    (known_reached s.kind s.rules.now a.node.now a.known.now c.requires.right c.in_ok-trial.trial
    c.in_ok-trial.ensures goal reached))

pub where_ranked-requires-clause-fits : goal.where_ranked-requires-clause-fits
where_ranked-requires-clause-fits g c =
    let s = c.args.space.now in
    let a = c.args in
    let (goal, reached) = c.requires.reached in
    reached_fits s.rules.now goal c.in-Some.next.steps c.in-Some.next.state
    (led_to c.in_ok-trial.trial.made c.in-Some.next (IsReached s.rules.now goal) c.in-Some.is
    (known_reached s.kind s.rules.now a.node.now a.known.now c.requires.right c.in_ok-trial.trial
    c.in_ok-trial.ensures goal reached))

pub returns-in-Some-clause-tried : goal.returns-in-Some-clause-tried
returns-in-Some-clause-tried g c =
    let s = c.args.space.now in
    let a = c.args in
    kept_some s.kind s.rules.now a.node.now a.known.now c.requires.right c.in_ok-trial.trial
    c.in_ok-trial.ensures c.if-not-known.false c.in-Some.next c.in-Some.is c.where_ranked.result
    c.where_ranked.ensures.ranked

pub returns-in-Some-clause-nodes : goal.returns-in-Some-clause-nodes
returns-in-Some-clause-nodes g c = λ goal node.
    let s = c.args.space.now in
    let a = c.args in
    node_ranked_call s.kind s.rules.now goal c.in-Some.next c.in_ok-trial.trial.noted
    (led_to c.in_ok-trial.trial.made c.in-Some.next (IsReached s.rules.now goal) c.in-Some.is
    (known_reached s.kind s.rules.now a.node.now a.known.now c.requires.right c.in_ok-trial.trial
    c.in_ok-trial.ensures goal node.reached))
    c.where_ranked.result c.where_ranked.ensures.ranked

pub returns-in-None-clause-tried : goal.returns-in-None-clause-tried
returns-in-None-clause-tried g c =
    let s = c.args.space.now in
    let a = c.args in
    kept_none s.kind s.rules.now a.node.now a.known.now c.requires.right c.in_ok-trial.trial
    c.in_ok-trial.ensures c.if-not-known.false c.in-None.is
