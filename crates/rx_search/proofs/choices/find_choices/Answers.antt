-- One more of the choices that are known.
use Rattle.std.proofs.Common.{◌∷◌, ◌++◌, [], All, map, subst, sym, take}
use Rattle.std.proofs.lemmas.List.{take_all}
use Rattle.rx_search.specs.Known.{IsRightAt, chosen_by, tried_at}
use Rattle.rx_search.specs.Nodes.{AreChoices, IsNode}
use Rattle.rx_search.specs.declared.node_choices.Choices.{Choices}
use Rattle.rx_search.proofs.Choosing.{choices_grow, no_choices, no_nodes, nodes_grow, taken_more}
use Rattle.rx_search.proofs.choices.find_choices.Goals as goal

pub try_known-requires-clause-right : goal.try_known-requires-clause-right
try_known-requires-clause-right g c =
    let s = c.args.space.now in
    subst (IsRightAt s.rules.now c.args.node.now.state) (sym c.one-item.is)
    (c.requires.right c.loop-one.one-index c.one-item.result c.loop-one-test.true)

pub loop-one-init : goal.loop-one-init
loop-one-init g c =
    let s = c.args.space.now in record {
      solver = c.requires.solver;
      are = no_choices c.args.node.now _ c.new-found.ensures;
      nodes = λ goal is. no_nodes (IsNode s.kind s.rules.now goal) _ c.new-found.ensures;
    }

pub loop-one-preserved : goal.loop-one-preserved
loop-one-preserved g c =
    let s = c.args.space.now in
    let a = c.args in
    let chosen = chosen_by s.kind s.rules.now a.node.now.state in
    let so_far = map chosen (take c.loop-one.one-index a.known.now) in
    record {
      solver = c.in_ok-trial.ensures.solver;
      are =
          subst (λ cs. AreChoices a.node.now cs c.add.new.self)
          (taken_more chosen a.known.now c.loop-one.one-index
          c.one-item.result c.loop-one-test.true c.one-item.is)
          (subst (AreChoices a.node.now (so_far ++ chosen c.one-item.result ∷ []))
          (sym c.in_ok-add.ensures)
          (choices_grow a.node.now so_far c.loop-one.found c.one-item.result.number
          (tried_at s.kind s.rules.now a.node.now.state c.one-item.result) c.in_ok-trial.trial
          c.loop-one.invariant.are c.in_ok-trial.ensures.tried));
      nodes =
          λ goal is. subst (λ (f : Choices). All (λ x. IsNode s.kind s.rules.now goal x.node)
          f.choices) (sym c.in_ok-add.ensures)
          (nodes_grow (IsNode s.kind s.rules.now goal) c.loop-one.found c.one-item.result.number
          c.in_ok-trial.trial (c.loop-one.invariant.nodes goal is)
          (c.in_ok-trial.ensures.nodes goal is));
    }

pub returns-clause-choices : goal.returns-clause-choices
returns-clause-choices g c =
    let s = c.args.space.now in
    let a = c.args in
    subst
    (λ ks. AreChoices a.node.now (map (chosen_by s.kind s.rules.now a.node.now.state) ks)
    c.loop-one.found)
    (take_all c.loop-one.one-index a.known.now c.loop-one-test.false) c.loop-one.invariant.are
