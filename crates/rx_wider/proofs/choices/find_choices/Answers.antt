-- One more of the choices.
use Rattle.std.proofs.Common.{◌∙◌, ap, ◌++◌}
use Rattle.std.specs.Prelude.{option_to_list}
use Rattle.rx_wider.specs.Calls.{node_of}
use Rattle.rx_wider.specs.Wider.{child}
use Rattle.rx_wider.proofs.Choosing.{filtered_more}
use Rattle.rx_wider.proofs.choices.find_choices.Goals as goal

pub loop-one-preserved : goal.loop-one-preserved
loop-one-preserved g c =
    let a = c.args in
    let f = child a.setting.now.kind a.setting.now.rules.now (node_of a.node.now) in
    record {
      solver = c.in_ok-add_choice.ensures.solver;
      choices =
          c.in_ok-add_choice.ensures.added
          ∙ ap (λ cs. cs ++ option_to_list (f c.one-item.result)) c.loop-one.invariant.choices
          ∙ filtered_more f a.candidates.now c.loop-one.one-index c.one-item.result
          c.loop-one-test.true c.one-item.is;
      nodes =
          λ goal is. c.in_ok-add_choice.ensures.nodes goal is (c.loop-one.invariant.nodes goal is);
    }
