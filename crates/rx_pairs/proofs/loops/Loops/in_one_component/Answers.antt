-- The names of the components decide.
use Rattle.std.proofs.Common.{◌∙◌, nat_eq}
use Rattle.rx_pairs.proofs.LoopLaws.{names_tell}
use Rattle.rx_pairs.proofs.loops.Loops.in_one_component.Goals as goal

pub returns : goal.returns
returns c = λ parts are.
    (λ i. nat_eq (c.component_of.ensures i) (c.component_of-2.ensures i)) ∙
    names_tell parts c.args.self.now are c.args.first c.args.second
