use Rattle.c_front.specs.Conditions.{whole_front}
use Rattle.c_front.specs.Steps.{bytes_of}
use Rattle.c_front.specs.declared.stages.Next.TheVariants.{Goes}
use Rattle.rx_cli.proofs.Ready.{ready}
use Rattle.rx_cli.proofs.problems.front_stage.Goals as goal

pub returns-in-Goes-clause-ready : goal.returns-in-Goes-clause-ready
returns-in-Goes-clause-ready c =
    let whole : whole_front c.args.functions.now.integers c.args.source.now
    c.args.functions.now.first.now c.args.functions.now.second.now (bytes_of c.bytes_of-pre.result)
    (Goes c.in-Goes.compared) =
    rw c.in-Goes.is at c.in_ok-refusal.ensures.front in
    ready c.args.functions.now.integers c.args.source.now c.args.functions.now.first.now
    c.args.functions.now.second.now
    (bytes_of c.bytes_of-pre.result) c.in-Goes.compared whole
