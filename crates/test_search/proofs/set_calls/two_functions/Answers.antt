use Rattle.std.proofs.Common.{None}
use Rattle.c_front.specs.Conditions.{whole_front}
use Rattle.c_front.specs.declared.stages.Next.TheVariants.{Goes}
use Rattle.test_search.proofs.Scoped.{compared_scoped}
use Rattle.test_search.proofs.set_calls.two_functions.Goals as goal

pub returns-in-Ok-Goes : goal.returns-in-Ok-Goes
returns-in-Ok-Goes c =
    let whole : whole_front c.args.integers c.as_bytes.result.now c.in_ok-first.first.now
    c.in_ok-first.second.now None (Goes c.in-Ok-Goes.field-0-0) =
    rw c.in-Ok-Goes.field-0-is at c.in-Ok-Goes.ensures.front in
    compared_scoped c.args.integers c.as_bytes.result.now c.in_ok-first.first.now
    c.in_ok-first.second.now c.in-Ok-Goes.field-0-0 whole
