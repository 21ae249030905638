-- The stages of a precondition, one after the other.
use Rattle.std.proofs.lemmas.Result.{IfOk-weaker}
use Rattle.c_front.specs.Conditions.{pre_lex_stage, pre_parse_stage}
use Rattle.c_front.specs.declared.stages.Next.TheVariants.{Goes}
use Rattle.c_front.proofs.Composed.{pre_names_decide}
use Rattle.c_front.proofs.conditions.read_pre.Goals as goal

pub returns-in-Goes-2-clause-stage : goal.returns-in-Goes-2-clause-stage
returns-in-Goes-2-clause-stage c =
    let lexed : pre_lex_stage c.args.bytes.now (Goes c.in-Goes.tokens) =
    rw c.in-Goes.is at c.in_ok-tokens.ensures.stage in
    let parsed : pre_parse_stage c.in-Goes.tokens (Goes c.in-Goes-2.read) =
    rw c.in-Goes-2.is at c.in_ok-read.ensures.stage in
    IfOk-weaker c.pre_name_stage.result _ _
    (λ x named. pre_names_decide c.args.source.now c.args.text.now c.args.first c.args.bytes.now
    c.in-Goes.tokens c.in-Goes-2.read lexed parsed x named)
    c.pre_name_stage.ensures.stage
