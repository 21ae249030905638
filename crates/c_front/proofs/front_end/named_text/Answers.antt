-- The stages, one after the other, where the last but one was reached.
use Rattle.c_front.specs.Front.{lex_stage, literal_stage, name_stage, parse_stage, scope_stage}
use Rattle.c_front.specs.declared.stages.Next.TheVariants.{Ends, Goes}
use Rattle.c_front.specs.Steps.{two_of}
use Rattle.c_front.proofs.Composed.{counts_decide, literals_decide, names_decide}
use Rattle.c_front.proofs.front_end.named_text.Goals as goal

pub returns-in-Goes-name_stage-clause-front : goal.returns-in-Goes-name_stage-clause-front
returns-in-Goes-name_stage-clause-front c =
    let lexed : lex_stage c.args.source.now (Goes c.in-Goes.tokens) =
    rw c.in-Goes.is at c.in_ok-tokens.ensures.stage in
    let parsed : parse_stage c.in-Goes.tokens (Goes c.in-Goes-2.text) =
    rw c.in-Goes-2.is at c.in_ok-text.ensures.stage in
    let scoped : scope_stage c.args.source.now c.in-Goes-2.text (Goes c.in-Goes-3.known) =
    rw c.in-Goes-3.is at c.in_ok-known.ensures.stage in
    let narrow : literal_stage c.args.integers c.in-Goes-3.known (Goes c.in-Goes-literal_stage.known) =
    rw c.in-Goes-literal_stage.is at c.literal_stage.ensures.stage in
    let named : name_stage c.args.source.now c.args.first.now c.args.second.now c.in-Goes-literal_stage.known
    (Goes c.in-Goes-name_stage.named.two) = c.in-Goes-name_stage.ensures.stage in
    counts_decide c.args.integers c.args.source.now c.args.first.now c.args.second.now
    c.in-Goes.tokens
    c.in-Goes-2.text c.in-Goes-3.known c.in-Goes-literal_stage.known lexed parsed scoped narrow
    c.in-Goes-name_stage.named.two named (two_of c.count_stage.result) c.count_stage.ensures.stage

pub returns-in-Ends-name_stage-clause-front : goal.returns-in-Ends-name_stage-clause-front
returns-in-Ends-name_stage-clause-front c =
    let lexed : lex_stage c.args.source.now (Goes c.in-Goes.tokens) =
    rw c.in-Goes.is at c.in_ok-tokens.ensures.stage in
    let parsed : parse_stage c.in-Goes.tokens (Goes c.in-Goes-2.text) =
    rw c.in-Goes-2.is at c.in_ok-text.ensures.stage in
    let scoped : scope_stage c.args.source.now c.in-Goes-2.text (Goes c.in-Goes-3.known) =
    rw c.in-Goes-3.is at c.in_ok-known.ensures.stage in
    let narrow : literal_stage c.args.integers c.in-Goes-3.known (Goes c.in-Goes-literal_stage.known) =
    rw c.in-Goes-literal_stage.is at c.literal_stage.ensures.stage in
    let named : name_stage c.args.source.now c.args.first.now c.args.second.now c.in-Goes-literal_stage.known
    (Ends c.in-Ends-name_stage.refusal) = c.in-Ends-name_stage.ensures.stage in
    names_decide c.args.integers c.args.source.now c.args.first.now c.args.second.now
    c.in-Goes.tokens
    c.in-Goes-2.text c.in-Goes-3.known c.in-Goes-literal_stage.known lexed parsed scoped narrow
    c.in-Ends-name_stage.refusal named

pub returns-in-Ends-literal_stage-clause-front : goal.returns-in-Ends-literal_stage-clause-front
returns-in-Ends-literal_stage-clause-front c =
    let lexed : lex_stage c.args.source.now (Goes c.in-Goes.tokens) =
    rw c.in-Goes.is at c.in_ok-tokens.ensures.stage in
    let parsed : parse_stage c.in-Goes.tokens (Goes c.in-Goes-2.text) =
    rw c.in-Goes-2.is at c.in_ok-text.ensures.stage in
    let scoped : scope_stage c.args.source.now c.in-Goes-2.text (Goes c.in-Goes-3.known) =
    rw c.in-Goes-3.is at c.in_ok-known.ensures.stage in
    let wide : literal_stage c.args.integers c.in-Goes-3.known
    (Ends c.in-Ends-literal_stage.refusal) =
    rw c.in-Ends-literal_stage.is at c.literal_stage.ensures.stage in
    literals_decide c.args.integers c.args.source.now c.args.first.now c.args.second.now
    c.in-Goes.tokens c.in-Goes-2.text c.in-Goes-3.known lexed parsed scoped
    c.in-Ends-literal_stage.refusal wide
