use Rattle.c_front.proofs.FewParams.{resolved_few}
use Rattle.c_front.proofs.front_end.name_stage.Goals as goal

pub returns-clause-counted : goal.returns-clause-counted
returns-clause-counted c =
    let few = resolved_few c.args.source.now c.args.known.text.tokens c.args.known.text.program
    c.args.known.resolved c.requires.names c.requires.few_params in
    (few c.in-Some.first, few c.in-Some-find_function.second)
