-- One function more: it is resolved, and has few parameters.
use Rattle.std.proofs.Common.{◌∙◌, ap, ◌+◌, map, drop}
use Rattle.c_scope.specs.Functions.{HasFewParams, resolved_function, resolved_functions}
use Rattle.c_names.specs.Steps.{sequence}
use Rattle.c_names.proofs.Lists.{onto, found-turn, hold-more}
use Rattle.c_scope.proofs.functions.resolve_functions.Goals as goal

pub loop-function-preserved : goal.loop-function-preserved
loop-function-preserved c =
    let names = c.args.definitions.now.names.now in
    let functions = c.args.definitions.now.functions.now in
    let i = c.loop-function.function-index in
    let step = resolved_function names functions in
    let here = c.loop-function-test.true in
    let function = c.function-item in (
      ap (λ fs. onto fs (sequence (map step (drop (i + 1) functions)))) c.in_ok-push.ensures.ok
          ∙ found-turn step functions i here function.result function.is c.loop-function.resolved
          c.in_ok-resolve_function.field-0 (resolved_functions names functions)
          c.loop-function.invariant.0 c.in_ok-resolve_function.ensures.answer,
      hold-more HasFewParams functions i function.result here function.is
          c.in_ok-resolve_function.ensures.few c.loop-function.invariant.1,
    )
