-- One more of the same.
use Rattle.std.proofs.Common.{◌∙◌, ◌∷◌, ◌++◌, [], ap, replicate}
use Rattle.std.proofs.lemmas.List.{replicate-append-replicate}
use Rattle.rx_settle.proofs.tasked.same_tasks.Goals as goal

pub loop-task-preserved : goal.loop-task-preserved
loop-task-preserved c =
    c.in_ok-push.ensures.ok ∙
    ap (λ ts. ts ++ c.in_ok-from_slice.field-0 ∷ []) c.loop-task.invariant ∙
    ap (λ t. replicate c.loop-task._task c.args.task.now ++ t ∷ []) c.in_ok-from_slice.ensures ∙
    replicate-append-replicate c.loop-task._task 1 c.args.task.now
