-- A call: its name is looked up, and then its arguments are resolved.
use Rattle.std.proofs.Common.{rules}
use Rattle.c_names.proofs.Equations.{resolved_call}
use Rattle.c_names.proofs.expressions.+expressions.Goals as goal

pub resolve_expr-returns-in_err-place-in-Apply : goal.resolve_expr-returns-in_err-place-in-Apply
resolve_expr-returns-in_err-place-in-Apply t c =
    rw (c.in-Apply.is, resolved_call) (search rules)

pub resolve_expr-returns-in_err-resolved-in-Apply :
    goal.resolve_expr-returns-in_err-resolved-in-Apply
resolve_expr-returns-in_err-resolved-in-Apply t c =
    rw (c.in-Apply.is, resolved_call) (search rules)

pub resolve_expr-returns-in_ok-resolved-in-Apply :
    goal.resolve_expr-returns-in_ok-resolved-in-Apply
resolve_expr-returns-in_ok-resolved-in-Apply t c =
    rw (c.in-Apply.is, resolved_call) (search rules)
