use Rattle.std.proofs.Common.{◌∙◌, ap, sym}
use Rattle.c_ast.specs.declared.expr.Expr.{Expr}
use Rattle.c_ast.specs.declared.expr.Expr.TheVariants.{Binary}
use Rattle.c_code.proofs.WorkCode.{left-makes}
use Rattle.c_code.proofs.expressions.left_work.Goals as goal

pub returns : goal.returns
returns c =
    let f = c.in-Binary.op in
    let a = c.get.result.now in
    let b = c.get-2.result.now in
    let is = c.in-Binary.is ∙ (ap (λ (x : Expr). Binary f x c.in-Binary.b) (sym c.get.ensures)
    ∙ ap (λ (x : Expr). Binary f a x) (sym c.get-2.ensures)) in
    left-makes c.args.e.now a b f is c.if-not-is_strict.ensures c.in_ok-leaf.leaf
    c.in_ok-leaf.ensures c.in_ok-inner.inner c.in_ok-inner.ensures
