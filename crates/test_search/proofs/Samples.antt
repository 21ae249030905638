-- The small program is in order, and has two functions.
use Rattle.std.proofs.Common.{◌≡◌, ◌∙◌, ap, true, length}
use Rattle.c_ast.specs.Scoped.{is_scoped}
use Rattle.c_ast.specs.declared.program.Resolved.{Resolved}
use Rattle.c_ast.proofs.ScopedEquations.{scoped_equations}
use Rattle.rx_code.specs.Example as sample

division_in_order : is_scoped sample.division ≡ true
division_in_order = simp scoped_equations

pub division_scoped : (p : Resolved) → p ≡ sample.division → is_scoped p ≡ true
division_scoped p is = ap is_scoped is ∙ division_in_order

pub division_count : (p : Resolved) → p ≡ sample.division → length p.functions ≡ 2
division_count p is = ap (λ (q : Resolved). length q.functions) is
