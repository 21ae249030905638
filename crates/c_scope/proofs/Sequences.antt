-- Statements in their order, of which some are resolved.
use Rattle.std.proofs.Common.{List, ◌++◌, Ok}
use Rattle.c_ast.specs.declared.stmt.Stmt.{Stmt}
use Rattle.c_names.specs.Steps.{Checked, and_then}
use Rattle.c_scope.specs.Statements.{Scoped}

-- statements that were resolved, and what the rest gives
abbrev pub behind : List Stmt → Checked (Scoped (List Stmt)) → Checked (Scoped (List Stmt))
behind done rest =
    and_then rest (λ placed. Ok (record { tree = done ++ placed.tree; scope = placed.scope }))
