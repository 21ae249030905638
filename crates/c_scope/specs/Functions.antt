-- Functions, each with the names in it resolved.
use Rattle.std.specs.Prelude.{ℕ, ◌+◌, ◌≤◌, false, List, [], ◌∷◌, length, map, Ok}
use Rattle.c_ast.specs.declared.program.Function.{Function}
use Rattle.c_names.specs.Names.{name_at}
use Rattle.c_names.specs.LookupSlots.{Scope, empty_scope, declare}
use Rattle.c_scope.specs.Statements.{in_order, resolved_stmt}
use Rattle.c_names.specs.Steps.{Checked, and_then, sequence}

-- as few parameters as there may be slots
abbrev pub HasFewParams : Function → Type 0
HasFewParams f = length f.params ≤ 64

-- the first n numbers, from this one on
abbrev pub slots_from : {A : Type 0} → ℕ → List A → List ℕ
slots_from slot [] = []
slots_from slot (x ∷ xs) = slot ∷ slots_from (slot + 1) xs

module _ (names : List ℕ) where
  -- the parameters are declared in their order
  abbrev pub with_params : List ℕ → Scope → Checked Scope
  with_params [] s = Ok s
  with_params (token ∷ tokens) s =
      and_then (declare token (name_at names token) s) (with_params tokens)

  module _ (functions : List Function) where
    -- a function with its names resolved: parameters share the scope of the body's outermost block
    -- (6.2.1p4)
    abbrev pub resolved_function : Function → Checked Function
    resolved_function f =
        and_then (with_params f.params empty_scope) (λ s.
        and_then (in_order (map (resolved_stmt names functions) f.body) s false) (λ body.
        Ok (record { name = f.name; params = slots_from 0 f.params; body = body.tree })))

    -- all functions with their names resolved, in the order of the text
    abbrev pub resolved_functions : Checked (List Function)
    resolved_functions = sequence (map resolved_function functions)
