use Rattle.std.proofs.Common.{◌≡◌, ℕ, drop}
use Rattle.std.specs.Prelude.{nat_eq}
use Rattle.std.specs.List.{position_from}
use Rattle.std.specs.Map.{lookup}
use Rattle.c_ast.specs.declared.program.Function.{Function}
use Rattle.c_names.specs.Names.{name_at}
use Rattle.c_names.proofs.definitions.places_of.Given as goal

-- the table has the first definition of each name among the functions from the place on
abbrev pub invariant-loop-place : goal.invariant-loop-place
invariant-loop-place l =
    (name : ℕ) → lookup (nat_eq name) l.places.entries ≡
    position_from (λ (f : Function). nat_eq (name_at l.names f.name) name) l.place
    (drop l.place l.functions)
