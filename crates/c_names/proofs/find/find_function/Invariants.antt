use Rattle.std.proofs.Common.{◌≡◌, drop}
use Rattle.c_names.specs.Places.{place_of_function}
use Rattle.c_names.proofs.find.find_function.Given as goal
use Rattle.std.specs.List.{position_from}
use Rattle.std.specs.Str.{bytes_eq}
use Rattle.std.proofs.Common.{map}
use Rattle.c_ast.specs.declared.program.Function.{Function}
use Rattle.c_names.specs.Spellings.{spellings}

-- the functions that are left have the place that all have
abbrev pub invariant-loop-function : goal.invariant-loop-function
invariant-loop-function l =
    (l.place ≡ l.function-index) ×
    (position_from (λ n. bytes_eq n l.name) l.place
    (spellings l.source l.tokens (map (λ (f : Function). f.name)
    (drop l.function-index l.function-items)))
    ≡ place_of_function l.source l.tokens l.function-items l.name)
