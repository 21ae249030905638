-- The place of a function by its name.
use Rattle.std.specs.Prelude.{ℕ, List, map, Option}
use Rattle.c_lex.specs.declared.token.Token.{Token}
use Rattle.c_ast.specs.declared.program.Function.{Function}
use Rattle.c_names.specs.Spellings.{spellings, place_of}

-- the place of the first definition whose name these bytes spell
abbrev pub place_of_function : List ℕ → List Token → List Function → List ℕ → Option ℕ
place_of_function source tokens functions name =
    place_of (spellings source tokens (map (λ (f : Function). f.name) functions)) name
