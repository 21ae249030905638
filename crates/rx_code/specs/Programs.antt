-- The code of functions and of programs.
use Rattle.std.specs.Prelude.{ℕ, ◌+◌, ◌==◌, ◌&&◌, if◌then◌else◌, Option, Some, None, List, [], ◌∷◌, length, map, slice_get, pos}
use Rattle.rx_plain.specs.Formed.{Formed, pure}
use Rattle.rx_poly.specs.Constants.{number}
use Rattle.c_ast.specs.declared.integers.Integers.{Integers}
use Rattle.c_ast.specs.declared.program.Function.{Function}
use Rattle.c_ast.specs.declared.program.Resolved.{Resolved}
use Rattle.rx_code.specs.Pieces.{no_code, append_code, after, point, a_point, opens, does, marks_entry, is_room}
use Rattle.rx_code.specs.Statements.{Compiled, list_code, stmt_code}
use Rattle.rx_code.specs.declared.action.Action.TheVariants.{Return}
use Rattle.rx_code.specs.declared.code.Code.{Code}

-- a function of n parameters: its entry over them, its end, where 0 is returned, and its body from
-- the one to the other, also by a `break` or `continue` outside loops, which no well-formed program
-- has
abbrev pub body_code : ℕ → ℕ → List Compiled → ℕ → Formed Code
body_code place n statements next =
    let entry = point next n in
    let end = point (next + 1) 0 in
    let body = list_code statements (record {
      at = entry;
      to = end;
      break_to = end;
      continue_to =
          end;
    }) (next + 2) in
    record {
      form = append_code (opens (a_point n ∷ a_point 0 ∷ []))
          (append_code (marks_entry place next)
          (append_code (does end (Return (number (pos 0)))) body.form));
      within = is_room next n && (is_room (next + 1) 0 && body.within);
    }

-- the first symbol of a function, by its place; 0 where it isn't compiled
abbrev pub entry_of : List (ℕ × ℕ) → ℕ → ℕ
entry_of [] f = 0
entry_of (e ∷ es) f = if e.0 == f then e.1 else entry_of es f

module _ (integers : Integers) where
  -- the function at a place
  abbrev pub function_code : ℕ → Function → ℕ → Formed Code
  function_code place f next =
      body_code place (length f.params) (map (stmt_code integers) f.body) next

  -- a place after the last function has no code
  abbrev pub place_code : ℕ → Option Function → ℕ → Formed Code
  place_code place None next = pure no_code
  place_code place (Some f) next = function_code place f next

  -- the functions at these places, in order
  abbrev pub places_code : List Function → List ℕ → ℕ → Formed Code
  places_code functions [] next = pure no_code
  places_code functions (f ∷ fs) next =
      let c = place_code f (slice_get functions f) next in
      let d = places_code functions fs (after next c.form) in
      record { form = append_code c.form d.form; within = c.within && d.within }

  -- the code of these functions of a program
  abbrev pub program_code : Resolved → List ℕ → Formed Code
  program_code program fs = places_code program.functions fs 0
