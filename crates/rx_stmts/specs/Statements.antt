-- The table's words for statements, at places and after code.
use Rattle.std.specs.Prelude.{◌≡◌, ℕ, ◌+◌, Bool, true, false, ◌&&◌, List, [], ◌∷◌, length, map, Result, Ok, Err}
use Rattle.rx_plain.specs.Formed.{Formed}
use Rattle.rx_poly.specs.declared.poly_end.PolyEnd.{PolyEnd}
use Rattle.rx_poly.specs.declared.poly_end.PolyEnd.TheVariants.{Large}
use Rattle.c_ast.specs.declared.integers.Integers.{Integers}
use Rattle.c_ast.specs.declared.stmt.Stmt.{Stmt}
use Rattle.rx_code.specs.Pieces.{a_point, append_code, is_room, marks_head, no_code, opens, point}
use Rattle.rx_code.specs.Statements as table
use Rattle.rx_code.specs.Statements.{list_code, stmt_code}
use Rattle.rx_code.specs.declared.code.Code.{Code}
use Rattle.rx_code.specs.declared.point.Point.{Point}
use Rattle.rx_stmts.specs.declared.places.Places.{Places}

-- the places as the table has them
abbrev pub as_places : Places → table.Places
as_places p = record { at = p.at; to = p.to; break_to = p.break_to; continue_to = p.continue_to }

module _ (integers : Integers) where
  -- a statement
  abbrev pub stmt_at : Stmt → Places → Code → Formed Code
  stmt_at t p code = (stmt_code integers t).code (as_places p) (length code.opened)

  -- a list of statements
  abbrev pub list_at : List Stmt → Places → Code → Formed Code
  list_at ts p code = list_code (map (stmt_code integers) ts) (as_places p) (length code.opened)

  -- the slots in scope after a statement, and after several
  abbrev pub slots_after : Stmt → ℕ → ℕ
  slots_after t n = (stmt_code integers t).slots_after n

  abbrev pub slots_after_list : List Stmt → ℕ → ℕ
  slots_after_list ts n = table.slots_after_all (map (stmt_code integers) ts) n

-- a call opens exactly one point more, with n variables
abbrev pub CompilesPoint : Code → Code → Result Point PolyEnd → ℕ → Type 0
CompilesPoint old new (Ok z) n =
    (new ≡ append_code old (opens (a_point n ∷ []))) × (z ≡ point (length old.opened) n) ×
    (is_room (length old.opened) n ≡ true)
CompilesPoint old new (Err e) n = e ≡ Large → is_room (length old.opened) n ≡ false

-- a call marks the head of a loop and opens the points of its body and of its change
abbrev pub CompilesTurn : Code → Code → Result (Point × Point) PolyEnd → Point → Type 0
CompilesTurn old new (Ok r) h =
    (new ≡ append_code old (append_code (marks_head h.symbol)
    (opens (a_point h.width ∷ a_point h.width ∷ []))))
    × (r.0 ≡ point (length old.opened) h.width) × (r.1 ≡ point (length old.opened + 1) h.width)
    × ((is_room (length old.opened) h.width && is_room (length old.opened + 1) h.width) ≡ true)
CompilesTurn old new (Err e) h =
    e ≡ Large → (is_room (length old.opened) h.width && is_room (length old.opened + 1) h.width) ≡
    false

-- the first part of a `for`: its code, the head of the loop, and whether all keeps the limits
pub record Headed : Type 0 where
  pub code : Code
  pub at : Point
  pub within : Bool

abbrev pub head_code : List table.Compiled → table.Places → ℕ → Headed
head_code [] at next = record { code = no_code; at = at.at; within = true }
head_code (s ∷ ss) at next =
    let n = table.slots_after_all (s ∷ ss) at.at.width in
    let h = point next n in
    let c = list_code (s ∷ ss) (record at { to = h }) (next + 1) in
    record {
      code = append_code (opens (a_point n ∷ [])) c.form;
      at = h;
      within = is_room next n &&
          c.within;
    }

abbrev pub head_at : Integers → List Stmt → Places → Code → Headed
head_at integers ts p code =
    head_code (map (stmt_code integers) ts) (as_places p) (length code.opened)

abbrev pub CompilesHead : Code → Code → Result Point PolyEnd → Headed → Type 0
CompilesHead old new (Ok h) v = (new ≡ append_code old v.code) × (h ≡ v.at) × (v.within ≡ true)
CompilesHead old new (Err e) v = e ≡ Large → v.within ≡ false
