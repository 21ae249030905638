-- A call compiles exactly what the table says: where it succeeds, the code has that piece more, the
-- answer is the table's, and all keeps the limits; where it answers Large, something doesn't.
use Rattle.std.specs.Prelude.{◌≡◌, ℕ, ◌+◌, true, false, ◌&&◌, List, [], ◌∷◌, length, map, Result, Ok, Err, negsuc}
use Rattle.rx_plain.specs.Formed.{Formed, kept}
use Rattle.rx_poly.specs.Constants.{variable}
use Rattle.rx_poly.specs.Limits.{is_within, scaled_by}
use Rattle.rx_poly.specs.declared.body.Body.{Body}
use Rattle.rx_poly.specs.declared.poly_end.PolyEnd.{PolyEnd}
use Rattle.rx_poly.specs.declared.poly_end.PolyEnd.TheVariants.{Large}
use Rattle.c_ast.specs.declared.integers.Integers.{Integers}
use Rattle.c_ast.specs.declared.integers.Integers.TheVariants.{Unbounded, Bits32}
use Rattle.c_ast.specs.declared.expr.BinOp.{BinOp}
use Rattle.c_ast.specs.declared.expr.Expr.{Expr}
use Rattle.rx_code.specs.Expressions.{Arguments, Valued, arguments, arithmetic_of, division_of, expr_code, of_condition, range_tests, ranged, tested_by}
use Rattle.rx_code.specs.Pieces.{a_frame, a_point, append_code, does, is_room, no_code, opens, point}
use Rattle.rx_code.specs.declared.action.Action.TheVariants.{Call, Divide, Resume, Set}
use Rattle.rx_code.specs.declared.code.Code.{Code}
use Rattle.rx_code.specs.declared.point.Point.{Point}

-- a value
abbrev pub CompilesValue : Code → Code → Result (Point × Body) PolyEnd → Valued → Type 0
CompilesValue old new (Ok r) v =
    (new ≡ append_code old v.code) × (r.0 ≡ v.at) × (r.1 ≡ v.value) × (v.within ≡ true)
CompilesValue old new (Err e) v = e ≡ Large → v.within ≡ false

-- arguments
abbrev pub CompilesArguments : Code → Code → Result (Point × List Body) PolyEnd → Arguments → Type 0
CompilesArguments old new (Ok r) v =
    (new ≡ append_code old v.code) × (r.0 ≡ v.at) × (r.1 ≡ v.values) × (v.within ≡ true)
CompilesArguments old new (Err e) v = e ≡ Large → v.within ≡ false

-- what has no answer but the code
abbrev pub CompilesCode : Code → Code → Result (Unit {0}) PolyEnd → Formed Code → Type 0
CompilesCode old new (Ok r) c = (new ≡ append_code old c.form) × (c.within ≡ true)
CompilesCode old new (Err e) c = e ≡ Large → c.within ≡ false

-- ---- at a point after the code, by the kind of integers

module _ (integers : Integers) where
  -- the value of an expression
  abbrev pub value_at : Expr → Point → Code → Valued
  value_at e a code = (expr_code integers e).value a (length code.opened)

  -- its condition
  abbrev pub condition_at : Expr → Point → Point → Point → Code → Formed Code
  condition_at e a y w code = (expr_code integers e).condition a y w (length code.opened)

  -- the truth of an expression as its value
  abbrev pub truth_at : Expr → Point → Code → Valued
  truth_at e a code = (of_condition (expr_code integers e).condition).value a (length code.opened)

  -- an expression's value, set at the point at which it is known
  abbrev pub set_at : Expr → ℕ → Point → Point → Code → Formed Code
  set_at e slot b a code =
      let v = value_at e a code in
      record { form = append_code v.code (does v.at (Set slot v.value b)); within = v.within }

  -- the values of arguments
  abbrev pub arguments_at : List Expr → Point → Code → Arguments
  arguments_at es a code = arguments (map (expr_code integers) es) a (length code.opened)

-- ---- at a point at which the operands are known, with n symbols before

-- a value without further code
abbrev pub formed_at : Formed Body → Point → ℕ → Valued
formed_at f at next = record { code = no_code; at = at; value = f.form; within = f.within }

-- a value that is tested
abbrev pub ranged_at : Integers → Body → Point → ℕ → Valued
ranged_at Unbounded p at next = record { code = no_code; at = at; value = p; within = true }
ranged_at Bits32 p at next = range_tests p at next

-- the result of unary minus
abbrev pub negated_at : Integers → Body → Point → ℕ → Valued
negated_at integers p = ranged integers (formed_at (kept is_within (scaled_by (negsuc 0) p)))

-- the result of `+`, `-` or `*`
abbrev pub arithmetic_at : Integers → BinOp → Body → Body → Point → ℕ → Valued
arithmetic_at integers op p q = ranged integers (formed_at (arithmetic_of op p q))

-- a division
abbrev pub division_at : BinOp → Body → Body → Point → ℕ → Valued
division_at op p q at next =
    let b = point next (at.width + 1) in
    record {
      code =
          append_code (opens (a_point (at.width + 1) ∷ []))
          (does at (Divide (division_of op) p q b));
      at = b;
      value = variable at.width;
      within = is_room next (at.width + 1);
    }

-- its result
abbrev pub divided_at : Integers → BinOp → Body → Body → Point → ℕ → Valued
divided_at integers op p q = ranged (tested_by integers (division_of op)) (division_at op p q)

-- a call
abbrev pub call_at : ℕ → List Body → Point → ℕ → Valued
call_at f ps at next =
    let r = point next at.width in
    let b = point (next + 1) (at.width + 1) in
    record {
      code = append_code (opens (a_frame at.width ∷ a_point (at.width + 1) ∷ []))
          (append_code (does at (Call f ps r)) (does r (Resume b)));
      at = b;
      value = variable at.width;
      within = is_room next at.width && is_room (next + 1) (at.width + 1);
    }
