-- The slots in scope after several statements, counted one by one.
use Rattle.std.proofs.Common.{◌≡◌, ◌∙◌, refl, sym, ap, subst, false, ℕ, suc, ◌+◌, ◌<◌, ◌≤◌, Result, List, [], ◌∷◌, length, drop, get_or, drop_of_length-le, add-one, arith}
use Rattle.std.specs.Prelude.{nat_le, nat_lt}
use Rattle.std.proofs.Math.Seq.{drop-cons}
use Rattle.std.proofs.lemmas.Bool.{and_right, lt-leb}
use Rattle.c_ast.specs.declared.integers.Integers.{Integers}
use Rattle.c_ast.specs.declared.stmt.Stmt.{Stmt}
use Rattle.c_ast.specs.declared.stmt.Stmt.TheOpen.{Stmt-F}
use Rattle.c_ast.specs.declared.stmt.Stmt.TheViews.{out-Stmt}
use Rattle.c_ast.specs.declared.stmt.Stmt.TheFolds.{fold_out-Stmt, map-Stmt}
use Rattle.rx_code.specs.Pieces.{is_room, most_symbols, most_variables}
use Rattle.rx_code.specs.Statements.{Compiled, stmt_code, stmt_level}
use Rattle.rx_code.specs.declared.code.Code.{Code}
use Rattle.rx_code.specs.declared.point.Point.{Point}
use Rattle.rx_poly.specs.declared.poly_end.PolyEnd.{PolyEnd}
use Rattle.rx_stmts.specs.Statements.{CompilesPoint, slots_after, slots_after_list}

-- a form of statement doesn't take slots away
form_grows : (integers : Integers) (x : Stmt-F Stmt) (n : ℕ) → n ≤ (stmt_level integers
    (map-Stmt Stmt Compiled (stmt_code integers) x)).slots_after n
form_grows integers Stmt-F.Empty n = omega arith
form_grows integers (Stmt-F.Declare slot value) n = omega arith
form_grows integers (Stmt-F.Assign slot value) n = omega arith
form_grows integers (Stmt-F.If test inner other) n = omega arith
form_grows integers (Stmt-F.While test inner) n = omega arith
form_grows integers (Stmt-F.DoWhile inner test) n = omega arith
form_grows integers (Stmt-F.For first test change inner) n = omega arith
form_grows integers (Stmt-F.Break token) n = omega arith
form_grows integers (Stmt-F.Continue token) n = omega arith
form_grows integers (Stmt-F.Return value) n = omega arith
form_grows integers (Stmt-F.Block inner) n = omega arith

grows : (integers : Integers) (t : Stmt) (n : ℕ) → n ≤ slots_after integers t n
grows integers t n =
    subst (λ (c : Compiled). n ≤ c.slots_after n) (sym (fold_out-Stmt Compiled (stmt_level integers)
    t))
    (form_grows integers (out-Stmt t) n)

list_grows : (integers : Integers) (ts : List Stmt) (n : ℕ) → n ≤ slots_after_list integers ts n
list_grows integers [] n = omega arith
list_grows integers (t ∷ ts) n =
    let first = grows integers t n in let rest = list_grows integers ts (slots_after integers t n)
    in
    omega (arith, first, rest)

-- more variables than a symbol may have leave no room
not_few : (n : ℕ) → most_variables < n → nat_le n most_variables ≡ false
not_few n above = lt-leb n most_variables above

too_many : (count n : ℕ) → most_variables < n → is_room count n ≡ false
too_many count n above =
    and_right (nat_lt count most_symbols) (nat_le n most_variables) (not_few n above)

-- the slots so far, and the statements that are left
pub record Counting (integers : Integers) (width slots : ℕ) (rest whole : List Stmt) : Type 0 where
  pub counted : slots_after_list integers rest slots ≡ slots_after_list integers whole width

pub begin : (integers : Integers) (width : ℕ) (ts : List Stmt) → Counting integers width width
    (drop 0 ts) ts
begin integers width ts = record { counted = refl }

module _ {integers : Integers} {width slots : ℕ} (ts : List Stmt) (k : ℕ) {t : Stmt}
    (h : k < length ts)
    (is : t ≡ get_or ts k t) (s : Counting integers width slots (drop k ts) ts) where
  opened : Counting integers width slots (t ∷ drop (suc k) ts) ts
  opened =
      subst (λ rest. Counting integers width slots rest ts)
      (drop-cons ts k t h ∙ ap (λ x. x ∷ drop (suc k) ts) (sym is)) s

  -- after the next one
  pub next : (n : ℕ) → slots_after integers t slots ≡ n → Counting integers width n
      (drop (k + 1) ts) ts
  next n after =
      subst (λ j. Counting integers width n (drop j ts) ts) (sym (add-one k))
      (record {
        counted = ap (slots_after_list integers (drop (suc k) ts)) (sym after) ∙
            opened.counted;
      })

  -- where one has too many, there is no room
  pub no_room : (count : ℕ) → most_variables < slots_after integers t slots →
      is_room count (slots_after_list integers ts width) ≡ false
  no_room count many =
      let more = list_grows integers (drop (suc k) ts) (slots_after integers t slots) in
      let whole = opened.counted in
      too_many count (slots_after_list integers ts width) (omega (arith, more, whole, many))

-- nothing is left
pub finished : (integers : Integers) (width slots : ℕ) (ts : List Stmt) (k : ℕ) → length ts ≤ k →
    Counting integers width slots (drop k ts) ts → slots ≡ slots_after_list integers ts width
finished integers width slots ts k h s =
    (subst (λ rest. Counting integers width slots rest ts) (drop_of_length-le ts h) s).counted

-- the point that is opened for so many
pub opened_after : (old new : Code) (result : Result Point PolyEnd) (slots n : ℕ) → slots ≡ n →
    CompilesPoint old new result slots → CompilesPoint old new result n
opened_after old new result slots n is opens = subst (CompilesPoint old new result) is opens
