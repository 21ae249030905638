-- The instructions of the code of statements fit the whole code in which it is.
use Rattle.std.proofs.Common.{◌≡◌, ◌∙◌, ap, sym, subst, refl, true, false, ◌&&◌, inl, ℕ, suc, ◌+◌, ◌≤◌, ◌<◌, Option, Some, None, List, [], ◌∷◌, map, pos, arith}
use Rattle.std.specs.Prelude.{Contains}
use Rattle.std.proofs.lemmas.Bool.{and_parts}
use Rattle.rx_plain.specs.Formed.{Formed, pure}
use Rattle.rx_poly.specs.Variables.{uses_below}
use Rattle.rx_poly.specs.declared.body.Body.{Body}
use Rattle.c_ast.specs.declared.integers.Integers.{Integers}
use Rattle.c_ast.specs.declared.expr.Expr.{Expr}
use Rattle.c_ast.specs.declared.expr.Expr.TheVariants.{Lit}
use Rattle.c_ast.specs.declared.stmt.Stmt.{Stmt}
use Rattle.rx_code.specs.Codes.{test_or_one}
use Rattle.rx_code.specs.Expressions.{Asked, expr_code}
use Rattle.rx_code.specs.Pieces.{a_point, append_code, after, does, is_room, opens, point}
use Rattle.rx_code.specs.Points.{Actions}
use Rattle.rx_code.specs.Programs.{entry_of}
use Rattle.rx_code.specs.Rules.{instruction_within}
use Rattle.rx_code.specs.Statements.{Compiled, Places, do_code, for_code, if_code, if_else_code, list_code, loop_code, slots_after_all, stmt_code, while_code, with_value}
use Rattle.rx_code.specs.declared.action.Action.{Action}
use Rattle.rx_code.specs.declared.action.Action.TheVariants.{Go, Set, Return}
use Rattle.rx_code.specs.declared.action.Instruction.{Instruction}
use Rattle.rx_code.specs.declared.code.Code.{Code}
use Rattle.rx_code.specs.declared.point.Point.{Point}
use Rattle.rx_code.proofs.StmtEquations.{code-Empty, code-Declare, code-Assign, code-If, code-While, code-DoWhile, code-For, code-Break, code-Continue, code-Return, code-Block}
use Rattle.rx_code.proofs.Fitting.{Fits, FitsExpr, PointIn, StandsIn, instruction_fits, expr_fits, first_point, fits_append, later_point, set_enough, stands_left, stands_right, target}
use Rattle.rx_code.proofs.Scoped as scope
use Rattle.rx_code.proofs.Scoped.{AreStmts, IsExpr, IsStmt, all_slots_stay, no_more, slots_stay}
use Rattle.rx_code.proofs.StmtCodes.{list_slots, stmt_coded}
use Rattle.rx_code.proofs.Whole.{IsOpened, Suits, is_resume}

-- anything may be done
any_action : Actions
any_action a x = Unit {0}

module _ (integers : Integers) (c : Code)
    (kept : (d : Instruction) → Contains c.instructions d → instruction_within d ≡ true)
    (callable : ℕ → ℕ → Type 0) (entries : (f k : ℕ) → callable f k →
    IsOpened c (entry_of c.entries f) k false) where
  slots_are : (n : ℕ) (t : Stmt) (k : ℕ) → IsStmt callable n t k →
      (stmt_code integers t).slots_after n ≡ k
  slots_are n t k is = (stmt_coded integers any_action callable n t k is).slots

  -- the places of a statement with n slots before it and k after it
  pub record PlacesIn (n k : ℕ) (at : Places) : Type 0 where
    pub same : at.at.width ≡ n
    pub here : PointIn c at.at
    pub to : PointIn c at.to
    pub breaks : PointIn c at.break_to
    pub continues : PointIn c at.continue_to
    pub to_fits : at.to.width ≤ k
    pub break_fits : at.break_to.width ≤ n
    pub continue_fits : at.continue_to.width ≤ n

  -- code fits from such places on
  abbrev pub FitsFrom : ℕ → ℕ → (Places → ℕ → Formed Code) → Type 0
  FitsFrom n k code =
      (at : Places) (next : ℕ) → PlacesIn n k at → (code at next).within ≡ true →
      StandsIn c next (code at next).form → Fits c integers (code at next).form

  pub record FitsStmt (n k : ℕ) (x : Compiled) : Type 0 where
    pub slots : x.slots_after n ≡ k
    pub code : FitsFrom n k x.code

  expr_is : (n : ℕ) (e : Expr) → IsExpr callable n e →
      FitsExpr c integers kept callable entries n (expr_code integers e)
  expr_is n e is = expr_fits c integers kept callable entries n e is

  -- a value, and what is done with it
  value_fits : (n : ℕ) (x : Asked) (action : Body → Action) (a : Point) (next : ℕ) →
      FitsExpr c integers kept callable entries n x → n ≤ a.width → PointIn c a →
      ((p : Body) → is_resume (action p) ≡ false)
      → ((m : ℕ) (p : Body) → a.width ≤ m → uses_below m p ≡ true → Suits integers c m (action p))
      → (with_value x action a next).within ≡ true →
      StandsIn c next (with_value x action a next).form →
      Fits c integers (with_value x action a next).form
  value_fits n x action a next is enough at_a no_frame suits within stands =
      let v = x.value a next in
      let f = is.value a next enough at_a within
      (stands_left c next v.code (does v.at (action v.value)) stands) in
      fits_append c integers v.code (does v.at (action v.value)) f.fits
      (instruction_fits c integers kept (after next v.code) v.at (action v.value) f.there
      (no_frame v.value)
      (stands_right c next v.code (does v.at (action v.value)) stands)
      (suits v.at.width v.value f.wider f.below))

  declares_fit : (n : ℕ) (x : Asked) → FitsExpr c integers kept callable entries n x →
      FitsFrom n (suc n) (λ at next. with_value x (λ p. Set n p at.to) at.at next)
  declares_fit n x is at next places within stands =
      let same = places.same in
      let fits = places.to_fits in
      value_fits n x (λ p. Set n p at.to) at.at next is (omega (arith, same)) places.here
      (λ p. refl)
      (λ m p wide below. (
        omega (arith, same, wide),
        (
          set_enough n m at.to (omega (arith, same, wide)) (omega (arith, fits)),
          (target c (suc m) at.to places.to (omega (arith, same, wide, fits)), below),
        ),
      )) within
      stands

  assigns_fit : (n k : ℕ) (x : Asked) → k < n → FitsExpr c integers kept callable entries n x →
      FitsFrom n n (λ at next. with_value x (λ p. Set k p at.to) at.at next)
  assigns_fit n k x below_n is at next places within stands =
      let same = places.same in
      let fits = places.to_fits in
      value_fits n x (λ p. Set k p at.to) at.at next is (omega (arith, same)) places.here
      (λ p. refl)
      (λ m p wide below. (
        omega (arith, same, wide, below_n),
        (
          inl (omega (arith, same, wide, fits)),
          (target c (suc m) at.to places.to (omega (arith, same, wide, fits)), below),
        ),
      )) within
      stands

  returns_fit : (n : ℕ) (x : Asked) → FitsExpr c integers kept callable entries n x →
      FitsFrom n n (λ at next. with_value x Return at.at next)
  returns_fit n x is at next places within stands =
      let same = places.same in
      value_fits n x Return at.at next is (omega (arith, same)) places.here (λ p. refl)
      (λ m p wide below. below) within stands

  goes_fit : (n : ℕ) (z : Places → Point) → ((at : Places) → PlacesIn n n at → PointIn c (z at)) →
      ((at : Places) → PlacesIn n n at → (z at).width ≤ n)
      → FitsFrom n n (λ at next. pure (does at.at (Go (z at))))
  goes_fit n z there fits at next places within stands =
      let same = places.same in
      let enough = fits at places in
      instruction_fits c integers kept next at.at (Go (z at)) places.here refl stands
      (target c at.at.width (z at) (there at places) (omega (arith, same, enough)))

  -- ---- branches and loops

  -- a mark at a head opens nothing and does nothing
  without_head : (next : ℕ) (heads : List ℕ) (p : Code) →
      StandsIn c next (append_code (record {
        opened = [];
        instructions = [];
        heads = heads;
        entries
            = [];
      })
      p) → StandsIn c next p
  without_head next heads p stands = record {
    opened = stands.opened;
    instructions =
        stands.instructions;
  }

  if_fits : (n k : ℕ) (e : Asked) (x : Compiled) → n ≤ k →
      FitsExpr c integers kept callable entries n e →
      FitsStmt n k x → FitsFrom n n (if_code e x)
  if_fits n k e x stay test inner at next places within stands =
      let same = places.same in
      let fits = places.to_fits in
      let y = point next at.at.width in
      let p = e.condition at.at y at.to (next + 1) in
      let branch : Places = record at { at = y } in
      let q = x.code branch (after (next + 1) p.form) in
      let one = and_parts (is_room next at.at.width) (p.within && q.within) within in
      let two = and_parts p.within q.within one.1 in
      let os = a_point at.at.width ∷ [] in
      let at_y = first_point c next at.at.width [] (append_code p.form q.form) stands one.0 in
      let rest = stands_right c next (opens os) (append_code p.form q.form) stands in
      fits_append c integers p.form q.form
      (test.condition at.at y at.to (next + 1) (omega (arith, same)) places.here at_y places.to
      (omega arith) (omega (arith, same, fits)) two.0
      (stands_left c (next + 1) p.form q.form rest))
      (inner.code branch (after (next + 1) p.form)
      (record {
        same = same;
        here = at_y;
        to = places.to;
        breaks = places.breaks;
        continues =
            places.continues;
        to_fits = omega (arith, fits, stay);
        break_fits = places.break_fits;
        continue_fits = places.continue_fits;
      })
      two.1 (stands_right c (next + 1) p.form q.form rest))

  if_else_fits : (n k l : ℕ) (e : Asked) (x z : Compiled) → n ≤ k → n ≤ l →
      FitsExpr c integers kept callable entries n e → FitsStmt n k x → FitsStmt n l z →
      FitsFrom n n (if_else_code e x z)
  if_else_fits n k l e x z stay also test inner other at next places within stands =
      let same = places.same in
      let fits = places.to_fits in
      let y = point next at.at.width in
      let w = point (next + 1) at.at.width in
      let p = e.condition at.at y w (next + 2) in
      let yes : Places = record at { at = y } in
      let no : Places = record at { at = w } in
      let q = x.code yes (after (next + 2) p.form) in
      let r = z.code no (after (after (next + 2) p.form) q.form) in
      let one = and_parts (is_room next at.at.width)
      (is_room (next + 1) at.at.width && (p.within && (q.within && r.within))) within in
      let two = and_parts (is_room (next + 1) at.at.width) (p.within && (q.within && r.within))
      one.1 in
      let three = and_parts p.within (q.within && r.within) two.1 in
      let four = and_parts q.within r.within three.1 in
      let os = a_point at.at.width ∷ a_point at.at.width ∷ [] in
      let all = append_code p.form (append_code q.form r.form) in
      let at_y = first_point c next at.at.width (a_point at.at.width ∷ []) all stands one.0 in
      let at_w = later_point c next 1 at.at.width os all stands refl two.0 in
      let rest = stands_right c next (opens os) all stands in
      let branches = stands_right c (next + 2) p.form (append_code q.form r.form) rest in
      fits_append c integers p.form (append_code q.form r.form)
      (test.condition at.at y w (next + 2) (omega (arith, same)) places.here at_y at_w (omega arith)
      (omega arith) three.0 (stands_left c (next + 2) p.form (append_code q.form r.form) rest))
      (fits_append c integers q.form r.form
      (inner.code yes (after (next + 2) p.form)
      (record {
        same = same;
        here = at_y;
        to = places.to;
        breaks = places.breaks;
        continues =
            places.continues;
        to_fits = omega (arith, fits, stay);
        break_fits = places.break_fits;
        continue_fits = places.continue_fits;
      })
      four.0 (stands_left c (after (next + 2) p.form) q.form r.form branches))
      (other.code no (after (after (next + 2) p.form) q.form)
      (record {
        same = same;
        here = at_w;
        to = places.to;
        breaks = places.breaks;
        continues =
            places.continues;
        to_fits = omega (arith, fits, also);
        break_fits = places.break_fits;
        continue_fits = places.continue_fits;
      })
      four.1 (stands_right c (after (next + 2) p.form) q.form r.form branches)))

  while_fits : (n k : ℕ) (e : Asked) (x : Compiled) → n ≤ k →
      FitsExpr c integers kept callable entries n e →
      FitsStmt n k x → FitsFrom n n (while_code e x)
  while_fits n k e x stay test inner at next places within stands =
      let same = places.same in
      let fits = places.to_fits in
      let y = point next at.at.width in
      let p = e.condition at.at y at.to (next + 1) in
      let body : Places = record { at = y; to = at.at; break_to = at.to; continue_to = at.at } in
      let q = x.code body (after (next + 1) p.form) in
      let one = and_parts (is_room next at.at.width) (p.within && q.within) within in
      let two = and_parts p.within q.within one.1 in
      let os = a_point at.at.width ∷ [] in
      let opened = without_head next (at.at.symbol ∷ [])
      (append_code (opens os) (append_code p.form q.form)) stands in
      let at_y = first_point c next at.at.width [] (append_code p.form q.form) opened one.0 in
      let rest = stands_right c next (opens os) (append_code p.form q.form) opened in
      fits_append c integers p.form q.form
      (test.condition at.at y at.to (next + 1) (omega (arith, same)) places.here at_y places.to
      (omega arith) (omega (arith, same, fits)) two.0
      (stands_left c (next + 1) p.form q.form rest))
      (inner.code body (after (next + 1) p.form)
      (record {
        same = same;
        here = at_y;
        to = places.here;
        breaks = places.to;
        continues =
            places.here;
        to_fits = omega (arith, same, stay);
        break_fits = fits;
        continue_fits =
            omega (arith, same);
      })
      two.1 (stands_right c (next + 1) p.form q.form rest))

  do_fits : (n k : ℕ) (x : Compiled) (e : Asked) → n ≤ k → FitsStmt n k x →
      FitsExpr c integers kept callable entries n e → FitsFrom n n (do_code x e)
  do_fits n k x e stay inner test at next places within stands =
      let same = places.same in
      let fits = places.to_fits in
      let z = point next at.at.width in
      let body : Places = record { at = at.at; to = z; break_to = at.to; continue_to = z } in
      let p = x.code body (next + 1) in
      let q = e.condition z at.at at.to (after (next + 1) p.form) in
      let one = and_parts (is_room next at.at.width) (p.within && q.within) within in
      let two = and_parts p.within q.within one.1 in
      let os = a_point at.at.width ∷ [] in
      let opened = without_head next (at.at.symbol ∷ [])
      (append_code (opens os) (append_code p.form q.form)) stands in
      let at_z = first_point c next at.at.width [] (append_code p.form q.form) opened one.0 in
      let rest = stands_right c next (opens os) (append_code p.form q.form) opened in
      fits_append c integers p.form q.form
      (inner.code body (next + 1) (record {
        same = same;
        here = places.here;
        to = at_z;
        breaks =
            places.to;
        continues = at_z;
        to_fits = omega (arith, same, stay);
        break_fits = fits;
        continue_fits = omega (arith, same);
      })
      two.0 (stands_left c (next + 1) p.form q.form rest))
      (test.condition z at.at at.to (after (next + 1) p.form) (omega (arith, same)) at_z places.here
      places.to (omega arith) (omega (arith, same, fits)) two.1
      (stands_right c (next + 1) p.form q.form rest))

  -- the places of a `for` after its first part: its head h has i slots
  pub record TurnIn (n i : ℕ) (h : Point) (at : Places) : Type 0 where
    pub same : h.width ≡ i
    pub here : PointIn c h
    pub to : PointIn c at.to
    pub breaks : PointIn c at.break_to
    pub continues : PointIn c at.continue_to
    pub to_fits : at.to.width ≤ i
    pub break_fits : at.break_to.width ≤ i
    pub continue_fits : at.continue_to.width ≤ i

  abbrev pub FitsTurn : ℕ → ℕ → (Point → Places → ℕ → Formed Code) → Type 0
  FitsTurn n i code =
      (h : Point) (at : Places) (next : ℕ) → TurnIn n i h at → (code h at next).within ≡ true →
      StandsIn c next (code h at next).form → Fits c integers (code h at next).form

  turn_fits : (n i k : ℕ) (e : Asked) (x : Compiled) → i ≤ k →
      FitsExpr c integers kept callable entries i e → FitsStmt i k x →
      FitsTurn n i (loop_code e None x)
  turn_fits n i k e x stay test inner h at next places within stands =
      let same = places.same in
      let fits = places.to_fits in
      let y = point next h.width in
      let p = e.condition h y at.to (next + 1) in
      let body : Places = record { at = y; to = h; break_to = at.to; continue_to = h } in
      let q = x.code body (after (next + 1) p.form) in
      let one = and_parts (is_room next h.width) (p.within && q.within) within in
      let two = and_parts p.within q.within one.1 in
      let os = a_point h.width ∷ [] in
      let opened = without_head next (h.symbol ∷ [])
      (append_code (opens os) (append_code p.form q.form)) stands in
      let at_y = first_point c next h.width [] (append_code p.form q.form) opened one.0 in
      let rest = stands_right c next (opens os) (append_code p.form q.form) opened in
      fits_append c integers p.form q.form
      (test.condition h y at.to (next + 1) (omega (arith, same)) places.here at_y places.to
      (omega arith) (omega (arith, same, fits)) two.0
      (stands_left c (next + 1) p.form q.form rest))
      (inner.code body (after (next + 1) p.form)
      (record {
        same = same;
        here = at_y;
        to = places.here;
        breaks = places.to;
        continues =
            places.here;
        to_fits = omega (arith, same, stay);
        break_fits = fits;
        continue_fits =
            omega (arith, same);
      })
      two.1 (stands_right c (next + 1) p.form q.form rest))

  change_turn_fits : (n i k l : ℕ) (e : Asked) (w x : Compiled) → i ≤ k → i ≤ l →
      FitsExpr c integers kept callable entries i e → FitsStmt i l w → FitsStmt i k x →
      FitsTurn n i (loop_code e (Some w) x)
  change_turn_fits n i k l e w x stay also test change inner h at next places within stands =
      let same = places.same in
      let fits = places.to_fits in
      let y = point next h.width in
      let z = point (next + 1) h.width in
      let p = e.condition h y at.to (next + 2) in
      let body : Places = record { at = y; to = z; break_to = at.to; continue_to = z } in
      let q = x.code body (after (next + 2) p.form) in
      let back : Places = record at { at = z; to = h } in
      let r = w.code back (after (after (next + 2) p.form) q.form) in
      let one = and_parts (is_room next h.width)
      (is_room (next + 1) h.width && (p.within && (q.within && r.within))) within in
      let two = and_parts (is_room (next + 1) h.width) (p.within && (q.within && r.within)) one.1 in
      let three = and_parts p.within (q.within && r.within) two.1 in
      let four = and_parts q.within r.within three.1 in
      let os = a_point h.width ∷ a_point h.width ∷ [] in
      let all = append_code p.form (append_code q.form r.form) in
      let opened = without_head next (h.symbol ∷ []) (append_code (opens os) all) stands in
      let at_y = first_point c next h.width (a_point h.width ∷ []) all opened one.0 in
      let at_z = later_point c next 1 h.width os all opened refl two.0 in
      let rest = stands_right c next (opens os) all opened in
      let parts = stands_right c (next + 2) p.form (append_code q.form r.form) rest in
      fits_append c integers p.form (append_code q.form r.form)
      (test.condition h y at.to (next + 2) (omega (arith, same)) places.here at_y places.to
      (omega arith) (omega (arith, same, fits)) three.0
      (stands_left c (next + 2) p.form (append_code q.form r.form) rest))
      (fits_append c integers q.form r.form
      (inner.code body (after (next + 2) p.form)
      (record {
        same = same;
        here = at_y;
        to = at_z;
        breaks = places.to;
        continues = at_z;
        to_fits = omega (arith, same, stay);
        break_fits = fits;
        continue_fits =
            omega (arith, same);
      })
      four.0 (stands_left c (after (next + 2) p.form) q.form r.form parts))
      (change.code back (after (after (next + 2) p.form) q.form)
      (record {
        same = same;
        here = at_z;
        to = places.here;
        breaks = places.breaks;
        continues =
            places.continues;
        to_fits = omega (arith, same, also);
        break_fits = places.break_fits;
        continue_fits = places.continue_fits;
      })
      four.1 (stands_right c (after (next + 2) p.form) q.form r.form parts)))

  -- ---- lists

  abbrev pub FitsList : ℕ → ℕ → List Compiled → Type 0
  FitsList n k xs = FitsFrom n k (list_code xs)

  one_fits : (n k l : ℕ) (x y : Compiled) (ys : List Compiled) → n ≤ k → FitsStmt n k x →
      FitsList k l (y ∷ ys) → FitsList n l (x ∷ y ∷ ys)
  one_fits n k l x y ys stay first others at next places within stands =
      let same = places.same in
      let m = x.slots_after at.at.width in
      let wide : m ≡ k = ap x.slots_after same ∙ first.slots in
      let z = point next m in
      let before : Places = record at { to = z } in
      let later : Places = record at { at = z } in
      let p = x.code before (next + 1) in
      let q = list_code (y ∷ ys) later (after (next + 1) p.form) in
      let one = and_parts (is_room next m) (p.within && q.within) within in
      let two = and_parts p.within q.within one.1 in
      let os = a_point m ∷ [] in
      let at_z = first_point c next m [] (append_code p.form q.form) stands one.0 in
      let rest = stands_right c next (opens os) (append_code p.form q.form) stands in
      let b = places.break_fits in
      let j = places.continue_fits in
      fits_append c integers p.form q.form
      (first.code before (next + 1) (record {
        same = same;
        here = places.here;
        to = at_z;
        breaks =
            places.breaks;
        continues = places.continues;
        to_fits = omega (arith, wide);
        break_fits =
            b;
        continue_fits = j;
      })
      two.0 (stands_left c (next + 1) p.form q.form rest))
      (others later (after (next + 1) p.form)
      (record {
        same = wide;
        here = at_z;
        to = places.to;
        breaks = places.breaks;
        continues =
            places.continues;
        to_fits = places.to_fits;
        break_fits = omega (arith, b, stay);
        continue_fits = omega (arith, j, stay);
      })
      two.1 (stands_right c (next + 1) p.form q.form rest))

  -- a `for`, by its first part and its turns
  for_fits : (n i : ℕ) (xs : List Compiled) (e : Asked) (w : Option Compiled) (x : Compiled) → n ≤
      i → slots_after_all xs n ≡ i → FitsList n i xs → FitsTurn n i (loop_code e w x) →
      FitsFrom n n (for_code xs e w x)
  for_fits n i [] e w x stay slots list turn at next places within stands =
      let fits = places.to_fits in let b = places.break_fits in let j = places.continue_fits in
      turn at.at at next (record {
        same = places.same ∙ slots;
        here = places.here;
        to = places.to;
        breaks = places.breaks;
        continues = places.continues;
        to_fits = omega (arith, fits, stay);
        break_fits = omega (arith, b, stay);
        continue_fits = omega (arith, j, stay);
      }) within stands
  for_fits n i (s ∷ ss) e w x stay slots list turn at next places within stands =
      let fits = places.to_fits in let b = places.break_fits in let j = places.continue_fits in
      let m = slots_after_all (s ∷ ss) at.at.width in
      let wide : m ≡ i = ap (slots_after_all (s ∷ ss)) places.same ∙ slots in
      let h = point next m in
      let first : Places = record at { to = h } in
      let p = list_code (s ∷ ss) first (next + 1) in
      let q = loop_code e w x h at (after (next + 1) p.form) in
      let one = and_parts (is_room next m) (p.within && q.within) within in
      let two = and_parts p.within q.within one.1 in
      let os = a_point m ∷ [] in
      let at_h = first_point c next m [] (append_code p.form q.form) stands one.0 in
      let rest = stands_right c next (opens os) (append_code p.form q.form) stands in
      fits_append c integers p.form q.form
      (list first (next + 1) (record {
        same = places.same;
        here = places.here;
        to = at_h;
        breaks =
            places.breaks;
        continues = places.continues;
        to_fits = omega (arith, wide);
        break_fits =
            b;
        continue_fits = j;
      })
      two.0 (stands_left c (next + 1) p.form q.form rest))
      (turn h at (after (next + 1) p.form) (record {
        same = wide;
        here = at_h;
        to = places.to;
        breaks = places.breaks;
        continues = places.continues;
        to_fits = omega (arith, fits, stay);
        break_fits = omega (arith, b, stay);
        continue_fits = omega (arith, j, stay);
      }) two.1 (stands_right c (next + 1) p.form q.form rest))

  to_go : (n : ℕ) → FitsFrom n n (λ at next. pure (does at.at (Go at.to)))
  to_go n = goes_fit n (λ at. at.to) (λ at places. places.to) (λ at places. places.to_fits)

  test_is : (n : ℕ) (test : Option Expr) → IsExpr callable n (test_or_one test) →
      FitsExpr c integers kept callable entries n (expr_code integers (test_or_one test))
  test_is n test is = expr_is n (test_or_one test) is

  -- a block's own slots are out of scope after it
  block_fits : (n i : ℕ) (ts : List Stmt) → n ≤ i → FitsList n i (map (stmt_code integers) ts) →
      FitsFrom n n (list_code (map (stmt_code integers) ts))
  block_fits n i ts stay list at next places within stands =
      let fits = places.to_fits in
      list at next (record {
        same = places.same;
        here = places.here;
        to = places.to;
        breaks =
            places.breaks;
        continues = places.continues;
        to_fits = omega (arith, fits, stay);
        break_fits = places.break_fits;
        continue_fits = places.continue_fits;
      }) within stands

  mutual
    -- the code of a statement in order fits
    pub stmt_fits : (n : ℕ) (t : Stmt) (k : ℕ) → IsStmt callable n t k →
        FitsStmt n k (stmt_code integers t)
    stmt_fits n t k (scope.empty _) =
        subst (FitsStmt n k) (sym (code-Empty integers)) (record { slots = refl; code = to_go n })
    stmt_fits n t k (scope.unset _) =
        subst (FitsStmt n k) (sym (code-Declare integers n None))
        (record {
          slots = omega arith;
          code =
              declares_fit n (expr_code integers (Lit (pos 0)))
              (expr_is n (Lit (pos 0)) (scope.literal (pos 0)));
        })
    stmt_fits n t k (scope.declared _ e is) =
        subst (FitsStmt n k) (sym (code-Declare integers n (Some e)))
        (record {
          slots = omega arith;
          code =
              declares_fit n (expr_code integers e) (expr_is n e is);
        })
    stmt_fits n t k (scope.assigned_to _ v e below is) =
        subst (FitsStmt n k) (sym (code-Assign integers v e))
        (record {
          slots = refl;
          code = assigns_fit n v (expr_code integers e) below
              (expr_is n e is);
        })
    stmt_fits n t k (scope.if_alone _ l e u is inner) =
        subst (FitsStmt n k) (sym (code-If integers e u None))
        (record {
          slots = refl;
          code = if_fits n l (expr_code integers e) (stmt_code integers u)
              (slots_stay callable n l u inner) (expr_is n e is) (stmt_fits n u l inner);
        })
    stmt_fits n t k (scope.if_else _ l l' e u v is inner other) =
        subst (FitsStmt n k) (sym (code-If integers e u (Some v))) (record {
          slots = refl;
          code =
              if_else_fits n l l' (expr_code integers e) (stmt_code integers u)
              (stmt_code integers v)
              (slots_stay callable n l u inner) (slots_stay callable n l' v other)
              (expr_is n e is) (stmt_fits n u l inner) (stmt_fits n v l' other);
        })
    stmt_fits n t k (scope.while_loop _ l e u is inner) =
        subst (FitsStmt n k) (sym (code-While integers e u))
        (record {
          slots = refl;
          code = while_fits n l (expr_code integers e) (stmt_code integers u)
              (slots_stay callable n l u inner) (expr_is n e is) (stmt_fits n u l inner);
        })
    stmt_fits n t k (scope.do_loop _ l e u is inner) =
        subst (FitsStmt n k) (sym (code-DoWhile integers u e))
        (record {
          slots = refl;
          code = do_fits n l (stmt_code integers u) (expr_code integers e)
              (slots_stay callable n l u inner) (stmt_fits n u l inner) (expr_is n e is);
        })
    stmt_fits n t k (scope.for_loop _ i l first test u begun is inner) =
        subst (FitsStmt n k) (sym (code-For integers first test None u)) (record {
          slots = refl;
          code =
              for_fits n i (map (stmt_code integers) first)
              (expr_code integers (test_or_one test)) None (stmt_code integers u)
              (all_slots_stay callable n i first begun)
              (list_slots integers any_action callable n first i begun) (list_fits n first i begun)
              (turn_fits n i l (expr_code integers (test_or_one test)) (stmt_code integers u)
              (slots_stay callable i l u inner) (test_is i test is) (stmt_fits i u l inner));
        })
    stmt_fits n t k (scope.for_change _ i l l' first test v u begun is changed inner) =
        subst (FitsStmt n k) (sym (code-For integers first test (Some v) u)) (record {
          slots = refl;
          code =
              for_fits n i (map (stmt_code integers) first) (expr_code integers (test_or_one test))
              (Some (stmt_code integers v))
              (stmt_code integers u)
              (all_slots_stay callable n i first begun)
              (list_slots integers any_action callable n first i begun) (list_fits n first i begun)
              (change_turn_fits n i l l' (expr_code integers (test_or_one test))
              (stmt_code integers v) (stmt_code integers u)
              (slots_stay callable i l u inner) (slots_stay callable i l' v changed)
              (test_is i test is) (stmt_fits i v l' changed) (stmt_fits i u l inner));
        })
    stmt_fits n t k (scope.break_out _ token) =
        subst (FitsStmt n k) (sym (code-Break integers token))
        (record {
          slots = refl;
          code = goes_fit n (λ at. at.break_to)
              (λ at places. places.breaks) (λ at places. places.break_fits);
        })
    stmt_fits n t k (scope.go_on _ token) =
        subst (FitsStmt n k) (sym (code-Continue integers token))
        (record {
          slots = refl;
          code = goes_fit n (λ at. at.continue_to)
              (λ at places. places.continues) (λ at places. places.continue_fits);
        })
    stmt_fits n t k (scope.returned _ e is) =
        subst (FitsStmt n k) (sym (code-Return integers e))
        (record { slots = refl; code = returns_fit n (expr_code integers e) (expr_is n e is) })
    stmt_fits n t k (scope.block _ i ts inner) =
        subst (FitsStmt n k) (sym (code-Block integers ts))
        (record {
          slots = refl;
          code = block_fits n i ts (all_slots_stay callable n i ts inner)
              (list_fits n ts i inner);
        })

    pub list_fits : (n : ℕ) (ts : List Stmt) (k : ℕ) → AreStmts callable n ts k →
        FitsList n k (map (stmt_code integers) ts)
    list_fits n [] k (scope.no_stmt _) = to_go n
    list_fits n (t ∷ []) k (scope.more_stmts _ l _ _ _ first rest) =
        subst (λ j. FitsList n j (map (stmt_code integers) (t ∷ []))) (no_more callable l k rest)
        (stmt_fits n t l first).code
    list_fits n (t ∷ u ∷ us) k (scope.more_stmts _ l _ _ _ first rest) =
        one_fits n l k (stmt_code integers t) (stmt_code integers u) (map (stmt_code integers) us)
        (slots_stay callable n l t first) (stmt_fits n t l first) (list_fits l (u ∷ us) k rest)
