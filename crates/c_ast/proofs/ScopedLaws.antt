-- What is in order reads slots in scope and calls functions that are there, and a statement leaves
-- the slots that it found, but for the one that it declares.
use Rattle.std.proofs.Common.{◌≡◌, refl, sym, subst, ℕ, ◌+◌, ◌≤◌, ◌<◌, Bool, true, false, ◌&&◌, Option, Some, None, List, [], ◌∷◌, ◌++◌, length, map, arith}
use Rattle.std.specs.Prelude.{nat_eq, nat_lt, slice_get}
use Rattle.std.specs.List.{All, concat, list_all}
use Rattle.std.specs.Option.{is_some, option_and_then}
use Rattle.std.proofs.lemmas.Bool.{and_parts, ltb-true}
use Rattle.std.proofs.lemmas.List.{length-map}
use Rattle.std.proofs.lemmas.List.Elements.{All-append, All-cons, All-nil}
use Rattle.std.proofs.lemmas.Option.{none-some, same_Some, slice_get_within}
use Rattle.rx_plain.proofs.Lists.{all_at}
use Rattle.c_ast.specs.Calls.{calls, calls_level, calls_in, calls_in_level}
use Rattle.c_ast.specs.Variables.{list_of_option, variables, variables_level}
use Rattle.c_ast.specs.Scoped.{passes_if_there, takes, SlotStep, slots_in_order, is_fine, is_fine_turn, only_if, is_scoped_level, is_scoped_expr, slots_level, slots_after, is_scoped_function, parameter_counts, is_scoped}
use Rattle.c_ast.specs.declared.expr.Expr.{Expr}
use Rattle.c_ast.specs.declared.expr.Expr.TheOpen.{Expr-F}
use Rattle.c_ast.specs.declared.expr.Expr.TheFolds.{map-Expr, fold-roll-Expr, ind-Expr}
use Rattle.c_ast.specs.declared.expr.Expr.TheViews.{roll-Expr}
use Rattle.c_ast.specs.declared.stmt.Stmt.{Stmt}
use Rattle.c_ast.specs.declared.stmt.Stmt.TheOpen.{Stmt-F}
use Rattle.c_ast.specs.declared.stmt.Stmt.TheFolds.{map-Stmt, fold_out-Stmt, fold-roll-Stmt, ind-Stmt}
use Rattle.c_ast.specs.declared.stmt.Stmt.TheViews.{out-Stmt, roll-Stmt}
use Rattle.c_ast.specs.declared.program.Function.{Function}
use Rattle.c_ast.specs.declared.program.Resolved.{Resolved}

-- what leaves slots was in order, and leaves these
pub only_if_is : (fine : Bool) (n m : ℕ) → only_if fine n ≡ Some m → (fine ≡ true) × (n ≡ m)
only_if_is true n m is = (refl, same_Some n m is)
only_if_is false n m is = absurd (none-some m is)

-- what is fine leaves some number of slots
pub fine_is : (o : Option ℕ) → is_some o ≡ true → (m : ℕ) × (o ≡ Some m)
fine_is None is = absurd (let no : ⊥ = cc in no)
fine_is (Some m) is = (m, refl)

-- a step that was followed by another has left some number of slots
pub then_is : (f : ℕ → Option ℕ) (o : Option ℕ) (m : ℕ) → option_and_then f o ≡ Some m → (i : ℕ) ×
    (o ≡ Some i) × (f i ≡ Some m)
then_is f None m is = absurd (none-some m is)
then_is f (Some i) m is = (i, refl, is)

-- a function that takes arguments is there
taken_within : (counts : List ℕ) (f arguments : ℕ) (o : Option ℕ) → slice_get counts f ≡ o →
    takes o arguments ≡ true → f < length counts
taken_within counts f arguments None there is = absurd (let no : ⊥ = cc in no)
taken_within counts f arguments (Some k) there is = slice_get_within counts f k there

module _ (counts : List ℕ) where
  -- functions that are there
  abbrev pub AreThere : List ℕ → Type 0
  AreThere = All (λ f. f < length counts)

  none_there : AreThere []
  none_there = All-nil (λ f. f < length counts)

  both_there : (fs gs : List ℕ) → AreThere fs → AreThere gs → AreThere (fs ++ gs)
  both_there = All-append (λ f. f < length counts)

  -- ---- expressions

  module _ (n : ℕ) where
    abbrev AreBelow : List ℕ → Type 0
    AreBelow = All (λ v. v < n)

    -- where a test passes, these variables are slots in scope, and these functions are there
    record Named (vs fs : List ℕ) : Type 0 where
      pub below : AreBelow vs
      pub there : AreThere fs

    abbrev Names : Bool → List ℕ → List ℕ → Type 0
    Names fine vs fs = fine ≡ true → Named vs fs

    no_names : Named [] []
    no_names = record { below = All-nil (λ v. v < n); there = none_there }

    both_named : (us vs fs gs : List ℕ) → Named us fs → Named vs gs → Named (us ++ vs) (fs ++ gs)
    both_named us vs fs gs left right = record {
      below = All-append (λ v. v < n) us vs left.below right.below;
      there = both_there fs gs left.there right.there;
    }

    literal_named : Names true [] []
    literal_named is = no_names

    variable_named : (v : ℕ) → Names (nat_lt v n) (v ∷ []) []
    variable_named v is =
        record {
          below = All-cons (λ u. u < n) v [] (ltb-true v n is) (All-nil (λ u. u < n));
          there = none_there;
        }

    binary_named : (a b : Bool) (us vs fs gs : List ℕ) → Names a us fs → Names b vs gs →
        Names (a && b) (us ++ vs) (fs ++ gs)
    binary_named a b us vs fs gs left right is =
        let h = and_parts a b is in both_named us vs fs gs (left h.0) (right h.1)

    choose_named : (c a b : Bool) (ts us vs es fs gs : List ℕ) → Names c ts es → Names a us fs →
        Names b vs gs
        → Names (c && (a && b)) (ts ++ us ++ vs) (es ++ fs ++ gs)
    choose_named c a b ts us vs es fs gs test left right is =
        let h = and_parts c (a && b) is in
        let k = and_parts a b h.1 in
        both_named (ts ++ us) vs (es ++ fs) gs (both_named ts us es fs (test h.0) (left k.0))
        (right k.1)

    abbrev fine : Expr → Bool
    fine = is_scoped_expr counts n

    abbrev Part : Type 0
    Part = (e : Expr) × Names (fine e) (variables e) (calls e)

    abbrev trees : List Part → List Expr
    trees = map (λ (p : Part). p.0)

    arguments_named : (ps : List Part) → Names (list_all (λ a. a) (map fine (trees ps)))
        (concat (map variables (trees ps))) (concat (map calls (trees ps)))
    arguments_named [] is = no_names
    arguments_named (p ∷ ps) is =
        let h = and_parts (fine p.0) (list_all (λ a. a) (map fine (trees ps))) is in
        both_named (variables p.0) (concat (map variables (trees ps))) (calls p.0)
        (concat (map calls (trees ps))) (p.1 h.0) (arguments_named ps h.1)

    call_named : (f : ℕ) (ps : List Part) → Names
        (takes (slice_get counts f) (length (map fine (trees ps))) &&
        list_all (λ a. a) (map fine (trees ps)))
        (concat (map variables (trees ps))) (f ∷ concat (map calls (trees ps)))
    call_named f ps is =
        let h = and_parts (takes (slice_get counts f) (length (map fine (trees ps))))
        (list_all (λ a. a) (map fine (trees ps))) is in
        let arguments = arguments_named ps h.1 in
        let here = taken_within counts f (length (map fine (trees ps))) (slice_get counts f) refl
        h.0 in
        record {
          below = arguments.below;
          there =
              All-cons (λ g. g < length counts) f (concat (map calls (trees ps))) here
              arguments.there;
        }

    level : (y : Expr-F Part) → Names (is_scoped_level counts n
        (map-Expr Expr Bool fine (map-Expr Part Expr (λ p. p.0) y)))
        (variables_level (map-Expr Expr (List ℕ) variables (map-Expr Part Expr (λ p. p.0) y)))
        (calls_level (map-Expr Expr (List ℕ) calls (map-Expr Part Expr (λ p. p.0) y)))
    level (Expr-F.Lit k) = literal_named
    level (Expr-F.Var v) = variable_named v
    level (Expr-F.Unary op p) = p.1
    level (Expr-F.Binary op p q) =
        binary_named (fine p.0) (fine q.0) (variables p.0) (variables q.0) (calls p.0) (calls q.0)
        p.1 q.1
    level (Expr-F.Choose c p q) =
        choose_named (fine c.0) (fine p.0) (fine q.0) (variables c.0) (variables p.0)
        (variables q.0) (calls c.0) (calls p.0) (calls q.0) c.1 p.1 q.1
    level (Expr-F.Apply f ps) = call_named f ps

    step : (x : Expr-F Expr) (y : Expr-F Part) → map-Expr Part Expr (λ p. p.0) y ≡ x →
        Names (fine (roll-Expr x)) (variables (roll-Expr x)) (calls (roll-Expr x))
    step x y is =
        let P : Expr-F Expr → Type 0 = λ z. Names
        (is_scoped_level counts n (map-Expr Expr Bool fine z))
        (variables_level (map-Expr Expr (List ℕ) variables z))
        (calls_level (map-Expr Expr (List ℕ) calls z)) in
        let opened : P x = subst P is (level y) in
        let same_fine = sym (fold-roll-Expr Bool (is_scoped_level counts n) x) in
        let same_variables = sym (fold-roll-Expr (List ℕ) variables_level x) in
        let same_calls = sym (fold-roll-Expr (List ℕ) calls_level x) in
        subst (λ b. Names b (variables (roll-Expr x)) (calls (roll-Expr x))) same_fine
        (subst (λ vs. Names (is_scoped_level counts n (map-Expr Expr Bool fine x)) vs
        (calls (roll-Expr x))) same_variables
        (subst (λ fs. Names (is_scoped_level counts n (map-Expr Expr Bool fine x))
        (variables_level (map-Expr Expr (List ℕ) variables x)) fs) same_calls opened))

    expr_named : (e : Expr) → Names (fine e) (variables e) (calls e)
    expr_named = ind-Expr (λ e. Names (fine e) (variables e) (calls e)) step

    -- an expression in order reads slots in scope
    pub variables_in_scope : (e : Expr) → is_scoped_expr counts n e ≡ true →
        All (λ v. v < n) (variables e)
    variables_in_scope e is = (expr_named e is).below

    -- and calls functions that are there
    pub calls_there : (e : Expr) → is_scoped_expr counts n e ≡ true → AreThere (calls e)
    calls_there e is = (expr_named e is).there

    optional_there : (e : Option Expr) → passes_if_there (is_scoped_expr counts n) e ≡ true →
        AreThere (list_of_option calls e)
    optional_there None is = none_there
    optional_there (Some e) is = calls_there e is

  -- ---- the slots that statements leave

  -- no fewer than there were, and at most one more
  abbrev Grows : SlotStep → Type 0
  Grows t = (n m : ℕ) → t n ≡ Some m → (n ≤ m) × (m ≤ n + 1)

  at_once : Grows Some
  at_once n m is = let e : n ≡ m = same_Some n m is in (omega (arith, e), omega (arith, e))

  kept : (fine : ℕ → Bool) → Grows (λ n. only_if (fine n) n)
  kept fine n m is =
      let e : n ≡ m = (only_if_is (fine n) n m is).1 in (omega (arith, e), omega (arith, e))

  one_more : (fine : ℕ → Bool) → Grows (λ n. only_if (fine n) (n + 1))
  one_more fine n m is =
      let e : n + 1 ≡ m = (only_if_is (fine n) (n + 1) m is).1 in
      (omega (arith, e), omega (arith, e))

  kept_after : (fine : ℕ → Bool) (first : SlotStep) →
      Grows (λ n. option_and_then (λ i. only_if (fine i) n) (first n))
  kept_after fine first n m is =
      let h = then_is (λ i. only_if (fine i) n) (first n) m is in
      let e : n ≡ m = (only_if_is (fine h.0) n m h.2).1 in (omega (arith, e), omega (arith, e))

  level_grows : (y : Stmt-F SlotStep) → Grows (slots_level counts y)
  level_grows Stmt-F.Empty = at_once
  level_grows (Stmt-F.Declare slot value) =
      one_more (λ n. nat_eq slot n && passes_if_there (is_scoped_expr counts n) value)
  level_grows (Stmt-F.Assign slot value) =
      kept (λ n. nat_lt slot n && is_scoped_expr counts n value)
  level_grows (Stmt-F.If test inner other) =
      kept (λ n. is_scoped_expr counts n test &&
      (is_fine inner n && passes_if_there (λ t. is_fine t n) other))
  level_grows (Stmt-F.While test inner) =
      kept (λ n. is_scoped_expr counts n test && is_fine inner n)
  level_grows (Stmt-F.DoWhile inner test) =
      kept (λ n. is_fine inner n && is_scoped_expr counts n test)
  level_grows (Stmt-F.For first test change inner) =
      kept_after (is_fine_turn counts test change inner) (slots_in_order first)
  level_grows (Stmt-F.Break token) = at_once
  level_grows (Stmt-F.Continue token) = at_once
  level_grows (Stmt-F.Return value) = kept (λ n. is_scoped_expr counts n value)
  level_grows (Stmt-F.Block inner) = kept (λ n. is_fine (slots_in_order inner) n)

  -- a statement leaves the slots that it found, and at most one more
  pub slots_grow : (t : Stmt) → Grows (slots_after counts t)
  slots_grow t =
      subst Grows (sym (fold_out-Stmt SlotStep (slots_level counts) t))
      (level_grows (map-Stmt Stmt SlotStep (slots_after counts) (out-Stmt t)))

  -- statements in their order leave no fewer
  pub slots_in_order_grow : (ts : List Stmt) (n m : ℕ) →
      slots_in_order (map (slots_after counts) ts) n ≡ Some m → n ≤ m
  slots_in_order_grow [] n m is = let e : n ≡ m = same_Some n m is in omega (arith, e)
  slots_in_order_grow (t ∷ ts) n m is =
      let h = then_is (slots_in_order (map (slots_after counts) ts)) (slots_after counts t n) m is
      in
      let first = (slots_grow t n h.0 h.1).0 in
      let rest = slots_in_order_grow ts h.0 m h.2 in
      omega (arith, first, rest)

  -- ---- the calls of statements

  -- where a step leaves slots, these functions are there
  abbrev Calls : SlotStep → List ℕ → Type 0
  Calls t fs = (n m : ℕ) → t n ≡ Some m → AreThere fs

  inner_there : (t : SlotStep) (fs : List ℕ) → Calls t fs → (n : ℕ) → is_fine t n ≡ true →
      AreThere fs
  inner_there t fs there n is = let h = fine_is (t n) is in there n h.0 h.1

  nothing_called : Calls Some []
  nothing_called n m is = none_there

  -- of a part that may be left out
  abbrev CallsPart : Option SlotStep → List ℕ → Type 0
  CallsPart t fs = (n : ℕ) → passes_if_there (λ u. is_fine u n) t ≡ true → AreThere fs

  no_part_called : CallsPart None []
  no_part_called n is = none_there

  part_called : (t : SlotStep) (fs : List ℕ) → Calls t fs → CallsPart (Some t) fs
  part_called t fs there n is = inner_there t fs there n is

  declare_called : (slot : ℕ) (value : Option Expr) →
      Calls (slots_level counts (Stmt-F.Declare slot value)) (list_of_option calls value)
  declare_called slot value n m is =
      let h = and_parts (nat_eq slot n) (passes_if_there (is_scoped_expr counts n) value)
      (only_if_is _ (n + 1) m is).0 in
      optional_there n value h.1

  assign_called : (slot : ℕ) (value : Expr) →
      Calls (slots_level counts (Stmt-F.Assign slot value)) (calls value)
  assign_called slot value n m is =
      let h = and_parts (nat_lt slot n) (is_scoped_expr counts n value) (only_if_is _ n m is).0 in
      calls_there n value h.1

  if_called : (test : Expr) (t : SlotStep) (o : Option SlotStep) (fs gs : List ℕ) → Calls t fs →
      CallsPart o gs
      → Calls (slots_level counts (Stmt-F.If test t o)) (calls test ++ fs ++ gs)
  if_called test t o fs gs there others n m is =
      let h = and_parts (is_scoped_expr counts n test)
      (is_fine t n && passes_if_there (λ u. is_fine u n) o) (only_if_is _ n m is).0 in
      let k = and_parts (is_fine t n) (passes_if_there (λ u. is_fine u n) o) h.1 in
      both_there (calls test ++ fs) gs (both_there (calls test) fs (calls_there n test h.0)
      (inner_there t fs there n k.0)) (others n k.1)

  while_called : (test : Expr) (t : SlotStep) (fs : List ℕ) → Calls t fs →
      Calls (slots_level counts (Stmt-F.While test t)) (calls test ++ fs)
  while_called test t fs there n m is =
      let h = and_parts (is_scoped_expr counts n test) (is_fine t n) (only_if_is _ n m is).0 in
      both_there (calls test) fs (calls_there n test h.0) (inner_there t fs there n h.1)

  do_called : (t : SlotStep) (test : Expr) (fs : List ℕ) → Calls t fs →
      Calls (slots_level counts (Stmt-F.DoWhile t test)) (fs ++ calls test)
  do_called t test fs there n m is =
      let h = and_parts (is_fine t n) (is_scoped_expr counts n test) (only_if_is _ n m is).0 in
      both_there fs (calls test) (inner_there t fs there n h.0) (calls_there n test h.1)

  for_called : (first : List SlotStep) (test : Option Expr) (change : Option SlotStep)
      (t : SlotStep) (es fs gs : List ℕ)
      → Calls (slots_in_order first) es → CallsPart change fs → Calls t gs
      → Calls (slots_level counts (Stmt-F.For first test change t))
      (es ++ list_of_option calls test ++ fs ++ gs)
  for_called first test change t es fs gs before step_there there n m is =
      let h = then_is (λ i. only_if (is_fine_turn counts test change t i) n)
      (slots_in_order first n) m is in
      let k = and_parts (passes_if_there (is_scoped_expr counts h.0) test)
      (passes_if_there (λ u. is_fine u h.0) change && is_fine t h.0) (only_if_is _ n m h.2).0 in
      let l = and_parts (passes_if_there (λ u. is_fine u h.0) change) (is_fine t h.0) k.1 in
      let tested = both_there es (list_of_option calls test) (before n h.0 h.1)
      (optional_there h.0 test k.0) in
      let changed = both_there (es ++ list_of_option calls test) fs tested (step_there h.0 l.0) in
      both_there (es ++ list_of_option calls test ++ fs) gs changed (inner_there t gs there h.0 l.1)

  return_called : (value : Expr) → Calls (slots_level counts (Stmt-F.Return value)) (calls value)
  return_called value n m is = calls_there n value (only_if_is _ n m is).0

  block_called : (ts : List SlotStep) (fs : List ℕ) → Calls (slots_in_order ts) fs →
      Calls (slots_level counts (Stmt-F.Block ts)) fs
  block_called ts fs there n m is =
      inner_there (slots_in_order ts) fs there n (only_if_is _ n m is).0

  more_called : (t : SlotStep) (ts : List SlotStep) (fs gs : List ℕ) → Calls t fs →
      Calls (slots_in_order ts) gs → Calls (slots_in_order (t ∷ ts)) (fs ++ gs)
  more_called t ts fs gs first rest n m is =
      let h = then_is (slots_in_order ts) (t n) m is in
      both_there fs gs (first n h.0 h.1) (rest h.0 m h.2)

  abbrev after : Stmt → SlotStep
  after = slots_after counts

  abbrev StmtPart : Type 0
  StmtPart = (t : Stmt) × Calls (after t) (calls_in t)

  abbrev stmts : List StmtPart → List Stmt
  stmts = map (λ (p : StmtPart). p.0)

  parts_called : (ps : List StmtPart) → Calls (slots_in_order (map after (stmts ps)))
      (concat (map calls_in (stmts ps)))
  parts_called [] = nothing_called
  parts_called (p ∷ ps) =
      more_called (after p.0) (map after (stmts ps)) (calls_in p.0)
      (concat (map calls_in (stmts ps))) p.1 (parts_called ps)

  stmt_level : (y : Stmt-F StmtPart) → Calls (slots_level counts
      (map-Stmt Stmt SlotStep after (map-Stmt StmtPart Stmt (λ p. p.0) y)))
      (calls_in_level (map-Stmt Stmt (List ℕ) calls_in (map-Stmt StmtPart Stmt (λ p. p.0) y)))
  stmt_level Stmt-F.Empty = nothing_called
  stmt_level (Stmt-F.Declare slot value) = declare_called slot value
  stmt_level (Stmt-F.Assign slot value) = assign_called slot value
  stmt_level (Stmt-F.If e p None) =
      if_called e (after p.0) None (calls_in p.0) [] p.1 no_part_called
  stmt_level (Stmt-F.If e p (Some q)) =
      if_called e (after p.0) (Some (after q.0)) (calls_in p.0) (calls_in q.0) p.1
      (part_called (after q.0) (calls_in q.0) q.1)
  stmt_level (Stmt-F.While e p) = while_called e (after p.0) (calls_in p.0) p.1
  stmt_level (Stmt-F.DoWhile p e) = do_called (after p.0) e (calls_in p.0) p.1
  stmt_level (Stmt-F.For ps e None p) =
      for_called (map after (stmts ps)) e None (after p.0) (concat (map calls_in (stmts ps))) []
      (calls_in p.0) (parts_called ps) no_part_called p.1
  stmt_level (Stmt-F.For ps e (Some q) p) =
      for_called (map after (stmts ps)) e (Some (after q.0)) (after p.0)
      (concat (map calls_in (stmts ps))) (calls_in q.0) (calls_in p.0)
      (parts_called ps) (part_called (after q.0) (calls_in q.0) q.1) p.1
  stmt_level (Stmt-F.Break token) = nothing_called
  stmt_level (Stmt-F.Continue token) = nothing_called
  stmt_level (Stmt-F.Return value) = return_called value
  stmt_level (Stmt-F.Block ps) =
      block_called (map after (stmts ps)) (concat (map calls_in (stmts ps))) (parts_called ps)

  stmt_step : (x : Stmt-F Stmt) (y : Stmt-F StmtPart) → map-Stmt StmtPart Stmt (λ p. p.0) y ≡ x →
      Calls (after (roll-Stmt x)) (calls_in (roll-Stmt x))
  stmt_step x y is =
      let P : Stmt-F Stmt → Type 0 = λ z. Calls
      (slots_level counts (map-Stmt Stmt SlotStep after z))
      (calls_in_level (map-Stmt Stmt (List ℕ) calls_in z)) in
      let opened : P x = subst P is (stmt_level y) in
      let same_slots = sym (fold-roll-Stmt SlotStep (slots_level counts) x) in
      let same_calls = sym (fold-roll-Stmt (List ℕ) calls_in_level x) in
      subst (λ t. Calls t (calls_in (roll-Stmt x))) same_slots
      (subst (λ fs. Calls (slots_level counts (map-Stmt Stmt SlotStep after x)) fs) same_calls
      opened)

  -- a statement in order calls functions that are there, also where nothing leads
  pub calls_in_there : (t : Stmt) → Calls (slots_after counts t) (calls_in t)
  calls_in_there = ind-Stmt (λ t. Calls (after t) (calls_in t)) stmt_step

  -- and so do statements in their order
  pub list_calls_there : (ts : List Stmt) → Calls (slots_in_order (map (slots_after counts) ts))
      (concat (map calls_in ts))
  list_calls_there [] = nothing_called
  list_calls_there (t ∷ ts) =
      more_called (after t) (map after ts) (calls_in t) (concat (map calls_in ts))
      (calls_in_there t) (list_calls_there ts)

module _ (program : Resolved) (is : is_scoped program ≡ true) (place : ℕ) (f : Function)
    (there : slice_get program.functions place ≡ Some f) where
  -- each function of a program in order is in order
  pub function_in_order : is_scoped_function (parameter_counts program.functions) f ≡ true
  function_in_order =
      all_at (is_scoped_function (parameter_counts program.functions)) program.functions place f
      is there

  -- and calls functions of the program
  pub body_calls_there : All (λ g. g < length program.functions) (concat (map calls_in f.body))
  body_calls_there =
      let counts = parameter_counts program.functions in
      let h = fine_is (slots_in_order (map (slots_after counts) f.body) (length f.params))
      function_in_order in
      let size : length counts ≡ length program.functions =
      length-map program.functions (λ (g : Function). length g.params) in
      subst (λ n. All (λ g. g < n) (concat (map calls_in f.body))) size
      (list_calls_there counts f.body (length f.params) h.0 h.1)
