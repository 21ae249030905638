-- A resolved statement that reads no variable unset is in order, and both walks, that of names and
-- that of definite assignment, have one scope after it.
use Rattle.std.proofs.Common.{◌≡◌, ◌≢◌, ◌∙◌, ap, refl, sym, subst, ℕ, ◌+◌, ◌-◌, ◌<◌, Bool, true, false, not, ◌&&◌, if◌then◌else◌, Option, Some, None, option_map, List, [], ◌∷◌, ◌++◌, length, map, Ok, Err, arith, length-append}
use Rattle.std.specs.Prelude.{nat_eq, nat_lt, slice_get}
use Rattle.std.specs.Option.{is_some, option_and_then}
use Rattle.std.proofs.lemmas.Bool.{and_from, eq-eqb, eqb-false, lt-ltb, not-true}
use Rattle.rx_plain.proofs.Booleans.{and_first}
use Rattle.c_ast.specs.Scoped.{passes_if_there, slots_in_order, is_fine, only_if, is_scoped_expr, slots_after}
use Rattle.c_ast.proofs.ScopedEquations.{slots-Empty, slots-Declare, slots-Assign, slots-If, slots-While, slots-DoWhile, slots-For, slots-Break, slots-Continue, slots-Return, slots-Block}
use Rattle.c_ast.specs.declared.expr.Expr.{Expr}
use Rattle.c_ast.specs.declared.stmt.Stmt.{Stmt}
use Rattle.c_ast.specs.declared.stmt.Stmt.TheVariants.{Empty, Declare, Assign, If, While, DoWhile, For, Break, Continue, Return, Block}
use Rattle.c_ast.specs.declared.stmt.Stmt.TheOpen.{Stmt-F}
use Rattle.c_ast.specs.declared.stmt.Stmt.TheFolds.{map-Stmt, fold-roll-Stmt, ind-Stmt}
use Rattle.c_ast.specs.declared.stmt.Stmt.TheViews.{roll-Stmt}
use Rattle.c_ast.specs.declared.program.Function.{Function}
use Rattle.c_assigned.specs.Sets.{Assigned, meet, with_slot, is_assigned, may_read, is_readable}
use Rattle.c_assigned.specs.Flows as Assigning
use Rattle.c_assigned.specs.Flows.{Transfer, stmt_flow, unset_in, unset_in_test}
use Rattle.c_names.specs.Names.{name_at}
use Rattle.c_names.specs.Slots.{slot_of}
use Rattle.c_names.specs.Expressions.{resolved_expr}
use Rattle.c_names.specs.LookupSlots.{Scope, inner_scope, is_declared, declare}
use Rattle.c_scope.specs.Statements as Scoping
use Rattle.c_scope.specs.Statements.{Scoped, Resolver, pure, only_in_loops, resolved_optional, resolved_stmt}
use Rattle.c_names.specs.Steps.{Checked, and_then, optional}
use Rattle.c_names.specs.declared.error.ScopeEnd.{ScopeEnd}
use Rattle.c_scope.proofs.ResolvedPrograms.{counted}
use Rattle.c_scope.proofs.Steps.{same_Ok, no_fault, found, none_first, none_second}
use Rattle.c_scope.proofs.Places.{slot_in_scope}
use Rattle.c_scope.proofs.Expressions.{known_is, expr_fine}

-- what passes leaves its slots
passed : (fine : Bool) (n : ℕ) → fine ≡ true → only_if fine n ≡ Some n
passed fine n is = ap (λ (b : Bool). only_if b n) is

by_tests : (f g : ScopeEnd) (after s : Scope) (twice few : Bool) →
    ◌≡◌ {A = Checked Scope} (if twice then Err f else if few then Ok after else Err g) (Ok s) →
    after ≡ s
by_tests f g after s true few is = no_fault f s is
by_tests f g after s false true is = same_Ok after s is
by_tests f g after s false false is = no_fault g s is

-- a declared name is the next
pub declared_names : (token name : ℕ) (s after : Scope) → declare token name s ≡ Ok after →
    s.names ++ name ∷ [] ≡ after.names
declared_names token name s after is =
    ap (λ (t : Scope). t.names) (by_tests _ _
    (record { names = s.names ++ name ∷ []; outer = s.outer }) after (is_declared s name)
    (nat_lt (length s.names) 64) is)

-- a variable that may be read isn't the one whose initial value is read
another : (set : Assigned) (own slot : ℕ) → may_read set (Some own) (Some slot) ≡ true → own ≢ slot
another set own slot is =
    eqb-false own slot (not-true (nat_eq own slot)
    (and_first (not (nat_eq own slot)) (is_assigned set slot) is))

module _ (names : List ℕ) (functions : List Function) (counts : List ℕ)
    (counts_are : (i : ℕ) → slice_get counts i ≡ counted (slice_get functions i)) where
  -- an expression
  plain : (scope : List ℕ) (set : Assigned) (e x : Expr) → resolved_expr names functions scope e ≡
      Ok x → unset_in names scope set e ≡ None → is_scoped_expr counts (length scope) x ≡ true
  plain scope set e x is none =
      expr_fine names functions counts counts_are scope set None (length scope)
      (λ token slot at readable. slot_in_scope scope (name_at names token) slot at) e x is none

  -- an expression that may be left out
  optional_plain : (s : Scope) (set : Assigned) (e x : Option Expr) →
      resolved_optional names functions s e ≡ Ok x → unset_in_test names s.names set e ≡ None
      → passes_if_there (is_scoped_expr counts (length s.names)) x ≡ true
  optional_plain s set None x is none =
      subst (λ y. passes_if_there (is_scoped_expr counts (length s.names)) y ≡ true)
      (same_Ok None x is) refl
  optional_plain s set (Some e) x is none =
      let h = found _ _ x is in
      subst (λ y. passes_if_there (is_scoped_expr counts (length s.names)) y ≡ true)
      (same_Ok (Some h.0) x h.2) (plain s.names set e h.0 h.1 none)

  module _ (scope : List ℕ) (name : ℕ) (set : Assigned) where
    -- an initial value reads only slots before its own
    before_own : (token slot : ℕ) → slot_of (scope ++ name ∷ []) (name_at names token) ≡ Some slot
        → is_readable names (scope ++ name ∷ []) (with_slot false set)
        (Some (length (scope ++ name ∷ []) - 1)) token ≡ true → slot < length scope
    before_own token slot at readable =
        let within = slot_in_scope (scope ++ name ∷ []) (name_at names token) slot at in
        let own : ℕ = length (scope ++ name ∷ []) - 1 in
        let differs = another (with_slot false set) own slot
        (subst (λ o. may_read (with_slot false set) (Some own) o ≡ true) at readable) in
        let size : length (scope ++ name ∷ []) ≡ length scope + 1 =
        length-append scope (name ∷ []) in
        omega (arith, within, differs, size)

    -- so it is in order before its own slot is in scope
    initial : (e x : Option Expr) → optional (option_map
        (resolved_expr names functions (scope ++ name ∷ [])) e) ≡ Ok x
        → (Assigning.declaration_flow names (scope ++ name ∷ []) set e).flow.unset ≡ None →
        passes_if_there (is_scoped_expr counts (length scope)) x ≡ true
    initial None x is none =
        subst (λ y. passes_if_there (is_scoped_expr counts (length scope)) y ≡ true)
        (same_Ok None x is) refl
    initial (Some e) x is none =
        let h = found _ _ x is in
        let fine = expr_fine names functions counts counts_are (scope ++ name ∷ [])
        (with_slot false set) (Some (length (scope ++ name ∷ []) - 1)) (length scope) before_own
        e h.0 h.1 none in
        subst (λ y. passes_if_there (is_scoped_expr counts (length scope)) y ≡ true)
        (same_Ok (Some h.0) x h.2) fine

    -- and after it the name is in scope
    scope_after : (e : Option Expr) → (Assigning.declaration_flow names (scope ++ name ∷ []) set
        e).scope ≡
        scope ++ name ∷ []
    scope_after None = refl
    scope_after (Some e) = refl

  abbrev resolved : Stmt → Resolver
  resolved = resolved_stmt names functions

  abbrev flow : Stmt → Transfer
  flow = stmt_flow names

  -- a statement that was placed is in order, and so is the scope that definite assignment has after
  -- it
  pub record IsFine (before : ℕ) (after : List ℕ) (placed : Scoped Stmt) : Type 0 where
    pub slots : slots_after counts placed.tree before ≡ Some (length placed.scope.names)
    pub scope : after ≡ placed.scope.names

  -- and so are statements in their order
  pub record AreFine (before : ℕ) (after : List ℕ) (placed : Scoped (List Stmt)) : Type 0 where
    pub slots : slots_in_order (map (slots_after counts) placed.tree) before ≡
        Some (length placed.scope.names)
    pub scope : after ≡ placed.scope.names

  -- this holds of what is resolved so, and walked so, where it reads no variable unset
  abbrev Kept : Resolver → Transfer → Type 0
  Kept t way =
      (s : Scope) (set : Assigned) (in_loop : Bool) (placed : Scoped Stmt) → t s in_loop ≡
      Ok placed → (way s.names set).flow.unset ≡ None
      → IsFine (length s.names) (way s.names set).scope placed

  abbrev KeptList : List Resolver → List Transfer → Type 0
  KeptList ts ways =
      (s : Scope) (set : Assigned) (in_loop : Bool) (placed : Scoped (List Stmt)) →
      Scoping.in_order ts s in_loop ≡ Ok placed
      → (Assigning.in_order ways s.names set).flow.unset ≡ None →
      AreFine (length s.names) (Assigning.in_order ways s.names set).scope placed

  -- of a part that may be left out
  abbrev KeptPart : Option Resolver → Option Transfer → Type 0
  KeptPart t way =
      (s : Scope) (set : Assigned) (in_loop : Bool) (x : Option Stmt) →
      Scoping.nested_optional t s in_loop ≡ Ok x
      → (Assigning.nested_optional way s.names set).unset ≡ None →
      passes_if_there (λ u. is_fine u (length s.names)) (option_map (slots_after counts) x) ≡
      true

  -- a statement that leaves the scope as it was
  in_place : (t : Stmt) (s : Scope) (placed : Scoped Stmt) → slots_after counts t (length s.names) ≡
      Some (length s.names) → pure s t ≡ Ok placed
      → IsFine (length s.names) s.names placed
  in_place t s placed fine is =
      subst (IsFine (length s.names) s.names) (same_Ok (record { tree = t; scope = s }) placed is)
      (record { slots = fine; scope = refl })

  -- a part of a statement
  inside_kept : (t : Resolver) (way : Transfer) → Kept t way →
      (s : Scope) (set : Assigned) (in_loop : Bool) (x : Stmt) → Scoping.nested t s in_loop ≡ Ok x
      → (way s.names set).flow.unset ≡ None → is_fine (slots_after counts x) (length s.names) ≡ true
  inside_kept t way kept s set in_loop x is none =
      let h = found _ _ x is in
      let fine = kept s set in_loop h.0 h.1 none in
      subst (λ y. is_fine (slots_after counts y) (length s.names) ≡ true) (same_Ok h.0.tree x h.2)
      (ap (λ o. is_some o) fine.slots)

  no_part : KeptPart None None
  no_part s set in_loop x is none =
      subst (λ y. passes_if_there (λ u. is_fine u (length s.names))
      (option_map (slots_after counts) y) ≡ true) (same_Ok None x is) refl

  one_part : (t : Resolver) (way : Transfer) → Kept t way → KeptPart (Some t) (Some way)
  one_part t way kept s set in_loop x is none =
      let h = found _ _ x is in
      subst (λ y. passes_if_there (λ u. is_fine u (length s.names))
      (option_map (slots_after counts) y) ≡ true) (same_Ok (Some h.0) x h.2)
      (inside_kept t way kept s set in_loop h.0 h.1 none)

  -- statements in their order
  nothing_kept : KeptList [] []
  nothing_kept s set in_loop placed is none =
      subst (AreFine (length s.names) s.names) (same_Ok (record { tree = []; scope = s }) placed is)
      (record { slots = refl; scope = refl })

  more_kept : (t : Resolver) (way : Transfer) (ts : List Resolver) (ways : List Transfer) →
      Kept t way →
      KeptList ts ways → KeptList (t ∷ ts) (way ∷ ways)
  more_kept t way ts ways kept rest_kept s set in_loop placed is none =
      let first = way s.names set in
      let h = found _ _ placed is in
      let g = found _ _ placed h.2 in
      let fine = kept s set in_loop h.0 h.1 (none_first _ _ none) in
      let left = subst (λ now. (Assigning.in_order ways now first.flow.behind).flow.unset ≡ None)
      fine.scope (none_second _ _ none) in
      let others = rest_kept h.0.scope first.flow.behind in_loop g.0 g.1 left in
      subst (AreFine (length s.names) (Assigning.in_order (way ∷ ways) s.names set).scope)
      (same_Ok (record { tree = h.0.tree ∷ g.0.tree; scope = g.0.scope }) placed g.2)
      (record {
        slots =
            ap (option_and_then (slots_in_order (map (slots_after counts) g.0.tree))) fine.slots ∙
            others.slots;
        scope =
            ap (λ now. (Assigning.in_order ways now first.flow.behind).scope) fine.scope ∙
            others.scope;
      })

  -- ---- each form

  empty_kept : Kept (Scoping.stmt_level names functions Stmt-F.Empty)
      (Assigning.stmt_level names Stmt-F.Empty)
  empty_kept s set in_loop placed is none =
      in_place Empty s placed (slots-Empty counts (length s.names)) is

  declare_kept : (token : ℕ) (e : Option Expr) →
      Kept (Scoping.stmt_level names functions (Stmt-F.Declare token e))
      (Assigning.stmt_level names (Stmt-F.Declare token e))
  declare_kept token e s set in_loop placed is none =
      let name = name_at names token in
      let n = length s.names in
      let h = found _ _ placed is in
      let g = found _ _ placed h.2 in
      let after : s.names ++ name ∷ [] ≡ h.0.names = declared_names token name s h.0 h.1 in
      let fine = initial s.names name set e g.0
      (subst (λ now. optional (option_map (resolved_expr names functions now) e) ≡ Ok g.0)
      (sym after) g.1) none in
      let size : n + 1 ≡ length h.0.names = sym (length-append s.names (name ∷ [])) ∙
      ap length after in
      subst (IsFine n (Assigning.declaration_flow names (s.names ++ name ∷ []) set e).scope)
      (same_Ok (record { tree = Declare n g.0; scope = h.0 }) placed g.2)
      (record {
        slots =
            slots-Declare counts n g.0 n ∙ passed _ (n + 1) (and_from _ _ (eq-eqb n n refl) fine) ∙
            ap Some size;
        scope = scope_after s.names name set e ∙ after;
      })

  assign_kept : (token : ℕ) (e : Expr) → Kept
      (Scoping.stmt_level names functions (Stmt-F.Assign token e))
      (Assigning.stmt_level names (Stmt-F.Assign token e))
  assign_kept token e s set in_loop placed is none =
      let n = length s.names in
      let h = found _ _ placed is in
      let g = found _ _ placed h.2 in
      let there = slot_in_scope s.names (name_at names token) h.0 (known_is token h.0 _ h.1) in
      let fine = and_from _ _ (lt-ltb h.0 n there) (plain s.names set e g.0 g.1 none) in
      in_place (Assign h.0 g.0) s placed (slots-Assign counts h.0 g.0 n ∙ passed _ n fine) g.2

  if_kept : (e : Expr) (t : Resolver) (way : Transfer) (o : Option Resolver)
      (other : Option Transfer) →
      Kept t way → KeptPart o other
      → Kept (Scoping.stmt_level names functions (Stmt-F.If e t o))
      (Assigning.stmt_level names (Stmt-F.If e way other))
  if_kept e t way o other kept part_kept s set in_loop placed is none =
      let n = length s.names in
      let h = found _ _ placed is in
      let g = found _ _ placed h.2 in
      let k = found _ _ placed g.2 in
      let branches = none_second _ _ none in
      let inner = inside_kept t way kept s set in_loop g.0 g.1 (none_first _ _ branches) in
      let others = part_kept s set in_loop k.0 k.1 (none_second _ _ branches) in
      let fine = and_from _ _ (plain s.names set e h.0 h.1 (none_first _ _ none))
      (and_from _ _ inner others) in
      in_place (If h.0 g.0 k.0) s placed (slots-If counts h.0 g.0 k.0 n ∙ passed _ n fine) k.2

  while_kept : (e : Expr) (t : Resolver) (way : Transfer) → Kept t way →
      Kept (Scoping.stmt_level names functions (Stmt-F.While e t))
      (Assigning.stmt_level names (Stmt-F.While e way))
  while_kept e t way kept s set in_loop placed is none =
      let n = length s.names in
      let h = found _ _ placed is in
      let g = found _ _ placed h.2 in
      let fine = and_from _ _ (plain s.names set e h.0 h.1 (none_first _ _ none))
      (inside_kept t way kept s set true g.0 g.1 (none_second _ _ none)) in
      in_place (While h.0 g.0) s placed (slots-While counts h.0 g.0 n ∙ passed _ n fine) g.2

  do_kept : (t : Resolver) (way : Transfer) (e : Expr) → Kept t way →
      Kept (Scoping.stmt_level names functions (Stmt-F.DoWhile t e))
      (Assigning.stmt_level names (Stmt-F.DoWhile way e))
  do_kept t way e kept s set in_loop placed is none =
      let n = length s.names in
      let turn = Assigning.nested way s.names set in
      let h = found _ _ placed is in
      let g = found _ _ placed h.2 in
      let fine = and_from _ _ (inside_kept t way kept s set true h.0 h.1 (none_first _ _ none))
      (plain s.names (meet turn.behind turn.continues) e g.0 g.1 (none_second _ _ none)) in
      in_place (DoWhile h.0 g.0) s placed (slots-DoWhile counts h.0 g.0 n ∙ passed _ n fine) g.2

  -- a `for` in order leaves the slots as they were
  for_slots : (first : List Stmt) (test : Option Expr) (change : Option Stmt) (inner : Stmt)
      (n i : ℕ) → slots_in_order (map (slots_after counts) first) n ≡ Some i
      → (passes_if_there (is_scoped_expr counts i) test &&
      (passes_if_there (λ u. is_fine u i) (option_map (slots_after counts) change) &&
      is_fine (slots_after counts inner) i)) ≡ true
      → slots_after counts (For first test change inner) n ≡ Some n
  for_slots first test change inner n i started fine =
      slots-For counts first test change inner n ∙ rw started (passed _ n fine)

  for_kept : (ts : List Resolver) (ways : List Transfer) (e : Option Expr) (o : Option Resolver)
      (change : Option Transfer) (t : Resolver) (way : Transfer) → KeptList ts ways →
      KeptPart o change →
      Kept t way
      → Kept (Scoping.stmt_level names functions (Stmt-F.For ts e o t))
      (Assigning.stmt_level names (Stmt-F.For ways e change way))
  for_kept ts ways e o change t way list_kept part_kept kept s set in_loop placed is none =
      let n = length s.names in
      let begun = Assigning.in_order ways s.names set in
      let turn = Assigning.nested way begun.scope begun.flow.behind in
      let set_after = meet turn.behind turn.continues in
      let h = found _ _ placed is in
      let g = found _ _ placed h.2 in
      let k = found _ _ placed g.2 in
      let b = found _ _ placed k.2 in
      let started = list_kept (inner_scope s) set false h.0 h.1 (none_first _ _ none) in
      let parts = none_second _ _ none in
      let rest = none_second _ _ parts in
      let no_test = subst (λ now. unset_in_test names now begun.flow.behind e ≡ None) started.scope
      (none_first _ _ parts) in
      let no_change = subst (λ now. (Assigning.nested_optional change now set_after).unset ≡ None)
      started.scope (none_first _ _ rest) in
      let no_body = subst (λ now. (way now begun.flow.behind).flow.unset ≡ None) started.scope
      (none_second _ _ rest) in
      let tested = optional_plain h.0.scope begun.flow.behind e g.0 g.1 no_test in
      let changed = part_kept h.0.scope set_after false k.0 k.1 no_change in
      let inner = inside_kept t way kept (inner_scope h.0.scope) begun.flow.behind true b.0 b.1
      no_body
      in
      let fine = and_from _ _ tested (and_from _ _ changed inner) in
      in_place (For h.0.tree g.0 k.0 b.0) s placed
      (for_slots h.0.tree g.0 k.0 b.0 n (length h.0.scope.names) started.slots fine) b.2

  in_loop_is : (t : Stmt) (token : ℕ) (s : Scope) (in_loop : Bool) (placed : Scoped Stmt) →
      and_then (only_in_loops t token in_loop) (pure s) ≡ Ok placed → pure s t ≡ Ok placed
  in_loop_is t token s true placed is = is
  in_loop_is t token s false placed is = no_fault _ placed is

  break_kept : (token : ℕ) → Kept (Scoping.stmt_level names functions (Stmt-F.Break token))
      (Assigning.stmt_level names (Stmt-F.Break token))
  break_kept token s set in_loop placed is none =
      in_place (Break token) s placed (slots-Break counts token (length s.names))
      (in_loop_is (Break token) token s in_loop placed is)

  continue_kept : (token : ℕ) → Kept (Scoping.stmt_level names functions (Stmt-F.Continue token))
      (Assigning.stmt_level names (Stmt-F.Continue token))
  continue_kept token s set in_loop placed is none =
      in_place (Continue token) s placed (slots-Continue counts token (length s.names))
      (in_loop_is (Continue token) token s in_loop placed is)

  return_kept : (e : Expr) → Kept (Scoping.stmt_level names functions (Stmt-F.Return e))
      (Assigning.stmt_level names (Stmt-F.Return e))
  return_kept e s set in_loop placed is none =
      let h = found _ _ placed is in
      in_place (Return h.0) s placed (slots-Return counts h.0 (length s.names) ∙
      passed _ (length s.names) (plain s.names set e h.0 h.1 none)) h.2

  block_kept : (ts : List Resolver) (ways : List Transfer) → KeptList ts ways →
      Kept (Scoping.stmt_level names functions (Stmt-F.Block ts))
      (Assigning.stmt_level names (Stmt-F.Block ways))
  block_kept ts ways list_kept s set in_loop placed is none =
      let h = found _ _ placed is in
      let fine = list_kept (inner_scope s) set in_loop h.0 h.1 none in
      in_place (Block h.0.tree) s placed (slots-Block counts h.0.tree (length s.names) ∙
      passed _ (length s.names) (ap (λ o. is_some o) fine.slots)) h.2

  -- ---- by induction on the tree

  abbrev Part : Type 0
  Part = (t : Stmt) × Kept (resolved t) (flow t)

  abbrev trees : List Part → List Stmt
  trees = map (λ (p : Part). p.0)

  parts_kept : (ps : List Part) → KeptList (map resolved (trees ps)) (map flow (trees ps))
  parts_kept [] = nothing_kept
  parts_kept (p ∷ ps) =
      more_kept (resolved p.0) (flow p.0) (map resolved (trees ps)) (map flow (trees ps)) p.1
      (parts_kept ps)

  level : (y : Stmt-F Part) → Kept (Scoping.stmt_level names functions
      (map-Stmt Stmt Resolver resolved (map-Stmt Part Stmt (λ p. p.0) y)))
      (Assigning.stmt_level names (map-Stmt Stmt Transfer flow (map-Stmt Part Stmt (λ p. p.0) y)))
  level Stmt-F.Empty = empty_kept
  level (Stmt-F.Declare token e) = declare_kept token e
  level (Stmt-F.Assign token e) = assign_kept token e
  level (Stmt-F.If e p None) = if_kept e (resolved p.0) (flow p.0) None None p.1 no_part
  level (Stmt-F.If e p (Some q)) =
      if_kept e (resolved p.0) (flow p.0) (Some (resolved q.0)) (Some (flow q.0)) p.1
      (one_part (resolved q.0) (flow q.0) q.1)
  level (Stmt-F.While e p) = while_kept e (resolved p.0) (flow p.0) p.1
  level (Stmt-F.DoWhile p e) = do_kept (resolved p.0) (flow p.0) e p.1
  level (Stmt-F.For ps e None p) =
      for_kept (map resolved (trees ps)) (map flow (trees ps)) e None None (resolved p.0) (flow p.0)
      (parts_kept ps) no_part p.1
  level (Stmt-F.For ps e (Some q) p) =
      for_kept (map resolved (trees ps)) (map flow (trees ps)) e (Some (resolved q.0))
      (Some (flow q.0)) (resolved p.0) (flow p.0) (parts_kept ps)
      (one_part (resolved q.0) (flow q.0) q.1) p.1
  level (Stmt-F.Break token) = break_kept token
  level (Stmt-F.Continue token) = continue_kept token
  level (Stmt-F.Return e) = return_kept e
  level (Stmt-F.Block ps) =
      block_kept (map resolved (trees ps)) (map flow (trees ps)) (parts_kept ps)

  step : (x : Stmt-F Stmt) (y : Stmt-F Part) → map-Stmt Part Stmt (λ p. p.0) y ≡ x →
      Kept (resolved (roll-Stmt x)) (flow (roll-Stmt x))
  step x y is =
      let P : Stmt-F Stmt → Type 0 = λ z. Kept
      (Scoping.stmt_level names functions (map-Stmt Stmt Resolver resolved z))
      (Assigning.stmt_level names (map-Stmt Stmt Transfer flow z)) in
      let opened_so : P x = subst P is (level y) in
      let F : Transfer → Type 0 = λ m. Kept (Scoping.stmt_level names functions
      (map-Stmt Stmt Resolver resolved x)) m in
      let R : Resolver → Type 0 = λ m. Kept m (flow (roll-Stmt x)) in
      subst R (sym (fold-roll-Stmt Resolver (Scoping.stmt_level names functions) x))
      (subst F (sym (fold-roll-Stmt Transfer (Assigning.stmt_level names) x)) opened_so)

  -- a statement that reads no variable unset, with its names resolved, is in order
  pub stmt_kept : (t : Stmt) → Kept (resolved t) (flow t)
  stmt_kept = ind-Stmt (λ t. Kept (resolved t) (flow t)) step

  -- and so are statements in their order
  pub list_kept : (ts : List Stmt) → KeptList (map resolved ts) (map flow ts)
  list_kept [] = nothing_kept
  list_kept (t ∷ ts) =
      more_kept (resolved t) (flow t) (map resolved ts) (map flow ts) (stmt_kept t) (list_kept ts)
