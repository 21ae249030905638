-- A program with its names resolved is in order.
use Rattle.std.proofs.Common.{◌≡◌, ◌∙◌, ap, refl, sym, subst, ℕ, ◌+◌, true, false, Option, Some, None, List, [], ◌∷◌, ◌++◌, length, map, replicate, append_assoc, Ok}
use Rattle.std.specs.Prelude.{slice_get}
use Rattle.std.specs.List.{list_all}
use Rattle.std.specs.Option.{is_some}
use Rattle.std.proofs.lemmas.List.{length-map, append-nil}
use Rattle.std.proofs.lemmas.Option.{slice_get-map}
use Rattle.std.proofs.lemmas.Bool.{and_from}
use Rattle.c_lex.specs.declared.token.Token.{Token}
use Rattle.c_ast.specs.Scoped.{slots_in_order, slots_after, is_scoped_function, parameter_counts, is_scoped}
use Rattle.c_ast.specs.declared.stmt.Stmt.{Stmt}
use Rattle.c_ast.specs.declared.program.Function.{Function}
use Rattle.c_ast.specs.declared.program.Program.{Program}
use Rattle.c_ast.specs.declared.program.Resolved.{Resolved}
use Rattle.c_assigned.specs.Faults.{body_flow, first_fault, fault_of}
use Rattle.c_assigned.specs.Flows as Assigning
use Rattle.c_assigned.specs.Flows.{stmt_flow}
use Rattle.c_assigned.specs.Sets.{Assigned}
use Rattle.c_assigned.specs.declared.fault.Fault.{Fault}
use Rattle.c_names.specs.Names.{name_at, names_of}
use Rattle.c_scope.specs.Definitions.{definition_fault}
use Rattle.c_scope.specs.Functions.{slots_from, with_params, resolved_function, resolved_functions}
use Rattle.c_scope.specs.Programs.{fault_or, assigned_fault, after_definitions, after_names, scope_of}
use Rattle.c_names.specs.LookupSlots.{Scope, empty_scope}
use Rattle.c_scope.specs.Statements as Scoping
use Rattle.c_scope.specs.Statements.{Scoped, resolved_stmt}
use Rattle.c_names.specs.Steps.{sequence}
use Rattle.c_names.specs.declared.error.ScopeEnd.{ScopeEnd}
use Rattle.c_scope.proofs.ResolvedPrograms.{counted, counts_kept, numbered_length}
use Rattle.c_scope.proofs.Steps.{same_Ok, no_fault, found}
use Rattle.c_scope.proofs.ScopedStatements.{declared_names, list_kept}

-- the names of parameters are in their order, after those that were in scope
params_in_scope : (names tokens : List ℕ) (s after : Scope) → with_params names tokens s ≡
    Ok after → s.names ++ map (name_at names) tokens ≡ after.names
params_in_scope names [] s after is =
    append-nil s.names ∙ ap (λ (t : Scope). t.names) (same_Ok s after is)
params_in_scope names (token ∷ tokens) s after is =
    let h = found _ _ after is in
    sym (append_assoc s.names (name_at names token ∷ []) (map (name_at names) tokens))
    ∙ ap (λ ns. ns ++ map (name_at names) tokens)
    (declared_names token (name_at names token) s h.0 h.1) ∙
    params_in_scope names tokens h.0 after h.2

-- a function without a fault reads no variable unset
no_unset : (name : ℕ) (unset : Option ℕ) (behind : Assigned) → first_fault name unset behind ≡
    None → unset ≡ None
no_unset name None behind is = refl
no_unset name (Some token) behind is = absurd (let no : ⊥ = cc in no)

-- where no function has a fault, the first hasn't, and the others haven't
first_flaw : (flaw : Option Fault) (later : Option ScopeEnd) → fault_or flaw later ≡ None →
    (flaw ≡ None) × (later ≡ None)
first_flaw None later is = (refl, is)
first_flaw (Some flaw) later is = absurd (let no : ⊥ = cc in no)

-- a program that passed has no such fault, and these functions
passed_names : (fault : Option ScopeEnd) (fs : List Function) (r : Resolved) →
    after_names fault fs ≡ Ok r → (fault ≡ None) × (fs ≡ r.functions)
passed_names None fs r is =
    (refl, ap (λ (q : Resolved). q.functions) (same_Ok (record { functions = fs }) r is))
passed_names (Some fault) fs r is = no_fault fault r is

record IsPassed (names : List ℕ) (p : Program) (r : Resolved) : Type 0 where
  pub functions : resolved_functions names p.functions ≡ Ok r.functions
  pub faultless : assigned_fault names p.functions ≡ None

passed_all : (names : List ℕ) (fault : Option ScopeEnd) (p : Program) (r : Resolved) →
    after_definitions names fault p ≡ Ok r → IsPassed names p r
passed_all names (Some fault) p r is = no_fault fault r is
passed_all names None p r is =
    let h = found _ _ r is in
    let last = passed_names (assigned_fault names p.functions) h.0 r h.2 in
    record { functions = h.1 ∙ ap Ok last.1; faultless = last.0 }

module _ (names : List ℕ) (functions : List Function) where
  -- a function with this body
  abbrev with_body : Function → List Stmt → Function
  with_body f body = record { name = f.name; params = slots_from 0 f.params; body = body }

  -- what the parts of a function were resolved to
  record Parts (f g : Function) : Type 0 where
    pub scope : Scope
    pub body : Scoped (List Stmt)
    pub declared : with_params names f.params empty_scope ≡ Ok scope
    pub placed : Scoping.in_order (map (resolved_stmt names functions) f.body) scope false ≡ Ok body
    pub whole : with_body f body.tree ≡ g

  parts_of : (f g : Function) → resolved_function names functions f ≡ Ok g → Parts f g
  parts_of f g is =
      let h = found _ _ g is in
      let b = found _ _ g h.2 in
      record {
        scope = h.0;
        body = b.0;
        declared = h.1;
        placed = b.1;
        whole =
            same_Ok (with_body f b.0.tree) g b.2;
      }

  -- a function keeps the number of its parameters
  same_count : (f g : Function) → resolved_function names functions f ≡ Ok g → length g.params ≡
      length f.params
  same_count f g is =
      ap (λ (k : Function). length k.params) (sym (parts_of f g is).whole) ∙
      numbered_length 0 f.params

  -- and all do
  same_counts : (fs gs : List Function) → sequence (map (resolved_function names functions) fs) ≡
      Ok gs → parameter_counts gs ≡ parameter_counts fs
  same_counts [] gs is = ap parameter_counts (sym (same_Ok [] gs is))
  same_counts (f ∷ fs) gs is =
      let h = found _ _ gs is in
      let g = found _ _ gs h.2 in
      ap parameter_counts (sym (same_Ok (h.0 ∷ g.0) gs g.2)) ∙
      (λ i. same_count f h.0 h.1 i ∷ same_counts fs g.0 g.1 i)

module _ (names : List ℕ) (functions : List Function) (counts : List ℕ)
    (counts_are : (i : ℕ) → slice_get counts i ≡ counted (slice_get functions i)) where
  -- a function is in order
  function_fine : (f g : Function) → resolved_function names functions f ≡ Ok g → fault_of names f ≡
      None → is_scoped_function counts g ≡ true
  function_fine f g is faultless =
      let parts = parts_of names functions f g is in
      let params : map (name_at names) f.params ≡ parts.scope.names =
      params_in_scope names f.params empty_scope parts.scope parts.declared in
      let set : Assigned = Some (replicate (length f.params) true) in
      let none = no_unset f.name (body_flow names f).flow.unset (body_flow names f).flow.behind
      faultless in
      let none_there = subst (λ now. (Assigning.in_order (map (stmt_flow names) f.body) now
      set).flow.unset ≡ None) params none in
      let fine = list_kept names functions counts counts_are f.body parts.scope set false parts.body
      parts.placed none_there in
      let size : length parts.scope.names ≡ length (slots_from 0 f.params) =
      sym (ap length params) ∙
      length-map f.params (name_at names) ∙ sym (numbered_length 0 f.params) in
      subst (λ k. is_scoped_function counts k ≡ true) parts.whole
      (ap (λ n. is_some (slots_in_order (map (slots_after counts) parts.body.tree) n)) (sym size) ∙
      ap (λ o. is_some o) fine.slots)

  -- and so are all
  functions_fine : (fs gs : List Function) → sequence (map (resolved_function names functions) fs)
      ≡ Ok gs → assigned_fault names fs ≡ None → list_all (is_scoped_function counts) gs ≡ true
  functions_fine [] gs is faultless =
      subst (λ ks. list_all (is_scoped_function counts) ks ≡ true) (same_Ok [] gs is) refl
  functions_fine (f ∷ fs) gs is faultless =
      let flaws = first_flaw (fault_of names f) (assigned_fault names fs) faultless in
      let h = found _ _ gs is in
      let g = found _ _ gs h.2 in
      subst (λ ks. list_all (is_scoped_function counts) ks ≡ true) (same_Ok (h.0 ∷ g.0) gs g.2)
      (and_from _ _ (function_fine f h.0 h.1 flaws.0) (functions_fine fs g.0 g.1 flaws.1))

-- a program with its names resolved is in order
pub resolved_is_scoped : (source : List ℕ) (tokens : List Token) (p : Program) (r : Resolved) →
    scope_of source tokens p ≡ Ok r → is_scoped r ≡ true
resolved_is_scoped source tokens p r is =
    let names = names_of source tokens in
    let through = passed_all names (definition_fault names p.functions p.prototypes) p r is in
    let counts = parameter_counts r.functions in
    let counts_are = λ (i : ℕ). slice_get-map (λ (f : Function). length f.params) r.functions i ∙
    counts_kept source tokens p r is i in
    functions_fine names p.functions counts counts_are p.functions r.functions through.functions
    through.faultless

-- and its functions have as many parameters as before
pub resolved_counts : (source : List ℕ) (tokens : List Token) (p : Program) (r : Resolved) →
    scope_of source tokens p ≡ Ok r → parameter_counts r.functions ≡ parameter_counts p.functions
resolved_counts source tokens p r is =
    let names = names_of source tokens in
    same_counts names p.functions p.functions r.functions
    (passed_all names (definition_fault names p.functions p.prototypes) p r is).functions
