-- A program with its names resolved has the functions of the program as it was read, each at its
-- place and with as many parameters.
use Rattle.std.proofs.Common.{◌≡◌, ℕ, zero, suc, ◌+◌, false, List, [], ◌∷◌, length, map, Option, Some, None, option_map, Ok, Err, slice_get, refl, sym, ap, subst, ◌∙◌}
use Rattle.c_lex.specs.declared.token.Token.{Token}
use Rattle.c_ast.specs.declared.stmt.Stmt.{Stmt}
use Rattle.c_ast.specs.declared.program.Function.{Function}
use Rattle.c_ast.specs.declared.program.Program.{Program}
use Rattle.c_ast.specs.declared.program.Resolved.{Resolved}
use Rattle.c_names.specs.Names.{names_of}
use Rattle.c_scope.specs.Definitions.{definition_fault}
use Rattle.c_scope.specs.Functions.{slots_from, with_params, resolved_function, resolved_functions}
use Rattle.c_scope.specs.Programs.{assigned_fault, after_definitions, after_names, scope_of}
use Rattle.c_names.specs.LookupSlots.{Scope, empty_scope}
use Rattle.c_scope.specs.Statements.{Scoped, in_order, resolved_stmt}
use Rattle.c_names.specs.Steps.{Checked, and_then, sequence}
use Rattle.c_names.specs.declared.error.ScopeEnd.{ScopeEnd}

-- how many parameters a function has, where there is one
abbrev pub counted : Option Function → Option ℕ
counted = option_map (λ (f : Function). length f.params)

pub numbered_length : {A : Type 0} (slot : ℕ) (xs : List A) → length (slots_from slot xs) ≡ length xs
numbered_length slot [] = refl
numbered_length slot (x ∷ xs) = ap suc (numbered_length (slot + 1) xs)

module _ (f g : Function) where
  -- a function of this name with numbered parameters
  abbrev with_body : List Stmt → Function
  with_body body = record { name = f.name; params = slots_from 0 f.params; body = body }

  of_placed : (x : Checked (Scoped (List Stmt))) → and_then x (λ body. Ok (with_body body.tree)) ≡
      Ok g → slots_from 0 f.params ≡ g.params
  of_placed (Ok body) is = let e : with_body body.tree ≡ g = cc in ap (λ (h : Function). h.params) e
  of_placed (Err fault) is = let no : ⊥ = cc in absurd no

  of_scope : (x : Checked Scope) (next : Scope → Checked (Scoped (List Stmt))) →
      and_then x (λ s. and_then (next s) (λ body. Ok (with_body body.tree))) ≡ Ok g
      → slots_from 0 f.params ≡ g.params
  of_scope (Ok s) next is = of_placed (next s) is
  of_scope (Err fault) next is = let no : ⊥ = cc in absurd no

module _ (names : List ℕ) (functions : List Function) where
  -- a resolved function has as many parameters
  same_count : (f g : Function) → resolved_function names functions f ≡ Ok g → length g.params ≡
      length f.params
  same_count f g is =
      let numbers : slots_from 0 f.params ≡ g.params =
      of_scope f g (with_params names f.params empty_scope)
      (λ s. in_order (map (resolved_stmt names functions) f.body) s false) is in
      sym (ap length numbers) ∙ numbered_length 0 f.params

  -- each function is where it was
  abbrev Kept : List Function → List Function → Type 0
  Kept fs gs = (i : ℕ) → counted (slice_get gs i) ≡ counted (slice_get fs i)

  kept_front : (f g : Function) (fs gs : List Function) → length g.params ≡ length f.params →
      Kept fs gs → Kept (f ∷ fs) (g ∷ gs)
  kept_front f g fs gs same kept zero = ap Some same
  kept_front f g fs gs same kept (suc i) = kept i

  of_rest : (f g : Function) (fs gs : List Function) → length g.params ≡ length f.params →
      (xs : Checked (List Function)) → ((hs : List Function) → xs ≡ Ok hs → Kept fs hs)
      → and_then xs (λ hs. Ok (g ∷ hs)) ≡ Ok gs → Kept (f ∷ fs) gs
  of_rest f g fs gs same (Ok hs) kept is =
      let e : g ∷ hs ≡ gs = cc in subst (Kept (f ∷ fs)) e (kept_front f g fs hs same (kept hs refl))
  of_rest f g fs gs same (Err fault) kept is = let no : ⊥ = cc in absurd no

  of_both : (f : Function) (fs gs : List Function) (x : Checked Function) →
      resolved_function names functions f ≡ x
      → (xs : Checked (List Function)) → ((hs : List Function) → xs ≡ Ok hs → Kept fs hs)
      → and_then x (λ g. and_then xs (λ hs. Ok (g ∷ hs))) ≡ Ok gs → Kept (f ∷ fs) gs
  of_both f fs gs (Ok g) resolved xs kept is =
      of_rest f g fs gs (same_count f g resolved) xs kept is
  of_both f fs gs (Err fault) resolved xs kept is = let no : ⊥ = cc in absurd no

  of_all : (fs gs : List Function) → sequence (map (resolved_function names functions) fs) ≡
      Ok gs → Kept fs gs
  of_all [] gs is = let e : [] ≡ gs = cc in subst (Kept []) e (λ i. refl)
  of_all (f ∷ fs) gs is =
      of_both f fs gs (resolved_function names functions f) refl
      (sequence (map (resolved_function names functions) fs)) (of_all fs) is

  -- what holds after the passes
  of_names : (fault : Option ScopeEnd) (fs : List Function) (r : Resolved) → after_names fault fs ≡
      Ok r → fs ≡ r.functions
  of_names None fs r is =
      let e : record { functions = fs } ≡ r = cc in ap (λ (q : Resolved). q.functions) e
  of_names (Some fault) fs r is = let no : ⊥ = cc in absurd no

  of_functions : (x : Checked (List Function)) (fault : Option ScopeEnd) (r : Resolved) →
      and_then x (λ fs. after_names fault fs) ≡ Ok r → x ≡ Ok r.functions
  of_functions (Ok fs) fault r is = ap Ok (of_names fault fs r is)
  of_functions (Err end) fault r is = let no : ⊥ = cc in absurd no

of_definitions : (names : List ℕ) (fault : Option ScopeEnd) (p : Program) (r : Resolved) →
    after_definitions names fault p ≡ Ok r → resolved_functions names p.functions ≡ Ok r.functions
of_definitions names None p r is =
    of_functions names p.functions (resolved_functions names p.functions)
    (assigned_fault names p.functions) r is
of_definitions names (Some fault) p r is = let no : ⊥ = cc in absurd no

-- each function of the program is at its place with as many parameters
pub counts_kept : (source : List ℕ) (tokens : List Token) (p : Program) (r : Resolved) →
    scope_of source tokens p ≡ Ok r
    → (i : ℕ) → counted (slice_get r.functions i) ≡ counted (slice_get p.functions i)
counts_kept source tokens p r is =
    let names = names_of source tokens in
    of_all names p.functions p.functions r.functions
    (of_definitions names (definition_fault names p.functions p.prototypes) p r is)
