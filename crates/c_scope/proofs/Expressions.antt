-- A resolved expression that reads no variable unset reads slots in scope alone, and calls
-- functions with as many arguments as they have parameters.
use Rattle.std.proofs.Common.{◌≡◌, ◌∙◌, ap, refl, sym, subst, ℕ, suc, ◌<◌, ℤ, Bool, true, false, if◌then◌else◌, Option, Some, None, List, [], ◌∷◌, ◌++◌, length, map, Ok, Err}
use Rattle.std.specs.Prelude.{nat_eq, slice_get}
use Rattle.std.specs.List.{concat, list_all}
use Rattle.std.proofs.lemmas.Bool.{and_from, eq-eqb, eqb-true, lt-ltb}
use Rattle.std.proofs.lemmas.Option.{none-some}
use Rattle.rx_plain.proofs.Lists.{element_within}
use Rattle.c_ast.specs.Scoped.{takes, is_scoped_expr}
use Rattle.c_ast.specs.Variables.{variables, variables_level}
use Rattle.c_ast.proofs.ScopedEquations.{scoped-Lit, scoped-Var, scoped-Unary, scoped-Binary, scoped-Choose, scoped-Apply}
use Rattle.c_ast.specs.declared.expr.UnOp.{UnOp}
use Rattle.c_ast.specs.declared.expr.BinOp.{BinOp}
use Rattle.c_ast.specs.declared.expr.Expr.{Expr}
use Rattle.c_ast.specs.declared.expr.Expr.TheVariants.{Lit, Var, Unary, Binary, Choose, Apply}
use Rattle.c_ast.specs.declared.expr.Expr.TheOpen.{Expr-F}
use Rattle.c_ast.specs.declared.expr.Expr.TheFolds.{map-Expr, fold-roll-Expr, ind-Expr}
use Rattle.c_ast.specs.declared.expr.Expr.TheViews.{roll-Expr}
use Rattle.c_ast.specs.declared.program.Function.{Function}
use Rattle.c_assigned.specs.Sets.{Assigned, is_readable, first_unset}
use Rattle.c_assigned.proofs.Reading.{unset-append}
use Rattle.c_names.specs.Names.{name_at}
use Rattle.c_names.specs.Slots.{slot_of}
use Rattle.c_names.specs.Expressions.{ok_or_unknown, count_at, callee_of, slot_at, expr_level, resolved_expr}
use Rattle.c_names.specs.Steps.{Checked, and_then, sequence}
use Rattle.c_names.specs.declared.error.ScopeEnd.TheVariants.{WrongCount}
use Rattle.c_scope.proofs.ResolvedPrograms.{counted}
use Rattle.c_scope.proofs.Steps.{same_Ok, no_fault, found, none_first, none_second}
use Rattle.c_scope.proofs.Places.{definition_within}

-- a name that is known is found
pub known_is : (token place : ℕ) (o : Option ℕ) → ok_or_unknown token o ≡ Ok place → o ≡ Some place
known_is token place None is = no_fault _ place is
known_is token place (Some k) is = ap Some (same_Ok k place is)

-- a place with the right count is the one that is answered
right_count : (token here place : ℕ) (is_right : Bool) →
    ◌≡◌ {A = Checked ℕ} (if is_right then Ok here else Err (WrongCount token)) (Ok place) →
    (here ≡ place) × (is_right ≡ true)
right_count token here place true is = (same_Ok here place is, refl)
right_count token here place false is = no_fault _ place is

-- a function that is there and has the right count takes n arguments
takes_count : (count : ℕ) (o : Option Function) (f : Function) → o ≡ Some f →
    nat_eq count (count_at o) ≡ true → takes (counted o) count ≡ true
takes_count count (Some g) f there is =
    eq-eqb (length g.params) count (sym (eqb-true count (length g.params) is))
takes_count count None f there is = absurd (none-some f there)

-- a variable that isn't unset may be read
readable_is : (token : ℕ) (may : Bool) → (if may then None else Some token) ≡ None → may ≡ true
readable_is token true is = refl
readable_is token false is = absurd (let no : ⊥ = cc in no)

module _ (names : List ℕ) (functions : List Function) (counts : List ℕ)
    (counts_are : (i : ℕ) → slice_get counts i ≡ counted (slice_get functions i)) where
  -- what is called takes n arguments
  called_takes : (token count place : ℕ) (slot : Option ℕ) →
      callee_of names functions token count slot ≡ Ok place → takes (slice_get counts place) count ≡
      true
  called_takes token count place (Some k) is = no_fault _ place is
  called_takes token count place None is =
      let h = found _ _ place is in
      let there = element_within functions h.0
      (definition_within names functions (name_at names token) h.0 (known_is token h.0 _ h.1))
      in
      let right = right_count token h.0 place (nat_eq count (count_at (slice_get functions h.0)))
      h.2 in
      let fits : takes (counted (slice_get functions h.0)) count ≡ true =
      takes_count count (slice_get functions h.0) there.0 there.1 right.1 in
      subst (λ k. takes (slice_get counts k) count ≡ true) right.0
      (subst (λ o. takes o count ≡ true) (sym (counts_are h.0)) fits)

  -- each variable that may be read has a slot below n
  module _ (scope : List ℕ) (set : Assigned) (own : Option ℕ) (n : ℕ)
      (below : (token slot : ℕ) → slot_of scope (name_at names token) ≡ Some slot →
      is_readable names scope set own token ≡ true → slot < n) where
    abbrev unset : List ℕ → Option ℕ
    unset = first_unset names scope set own

    abbrev resolved : Expr → Checked Expr
    resolved = resolved_expr names functions scope

    abbrev IsFine : Expr → Type 0
    IsFine x = is_scoped_expr counts n x ≡ true

    -- what was resolved is in order, where none of these variables is read unset
    abbrev Reads : Checked Expr → List ℕ → Type 0
    Reads whole vs = (x : Expr) → whole ≡ Ok x → unset vs ≡ None → IsFine x

    abbrev Part : Type 0
    Part = (e : Expr) × Reads (resolved e) (variables e)

    -- the trees of some parts
    abbrev trees : List Part → List Expr
    trees = map (λ (p : Part). p.0)

    literal_fine : (k : ℤ) → Reads (Ok (Lit k)) []
    literal_fine k x is none = subst IsFine (same_Ok (Lit k) x is) (scoped-Lit counts n k)

    variable_fine : (token : ℕ) → Reads (and_then (slot_at names functions scope token)
        (λ slot. Ok (Var slot))) (token ∷ [])
    variable_fine token x is none =
        let h = found _ _ x is in
        let readable = readable_is token (is_readable names scope set own token) none in
        let small : h.0 < n = below token h.0 (known_is token h.0 _ h.1) readable in
        subst IsFine (same_Ok (Var h.0) x h.2) (scoped-Var counts n h.0 ∙ lt-ltb h.0 n small)

    unary_fine : (op : UnOp) (a : Checked Expr) (us : List ℕ) → Reads a us →
        Reads (and_then a (λ u. Ok (Unary op u))) us
    unary_fine op a us fine x is none =
        let h = found _ _ x is in
        subst IsFine (same_Ok (Unary op h.0) x h.2)
        (scoped-Unary counts n op h.0 ∙ fine h.0 h.1 none)

    binary_fine : (op : BinOp) (a b : Checked Expr) (us vs : List ℕ) → Reads a us → Reads b vs
        → Reads (and_then a (λ u. and_then b (λ v. Ok (Binary op u v)))) (us ++ vs)
    binary_fine op a b us vs left right x is none =
        let parted = sym (unset-append names scope set own us vs) ∙ none in
        let h = found _ _ x is in
        let g = found _ _ x h.2 in
        let fine = and_from _ _ (left h.0 h.1 (none_first _ _ parted))
        (right g.0 g.1 (none_second _ _ parted)) in
        subst IsFine (same_Ok (Binary op h.0 g.0) x g.2) (scoped-Binary counts n op h.0 g.0 ∙ fine)

    choose_fine : (c a b : Checked Expr) (ts us vs : List ℕ) → Reads c ts → Reads a us → Reads b vs
        → Reads (and_then c (λ t. and_then a (λ u. and_then b (λ v. Ok (Choose t u v)))))
        (ts ++ us ++ vs)
    choose_fine c a b ts us vs test left right x is none =
        let parted = sym (unset-append names scope set own (ts ++ us) vs) ∙ none in
        let front = sym (unset-append names scope set own ts us) ∙ none_first _ _ parted in
        let k = found _ _ x is in
        let h = found _ _ x k.2 in
        let g = found _ _ x h.2 in
        let branches = and_from _ _ (left h.0 h.1 (none_second _ _ front))
        (right g.0 g.1 (none_second _ _ parted)) in
        let fine = and_from _ _ (test k.0 k.1 (none_first _ _ front)) branches in
        subst IsFine (same_Ok (Choose k.0 h.0 g.0) x g.2)
        (scoped-Choose counts n k.0 h.0 g.0 ∙ fine)

    -- the arguments of a call, and their number
    record Arguments (xs : List Expr) (count : ℕ) : Type 0 where
      pub fine : list_all (is_scoped_expr counts n) xs ≡ true
      pub number : count ≡ length xs

    arguments_fine : (ps : List Part) (xs : List Expr) → sequence (map resolved (trees ps)) ≡ Ok xs
        → unset (concat (map variables (trees ps))) ≡ None →
        Arguments xs (length (map resolved (trees ps)))
    arguments_fine [] xs is none =
        subst (λ ys. Arguments ys 0) (same_Ok [] xs is) (record { fine = refl; number = refl })
    arguments_fine (p ∷ ps) xs is none =
        let parted = sym (unset-append names scope set own (variables p.0)
        (concat (map variables (trees ps)))) ∙ none in
        let first = found _ _ xs is in
        let rest = found _ _ xs first.2 in
        let others = arguments_fine ps rest.0 rest.1 (none_second _ _ parted) in
        let fine = and_from _ _ (p.1 first.0 first.1 (none_first _ _ parted)) others.fine in
        subst (λ ys. Arguments ys (length (map resolved (trees (p ∷ ps)))))
        (same_Ok (first.0 ∷ rest.0) xs rest.2)
        (record { fine = fine; number = ap suc others.number })

    call_fine : (token : ℕ) (ps : List Part) → let arguments = map resolved (trees ps) in
        Reads (and_then (callee_of names functions token (length arguments)
        (slot_of scope (name_at names token)))
        (λ place. and_then (sequence arguments) (λ xs. Ok (Apply place xs))))
        (concat (map variables (trees ps)))
    call_fine token ps x is none =
        let count = length (map resolved (trees ps)) in
        let h = found _ _ x is in
        let g = found _ _ x h.2 in
        let arguments = arguments_fine ps g.0 g.1 none in
        let takes_all = called_takes token count h.0 (slot_of scope (name_at names token)) h.1 in
        let right = subst (λ m. takes (slice_get counts h.0) m ≡ true) arguments.number takes_all in
        subst IsFine (same_Ok (Apply h.0 g.0) x g.2)
        (scoped-Apply counts n h.0 g.0 ∙ and_from _ _ right arguments.fine)

    level : (y : Expr-F Part) → Reads (expr_level names functions scope
        (map-Expr Expr (Checked Expr) resolved (map-Expr Part Expr (λ p. p.0) y)))
        (variables_level (map-Expr Expr (List ℕ) variables (map-Expr Part Expr (λ p. p.0) y)))
    level (Expr-F.Lit k) = literal_fine k
    level (Expr-F.Var token) = variable_fine token
    level (Expr-F.Unary op p) = unary_fine op (resolved p.0) (variables p.0) p.1
    level (Expr-F.Binary op p q) =
        binary_fine op (resolved p.0) (resolved q.0) (variables p.0) (variables q.0) p.1 q.1
    level (Expr-F.Choose c p q) =
        choose_fine (resolved c.0) (resolved p.0) (resolved q.0) (variables c.0) (variables p.0)
        (variables q.0) c.1 p.1 q.1
    level (Expr-F.Apply token ps) = call_fine token ps

    step : (x : Expr-F Expr) (y : Expr-F Part) → map-Expr Part Expr (λ p. p.0) y ≡ x →
        Reads (resolved (roll-Expr x)) (variables (roll-Expr x))
    step x y is =
        let P : Expr-F Expr → Type 0 = λ z. Reads
        (expr_level names functions scope (map-Expr Expr (Checked Expr) resolved z))
        (variables_level (map-Expr Expr (List ℕ) variables z)) in
        let opened : P x = subst P is (level y) in
        let V : List ℕ → Type 0 = λ vs. Reads
        (expr_level names functions scope (map-Expr Expr (Checked Expr) resolved x)) vs in
        let M : Checked Expr → Type 0 = λ m. Reads m (variables (roll-Expr x)) in
        subst M (sym (fold-roll-Expr (Checked Expr) (expr_level names functions scope) x))
        (subst V (sym (fold-roll-Expr (List ℕ) variables_level x)) opened)

    -- an expression that reads no variable unset, with its names resolved, has slots below n alone
    pub expr_fine : (e : Expr) → Reads (resolved e) (variables e)
    expr_fine = ind-Expr (λ e. Reads (resolved e) (variables e)) step
