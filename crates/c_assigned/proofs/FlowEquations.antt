-- What comes of an `if` and of a `for`, by their parts.
use Rattle.std.proofs.Common.{◌≡◌, ◌∙◌, ap, ℕ, refl, sym, List, [], map, length, Option, Some, None, option_map, if◌then◌else◌}
use Rattle.std.specs.Option.{option_or}
use Rattle.c_ast.specs.declared.expr.Expr.{Expr}
use Rattle.c_ast.specs.declared.stmt.Stmt.{Stmt}
use Rattle.c_ast.specs.declared.stmt.Stmt.TheVariants.{If, For, outs-If, outs-For}
use Rattle.c_ast.specs.declared.stmt.Stmt.TheFolds.{fold_out-Stmt}
use Rattle.c_assigned.specs.Sets.{Assigned, restrict, meet}
use Rattle.c_assigned.specs.Flows.{Transfer, fall_through, branch, nested, nested_optional, in_order, is_endless, unset_in, unset_in_test, for_loop, stmt_level, stmt_flow}
use Rattle.c_assigned.specs.declared.flow.Flow.{Flow}

module _ (names scope : List ℕ) (set : Assigned) where
  pub flow-If : (e : Expr) (s : Stmt) (o : Option Stmt) →
      (stmt_flow names (If e s o) scope set).flow ≡
      branch (unset_in names scope set e) (nested (stmt_flow names s) scope set)
      (nested_optional (option_map (stmt_flow names) o) scope set)
  flow-If e s None =
      ap (λ (w : Transfer). (w scope set).flow)
      (fold_out-Stmt Transfer (stmt_level names) (If e s None)) ∙
      rw (outs-If e s None) refl
  flow-If e s (Some o) =
      ap (λ (w : Transfer). (w scope set).flow)
      (fold_out-Stmt Transfer (stmt_level names) (If e s (Some o)))
      ∙ rw (outs-If e s (Some o)) refl

  pub flow-For : (first : List Stmt) (test : Option Expr) (change : Option Stmt) (s : Stmt) →
      (stmt_flow names (For first test change s) scope set).flow ≡
      (for_loop names scope (in_order (map (stmt_flow names) first) scope set) test
      (option_map (stmt_flow names) change) (stmt_flow names s)).flow
  flow-For first test None s =
      ap (λ (w : Transfer). (w scope set).flow) (fold_out-Stmt Transfer (stmt_level names)
      (For first test None s)) ∙ rw (outs-For first test None s) refl
  flow-For first test (Some change) s =
      ap (λ (w : Transfer). (w scope set).flow) (fold_out-Stmt Transfer (stmt_level names)
      (For first test (Some change) s)) ∙ rw (outs-For first test (Some change) s) refl

  -- an `if`, walked part by part
  pub if_walked : (whole : Stmt) (e : Expr) (s : Stmt) (o : Option Stmt) → whole ≡ If e s o →
      (tested : Option ℕ) (holds fails : Flow) (inner : Stmt) (held : Assigned) (now : List ℕ)
      → tested ≡ unset_in names scope set e → inner ≡ s → held ≡ set → holds ≡
      nested (stmt_flow names inner) scope held → now ≡ scope → fails ≡
      nested_optional (option_map (stmt_flow names) o) now set
      → branch tested holds fails ≡ (stmt_flow names whole scope set).flow
  if_walked whole e s o is tested holds fails inner held now te ie he ho ne fa =
      (λ i. branch (te i) ((ho ∙ (λ k. nested (stmt_flow names (ie k)) scope (he k))) i)
      ((fa ∙ ap (λ sc. nested_optional (option_map (stmt_flow names) o) sc set) ne) i))
      ∙ sym (flow-If e s o) ∙ ap (λ st. (stmt_flow names st scope set).flow) (sym is)

  -- a `for`, walked part by part
  pub for_walked : (whole : Stmt) (first : List Stmt) (test : Option Expr) (change : Option Stmt)
      (s : Stmt) → whole ≡ For first test change s
      → (begun turn changed : Flow) (items : List Stmt) (mid mid2 : List ℕ) (inner : Stmt)
      (turned : Assigned)
      → items ≡ first → begun ≡ (in_order (map (stmt_flow names) items) scope set).flow → mid ≡
      (in_order (map (stmt_flow names) items) scope set).scope
      → inner ≡ s → turned ≡ begun.behind → turn ≡ nested (stmt_flow names inner) mid turned →
      mid2 ≡ mid
      → changed ≡ nested_optional (option_map (stmt_flow names) change) mid2
      (meet turn.behind turn.continues)
      → (fall_through [] (restrict (length scope)
      (if is_endless test then turn.breaks else begun.behind))
      (option_or begun.unset (option_or (unset_in_test names mid begun.behind test)
      (option_or changed.unset turn.unset)))).flow
      ≡ (stmt_flow names whole scope set).flow
  for_walked whole first test change s is begun turn changed items mid mid2 inner turned ie be me ne
      te tu m2 ce =
      let start = in_order (map (stmt_flow names) first) scope set in
      let b : begun ≡ start.flow = be ∙ ap (λ ss.
      (in_order (map (stmt_flow names) ss) scope set).flow) ie in
      let m : mid ≡ start.scope = me ∙ ap (λ ss.
      (in_order (map (stmt_flow names) ss) scope set).scope) ie in
      let t : turn ≡ nested (stmt_flow names s) start.scope start.flow.behind = tu ∙
      (λ k. nested (stmt_flow names (ne k)) (m k) ((te ∙ ap (λ (f : Flow). f.behind) b) k)) in
      let whole_turn = nested (stmt_flow names s) start.scope start.flow.behind in
      let c : changed ≡ nested_optional (option_map (stmt_flow names) change) start.scope
      (meet whole_turn.behind whole_turn.continues) =
      ce ∙ (λ k. nested_optional (option_map (stmt_flow names) change) ((m2 ∙ m) k)
      (meet (t k).behind (t k).continues)) in
      (λ k. (fall_through [] (restrict (length scope) (if is_endless test then (t k).breaks else
      (b k).behind)) (option_or (b k).unset
      (option_or (unset_in_test names (m k) (b k).behind test)
      (option_or (c k).unset (t k).unset)))).flow)
      ∙ sym (flow-For first test change s) ∙ ap (λ st. (stmt_flow names st scope set).flow) (sym is)
