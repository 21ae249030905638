-- Flows that go on one after the other.
use Rattle.std.proofs.Common.{◌≡◌, ◌∙◌, ap, ℕ, suc, ◌+◌, ◌<◌, ◌≤◌, ◌^◌, Bool, refl, sym, List, [], ◌∷◌, map, length, take, drop, get_or, drop_of_length-le, Option, Some, None, arith}
use Rattle.std.proofs.Math.Seq.{drop-cons, take-length}
use Rattle.std.proofs.lemmas.List.{take-take, length-take}
use Rattle.std.specs.Option.{option_or}
use Rattle.rx_plain.proofs.Booleans.{and_assoc}
use Rattle.c_ast.specs.declared.stmt.Stmt.{Stmt}
use Rattle.c_assigned.specs.Sets.{Assigned, intersection, meet}
use Rattle.c_assigned.specs.Flows.{fall_through, sequence, in_order, stmt_flow}
use Rattle.c_assigned.specs.declared.flow.Flow.{Flow}

intersection-assoc : (xs ys zs : List Bool) → intersection (intersection xs ys) zs ≡
    intersection xs (intersection ys zs)
intersection-assoc [] ys zs = refl
intersection-assoc (x ∷ xs) [] zs = refl
intersection-assoc (x ∷ xs) (y ∷ ys) [] = refl
intersection-assoc (x ∷ xs) (y ∷ ys) (z ∷ zs) =
    λ i. and_assoc x y z i ∷ intersection-assoc xs ys zs i

-- the order in which ways are met doesn't matter
pub meet-assoc : (a b c : Assigned) → meet (meet a b) c ≡ meet a (meet b c)
meet-assoc None b c = refl
meet-assoc (Some x) None c = refl
meet-assoc (Some x) (Some y) None = refl
meet-assoc (Some x) (Some y) (Some z) = ap Some (intersection-assoc x y z)

meet-none : (a : Assigned) → meet a None ≡ a
meet-none None = refl
meet-none (Some x) = refl

or-assoc : (x y z : Option ℕ) → option_or (option_or x y) z ≡ option_or x (option_or y z)
or-assoc None y z = refl
or-assoc (Some x) y z = refl

or-none : (x : Option ℕ) → option_or x None ≡ x
or-none None = refl
or-none (Some x) = refl

sequence-assoc : (a b c : Flow) → sequence (sequence a b) c ≡ sequence a (sequence b c)
sequence-assoc a b c = λ i. record {
  behind = c.behind;
  breaks = meet-assoc a.breaks b.breaks c.breaks i;
  continues = meet-assoc a.continues b.continues c.continues i;
  unset = or-assoc a.unset b.unset c.unset i;
}

-- with nothing after it a flow is itself
done_is : (f g : Flow) → g ≡ (fall_through [] f.behind None).flow → f ≡ sequence f g
done_is f g e =
    sym (ap (sequence f) e ∙ (λ i. record {
      behind = f.behind;
      breaks = meet-none f.breaks i;
      continues = meet-none f.continues i;
      unset = or-none f.unset i;
    }))

-- what was seen of a list of statements, from a scope and a set: with the rest it makes the whole
pub record Going (names scope : List ℕ) (set : Assigned) (statements : List Stmt) (now : List ℕ)
    (flow : Flow) (i : ℕ) : Type 0 where
  pub flows : sequence flow (in_order (map (stmt_flow names) (drop i statements)) now
      flow.behind).flow ≡ (in_order (map (stmt_flow names) statements) scope set).flow
  pub scopes : (in_order (map (stmt_flow names) (drop i statements)) now flow.behind).scope ≡
      (in_order (map (stmt_flow names) statements) scope set).scope
  pub kept : take (length scope) now ≡ scope
  pub few : length now < 2 ^ 32

-- at the start all is left
pub going_begun : (names scope : List ℕ) (set : Assigned) (statements : List Stmt) → length scope <
    2 ^ 32 → Going names scope set statements scope (fall_through scope set None).flow 0
going_begun names scope set statements few =
    record { flows = refl; scopes = refl; kept = take-length scope; few = few }

module _ (names scope : List ℕ) (set : Assigned) (statements : List Stmt) (now : List ℕ)
    (flow : Flow) (i : ℕ) (g : Going names scope set statements now flow i) where
  -- one statement more
  pub going_on : i < length statements → (s : Stmt) → s ≡ get_or statements i s →
      (next : Flow) (further : List ℕ) → next ≡ (stmt_flow names s now flow.behind).flow → further ≡
      (stmt_flow names s now flow.behind).scope
      → take (length now) further ≡ now → length further < 2 ^ 32 → (whole : Flow) → whole ≡
      sequence flow next → Going names scope set statements further whole (i + 1)
  going_on h s is next further fe se kept few whole we =
      let step : drop i statements ≡ s ∷ drop (i + 1) statements = drop-cons statements i s h ∙
      (λ k. sym is k ∷ drop (let e : suc i ≡ i + 1 = omega arith in e k) statements) in
      let way = λ (rest : List Stmt) (from : List ℕ) (behind : Assigned). in_order
      (map (stmt_flow names) rest) from behind in
      record {
        flows =
            (λ k. sequence (we k) (way (drop (i + 1) statements) further (we k).behind).flow)
            ∙ (λ k. sequence (sequence flow (fe k))
            (way (drop (i + 1) statements) (se k) (fe k).behind).flow)
            ∙ sequence-assoc flow (stmt_flow names s now flow.behind).flow
            (way (drop (i + 1) statements) (stmt_flow names s now flow.behind).scope
            (stmt_flow names s now flow.behind).flow.behind).flow
            ∙ (λ k. sequence flow (way (sym step k) now flow.behind).flow) ∙ g.flows;
        scopes =
            (λ k. (way (drop (i + 1) statements) further (we k).behind).scope) ∙
            (λ k. (way (drop (i + 1) statements) (se k) (fe k).behind).scope) ∙
            (λ k. (way (sym step k) now flow.behind).scope) ∙ g.scopes;
        kept = take-through kept;
        few = few;
      }
    where
      take-through : take (length now) further ≡ now → take (length scope) further ≡ scope
      take-through k =
          sym (take-take (length scope) (length now) further no_longer) ∙
          ap (take (length scope)) k ∙ g.kept
        where
          no_longer : length scope ≤ length now
          no_longer = let cut = ap length g.kept in grind (arith, length-take)

  -- and where nothing is left, the whole is there
  pub going_done : length statements ≤ i → (flow ≡
      (in_order (map (stmt_flow names) statements) scope set).flow) ×
      (now ≡ (in_order (map (stmt_flow names) statements) scope set).scope)
  going_done h =
      let none = drop_of_length-le statements h in (
        done_is flow (in_order (map (stmt_flow names) (drop i statements)) now flow.behind).flow
            (ap (λ ss. (in_order (map (stmt_flow names) ss) now flow.behind).flow) none) ∙ g.flows,
        sym (ap (λ ss. (in_order (map (stmt_flow names) ss) now flow.behind).scope) none) ∙
            g.scopes,
      )
