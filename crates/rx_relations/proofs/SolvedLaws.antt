-- Relations that are 0 under an assignment are 0 when they are solved for places; so all relations
-- are 0 at each goal.
use Rattle.std.proofs.Common.{◌≡◌, ◌∙◌, refl, Bool, true, false, Option, Some, None, List, [], ◌∷◌, ◌++◌, map, ℕ, nat_le, length, ℤ, pos}
use Rattle.std.specs.Prelude.{All}
use Rattle.std.proofs.lemmas.List.Elements.{All-append, All-cons, All-filter, All-head, All-map, All-nil, All-tail}
use Rattle.rx_plain.specs.Formed.{fold_formed, map_formed}
use Rattle.rx_poly.specs.Substitution.{subst_body}
use Rattle.rx_poly.specs.Value.{value}
use Rattle.rx_poly.specs.declared.body.Body.{Body}
use Rattle.rx_row.specs.Holds.{RowHolds}
use Rattle.rx_row.specs.declared.row.Row.TheVariants.{Eq}
use Rattle.rx_cert.specs.Elimination.{solution}
use Rattle.rx_relations.specs.Common.{common}
use Rattle.rx_relations.specs.Content.{content}
use Rattle.rx_relations.specs.Holding.{AllZero, HoldAt, at_goal}
use Rattle.rx_relations.specs.Linear.{last_unit, linear, linear_basis, none_solved, replaced_in, solved, solved_for, solved_next, solved_with, unsolved}
use Rattle.rx_relations.specs.Products.{free_places, gives_a_place, most_free, product_basis, products, products_where}
use Rattle.rx_relations.specs.Relations.{relations_formed}
use Rattle.rx_relations.specs.declared.instance.Instance.{Instance}
use Rattle.rx_relations.specs.declared.linear.Solved.{Solved}
use Rattle.rx_relations.proofs.ContentLaws.{zero_divided}
use Rattle.rx_relations.proofs.Dividing.{content_divides}
use Rattle.rx_relations.proofs.GoalLaws.{ZeroAt, all_weaker, common_zero}
use Rattle.rx_relations.proofs.Solving.{value_of_solution, value_replaced}

module _ (b : ℕ → ℤ) where
  abbrev IsZero : Body → Type 0
  IsZero p = value b p ≡ pos 0

  -- the place has the value
  abbrev IsGiven : ℕ × Body → Type 0
  IsGiven w = b w.0 ≡ value b w.1

  -- the relations are 0, and the places have their values
  record Kept (done : Solved) : Type 0 where
    relations : AllZero b done.relations
    values : All IsGiven done.values

  replaced_zero : (q : Body) (w : ℕ × Body) → IsGiven w → IsZero q →
      IsZero (replaced_in q w).form
  replaced_zero q w g h =
      let s = (subst_body (w ∷ []) q).form in
      zero_divided b (content s) s (content_divides s) (value_replaced b w.0 w.1 g q ∙ h)

  all_replaced_zero : (ws : List (ℕ × Body)) (q : Body) → All IsGiven ws → IsZero q →
      IsZero (fold_formed replaced_in q ws).form
  all_replaced_zero [] q g h = h
  all_replaced_zero (w ∷ ws) q g h =
      all_replaced_zero ws (replaced_in q w).form (All-tail IsGiven w ws g)
      (replaced_zero q w (All-head IsGiven w ws g) h)

  replaced_in_all_zero : (w : ℕ × Body) (qs : List Body) → IsGiven w → AllZero b qs →
      AllZero b (map_formed (λ q. replaced_in q w) qs).form
  replaced_in_all_zero w [] g h = All-nil IsZero
  replaced_in_all_zero w (q ∷ qs) g h =
      All-cons IsZero (replaced_in q w).form (map_formed (λ r. replaced_in r w) qs).form
      (replaced_zero q w g (All-head IsZero q qs h))
      (replaced_in_all_zero w qs g (All-tail IsZero q qs h))

  one_more : (ps : List Body) (p : Body) → AllZero b ps → IsZero p → AllZero b (ps ++ p ∷ [])
  one_more ps p h g = All-append IsZero ps (p ∷ []) h (All-cons IsZero p [] g (All-nil IsZero))

  unsolved_kept : (done : Solved) (p : Body) → Kept done → IsZero p → Kept (unsolved done p)
  unsolved_kept done p k h = record {
    relations = one_more done.relations p k.relations h;
    values = k.values;
  }

  with_kept : (done : Solved) (p : Body) (x : ℕ) (o : Option Body) → solution x p ≡ o →
      Kept done → IsZero p → Kept (solved_with done p x o).form
  with_kept done p x None e k h = unsolved_kept done p k h
  with_kept done p x (Some v) e k h =
      let given : IsGiven (x, v) = value_of_solution b x p v h e in
      let others = (map_formed (λ q. replaced_in q (x, v)) done.relations).form in
      record {
        relations =
            one_more others p (replaced_in_all_zero (x, v) done.relations given k.relations) h;
        values =
            All-append IsGiven done.values ((x, v) ∷ []) k.values
            (All-cons IsGiven (x, v) [] given (All-nil IsGiven));
      }

  for_kept : (done : Solved) (p : Body) (o : Option ℕ) → Kept done → IsZero p →
      Kept (solved_for done p o).form
  for_kept done p None k h = unsolved_kept done p k h
  for_kept done p (Some x) k h = with_kept done p x (solution x p) refl k h

  all_kept : (ps : List Body) (done : Solved) → Kept done → AllZero b ps →
      Kept (fold_formed solved_next done ps).form
  all_kept [] done k h = k
  all_kept (p ∷ ps) done k h =
      let q = (fold_formed replaced_in p done.values).form in
      all_kept ps (solved_next done p).form
      (for_kept done q (last_unit q) k
      (all_replaced_zero done.values p k.values (All-head IsZero p ps h)))
      (All-tail IsZero p ps h)

  -- relations that are 0 stay so when they are solved
  pub solved_zero : (ps : List Body) → AllZero b ps → AllZero b (solved ps).form.relations
  solved_zero ps h =
      (all_kept ps none_solved (record { relations = All-nil IsZero; values = All-nil IsGiven })
      h).relations

-- ---- at all goals

linear_zero : (count : ℕ) (goals : List Instance) →
    All (ZeroAt (linear count goals).form.relations) goals
linear_zero count goals =
    let found = (common (linear_basis count) goals).form in
    all_weaker found (solved found).form.relations goals (λ b h. solved_zero b found h)
    (common_zero (linear_basis count) goals)

nothing_zero : (goals : List Instance) → All (ZeroAt []) goals
nothing_zero [] = All-nil (ZeroAt [])
nothing_zero (goal ∷ goals) =
    All-cons (ZeroAt []) goal goals
    (λ a h. All-nil (λ p. value (at_goal a goal) p ≡ pos 0)) (nothing_zero goals)

products_zero : (t : Bool) (places : List ℕ) (goals : List Instance) →
    All (ZeroAt (products_where t places goals).form) goals
products_zero false places goals = nothing_zero goals
products_zero true places goals =
    let found = (common (product_basis places).form goals).form in
    all_weaker found (products_where true places goals).form goals
    (λ b h. All-filter gives_a_place (λ p. value b p ≡ pos 0) found h)
    (common_zero (product_basis places).form goals)

both_hold : (ps qs : List Body) (goals : List Instance) → All (ZeroAt ps) goals →
    All (ZeroAt qs) goals → All (HoldAt (map Eq (ps ++ qs))) goals
both_hold ps qs [] h g = All-nil (HoldAt (map Eq (ps ++ qs)))
both_hold ps qs (goal ∷ goals) h g =
    All-cons (HoldAt (map Eq (ps ++ qs))) goal goals
    (λ a e. let b = at_goal a goal in
    All-map (RowHolds b) Eq (ps ++ qs)
    (All-append (λ p. value b p ≡ pos 0) ps qs (All-head (ZeroAt ps) goal goals h a e)
    (All-head (ZeroAt qs) goal goals g a e)))
    (both_hold ps qs goals (All-tail (ZeroAt ps) goal goals h) (All-tail (ZeroAt qs) goal goals g))

-- the relations of goals hold at each of them
pub relations_hold : (count : ℕ) (goals : List Instance) →
    All (HoldAt (relations_formed count goals).form) goals
relations_hold count goals =
    let found = (linear count goals).form in
    let free = free_places count found.given in
    both_hold found.relations (products free goals).form goals (linear_zero count goals)
    (products_zero (nat_le (length free) most_free) free goals)
