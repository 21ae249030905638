-- Taking one combination after the other, each reduced by the pivots before it, is eliminating from
-- all the rest as soon as a pivot is found.
use Rattle.std.proofs.Common.{◌≡◌, ◌∙◌, ap, refl, sym, true, ◌&&◌, List, [], ◌∷◌, ◌++◌, length, ℤ, append_assoc}
use Rattle.std.proofs.lemmas.List.{append-nil}
use Rattle.rx_plain.specs.Formed.{Formed, pure, ◌>>=◌, ◌<$>◌, fold_formed, map_formed}
use Rattle.rx_plain.proofs.Booleans.{and_assoc, and_exchange, and_grouped, and_true}
use Rattle.rx_poly.specs.declared.body.Body.{Body, out-Body}
use Rattle.rx_poly.specs.declared.body.Mono.{Mono}
use Rattle.rx_relations.specs.Cancelling.{cancelled, eliminate, eliminate_by, vanishing}
use Rattle.rx_relations.specs.Reducing.{placed, reduced, taken, vanishing_in_order}
use Rattle.rx_relations.specs.declared.combination.Combination.{Combination}
use Rattle.rx_relations.specs.declared.reduction.Reduction.{Reduction}

-- ---- mapping and folding

-- two steps for each element, or the one for all and then the other
map_both : {A B C : Type 0} (f : A → Formed B) (g : B → Formed C) (xs : List A) →
    map_formed (λ x. f x >>= g) xs ≡ (map_formed f xs >>= map_formed g)
map_both f g [] = refl
map_both {A} {B} {C} f g (x ∷ xs) =
    let rest : map_formed (λ y. f y >>= g) xs ≡ (map_formed f xs >>= map_formed g) =
    map_both f g xs in
    λ i. record {
      form = (g (f x).form).form ∷ (rest i).form;
      within = (ap (λ (w : Formed (List C)). ((f x).within && (g (f x).form).within) && w.within)
          rest
          ∙ and_exchange (f x).within (g (f x).form).within (map_formed f xs).within
          (map_formed g (map_formed f xs).form).within) i;
    }

-- one element more
fold_more : {A B : Type 0} (step : B → A → Formed B) (done : B) (xs : List A) (x : A) →
    fold_formed step done (xs ++ x ∷ []) ≡ (fold_formed step done xs >>= λ b. step b x)
fold_more step done [] x = λ i. record {
  form = (step done x).form;
  within = and_true (step done x).within i;
}
fold_more {A} {B} step done (y ∷ ys) x =
    let rest : fold_formed step (step done y).form (ys ++ x ∷ []) ≡
    (fold_formed step (step done y).form ys >>= λ b. step b x) =
    fold_more step (step done y).form ys x in
    λ i. record {
      form = (rest i).form;
      within = (ap (λ (w : Formed B). (step done y).within && w.within) rest ∙
          and_grouped (step done y).within (fold_formed step (step done y).form ys).within
          (step (fold_formed step (step done y).form ys).form x).within) i;
    }

-- ---- one turn

-- after a first step, with its limits
abbrev one_more : Formed Combination → Formed (List Body) → Formed (List Body)
one_more r all = record { form = all.form; within = r.within && all.within }

-- a relation is kept
turn_kept : (r : Formed Combination) (rest : Formed (List Combination))
    (further : List Combination → Formed (List Body)) (kept : List Body)
    (all : Formed (List Body)) → all ≡
    ((λ rs. (kept ++ r.form.relation ∷ []) ++ rs) <$> (rest >>= further)) →
    one_more r all ≡
    record {
      form = kept ++ r.form.relation ∷ (further rest.form).form;
      within = (r.within && rest.within) && (further rest.form).within;
    }
turn_kept r rest further kept all e = λ i. record {
  form = (ap (λ (w : Formed (List Body)). w.form) e ∙
      append_assoc kept (r.form.relation ∷ []) (further rest.form).form) i;
  within = (ap (λ (w : Formed (List Body)). r.within && w.within) e ∙
      and_grouped r.within rest.within (further rest.form).within) i;
}

-- a combination is a pivot
turn_pivot : (r : Formed Combination) (rest : Formed (List Combination))
    (next : List Combination → Formed (List Combination))
    (further : List Combination → Formed (List Body)) (kept : List Body)
    (all : Formed (List Body)) → all ≡
    ((λ rs. kept ++ rs) <$> ((rest >>= next) >>= further)) →
    one_more r all ≡
    record {
      form = kept ++ (further (next rest.form).form).form;
      within = (r.within && rest.within) &&
          ((next rest.form).within && (further (next rest.form).form).within);
    }
turn_pivot r rest next further kept all e =
    let b = (next rest.form).within in
    let d = (further (next rest.form).form).within in
    λ i. record {
      form = (ap (λ (w : Formed (List Body)). w.form) e) i;
      within = (ap (λ (w : Formed (List Body)). r.within && w.within) e ∙
          ap (λ x. r.within && x) (and_assoc rest.within b d) ∙
          and_grouped r.within rest.within (b && d)) i;
    }

-- ---- all turns

-- what is kept so far, and what is eliminated from the rest, reduced by the pivots so far
abbrev IsEliminated : List Combination → List Combination → List Body → Type 0
IsEliminated cs pivots kept =
    ((λ (done : Reduction). done.vanishing) <$>
    fold_formed taken (record { pivots = pivots; vanishing = kept }) cs) ≡
    ((λ rs. kept ++ rs) <$> (map_formed (reduced pivots) cs >>= eliminate (length cs)))

-- one pivot more
reduced_more : (cs pivots : List Combination) (pivot : Combination) →
    map_formed (reduced (pivots ++ pivot ∷ [])) cs ≡
    (map_formed (reduced pivots) cs >>= map_formed (λ d. cancelled d pivot))
reduced_more cs pivots pivot =
    (λ i. map_formed (λ d. fold_more cancelled d pivots pivot i) cs) ∙
    map_both (reduced pivots) (λ d. cancelled d pivot) cs

turn : (cs pivots : List Combination) (kept : List Body) (r : Formed Combination)
    (ts : List (Mono × ℤ)) →
    ((ps : List Combination) (ks : List Body) → IsEliminated cs ps ks) →
    one_more r ((λ (done : Reduction). done.vanishing) <$>
    fold_formed taken (placed ts (record { pivots = pivots; vanishing = kept }) r.form) cs) ≡
    record {
      form = kept ++ (eliminate_by ts r.form (eliminate (length cs))
          (map_formed (reduced pivots) cs).form).form;
      within = (r.within && (map_formed (reduced pivots) cs).within) &&
          (eliminate_by ts r.form (eliminate (length cs))
          (map_formed (reduced pivots) cs).form).within;
    }
turn cs pivots kept r [] others =
    turn_kept r (map_formed (reduced pivots) cs) (eliminate (length cs)) kept
    ((λ (done : Reduction). done.vanishing) <$> fold_formed taken
    (record { pivots = pivots; vanishing = kept ++ r.form.relation ∷ [] }) cs)
    (others pivots (kept ++ r.form.relation ∷ []))
turn cs pivots kept r (t ∷ ts) others =
    turn_pivot r (map_formed (reduced pivots) cs) (map_formed (λ d. cancelled d r.form))
    (eliminate (length cs)) kept
    ((λ (done : Reduction). done.vanishing) <$> fold_formed taken
    (record { pivots = pivots ++ r.form ∷ []; vanishing = kept }) cs)
    (others (pivots ++ r.form ∷ []) kept ∙
    ap (λ (m : Formed (List Combination)). (λ rs. kept ++ rs) <$> (m >>= eliminate (length cs)))
    (reduced_more cs pivots r.form))

is_eliminated : (cs pivots : List Combination) (kept : List Body) → IsEliminated cs pivots kept
is_eliminated [] pivots kept = λ i. record { form = sym (append-nil kept) i; within = true }
is_eliminated (c ∷ cs) pivots kept =
    let r = reduced pivots c in
    turn cs pivots kept r (out-Body r.form.value).terms (is_eliminated cs)

-- by no pivot nothing is reduced
none_reduced : (cs : List Combination) → map_formed (reduced []) cs ≡ pure cs
none_reduced [] = refl
none_reduced (c ∷ cs) =
    let rest : map_formed (reduced []) cs ≡ pure cs = none_reduced cs in
    λ i. record { form = c ∷ (rest i).form; within = (rest i).within }

-- so both ways the same relations vanish, within the same limits
pub in_order_is : (cs : List Combination) → vanishing_in_order cs ≡ vanishing cs
in_order_is cs =
    is_eliminated cs [] [] ∙
    ap (λ (m : Formed (List Combination)). (λ rs. [] ++ rs) <$> (m >>= eliminate (length cs)))
    (none_reduced cs)
