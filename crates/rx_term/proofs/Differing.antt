-- Differences formed one by one along two lists: those that are formed, and what the others still
-- decide.
use Rattle.std.proofs.Common.{◌≡◌, ◌∙◌, ap, subst, sym, refl, true, false, ◌&&◌, Bool, ℕ, suc, ◌+◌, ◌<◌, ◌≤◌, List, [], ◌∷◌, ◌++◌, length, drop, get_or, drop_of_length-le, append_assoc, add-one}
use Rattle.std.specs.List.{zip}
use Rattle.std.proofs.Math.Seq.{drop-cons}
use Rattle.std.proofs.lemmas.Bool.{and_left}
use Rattle.std.proofs.lemmas.List.{append-nil}
use Rattle.rx_plain.specs.Formed.{Formed, map_formed, ◌<$>◌}
use Rattle.rx_poly.specs.declared.body.Body.{Body}
use Rattle.rx_term.specs.Differences.{difference, differences}

-- those so far, before those of the polynomials that are left, are those of both lists
pub record Differing (done ps qs left right : List Body) : Type 0 where
  pub all : ((λ ds. done ++ ds) <$> differences ps qs) ≡ differences left right

-- none is formed yet
pub begin : (ps qs : List Body) → Differing [] (drop 0 ps) qs ps qs
begin ps qs = record { all = refl }

module _ {done qs right more : List Body} (left : List Body) (i : ℕ) {p q : Body}
    (h : i < length left) (is : p ≡ get_or left i p) (others : qs ≡ q ∷ more)
    (d : Differing done (drop i left) qs left right) where
  opened : Differing done (p ∷ drop (suc i) left) (q ∷ more) left right
  opened =
      let here : drop i left ≡ p ∷ drop (suc i) left = drop-cons left i p h ∙
      ap (λ y. y ∷ drop (suc i) left) (sym is) in
      subst (λ ps. Differing done ps (q ∷ more) left right) here
      (subst (λ ys. Differing done (drop i left) ys left right) others d)

  -- one beyond the limits is one of all
  pub no_difference : (difference (p, q)).within ≡ false → (differences left right).within ≡ false
  no_difference g =
      ap (λ (w : Formed (List Body)). w.within) (sym opened.all) ∙
      and_left (difference (p, q)).within (differences (drop (suc i) left) more).within g

  -- one within them leaves it to the rest
  pub after_difference : {next : List Body} → next ≡ done ++ (difference (p, q)).form ∷ [] →
      (difference (p, q)).within ≡ true → Differing next (drop (i + 1) left) more left right
  after_difference {next} e g =
      let rest = differences (drop (suc i) left) more in
      subst (λ n. Differing next (drop n left) more left right) (sym (add-one i))
      (subst (λ ys. Differing ys (drop (suc i) left) more left right) (sym e) (record {
        all = (λ j. record {
          form = append_assoc done ((difference (p, q)).form ∷ []) rest.form j;
          within = sym g j && rest.within;
        }) ∙ opened.all;
      }))

-- nothing is left of the first list
pub finished : (done qs left right : List Body) (i : ℕ) → length left ≤ i →
    Differing done (drop i left) qs left right
    → (done ≡ (differences left right).form) × ((differences left right).within ≡ true)
finished done qs left right i h d =
    let all = (subst (λ ps. Differing done ps qs left right) (drop_of_length-le left h) d).all in (
      sym (append-nil done) ∙ ap (λ (w : Formed (List Body)). w.form) all,
      sym (ap (λ (w : Formed (List Body)). w.within) all),
    )

none_left : (ps : List Body) → zip {X = Body} ps [] ≡ []
none_left [] = refl
none_left (p ∷ ps) = refl

-- or of the second
pub ended : (done ps qs left right : List Body) → qs ≡ [] → Differing done ps qs left right
    → (done ≡ (differences left right).form) × ((differences left right).within ≡ true)
ended done ps qs left right none d =
    let at = subst (λ ys. Differing done ps ys left right) none d in
    let all = ap (λ pairs. (λ ds. done ++ ds) <$> map_formed difference pairs) (sym (none_left ps))
    ∙ at.all in (
      sym (append-nil done) ∙ ap (λ (w : Formed (List Body)). w.form) all,
      sym (ap (λ (w : Formed (List Body)). w.within) all),
    )
