-- Products of places that follow one another: those so far, and those that are left.
use Rattle.std.proofs.Common.{◌≡◌, ◌∙◌, ap, subst, sym, refl, true, false, ◌&&◌, ℕ, List, [], ◌∷◌, ◌++◌, append_assoc}
use Rattle.std.proofs.lemmas.Bool.{and_left}
use Rattle.std.proofs.lemmas.List.{append-nil}
use Rattle.rx_plain.specs.Formed.{Formed, ◌<$>◌}
use Rattle.rx_poly.specs.declared.body.Body.{Body}
use Rattle.rx_relations.specs.Products.{products_of, times_each}

-- the products so far, in front of those of the places that are left, are all
pub record Multiplying (made : List Body) (rest whole : List ℕ) : Type 0 where
  pub all : ((λ ys. made ++ ys) <$> products_of rest) ≡ products_of whole

-- none yet
pub begin : (places : List ℕ) → Multiplying [] places places
begin places = record { all = refl }

-- a product beyond the limits decides
pub beyond : (made : List Body) (rest whole after : List ℕ) (i : ℕ) → rest ≡ i ∷ after →
    Multiplying made rest whole → (times_each i rest).within ≡ false →
    (products_of whole).within ≡ false
beyond made rest whole after i e m f =
    let n = subst (λ r. Multiplying made r whole) e m in
    let g : (times_each i (i ∷ after)).within ≡ false =
    ap (λ r. (times_each i r).within) (sym e) ∙ f in
    sym (ap (λ (w : Formed (List Body)). w.within) n.all) ∙
    and_left (times_each i (i ∷ after)).within (products_of after).within g

-- those of one place are made
pub next : (made : List Body) (rest whole after : List ℕ) (i : ℕ) (new more : List Body) →
    rest ≡ i ∷ after → Multiplying made rest whole → more ≡ (times_each i rest).form →
    (times_each i rest).within ≡ true → new ≡ made ++ more → Multiplying new after whole
next made rest whole after i new more e m s w n =
    let p = subst (λ r. Multiplying made r whole) e m in
    let first : more ≡ (times_each i (i ∷ after)).form =
    s ∙ ap (λ r. (times_each i r).form) e in
    let fits : (times_each i (i ∷ after)).within ≡ true =
    ap (λ r. (times_each i r).within) (sym e) ∙ w in
    subst (λ ys. Multiplying ys after whole) (sym n) (record {
      all = (λ j. record {
        form = (append_assoc made more (products_of after).form
            ∙ ap (λ ys. made ++ (ys ++ (products_of after).form)) first) j;
        within = sym fits j && (products_of after).within;
      }) ∙ p.all;
    })

-- no place is left
pub finished : (made : List Body) (rest whole : List ℕ) → rest ≡ [] →
    Multiplying made rest whole → (made ≡ (products_of whole).form) ×
    ((products_of whole).within ≡ true)
finished made rest whole e m =
    let all = (subst (λ r. Multiplying made r whole) e m).all in (
      sym (append-nil made) ∙ ap (λ (w : Formed (List Body)). w.form) all,
      sym (ap (λ (w : Formed (List Body)). w.within) all),
    )
