-- A list whose elements are formed one by one: those that are formed, and what the others still
-- decide.
use Rattle.std.proofs.Common.{◌≡◌, ◌∙◌, ap, subst, true, false, ◌&&◌, refl, sym, ℕ, suc, ◌+◌, ◌<◌, ◌≤◌, List, [], ◌∷◌, ◌++◌, length, drop, get_or, drop_of_length-le, append_assoc, add-one}
use Rattle.std.proofs.Math.Seq.{drop-cons}
use Rattle.std.proofs.lemmas.Bool.{and_left}
use Rattle.std.proofs.lemmas.List.{append-nil}
use Rattle.rx_plain.specs.Formed.{Formed, map_formed, ◌<$>◌}

-- the forms so far, in front of those that are left, are those of the whole list
pub record Mapping {A B : Type 0} (f : A → Formed B) (done : List B) (rest whole : List A) : Type 0
  where
    pub all : ((λ ys. done ++ ys) <$> map_formed f rest) ≡ map_formed f whole

-- nothing is formed yet
pub begin : {A B : Type 0} (f : A → Formed B) (xs : List A) → Mapping f [] (drop 0 xs) xs
begin f xs = record { all = refl }

module _ {A B : Type 0} {f : A → Formed B} {done : List B} (xs : List A) (i : ℕ) {x : A}
    (h : i < length xs) (is : x ≡ get_or xs i x) (m : Mapping f done (drop i xs) xs) where
  opened : Mapping f done (x ∷ drop (suc i) xs) xs
  opened =
      subst (λ rest. Mapping f done rest xs) (drop-cons xs i x h ∙
      ap (λ y. y ∷ drop (suc i) xs) (sym is)) m

  -- an element beyond the limits is one of all
  pub no_item : (f x).within ≡ false → (map_formed f xs).within ≡ false
  no_item g =
      ap (λ (w : Formed (List B)). w.within) (sym opened.all) ∙
      and_left (f x).within (map_formed f (drop (suc i) xs)).within g

  -- one within them leaves it to the rest
  pub after_item : {next : List B} → next ≡ done ++ (f x).form ∷ [] → (f x).within ≡ true →
      Mapping f next (drop (i + 1) xs) xs
  after_item {next} e g =
      subst (λ n. Mapping f next (drop n xs) xs) (sym (add-one i))
      (subst (λ ys. Mapping f ys (drop (suc i) xs) xs) (sym e) (record {
        all = (λ j. record {
          form = append_assoc done ((f x).form ∷ []) (map_formed f (drop (suc i) xs)).form j;
          within = sym g j && (map_formed f (drop (suc i) xs)).within;
        }) ∙ opened.all;
      }))

-- nothing is left
pub finished : {A B : Type 0} (f : A → Formed B) (done : List B) (xs : List A) (i : ℕ) → length xs ≤
    i → Mapping f done (drop i xs) xs → (done ≡ (map_formed f xs).form) ×
    ((map_formed f xs).within ≡ true)
finished {A} {B} f done xs i h m =
    let all = (subst (λ rest. Mapping f done rest xs) (drop_of_length-le xs h) m).all in (
      sym (append-nil done) ∙ ap (λ (w : Formed (List B)). w.form) all,
      sym (ap (λ (w : Formed (List B)). w.within) all),
    )
