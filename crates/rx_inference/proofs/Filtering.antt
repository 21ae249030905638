-- Elements that pass a test, formed one by one along a list: those that are formed, and what the
-- others still decide.
use Rattle.std.proofs.Common.{◌≡◌, ◌∙◌, ap, subst, sym, refl, Bool, true, false, ◌&&◌, cond, ℕ, suc, ◌+◌, ◌<◌, ◌≤◌, List, [], ◌∷◌, ◌++◌, length, drop, get_or, drop_of_length-le, append_assoc, add-one}
use Rattle.std.specs.Prelude.{filter}
use Rattle.std.proofs.Math.Seq.{drop-cons}
use Rattle.std.proofs.lemmas.Bool.{and_left}
use Rattle.std.proofs.lemmas.List.{append-nil}
use Rattle.rx_plain.specs.Formed.{Formed, map_formed, ◌<$>◌}

-- the forms so far, before those of the elements that are left, are those of the whole list
pub record Filtering {A B : Type 0} (f : A → Formed B) (test : A → Bool) (done : List B)
    (rest whole : List A) : Type 0 where
  pub all : ((λ ys. done ++ ys) <$> map_formed f (filter test rest)) ≡
      map_formed f (filter test whole)

-- none is formed yet
pub begin : {A B : Type 0} (f : A → Formed B) (test : A → Bool) (xs : List A) →
    Filtering f test [] (drop 0 xs) xs
begin f test xs = record { all = refl }

module _ {A B : Type 0} {f : A → Formed B} {test : A → Bool} {done : List B} (xs : List A) (i : ℕ)
    {x : A} (h : i < length xs) (is : x ≡ get_or xs i x)
    (m : Filtering f test done (drop i xs) xs) where
  opened : Filtering f test done (x ∷ drop (suc i) xs) xs
  opened =
      subst (λ rest. Filtering f test done rest xs)
      (drop-cons xs i x h ∙ ap (λ y. y ∷ drop (suc i) xs) (sym is)) m

  -- one that fails the test adds nothing
  pub skipped : test x ≡ false → Filtering f test done (drop (i + 1) xs) xs
  skipped fails =
      let all = subst (λ (b : Bool). ((λ ys. done ++ ys) <$> map_formed f
      (cond b (x ∷ filter test (drop (suc i) xs)) (filter test (drop (suc i) xs)))) ≡
      map_formed f (filter test xs)) fails opened.all in
      subst (λ n. Filtering f test done (drop n xs) xs) (sym (add-one i)) (record { all = all })

  passing : test x ≡ true → ((λ ys. done ++ ys) <$> map_formed f
      (x ∷ filter test (drop (suc i) xs))) ≡ map_formed f (filter test xs)
  passing passes =
      subst (λ (b : Bool). ((λ ys. done ++ ys) <$> map_formed f
      (cond b (x ∷ filter test (drop (suc i) xs)) (filter test (drop (suc i) xs)))) ≡
      map_formed f (filter test xs)) passes opened.all

  -- one that passes it and is beyond the limits is one of all
  pub no_element : test x ≡ true → (f x).within ≡ false → (map_formed f (filter test xs)).within ≡
      false
  no_element passes g =
      ap (λ (w : Formed (List B)). w.within) (sym (passing passes)) ∙
      and_left (f x).within (map_formed f (filter test (drop (suc i) xs))).within g

  -- one within them leaves it to the rest
  pub after_element : {next : List B} → test x ≡ true → next ≡ done ++ (f x).form ∷ [] →
      (f x).within ≡ true → Filtering f test next (drop (i + 1) xs) xs
  after_element {next} passes e g =
      let rest = map_formed f (filter test (drop (suc i) xs)) in
      subst (λ n. Filtering f test next (drop n xs) xs) (sym (add-one i))
      (subst (λ ys. Filtering f test ys (drop (suc i) xs) xs) (sym e) (record {
        all = (λ j. record {
          form = append_assoc done ((f x).form ∷ []) rest.form j;
          within = sym g j && rest.within;
        }) ∙ passing passes;
      }))

-- nothing is left
pub finished : {A B : Type 0} (f : A → Formed B) (test : A → Bool) (done : List B) (xs : List A)
    (i : ℕ) → length xs ≤ i → Filtering f test done (drop i xs) xs
    → (done ≡ (map_formed f (filter test xs)).form) ×
    ((map_formed f (filter test xs)).within ≡ true)
finished {A} {B} f test done xs i h m =
    let all = (subst (λ rest. Filtering f test done rest xs) (drop_of_length-le xs h) m).all in (
      sym (append-nil done) ∙ ap (λ (w : Formed (List B)). w.form) all,
      sym (ap (λ (w : Formed (List B)). w.within) all),
    )
