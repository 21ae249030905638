-- Folds whose steps never raise a measure, and change nothing where they leave the measure as it
-- is.
use Rattle.std.proofs.Common.{◌≡◌, ◌∙◌, ap, sym, refl, arith, ℕ, ◌+◌, ◌<◌, ◌≤◌, List, [], ◌∷◌, drop, get_or, length}
use Rattle.std.specs.List.{All, fold}
use Rattle.std.proofs.lemmas.List.{drop_more}
use Rattle.std.proofs.lemmas.List.Elements.{All-cons, All-head, All-nil, All-tail}

module _ {S A : Type 0} (m : S → ℕ) (step : S → A → S) (P Q : S → A → Type 0) where
  -- from a state and an element that fit, an equal measure says that the state stays, and more
  pub record IsSettling : Type 0 where
    pub lowers : (s : S) (x : A) → m (step s x) ≤ m s
    pub same : (s : S) (x : A) → P s x → m (step s x) ≡ m s → (step s x ≡ s) × Q s x

  module _ (is : IsSettling) where
    pub fold_lowers : (s : S) (xs : List A) → m (fold step s xs) ≤ m s
    fold_lowers s [] = omega arith
    fold_lowers s (x ∷ xs) =
        let first = is.lowers s x in
        let more = fold_lowers (step s x) xs in
        omega (arith, first, more)

    pub fold_same : (s : S) (xs : List A) → All (P s) xs → m (fold step s xs) ≡ m s →
        (fold step s xs ≡ s) × All (Q s) xs
    fold_same s [] fit e = (refl, All-nil (Q s))
    fold_same s (x ∷ xs) fit e =
        let first = is.lowers s x in
        let more = fold_lowers (step s x) xs in
        let level : m (step s x) ≡ m s = omega (arith, first, more, e) in
        let one = is.same s x (All-head (P s) x xs fit) level in
        let rest = fold_same s xs (All-tail (P s) x xs fit)
        (sym (ap (λ (t : S). m (fold step t xs)) one.0) ∙ e) in (
          ap (λ (t : S). fold step t xs) one.0 ∙ rest.0,
          All-cons (Q s) x xs one.1 rest.1,
        )

-- what each step keeps, a fold keeps
pub fold_keeps : {S A : Type 0} (P : S → Type 0) (step : S → A → S) →
    ((s : S) (x : A) → P s → P (step s x)) → (s : S) (xs : List A) → P s → P (fold step s xs)
fold_keeps P step keeps s [] here = here
fold_keeps P step keeps s (x ∷ xs) here = fold_keeps P step keeps (step s x) xs (keeps s x here)

-- what is left of a list, one step later
pub fold_next : {S A : Type 0} (step : S → A → S) (s : S) (xs : List A) (i : ℕ) (x : A) →
    i < length xs → x ≡ get_or xs i x →
    fold step (step s x) (drop (i + 1) xs) ≡ fold step s (drop i xs)
fold_next step s xs i x there is =
    sym (ap (fold step s) (drop_more xs i x there ∙ ap (λ y. y ∷ drop (i + 1) xs) (sym is)))
