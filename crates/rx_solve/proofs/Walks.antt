-- Lists that are walked from the front: what the next element adds, and the end.
use Rattle.std.proofs.Common.{◌≡◌, ◌∙◌, ap, refl, sym, ℕ, suc, ◌+◌, ◌<◌, ◌≤◌, Bool, true, false, ◌&&◌, List, [], ◌∷◌, ◌++◌, append_assoc, drop, drop_of_length-le, length, get_or, add-one}
use Rattle.std.proofs.Math.Seq.{drop-cons}
use Rattle.std.proofs.lemmas.Bool.{and_from, and_left}
use Rattle.std.proofs.lemmas.List.{append-nil}
use Rattle.std.proofs.lemmas.List.Folds.{list_all-append}
use Rattle.std.specs.List.{flat_map, list_all}
use Rattle.rx_row.specs.declared.row.Row.{Row}
use Rattle.rx_row.specs.declared.row.Row.TheVariants.{Ge, Eq, Ne}
use Rattle.rx_solve.specs.Disequalities.{disequalities_from, with_number}

module _ {X : Type 0} (xs : List X) (i : ℕ) (x : X) (h : i < length xs) (is : x ≡ get_or xs i x) where
  -- what is left begins with the next element
  pub next_first : drop i xs ≡ x ∷ drop (i + 1) xs
  next_first =
      drop-cons xs i x h ∙ ap (λ y. y ∷ drop (suc i) xs) (sym is) ∙
      ap (λ n. x ∷ drop n xs) (sym (add-one i))

  -- its pieces are added after the others
  pub listed_next : {Y : Type 0} (f : X → List Y) (so_far next all : List Y) →
      so_far ++ flat_map f (drop i xs) ≡ all → next ≡ so_far ++ f x →
      next ++ flat_map f (drop (i + 1) xs) ≡ all
  listed_next f so_far next all before added =
      ap (λ ys. ys ++ flat_map f (drop (i + 1) xs)) added ∙
      append_assoc so_far (f x) (flat_map f (drop (i + 1) xs)) ∙
      ap (λ ys. so_far ++ flat_map f ys) (sym next_first) ∙ before

  -- where it passes a test the rest decides
  pub tested_next : (p : X → Bool) (all : Bool) → list_all p (drop i xs) ≡ all → p x ≡ true →
      list_all p (drop (i + 1) xs) ≡ all
  tested_next p all before passes =
      ap (λ b. b && list_all p (drop (i + 1) xs)) (sym passes) ∙ ap (list_all p) (sym next_first) ∙
      before

  -- where it doesn't it decides
  pub tested_not : (p : X → Bool) (all : Bool) → list_all p (drop i xs) ≡ all → p x ≡ false →
      all ≡ false
  tested_not p all before fails =
      sym before ∙ ap (list_all p) next_first ∙ and_left (p x) (list_all p (drop (i + 1) xs)) fails

-- nothing is left to be tested
pub tested_end : {X : Type 0} (p : X → Bool) (xs : List X) (i : ℕ) (all : Bool) → length xs ≤ i →
    list_all p (drop i xs) ≡ all → all ≡ true
tested_end p xs i all h before = sym before ∙ ap (list_all p) (drop_of_length-le xs h)

-- elements that pass a test are added after others that do
pub all_added : {X : Type 0} (p : X → Bool) (xs more all : List X) → all ≡ xs ++ more →
    list_all p xs ≡ true → list_all p more ≡ true → list_all p all ≡ true
all_added p xs more all is before passes =
    ap (list_all p) is ∙ list_all-append p xs more ∙ and_from (list_all p xs) (list_all p more)
    before passes

-- ---- the numbers of disequalities

numbered : (i : ℕ) (row : Row) (later : List ℕ) → with_number i row [] ++ later ≡
    with_number i row later
numbered i (Ge p) later = refl
numbered i (Eq p) later = refl
numbered i (Ne p) later = refl

pub numbered_next : (rows : List Row) (i : ℕ) (row : Row) → i < length rows → row ≡
    get_or rows i row → (so_far next all : List ℕ) →
    so_far ++ disequalities_from i (drop i rows) ≡ all → next ≡ so_far ++ with_number i row [] →
    next ++ disequalities_from (i + 1) (drop (i + 1) rows) ≡ all
numbered_next rows i row h is so_far next all before added =
    let later = disequalities_from (i + 1) (drop (i + 1) rows) in
    ap (λ ys. ys ++ later) added ∙ append_assoc so_far (with_number i row []) later ∙
    ap (λ ys. so_far ++ ys) (numbered i row later) ∙
    ap (λ k. so_far ++ with_number i row (disequalities_from k (drop (i + 1) rows))) (add-one i) ∙
    ap (λ rs. so_far ++ disequalities_from i rs) (sym (next_first rows i row h is)) ∙ before

pub numbered_end : (rows : List Row) (i : ℕ) (so_far all : List ℕ) → length rows ≤ i →
    so_far ++ disequalities_from i (drop i rows) ≡ all → so_far ≡ all
numbered_end rows i so_far all h before =
    sym (append-nil so_far) ∙ ap (λ rs. so_far ++ disequalities_from i rs)
    (sym (drop_of_length-le rows h)) ∙ before
