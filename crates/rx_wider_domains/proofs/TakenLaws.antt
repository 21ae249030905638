-- Rows that are taken up one after the other.
use Rattle.std.proofs.Common.{◌≡◌, ◌∙◌, ap, sym, ℕ, ◌+◌, ◌<◌, List, ◌∷◌, ◌++◌, drop, get_or, length}
use Rattle.std.specs.List.{flat_map}
use Rattle.std.proofs.lemmas.List.{drop_more}
use Rattle.std.proofs.lemmas.List.Sums.{fold-append}
use Rattle.rx_plain.specs.Formed.{Formed}
use Rattle.rx_poly.specs.declared.body.Body.{Body}
use Rattle.rx_row.specs.declared.row.Row.{Row}
use Rattle.rx_wider_domains.specs.Groups.{taken, taking}
use Rattle.rx_wider_domains.specs.Offers.{equation_rows, equations_from, number_rows, numbers_from}

-- what is left of a list begins with its next element
pub rest_is : {A : Type 0} (xs : List A) (i : ℕ) (x : A) → i < length xs → x ≡ get_or xs i x →
    drop i xs ≡ x ∷ drop (i + 1) xs
rest_is xs i x there is = drop_more xs i x there ∙ ap (λ y. y ∷ drop (i + 1) xs) (sym is)

-- some rows, and then others
pub then_others : (rows next : List Row) (now later all : List (Formed Row)) →
    next ≡ taken rows now → all ≡ now ++ later → taken next later ≡ taken rows all
then_others rows next now later all done is =
    ap (λ (rs : List Row). taken rs later) done ∙
    sym (fold-append taking rows now later) ∙
    ap (taken rows) (sym is)

module _ {A : Type 0} (h : A → List (Formed Row)) where
  pub flat_next : (rows next : List Row) (xs : List A) (i : ℕ) (x : A) →
      i < length xs → x ≡ get_or xs i x → next ≡ taken rows (h x) →
      taken next (flat_map h (drop (i + 1) xs)) ≡ taken rows (flat_map h (drop i xs))
  flat_next rows next xs i x there is done =
      then_others rows next (h x) (flat_map h (drop (i + 1) xs)) (flat_map h (drop i xs)) done
      (ap (flat_map h) (rest_is xs i x there is))

pub numbers_next : (rows next : List Row) (ps : List Body) (i : ℕ) (p : Body) →
    i < length ps → p ≡ get_or ps i p → next ≡ taken rows (number_rows i p) →
    taken next (numbers_from (i + 1) (drop (i + 1) ps)) ≡ taken rows (numbers_from i (drop i ps))
numbers_next rows next ps i p there is done =
    then_others rows next (number_rows i p) (numbers_from (i + 1) (drop (i + 1) ps))
    (numbers_from i (drop i ps)) done (ap (numbers_from i) (rest_is ps i p there is))

pub equations_next : (ws : List (ℕ × Body)) (rows next : List Row) (ps : List Body) (i : ℕ)
    (p : Body) → i < length ps → p ≡ get_or ps i p → next ≡ taken rows (equation_rows ws i p) →
    taken next (equations_from ws (i + 1) (drop (i + 1) ps)) ≡
    taken rows (equations_from ws i (drop i ps))
equations_next ws rows next ps i p there is done =
    then_others rows next (equation_rows ws i p) (equations_from ws (i + 1) (drop (i + 1) ps))
    (equations_from ws i (drop i ps)) done (ap (equations_from ws i) (rest_is ps i p there is))
