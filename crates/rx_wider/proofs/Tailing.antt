-- The tail calls of rules, one by one.
use Rattle.std.proofs.Common.{◌≡◌, ◌∙◌, ap, sym, ℕ, ◌+◌, ◌<◌, List, [], ◌∷◌, ◌++◌, length, get_or, take}
use Rattle.std.specs.List.{fold}
use Rattle.std.proofs.lemmas.List.{take_more}
use Rattle.std.proofs.lemmas.List.Sums.{fold-append}

-- one more of a list
pub folded_more : {A B : Type 0} (f : B → A → B) (start : B) (xs : List A) (i : ℕ) (x : A) →
    i < length xs → x ≡ get_or xs i x →
    f (fold f start (take i xs)) x ≡ fold f start (take (i + 1) xs)
folded_more f start xs i x there is =
    sym (fold-append f start (take i xs) (x ∷ []))
    ∙ sym (ap (fold f start) (take_more xs i x there ∙ ap (λ y. take i xs ++ y ∷ []) (sym is)))
