-- What a walk along a list, from the front, says of a test of all its elements, and of how many pass
-- it before the first one that fails.
use Rattle.std.proofs.Common.{◌≡◌, ◌∙◌, ap, ℕ, suc, ◌+◌, ◌<◌, ◌≤◌, Bool, true, false, sym, List, length, drop, get_or, drop_of_length-le, arith}
use Rattle.std.proofs.Math.Seq.{drop-cons}
use Rattle.std.proofs.lemmas.Bool.{and_left}
use Rattle.std.proofs.lemmas.List.Sums.{prefix_len-drop_all, prefix_len-drop_no, prefix_len-drop_yes}
use Rattle.std.specs.List.{list_all, prefix_len}

-- where the rest decides and its first element fails, not all pass
pub one_fails : {X : Type 0} (p : X → Bool) (xs : List X) (i : ℕ) (x : X) → i < length xs → x ≡
    get_or xs i x → p x ≡ false → list_all p (drop i xs) ≡ list_all p xs → list_all p xs ≡ false
one_fails p xs i x h is fails decides =
    sym decides ∙ ap (list_all p) (drop-cons xs i x h)
    ∙ and_left (p (get_or xs i x)) (list_all p (drop (suc i) xs)) (ap p (sym is) ∙ fails)

-- where the rest decides and nothing is left, all pass
pub all_pass : {X : Type 0} (p : X → Bool) (xs : List X) (i : ℕ) → length xs ≤ i →
    list_all p (drop i xs) ≡ list_all p xs → list_all p xs ≡ true
all_pass p xs i h decides = sym decides ∙ ap (list_all p) (drop_of_length-le xs h)

-- one more passes
pub one_more : {X : Type 0} (p : X → Bool) (xs : List X) (i : ℕ) (x : X) → i < length xs → x ≡
    get_or xs i x → p x ≡ true → (count whole : ℕ) → count + prefix_len p (drop i xs) ≡ whole →
    count + 1 + prefix_len p (drop (i + 1) xs) ≡ whole
one_more p xs i x h is passes count whole e =
    let step = prefix_len-drop_yes p xs i x h (ap p (sym is) ∙ passes) in
    omega (arith, step, e)

-- the first one fails
pub no_more : {X : Type 0} (p : X → Bool) (xs : List X) (i : ℕ) (x : X) → i < length xs → x ≡
    get_or xs i x → p x ≡ false → (count whole : ℕ) → count + prefix_len p (drop i xs) ≡ whole →
    count ≡ whole
no_more p xs i x h is fails count whole e =
    let step = prefix_len-drop_no p xs i x h (ap p (sym is) ∙ fails) in
    omega (arith, step, e)

-- nothing is left
pub all_counted : {X : Type 0} (p : X → Bool) (xs : List X) (i : ℕ) → length xs ≤ i →
    (count whole : ℕ) → count + prefix_len p (drop i xs) ≡ whole → count ≡ whole
all_counted p xs i h count whole e =
    let step = prefix_len-drop_all p xs i h in
    omega (arith, step, e)
