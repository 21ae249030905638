-- A list of copies in the making: after each turn it is the beginning of the list that is copied.
use Rattle.std.proofs.Common.{◌≡◌, ℕ, ◌<◌, ◌+◌, List, [], ◌∷◌, ◌++◌, length, take, get_or, Result, Ok, Err, sym, ap, ◌∙◌, add-one}
use Rattle.std.specs.Prelude.{IfOk, IsOkAnd}
use Rattle.std.proofs.Math.Seq.{take-suc}

-- one copy more, of the next element
pub one_more : {A E : Type 0} (all so_far longer : List A) (i : ℕ) (x : A) (copied : Result A E) →
    i < length all → x ≡ get_or all i x → so_far ≡ take i all → IfOk copied (λ copy. copy ≡ x) →
    IsOkAnd copied (λ last. longer ≡ so_far ++ last ∷ []) → longer ≡ take (i + 1) all
one_more {A} all so_far longer i x (Ok copy) within here before same grown =
    let split : take (i + 1) all ≡ take i all ++ x ∷ [] = ap (λ n. take n all) (add-one i) ∙
    (take-suc all i x within ∙ ap (λ (q : A). take i all ++ q ∷ []) (sym here)) in
    grown ∙ (ap (λ (l : List A). l ++ copy ∷ []) before ∙
    (ap (λ (q : A). take i all ++ q ∷ []) same ∙ sym split))
one_more all so_far longer i x (Err _) within here before same grown = elim grown [ ]
