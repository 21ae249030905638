-- What comes of one stage: how many combinations, and that those that are joined have the signs
-- that they are to have.
use Rattle.std.proofs.Common.{◌≡◌, ◌∙◌, ap, Bool, true, false, cond, refl, sym, List, [], ◌∷◌, map, filter, length, length-append, ◌+◌, ◌*◌, arith}
use Rattle.std.proofs.lemmas.Bool.{and_from}
use Rattle.std.specs.List.{list_all}
use Rattle.rx_fm.specs.Elimination.{resolvent, negative, stage, pairs, positive, without}
use Rattle.rx_fm.specs.declared.combination.Combination.{Combination}
use Rattle.rx_poly.specs.declared.body.Mono.{Mono}

length-mapped : {A B : Type 0} (f : A → B) (xs : List A) → length (map f xs) ≡ length xs
length-mapped f [] = refl
length-mapped f (x ∷ xs) = let e = length-mapped f xs in omega arith

length-pairs : (m : Mono) (ps qs : List Combination) → length (pairs m ps qs) ≡
    length ps * length qs
length-pairs m [] qs = omega arith
length-pairs m (p ∷ ps) qs =
    let one : length (map (resolvent m p) qs) ≡ length qs = length-mapped (resolvent m p) qs in
    let rest = length-pairs m ps qs in
    let both = length-append (map (resolvent m p) qs) (pairs m ps qs) in
    omega arith

-- how many come of it, by how many there are of each kind
pub count_is : (m : Mono) (cs : List Combination) {w p n : List Combination} → w ≡ without m cs →
    p ≡ positive m cs → n ≡ negative m cs → length w + length p * length n ≡ length (stage m cs)
count_is m cs {w} {p} {n} e f g =
    (λ i. length (e i) + length (f i) * length (g i))
    ∙ ap (λ k. length (without m cs) + k) (sym (length-pairs m (positive m cs) (negative m cs)))
    ∙ sym (length-append (without m cs) (pairs m (positive m cs) (negative m cs)))

by_test : (test : Combination → Bool) (c : Combination) (cs : List Combination) → list_all test cs ≡
    true → (b : Bool) → test c ≡ b → list_all test (cond b (c ∷ cs) cs) ≡ true
by_test test c cs h true e = and_from (test c) (list_all test cs) e h
by_test test c cs h false e = h

pub all_filtered : (test : Combination → Bool) (cs : List Combination) →
    list_all test (filter test cs) ≡ true
all_filtered test [] = refl
all_filtered test (c ∷ cs) = by_test test c (filter test cs) (all_filtered test cs) (test c) refl
