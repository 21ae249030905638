-- Sorted and listed, known from each element and the next.
use Rattle.std.proofs.Common.{◌≡◌, ◌∙◌, ap, Bool, true, false, not, ◌&&◌, refl, sym, List, [], ◌∷◌, ℤ}
use Rattle.std.proofs.lemmas.Bool.{and_parts, and_from}
use Rattle.std.specs.List.{list_all}
use Rattle.std.specs.Ordering.{is_le, is_lt}
use Rattle.rx_plain.proofs.Booleans.{and_grouped}
use Rattle.rx_poly.specs.Normal.{is_sorted, is_first, precedes}
use Rattle.rx_poly.specs.Order.{atom_cmp, mono_cmp}
use Rattle.rx_poly.specs.Terms.{is_zero, is_sparse_sorted, is_before}
use Rattle.rx_poly.proofs.OrderLemmas.{atom_total, mono_total}
use Rattle.rx_poly.proofs.Same.{same_mono}
use Rattle.rx_poly.proofs.SortedLaws.{all-weaker, le_trans}
use Rattle.rx_poly.proofs.TermLaws.{before_trans, lt_is}
use Rattle.rx_poly.specs.declared.body.Atom.{Atom}
use Rattle.rx_poly.specs.declared.body.Mono.{Mono}

-- where the rest is true, two tests before it that agree then are one
same_before : (p q s : Bool) → (s ≡ true → p ≡ q) → (p && s) ≡ (q && s)
same_before p q true f = ap (λ b. b && true) (f refl)
same_before true true false f = refl
same_before true false false f = refl
same_before false true false f = refl
same_before false false false f = refl

both_same : (p q : Bool) → (p ≡ true → q ≡ true) → (q ≡ true → p ≡ true) → p ≡ q
both_same true q f g = sym (f refl)
both_same false true f g = g refl
both_same false false f g = refl

-- sorted where the first is in order with the next, and the others are sorted
pub sorted_step : (x : Atom) (xs : List Atom) → is_sorted atom_cmp (x ∷ xs) ≡
    (is_first atom_cmp x xs && is_sorted atom_cmp xs)
sorted_step x [] = refl
sorted_step x (y ∷ ys) =
    same_before (list_all (λ z. is_le (atom_cmp x z)) (y ∷ ys)) (is_le (atom_cmp x y))
    (is_sorted atom_cmp (y ∷ ys)) (λ s.
    both_same (list_all (λ z. is_le (atom_cmp x z)) (y ∷ ys)) (is_le (atom_cmp x y))
    (λ h. (and_parts (is_le (atom_cmp x y)) (list_all (λ z. is_le (atom_cmp x z)) ys) h).0)
    (λ h. and_from (is_le (atom_cmp x y)) (list_all (λ z. is_le (atom_cmp x z)) ys) h
    (all-weaker atom_cmp (λ z. is_le (atom_cmp y z)) (λ z. is_le (atom_cmp x z)) ys
    (λ z g. le_trans atom_cmp atom_total x y z h g)
    (and_parts (list_all (λ z. is_le (atom_cmp y z)) ys) (is_sorted atom_cmp ys) s).0)))

-- listed where the first leads the next, and the others are listed
pub listed_step : (t : Mono × ℤ) (ts : List (Mono × ℤ)) → is_sparse_sorted mono_cmp (t ∷ ts) ≡
    (precedes mono_cmp t ts && is_sparse_sorted mono_cmp ts)
listed_step t [] = and_grouped (not (is_zero t.1)) true true
listed_step t (u ∷ us) =
    ap (λ b. not (is_zero t.1) && b) (same_before (is_before mono_cmp t.0 (u ∷ us))
    (is_lt (mono_cmp t.0 u.0)) (is_sparse_sorted mono_cmp (u ∷ us)) (λ s.
    both_same (is_before mono_cmp t.0 (u ∷ us)) (is_lt (mono_cmp t.0 u.0))
    (λ h. (and_parts (is_lt (mono_cmp t.0 u.0)) (is_before mono_cmp t.0 us) h).0)
    (λ h. and_from (is_lt (mono_cmp t.0 u.0)) (is_before mono_cmp t.0 us) h
    (before_trans mono_cmp mono_total same_mono t.0 u.0 us (lt_is (mono_cmp t.0 u.0) h)
    (and_parts (is_before mono_cmp u.0 us) (is_sparse_sorted mono_cmp us)
    (and_parts (not (is_zero u.1)) (is_before mono_cmp u.0 us && is_sparse_sorted mono_cmp us)
    s).1).0))))
    ∙ and_grouped (not (is_zero t.1)) (is_lt (mono_cmp t.0 u.0)) (is_sparse_sorted mono_cmp (u ∷ us))
