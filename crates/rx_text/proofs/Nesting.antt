-- Sums with quotients and remainders nested so deep: there is one way to read them, and all
-- readable polynomials are among them.
use Rattle.std.proofs.Common.{◌≡◌, ap, subst, ℕ, zero, suc, ◌-◌, ◌<◌, true, List, [], ◌∷◌, drop, arith, Option, Some, None}
use Rattle.std.proofs.lemmas.Bool.{and_parts}
use Rattle.rx_poly.specs.declared.body.Body.{Body}
use Rattle.rx_text.specs.Formats.{BeginsWith, IsUnambiguous, Reads, Skips, StandsAt}
use Rattle.rx_text.specs.Plain.{atoms, is_plain, is_plain_inside, pairs, sums, sums_nested}
use Rattle.rx_poly.specs.declared.body.Atom.{Atom}
use Rattle.rx_text.proofs.Atoms.{Kind, IsVar, IsDiv, IsMod, kind_of}
use Rattle.rx_text.proofs.Readers.{absent, found}
use Rattle.rx_text.proofs.Sums.{sums_of_plain_unambiguous}

pub inside_unambiguous : (n : ℕ) → IsUnambiguous (sums (is_plain_inside n))
unfolding is_plain_inside
inside_unambiguous zero bytes p q left right b c = let h = b.in_range in cc
inside_unambiguous (suc n) bytes p q left right b c =
    sums_of_plain_unambiguous (is_plain_inside n) (inside_unambiguous n) bytes p q left right
    (record { in_range = b.in_range; text = b.text; over = b.over })
    (record { in_range = c.in_range; text = c.text; over = c.over })

pub plain_unambiguous : (n : ℕ) → IsUnambiguous (sums_nested n)
plain_unambiguous n = sums_of_plain_unambiguous (is_plain_inside n) (inside_unambiguous n)

nothing : {n : ℕ} (p : Body) → is_plain_inside n p ≡ true → n ≡ 0 → ⊥
unfolding is_plain_inside
nothing {n} p h e =
    let none : is_plain_inside 0 p ≡ true = subst (λ k. is_plain_inside k p ≡ true) e h in cc

-- one level less is left inside
pub deeper : (n : ℕ) → 0 < n → is_plain (is_plain_inside (n - 1)) ≡ is_plain_inside n
unfolding is_plain_inside
deeper zero h = absurd (omega arith)
deeper (suc n) h =
    let less : suc n - 1 ≡ n = omega arith in ap (λ k. is_plain (is_plain_inside k)) less

-- where nothing may be nested only variables are atoms
pub no_room : (bytes : List ℕ) (at n : ℕ) → n ≡ 0 → Skips (118 ∷ []) bytes at None
    → Reads (atoms (is_plain_inside n)) bytes at None
no_room bytes at n none never = λ x left b. by (kind_of (is_plain_inside n) b)
  where
    unfolding_zero : (p q : Body) {rest left : List ℕ}
        → BeginsWith (pairs (sums (is_plain_inside n))) rest (p, q) left → ⊥
    unfolding_zero p q b =
        nothing p (and_parts (is_plain_inside n p) (is_plain_inside n q) b.in_range).0 none

    by : {x : Atom} {left : List ℕ} → Kind (is_plain_inside n) (drop at bytes) x left → ⊥
    by (IsVar m r e t b) = never r t
    by (IsDiv p q r e t b) = unfolding_zero p q b
    by (IsMod p q r e t b) = unfolding_zero p q b

-- what was read one level down, as the part of an atom
pub inside_found : (depth : ℕ) (bytes : List ℕ) (at : ℕ) {answer : Option ((Body × Body) × ℕ)}
    → {pair : Body × Body} {end : ℕ} → (depth ≡ 0 → ⊥) → answer ≡ Some (pair, end)
    → Reads (pairs (sums_nested (depth - 1))) bytes at answer
    → StandsAt (pairs (sums (is_plain_inside depth))) bytes at pair end
inside_found depth bytes at {answer} {pair} {end} h e reads =
    let some : 0 < depth = omega arith in
    subst (λ inner. StandsAt (pairs (sums inner)) bytes at pair end) (deeper depth some)
    (found (pairs (sums_nested (depth - 1))) bytes at e reads)

pub inside_absent : (depth : ℕ) (bytes : List ℕ) (at : ℕ) {answer : Option ((Body × Body) × ℕ)}
    → (depth ≡ 0 → ⊥) → answer ≡ None → Reads (pairs (sums_nested (depth - 1))) bytes at answer
    → Reads (pairs (sums (is_plain_inside depth))) bytes at None
inside_absent depth bytes at {answer} h e reads =
    let some : 0 < depth = omega arith in
    subst (λ inner. Reads (pairs (sums inner)) bytes at None) (deeper depth some)
    (absent (pairs (sums_nested (depth - 1))) bytes at e reads)
