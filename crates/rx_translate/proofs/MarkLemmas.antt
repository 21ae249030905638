-- Marks of numbers: which they are after some are given, and the list of those that have one.
use Rattle.std.proofs.Common.{◌≡◌, ◌≢◌, ◌∙◌, ap, sym, subst, refl, Bool, true, false, ◌⊎◌, inl, inr, ◌||◌, ◌==◌, ℕ, zero, suc, ◌+◌, ◌<◌, List, [], ◌∷◌, length, replicate, map, get_or, arith}
use Rattle.std.specs.Prelude.{All, Contains, slice_set}
use Rattle.std.specs.List.{list_any}
use Rattle.std.proofs.lemmas.Bool.{cases_eq, eq-eqb, ne_eqb}
use Rattle.std.proofs.lemmas.List.{get_or-replicate, get_or-set_other, get_or-set_same, length-replicate, length-set}
use Rattle.rx_plain.proofs.Booleans.{or_assoc, or_false, or_true}
use Rattle.rx_plain.proofs.Kept.{first_one, first_or_other, other_one}
use Rattle.rx_code.specs.Reached.{IsRising, no_number, next_number}
use Rattle.rx_code.proofs.Elements.{all_from, no_element}
use Rattle.rx_translate.specs.Marks.{IsMarked, marked_also, marked_from, marks_of}

-- ---- marks that are given

pub length-marked_also : (marks : List Bool) (ks : List ℕ) → length (marked_also marks ks) ≡
    length marks
length-marked_also marks [] = refl
length-marked_also marks (k ∷ ks) =
    length-marked_also (slice_set marks k true) ks ∙ length-set marks k true

pub length-marks_of : (count : ℕ) (ks : List ℕ) → length (marks_of count ks) ≡ count
length-marks_of count ks =
    length-marked_also (replicate count false) ks ∙ length-replicate count false

mark_of : (marks : List Bool) (k n : ℕ) → n < length marks → (same : (k ≡ n) ⊎ (k ≢ n)) →
    get_or (slice_set marks k true) n false ≡ (get_or marks n false || (k == n))
mark_of marks k n below (inl same) =
    ap (λ j. get_or (slice_set marks j true) n false) same ∙
    get_or-set_same marks n true false below
    ∙ sym (or_true (get_or marks n false)) ∙ ap (λ b. get_or marks n false || b)
    (sym (eq-eqb k n same))
mark_of marks k n below (inr other) =
    get_or-set_other marks k n true false (λ e. other (sym e))
    ∙ sym (or_false (get_or marks n false)) ∙
    ap (λ b. get_or marks n false || b) (sym (ne_eqb k n other))

also_mark : (marks : List Bool) (ks : List ℕ) (n : ℕ) → n < length marks →
    get_or (marked_also marks ks) n false ≡ (get_or marks n false || list_any (λ k. k == n) ks)
also_mark marks [] n below = sym (or_false (get_or marks n false))
also_mark marks (k ∷ ks) n below =
    also_mark (slice_set marks k true) ks n (let e = length-set marks k true in
    omega (arith, below, e))
    ∙ ap (λ b. b || list_any (λ j. j == n) ks) (mark_of marks k n below (cases_eq k n))
    ∙ or_assoc (get_or marks n false) (k == n) (list_any (λ j. j == n) ks)

-- the mark of n, where none had one before
pub mark_is : (count : ℕ) (ks : List ℕ) (n : ℕ) → n < count → get_or (marks_of count ks) n false ≡
    list_any (λ k. k == n) ks
mark_is count ks n below =
    also_mark (replicate count false) ks n (let e = length-replicate count false in
    omega (arith, below, e))
    ∙ ap (λ b. b || list_any (λ k. k == n) ks) (get_or-replicate count n false false below)

pub any_second : (es : List (ℕ × ℕ)) (n : ℕ) →
    list_any (λ k. k == n) (map (λ (e : ℕ × ℕ). e.1) es) ≡ list_any (λ (e : ℕ × ℕ). e.1 == n) es
any_second [] n = refl
any_second (e ∷ es) n = ap (λ b. (e.1 == n) || b) (any_second es n)

-- ---- the list of those that have marks

marked_there : (marks : List Bool) (n i : ℕ) → IsMarked marks i →
    Contains (marked_from n marks) (n + i)
marked_there [] n i is = absurd cc
marked_there (true ∷ marks) n zero is =
    subst (Contains (n ∷ marked_from (n + 1) marks)) (omega arith)
    (first_one n (marked_from (n + 1) marks))
marked_there (true ∷ marks) n (suc i) is =
    subst (Contains (n ∷ marked_from (n + 1) marks)) (omega arith)
    (other_one n (marked_from (n + 1) marks) (n + 1 + i) (marked_there marks (n + 1) i is))
marked_there (false ∷ marks) n zero is = absurd cc
marked_there (false ∷ marks) n (suc i) is =
    subst (Contains (marked_from (n + 1) marks)) (omega arith) (marked_there marks (n + 1) i is)

record IsPlace (marks : List Bool) (n h : ℕ) : Type 0 where
  i : ℕ
  at : h ≡ n + i
  is : IsMarked marks i

later : (b : Bool) (marks : List Bool) (n h : ℕ) → IsPlace marks (n + 1) h → IsPlace (b ∷ marks) n h
later b marks n h p = record { i = suc p.i; at = p.at ∙ omega arith; is = p.is }

was_marked : (marks : List Bool) (n h : ℕ) → Contains (marked_from n marks) h → IsPlace marks n h
was_marked [] n h there = absurd (no_element h there)
was_marked (true ∷ marks) n h there =
    elim (first_or_other n (marked_from (n + 1) marks) h there) [
      | inl same ↦ record { i = 0; at = sym same ∙ omega arith; is = refl }
      | inr other ↦ later true marks n h (was_marked marks (n + 1) h other)
    ]
was_marked (false ∷ marks) n h there = later false marks n h (was_marked marks (n + 1) h there)

above : (marks : List Bool) (n k : ℕ) → k < n → All (λ h. k < h) (marked_from n marks)
above marks n k below =
    all_from (λ h. k < h) (marked_from n marks)
    (λ h there. let p = was_marked marks n h there in let e = p.at in omega (arith, e, below))

pub marked_rising : (marks : List Bool) (n : ℕ) → IsRising (marked_from n marks)
marked_rising [] n = no_number
marked_rising (true ∷ marks) n =
    next_number n (marked_from (n + 1) marks) (above marks (n + 1) n (omega arith))
    (marked_rising marks (n + 1))
marked_rising (false ∷ marks) n = marked_rising marks (n + 1)

pub is_there : (marks : List Bool) (h : ℕ) → IsMarked marks h → Contains (marked_from 0 marks) h
is_there marks h is =
    subst (Contains (marked_from 0 marks)) (omega arith) (marked_there marks 0 h is)

pub is_marked : (marks : List Bool) (h : ℕ) → Contains (marked_from 0 marks) h → IsMarked marks h
is_marked marks h there =
    let p = was_marked marks 0 h there in
    let at = p.at in
    let e : p.i ≡ h = omega (arith, at) in
    subst (IsMarked marks) e p.is
