-- A text is cut at its first line feed in one way.
use Rattle.std.proofs.Common.{◌≡◌, ◌∙◌, sym, refl, ap, subst, ℕ, ◌+◌, ◌<◌, ◌≤◌, suc, eqb, ltb, Bool, true, false, Some, None, List, [], ◌∷◌, ◌++◌, length, take, drop, cond, not, ◌&&◌, arith}
use Rattle.std.proofs.lemmas.Bool.{eqb-true, eq-eqb}
use borrow.Author.Tests.{ltb-true, ltb-false}
use Rattle.std.specs.List.{position, position_or_len}
use Rattle.rx_plain.proofs.Booleans.{and_second}
use Rattle.rx_lines.specs.Texts.{is_one_line}

abbrev pub is_feed : ℕ → Bool
is_feed byte = eqb byte 10

kept : (x : ℕ) (xs : List ℕ) → eqb x 10 ≡ false → is_one_line xs ≡ true → is_one_line (x ∷ xs) ≡
    true
kept x xs e h = ap (λ (b : Bool). not b && is_one_line xs) e ∙ h

pub record CutAt (xs : List ℕ) (k : ℕ) : Type 0 where
  pub joined : xs ≡ take k xs ++ 10 ∷ drop (suc k) xs
  pub one : is_one_line (take k xs) ≡ true

cut_at_case : (b : Bool) (x : ℕ) (xs : List ℕ) (n : ℕ) → eqb x 10 ≡ b → cond (not b) (1 + n) 0 <
    length (x ∷ xs) → (n < length xs → CutAt xs n) → CutAt (x ∷ xs) (cond (not b) (1 + n) 0)
cut_at_case true x xs n e h rest =
    record { joined = let f : x ≡ 10 = eqb-true x 10 e in cc; one = refl }
cut_at_case false x xs n e h rest =
    let r : CutAt xs n = rest (omega arith) in
    let one : suc n ≡ 1 + n = omega arith in
    subst (CutAt (x ∷ xs)) one (record {
      joined = ap (λ (ys : List ℕ). x ∷ ys) r.joined;
      one =
          kept x (take n xs) e r.one;
    })

-- before the first line feed there is none
pub cut_at : (xs : List ℕ) → position_or_len is_feed xs < length xs →
    CutAt xs (position_or_len is_feed xs)
cut_at [] h = absurd (omega arith)
cut_at (x ∷ xs) h = cut_at_case (eqb x 10) x xs (position_or_len is_feed xs) refl h (cut_at xs)

no_feed_case : (b : Bool) (x : ℕ) (xs : List ℕ) (n : ℕ) → eqb x 10 ≡ b → length (x ∷ xs) ≤
    cond (not b) (1 + n) 0 → (length xs ≤ n → is_one_line xs ≡ true) → is_one_line (x ∷ xs) ≡ true
no_feed_case true x xs n e h rest = absurd (omega arith)
no_feed_case false x xs n e h rest = kept x xs e (rest (omega arith))

-- where none is found there is none
pub no_feed : (xs : List ℕ) → length xs ≤ position_or_len is_feed xs → is_one_line xs ≡ true
no_feed [] h = refl
no_feed (x ∷ xs) h = no_feed_case (eqb x 10) x xs (position_or_len is_feed xs) refl h (no_feed xs)

found_case : (b : Bool) (n k : ℕ) → cond b (Some n) None ≡ Some k → (b ≡ true) × (n ≡ k)
found_case true n k e = (refl, let f : n ≡ k = cc in f)
found_case false n k e = absurd (cc)

-- the first line feed cuts the text
pub cut_found : (xs : List ℕ) (k : ℕ) → position is_feed xs ≡ Some k → CutAt xs k
cut_found xs k e =
    let f = found_case (ltb (position_or_len is_feed xs) (length xs)) (position_or_len is_feed xs) k
    e in
    subst (CutAt xs) f.1 (cut_at xs (ltb-true _ _ f.0))

none_case : (b : Bool) (n : ℕ) → cond b (Some n) None ≡ None → b ≡ false
none_case true n e = absurd (cc)
none_case false n e = refl

-- where there is none the text is one line
pub cut_none : (xs : List ℕ) → position is_feed xs ≡ None → is_one_line xs ≡ true
cut_none xs e =
    no_feed xs (ltb-false _ _ (none_case (ltb (position_or_len is_feed xs) (length xs))
    (position_or_len is_feed xs) e))

no_line : (x : ℕ) (xs : List ℕ) → x ≡ 10 → is_one_line (x ∷ xs) ≡ true → ⊥
no_line x xs e h =
    let f : eqb x 10 ≡ true = eq-eqb x 10 e in let g : not (eqb x 10) ≡ false = ap not f in
    absurd (let k : false ≡ true = sym (ap (λ (b : Bool). b && is_one_line xs) g) ∙ h in cc)

tail_line : (x : ℕ) (xs : List ℕ) → is_one_line (x ∷ xs) ≡ true → is_one_line xs ≡ true
tail_line x xs h = and_second (not (eqb x 10)) (is_one_line xs) h

-- a line is no longer than the other
pub cut_once : (xs ys more rest : List ℕ) → is_one_line xs ≡ true → is_one_line ys ≡ true → xs ++
    10 ∷ more ≡ ys ++ 10 ∷ rest → xs ≡ ys
cut_once [] [] more rest p q e = refl
cut_once [] (y ∷ ys) more rest p q e = let f : y ≡ 10 = cc in absurd (no_line y ys f q)
cut_once (x ∷ xs) [] more rest p q e = let f : x ≡ 10 = cc in absurd (no_line x xs f p)
cut_once (x ∷ xs) (y ∷ ys) more rest p q e =
    let f : xs ++ 10 ∷ more ≡ ys ++ 10 ∷ rest = cc in
    let g : xs ≡ ys = cut_once xs ys more rest (tail_line x xs p) (tail_line y ys q) f in cc
