-- What keeps a text on one line; numbers are, and things joined by spaces where each of them is.
use Rattle.std.proofs.Common.{◌≡◌, ◌∙◌, refl, ℕ, zero, suc, ◌+◌, ◌/◌, ◌%◌, eqb, ltb, cond, not, Bool, true, false, List, [], ◌∷◌, ◌++◌, flat_map, length, pos, negsuc, arith}
use Rattle.std.proofs.lemmas.Bool.{and_from, ne_eqb, not_from_false}
use Rattle.std.proofs.lemmas.List.Folds.{list_all-append}
use Rattle.std.specs.Fmt.{digit_glyph, digits, digits_onto}
use Rattle.rx_text.specs.Formats.{Format}
use Rattle.rx_text.specs.Numbers.{integer_text, natural_text}
use Rattle.rx_words.specs.Words.{counted, each_spaced, pairs}
use Rattle.rx_logtext.specs.Lines.{in_line}
use Rattle.rx_logtext.specs.Logs.{is_one_line}

-- each text is one line
abbrev pub AreOneLine : {A : Type 0} → (A → List ℕ) → Type 0
AreOneLine {A} text = (thing : A) → is_one_line (text thing) ≡ true

pub joined : (xs ys : List ℕ) → is_one_line xs ≡ true → is_one_line ys ≡ true
    → is_one_line (xs ++ ys) ≡ true
joined xs ys p q =
    list_all-append in_line xs ys ∙ and_from (is_one_line xs) (is_one_line ys) p q

pub spread : {A : Type 0} (text : A → List ℕ) → AreOneLine text → (things : List A)
    → is_one_line (flat_map text things) ≡ true
spread text one [] = refl
spread text one (x ∷ xs) = joined (text x) (flat_map text xs) (one x) (spread text one xs)

after_byte : (byte : ℕ) (bytes : List ℕ) → (byte ≡ 10 → ⊥) → is_one_line bytes ≡ true
    → is_one_line (byte ∷ bytes) ≡ true
after_byte byte bytes other one =
    and_from (not (eqb byte 10)) (is_one_line bytes)
    (not_from_false (eqb byte 10) (ne_eqb byte 10 other)) one

-- ---- numbers

no_feed_glyph : (d : ℕ) → digit_glyph false d ≡ 10 → ⊥
no_feed_glyph d = by (ltb d 10)
  where
    by : (small : Bool) → cond small (48 + d) (87 + d) ≡ 10 → ⊥
    by true e = omega arith
    by false e = omega arith

either : (b : Bool) (xs ys : List ℕ) → is_one_line xs ≡ true → is_one_line ys ≡ true
    → is_one_line (cond b xs ys) ≡ true
either true xs ys p q = p
either false xs ys p q = q

digits_one_line : (k n : ℕ) (bytes : List ℕ) → is_one_line bytes ≡ true
    → is_one_line (digits_onto k 10 false n bytes) ≡ true
digits_one_line zero n bytes one = one
digits_one_line (suc k) n bytes one =
    let d = digit_glyph false (n % 10) in
    let more : is_one_line (d ∷ bytes) ≡ true =
    after_byte d bytes (no_feed_glyph (n % 10)) one in
    either (eqb (n / 10) 0) (d ∷ bytes) (digits_onto k 10 false (n / 10) (d ∷ bytes)) more
    (digits_one_line k (n / 10) (d ∷ bytes) more)

pub natural_one_line : AreOneLine natural_text
unfolding digits
natural_one_line n = digits_one_line 64 n [] refl

pub integer_one_line : AreOneLine integer_text
integer_one_line (pos n) = natural_one_line n
integer_one_line (negsuc n) = natural_one_line (suc n)

-- ---- words

pub spaced_one_line : (xs ys : List ℕ) → is_one_line xs ≡ true → is_one_line ys ≡ true
    → is_one_line (xs ++ 32 ∷ ys) ≡ true
spaced_one_line xs ys p q = joined xs (32 ∷ ys) p q

pub each_one_line : {A : Type 0} (text : A → List ℕ) → AreOneLine text
    → AreOneLine (each_spaced text)
each_one_line text one xs = spread (λ x. 32 ∷ text x) one xs

pub pair_one_line : {A B : Type 0} (first : Format A) (second : Format B)
    → AreOneLine first.text → AreOneLine second.text → AreOneLine (pairs first second).text
pair_one_line first second p q pair =
    spaced_one_line (first.text pair.0) (second.text pair.1) (p pair.0) (q pair.1)

pub list_one_line : {A : Type 0} (each : Format A) → AreOneLine each.text
    → AreOneLine (counted each).text
list_one_line each one xs =
    joined (natural_text (length xs)) (each_spaced each.text xs) (natural_one_line (length xs))
    (each_one_line each.text one xs)
