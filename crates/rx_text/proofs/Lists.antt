-- Things one after the other: what has been read of them, and that there is one way to read them.
use Rattle.std.proofs.Common.{◌≡◌, ◌∙◌, ap, refl, sym, ℕ, ◌≤◌, ◌==◌, Bool, true, false, not, ◌&&◌, ◌||◌, List, [], ◌∷◌, ◌++◌, length, drop, arith, Some, None}
use Rattle.std.proofs.lemmas.Bool.{and_from, and_parts, or_parts, or_right, eq-eqb, eqb-true, not-true, not_from_false}
use Rattle.std.proofs.lemmas.List.{append-nil, append_assoc}
use Rattle.std.proofs.lemmas.List.Concat.{flat_map-append}
use Rattle.std.proofs.lemmas.List.Folds.{list_all-append}
use Rattle.std.specs.List.{flat_map, list_all}
use Rattle.rx_text.specs.Formats.{BeginsWith, Format, IsUnambiguous, Reads, Skips, StandsAt, is_over, repeated}
use Rattle.rx_text.proofs.Decimals.{no_more}

-- what ends a longer format ends a shorter one
over_less : (less more : ℕ → Bool) → ((byte : ℕ) → more byte ≡ false → less byte ≡ false)
    → (left : List ℕ) → is_over more left ≡ true → is_over less left ≡ true
over_less less more h [] o = refl
over_less less more h (byte ∷ left) o = not_from_false (less byte) (h byte (not-true (more byte) o))

pub over_first : (p q : ℕ → Bool) (left : List ℕ) → is_over (λ next. p next || q next) left ≡ true
    → is_over p left ≡ true
over_first p q left o =
    over_less p (λ next. p next || q next) (λ byte e. (or_parts (p byte) (q byte) e).0) left o

-- neither of two goes on
pub over_both : (p q : ℕ → Bool) (left : List ℕ) → is_over p left ≡ true → is_over q left ≡ true
    → is_over (λ next. p next || q next) left ≡ true
over_both p q [] o e = refl
over_both p q (byte ∷ left) o e = both (p byte) (q byte) o e
  where
    both : (a b : Bool) → not a ≡ true → not b ≡ true → not (a || b) ≡ true
    both true b o e = cc
    both false b o e = e

-- where a byte doesn't follow, it doesn't go on
pub over_byte : (byte : ℕ) (bytes : List ℕ) → ((left : List ℕ) → bytes ≡ byte ∷ left → ⊥)
    → is_over (λ next. next == byte) bytes ≡ true
over_byte byte [] never = refl
over_byte byte (b ∷ left) never = by (b == byte) refl
  where
    by : (t : Bool) → (b == byte) ≡ t → not (b == byte) ≡ true
    by true e = absurd (never left (λ i. eqb-true b byte e i ∷ left))
    by false e = not_from_false (b == byte) e

module _ {A : Type 0} (byte : ℕ) (format : Format A) where
  abbrev pub row : List A → List ℕ
  row things = flat_map (λ thing. byte ∷ format.text thing) things

  -- a row of things, or what ends it, ends one thing
  pub row_over : format.goes_on byte ≡ false → (things : List A) (left : List ℕ)
      → is_over format.goes_on left ≡ true → is_over format.goes_on (row things ++ left) ≡ true
  row_over stops [] left o = o
  row_over stops (x ∷ xs) left o = not_from_false (format.goes_on byte) stops

  regroup : (x : A) (xs : List A) (left : List ℕ)
      → row (x ∷ xs) ++ left ≡ byte ∷ (format.text x ++ (row xs ++ left))
  regroup x xs left = ap (λ s. byte ∷ s) (append_assoc (format.text x) (row xs) left)

  abbrev Rest : List A → List A → List ℕ → List ℕ → Type 0
  Rest things xs bytes left =
      (more : List A) × (xs ≡ things ++ more) × (bytes ≡ row more ++ left)
      × (list_all format.in_range more ≡ true)

  -- whatever the bytes begin with goes on where the first things end
  cancel : IsUnambiguous format → format.goes_on byte ≡ false
      → (things xs : List A) (bytes left : List ℕ) → list_all format.in_range things ≡ true
      → list_all format.in_range xs ≡ true → is_over format.goes_on bytes ≡ true
      → is_over (repeated byte format).goes_on left ≡ true → row things ++ bytes ≡ row xs ++ left
      → Rest things xs bytes left
  cancel one stops [] xs bytes left a b o p e = (xs, refl, e, b)
  cancel one stops (t ∷ ts) [] bytes left a b o p e =
      absurd
      (no_more (repeated byte format).goes_on byte (format.text t ++ row ts ++ bytes) p (sym e)
      (or_right (format.goes_on byte) (byte == byte) (eq-eqb byte byte refl)))
  cancel one stops (t ∷ ts) (x ∷ xs) bytes left a b o p e =
      let whole : byte ∷ (format.text t ++ (row ts ++ bytes)) ≡ byte ∷
      (format.text x ++ (row xs ++ left)) =
      sym (regroup t ts bytes) ∙ e ∙ regroup x xs left in
      let inside : format.text t ++ (row ts ++ bytes) ≡ format.text x ++ (row xs ++ left) = cc in
      let first = and_parts (format.in_range t) (list_all format.in_range ts) a in
      let second = and_parts (format.in_range x) (list_all format.in_range xs) b in
      let same = one (format.text t ++ (row ts ++ bytes)) t x (row ts ++ bytes) (row xs ++ left)
      (record { in_range = first.0; text = refl; over = row_over stops ts bytes o })
      (record {
        in_range = second.0;
        text = inside;
        over =
            row_over stops xs left (over_first format.goes_on (λ next. next == byte) left p);
      }) in
      let rest = cancel one stops ts xs bytes left first.1 second.1 o p same.1 in
      (rest.0, (λ i. sym same.0 i ∷ rest.1 i), rest.2, rest.3)

  -- bytes begin with at most one such row
  pub repeated_unambiguous : IsUnambiguous format → format.goes_on byte ≡ false
      → IsUnambiguous (repeated byte format)
  repeated_unambiguous one stops bytes xs ys left right b c =
      let rest =
      cancel one stops xs ys left right b.in_range c.in_range
      (over_first format.goes_on (λ next. next == byte) left b.over) c.over (sym b.text ∙ c.text) in
      ended rest.0 rest.1 rest.2
    where
      ended : (more : List A) → ys ≡ xs ++ more → left ≡ row more ++ right
          → (xs ≡ ys) × (left ≡ right)
      ended [] e f = (sym (append-nil xs) ∙ sym e, f)
      ended (z ∷ zs) e f =
          absurd
          (no_more (repeated byte format).goes_on byte (format.text z ++ row zs ++ right) b.over f
          (or_right (format.goes_on byte) (byte == byte) (eq-eqb byte byte refl)))

  -- what has been read from `start` up to `at`
  pub record ReadSoFar (bytes : List ℕ) (start : ℕ) (things : List A) (at : ℕ) : Type 0 where
    pub all : list_all format.in_range things ≡ true
    pub text : drop start bytes ≡ row things ++ drop at bytes
    pub over : is_over format.goes_on (drop at bytes) ≡ true
    pub inside : at ≤ length bytes
    pub forward : start ≤ at

  pub nothing_yet : (bytes : List ℕ) (start : ℕ) → start ≤ length bytes
      → is_over format.goes_on (drop start bytes) ≡ true → ReadSoFar bytes start [] start
  nothing_yet bytes start h o =
      record { all = refl; text = refl; over = o; inside = h; forward = omega arith }

  pub one_more_read : (bytes : List ℕ) (start : ℕ) {things : List A} {at after end : ℕ} {x : A}
      → ReadSoFar bytes start things at → Skips (byte ∷ []) bytes at (Some after)
      → StandsAt format bytes after x end → ReadSoFar bytes start (things ++ x ∷ []) end
  one_more_read bytes start {things} {at} {after} {end} {x} s k stand = record {
    all =
        list_all-append format.in_range things (x ∷ [])
        ∙ and_from (list_all format.in_range things) (format.in_range x && true) s.all
        (and_from (format.in_range x) true stand.begins.in_range refl);
    text =
        s.text ∙ ap (λ b. row things ++ b) (k.1.1 ∙ ap (λ b. byte ∷ b) stand.begins.text)
        ∙ sym (ap (λ b. row things ++ b) (regroup x [] (drop end bytes)))
        ∙ sym (append_assoc (row things) (row (x ∷ [])) (drop end bytes))
        ∙ ap (λ b. b ++ drop end bytes)
        (sym (flat_map-append (λ thing. byte ∷ format.text thing) things (x ∷ [])));
    over = stand.begins.over;
    inside = stand.inside;
    forward = omega (arith, s.forward, k.0, stand.forward);
  }

  -- where the byte doesn't follow these are all
  pub all_read : (bytes : List ℕ) (start : ℕ) {things : List A} {at : ℕ}
      → ReadSoFar bytes start things at → Skips (byte ∷ []) bytes at None
      → BeginsWith (repeated byte format) (drop start bytes) things (drop at bytes)
  all_read bytes start {things} {at} s never = record {
    in_range = s.all;
    text = s.text;
    over =
        over_both format.goes_on (λ next. next == byte) (drop at bytes) s.over
        (over_byte byte (drop at bytes) never);
  }

  -- where it follows and nothing in range comes after it, there is no such row
  pub stuck : IsUnambiguous format → format.goes_on byte ≡ false
      → (bytes : List ℕ) (start : ℕ) {things xs : List A} {left : List ℕ} {at after : ℕ}
      → ReadSoFar bytes start things at → Skips (byte ∷ []) bytes at (Some after)
      → Reads format bytes after None → BeginsWith (repeated byte format) (drop start bytes) xs left
      → ⊥
  stuck one stops bytes start {things} {xs} {left} {at} {after} s k never b =
      let rest =
      cancel one stops things xs (drop at bytes) left s.all b.in_range s.over b.over
      (sym s.text ∙ b.text) in
      by rest.0 rest.2 rest.3
    where
      by : (more : List A) → drop at bytes ≡ row more ++ left → list_all format.in_range more ≡ true
          → ⊥
      by [] e a =
          no_more (repeated byte format).goes_on byte (drop after bytes) b.over (sym e ∙ k.1.1)
          (or_right (format.goes_on byte) (byte == byte) (eq-eqb byte byte refl))
      by (z ∷ zs) e a =
          let whole : byte ∷ drop after bytes ≡ byte ∷ (format.text z ++ (row zs ++ left)) =
          sym k.1.1 ∙ e ∙ regroup z zs left in
          let inside : drop after bytes ≡ format.text z ++ (row zs ++ left) = cc in
          never z (row zs ++ left) (record {
            in_range = (and_parts (format.in_range z) (list_all format.in_range zs) a).0;
            text = inside;
            over =
                row_over stops zs left
                (over_first format.goes_on (λ next. next == byte) left b.over);
          })
