-- Words one after the other: the end of a word, two things with a space between them, a list after
-- its number.
use Rattle.std.proofs.Common.{◌≡◌, ◌∙◌, ap, refl, sym, ℕ, ◌==◌, Bool, true, false, not, cond, List, [], ◌∷◌, ◌++◌, length, drop, Option, Some, None, arith, append_assoc}
use Rattle.std.specs.List.{list_all}
use Rattle.std.proofs.lemmas.Bool.{and_from, and_parts, eqb-true, not_from_false}
use Rattle.rx_text.specs.Formats.{BeginsWith, Format, IsUnambiguous, Reads, Skips, StandsAt, is_over}
use Rattle.rx_text.specs.Numbers.{natural_text}
use Rattle.rx_text.proofs.Readers.{only_that}
use Rattle.rx_words.specs.Lists.{AreSpaced, ReadsSpaced, ending_word}
use Rattle.rx_words.specs.Words.{counted, each_spaced, in_word, numbers, pairs, word, words}
use Rattle.rx_words.proofs.Spaced.{over_spaced, spaced_once}

-- what neither a space nor a line feed goes on with is over where a word is
ends_there : (goes_on : ℕ → Bool) → goes_on 32 ≡ false → goes_on 10 ≡ false → (left : List ℕ) →
    is_over in_word left ≡ true → is_over goes_on left ≡ true
ends_there goes_on space feed [] o = refl
ends_there goes_on space feed (byte ∷ left) o = by (byte == 32) (byte == 10) refl refl
  where
    by : (s f : Bool) → (byte == 32) ≡ s → (byte == 10) ≡ f → not (goes_on byte) ≡ true
    by true f e g = not_from_false (goes_on byte) (ap goes_on (eqb-true byte 32 e) ∙ space)
    by false true e g = not_from_false (goes_on byte) (ap goes_on (eqb-true byte 10 g) ∙ feed)
    by false false e g = let never : is_over in_word (byte ∷ left) ≡ false = rw (e, g) refl in cc

module _ {A : Type 0} (format : Format A) (space : format.goes_on 32 ≡ false)
    (feed : format.goes_on 10 ≡ false) where
  narrow : {bytes left : List ℕ} {x : A} → BeginsWith (word format) bytes x left →
      BeginsWith format bytes x left
  narrow {bytes} {left} b =
      record {
        in_range = b.in_range;
        text = b.text;
        over =
            ends_there format.goes_on space feed left b.over;
      }

  -- what is unambiguous is so up to the end of a word
  pub word_once : IsUnambiguous format → IsUnambiguous (word format)
  word_once once bytes x y left right b c = once bytes x y left right (narrow b) (narrow c)

  -- what was read is read as a word, where a word ends after it
  pub word_reads : IsUnambiguous format → (bytes : List ℕ) (at : ℕ) (r : Option (A × ℕ)) →
      Reads format bytes at r → Reads (word format) bytes at (ending_word bytes r)
  word_reads once bytes at None h = λ x left b. h x left (narrow b)
  word_reads once bytes at (Some r) h = by (is_over in_word (drop r.1 bytes)) refl
    where
      by : (t : Bool) → is_over in_word (drop r.1 bytes) ≡ t →
          Reads (word format) bytes at (cond t (Some r) None)
      by true e =
          record {
            forward = h.forward;
            inside = h.inside;
            begins =
                record { in_range = h.begins.in_range; text = h.begins.text; over = e };
          }
      by false e =
          λ x left b. let same = only_that once h (narrow b) in
          let over : is_over in_word (drop r.1 bytes) ≡ true = ap (is_over in_word) same.1 ∙
          b.over in cc

module _ {A B : Type 0} (a_text : A → List ℕ) (a_in_range : A → Bool) (b_text : B → List ℕ)
    (b_in_range : B → Bool) where
  abbrev First : Format A
  First = words a_text a_in_range

  abbrev Second : Format B
  Second = words b_text b_in_range

  first_stands : {bytes left : List ℕ} {p : A × B} → BeginsWith (pairs First Second) bytes p left →
      BeginsWith First bytes p.0 (32 ∷ (b_text p.1 ++ left))
  first_stands {bytes} {left} {p} b = record {
    in_range = (and_parts (a_in_range p.0) (b_in_range p.1) b.in_range).0;
    text = b.text ∙ append_assoc (a_text p.0) (32 ∷ b_text p.1) left;
    over = refl;
  }

  second_stands : {bytes left rest : List ℕ} {p : A × B} →
      BeginsWith (pairs First Second) bytes p left → rest ≡ b_text p.1 ++ left →
      BeginsWith Second rest p.1 left
  second_stands {bytes} {left} {rest} {p} b e = record {
    in_range = (and_parts (a_in_range p.0) (b_in_range p.1) b.in_range).1;
    text = e;
    over = b.over;
  }

  behind : {s t : List ℕ} → 32 ∷ s ≡ 32 ∷ t → s ≡ t
  behind {s} {t} e = cc

  -- two such things are unambiguous
  pub pairs_once : IsUnambiguous First → IsUnambiguous Second → IsUnambiguous (pairs First Second)
  pairs_once once other bytes p q left right b c =
      let s = once bytes p.0 q.0 (32 ∷ (b_text p.1 ++ left)) (32 ∷ (b_text q.1 ++ right))
      (first_stands b) (first_stands c) in
      let t = other (b_text p.1 ++ left) p.1 q.1 left right (second_stands b refl)
      (second_stands c (behind s.1)) in
      ((λ i. (s.0 i, t.0 i)), t.1)

  pub pair_stands : {bytes : List ℕ} {at middle next end : ℕ} {x : A} {y : B} →
      StandsAt First bytes at x middle → Skips (32 ∷ []) bytes middle (Some next) →
      StandsAt Second bytes next y end → StandsAt (pairs First Second) bytes at (x, y) end
  pair_stands {bytes} {at} {middle} {next} {end} {x} {y} s k t = record {
    forward = omega (arith, s.forward, k.0, t.forward);
    inside = t.inside;
    begins = record {
      in_range = and_from (a_in_range x) (b_in_range y) s.begins.in_range t.begins.in_range;
      text =
          s.begins.text ∙ ap (λ r. a_text x ++ r) (k.1.1 ∙ ap (λ r. 32 ∷ r) t.begins.text) ∙
          sym (append_assoc (a_text x) (32 ∷ b_text y) (drop end bytes));
      over = t.begins.over;
    };
  }

  pub no_first : (bytes : List ℕ) (at : ℕ) → Reads First bytes at None →
      Reads (pairs First Second) bytes at None
  no_first bytes at never p left b = never p.0 (32 ∷ (b_text p.1 ++ left)) (first_stands b)

  pub no_middle : {bytes : List ℕ} {at middle : ℕ} {x : A} → IsUnambiguous First →
      StandsAt First bytes at x middle → Skips (32 ∷ []) bytes middle None →
      Reads (pairs First Second) bytes at None
  no_middle once s never p left b = never (b_text p.1 ++ left) (only_that once s (first_stands b)).1

  pub no_second : {bytes : List ℕ} {at middle next : ℕ} {x : A} → IsUnambiguous First →
      StandsAt First bytes at x middle → Skips (32 ∷ []) bytes middle (Some next) →
      Reads Second bytes next None → Reads (pairs First Second) bytes at None
  no_second {bytes} {at} {middle} {next} once s k never p left b =
      never p.1 left (second_stands b (behind (sym k.1.1 ∙ (only_that once s (first_stands b)).1)))

module _ {A : Type 0} (text : A → List ℕ) (in_range : A → Bool) where
  abbrev Each : Format A
  Each = words text in_range

  number_stands : {bytes left : List ℕ} {xs : List A} → BeginsWith (counted Each) bytes xs left →
      BeginsWith numbers bytes (length xs) (each_spaced text xs ++ left)
  number_stands {bytes} {left} {xs} b = record {
    in_range = (and_parts (numbers.in_range (length xs)) (list_all in_range xs) b.in_range).0;
    text = b.text ∙ append_assoc (natural_text (length xs)) (each_spaced text xs) left;
    over = over_spaced text xs left b.over;
  }

  things_stand : {bytes left rest : List ℕ} {xs : List A} {n : ℕ} →
      BeginsWith (counted Each) bytes xs left → length xs ≡ n → rest ≡ each_spaced text xs ++ left →
      AreSpaced Each n rest xs left
  things_stand {bytes} {left} {rest} {xs} b n e = record {
    many = n;
    in_range = (and_parts (numbers.in_range (length xs)) (list_all in_range xs) b.in_range).1;
    text = e;
    over = b.over;
  }

  -- a list after its number is unambiguous
  pub counted_once : IsUnambiguous numbers → IsUnambiguous Each → IsUnambiguous (counted Each)
  counted_once once each bytes xs ys left right b c =
      let s = once bytes (length xs) (length ys) (each_spaced text xs ++ left)
      (each_spaced text ys ++ right) (number_stands b) (number_stands c) in
      spaced_once text in_range each (length xs) (each_spaced text xs ++ left) xs ys left right
      (things_stand b refl refl) (things_stand c (sym s.0) s.1)

  pub list_stands : {bytes : List ℕ} {at middle : ℕ} {n : ℕ} (r : List A × ℕ) →
      StandsAt numbers bytes at n middle → ReadsSpaced Each n bytes middle (Some r) →
      StandsAt (counted Each) bytes at r.0 r.1
  list_stands {bytes} {at} {middle} {n} r s l = record {
    forward = omega (arith, s.forward, l.0);
    inside = l.1.0;
    begins = record {
      in_range =
          and_from (numbers.in_range (length r.0)) (list_all in_range r.0)
          (ap numbers.in_range l.1.1.many ∙ s.begins.in_range) l.1.1.in_range;
      text =
          s.begins.text ∙ ap (λ m. natural_text m ++ drop middle bytes) (sym l.1.1.many) ∙
          ap (λ t. natural_text (length r.0) ++ t) l.1.1.text
          ∙ sym (append_assoc (natural_text (length r.0)) (each_spaced text r.0) (drop r.1 bytes));
      over = l.1.1.over;
    };
  }

  pub no_number : (bytes : List ℕ) (at : ℕ) → Reads numbers bytes at None →
      Reads (counted Each) bytes at None
  no_number bytes at never xs left b =
      never (length xs) (each_spaced text xs ++ left) (number_stands b)

  pub no_list : {bytes : List ℕ} {at middle n : ℕ} → IsUnambiguous numbers →
      StandsAt numbers bytes at n middle → ReadsSpaced Each n bytes middle None →
      Reads (counted Each) bytes at None
  no_list once s never xs left b =
      let same = only_that once s (number_stands b) in
      never xs left (things_stand b (sym same.0) same.1)

  -- what was read after the number
  pub reads_list : {bytes : List ℕ} {at middle n : ℕ} → IsUnambiguous numbers →
      StandsAt numbers bytes at n middle → (r : Option (List A × ℕ)) →
      ReadsSpaced Each n bytes middle r → Reads (counted Each) bytes at r
  reads_list once s None h = no_list once s h
  reads_list once s (Some r) h = list_stands r s h
