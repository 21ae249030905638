-- Lists of things, each after a space: one more thing, and that only one list of n is at a place.
use Rattle.std.proofs.Common.{◌≡◌, ◌∙◌, ap, refl, sym, ℕ, ◌+◌, ◌<◌, ◌≤◌, Bool, true, ◌&&◌, List, [], ◌∷◌, ◌++◌, length, drop, Some, None, arith, append_assoc, length-append}
use Rattle.std.specs.List.{list_all}
use Rattle.std.proofs.lemmas.Bool.{and_from, and_parts}
use Rattle.std.proofs.lemmas.List.{append-nil}
use Rattle.std.proofs.lemmas.List.Concat.{flat_map-append}
use Rattle.std.proofs.lemmas.List.Folds.{list_all-append}
use Rattle.rx_text.specs.Formats.{BeginsWith, Format, IsUnambiguous, Reads, Skips, StandsAt, is_over}
use Rattle.rx_words.specs.Lists.{AreSpaced, ReadsSpaced}
use Rattle.rx_words.specs.Words.{each_spaced, in_word, words}

-- a word ends where a list of spaced things begins, or where it ends after an empty one
pub over_spaced : {A : Type 0} (text : A → List ℕ) (xs : List A) (left : List ℕ) →
    is_over in_word left ≡ true → is_over in_word (each_spaced text xs ++ left) ≡ true
over_spaced text [] left over = over
over_spaced text (x ∷ xs) left over = refl

-- what a first list leaves of a longer one
pub record Longer {A : Type 0} (text : A → List ℕ) (in_range : A → Bool) (xs ys : List A)
    (rest left : List ℕ) : Type 0 where
  pub more : List A
  pub whole : ys ≡ xs ++ more
  pub readable : list_all in_range more ≡ true
  pub stands : rest ≡ each_spaced text more ++ left

module _ {A : Type 0} (text : A → List ℕ) (in_range : A → Bool)
    (once : IsUnambiguous (words text in_range)) where
  abbrev Each : Format A
  Each = words text in_range

  after_space : (x : A) (xs : List A) (s rest : List ℕ) → 32 ∷ s ≡ each_spaced text (x ∷ xs) ++
      rest → s ≡ text x ++ (each_spaced text xs ++ rest)
  after_space x xs s rest e =
      let tails : s ≡ (text x ++ each_spaced text xs) ++ rest = cc in
      tails ∙ append_assoc (text x) (each_spaced text xs) rest

  -- the same bytes begin with a list, and with one that is at least as long
  pub begins_longer : (xs ys : List A) (rest left : List ℕ) → list_all in_range xs ≡ true →
      list_all in_range ys ≡ true →
      is_over in_word rest ≡ true → is_over in_word left ≡ true → length xs ≤ length ys →
      each_spaced text xs ++ rest ≡ each_spaced text ys ++ left →
      Longer text in_range xs ys rest left
  begins_longer [] ys rest left p q o l le e =
      record { more = ys; whole = refl; readable = q; stands = e }
  begins_longer (x ∷ xs) [] rest left p q o l le e = absurd (omega arith)
  begins_longer (x ∷ xs) (y ∷ ys) rest left p q o l le e =
      let bytes = text x ++ (each_spaced text xs ++ rest) in
      let other : bytes ≡ text y ++ (each_spaced text ys ++ left) =
      after_space y ys bytes left (sym (ap (λ s. 32 ∷ s)
      (append_assoc (text x) (each_spaced text xs) rest)) ∙ e) in
      let here : BeginsWith Each bytes x (each_spaced text xs ++ rest) =
      record {
        in_range = (and_parts (in_range x) (list_all in_range xs) p).0;
        text = refl;
        over =
            over_spaced text xs rest o;
      } in
      let there : BeginsWith Each bytes y (each_spaced text ys ++ left) =
      record {
        in_range = (and_parts (in_range y) (list_all in_range ys) q).0;
        text = other;
        over =
            over_spaced text ys left l;
      } in
      let same = once bytes x y (each_spaced text xs ++ rest) (each_spaced text ys ++ left) here
      there in
      let inner = begins_longer xs ys rest left (and_parts (in_range x) (list_all in_range xs) p).1
      (and_parts (in_range y) (list_all in_range ys) q).1 o l (omega arith) same.1 in
      record { more = inner.more; whole = cc; readable = inner.readable; stands = inner.stands }

  -- no bytes begin with two lists of the same length
  pub spaced_once : (n : ℕ) (bytes : List ℕ) (xs ys : List A) (left right : List ℕ) →
      AreSpaced Each n bytes xs left → AreSpaced Each n bytes ys right → (xs ≡ ys) × (left ≡ right)
  spaced_once n bytes xs ys left right a b =
      let le : length xs ≤ length ys = omega (arith, a.many, b.many) in
      let l = begins_longer xs ys left right a.in_range b.in_range a.over b.over le
      (sym a.text ∙ b.text) in
      let long : length ys ≡ length xs + length l.more = ap length l.whole ∙
      length-append xs l.more in
      at l.more l.whole l.stands (omega (arith, a.many, b.many, long))
    where
      at : (more : List A) → ys ≡ xs ++ more → left ≡ each_spaced text more ++ right → length more ≡
          0 → (xs ≡ ys) × (left ≡ right)
      at [] w t z = (sym (append-nil xs) ∙ sym w, t)
      at (m ∷ ms) w t z = absurd (omega arith)

-- the list that was read so far, with the place after it
pub record SoFar {A : Type 0} (each : Format A) (count : ℕ) (bytes : List ℕ) (from : ℕ)
    (things : List A) (at : ℕ) : Type 0 where
  pub forward : from ≤ at
  pub inside : at ≤ length bytes
  pub stands : AreSpaced each count (drop from bytes) things (drop at bytes)

module _ {A : Type 0} (text : A → List ℕ) (in_range : A → Bool) where
  abbrev Every : Format A
  Every = words text in_range

  pub none_so_far : {bytes : List ℕ} {from : ℕ} → from ≤ length bytes →
      is_over in_word (drop from bytes) ≡ true → SoFar Every 0 bytes from [] from
  none_so_far inside over = record {
    forward = omega arith;
    inside = inside;
    stands = record { many = refl; in_range = refl; text = refl; over = over };
  }

  pub one_more : {n : ℕ} {bytes : List ℕ} {from at next end : ℕ} {things : List A} {thing : A} →
      SoFar Every n bytes from things at → Skips (32 ∷ []) bytes at (Some next) →
      StandsAt Every bytes next thing end →
      SoFar Every (n + 1) bytes from (things ++ thing ∷ []) end
  one_more {n} {bytes} {from} {at} {next} {end} {things} {thing} so space found = record {
    forward = omega (arith, so.forward, space.0, found.forward);
    inside = found.inside;
    stands = record {
      many = length-append things (thing ∷ []) ∙ ap (λ m. m + 1) so.stands.many;
      in_range =
          list_all-append in_range things (thing ∷ []) ∙
          and_from (list_all in_range things) (in_range thing && true) so.stands.in_range
          (and_from (in_range thing) true found.begins.in_range refl);
      text =
          so.stands.text ∙ ap (λ s. each_spaced text things ++ s)
          (space.1.1 ∙ ap (λ s. 32 ∷ s) found.begins.text)
          ∙ sym (append_assoc (each_spaced text things) (32 ∷ text thing) (drop end bytes))
          ∙ ap (λ s. s ++ drop end bytes) (ap (λ s. each_spaced text things ++ s)
          (sym (append-nil (32 ∷ text thing))) ∙
          sym (flat_map-append (λ x. 32 ∷ text x) things (thing ∷ [])));
      over = found.begins.over;
    };
  }

  -- where n things are there from the first place on, one more is here after a space
  more_stands : {n count : ℕ} {bytes : List ℕ} {from at : ℕ} {things : List A} →
      IsUnambiguous Every → SoFar Every n bytes from things at → n < count →
      (all : List A) (left : List ℕ) → AreSpaced Every count (drop from bytes) all left →
      (thing : A) × (rest : List ℕ) × (drop at bytes ≡ 32 ∷ (text thing ++ rest)) ×
      (in_range thing ≡ true) × (is_over in_word rest ≡ true)
  more_stands {n} {count} {bytes} {from} {at} {things} once so less all left a =
      let le : length things ≤ length all = omega (arith, so.stands.many, a.many) in
      let l = begins_longer text in_range once things all (drop at bytes) left so.stands.in_range
      a.in_range so.stands.over a.over le (sym so.stands.text ∙ a.text) in
      let long : length all ≡ length things + length l.more = ap length l.whole ∙
      length-append things l.more in
      case l.more l.readable l.stands (omega (arith, so.stands.many, a.many, long))
    where
      case : (more : List A) → list_all in_range more ≡ true → drop at bytes ≡
          each_spaced text more ++ left → 0 < length more →
          (thing : A) × (rest : List ℕ) × (drop at bytes ≡ 32 ∷ (text thing ++ rest)) ×
          (in_range thing ≡ true) × (is_over in_word rest ≡ true)
      case [] r t z = absurd (omega arith)
      case (m ∷ ms) r t z = (
        m,
        each_spaced text ms ++ left,
        t ∙
            ap (λ s. 32 ∷ s) (append_assoc (text m) (each_spaced text ms) left),
        (and_parts (in_range m) (list_all in_range ms) r).0,
        over_spaced text ms left a.over,
      )

  pub no_space : {n count : ℕ} {bytes : List ℕ} {from at : ℕ} {things : List A} →
      IsUnambiguous Every → SoFar Every n bytes from things at → n < count →
      Skips (32 ∷ []) bytes at None → ReadsSpaced Every count bytes from None
  no_space once so less none all left a =
      let m = more_stands once so less all left a in none (text m.0 ++ m.1) m.2

  pub no_thing : {n count : ℕ} {bytes : List ℕ} {from at next : ℕ} {things : List A} →
      IsUnambiguous Every → SoFar Every n bytes from things at → n < count →
      Skips (32 ∷ []) bytes at (Some next) → Reads Every bytes next None →
      ReadsSpaced Every count bytes from None
  no_thing {n} {count} {bytes} {from} {at} {next} once so less space none all left a =
      let m = more_stands once so less all left a in
      let same : drop next bytes ≡ text m.0 ++ m.1 = let e = sym space.1.1 ∙ m.2 in cc in
      none m.0 m.1 (record { in_range = m.3; text = same; over = m.4 })
