-- Things that are each after a space, up to the end of a line.
use Rattle.std.proofs.Common.{◌≡◌, ◌∙◌, refl, sym, ap, ℕ, ◌<◌, ◌≤◌, Bool, true, Some, None, List, [], ◌∷◌, ◌++◌, length, drop, append_assoc, length-drop, arith}
use Rattle.std.proofs.lemmas.List.{append-nil, drop_all}
use Rattle.std.proofs.lemmas.Grind.{flat_map-append}
use Rattle.std.specs.List.{list_all}
use Rattle.rx_plain.proofs.Lists.{all_pushed}
use Rattle.rx_plain.proofs.Booleans.{and_first, and_second}
use Rattle.rx_text.specs.Formats.{BeginsWith, Format, IsUnambiguous, Reads, Skips, StandsAt, is_over}
use Rattle.rx_words.specs.Words.{each_spaced, in_word, words}
use Rattle.rx_logtext.specs.Lines.{IsText, ReadsAll, ReadsEach}

behind : {x y : ℕ} {s t : List ℕ} → x ∷ s ≡ y ∷ t → s ≡ t
behind e = cc

module _ {A : Type 0} (text : A → List ℕ) (in_range : A → Bool) where
  abbrev Each : Format A
  Each = words text in_range

  over_each : (xs : List A) (rest : List ℕ) → is_over in_word rest ≡ true →
      is_over in_word (each_spaced text xs ++ rest) ≡ true
  over_each [] rest o = o
  over_each (x ∷ xs) rest o = refl

  pub over_end : (xs : List A) → is_over in_word (each_spaced text xs) ≡ true
  over_end [] = refl
  over_end (x ∷ xs) = refl

  -- things in range and what is after them
  pub record Splits (rest : List ℕ) : Type 0 where
    pub others : List A
    pub all : list_all in_range others ≡ true
    pub is : rest ≡ each_spaced text others

  -- a list that goes on after others
  pub splits : IsUnambiguous Each → (xs ys : List A) (rest : List ℕ) → list_all in_range xs ≡ true →
      list_all in_range ys ≡ true → is_over in_word rest ≡ true → each_spaced text xs ++ rest ≡
      each_spaced text ys → Splits rest
  splits once [] ys rest r s o e = record { others = ys; all = s; is = e }
  splits once (x ∷ xs) [] rest r s o e = absurd (cc)
  splits once (x ∷ xs) (y ∷ ys) rest r s o e =
      let f : (text x ++ each_spaced text xs) ++ rest ≡ text y ++ each_spaced text ys = behind e in
      let b : BeginsWith Each ((text x ++ each_spaced text xs) ++ rest) x
      (each_spaced text xs ++ rest) = record {
        in_range = and_first (in_range x) (list_all in_range xs) r;
        text = append_assoc (text x) (each_spaced text xs) rest;
        over = over_each xs rest o;
      } in
      let c : BeginsWith Each ((text x ++ each_spaced text xs) ++ rest) y (each_spaced text ys) =
      record {
        in_range = and_first (in_range y) (list_all in_range ys) s;
        text = f;
        over = over_end ys;
      } in
      let same = once ((text x ++ each_spaced text xs) ++ rest) x y (each_spaced text xs ++ rest)
      (each_spaced text ys) b c in
      splits once xs ys rest (and_second (in_range x) (list_all in_range xs) r)
      (and_second (in_range y) (list_all in_range ys) s) o same.1

  -- a list is given by its text
  pub each_once : IsUnambiguous Each → (xs ys : List A) → list_all in_range xs ≡ true →
      list_all in_range ys ≡ true → each_spaced text xs ≡ each_spaced text ys → xs ≡ ys
  each_once once [] [] r s e = refl
  each_once once [] (y ∷ ys) r s e = absurd (cc)
  each_once once (x ∷ xs) [] r s e = absurd (cc)
  each_once once (x ∷ xs) (y ∷ ys) r s e =
      let f : text x ++ each_spaced text xs ≡ text y ++ each_spaced text ys = behind e in
      let b : BeginsWith Each (text x ++ each_spaced text xs) x (each_spaced text xs) = record {
        in_range = and_first (in_range x) (list_all in_range xs) r;
        text = refl;
        over = over_end xs;
      } in
      let c : BeginsWith Each (text x ++ each_spaced text xs) y (each_spaced text ys) = record {
        in_range = and_first (in_range y) (list_all in_range ys) s;
        text = f;
        over = over_end ys;
      } in
      let same = once (text x ++ each_spaced text xs) x y (each_spaced text xs)
      (each_spaced text ys) b c in
      let rest = each_once once xs ys (and_second (in_range x) (list_all in_range xs) r)
      (and_second (in_range y) (list_all in_range ys) s) same.1 in
      λ i. same.0 i ∷ rest i

  -- the things read so far, from one place up to another
  pub record EachSoFar (bytes : List ℕ) (from at : ℕ) (things : List A) : Type 0 where
    pub is : drop from bytes ≡ each_spaced text things ++ drop at bytes
    pub all : list_all in_range things ≡ true
    pub over : is_over in_word (drop at bytes) ≡ true
    pub inside : at ≤ length bytes

  pub none_so_far : (bytes : List ℕ) (from : ℕ) → from ≤ length bytes →
      is_over in_word (drop from bytes) ≡ true → EachSoFar bytes from from []
  none_so_far bytes from h o = record { is = refl; all = refl; over = o; inside = h }

  each_spaced-push : (xs : List A) (x : A) → each_spaced text (xs ++ x ∷ []) ≡
      each_spaced text xs ++ 32 ∷ text x
  each_spaced-push xs x =
      flat_map-append (λ (y : A). 32 ∷ text y) xs (x ∷ []) ∙
      ap (λ (r : List ℕ). each_spaced text xs ++ 32 ∷ r) (append-nil (text x))

  pub one_more : {bytes : List ℕ} {from at next end : ℕ} {things : List A} {x : A} →
      EachSoFar bytes from at things → Skips (32 ∷ []) bytes at (Some next) →
      StandsAt Each bytes next x end → EachSoFar bytes from end (things ++ x ∷ [])
  one_more {bytes} {from} {at} {next} {end} {things} {x} h k s = record {
    is =
        h.is
        ∙ ap (λ (r : List ℕ). each_spaced text things ++ r)
        (k.1.1 ∙ ap (λ (r : List ℕ). 32 ∷ r) s.begins.text)
        ∙ sym (append_assoc (each_spaced text things) (32 ∷ text x) (drop end bytes))
        ∙ ap (λ (r : List ℕ). r ++ drop end bytes) (sym (each_spaced-push things x));
    all = all_pushed in_range things x h.all s.begins.in_range;
    over = s.begins.over;
    inside = s.inside;
  }

  pub all_read : {bytes : List ℕ} {from at : ℕ} {things : List A} → EachSoFar bytes from at things →
      length bytes ≤ at → ReadsEach Each (drop from bytes) (Some things)
  all_read {bytes} {from} {at} {things} h e =
      let f : drop at bytes ≡ [] = drop_all at bytes e in (
        h.all,
        h.is ∙ ap (λ (r : List ℕ). each_spaced text things ++ r) f ∙
            append-nil (each_spaced text things),
      )

  not_empty : (at : ℕ) (bytes : List ℕ) → at < length bytes → drop at bytes ≡ [] → ⊥
  not_empty at bytes h e =
      let f : length (drop at bytes) ≡ 0 = ap length e in
      absurd (omega (arith, length-drop at bytes))

  left_over : IsUnambiguous Each → {bytes : List ℕ} {from at : ℕ} {things : List A} →
      EachSoFar bytes from at things → (ys : List A) → list_all in_range ys ≡ true →
      drop from bytes ≡ each_spaced text ys → Splits (drop at bytes)
  left_over once {bytes} {from} {at} {things} h ys r e =
      splits once things ys (drop at bytes) h.all r h.over (sym h.is ∙ e)

  pub no_space : IsUnambiguous Each → {bytes : List ℕ} {from at : ℕ} {things : List A} →
      EachSoFar bytes from at things → at < length bytes → Skips (32 ∷ []) bytes at None →
      ReadsEach Each (drop from bytes) None
  no_space once {bytes} {from} {at} {things} h lt none ys r e = by (left_over once h ys r e)
    where
      by : Splits (drop at bytes) → ⊥
      by s =
          elim s.others as (λ (zs : List A). drop at bytes ≡ each_spaced text zs → ⊥) [
            | [] ↦ λ f. not_empty at bytes lt f
            | ◌∷◌ z zs ↦ λ f.
                none (text z ++ each_spaced text zs) f
          ] s.is

  pub no_thing : IsUnambiguous Each → {bytes : List ℕ} {from at next : ℕ} {things : List A} →
      EachSoFar bytes from at things → at < length bytes → Skips (32 ∷ []) bytes at (Some next) →
      Reads Each bytes next None → ReadsEach Each (drop from bytes) None
  no_thing once {bytes} {from} {at} {next} {things} h lt k none ys r e =
      by (left_over once h ys r e)
    where
      at_one : (zs : List A) → list_all in_range zs ≡ true → drop at bytes ≡ each_spaced text zs → ⊥
      at_one [] s f = not_empty at bytes lt f
      at_one (z ∷ zs) s f = none z (each_spaced text zs) (record {
        in_range = and_first (in_range z) (list_all in_range zs) s;
        text = behind (sym k.1.1 ∙ f);
        over = over_end zs;
      })

      by : Splits (drop at bytes) → ⊥
      by s = at_one s.others s.all s.is

  -- ---- a thing up to the end

  whole_begins : {bytes : List ℕ} {x : A} → IsText (words text in_range) bytes x →
      BeginsWith (words text in_range) bytes x []
  whole_begins {bytes} {x} t =
      record { in_range = t.in_range; text = t.text ∙ sym (append-nil (text x)); over = refl }

  pub rest_is : {bytes : List ℕ} {at end : ℕ} {x : A} →
      StandsAt (words text in_range) bytes at x end → end ≡ length bytes →
      ReadsAll (words text in_range) (drop at bytes) (Some x)
  rest_is {bytes} {at} {end} {x} s e = record {
    in_range = s.begins.in_range;
    text =
        s.begins.text ∙ ap (λ (r : List ℕ). text x ++ r) (drop_all end bytes (omega arith)) ∙
        append-nil (text x);
  }

  pub rest_longer : {bytes : List ℕ} {at end : ℕ} {x : A} → IsUnambiguous (words text in_range) →
      StandsAt (words text in_range) bytes at x end → (end ≡ length bytes → ⊥) →
      ReadsAll (words text in_range) (drop at bytes) None
  rest_longer {bytes} {at} {end} {x} once s longer y t =
      let same = once (drop at bytes) x y (drop end bytes) [] s.begins (whole_begins t) in
      let f : length (drop end bytes) ≡ 0 = ap length same.1 in
      let inside : end ≤ length bytes = s.inside in
      longer (omega (arith, length-drop end bytes))

  pub rest_none : (bytes : List ℕ) (at : ℕ) → Reads (words text in_range) bytes at None →
      ReadsAll (words text in_range) (drop at bytes) None
  rest_none bytes at never y t = never y [] (whole_begins t)
