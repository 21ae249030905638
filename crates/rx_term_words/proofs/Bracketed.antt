-- Things between two fixed words: no bytes begin with two of them.
use Rattle.std.proofs.Common.{◌≡◌, ◌∙◌, sym, ℕ, true, List, ◌++◌, Some, None, append_assoc}
use Rattle.std.proofs.lemmas.List.{append_cancel_left}
use Rattle.rx_text.specs.Formats.{BeginsWith, Format, IsUnambiguous, Reads, Skips, StandsAt, is_over}
use Rattle.rx_text.proofs.Readers.{only_that}
use Rattle.rx_term_words.specs.Layers.{bracketed}

module _ {A : Type 0} (before : List ℕ) (format : Format A) (behind : List ℕ)
    (stops : (left : List ℕ) → is_over format.goes_on (behind ++ left) ≡ true) where
  whole_text : {bytes left : List ℕ} {x : A} →
      BeginsWith (bracketed before format behind) bytes x left
      → bytes ≡ before ++ (format.text x ++ (behind ++ left))
  whole_text {bytes} {left} {x} b =
      b.text ∙ append_assoc before (format.text x ++ behind) left
      ∙ (λ i. before ++ append_assoc (format.text x) behind left i)

  -- the thing itself comes after the first word
  pub between : {bytes rest left : List ℕ} {x : A} →
      BeginsWith (bracketed before format behind) bytes x left
      → bytes ≡ before ++ rest → BeginsWith format rest x (behind ++ left)
  between {bytes} {rest} {left} {x} b e = record {
    in_range = b.in_range;
    text =
        append_cancel_left before rest (format.text x ++ (behind ++ left)) (sym e ∙ whole_text b);
    over = stops left;
  }

  pub bracketed_once : IsUnambiguous format → IsUnambiguous (bracketed before format behind)
  bracketed_once one bytes x y left right b c =
      let rest = format.text x ++ (behind ++ left) in
      let same = one rest x y (behind ++ left) (behind ++ right)
      (between b (whole_text b)) (between c (whole_text b)) in
      (same.0, append_cancel_left behind left right same.1)

  pub no_after : (bytes : List ℕ) (at : ℕ) {inside middle : ℕ} {x : A} → IsUnambiguous format
      → Skips before bytes at (Some inside) → StandsAt format bytes inside x middle
      → Skips behind bytes middle None → Reads (bracketed before format behind) bytes at None
  no_after bytes at one k s never y left b = never left (only_that one s (between b k.1.1)).1
