-- The three kinds of rows, by the word in front.
use Rattle.std.proofs.Common.{◌≡◌, ◌∙◌, ap, refl, sym, ℕ, List, [], ◌∷◌, ◌++◌, drop, arith, Some, None}
use Rattle.std.proofs.lemmas.List.{append_assoc}
use Rattle.rx_poly.specs.declared.body.Body.{Body}
use Rattle.rx_row.specs.Parts.{poly_of}
use Rattle.rx_row.specs.declared.row.Row.{Row}
use Rattle.rx_row.specs.declared.row.Row.TheVariants.{Ge, Eq, Ne}
use Rattle.rx_text.specs.Formats.{BeginsWith, IsUnambiguous, Reads, Skips, StandsAt}
use Rattle.rx_text.specs.Polynomials.{poly_text, polynomials}
use Rattle.rx_text.specs.Rows.{row_format, row_text, row_word}
use Rattle.rx_text.proofs.Readable.{polynomials_unambiguous}

heads : {a b : ℕ} {xs ys : List ℕ} → a ∷ xs ≡ b ∷ ys → a ≡ b
heads e = cc

-- rows with one word, before what follows it, are of one kind
same_kind : (r s : Row) {xs ys : List ℕ} → row_word r ++ xs ≡ row_word s ++ ys
    → (xs ≡ ys) × (poly_of r ≡ poly_of s → r ≡ s)
same_kind (Ge p) (Ge q) {xs} {ys} e = (tails e, ap Ge)
  where
    tails : 103 ∷ 101 ∷ 58 ∷ xs ≡ 103 ∷ 101 ∷ 58 ∷ ys → xs ≡ ys
    tails h = cc
same_kind (Ge p) (Eq q) e = let h = heads e in absurd (omega (arith, h))
same_kind (Ge p) (Ne q) e = let h = heads e in absurd (omega (arith, h))
same_kind (Eq p) (Ge q) e = let h = heads e in absurd (omega (arith, h))
same_kind (Eq p) (Eq q) {xs} {ys} e = (tails e, ap Eq)
  where
    tails : 101 ∷ 113 ∷ 58 ∷ xs ≡ 101 ∷ 113 ∷ 58 ∷ ys → xs ≡ ys
    tails h = cc
same_kind (Eq p) (Ne q) e = let h = heads e in absurd (omega (arith, h))
same_kind (Ne p) (Ge q) e = let h = heads e in absurd (omega (arith, h))
same_kind (Ne p) (Eq q) e = let h = heads e in absurd (omega (arith, h))
same_kind (Ne p) (Ne q) {xs} {ys} e = (tails e, ap Ne)
  where
    tails : 110 ∷ 101 ∷ 58 ∷ xs ≡ 110 ∷ 101 ∷ 58 ∷ ys → xs ≡ ys
    tails h = cc

row_whole : (r : Row) (left : List ℕ)
    → row_text r ++ left ≡ row_word r ++ (poly_text (poly_of r) ++ left)
row_whole r left = append_assoc (row_word r) (poly_text (poly_of r)) left

row_poly : {bytes left : List ℕ} {r : Row} (rest : List ℕ) → BeginsWith row_format bytes r left
    → rest ≡ poly_text (poly_of r) ++ left → BeginsWith polynomials rest (poly_of r) left
row_poly {bytes} {left} {r} rest b e = record { in_range = b.in_range; text = e; over = b.over }

-- bytes begin with the text of at most one row
pub rows_unambiguous : IsUnambiguous row_format
rows_unambiguous bytes r s left right b c =
    let kind = same_kind r s (sym (b.text ∙ row_whole r left) ∙ (c.text ∙ row_whole s right)) in
    let poly = polynomials_unambiguous (poly_text (poly_of r) ++ left) (poly_of r) (poly_of s) left
    right
    (row_poly (poly_text (poly_of r) ++ left) b refl)
    (row_poly (poly_text (poly_of r) ++ left) c kind.0) in
    (kind.1 poly.0, poly.1)

-- ---- what reading after a word says

pub row_stands : (bytes : List ℕ) (at : ℕ) {after end : ℕ} (r : Row)
    → Skips (row_word r) bytes at (Some after) → StandsAt polynomials bytes after (poly_of r) end
    → StandsAt row_format bytes at r end
row_stands bytes at {after} {end} r k s = record {
  forward = omega (arith, k.0, s.forward);
  inside = s.inside;
  begins = record {
    in_range = s.begins.in_range;
    text = k.1.1 ∙ ap (λ b. row_word r ++ b) s.begins.text ∙ sym (row_whole r (drop end bytes));
    over = s.begins.over;
  };
}

pub no_row_after : (bytes : List ℕ) (at : ℕ) {after : ℕ} (kind : Body → Row)
    → ((p : Body) → Skips (row_word (kind p)) bytes at (Some after))
    → Reads polynomials bytes after None → Reads row_format bytes at None
no_row_after bytes at {after} kind k never = λ r left b.
    let word = k (poly_of r) in
    let same = same_kind (kind (poly_of r)) r (sym word.1.1 ∙ (b.text ∙ row_whole r left)) in
    never (poly_of r) left (row_poly (drop after bytes) b same.0)

pub no_row : (bytes : List ℕ) (at : ℕ) → Skips (103 ∷ 101 ∷ 58 ∷ []) bytes at None
    → Skips (101 ∷ 113 ∷ 58 ∷ []) bytes at None → Skips (110 ∷ 101 ∷ 58 ∷ []) bytes at None
    → Reads row_format bytes at None
no_row bytes at g e n (Ge p) left b = g (poly_text p ++ left) (b.text ∙ row_whole (Ge p) left)
no_row bytes at g e n (Eq p) left b = e (poly_text p ++ left) (b.text ∙ row_whole (Eq p) left)
no_row bytes at g e n (Ne p) left b = n (poly_text p ++ left) (b.text ∙ row_whole (Ne p) left)
