-- Rows that are being rewritten one by one: what is there, and what the rows that are left still
-- decide.
use Rattle.std.proofs.Common.{◌≡◌, ◌∙◌, ap, subst, true, false, ◌&&◌, refl, sym, ℕ, suc, ◌+◌, ◌<◌, ◌≤◌, List, [], ◌∷◌, ◌++◌, length, drop, get_or, drop_of_length-le, append_assoc, add-one}
use Rattle.std.proofs.Math.Seq.{drop-cons}
use Rattle.std.proofs.lemmas.Bool.{and_left}
use Rattle.std.proofs.lemmas.List.{append-nil}
use Rattle.rx_poly.specs.declared.body.Body.{Body}
use Rattle.rx_row.specs.Substitution.{subst_row, subst_rows, row_within, rows_within}
use Rattle.rx_row.specs.declared.row.Row.{Row}

-- the rows that are there already, and those that are left
pub record Substituting (ws : List (ℕ × Body)) (done rest whole : List Row) : Type 0 where
  pub made : done ++ subst_rows ws rest ≡ subst_rows ws whole
  pub limits : rows_within ws rest ≡ rows_within ws whole

pub begin : (ws : List (ℕ × Body)) (rows : List Row) → Substituting ws [] (drop 0 rows) rows
begin ws rows = record { made = refl; limits = refl }

module _ {ws : List (ℕ × Body)} {done : List Row} (rows : List Row) (i : ℕ) {row : Row}
    (h : i < length rows) (is : row ≡ get_or rows i row)
    (s : Substituting ws done (drop i rows) rows) where
  opened : Substituting ws done (row ∷ drop (suc i) rows) rows
  opened =
      subst (λ rest. Substituting ws done rest rows)
      (drop-cons rows i row h ∙ ap (λ r. r ∷ drop (suc i) rows) (sym is)) s

  -- a row beyond the limits is one of all
  pub no_row : row_within ws row ≡ false → rows_within ws rows ≡ false
  no_row f = sym opened.limits ∙ and_left (row_within ws row) (rows_within ws (drop (suc i) rows)) f

  -- one within them leaves it to the rest
  pub after_row : {next : List Row} → next ≡ done ++ subst_row ws row ∷ [] → row_within ws row ≡
      true →
      Substituting ws next (drop (i + 1) rows) rows
  after_row {next} e f =
      subst (λ n. Substituting ws next (drop n rows) rows) (sym (add-one i))
      (subst (λ rs. Substituting ws rs (drop (suc i) rows) rows) (sym e) (record {
        made =
            append_assoc done (subst_row ws row ∷ []) (subst_rows ws (drop (suc i) rows)) ∙
            opened.made;
        limits = ap (λ b. b && rows_within ws (drop (suc i) rows)) (sym f) ∙ opened.limits;
      }))

-- nothing is left
pub finished : (ws : List (ℕ × Body)) (done rows : List Row) (i : ℕ) → length rows ≤ i →
    Substituting ws done (drop i rows) rows → (done ≡ subst_rows ws rows) ×
    (rows_within ws rows ≡ true)
finished ws done rows i h s =
    let all = subst (λ rest. Substituting ws done rest rows) (drop_of_length-le rows h) s in
    (sym (append-nil done) ∙ all.made, sym all.limits)
