-- A sum that is being formed: what is there so far, and what the parts that are left still decide.
use Rattle.std.proofs.Common.{◌≡◌, ◌∙◌, ap, subst, Bool, true, false, ◌&&◌, sym, ℕ, suc, ◌+◌, ◌<◌, List, ◌∷◌, length, drop, get_or, add-one, Option, slice_get, ℤ, pos}
use Rattle.std.proofs.Math.Seq.{drop-cons}
use Rattle.std.proofs.lemmas.Bool.{and_left}
use Rattle.rx_poly.specs.declared.body.Body.{Body}
use Rattle.rx_row.specs.Parts.{multiple_within, sum_from, sum_within, with_multiple}
use Rattle.rx_row.specs.declared.row.Row.{Row}

-- the sum so far, the parts that are left, the whole sum, and whether all on the way to it keeps
-- the limits
pub record Summing (sum : Body) (rows : List Row) (rest : List (ℕ × ℤ)) (whole : Body)
    (within : Bool) : Type 0 where
  pub made : sum_from sum rows rest ≡ whole
  pub limits : sum_within sum rows rest ≡ within

module _ {sum whole : Body} {within : Bool} (rows : List Row) (ps : List (ℕ × ℤ)) (i : ℕ)
    (h : i < length ps) (s : Summing sum rows (drop i ps) whole within) (row : Option Row)
    (is : slice_get rows (get_or ps i (0, pos 0)).0 ≡ row) where
  abbrev by : ℤ
  by = (get_or ps i (0, pos 0)).1

  opened : Summing sum rows (get_or ps i (0, pos 0) ∷ drop (suc i) ps) whole within
  opened = subst (λ rest. Summing sum rows rest whole within) (drop-cons ps i (0, pos 0) h) s

  made_is : sum_from (with_multiple sum row by) rows (drop (suc i) ps) ≡ whole
  made_is =
      ap (λ o. sum_from (with_multiple sum o by) rows (drop (suc i) ps)) (sym is) ∙ opened.made

  limits_are : (multiple_within sum row by &&
      sum_within (with_multiple sum row by) rows (drop (suc i) ps)) ≡ within
  limits_are =
      ap (λ o. multiple_within sum o by && sum_within (with_multiple sum o by) rows
      (drop (suc i) ps)) (sym is) ∙ opened.limits

  -- a multiple beyond the limits is one of the whole sum
  pub no_multiple : multiple_within sum row by ≡ false → within ≡ false
  no_multiple f =
      sym limits_are ∙ and_left (multiple_within sum row by)
      (sum_within (with_multiple sum row by) rows (drop (suc i) ps)) f

  -- one within them leaves the rest to decide
  pub after_multiple : {next : Body} → next ≡ with_multiple sum row by →
      multiple_within sum row by ≡ true → Summing next rows (drop (i + 1) ps) whole within
  after_multiple {next} e f =
      subst (λ n. Summing next rows (drop n ps) whole within) (sym (add-one i))
      (subst (λ b. Summing b rows (drop (suc i) ps) whole within) (sym e) (record {
        made = made_is;
        limits =
            ap (λ b. b && sum_within (with_multiple sum row by) rows (drop (suc i) ps)) (sym f) ∙
            limits_are;
      }))
