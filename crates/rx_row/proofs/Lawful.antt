-- Parts that are tested one by one: the next one decides, or leaves it to the rest.
use Rattle.std.proofs.Common.{◌≡◌, ◌∙◌, ap, Bool, true, false, ◌&&◌, nat_le, sym, ℕ, suc, ◌+◌, ◌<◌, ◌≤◌, List, length, drop, get_or, add-one, Option, slice_get, ℤ, pos, arith}
use Rattle.std.proofs.Math.Seq.{drop-cons}
use Rattle.std.proofs.lemmas.Bool.{and_left, and_right}
use Rattle.rx_row.specs.Parts.{is_taken, lawful_from}
use Rattle.rx_row.specs.declared.row.Row.{Row}

module _ {whole : Bool} (from : ℕ) (rows : List Row) (ps : List (ℕ × ℤ)) (i : ℕ) (h : i < length ps)
    (s : lawful_from from rows (drop i ps) ≡ whole) (row : Option Row)
    (is : slice_get rows (get_or ps i (0, pos 0)).0 ≡ row) where
  abbrev at : ℕ
  at = (get_or ps i (0, pos 0)).0

  abbrev by : ℤ
  by = (get_or ps i (0, pos 0)).1

  opened : (nat_le from at && (is_taken row by && lawful_from (at + 1) rows (drop (suc i) ps))) ≡
      whole
  opened =
      ap (λ o. nat_le from at && (is_taken o by && lawful_from (at + 1) rows (drop (suc i) ps)))
      (sym is)
      ∙ ap (lawful_from from rows) (sym (drop-cons ps i (0, pos 0) h)) ∙ s

  -- a part that its row does not take makes all unlawful
  pub not_taken : is_taken row by ≡ false → false ≡ whole
  not_taken f =
      sym (and_right (nat_le from at) (is_taken row by &&
      lawful_from (at + 1) rows (drop (suc i) ps))
      (and_left (is_taken row by) (lawful_from (at + 1) rows (drop (suc i) ps)) f))
      ∙ opened

  -- a part that is lawful leaves it to the rest
  pub after_lawful : from ≤ at → is_taken row by ≡ true →
      lawful_from (at + 1) rows (drop (i + 1) ps) ≡ whole
  after_lawful above f =
      let e : nat_le from at ≡ true = grind arith in
      ap (λ n. lawful_from (at + 1) rows (drop n ps)) (add-one i)
      ∙ (λ j. sym e j && (sym f j && lawful_from (at + 1) rows (drop (suc i) ps))) ∙ opened
