-- Worked cases: a set that is coverable, one that isn't, and the rows by which paths are split.
use Rattle.std.proofs.Common.{◌≡◌, ◌∙◌, ap, sym, refl, cond, arith, ℕ, Bool, true, false, not, ◌||◌, Some, None, List, [], ◌∷◌, map, ℤ, pos}
use Rattle.std.proofs.lemmas.List.Elements.{All-head, All-nil}
use Rattle.std.specs.Option.{option_or}
use Rattle.rx_poly.specs.Constants.{variable}
use Rattle.rx_poly.specs.Value.{value}
use Rattle.rx_poly.proofs.Constants.{value-variable}
use Rattle.rx_row.specs.Negation.{negation}
use Rattle.rx_cert.specs.Conditions.{is_evident, is_plain_row}
use Rattle.rx_cert.specs.Showing.{all_shown, negation_said}
use Rattle.rx_row.proofs.Membership.{contains-stands}
use Rattle.rx_row.specs.Holds.{RowHolds}
use Rattle.rx_row.specs.Membership.{stands_among}
use Rattle.rx_row.specs.declared.row.Row.{Row}
use Rattle.rx_row.specs.declared.row.Row.TheVariants.{Eq, Ne}
use Rattle.rx_cert.specs.Findings.{Said, Yes, No, Beyond, and_also}
use Rattle.rx_term.proofs.Example.{example_paired}
use Rattle.rx_term.specs.Example.{ends, example, goes_on}
use Rattle.rx_solve.proofs.Found.{refuted_is_met_by_none, shown_hold}
use Rattle.rx_solve.specs.Refuter.{refuted}
use Rattle.rx_find_cover.specs.Coverable.{first_open, is_coverable, is_open}
use Rattle.rx_find_cover.specs.Coverage.{Coverage, and_then, as_said, holds, noting}
use Rattle.rx_find_cover.specs.Example.{bare}
use Rattle.rx_find_cover.proofs.CoverageLaws.{used_or_not}
use Rattle.rx_find_cover.proofs.Paired.{paired_coverable}

pub example_coverable : is_coverable example ≡ true
example_coverable = paired_coverable example example_paired refl

-- no rows can't be refuted
nothing_refuted : (s : Said) → refuted [] ≡ s → (as_said s).covered ≡ false
nothing_refuted Yes is =
    absurd (refuted_is_met_by_none [] is (λ v. pos 0) (All-nil (RowHolds (λ v. pos 0))))
nothing_refuted No is = refl
nothing_refuted Beyond is = refl

fails_first : (c : Coverage) → c.covered ≡ false → (and_then c holds).covered ≡ false
fails_first c e = ap (λ b. (cond b (noting c.noted holds) c).covered) e ∙ e

pub bare_not_coverable : is_coverable bare ≡ false
bare_not_coverable =
    let none = as_said (refuted []) in
    ap (λ c. (and_then (and_then c holds) holds).covered) (used_or_not [] 32 [])
    ∙ fails_first (and_then none holds) (fails_first none (nothing_refuted (refuted []) refl))

abbrev ones : ℕ → ℤ
ones v = pos 1

shown_so : is_evident (Eq (variable 0)) ≡ true → all_shown refuted [] (Eq (variable 0) ∷ []) ≡ Yes
shown_so e = ap (λ b. and_also (cond b Yes (negation_said refuted [] (Eq (variable 0)))) Yes) e

-- a variable isn't 0 everywhere
not_evident : is_evident (Eq (variable 0)) ≡ false
not_evident = by (is_evident (Eq (variable 0))) refl where
  by : (b : Bool) → is_evident (Eq (variable 0)) ≡ b → b ≡ false
  by false e = refl
  by true e =
      let zero_there : value ones (variable 0) ≡ pos 0 =
      All-head (RowHolds ones) (Eq (variable 0)) []
      (shown_hold [] (Eq (variable 0) ∷ []) (shown_so e) ones (All-nil (RowHolds ones))) in
      let one_there : value ones (variable 0) ≡ pos 1 = value-variable ones 0 in
      let wrong : pos 1 ≡ pos 0 = sym one_there ∙ zero_there in
      cc

-- the point of the example is split by its first rule's row
pub splits_by_first : first_open [] (ends ∷ goes_on ∷ []) ≡ Some (Eq (variable 0))
splits_by_first =
    ap (λ b. option_or (cond (not (b || false)) (Some (Eq (variable 0))) None)
    (first_open [] (goes_on ∷ []))) not_evident

itself : (row : Row) → stands_among (row ∷ []) row ≡ true
itself row = contains-stands (row ∷ []) row 0 (omega arith) refl

abbrev known : List Row
known = Eq (variable 0) ∷ []

closed_plain : is_open known (Eq (variable 0)) ≡ false
closed_plain =
    ap (λ s. not ((s || is_evident (Eq (variable 0))) ||
    stands_among (map negation known) (Eq (variable 0)))) (itself (Eq (variable 0)))

closed_negation : is_open known (Ne (variable 0)) ≡ false
closed_negation =
    ap (λ s. not (is_plain_row known (Ne (variable 0)) || s)) (itself (Ne (variable 0))) ∙
    by (is_plain_row known (Ne (variable 0))) where
      by : (b : Bool) → not (b || true) ≡ false
      by true = refl
      by false = refl

-- where that row is known it is plain, and the other rule's row is its negation, so nothing is
-- left to split by
pub then_by_none : first_open known (ends ∷ goes_on ∷ []) ≡ None
then_by_none =
    ap (λ b. option_or (cond b (Some (Eq (variable 0))) None) (first_open known (goes_on ∷ [])))
    closed_plain
    ∙ ap (λ b. option_or (cond b (Some (Ne (variable 0))) None) None) closed_negation
