-- What is found of a first part, with what was noted before, leaves it to the later parts or
-- decides.
use Rattle.std.proofs.Common.{◌≡◌, ◌∙◌, ap, sym, refl, cond, ℕ, zero, suc, Bool, true, false, ◌||◌, List}
use Rattle.rx_plain.proofs.Booleans.{or_assoc, or_false}
use Rattle.rx_row.specs.declared.row.Row.{Row}
use Rattle.rx_term.specs.declared.rule.Rule.{Rule}
use Rattle.rx_find_cover.specs.Coverable.{covering_at, unless_used, using}
use Rattle.rx_find_cover.specs.Coverage.{Coverage, and_then, noting, or_else}

-- what was noted twice
noting_again : (a b : Bool) (later : Coverage) → noting (a || b) later ≡ noting a (noting b later)
noting_again a b later =
    ap (λ n. record { covered = later.covered; noted = n }) (or_assoc a b later.noted)

-- nothing more was noted
pub noted_alone : (covered noted : Bool) → noting noted
    (record { covered = covered; noted = false }) ≡ record { covered = covered; noted = noted }
noted_alone covered noted = ap (λ n. record { covered = covered; noted = n }) (or_false noted)

module _ (noted : Bool) (first later whole : Coverage) where
  pub or_more : noting noted (or_else first later) ≡ whole → first.covered ≡ false →
      noting (noted || first.noted) later ≡ whole
  or_more e f =
      noting_again noted first.noted later ∙ ap
      (λ c. noting noted (cond c first (noting first.noted later))) (sym f) ∙ e

  pub or_done : noting noted (or_else first later) ≡ whole → first.covered ≡ true →
      noting noted first ≡ whole
  or_done e f = ap (λ c. noting noted (cond c first (noting first.noted later))) (sym f) ∙ e

  pub and_more : noting noted (and_then first later) ≡ whole → first.covered ≡ true →
      noting (noted || first.noted) later ≡ whole
  and_more e f =
      noting_again noted first.noted later ∙ ap
      (λ c. noting noted (cond c (noting first.noted later) first)) (sym f) ∙ e

  pub and_done : noting noted (and_then first later) ≡ whole → first.covered ≡ false →
      noting noted first ≡ whole
  and_done e f = ap (λ c. noting noted (cond c (noting first.noted later) first)) (sym f) ∙ e

-- a rule is used, or something else is found
pub used_or_not : (rules : List Rule) (n : ℕ) (path : List Row) → covering_at rules n path ≡ or_else (using path rules) (unless_used rules n path)
unfolding covering_at
used_or_not rules zero path = refl
used_or_not rules (suc n) path = refl

module _ (rules : List Rule) (n : ℕ) (path : List Row) (found : Coverage)
    (is : found ≡ using path rules) where
  whole_is : (b : Bool) → found.covered ≡ b →
      cond b found (noting found.noted (unless_used rules n path)) ≡ covering_at rules n path
  whole_is b e =
      ap (λ c. cond c found (noting found.noted (unless_used rules n path))) (sym e)
      ∙ ap (λ f. or_else f (unless_used rules n path)) is ∙ sym (used_or_not rules n path)

  -- a rule is used
  pub used_covers : found.covered ≡ true → found ≡ covering_at rules n path
  used_covers e = whole_is true e

  -- none is
  pub not_used : found.covered ≡ false → (later : Coverage) → later ≡ unless_used rules n path →
      noting found.noted later ≡ covering_at rules n path
  not_used e later f = ap (noting found.noted) f ∙ whole_is false e
