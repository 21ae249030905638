-- The rows that a column asks for, one column after the other.
use Rattle.std.proofs.Common.{◌≡◌, ◌∙◌, ap, sym, subst, refl, arith, ℕ, zero, suc, ◌-◌, true, false, ◌&&◌, List, [], ◌∷◌, ◌++◌, length, append_assoc}
use Rattle.std.proofs.lemmas.List.{append-nil}
use Rattle.rx_plain.specs.Formed.{Formed}
use Rattle.rx_poly.specs.declared.body.Body.{Body}
use Rattle.rx_row.specs.declared.row.Row.{Row}
use Rattle.rx_pairs.specs.Columns.{falls_rows, holds_rows}
use Rattle.rx_pairs.specs.Lowering.{lower_rows, prefixed}
use Rattle.rx_pairs.specs.declared.pair.Pair.{Pair}

-- where nothing is left, the rows so far are all
pub nothing_left : (done : List Row) (whole : Formed (List Row)) →
    prefixed done (record { form = []; within = true }) ≡ whole
    → (done ≡ whole.form) × (whole.within ≡ true)
nothing_left done whole is = (
  sym (append-nil done) ∙ ap (λ (f : Formed (List Row)). f.form) is,
  sym (ap (λ (f : Formed (List Row)). f.within) is),
)

-- where either list ends, nothing is asked
pub left_ends : (pair : Pair) (j : ℕ) (ps qs : List Body) → ps ≡ [] → lower_rows pair j ps qs ≡
    record { form = []; within = true }
left_ends pair zero ps qs is = refl
left_ends pair (suc j) ps qs is = ap (λ rs. lower_rows pair (suc j) rs qs) is

right_ends_from : (pair : Pair) (j : ℕ) (ps : List Body) → lower_rows pair (suc j) ps [] ≡
    record { form = []; within = true }
right_ends_from pair j [] = refl
right_ends_from pair j (p ∷ ps) = refl

pub right_ends : (pair : Pair) (j : ℕ) (ps qs : List Body) → qs ≡ [] → lower_rows pair j ps qs ≡
    record { form = []; within = true }
right_ends pair zero ps qs is = refl
right_ends pair (suc j) ps qs is =
    ap (λ rs. lower_rows pair (suc j) ps rs) is ∙ right_ends_from pair j ps

module _ (pair : Pair) (ps qs : List Body) (p q : Body) (more others : List Body)
    (left : ps ≡ p ∷ more) (right : qs ≡ q ∷ others)
    (done : List Row) (whole : Formed (List Row)) where
  abbrev Opened : ℕ → Type 0
  Opened j = prefixed done (lower_rows pair j ps qs) ≡ whole

  opened : (j : ℕ) → Opened j → prefixed done (lower_rows pair j (p ∷ more) (q ∷ others)) ≡ whole
  opened j is = (λ i. prefixed done (lower_rows pair j (sym left i) (sym right i))) ∙ is

  -- a column that holds asks for its rows, and then come those of the others
  pub after_hold : (j : ℕ) → (j ≡ 0 → ⊥) → (j ≡ 1 → ⊥) → Opened j → (new : List Row) → new ≡ done ++
      (holds_rows pair p q).form → (holds_rows pair p q).within ≡ true
      → prefixed new (lower_rows pair (j - 1) more others) ≡ whole
  after_hold zero some two is new made within = absurd (some refl)
  after_hold (suc zero) some two is new made within = absurd (two refl)
  after_hold (suc (suc j)) some two is new made within =
      let rest = lower_rows pair (suc j) more others in
      let number : suc (suc j) - 1 ≡ suc j = omega arith in
      ap (λ k. prefixed new (lower_rows pair k more others)) number
      ∙ (λ i. record {
        form =
            (ap (λ rows. rows ++ rest.form) made ∙
            append_assoc done (holds_rows pair p q).form rest.form) i;
        within = (sym (ap (λ b. b && rest.within) within)) i;
      })
      ∙ opened (suc (suc j)) is

  -- where one of its rows passes the limits, so does the whole
  pub beyond_hold : (j : ℕ) → (j ≡ 0 → ⊥) → (j ≡ 1 → ⊥) → Opened j → (holds_rows pair p q).within ≡
      false → whole.within ≡ false
  beyond_hold zero some two is within = absurd (some refl)
  beyond_hold (suc zero) some two is within = absurd (two refl)
  beyond_hold (suc (suc j)) some two is within =
      sym (ap (λ (f : Formed (List Row)). f.within) (opened (suc (suc j)) is)) ∙
      ap (λ b. b && (lower_rows pair (suc j) more others).within) within

  -- the column that falls is the last
  pub at_fall : (j : ℕ) → j ≡ 1 → Opened j → prefixed done (falls_rows pair p q) ≡ whole
  at_fall j one is = opened 1 (subst Opened one is)

-- a list without elements is empty
pub no_column : (ps : List Body) → length ps ≡ 0 → ps ≡ []
no_column [] none = refl
no_column (p ∷ ps) none = absurd (omega (arith, none))

-- so where a list ends, the rows so far are all
pub ended : (done : List Row) (rest whole : Formed (List Row)) → rest ≡
    record { form = []; within = true } → prefixed done rest ≡ whole
    → (done ≡ whole.form) × (whole.within ≡ true)
ended done rest whole none is = nothing_left done whole (ap (prefixed done) (sym none) ∙ is)
