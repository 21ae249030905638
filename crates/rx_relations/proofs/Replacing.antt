-- Variables that rows say the value of, replaced one after the other: the rows so far, and what is
-- still done to them.
use Rattle.std.proofs.Common.{◌≡◌, ◌∙◌, ap, sym, refl, ℕ, zero, suc, ◌-◌, ◌<◌, Some, None, true, false, List, arith}
use Rattle.rx_plain.specs.Formed.{Formed, pure, ◌>>=◌}
use Rattle.rx_plain.proofs.Forming.{then_false, then_true}
use Rattle.rx_row.specs.declared.row.Row.{Row}
use Rattle.rx_solve.specs.Pivots.{first_pivot}
use Rattle.rx_solve.specs.declared.pivots.Pivot.{Pivot}
use Rattle.rx_relations.specs.Values.{replaced, replaced_first, with_pivot}

-- what is done to the rows so far, with so many variables at most, gives the whole
pub record Replacing (left : ℕ) (rows : List Row) (whole : Formed (List Row)) : Type 0 where
  pub all : replaced left rows ≡ whole

pub begin : (left : ℕ) (rows : List Row) → Replacing left rows (replaced left rows)
begin left rows = record { all = refl }

-- nothing more is done
stays : (left : ℕ) (rows : List Row) (whole : Formed (List Row)) → replaced left rows ≡ pure rows →
    Replacing left rows whole → (rows ≡ whole.form) × (whole.within ≡ true)
stays left rows whole e m =
    let same = sym e ∙ m.all in
    (ap (λ (f : Formed (List Row)). f.form) same, sym (ap (λ (f : Formed (List Row)). f.within) same))

none_at : (left : ℕ) (rows : List Row) → left ≡ 0 → replaced left rows ≡ pure rows
unfolding replaced
none_at zero rows e = refl
none_at (suc n) rows e = absurd (omega (arith, e))

without : (left : ℕ) (rows : List Row) → first_pivot rows ≡ None → replaced left rows ≡ pure rows
unfolding replaced
without zero rows e = refl
without (suc n) rows e = ap (λ o. replaced_first o (replaced n) rows) e

-- as no variable may be replaced any more
pub none_left : (left : ℕ) (rows : List Row) (whole : Formed (List Row)) → left ≡ 0 →
    Replacing left rows whole → (rows ≡ whole.form) × (whole.within ≡ true)
none_left left rows whole e m = stays left rows whole (none_at left rows e) m

-- as the rows say the value of none
pub no_pivot : (left : ℕ) (rows : List Row) (whole : Formed (List Row)) → first_pivot rows ≡ None →
    Replacing left rows whole → (rows ≡ whole.form) × (whole.within ≡ true)
no_pivot left rows whole e m = stays left rows whole (without left rows e) m

-- one variable is replaced
turn : (left : ℕ) (rows : List Row) (p : Pivot) → 0 < left → first_pivot rows ≡ Some p →
    replaced left rows ≡ (with_pivot rows p >>= replaced (left - 1))
unfolding replaced
turn zero rows p h e = absurd (omega (arith, h))
turn (suc n) rows p h e =
    let less : suc n - 1 ≡ n = omega arith in
    ap (λ o. replaced_first o (replaced n) rows) e ∙
    (λ i. with_pivot rows p >>= replaced (sym less i))

-- beyond the limits
pub beyond : (left : ℕ) (rows : List Row) (whole : Formed (List Row)) (p : Pivot) → 0 < left →
    first_pivot rows ≡ Some p → Replacing left rows whole → (with_pivot rows p).within ≡ false →
    whole.within ≡ false
beyond left rows whole p h e m f =
    sym (ap (λ (w : Formed (List Row)). w.within) (sym (turn left rows p h e) ∙ m.all)) ∙
    then_false (with_pivot rows p) (replaced (left - 1)) f

-- within them
pub after : (left : ℕ) (rows : List Row) (whole : Formed (List Row)) (p : Pivot) (next : List Row) →
    0 < left → first_pivot rows ≡ Some p → Replacing left rows whole →
    next ≡ (with_pivot rows p).form → (with_pivot rows p).within ≡ true →
    Replacing (left - 1) next whole
after left rows whole p next h e m n w = record {
  all =
      ap (replaced (left - 1)) n ∙
      sym (then_true (with_pivot rows p) (replaced (left - 1)) w) ∙ sym (turn left rows p h e) ∙
      m.all;
}
