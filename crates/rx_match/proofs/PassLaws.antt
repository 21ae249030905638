-- A pass sets variables or changes nothing, and after one that changes nothing no other does.
use Rattle.std.proofs.Common.{◌≡◌, ◌∙◌, ap, subst, sym, refl, inl, inr, ◌⊎◌, ℕ, zero, suc, ◌+◌, ◌-◌, ◌<◌, ◌≤◌, true, false, Option, Some, None, List, [], ◌∷◌, length, arith}
use Rattle.rx_plain.specs.Formed.{Formed, pure, ◌>>=◌}
use Rattle.rx_plain.proofs.Forming.{then_false, then_true}
use Rattle.rx_poly.specs.Substitution.{subst_body}
use Rattle.rx_poly.specs.declared.body.Body.{Body}
use Rattle.rx_row.specs.declared.row.Row.{Row}
use Rattle.rx_row.specs.declared.row.Row.TheVariants.{Ge, Eq, Ne}
use Rattle.rx_cert.specs.Elimination.{solution}
use Rattle.rx_match.specs.Equations.{only_one, pass, pass_times, set_by_equation, set_by_row, set_to_value, unset_in}
use Rattle.rx_match.proofs.SettingLaws.{length-set_to}

-- ---- more variables are set, or nothing changes

abbrev Grows : List (ℕ × Body) → List (ℕ × Body) → Type 0
Grows ws vs = (vs ≡ ws) ⊎ (length ws < length vs)

further : (us vs ws : List (ℕ × Body)) → Grows us vs → Grows vs ws → Grows us ws
further us vs ws (inl e) (inl f) = inl (f ∙ e)
further us vs ws (inl e) (inr k) = inr (subst (λ (xs : List (ℕ × Body)). length xs < length ws) e k)
further us vs ws (inr h) (inl f) =
    inr (subst (λ (xs : List (ℕ × Body)). length us < length xs) (sym f) h)
further us vs ws (inr h) (inr k) = inr (omega arith)

value_grows : (ws : List (ℕ × Body)) (x : ℕ) (o : Option Body) → Grows ws (set_to_value ws x o).form
value_grows ws x None = inl refl
value_grows ws x (Some p) =
    let longer = length-set_to x (subst_body ws p).form ws in inr (omega (arith, longer))

equation_grows : (ws : List (ℕ × Body)) (p : Body) (o : Option ℕ) →
    Grows ws (set_by_equation ws p o).form
equation_grows ws p None = inl refl
equation_grows ws p (Some x) = value_grows ws x (solution x p)

row_grows : (ws : List (ℕ × Body)) (row : Row) → Grows ws (set_by_row ws row).form
row_grows ws (Ge p) = inl refl
row_grows ws (Eq p) = equation_grows ws p (only_one (unset_in ws p))
row_grows ws (Ne p) = inl refl

pass_grows : (rows : List Row) (ws : List (ℕ × Body)) → Grows ws (pass rows ws).form
pass_grows [] ws = inl refl
pass_grows (row ∷ rows) ws =
    let next = (set_by_row ws row).form in
    further ws next (pass rows next).form (row_grows ws row) (pass_grows rows next)

unchanged : (ws vs : List (ℕ × Body)) → Grows ws vs → length vs ≡ length ws → vs ≡ ws
unchanged ws vs (inl e) h = e
unchanged ws vs (inr k) h = absurd (omega arith)

-- ---- after a pass that changes nothing

-- no number of passes changes anything
pub unchanging : (n : ℕ) (rows : List Row) (ws : List (ℕ × Body)) → pass rows ws ≡ pure ws →
    pass_times n rows ws ≡ pure ws
unchanging zero rows ws h = refl
unchanging (suc n) rows ws h =
    ap (λ (f : Formed (List (ℕ × Body))). f >>= pass_times n rows) h ∙ unchanging n rows ws h

-- ---- the passes one after the other

-- what is set so far, and then by n passes, is the whole
pub record Passing (rows : List Row) (ws : List (ℕ × Body)) (left : ℕ)
    (whole : Formed (List (ℕ × Body))) : Type 0 where
  pub all : pass_times left rows ws ≡ whole

module _ {rows : List Row} {ws : List (ℕ × Body)} {whole : Formed (List (ℕ × Body))} (n i : ℕ)
    (h : i < n) (m : Passing rows ws (n - i) whole) where
  opened : pass_times (suc (n - (i + 1))) rows ws ≡ whole
  opened =
      let same : suc (n - (i + 1)) ≡ n - i = omega arith in ap (λ k. pass_times k rows ws) same ∙
      m.all

  -- a pass beyond the limits decides
  pub no_pass : (pass rows ws).within ≡ false → whole.within ≡ false
  no_pass g =
      ap (λ (w : Formed (List (ℕ × Body))). w.within) (sym opened) ∙
      then_false (pass rows ws) (pass_times (n - (i + 1)) rows) g

  -- one within them leaves it to the others
  pub after_pass : {next : List (ℕ × Body)} → next ≡ (pass rows ws).form → (pass rows ws).within ≡
      true → Passing rows next (n - (i + 1)) whole
  after_pass {next} e g = record {
    all =
        ap (pass_times (n - (i + 1)) rows) e ∙
        sym (then_true (pass rows ws) (pass_times (n - (i + 1)) rows) g) ∙ opened;
  }

  -- one that sets no more variables is the last
  pub last_pass : {next : List (ℕ × Body)} → next ≡ (pass rows ws).form → (pass rows ws).within ≡
      true → length next ≡ length ws
      → (next ≡ whole.form) × (whole.within ≡ true)
  last_pass {next} e g same =
      let still : (pass rows ws).form ≡ ws = unchanged ws (pass rows ws).form (pass_grows rows ws)
      (sym (ap length e) ∙ same) in
      let nothing : pass rows ws ≡ pure ws = (λ j. record { form = still j; within = g j }) in
      let end : whole ≡ pure ws = sym opened ∙ unchanging (suc (n - (i + 1))) rows ws nothing in (
        e ∙ still ∙ sym (ap (λ (w : Formed (List (ℕ × Body))). w.form) end),
        ap (λ (w : Formed (List (ℕ × Body))). w.within) end,
      )

-- no pass is left
pub passed : (rows : List Row) (ws : List (ℕ × Body)) (whole : Formed (List (ℕ × Body))) (n i : ℕ) →
    n ≤ i → Passing rows ws (n - i) whole
    → (ws ≡ whole.form) × (whole.within ≡ true)
passed rows ws whole n i h m =
    let none : 0 ≡ n - i = omega arith in
    let end : pure ws ≡ whole = ap (λ k. pass_times k rows ws) none ∙ m.all in (
      ap (λ (w : Formed (List (ℕ × Body))). w.form) end,
      sym (ap (λ (w : Formed (List (ℕ × Body))). w.within) end),
    )
