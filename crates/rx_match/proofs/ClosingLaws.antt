-- A pass that sets a variable leaves a row more without unset variables; so as many passes as there
-- are rows set all that passes can set.
use Rattle.std.proofs.Common.{◌≡◌, ◌∙◌, ap, subst, sym, refl, cond, inl, inr, ◌⊎◌, ℕ, zero, suc, ◌+◌, ◌<◌, ◌≤◌, ◌==◌, Bool, true, false, not, ◌||◌, Option, Some, None, List, [], ◌∷◌, length, arith}
use Rattle.std.specs.Prelude.{filter, nat_le}
use Rattle.std.specs.List.{list_all}
use Rattle.std.proofs.lemmas.Bool.{and_from, and_parts, eq-eqb, eqb-true, or_right}
use Rattle.rx_plain.specs.Formed.{Formed, pure, ◌>>=◌}
use Rattle.rx_poly.specs.Substitution.{subst_body}
use Rattle.rx_poly.specs.Variables.{variables}
use Rattle.rx_poly.specs.declared.body.Body.{Body}
use Rattle.rx_poly_laws.specs.Tests.{passes}
use Rattle.rx_row.specs.declared.row.Row.{Row}
use Rattle.rx_row.specs.declared.row.Row.TheVariants.{Ge, Eq, Ne}
use Rattle.rx_cert.specs.Elimination.{solution}
use Rattle.rx_cert.specs.Variables.{row_passes}
use Rattle.rx_match.specs.Equations.{only_one, pass, pass_times, set_by_equation, set_by_row, set_to_value, unset_in}
use Rattle.rx_match.specs.Settings.{is_set, set_to}
use Rattle.rx_match.proofs.PassLaws.{unchanging}

abbrev Settings : Type 0
Settings = List (ℕ × Body)

-- ---- variables that are set stay set

abbrev Grown : Settings → Settings → Type 0
Grown ws vs = (y : ℕ) → is_set ws y ≡ true → is_set vs y ≡ true

or_either : (a b c : Bool) → (b ≡ true → c ≡ true) → (a || b) ≡ true → (a || c) ≡ true
or_either true b c h k = refl
or_either false b c h k = h k

module _ (x : ℕ) (p : Body) where
  own_by : (b : Bool) (w : ℕ × Body) (ws : Settings) → is_set (set_to x p ws) x ≡ true →
      is_set (cond b ((x, p) ∷ w ∷ ws) (w ∷ set_to x p ws)) x ≡ true
  own_by true w ws h =
      let same : (x == x) ≡ true = eq-eqb x x refl in ap (λ b. b || is_set (w ∷ ws) x) same
  own_by false w ws h = or_right (w.0 == x) (is_set (set_to x p ws) x) h

  -- the variable is set then
  set_own : (ws : Settings) → is_set (set_to x p ws) x ≡ true
  set_own [] = let same : (x == x) ≡ true = eq-eqb x x refl in ap (λ b. b || false) same
  set_own (w ∷ ws) = own_by (nat_le x w.0) w ws (set_own ws)

  more_by : (b : Bool) (w : ℕ × Body) (ws : Settings) (y : ℕ) →
      (is_set ws y ≡ true → is_set (set_to x p ws) y ≡ true) → is_set (w ∷ ws) y ≡ true
      → is_set (cond b ((x, p) ∷ w ∷ ws) (w ∷ set_to x p ws)) y ≡ true
  more_by true w ws y h k = or_right (x == y) (is_set (w ∷ ws) y) k
  more_by false w ws y h k = or_either (w.0 == y) (is_set ws y) (is_set (set_to x p ws) y) h k

  -- and so are those that were set
  set_more : (ws : Settings) → Grown ws (set_to x p ws)
  set_more [] y h = cc
  set_more (w ∷ ws) y h = more_by (nat_le x w.0) w ws y (set_more ws y) h

-- ---- rows without unset variables

all_still : (ws vs : Settings) → Grown ws vs → (xs : List ℕ) → list_all (is_set ws) xs ≡ true →
    list_all (is_set vs) xs ≡ true
all_still ws vs g [] h = refl
all_still ws vs g (x ∷ xs) h =
    let parts = and_parts (is_set ws x) (list_all (is_set ws) xs) h in
    and_from (is_set vs x) (list_all (is_set vs) xs) (g x parts.0) (all_still ws vs g xs parts.1)

row_still : (ws vs : Settings) → Grown ws vs → (row : Row) → row_passes (is_set ws) row ≡ true →
    row_passes (is_set vs) row ≡ true
row_still ws vs g (Ge p) h = all_still ws vs g (variables p) h
row_still ws vs g (Eq p) h = all_still ws vs g (variables p) h
row_still ws vs g (Ne p) h = all_still ws vs g (variables p) h

abbrev bit : Bool → ℕ
bit b = cond b 1 0

-- how many of the rows have none
abbrev closed : Settings → List Row → ℕ
closed ws [] = 0
closed ws (row ∷ rows) = bit (row_passes (is_set ws) row) + closed ws rows

one_still : (a b : Bool) → (a ≡ true → b ≡ true) → bit a ≤ bit b
one_still true b h = let is : bit b ≡ bit true = ap bit (h refl) in omega (arith, is)
one_still false b h = omega arith

closed_grows : (ws vs : Settings) → Grown ws vs → (rows : List Row) → closed ws rows ≤
    closed vs rows
closed_grows ws vs g [] = omega arith
closed_grows ws vs g (row ∷ rows) =
    let here = one_still (row_passes (is_set ws) row) (row_passes (is_set vs) row)
    (row_still ws vs g row) in
    let later = closed_grows ws vs g rows in
    omega (arith, here, later)

abbrev Among : Row → List Row → Type 0
Among row [] = ⊥
Among row (r ∷ rs) = (r ≡ row) ⊎ Among row rs

closed_more : (ws vs : Settings) → Grown ws vs → (row : Row) (rows : List Row) → Among row rows →
    row_passes (is_set ws) row ≡ false → row_passes (is_set vs) row ≡ true
    → closed ws rows < closed vs rows
closed_more ws vs g row [] a h k = absurd a
closed_more ws vs g row (r ∷ rs) (inl e) h k =
    let old : bit (row_passes (is_set ws) r) ≡ bit false =
    ap (λ (q : Row). bit (row_passes (is_set ws) q)) e ∙ ap bit h in
    let new : bit (row_passes (is_set vs) r) ≡ bit true =
    ap (λ (q : Row). bit (row_passes (is_set vs) q)) e ∙ ap bit k in
    let later = closed_grows ws vs g rs in
    omega (arith, old, new, later)
closed_more ws vs g row (r ∷ rs) (inr a) h k =
    let here = one_still (row_passes (is_set ws) r) (row_passes (is_set vs) r) (row_still ws vs g r)
    in
    let later = closed_more ws vs g row rs a h k in
    omega (arith, here, later)

-- ---- the only unset variable

one_by : (b : Bool) (u x : ℕ) (us : List ℕ) → list_all (λ y. y == u) us ≡ b → cond b (Some u) None ≡
    Some x → list_all (λ y. y == x) (u ∷ us) ≡ true
one_by true u x us h e =
    let same : u ≡ x = cc in
    subst (λ (v : ℕ). list_all (λ y. y == v) (u ∷ us) ≡ true) same
    (and_from (u == u) (list_all (λ y. y == u) us) (eq-eqb u u refl) h)
one_by false u x us h e = cc

only_these : (us : List ℕ) (x : ℕ) → only_one us ≡ Some x → list_all (λ y. y == x) us ≡ true
only_these [] x e = cc
only_these (u ∷ us) x e = one_by (list_all (λ y. y == u) us) u x us refl e

module _ (ws : Settings) where
  abbrev unset : List ℕ → List ℕ
  unset xs = filter (λ x. not (is_set ws x)) xs

  -- setting it leaves none unset
  module _ (x : ℕ) (p : Body) where
    closes_by : (b : Bool) (v : ℕ) (xs : List ℕ) → is_set ws v ≡ b →
        (list_all (λ y. y == x) (unset xs) ≡ true → list_all (is_set (set_to x p ws)) xs ≡ true)
        → list_all (λ y. y == x) (cond (not b) (v ∷ unset xs) (unset xs)) ≡ true →
        list_all (is_set (set_to x p ws)) (v ∷ xs) ≡ true
    closes_by true v xs is rest h =
        and_from (is_set (set_to x p ws) v) (list_all (is_set (set_to x p ws)) xs)
        (set_more x p ws v is) (rest h)
    closes_by false v xs is rest h =
        let parts = and_parts (v == x) (list_all (λ y. y == x) (unset xs)) h in
        let same : x ≡ v = sym (eqb-true v x parts.0) in
        and_from (is_set (set_to x p ws) v) (list_all (is_set (set_to x p ws)) xs)
        (subst (λ (y : ℕ). is_set (set_to x p ws) y ≡ true) same (set_own x p ws))
        (rest parts.1)

    closes : (xs : List ℕ) → list_all (λ y. y == x) (unset xs) ≡ true →
        list_all (is_set (set_to x p ws)) xs ≡ true
    closes [] h = refl
    closes (v ∷ xs) h = closes_by (is_set ws v) v xs refl (closes xs) h

  -- where all are set none is unset
  none_unset : (xs : List ℕ) → list_all (is_set ws) xs ≡ true → unset xs ≡ []
  none_unset [] h = refl
  none_unset (x ∷ xs) h =
      let parts = and_parts (is_set ws x) (list_all (is_set ws) xs) h in
      ap (λ (b : Bool). cond (not b) (x ∷ unset xs) (unset xs)) parts.0 ∙ none_unset xs parts.1

  still_open : (b : Bool) (p : Body) (x : ℕ) → passes (is_set ws) p ≡ b → only_one (unset_in ws p) ≡
      Some x → b ≡ false
  still_open true p x h e =
      let none : only_one (unset_in ws p) ≡ None = ap only_one (none_unset (variables p) h) in cc
  still_open false p x h e = refl

  -- ---- a row

  -- nothing changes, or the row has no unset variable any more
  abbrev Closes : Settings → Row → Type 0
  Closes vs row =
      (vs ≡ ws) ⊎ (Grown ws vs × (row_passes (is_set ws) row ≡ false) ×
      (row_passes (is_set vs) row ≡ true))

  value_closes : (p : Body) (x : ℕ) (o : Option Body) → only_one (unset_in ws p) ≡ Some x →
      Closes (set_to_value ws x o).form (Eq p)
  value_closes p x None e = inl refl
  value_closes p x (Some v) e =
      let q = (subst_body ws v).form in
      inr (
        set_more x q ws,
        still_open (passes (is_set ws) p) p x refl e,
        closes x q (variables p) (only_these (unset_in ws p) x e),
      )

  equation_closes : (p : Body) (o : Option ℕ) → only_one (unset_in ws p) ≡ o →
      Closes (set_by_equation ws p o).form (Eq p)
  equation_closes p None e = inl refl
  equation_closes p (Some x) e = value_closes p x (solution x p) e

  row_closes : (row : Row) → Closes (set_by_row ws row).form row
  row_closes (Ge p) = inl refl
  row_closes (Eq p) = equation_closes p (only_one (unset_in ws p)) refl
  row_closes (Ne p) = inl refl

  -- a row without unset variables sets none
  closed_row : (row : Row) → row_passes (is_set ws) row ≡ true → set_by_row ws row ≡ pure ws
  closed_row (Ge p) h = refl
  closed_row (Eq p) h = ap (λ us. set_by_equation ws p (only_one us)) (none_unset (variables p) h)
  closed_row (Ne p) h = refl

-- ---- a pass

-- nothing changes, or more of the rows have no unset variable
abbrev Closer : List Row → Settings → Settings → Type 0
Closer whole ws vs = (vs ≡ ws) ⊎ (closed ws whole < closed vs whole)

closer_then : (whole : List Row) (us vs ws : Settings) → Closer whole us vs → Closer whole vs ws →
    Closer whole us ws
closer_then whole us vs ws (inl e) (inl f) = inl (f ∙ e)
closer_then whole us vs ws (inl e) (inr k) =
    inr (subst (λ (xs : Settings). closed xs whole < closed ws whole) e k)
closer_then whole us vs ws (inr h) (inl f) =
    inr (subst (λ (xs : Settings). closed us whole < closed xs whole) (sym f) h)
closer_then whole us vs ws (inr h) (inr k) = inr (omega (arith, h, k))

by_row : (whole : List Row) (row : Row) → Among row whole → (ws vs : Settings) → Closes ws vs row →
    Closer whole ws vs
by_row whole row a ws vs (inl e) = inl e
by_row whole row a ws vs (inr c) = inr (closed_more ws vs c.0 row whole a c.1 c.2)

pass_closes : (whole rows : List Row) → ((row : Row) → Among row rows → Among row whole) →
    (ws : Settings) → Closer whole ws (pass rows ws).form
pass_closes whole [] inside ws = inl refl
pass_closes whole (row ∷ rows) inside ws =
    let next = (set_by_row ws row).form in
    closer_then whole ws next (pass rows next).form
    (by_row whole row (inside row (inl refl)) ws next (row_closes ws row))
    (pass_closes whole rows (λ r a. inside r (inr a)) next)

at_most_one : (b : Bool) → bit b ≤ 1
at_most_one true = omega arith
at_most_one false = omega arith

closed-le : (ws : Settings) (rows : List Row) → closed ws rows ≤ length rows
closed-le ws [] = omega arith
closed-le ws (row ∷ rows) =
    let here = at_most_one (row_passes (is_set ws) row) in
    let later = closed-le ws rows in
    omega (arith, here, later)

one_is : (b : Bool) → 1 ≤ bit b → b ≡ true
one_is true h = refl
one_is false h = absurd (omega (arith, h))

-- where no row has an unset variable, a pass changes nothing
closed_pass : (ws : Settings) (rows : List Row) → length rows ≤ closed ws rows → pass rows ws ≡
    pure ws
closed_pass ws [] h = refl
closed_pass ws (row ∷ rows) h =
    let later = closed-le ws rows in
    let here = at_most_one (row_passes (is_set ws) row) in
    let one : 1 ≤ bit (row_passes (is_set ws) row) = omega (arith, h, later) in
    let rest : length rows ≤ closed ws rows = omega (arith, h, here) in
    ap (λ (f : Formed Settings). f >>= pass rows)
    (closed_row ws row (one_is (row_passes (is_set ws) row) one)) ∙ closed_pass ws rows rest

-- ---- n passes

module _ (rows : List Row) where
  -- a pass more changes nothing, where that many passes keep the limits
  abbrev Ends : ℕ → Settings → Type 0
  Ends n ws =
      (pass_times n rows ws).within ≡ true → pass rows (pass_times n rows ws).form ≡
      pure (pass_times n rows ws).form

  after_pass : (n : ℕ) (ws : Settings) → length rows ≤ suc n + closed ws rows →
      ((vs : Settings) → length rows ≤ n + closed vs rows → Ends n vs)
      → Closer rows ws (pass rows ws).form → Ends (suc n) ws
  after_pass n ws many further (inl e) within =
      let parts = and_parts (pass rows ws).within (pass_times n rows (pass rows ws).form).within
      within in
      let nothing : pass rows ws ≡ pure ws = (λ i. record { form = e i; within = parts.0 i }) in
      let end : pass_times (suc n) rows ws ≡ pure ws = unchanging (suc n) rows ws nothing in
      subst (λ (f : Formed Settings). pass rows f.form ≡ pure f.form) (sym end) nothing
  after_pass n ws many further (inr more) within =
      let parts = and_parts (pass rows ws).within (pass_times n rows (pass rows ws).form).within
      within in
      further (pass rows ws).form (omega (arith, many, more)) parts.1

  ends : (n : ℕ) (ws : Settings) → length rows ≤ n + closed ws rows → Ends n ws
  ends zero ws many within = closed_pass ws rows (omega (arith, many))
  ends (suc n) ws many within =
      after_pass n ws many (ends n) (pass_closes rows rows (λ row a. a) ws) within

-- as many passes as there are rows are enough
pub enough_passes : (rows : List Row) (ws : Settings) → (pass_times (length rows) rows ws).within ≡
    true
    → pass rows (pass_times (length rows) rows ws).form ≡
    pure (pass_times (length rows) rows ws).form
enough_passes rows ws within = ends rows (length rows) ws (omega arith) within
