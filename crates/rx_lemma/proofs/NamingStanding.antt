-- What stands in place of a goal's polynomials and rows where constants are named, and that it still
-- does where one more is.
use Rattle.std.proofs.Common.{◌≡◌, ◌∙◌, ap, subst, sym, refl, ℕ, zero, suc, ◌+◌, ◌<◌, ◌≤◌, ◌==◌, Bool, true, false, cond, Some, None, List, [], ◌∷◌, ◌++◌, get_or, slice_get, slice_set, All, Contains, ℤ, pos, arith}
use Rattle.std.specs.List.{list_all}
use Rattle.std.proofs.lemmas.Bool.{and_from, and_parts}
use Rattle.std.proofs.lemmas.Bool.Decides.{nat_tests}
use Rattle.std.proofs.lemmas.List.{append_assoc, get_or_default}
use Rattle.std.proofs.lemmas.List.Elements.{All-head, All-push, All-tail, All-weaker}
use Rattle.std.proofs.lemmas.List.Sums.{AllPass-from_list_all}
use Rattle.std.proofs.lemmas.Option.{none-some, same_Some}
use Rattle.rx_poly.specs.Constants.{number, variable}
use Rattle.rx_poly.specs.Limits.{fits_i128, is_within, of_atoms}
use Rattle.rx_poly.specs.Normal.{is_empty, is_poly}
use Rattle.rx_poly.specs.Reading.{constant_of}
use Rattle.rx_poly.specs.Substitution.{replaced}
use Rattle.rx_poly.specs.Variables.{uses_below}
use Rattle.rx_poly.specs.declared.body.Atom.{Atom}
use Rattle.rx_poly.specs.declared.body.Atom.TheVariants.{Var}
use Rattle.rx_poly.specs.declared.body.Body.{Body, out-Body}
use Rattle.rx_poly.proofs.Levels.{atoms-of_atoms, terms-of_terms}
use Rattle.rx_row.specs.Membership.{pushed, stands_among}
use Rattle.rx_row.specs.Parts.{poly_of}
use Rattle.rx_row.specs.declared.row.Row.{Row}
use Rattle.rx_row.specs.declared.row.Row.TheVariants.{Eq}
use Rattle.rx_row.proofs.Membership.{contains-stands, stands-contains}
use Rattle.rx_term.specs.Variables.{polys_use_below}
use Rattle.rx_lemma.proofs.NamingValues.{number_fits, number_is, one_value_row, value_below, value_of, value_uses, variable_uses}

-- ---- what stands in place of a polynomial, and what a row is

-- the variable is replaced by the number, also with more after the list
abbrev pub Gives : List (ℕ × Body) → ℕ → ℤ → Type 0
Gives ws v c = (us : List (ℕ × Body)) → replaced (ws ++ us) v ≡ number c

-- the polynomial itself; a variable of the goal, of which one of its rows says that it is the
-- number; or a new one
pub data Stands (given : List Row) (bound : ℕ) (ws : List (ℕ × Body)) (fresh : ℕ) (new old : Body)
    : Type 0 where
  Same : new ≡ old → Stands given bound ws fresh new old
  Known : (v : ℕ) → (c : ℤ) → new ≡ variable v → old ≡ number c → v < bound →
      is_within (value_of v c) ≡ true → stands_among given (Eq (value_of v c)) ≡ true →
      Stands given bound ws fresh new old
  New : (v : ℕ) → (c : ℤ) → new ≡ variable v → old ≡ number c → v < fresh → Gives ws v c →
      Stands given bound ws fresh new old

-- a row of the goal, or one that gives a new variable its value
pub data RowStands (given : List Row) (ws : List (ℕ × Body)) (fresh : ℕ) (row : Row) : Type 0 where
  OldRow : Contains given row → RowStands given ws fresh row
  NewRow : (v : ℕ) → (c : ℤ) → row ≡ Eq (value_of v c) → v < fresh → fits_i128 c ≡ true →
      Gives ws v c → RowStands given ws fresh row

-- ---- one replacement more

gives_more : (ws : List (ℕ × Body)) (w : ℕ × Body) (v : ℕ) (c : ℤ) → Gives ws v c →
    Gives (ws ++ w ∷ []) v c
gives_more ws w v c g =
    λ us. ap (λ (xs : List (ℕ × Body)). replaced xs v) (append_assoc ws (w ∷ []) us) ∙ g (w ∷ us)

-- a variable that isn't in the list is given the number by one more
pub gives_new : (ws : List (ℕ × Body)) (v : ℕ) (c : ℤ) →
    ((us : List (ℕ × Body)) → replaced (ws ++ us) v ≡ replaced us v) →
    Gives (ws ++ (v, number c) ∷ []) v c
gives_new ws v c ahead =
    let same : (v == v) ≡ true = grind (arith, nat_tests) in
    λ us. ap (λ (xs : List (ℕ × Body)). replaced xs v) (append_assoc ws ((v, number c) ∷ []) us)
    ∙ ahead ((v, number c) ∷ us)
    ∙ ap (λ (b : Bool). cond b (number c) (replaced us v)) same

-- other variables aren't in the longer list either
pub passed_more : (ws : List (ℕ × Body)) (w : ℕ × Body) (v : ℕ) → (w.0 == v) ≡ false →
    ((us : List (ℕ × Body)) → replaced (ws ++ us) v ≡ replaced us v) →
    (us : List (ℕ × Body)) → replaced ((ws ++ w ∷ []) ++ us) v ≡ replaced us v
passed_more ws w v other passed us =
    ap (λ (xs : List (ℕ × Body)). replaced xs v) (append_assoc ws (w ∷ []) us) ∙ passed (w ∷ us) ∙
    ap (λ (b : Bool). cond b w.1 (replaced us v)) other

module _ (given : List Row) (bound : ℕ) where
  stands_more : (ws : List (ℕ × Body)) (w : ℕ × Body) (fresh : ℕ) (new old : Body) →
      Stands given bound ws fresh new old → Stands given bound (ws ++ w ∷ []) (fresh + 1) new old
  stands_more ws w fresh new old (Same e) = Same e
  stands_more ws w fresh new old (Known v c n o lt h k) = Known v c n o lt h k
  stands_more ws w fresh new old (New v c n o lt g) =
      let less : v < fresh + 1 = omega (arith, lt) in
      New v c n o less (gives_more ws w v c g)

  row_stands_more : (ws : List (ℕ × Body)) (w : ℕ × Body) (fresh : ℕ) (row : Row) →
      RowStands given ws fresh row → RowStands given (ws ++ w ∷ []) (fresh + 1) row
  row_stands_more ws w fresh row (OldRow c) = OldRow c
  row_stands_more ws w fresh row (NewRow v c e lt fits g) =
      let less : v < fresh + 1 = omega (arith, lt) in
      NewRow v c e less fits (gives_more ws w v c g)

  pub rows_more : (ws : List (ℕ × Body)) (w : ℕ × Body) (fresh : ℕ) (rows : List Row) →
      All (RowStands given ws fresh) rows → All (RowStands given (ws ++ w ∷ []) (fresh + 1)) rows
  rows_more ws w fresh rows all =
      All-weaker (RowStands given ws fresh) (RowStands given (ws ++ w ∷ []) (fresh + 1))
      (row_stands_more ws w fresh) rows all

  -- ---- lists of polynomials

  module _ (ws : List (ℕ × Body)) (fresh : ℕ) where
    -- as many, one by one
    abbrev pub Aligned : List Body → List Body → Type 0
    Aligned [] [] = Unit {0}
    Aligned [] (q ∷ qs) = ⊥
    Aligned (p ∷ ps) [] = ⊥
    Aligned (p ∷ ps) (q ∷ qs) = Stands given bound ws fresh p q × Aligned ps qs

    pub aligned_itself : (ps : List Body) → Aligned ps ps
    aligned_itself [] = tt
    aligned_itself (p ∷ ps) = (Same refl, aligned_itself ps)

    -- another one at a place
    module _ (p new : Body) (change : (q : Body) → is_poly q ≡ true →
        Stands given bound ws fresh p q → Stands given bound ws fresh new q) where
      set_in : (ps qs : List Body) (place : ℕ) → Aligned ps qs → list_all is_poly qs ≡ true →
          slice_get ps place ≡ Some p → Aligned (slice_set ps place new) qs
      set_in [] qs place a h e = absurd (none-some p e)
      set_in (x ∷ xs) [] place a h e = absurd a
      set_in (x ∷ xs) (q ∷ qs) zero a h e =
          let poly = (and_parts (is_poly q) (list_all is_poly qs) h).0 in (
            change q poly (subst (λ (y : Body). Stands given bound ws fresh y q) (same_Some x p e)
                a.0),
            a.1,
          )
      set_in (x ∷ xs) (q ∷ qs) (suc i) a h e =
          (a.0, set_in xs qs i a.1 (and_parts (is_poly q) (list_all is_poly qs) h).1 e)

      pub set_after : (front ps qs : List Body) (place : ℕ) → Aligned (front ++ ps) qs →
          list_all is_poly qs ≡ true → slice_get ps place ≡ Some p →
          Aligned (front ++ slice_set ps place new) qs
      set_after [] ps qs place a h e = set_in ps qs place a h e
      set_after (x ∷ xs) ps [] place a h e = absurd a
      set_after (x ∷ xs) ps (q ∷ qs) place a h e =
          (a.0, set_after xs ps qs place a.1 (and_parts (is_poly q) (list_all is_poly qs) h).1 e)

  pub aligned_more : (ws : List (ℕ × Body)) (w : ℕ × Body) (fresh : ℕ) (ps qs : List Body) →
      Aligned ws fresh ps qs → Aligned (ws ++ w ∷ []) (fresh + 1) ps qs
  aligned_more ws w fresh [] [] a = tt
  aligned_more ws w fresh [] (q ∷ qs) a = a
  aligned_more ws w fresh (p ∷ ps) [] a = a
  aligned_more ws w fresh (p ∷ ps) (q ∷ qs) a =
      (stands_more ws w fresh p q a.0, aligned_more ws w fresh ps qs a.1)

  -- ---- numbers

  no_number : (v : ℕ) → constant_of (out-Body (variable v)).terms ≡ None
  no_number v =
      ap constant_of (terms-of_terms ((of_atoms (Var v ∷ []), pos 1) ∷ [])) ∙
      ap (λ (xs : List Atom). cond (is_empty xs) (Some (pos 1)) None) (atoms-of_atoms (Var v ∷ []))

  module _ (ws : List (ℕ × Body)) (fresh : ℕ) where
    -- where a number stands it is the goal's
    pub number_stands : (p q : Body) (c : ℤ) → constant_of (out-Body p).terms ≡ Some c →
        is_poly q ≡ true → Stands given bound ws fresh p q → q ≡ number c
    number_stands p q c h poly (Same e) =
        number_is q c poly (ap (λ (b : Body). constant_of (out-Body b).terms) (sym e) ∙ h)
    number_stands p q c h poly (Known v d n o lt w s) =
        absurd (none-some c (sym (ap (λ (b : Body). constant_of (out-Body b).terms) n ∙ no_number v)
        ∙ h))
    number_stands p q c h poly (New v d n o lt g) =
        absurd (none-some c (sym (ap (λ (b : Body). constant_of (out-Body b).terms) n ∙ no_number v)
        ∙ h))

    -- what is at a place stands in place of one of the goal's
    record Placed (p : Body) : Type 0 where
      old : Body
      poly : is_poly old ≡ true
      stands : Stands given bound ws fresh p old

    placed_in : (p : Body) (ps qs : List Body) (place : ℕ) → Aligned ws fresh ps qs →
        list_all is_poly qs ≡ true → slice_get ps place ≡ Some p → Placed p
    placed_in p [] qs place a h e = absurd (none-some p e)
    placed_in p (x ∷ xs) [] place a h e = absurd a
    placed_in p (x ∷ xs) (q ∷ qs) zero a h e = record {
      old = q;
      poly = (and_parts (is_poly q) (list_all is_poly qs) h).0;
      stands = subst (λ (y : Body). Stands given bound ws fresh y q) (same_Some x p e) a.0;
    }
    placed_in p (x ∷ xs) (q ∷ qs) (suc i) a h e =
        placed_in p xs qs i a.1 (and_parts (is_poly q) (list_all is_poly qs) h).1 e

    placed_after : (p : Body) (front ps qs : List Body) (place : ℕ) →
        Aligned ws fresh (front ++ ps) qs → list_all is_poly qs ≡ true →
        slice_get ps place ≡ Some p → Placed p
    placed_after p [] ps qs place a h e = placed_in p ps qs place a h e
    placed_after p (x ∷ xs) ps [] place a h e = absurd a
    placed_after p (x ∷ xs) ps (q ∷ qs) place a h e =
        placed_after p xs ps qs place a.1 (and_parts (is_poly q) (list_all is_poly qs) h).1 e

    -- a number at a place fits
    pub number_at : (front ps qs : List Body) (place : ℕ) (p : Body) (c : ℤ) →
        Aligned ws fresh (front ++ ps) qs → list_all is_poly qs ≡ true →
        slice_get ps place ≡ Some p → constant_of (out-Body p).terms ≡ Some c →
        fits_i128 c ≡ true
    number_at front ps qs place p c a h e value =
        let k = placed_after p front ps qs place a h e in
        let same = number_stands p k.old c value k.poly k.stands in
        number_fits c (ap is_poly (sym same) ∙ k.poly)

    -- only variables below the next new one are in them
    stands_below : (p q : Body) → bound ≤ fresh → uses_below fresh q ≡ true →
        Stands given bound ws fresh p q → uses_below fresh p ≡ true
    stands_below p q le below (Same e) = ap (uses_below fresh) e ∙ below
    stands_below p q le below (Known v c n o lt w s) =
        let less : v < fresh = omega (arith, lt, le) in
        ap (uses_below fresh) n ∙ variable_uses fresh v less
    stands_below p q le below (New v c n o lt g) =
        ap (uses_below fresh) n ∙ variable_uses fresh v lt

    pub aligned_below : (ps qs : List Body) → bound ≤ fresh → polys_use_below fresh qs ≡ true →
        Aligned ws fresh ps qs → polys_use_below fresh ps ≡ true
    aligned_below [] [] le below a = refl
    aligned_below [] (q ∷ qs) le below a = absurd a
    aligned_below (p ∷ ps) [] le below a = absurd a
    aligned_below (p ∷ ps) (q ∷ qs) le below a =
        let both = and_parts (uses_below fresh q) (polys_use_below fresh qs) below in
        and_from (uses_below fresh p) (polys_use_below fresh ps)
        (stands_below p q le both.0 a.0) (aligned_below ps qs le both.1 a.1)

    -- ---- rows

    pub rows_pushed : (rows : List Row) (row : Row) → All (RowStands given ws fresh) rows →
        RowStands given ws fresh row → All (RowStands given ws fresh) (pushed rows row)
    rows_pushed rows row all here = by (stands_among rows row)
      where
        by : (b : Bool) → All (RowStands given ws fresh) (cond b rows (rows ++ row ∷ []))
        by true = all
        by false = All-push (RowStands given ws fresh) rows row all here

    pub rows_themselves : All (RowStands given ws fresh) given
    rows_themselves = λ k d lt.
        OldRow (k, lt, get_or_default given k (get_or given k d) d lt)

    -- a row that is among them
    pub row_among : (rows : List Row) (row : Row) → All (RowStands given ws fresh) rows →
        stands_among rows row ≡ true → RowStands given ws fresh row
    row_among rows row all e =
        let c = stands-contains rows row e in
        subst (RowStands given ws fresh) c.2 (all c.0 row c.1)

    row_stands_below : (row : Row) → bound ≤ fresh → list_all (λ r. uses_below fresh (poly_of r)) given ≡
        true → RowStands given ws fresh row → uses_below fresh (poly_of row) ≡ true
    row_stands_below row le below (OldRow c) =
        subst (λ (r : Row). uses_below fresh (poly_of r) ≡ true) c.2
        (AllPass-from_list_all (λ r. uses_below fresh (poly_of r)) given below c.0 row c.1)
    row_stands_below row le below (NewRow v c e lt fits g) =
        ap (λ (r : Row). uses_below fresh (poly_of r)) e ∙ value_uses fresh v c lt

    pub rows_below : (rows : List Row) → bound ≤ fresh →
        list_all (λ r. uses_below fresh (poly_of r)) given ≡ true →
        All (RowStands given ws fresh) rows → list_all (λ r. uses_below fresh (poly_of r)) rows ≡ true
    rows_below [] le below all = refl
    rows_below (r ∷ rs) le below all =
        and_from (uses_below fresh (poly_of r)) (list_all (λ r. uses_below fresh (poly_of r)) rs)
        (row_stands_below r le below (All-head (RowStands given ws fresh) r rs all))
        (rows_below rs le below (All-tail (RowStands given ws fresh) r rs all))

    -- ---- a variable of which a row says that it is the number stands in its place

    known_by : (v : ℕ) (c : ℤ) → is_within (value_of v c) ≡ true →
        list_all (λ r. uses_below bound (poly_of r)) given ≡ true →
        (row : Row) → row ≡ Eq (value_of v c) → RowStands given ws fresh row →
        (q : Body) → q ≡ number c → Stands given bound ws fresh (variable v) q
    known_by v c within below row e (OldRow k) q same =
        let here : uses_below bound (poly_of row) ≡ true =
        subst (λ (r : Row). uses_below bound (poly_of r) ≡ true) k.2
        (AllPass-from_list_all (λ r. uses_below bound (poly_of r)) given below k.0 row k.1) in
        let uses : uses_below bound (value_of v c) ≡ true =
        sym (ap (λ (r : Row). uses_below bound (poly_of r)) e) ∙ here in
        Known v c refl same (value_below bound v c uses) within
        (ap (stands_among given) (sym e) ∙ contains-stands given row k.0 k.1 k.2)
    known_by v c within below row e (NewRow w d f lt fits g) q same =
        let both = one_value_row w v d c (ap poly_of (sym f ∙ e)) in
        let less : v < fresh = subst (λ (n : ℕ). n < fresh) both.0 lt in
        let gives : Gives ws v c =
        λ us. ap (replaced (ws ++ us)) (sym both.0) ∙ g us ∙ ap number both.1 in
        New v c refl same less gives

    pub known_stands : (v : ℕ) (c : ℤ) → is_within (value_of v c) ≡ true →
        list_all (λ r. uses_below bound (poly_of r)) given ≡ true → (rows : List Row) →
        All (RowStands given ws fresh) rows → stands_among rows (Eq (value_of v c)) ≡ true →
        (q : Body) → q ≡ number c → Stands given bound ws fresh (variable v) q
    known_stands v c within below rows all e q same =
        known_by v c within below (Eq (value_of v c)) refl
        (row_among rows (Eq (value_of v c)) all e) q same
