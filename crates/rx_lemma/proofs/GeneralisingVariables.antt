-- Variables in place of polynomials that occur repeatedly: each is replaced by its polynomial, so
-- the polynomials of the goal are instances of those that are there.
use Rattle.std.proofs.Common.{◌≡◌, ◌∙◌, ap, subst, cond, refl, ℕ, ◌+◌, ◌<◌, ◌≤◌, Bool, true, false, Option, Some, None, List, [], ◌∷◌, length, map, arith}
use Rattle.std.specs.Prelude.{nat_le, nat_lt}
use Rattle.std.specs.List.{find, list_all}
use Rattle.std.specs.Option.{option_map_or}
use Rattle.std.proofs.lemmas.Bool.{and_from, and_parts, eq-eqb, le-leb, lt-ltb, ne_eqb}
use Rattle.std.proofs.lemmas.Option.{same_Some}
use Rattle.rx_plain.specs.Formed.{pure}
use Rattle.rx_poly.proofs.Alone.{alone}
use Rattle.rx_poly.proofs.Same.{body_eq-sound}
use Rattle.rx_poly.specs.Constants.{variable}
use Rattle.rx_poly.specs.Normal.{is_poly}
use Rattle.rx_poly.specs.Substitution.{replaced}
use Rattle.rx_poly.specs.Variables.{uses_below, variable_bound}
use Rattle.rx_poly.specs.declared.body.Body.{Body}
use Rattle.rx_poly_laws.proofs.BoundLaws.{below_the_bound}
use Rattle.rx_poly_laws.proofs.TestLaws.{passes-variable}
use Rattle.rx_row.specs.declared.row.Row.{Row}
use Rattle.rx_term.specs.Variables.{polys_use_below}
use Rattle.rx_inference.specs.Pieces.{is_replacement, is_substitution, rises, variable_limit}
use Rattle.rx_lemma.specs.Repeated.{is_same_poly, new_variables, replaced_by}
use Rattle.rx_lemma.proofs.Polynomials.{are_polys, replaces_from, stays_itself}
use Rattle.rx_lemma.proofs.Common.{AreInstances, IsInstance, Nothing, OneMore, is_instance}

-- ---- the variable of a polynomial

abbrev is_for : Body → ℕ × Body → Bool
is_for p w = is_same_poly w.1 p

-- a variable that is found for a polynomial among those from a number on
record IsFor (from : ℕ) (ps : List Body) (p : Body) (v : ℕ) : Type 0 where
  above : from ≤ v
  below : v < from + length ps
  replaces : replaced (new_variables from ps) v ≡ p

found_for : (from : ℕ) (ps : List Body) (p : Body) (w : ℕ × Body) →
    find (is_for p) (new_variables from ps) ≡ Some w → IsFor from ps p w.0
found_for from [] p w e = cc
found_for from (q ∷ qs) p w e = by (found_for (from + 1) qs p w) (is_same_poly q p) refl e
  where
    others : List (ℕ × Body)
    others = new_variables (from + 1) qs

    by : (find (is_for p) others ≡ Some w → IsFor (from + 1) qs p w.0) → (b : Bool) →
        is_same_poly q p ≡ b → cond b (Some (from, q)) (find (is_for p) others) ≡ Some w →
        IsFor from (q ∷ qs) p w.0
    by further true same f =
        let is : (from, q) ≡ w = same_Some (from, q) w f in
        subst (λ (u : ℕ × Body). IsFor from (q ∷ qs) p u.0) is (record {
          above = omega arith;
          below = omega arith;
          replaces = ap (λ b. cond b q (replaced others from)) (eq-eqb from from refl) ∙
              body_eq-sound q p same;
        })
    by further false other f =
        let later = further f in
        let low = later.above in
        let high = later.below in
        record {
          above = omega (arith, low);
          below = omega (arith, high);
          replaces =
              ap (λ b. cond b q (replaced others w.0)) (ne_eqb from w.0 (λ e. omega (arith, e, low)))
              ∙ later.replaces;
        }

new_from : (m from : ℕ) (ps : List Body) → m ≤ from →
    replaces_from m (new_variables from ps) ≡ true
new_from m from [] h = refl
new_from m from (p ∷ ps) h =
    and_from (nat_le m from) (replaces_from m (new_variables (from + 1) ps)) (le-leb m from h)
    (new_from m (from + 1) ps (omega (arith, h)))

pub replace_new_ones : (m : ℕ) (ps : List Body) → replaces_from m (new_variables m ps) ≡ true
replace_new_ones m ps = new_from m m ps (omega arith)

-- ---- they are a substitution

rise_from : (low from : ℕ) (ps : List Body) → low ≤ from →
    rises low (new_variables from ps) ≡ true
rise_from low from [] h = refl
rise_from low from (p ∷ ps) h =
    and_from (nat_le low from) (rises (from + 1) (new_variables (from + 1) ps)) (le-leb low from h)
    (rise_from (from + 1) (from + 1) ps (omega arith))

are_replacements : (from : ℕ) (ps : List Body) → from + length ps ≤ variable_limit →
    polys_use_below variable_limit ps ≡ true →
    list_all is_replacement (new_variables from ps) ≡ true
are_replacements from [] h below = refl
are_replacements from (p ∷ ps) h below =
    let both = and_parts (uses_below variable_limit p) (polys_use_below variable_limit ps) below in
    let bound : variable_bound p ≤ variable_limit = (below_the_bound variable_limit p).0 both.0 in
    let low : from < variable_limit = omega (arith, h) in
    and_from (is_replacement (from, p)) (list_all is_replacement (new_variables (from + 1) ps))
    (and_from (nat_lt from variable_limit) (nat_le (variable_bound p) variable_limit)
    (lt-ltb from variable_limit low) (le-leb (variable_bound p) variable_limit bound))
    (are_replacements (from + 1) ps (omega (arith, h)) both.1)

pub new_ones_substitute : (from : ℕ) (ps : List Body) → from + length ps ≤ variable_limit →
    polys_use_below variable_limit ps ≡ true → is_substitution (new_variables from ps) ≡ true
new_ones_substitute from ps h below =
    and_from (rises 0 (new_variables from ps)) (list_all is_replacement (new_variables from ps))
    (rise_from 0 from ps (omega arith)) (are_replacements from ps h below)

-- ---- polynomials with variables in place of some

module _ (given : List Row) (m : ℕ) (ps : List Body) where
  abbrev ws : List (ℕ × Body)
  ws = new_variables m ps

  abbrev by_found : Body → Option (ℕ × Body) → Body
  by_found p found = option_map_or (λ (w : ℕ × Body). variable w.0) found p

  pub replaced_instance : (p : Body) → is_poly p ≡ true → uses_below m p ≡ true →
      IsInstance ws given (replaced_by ws p) p
  unfolding replaced_by
  replaced_instance p poly below = by (find (is_for p) ws) refl
    where
      by : (o : Option (ℕ × Body)) → find (is_for p) ws ≡ o → IsInstance ws given (by_found p o) p
      by None e =
          is_instance ws given p p poly (stays_itself ws m (replace_new_ones m ps) p poly below)
      by (Some w) e =
          let f = found_for m ps p w e in
          is_instance ws given (variable w.0) p poly
          (alone ws w.0 (ap is_poly f.replaces ∙ poly) ∙ ap pure f.replaces)

  pub replaced_instances : (qs : List Body) → are_polys qs ≡ true → polys_use_below m qs ≡ true →
      AreInstances ws given (map (replaced_by ws) qs) qs
  replaced_instances [] poly below = Nothing
  replaced_instances (q ∷ qs) poly below =
      let normal = and_parts (is_poly q) (are_polys qs) poly in
      let low = and_parts (uses_below m q) (polys_use_below m qs) below in
      OneMore (replaced_by ws q) q (map (replaced_by ws) qs) qs
      (replaced_instance q normal.0 low.0) (replaced_instances qs normal.1 low.1)

  module _ (limit : ℕ) (enough : m + length ps ≤ limit) where
    pub replaced_below : (p : Body) → uses_below limit p ≡ true →
        uses_below limit (replaced_by ws p) ≡ true
    unfolding replaced_by
    replaced_below p below = by (find (is_for p) ws) refl
      where
        by : (o : Option (ℕ × Body)) → find (is_for p) ws ≡ o →
            uses_below limit (by_found p o) ≡ true
        by None e = below
        by (Some w) e =
            let f = found_for m ps p w e in
            let high = f.below in
            let low : w.0 < limit = omega (arith, high, enough) in
            passes-variable (λ v. nat_lt v limit) w.0 (lt-ltb w.0 limit low)

    pub all_replaced_below : (qs : List Body) → polys_use_below limit qs ≡ true →
        polys_use_below limit (map (replaced_by ws) qs) ≡ true
    all_replaced_below [] below = refl
    all_replaced_below (q ∷ qs) below =
        let both = and_parts (uses_below limit q) (polys_use_below limit qs) below in
        and_from (uses_below limit (replaced_by ws q))
        (polys_use_below limit (map (replaced_by ws) qs)) (replaced_below q both.0)
        (all_replaced_below qs both.1)
