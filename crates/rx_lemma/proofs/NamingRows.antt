-- The polynomials and rows that stand in place of a goal's are instances of these, as a step asks.
use Rattle.std.proofs.Common.{◌≡◌, ◌∙◌, ap, subst, sym, ℕ, true, List, [], ◌∷◌, All, ℤ}
use Rattle.std.specs.List.{list_all}
use Rattle.std.proofs.lemmas.Bool.{and_parts, or_left}
use Rattle.std.proofs.lemmas.List.{append-nil}
use Rattle.std.proofs.lemmas.List.Elements.{All-weaker}
use Rattle.std.proofs.lemmas.List.Sums.{AllPass-from_list_all}
use Rattle.rx_plain.specs.Formed.{Formed, pure}
use Rattle.rx_poly.specs.Constants.{number, variable}
use Rattle.rx_poly.specs.Limits.{body_difference, is_within}
use Rattle.rx_poly.specs.Normal.{is_poly}
use Rattle.rx_poly.specs.Substitution.{replaced, subst_body}
use Rattle.rx_poly.specs.Variables.{uses_below}
use Rattle.rx_poly.specs.declared.body.Body.{Body}
use Rattle.rx_poly.proofs.Alone.{replaced_alone}
use Rattle.rx_poly.proofs.Constants.{variable_poly}
use Rattle.rx_row.specs.Membership.{stands_among}
use Rattle.rx_row.specs.Parts.{poly_of}
use Rattle.rx_row.specs.Substitution.{row_within, subst_row}
use Rattle.rx_row.specs.declared.row.Row.{Row}
use Rattle.rx_row.specs.declared.row.Row.TheVariants.{Eq}
use Rattle.rx_row.proofs.Membership.{contains-stands}
use Rattle.rx_cert.specs.Conditions.{is_evident, is_plain_row}
use Rattle.rx_term.specs.Variables.{polys_use_below}
use Rattle.rx_lemma.proofs.Common.{AreInstances, HasInstance, IsInstance, Nothing, OneMore, is_instance, kept_row, plain_is_shown, zero_is_plain}
use Rattle.rx_lemma.proofs.NamingStanding.{Aligned, Gives, RowStands, Stands, OldRow, NewRow, Same, Known, New}
use Rattle.rx_lemma.proofs.NamingValues.{in_value, variable_uses}
use Rattle.rx_lemma.proofs.Polynomials.{replaces_from, stays_itself}

module _ (given : List Row) (bound : ℕ) (ws : List (ℕ × Body)) (fresh : ℕ)
    (above : replaces_from bound ws ≡ true) where
  -- what replaces the variable, where nothing more is in the list
  replaced_by : (v : ℕ) (c : ℤ) → Gives ws v c → replaced ws v ≡ number c
  replaced_by v c g = ap (λ (xs : List (ℕ × Body)). replaced xs v) (sym (append-nil ws)) ∙ g []

  -- ---- polynomials

  instance_by : (p q r : Body) → subst_body ws p ≡ pure r → is_within (body_difference r q) ≡
      true → is_plain_row given (Eq (body_difference r q)) ≡ true → IsInstance ws given p q
  instance_by p q r e w h = record {
    within = ap (λ (f : Formed Body). f.within) e;
    close = ap (λ (f : Formed Body). is_within (body_difference f.form q)) e ∙ w;
    plain = ap (λ (f : Formed Body). is_plain_row given (Eq (body_difference f.form q))) e ∙ h;
  }

  one_instance : (p q : Body) → is_poly q ≡ true → uses_below bound q ≡ true →
      Stands given bound ws fresh p q → IsInstance ws given p q
  one_instance p q poly below (Same e) =
      is_instance ws given p q poly
      (ap (subst_body ws) e ∙ stays_itself ws bound above q poly below)
  one_instance p q poly below (Known v c n o lt w s) =
      let alone = ap (subst_body ws) n ∙
      stays_itself ws bound above (variable v) (variable_poly v) (variable_uses bound v lt) in
      instance_by p q (variable v) alone
      (ap (λ (b : Body). is_within (body_difference (variable v) b)) o ∙ w)
      (or_left (stands_among given (Eq (body_difference (variable v) q)))
      (is_evident (Eq (body_difference (variable v) q)))
      (ap (λ (b : Body). stands_among given (Eq (body_difference (variable v) b))) o ∙ s))
  one_instance p q poly below (New v c n o lt g) =
      is_instance ws given p q poly
      (replaced_alone ws v p n (o ∙ sym (replaced_by v c g)) poly)

  pub all_instances : (ps qs : List Body) → list_all is_poly qs ≡ true → polys_use_below bound qs ≡
      true → Aligned given bound ws fresh ps qs → AreInstances ws given ps qs
  all_instances [] [] polys below a = Nothing
  all_instances [] (q ∷ qs) polys below a = absurd a
  all_instances (p ∷ ps) [] polys below a = absurd a
  all_instances (p ∷ ps) (q ∷ qs) polys below a =
      let poly = and_parts (is_poly q) (list_all is_poly qs) polys in
      let less = and_parts (uses_below bound q) (polys_use_below bound qs) below in
      OneMore p q ps qs (one_instance p q poly.0 less.0 a.0)
      (all_instances ps qs poly.1 less.1 a.1)

  -- ---- rows

  module _ (polys : list_all (λ r. is_poly (poly_of r)) given ≡ true)
      (below : list_all (λ r. uses_below bound (poly_of r)) given ≡ true) where
    row_instance : (row : Row) → RowStands given ws fresh row → HasInstance ws given row
    row_instance row (OldRow c) =
        let poly : is_poly (poly_of row) ≡ true =
        subst (λ (r : Row). is_poly (poly_of r) ≡ true) c.2
        (AllPass-from_list_all (λ r. is_poly (poly_of r)) given polys c.0 row c.1) in
        let uses : uses_below bound (poly_of row) ≡ true =
        subst (λ (r : Row). uses_below bound (poly_of r) ≡ true) c.2
        (AllPass-from_list_all (λ r. uses_below bound (poly_of r)) given below c.0 row c.1) in
        kept_row ws given bound above row poly uses (contains-stands given row c.0 c.1 c.2)
    row_instance row (NewRow v c e lt fits g) =
        let zero = in_value ws v c fits (replaced_by v c g) in
        let plain : is_plain_row given (subst_row ws row) ≡ true =
        ap (λ (r : Row). is_plain_row given (subst_row ws r)) e
        ∙ ap (λ (f : Formed Body). is_plain_row given (Eq f.form)) zero ∙ zero_is_plain given in
        record {
          within = ap (row_within ws) e ∙ ap (λ (f : Formed Body). f.within) zero;
          follows = plain_is_shown given (subst_row ws row) plain;
        }

    pub rows_instances : (rows : List Row) → All (RowStands given ws fresh) rows →
        All (HasInstance ws given) rows
    rows_instances rows all =
        All-weaker (RowStands given ws fresh) (HasInstance ws given) row_instance rows all
