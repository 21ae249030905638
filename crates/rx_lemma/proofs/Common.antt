-- When the step from a goal to a lemma is lawful: polynomial by polynomial, and row by row.
use Rattle.std.proofs.Common.{◌≡◌, ◌∙◌, ap, subst, sym, cond, refl, ℕ, Bool, true, false, ◌&&◌, Ok, Err, List, [], ◌∷◌, ◌++◌}
use Rattle.std.specs.List.{All}
use Rattle.std.proofs.lemmas.Bool.{and_from, or_left, or_right}
use Rattle.std.proofs.lemmas.List.Elements.{All-head, All-tail}
use Rattle.std.proofs.lemmas.List.Folds.{list_all-append}
use Rattle.rx_plain.specs.Formed.{Formed, pure, ◌>>=◌, ◌<$>◌}
use Rattle.rx_poly.proofs.Levels.{terms-of_terms}
use Rattle.rx_poly.specs.Limits.{body_difference, is_within, of_terms}
use Rattle.rx_poly.specs.Normal.{is_poly}
use Rattle.rx_poly.specs.Reading.{constant_of}
use Rattle.rx_poly.specs.Substitution.{subst_body}
use Rattle.rx_poly.specs.Terms.{is_zero}
use Rattle.rx_poly.specs.declared.body.Body.{Body}
use Rattle.rx_poly_laws.proofs.SumCoefficients.{minus_itself}
use Rattle.rx_row.specs.Membership.{stands_among}
use Rattle.rx_row.specs.Parts.{poly_of}
use Rattle.rx_row.specs.Substitution.{row_within, rows_with, subst_row}
use Rattle.rx_row.specs.Variables.{row_uses_below}
use Rattle.rx_row.specs.declared.row.Row.{Row}
use Rattle.rx_row.specs.declared.row.Row.TheVariants.{Ge, Eq, Ne}
use Rattle.rx_term.proofs.Equations.{arguments-Return, arguments-Fail, arguments-Call, arguments-Frame, induct, within-Return, within-Fail, within-Call, within-Frame}
use Rattle.rx_term.proofs.KeepingLaws.{arguments_in_term}
use Rattle.rx_term.specs.Domains.{inside_of}
use Rattle.rx_term.specs.Substitution.{polys_within, subst_polys, subst_term, term_within}
use Rattle.rx_term.specs.Variables.{arguments_of}
use Rattle.rx_term.specs.declared.rule.Equation.{Equation}
use Rattle.rx_term.specs.declared.rule_set.RuleParts.{RuleParts}
use Rattle.rx_term.specs.declared.term.Term.{Term}
use Rattle.rx_cert.specs.Conditions.{is_evident, is_number_with, is_plain_row}
use Rattle.rx_cert.specs.Findings.{Said, Yes, and_also}
use Rattle.rx_cert.specs.Showing.{all_shown, negation_said, shown}
use Rattle.rx_cert.proofs.FindingLaws.{both_parts}
use Rattle.rx_solve.specs.Refuter.{refuted}
use Rattle.rx_inference.specs.Forming.{limited, provided}
use Rattle.rx_inference.specs.Making.{generalised_by, instance_equals, instance_rows, side_rows}
use Rattle.rx_inference.specs.Pieces.{equal_lists, have_one_shape, is_equation, is_substitution}
use Rattle.rx_inference.specs.declared.form_end.FormEnd.TheVariants.{Large}
use Rattle.rx_lemma.specs.Lemmas.{Generalisation}
use Rattle.rx_lemma.specs.Lawful.{IsLawfulInside}
use Rattle.rx_lemma.proofs.Polynomials.{none_left, replaces_from, stays_itself}

-- ---- what is shown

pub yes_both : (first later : Said) → first ≡ Yes → later ≡ Yes → and_also first later ≡ Yes
yes_both first later h k = ap (λ (s : Said). and_also s later) h ∙ k

-- 0 is 0
pub zero_is_plain : (given : List Row) → is_plain_row given (Eq (of_terms [])) ≡ true
zero_is_plain given =
    or_right (stands_among given (Eq (of_terms []))) (is_evident (Eq (of_terms [])))
    (ap (λ ts. is_number_with is_zero (constant_of ts)) (terms-of_terms []))

module _ (given : List Row) where
  -- a plain row is shown
  pub plain_is_shown : (r : Row) → is_plain_row given r ≡ true → shown refuted given r ≡ Yes
  plain_is_shown r h = ap (λ b. cond b Yes (negation_said refuted given r)) h

  pub row_of_goal : (r : Row) → stands_among given r ≡ true → shown refuted given r ≡ Yes
  row_of_goal r h = plain_is_shown r (or_left (stands_among given r) (is_evident r) h)

  pub shown_together : (rows more : List Row) → all_shown refuted given rows ≡ Yes →
      all_shown refuted given more ≡ Yes → all_shown refuted given (rows ++ more) ≡ Yes
  shown_together [] more h k = k
  shown_together (r ∷ rows) more h k =
      let both = both_parts (shown refuted given r) (all_shown refuted given rows) h in
      yes_both (shown refuted given r) (all_shown refuted given (rows ++ more)) both.0
      (shown_together rows more both.1 k)

  -- rows that are formed within the limits, and shown
  pub record AreShown (f : Formed (List Row)) : Type 0 where
    pub within : f.within ≡ true
    pub follow : all_shown refuted given f.form ≡ Yes

  -- two lists of them
  pub both_shown : (f g : Formed (List Row)) → AreShown f → AreShown g →
      AreShown (do
        rows ← f
        (λ more. rows ++ more) <$> g)
  both_shown f g h k = record {
    within = and_from f.within g.within h.within k.within;
    follow = shown_together f.form g.form h.follow k.follow;
  }

module _ (ws : List (ℕ × Body)) (given : List Row) where
  -- ---- polynomials

  -- a polynomial is an instance of the first one: the row that says that they are equal is formed
  -- within the limits, and plain
  pub record IsInstance (q p : Body) : Type 0 where
    pub within : (subst_body ws q).within ≡ true
    pub close : is_within (body_difference (subst_body ws q).form p) ≡ true
    pub plain : is_plain_row given (Eq (body_difference (subst_body ws q).form p)) ≡ true

  -- so where it is what comes of the first
  pub is_instance : (q p : Body) → is_poly p ≡ true → subst_body ws q ≡ pure p → IsInstance q p
  is_instance q p h e = record {
    within = ap (λ (f : Formed Body). f.within) e;
    close = ap (λ (f : Formed Body). is_within (body_difference f.form p)) e ∙ none_left p h;
    plain =
        ap (λ (f : Formed Body). is_plain_row given (Eq (body_difference f.form p))) e
        ∙ ap (λ (d : Body). is_plain_row given (Eq d)) (minus_itself p h) ∙ zero_is_plain given;
  }

  -- one by one
  pub data AreInstances : List Body → List Body → Type 0 where
    Nothing : AreInstances [] []
    OneMore : (q p : Body) (qs ps : List Body) → IsInstance q p → AreInstances qs ps →
        AreInstances (q ∷ qs) (p ∷ ps)

  pub instances_together : (qs ps rs ss : List Body) → AreInstances qs ps → AreInstances rs ss →
      AreInstances (qs ++ rs) (ps ++ ss)
  instances_together _ _ rs ss Nothing k = k
  instances_together _ _ rs ss (OneMore q p qs ps here h) k =
      OneMore q p (qs ++ rs) (ps ++ ss) here (instances_together qs ps rs ss h k)

  instances_within : (qs ps : List Body) → AreInstances qs ps → polys_within ws qs ≡ true
  instances_within _ _ Nothing = refl
  instances_within _ _ (OneMore q p qs ps here h) =
      and_from (subst_body ws q).within (polys_within ws qs) here.within
      (instances_within qs ps h)

  lists_shown : (qs ps : List Body) → AreInstances qs ps →
      AreShown given (equal_lists (subst_polys ws qs) ps)
  lists_shown _ _ Nothing = record { within = refl; follow = refl }
  lists_shown _ _ (OneMore q p qs ps here h) =
      let rest = lists_shown qs ps h in
      let d = body_difference (subst_body ws q).form p in
      let more = equal_lists (subst_polys ws qs) ps in
      record {
        within = and_from (is_within d) more.within here.close rest.within;
        follow = yes_both (shown refuted given (Eq d)) (all_shown refuted given more.form)
            (plain_is_shown given (Eq d) here.plain) rest.follow;
      }

  -- ---- terms

  within_by_arguments : (t : Term) → term_within ws t ≡ polys_within ws (arguments_of t)
  within_by_arguments = induct (λ t. term_within ws t ≡ polys_within ws (arguments_of t))
      (λ p. within-Return ws p ∙ sym (alone (subst_body ws p).within) ∙
      sym (ap (polys_within ws) (arguments-Return p)))
      (λ c. within-Fail ws c ∙ sym (ap (polys_within ws) (arguments-Fail c)))
      (λ f ps. within-Call ws f ps ∙ sym (ap (polys_within ws) (arguments-Call f ps)))
      (λ f ps t inner. within-Frame ws f ps t ∙ ap (λ b. polys_within ws ps && b) inner
      ∙ sym (list_all-append (λ (p : Body). (subst_body ws p).within) ps (arguments_of t))
      ∙ sym (ap (polys_within ws) (arguments-Frame f ps t)))
    where
      alone : (b : Bool) → (b && true) ≡ b
      alone true = refl
      alone false = refl

  -- a side is an instance of the lemma's where its polynomials are
  pub side_shown : (s t : Term) → AreInstances (arguments_of s) (arguments_of t) →
      AreShown given (instance_equals ws s t)
  side_shown s t h =
      let rows = lists_shown (arguments_of s) (arguments_of t) h in
      let of_lists = λ (qs : List Body). equal_lists qs (arguments_of t) in
      let is = sym (arguments_in_term ws s) in
      record {
        within =
            and_from (term_within ws s) (of_lists (arguments_of (subst_term ws s))).within
            (within_by_arguments s ∙ instances_within (arguments_of s) (arguments_of t) h)
            (subst (λ (qs : List Body). (of_lists qs).within ≡ true) is rows.within);
        follow = subst (λ (qs : List Body). all_shown refuted given (of_lists qs).form ≡ Yes) is
            rows.follow;
      }

  -- ---- rows

  -- the instance of the row is formed within the limits, and shown
  pub record HasInstance (r : Row) : Type 0 where
    pub within : row_within ws r ≡ true
    pub follows : shown refuted given (subst_row ws r) ≡ Yes

  pub rows_shown : (rows : List Row) → All HasInstance rows → AreShown given (rows_with ws rows)
  rows_shown [] h = record { within = refl; follow = refl }
  rows_shown (r ∷ rows) h =
      let here = All-head HasInstance r rows h in
      let rest = rows_shown rows (All-tail HasInstance r rows h) in
      let more = rows_with ws rows in
      record {
        within = and_from (row_within ws r) more.within here.within rest.within;
        follow = yes_both (shown refuted given (subst_row ws r))
            (all_shown refuted given more.form) here.follows rest.follow;
      }

  kept_as : (of_poly : Body → Row) (p : Body) → subst_body ws p ≡ pure p →
      stands_among given (of_poly p) ≡ true →
      shown refuted given (of_poly (subst_body ws p).form) ≡ Yes
  kept_as of_poly p e h =
      ap (λ (f : Formed Body). shown refuted given (of_poly f.form)) e ∙
      row_of_goal given (of_poly p) h

  -- a row of the goal is, where its variables stay what they are
  pub kept_row : (m : ℕ) → replaces_from m ws ≡ true → (r : Row) → is_poly (poly_of r) ≡ true →
      row_uses_below m r ≡ true → stands_among given r ≡ true → HasInstance r
  kept_row m above (Ge p) poly below h =
      let e = stays_itself ws m above p poly below in
      record { within = ap (λ (f : Formed Body). f.within) e; follows = kept_as Ge p e h }
  kept_row m above (Eq p) poly below h =
      let e = stays_itself ws m above p poly below in
      record { within = ap (λ (f : Formed Body). f.within) e; follows = kept_as Eq p e h }
  kept_row m above (Ne p) poly below h =
      let e = stays_itself ws m above p poly below in
      record { within = ap (λ (f : Formed Body). f.within) e; follows = kept_as Ne p e h }

-- ---- the step

-- what a lemma is like that makes a lawful step
pub record IsMoreGeneral (parts : RuleParts) (goal : Equation) (lemma : Generalisation) : Type 0
  where
    pub fits : is_equation parts lemma.goal ≡ true
    pub substitutes : is_substitution lemma.subst ≡ true
    pub left_shape : have_one_shape lemma.goal.left goal.left ≡ true
    pub right_shape : have_one_shape lemma.goal.right goal.right ≡ true
    pub left : AreInstances lemma.subst goal.rows (arguments_of lemma.goal.left)
        (arguments_of goal.left)
    pub right : AreInstances lemma.subst goal.rows (arguments_of lemma.goal.right)
        (arguments_of goal.right)
    pub rows : All (HasInstance lemma.subst goal.rows) lemma.goal.rows

pub lawful : (parts : RuleParts) (goal : Equation) (lemma : Generalisation) →
    IsMoreGeneral parts goal lemma → IsLawfulInside parts goal lemma
lawful parts goal lemma m stays =
    let new = lemma.goal in
    let ws = lemma.subst in
    let left = side_shown ws goal.rows new.left goal.left m.left in
    let right = side_shown ws goal.rows new.right goal.right m.right in
    let sides = both_shown goal.rows (instance_equals ws new.left goal.left)
    (instance_equals ws new.right goal.right) left right in
    let whole = both_shown goal.rows (side_rows ws new goal) (rows_with ws new.rows) sides
    (rows_shown ws goal.rows new.rows m.rows) in
    let shapes = have_one_shape new.left goal.left && have_one_shape new.right goal.right in
    let asked = instance_rows ws new goal in
    let inside = inside_of parts new in
    let made = generalised_by parts goal new ws in
    let tests : (is_equation parts new && (is_substitution ws && shapes)) ≡ true =
    and_from (is_equation parts new) (is_substitution ws && shapes) m.fits
    (and_from (is_substitution ws) shapes m.substitutes
    (and_from (have_one_shape new.left goal.left) (have_one_shape new.right goal.right)
    m.left_shape m.right_shape)) in
    record {
      rows = asked.form;
      inside = inside.form;
      formed = ap (λ b. provided b (limited made)) tests
          ∙ ap (λ b. cond b (Ok made.form) (Err Large))
          (and_from asked.within inside.within whole.within stays.within);
      follows = whole.follow;
      stays = stays.follows;
    }
