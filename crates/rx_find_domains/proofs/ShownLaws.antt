-- Where each row of the lists is kept at each occurrence, the goal and the rules keep them as
-- domains: the rows that put each part inside are formed within the limits, and shown.
use Rattle.std.proofs.Common.{◌≡◌, ◌∙◌, ap, sym, subst, refl, ℕ, true, Option, Some, None, List, [], ◌∷◌, ◌++◌, map}
use Rattle.std.specs.List.{All}
use Rattle.std.specs.Option.{option_map_or}
use Rattle.std.proofs.lemmas.Bool.{and_from, and_parts}
use Rattle.std.proofs.lemmas.List.{append-nil}
use Rattle.std.proofs.lemmas.List.Elements.{All-cons, All-head, All-nil, All-tail}
use Rattle.rx_plain.specs.Formed.{Formed, pure}
use Rattle.rx_poly.specs.Substitution.{numbered}
use Rattle.rx_poly.specs.declared.body.Body.{Body}
use Rattle.rx_row.specs.Substitution.{row_with, rows_with}
use Rattle.rx_row.specs.declared.row.Row.{Row}
use Rattle.rx_cert.specs.Findings.{Said, Yes, No, Beyond, and_also}
use Rattle.rx_cert.specs.Showing.{all_shown, shown}
use Rattle.rx_solve.specs.Refuter.{refuted}
use Rattle.rx_pairs.specs.Pairs.{Part, part}
use Rattle.rx_term.specs.Domains.{domain_of, inside_rows, rows_at}
use Rattle.rx_term.specs.Stacks.{root_of}
use Rattle.rx_term.specs.declared.rule.Equation.{Equation}
use Rattle.rx_term.specs.declared.rule.Rule.{Rule}
use Rattle.rx_term.specs.declared.rule_set.RuleParts.{RuleParts}
use Rattle.rx_term.specs.declared.term.Sym.{Sym}
use Rattle.rx_term.specs.declared.term.Term.{Term}
use Rattle.rx_term.specs.declared.term.Term.TheFolds.{fold_out-Term}
use Rattle.rx_term.specs.declared.term.Term.TheVariants.{Return, Fail, Call, Frame, outs-Return, outs-Fail, outs-Call, outs-Frame}
use Rattle.rx_term.proofs.Collecting.{inside-Call, inside-Fail, inside-Frame, inside-Return, over_rows}
use Rattle.rx_term.proofs.Equations.{induct}
use Rattle.rx_domain.specs.Keeping.{goal_part, rule_part}
use Rattle.rx_domain.specs.Setting.{with_domains}
use Rattle.rx_find_domains.specs.Finding.{given_rows, is_kept, is_yes, list_of, rows_before}
use Rattle.rx_find_domains.specs.Kept.{AreAllShown, IsShown}
use Rattle.rx_find_domains.specs.Parts.{all_askings, goal_asking, occurrences_level, occurrences_of, rule_asking, rule_given}
use Rattle.rx_find_domains.specs.declared.given.Given.{Given}
use Rattle.rx_find_domains.proofs.PassLaws.{OccurrenceKept, PartKept}

-- ---- rows that are formed and shown

pub record Shows (given : List Row) (asked : Formed (List Row)) : Type 0 where
  pub within : asked.within ≡ true
  pub shows : all_shown refuted given asked.form ≡ Yes

says_yes : (s : Said) → is_yes s ≡ true → s ≡ Yes
says_yes Yes e = refl
says_yes No e = cc
says_yes Beyond e = cc

none_shown : (given : List Row) → Shows given (pure [])
none_shown given = record { within = refl; shows = refl }

both_yes : (s t : Said) → s ≡ Yes → t ≡ Yes → and_also s t ≡ Yes
both_yes s t e f = ap (λ (r : Said). and_also r t) e ∙ f

-- the rows of one list and then of another
all_append : (given rows more : List Row) → all_shown refuted given rows ≡ Yes →
    all_shown refuted given more ≡ Yes → all_shown refuted given (rows ++ more) ≡ Yes
all_append given [] more e f = f
all_append given (row ∷ rows) more e f =
    by (shown refuted given row) refl e (λ g. all_append given rows more g f) where
      by : (s : Said) → shown refuted given row ≡ s
          → and_also s (all_shown refuted given rows) ≡ Yes
          → (all_shown refuted given rows ≡ Yes →
          all_shown refuted given (rows ++ more) ≡ Yes)
          → and_also (shown refuted given row) (all_shown refuted given (rows ++ more)) ≡ Yes
      by Yes is e rest =
          both_yes (shown refuted given row) (all_shown refuted given (rows ++ more)) is (rest e)
      by No is e rest = cc
      by Beyond is e rest = cc

both_shown : (given : List Row) (own inner : Formed (List Row)) → Shows given own →
    Shows given inner → Shows given (over_rows own inner)
both_shown given own inner first second = record {
  within = and_from own.within inner.within first.within second.within;
  shows = all_append given own.form inner.form first.shows second.shows;
}

-- ---- one occurrence

module _ (given : List Row) (ps : List Body) where
  abbrev Kept : Row → Type 0
  Kept row = is_kept given ps row ≡ true

  pub rows_shown : (rows : List Row) → All Kept rows → Shows given (rows_with (numbered ps) rows)
  rows_shown [] all = none_shown given
  rows_shown (row ∷ rows) all =
      let here = row_with (numbered ps) row in
      let kept = and_parts here.within (is_yes (shown refuted given here.form))
      (All-head Kept row rows all) in
      let rest = rows_shown rows (All-tail Kept row rows all) in
      let more = rows_with (numbered ps) rows in
      record {
        within = and_from here.within more.within kept.0 rest.within;
        shows =
            both_yes (shown refuted given here.form) (all_shown refuted given more.form)
            (says_yes (shown refuted given here.form) kept.1) rest.shows;
      }

-- ---- all occurrences of a term

pub occurrences-Return : (p : Body) → occurrences_of (Return p) ≡ []
occurrences-Return p =
    fold_out-Term (List Part) occurrences_level (Return p) ∙ rw (outs-Return p) refl

pub occurrences-Fail : (c : ℕ) → occurrences_of (Fail c) ≡ []
occurrences-Fail c =
    fold_out-Term (List Part) occurrences_level (Fail c) ∙ rw (outs-Fail c) refl

pub occurrences-Call : (f : Sym) (ps : List Body) → occurrences_of (Call f ps) ≡ part f ps ∷ []
occurrences-Call f ps =
    fold_out-Term (List Part) occurrences_level (Call f ps) ∙ rw (outs-Call f ps) refl

pub occurrences-Frame : (f : Sym) (ps : List Body) (t : Term) →
    occurrences_of (Frame f ps t) ≡ part f ps ∷ occurrences_of t
occurrences-Frame f ps t =
    fold_out-Term (List Part) occurrences_level (Frame f ps t) ∙ rw (outs-Frame f ps t) refl

module _ (parts : RuleParts) (lists : List (List Row)) (given : Given) where
  abbrev TermShown : Term → Type 0
  TermShown t =
      All (OccurrenceKept given lists) (occurrences_of t) →
      Shows (given_rows given lists) (inside_rows (with_domains parts lists) t)

  one_shown : (f : Sym) (ps : List Body) → OccurrenceKept given lists (part f ps) →
      Shows (given_rows given lists) (rows_at (with_domains parts lists) f.0 ps)
  one_shown f ps kept = rows_shown (given_rows given lists) ps (list_of lists f.0) kept

  pub term_shown : (t : Term) → TermShown t
  term_shown = induct TermShown
      (λ p all. subst (Shows (given_rows given lists))
      (sym (inside-Return (with_domains parts lists) p)) (none_shown (given_rows given lists)))
      (λ c all. subst (Shows (given_rows given lists))
      (sym (inside-Fail (with_domains parts lists) c)) (none_shown (given_rows given lists)))
      (λ f ps all. subst (Shows (given_rows given lists))
      (sym (inside-Call (with_domains parts lists) f ps))
      (one_shown f ps (All-head (OccurrenceKept given lists) (part f ps) []
      (subst (All (OccurrenceKept given lists)) (occurrences-Call f ps) all))))
      (λ f ps t inner all.
      let each = subst (All (OccurrenceKept given lists)) (occurrences-Frame f ps t) all in
      subst (Shows (given_rows given lists)) (sym (inside-Frame (with_domains parts lists) f ps t))
      (both_shown (given_rows given lists) (rows_at (with_domains parts lists) f.0 ps)
      (inside_rows (with_domains parts lists) t)
      (one_shown f ps (All-head (OccurrenceKept given lists) (part f ps) (occurrences_of t) each))
      (inner (All-tail (OccurrenceKept given lists) (part f ps) (occurrences_of t) each))))

-- ---- the parts

all_parts : {A : Type 0} (P : A → Type 0) (xs ys : List A) → All P (xs ++ ys) → All P xs × All P ys
all_parts P [] ys all = (All-nil P, all)
all_parts P (x ∷ xs) ys all =
    let rest = all_parts P xs ys (All-tail P x (xs ++ ys) all) in
    (All-cons P x xs (All-head P x (xs ++ ys) all) rest.0, rest.1)

-- what is given at a rule is what is given of it where the lists are the domains
pub given_of_rule : (parts : RuleParts) (lists : List (List Row)) (rule : Rule) →
    given_rows (rule_given rule) lists ≡ (rule_part (with_domains parts lists) rule).given
given_of_rule parts lists rule = by (root_of rule.left) where
  by : (root : Option Sym) → rows_before rule.rows lists root ≡
      rule.rows ++ option_map_or (λ (f : Sym). domain_of (with_domains parts lists) f.0) root []
  by None = sym (append-nil rule.rows)
  by (Some f) = refl

module _ (parts : RuleParts) (lists : List (List Row)) where
  goal_shown : (goal : Equation) → PartKept lists (goal_asking goal) →
      IsShown (goal_part (with_domains parts lists) goal)
  goal_shown goal kept =
      let given = (goal_asking goal).given in
      let sides = all_parts (OccurrenceKept given lists) (occurrences_of goal.left)
      (occurrences_of goal.right) kept in
      let left = inside_rows (with_domains parts lists) goal.left in
      let right = inside_rows (with_domains parts lists) goal.right in
      let both = both_shown goal.rows left right
      (term_shown parts lists given goal.left sides.0)
      (term_shown parts lists given goal.right sides.1) in
      record { within = both.within; shows = both.shows }

  rule_shown : (rule : Rule) → PartKept lists (rule_asking rule) →
      IsShown (rule_part (with_domains parts lists) rule)
  rule_shown rule kept =
      let right = subst (λ (rows : List Row).
      Shows rows (inside_rows (with_domains parts lists) rule.right))
      (given_of_rule parts lists rule)
      (term_shown parts lists (rule_given rule) rule.right kept) in
      record { within = right.within; shows = right.shows }

  rules_shown : (rules : List Rule) → All (PartKept lists) (map rule_asking rules) →
      All IsShown (map (rule_part (with_domains parts lists)) rules)
  rules_shown [] all = All-nil IsShown
  rules_shown (rule ∷ rules) all =
      All-cons IsShown (rule_part (with_domains parts lists) rule)
      (map (rule_part (with_domains parts lists)) rules)
      (rule_shown rule (All-head (PartKept lists) (rule_asking rule) (map rule_asking rules) all))
      (rules_shown rules
      (All-tail (PartKept lists) (rule_asking rule) (map rule_asking rules) all))

  pub all_shown_there : (goal : Equation) → All (PartKept lists) (all_askings parts goal) →
      AreAllShown (with_domains parts lists) goal
  all_shown_there goal all =
      All-cons IsShown (goal_part (with_domains parts lists) goal)
      (map (rule_part (with_domains parts lists)) parts.rules)
      (goal_shown goal
      (All-head (PartKept lists) (goal_asking goal) (map rule_asking parts.rules) all))
      (rules_shown parts.rules
      (All-tail (PartKept lists) (goal_asking goal) (map rule_asking parts.rules) all))
