-- Where the rules keep the domains, both sides of the goal are inside, and each step from a term
-- inside leads to one inside.
use Rattle.std.proofs.Common.{◌≡◌, sym, subst, refl, ℕ, ◌+◌, Bool, true, false, Option, Some, None, List, [], ◌∷◌, map, ℤ}
use Rattle.std.specs.Prelude.{All}
use Rattle.std.proofs.lemmas.List.Elements.{All-append, All-contains, All-cons, All-head, All-nil, All-tail}
use Rattle.rx_cert.specs.Conditions.{conditions, is_shown}
use Rattle.rx_cert.specs.Findings.{Said, Yes, No, Beyond, guard}
use Rattle.rx_cert.specs.declared.cert.Cert.{Cert}
use Rattle.rx_cert.specs.declared.conditions.ConditionsAnswer.{ConditionsAnswer}
use Rattle.rx_cert.specs.declared.conditions.ConditionsAnswer.TheVariants.{Shown, WrongCount, NotShown}
use Rattle.rx_cert.proofs.ConditionLaws.{conditions_hold}
use Rattle.rx_row.specs.Holds.{AllHold, RowHolds}
use Rattle.rx_row.specs.declared.row.Row.{Row}
use Rattle.rx_rewriting.specs.Premises.{ClosedUnder}
use Rattle.rx_rewriting.specs.Terms.{Ground}
use Rattle.rx_rewriting.proofs.UnderFrames.{stays_under_frames}
use Rattle.rx_term.specs.Domains.{IsInside, are_domains, inside_rows}
use Rattle.rx_term.specs.Fitting.{term_fits}
use Rattle.rx_term.specs.Meaning.{Instance, ground_at}
use Rattle.rx_term.specs.WellMade.{IsMade, IsWellMade}
use Rattle.rx_term.specs.declared.rule.Equation.{Equation}
use Rattle.rx_term.specs.declared.rule.Rule.{Rule}
use Rattle.rx_term.specs.declared.rule_set.RuleParts.{RuleParts}
use Rattle.rx_term.proofs.FittingLaws.{ground_fits}
use Rattle.rx_domain.specs.Keeping.{Keeps, KeptPart, goal_part, goes_on, keeping, keeping_from, part_finding, parts_kept, root_domain, rule_part}
use Rattle.rx_domain.proofs.Inside.{first_hold, inside_exchange, inside_inner, left_inside, says_inside, second_hold}

-- ---- each part

-- where the given rows hold, so do the others
abbrev pub Follows : KeptPart → Type 0
Follows p = (a : ℕ → ℤ) → AllHold a p.given → AllHold a p.asked.form

part_follows : (p : KeptPart) (certs : List Cert) → part_finding p certs ≡ Yes → Follows p
part_follows p certs e = guarded p.asked.within e where
  shown : (o : Option ConditionsAnswer) → conditions p.given (Some p.asked.form) certs ≡ o →
      is_shown o ≡ Yes → Follows p
  shown None is e = cc
  shown (Some Shown) is e = conditions_hold p.given p.asked.form certs is
  shown (Some WrongCount) is e = cc
  shown (Some (NotShown i)) is e = cc

  guarded : (b : Bool) →
      guard b (is_shown (conditions p.given (Some p.asked.form) certs)) ≡ Yes → Follows p
  guarded true e = shown (conditions p.given (Some p.asked.form) certs) refl e
  guarded false e = cc

all_follow : (k : ℕ) (all : List KeptPart) (lists : List (List Cert)) →
    keeping_from k all lists ≡ Keeps → All Follows all
all_follow k [] lists e = All-nil Follows
all_follow k (p ∷ all) [] e = absurd (cc)
all_follow k (p ∷ all) (certs ∷ lists) e =
    by (part_finding p certs) refl (all_follow (k + 1) all lists) e
  where
    by : (said : Said) → part_finding p certs ≡ said
        → (keeping_from (k + 1) all lists ≡ Keeps → All Follows all)
        → goes_on k said (keeping_from (k + 1) all lists) ≡ Keeps → All Follows (p ∷ all)
    by Yes is others e =
        All-cons Follows p all (part_follows p certs is) (others e)
    by No is others e = cc
    by Beyond is others e = cc

of_rules : (parts : RuleParts) (rules : List Rule) → All Follows (map (rule_part parts) rules) →
    All (λ (r : Rule). Follows (rule_part parts r)) rules
of_rules parts [] h = All-nil (λ (r : Rule). Follows (rule_part parts r))
of_rules parts (r ∷ rs) h =
    All-cons (λ (r : Rule). Follows (rule_part parts r)) r rs
    (All-head Follows (rule_part parts r) (map (rule_part parts) rs) h)
    (of_rules parts rs (All-tail Follows (rule_part parts r) (map (rule_part parts) rs) h))

-- ---- the goal, and the steps

module _ (parts : RuleParts) (good : are_domains parts.symbols parts.domains ≡ true)
    (goal : Equation) (lists : List (List Cert)) (kept : keeping parts goal lists ≡ Keeps) where
  follow : All Follows (parts_kept parts goal)
  follow = all_follow 0 (parts_kept parts goal) lists kept

  -- both sides of the goal are inside where its rows hold
  pub goal_inside : term_fits parts goal.left ≡ true → term_fits parts goal.right ≡ true →
      (a : ℕ → ℤ) → AllHold a goal.rows →
      IsInside parts (ground_at a goal.left) × IsInside parts (ground_at a goal.right)
  goal_inside left_fits right_fits a holds =
      let more = map (rule_part parts) parts.rules in
      let all = All-head Follows (goal_part parts goal) more follow a holds in
      let left : List Row = (inside_rows parts goal.left).form in
      let right : List Row = (inside_rows parts goal.right).form in (
        (
          ground_fits parts a goal.left left_fits,
          (says_inside parts good a goal.left left_fits).meets (first_hold a left right all),
        ),
        (
          ground_fits parts a goal.right right_fits,
          (says_inside parts good a goal.right right_fits).meets (second_hold a left right all),
        ),
      )

  module _ (made : IsWellMade parts) where
    rules_follow : All (λ (r : Rule). Follows (rule_part parts r)) parts.rules
    rules_follow =
        of_rules parts parts.rules
        (All-tail Follows (goal_part parts goal) (map (rule_part parts) parts.rules) follow)

    instance_inside : (s t : Ground) → IsInside parts s → Instance parts.rules s t →
        IsInside parts t
    instance_inside s t inside one =
        let rule = one.rule in
        let a = one.at in
        let is = All-contains (IsMade parts) parts.rules rule made one.among in
        let domain = left_inside parts good a rule.left is.form
        (subst (IsInside parts) one.left inside) in
        let given = All-append (RowHolds a) rule.rows (root_domain parts rule) one.holds domain in
        let asked = All-contains (λ (r : Rule). Follows (rule_part parts r)) parts.rules rule
        rules_follow one.among a given in
        subst (IsInside parts) (sym one.right) (
          ground_fits parts a rule.right is.right_fits,
          (says_inside parts good a rule.right is.right_fits).meets asked,
        )

    -- each step from a term inside leads to one inside
    pub steps_stay_inside : ClosedUnder (IsInside parts) (Instance parts.rules)
    steps_stay_inside =
        stays_under_frames (IsInside parts) (Instance parts.rules) (inside_inner parts)
        (inside_exchange parts) instance_inside
