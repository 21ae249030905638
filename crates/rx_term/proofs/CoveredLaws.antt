-- Covered sets: each redex inside has a rule that steps it, so each inside term that is no result
-- has a step.
use Rattle.std.proofs.Common.{◌≡◌, sym, subst, true, ℕ, List, map, ℤ, pos}
use Rattle.std.proofs.lemmas.List.Elements.{All-contains, filter_passes}
use Rattle.rx_poly.specs.Constants.{number}
use Rattle.rx_rewriting.specs.Terms as stack
use Rattle.rx_rewriting.specs.Terms.{Ground, Fits, TermSet}
use Rattle.rx_rewriting.specs.Steps.{Step, Here}
use Rattle.rx_rewriting.specs.Premises.{ClosedUnderSubterms, Reducible}
use Rattle.rx_rewriting.proofs.UnderFrames.{Fits-inner, moves_under_frames}
use Rattle.rx_row.proofs.SubstitutionLaws.{subst_rows-hold}
use Rattle.rx_poly.specs.Substitution.{updated_assignment}
use Rattle.rx_term.specs.Covered.{HasRule, RedexArguments, IsCoveredOver, IsCovered, everywhere, KeepsDomains, CanStep}
use Rattle.rx_term.specs.Fitting.{term_fits}
use Rattle.rx_term.specs.Meaning.{Instance, IsRedex, CallRedex, ground_at, matched, signature}
use Rattle.rx_term.specs.Paired.{rules_of_shape}
use Rattle.rx_term.specs.Shapes.{same_shape, shape_of}
use Rattle.rx_term.specs.Substitution.{subst_term}
use Rattle.rx_term.specs.WellMade.{IsWellMade}
use Rattle.rx_term.specs.declared.rule.Rule.{Rule}
use Rattle.rx_term.specs.declared.rule_set.RuleParts.{RuleParts}
use Rattle.rx_term.specs.declared.term.Term.{Term}
use Rattle.rx_plain.proofs.Kept.{was_there}
use Rattle.rx_term.proofs.RuleLaws.{redex_shape, rule_steps, known_shape}
use Rattle.rx_term.proofs.Written.{symbol, written, ground-written, written_fits, written_over_result}

-- a rule of the redex's shape that holds at the redex's arguments is one that steps it
pub rule_for : (rules : List Rule) (t : Term) (a : ℕ → ℤ) →
    HasRule rules (shape_of t) (updated_assignment a (matched t)) → CanStep rules t a
rule_for rules t a has =
    let test = λ (r : Rule). same_shape (shape_of r.left) (shape_of t) in
    let passes = All-contains (λ (x : Rule). test x ≡ true) (rules_of_shape (shape_of t) rules)
    has.rule (filter_passes test rules) has.among in record {
      rule = has.rule;
      among = was_there test rules has.rule has.among;
      shape = known_shape (shape_of has.rule.left) (shape_of t) passes;
      holds = (subst_rows-hold a (matched t) has.rule.rows).1 has.holds;
    }

module _ (parts : RuleParts) (domains : RedexArguments) (covered : IsCoveredOver domains parts) where
  -- a fitting redex whose arguments are of its domain has one
  pub can_step : (t : Term) (a : ℕ → ℤ) → IsRedex t → term_fits parts t ≡ true →
      domains (shape_of t) (updated_assignment a (matched t)) → CanStep parts.rules t a
  can_step t a is fits domain =
      rule_for parts.rules t a (covered (shape_of t) (redex_shape parts t is fits)
      (updated_assignment a (matched t)) domain)

  module _ (made : IsWellMade parts) (inside : TermSet)
      (fitting : (s : Ground) → inside s → Fits (signature parts) s)
      (keeps : KeepsDomains inside domains) where
    abbrev Goes : Ground → Type 0
    Goes s = (u : Ground) × Step (Instance parts.rules) s u

    abbrev at_zero : ℕ → ℤ
    at_zero v = pos 0

    written_goes : (s : Ground) → inside s → IsRedex (written s) → Goes s
    written_goes s in_s is =
        let fits = written_fits parts s (fitting s in_s) in
        let means = ground-written at_zero s in
        let one = can_step (written s) at_zero is fits
        (keeps (written s) is at_zero (subst inside (sym means) in_s)) in
        let step = rule_steps parts made at_zero one.rule (written s) one.among fits one.shape
        one.holds in (
          ground_at at_zero (subst_term (matched (written s)) one.rule.right),
          Here (subst (λ x. Instance parts.rules x
              (ground_at at_zero (subst_term (matched (written s)) one.rule.right))) means step),
        )

    -- each inside term that is no result has a step
    pub covered_moves : ClosedUnderSubterms inside → Reducible inside (Instance parts.rules)
    covered_moves inner = moves_under_frames inside (Instance parts.rules) inner
        (λ f xs in_s. written_goes (stack.Call f xs) in_s (CallRedex (symbol f) (map number xs)))
        (λ f xs s in_s result. written_goes (stack.Frame f xs s) in_s
        (written_over_result f xs s result))

-- where all arguments are allowed, each fitting term that is no result has a step
pub covered_moves_everywhere : (parts : RuleParts) → IsWellMade parts → IsCovered parts →
    Reducible (Fits (signature parts)) (Instance parts.rules)
covered_moves_everywhere parts made covered =
    covered_moves parts everywhere covered made (Fits (signature parts)) (λ s fits. fits)
    (λ t is a fits. tt) (Fits-inner (signature parts))
