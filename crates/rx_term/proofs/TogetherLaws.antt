-- Two lists of rules together, and rules of which only the right sides are known to fit.
use Rattle.std.proofs.Common.{◌≡◌, ap, sym, subst, refl, true, ℕ, ◌+◌, ◌⊎◌, inl, inr, List, [], ◌∷◌, ◌++◌}
use Rattle.std.specs.Prelude.{◌↔◌, All, Contains}
use Rattle.std.specs.List.{enumerate_from}
use Rattle.std.proofs.lemmas.List.Elements.{All-contains, Contains-append_cases, Contains-append_left, Contains-append_right}
use Rattle.rx_poly.specs.Substitution.{numbered, numbered_from}
use Rattle.rx_poly.specs.declared.body.Body.{Body}
use Rattle.rx_rewriting.specs.Terms.{Ground, Fits}
use Rattle.rx_rewriting.specs.Premises.{ClosedUnder}
use Rattle.rx_rewriting.specs.Steps.{Either}
use Rattle.rx_rewriting.proofs.UnderFrames.{Fits-exchange, Fits-inner, stays_under_frames}
use Rattle.rx_term.specs.Fitting.{term_fits}
use Rattle.rx_term.specs.Meaning.{Instance, signature}
use Rattle.rx_term.specs.WellMade.{IsWellMade}
use Rattle.rx_term.specs.declared.rule.Rule.{Rule}
use Rattle.rx_term.specs.declared.rule_set.RuleParts.{RuleParts}
use Rattle.rx_term.proofs.FittingLaws.{ground_fits}
use Rattle.rx_term.proofs.RuleLaws.{instance_fits}

numbered_so : (n : ℕ) (ps : List Body) → numbered_from n ps ≡ enumerate_from n ps
numbered_so n [] = refl
numbered_so n (p ∷ ps) = ap (λ ws. (n, p) ∷ ws) (numbered_so (n + 1) ps)

-- polynomials in place of the first variables are the polynomials by number
pub numbered_in_order : (ps : List Body) → numbered ps ≡ enumerate_from 0 ps
numbered_in_order ps = numbered_so 0 ps

module _ (rules others : List Rule) (s t : Ground) where
  part : (one : Instance (rules ++ others) s t) → Contains rules one.rule ⊎
      Contains others one.rule → Instance rules s t ⊎ Instance others s t
  part one (inl among) =
      inl (record {
        rule = one.rule;
        among = among;
        at = one.at;
        holds = one.holds;
        left = one.left;
        right = one.right;
      })
  part one (inr among) =
      inr (record {
        rule = one.rule;
        among = among;
        at = one.at;
        holds = one.holds;
        left = one.left;
        right = one.right;
      })

  whole : Instance rules s t ⊎ Instance others s t → Instance (rules ++ others) s t
  whole (inl one) =
      record {
        rule = one.rule;
        among = Contains-append_left rules others one.rule one.among;
        at =
            one.at;
        holds = one.holds;
        left = one.left;
        right = one.right;
      }
  whole (inr one) =
      record {
        rule = one.rule;
        among = Contains-append_right rules others one.rule one.among;
        at =
            one.at;
        holds = one.holds;
        left = one.left;
        right = one.right;
      }

  -- an instance of a rule of either list is one of both together
  pub of_either_list : Instance (rules ++ others) s t ↔ (Instance rules s t ⊎ Instance others s t)
  of_either_list = (λ one. part one (Contains-append_cases rules others one.rule one.among), whole)

module _ (parts : RuleParts) (rules : List Rule)
    (fit : All (λ rule. term_fits parts rule.right ≡ true) rules) where
  step_fits : (s t : Ground) → Fits (signature parts) s → Instance rules s t →
      Fits (signature parts) t
  step_fits s t fits one =
      subst (Fits (signature parts)) (sym one.right)
      (ground_fits parts one.at one.rule.right
      (All-contains (λ rule. term_fits parts rule.right ≡ true) rules one.rule fit one.among))

  -- rules whose right sides fit lead from fitting terms to fitting terms
  pub right_sides_fit : ClosedUnder (Fits (signature parts)) (Instance rules)
  right_sides_fit =
      stays_under_frames (Fits (signature parts)) (Instance rules) (Fits-inner (signature parts))
      (Fits-exchange (signature parts)) step_fits

  either_fits : IsWellMade parts → (s t : Ground) → Fits (signature parts) s →
      Either (Instance parts.rules) (Instance rules) s t → Fits (signature parts) t
  either_fits made s t fits (inl one) = instance_fits parts made s t fits one
  either_fits made s t fits (inr one) = step_fits s t fits one

  -- and so together with those of a well made set
  pub right_sides_fit_too : IsWellMade parts →
      ClosedUnder (Fits (signature parts)) (Either (Instance parts.rules) (Instance rules))
  right_sides_fit_too made =
      stays_under_frames (Fits (signature parts)) (Either (Instance parts.rules) (Instance rules))
      (Fits-inner (signature parts)) (Fits-exchange (signature parts)) (either_fits made)
