-- Domains that are not bad make a rule set with those of another.
use Rattle.std.proofs.Common.{◌≡◌, ◌∙◌, ap, sym, refl, ℕ, ◌+◌, Bool, true, false, if◌then◌else◌, Some, None, List, [], ◌∷◌}
use Rattle.std.proofs.lemmas.Bool.{and_from}
use Rattle.rx_row.specs.Variables.{rows_use_below}
use Rattle.rx_row.specs.declared.row.Row.{Row}
use Rattle.rx_term.specs.Domains.{are_domains}
use Rattle.rx_term.specs.Fitting.{fits_level, term_fits}
use Rattle.rx_term.specs.WellMade.{IsMade, IsWellMade}
use Rattle.rx_term.specs.declared.rule.Rule.{Rule}
use Rattle.rx_term.specs.declared.rule_set.RuleParts.{RuleParts}
use Rattle.rx_term.specs.declared.rule_set.SymInfo.{SymInfo}
use Rattle.rx_term.specs.declared.term.Term.{Term, Term-F, fold-Term}
use Rattle.rx_domain.specs.Setting.{bad_domain, bad_from, with_domains}

-- a symbol without a list is the first bad one
pub left_over : (f : ℕ) (infos : List SymInfo) → (infos ≡ [] → ⊥) → bad_from f infos [] ≡ Some f
left_over f [] there = absurd (there refl)
left_over f (info ∷ infos) there = refl

good_from : (f : ℕ) (infos : List SymInfo) (lists : List (List Row)) →
    bad_from f infos lists ≡ None → are_domains infos lists ≡ true
good_from f [] [] e = refl
good_from f (info ∷ infos) [] e = refl
good_from f [] (rows ∷ lists) e = absurd (cc)
good_from f (info ∷ infos) (rows ∷ lists) e =
    by (rows_use_below info.arity rows) refl (good_from (f + 1) infos lists) e
  where
    by : (b : Bool) → rows_use_below info.arity rows ≡ b
        → (bad_from (f + 1) infos lists ≡ None → are_domains infos lists ≡ true)
        → (if b then bad_from (f + 1) infos lists else Some f) ≡ None
        → are_domains (info ∷ infos) (rows ∷ lists) ≡ true
    by true is others h =
        and_from (rows_use_below info.arity rows) (are_domains infos lists) is (others h)
    by false is others h = absurd (cc)

-- where none is bad, all are over the arguments of their symbols
pub good_domains : (infos : List SymInfo) (lists : List (List Row)) → bad_domain infos lists ≡ None
    → are_domains infos lists ≡ true
good_domains infos lists e = good_from 0 infos lists e

module _ (parts : RuleParts) (lists : List (List Row)) where
  same_level : (x : Term-F Bool) → fits_level parts x ≡ fits_level (with_domains parts lists) x
  same_level (Term-F.Return p) = refl
  same_level (Term-F.Fail c) = refl
  same_level (Term-F.Call f ps) = refl
  same_level (Term-F.Frame f ps inner) = refl

  -- terms fit as they did
  pub fits_too : (t : Term) → term_fits parts t ≡ term_fits (with_domains parts lists) t
  fits_too t =
      ap (λ (level : Term-F Bool → Bool). fold-Term Bool level t) (λ i x. same_level x i)

  made_too : (rule : Rule) → IsMade parts rule → IsMade (with_domains parts lists) rule
  made_too rule made = record {
    form = made.form;
    few = made.few;
    left_fits = sym (fits_too rule.left) ∙ made.left_fits;
    right_fits = sym (fits_too rule.right) ∙ made.right_fits;
    right_variables = made.right_variables;
    row_variables = made.row_variables;
  }

  -- and the rules stay well made
  pub well_made_too : IsWellMade parts → IsWellMade (with_domains parts lists)
  well_made_too made = λ k d below. made_too _ (made k d below)
