-- The only rule for a redex, found by going through all rules.
use Rattle.std.proofs.Common.{◌≡◌, ◌∙◌, ap, subst, sym, refl, cond, ℕ, suc, ◌+◌, ◌<◌, ◌≤◌, Bool, true, false, Option, Some, None, List, [], ◌∷◌, length, drop, get_or, drop_of_length-le, add-one}
use Rattle.std.proofs.Math.Seq.{drop-cons}
use Rattle.rx_term.specs.Paired.{rules_of_shape}
use Rattle.rx_term.specs.Shapes.{shape_of}
use Rattle.rx_term.specs.declared.rule.Rule.{Rule}
use Rattle.rx_term.specs.declared.term.Term.{Term}
use Rattle.rx_inference.specs.Pieces.{have_one_shape}
use Rattle.rx_match.specs.Simplification.{free_rule, only_free}

-- with the rule that was found before
abbrev with_found : Option Rule → List Rule → List Rule
with_found None rules = rules
with_found (Some rule) rules = rule ∷ rules

-- the rules of the redex's shape
abbrev fitting : Term → List Rule → List Rule
fitting redex rules = rules_of_shape (shape_of redex) rules

-- what was found, and the rules that are left, decide as all rules do
pub record Deciding (redex : Term) (found : Option Rule) (rest whole : List Rule) : Type 0 where
  pub all : only_free (with_found found (fitting redex rest)) ≡ free_rule whole redex

module _ (redex : Term) (rules : List Rule) where
  pub begin : Deciding redex None (drop 0 rules) rules
  begin = record { all = refl }

  module _ (found : Option Rule) (i : ℕ) (rule : Rule) (h : i < length rules)
      (is : rule ≡ get_or rules i rule) (m : Deciding redex found (drop i rules) rules) where
    opened : only_free (with_found found (fitting redex (rule ∷ drop (suc i) rules))) ≡
        free_rule rules redex
    opened =
        ap (λ rest. only_free (with_found found (fitting redex rest)))
        (ap (λ r. r ∷ drop (suc i) rules) is ∙ sym (drop-cons rules i rule h)) ∙ m.all

    by_shape : (b : Bool) → have_one_shape rule.left redex ≡ b →
        only_free (with_found found (cond b (rule ∷ fitting redex (drop (suc i) rules))
        (fitting redex (drop (suc i) rules)))) ≡ free_rule rules redex
    by_shape b e =
        ap (λ c. only_free (with_found found (cond c
        (rule ∷ fitting redex (drop (suc i) rules)) (fitting redex (drop (suc i) rules)))))
        (sym e) ∙ opened

    -- a rule of another shape doesn't count
    pub passed_by : have_one_shape rule.left redex ≡ false →
        Deciding redex found (drop (i + 1) rules) rules
    passed_by e =
        subst (λ n. Deciding redex found (drop n rules) rules) (sym (add-one i))
        (record { all = by_shape false e })

  -- one of the shape is found, where none was before
  pub now_found : (i : ℕ) (rule : Rule) → i < length rules → rule ≡ get_or rules i rule →
      Deciding redex None (drop i rules) rules → have_one_shape rule.left redex ≡ true →
      Deciding redex (Some rule) (drop (i + 1) rules) rules
  now_found i rule h is m e =
      subst (λ n. Deciding redex (Some rule) (drop n rules) rules) (sym (add-one i))
      (record { all = by_shape None i rule h is m true e })

  -- two are too many
  pub two_found : (first : Rule) (i : ℕ) (rule : Rule) → i < length rules →
      rule ≡ get_or rules i rule → Deciding redex (Some first) (drop i rules) rules →
      have_one_shape rule.left redex ≡ true → None ≡ free_rule rules redex
  two_found first i rule h is m e = by_shape (Some first) i rule h is m true e

  -- none is left
  pub at_end : (found : Option Rule) (i : ℕ) → length rules ≤ i →
      Deciding redex found (drop i rules) rules → only_free (with_found found []) ≡
      free_rule rules redex
  at_end found i h m =
      ap (λ rest. only_free (with_found found (fitting redex rest)))
      (sym (drop_of_length-le rules h)) ∙ m.all
