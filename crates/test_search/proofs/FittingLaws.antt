-- One more rule of a list fits, and all do.
use Rattle.std.proofs.Common.{◌≡◌, ◌∙◌, ℕ, ◌+◌, ◌<◌, ◌≤◌, ◌++◌, List, [], ◌∷◌, length, take, get_or, sym, ap, subst, All}
use Rattle.std.proofs.lemmas.List.{take_all, take_more}
use Rattle.std.proofs.lemmas.List.Elements.{All-append, All-cons, All-nil}
use Rattle.rx_pairs.specs.Pairs.{SidesFit}
use Rattle.rx_term.specs.declared.rule.Rule.{Rule}
use Rattle.rx_term.specs.declared.rule_set.RuleParts.{RuleParts}

module _ (set : RuleParts) (rules : List Rule) (i : ℕ) where
  pub more_fit : (rule : Rule) → i < length rules → rule ≡ get_or rules i rule →
      All (SidesFit set) (take i rules) → SidesFit set rule →
      All (SidesFit set) (take (i + 1) rules)
  more_fit rule there is before fits =
      let one : take (i + 1) rules ≡ take i rules ++ rule ∷ [] = take_more rules i rule there ∙
      ap (λ r. take i rules ++ r ∷ []) (sym is) in
      subst (All (SidesFit set)) (sym one) (All-append (SidesFit set) (take i rules) (rule ∷ [])
      before (All-cons (SidesFit set) rule [] fits (All-nil (SidesFit set))))

  pub all_fit : length rules ≤ i → All (SidesFit set) (take i rules) → All (SidesFit set) rules
  all_fit end before = subst (All (SidesFit set)) (take_all i rules end) before
