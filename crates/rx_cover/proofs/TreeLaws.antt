-- The law of cover trees: where one shows its shape at a path, at each assignment that meets the
-- path's rows the rows of some rule of the shape hold. By induction on the tree, one lemma for each
-- kind.
use Rattle.std.proofs.Common.{◌≡◌, subst, sym, refl, cond, ℕ, Bool, true, false, Option, Some, None, List, [], ◌∷◌, ◌++◌, slice_get, ℤ}
use mathlib.Core.Logic.{inl, inr}
use Rattle.rx_row.proofs.RowLaws.{all_hold-push, holds_or_not}
use Rattle.rx_row.specs.Holds.{AllHold}
use Rattle.rx_row.specs.Negation.{negation, negation_within}
use Rattle.rx_row.specs.declared.row.Row.{Row}
use Rattle.rx_cert.proofs.ConditionLaws.{conditions_hold}
use Rattle.rx_cert.proofs.FindingLaws.{both_parts, shown_list, within_parts}
use Rattle.rx_cert.proofs.Law.{refuted}
use Rattle.rx_cert.specs.Conditions.{conditions, is_shown}
use Rattle.rx_cert.specs.Findings.{Said, Yes, No, and_also, guard}
use Rattle.rx_cert.specs.declared.cert.Cert.{Cert}
use Rattle.rx_plain.proofs.Kept.{kept}
use Rattle.rx_term.specs.Covered.{HasRule}
use Rattle.rx_term.specs.Shapes.{Shape, same_shape, shape_of}
use Rattle.rx_term.specs.declared.rule.Rule.{Rule}
use Rattle.rx_cover.specs.Trees.{tree_finding, tree_level, use_finding}
use Rattle.rx_cover.specs.declared.cover_tree.CoverTree.{CoverTree, CoverTree-F, roll-CoverTree, map-CoverTree, fold-roll-CoverTree, ind-CoverTree}
use Rattle.rx_term.proofs.Places.{at_place}

module _ (rules : List Rule) (shape : Shape) (a : ℕ → ℤ) where
  -- at the assignment, where it meets the rows of the path, a rule of the shape applies
  abbrev Covers : (List Row → Said) → Type 0
  Covers found = (path : List Row) → found path ≡ Yes → AllHold a path → HasRule rules shape a

  -- a rule that is used is one
  use_covers : (number : ℕ) (certs : List Cert) →
      Covers (λ path. use_finding shape (slice_get rules number) path certs)
  use_covers number certs path e holds = by_rule (slice_get rules number) refl e
    where
      by_shape : (rule : Rule) → slice_get rules number ≡ Some rule → (b : Bool) →
          same_shape (shape_of rule.left) shape ≡ b
          → cond b (is_shown (conditions path (Some rule.rows) certs)) No ≡ Yes →
          HasRule rules shape a
      by_shape rule there true same f = record {
        rule = rule;
        among =
            kept (λ (r : Rule). same_shape (shape_of r.left) shape) rules rule
            (at_place rules number rule there) same;
        holds =
            conditions_hold path rule.rows certs
            (shown_list (conditions path (Some rule.rows) certs) f) a holds;
      }
      by_shape rule there false same f = cc

      by_rule : (o : Option Rule) → slice_get rules number ≡ o → use_finding shape o path certs ≡
          Yes → HasRule rules shape a
      by_rule None there f = cc
      by_rule (Some rule) there f =
          by_shape rule there (same_shape (shape_of rule.left) shape) refl f

  split_covers : (row : Row) (first second : List Row → Said) → Covers first → Covers second →
      Covers (λ path. and_also (first (path ++ row ∷ []))
      (guard (negation_within row) (second (path ++ negation row ∷ []))))
  split_covers row first second f g path e holds =
      let parts = both_parts (first (path ++ row ∷ []))
      (guard (negation_within row) (second (path ++ negation row ∷ []))) e in
      let other = within_parts (negation_within row) (second (path ++ negation row ∷ [])) parts.1 in
      elim (holds_or_not a row) [
        | inl h ↦ f (path ++ row ∷ []) parts.0 ((all_hold-push a path row).1 (holds, h))
        | inr h ↦ g (path ++ negation row ∷ []) other.1
            ((all_hold-push a path (negation row)).1 (holds, h))
      ]

  abbrev CoversPath : CoverTree → Type 0
  CoversPath tree = Covers (tree_finding rules shape tree)

  abbrev Part : Type 0
  Part = (tree : CoverTree) × CoversPath tree

  -- the level without its proofs, and what the trees inside are found to show
  abbrev bare : CoverTree-F Part → CoverTree-F CoverTree
  bare = map-CoverTree Part CoverTree (λ (p : Part). p.0)

  abbrev found : CoverTree-F Part → CoverTree-F (List Row → Said)
  found y = map-CoverTree CoverTree (List Row → Said) (tree_finding rules shape) (bare y)

  at_level : (y : CoverTree-F Part) → Covers (tree_level rules shape (found y))
  at_level (CoverTree-F.Use number certs) path e holds = use_covers number certs path e holds
  at_level (CoverTree-F.Split row first second) path e holds =
      split_covers row (tree_finding rules shape first.0) (tree_finding rules shape second.0)
      first.1 second.1 path e holds
  at_level (CoverTree-F.Absurd cert) path e holds = absurd (refuted path cert e a holds)

  step : (x : CoverTree-F CoverTree) (y : CoverTree-F Part) → bare y ≡ x →
      CoversPath (roll-CoverTree x)
  step x y is = subst (λ z. CoversPath (roll-CoverTree z)) is
      (subst Covers (sym (fold-roll-CoverTree (List Row → Said) (tree_level rules shape) (bare y)))
      (at_level y))

  -- where a tree shows the shape at a path, each assignment that meets the path's rows has a rule
  pub tree_covers : (tree : CoverTree) → CoversPath tree
  tree_covers = ind-CoverTree CoversPath step
