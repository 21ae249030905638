-- The trees of the example cover its rule set.
use Rattle.std.proofs.Common.{◌≡◌, ◌∙◌, refl, arith, true, Some, [], ◌∷◌}
use Rattle.rx_poly.specs.Constants.{variable}
use Rattle.rx_cert.specs.Conditions.{conditions, is_shown}
use Rattle.rx_cert.specs.Findings.{Yes, and_also}
use Rattle.rx_row.proofs.Membership.{contains-stands}
use Rattle.rx_row.specs.Membership.{stands_among}
use Rattle.rx_row.specs.declared.row.Row.{Row}
use Rattle.rx_row.specs.declared.row.Row.TheVariants.{Eq, Ne}
use Rattle.rx_term.proofs.Equations.{shape-Call, shape-Frame, shape-Return, shape-Fail}
use Rattle.rx_term.specs.declared.term.Term.TheVariants.{Return, Fail}
use Rattle.rx_term.specs.Example.{example, ends, goes_on, adds, fails, f, g}
use Rattle.rx_term.specs.Shapes as shape
use Rattle.rx_cover.specs.Covering.{Covers, covering, goes_on as continues}
use Rattle.rx_cover.specs.Example.{trees}
use Rattle.rx_cover.specs.Trees.{tree_finding, use_finding}
use Rattle.rx_cover.specs.declared.cover_tree.CoverTree.TheVariants.{Use, Split}
use Rattle.rx_cover.proofs.Equations.{finding_split, finding_use}

-- a row follows from itself
plain : (row : Row) → stands_among (row ∷ []) row ≡ true
plain row = contains-stands (row ∷ []) row 0 (omega arith) refl

module _ (row : Row) where
  shown : is_shown (conditions (row ∷ []) (Some (row ∷ [])) []) ≡ Yes
  shown = rw (plain row) refl

at_zero : use_finding (shape.Call f) (Some ends) (Eq (variable 0) ∷ []) [] ≡ Yes
at_zero = rw (shape-Call f (variable 0 ∷ [])) (shown (Eq (variable 0)))

elsewhere : use_finding (shape.Call f) (Some goes_on) (Ne (variable 0) ∷ []) [] ≡ Yes
elsewhere = rw (shape-Call f (variable 0 ∷ [])) (shown (Ne (variable 0)))

over_value : use_finding (shape.Frame g shape.Return) (Some adds) [] [] ≡ Yes
over_value =
    rw (shape-Frame g (variable 0 ∷ []) (Return (variable 1)), shape-Return (variable 1)) refl

over_failure : use_finding (shape.Frame g (shape.Fail 1)) (Some fails) [] [] ≡ Yes
over_failure = rw (shape-Frame g (variable 0 ∷ []) (Fail 1), shape-Fail 1) refl

point_covered : tree_finding example.rules (shape.Call f)
    (Split (Eq (variable 0)) (Use 0 []) (Use 1 [])) [] ≡ Yes
point_covered =
    finding_split example.rules (shape.Call f) (Eq (variable 0)) (Use 0 []) (Use 1 []) []
    ∙ (λ i. and_also (finding_use example.rules (shape.Call f) 0 [] (Eq (variable 0) ∷ []) i)
    (finding_use example.rules (shape.Call f) 1 [] (Ne (variable 0) ∷ []) i))
    ∙ (λ i. and_also (at_zero i) (elsewhere i))

value_covered : tree_finding example.rules (shape.Frame g shape.Return) (Use 2 []) [] ≡ Yes
value_covered = finding_use example.rules (shape.Frame g shape.Return) 2 [] [] ∙ over_value

failure_covered : tree_finding example.rules (shape.Frame g (shape.Fail 1)) (Use 3 []) [] ≡ Yes
failure_covered = finding_use example.rules (shape.Frame g (shape.Fail 1)) 3 [] [] ∙ over_failure

pub example_covered : covering example trees ≡ Covers
example_covered = (λ i.
    continues 0 (and_also (point_covered i) Yes)
    (continues 1 (and_also (value_covered i) (and_also (failure_covered i) Yes)) Covers))
