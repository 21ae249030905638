-- The definitions, computed on small programs. The values come from an independent second program
-- that runs C by counted rounds.
use Rattle.std.proofs.Common.{◌≡◌, pos, negsuc, None, Some, [], ◌∷◌, refl}
use Rattle.c_ast.specs.declared.expr.BinOp.TheVariants as bin_op
use Rattle.c_ast.specs.declared.expr.Expr.TheVariants.{Lit, Var, Binary}
use Rattle.c_meaning.proofs.CountedEquations.{equations}
use Rattle.c_meaning.proofs.Examples.{sums}
use Rattle.c_meaning.specs.declared.outcomes.Outcome.TheVariants as outcome
use Rattle.c_refute.specs.declared.findings.Finding.TheVariants as finding
use Rattle.c_refute.specs.Points.{points, finding_at}

-- what is found at points
found-1 : finding_at sums 0 1 None 3 (pos 2 ∷ []) ≡ finding.Undecided
found-1 = simp equations

found-2 : finding_at sums 0 1 None 10 (pos 2 ∷ []) ≡ finding.Alike
found-2 = simp equations

found-3 : finding_at sums 0 3 None 10 (negsuc 1 ∷ [])
    ≡ finding.Different (outcome.Value (pos 0))
    (outcome.Value (negsuc 170141183460469231694793815568465002497))
found-3 = simp equations

found-4 : finding_at sums 0 3 (Some (Binary bin_op.Lt (Var 0) (Lit (negsuc 1)))) 10 (negsuc 1 ∷ [])
    ≡ finding.Excluded
found-4 = simp equations

-- the points in their order
order : points 1 2
    ≡ (negsuc 0 ∷ negsuc 0 ∷ []) ∷ (negsuc 0 ∷ pos 0 ∷ []) ∷ (negsuc 0 ∷ pos 1 ∷ []) ∷
    (pos 0 ∷ negsuc 0 ∷ []) ∷ (pos 0 ∷ pos 0 ∷ []) ∷ (pos 0 ∷ pos 1 ∷ [])
    ∷ (pos 1 ∷ negsuc 0 ∷ []) ∷ (pos 1 ∷ pos 0 ∷ []) ∷ (pos 1 ∷ pos 1 ∷ []) ∷ []
order = refl
