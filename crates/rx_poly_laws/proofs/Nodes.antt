-- How many nodes a term has: more than its parts together.
use Rattle.std.proofs.Common.{ℕ, suc, ◌+◌}
use Rattle.rx_poly_laws.specs.declared.iterm.ITerm.{ITerm, ITerm-F, fold-ITerm}

-- the nodes of a term, by those of its parts
abbrev pub node_level : ITerm-F ℕ → ℕ
node_level (ITerm-F.Var n) = 1
node_level (ITerm-F.Lit k) = 1
node_level (ITerm-F.Add l r) = suc (l + r)
node_level (ITerm-F.Mul l r) = suc (l + r)
node_level (ITerm-F.Neg t) = suc t
node_level (ITerm-F.Div l r) = suc (l + r)
node_level (ITerm-F.Mod l r) = suc (l + r)

-- the nodes of a term
abbrev pub nodes : ITerm → ℕ
nodes = fold-ITerm ℕ node_level
