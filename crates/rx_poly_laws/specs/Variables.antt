-- Integer terms all of whose variables pass a test.
use Rattle.std.specs.Prelude.{ℕ, Bool, true, ◌&&◌}
use Rattle.rx_poly_laws.specs.declared.iterm.ITerm.{ITerm, ITerm-F, fold-ITerm}

-- all variables pass the test, by whether those of the parts do
abbrev pub term_passes_level : (ℕ → Bool) → ITerm-F Bool → Bool
term_passes_level test (ITerm-F.Var n) = test n
term_passes_level test (ITerm-F.Lit k) = true
term_passes_level test (ITerm-F.Add l r) = l && r
term_passes_level test (ITerm-F.Mul l r) = l && r
term_passes_level test (ITerm-F.Neg t) = t
term_passes_level test (ITerm-F.Div l r) = l && r
term_passes_level test (ITerm-F.Mod l r) = l && r

-- all variables of an integer term pass the test
abbrev pub term_passes : (ℕ → Bool) → ITerm → Bool
term_passes test = fold-ITerm Bool (term_passes_level test)
