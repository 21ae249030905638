-- What variables are replaced by, as a list.
use Rattle.std.specs.Prelude.{ℕ, List}
use Rattle.rx_poly.specs.Substitution.{numbered}
use Rattle.rx_poly.specs.declared.body.Body.{Body}
use Rattle.rx_term.specs.declared.arguments.Replacements.{Replacements}
use Rattle.rx_term.specs.declared.arguments.Replacements.TheVariants.{Listed, InOrder}

-- the list, or the arguments numbered from v0 on
abbrev pub replacements : Replacements → List (ℕ × Body)
replacements (Listed ws) = ws.now
replacements (InOrder args) = numbered args.now
