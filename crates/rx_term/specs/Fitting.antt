-- Which terms fit a list of symbols and a greatest failure code.
use Rattle.std.specs.Prelude.{ℕ, nat_eq, nat_le, Bool, true, false, ◌&&◌, List, length, slice_get}
use Rattle.std.specs.Option.{option_map_or}
use Rattle.rx_term.specs.declared.rule_set.RuleParts.{RuleParts}
use Rattle.rx_term.specs.declared.rule_set.SymInfo.{SymInfo}
use Rattle.rx_term.specs.declared.term.Sym.{Sym}
use Rattle.rx_term.specs.declared.term.Term.{Term, Term-F, fold-Term}

-- whether the two tests have one answer
abbrev pub is_alike : Bool → Bool → Bool
is_alike true other = other
is_alike false true = false
is_alike false false = true

-- the symbol is declared, as a frame or as a point, with n arguments
abbrev pub is_declared : List SymInfo → Sym → Bool → ℕ → Bool
is_declared symbols f frame count =
    option_map_or (λ (s : SymInfo). is_alike s.frame frame && nat_eq s.arity count)
    (slice_get symbols f.0) false

-- the failure code is one from 1 to the greatest
abbrev pub code_fits : ℕ → ℕ → Bool
code_fits fails c = nat_le 1 c && nat_le c fails

-- frames are declared as frames and the call as a point, each with its number of arguments
abbrev pub fits_level : RuleParts → Term-F Bool → Bool
fits_level parts (Term-F.Return p) = true
fits_level parts (Term-F.Fail c) = code_fits parts.fails c
fits_level parts (Term-F.Call f ps) = is_declared parts.symbols f false (length ps)
fits_level parts (Term-F.Frame f ps inner) = is_declared parts.symbols f true (length ps) && inner

abbrev pub term_fits : RuleParts → Term → Bool
term_fits parts = fold-Term Bool (fits_level parts)
