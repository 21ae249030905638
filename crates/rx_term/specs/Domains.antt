-- The domain of each symbol: rows over its own arguments. A ground term is inside where the
-- arguments of each of its frames and of its call meet the domains.
use Rattle.std.specs.Prelude.{ℕ, Bool, true, false, ◌&&◌, unwrap_or, List, [], ◌∷◌, ◌++◌, slice_get, ℤ}
use Rattle.rx_plain.specs.Formed.{Formed, pure, ◌>>=◌, ◌<$>◌}
use Rattle.rx_poly.specs.Substitution.{numbered}
use Rattle.rx_poly.specs.declared.body.Body.{Body}
use Rattle.rx_row.specs.Holds.{AllHold}
use Rattle.rx_row.specs.Substitution.{rows_with}
use Rattle.rx_row.specs.Variables.{rows_use_below}
use Rattle.rx_row.specs.declared.row.Row.{Row}
use Rattle.rx_rewriting.specs.Terms as stack
use Rattle.rx_rewriting.specs.Terms.{Fits, Ground, TermSet}
use Rattle.rx_term.specs.Assigned.{assigned}
use Rattle.rx_term.specs.Covered.{RedexArguments}
use Rattle.rx_term.specs.Meaning.{signature}
use Rattle.rx_term.specs.Shapes.{Return, Fail, Call, Frame}
use Rattle.rx_term.specs.declared.rule.Equation.{Equation}
use Rattle.rx_term.specs.declared.rule_set.RuleParts.{RuleParts}
use Rattle.rx_term.specs.declared.rule_set.SymInfo.{SymInfo}
use Rattle.rx_term.specs.declared.term.Term.{Term, Term-F, fold-Term}

-- the domain of the symbol with that number; a symbol after the last list has no rows
abbrev pub domain_of : RuleParts → ℕ → List Row
domain_of parts f = unwrap_or (slice_get parts.domains f) []

-- each list is over the arguments of its symbol, and there are no more lists than symbols
abbrev pub are_domains : List SymInfo → List (List Row) → Bool
are_domains infos [] = true
are_domains [] (rows ∷ lists) = false
are_domains (info ∷ infos) (rows ∷ lists) =
    rows_use_below info.arity rows && are_domains infos lists

-- ---- which ground terms are inside

-- the arguments meet the domain of the symbol
abbrev pub Meets : RuleParts → ℕ → List ℤ → Type 0
Meets parts f xs = AllHold (assigned xs) (domain_of parts f)

-- those of each frame and of the call do
abbrev pub MeetsDomains : RuleParts → Ground → Type 0
MeetsDomains parts (stack.Return k) = Unit {0}
MeetsDomains parts (stack.Fail c) = Unit {0}
MeetsDomains parts (stack.Call f xs) = Meets parts f xs
MeetsDomains parts (stack.Frame f xs s) = Meets parts f xs × MeetsDomains parts s

-- the fitting terms that are inside
abbrev pub IsInside : RuleParts → TermSet
IsInside parts s = Fits (signature parts) s × MeetsDomains parts s

-- the arguments that a redex of each shape has there: the result under a frame is any
abbrev pub root_domains : RuleParts → RedexArguments
root_domains parts Return a = Unit {0}
root_domains parts (Fail c) a = Unit {0}
root_domains parts (Call f) a = AllHold a (domain_of parts f.0)
root_domains parts (Frame f inner) a = AllHold a (domain_of parts f.0)

-- ---- the rows that put a term inside

-- the domain rows of a symbol at its arguments
abbrev pub rows_at : RuleParts → ℕ → List Body → Formed (List Row)
rows_at parts f ps = rows_with (numbered ps) (domain_of parts f)

-- those of the frames from outside in, then those of the call
abbrev pub inside_level : RuleParts → Term-F (Formed (List Row)) → Formed (List Row)
inside_level parts (Term-F.Return p) = pure []
inside_level parts (Term-F.Fail c) = pure []
inside_level parts (Term-F.Call f ps) = rows_at parts f.0 ps
inside_level parts (Term-F.Frame f ps inner) = do
  own ← rows_at parts f.0 ps
  (λ more. own ++ more) <$> inner

abbrev pub inside_rows : RuleParts → Term → Formed (List Row)
inside_rows parts = fold-Term (Formed (List Row)) (inside_level parts)

-- those of an equation, left side first
abbrev pub inside_of : RuleParts → Equation → Formed (List Row)
inside_of parts e = do
  left ← inside_rows parts e.left
  (λ right. left ++ right) <$> inside_rows parts e.right
