-- What terms and rules mean on ground terms, where an assignment gives each variable an integer.
use Rattle.std.specs.Prelude.{◌≡◌, ℕ, zero, suc, Option, Some, None, unwrap_or, option_and_then, List, [], ◌∷◌, map, Contains, ℤ}
use Rattle.std.specs.List.{enumerate_from}
use Rattle.rx_poly.specs.Value.{value}
use Rattle.rx_poly.specs.declared.body.Body.{Body}
use Rattle.rx_row.specs.Holds.{AllHold}
use Rattle.rx_rewriting.specs.Terms as stack
use Rattle.rx_rewriting.specs.Terms.{Ground, StackFrame, Symbol, Signature}
use Rattle.rx_term.specs.Stacks.{suffix_at, redex_place}
use Rattle.rx_term.specs.Variables.{arguments_of}
use Rattle.rx_term.specs.declared.rule.Rule.{Rule}
use Rattle.rx_term.specs.declared.rule_set.RuleParts.{RuleParts}
use Rattle.rx_term.specs.declared.rule_set.SymInfo.{SymInfo}
use Rattle.rx_term.specs.declared.term.Sym.{Sym}
use Rattle.rx_term.specs.declared.term.Term.{Term, Term-F, fold-Term, out-Term}
use Rattle.rx_term.specs.declared.term.Term.TheVariants.{Return, Fail, Call, Frame}

-- the values of polynomials
abbrev pub values : (ℕ → ℤ) → List Body → List ℤ
values a ps = map (value a) ps

-- the ground term of a term: the same stack with the value of each polynomial
abbrev pub ground_level : (ℕ → ℤ) → Term-F Ground → Ground
ground_level a (Term-F.Return p) = stack.Return (value a p)
ground_level a (Term-F.Fail c) = stack.Fail c
ground_level a (Term-F.Call f ps) = stack.Call f.0 (values a ps)
ground_level a (Term-F.Frame f ps inner) = stack.Frame f.0 (values a ps) inner

abbrev pub ground_at : (ℕ → ℤ) → Term → Ground
ground_at a = fold-Term Ground (ground_level a)

-- a rule of the list takes s to t: at some assignment its rows hold, and s and t are the ground
-- terms of its sides
pub record Instance (rules : List Rule) (s t : Ground) : Type 0 where
  pub rule : Rule
  pub among : Contains rules rule
  pub at : ℕ → ℤ
  pub holds : AllHold at rule.rows
  pub left : s ≡ ground_at at rule.left
  pub right : t ≡ ground_at at rule.right

-- the signature of a rule set
abbrev pub symbol_of : SymInfo → Symbol
symbol_of s = record { arity = s.arity; is_frame = s.frame }

abbrev pub signature : RuleParts → Signature
signature parts = record { declared = map symbol_of parts.symbols; fails = parts.fails }

-- n outer frames of a term, or all where there are fewer, at an assignment
abbrev pub outer_level : (ℕ → ℤ) → Term-F Term → (Term → List StackFrame) → List StackFrame
outer_level a (Term-F.Return p) further = []
outer_level a (Term-F.Fail c) further = []
outer_level a (Term-F.Call f ps) further = []
outer_level a (Term-F.Frame f ps inner) further =
    record { symbol = f.0; arguments = values a ps } ∷ further inner

abbrev pub outer_frames : (ℕ → ℤ) → ℕ → Term → List StackFrame
outer_frames a zero t = []
outer_frames a (suc n) t = outer_level a (out-Term t) (outer_frames a n)

-- the redex of a term: the part under the frames that are over it
abbrev pub redex_of : Term → Option Term
redex_of t = option_and_then (λ n. suffix_at n t) (redex_place t)

-- a call, or a frame over a returned value or over a failure
pub data IsRedex : Term → Type 0 where
  CallRedex : (f : Sym) (ps : List Body) → IsRedex (Call f ps)
  ReturnRedex : (f : Sym) (ps : List Body) (p : Body) → IsRedex (Frame f ps (Return p))
  FailRedex : (f : Sym) (ps : List Body) (c : ℕ) → IsRedex (Frame f ps (Fail c))

-- the redex of a ground term: its call, or its innermost frame where that is over a result; a
-- result has none
abbrev pub ground_redex : Ground → Option Ground
ground_redex (stack.Return k) = None
ground_redex (stack.Fail c) = None
ground_redex (stack.Call f xs) = Some (stack.Call f xs)
ground_redex (stack.Frame f xs s) = Some (unwrap_or (ground_redex s) (stack.Frame f xs s))

-- v0, v1, .. as the polynomials of a term: what makes the left side of a rule of its shape into the
-- term
abbrev pub matched : Term → List (ℕ × Body)
matched t = enumerate_from 0 (arguments_of t)
