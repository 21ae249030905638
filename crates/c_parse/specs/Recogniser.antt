-- The recogniser: a stack of symbols, the first of them expected next, and the place where it is
-- lost.
use Rattle.std.specs.Prelude.{◌≡◌, ℕ, ◌+◌, Bool, true, false, Option, Some, None, List, [], ◌∷◌, ◌++◌, reverse, Result, Ok, Err}
use Rattle.rx_plain.specs.declared.no_memory.NoMemory.{NoMemory}
use Rattle.c_lex.specs.declared.token.Token.{Token}
use Rattle.c_lex.specs.declared.token.TokenKind.{TokenKind}
use Rattle.c_parse.specs.declared.symbol.Symbol.{Symbol}
use Rattle.c_parse.specs.declared.symbol.Step.{Step}
use Rattle.c_parse.specs.declared.symbol.Step.TheVariants as step
use Rattle.c_parse.specs.Actions.{Action, takes, skips, fails, action}

-- the stack after an action, where the symbols below are these and come to this if the symbol is
-- skipped
abbrev pub stack_by : Action → List Symbol → Option (List Symbol) → Option (List Symbol)
stack_by (takes expected) below skipped = Some (expected ++ below)
stack_by skips below skipped = skipped
stack_by fails below skipped = None

-- the stack after a token, or after the end of the list, if it isn't lost there
unfoldable pub fed : List Symbol → Option TokenKind → Option (List Symbol)
fed [] None = Some []
fed [] (Some kind) = None
fed (s ∷ ss) kind = stack_by (action s kind) ss (fed ss kind)

-- the answer at the end of the list, by the stack after it
abbrev pub ended : Option (List Symbol) → ℕ → Option ℕ
ended (Some []) at = None
ended (Some (s ∷ ss)) at = Some at
ended None at = Some at

-- the answer at a token, by the stack after it and the answer for the rest
abbrev pub fed_on : Option (List Symbol) → ℕ → (List Symbol → Option ℕ) → Option ℕ
fed_on (Some ss) at rest = rest ss
fed_on None at rest = Some at

-- where the list is lost from this stack, if it is; its first token has this number
unfoldable pub fault : List Symbol → ℕ → List Token → Option ℕ
fault ss at [] = ended (fed ss None) at
fault ss at (t ∷ ts) = fed_on (fed ss (Some t.kind)) at (λ rest. fault rest (at + 1) ts)

-- these symbols, the first of them last, after what is there
abbrev pub pushed : List Symbol → List Symbol → List Symbol
pushed [] there = there
pushed (s ∷ ss) there = pushed ss there ++ (s ∷ [])

-- What a step did to the stack, whose top is its last, by the table's action; running out of memory
-- is free.
abbrev pub Acts : Result Step NoMemory → List Symbol → List Symbol → Action → Type 0
Acts (Ok step.Shifted) old new (takes expected) = new ≡ pushed expected old
Acts (Ok step.Popped) old new skips = new ≡ old
Acts (Ok step.Rejected) old new fails = Unit {0}
Acts (Ok s) old new a = ⊥
Acts (Err e) old new a = Unit {0}

-- the same of all symbols up to the one that takes the token
abbrev pub IsFed : Bool → List Symbol → Option (List Symbol) → Type 0
IsFed true new (Some ss) = reverse new ≡ ss
IsFed false new None = Unit {0}
IsFed b new o = ⊥
