-- What symbols span one after the other.
use Rattle.std.proofs.Common.{◌≡◌, ℕ, ◌+◌, Option, List, [], ◌∷◌, ◌++◌, refl}
use Rattle.c_lex.specs.declared.token.Token.{Token}
use Rattle.c_lex.specs.declared.token.TokenKind.{TokenKind}
use Rattle.c_parse.specs.declared.symbol.Symbol.{Symbol}
use Rattle.c_parse.specs.declared.symbol.Symbol.TheVariants as symbol
use Rattle.c_parse.specs.Actions.{Action, takes, skips, fails, before}
use Rattle.c_parse.proofs.Spans.{Spans, Through, after, Goes}

-- what holds at the end may be less
pub spans_on : (s : Symbol) (ts : List Token) (i : ℕ) (P Q : ℕ → Type 0) → ((j : ℕ) → P j → Q j) →
    Spans s ts i P → Spans s ts i Q
spans_on symbol.Name ts i P Q f g = (g.0, f (i + 1) g.1)
spans_on symbol.LeftParen ts i P Q f g = (g.0, f (i + 1) g.1)
spans_on symbol.RightParen ts i P Q f g = (g.0, f (i + 1) g.1)
spans_on symbol.Colon ts i P Q f g = (g.0, f (i + 1) g.1)
spans_on symbol.Semicolon ts i P Q f g = (g.0, f (i + 1) g.1)
spans_on symbol.While ts i P Q f g = (g.0, f (i + 1) g.1)
spans_on (symbol.Parameter naming) ts i P Q f g = (g.0, (g.1.0, (g.1.1.0, f g.1.0 g.1.1.1)))
spans_on _ ts i P Q f g = (g.0, (g.1.0, f g.0 g.1.1))

-- symbols one after the other span what the first of them and then the others do
pub through_append : (ss more : List Symbol) (ts : List Token) (i : ℕ) (Rest : ℕ → Type 0) →
    Through (ss ++ more) ts i Rest → Through ss ts i (λ j. Through more ts j Rest)
through_append [] more ts i Rest g = g
through_append (s ∷ ss) more ts i Rest g =
    spans_on s ts i (λ j. Through (ss ++ more) ts j Rest)
    (λ j. Through ss ts j (λ k. Through more ts k Rest))
    (λ j h. through_append ss more ts j Rest h) g

-- what an action with more after it expects is what the action does, and then the rest
pub goes_before : (a : Action) (more : List Symbol) (kind : Option TokenKind) (ts : List Token)
    (i : ℕ) (Rest : ℕ → Type 0) → (a ≡ skips → ⊥)
    → Goes (before more a) kind ts i Rest → Goes a kind ts i (λ j. Through more ts j Rest)
goes_before (takes expected) more kind ts i Rest never g =
    through_append expected more ts (after kind i) Rest g
goes_before skips more kind ts i Rest never g = absurd (never refl)
goes_before fails more kind ts i Rest never g = g
