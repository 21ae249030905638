-- What the recogniser accepts is spanned by the symbols of its stack, one after the other.
use Rattle.std.proofs.Common.{◌≡◌, ℕ, zero, suc, ◌+◌, ◌-◌, ◌≤◌, Option, Some, None, List, [], ◌∷◌, length, drop, refl, sym, ◌∙◌, ap, add-one, length-drop, arith}
use Rattle.c_lex.specs.declared.token.Token.{Token}
use Rattle.c_lex.specs.declared.token.TokenKind.{TokenKind}
use Rattle.c_syntax.specs.Grammar.{kind_at}
use Rattle.c_parse.specs.declared.symbol.Symbol.{Symbol}
use Rattle.c_parse.specs.Actions.{Action, takes, skips, fails, action}
use Rattle.c_parse.specs.Recogniser.{stack_by, fed, ended, fed_on, fault}
use Rattle.c_parse.proofs.Spans.{Through, after, Goes}
use Rattle.c_parse.proofs.SpanLemmas.{through_append}
use Rattle.c_parse.proofs.Running.{first_kind, first_of_rest}
use Rattle.c_parse.proofs.Rows.{back}

-- there is a stack, and this holds of it
abbrev pub Onto : Option (List Symbol) → (List Symbol → Type 0) → Type 0
Onto None P = ⊥
Onto (Some ss) P = P ss

onto_on : (o : Option (List Symbol)) (P Q : List Symbol → Type 0) →
    ((ss : List Symbol) → P ss → Q ss) → Onto o P → Onto o Q
onto_on None P Q f g = g
onto_on (Some ss) P Q f g = f ss g

-- what an action leads to
goes_of : (a : Action) (ss : List Symbol) (o : Option (List Symbol)) (kind : Option TokenKind)
    (ts : List Token) (i : ℕ) (Rest : ℕ → Type 0)
    → (Onto o (λ r. Through r ts (after kind i) Rest) → Through ss ts i Rest) →
    Onto (stack_by a ss o) (λ r. Through r ts (after kind i) Rest) →
    Goes a kind ts i (λ j. Through ss ts j Rest)
goes_of (takes expected) ss o kind ts i Rest f g =
    through_append expected ss ts (after kind i) Rest g
goes_of skips ss o kind ts i Rest f g = f g
goes_of fails ss o kind ts i Rest f g = g

-- one token, or the end
fed_spans : (ss : List Symbol) (ts : List Token) (i : ℕ) (kind : Option TokenKind) → kind_at ts i ≡
    kind → (Rest : ℕ → Type 0) → Onto (fed ss kind) (λ r. Through r ts (after kind i) Rest)
    → Through ss ts i Rest
unfolding fed
fed_spans [] ts i None h Rest g = g
fed_spans [] ts i (Some kind) h Rest g = absurd g
fed_spans (s ∷ ss) ts i kind h Rest g =
    back s ts i kind h (λ j. Through ss ts j Rest)
    (goes_of (action s kind) ss (fed ss kind) kind ts i Rest
    (λ f. fed_spans ss ts i kind h Rest f) g)

-- at the end the stack is empty
ended_none : (o : Option (List Symbol)) (at : ℕ) → ended o at ≡ None → o ≡ Some []
ended_none None at h = absurd cc
ended_none (Some []) at h = refl
ended_none (Some (s ∷ ss)) at h = absurd cc

-- after a token there is a stack
fed_none : (o : Option (List Symbol)) (at : ℕ) (f : List Symbol → Option ℕ) → fed_on o at f ≡ None →
    Onto o (λ r. f r ≡ None)
fed_none None at f h = absurd cc
fed_none (Some ss) at f h = h

-- the rest after the first token
rest_after : (ts : List Token) (i : ℕ) (t : Token) (more : List Token) → drop i ts ≡ t ∷ more →
    drop (suc i) ts ≡ more
rest_after [] zero t more h = absurd cc
rest_after [] (suc i) t more h = absurd cc
rest_after (u ∷ ts) zero t more h = cc
rest_after (u ∷ ts) (suc i) t more h = rest_after ts i t more h

-- the whole list
pub spans_of : (us ts : List Token) (i : ℕ) (ss : List Symbol) → drop i ts ≡ us → i ≤ length ts →
    fault ss i us ≡ None → Through ss ts i (λ j. j ≡ length ts)
unfolding fault
spans_of [] ts i ss e low h =
    let over : length (drop i ts) ≡ 0 = ap length e in
    let short : length (drop i ts) ≡ length ts - i = length-drop i ts in
    let last : i ≡ length ts = omega arith in
    let none : kind_at ts i ≡ None = sym (first_of_rest ts i) ∙ ap first_kind e in
    let empty : fed ss None ≡ Some [] = ended_none (fed ss None) i h in
    fed_spans ss ts i None none (λ j. j ≡ length ts) (rw empty last)
spans_of (t ∷ more) ts i ss e low h =
    let here : kind_at ts i ≡ Some t.kind = sym (first_of_rest ts i) ∙ ap first_kind e in
    let some : length (drop i ts) ≡ suc (length more) = ap length e in
    let short : length (drop i ts) ≡ length ts - i = length-drop i ts in
    let below : i + 1 ≤ length ts = omega arith in
    let rest : drop (i + 1) ts ≡ more = rw add-one (rest_after ts i t more e) in
    let on : Onto (fed ss (Some t.kind)) (λ r. fault r (i + 1) more ≡ None) =
    fed_none (fed ss (Some t.kind)) i (λ r. fault r (i + 1) more) h in
    fed_spans ss ts i (Some t.kind) here (λ j. j ≡ length ts)
    (onto_on (fed ss (Some t.kind)) (λ r. fault r (i + 1) more ≡ None)
    (λ r. Through r ts (i + 1) (λ j. j ≡ length ts))
    (λ r g. spans_of more ts (i + 1) r rest below g) on)
