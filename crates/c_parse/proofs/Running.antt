-- How the recogniser goes over a list of tokens: one symbol at a time from a place on.
use Rattle.std.proofs.Common.{◌≡◌, ℕ, zero, suc, ◌+◌, Option, Some, None, List, [], ◌∷◌, ◌++◌, drop, refl, sym, ◌∙◌, ap, append_assoc, add-one}
use Rattle.c_lex.specs.declared.token.Token.{Token}
use Rattle.c_lex.specs.declared.token.TokenKind.{TokenKind}
use Rattle.c_syntax.specs.Grammar.{kind_at}
use Rattle.c_parse.specs.declared.symbol.Symbol.{Symbol}
use Rattle.c_parse.specs.Actions.{Action, takes, skips, fails, before, action}
use Rattle.c_parse.specs.Recogniser.{stack_by, fed, ended, fed_on, fault}

-- the answer from a place of the list on, with this stack
unfoldable pub fault_at : List Token → List Symbol → ℕ → Option ℕ
fault_at ts ss i = fault ss i (drop i ts)

-- the kind of the first token, if there is one
abbrev pub first_kind : List Token → Option TokenKind
first_kind [] = None
first_kind (t ∷ ts) = Some t.kind

-- the first token from a place on is the one at that place
pub first_of_rest : (ts : List Token) (i : ℕ) → first_kind (drop i ts) ≡ kind_at ts i
unfolding kind_at
first_of_rest [] zero = refl
first_of_rest [] (suc i) = refl
first_of_rest (t ∷ ts) zero = refl
first_of_rest (t ∷ ts) (suc i) = first_of_rest ts i

-- a token at a place, and what is from there on
pub record Here (ts : List Token) (i : ℕ) (kind : TokenKind) : Type 0 where
  pub token : Token
  pub rest : drop i ts ≡ token ∷ drop (suc i) ts
  pub is : token.kind ≡ kind

pub here : (ts : List Token) (i : ℕ) (kind : TokenKind) → kind_at ts i ≡ Some kind → Here ts i kind
unfolding kind_at
here [] zero kind h = absurd cc
here [] (suc i) kind h = absurd cc
here (t ∷ ts) zero kind h =
    let same : t.kind ≡ kind = cc in record { token = t; rest = refl; is = same }
here (t ∷ ts) (suc i) kind h =
    let below = here ts i kind h in record { token = below.token; rest = below.rest; is = below.is }

-- the answer from a token on
pub fault_fed : (ts : List Token) (ss : List Symbol) (i : ℕ) (kind : TokenKind) → kind_at ts i ≡
    Some kind
    → fault ss i (drop i ts) ≡ fed_on (fed ss (Some kind)) i
    (λ rest. fault rest (i + 1) (drop (i + 1) ts))
unfolding fault
fault_fed ts ss i kind h =
    let t = here ts i kind h in
    ap (fault ss i) t.rest
    ∙ (ap (λ k. fed_on (fed ss (Some k)) i (λ rest. fault rest (i + 1) (drop (suc i) ts))) t.is
    ∙ ap (λ n. fed_on (fed ss (Some kind)) i (λ rest. fault rest (i + 1) (drop n ts)))
    (sym (add-one i)))

-- one symbol at a token that it takes
takes_token : (s : Symbol) (ss expected : List Symbol) (at : ℕ) (t : Token) (ts : List Token) →
    action s (Some t.kind) ≡ takes expected
    → fault (s ∷ ss) at (t ∷ ts) ≡ fault (expected ++ ss) (at + 1) ts
unfolding fault fed
takes_token s ss expected at t ts h =
    ap (λ a. fed_on (stack_by a ss (fed ss (Some t.kind))) at (λ rest. fault rest (at + 1) ts)) h

-- one symbol at a token, or at the end, where it is skipped
pub skips_token : (s : Symbol) (ss : List Symbol) (at : ℕ) (ts : List Token) →
    action s (first_kind ts) ≡ skips → fault (s ∷ ss) at ts ≡ fault ss at ts
unfolding fault fed
skips_token s ss at [] h = ap (λ a. ended (stack_by a ss (fed ss None)) at) h
skips_token s ss at (t ∷ ts) h =
    ap (λ a. fed_on (stack_by a ss (fed ss (Some t.kind))) at (λ rest. fault rest (at + 1) ts)) h

-- a symbol takes the token at a place
pub taken : (ts : List Token) (s : Symbol) (ss : List Symbol) (i : ℕ) (kind : TokenKind)
    (expected : List Symbol) → kind_at ts i ≡ Some kind → action s (Some kind) ≡ takes expected
    → fault_at ts (s ∷ ss) i ≡ fault_at ts (expected ++ ss) (i + 1)
unfolding fault_at
taken ts s ss i kind expected h a =
    let t = here ts i kind h in
    let acts : action s (Some t.token.kind) ≡ takes expected = ap (λ k. action s (Some k)) t.is ∙
    a in
    let on : fault (s ∷ ss) i (t.token ∷ drop (suc i) ts) ≡
    fault (expected ++ ss) (i + 1) (drop (suc i) ts) =
    takes_token s ss expected i t.token (drop (suc i) ts) acts in
    ap (fault (s ∷ ss) i) t.rest ∙ (on ∙ ap (λ n. fault (expected ++ ss) (i + 1) (drop n ts))
    (sym (add-one i)))

-- a symbol is skipped at a place
pub skipped : (ts : List Token) (s : Symbol) (ss : List Symbol) (i : ℕ) (kind : Option TokenKind) →
    kind_at ts i ≡ kind → action s kind ≡ skips
    → fault_at ts (s ∷ ss) i ≡ fault_at ts ss i
unfolding fault_at
skipped ts s ss i kind h a =
    skips_token s ss i (drop i ts) (ap (action s) (first_of_rest ts i ∙ h) ∙ a)

-- one symbol at a token that loses the list
fails_token : (s : Symbol) (ss : List Symbol) (at : ℕ) (t : Token) (ts : List Token) →
    action s (Some t.kind) ≡ fails → fault (s ∷ ss) at (t ∷ ts) ≡ Some at
unfolding fault fed
fails_token s ss at t ts h =
    ap (λ a. fed_on (stack_by a ss (fed ss (Some t.kind))) at (λ rest. fault rest (at + 1) ts)) h

-- one symbol at the end
acts_last : (s : Symbol) (ss : List Symbol) (at : ℕ) (a : Action) → action s None ≡ a →
    fault (s ∷ ss) at [] ≡ ended (stack_by a ss (fed ss None)) at
unfolding fault fed
acts_last s ss at a h = ap (λ b. ended (stack_by b ss (fed ss None)) at) h

-- symbols with the same action have the same answer
alike_first : (s r : Symbol) (ss : List Symbol) (at : ℕ) (ts : List Token) →
    action s (first_kind ts) ≡ action r (first_kind ts) → fault (s ∷ ss) at ts ≡
    fault (r ∷ ss) at ts
unfolding fault fed
alike_first s r ss at [] h = ap (λ a. ended (stack_by a ss (fed ss None)) at) h
alike_first s r ss at (t ∷ ts) h =
    ap (λ a. fed_on (stack_by a ss (fed ss (Some t.kind))) at (λ rest. fault rest (at + 1) ts)) h

pub alike : (ts : List Token) (s r : Symbol) (ss : List Symbol) (i : ℕ) → action s (kind_at ts i) ≡
    action r (kind_at ts i) → fault_at ts (s ∷ ss) i ≡ fault_at ts (r ∷ ss) i
unfolding fault_at
alike ts s r ss i h =
    alike_first s r ss i (drop i ts) (ap (action s) (first_of_rest ts i) ∙
    (h ∙ ap (action r) (sym (first_of_rest ts i))))

-- the order in which lists are joined doesn't matter
regrouped : (a b c : List Symbol) → (a ++ b) ++ c ≡ a ++ (b ++ c)
regrouped a b c = rw append_assoc refl

-- a symbol that expands to another and more after it
handed_last : (s r : Symbol) (more ss : List Symbol) (at : ℕ) (a : Action) → (a ≡ skips → ⊥) →
    action r None ≡ a → action s None ≡ before more a
    → fault (s ∷ ss) at [] ≡ fault (r ∷ (more ++ ss)) at []
handed_last s r more ss at (takes expected) never h g =
    acts_last s ss at (takes (expected ++ more)) g ∙
    (ap (λ l. ended (Some l) at) (regrouped expected more ss) ∙
    sym (acts_last r (more ++ ss) at (takes expected) h))
handed_last s r more ss at skips never h g = absurd (never refl)
handed_last s r more ss at fails never h g =
    acts_last s ss at fails g ∙ sym (acts_last r (more ++ ss) at fails h)

handed_token : (s r : Symbol) (more ss : List Symbol) (at : ℕ) (t : Token) (ts : List Token)
    (a : Action) → (a ≡ skips → ⊥) → action r (Some t.kind) ≡ a
    → action s (Some t.kind) ≡ before more a → fault (s ∷ ss) at (t ∷ ts) ≡
    fault (r ∷ (more ++ ss)) at (t ∷ ts)
handed_token s r more ss at t ts (takes expected) never h g =
    takes_token s ss (expected ++ more) at t ts g
    ∙ (ap (λ l. fault l (at + 1) ts) (regrouped expected more ss) ∙
    sym (takes_token r (more ++ ss) expected at t ts h))
handed_token s r more ss at t ts skips never h g = absurd (never refl)
handed_token s r more ss at t ts fails never h g =
    fails_token s ss at t ts g ∙ sym (fails_token r (more ++ ss) at t ts h)

handed_first : (s r : Symbol) (more ss : List Symbol) (at : ℕ) (ts : List Token) →
    (action r (first_kind ts) ≡ skips → ⊥) → action s (first_kind ts) ≡
    before more (action r (first_kind ts))
    → fault (s ∷ ss) at ts ≡ fault (r ∷ (more ++ ss)) at ts
handed_first s r more ss at [] never g = handed_last s r more ss at (action r None) never refl g
handed_first s r more ss at (t ∷ ts) never g =
    handed_token s r more ss at t ts (action r (Some t.kind)) never refl g

-- A symbol that expands to another and more after it does as that one does, where it isn't skipped.
pub handed : (ts : List Token) (s r : Symbol) (more ss : List Symbol) (i : ℕ) →
    (action r (kind_at ts i) ≡ skips → ⊥) → action s (kind_at ts i) ≡
    before more (action r (kind_at ts i))
    → fault_at ts (s ∷ ss) i ≡ fault_at ts (r ∷ (more ++ ss)) i
unfolding fault_at
handed ts s r more ss i never same =
    let first : first_kind (drop i ts) ≡ kind_at ts i = first_of_rest ts i in
    handed_first s r more ss i (drop i ts) (λ z. never (ap (action r) (sym first) ∙ z))
    (ap (action s) first ∙ (same ∙ ap (λ k. before more (action r k)) (sym first)))
