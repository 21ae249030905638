-- The stack with its top at its end, and what a step makes of it.
use Rattle.std.proofs.Common.{◌≡◌, ℕ, zero, suc, ◌+◌, ◌<◌, true, false, Option, Some, None, Ok, List, [], ◌∷◌, ◌++◌, reverse, length, drop, get_or, refl, sym, ◌∙◌, ap, arith}
use Rattle.std.proofs.Math.Seq.{drop-length}
use Rattle.std.proofs.lemmas.List.{reverse-append, length-reverse}
use Rattle.c_lex.specs.declared.token.Token.{Token}
use Rattle.c_lex.specs.declared.token.TokenKind.{TokenKind}
use Rattle.c_syntax.specs.Grammar.{kind_at}
use Rattle.c_parse.specs.declared.symbol.Symbol.{Symbol}
use Rattle.c_parse.specs.declared.symbol.Step.TheVariants as step
use Rattle.c_parse.specs.Actions.{Action, takes, skips, fails, action}
use Rattle.c_parse.specs.Recogniser.{stack_by, fed, ended, fed_on, fault, pushed, Acts, IsFed}
use Rattle.c_parse.proofs.Running.{fault_fed}

pub reverse_last : (ss : List Symbol) (s : Symbol) → reverse (ss ++ (s ∷ [])) ≡ s ∷ reverse ss
reverse_last ss s = reverse-append ss (s ∷ [])

reverse_pushed : (ss there : List Symbol) → reverse (pushed ss there) ≡ ss ++ reverse there
reverse_pushed [] there = refl
reverse_pushed (s ∷ ss) there =
    reverse_last (pushed ss there) s ∙ ap (λ xs. s ∷ xs) (reverse_pushed ss there)

taken_by : (a : Action) (old new : List Symbol) (skipped : Option (List Symbol)) →
    Acts (Ok step.Shifted) old new a → stack_by a (reverse old) skipped ≡ Some (reverse new)
taken_by (takes expected) old new skipped h =
    ap Some (sym (reverse_pushed expected old) ∙ ap reverse (sym h))
taken_by skips old new skipped h = absurd h
taken_by fails old new skipped h = absurd h

skipped_by : (a : Action) (old new : List Symbol) (skipped : Option (List Symbol)) →
    Acts (Ok step.Popped) old new a → (stack_by a (reverse old) skipped ≡ skipped) × (new ≡ old)
skipped_by (takes expected) old new skipped h = absurd h
skipped_by skips old new skipped h = (refl, h)
skipped_by fails old new skipped h = absurd h

lost_by : (a : Action) (old new : List Symbol) (skipped : Option (List Symbol)) →
    Acts (Ok step.Rejected) old new a → stack_by a (reverse old) skipped ≡ None
lost_by (takes expected) old new skipped h = absurd h
lost_by skips old new skipped h = absurd h
lost_by fails old new skipped h = refl

-- the top of the stack is what is expected next
fed_top : (old below : List Symbol) (s : Symbol) (kind : Option TokenKind) → old ≡ below ++
    (s ∷ []) → fed (reverse old) kind ≡ stack_by (action s kind) (reverse below)
    (fed (reverse below) kind)
unfolding fed
fed_top old below s kind h = ap (λ xs. fed xs kind) (ap reverse h ∙ reverse_last below s)

pub fed_taken : (old below new : List Symbol) (s : Symbol) (kind : Option TokenKind) → old ≡
    below ++ (s ∷ []) → Acts (Ok step.Shifted) below new (action s kind)
    → IsFed true new (fed (reverse old) kind)
fed_taken old below new s kind h a =
    rw (fed_top old below s kind h ∙ taken_by (action s kind) below new (fed (reverse below) kind)
    a) refl

pub fed_skipped : (old below new : List Symbol) (s : Symbol) (kind : Option TokenKind) → old ≡
    below ++ (s ∷ []) → Acts (Ok step.Popped) below new (action s kind)
    → (fed (reverse new) kind ≡ fed (reverse old) kind) × (new ≡ below)
fed_skipped old below new s kind h a =
    let by = skipped_by (action s kind) below new (fed (reverse below) kind) a in
    (ap (λ xs. fed (reverse xs) kind) by.1 ∙ (sym by.0 ∙ sym (fed_top old below s kind h)), by.1)

pub fed_lost : (old below new : List Symbol) (s : Symbol) (kind : Option TokenKind) → old ≡ below ++
    (s ∷ []) → Acts (Ok step.Rejected) below new (action s kind)
    → IsFed false new (fed (reverse old) kind)
fed_lost old below new s kind h a =
    rw (fed_top old below s kind h ∙ lost_by (action s kind) below new (fed (reverse below) kind) a)
    tt

-- an empty stack
fed_empty_some : (kind : TokenKind) → fed [] (Some kind) ≡ None
unfolding fed
fed_empty_some kind = refl

fed_empty_none : fed [] None ≡ Some []
unfolding fed
fed_empty_none = refl

pub fed_over : (old new : List Symbol) (kind : Option TokenKind) → old ≡ [] → new ≡ [] → kind ≡
    None → IsFed true new (fed (reverse old) kind)
fed_over old new kind h g e = rw (h, g, e, fed_empty_none) refl

pub fed_without : (old new : List Symbol) (kind : Option TokenKind) (k : TokenKind) → old ≡ [] →
    kind ≡ Some k → IsFed false new (fed (reverse old) kind)
fed_without old new kind k h e = rw (h, e, fed_empty_some k) tt

-- the answer at the end
pub ended_lost : (new : List Symbol) (o : Option (List Symbol)) (at : ℕ) → IsFed false new o →
    Some at ≡ ended o at
ended_lost new None at h = refl
ended_lost new (Some ss) at h = absurd h

pub ended_over : (new : List Symbol) (o : Option (List Symbol)) (at : ℕ) → IsFed true new o → new ≡
    [] → None ≡ ended o at
ended_over new None at h e = absurd h
ended_over new (Some []) at h e = refl
ended_over new (Some (s ∷ ss)) at h e = let contradiction : [] ≡ s ∷ ss = rw e at h in absurd cc

pub ended_left : (new : List Symbol) (o : Option (List Symbol)) (at : ℕ) → IsFed true new o →
    (length new ≡ 0 → ⊥) → Some at ≡ ended o at
ended_left new None at h e = absurd h
ended_left new (Some []) at h e =
    let same : length (reverse new) ≡ 0 = ap length h in
    let short : length (reverse new) ≡ length new = length-reverse new in
    absurd (e (omega arith))
ended_left new (Some (s ∷ ss)) at h e = refl

lost_on : (o : Option (List Symbol)) (new : List Symbol) (at : ℕ) (f : List Symbol → Option ℕ) →
    IsFed false new o → fed_on o at f ≡ Some at
lost_on None new at f h = refl
lost_on (Some ss) new at f h = absurd h

went_on : (o : Option (List Symbol)) (new : List Symbol) (at : ℕ) (f : List Symbol → Option ℕ) →
    IsFed true new o → fed_on o at f ≡ f (reverse new)
went_on None new at f h = absurd h
went_on (Some ss) new at f h = ap f (sym h)

-- the kind of a token of the list
kind_there : (ts : List Token) (i : ℕ) (t : Token) → i < length ts → kind_at ts i ≡
    Some (get_or ts i t).kind
unfolding kind_at
kind_there [] i t h = absurd (omega arith)
kind_there (u ∷ ts) zero t h = refl
kind_there (u ∷ ts) (suc i) t h = kind_there ts i t (omega arith)

-- one token of the list
pub fault_lost : (ts : List Token) (ss new : List Symbol) (i : ℕ) (t : Token) → i < length ts →
    IsFed false new (fed ss (Some (get_or ts i t).kind)) → fault ss i (drop i ts) ≡ Some i
fault_lost ts ss new i t h f =
    fault_fed ts ss i (get_or ts i t).kind (kind_there ts i t h) ∙
    lost_on (fed ss (Some (get_or ts i t).kind)) new i
    (λ rest. fault rest (i + 1) (drop (i + 1) ts)) f

pub fault_on : (ts : List Token) (ss new : List Symbol) (i : ℕ) (t : Token) → i < length ts →
    IsFed true new (fed ss (Some (get_or ts i t).kind))
    → fault ss i (drop i ts) ≡ fault (reverse new) (i + 1) (drop (i + 1) ts)
fault_on ts ss new i t h f =
    fault_fed ts ss i (get_or ts i t).kind (kind_there ts i t h) ∙
    went_on (fed ss (Some (get_or ts i t).kind)) new i
    (λ rest. fault rest (i + 1) (drop (i + 1) ts)) f

-- the end of the list
pub fault_end : (ts : List Token) (ss : List Symbol) (i : ℕ) → i ≡ length ts →
    ended (fed ss None) i ≡ fault ss i (drop i ts)
unfolding fault
fault_end ts ss i h =
    let none : drop i ts ≡ [] = rw (h, drop-length) refl in ap (fault ss i) (sym none)
