-- A list of tokens is lost at one place at most.
use Rattle.std.proofs.Common.{◌≡◌, ℕ, ◌+◌, ◌≤◌, ◌<◌, Option, Some, None, List, length, take, refl, sym, ◌∙◌, ap, arith}
use Rattle.std.proofs.lemmas.List.{take-take}
use Rattle.c_lex.specs.declared.token.Token.{Token}
use Rattle.c_parse.specs.Places.{Begins, IsLost, IsPlace}

-- what begins with more tokens begins with fewer
begins_fewer : (Spelled : List Token → Type 0) (ts : List Token) (k l : ℕ) → k ≤ l →
    Begins Spelled ts l → Begins Spelled ts k
begins_fewer Spelled ts k l below b =
    let us = b.0 in
    let same : take k us ≡ take k ts = sym (take-take k l us below) ∙
    (ap (take k) b.1.0 ∙ take-take k l ts below) in
    (us, (same, b.1.1))

not_before : (Spelled : List Token → Type 0) (ts : List Token) (k l : ℕ) → k < l →
    IsLost Spelled ts k → IsLost Spelled ts l → ⊥
not_before Spelled ts k l below p q =
    let within : l ≤ length ts = q.within in
    p.broken (omega arith) (begins_fewer Spelled ts (k + 1) l (omega arith) q.begun)

pub one_place : (Spelled : List Token → Type 0) (ts : List Token) (k l : ℕ) → IsLost Spelled ts k →
    IsLost Spelled ts l → k ≡ l
one_place Spelled ts k l p q =
    let first : k < l → ⊥ = λ below. not_before Spelled ts k l below p q in
    let second : l < k → ⊥ = λ below. not_before Spelled ts l k below q p in omega arith

-- the answer is determined by the tokens
pub one_answer : (Spelled : List Token → Type 0) (ts : List Token) (o r : Option ℕ) →
    IsPlace Spelled ts o → IsPlace Spelled ts r → o ≡ r
one_answer Spelled ts None None p q = refl
one_answer Spelled ts None (Some l) p q = absurd (q.unspelled p)
one_answer Spelled ts (Some k) None p q = absurd (p.unspelled q)
one_answer Spelled ts (Some k) (Some l) p q = ap Some (one_place Spelled ts k l p q)
