-- What the recogniser answers is the place where the list is lost, for each language that it
-- accepts exactly.
use Rattle.std.proofs.Common.{◌≡◌, ℕ, suc, ◌+◌, ◌-◌, ◌≤◌, ◌<◌, Option, Some, None, List, [], ◌∷◌, length, take, true, refl, sym, ◌∙◌, ap, subst, add-one, arith}
use Rattle.c_lex.specs.declared.token.Token.{Token}
use Rattle.c_parse.specs.declared.symbol.Symbol.{Symbol}
use Rattle.c_parse.specs.Places.{IsLost, IsPlace}
use Rattle.c_parse.specs.Recogniser.{fed, ended, fed_on, fault}
use Rattle.c_parse.proofs.Stacks.{is_stack, stack_fed}
use Rattle.c_parse.proofs.Completions.{completion, completed}

-- how a fault comes about at a token: there, or later
data Faulty (o : Option (List Symbol)) (at : ℕ) (rest : List Symbol → Option ℕ) (k : ℕ) : Type 0
  where
    now : o ≡ None → k ≡ at → Faulty o at rest k
    later : (ss : List Symbol) → o ≡ Some ss → rest ss ≡ Some k → Faulty o at rest k

faulty : (o : Option (List Symbol)) (at : ℕ) (rest : List Symbol → Option ℕ) (k : ℕ) →
    fed_on o at rest ≡ Some k → Faulty o at rest k
faulty None at rest k h = let same : k ≡ at = cc in now refl same
faulty (Some ss) at rest k h = later ss refl h

ended_place : (o : Option (List Symbol)) (at k : ℕ) → ended o at ≡ Some k → k ≡ at
ended_place None at k h = cc
ended_place (Some []) at k h = absurd cc
ended_place (Some (s ∷ ss)) at k h = cc

-- a list that begins with the tokens before the fault and is accepted
record Viable (ss : List Symbol) (at : ℕ) (ts : List Token) (k : ℕ) : Type 0 where
  count : ℕ
  place : k ≡ at + count
  within : count ≤ length ts
  list : List Token
  begun : take count list ≡ take count ts
  accepted : fault ss at list ≡ None

-- none but the first place
at_once : (ss : List Symbol) (at : ℕ) (ts : List Token) (k : ℕ) → is_stack ss ≡ true → k ≡ at →
    Viable ss at ts k
at_once ss at ts k h same =
    record {
      count = 0;
      place = omega arith;
      within = omega arith;
      list = completion ss;
      begun =
          refl;
      accepted = completed ss at h;
    }

one_more : (ss new : List Symbol) (at : ℕ) (t : Token) (ts : List Token) (k : ℕ) →
    fed ss (Some t.kind) ≡ Some new → Viable new (at + 1) ts k → Viable ss at (t ∷ ts) k
unfolding fault
one_more ss new at t ts k h v =
    let place : k ≡ at + 1 + v.count = v.place in
    let within : v.count ≤ length ts = v.within in
    record {
      count = suc v.count;
      place = omega arith;
      within = omega arith;
      list = t ∷ v.list;
      begun = ap (λ xs. t ∷ xs) v.begun;
      accepted = ap (λ o. fed_on o at (λ rest. fault rest (at + 1) v.list)) h ∙ v.accepted;
    }

viable : (ts : List Token) (ss : List Symbol) (at k : ℕ) → is_stack ss ≡ true → fault ss at ts ≡
    Some k → Viable ss at ts k
unfolding fault
viable [] ss at k h f = at_once ss at [] k h (ended_place (fed ss None) at k f)
viable (t ∷ ts) ss at k h f =
    elim (faulty (fed ss (Some t.kind)) at (λ rest. fault rest (at + 1) ts) k f) [
      | now e same ↦ at_once ss at (t ∷ ts) k h same
      | later new e g ↦ one_more ss new at t ts k e
          (viable ts new (at + 1) k (stack_fed ss (Some t.kind) new h e) g)
    ]

-- a fault isn't before the first token
later_place : (ts : List Token) (ss : List Symbol) (at k : ℕ) → fault ss at ts ≡ Some k → at ≤ k
unfolding fault
later_place [] ss at k f = let same : k ≡ at = ended_place (fed ss None) at k f in omega arith
later_place (t ∷ ts) ss at k f =
    elim (faulty (fed ss (Some t.kind)) at (λ rest. fault rest (at + 1) ts) k f) [
      | now e same ↦ omega arith
      | later new e g ↦ let below : at + 1 ≤ k = later_place ts new (at + 1) k g in omega arith
    ]

-- a list with the same tokens up to and with that of the fault has the same fault
same_fault : (ts us : List Token) (ss : List Symbol) (at count k : ℕ) → k ≡ at + count →
    fault ss at ts ≡ Some k → count < length ts → take (suc count) us ≡ take (suc count) ts
    → fault ss at us ≡ Some k
unfolding fault
same_fault [] us ss at count k p f low same = absurd (omega arith)
same_fault (t ∷ ts) [] ss at count k p f low same = absurd cc
same_fault (t ∷ ts) (u ∷ us) ss at count k p f low same =
    let one : u ≡ t = cc in
    elim (faulty (fed ss (Some t.kind)) at (λ rest. fault rest (at + 1) ts) k f) [
      | now e place ↦
          let here : fed ss (Some u.kind) ≡ None = ap (λ (x : Token). fed ss (Some x.kind)) one ∙
          e in
          ap (λ o. fed_on o at (λ rest. fault rest (at + 1) us)) here ∙ ap Some (sym place)
      | later new e g ↦
          let here : fed ss (Some u.kind) ≡ Some new =
          ap (λ (x : Token). fed ss (Some x.kind)) one ∙ e in
          let below : at + 1 ≤ k = later_place ts new (at + 1) k g in
          let fewer : k ≡ at + 1 + (count - 1) = omega arith in
          let short : count - 1 < length ts = omega arith in
          let whole : suc (count - 1) ≡ count = omega arith in
          let rest : take count us ≡ take count ts = cc in
          ap (λ o. fed_on o at (λ rest. fault rest (at + 1) us)) here ∙
          same_fault ts us new (at + 1) (count - 1) k fewer g short (rw whole rest)
    ]

-- two lists are spelled or lost alike
module _ (start : List Symbol) (IsSpelled : List Token → Type 0) (stack : is_stack start ≡ true)
    (sound : (ts : List Token) → fault start 0 ts ≡ None → IsSpelled ts)
    (complete : (ts : List Token) → IsSpelled ts → fault start 0 ts ≡ None) where
  lost : (ts : List Token) (k : ℕ) → fault start 0 ts ≡ Some k → IsLost IsSpelled ts k
  lost ts k h =
      let v = viable ts start 0 k stack h in
      let place : k ≡ 0 + v.count = v.place in
      let within : v.count ≤ length ts = v.within in
      let same : v.count ≡ k = omega arith in
      record {
        within = omega arith;
        begun = (
          v.list,
          (
            subst (λ (n : ℕ). take n v.list ≡ take n ts) same v.begun,
            sound v.list v.accepted,
          ),
        );
        broken = λ low b.
            let more : take (suc k) b.0 ≡ take (suc k) ts = rw add-one at b.1.0 in
            let none : fault start 0 b.0 ≡ None = complete b.0 b.1.1 in
            let some : fault start 0 b.0 ≡ Some k =
            same_fault ts b.0 start 0 k k (omega arith) h low more in
            cc;
        unspelled = λ s. let none : fault start 0 ts ≡ None = complete ts s in cc;
      }

  -- the answer is exact
  pub places : (ts : List Token) (o : Option ℕ) → o ≡ fault start 0 ts → IsPlace IsSpelled ts o
  places ts None h = sound ts (sym h)
  places ts (Some k) h = lost ts k (sym h)
