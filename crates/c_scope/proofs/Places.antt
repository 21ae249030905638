-- Places that were found are in their lists.
use Rattle.std.proofs.Common.{◌≡◌, ℕ, ◌+◌, ◌<◌, Bool, true, false, cond, if◌then◌else◌, Option, Some, None, List, [], ◌∷◌, length, map, arith}
use Rattle.std.specs.Prelude.{nat_eq}
use Rattle.std.specs.Option.{option_or}
use Rattle.std.proofs.lemmas.List.{length-map}
use Rattle.std.proofs.lemmas.Option.{none-some, same_Some}
use Rattle.rx_plain.proofs.Lists.{position_within}
use Rattle.c_lex.specs.declared.token.Token.{Token}
use Rattle.c_ast.specs.declared.program.Function.{Function}
use Rattle.c_names.specs.Slots.{slot_from, slot_of}
use Rattle.c_names.specs.Spellings.{spellings, spelling_at, place_of}
use Rattle.c_names.specs.Expressions.{definition_of}
use Rattle.c_names.specs.Places.{place_of_function}

-- the last slot of a name, where the rest of the list has it below a bound
last_slot : (i k m : ℕ) (rest : Option ℕ) (here : Bool) →
    ((j : ℕ) → rest ≡ Some j → j < i + 1 + m) → option_or rest (if here then Some i else None) ≡
    Some k → k < i + 1 + m
last_slot i k m (Some j) here below is = below k is
last_slot i k m None true below is = let e : i ≡ k = same_Some i k is in omega (arith, e)
last_slot i k m None false below is = absurd (none-some k is)

slot_within : (i : ℕ) (scope : List ℕ) (name k : ℕ) → slot_from i scope name ≡ Some k → k < i +
    length scope
slot_within i [] name k is = absurd (none-some k is)
slot_within i (n ∷ ns) name k is =
    let h : k < i + 1 + length ns = last_slot i k (length ns) (slot_from (i + 1) ns name)
    (nat_eq n name) (slot_within (i + 1) ns name) is in
    omega (arith, h)

-- the slot of a name is one of those in scope
pub slot_in_scope : (scope : List ℕ) (name k : ℕ) → slot_of scope name ≡ Some k → k < length scope
slot_in_scope scope name k is =
    let h : k < 0 + length scope = slot_within 0 scope name k is in omega (arith, h)

first_place : (i k m : ℕ) (rest : Option ℕ) (here : Bool) →
    ((j : ℕ) → rest ≡ Some j → j < i + 1 + m) → cond here (Some i) rest ≡ Some k → k < i + 1 + m
first_place i k m rest true below is = let e : i ≡ k = same_Some i k is in omega (arith, e)
first_place i k m rest false below is = below k is

-- the first place of a spelling is one in the list
pub place_within : (words : List (List ℕ)) (word : List ℕ) (k : ℕ) → place_of words word ≡ Some k →
    k < length words
place_within words word k is =
    let h : k < 0 + length words = position_within _ 0 words k is in omega (arith, h)

-- the place of a name's first definition is that of a function
pub definition_within : (names : List ℕ) (functions : List Function) (name k : ℕ) →
    definition_of names functions name ≡ Some k → k < length functions
definition_within names functions name k is =
    let h : k < 0 + length functions = position_within _ 0 functions k is in omega (arith, h)

-- and so is the place of the first function of a spelling
pub function_within : (source : List ℕ) (tokens : List Token) (functions : List Function)
    (name : List ℕ) (k : ℕ) → place_of_function source tokens functions name ≡ Some k → k <
    length functions
function_within source tokens functions name k is =
    let h = place_within (spellings source tokens (map (λ (f : Function). f.name) functions)) name k
    is in
    let l : length (spellings source tokens (map (λ (f : Function). f.name) functions)) ≡
    length (map (λ (f : Function). f.name) functions) =
    length-map (map (λ (f : Function). f.name) functions) (spelling_at source tokens) in
    let m : length (map (λ (f : Function). f.name) functions) ≡ length functions =
    length-map functions (λ (f : Function). f.name) in
    omega (arith, h, l, m)

-- the place of the parameter of a spelling is that of a parameter
pub parameter_within : (source : List ℕ) (tokens : List Token) (params : List ℕ) (word : List ℕ)
    (k : ℕ) → place_of (spellings source tokens params) word ≡ Some k → k < length params
parameter_within source tokens params word k is =
    let h = place_within (spellings source tokens params) word k is in
    let l : length (spellings source tokens params) ≡ length params =
    length-map params (spelling_at source tokens) in
    omega (arith, h, l)
