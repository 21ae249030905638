-- What the evaluation of an expression and the execution of a statement lead to. Numbers as 6.8.6
-- are sections of ISO/IEC 9899:1999.
use Rattle.std.specs.Prelude.{List, ℤ}

-- what ends the whole computation with no value: a division by 0 (the division error), or an exact
-- result that is no integer of the kind (the range error)
pub data Failure : Type 0 where
  Division : Failure
  Range : Failure

-- an outcome with some number of rounds: a value; an error, which ends the whole computation; or
-- 'more rounds are needed'
pub data Outcome (A : Type 0) : Type 0 where
  Value : A → Outcome A
  Error : Failure → Outcome A
  More : Outcome A

-- goes on with a value; an error and 'more' end what is computed
abbrev pub on_value : {A B : Type 0} → Outcome A → (A → Outcome B) → Outcome B
on_value (Value x) go_on = go_on x
on_value (Error e) go_on = Error e
on_value More go_on = More

-- the outcome isn't 'more'
abbrev pub IsAnswer : {A : Type 0} → Outcome A → Type 0
IsAnswer (Value x) = Unit {0}
IsAnswer (Error e) = Unit {0}
IsAnswer More = ⊥

-- a state: the integer of each slot in scope, from slot 0 on
abbrev pub State : Type 0
State = List ℤ

-- where a statement leads: after it (next), to a break or to a continue (6.8.6), each in a state;
-- or to a return with its integer
pub data Flow : Type 0 where
  Next : State → Flow
  Break : State → Flow
  Continue : State → Flow
  Return : ℤ → Flow
