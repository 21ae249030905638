-- A system that meets all premises of the laws: a small rule list over three symbols, and a
-- hypothesis beside it.
--
--   down(x) -> 0 [x <= 0]      down(x) -> one_more(down(x - 1)) [x >= 1]
--   copy(x) -> 0 [x <= 0]      copy(x) -> one_more(copy(x - 1)) [x >= 1]      copy(x) = down(x), the hypothesis
--   one_more over a result k -> k + 1,   over a failure -> that failure
use Rattle.std.specs.Prelude.{ℕ, zero, suc, true, false, List, [], ◌∷◌, All, ℤ, pos, negsuc, ◌+ℤ◌}
use Rattle.rx_rewriting.specs.Terms.{Ground, Return, Fail, Call, Frame, Symbol, Signature, Fits, Relation, TermSet}
use Rattle.rx_rewriting.specs.Steps.{Either, IsSingleValued}
use Rattle.rx_rewriting.specs.Ranks.{Rank, Weight}
use Rattle.rx_rewriting.specs.Premises.{Lowers, ClosedUnder, Reducible, IsReplaceable, ClosedUnderSubterms, ResultsAreNormal}

-- a symbol that is called with one argument
abbrev pub called : Symbol
called = record { arity = 1; is_frame = false }

-- the signature: down and copy are called with one argument, one_more is a frame with none, and
-- there is one failure
abbrev pub symbols : Signature
symbols = record {
  declared = called ∷ called ∷ record { arity = 0; is_frame = true } ∷ [];
  fails = 1;
}

-- down at x
abbrev pub down : ℤ → Ground
down x = Call 0 (x ∷ [])

-- copy at x
abbrev pub copy : ℤ → Ground
copy x = Call 1 (x ∷ [])

-- one_more over a term
abbrev pub one_more : Ground → Ground
one_more s = Frame 2 [] s

-- the integer is at most 0
abbrev pub AtMostZero : ℤ → Type 0
AtMostZero (pos zero) = Unit {0}
AtMostZero (pos (suc k)) = ⊥
AtMostZero (negsuc k) = Unit {0}

-- the rule list, a constructor for each rule
pub data Rules : Ground → Ground → Type 0 where
  DownEnds : (x : ℤ) → AtMostZero x → Rules (Call 0 (x ∷ [])) (Return (pos 0))
  DownTurns : (k : ℕ) → Rules (Call 0 (pos (suc k) ∷ [])) (Frame 2 [] (Call 0 (pos k ∷ [])))
  CopyEnds : (x : ℤ) → AtMostZero x → Rules (Call 1 (x ∷ [])) (Return (pos 0))
  CopyTurns : (k : ℕ) → Rules (Call 1 (pos (suc k) ∷ [])) (Frame 2 [] (Call 1 (pos k ∷ [])))
  Adds : (k : ℤ) → Rules (Frame 2 [] (Return k)) (Return (k +ℤ pos 1))
  Passes : (c : ℕ) → Rules (Frame 2 [] (Fail c)) (Fail c)

-- the hypothesis
pub data Hypothesis : Ground → Ground → Type 0 where
  CopyIsDown : (x : ℤ) → Hypothesis (Call 1 (x ∷ [])) (Call 0 (x ∷ []))

-- how far an integer is above 0
abbrev pub above : ℤ → ℕ
above (pos k) = k
above (negsuc k) = 0

-- the ranks, of two columns: copy is above down, and either falls with its argument
abbrev pub rank : ℕ → List ℤ → Rank
rank zero (x ∷ []) = 0 ∷ above x ∷ []
rank (suc zero) (x ∷ []) = 1 ∷ above x ∷ []
rank f xs = 0 ∷ 0 ∷ []

-- the integer is at least 0
abbrev pub AtLeastZero : ℤ → Type 0
AtLeastZero (pos k) = Unit {0}
AtLeastZero (negsuc k) = ⊥

-- the call of a term, if it has one, is at integers that are at least 0
abbrev pub CallsCount : Ground → Type 0
CallsCount (Return k) = Unit {0}
CallsCount (Fail c) = Unit {0}
CallsCount (Call f xs) = All AtLeastZero xs
CallsCount (Frame f xs s) = CallsCount s

-- the terms that are inside: those that fit, with such a call
abbrev pub IsInside : TermSet
IsInside s = Fits symbols s × CallsCount s

-- a fitting term that is not inside
abbrev pub negative_call : Ground
negative_call = down (negsuc 0)

-- all premises of the laws
pub record PremisesHold (weight : Ground → Weight) (inside : TermSet) (R H : Relation) : Type 0
  where
    pub inner : ClosedUnderSubterms inside
    pub lowers : Lowers weight inside (Either R H)
    pub stays : ClosedUnder inside (Either R H)
    pub replaceable : IsReplaceable inside R H
    pub moves : Reducible inside R
    pub single : IsSingleValued R
    pub rest : ResultsAreNormal R
