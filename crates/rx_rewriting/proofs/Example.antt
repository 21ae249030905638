-- The example meets all premises, and what the laws then say of it.
use Rattle.std.proofs.Common.{◌≡◌, ℕ, zero, suc, Bool, true, false, true≢false, inl, inr, List, [], ◌∷◌, ℤ, pos, negsuc, ◌+ℤ◌, Option, Some, None, refl, ap, sym, subst, arith}
use Rattle.std.proofs.lemmas.List.Elements.{All-cons, All-head, All-nil}
use Rattle.rx_rewriting.specs.Terms.{Ground, Return, Fail, Call, Frame, IsResult, Symbol, Fits}
use Rattle.rx_rewriting.specs.Steps.{Step, Here, Under, Reaches, Stop, Go, Joinable, Either}
use Rattle.rx_rewriting.specs.Ranks.{Rank, RankLess, Smaller, weight_of}
use Rattle.rx_rewriting.specs.Premises.{ClosedUnderSubterms, ResultsAreNormal, LowersHere, IsReplaceableHere}
use Rattle.rx_rewriting.specs.Example.{symbols, down, copy, one_more, Rules, DownEnds, DownTurns, CopyEnds, CopyTurns, Adds, Passes, Hypothesis, CopyIsDown, above, rank, AtLeastZero, CallsCount, IsInside, PremisesHold, negative_call}
use Rattle.rx_rewriting.proofs.UnderFrames.{replaceable_under_frames, single_valued_under_frames, results_rest_under_frames, stays_under_frames, moves_under_frames}
use Rattle.rx_rewriting.proofs.Chains.{Step-by_rule, Reaches-step, Joinable-before_left}
use Rattle.rx_rewriting.proofs.SmallerWeights.{lowers_under_frames}
use Rattle.rx_rewriting.proofs.Conversion.{joined_end_alike}
use Rattle.rx_rewriting.proofs.UniqueResults.{convertible_results_equal}

-- one rank gives way to none
to_none : (r : Rank) → Smaller [] (r ∷ [])
to_none r =
    record {
      first = r;
      others = [];
      kept = [];
      put = [];
      old = λ q. refl;
      new = λ q. refl;
      below =
          tt;
    }

-- one rank gives way to two below it
to_two : (r q p : Rank) → RankLess q r → RankLess p r → Smaller (q ∷ p ∷ []) (r ∷ [])
to_two r q p one other =
    record {
      first = r;
      others = [];
      kept = [];
      put = q ∷ p ∷ [];
      old = λ a. refl;
      new = λ a. refl;
      below = (inl one, (inl other, tt));
    }

-- each rule, with no frames over it, lowers the weight
rules_lower : (s t : Ground) → Rules s t → Smaller (weight_of rank t) (weight_of rank s)
rules_lower s t (DownEnds x low) = to_none (0 ∷ above x ∷ [])
rules_lower s t (DownTurns k) =
    to_two (0 ∷ suc k ∷ []) (0 ∷ 0 ∷ []) (0 ∷ k ∷ [])
    (refl, inr (refl, inl (omega arith))) (refl, inr (refl, inl (omega arith)))
rules_lower s t (CopyEnds x low) = to_none (1 ∷ above x ∷ [])
rules_lower s t (CopyTurns k) =
    to_two (1 ∷ suc k ∷ []) (0 ∷ 0 ∷ []) (1 ∷ k ∷ []) (refl, inl (omega arith))
    (refl, inr (refl, inl (omega arith)))
rules_lower s t (Adds k) = to_none (0 ∷ 0 ∷ [])
rules_lower s t (Passes c) = to_none (0 ∷ 0 ∷ [])

-- and so does the hypothesis
hypothesis_lowers : (s t : Ground) → Hypothesis s t → Smaller (weight_of rank t) (weight_of rank s)
hypothesis_lowers s t (CopyIsDown x) =
    record {
      first = 1 ∷ above x ∷ [];
      others = [];
      kept = [];
      put = (0 ∷ above x ∷ []) ∷ [];
      old = λ q. refl;
      new = λ q. refl;
      below = (inl (refl, inl (omega arith)), tt);
    }

-- each rule leads from a fitting term to a fitting one
rules_fit : (s t : Ground) → Fits symbols s → Rules s t → Fits symbols t
rules_fit s t fits (DownEnds x low) = tt
rules_fit s t fits (DownTurns k) = (refl, refl)
rules_fit s t fits (CopyEnds x low) = tt
rules_fit s t fits (CopyTurns k) = (refl, refl)
rules_fit s t fits (Adds k) = tt
rules_fit s t fits (Passes c) = fits.1

-- two rules at one term give the same
rules_once : (s t u : Ground) → Rules s t → Rules s u → t ≡ u
rules_once s t u (DownEnds x low) (DownEnds y low') = refl
rules_once s t u (DownEnds x low) (DownTurns k) = absurd low
rules_once s t u (DownTurns k) (DownEnds y low) = absurd low
rules_once s t u (DownTurns k) (DownTurns j) = refl
rules_once s t u (CopyEnds x low) (CopyEnds y low') = refl
rules_once s t u (CopyEnds x low) (CopyTurns k) = absurd low
rules_once s t u (CopyTurns k) (CopyEnds y low) = absurd low
rules_once s t u (CopyTurns k) (CopyTurns j) = refl
rules_once s t u (Adds k) (Adds j) = refl
rules_once s t u (Passes c) (Passes d) = refl

-- nor one whose call is at a negative integer
rules_count : (s t : Ground) → CallsCount s → Rules s t → CallsCount t
rules_count s t count (DownEnds x low) = tt
rules_count s t count (DownTurns k) = All-cons AtLeastZero (pos k) [] tt (All-nil AtLeastZero)
rules_count s t count (CopyEnds x low) = tt
rules_count s t count (CopyTurns k) = All-cons AtLeastZero (pos k) [] tt (All-nil AtLeastZero)
rules_count s t count (Adds k) = tt
rules_count s t count (Passes c) = tt

-- no rule starts at a result
no_rule_at_result : (s t : Ground) → IsResult s → Rules s t → ⊥
no_rule_at_result s t result (DownEnds x low) = result
no_rule_at_result s t result (DownTurns k) = result
no_rule_at_result s t result (CopyEnds x low) = result
no_rule_at_result s t result (CopyTurns k) = result
no_rule_at_result s t result (Adds k) = result
no_rule_at_result s t result (Passes c) = result

-- no step starts at a result
results_rest : ResultsAreNormal Rules
results_rest = results_rest_under_frames Rules no_rule_at_result

-- where a rule rewrites a frame, nothing below that frame steps
nothing_below : (f : ℕ) (xs : List ℤ) (s t u : Ground) → Rules (Frame f xs s) t → Step Rules s u → ⊥
nothing_below f xs s t u (Adds k) step = results_rest (Return k) u tt step
nothing_below f xs s t u (Passes c) step = results_rest (Fail c) u tt step

-- down steps at each integer
down_steps : (x : ℤ) → (t : Ground) × Step Rules (down x) t
down_steps (pos zero) = (Return (pos 0), Here (DownEnds (pos zero) tt))
down_steps (pos (suc k)) = (one_more (down (pos k)), Here (DownTurns k))
down_steps (negsuc k) = (Return (pos 0), Here (DownEnds (negsuc k) tt))

-- copy steps at each integer
copy_steps : (x : ℤ) → (t : Ground) × Step Rules (copy x) t
copy_steps (pos zero) = (Return (pos 0), Here (CopyEnds (pos zero) tt))
copy_steps (pos (suc k)) = (one_more (copy (pos k)), Here (CopyTurns k))
copy_steps (negsuc k) = (Return (pos 0), Here (CopyEnds (negsuc k) tt))

-- what a declaration says, also of a symbol that is not declared
abbrev pub arity_of : Option Symbol → ℕ
arity_of (Some symbol) = symbol.arity
arity_of None = 0

abbrev pub stands_as_frame : Option Symbol → Bool
stands_as_frame (Some symbol) = symbol.is_frame
stands_as_frame None = false

abbrev pub is_declared : Option Symbol → Bool
is_declared (Some symbol) = true
is_declared None = false

-- each fitting call has a step
calls_step : (f : ℕ) (xs : List ℤ) → Fits symbols (Call f xs) → (t : Ground) ×
    Step Rules (Call f xs) t
calls_step zero [] fits = absurd (omega (arith, ap arity_of fits))
calls_step zero (x ∷ []) fits = down_steps x
calls_step zero (x ∷ y ∷ xs) fits = absurd (omega (arith, ap arity_of fits))
calls_step (suc zero) [] fits = absurd (omega (arith, ap arity_of fits))
calls_step (suc zero) (x ∷ []) fits = copy_steps x
calls_step (suc zero) (x ∷ y ∷ xs) fits = absurd (omega (arith, ap arity_of fits))
calls_step (suc (suc zero)) xs fits = absurd (true≢false (ap stands_as_frame fits))
calls_step (suc (suc (suc f))) xs fits = absurd (true≢false (sym (ap is_declared fits)))

-- each fitting frame over a result has a step
frames_step : (f : ℕ) (xs : List ℤ) (s : Ground) → Fits symbols (Frame f xs s) → IsResult s
    → (t : Ground) × Step Rules (Frame f xs s) t
frames_step zero xs s fits result = absurd (true≢false (sym (ap stands_as_frame fits.0)))
frames_step (suc zero) xs s fits result = absurd (true≢false (sym (ap stands_as_frame fits.0)))
frames_step (suc (suc zero)) [] (Return k) fits result = (Return (k +ℤ pos 1), Here (Adds k))
frames_step (suc (suc zero)) [] (Fail c) fits result = (Fail c, Here (Passes c))
frames_step (suc (suc zero)) [] (Call f xs) fits result = absurd result
frames_step (suc (suc zero)) [] (Frame f xs s) fits result = absurd result
frames_step (suc (suc zero)) (x ∷ xs) s fits result = absurd (omega (arith, ap arity_of fits.0))
frames_step (suc (suc (suc f))) xs s fits result = absurd (true≢false (sym (ap is_declared fits.0)))

-- a rule step from copy leads to a term that joins with down at the same integer
copy_joins_down : (x : ℤ)
    → (first : Ground) × Step Rules (copy x) first ×
    Joinable (Either Rules Hypothesis) first (down x)
copy_joins_down (pos zero) = (
  Return (pos 0),
  Here (CopyEnds (pos zero) tt),
  (Return (pos 0), Stop, Go (Here (inl (DownEnds (pos zero) tt))) Stop),
)
copy_joins_down (pos (suc k)) = (
  one_more (copy (pos k)),
  Here (CopyTurns k),
  (
    one_more (down (pos k)),
    Go (Under 2 [] (Here (inr (CopyIsDown (pos k))))) Stop,
    Go (Here (inl (DownTurns k))) Stop,
  ),
)
copy_joins_down (negsuc k) = (
  Return (pos 0),
  Here (CopyEnds (negsuc k) tt),
  (Return (pos 0), Stop, Go (Here (inl (DownEnds (negsuc k) tt))) Stop),
)

-- the hypothesis, with no frames over it, can be replaced
replaceable_here : IsReplaceableHere IsInside Rules Hypothesis
replaceable_here s t in_s (CopyIsDown x) = copy_joins_down x

-- the inner part of an inside term is inside, and another inside term may be in its place
inside_inner : ClosedUnderSubterms IsInside
inside_inner f xs s whole = (whole.0.1, whole.1)

inside_exchange : (f : ℕ) (xs : List ℤ) (s t : Ground) → IsInside (Frame f xs s) → IsInside t →
    IsInside (Frame f xs t)
inside_exchange f xs s t whole inner = ((whole.0.0, inner.0), inner.1)

-- all premises of the laws hold of these rules and this hypothesis, inside these terms
pub premises_hold : PremisesHold (weight_of rank) IsInside Rules Hypothesis
premises_hold =
    record {
      inner = inside_inner;
      lowers = lowers_under_frames rank IsInside (Either Rules Hypothesis) inside_inner lower;
      stays =
          stays_under_frames IsInside (Either Rules Hypothesis) inside_inner inside_exchange stay;
      replaceable =
          replaceable_under_frames IsInside Rules Hypothesis inside_inner replaceable_here;
      moves = moves_under_frames IsInside Rules inside_inner (λ f xs in_s. calls_step f xs in_s.0)
          (λ f xs s in_s result. frames_step f xs s in_s.0 result);
      single = single_valued_under_frames Rules rules_once nothing_below;
      rest = results_rest;
    }
  where
    lower : LowersHere (weight_of rank) IsInside (Either Rules Hypothesis)
    lower s t in_s (inl rule) = rules_lower s t rule
    lower s t in_s (inr hypothesis) = hypothesis_lowers s t hypothesis

    stay : (s t : Ground) → IsInside s → Either Rules Hypothesis s t → IsInside t
    stay s t in_s (inl rule) = (rules_fit s t in_s.0 rule, rules_count s t in_s.1 rule)
    stay s t in_s (inr (CopyIsDown x)) = (refl, in_s.1)

-- so, by the laws, copy and down reach one result at each integer from 0 on, although no rule leads
-- from the one to the other
pub copy_is_down : (x : ℕ)
    → (k : Ground) × Reaches Rules (copy (pos x)) k × Reaches Rules (down (pos x)) k × IsResult k
copy_is_down x =
    let p = premises_hold in
    let count = All-cons AtLeastZero (pos x) [] tt (All-nil AtLeastZero) in
    let (first, leads, joined) = copy_joins_down (pos x) in
    let ends = joined_end_alike (weight_of rank) IsInside Rules Hypothesis p.lowers p.stays
    p.replaceable p.moves
    (copy (pos x)) (down (pos x)) (refl, count) (refl, count)
    (Joinable-before_left (Either Rules Hypothesis) (copy (pos x)) first (down (pos x))
    (Reaches-step (Step-by_rule Rules Hypothesis leads)) joined) in
    let left = ends.left in
    let right = ends.right in
    let same = convertible_results_equal Rules p.single p.rest left.end right.end
    left.is_result right.is_result ends.convertible in
    let P : Ground → Type 0 = λ k. Reaches Rules (down (pos x)) k in
    (left.end, left.reached, subst P (sym same) right.reached, left.is_result)

-- a call at a negative integer fits and is not inside
pub negative_outside : Fits symbols negative_call × (IsInside negative_call → ⊥)
negative_outside = (refl, λ in_s. All-head AtLeastZero (negsuc 0) [] in_s.1)
