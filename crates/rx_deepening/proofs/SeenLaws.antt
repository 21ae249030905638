-- What is seen of a counter that counts visits of nodes is the counter that counts what is seen of
-- them.
use Rattle.std.proofs.Common.{◌≡◌, refl, ap, cond, ℕ, Bool, true, false, Option, Some, None}
use Rattle.rx_deepening.specs.Counters.{outcome_by, visited}
use Rattle.rx_deepening.specs.Views.{IfClosed, IfFound, seen_ended, seen_outcome, seen_counter, seen_visit}
use Rattle.rx_deepening.specs.Visits.{Visit}
use Rattle.rx_deepening.specs.declared.outcome.Note.{Note}
use Rattle.rx_deepening.specs.declared.counter.Ended.{Ended}
use Rattle.rx_deepening.specs.declared.counter.Ended.TheVariants.{Going, Found, Over}
use Rattle.rx_deepening.specs.declared.counter.Counter.{Counter}

module _ {N V : Type 0} (view : N → V) where
  end_seen : (b : Bool) (node : N) → seen_ended view (cond b (Found node) Going) ≡
      cond b (Found (view node)) Going
  end_seen true node = refl
  end_seen false node = refl

  -- the visits go on where they are seen to
  pub going_seen : (e : Ended N) → e ≡ Going → seen_ended view e ≡ Going
  going_seen e h = ap (seen_ended view) h

  pub ended_seen : (e : Ended N) → (e ≡ Going → ⊥) → seen_ended view e ≡ Going → ⊥
  ended_seen Going h k = h refl
  ended_seen (Found node) h k = cc
  ended_seen Over h k = cc

module _ {N V R : Type 0} (view : N → V) where
  pub visited_seen : (left : ℕ) (t : Counter N R) (v : Visit N R) →
      seen_counter view (visited left t v) ≡ visited left (seen_counter view t) (seen_visit view v)
  visited_seen left t v =
      λ i. record {
        left = left;
        note = (visited left t v).note;
        ended =
            end_seen view v.closed v.node i;
      }

  -- so of what they come to
  note_seen : (o : Option (Note R)) (e : Ended N) → seen_outcome view (outcome_by e o) ≡
      outcome_by (seen_ended view e) o
  note_seen None Going = refl
  note_seen (Some note) Going = refl
  note_seen o (Found node) = refl
  note_seen None Over = refl
  note_seen (Some note) Over = refl

  pub outcome_seen : (t : Counter N R) → seen_outcome view (outcome_by t.ended t.note) ≡
      outcome_by (seen_ended view t.ended) t.note
  outcome_seen t = note_seen t.note t.ended

module _ {N : Type 0} (P : N → Type 0) where
  -- a node that is closed as it is visited is found
  pub found_if : (b : Bool) (node : N) → P node → IfFound P (cond b (Found node) Going)
  found_if true node h = h
  found_if false node h = tt

  pub closed_if : {R : Type 0} (o : Option (Note R)) (e : Ended N) → IfFound P e →
      IfClosed P (outcome_by e o)
  closed_if None Going h = tt
  closed_if (Some note) Going h = tt
  closed_if o (Found node) h = h
  closed_if None Over h = tt
  closed_if (Some note) Over h = tt
