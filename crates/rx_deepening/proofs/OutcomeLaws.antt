-- What a counter of visits comes to, in the order of closed nodes, notes, and whether there are
-- more visits.
use Rattle.std.proofs.Common.{◌≡◌, ◌∙◌, ap, refl, sym, cond, ℕ, zero, suc, Bool, true, false, Option, Some, None, List, [], ◌∷◌, length, take}
use Rattle.std.proofs.Math.Dec.{leb-suc-suc, leb-suc-zero, leb-zero}
use Rattle.std.specs.Prelude.{nat_lt}
use Rattle.std.specs.Option.{option_or}
use Rattle.rx_deepening.specs.Outcomes.{closed_or, first_closed, first_note, note_of, noted_or, outcome, spent_if}
use Rattle.rx_deepening.specs.Counters.{begin, counted, outcome_by, over}
use Rattle.rx_deepening.specs.Visits.{Visit}
use Rattle.rx_deepening.specs.declared.outcome.Note.{Note}
use Rattle.rx_deepening.specs.declared.outcome.Outcome.{Outcome}
use Rattle.rx_deepening.specs.declared.counter.Ended.TheVariants.{Going, Found}
use Rattle.rx_deepening.specs.declared.counter.Counter.{Counter}
use Rattle.rx_deepening.proofs.CountLaws.{ended-stays}

module _ {R : Type 0} where
  pub or_none : (o : Option (Note R)) → option_or o None ≡ o
  or_none None = refl
  or_none (Some note) = refl

  pub or_or : (o p q : Option (Note R)) → option_or (option_or o p) q ≡ option_or o (option_or p q)
  or_or None p q = refl
  or_or (Some note) p q = refl

-- none are fewer than none, and one more on both sides changes nothing
none_less : (m : ℕ) → nat_lt m 0 ≡ false
none_less m = leb-suc-zero m

some_less : (n : ℕ) → nat_lt 0 (suc n) ≡ true
some_less n = leb-suc-suc 0 n ∙ leb-zero n

less_suc : (m n : ℕ) → nat_lt (suc m) (suc n) ≡ nat_lt m n
less_suc m n = leb-suc-suc (suc m) n

module _ {N R : Type 0} where
  abbrev counter_of : Counter N R → Outcome N R
  counter_of t = outcome_by t.ended t.note

  -- visits go on with n left and this note
  abbrev going : ℕ → Option (Note R) → Counter N R
  going left note = record { left = left; note = note; ended = Going }

  -- what the visits come to, with a note from before
  abbrev outcome_after : ℕ → Option (Note R) → List (Visit N R) → Outcome N R
  outcome_after left note vs =
      closed_or (first_closed (take left vs))
      (noted_or (option_or note (first_note (take left vs)))
      (spent_if (nat_lt left (length vs))))

  -- after the visit, which is closed or not
  after_visit : (b : Bool) (left : ℕ) (first : Option (Note R)) (v : Visit N R)
      (vs : List (Visit N R)) (rest : Option (Visit N R)) (later : Outcome N R)
      → counter_of (counted (going left first) vs) ≡ closed_or rest later
      → counter_of (counted (record {
        left = left;
        note = first;
        ended =
            cond b (Found v.node) Going;
      }) vs) ≡ closed_or (cond b (Some v) rest) later
  after_visit true left first v vs rest later h =
      ap counter_of (ended-stays (record { left = left; note = first; ended = Found v.node }) vs
      (λ e. cc))
  after_visit false left first v vs rest later h = h

  -- the outcome by whether there are more visits
  abbrev outcome_with : Option (Visit N R) → Option (Note R) → Bool → Outcome N R
  outcome_with closed note more = closed_or closed (noted_or note (spent_if more))

  without : (note : Option (Note R)) (more : Bool) {b : Bool} → more ≡ b →
      noted_or {N = N} note (spent_if more) ≡ outcome_with None (option_or note None) b
  without note more e = let same = sym (or_none note) in λ i. outcome_with None (same i) (e i)

  counter_comes : (vs : List (Visit N R)) (left : ℕ) (note : Option (Note R)) →
      counter_of (counted (going left note) vs) ≡ outcome_after left note vs
  counter_comes [] zero note = without note false (sym (none_less 0))
  counter_comes [] (suc left) note = without note false (sym (none_less (suc left)))
  counter_comes (v ∷ vs) zero note =
      ap counter_of (ended-stays (over (going 0 note)) vs (λ e. cc)) ∙
      without note true (sym (some_less (length vs)))
  counter_comes (v ∷ vs) (suc left) note =
      after_visit v.closed left (option_or note (note_of v)) v vs (first_closed (take left vs))
      (noted_or (option_or note (option_or (note_of v) (first_note (take left vs))))
      (spent_if (nat_lt (suc left) (suc (length vs)))))
      (counter_comes vs left (option_or note (note_of v))
      ∙ (let fewer = sym (less_suc left (length vs)) in
      λ i. outcome_with (first_closed (take left vs))
      (or_or note (note_of v) (first_note (take left vs)) i) (fewer i)))

  -- the counter of all visits comes to their outcome
  pub counted-outcome : (budget : ℕ) (vs : List (Visit N R)) →
      outcome_by (counted (begin budget) vs).ended (counted (begin budget) vs).note ≡
      outcome budget vs
  counted-outcome budget vs = counter_comes vs budget None
