-- Where runs lead, composed.
use Rattle.std.proofs.Common.{◌≡◌, ℕ, zero, suc, ◌+◌, ◌*◌, subst, arith}
use Rattle.std.specs.Prelude.{Contains}
use Rattle.rx_rewriting.specs.Terms as stack
use Rattle.rx_rewriting.specs.Terms.{Ground, Relation}
use Rattle.rx_rewriting.specs.Steps.{Step, ReachesIn, NoStep, OneMore}
use Rattle.rx_rewriting.proofs.Chains.{ReachesIn-trans}
use Rattle.c_meaning.specs.Outcomes.{Outcome, Value, Error, More, on_value}
use Rattle.c_ast.specs.declared.integers.Integers.{Integers}
use Rattle.rx_code.specs.Rules.{failure_codes}
use Rattle.rx_agreement.specs.Agreement.{code_of}
use Rattle.rx_agreement.proofs.Runs.{Runs, RunsOn, Long}

-- a product of a sum
pub times_sum : (i j w : ℕ) → (i + j) * w ≡ i * w + j * w
times_sum zero j w = omega arith
times_sum (suc i) j w = let h = times_sum i j w in omega (arith, h)

module _ (R : Relation) (w : ℕ) where
  pub run-none : (s : Ground) → Runs R w s s
  run-none s = (0, NoStep)

  pub run-step : {s t : Ground} → Step R s t → RunsOn R w s t
  run-step step = (0, OneMore step NoStep)

  pub run-trans : {s t u : Ground} → Runs R w s t → Runs R w t u → Runs R w s u
  run-trans (i, one) (j, two) = (i + j, ReachesIn-trans one two)

  pub on-run : {s t : Ground} → RunsOn R w s t → Runs R w s t
  on-run (j, run) = (suc j, run)

  pub run-on : {s t u : Ground} → Runs R w s t → RunsOn R w t u → RunsOn R w s u
  run-on {s} {t} {u} (i, one) (j, two) =
      let P : ℕ → Type 0 = λ k. ReachesIn R k s u in
      let e : i + suc j ≡ suc (i + j) = omega arith in
      (i + j, subst P e (ReachesIn-trans one two))

  pub on-then : {s t u : Ground} → RunsOn R w s t → Runs R w t u → RunsOn R w s u
  on-then {s} {t} {u} (i, one) (j, two) =
      let P : ℕ → Type 0 = λ k. ReachesIn R k s u in
      let e : suc i + j ≡ suc (i + j) = omega arith in
      (i + j, subst P e (ReachesIn-trans one two))

  -- a run that goes on with a long one is long
  pub long-after : {m h : ℕ} {s t : Ground} → Runs R w s t → Long R w m h t → Long R w m h s
  long-after {m} {h} (i, one) long =
      let e = times_sum i long.steps w in
      record {
        steps = i + long.steps;
        end = long.end;
        run = ReachesIn-trans one long.run;
        enough =
            omega (arith, e, long.enough);
      }

module _ (integers : Integers) (R : Relation) (w : ℕ) where
  -- where an outcome leads: a value as P says, an error to its failure, which is one that
  -- frames hand on, and 'more' to a long run
  abbrev pub Leads : {A : Type 0} → ℕ → ℕ → Ground → (A → Type 0) → Outcome A → Type 0
  Leads m h start P (Value x) = P x
  Leads m h start P (Error e) =
      Contains (failure_codes integers) (code_of e) × Runs R w start (stack.Fail (code_of e))
  Leads m h start P More = Long R w m h start

  -- goes on from a value
  pub leads-on : {A B : Type 0} (m h : ℕ) (start : Ground) (P : A → Type 0) (Q : B → Type 0)
      (o : Outcome A) (g : A → Outcome B)
      → Leads m h start P o → ((x : A) → P x → Leads m h start Q (g x)) →
      Leads m h start Q (on_value o g)
  leads-on m h start P Q (Value x) g here next = next x here
  leads-on m h start P Q (Error e) g here next = here
  leads-on m h start P Q More g here next = here

  -- a run before
  pub leads-after : {B : Type 0} (m h : ℕ) (start middle : Ground) (P Q : B → Type 0)
      (o : Outcome B)
      → Runs R w start middle → ((y : B) → P y → Q y) → Leads m h middle P o → Leads m h start Q o
  leads-after m h start middle P Q (Value x) run wider there = wider x there
  leads-after m h start middle P Q (Error e) run wider there = (there.0, run-trans R w run there.1)
  leads-after m h start middle P Q More run wider there = long-after R w run there
