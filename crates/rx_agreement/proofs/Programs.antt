-- Programs: their calls do what the rules do, and the other way round.
use Rattle.std.proofs.Common.{◌≡◌, ℕ, zero, suc, ◌+◌, ◌*◌, ◌≤◌, ◌<◌, ◌↔◌, Option, Some, List, [], length, map, take, refl, sym, ap, subst, ◌∙◌, ℤ, pos, arith}
use Rattle.std.specs.Prelude.{slice_get}
use Rattle.rx_poly.specs.Constants.{number}
use Rattle.rx_poly.proofs.Constants.{value-number}
use Rattle.rx_rewriting.specs.Terms as stack
use Rattle.rx_rewriting.specs.Terms.{Ground, Relation, IsResult}
use Rattle.rx_rewriting.specs.Steps.{Reaches, ReachesIn, IsSingleValued}
use Rattle.rx_rewriting.specs.Premises.{ResultsAreNormal}
use Rattle.rx_rewriting.proofs.Chains.{ReachesIn-reaches, Reaches-counted}
use Rattle.rx_rewriting.proofs.UniqueResults.{result_in_rest, reached_from_result}
use Rattle.c_ast.specs.declared.program.Function.{Function}
use Rattle.c_ast.specs.declared.program.Resolved.{Resolved}
use Rattle.c_ast.specs.declared.integers.Integers.{Integers}
use Rattle.c_meaning.specs.Outcomes.{Failure, Division, Range, Outcome, Value, Error, More, on_value, IsAnswer, State, Flow, Next, Break, Continue, Return}
use Rattle.c_meaning.specs.Statements.{Rounds, in_order, stmt}
use Rattle.c_meaning.specs.Programs.{returned, body_outcome, rounds, call_outcome, Returns}
use Rattle.rx_term.specs.Assigned.{assigned}
use Rattle.rx_code.specs.Points.{Actions}
use Rattle.rx_code.specs.Doing.{DoAll, at_point}
use Rattle.rx_code.specs.declared.action.Action.TheVariants as does_at
use Rattle.rx_code.specs.declared.point.Point.{Point}
use Rattle.rx_code.specs.Codes.{HasCode}
use Rattle.rx_agreement.specs.Agreement.{code_of, result_of}
use Rattle.rx_agreement.proofs.Flows.{Executes}
use Rattle.rx_agreement.proofs.Loops.{loops, total}
use Rattle.rx_agreement.proofs.Runs.{Runs, Long}
use Rattle.rx_agreement.proofs.Leads.{Leads, run-step, run-trans, on-run}
use Rattle.rx_agreement.proofs.Statements.{Fine, CallsRun, list_runs, no_round, one_round, calls_run}
use Rattle.std.proofs.Math.Seq.{take-length}

-- the function at the place is there, with n parameters, and its code is where its entry is
pub record IsCompiled (integers : Integers) (acts : Actions) (callable : ℕ → ℕ → Type 0)
    (program : Resolved)
    (entry : ℕ → ℕ) (f count : ℕ) : Type 0 where
  pub function : Function
  pub stands : slice_get program.functions f ≡ Some function
  pub counted : count ≡ length function.params
  pub code : HasCode integers acts callable function (entry f)

less_times : (i j w : ℕ) → i ≤ j → i * w ≤ j * w
less_times zero j w below = omega arith
less_times (suc i) zero w below = absurd (omega arith)
less_times (suc i) (suc j) w below = let h = less_times i j w (omega arith) in omega (arith, h)

-- errors with one code are one
same_error : (e d : Failure) → code_of e ≡ code_of d → e ≡ d
same_error Division Division same = refl
same_error Division Range same = absurd (omega arith)
same_error Range Division same = absurd (omega arith)
same_error Range Range same = refl

module _ (integers : Integers) (R : Relation) (program : Resolved) (entry : ℕ → ℕ)
    (may : ℕ → ℕ → Type 0) (acts : Actions)
    (does : DoAll integers R entry acts)
    (coded : (f count : ℕ) → may f count → IsCompiled integers acts may program entry f count)
    (w : ℕ) (bounded : (f : ℕ) (function : Function) → slice_get program.functions f ≡
    Some function → total (map loops function.body) < w) (positive : 0 < w) where
  -- the end of a body
  zero_at_end : (end : Point) (s : State) → end.width ≡ 0 →
      acts end (does_at.Return (number (pos 0))) → Runs R w (at_point end s) (stack.Return (pos 0))
  zero_at_end end s none act =
      let step = does end (does_at.Return (number (pos 0))) act [] (sym none) in
      let e : stack.Call end.symbol [] ≡ at_point end s =
      ap (stack.Call end.symbol) (sym (ap (λ k. take k s) none)) in
      subst (λ g. Runs R w g (stack.Return (pos 0))) e
      (subst (λ k. Runs R w (stack.Call end.symbol []) (stack.Return k))
      (value-number (assigned []) (pos 0)) (on-run R w (run-step R w step)))

  ends_value : (m h : ℕ) (start : Ground) (n k : ℕ) (end : Point) (o : Outcome Flow) → end.width ≡
      0 → acts end (does_at.Return (number (pos 0))) → suc h ≤ w
      → Executes integers R w m h start n k end end end o →
      Leads integers R w (suc m) w start (λ v. Runs R w start (stack.Return v))
      (on_value o returned)
  ends_value m h start n k end (Value (Next s)) none act below there =
      run-trans R w there.0 (zero_at_end end s none act)
  ends_value m h start n k end (Value (Break s)) none act below there =
      run-trans R w there.0 (zero_at_end end s none act)
  ends_value m h start n k end (Value (Continue s)) none act below there =
      run-trans R w there.0 (zero_at_end end s none act)
  ends_value m h start n k end (Value (Return x)) none act below there = there
  ends_value m h start n k end (Error e) none act below there = there
  ends_value m h start n k end More none act below there =
      record {
        steps = there.steps;
        end = there.end;
        run = there.run;
        enough = let e =
            there.enough in omega (arith, e, below);
      }

  body_runs : (r : Rounds) (m : ℕ) → Fine integers R entry acts may does w positive r m →
      CallsRun integers R entry acts may does w positive (suc m)
      (λ f. body_outcome integers (slice_get program.functions f) r)
  body_runs r m fine f args called =
      let there = coded f (length args) called in
      let body = there.function.body in
      let code = there.code in
      let end = code.end in
      let first : Point = record { symbol = entry f; width = length there.function.params } in
      let long = there.counted in
      let enough : length there.function.params ≤ length args = omega (arith, long) in
      let none : end.width ≤ length there.function.params = let e = code.no_variables in
      omega (arith, e) in
      let runs = list_runs integers R entry acts may does w positive (length there.function.params)
      body
      code.slots first end end end code.body
      (record { breaks = none; continues = none }) r m fine args refl enough in
      let at : at_point first args ≡ stack.Call (entry f) args =
      ap (stack.Call (entry f)) (ap (λ k. take k args) (sym long) ∙ take-length args) in
      let P : Ground → Type 0 = λ g. Executes integers R w m
      (total (map loops body)) g (length there.function.params) code.slots end end end
      (in_order (map (stmt integers) body) r args) in
      let Q : Option Function → Type 0 = λ o.
      Leads integers R w (suc m) w (stack.Call (entry f) args)
      (λ k. Runs R w (stack.Call (entry f) args) (stack.Return k))
      (body_outcome integers o r args) in
      subst Q (sym there.stands)
      (ends_value m (total (map loops body)) (stack.Call (entry f) args)
      (length there.function.params) code.slots end (in_order (map (stmt integers) body) r args)
      code.no_variables code.returns_zero
      (let e = bounded f there.function there.stands in omega (arith, e)) (subst P at runs))

  -- the rounds of a program
  fine_rounds : (n : ℕ) → Fine integers R entry acts may does w positive (rounds integers program n)
      n
  fine_rounds zero = no_round
  fine_rounds (suc n) =
      one_round _ (rounds integers program n) n
      (body_runs (rounds integers program n) n (fine_rounds n))
      (fine_rounds n)

  answers_reach : (m : ℕ) (start : Ground) (r : Outcome ℤ) → IsAnswer r →
      Leads integers R w m w start (λ v. Runs R w start (stack.Return v)) r →
      Reaches R start (result_of r)
  answers_reach m start (Value k) answer there = ReachesIn-reaches there.1
  answers_reach m start (Error e) answer there = ReachesIn-reaches there.1.1
  answers_reach m start More answer there = absurd answer

  result_is : (r : Outcome ℤ) → IsAnswer r → IsResult (result_of r)
  result_is (Value k) answer = tt
  result_is (Error e) answer = tt
  result_is More answer = absurd answer

  same_result : (r q : Outcome ℤ) → IsAnswer r → IsAnswer q → result_of r ≡ result_of q → r ≡ q
  same_result (Value k) (Value l) one two same = cc
  same_result (Value k) (Error e) one two same = let no : ⊥ = cc in absurd no
  same_result (Value k) More one two same = absurd two
  same_result (Error e) (Value l) one two same = let no : ⊥ = cc in absurd no
  same_result (Error e) (Error d) one two same =
      let codes : code_of e ≡ code_of d = cc in ap Error (same_error e d codes)
  same_result (Error e) More one two same = absurd two
  same_result More q one two same = absurd one

  -- a run of j steps to a result leaves no room for 'more' with n rounds
  too_long : (j : ℕ) (start end : Ground) → IsSingleValued R → ResultsAreNormal R → IsResult end →
      ReachesIn R j start end → Long R w (suc (j * w + w)) w start → ⊥
  too_long j start end single rest result all long =
      let (at_most, left) = result_in_rest R single rest start end long.end j long.steps result all
      long.run in
      let e = long.enough in let f = less_times long.steps j w at_most in omega (arith, e, f)

  two_results : (start : Ground) (g h : Ground) → IsSingleValued R → ResultsAreNormal R →
      IsResult g →
      IsResult h → Reaches R start g → Reaches R start h → g ≡ h
  two_results start g h single rest one two to_g to_h =
      let (i, run_g) = Reaches-counted to_g in
      let (j, run_h) = Reaches-counted to_h in
      let (at_most, left) = result_in_rest R single rest start h g j i two run_h run_g in
      reached_from_result R rest g h one (ReachesIn-reaches left)

  -- the meaning and the rules agree
  pub agree : IsSingleValued R → ResultsAreNormal R → (f : ℕ) (args : List ℤ) →
      may f (length args) →
      (r : Outcome ℤ) → IsAnswer r
      → Returns integers program f args r ↔ Reaches R (stack.Call (entry f) args) (result_of r)
  agree single rest f args called r answer = (there, back)
    where
      there : Returns integers program f args r →
          Reaches R (stack.Call (entry f) args) (result_of r)
      there returns =
          answers_reach returns.enough (stack.Call (entry f) args) r answer
          (subst (Leads integers R w returns.enough w (stack.Call (entry f) args)
          (λ v. Runs R w (stack.Call (entry f) args) (stack.Return v))) returns.outcome
          (calls_run integers R entry acts may does w positive
          (rounds integers program returns.enough)
          returns.enough
          (fine_rounds returns.enough) f args called))

      found : (n j : ℕ) (o : Outcome ℤ) → n ≡ suc (j * w + w) →
          call_outcome integers program n f args ≡ o →
          Reaches R (stack.Call (entry f) args) (result_of r)
          → ReachesIn R j (stack.Call (entry f) args) (result_of r)
          → Leads integers R w n w (stack.Call (entry f) args)
          (λ v. Runs R w (stack.Call (entry f) args) (stack.Return v)) o →
          Returns integers program f args r
      found n j (Value k) is outcome reaches counted runs =
          let e : Value k ≡ r = same_result (Value k) r tt answer
          (two_results (stack.Call (entry f) args) (stack.Return k) (result_of r) single rest tt
          (result_is r answer) (ReachesIn-reaches runs.1) reaches) in
          record { enough = n; outcome = outcome ∙ e; is_answer = answer }
      found n j (Error d) is outcome reaches counted runs =
          let e : Error d ≡ r = same_result (Error d) r tt answer
          (two_results (stack.Call (entry f) args) (stack.Fail (code_of d)) (result_of r) single
          rest tt (result_is r answer) (ReachesIn-reaches runs.1.1) reaches) in
          record { enough = n; outcome = outcome ∙ e; is_answer = answer }
      found n j More is outcome reaches counted runs =
          absurd (too_long j (stack.Call (entry f) args) (result_of r) single rest
          (result_is r answer) counted (subst (λ k. Long R w k w (stack.Call (entry f) args)) is
          runs))

      back : Reaches R (stack.Call (entry f) args) (result_of r) →
          Returns integers program f args r
      back reaches =
          let (j, counted) = Reaches-counted reaches in
          let n = suc (j * w + w) in
          found n j (call_outcome integers program n f args) refl refl reaches counted
          (calls_run integers R entry acts may does w positive (rounds integers program n) n
          (fine_rounds n)
          f args
          called)
