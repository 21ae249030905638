-- What code of statements does.
use Rattle.std.proofs.Common.{◌≡◌, ℕ, zero, suc, ◌+◌, ◌*◌, ◌≤◌, ◌<◌, if◌then◌else◌, Option, None, Some, List, [], ◌∷◌, ◌++◌, length, map, take, refl, sym, ap, subst, ◌∙◌, ◌⊎◌, inl, inr, ℤ, pos, arith, length-append}
use Rattle.std.specs.Prelude.{slice_set}
use Rattle.std.proofs.lemmas.List.{length-take-le, append-nil, length-set}
use Rattle.rx_poly.specs.Constants.{number}
use Rattle.rx_poly.specs.Value.{value}
use Rattle.rx_poly.specs.declared.body.Body.{Body}
use Rattle.rx_poly.proofs.Constants.{value-number}
use Rattle.rx_rewriting.specs.Terms as stack
use Rattle.rx_rewriting.specs.Terms.{Ground, Relation}
use Rattle.rx_rewriting.specs.Steps.{Step, NoStep}
use Rattle.rx_rewriting.proofs.Chains.{ReachesIn-trans}
use Rattle.c_ast.specs.declared.expr.Expr.{Expr}
use Rattle.c_ast.specs.declared.stmt.Stmt.{Stmt}
use Rattle.c_ast.specs.declared.stmt.Stmt.TheVariants as Syntax
use Rattle.c_ast.specs.declared.integers.Integers.{Integers}
use Rattle.c_meaning.specs.Outcomes.{Outcome, Value, Error, More, on_value, State, Flow, Next, Return}
use Rattle.c_meaning.specs.Expressions.{Calls, is_zero, expr}
use Rattle.c_meaning.specs.Statements.{Rounds, calls_with, optional, on_next, in_order, leave, Turn, Again, Ends, on_again, loop, after_body, after_change, condition, while_turn, do_turn, stmt}
use Rattle.c_meaning.proofs.Equations as means
use Rattle.rx_term.specs.Assigned.{assigned}
use Rattle.rx_code.specs.Points.{Actions, with_element}
use Rattle.rx_code.specs.Doing.{DoAll, at_point}
use Rattle.rx_code.specs.declared.action.Action.TheVariants.{Go, Set}
use Rattle.rx_code.specs.declared.action.Action.TheVariants as does_at
use Rattle.rx_code.specs.declared.point.Point.{Point}
use Rattle.rx_code.specs.Codes as code
use Rattle.rx_code.specs.Codes.{IsValue, IsCondition, IsStatement, IsList, IsBegun, IsChange, test_or_one}
use Rattle.rx_agreement.proofs.Flows.{Executes, Flowed, Turned, Turning, branches, changes, do_runs, executes-fewer, flowed-after, jump_same, last_is, leads-wider, leaves, long-wider, nexts, while_runs}
use Rattle.rx_agreement.proofs.Loops.{loops, of_part, total}
use Rattle.std.specs.Prelude.{option_map}
use Rattle.rx_agreement.proofs.Runs.{Runs, RunsOn, Long, Comes, Forked, Over}
use Rattle.rx_code.proofs.Lists.{assigned-take, take-with_element, with_element-end-is, take-with_element-set}
use Rattle.rx_agreement.proofs.Leads.{Leads, run-none, run-step, run-trans, on-run, times_sum}
use Rattle.rx_agreement.proofs.LoopCounts as count
use Rattle.rx_agreement.proofs.Values.{value_runs, condition_runs}

at_least : (j w : ℕ) → w ≤ suc j * w
at_least j w = omega arith

module _ (integers : Integers) (R : Relation) (entry : ℕ → ℕ) (acts : Actions)
    (callable : ℕ → ℕ → Type 0)
    (does : DoAll integers R entry acts) (w : ℕ) (positive : 0 < w) where
  -- calls do with m rounds what the rules do from the entries
  abbrev pub CallsRun : ℕ → Calls → Type 0
  CallsRun m calls =
      (f : ℕ) (args : List ℤ) → callable f (length args) →
      Leads integers R w m w (stack.Call (entry f) args)
      (λ k. Runs R w (stack.Call (entry f) args) (stack.Return k)) (calls f args)

  -- n rounds, with each of which calls do so
  pub data Fine : Rounds → ℕ → Type 0 where
    no_round : Fine [] zero
    one_round : (call : Calls) (left : Rounds) (m : ℕ) → CallsRun (suc m) call → Fine left m →
        Fine (call ∷ left) (suc m)

  pub calls_run : (r : Rounds) (m : ℕ) → Fine r m → CallsRun m (calls_with r)
  calls_run r m no_round f args may =
      record { steps = 0; end = stack.Call (entry f) args; run = NoStep; enough = omega arith }
  calls_run r m (one_round call left n fine rest) f args may = fine f args may

  -- a state of at least n slots, at a point
  over_state : (n : ℕ) (a : Point) (s : State) → a.width ≡ n → n ≤ length s →
      Over n s (take a.width s)
  over_state n a s same enough = record {
    agree = λ v below. sym (assigned-take a.width s v (omega (arith, same, below)));
    enough =
        let e = length-take-le a.width s (omega (arith, same, enough)) in omega (arith, e, same);
  }

  long_state : (n : ℕ) (a : Point) (s : State) → a.width ≡ n → n ≤ length s →
      length (take a.width s) ≡ a.width
  long_state n a s same enough = length-take-le a.width s (omega (arith, same, enough))

  goes : (a z : Point) (s : State) (n : ℕ) → acts a (Go z) → a.width ≡ n → n ≤ length s → z.width ≤
      n → Runs R w (at_point a s) (at_point z s)
  goes a z s n act same enough fits =
      subst (Runs R w (at_point a s)) (jump_same a z s (omega (arith, same, fits)))
      (on-run R w (run-step R w (does a (Go z) act (take a.width s)
      (long_state n a s same enough))))

  -- the value of an expression, from a point on a state
  evaluates : (r : Rounds) (m : ℕ) → Fine r m → (n : ℕ) (e : Expr) (a b : Point) (p : Body) →
      IsValue integers acts callable n e a b p → (s : State) → a.width ≡ n → n ≤ length s
      → Leads integers R w m 0 (at_point a s) (Comes R w a b (take a.width s) p)
      (expr integers (calls_with r) e s)
  evaluates r m fine n e a b p is s same enough =
      value_runs integers R entry acts callable does w n m (calls_with r) (calls_run r m fine) e a b
      p is s
      (take a.width s) (over_state n a s same enough) (long_state n a s same enough)

  decides : (r : Rounds) (m : ℕ) → Fine r m → (n : ℕ) (e : Expr) (a y z : Point) →
      IsCondition integers acts callable n e a y z → (s : State) → a.width ≡ n → n ≤ length s
      → Leads integers R w m 0 (at_point a s) (Forked R w (at_point a s) y z (take a.width s))
      (expr integers (calls_with r) e s)
  decides r m fine n e a y z is s same enough =
      condition_runs integers R entry acts callable does w n m (calls_with r) (calls_run r m fine) e
      a y z is
      s (take a.width s) (over_state n a s same enough) (long_state n a s same enough)

  -- a value is set
  sets : (n v : ℕ) (a b z : Point) (s : State) (p : Body) (x : ℤ) → acts b (Set v p z) → a.width ≡
      n → n ≤ length s → v ≤ n → z.width ≤ suc n → (z.width ≤ n ⊎ (v ≡ n))
      → Comes R w a b (take a.width s) p x → Runs R w (at_point a s)
      (at_point z (with_element v x (take n s)))
  sets n v a b z s p x act same enough below fits wide come =
      let xs = take a.width s in
      let long = long_state n a s same enough in
      let step = does b (Set v p z) act (xs ++ come.more) come.long in
      let is : value (assigned (xs ++ come.more)) p ≡ x =
      ap (λ l. value (assigned l) p) (sym (append-nil (xs ++ come.more))) ∙ come.stands [] in
      let e : at_point z (with_element v (value (assigned (xs ++ come.more)) p) (xs ++ come.more)) ≡
      at_point z (with_element v x (take n s)) =
      ap (λ k. at_point z (with_element v k (xs ++ come.more))) is
      ∙ (ap (stack.Call z.symbol) (take-with_element z.width v x xs come.more
      (omega (arith, long, same, below)) (omega (arith, long, same, fits))
      (elim wide [
        | inl h ↦ inl (omega (arith, long, same, h))
        | inr h ↦ inr (omega (arith, long, same, h))
      ]))
      ∙ ap (λ k. at_point z (with_element v x (take k s))) same) in
      run-trans R w come.run (subst (Runs R w (stack.Call b.symbol (xs ++ come.more))) e
      (on-run R w (run-step R w step)))

  -- a loop, by its turns
  loops_run : (n h : ℕ) (head z B K : Point) (turn : Rounds → State → Outcome Turn)
      → ((r : Rounds) (m : ℕ) → Fine r m → (s : State) → n ≤ length s →
      Leads integers R w m h (at_point head s) (Turned integers R w (at_point head s) n head z B K)
      (turn r s))
      → (r : Rounds) (m : ℕ) → Fine r m → (s : State) → n ≤ length s →
      Executes integers R w m (suc h) (at_point head s) n n z B K (loop turn r s)
  loops_run n h head z B K turn each r m no_round s enough =
      record { steps = 0; end = at_point head s; run = NoStep; enough = omega arith }
  loops_run n h head z B K turn each r m (one_round call left l fine rest) s enough =
      go (λ s' fits. loops_run n h head z B K turn each left l rest s' fits) (turn left s)
      (each left l rest s enough)
    where
      longer : Long R w l h (at_point head s) → Long R w (suc l) (suc h) (at_point head s)
      longer long =
          record {
            steps = long.steps;
            end = long.end;
            run = long.run;
            enough = let e =
                long.enough in omega (arith, e);
          }

      a_turn_more : (start middle : Ground) → RunsOn R w start middle → Long R w l (suc h) middle →
          Long R w (suc l) (suc h) start
      a_turn_more start middle (j, run) long =
          let e = times_sum (suc j) long.steps w in
          record {
            steps = suc j + long.steps;
            end = long.end;
            run = ReachesIn-trans run long.run;
            enough =
                let f = long.enough in let g = positive in let k = at_least j w in
                omega (arith, e, f, g, k);
          }

      again : (s' : State) → RunsOn R w (at_point head s) (at_point head s') → (o : Outcome Flow) →
          Executes integers R w l (suc h) (at_point head s') n n z B K o →
          Executes integers R w (suc l) (suc h) (at_point head s) n n z B K o
      again s' run (Value f) there =
          flowed-after integers R w (at_point head s) (at_point head s') n n z B K (on-run R w run)
          f there
      again s' run (Error error) there = (there.0, run-trans R w (on-run R w run) there.1)
      again s' run More there = a_turn_more (at_point head s) (at_point head s') run there

      go : ((s' : State) → n ≤ length s' → Executes integers R w l (suc h) (at_point head s') n n z
          B K
          (loop turn left s'))
          → (o : Outcome Turn) → Leads integers R w l h (at_point head s)
          (Turned integers R w (at_point head s) n head z B K) o →
          Executes integers R w (suc l) (suc h) (at_point head s) n n z B K
          (on_value o (on_again (loop turn left)))
      go next_turns (Value (Again s')) there =
          again s' there.0 (loop turn left s') (next_turns s' there.1)
      go next_turns (Value (Ends f)) there = there
      go next_turns (Error error) there = there
      go next_turns More there = longer there

  -- a statement gives no slots back
  at_least_slots : (n k : ℕ) (t : Stmt) (a z B K : Point) →
      IsStatement integers acts callable n t k a z B K → n ≤ k
  at_least_slots n k t a z B K (code.empty _ _ _ _ _ _ _) = omega arith
  at_least_slots n k t a z B K (code.unset _ _ _ _ _ _ _) = omega arith
  at_least_slots n k t a z B K (code.declared _ _ _ _ _ _ _ _ _ _ _) = omega arith
  at_least_slots n k t a z B K (code.assigned_to _ _ _ _ _ _ _ _ _ _ _ _ _) = omega arith
  at_least_slots n k t a z B K (code.if_alone _ _ _ _ _ _ _ _ _ _ _ _ _) = omega arith
  at_least_slots n k t a z B K (code.if_else _ _ _ _ _ _ _ _ _ _ _ _ _ _ _ _ _ _) = omega arith
  at_least_slots n k t a z B K (code.while_loop _ _ _ _ _ _ _ _ _ _ _ _ _) = omega arith
  at_least_slots n k t a z B K (code.do_loop _ _ _ _ _ _ _ _ _ _ _ _ _) = omega arith
  at_least_slots n k t a z B K (code.for_loop _ _ _ _ _ _ _ _ _ _ _ _ _ _ _ _ _ _ _ _ _ _) =
      omega arith
  at_least_slots n k t a z B K (code.break_out _ _ _ _ _ _ _) = omega arith
  at_least_slots n k t a z B K (code.go_on _ _ _ _ _ _ _) = omega arith
  at_least_slots n k t a z B K (code.returned _ _ _ _ _ _ _ _ _ _) = omega arith
  at_least_slots n k t a z B K (code.block _ _ _ _ _ _ _ _ _ _) = omega arith

  -- the targets of jumps have no more variables than slots are in scope
  pub record Targets (n : ℕ) (B K : Point) : Type 0 where
    pub breaks : B.width ≤ n
    pub continues : K.width ≤ n

  sets_next : (m h n v k : ℕ) (a b z B K : Point) (s : State) (p : Body) (o : Outcome ℤ)
      (next : ℤ → State) → acts b (Set v p z) → a.width ≡ n → n ≤ length s → v ≤ n → z.width ≤ suc n
      → (z.width ≤ n) ⊎ (v ≡ n) → ((x : ℤ) → take z.width (with_element v x (take n s)) ≡
      take z.width (next x)) → ((x : ℤ) → k ≤ length (next x))
      → Leads integers R w m 0 (at_point a s) (Comes R w a b (take a.width s) p) o →
      Executes integers R w m h (at_point a s) n k z B K (on_value o (λ x. Value (Next (next x))))
  sets_next m h n v k a b z B K s p (Value x) next act same enough below fits wide is long come = (
    subst (Runs R w (at_point a s)) (ap (stack.Call z.symbol) (is x))
        (sets n v a b z s p x act same enough below fits wide come),
    long x,
  )
  sets_next m h n v k a b z B K s p (Error error) next act same enough below fits wide is long there
      =
      there
  sets_next m h n v k a b z B K s p More next act same enough below fits wide is long there =
      long-wider integers R w m 0 h (at_point a s) (omega arith) there

  returns_value : (m h n : ℕ) (a b z B K : Point) (s : State) (p : Body) (o : Outcome ℤ) →
      acts b (does_at.Return p) → Leads integers R w m 0 (at_point a s)
      (Comes R w a b (take a.width s) p) o
      → Executes integers R w m h (at_point a s) n n z B K (on_value o (λ x. Value (Return x)))
  returns_value m h n a b z B K s p (Value x) act come =
      let ys = take a.width s ++ come.more in
      let is : value (assigned ys) p ≡ x = ap (λ l. value (assigned l) p) (sym (append-nil ys)) ∙
      come.stands [] in
      run-trans R w come.run (on-run R w (run-step R w
      (subst (λ k. Step R (stack.Call b.symbol ys) (stack.Return k)) is
      (does b (does_at.Return p) act ys come.long))))
  returns_value m h n a b z B K s p (Error error) act there = there
  returns_value m h n a b z B K s p More act there =
      long-wider integers R w m 0 h (at_point a s) (omega arith) there

  targets-wider : (n k : ℕ) (B K : Point) → n ≤ k → Targets n B K → Targets k B K
  targets-wider n k B K below targets =
      record {
        breaks = let e = targets.breaks in omega (arith, e, below);
        continues = let e =
            targets.continues in omega (arith, e, below);
      }

  condition_is : (test : Option Expr) (r : Rounds) (s : State) → condition integers test r s ≡
      expr integers (calls_with r) (test_or_one test) s
  condition_is None r s = sym (means.expr-Lit integers (calls_with r) (pos 1) s)
  condition_is (Some e) r s = refl

  -- the change's point is as wide as the head
  change_width : (i : ℕ) (change : Option Stmt) (c h B K : Point) → h.width ≡ i →
      IsChange integers acts callable i change c h B K → c.width ≤ i
  change_width i change c h B K wide (code.no_change _ _ _ _) = omega (arith, wide)
  change_width i change c h B K wide (code.some_change _ _ _ _ _ _ _ same _) = omega (arith, same)

  for_count : (first : List Stmt) (test : Option Expr) (change : Option Stmt) (u : Stmt) →
      loops (Syntax.For first test change u) ≡ total (map loops first) +
      suc (loops u + of_part (option_map loops change))
  for_count first test None u = count.loops-For-None first test u
  for_count first test (Some c) u = count.loops-For-Some first test c u

  for_is : (first : List Stmt) (test : Option Expr) (change : Option Stmt) (u : Stmt) (r : Rounds)
      (s : State) → stmt integers (Syntax.For first test change u) r s
      ≡ on_value (on_value (in_order (map (stmt integers) first) r s)
      (on_next (loop (while_turn integers test (optional (option_map (stmt integers) change))
      (stmt integers u)) r)))
      (leave (length s))
  for_is first test None u r s = means.stmt-For-None integers first test u r s
  for_is first test (Some c) u r s = means.stmt-For-Some integers first test c u r s

  mutual
    -- the code of a statement leads where the statement does
    pub statement_runs : (n : ℕ) (t : Stmt) (k : ℕ) (a z B K : Point) →
        IsStatement integers acts callable n t k a z B K → Targets n B K → (r : Rounds) (m : ℕ) →
        Fine r m →
        (s : State)
        → a.width ≡ n → n ≤ length s → Executes integers R w m (loops t) (at_point a s) n k z B K
        (stmt integers t r s)
    statement_runs n t k a z B K (code.empty _ _ _ _ _ act fits) targets r m fine s same enough =
        subst (Executes integers R w m (loops t) (at_point a s) n n z B K)
        (sym (means.stmt-Empty integers r s))
        (goes a z s n act same enough fits, enough)
    statement_runs n t k a z B K (code.unset _ _ _ _ _ act fits) targets r m fine s same enough =
        subst (Executes integers R w m (loops t) (at_point a s) n (suc n) z B K)
        (sym (means.stmt-Declare-None integers n r s))
        (sets_next m (loops t) n n (suc n) a a z B K s (number (pos 0)) (Value (pos 0))
        (λ x. take n s ++ x ∷ []) act same enough (omega arith) fits (inr refl)
        (λ x. ap (take z.width) (with_element-end-is n x s enough))
        (λ x. let e = length-append (take n s) (x ∷ []) in let g = length-take-le n s enough in
        omega (arith, e, g))
        (record {
          more = [];
          run =
              subst (λ l. Runs R w (stack.Call a.symbol (take a.width s)) (stack.Call a.symbol l))
              (sym (append-nil (take a.width s))) (run-none R w (at_point a s));
          long = ap length (append-nil (take a.width s)) ∙ long_state n a s same enough;
          stands = λ zs. value-number (assigned ((take a.width s ++ []) ++ zs)) (pos 0);
        }))
    statement_runs n t k a z B K (code.declared _ e _ b _ _ _ p inner act fits) targets r m fine s
        same enough =
        subst (Executes integers R w m (loops t) (at_point a s) n (suc n) z B K)
        (sym (means.stmt-Declare-Some integers n e r s))
        (sets_next m (loops t) n n (suc n) a b z B K s p (expr integers (calls_with r) e s)
        (λ x. take n s ++ x ∷ []) act same enough (omega arith) fits (inr refl)
        (λ x. ap (take z.width) (with_element-end-is n x s enough))
        (λ x. let e = length-append (take n s) (x ∷ []) in let g = length-take-le n s enough in
        omega (arith, e, g))
        (evaluates r m fine n e a b p inner s same enough))
    statement_runs n t k a z B K (code.assigned_to _ v e _ b _ _ _ p below inner act fits) targets r
        m fine s same enough =
        subst (Executes integers R w m (loops t) (at_point a s) n n z B K)
        (sym (means.stmt-Assign integers v e r s))
        (sets_next m (loops t) n v n a b z B K s p (expr integers (calls_with r) e s)
        (λ x. slice_set s v x)
        act same enough (omega (arith, below)) (omega (arith, fits)) (inl fits)
        (λ x. take-with_element-set z.width n v x s below fits enough)
        (λ x. let e = length-set s v x in omega (arith, e, enough))
        (evaluates r m fine n e a b p inner s same enough))
    statement_runs n t k a z B K (code.if_alone _ l e u _ y _ _ _ fits_y fits_z test inner) targets
        r m fine s same enough =
        subst (Executes integers R w m (loops t) (at_point a s) n n z B K)
        (sym (means.stmt-If-None integers e u r s))
        (branches integers R w m (loops t) n a y z z B K s n (expr integers (calls_with r) e s)
        (stmt integers u r s)
        (Value (Next s)) same (omega (arith, fits_y)) fits_z
        (decides r m fine n e a y z test s same enough)
        (leads-wider integers R w m (loops u) (loops t) (at_point y s)
        (Flowed integers R w (at_point y s) n n z B K)
        (stmt integers u r s) (let q = count.loops-If-None e u in omega (arith, q))
        (executes-fewer integers R w m (loops u) (at_point y s) n l n z B K (stmt integers u r s)
        (at_least_slots n l u y z B K inner)
        (statement_runs n u l y z B K inner targets r m fine s fits_y enough)))
        (run-none R w (at_point z s), enough))
    statement_runs n t k a z B K (code.if_else _ l l' e u v _ y x _ _ _ fits_y fits_x fits_z test
        inner other) targets r m fine s same enough =
        subst (Executes integers R w m (loops t) (at_point a s) n n z B K)
        (sym (means.stmt-If-Some integers e u v r s))
        (branches integers R w m (loops t) n a y x z B K s n (expr integers (calls_with r) e s)
        (stmt integers u r s) (stmt integers v r s)
        same (omega (arith, fits_y)) (omega (arith, fits_x))
        (decides r m fine n e a y x test s same enough)
        (leads-wider integers R w m (loops u) (loops t) (at_point y s)
        (Flowed integers R w (at_point y s) n n z B K)
        (stmt integers u r s) (let q = count.loops-If-Some e u v in omega (arith, q))
        (executes-fewer integers R w m (loops u) (at_point y s) n l n z B K (stmt integers u r s)
        (at_least_slots n l u y z B K inner)
        (statement_runs n u l y z B K inner targets r m fine s fits_y enough)))
        (leads-wider integers R w m (loops v) (loops t) (at_point x s)
        (Flowed integers R w (at_point x s) n n z B K)
        (stmt integers v r s) (let q = count.loops-If-Some e u v in omega (arith, q))
        (executes-fewer integers R w m (loops v) (at_point x s) n l' n z B K (stmt integers v r s)
        (at_least_slots n l' v x z B K other)
        (statement_runs n v l' x z B K other targets r m fine s fits_x enough))))
    statement_runs n t k a z B K (code.while_loop _ l e u _ y _ _ _ fits_y fits_z test inner)
        targets r m fine s same enough =
        subst (Executes integers R w m (loops t) (at_point a s) n n z B K)
        (sym (means.stmt-While integers e u r s))
        (subst (λ h. Executes integers R w m h (at_point a s) n n z B K
        (loop (while_turn integers (Some e) (optional None) (stmt integers u)) r s))
        (sym (count.loops-While e u))
        (loops_run n (loops u) a z B K (while_turn integers (Some e) (optional None)
        (stmt integers u))
        (λ r' m' fine' s' enough'.
        while_runs integers R w m' (loops u) n l a y a z B K s' (expr integers (calls_with r') e s')
        (stmt integers u r' s')
        (λ c. on_value (optional None r' c) after_change) (at_least_slots n l u y a z a inner)
        same (omega (arith, fits_y)) fits_z enough'
        (decides r' m' fine' n e a y z test s' same enough')
        (statement_runs n u l y a z a inner (record
        { breaks = fits_z; continues = omega (arith, same) }) r' m' fine' s' fits_y enough')
        (λ c enough_c. (run-none R w (at_point a c), enough_c))) r m fine s enough))
    statement_runs n t k a z B K (code.do_loop _ l e u _ c _ _ _ fits_c fits_z inner test) targets r
        m fine s same enough =
        subst (Executes integers R w m (loops t) (at_point a s) n n z B K)
        (sym (means.stmt-DoWhile integers u e r s))
        (subst (λ h. Executes integers R w m h (at_point a s) n n z B K
        (loop (do_turn integers e (stmt integers u)) r s))
        (sym (count.loops-DoWhile u e))
        (loops_run n (loops u) a z B K (do_turn integers e (stmt integers u))
        (λ r' m' fine' s' enough'.
        do_runs integers R w m' (loops u) n l a c z B K s'
        (λ c'. expr integers (calls_with r') e c')
        (stmt integers u r' s')
        (at_least_slots n l u a c z c inner) fits_c (omega (arith, same)) fits_z
        (statement_runs n u l a c z c inner (record
        { breaks = fits_z; continues = omega (arith, fits_c) }) r' m' fine' s' same enough')
        (λ c' enough_c. decides r' m' fine' n e c a z test c' fits_c enough_c)) r m fine s enough))
    statement_runs n t k a z B K (code.for_loop _ i l first test change u _ h y c _ _ _ below wide
        fits_y fits_z begun test_code inner changed) targets r m fine s same enough =
        let g = loops u + of_part (option_map loops change) in
        let whole = total (map loops first) + suc g in
        let turn = while_turn integers test (optional (option_map (stmt integers) change))
        (stmt integers u) in
        subst (Executes integers R w m (loops t) (at_point a s) n n z B K)
        (sym (for_is first test change u r s))
        (subst (λ q. Executes integers R w m q (at_point a s) n n z B K
        (on_value (on_value (in_order (map (stmt integers) first) r s) (on_next (loop turn r)))
        (leave (length s)))) (sym (for_count first test change u))
        (leaves integers R w m whole (at_point a s) n i (length s) z B K below enough fits_z
        targets.breaks
        targets.continues (on_value (in_order (map (stmt integers) first) r s)
        (on_next (loop turn r)))
        (nexts integers R w m whole (at_point a s) n i i h z B K
        (in_order (map (stmt integers) first) r s)
        (loop turn r)
        below
        (begun_runs n first i a h B K g begun targets r m fine s same enough)
        (λ s1 enough1. leads-wider integers R w m (suc g) whole (at_point h s1)
        (Flowed integers R w (at_point h s1) i i z B K) (loop turn r s1) (omega arith)
        (loops_run i g h z B K turn (λ r' m' fine' s' enough'.
        subst (λ o. Leads integers R w m' g (at_point h s')
        (Turned integers R w (at_point h s') i h z B K)
        (on_value o (λ x. if is_zero x then Value (Ends (Next s')) else
        on_value (stmt integers u r' s') (after_body
        (λ t'. on_value (optional (option_map (stmt integers) change) r' t') after_change)))))
        (sym (condition_is test r' s'))
        (while_runs integers R w m' g i l h y c z B K s'
        (expr integers (calls_with r') (test_or_one test) s')
        (stmt integers u r' s') (λ t'. on_value
        (optional (option_map (stmt integers) change) r' t') after_change)
        (at_least_slots i l u y c z c inner) wide (omega (arith, fits_y))
        (omega (arith, fits_z, below)) enough'
        (decides r' m' fine' i (test_or_one test) h y z test_code s' wide enough')
        (leads-wider integers R w m' (loops u) g (at_point y s')
        (Flowed integers R w (at_point y s') i l c z c)
        (stmt integers u r' s') (omega arith)
        (statement_runs i u l y c z c inner (record {
          breaks = omega (arith, fits_z, below);
          continues =
              change_width i change c h B K wide changed;
        }) r' m' fine' s' fits_y enough'))
        (λ t' enough_t. change_runs i change c h z B K (loops u) changed
        (targets-wider n i B K below targets) r' m' fine' t' enough_t))) r m fine s1
        enough1)))))
    statement_runs n t k a z B K (code.break_out _ token _ _ _ _ act) targets r m fine s same enough
        =
        subst (Executes integers R w m (loops t) (at_point a s) n n z B K)
        (sym (means.stmt-Break integers token r s))
        (goes a B s n act same enough targets.breaks, enough)
    statement_runs n t k a z B K (code.go_on _ token _ _ _ _ act) targets r m fine s same enough =
        subst (Executes integers R w m (loops t) (at_point a s) n n z B K)
        (sym (means.stmt-Continue integers token r s))
        (goes a K s n act same enough targets.continues, enough)
    statement_runs n t k a z B K (code.returned _ e _ b _ _ _ p inner act) targets r m fine s same
        enough =
        subst (Executes integers R w m (loops t) (at_point a s) n n z B K)
        (sym (means.stmt-Return integers e r s))
        (returns_value m (loops t) n a b z B K s p (expr integers (calls_with r) e s) act
        (evaluates r m fine n e a b p inner s same enough))
    statement_runs n t k a z B K (code.block _ i ts _ _ _ _ below fits_z inner) targets r m fine s
        same enough =
        subst (Executes integers R w m (loops t) (at_point a s) n n z B K)
        (sym (means.stmt-Block integers ts r s))
        (subst (λ h. Executes integers R w m h (at_point a s) n n z B K
        (on_value (in_order (map (stmt integers) ts) r s) (leave (length s))))
        (sym (count.loops-Block ts))
        (leaves integers R w m (total (map loops ts)) (at_point a s) n i (length s) z B K below
        enough fits_z
        targets.breaks targets.continues (in_order (map (stmt integers) ts) r s)
        (list_runs n ts i a z B K inner targets r m fine s same enough)))

    begun_runs : (n : ℕ) (first : List Stmt) (i : ℕ) (a h B K : Point) (g : ℕ) →
        IsBegun integers acts callable n first i a h B K → Targets n B K → (r : Rounds) (m : ℕ) →
        Fine r m →
        (s : State)
        → a.width ≡ n → n ≤ length s → Executes integers R w m (total (map loops first) + suc g)
        (at_point a s) n
        i h B K (in_order (map (stmt integers) first) r s)
    begun_runs n first i a h B K g (code.no_first _ _ _ _) targets r m fine s same enough =
        (run-none R w (at_point a s), enough)
    begun_runs n first i a h B K g (code.some_first _ _ t ts _ _ _ _ inner) targets r m fine s same
        enough =
        leads-wider integers R w m (total (map loops first)) (total (map loops first) + suc g)
        (at_point a s)
        (Flowed integers R w (at_point a s) n i h B K) (in_order (map (stmt integers) first) r s)
        (omega arith)
        (list_runs n (t ∷ ts) i a h B K inner targets r m fine s same enough)

    change_runs : (i : ℕ) (change : Option Stmt) (c h z B K : Point) (u : ℕ) →
        IsChange integers acts callable i change c h B K → Targets i B K → (r : Rounds) (m : ℕ) →
        Fine r m →
        (t : State)
        → i ≤ length t → Leads integers R w m (u + of_part (option_map loops change)) (at_point c t)
        (Turning integers R w (at_point c t) i h z B K)
        (on_value (optional (option_map (stmt integers) change) r t) after_change)
    change_runs i change c h z B K u (code.no_change _ _ _ _) targets r m fine t enough =
        (run-none R w (at_point c t), enough)
    change_runs i change c h z B K u (code.some_change _ l v _ _ _ _ same inner) targets r m fine t
        enough =
        changes integers R w m (u + loops v) i l c h z B K t (stmt integers v r t)
        (at_least_slots i l v c h B K inner)
        (leads-wider integers R w m (loops v) (u + loops v) (at_point c t)
        (Flowed integers R w (at_point c t) i l h B K)
        (stmt integers v r t) (omega arith) (statement_runs i v l c h B K inner targets r m fine t
        same
        enough))

    pub list_runs : (n : ℕ) (ts : List Stmt) (k : ℕ) (a z B K : Point) →
        IsList integers acts callable n ts k a z B K → Targets n B K → (r : Rounds) (m : ℕ) →
        Fine r m →
        (s : State)
        → a.width ≡ n → n ≤ length s → Executes integers R w m (total (map loops ts)) (at_point a s)
        n k z B K
        (in_order (map (stmt integers) ts) r s)
    list_runs n ts k a z B K (code.nothing _ _ _ _ _ act fits) targets r m fine s same enough =
        (goes a z s n act same enough fits, enough)
    list_runs n ts k a z B K (code.last _ _ t _ _ _ _ inner) targets r m fine s same enough =
        subst (Executes integers R w m (loops t + 0) (at_point a s) n k z B K)
        (sym (last_is (stmt integers t r s) r))
        (leads-wider integers R w m (loops t) (loops t + 0) (at_point a s)
        (Flowed integers R w (at_point a s) n k z B K)
        (stmt integers t r s) (omega arith) (statement_runs n t k a z B K inner targets r m fine s
        same
        enough))
    list_runs n ts k a z B K (code.more _ l _ t u us _ c _ _ _ below wide inner rest) targets r m
        fine s same enough =
        nexts integers R w m (loops t + total (map loops (u ∷ us))) (at_point a s) n l k c z B K
        (stmt integers t r s)
        (in_order (map (stmt integers) (u ∷ us)) r) below
        (leads-wider integers R w m (loops t) (loops t + total (map loops (u ∷ us))) (at_point a s)
        (Flowed integers R w (at_point a s) n l c B K) (stmt integers t r s) (omega arith)
        (statement_runs n t l a c B K inner targets r m fine s same enough))
        (λ s' enough'. leads-wider integers R w m (total (map loops (u ∷ us)))
        (loops t + total (map loops (u ∷ us))) (at_point c s')
        (Flowed integers R w (at_point c s') l k z B K)
        (in_order (map (stmt integers) (u ∷ us)) r s')
        (omega arith)
        (list_runs l (u ∷ us) k c z B K rest (targets-wider n l B K below targets) r m fine s' wide
        enough'))
