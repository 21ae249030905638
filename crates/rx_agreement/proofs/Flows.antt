-- Where statements and turns of loops lead, composed.
use Rattle.std.proofs.Common.{◌≡◌, ℕ, ◌≤◌, Bool, true, false, if◌then◌else◌, [], length, take, refl, sym, ap, subst, ℤ, arith}
use Rattle.std.proofs.lemmas.List.{length-take}
use Rattle.rx_rewriting.specs.Terms as stack
use Rattle.rx_rewriting.specs.Terms.{Ground, Relation}
use Rattle.c_ast.specs.declared.integers.Integers.{Integers}
use Rattle.c_meaning.specs.Outcomes.{Outcome, Value, Error, More, on_value, State, Flow, Next, Break, Continue, Return}
use Rattle.c_meaning.specs.Expressions.{is_zero}
use Rattle.c_meaning.specs.Statements.{Rounds, on_next, in_order, leave, Turn, Again, Ends, after_body, after_change}
use Rattle.rx_code.specs.Doing.{at_point}
use Rattle.rx_code.specs.declared.point.Point.{Point}
use Rattle.rx_agreement.proofs.Runs.{Runs, RunsOn, Long, Forked, Branch}
use Rattle.rx_code.proofs.Lists.{take-take}
use Rattle.rx_agreement.proofs.Leads.{Leads, run-none, run-trans, run-on, on-run, on-then, leads-after}

-- a jump from a point on a state
pub jump_same : (a z : Point) (s : State) → z.width ≤ a.width → at_point z (take a.width s) ≡
    at_point z s
jump_same a z s fits = ap (stack.Call z.symbol) (take-take z.width a.width s fits)

pub last_is : (o : Outcome Flow) (r : Rounds) → on_value o (on_next (in_order [] r)) ≡ o
last_is (Value (Next s)) r = refl
last_is (Value (Break s)) r = refl
last_is (Value (Continue s)) r = refl
last_is (Value (Return x)) r = refl
last_is (Error error) r = refl
last_is More r = refl

module _ (integers : Integers) (R : Relation) (w : ℕ) where
  pub long-wider : (m h g : ℕ) (s : Ground) → h ≤ g → Long R w m h s → Long R w m g s
  long-wider m h g s below long =
      record {
        steps = long.steps;
        end = long.end;
        run = long.run;
        enough = let e = long.enough in
            omega (arith, e, below);
      }

  pub leads-wider : {A : Type 0} (m h g : ℕ) (s : Ground) (P : A → Type 0) (o : Outcome A) → h ≤ g →
      Leads integers R w m h s P o → Leads integers R w m g s P o
  leads-wider m h g s P (Value x) below there = there
  leads-wider m h g s P (Error error) below there = there
  leads-wider m h g s P More below there = long-wider m h g s below there

  -- where a statement leads
  abbrev pub Flowed : Ground → ℕ → ℕ → Point → Point → Point → Flow → Type 0
  Flowed start n k z B K (Next s) = Runs R w start (at_point z s) × (k ≤ length s)
  Flowed start n k z B K (Break s) = Runs R w start (at_point B s) × (n ≤ length s)
  Flowed start n k z B K (Continue s) = Runs R w start (at_point K s) × (n ≤ length s)
  Flowed start n k z B K (Return x) = Runs R w start (stack.Return x)

  abbrev pub Executes : ℕ → ℕ → Ground → ℕ → ℕ → Point → Point → Point → Outcome Flow → Type 0
  Executes m h start n k z B K o = Leads integers R w m h start (Flowed start n k z B K) o

  pub flowed-after : (start middle : Ground) (n k : ℕ) (z B K : Point) → Runs R w start middle →
      (f : Flow) → Flowed middle n k z B K f → Flowed start n k z B K f
  flowed-after start middle n k z B K run (Next s) there = (run-trans R w run there.0, there.1)
  flowed-after start middle n k z B K run (Break s) there = (run-trans R w run there.0, there.1)
  flowed-after start middle n k z B K run (Continue s) there = (run-trans R w run there.0, there.1)
  flowed-after start middle n k z B K run (Return x) there = run-trans R w run there

  pub executes-after : (m h : ℕ) (start middle : Ground) (n k : ℕ) (z B K : Point)
      (o : Outcome Flow) →
      Runs R w start middle → Executes m h middle n k z B K o → Executes m h start n k z B K o
  executes-after m h start middle n k z B K o run there =
      leads-after integers R w m h start middle (Flowed middle n k z B K) (Flowed start n k z B K) o
      run
      (flowed-after start middle n k z B K run) there

  -- a condition decides between two statements
  pub branches : (m h : ℕ) (n : ℕ) (a y x z B K : Point) (s : State) (k : ℕ) (o : Outcome ℤ)
      (then_ else_ : Outcome Flow) → a.width ≡ n → y.width ≤ n → x.width ≤ n
      → Leads integers R w m 0 (at_point a s) (Forked R w (at_point a s) y x (take a.width s)) o
      → Executes m h (at_point y s) n k z B K then_ → Executes m h (at_point x s) n k z B K else_
      → Executes m h (at_point a s) n k z B K (on_value o (λ v. if is_zero v then else_ else then_))
  branches m h n a y x z B K s k (Value v) then_ else_ same fits_y fits_x fork first second =
      go (is_zero v) fork
    where
      go : (t : Bool) → Branch t (RunsOn R w (at_point a s) (at_point x (take a.width s)))
          (RunsOn R w (at_point a s) (at_point y (take a.width s)))
          → Executes m h (at_point a s) n k z B K (if t then else_ else then_)
      go true there =
          executes-after m h (at_point a s) (at_point x s) n k z B K else_
          (on-run R w (subst (RunsOn R w (at_point a s))
          (jump_same a x s (omega (arith, same, fits_x))) there)) second
      go false there =
          executes-after m h (at_point a s) (at_point y s) n k z B K then_
          (on-run R w (subst (RunsOn R w (at_point a s))
          (jump_same a y s (omega (arith, same, fits_y))) there)) first
  branches m h n a y x z B K s k (Error error) then_ else_ same fits_y fits_x there first second =
      there
  branches m h n a y x z B K s k More then_ else_ same fits_y fits_x there first second =
      long-wider m 0 h (at_point a s) (omega arith) there

  -- fewer slots after it
  pub flowed-fewer : (start : Ground) (n k l : ℕ) (z B K : Point) → l ≤ k → (f : Flow) →
      Flowed start n k z B K f → Flowed start n l z B K f
  flowed-fewer start n k l z B K below (Next s) there =
      (there.0, let e = there.1 in omega (arith, e, below))
  flowed-fewer start n k l z B K below (Break s) there = there
  flowed-fewer start n k l z B K below (Continue s) there = there
  flowed-fewer start n k l z B K below (Return x) there = there

  pub executes-fewer : (m h : ℕ) (start : Ground) (n k l : ℕ) (z B K : Point) (o : Outcome Flow) →
      l ≤
      k → Executes m h start n k z B K o → Executes m h start n l z B K o
  executes-fewer m h start n k l z B K o below there =
      leads-after integers R w m h start start (Flowed start n k z B K) (Flowed start n l z B K) o
      (run-none R w start) (flowed-fewer start n k l z B K below) there

  -- the end of a scope
  pub flowed-leave : (start : Ground) (n i count : ℕ) (z B K : Point) → n ≤ i → n ≤ count →
      z.width ≤
      n → B.width ≤ n → K.width ≤ n → (f : Flow) → Flowed start n i z B K f
      → Leads integers R w 0 0 start (Flowed start n n z B K) (leave count f)
  flowed-leave start n i count z B K below enough fits_z fits_B fits_K (Next s) there = (
    subst (Runs R w start) (ap (stack.Call z.symbol)
        (sym (take-take z.width count s (omega (arith, fits_z, enough))))) there.0,
    let e = length-take count s in let h = there.1 in omega (arith, e, h, below, enough),
  )
  flowed-leave start n i count z B K below enough fits_z fits_B fits_K (Break s) there = (
    subst (Runs R w start) (ap (stack.Call B.symbol)
        (sym (take-take B.width count s (omega (arith, fits_B, enough))))) there.0,
    let e = length-take count s in let h = there.1 in omega (arith, e, h, below, enough),
  )
  flowed-leave start n i count z B K below enough fits_z fits_B fits_K (Continue s) there = (
    subst (Runs R w start) (ap (stack.Call K.symbol)
        (sym (take-take K.width count s (omega (arith, fits_K, enough))))) there.0,
    let e = length-take count s in let h = there.1 in omega (arith, e, h, below, enough),
  )
  flowed-leave start n i count z B K below enough fits_z fits_B fits_K (Return x) there = there

  pub leaves : (m h : ℕ) (start : Ground) (n i count : ℕ) (z B K : Point) → n ≤ i → n ≤ count →
      z.width ≤ n → B.width ≤ n → K.width ≤ n → (o : Outcome Flow) → Executes m h start n i z B K o
      → Executes m h start n n z B K (on_value o (leave count))
  leaves m h start n i count z B K below enough fits_z fits_B fits_K (Value f) there =
      go f (flowed-leave start n i count z B K below enough fits_z fits_B fits_K f there)
    where
      go : (f : Flow) → Leads integers R w 0 0 start (Flowed start n n z B K) (leave count f) →
          Executes m h start n n z B K (leave count f)
      go (Next s) done = done
      go (Break s) done = done
      go (Continue s) done = done
      go (Return x) done = done
  leaves m h start n i count z B K below enough fits_z fits_B fits_K (Error error) there = there
  leaves m h start n i count z B K below enough fits_z fits_B fits_K More there = there

  -- one statement after another
  pub nexts : (m h : ℕ) (start : Ground) (n k l : ℕ) (c z B K : Point) (o : Outcome Flow)
      (rest : State → Outcome Flow) → n ≤ k → Executes m h start n k c B K o
      → ((s : State) → k ≤ length s → Executes m h (at_point c s) k l z B K (rest s)) →
      Executes m h start n l z B K (on_value o (on_next rest))
  nexts m h start n k l c z B K (Value (Next s)) rest below there each =
      leads-after integers R w m h start (at_point c s) (Flowed (at_point c s) k l z B K)
      (Flowed start n l z B K) (rest s) there.0
      (λ f next. fewer f (flowed-after start (at_point c s) k l z B K there.0 f next))
      (each s there.1)
    where
      fewer : (f : Flow) → Flowed start k l z B K f → Flowed start n l z B K f
      fewer (Next s) there = there
      fewer (Break s) there = (there.0, let e = there.1 in omega (arith, e, below))
      fewer (Continue s) there = (there.0, let e = there.1 in omega (arith, e, below))
      fewer (Return x) there = there
  nexts m h start n k l c z B K (Value (Break s)) rest below there each = there
  nexts m h start n k l c z B K (Value (Continue s)) rest below there each = there
  nexts m h start n k l c z B K (Value (Return x)) rest below there each = there
  nexts m h start n k l c z B K (Error error) rest below there each = there
  nexts m h start n k l c z B K More rest below there each = there

  -- where a turn of a loop leads
  abbrev pub Turned : Ground → ℕ → Point → Point → Point → Point → Turn → Type 0
  Turned start n head z B K (Again s) = RunsOn R w start (at_point head s) × (n ≤ length s)
  Turned start n head z B K (Ends f) = Flowed start n n z B K f

  -- the same, where the loop may go on without a step
  abbrev pub Turning : Ground → ℕ → Point → Point → Point → Point → Turn → Type 0
  Turning start n head z B K (Again s) = Runs R w start (at_point head s) × (n ≤ length s)
  Turning start n head z B K (Ends f) = Flowed start n n z B K f

  pub reversed-after : (start middle : Ground) (n : ℕ) (head z B K : Point) →
      Runs R w start middle →
      (t : Turn) → Turned middle n head z B K t → Turned start n head z B K t
  reversed-after start middle n head z B K run (Again s) there = (run-on R w run there.0, there.1)
  reversed-after start middle n head z B K run (Ends f) there =
      flowed-after start middle n n z B K run f there

  pub turning-after : (start middle : Ground) (n : ℕ) (head z B K : Point) → Runs R w start middle →
      (t : Turn) → Turning middle n head z B K t → Turning start n head z B K t
  turning-after start middle n head z B K run (Again s) there = (run-trans R w run there.0, there.1)
  turning-after start middle n head z B K run (Ends f) there =
      flowed-after start middle n n z B K run f there

  pub reversed-on : (start middle : Ground) (n : ℕ) (head z B K : Point) → RunsOn R w start middle →
      (t : Turn) → Turning middle n head z B K t → Turned start n head z B K t
  reversed-on start middle n head z B K run (Again s) there = (on-then R w run there.0, there.1)
  reversed-on start middle n head z B K run (Ends f) there =
      flowed-after start middle n n z B K (on-run R w run) f there

  -- the body of a loop in a turn: next and continue lead to c, a break to z
  pub after_body_runs : (T : Ground → Turn → Type 0) (m h : ℕ) (start : Ground) (n k : ℕ)
      (c z : Point)
      (o : Outcome Flow) (rest : State → Outcome Turn) → n ≤ k
      → ((s : State) → Runs R w start (at_point z s) → n ≤ length s → T start (Ends (Next s)))
      → ((x : ℤ) → Runs R w start (stack.Return x) → T start (Ends (Return x)))
      → ((middle : Ground) → Runs R w start middle → (t : Turn) → T middle t → T start t)
      → Executes m h start n k c z c o
      → ((s : State) → n ≤ length s → Leads integers R w m h (at_point c s) (T (at_point c s))
      (rest s))
      → Leads integers R w m h start (T start) (on_value o (after_body rest))
  after_body_runs T m h start n k c z (Value (Next s)) rest below broken back carry there each =
      leads-after integers R w m h start (at_point c s) (T (at_point c s)) (T start) (rest s)
      there.0
      (carry (at_point c s) there.0) (each s (let e = there.1 in omega (arith, e, below)))
  after_body_runs T m h start n k c z (Value (Continue s)) rest below broken back carry there each =
      leads-after integers R w m h start (at_point c s) (T (at_point c s)) (T start) (rest s)
      there.0
      (carry (at_point c s) there.0) (each s there.1)
  after_body_runs T m h start n k c z (Value (Break s)) rest below broken back carry there each =
      broken s there.0 there.1
  after_body_runs T m h start n k c z (Value (Return x)) rest below broken back carry there each =
      back x there
  after_body_runs T m h start n k c z (Error error) rest below broken back carry there each = there
  after_body_runs T m h start n k c z More rest below broken back carry there each = there

  -- a turn of a `while` or a `for`
  pub while_runs : (m h n k : ℕ) (head y c z B K : Point) (s : State) (o : Outcome ℤ)
      (body : Outcome Flow) (rest : State → Outcome Turn) → n ≤ k → head.width ≡ n → y.width ≤ n →
      z.width ≤ n → n ≤ length s
      → Leads integers R w m 0 (at_point head s)
      (Forked R w (at_point head s) y z (take head.width s)) o
      → Executes m h (at_point y s) n k c z c body
      → ((t : State) → n ≤ length t → Leads integers R w m h (at_point c t)
      (Turning (at_point c t) n head z B K) (rest t))
      → Leads integers R w m h (at_point head s) (Turned (at_point head s) n head z B K)
      (on_value o (λ x. if is_zero x then Value (Ends (Next s)) else
      on_value body (after_body rest)))
  while_runs m h n k head y c z B K s (Value x) body rest below same fits_y fits_z enough fork inner
      each =
      go (is_zero x) fork
    where
      go : (t : Bool) → Branch t (RunsOn R w (at_point head s) (at_point z (take head.width s)))
          (RunsOn R w (at_point head s) (at_point y (take head.width s)))
          → Leads integers R w m h (at_point head s) (Turned (at_point head s) n head z B K)
          (if t then Value (Ends (Next s)) else on_value body (after_body rest))
      go true there = (
        on-run R w (subst (RunsOn R w (at_point head s))
            (jump_same head z s (omega (arith, same, fits_z))) there),
        enough,
      )
      go false there =
          let run = subst (RunsOn R w (at_point head s))
          (jump_same head y s (omega (arith, same, fits_y))) there in
          leads-after integers R w m h (at_point head s) (at_point y s)
          (Turning (at_point y s) n head z B K)
          (Turned (at_point head s) n head z B K) (on_value body (after_body rest))
          (on-run R w run)
          (reversed-on (at_point head s) (at_point y s) n head z B K run)
          (after_body_runs (λ g. Turning g n head z B K) m h (at_point y s) n k c z body rest below
          (λ t run fits. (run, fits)) (λ x run. run)
          (λ middle run. turning-after (at_point y s) middle n head z B K run) inner each)
  while_runs m h n k head y c z B K s (Error error) body rest below same fits_y fits_z enough there
      inner each =
      there
  while_runs m h n k head y c z B K s More body rest below same fits_y fits_z enough there inner
      each =
      long-wider m 0 h (at_point head s) (omega arith) there

  -- a turn of a `do`
  pub do_runs : (m h n k : ℕ) (head c z B K : Point) (s : State) (o : State → Outcome ℤ)
      (body : Outcome Flow) → n ≤ k → c.width ≡ n → head.width ≤ n → z.width ≤ n
      → Executes m h (at_point head s) n k c z c body
      → ((t : State) → n ≤ length t → Leads integers R w m 0 (at_point c t)
      (Forked R w (at_point c t) head z (take c.width t)) (o t))
      → Leads integers R w m h (at_point head s) (Turned (at_point head s) n head z B K)
      (on_value body (after_body (λ t. on_value (o t)
      (λ x. if is_zero x then Value (Ends (Next t)) else Value (Again t)))))
  do_runs m h n k head c z B K s o body below same fits_h fits_z inner each =
      after_body_runs (λ g. Turned g n head z B K) m h (at_point head s) n k c z body
      (λ t. on_value (o t) (λ x. if is_zero x then Value (Ends (Next t)) else Value (Again t)))
      below
      (λ t run fits. (run, fits)) (λ x run. run)
      (λ middle run. reversed-after (at_point head s) middle n head z B K run) inner
      (λ t enough. test t enough (o t) (each t enough))
    where
      test : (t : State) → n ≤ length t → (o : Outcome ℤ) →
          Leads integers R w m 0 (at_point c t) (Forked R w (at_point c t) head z (take c.width t))
          o
          → Leads integers R w m h (at_point c t) (Turned (at_point c t) n head z B K)
          (on_value o (λ x. if is_zero x then Value (Ends (Next t)) else Value (Again t)))
      test t enough (Value x) fork = go (is_zero x) fork
        where
          go : (b : Bool) → Branch b (RunsOn R w (at_point c t) (at_point z (take c.width t)))
              (RunsOn R w (at_point c t) (at_point head (take c.width t)))
              → Leads integers R w m h (at_point c t) (Turned (at_point c t) n head z B K)
              (if b then Value (Ends (Next t)) else Value (Again t))
          go true there = (
            on-run R w (subst (RunsOn R w (at_point c t))
                (jump_same c z t (omega (arith, same, fits_z))) there),
            enough,
          )
          go false there = (
            subst (RunsOn R w (at_point c t)) (jump_same c head t (omega (arith, same, fits_h)))
                there,
            enough,
          )
      test t enough (Error error) there = there
      test t enough More there = long-wider m 0 h (at_point c t) (omega arith) there

  -- the last part of a `for`
  pub changes : (m h n k : ℕ) (c head z B K : Point) (t : State) (o : Outcome Flow) → n ≤ k →
      Executes m h (at_point c t) n k head B K o →
      Leads integers R w m h (at_point c t) (Turning (at_point c t) n head z B K)
      (on_value o after_change)
  changes m h n k c head z B K t (Value (Next s)) below there =
      (there.0, let e = there.1 in omega (arith, e, below))
  changes m h n k c head z B K t (Value (Break s)) below there = there
  changes m h n k c head z B K t (Value (Continue s)) below there = there
  changes m h n k c head z B K t (Value (Return x)) below there = there
  changes m h n k c head z B K t (Error error) below there = there
  changes m h n k c head z B K t More below there = there
