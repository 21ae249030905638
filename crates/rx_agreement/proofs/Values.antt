-- What code of expressions does.
use Rattle.std.proofs.Common.{◌≡◌, ℕ, suc, ◌+◌, ◌≤◌, Bool, true, false, if◌then◌else◌, List, [], ◌∷◌, ◌++◌, length, map, take, refl, sym, ap, subst, ◌∙◌, ◌⊎◌, inl, inr, ℤ, pos, negsuc, ◌+ℤ◌, ◌-ℤ◌, ◌*ℤ◌, neg_ℤ, arith, length-append, append_assoc}
use Rattle.std.specs.Prelude.{Contains, not, int_div, int_rem}
use Rattle.std.proofs.lemmas.List.{append-nil, length-map}
use Rattle.std.proofs.Math.Seq.{take-length}
use Rattle.std.proofs.lemmas.Int.{ints}
use Rattle.rx_poly.specs.Constants.{number, variable}
use Rattle.rx_poly.specs.Limits.{body_sum, scaled_by}
use Rattle.rx_poly.specs.Value.{value}
use Rattle.rx_poly.specs.declared.body.Body.{Body}
use Rattle.rx_poly.proofs.Constants.{value-number, value-variable}
use Rattle.rx_poly.proofs.PolyLaws.{value-body_sum, value-scaled_by}
use Rattle.rx_poly.proofs.ProductLaws.{nonzero, value-body_product}
use Rattle.rx_poly.proofs.TermLaws.{zero_is}
use Rattle.rx_row.specs.Holds.{RowHolds}
use Rattle.rx_row.specs.Negation.{negation}
use Rattle.rx_row.specs.declared.row.Row.{Row}
use Rattle.rx_row.specs.declared.row.Row.TheVariants as Says
use Rattle.rx_row.proofs.RowLaws.{holds_or_not}
use Rattle.rx_rewriting.specs.Terms as stack
use Rattle.rx_rewriting.specs.Terms.{Ground, Relation, StackFrame}
use Rattle.rx_rewriting.specs.Steps.{Step}
use Rattle.rx_rewriting.proofs.UnderFrames.{ReachesIn-in_context}
use Rattle.rx_rewriting.proofs.Chains.{ReachesIn-trans}
use Rattle.c_ast.specs.declared.expr.UnOp.TheVariants as Sign
use Rattle.c_ast.specs.declared.expr.BinOp.{BinOp}
use Rattle.c_ast.specs.declared.expr.BinOp.TheVariants as Op
use Rattle.c_ast.specs.declared.expr.Expr.{Expr}
use Rattle.c_ast.specs.declared.integers.Integers.{Integers}
use Rattle.c_ast.specs.declared.integers.Integers.TheVariants.{Unbounded, Bits32}
use Rattle.c_meaning.specs.Outcomes as meaning
use Rattle.c_meaning.specs.Outcomes.{Outcome, Value, Error, More, on_value, State}
use Rattle.c_meaning.specs.Expressions.{Calls, slot, is_int, is_zero, exact, truth, unary, binary, values, expr}
use Rattle.c_meaning.proofs.Equations.{expr-Lit, expr-Var, expr-Unary, expr-Binary, expr-Choose, expr-Apply}
use Rattle.rx_term.specs.Assigned.{assigned}
use Rattle.rx_code.specs.Points.{Actions, division_result, with_element}
use Rattle.rx_code.specs.Doing.{DoAll, at_point}
use Rattle.rx_code.specs.declared.action.Action.TheVariants.{Set, Test, Exclude, Divide, Call, Resume}
use Rattle.rx_code.specs.declared.action.Division.{Division}
use Rattle.rx_code.specs.declared.point.Point.{Point}
use Rattle.rx_code.specs.Codes as code
use Rattle.rx_code.specs.Codes.{IsValue, AreValues, IsCondition, IsRanged, IsComparison, IsArithmetic, IsDivision, IsLogical, Forks}
use Rattle.rx_code.specs.Expressions.{above, below, tested_by}
use Rattle.rx_code.specs.Rules.{failure_codes}
use Rattle.rx_agreement.specs.Agreement.{code_of}
use Rattle.rx_agreement.proofs.Runs.{Runs, RunsOn, Long, Stands, Comes, AllCome, Forked, Branch, Over}
use Rattle.rx_agreement.proofs.Arrivals.{here, longer_point, next_place, nil, one_after, other, put_point, same_point, still, whole_point}
use Rattle.rx_agreement.proofs.Comparisons.{Tests, test_fails, test_of, comparison_tests, comparison_value, comparison_outcome, Truthful, logical_truthful}
use Rattle.rx_agreement.proofs.Ranges.{above_none, below_none, division_code, exact_arithmetic, exact_division, exact_minus, neither_one, range_code, tested_code}
use Rattle.rx_code.proofs.Lists.{assigned-append}
use Rattle.rx_agreement.proofs.Leads.{Leads, run-none, run-step, run-trans, run-on, on-run, on-then, long-after, leads-on, leads-after, times_sum}

pub value-difference : (α : ℕ → ℤ) (p q : Body) → value α (body_sum p (scaled_by (negsuc 0) q)) ≡
    value α p -ℤ value α q
value-difference α p q =
    let e = value-body_sum α p (scaled_by (negsuc 0) q) in let f = value-scaled_by α (negsuc 0) q in
    omega (arith, ints, e, f)

-- more integers at the end
over-more : (n : ℕ) (s xs ys : List ℤ) → Over n s xs → Over n s (xs ++ ys)
over-more n s xs ys over = record {
  agree =
      λ v below. let e = over.enough in over.agree v below ∙
      sym (assigned-append xs ys v (omega (arith, below, e)));
  enough = let e = over.enough in let l = length-append xs ys in omega (arith, e, l);
}

module _ (integers : Integers) (R : Relation) (entry : ℕ → ℕ) (acts : Actions)
    (callable : ℕ → ℕ → Type 0)
    (does : DoAll integers R entry acts)
    (w n m : ℕ) (calls : Calls)
    (called : (f : ℕ) (args : List ℤ) → callable f (length args) →
    Leads integers R w m w (stack.Call (entry f) args)
    (λ k. Runs R w (stack.Call (entry f) args) (stack.Return k)) (calls f args)) where
  abbrev Evaluates : Point → Point → List ℤ → Body → Outcome ℤ → Type 0
  Evaluates a b xs p o = Leads integers R w m 0 (stack.Call a.symbol xs) (Comes R w a b xs p) o

  abbrev Decides : Point → Point → Point → List ℤ → Outcome ℤ → Type 0
  Decides a y z xs o =
      Leads integers R w m 0 (stack.Call a.symbol xs) (Forked R w (stack.Call a.symbol xs) y z xs) o

  -- both operands, then what joins them
  two : (a b c : Point) (xs : List ℤ) (p q r : Body) (o u : Outcome ℤ) (h : ℤ → ℤ → ℤ)
      → ((α : ℕ → ℤ) → value α r ≡ h (value α p) (value α q))
      → Evaluates a b xs p o → ((x : ℤ) (come : Comes R w a b xs p x) →
      Evaluates b c (xs ++ come.more) q u)
      → Evaluates a c xs r (on_value o (λ x. on_value u (λ y. Value (h x y))))
  two a b c xs p q r o u h joins first second =
      leads-on integers R w m 0 (stack.Call a.symbol xs) (Comes R w a b xs p) (Comes R w a c xs r) o
      (λ x. on_value u (λ y. Value (h x y))) first (λ x come.
      leads-after integers R w m 0 (stack.Call a.symbol xs) (stack.Call b.symbol (xs ++ come.more))
      (Comes R w b c (xs ++ come.more) r) (Comes R w a c xs r)
      (on_value u (λ y. Value (h x y))) come.run
      (λ z next. one_after R w a b c xs p r x z come next)
      (leads-on integers R w m 0 (stack.Call b.symbol (xs ++ come.more))
      (Comes R w b c (xs ++ come.more) q)
      (Comes R w b c (xs ++ come.more) r) u (λ y. Value (h x y)) (second x come)
      (λ y next. other R w b c (xs ++ come.more) q r y (h x y) next (λ zs.
      joins (assigned (((xs ++ come.more) ++ next.more) ++ zs))
      ∙ (ap (λ k. h k (value (assigned (((xs ++ come.more) ++ next.more) ++ zs)) q))
      (still R w p (xs ++ come.more) x next.more come.stands zs)
      ∙ ap (h x) (next.stands zs))))))

  joint_value : (op : BinOp) (a b c : Point) (xs : List ℤ) (p q r : Body) (o u : Outcome ℤ) →
      IsArithmetic op p q r
      → Evaluates a b xs p o → ((x : ℤ) (come : Comes R w a b xs p x) →
      Evaluates b c (xs ++ come.more) q u) → Evaluates a c xs r (binary Unbounded op o u)
  joint_value op a b c xs p q r o u (code.sum _ _) first second =
      two a b c xs p q r o u ◌+ℤ◌ (λ α. value-body_sum α p q) first second
  joint_value op a b c xs p q r o u (code.difference _ _) first second =
      two a b c xs p q r o u ◌-ℤ◌ (λ α. value-difference α p q) first second
  joint_value op a b c xs p q r o u (code.product _ _) first second =
      two a b c xs p q r o u ◌*ℤ◌ (λ α. value-body_product α p q) first second

  plus_runs : (a b : Point) (xs : List ℤ) (p : Body) (o : Outcome ℤ) → Evaluates a b xs p o →
      Evaluates a b xs p (on_value o (unary integers Sign.Plus))
  plus_runs a b xs p (Value x) come = come
  plus_runs a b xs p (Error error) there = there
  plus_runs a b xs p More there = there

  minus_value : (a b : Point) (xs : List ℤ) (q : Body) (o : Outcome ℤ) → Evaluates a b xs q o →
      Evaluates a b xs (scaled_by (negsuc 0) q) (on_value o (unary Unbounded Sign.Minus))
  minus_value a b xs q (Value x) come =
      other R w a b xs q (scaled_by (negsuc 0) q) x (neg_ℤ x) come
      (λ zs. let e = value-scaled_by (assigned ((xs ++ come.more) ++ zs)) (negsuc 0) q in
      let f = come.stands zs in omega (arith, ints, e, f))
  minus_value a b xs q (Error error) there = there
  minus_value a b xs q More there = there

  -- the two tests of a value: at d it is a 32-bit integer, or it is none and the range error comes
  bounded_runs : Contains (failure_codes integers) (code_of meaning.Range)
      → (a c h d : Point) (xs : List ℤ) (p : Body) (x : ℤ)
      → acts c (Exclude (above p).form h) → acts h (Exclude (below p).form d)
      → h.width ≡ c.width → d.width ≡ c.width
      → Comes R w a c xs p x → Evaluates a d xs p (exact Bits32 x)
  bounded_runs coded a c h d xs p x over under wide_h wide_d come =
      first (holds_or_not α (above p).form)
    where
      ys : List ℤ
      ys = xs ++ come.more

      α : ℕ → ℤ
      α = assigned ys

      is : value α p ≡ x
      is = nil R w ys p x come.stands

      Tested : Bool → Type 0
      Tested t = Evaluates a d xs p (if t then Value x else Error meaning.Range)

      outside : is_int x ≡ false → Runs R w (stack.Call a.symbol xs) (stack.Fail 2) →
          Tested (is_int x)
      outside none run = subst Tested (sym none) (coded, run)

      -- the value isn't above
      to_h : RowHolds α (negation (above p).form) →
          Runs R w (stack.Call a.symbol xs) (stack.Call h.symbol ys)
      to_h low =
          run-trans R w come.run (subst (Runs R w (stack.Call c.symbol ys))
          (whole_point h ys (come.long ∙ sym wide_h))
          (on-run R w (run-step R w ((does c (Exclude (above p).form h) over ys come.long).1 low))))

      second : RowHolds α (negation (above p).form) →
          RowHolds α (below p).form ⊎ RowHolds α (negation (below p).form) → Tested (is_int x)
      second low (inl is_below) =
          outside (below_none α p x is is_below) (run-trans R w (to_h low) (on-run R w (run-step R w
          ((does h (Exclude (below p).form d) under ys (come.long ∙ sym wide_h)).0 is_below))))
      second low (inr high) =
          subst Tested (sym (neither_one α p x is low high)) (record {
            more = come.more;
            run =
                run-trans R w (to_h low) (subst (Runs R w (stack.Call h.symbol ys))
                (whole_point d ys (come.long ∙ sym wide_d))
                (on-run R w (run-step R w ((does h (Exclude (below p).form d) under ys
                (come.long ∙ sym wide_h)).1 high))));
            long = come.long ∙ sym wide_d;
            stands = come.stands;
          })

      first : RowHolds α (above p).form ⊎ RowHolds α (negation (above p).form) → Tested (is_int x)
      first (inl is_above) =
          outside (above_none α p x is is_above) (run-trans R w come.run (on-run R w (run-step R w
          ((does c (Exclude (above p).form h) over ys come.long).0 is_above))))
      first (inr low) = second low (holds_or_not α (below p).form)

  -- an operator's result, tested by a kind of integers
  ranged_runs : (kind : Integers) → (kind ≡ Bits32 → Contains (failure_codes integers)
      (code_of meaning.Range))
      → (a c d : Point) (xs : List ℤ) (p : Body) (o : Outcome ℤ) → IsRanged acts kind p c d
      → Evaluates a c xs p o → Evaluates a d xs p (on_value o (exact kind))
  ranged_runs kind coded a c d xs p (Value x) (code.untested _ _) come = come
  ranged_runs kind coded a c d xs p (Value x) (code.tested _ _ h _ over under wide_h wide_d) come =
      bounded_runs (coded refl) a c h d xs p x over under wide_h wide_d come
  ranged_runs kind coded a c d xs p (Error error) ranged there = there
  ranged_runs kind coded a c d xs p More ranged there = there

  minus_runs : (a b c : Point) (xs : List ℤ) (q : Body) (o : Outcome ℤ) →
      IsRanged acts integers (scaled_by (negsuc 0) q) b c → Evaluates a b xs q o →
      Evaluates a c xs (scaled_by (negsuc 0) q) (on_value o (unary integers Sign.Minus))
  minus_runs a b c xs q o ranged there =
      let p = scaled_by (negsuc 0) q in
      subst (Evaluates a c xs p) (exact_minus integers o)
      (ranged_runs integers (range_code integers) a b c xs p
      (on_value o (unary Unbounded Sign.Minus)) ranged (minus_value a b xs q o there))

  arithmetic_runs : (op : BinOp) (a b c z : Point) (xs : List ℤ) (p q r : Body) (o u : Outcome ℤ) →
      IsArithmetic op p q r → IsRanged acts integers r c z
      → Evaluates a b xs p o → ((x : ℤ) (come : Comes R w a b xs p x) →
      Evaluates b c (xs ++ come.more) q u) → Evaluates a z xs r (binary integers op o u)
  arithmetic_runs op a b c z xs p q r o u is ranged first second =
      subst (Evaluates a z xs r) (exact_arithmetic integers op p q r o u is)
      (ranged_runs integers (range_code integers) a c z xs r (binary Unbounded op o u) ranged
      (joint_value op a b c xs p q r o u is first second))

  -- a division
  divides : (d : Division) (b c : Point) (ys : List ℤ) (p q : Body) (x y : ℤ) →
      acts b (Divide d p q c) → c.width ≡ suc b.width
      → length ys ≡ b.width → Stands R w p ys x → Stands R w q ys y
      → (t : Bool) (z : ℤ) → is_zero y ≡ t → division_result d x y ≡ (if t then pos 0 else z)
      → Evaluates b c ys (variable b.width) (if t then Error meaning.Division else Value z)
  divides d b c ys p q x y act wide long px qy true z t same = (
    division_code integers,
    on-run R w (run-step R w ((does b (Divide d p q c) act ys long).0
        (nil R w ys q y qy ∙ zero_is y t))),
  )
  divides d b c ys p q x y act wide long px qy false z t same =
      let step = (does b (Divide d p q c) act ys long).1
      (λ e. nonzero y t (sym (nil R w ys q y qy) ∙ e)) in
      let e : division_result d (value (assigned ys) p) (value (assigned ys) q) ≡ z =
      ap (λ k. division_result d k (value (assigned ys) q)) (nil R w ys p x px) ∙
      (ap (division_result d x) (nil R w ys q y qy) ∙ same) in
      next_place R w b c ys z long wide (subst (Runs R w (stack.Call b.symbol ys))
      (longer_point b c ys z long wide)
      (subst (λ k. Runs R w (stack.Call b.symbol ys) (at_point c (ys ++ k ∷ []))) e
      (on-run R w (run-step R w step))))

  division_step : (op : BinOp) (d : Division) (b c : Point) (ys : List ℤ) (p q : Body) (x y : ℤ) →
      IsDivision op d → acts b (Divide d p q c) → c.width ≡ suc b.width
      → length ys ≡ b.width → Stands R w p ys x → Stands R w q ys y →
      Evaluates b c ys (variable b.width) (binary Unbounded op (Value x) (Value y))
  division_step op d b c ys p q x y code.of_quotient act wide long px qy =
      divides d b c ys p q x y act wide long px qy (is_zero y) (int_div x y) refl refl
  division_step op d b c ys p q x y code.of_remainder act wide long px qy =
      divides d b c ys p q x y act wide long px qy (is_zero y) (int_rem x y) refl refl

  division_value : (op : BinOp) (d : Division) (o u : Outcome ℤ) → IsDivision op d →
      binary Unbounded op o u ≡
      on_value o (λ x. on_value u (λ y. binary Unbounded op (Value x) (Value y)))
  division_value op d o u code.of_quotient = refl
  division_value op d o u code.of_remainder = refl

  -- both operands, and then the division, before its result is tested
  division_before : (op : BinOp) (d : Division) (a b c z : Point) (xs : List ℤ) (p q : Body)
      (o u : Outcome ℤ) → IsDivision op d → acts c (Divide d p q z) → z.width ≡ suc c.width
      → Evaluates a b xs p o → ((x : ℤ) (come : Comes R w a b xs p x) →
      Evaluates b c (xs ++ come.more) q u) → Evaluates a z xs (variable c.width)
      (binary Unbounded op o u)
  division_before op d a b c z xs p q o u is act wide first second =
      subst (Evaluates a z xs (variable c.width)) (sym (division_value op d o u is))
      (leads-on integers R w m 0 (stack.Call a.symbol xs) (Comes R w a b xs p)
      (Comes R w a z xs (variable c.width)) o
      (λ x. on_value u (λ y. binary Unbounded op (Value x) (Value y))) first (λ x come.
      leads-after integers R w m 0 (stack.Call a.symbol xs) (stack.Call b.symbol (xs ++ come.more))
      (Comes R w b z (xs ++ come.more) (variable c.width)) (Comes R w a z xs (variable c.width))
      (on_value u (λ y. binary Unbounded op (Value x) (Value y))) come.run
      (λ k next. one_after R w a b z xs p (variable c.width) x k come next)
      (leads-on integers R w m 0 (stack.Call b.symbol (xs ++ come.more))
      (Comes R w b c (xs ++ come.more) q)
      (Comes R w b z (xs ++ come.more) (variable c.width)) u
      (λ y. binary Unbounded op (Value x) (Value y)) (second x come)
      (λ y there.
      leads-after integers R w m 0 (stack.Call b.symbol (xs ++ come.more))
      (stack.Call c.symbol ((xs ++ come.more) ++ there.more))
      (Comes R w c z ((xs ++ come.more) ++ there.more) (variable c.width))
      (Comes R w b z (xs ++ come.more) (variable c.width))
      (binary Unbounded op (Value x) (Value y)) there.run
      (λ k next. one_after R w b c z (xs ++ come.more) q (variable c.width) y k there next)
      (division_step op d c z ((xs ++ come.more) ++ there.more) p q x y is act wide there.long
      (still R w p (xs ++ come.more) x there.more come.stands) there.stands)))))

  division_runs : (op : BinOp) (d : Division) (a b c y z : Point) (xs : List ℤ) (p q : Body)
      (o u : Outcome ℤ) → IsDivision op d → acts c (Divide d p q y) → y.width ≡ suc c.width
      → IsRanged acts (tested_by integers d) (variable c.width) y z
      → Evaluates a b xs p o → ((x : ℤ) (come : Comes R w a b xs p x) →
      Evaluates b c (xs ++ come.more) q u) → Evaluates a z xs (variable c.width)
      (binary integers op o u)
  division_runs op d a b c y z xs p q o u is act wide ranged first second =
      subst (Evaluates a z xs (variable c.width)) (exact_division integers op d o u is)
      (ranged_runs (tested_by integers d) (tested_code integers d) a y z xs (variable c.width)
      (binary Unbounded op o u) ranged
      (division_before op d a b c y xs p q o u is act wide first second))

  -- the arguments, then the call
  call_runs : (f : ℕ) (a b r z : Point) (xs : List ℤ) (ps : List Body) (o : Outcome (List ℤ)) →
      callable f (length ps) → acts b (Call f ps r) → r.width ≡ b.width → acts r (Resume z) →
      z.width ≡ suc b.width
      → Leads integers R w m 0 (stack.Call a.symbol xs) (AllCome R w a b xs ps) o →
      Evaluates a z xs (variable b.width) (on_value o (calls f))
  call_runs f a b r z xs ps o may act same_width resumes wide first =
      leads-on integers R w m 0 (stack.Call a.symbol xs) (AllCome R w a b xs ps)
      (Comes R w a z xs (variable b.width)) o (calls f) first
      (λ vs come. go vs come (calls f vs)
      (called f vs (subst (callable f) (count vs come) may)))
    where
      frame : List ℤ → StackFrame
      frame ys = record { symbol = r.symbol; arguments = ys }

      count : (vs : List ℤ) → AllCome R w a b xs ps vs → length ps ≡ length vs
      count vs come =
          sym (length-map ps (value (assigned ((xs ++ come.more) ++ [])))) ∙
          ap length (come.stand [])

      whole : (ys : List ℤ) → length ys ≡ r.width → take r.width ys ≡ ys
      whole ys long = ap (λ k. take k ys) (sym long) ∙ take-length ys

      enter : (vs : List ℤ) (come : AllCome R w a b xs ps vs)
          → RunsOn R w (stack.Call b.symbol (xs ++ come.more))
          (stack.Frame r.symbol (xs ++ come.more) (stack.Call (entry f) vs))
      enter vs come =
          let e : map (value (assigned (xs ++ come.more))) ps ≡ vs =
          ap (λ l. map (value (assigned l)) ps) (sym (append-nil (xs ++ come.more))) ∙
          come.stand [] in
          subst (λ l. RunsOn R w (stack.Call b.symbol (xs ++ come.more))
          (stack.Frame r.symbol (xs ++ come.more) (stack.Call (entry f) l))) e
          (subst (λ ys. RunsOn R w (stack.Call b.symbol (xs ++ come.more))
          (stack.Frame r.symbol ys (stack.Call (entry f)
          (map (value (assigned (xs ++ come.more))) ps))))
          (whole (xs ++ come.more) (come.long ∙ sym same_width))
          (run-step R w (does b (Call f ps r) act (xs ++ come.more) come.long)))

      inside : (vs ys : List ℤ) (t : Ground) → Runs R w (stack.Call (entry f) vs) t →
          Runs R w (stack.Frame r.symbol ys (stack.Call (entry f) vs)) (stack.Frame r.symbol ys t)
      inside vs ys t (j, run) = (j, ReachesIn-in_context (frame ys ∷ []) run)

      after_call : (vs : List ℤ) (come : AllCome R w a b xs ps vs) (k : ℤ) →
          Comes R w b z (xs ++ come.more) (variable b.width) k →
          Comes R w a z xs (variable b.width) k
      after_call vs come k next =
          let same : (xs ++ come.more) ++ next.more ≡ xs ++ (come.more ++ next.more) =
          append_assoc xs come.more next.more in
          record {
            more = come.more ++ next.more;
            run =
                run-trans R w come.run (subst
                (λ l. Runs R w (stack.Call b.symbol (xs ++ come.more)) (stack.Call z.symbol l)) same
                next.run);
            long = ap length (sym same) ∙ next.long;
            stands =
                λ zs. ap (λ l. value (assigned (l ++ zs)) (variable b.width)) (sym same) ∙
                next.stands zs;
          }

      long_call : (vs ys : List ℤ) → RunsOn R w (stack.Call b.symbol ys)
          (stack.Frame r.symbol ys (stack.Call (entry f) vs)) →
          Long R w m w (stack.Call (entry f) vs) → Long R w m 0 (stack.Call b.symbol ys)
      long_call vs ys (i, run) long =
          let e = times_sum (suc i) long.steps w in
          record {
            steps = suc i + long.steps;
            end = stack.Frame r.symbol ys long.end;
            run = ReachesIn-trans run (ReachesIn-in_context (frame ys ∷ []) long.run);
            enough = omega (arith, e, long.enough);
          }

      go : (vs : List ℤ) (come : AllCome R w a b xs ps vs) (u : Outcome ℤ)
          → Leads integers R w m w (stack.Call (entry f) vs)
          (λ k. Runs R w (stack.Call (entry f) vs) (stack.Return k)) u →
          Evaluates a z xs (variable b.width) u
      go vs come (Value k) back =
          let ys = xs ++ come.more in
          let run = on-run R w (on-then R w (enter vs come)
          (run-trans R w (inside vs ys (stack.Return k) back)
          (on-run R w (run-step R w (subst (Step R (stack.Frame r.symbol ys (stack.Return k)))
          (longer_point b z ys k come.long wide)
          ((does r (Resume z) resumes ys (come.long ∙ sym same_width)).0 k)))))) in
          after_call vs come k (next_place R w b z ys k come.long wide run)
      go vs come (Error error) back = (
        back.0,
        (let ys = xs ++ come.more in
            run-trans R w come.run (on-run R w (on-then R w (enter vs come)
            (run-trans R w (inside vs ys (stack.Fail (code_of error)) back.1)
            (on-run R w (run-step R w ((does r (Resume z) resumes ys
            (come.long ∙ sym same_width)).1 (code_of error) back.0))))))),
      )
      go vs come More back =
          long-after R w come.run (long_call vs (xs ++ come.more) (enter vs come) back)

  -- a value is set in the next place
  set_runs : (a y b : Point) (xs more : List ℤ) (p : Body) (x : ℤ) → acts y (Set a.width p b) →
      length xs ≡ a.width → length (xs ++ more) ≡ y.width → b.width ≡ suc a.width
      → Stands R w p (xs ++ more) x → RunsOn R w (stack.Call y.symbol (xs ++ more))
      (stack.Call b.symbol (xs ++ x ∷ []))
  set_runs a y b xs more p x act long longer wide stands =
      let step = does y (Set a.width p b) act (xs ++ more) longer in
      let e : at_point b (with_element a.width (value (assigned (xs ++ more)) p) (xs ++ more)) ≡
      stack.Call b.symbol (xs ++ x ∷ []) =
      ap (λ k. at_point b (with_element a.width k (xs ++ more))) (nil R w (xs ++ more) p x stands) ∙
      put_point a b xs more x long wide in
      subst (λ t. RunsOn R w (stack.Call y.symbol (xs ++ more)) t) e (run-step R w step)

  -- a test of a comparison
  test_runs : (op : BinOp) (a c y z : Point) (xs more : List ℤ) (p q : Body) (row : Row) (x v : ℤ) →
      IsComparison op p q row → acts c (Test row y z)
      → y.width ≤ length xs → z.width ≤ length xs → length (xs ++ more) ≡ c.width →
      Runs R w (stack.Call a.symbol xs) (stack.Call c.symbol (xs ++ more))
      → Stands R w p (xs ++ more) x → Stands R w q (xs ++ more) v →
      Decides a y z xs (binary integers op (Value x) (Value v))
  test_runs op a c y z xs more p q row x v is act fits_y fits_z long run px qv =
      subst (Decides a y z xs) (sym (comparison_value integers op p q row is x v))
      (go (test_of op x v) refl)
    where
      ys : List ℤ
      ys = xs ++ more

      tests : Tests (assigned ys) row (test_of op x v)
      tests =
          subst (Tests (assigned ys) row) (ap (λ k. test_of op k (value (assigned ys) q))
          (nil R w ys p x px) ∙ ap (test_of op x) (nil R w ys q v qv))
          (comparison_tests op p q row is (assigned ys))

      go : (b : Bool) → test_of op x v ≡ b → Decides a y z xs (Value (truth b))
      go true e = subst (RunsOn R w (stack.Call a.symbol xs)) (same_point y xs more fits_y)
          (run-on R w run (run-step R w ((does c (Test row y z) act ys long).0 (tests.holds e))))
      go false e = subst (RunsOn R w (stack.Call a.symbol xs)) (same_point z xs more fits_z)
          (run-on R w run (run-step R w ((does c (Test row y z) act ys long).1
          (test_fails (assigned ys) row (test_of op x v) tests e))))

  comparison_runs : (op : BinOp) (a b c y z : Point) (xs : List ℤ) (p q : Body) (row : Row)
      (o u : Outcome ℤ) → IsComparison op p q row → acts c (Test row y z)
      → y.width ≤ length xs → z.width ≤ length xs
      → Evaluates a b xs p o → ((x : ℤ) (come : Comes R w a b xs p x) →
      Evaluates b c (xs ++ come.more) q u) → Decides a y z xs (binary integers op o u)
  comparison_runs op a b c y z xs p q row o u is act fits_y fits_z first second =
      subst (Decides a y z xs) (sym (comparison_outcome integers op p q row o u is))
      (leads-on integers R w m 0 (stack.Call a.symbol xs) (Comes R w a b xs p)
      (Forked R w (stack.Call a.symbol xs) y z xs) o
      (λ x. on_value u (λ v. binary integers op (Value x) (Value v))) first (λ x come.
      back x come u (second x come)))
    where
      fork : ℤ → Type 0
      fork = Forked R w (stack.Call a.symbol xs) y z xs

      back : (x : ℤ) (come : Comes R w a b xs p x) (u : Outcome ℤ) →
          Evaluates b c (xs ++ come.more) q u →
          Decides a y z xs (on_value u (λ v. binary integers op (Value x) (Value v)))
      back x come (Value v) there =
          let same : (xs ++ come.more) ++ there.more ≡ xs ++ (come.more ++ there.more) =
          append_assoc xs come.more there.more in
          test_runs op a c y z xs (come.more ++ there.more) p q row x v is act fits_y fits_z
          (ap length (sym same) ∙ there.long)
          (run-trans R w come.run (subst (λ l.
          Runs R w (stack.Call b.symbol (xs ++ come.more)) (stack.Call c.symbol l)) same
          there.run))
          (subst (λ l. Stands R w p l x) same (still R w p (xs ++ come.more) x there.more
          come.stands))
          (subst (λ l. Stands R w q l v) same there.stands)
      back x come (Error error) there = (there.0, run-trans R w come.run there.1)
      back x come More there = long-after R w come.run there

  -- a value that is tested
  tested_runs : (a b y z : Point) (xs : List ℤ) (p : Body) (o : Outcome ℤ) →
      acts b (Test (Says.Ne p) y z) → y.width ≤ length xs → z.width ≤ length xs
      → Evaluates a b xs p o → Decides a y z xs o
  tested_runs a b y z xs p (Value x) act fits_y fits_z come = go (is_zero x) refl
    where
      ys : List ℤ
      ys = xs ++ come.more

      is : value (assigned ys) p ≡ x
      is = nil R w ys p x come.stands

      go : (t : Bool) → is_zero x ≡ t → Branch t
          (RunsOn R w (stack.Call a.symbol xs) (at_point z xs))
          (RunsOn R w (stack.Call a.symbol xs) (at_point y xs))
      go true e = subst (RunsOn R w (stack.Call a.symbol xs)) (same_point z xs come.more fits_z)
          (run-on R w come.run (run-step R w ((does b (Test (Says.Ne p) y z) act ys come.long).1
          (is ∙ zero_is x e))))
      go false e = subst (RunsOn R w (stack.Call a.symbol xs)) (same_point y xs come.more fits_y)
          (run-on R w come.run (run-step R w ((does b (Test (Says.Ne p) y z) act ys come.long).0
          (λ h. nonzero x e (sym is ∙ h)))))
  tested_runs a b y z xs p (Error error) act fits_y fits_z there = there
  tested_runs a b y z xs p More act fits_y fits_z there = there

  swapped : (t : Bool) (A B : Type 0) → Branch t A B → Branch (is_zero (truth t)) B A
  swapped true A B there = there
  swapped false A B there = there

  negated_runs : (a y z : Point) (xs : List ℤ) (o : Outcome ℤ) → Decides a z y xs o →
      Decides a y z xs (on_value o (λ x. Value (truth (is_zero x))))
  negated_runs a y z xs (Value x) fork = swapped (is_zero x) _ _ fork
  negated_runs a y z xs (Error error) there = there
  negated_runs a y z xs More there = there

  -- an integer that is 0 or 1 as it is false or true
  again : (t : Bool) (A B : Type 0) → Branch t A B → Branch (is_zero (truth (not t))) A B
  again true A B there = there
  again false A B there = there

  -- a condition after a run
  decided_after : (a m y z : Point) (xs : List ℤ) (o : Outcome ℤ) →
      RunsOn R w (stack.Call a.symbol xs) (stack.Call m.symbol xs) → Decides m y z xs o
      → Decides a y z xs (on_value o (λ x. Value (truth (not (is_zero x)))))
  decided_after a m y z xs (Value x) run fork = again (is_zero x) _ _ (go (is_zero x) fork)
    where
      go : (t : Bool) → Branch t (RunsOn R w (stack.Call m.symbol xs) (at_point z xs))
          (RunsOn R w (stack.Call m.symbol xs) (at_point y xs))
          → Branch t (RunsOn R w (stack.Call a.symbol xs) (at_point z xs))
          (RunsOn R w (stack.Call a.symbol xs) (at_point y xs))
      go true there = on-then R w run (on-run R w there)
      go false there = on-then R w run (on-run R w there)
  decided_after a m y z xs (Error error) run there =
      (there.0, run-trans R w (on-run R w run) there.1)
  decided_after a m y z xs More run there = long-after R w (on-run R w run) there

  both_runs : (a m y z : Point) (xs : List ℤ) (o u : Outcome ℤ) → length xs ≡ m.width →
      Decides a m z xs o → (Decides m y z xs u) → Decides a y z xs (binary integers Op.AndAlso o u)
  both_runs a m y z xs (Value x) u long fork second = go (is_zero x) fork
    where
      go : (t : Bool) → Branch t (RunsOn R w (stack.Call a.symbol xs) (at_point z xs))
          (RunsOn R w (stack.Call a.symbol xs) (at_point m xs))
          → Decides a y z xs (if t then Value (pos 0) else
          on_value u (λ v. Value (truth (not (is_zero v)))))
      go true there = there
      go false there =
          decided_after a m y z xs u (subst (RunsOn R w (stack.Call a.symbol xs))
          (whole_point m xs long) there) second
  both_runs a m y z xs (Error error) u long there second = there
  both_runs a m y z xs More u long there second = there

  either_runs : (a m y z : Point) (xs : List ℤ) (o u : Outcome ℤ) → length xs ≡ m.width →
      Decides a y m xs o → (Decides m y z xs u) → Decides a y z xs (binary integers Op.OrElse o u)
  either_runs a m y z xs (Value x) u long fork second = go (is_zero x) fork
    where
      go : (t : Bool) → Branch t (RunsOn R w (stack.Call a.symbol xs) (at_point m xs))
          (RunsOn R w (stack.Call a.symbol xs) (at_point y xs))
          → Decides a y z xs (if t then on_value u (λ v. Value (truth (not (is_zero v)))) else
          Value (pos 1))
      go true there =
          decided_after a m y z xs u (subst (RunsOn R w (stack.Call a.symbol xs))
          (whole_point m xs long) there) second
      go false there = there
  either_runs a m y z xs (Error error) u long there second = there
  either_runs a m y z xs More u long there second = there

  -- a condition whose integer is wanted: it is 1 at y and 0 at z
  truth_runs : (a y z b : Point) (xs : List ℤ) (o : Outcome ℤ) → Forks a y z b →
      acts y (Set a.width (number (pos 1)) b) → acts z (Set a.width (number (pos 0)) b)
      → length xs ≡ a.width → Truthful o → Decides a y z xs o →
      Evaluates a b xs (variable a.width) o
  truth_runs a y z b xs (Value x) forks at_y at_z long truthful fork = go (is_zero x) truthful fork
    where
      set : (c : Point) (k : ℤ) → c.width ≡ a.width → acts c (Set a.width (number k) b) →
          RunsOn R w (stack.Call a.symbol xs) (at_point c xs) →
          Comes R w a b xs (variable a.width) k
      set c k same act run =
          let e : xs ++ [] ≡ xs = append-nil xs in
          let to_c : RunsOn R w (stack.Call a.symbol xs) (stack.Call c.symbol xs) =
          subst (RunsOn R w (stack.Call a.symbol xs)) (whole_point c xs (long ∙ sym same)) run
          in
          let set = set_runs a c b xs [] (number k) k act long (ap length e ∙ (long ∙ sym same))
          forks.both (λ zs. value-number (assigned ((xs ++ []) ++ zs)) k) in
          let from_c : RunsOn R w (stack.Call c.symbol xs) (stack.Call b.symbol (xs ++ k ∷ [])) =
          subst (λ l. RunsOn R w (stack.Call c.symbol l) (stack.Call b.symbol (xs ++ k ∷ []))) e
          set in
          next_place R w a b xs k long forks.both
          (on-run R w (on-then R w to_c (on-run R w from_c)))

      go : (t : Bool) → x ≡ truth (not t) → Branch t
          (RunsOn R w (stack.Call a.symbol xs) (at_point z xs))
          (RunsOn R w (stack.Call a.symbol xs) (at_point y xs))
          → Comes R w a b xs (variable a.width) x
      go true is there =
          subst (Comes R w a b xs (variable a.width)) (sym is)
          (set z (pos 0) forks.second at_z there)
      go false is there =
          subst (Comes R w a b xs (variable a.width)) (sym is)
          (set y (pos 1) forks.first at_y there)
  truth_runs a y z b xs (Error error) forks at_y at_z long truthful there = there
  truth_runs a y z b xs More forks at_y at_z long truthful there = there

  -- one of two values, by a condition
  choice_runs : (a y y' z z' b : Point) (xs : List ℤ) (p q : Body) (o u v : Outcome ℤ) →
      Forks a y z b → acts y' (Set a.width p b) → acts z' (Set a.width q b)
      → length xs ≡ a.width → Decides a y z xs o → Evaluates y y' xs p u → Evaluates z z' xs q v
      → Evaluates a b xs (variable a.width) (on_value o (λ x. if is_zero x then v else u))
  choice_runs a y y' z z' b xs p q (Value x) u v forks at_y at_z long fork first second =
      go (is_zero x) fork
    where
      via : (c c' : Point) (r : Body) (o : Outcome ℤ) → c.width ≡ a.width →
          acts c' (Set a.width r b) → RunsOn R w (stack.Call a.symbol xs) (at_point c xs)
          → Evaluates c c' xs r o → Evaluates a b xs (variable a.width) o
      via c c' r (Value k) same act run come =
          let to_c : RunsOn R w (stack.Call a.symbol xs) (stack.Call c.symbol xs) =
          subst (RunsOn R w (stack.Call a.symbol xs)) (whole_point c xs (long ∙ sym same)) run
          in
          next_place R w a b xs k long forks.both
          (on-run R w (on-then R w to_c (run-trans R w come.run
          (on-run R w (set_runs a c' b xs come.more r k act long come.long forks.both
          come.stands)))))
      via c c' r (Error error) same act run there = (
        there.0,
        run-trans R w (on-run R w (subst (RunsOn R w (stack.Call a.symbol xs))
            (whole_point c xs (long ∙ sym same)) run)) there.1,
      )
      via c c' r More same act run there =
          long-after R w (on-run R w (subst (RunsOn R w (stack.Call a.symbol xs))
          (whole_point c xs (long ∙ sym same)) run)) there

      go : (t : Bool) → Branch t (RunsOn R w (stack.Call a.symbol xs) (at_point z xs))
          (RunsOn R w (stack.Call a.symbol xs) (at_point y xs))
          → Evaluates a b xs (variable a.width) (if t then v else u)
      go true there = via z z' q v forks.second at_z there second
      go false there = via y y' p u forks.first at_y there first
  choice_runs a y y' z z' b xs p q (Error error) u v forks at_y at_z long there first second = there
  choice_runs a y y' z z' b xs p q More u v forks at_y at_z long there first second = there

  -- the arguments
  first_and_rest : (a b c : Point) (xs : List ℤ) (p : Body) (ps : List Body) (o : Outcome ℤ)
      (u : Outcome (List ℤ)) → Evaluates a b xs p o
      → ((x : ℤ) (come : Comes R w a b xs p x) →
      Leads integers R w m 0 (stack.Call b.symbol (xs ++ come.more))
      (AllCome R w b c (xs ++ come.more) ps) u)
      → Leads integers R w m 0 (stack.Call a.symbol xs) (AllCome R w a c xs (p ∷ ps))
      (on_value o (λ x. on_value u (λ vs. Value (x ∷ vs))))
  first_and_rest a b c xs p ps (Value x) u come rest = go u (rest x come)
    where
      go : (u : Outcome (List ℤ)) → Leads integers R w m 0 (stack.Call b.symbol (xs ++ come.more))
          (AllCome R w b c (xs ++ come.more) ps) u
          → Leads integers R w m 0 (stack.Call a.symbol xs) (AllCome R w a c xs (p ∷ ps))
          (on_value u (λ vs. Value (x ∷ vs)))
      go (Value vs) there =
          let same : (xs ++ come.more) ++ there.more ≡ xs ++ (come.more ++ there.more) =
          append_assoc xs come.more there.more in
          record {
            more = come.more ++ there.more;
            run =
                run-trans R w come.run (subst
                (λ l. Runs R w (stack.Call b.symbol (xs ++ come.more)) (stack.Call c.symbol l)) same
                there.run);
            long = ap length (sym same) ∙ there.long;
            stand = λ zs. ap (λ l. map (value (assigned (l ++ zs))) (p ∷ ps)) (sym same)
                ∙ (ap (λ k. k ∷ map (value (assigned (((xs ++ come.more) ++ there.more) ++ zs))) ps)
                (still R w p (xs ++ come.more) x there.more come.stands zs)
                ∙ ap (λ l. x ∷ l) (there.stand zs));
          }
      go (Error error) there = (there.0, run-trans R w come.run there.1)
      go More there = long-after R w come.run there
  first_and_rest a b c xs p ps (Error error) u there rest = there
  first_and_rest a b c xs p ps More u there rest = there

  mutual
    -- the code of an expression comes to its value
    pub value_runs : (e : Expr) (a b : Point) (p : Body) →
        IsValue integers acts callable n e a b p →
        (s xs : List ℤ) → Over n s xs → length xs ≡ a.width
        → Evaluates a b xs p (expr integers calls e s)
    value_runs e a b p (code.literal k _) s xs over long =
        subst (Evaluates a a xs (number k)) (sym (expr-Lit integers calls k s))
        (here R w a xs (number k) k long (λ zs. value-number (assigned (xs ++ zs)) k))
    value_runs e a b p (code.variable_of v _ below) s xs over long =
        subst (Evaluates a a xs (variable v)) (sym (expr-Var integers calls v s))
        (here R w a xs (variable v) (slot s v) long (λ zs.
        value-variable (assigned (xs ++ zs)) v ∙
        (assigned-append xs zs v (let h = over.enough in omega (arith, h, below)) ∙
        sym (over.agree v below))))
    value_runs e a b p (code.plus f _ _ _ inner) s xs over long =
        subst (Evaluates a b xs p) (sym (expr-Unary integers calls Sign.Plus f s))
        (plus_runs a b xs p (expr integers calls f s) (value_runs f a b p inner s xs over long))
    value_runs e a b p (code.minus f _ c _ q inner ranged) s xs over long =
        subst (Evaluates a b xs p) (sym (expr-Unary integers calls Sign.Minus f s))
        (minus_runs a c b xs q (expr integers calls f s) ranged
        (value_runs f a c q inner s xs over long))
    value_runs e a b p (code.arithmetic op f g _ c d _ q r _ is left right ranged) s xs over
        long =
        subst (Evaluates a b xs p) (sym (expr-Binary integers calls op f g s))
        (arithmetic_runs op a c d b xs q r p (expr integers calls f s) (expr integers calls g s) is
        ranged (value_runs f a c q left s xs over long)
        (λ x come. value_runs g c d r right s (xs ++ come.more) (over-more n s xs come.more over)
        come.long))
    value_runs e a b p (code.division op d f g _ c c' y _ q r is left right act wide ranged) s xs
        over long =
        subst (Evaluates a b xs p) (sym (expr-Binary integers calls op f g s))
        (division_runs op d a c c' y b xs q r (expr integers calls f s) (expr integers calls g s) is
        act wide ranged
        (value_runs f a c q left s xs over long)
        (λ x come. value_runs g c c' r right s (xs ++ come.more) (over-more n s xs come.more over)
        come.long))
    value_runs e a b p (code.call f es _ c r _ ps may args act same_width resumes wide) s xs over
        long =
        subst (Evaluates a b xs p) (sym (expr-Apply integers calls f es s))
        (call_runs f a c r b xs ps (values (map (expr integers calls) es) s) may act same_width
        resumes wide
        (values_run es a c ps args s xs over long))
    value_runs e a b p (code.truth _ _ y z _ logical forks inner yes_ no_) s xs over long =
        truth_runs a y z b xs (expr integers calls e s) forks yes_ no_ long
        (logical_truthful integers calls e s logical) (condition_runs e a y z inner s xs over long)
    value_runs e a b p (code.choice c f g _ y y' z z' _ q r forks test first at_y second at_z) s xs
        over long =
        subst (Evaluates a b xs p) (sym (expr-Choose integers calls c f g s))
        (choice_runs a y y' z z' b xs q r (expr integers calls c s) (expr integers calls f s)
        (expr integers calls g s) forks
        at_y at_z long (condition_runs c a y z test s xs over long)
        (value_runs f y y' q first s xs over (long ∙ sym forks.first))
        (value_runs g z z' r second s xs over (long ∙ sym forks.second)))

    values_run : (es : List Expr) (a b : Point) (ps : List Body) →
        AreValues integers acts callable n es a b ps → (s xs : List ℤ) → Over n s xs →
        length xs ≡ a.width
        → Leads integers R w m 0 (stack.Call a.symbol xs) (AllCome R w a b xs ps)
        (values (map (expr integers calls) es) s)
    values_run es a b ps (code.no_value _) s xs over long =
        let same : xs ++ [] ≡ xs = append-nil xs in
        record {
          more = [];
          run =
              subst (λ ys. Runs R w (stack.Call a.symbol xs) (stack.Call a.symbol ys)) (sym same)
              (run-none R w (stack.Call a.symbol xs));
          long = ap length same ∙ long;
          stand = λ zs. refl;
        }
    values_run es a b ps (code.one_value f fs _ c _ q qs first rest) s xs over long =
        first_and_rest a c b xs q qs (expr integers calls f s)
        (values (map (expr integers calls) fs) s)
        (value_runs f a c q first s xs over long)
        (λ x come. values_run fs c b qs rest s (xs ++ come.more) (over-more n s xs come.more over)
        come.long)

    -- the code of a condition comes to the point of its truth
    pub condition_runs : (e : Expr) (a y z : Point) → IsCondition integers acts callable n e a y z →
        (s xs : List ℤ) → Over n s xs → length xs ≡ a.width
        → Decides a y z xs (expr integers calls e s)
    condition_runs e a y z (code.compared op f g _ b c _ _ p q row is left right act fits_y fits_z)
        s xs over long =
        subst (Decides a y z xs) (sym (expr-Binary integers calls op f g s))
        (comparison_runs op a b c y z xs p q row (expr integers calls f s)
        (expr integers calls g s) is act
        (let l = long in omega (arith, l, fits_y)) (let l = long in omega (arith, l, fits_z))
        (value_runs f a b p left s xs over long)
        (λ x come. value_runs g b c q right s (xs ++ come.more)
        (over-more n s xs come.more over) come.long))
    condition_runs e a y z (code.negated f _ _ _ inner) s xs over long =
        subst (Decides a y z xs) (sym (expr-Unary integers calls Sign.Not f s))
        (negated_runs a y z xs (expr integers calls f s)
        (condition_runs f a z y inner s xs over long))
    condition_runs e a y z (code.both f g _ c _ _ same first second) s xs over long =
        subst (Decides a y z xs) (sym (expr-Binary integers calls Op.AndAlso f g s))
        (both_runs a c y z xs (expr integers calls f s) (expr integers calls g s)
        (long ∙ sym same)
        (condition_runs f a c z first s xs over long)
        (condition_runs g c y z second s xs over (long ∙ sym same)))
    condition_runs e a y z (code.either f g _ c _ _ same first second) s xs over long =
        subst (Decides a y z xs) (sym (expr-Binary integers calls Op.OrElse f g s))
        (either_runs a c y z xs (expr integers calls f s) (expr integers calls g s)
        (long ∙ sym same)
        (condition_runs f a y c first s xs over long)
        (condition_runs g c y z second s xs over (long ∙ sym same)))
    condition_runs e a y z (code.tested _ _ b _ _ p inner act fits_y fits_z) s xs over long =
        tested_runs a b y z xs p (expr integers calls e s) act
        (let l = long in omega (arith, l, fits_y))
        (let l = long in omega (arith, l, fits_z)) (value_runs e a b p inner s xs over long)
