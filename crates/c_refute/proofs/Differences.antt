-- What it says by the meaning that something different is found at a point.
use Rattle.std.proofs.Common.{◌≡◌, ◌≢◌, ℕ, ℤ, pos, Bool, true, false, if◌then◌else◌, Option, None, Some, List, refl, sym, subst, ap, ◌∙◌}
use Rattle.std.specs.Ordering.{int_eq}
use Rattle.std.proofs.lemmas.Bool.Decides.{Decides-int_eq}
use Rattle.c_ast.specs.declared.expr.Expr.{Expr}
use Rattle.c_ast.specs.declared.integers.Integers.TheVariants.{Unbounded}
use Rattle.c_ast.specs.declared.program.Resolved.{Resolved}
use Rattle.c_meaning.specs.Outcomes as meaning
use Rattle.c_meaning.specs.Expressions.{is_zero}
use Rattle.c_meaning.specs.Programs.{expr_outcome, Returns}
use Rattle.c_meaning.specs.declared.outcomes.Outcome.{Outcome}
use Rattle.c_meaning.specs.declared.outcomes.Outcome.TheVariants.{Value, DivError, More, Over}
use Rattle.c_refute.specs.declared.findings.Finding.{Finding}
use Rattle.c_refute.specs.declared.findings.Finding.TheVariants as finding
use Rattle.c_meaning.specs.Runs.{Run}
use Rattle.c_meaning.specs.Counted.{counted, counted_expr, outcome_of}
use Rattle.c_machine.specs.Preconditions.{precondition_at}
use Rattle.c_refute.specs.Points.{is_decided, finding_of, finding_under, finding_at}
use Rattle.c_refute.specs.Laws.{meant, Meets, ReturnDifferent}
use Rattle.c_meaning.proofs.Meaning.{Means, Leaves, Divides, Waits, Passes, call_means, expression_means}

-- the outcome that a decided run has
decided_meant : {n : ℕ} {run : Run ℤ} {o : meaning.Outcome ℤ} → Means ℤ n run o →
    is_decided (outcome_of run) ≡ true → o ≡ meant (outcome_of run)
decided_meant (Leaves below) decided = refl
decided_meant Divides decided = refl
decided_meant Waits decided = absurd (cc)
decided_meant Passes decided = absurd (cc)

decided_answer : (o : Outcome) → is_decided o ≡ true → meaning.IsAnswer (meant o)
decided_answer (Value x) decided = tt
decided_answer DivError decided = tt
decided_answer More decided = absurd (cc)
decided_answer Over decided = absurd (cc)

-- the two outcomes that are found different
record AreDifferent (a b x y : Outcome) : Type 0 where
  first_is : a ≡ x
  second_is : b ≡ y
  first_decided : is_decided a ≡ true
  second_decided : is_decided b ≡ true
  differ : meant x ≢ meant y

same_integer : (x : ℤ) → int_eq x x ≡ true
same_integer x = (Decides-int_eq x x).1 refl

values_differ : (u v : ℤ) (x y : Outcome) (same : Bool) → int_eq u v ≡ same
    → (if same then finding.Alike else finding.Different (Value u) (Value v)) ≡
    finding.Different x y → AreDifferent (Value u) (Value v) x y
values_differ u v x y true tested is = absurd (cc)
values_differ u v x y false tested is = record {
  first_is = cc;
  second_is = cc;
  first_decided = refl;
  second_decided = refl;
  differ = λ alike.
      let first : Value u ≡ x = cc in
      let second : Value v ≡ y = cc in
      let equal : meaning.Value u ≡ meaning.Value v = ap meant first ∙
      (alike ∙ sym (ap meant second)) in
      let one : u ≡ v = cc in
      let P : ℤ → Type 0 = λ k. int_eq u k ≡ true in
      let both : int_eq u v ≡ true = subst P one (same_integer u) in
      absurd (cc);
}

are_different : (a b x y : Outcome) → finding_of a b ≡ finding.Different x y → AreDifferent a b x y
are_different (Value u) (Value v) x y is = values_differ u v x y (int_eq u v) refl is
are_different (Value u) DivError x y is = record {
  first_is = cc;
  second_is = cc;
  first_decided = refl;
  second_decided = refl;
  differ = λ alike.
      let first : Value u ≡ x = cc in
      let second : DivError ≡ y = cc in
      let equal : meaning.Value u ≡ meaning.Error meaning.Division = ap meant first ∙
      (alike ∙ sym (ap meant second)) in
      absurd (cc);
}
are_different (Value u) More x y is = absurd (cc)
are_different (Value u) Over x y is = absurd (cc)
are_different DivError (Value v) x y is = record {
  first_is = cc;
  second_is = cc;
  first_decided = refl;
  second_decided = refl;
  differ = λ alike.
      let first : DivError ≡ x = cc in
      let second : Value v ≡ y = cc in
      let equal : meaning.Error meaning.Division ≡ meaning.Value v = ap meant first ∙
      (alike ∙ sym (ap meant second)) in
      absurd (cc);
}
are_different DivError DivError x y is = absurd (cc)
are_different DivError More x y is = absurd (cc)
are_different DivError Over x y is = absurd (cc)
are_different More b x y is = absurd (cc)
are_different Over b x y is = absurd (cc)

-- the precondition has a value other than 0
record Counts (precondition : Outcome) (counts : Finding) (x y : Outcome) : Type 0 where
  value : ℤ
  value_is : precondition ≡ Value value
  not_zero : is_zero value ≡ false
  rest : counts ≡ finding.Different x y

counts_with : (v : ℤ) (counts : Finding) (x y : Outcome) (zeroes : Bool) → is_zero v ≡ zeroes
    → (if zeroes then finding.Excluded else counts) ≡ finding.Different x y →
    Counts (Value v) counts x y
counts_with v counts x y true tested is = absurd (cc)
counts_with v counts x y false tested is =
    record { value = v; value_is = refl; not_zero = tested; rest = is }

counts_if_different : (precondition : Outcome) (counts : Finding) (x y : Outcome) →
    finding_under precondition counts ≡ finding.Different x y
    → Counts precondition counts x y
counts_if_different (Value v) counts x y is = counts_with v counts x y (is_zero v) refl is
counts_if_different DivError counts x y is = absurd (cc)
counts_if_different More counts x y is = absurd (cc)
counts_if_different Over counts x y is = absurd (cc)

-- a call with a decided outcome returns it
returns_decided : (program : Resolved) (rounds f : ℕ) (point : List ℤ) (x : Outcome) →
    outcome_of (counted program rounds f point) ≡ x
    → is_decided (outcome_of (counted program rounds f point)) ≡ true →
    Returns Unbounded program f point (meant x)
returns_decided program rounds f point x is decided =
    let P : Outcome → Type 0 = λ o. Returns Unbounded program f point (meant o) in
    subst P is (record {
      enough = rounds;
      outcome = decided_meant (call_means program rounds f point) decided;
      is_answer = decided_answer (outcome_of (counted program rounds f point)) decided;
    })

-- by the meaning both functions return what was found, and that differs
pub difference_returns : (program : Resolved) (f g : ℕ) (precondition : Option Expr) (rounds : ℕ)
    (point : List ℤ) (x y : Outcome)
    → finding_at program f g precondition rounds point ≡ finding.Different x y →
    ReturnDifferent program f g point x y
difference_returns program f g precondition rounds point x y is =
    let a = outcome_of (counted program rounds f point) in
    let b = outcome_of (counted program rounds g point) in
    let counts = counts_if_different (precondition_at program precondition rounds point)
    (finding_of a b) x y is in
    let both = are_different a b x y counts.rest in
    record {
      first_returns = returns_decided program rounds f point x both.first_is both.first_decided;
      second_returns = returns_decided program rounds g point y both.second_is both.second_decided;
      different = both.differ;
    }

-- the value of an expression whose outcome is one
value_decided : (program : Resolved) (e : Expr) (rounds : ℕ) (point : List ℤ) (v : ℤ) →
    outcome_of (counted_expr program e rounds point) ≡ Value v
    → expr_outcome Unbounded program rounds e point ≡ meaning.Value v
value_decided program e rounds point v is =
    let decided : is_decided (outcome_of (counted_expr program e rounds point)) ≡ true =
    ap is_decided is in
    decided_meant (expression_means program e rounds point) decided ∙ ap meant is

-- and the point meets the precondition
pub difference_meets : (program : Resolved) (f g : ℕ) (precondition : Option Expr) (rounds : ℕ)
    (point : List ℤ) (x y : Outcome)
    → finding_at program f g precondition rounds point ≡ finding.Different x y →
    Meets program rounds precondition point
difference_meets program f g None rounds point x y is = tt
difference_meets program f g (Some e) rounds point x y is =
    let a = outcome_of (counted program rounds f point) in
    let b = outcome_of (counted program rounds g point) in
    let counts = counts_if_different (outcome_of (counted_expr program e rounds point))
    (finding_of a b) x y is in (
      counts.value,
      value_decided program e rounds point counts.value counts.value_is,
      λ zero_is. let P : ℤ → Type 0 =
          λ k. is_zero k ≡ false in let wrong : is_zero (pos 0) ≡ false =
          subst P zero_is counts.not_zero in absurd (cc),
    )
