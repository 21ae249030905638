-- The rules of an action do what it says.
use Rattle.std.proofs.Common.{◌≡◌, ◌∙◌, ap, sym, refl, ℕ, suc, ◌+◌, ◌<◌, List, [], ◌∷◌, ◌++◌, length, map, take, drop, ℤ, arith}
use Rattle.std.specs.Prelude.{Contains}
use Rattle.std.proofs.lemmas.List.{take-map, drop-map, map-append}
use Rattle.std.proofs.lemmas.List.Elements.{All-cons, All-nil}
use Rattle.c_ast.specs.declared.integers.Integers.{Integers}
use Rattle.rx_poly.specs.Constants.{variable}
use Rattle.rx_poly.specs.Value.{value}
use Rattle.rx_poly.specs.declared.body.Body.{Body}
use Rattle.rx_poly.proofs.Constants.{value-variable}
use Rattle.rx_poly.proofs.DivisionLaws.{value-quotient_of, value-remainder_of}
use Rattle.rx_row.specs.Holds.{RowHolds}
use Rattle.rx_row.specs.Negation.{negation}
use Rattle.rx_row.specs.declared.row.Row.{Row}
use Rattle.rx_row.specs.declared.row.Row.TheVariants.{Eq, Ne}
use Rattle.rx_rewriting.specs.Terms as stack
use Rattle.rx_rewriting.specs.Terms.{Ground}
use Rattle.rx_rewriting.specs.Steps.{Step, Here}
use Rattle.rx_term.specs.Assigned.{assigned}
use Rattle.rx_term.specs.Meaning.{Instance, ground_at, values}
use Rattle.rx_term.specs.WellMade.{variables_from}
use Rattle.rx_term.specs.declared.rule.Rule.{Rule}
use Rattle.rx_term.specs.declared.term.Term.{Term}
use Rattle.rx_term.specs.declared.term.Term.TheVariants as term
use Rattle.rx_plain.proofs.Kept.{first_one, other_one}
use Rattle.rx_term.proofs.Equations.{ground-Call, ground-Fail, ground-Frame, ground-Return}
use Rattle.rx_code.specs.Points.{division_result, with_element}
use Rattle.rx_code.specs.Rules.{always, call_of, divided, failure_codes, jump, over_failure, over_value, rules_of_action, symbol, variables_of, where_holds}
use Rattle.rx_code.specs.declared.action.Action.{Action}
use Rattle.rx_code.specs.declared.action.Action.TheVariants.{Go, Set, Test, Exclude, Divide, Call, Resume, Return}
use Rattle.rx_code.specs.declared.action.Division.{Division}
use Rattle.rx_code.specs.declared.action.Division.TheVariants.{Quotient, Remainder}
use Rattle.rx_code.specs.declared.point.Point.{Point}
use Rattle.rx_code.specs.Doing.{Does, at_point}
use Rattle.rx_code.proofs.Elements.{in_map}
use Rattle.rx_code.proofs.Lists.{assigned-append, assigned-next}

-- ---- values at a list of integers

-- the first variables have the integers of the list, where the assignment agrees with it
first_values : (a : ℕ → ℤ) (k : ℕ) (xs : List ℤ) →
    ((i : ℕ) → i < length xs → a (k + i) ≡ assigned xs i) →
    values a (variables_from k (length xs)) ≡ xs
first_values a k [] is = refl
first_values a k (x ∷ xs) is =
    let here : value a (variable k) ≡ x = value-variable a k ∙ ap a (omega arith) ∙
    is 0 (omega arith) in
    let rest = first_values a (k + 1) xs (λ i below. ap a (omega arith) ∙
    is (suc i) (omega (arith, below))) in
    (λ i. here i ∷ rest i)

-- the variables of a point
variables_are : (a : Point) (xs more : List ℤ) → length xs ≡ a.width →
    values (assigned (xs ++ more)) (variables_of a) ≡ xs
variables_are a xs more long =
    ap (λ k. values (assigned (xs ++ more)) (variables_from 0 k)) (sym long)
    ∙ first_values (assigned (xs ++ more)) 0 xs
    (λ i below. ap (assigned (xs ++ more)) (omega arith) ∙ assigned-append xs more i below)

variables_alone : (a : Point) (xs : List ℤ) → length xs ≡ a.width →
    values (assigned xs) (variables_of a) ≡ xs
variables_alone a xs long =
    ap (λ k. values (assigned xs) (variables_from 0 k)) (sym long) ∙
    first_values (assigned xs) 0 xs (λ i below. ap (assigned xs) (omega arith))

-- a list with an element in a place
values-with_element : (a : ℕ → ℤ) (k : ℕ) (p : Body) (ps : List Body) →
    values a (with_element k p ps) ≡ with_element k (value a p) (values a ps)
values-with_element a k p ps =
    map-append (value a) (take k ps) (p ∷ drop (suc k) ps)
    ∙ (λ i. sym (take-map (value a) k ps) i ++ value a p ∷ sym (drop-map (value a) (suc k) ps) i)

value-divided : (a : ℕ → ℤ) (d : Division) (p q : Body) → value a (divided d p q) ≡
    division_result d (value a p) (value a q)
value-divided a Quotient p q = value-quotient_of a p q
value-divided a Remainder p q = value-remainder_of a p q

-- the call of a point on polynomials
ground-jump : (a : ℕ → ℤ) (z : Point) (ps : List Body) (xs : List ℤ) → values a ps ≡ xs →
    ground_at a (jump z ps) ≡ at_point z xs
ground-jump a z ps xs is =
    ground-Call a (symbol z.symbol) (take z.width ps)
    ∙ ap (stack.Call z.symbol) (sym (take-map (value a) z.width ps) ∙ ap (take z.width) is)

ground-call_of : (b : Point) (xs : List ℤ) → length xs ≡ b.width → stack.Call b.symbol xs ≡
    ground_at (assigned xs) (call_of b)
ground-call_of b xs long =
    ap (stack.Call b.symbol) (sym (variables_alone b xs long)) ∙
    sym (ground-Call (assigned xs) (symbol b.symbol) (variables_of b))

-- ---- steps

module _ (rules : List Rule) where
  -- a rule without rows steps its instance at each assignment
  steps_always : (a : ℕ → ℤ) (left right : Term) (s t : Ground) →
      Contains rules (always left right) → s ≡ ground_at a left → t ≡ ground_at a right →
      Step (Instance rules) s t
  steps_always a left right s t among is_left is_right =
      Here (record {
        rule = always left right;
        among = among;
        at = a;
        holds = All-nil (RowHolds a);
        left = is_left;
        right = is_right;
      })

  -- a rule with a row, where that holds
  steps_where : (a : ℕ → ℤ) (row : Row) (left right : Term) (s t : Ground) →
      Contains rules (where_holds row left right) → RowHolds a row
      → s ≡ ground_at a left → t ≡ ground_at a right → Step (Instance rules) s t
  steps_where a row left right s t among holds is_left is_right =
      Here (record {
        rule = where_holds row left right;
        among = among;
        at = a;
        holds =
            All-cons (RowHolds a) row [] holds (All-nil (RowHolds a));
        left = is_left;
        right =
            is_right;
      })

  -- the rules are among those of the set
  abbrev pub Among : List Rule → Type 0
  Among rs = (r : Rule) → Contains rs r → Contains rules r

  only_one : (r : Rule) → Among (r ∷ []) → Contains rules r
  only_one r among = among r (first_one r [])

  first_of_two : (r q : Rule) → Among (r ∷ q ∷ []) → Contains rules r
  first_of_two r q among = among r (first_one r (q ∷ []))

  second_of_two : (r q : Rule) → Among (r ∷ q ∷ []) → Contains rules q
  second_of_two r q among = among q (other_one r (q ∷ []) q (first_one q []))

  -- a step does what the action says
  pub rules_do : (integers : Integers) (entry : ℕ → ℕ) (a : Point) (x : Action) →
      Among (rules_of_action integers entry a x) → Does integers (Instance rules) entry a x
  rules_do integers entry a (Go z) among = λ xs long.
      steps_always (assigned xs) (call_of a) (jump z (variables_of a)) _ _ (only_one _ among)
      (ground-call_of a xs long)
      (sym (ground-jump (assigned xs) z (variables_of a) xs (variables_alone a xs long)))
  rules_do integers entry a (Set k p z) among = λ xs long.
      let α = assigned xs in
      steps_always α (call_of a) (jump z (with_element k p (variables_of a))) _ _ (only_one _ among)
      (ground-call_of a xs long)
      (sym (ground-jump α z (with_element k p (variables_of a)) (with_element k (value α p) xs)
      (values-with_element α k p (variables_of a) ∙
      ap (with_element k (value α p)) (variables_alone a xs long))))
  rules_do integers entry a (Test row y w) among = λ xs long.
      let α = assigned xs in
      let lead : (z : Point) → at_point z xs ≡ ground_at α (jump z (variables_of a)) = λ z.
      sym (ground-jump α z (variables_of a) xs (variables_alone a xs long)) in (
        λ holds. steps_where α row (call_of a) (jump y (variables_of a)) _ _
            (first_of_two _ _ among) holds (ground-call_of a xs long) (lead y),
        λ holds. steps_where α (negation row) (call_of a) (jump w (variables_of a)) _ _
            (second_of_two _ _ among) holds (ground-call_of a xs long) (lead w),
      )
  rules_do integers entry a (Exclude row z) among = λ xs long.
      let α = assigned xs in (
        λ holds. steps_where α row (call_of a) (term.Fail 2) _ _ (first_of_two _ _ among) holds
            (ground-call_of a xs long) (sym (ground-Fail α 2)),
        λ holds. steps_where α (negation row) (call_of a) (jump z (variables_of a)) _ _
            (second_of_two _ _ among) holds (ground-call_of a xs long)
            (sym (ground-jump α z (variables_of a) xs (variables_alone a xs long))),
      )
  rules_do integers entry a (Divide d p q z) among = λ xs long.
      let α = assigned xs in (
        λ is_zero. steps_where α (Eq q) (call_of a) (term.Fail 1) _ _ (first_of_two _ _ among)
            is_zero (ground-call_of a xs long) (sym (ground-Fail α 1)),
        λ not_zero. steps_where α (Ne q) (call_of a) (jump z (variables_of a ++ divided d p q ∷ []))
            _ _ (second_of_two _ _ among) not_zero (ground-call_of a xs long)
            (sym (ground-jump α z (variables_of a ++ divided d p q ∷ [])
            (xs ++ division_result d (value α p) (value α q) ∷ [])
            (map-append (value α) (variables_of a) (divided d p q ∷ []) ∙
            (λ i. variables_alone a xs long i ++ value-divided α d p q i ∷ [])))),
      )
  rules_do integers entry a (Call f ps r) among = λ xs long.
      let α = assigned xs in
      let inner = term.Call (symbol (entry f)) ps in
      steps_always α (call_of a) (term.Frame (symbol r.symbol) (take r.width (variables_of a))
      inner) _ _ (only_one _ among) (ground-call_of a xs long)
      (sym (ground-Frame α (symbol r.symbol) (take r.width (variables_of a)) inner
      ∙ (λ i. stack.Frame r.symbol ((sym (take-map (value α) r.width (variables_of a)) ∙
      ap (take r.width) (variables_alone a xs long)) i)
      (ground-Call α (symbol (entry f)) ps i))))
  rules_do integers entry a (Resume z) among = λ xs long. (
    λ x.
        let α = assigned (xs ++ x ∷ []) in
        let last : value α (variable a.width) ≡ x = value-variable α a.width ∙ ap α (sym long) ∙
        assigned-next xs x [] in
        steps_always α (term.Frame (symbol a.symbol) (variables_of a)
        (term.Return (variable a.width))) (jump z (variables_of a ++ variable a.width ∷ [])) _ _
        (among (over_value a z) (first_one (over_value a z)
        (map (over_failure a) (failure_codes integers))))
        (sym (ground-Frame α (symbol a.symbol) (variables_of a) (term.Return (variable a.width))
        ∙ (λ i. stack.Frame a.symbol (variables_are a xs (x ∷ []) long i)
        ((ground-Return α (variable a.width) ∙ ap stack.Return last) i))))
        (sym (ground-jump α z (variables_of a ++ variable a.width ∷ []) (xs ++ x ∷ [])
        (map-append (value α) (variables_of a) (variable a.width ∷ []) ∙
        (λ i. variables_are a xs (x ∷ []) long i ++ last i ∷ [])))),
    λ code there.
        let α = assigned xs in
        steps_always α (term.Frame (symbol a.symbol) (variables_of a) (term.Fail code))
        (term.Fail code) _ _
        (among (over_failure a code) (other_one (over_value a z)
        (map (over_failure a) (failure_codes integers)) (over_failure a code)
        (in_map (over_failure a) (failure_codes integers) code there)))
        (sym (ground-Frame α (symbol a.symbol) (variables_of a) (term.Fail code) ∙
        (λ i. stack.Frame a.symbol (variables_alone a xs long i) (ground-Fail α code i))))
        (sym (ground-Fail α code)),
  )
  rules_do integers entry a (Return p) among = λ xs long.
      steps_always (assigned xs) (call_of a) (term.Return p) _ _ (only_one _ among)
      (ground-call_of a xs long) (sym (ground-Return (assigned xs) p))
