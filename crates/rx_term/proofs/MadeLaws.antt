-- The test that a rule set is well made says exactly that.
use Rattle.std.proofs.Common.{◌≡◌, ◌∙◌, ap, sym, subst, refl, Bool, true, false, ◌&&◌, ℕ, ◌+◌, ◌^◌, ◌≤◌, ◌<◌, if◌then◌else◌, Option, Some, None, List, [], ◌∷◌, ◌++◌, length, arith}
use Rattle.std.specs.Prelude.{nat_lt, nat_le, option_and_then, All}
use Rattle.std.specs.List.{list_all}
use Rattle.std.specs.Option.{option_map_or}
use Rattle.std.proofs.lemmas.Bool.{and_parts, and_from, leb-true, le-leb, ltb-true, lt-ltb}
use Rattle.std.proofs.lemmas.List.{length-append}
use Rattle.std.proofs.lemmas.List.Elements.{All-nil, All-cons, All-head, All-tail}
use Rattle.rx_poly.specs.Constants.{variable}
use Rattle.rx_poly.specs.declared.body.Body.{Body}
use Rattle.rx_term.specs.Fitting.{term_fits}
use Rattle.rx_term.specs.MadeTest.{are_variables, is_made, is_made_over, is_variable, is_well_made, left_width, left_width_level, variable_count, width_over}
use Rattle.rx_row.specs.Variables.{rows_use_below}
use Rattle.rx_term.specs.Variables.{term_uses_below}
use Rattle.rx_term.specs.WellMade.{IsLeft, OfPoint, OverReturn, OverFail, IsMade, IsWellMade, variables_from, width}
use Rattle.rx_term.specs.declared.rule.Rule.{Rule}
use Rattle.rx_term.specs.declared.rule_set.RuleParts.{RuleParts}
use Rattle.rx_term.specs.declared.term.Sym.{Sym}
use Rattle.rx_term.specs.declared.term.Term.{Term, Term-F}
use Rattle.rx_term.specs.declared.term.Term.TheViews.{out-Term, roll-Term, roll-out-Term, rolls-Return, rolls-Fail, rolls-Call, rolls-Frame}
use Rattle.rx_term.specs.declared.term.Term.TheVariants.{Return, Fail, Call, Frame, outs-Return, outs-Fail, outs-Call, outs-Frame}
use Rattle.rx_term.proofs.Equations.{arguments-Return, arguments-Fail, arguments-Call, arguments-Frame}
use Rattle.rx_term.proofs.VariableTests.{variable-is, is-variable, variables-are, are-variables, length-variables_from}

-- ---- the number of variables of a left side

nothing : {n : ℕ} → ◌≡◌ {A = Option ℕ} None (Some n) → ⊥
nothing e = cc

-- a left side with n variables
pub record HasWidth (t : Term) (n : ℕ) : Type 0 where
  pub form : IsLeft t
  pub counted : width t ≡ n
  pub few : n ≤ 2 ^ 31

-- the first n variables
pub record FirstVariables (ps : List Body) (n : ℕ) : Type 0 where
  pub are : ps ≡ variables_from 0 n
  pub few : n ≤ 2 ^ 31

counted : (ps : List Body) (n : ℕ) → variable_count ps ≡ Some n → FirstVariables ps n
counted ps n h = chosen (are_variables 0 ps) (nat_le (length ps) (2 ^ 31)) refl refl h where
  chosen : (b c : Bool) → are_variables 0 ps ≡ b → nat_le (length ps) (2 ^ 31) ≡ c →
      (if b && c then Some (length ps) else None) ≡ Some n → FirstVariables ps n
  chosen true true e f h =
      let same : length ps ≡ n = cc in
      record {
        are = variables-are 0 ps e ∙ ap (variables_from 0) same;
        few =
            subst (λ k. k ≤ 2 ^ 31) same (leb-true (length ps) (2 ^ 31) f);
      }
  chosen true false e f h = absurd (nothing h)
  chosen false c e f h = absurd (nothing h)

counts : (ps : List Body) → are_variables 0 ps ≡ true → length ps ≤ 2 ^ 31 → variable_count ps ≡
    Some (length ps)
counts ps e f =
    ap (λ (b : Bool). if b then Some (length ps) else None)
    (and_from (are_variables 0 ps) (nat_le (length ps) (2 ^ 31)) e (le-leb (length ps) (2 ^ 31) f))

counts_first : (n : ℕ) → n ≤ 2 ^ 31 → variable_count (variables_from 0 n) ≡ Some n
counts_first n few =
    let same = length-variables_from 0 n in
    counts (variables_from 0 n) (are-variables 0 n) (subst (λ k. k ≤ 2 ^ 31) (sym same) few) ∙
    ap Some same

width-Call : (f : Sym) (n : ℕ) → width (Call f (variables_from 0 n)) ≡ n
width-Call f n = ap length (arguments-Call f (variables_from 0 n)) ∙ length-variables_from 0 n

width-Return : (f : Sym) (n : ℕ) → width (Frame f (variables_from 0 n) (Return (variable n))) ≡ n +
    1
width-Return f n =
    ap length (arguments-Frame f (variables_from 0 n) (Return (variable n)) ∙
    ap (λ qs. variables_from 0 n ++ qs) (arguments-Return (variable n)))
    ∙ length-append (variables_from 0 n) (variable n ∷ []) ∙
    ap (λ k. k + 1) (length-variables_from 0 n)

width-Fail : (f : Sym) (n c : ℕ) → width (Frame f (variables_from 0 n) (Fail c)) ≡ n
width-Fail f n c =
    ap length (arguments-Frame f (variables_from 0 n) (Fail c) ∙
    ap (λ qs. variables_from 0 n ++ qs) (arguments-Fail c))
    ∙ length-append (variables_from 0 n) [] ∙
    (let q : length (variables_from 0 n) + 0 ≡ length (variables_from 0 n) = omega arith in q) ∙
    length-variables_from 0 n

-- what a frame of n variables over this is
over : (f : Sym) (n : ℕ) (x : Term-F Term) (k : ℕ) → n ≤ 2 ^ 31 → width_over n x ≡ Some k →
    HasWidth (Frame f (variables_from 0 n) (roll-Term x)) k
over f n (Term-F.Return p) k few h = chosen (nat_lt n (2 ^ 31)) (is_variable n p) refl refl h where
  chosen : (b c : Bool) → nat_lt n (2 ^ 31) ≡ b → is_variable n p ≡ c →
      (if b && c then Some (n + 1) else None) ≡ Some k →
      HasWidth (Frame f (variables_from 0 n) (roll-Term (Term-F.Return p))) k
  chosen true true e g h =
      let same : n + 1 ≡ k = cc in
      let inner : roll-Term (Term-F.Return p) ≡ Return (variable n) = rolls-Return p ∙
      ap Return (variable-is n p g) in
      let below : n < 2 ^ 31 = ltb-true n (2 ^ 31) e in
      subst (λ t. HasWidth (Frame f (variables_from 0 n) t) k) (sym inner) (record {
        form = OverReturn f n;
        counted = width-Return f n ∙ same;
        few = omega arith;
      })
  chosen true false e g h = absurd (nothing h)
  chosen false c e g h = absurd (nothing h)
over f n (Term-F.Fail c) k few h =
    let same : n ≡ k = cc in
    subst (λ t. HasWidth (Frame f (variables_from 0 n) t) k) (sym (rolls-Fail c)) (record {
      form = OverFail f n c;
      counted = width-Fail f n c ∙ same;
      few = omega arith;
    })
over f n (Term-F.Call g ps) k few h = absurd (nothing h)
over f n (Term-F.Frame g ps inner) k few h = absurd (nothing h)

level : (x : Term-F Term) (n : ℕ) → left_width_level x ≡ Some n → HasWidth (roll-Term x) n
level (Term-F.Return p) n h = absurd (nothing h)
level (Term-F.Fail c) n h = absurd (nothing h)
level (Term-F.Call f ps) n h =
    let first = counted ps n h in
    let whole : roll-Term (Term-F.Call f ps) ≡ Call f (variables_from 0 n) = rolls-Call f ps ∙
    ap (Call f) first.are in
    subst (λ t. HasWidth t n) (sym whole) (record
    { form = OfPoint f n; counted = width-Call f n; few = first.few })
level (Term-F.Frame f ps inner) k h = chosen (variable_count ps) refl h where
  chosen : (o : Option ℕ) → variable_count ps ≡ o →
      option_and_then (λ n. width_over n (out-Term inner)) o ≡ Some k →
      HasWidth (roll-Term (Term-F.Frame f ps inner)) k
  chosen None e h = absurd (nothing h)
  chosen (Some n) e h =
      let first = counted ps n e in
      let whole : roll-Term (Term-F.Frame f ps inner) ≡
      Frame f (variables_from 0 n) (roll-Term (out-Term inner)) =
      rolls-Frame f ps inner ∙ ap (λ qs. Frame f qs inner) first.are ∙
      ap (Frame f (variables_from 0 n)) (sym (roll-out-Term inner)) in
      subst (λ t. HasWidth t k) (sym whole) (over f n (out-Term inner) k first.few h)

-- a term with a number of variables is a left side with that many
pub left_width-is : (t : Term) (n : ℕ) → left_width t ≡ Some n → HasWidth t n
left_width-is t n h = subst (λ u. HasWidth u n) (roll-out-Term t) (level (out-Term t) n h)

-- and a left side has its number
pub is-left_width : (t : Term) → IsLeft t → width t ≤ 2 ^ 31 → left_width t ≡ Some (width t)
is-left_width _ (OfPoint f n) few =
    let same = width-Call f n in
    ap left_width_level (outs-Call f (variables_from 0 n)) ∙
    counts_first n (subst (λ k. k ≤ 2 ^ 31) same few) ∙ ap Some (sym same)
is-left_width _ (OverReturn f n) few =
    let same = width-Return f n in
    let less : n + 1 ≤ 2 ^ 31 = subst (λ k. k ≤ 2 ^ 31) same few in
    ap left_width_level (outs-Frame f (variables_from 0 n) (Return (variable n)))
    ∙ ap (option_and_then (λ k. width_over k (out-Term (Return (variable n)))))
    (counts_first n (omega arith))
    ∙ ap (width_over n) (outs-Return (variable n))
    ∙ ap (λ (b : Bool). if b then Some (n + 1) else None)
    (and_from (nat_lt n (2 ^ 31)) (is_variable n (variable n)) (lt-ltb n (2 ^ 31) (omega arith))
    (is-variable n))
    ∙ ap Some (sym same)
is-left_width _ (OverFail f n c) few =
    let same = width-Fail f n c in
    ap left_width_level (outs-Frame f (variables_from 0 n) (Fail c))
    ∙ ap (option_and_then (λ k. width_over k (out-Term (Fail c))))
    (counts_first n (subst (λ k. k ≤ 2 ^ 31) same few))
    ∙ ap (width_over n) (outs-Fail c)
    ∙ ap Some (sym same)

-- ---- rules

module _ (parts : RuleParts) (rule : Rule) where
  abbrev test_over : Option ℕ → Bool
  test_over o = option_map_or (λ n. is_made_over parts rule n) o false

  made_over : (o : Option ℕ) → left_width rule.left ≡ o → test_over o ≡ true → IsMade parts rule
  made_over (Some n) e h =
      let has = left_width-is rule.left n e in
      let sides = and_parts (term_fits parts rule.left)
      (term_fits parts rule.right && (term_uses_below n rule.right &&
      rows_use_below n rule.rows)) h in
      let right = and_parts (term_fits parts rule.right)
      (term_uses_below n rule.right && rows_use_below n rule.rows) sides.1 in
      let uses = and_parts (term_uses_below n rule.right) (rows_use_below n rule.rows) right.1 in
      record {
        form = has.form;
        few = subst (λ k. k ≤ 2 ^ 31) (sym has.counted) has.few;
        left_fits = sides.0;
        right_fits = right.0;
        right_variables = ap (λ k. term_uses_below k rule.right) has.counted ∙ uses.0;
        row_variables = ap (λ k. rows_use_below k rule.rows) has.counted ∙ uses.1;
      }
  made_over None e h = cc

  pub made-is : is_made parts rule ≡ true → IsMade parts rule
  made-is h = made_over (left_width rule.left) refl h

  pub is-made : IsMade parts rule → is_made parts rule ≡ true
  is-made made =
      let n = width rule.left in
      ap test_over (is-left_width rule.left made.form made.few)
      ∙ and_from (term_fits parts rule.left) (term_fits parts rule.right &&
      (term_uses_below n rule.right && rows_use_below n rule.rows)) made.left_fits
      (and_from (term_fits parts rule.right) (term_uses_below n rule.right &&
      rows_use_below n rule.rows) made.right_fits
      (and_from (term_uses_below n rule.right) (rows_use_below n rule.rows) made.right_variables
      made.row_variables))

all_made : (parts : RuleParts) (rules : List Rule) → list_all (is_made parts) rules ≡ true →
    All (IsMade parts) rules
all_made parts [] h = All-nil (IsMade parts)
all_made parts (r ∷ rs) h =
    let both = and_parts (is_made parts r) (list_all (is_made parts) rs) h in
    All-cons (IsMade parts) r rs (made-is parts r both.0) (all_made parts rs both.1)

all_test : (parts : RuleParts) (rules : List Rule) → All (IsMade parts) rules →
    list_all (is_made parts) rules ≡ true
all_test parts [] h = refl
all_test parts (r ∷ rs) h =
    and_from (is_made parts r) (list_all (is_made parts) rs)
    (is-made parts r (All-head (IsMade parts) r rs h))
    (all_test parts rs (All-tail (IsMade parts) r rs h))

-- parts that pass the test are well made
pub well_made_by_test : (parts : RuleParts) → is_well_made parts ≡ true → IsWellMade parts
well_made_by_test parts h = all_made parts parts.rules h

-- and parts that are well made pass it
pub test_of_well_made : (parts : RuleParts) → IsWellMade parts → is_well_made parts ≡ true
test_of_well_made parts h = all_test parts parts.rules h
