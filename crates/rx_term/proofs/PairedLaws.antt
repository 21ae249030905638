-- Paired sets are single-valued and covered.
use Rattle.std.proofs.Common.{◌≡◌, ◌∙◌, ap, sym, subst, ℕ, zero, suc, ◌+◌, ◌≤◌, ◌<◌, ◌⊎◌, inl, inr, List, [], ◌∷◌, ℤ, arith}
use Rattle.std.specs.Prelude.{Contains}
use Rattle.std.proofs.Math.Nat.{eq-or-lt_of_le}
use Rattle.std.proofs.lemmas.List.Elements.{All-cons, All-head, All-nil}
use Rattle.rx_poly.specs.Constants.{variable}
use Rattle.rx_poly.specs.Value.{value}
use Rattle.rx_poly.proofs.Constants.{value-variable}
use Rattle.rx_rewriting.specs.Terms as stack
use Rattle.rx_rewriting.specs.Terms.{Ground, IsResult}
use Rattle.rx_rewriting.specs.Steps.{Step, IsSingleValued}
use Rattle.rx_rewriting.proofs.UnderFrames.{single_valued_under_frames}
use Rattle.rx_row.specs.Holds.{AllHold, RowHolds}
use Rattle.rx_row.specs.Negation.{negation}
use Rattle.rx_row.specs.declared.row.Row.{Row}
use Rattle.rx_row.proofs.RowLaws.{holds_or_not, holds_not_both}
use Rattle.rx_term.specs.Covered.{IsCovered}
use Rattle.rx_term.specs.Meaning.{Instance, IsRedex, CallRedex, ReturnRedex, FailRedex, values, ground_at}
use Rattle.rx_term.specs.Paired.{IsPair, One, Two, IsPaired, rules_of_shape}
use Rattle.rx_term.specs.Shapes.{same_shape, shape_of}
use Rattle.rx_term.specs.WellMade.{IsWellMade, variables_from, width}
use Rattle.rx_term.specs.declared.rule.Rule.{Rule}
use Rattle.rx_term.specs.declared.rule_set.RuleParts.{RuleParts}
use Rattle.rx_term.specs.declared.term.Term.{Term}
use Rattle.rx_term.specs.declared.term.Term.TheVariants.{Return, Fail}
use Rattle.rx_term.proofs.Equations.{ground-Return, ground-Fail, ground-Call, ground-Frame}
use Rattle.rx_plain.proofs.Kept.{first_one, first_or_other, kept, other_one}
use Rattle.rx_term.proofs.Locality.{hold_too, same_ground_below}
use Rattle.rx_term.proofs.Matching.{left_arguments}
use Rattle.rx_term.proofs.RuleLaws.{left_redex, redex_shape, shape_itself, rule_made, results_rest}
use Rattle.rx_term.proofs.ShapeLaws.{ground_alike, same_count, same_parts_shape}

-- ---- two rules of one shape

-- one rule, or two of which the one has a row and the other its negation
pub data Opposed (r q : Rule) : Type 0 where
  Equal : r ≡ q → Opposed r q
  First : (row : Row) → r.rows ≡ row ∷ [] → q.rows ≡ negation row ∷ [] → Opposed r q
  Second : (row : Row) → q.rows ≡ row ∷ [] → r.rows ≡ negation row ∷ [] → Opposed r q

none_there : (x : Rule) → Contains {X = Rule} [] x → ⊥
none_there x (k, below, is) = omega arith

only_one : (r x : Rule) → Contains (r ∷ []) x → r ≡ x
only_one r x h =
    elim (first_or_other r [] x h) [ inl same ↦ same | inr none ↦ absurd (none_there x none) ]

pub data OneOf (r q x : Rule) : Type 0 where
  IsFirst : r ≡ x → OneOf r q x
  IsSecond : q ≡ x → OneOf r q x

one_of : (r q x : Rule) → Contains (r ∷ q ∷ []) x → OneOf r q x
one_of r q x h =
    elim (first_or_other r (q ∷ []) x h) [
      | inl same ↦ IsFirst same
      | inr other ↦ IsSecond (only_one q x other)
    ]

opposed_two : (r q x y : Rule) (row : Row) → r.rows ≡ row ∷ [] → q.rows ≡ negation row ∷ [] →
    OneOf r q x → OneOf r q y → Opposed x y
opposed_two r q x y row e f (IsFirst s) (IsFirst t) = Equal (sym s ∙ t)
opposed_two r q x y row e f (IsFirst s) (IsSecond t) =
    First row (ap (λ (z : Rule). z.rows) (sym s) ∙ e) (ap (λ (z : Rule). z.rows) (sym t) ∙ f)
opposed_two r q x y row e f (IsSecond s) (IsFirst t) =
    Second row (ap (λ (z : Rule). z.rows) (sym t) ∙ e) (ap (λ (z : Rule). z.rows) (sym s) ∙ f)
opposed_two r q x y row e f (IsSecond s) (IsSecond t) = Equal (sym s ∙ t)

opposed : (rules : List Rule) → IsPair rules → (x y : Rule) → Contains rules x → Contains rules y →
    Opposed x y
opposed _ (One r e) x y h k = Equal (sym (only_one r x h) ∙ only_one r y k)
opposed _ (Two r q row e f w) x y h k =
    opposed_two r q x y row e f (one_of r q x h) (one_of r q y k)

-- ---- assignments that give a left side one ground term

same_variables : (a b : ℕ → ℤ) (k n : ℕ) → values a (variables_from k n) ≡
    values b (variables_from k n) → (v : ℕ) → k ≤ v → v < k + n → a v ≡ b v
same_variables a b k zero e v low high = absurd (omega arith)
same_variables a b k (suc n) e v low high =
    at (eq-or-lt_of_le low) (same_variables a b (k + 1) n rest v) where
      first : value a (variable k) ≡ value b (variable k)
      first = cc

      rest : values a (variables_from (k + 1) n) ≡ values b (variables_from (k + 1) n)
      rest = cc

      at : (k ≡ v) ⊎ (k < v) → (k + 1 ≤ v → v < (k + 1) + n → a v ≡ b v) → a v ≡ b v
      at (inl same) further =
          ap a (sym same) ∙ sym (value-variable a k) ∙ first ∙ value-variable b k ∙ ap b same
      at (inr more) further = further (omega arith) (omega arith)

one_row : (a : ℕ → ℤ) (rows : List Row) (row : Row) → rows ≡ row ∷ [] → AllHold a rows →
    RowHolds a row
one_row a rows row e h = All-head (RowHolds a) row [] (subst (AllHold a) e h)

row_alone : (a : ℕ → ℤ) (rows : List Row) (row : Row) → rows ≡ row ∷ [] → RowHolds a row →
    AllHold a rows
row_alone a rows row e h =
    subst (AllHold a) (sym e) (All-cons (RowHolds a) row [] h (All-nil (RowHolds a)))

module _ (parts : RuleParts) (made : IsWellMade parts) (paired : IsPaired parts) where
  abbrev rules : List Rule
  rules = parts.rules

  abbrev Steps : Ground → Ground → Type 0
  Steps = Instance parts.rules

  -- ---- at most one step

  agree : (a b : ℕ → ℤ) (r q : Rule) → Contains rules r → Contains rules q → ground_at a r.left ≡
      ground_at b q.left → (v : ℕ) → v < width r.left → a v ≡ b v
  agree a b r q in_r in_q e v below =
      let alike = ground_alike a b r.left q.left e in
      let count : width r.left ≡ width q.left = same_count r.left q.left alike.parts in
      let first = left_arguments r.left (rule_made parts made r in_r).form in
      let second = left_arguments q.left (rule_made parts made q in_q).form ∙
      ap (variables_from 0) (sym count) in
      same_variables a b 0 (width r.left) (ap (values a) (sym first) ∙ alike.equal ∙
      ap (values b) second) v (omega arith) (omega arith)

  opposed_once : (s t u : Ground) (i : Steps s t) (j : Steps s u) → Opposed i.rule j.rule → t ≡ u
  opposed_once s t u i j (Equal same) =
      let is = rule_made parts made i.rule i.among in
      i.right
      ∙ same_ground_below i.at j.at (width i.rule.left)
      (agree i.at j.at i.rule j.rule i.among j.among (sym i.left ∙ j.left)) i.rule.right
      is.right_variables
      ∙ ap (λ (r : Rule). ground_at j.at r.right) same ∙ sym j.right
  opposed_once s t u i j (First row e f) =
      let is = rule_made parts made i.rule i.among in
      let moved = hold_too i.at j.at (width i.rule.left)
      (agree i.at j.at i.rule j.rule i.among j.among (sym i.left ∙ j.left)) i.rule.rows
      is.row_variables i.holds in
      absurd (holds_not_both j.at row (one_row j.at i.rule.rows row e moved)
      (one_row j.at j.rule.rows (negation row) f j.holds))
  opposed_once s t u i j (Second row e f) =
      let is = rule_made parts made i.rule i.among in
      let moved = hold_too i.at j.at (width i.rule.left)
      (agree i.at j.at i.rule j.rule i.among j.among (sym i.left ∙ j.left)) i.rule.rows
      is.row_variables i.holds in
      absurd (holds_not_both j.at row (one_row j.at j.rule.rows row e j.holds)
      (one_row j.at i.rule.rows (negation row) f moved))

  once : (s t u : Ground) → Steps s t → Steps s u → t ≡ u
  once s t u i j =
      let is = rule_made parts made i.rule i.among in
      let alike = ground_alike i.at j.at i.rule.left j.rule.left (sym i.left ∙ j.left) in
      let shape = shape_of i.rule.left in
      let test = λ (r : Rule). same_shape (shape_of r.left) shape in
      let pair = paired shape (redex_shape parts i.rule.left (left_redex i.rule.left is.form)
      is.left_fits) in
      let first = kept test rules i.rule i.among (shape_itself shape) in
      let second = kept test rules j.rule j.among
      (ap (λ z. same_shape z shape) (sym (same_parts_shape i.rule.left j.rule.left alike.parts))
      ∙ shape_itself shape) in
      opposed_once s t u i j (opposed (rules_of_shape shape rules) pair i.rule j.rule first second)

  over_result : (left : Term) → IsRedex left → (a : ℕ → ℤ) (f : ℕ) (xs : List ℤ) (s : Ground) →
      stack.Frame f xs s ≡ ground_at a left → IsResult s
  over_result _ (CallRedex g ps) a f xs s e =
      let wrong : stack.Frame f xs s ≡ stack.Call g.0 (values a ps) = e ∙ ground-Call a g ps in cc
  over_result _ (ReturnRedex g ps p) a f xs s e =
      let whole : stack.Frame f xs s ≡ stack.Frame g.0 (values a ps) (ground_at a (Return p)) = e ∙
      ground-Frame a g ps (Return p) in
      let inner : s ≡ ground_at a (Return p) = cc in
      subst IsResult (sym (inner ∙ ground-Return a p)) tt
  over_result _ (FailRedex g ps c) a f xs s e =
      let whole : stack.Frame f xs s ≡ stack.Frame g.0 (values a ps) (ground_at a (Fail c)) = e ∙
      ground-Frame a g ps (Fail c) in
      let inner : s ≡ ground_at a (Fail c) = cc in
      subst IsResult (sym (inner ∙ ground-Fail a c)) tt

  frames_rest : (f : ℕ) (xs : List ℤ) (s t u : Ground) → Steps (stack.Frame f xs s) t →
      Step Steps s u → ⊥
  frames_rest f xs s t u i step =
      results_rest parts made s u (over_result i.rule.left
      (left_redex i.rule.left (rule_made parts made i.rule i.among).form) i.at f xs s i.left)
      step

  -- no term has two different steps
  pub single_valued : IsSingleValued Steps
  single_valued = single_valued_under_frames Steps once frames_rest

-- ---- at least one

-- one of two rules, of which the one has a row and the other its negation, has rows that hold
pub pair_holds : (a : ℕ → ℤ) (rs : List Rule) → IsPair rs → (r : Rule) × Contains rs r ×
    AllHold a r.rows
pair_holds a _ (One r e) = (r, first_one r [], subst (AllHold a) (sym e) (All-nil (RowHolds a)))
pair_holds a _ (Two r q row e f w) = elim (holds_or_not a row) [
  | inl holds ↦ (r, first_one r (q ∷ []), row_alone a r.rows row e holds)
  | inr fails ↦ (
    q,
    other_one r (q ∷ []) q (first_one q []),
    row_alone a q.rows (negation row) f fails,
  )
]

-- a paired set is covered
pub paired_covers : (parts : RuleParts) → IsPaired parts → IsCovered parts
paired_covers parts paired shape is a domain =
    let (rule, among, holds) = pair_holds a (rules_of_shape shape parts.rules) (paired shape is) in
    record { rule = rule; among = among; holds = holds }
