-- The steps of a comparison, and its answers.
use Rattle.std.proofs.Common.{◌≡◌, ℕ, suc, ◌≤◌, ◌<◌, ◌+◌, ◌-◌, ◌*◌, ◌^◌, ℤ, false, if◌then◌else◌, Result, Ok, Err, List, [], ◌++◌, length, take, drop, get_or, sym, subst, ap, ◌∙◌, add-one, arith}
use Rattle.std.specs.Result.{IsErrAnd}
use Rattle.std.proofs.Math.Seq.{drop-cons, drop-length, take-length}
use Rattle.std.proofs.lemmas.List.{append-nil, length-drop}
use Rattle.c_meaning.specs.declared.outcomes.Outcome.{Outcome}
use Rattle.c_refute.specs.declared.findings.Finding.{Finding}
use Rattle.c_refute.specs.declared.findings.Finding.TheVariants as finding
use Rattle.c_refute.specs.declared.findings.Compared.{Compared}
use Rattle.c_refute.specs.declared.findings.RefuteEnd.{RefuteEnd}
use Rattle.c_refute.specs.declared.findings.RefuteEnd.TheVariants as refute_end
use Rattle.c_refute.specs.Points.{points, is_alike, is_undecided, is_different, IsFirstDifference}
use Rattle.c_refute.specs.Walk.{stepped}
use Rattle.c_refute.proofs.PointLists.{Leads, leads_here, leads_on, points_length}
use Rattle.c_refute.proofs.Walked.{Walked, walked_on, walked_different}

-- what a slice of a whole list, once it is written back, leaves of the list
pub written_back : (new items : List ℤ) (count : ℕ) → length new ≡ length items → count ≡
    length items
    → take count (new ++ drop (length new) items) ≡ new
written_back new items count as_long whole =
    let rest : drop (length new) items ≡ [] = ap (λ n. drop n items) as_long ∙ drop-length items in
    let all : new ++ drop (length new) items ≡ new = ap (λ (l : List ℤ). new ++ l) rest ∙
    append-nil new in
    let much : count ≡ length new = whole ∙ sym as_long in
    ap (λ (l : List ℤ). take count l) all ∙ (ap (λ n. take n new) much ∙ take-length new)

-- at the point i of all, to which the walk has come
module _ (side : ℕ) (found : List ℤ → Finding) (all : List (List ℤ)) (i alike undecided : ℕ)
    (p : List ℤ) (within : i < length all)
    (walked : Walked found all i alike undecided) (leads : Leads side p (drop i all)) where
  here : get_or all i [] ≡ p
  here =
      leads_here side p (get_or all i []) (drop i all) (drop (suc i) all) leads
      (drop-cons all i [] within)

  -- it is counted
  pub counted_point : (f : Finding) → f ≡ found p → is_different f ≡ false → (m n : ℕ) → m ≡ alike +
      (if is_alike f then 1 else 0)
      → n ≡ undecided + (if is_undecided f then 1 else 0) → Walked found all (i + 1) m n
  counted_point f is same m n more_alike more_undecided =
      let same' : is_different (found p) ≡ false =
      subst (λ (g : Finding). is_different g ≡ false) is same in
      let a : m ≡ alike + (if is_alike (found p) then 1 else 0) =
      subst (λ (g : Finding). m ≡ alike + (if is_alike g then 1 else 0)) is more_alike in
      let u : n ≡ undecided + (if is_undecided (found p) then 1 else 0) =
      subst (λ (g : Finding). n ≡ undecided + (if is_undecided g then 1 else 0)) is more_undecided
      in
      let next = walked_on found all i alike undecided p within here same' walked in
      let P : ℕ → Type 0 = λ k. Walked found all (i + 1) k n in
      let Q : ℕ → Type 0 = λ k. Walked found all (i + 1)
      (alike + (if is_alike (found p) then 1 else 0)) k in
      subst P (sym a) (subst Q (sym u) next)

  -- the walk goes on after it
  pub next_point : i + 1 < length all → Leads side (stepped side p) (drop (i + 1) all)
  next_point further =
      let P : ℕ → Type 0 = λ n. Leads side (stepped side p) (drop n all) in
      let Q : List (List ℤ) → Type 0 = λ l. 0 < length l in
      let rest : length (drop (suc i) all) ≡ length all - suc i = length-drop (suc i) all in
      subst P (sym (add-one i)) (leads_on side p (get_or all i []) (drop i all) (drop (suc i) all)
      leads (drop-cons all i [] within) (omega (arith, rest)))

  -- it is the first at which something different is found
  pub different_point : (f : Finding) (first second : Outcome) → f ≡ found p → f ≡
      finding.Different first second → IsFirstDifference found all p first second
  different_point f first second is different =
      walked_different found all i alike undecided p first second within here (sym is ∙ different)
      walked

-- the number of points, where it is limited
pub few_points : (side arity params most : ℕ) → params ≡ arity → (2 * side + 1) ^ params ≤ most →
    length (points side arity) ≤ most
few_points side arity params most same few =
    let P : ℕ → Type 0 = λ n. length (points side n) ≤ most in
    subst P same (omega (arith, points_length side params, few))

pub many_points : (side arity params most : ℕ) → params ≡ arity →
    ((2 * side + 1) ^ params ≤ most → ⊥) → most < length (points side arity)
many_points side arity params most same many =
    let P : ℕ → Type 0 = λ n. most < length (points side n) in
    subst P same (omega (arith, points_length side params, many))

pub number_is : (side arity params number : ℕ) → params ≡ arity → number ≡ (2 * side + 1) ^ params →
    number ≡ length (points side arity)
number_is side arity params number same is =
    let P : ℕ → Type 0 = λ n. number ≡ length (points side n) in
    subst P same (is ∙ sym (points_length side params))

-- an answer other than too many points
abbrev pub IsOther : Result Compared RefuteEnd → Type 0
IsOther (Ok compared) = Unit {0}
IsOther (Err (refute_end.TooManyPoints n)) = ⊥
IsOther (Err refute_end.NoMemory) = Unit {0}

pub no_memory : (r : Result Compared RefuteEnd) → IsErrAnd r (λ e. e ≡ refute_end.NoMemory) →
    IsOther r
no_memory (Ok compared) given = tt
no_memory (Err e) given =
    let P : RefuteEnd → Type 0 = λ f. IsOther (Err f) in subst P (sym given) tt

-- it isn't this one, and there are no more points than that
pub not_too_many : (r : Result Compared RefuteEnd) → IsOther r → (params count most : ℕ) → count ≤
    most → (n : ℕ)
    → (r ≡ Err (refute_end.TooManyPoints n) → (n ≡ params) × (most < count)) ×
    ((n ≡ params) × (most < count) → r ≡ Err (refute_end.TooManyPoints n))
not_too_many r other params count most few n = (
  (λ is. let P : Result Compared RefuteEnd → Type 0 = λ s. IsOther s in absurd (subst P is other)),
  (λ given. absurd (omega (arith, given.1, few))),
)

-- that there are too many points, with this number of parameters
abbrev TooMany : ℕ → Result Compared RefuteEnd
TooMany params = Err (refute_end.TooManyPoints params)

-- and with more points it is
pub too_many : (params found count most : ℕ) → found ≡ params → most < count → (n : ℕ)
    → (TooMany found ≡ TooMany n → (n ≡ params) × (most < count)) ×
    ((n ≡ params) × (most < count) → TooMany found ≡ TooMany n)
too_many params found count most same many n = (
  (λ is. let named : found ≡ n = cc in (sym named ∙ same, many)),
  (λ given. ap TooMany (same ∙ sym given.0)),
)
