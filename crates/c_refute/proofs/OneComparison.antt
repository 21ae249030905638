-- A comparison has one answer.
use Rattle.std.proofs.Common.{◌≡◌, ◌∙◌, ℕ, ℤ, true, false, true≢false, List, [], ◌∷◌, ◌++◌, ap, sym, subst}
use Rattle.std.specs.List.{All}
use Rattle.std.proofs.lemmas.List.Elements.{All-head, All-tail}
use Rattle.c_meaning.specs.declared.outcomes.Outcome.{Outcome}
use Rattle.c_refute.specs.declared.findings.Finding.{Finding}
use Rattle.c_refute.specs.declared.findings.Finding.TheVariants as finding
use Rattle.c_refute.specs.declared.findings.Compared.{Compared}
use Rattle.c_refute.specs.declared.findings.Compared.TheVariants as compared
use Rattle.c_refute.specs.Points.{is_different, IsAlike, IsComparison, IsFirstDifference}

module _ (found : List ℤ → Finding) where
  -- nothing different is found at a point
  abbrev IsNone : List ℤ → Type 0
  IsNone p = is_different (found p) ≡ false

  -- not so where it is
  never : (p : List ℤ) → is_different (found p) ≡ true → IsNone p → ⊥
  never p is none = true≢false (sym is ∙ none)

  -- of two ways to part a list at a point where something different is found, with nothing
  -- different before it, the points are one
  one_point : (before after : List (List ℤ)) (p : List ℤ) (earlier later : List (List ℤ))
      (q : List ℤ) → before ++ p ∷ after ≡ earlier ++ q ∷ later
      → is_different (found p) ≡ true → is_different (found q) ≡ true → All IsNone before →
      All IsNone earlier → p ≡ q
  one_point [] after p [] later q same p_is q_is none none_too = cc
  one_point [] after p (b ∷ bs) later q same p_is q_is none none_too =
      let first : b ≡ p = cc in
      absurd (never p p_is (subst IsNone first (All-head IsNone b bs none_too)))
  one_point (a ∷ rest) after p [] later q same p_is q_is none none_too =
      let first : a ≡ q = cc in
      absurd (never q q_is (subst IsNone first (All-head IsNone a rest none)))
  one_point (a ∷ rest) after p (b ∷ bs) later q same p_is q_is none none_too =
      let tails : rest ++ p ∷ after ≡ bs ++ q ∷ later = cc in
      one_point rest after p bs later q tails p_is q_is (All-tail IsNone a rest none)
      (All-tail IsNone b bs none_too)

  -- nothing different is found at a point of a list that has none
  none_at : (before after : List (List ℤ)) (p : List ℤ) → All IsNone (before ++ p ∷ after) →
      IsNone p
  none_at [] after p none = All-head IsNone p after none
  none_at (b ∷ bs) after p none = none_at bs after p (All-tail IsNone b (bs ++ p ∷ after) none)

  module _ (all : List (List ℤ)) where
    is_found : (p : List ℤ) (first second : Outcome) → IsFirstDifference found all p first second →
        is_different (found p) ≡ true
    is_found p first second is = ap is_different is.different

    -- there is one first difference
    one_difference : (p q : List ℤ) (first second one other : Outcome) →
        IsFirstDifference found all p first second → IsFirstDifference found all q one other
        → compared.Different p first second ≡ compared.Different q one other
    one_difference p q first second one other x y =
        let same : p ≡ q =
        one_point x.before x.after p y.before y.after q (sym x.is_point ∙ y.is_point)
        (is_found p first second x) (is_found q one other y) x.none_before y.none_before in
        let outcomes : finding.Different first second ≡ finding.Different one other =
        sym x.different ∙ (ap found same ∙ y.different) in
        let firsts : first ≡ one = cc in
        let seconds : second ≡ other = cc in
        cc

    -- and none where nothing different is found
    not_both : (p : List ℤ) (first second : Outcome) (alike undecided : ℕ) →
        IsFirstDifference found all p first second → IsAlike found all alike undecided → ⊥
    not_both p first second alike undecided x y =
        never p (is_found p first second x) (none_at x.before x.after p
        (subst (All IsNone) x.is_point y.none))

    -- the numbers of points are one
    one_alike : (m n i j : ℕ) → IsAlike found all m n → IsAlike found all i j → compared.Alike m n ≡
        compared.Alike i j
    one_alike m n i j x y =
        let points : m ≡ i = x.alike_are ∙ sym y.alike_are in
        let others : n ≡ j = x.undecided_are ∙ sym y.undecided_are in
        cc

-- two answers of a comparison over the same points are one
pub one_comparison : (found : List ℤ → Finding) (all : List (List ℤ)) (x y : Compared) →
    IsComparison found all x → IsComparison found all y → x ≡ y
one_comparison found all (compared.Different p first second) (compared.Different q one other) is too
    =
    one_difference found all p q first second one other is too
one_comparison found all (compared.Different p first second) (compared.Alike m n) is too =
    absurd (not_both found all p first second m n is too)
one_comparison found all (compared.Alike m n) (compared.Different q one other) is too =
    absurd (not_both found all q one other m n too is)
one_comparison found all (compared.Alike m n) (compared.Alike i j) is too =
    one_alike found all m n i j is too
