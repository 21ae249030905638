-- What a comparison knows after some of the points.
use Rattle.std.proofs.Common.{◌≡◌, ℕ, zero, suc, ◌≤◌, ◌<◌, ◌+◌, ℤ, Bool, true, false, if◌then◌else◌, List, [], ◌∷◌, ◌++◌, length, take, drop, get_or, refl, sym, subst, ap, ◌∙◌, add-one, arith}
use Rattle.std.specs.List.{All, count_by}
use Rattle.std.proofs.Math.Seq.{take-suc, drop-cons, take-length}
use Rattle.std.proofs.lemmas.List.{take-append-drop}
use Rattle.std.proofs.lemmas.List.Elements.{All-append}
use Rattle.std.proofs.lemmas.List.Sums.{count_by_more_yes, count_by_more_no}
use Rattle.c_meaning.specs.declared.outcomes.Outcome.{Outcome}
use Rattle.c_refute.specs.declared.findings.Finding.{Finding}
use Rattle.c_refute.specs.declared.findings.Finding.TheVariants as finding
use Rattle.c_refute.specs.Points.{is_alike, is_undecided, is_different, IsFirstDifference, IsAlike}

-- at the first i points nothing different was found, and these are the numbers of those found alike
-- and undecided
pub record Walked (found : List ℤ → Finding) (all : List (List ℤ)) (i alike undecided : ℕ) : Type 0
  where
    pub none : All (λ p. is_different (found p) ≡ false) (take i all)
    pub alike_are : alike ≡ count_by (λ p. is_alike (found p)) (take i all)
    pub undecided_are : undecided ≡ count_by (λ p. is_undecided (found p)) (take i all)
    pub few : alike + undecided ≤ i

-- a fact of each element of a list of one
all_one : (P : List ℤ → Type 0) (p : List ℤ) → P p → All P (p ∷ [])
all_one P p holds zero d below = holds
all_one P p holds (suc k) d below = absurd (omega arith)

-- what isn't `Different`
pub not_different : (f : Finding) → ((first second : Outcome) → f ≡ finding.Different first second →
    ⊥) → is_different f ≡ false
not_different finding.Excluded other = refl
not_different finding.Undecided other = refl
not_different finding.Alike other = refl
not_different (finding.Different first second) other = absurd (other first second refl)

pub walked_none : (found : List ℤ → Finding) (all : List (List ℤ)) → Walked found all 0 0 0
walked_none found all =
    record {
      none = λ k d below. absurd (omega arith);
      alike_are = refl;
      undecided_are = refl;
      few =
          omega arith;
    }

-- one more point is counted
counts_on : (p : List ℤ → Bool) (all : List (List ℤ)) (i n : ℕ) → i < length all → n ≡
    count_by p (take i all) → (b : Bool) → p (get_or all i []) ≡ b
    → n + (if b then 1 else 0) ≡ count_by p (take (i + 1) all)
counts_on p all i n within is true passes =
    omega (arith, count_by_more_yes p all i [] within passes)
counts_on p all i n within is false fails = omega (arith, count_by_more_no p all i [] within fails)

-- at most one of the two counts rises
one_rises : (f : Finding) → (if is_alike f then 1 else 0) + (if is_undecided f then 1 else 0) ≤ 1
one_rises finding.Excluded = omega arith
one_rises finding.Undecided = omega arith
one_rises finding.Alike = omega arith
one_rises (finding.Different first second) = omega arith

pub walked_on : (found : List ℤ → Finding) (all : List (List ℤ)) (i alike undecided : ℕ)
    (p : List ℤ) → i < length all → get_or all i [] ≡ p
    → is_different (found p) ≡ false → Walked found all i alike undecided
    → Walked found all (i + 1) (alike + (if is_alike (found p) then 1 else 0))
    (undecided + (if is_undecided (found p) then 1 else 0))
walked_on found all i alike undecided p within here same walked =
    let split : take (i + 1) all ≡ take i all ++ p ∷ [] = ap (λ n. take n all) (add-one i) ∙
    (take-suc all i [] within ∙ ap (λ (q : List ℤ). take i all ++ q ∷ []) here) in
    let P : List (List ℤ) → Type 0 = λ l. All (λ p. is_different (found p) ≡ false) l in
    let rises = one_rises (found p) in
    record {
      none =
          subst P (sym split) (All-append (λ p. is_different (found p) ≡ false) (take i all)
          (p ∷ []) walked.none (all_one (λ p. is_different (found p) ≡ false) p same));
      alike_are =
          counts_on (λ p. is_alike (found p)) all i alike within walked.alike_are
          (is_alike (found p)) (ap (λ (q : List ℤ). is_alike (found q)) here);
      undecided_are =
          counts_on (λ p. is_undecided (found p)) all i undecided within walked.undecided_are
          (is_undecided (found p)) (ap (λ (q : List ℤ). is_undecided (found q)) here);
      few = omega (arith, rises, walked.few);
    }

-- the next point is the first at which something different is found
pub walked_different : (found : List ℤ → Finding) (all : List (List ℤ)) (i alike undecided : ℕ)
    (p : List ℤ) (first second : Outcome) → i < length all
    → get_or all i [] ≡ p → found p ≡ finding.Different first second →
    Walked found all i alike undecided → IsFirstDifference found all p first second
walked_different found all i alike undecided p first second within here different walked = record {
  before = take i all;
  after = drop (suc i) all;
  is_point =
      sym (take-append-drop i all) ∙ ap (λ l. take i all ++ l)
      (drop-cons all i [] within ∙ ap (λ (q : List ℤ). q ∷ drop (suc i) all) here);
  different = different;
  none_before = walked.none;
}

-- after all points, it is known that nothing different is found
pub walked_all : (found : List ℤ → Finding) (all : List (List ℤ)) (i alike undecided : ℕ) → i ≡
    length all → Walked found all i alike undecided
    → IsAlike found all alike undecided
walked_all found all i alike undecided end walked =
    let whole : take i all ≡ all = ap (λ n. take n all) end ∙ take-length all in
    let P : List (List ℤ) → Type 0 = λ l. All (λ p. is_different (found p) ≡ false) l in
    record {
      none = subst P whole walked.none;
      alike_are = walked.alike_are ∙ ap (count_by (λ p. is_alike (found p))) whole;
      undecided_are = walked.undecided_are ∙ ap (count_by (λ p. is_undecided (found p))) whole;
    }
