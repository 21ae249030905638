-- What is true of each candidate, and of each polynomial that serves, is true of the polynomials of
-- a choice.
use Rattle.std.proofs.Common.{◌≡◌, ◌∙◌, ap, sym, subst, refl, inl, inr, ℕ, zero, suc, ◌⊎◌, Bool, Option, Some, None, List, [], ◌∷◌, length, map}
use Rattle.std.proofs.Math.ListN.{length-set}
use Rattle.std.proofs.lemmas.List.Elements.{All-append, All-cons, All-head, All-map, All-nil, All-tail}
use Rattle.std.specs.List.{All, AllZip, flat_map}
use Rattle.rx_poly.specs.declared.body.Body.{Body}
use Rattle.rx_solve.specs.Attempts.{Tried, first_applying, made_or}
use Rattle.rx_term.specs.declared.rule_set.SymInfo.{SymInfo}
use Rattle.rx_pairs.specs.declared.pair.Pair.{Pair}
use Rattle.rx_anchors.specs.Choices.{products}
use Rattle.rx_anchors.specs.Members.{arity_of}
use Rattle.rx_anchors.specs.Values.{polynomial_of, with_choice, with_polynomial, without_polynomials}
use Rattle.rx_rank.specs.Choices.{filled, first_serving, is_raised, pairs_from}
use Rattle.rx_rank.specs.Tries.{made_then}

-- ---- polynomials by symbol

-- one of those after a write is the one that was written, or was there
written : (values : List (Option Body)) (f g : ℕ) (p q : Body) →
    polynomial_of (with_polynomial values f p) g ≡ Some q
    → ((f ≡ g) × (p ≡ q)) ⊎ (polynomial_of values g ≡ Some q)
written [] f g p q e = inr e
written (v ∷ vs) zero zero p q e = inl (refl, cc)
written (v ∷ vs) zero (suc g) p q e = inr e
written (v ∷ vs) (suc f) zero p q e = inr e
written (v ∷ vs) (suc f) (suc g) p q e =
    elim (written vs f g p q e) [ inl (same, is) ↦ inl (ap suc same, is) | inr there ↦ inr there ]

nothing_there : (n f : ℕ) (p : Body) → polynomial_of (without_polynomials n) f ≡ Some p → ⊥
nothing_there zero f p e = cc
nothing_there (suc n) zero p e = cc
nothing_there (suc n) (suc f) p e = nothing_there n f p e

pub length-without : (n : ℕ) → length (without_polynomials n) ≡ n
length-without zero = refl
length-without (suc n) = ap suc (length-without n)

pub length-choice : (values : List (Option Body)) (fs : List ℕ) (ps : List Body) →
    length (with_choice values fs ps) ≡ length values
length-choice values [] ps = refl
length-choice values (f ∷ fs) [] = refl
length-choice values (f ∷ fs) (p ∷ ps) =
    length-choice (with_polynomial values f p) fs ps ∙ length-set values f (Some p)

-- ---- tries

made_of : {A : Type 0} (made : Option A) (noted : Bool) (later : Tried A) (x : A) →
    (made_or made noted later).made ≡ Some x → (made ≡ Some x) ⊎ (later.made ≡ Some x)
made_of (Some y) noted later x e = inl e
made_of None noted later x e = inr e

-- what is made first is made by one of them
pub made_by_one : {A B : Type 0} (P : A → Type 0) (try_it : B → Tried A) (xs : List B) (x : A) →
    All (λ b. (y : A) → (try_it b).made ≡ Some y → P y) xs
    → (first_applying (map try_it xs)).made ≡ Some x → P x
made_by_one {A} {B} P try_it [] x all e = cc
made_by_one {A} {B} P try_it (b ∷ bs) x all e =
    elim (made_of (try_it b).made (try_it b).noted (first_applying (map try_it bs)) x e) [
      | inl here ↦ All-head (λ b. (y : A) → (try_it b).made ≡ Some y → P y) b bs all x here
      | inr later ↦ made_by_one P try_it bs x
          (All-tail (λ b. (y : A) → (try_it b).made ≡ Some y → P y) b bs all) later
    ]

-- what is made in two steps is made of something that is made
pub made_of_both : {A B : Type 0} (made : Option A) (noted : Bool) (next : A → Tried B) (y : B) →
    (made_then made noted next).made ≡ Some y
    → (x : A) × (made ≡ Some x) × ((next x).made ≡ Some y)
made_of_both None noted next y e = cc
made_of_both (Some x) noted next y e = (x, refl, e)

-- ---- own polynomials

module _ (R : ℕ → Body → Type 0) where
  -- each polynomial is right for its symbol
  abbrev pub AreOwn : List (Option Body) → Type 0
  AreOwn values = (f : ℕ) (p : Body) → polynomial_of values f ≡ Some p → R f p

  pub none_own : (n : ℕ) → AreOwn (without_polynomials n)
  none_own n f p e = absurd (nothing_there n f p e)

  pub one_more_own : (values : List (Option Body)) (f : ℕ) (p : Body) → AreOwn values → R f p →
      AreOwn (with_polynomial values f p)
  one_more_own values f p own r g q e = elim (written values f g p q e) [
    | inl (same, is) ↦ subst (λ h. R h q) same (subst (R f) is r)
    | inr there ↦ own g q there
  ]

  pub choice_own : (values : List (Option Body)) (fs : List ℕ) (ps : List Body) → AreOwn values →
      AllZip R fs ps → AreOwn (with_choice values fs ps)
  choice_own values [] ps own rs = own
  choice_own values (f ∷ fs) [] own rs = own
  choice_own values (f ∷ fs) (p ∷ ps) own rs =
      choice_own (with_polynomial values f p) fs ps (one_more_own values f p own rs.0) rs.1

  pub All-flat_map : {A B : Type 0} (P : B → Type 0) (Q : A → Type 0) (h : A → List B) (xs : List A) →
      All Q xs → ((x : A) → Q x → All P (h x)) → All P (flat_map h xs)
  All-flat_map P Q h [] all each = All-nil P
  All-flat_map P Q h (x ∷ xs) all each =
      All-append P (h x) (flat_map h xs) (each x (All-head Q x xs all))
      (All-flat_map P Q h xs (All-tail Q x xs all) each)

  -- each choice has a right candidate for each anchor
  pub products_own : (lists : ℕ → List Body) (fs : List ℕ) → All (λ f. All (R f) (lists f)) fs →
      All (AllZip R fs) (products (map lists fs))
  products_own lists [] own = All-cons (AllZip R []) [] [] tt (All-nil (AllZip R []))
  products_own lists (f ∷ fs) own =
      let rest = products_own lists fs (All-tail (λ g. All (R g) (lists g)) f fs own) in
      All-flat_map (AllZip R (f ∷ fs)) (R f) (λ x. map (λ ys. x ∷ ys) (products (map lists fs)))
      (lists f) (All-head (λ g. All (R g) (lists g)) f fs own)
      (λ x r. All-map (AllZip R (f ∷ fs)) (λ (ys : List Body). x ∷ ys) (products (map lists fs))
      (with_first x r f fs (products (map lists fs)) rest))
    where
      with_first : (x : Body) → R f x → (f' : ℕ) (fs : List ℕ) (choices : List (List Body)) →
          All (AllZip R fs) choices → All (λ ys. AllZip R (f ∷ fs) (x ∷ ys)) choices
      with_first x r f' fs [] all = All-nil (λ ys. AllZip R (f ∷ fs) (x ∷ ys))
      with_first x r f' fs (ys ∷ choices) all =
          All-cons (λ ys. AllZip R (f ∷ fs) (x ∷ ys)) ys choices
          (r, All-head (AllZip R fs) ys choices all)
          (with_first x r f' fs choices (All-tail (AllZip R fs) ys choices all))

  -- those that are filled in are right where each that serves is
  pub filled_own : (infos : List SymInfo) (pairs : List Pair) (raised : Option ℕ) (order : List ℕ)
      (values done : List (Option Body)) → AreOwn values
      → All (λ f. (up : Bool) (vs : List (Option Body)) (p : Body) → AreOwn vs →
      (first_serving up (arity_of infos f) vs (pairs_from f pairs)).made ≡ Some p → R f p) order
      → (filled infos pairs raised values order).made ≡ Some done → AreOwn done
  filled_own infos pairs raised [] values done own serves e =
      let same : values ≡ done = cc in subst AreOwn same own
  filled_own infos pairs raised (f ∷ fs) values done own serves e =
      let Serves : ℕ → Type 0 = λ f. (up : Bool) (vs : List (Option Body)) (p : Body) →
      AreOwn vs →
      (first_serving up (arity_of infos f) vs (pairs_from f pairs)).made ≡ Some p → R f p in
      let up = is_raised raised f in
      let first = first_serving up (arity_of infos f) values (pairs_from f pairs) in
      let parts = made_of_both first.made first.noted
      (λ p. filled infos pairs raised (with_polynomial values f p) fs) done e in
      filled_own infos pairs raised fs (with_polynomial values f parts.0) done
      (one_more_own values f parts.0 own (All-head Serves f fs serves up values parts.0 own
      parts.1))
      (All-tail Serves f fs serves) parts.2

pub length-filled : (infos : List SymInfo) (pairs : List Pair) (raised : Option ℕ) (order : List ℕ)
    (values done : List (Option Body)) → (filled infos pairs raised values order).made ≡ Some done →
    length done ≡ length values
length-filled infos pairs raised [] values done e =
    let same : values ≡ done = cc in sym (ap length same)
length-filled infos pairs raised (f ∷ fs) values done e =
    let first = first_serving (is_raised raised f) (arity_of infos f) values (pairs_from f pairs) in
    let parts = made_of_both first.made first.noted
    (λ p. filled infos pairs raised (with_polynomial values f p) fs) done e in
    length-filled infos pairs raised fs (with_polynomial values f parts.0) done parts.2 ∙
    length-set values f (Some parts.0)
