-- The terms of -p - 1, and how they are compared term by term.
use Rattle.std.proofs.Common.{◌≡◌, ◌∙◌, ◌↔◌, IsTrue, ap, subst, refl, sym, ℕ, suc, ◌+◌, ◌<◌, ◌≤◌, Bool, true, false, if◌then◌else◌, List, [], ◌∷◌, length, drop, get_or, drop_of_length-le, add-one, ℤ, pos, negsuc, ◌+ℤ◌, ◌-ℤ◌, ◌*ℤ◌, arith}
use Rattle.std.proofs.Math.Seq.{drop-cons}
use Rattle.std.proofs.lemmas.Int.{ints}
use Rattle.std.proofs.lemmas.Bool.{and_from, and_parts, false_from_ne_true}
use Rattle.std.specs.Cmp.{nat_cmp_is}
use Rattle.std.specs.Ordering.{is_eq, is_lt, nat_cmp, ordering_reverse, ordering_then}
use Rattle.std.specs.declared.cmp.Ordering.TheVariants.{Less, Equal, Greater}
use Rattle.rx_poly.proofs.Emptiness.{empty_is}
use Rattle.rx_plain.specs.Graded.{graded_cmp}
use Rattle.rx_poly.specs.Constants.{number}
use Rattle.rx_poly.specs.Limits.{of_atoms}
use Rattle.rx_poly.specs.Normal.{is_empty, is_poly}
use Rattle.rx_poly.specs.Order.{atom_cmp, mono_cmp}
use Rattle.rx_poly.specs.Terms.{add_terms, is_before, is_sparse_sorted, is_zero, negated, insert_by, cons_nonzero, times_number}
use Rattle.rx_poly.proofs.Levels.{atoms-of_atoms, terms-of_terms}
use Rattle.rx_poly.proofs.OrderLemmas.{equal_is, mono_cmp_is, mono_total}
use Rattle.rx_poly.proofs.PolyLaws.{listed-times_number, poly_terms}
use Rattle.rx_poly.proofs.ReadingLaws.{itself}
use Rattle.rx_poly.proofs.Same.{same_mono}
use Rattle.rx_poly.proofs.TermLaws.{add-left, Listed, listed_parts, lt_is, cons_nonzero-nonzero, zero_is}
use Rattle.rx_poly.specs.declared.body.Atom.{Atom}
use Rattle.rx_poly.specs.declared.body.Mono.{Mono, out-Mono, roll-Mono, roll-out-Mono}
use Rattle.rx_poly.specs.declared.body.Body.{Body, out-Body, roll-Body, roll-out-Body}
use Rattle.rx_row.specs.Negation.{minus_one_more, opposite}
use Rattle.rx_row.specs.Opposites.{number_terms, one_less_negated, turned}

-- the product of nothing
abbrev one : Mono
one = of_atoms []

abbrev is_one : Mono → Bool
is_one m = is_empty (out-Mono m).atoms

-- only one monomial has no atom
one_is : (m : Mono) → is_one m ≡ true → m ≡ one
one_is m e =
    sym (roll-out-Mono m) ∙ (λ i. roll-Mono (record { atoms = empty_is (out-Mono m).atoms e i }))

shorter : (n : ℕ) → nat_cmp 0 (suc n) ≡ Less
shorter n = let less : 0 < suc n = omega arith in sym (nat_cmp_is 0 (suc n) Less less)

-- it comes after each other one
before_one : (m : Mono) → is_one m ≡ false → mono_cmp m one ≡ Less
before_one m e =
    mono_cmp_is m one ∙ ap (λ ys. graded_cmp atom_cmp (out-Mono m).atoms ys) (atoms-of_atoms []) ∙
    by (out-Mono m).atoms e
  where
    by : (xs : List Atom) → is_empty xs ≡ false → graded_cmp atom_cmp xs [] ≡ Less
    by [] f = cc
    by (x ∷ xs) f = ap (λ r. ordering_then r Greater) (shorter (length xs))

-- and nothing comes after it
none_after_one : (ts : List (Mono × ℤ)) → is_before mono_cmp one ts ≡ true → ts ≡ []
none_after_one [] h = refl
none_after_one (t ∷ ts) h =
    let first : is_lt (mono_cmp one t.0) ≡ true =
    (and_parts (is_lt (mono_cmp one t.0)) (is_before mono_cmp one ts) h).0 in
    absurd (by (is_one t.0) refl (lt_is (mono_cmp one t.0) first))
  where
    by : (b : Bool) → is_one t.0 ≡ b → mono_cmp one t.0 ≡ Less → ⊥
    by true e f =
        let same : Less ≡ Equal = sym f ∙ ap (mono_cmp one) (one_is t.0 e) ∙ itself one in cc
    by false e f =
        let same : Less ≡ Greater = sym f ∙ mono_total.antisymm one t.0 ∙
        ap ordering_reverse (before_one t.0 e) in cc

-- ---- the terms of -p - 1

nonzero_negated : (c : ℤ) → is_zero c ≡ false → is_zero (c *ℤ negsuc 0) ≡ false
nonzero_negated c h = false_from_ne_true (is_zero (c *ℤ negsuc 0)) (λ e.
    let none : c *ℤ negsuc 0 ≡ pos 0 = zero_is (c *ℤ negsuc 0) e in
    let zero_too : c ≡ pos 0 = omega (arith, ints) in
    let told : is_zero c ≡ true = ap is_zero zero_too in
    cc)

abbrev last_one : List (Mono × ℤ)
last_one = (one, negsuc 0) ∷ []

first_term : (t : Mono × ℤ) (ts : List (Mono × ℤ)) → is_before mono_cmp t.0 ts ≡ true →
    Listed mono_cmp mono_total same_mono (turned t) (times_number (negsuc 0) ts) →
    add_terms mono_cmp (times_number (negsuc 0) ts) last_one ≡ one_less_negated ts → (b : Bool) →
    is_one t.0 ≡ b
    → add_terms mono_cmp (turned t ∷ times_number (negsuc 0) ts) last_one ≡
    (if is_one t.0 then number_terms (negsuc 0 -ℤ t.1) else turned t ∷ one_less_negated ts)
first_term t ts before listed rest true e =
    let nothing : ts ≡ [] = none_after_one ts
    (subst (λ m. is_before mono_cmp m ts ≡ true) (one_is t.0 e) before) in
    let c = t.1 *ℤ negsuc 0 in
    let equal : mono_cmp t.0 one ≡ Equal = ap (λ m. mono_cmp m one) (one_is t.0 e) ∙ itself one in
    let sum : c +ℤ negsuc 0 ≡ negsuc 0 -ℤ t.1 = omega (arith, ints) in
    ap (λ us. add_terms mono_cmp (turned t ∷ times_number (negsuc 0) us) last_one) nothing
    ∙ ap (λ r. insert_by r t.0 c (one, negsuc 0) [] (cons_nonzero t.0 c [])) equal
    ∙ (λ i. cons_nonzero (one_is t.0 e i) (sum i) [])
    ∙ ap (λ b. if b then number_terms (negsuc 0 -ℤ t.1) else turned t ∷ one_less_negated ts) (sym e)
first_term t ts before listed rest false e =
    let after : is_before mono_cmp t.0 last_one ≡ true =
    and_from (is_lt (mono_cmp t.0 one)) true (ap is_lt (before_one t.0 e)) refl in
    add-left mono_cmp mono_total same_mono (turned t) (times_number (negsuc 0) ts) last_one listed
    after
    ∙ ap (λ us. turned t ∷ us) rest
    ∙ ap (λ b. if b then number_terms (negsuc 0 -ℤ t.1) else turned t ∷ one_less_negated ts) (sym e)

sum_is : (ts : List (Mono × ℤ)) → is_sparse_sorted mono_cmp ts ≡ true →
    add_terms mono_cmp (times_number (negsuc 0) ts) last_one ≡ one_less_negated ts
sum_is [] h = refl
sum_is (t ∷ ts) h =
    let l = listed_parts mono_cmp mono_total same_mono t ts h in
    let c = t.1 *ℤ negsuc 0 in
    let opened : times_number (negsuc 0) (t ∷ ts) ≡ (t.0, c) ∷ times_number (negsuc 0) ts =
    cons_nonzero-nonzero t.0 c (times_number (negsuc 0) ts) (nonzero_negated t.1 l.nonzero) in
    let listed = ap (is_sparse_sorted mono_cmp) (sym opened) ∙
    listed-times_number (negsuc 0) (t ∷ ts) h in
    ap (λ xs. add_terms mono_cmp xs last_one) opened ∙
    first_term t ts l.before (listed_parts mono_cmp mono_total same_mono (t.0, c)
    (times_number (negsuc 0) ts) listed) (sum_is ts l.rest) (is_one t.0) refl

minus_terms : (q : Body) → is_poly q ≡ true → (out-Body (minus_one_more q)).terms ≡
    one_less_negated (out-Body q).terms
minus_terms q h =
    terms-of_terms (add_terms mono_cmp (out-Body (opposite q)).terms
    (negated (out-Body (number (pos 1))).terms))
    ∙ (λ i. add_terms mono_cmp (terms-of_terms (times_number (negsuc 0) (out-Body q).terms) i)
    (negated (terms-of_terms ((one, pos 1) ∷ []) i)))
    ∙ sum_is (out-Body q).terms (poly_terms q h).listed

-- a polynomial is -p - 1 exactly where its terms are these
pub is_minus : (p q : Body) → is_poly q ≡ true →
    ((out-Body p).terms ≡ one_less_negated (out-Body q).terms) ↔ (p ≡ minus_one_more q)
is_minus p q h = (
  λ e. sym (roll-out-Body p) ∙ (λ i. roll-Body (record { terms = (e ∙ sym (minus_terms q h)) i })) ∙
      roll-out-Body (minus_one_more q),
  λ e. ap (λ (b : Body). (out-Body b).terms) e ∙ minus_terms q h,
)

-- ---- compared term by term

-- terms of one monomial
pub negated_coefficient : (x y : Mono × ℤ) {b : Bool} → is_eq (mono_cmp x.0 y.0) ≡ true → b ≡
    is_zero (x.1 +ℤ y.1) → IsTrue b ↔ (x ≡ turned y)
negated_coefficient x y {b} same is = (
  λ e.
      let zero_sum : x.1 +ℤ y.1 ≡ pos 0 = zero_is (x.1 +ℤ y.1) (sym is ∙ e) in
      let opposite_is : x.1 ≡ y.1 *ℤ negsuc 0 = omega (arith, ints) in
      λ i. (same_mono x.0 y.0 (equal_is (mono_cmp x.0 y.0) same) i, opposite_is i),
  λ e.
      let opposite_is : x.1 ≡ y.1 *ℤ negsuc 0 = ap (λ (u : Mono × ℤ). u.1) e in
      let zero_sum : x.1 +ℤ y.1 ≡ pos 0 = omega (arith, ints) in
      is ∙ ap is_zero zero_sum,
)

-- terms of two
pub negated_other : (x y : Mono × ℤ) {b : Bool} → is_eq (mono_cmp x.0 y.0) ≡ false → b ≡ false →
    IsTrue b ↔ (x ≡ turned y)
negated_other x y {b} other fails = (
  λ e. let told : b ≡ true = e in cc,
  λ e.
      let same : is_eq (mono_cmp x.0 y.0) ≡ true =
      ap (λ (u : Mono × ℤ). is_eq (mono_cmp u.0 y.0)) e ∙ ap is_eq (itself y.0) in
      cc,
)

-- what is left of both decides
pub record Comparing (ls rs left right : List (Mono × ℤ)) : Type 0 where
  pub tells : (ls ≡ one_less_negated rs) ↔ (left ≡ one_less_negated right)

same_first : {x y : Mono × ℤ} {xs ys : List (Mono × ℤ)} → x ∷ xs ≡ y ∷ ys → (x ≡ y) × (xs ≡ ys)
same_first {x} {y} {xs} {ys} e = (ap (first_or x) e, ap rest_of e)
  where
    first_or : Mono × ℤ → List (Mono × ℤ) → Mono × ℤ
    first_or z [] = z
    first_or z (t ∷ ts) = t

    rest_of : List (Mono × ℤ) → List (Mono × ℤ)
    rest_of [] = []
    rest_of (t ∷ ts) = ts

module _ {ls left : List (Mono × ℤ)} (right : List (Mono × ℤ)) (i : ℕ) {t : Mono × ℤ}
    (h : i < length right) (is : t ≡ get_or right i t) (c : Comparing ls (drop i right) left right)
  where
    opened : Comparing ls (t ∷ drop (suc i) right) left right
    opened =
        subst (λ rest. Comparing ls rest left right)
        (drop-cons right i t h ∙ ap (λ u. u ∷ drop (suc i) right) (sym is)) c

    -- the constant is the last
    pub at_one : {b : Bool} → is_one t.0 ≡ true →
        (IsTrue b ↔ (ls ≡ number_terms (negsuc 0 -ℤ t.1))) →
        IsTrue b ↔ (left ≡ one_less_negated right)
    at_one e f = (
      λ g. opened.tells.0 (f.0 g ∙ ap (λ b. if b then number_terms (negsuc 0 -ℤ t.1) else turned t ∷
          one_less_negated (drop (suc i) right)) (sym e)),
      λ g. f.1 (opened.tells.1 g ∙ ap (λ b. if b then number_terms (negsuc 0 -ℤ t.1) else turned t ∷
          one_less_negated (drop (suc i) right)) e),
    )

    other : is_one t.0 ≡ false → left ≡ one_less_negated right → ls ≡ turned t ∷
        one_less_negated (drop (suc i) right)
    other e g =
        opened.tells.1 g ∙ ap (λ b. if b then number_terms (negsuc 0 -ℤ t.1) else turned t ∷
        one_less_negated (drop (suc i) right)) e

    -- a term has none beside it
    pub no_term : is_one t.0 ≡ false → ls ≡ [] → left ≡ one_less_negated right → ⊥
    no_term e none g =
        let no : [] ≡ turned t ∷ one_less_negated (drop (suc i) right) = sym none ∙ other e g in cc

    module _ {x : Mono × ℤ} {more : List (Mono × ℤ)} (e : is_one t.0 ≡ false)
        (parts : ls ≡ x ∷ more)
      where
        -- another term is beside it
        pub no_match : (x ≡ turned t → ⊥) → left ≡ one_less_negated right → ⊥
        no_match n g = n (same_first (sym parts ∙ other e g)).0

        -- the right one leaves it to the rest
        pub after_match : x ≡ turned t → Comparing more (drop (i + 1) right) left right
        after_match same =
            subst (λ n. Comparing more (drop n right) left right) (sym (add-one i)) (record {
              tells = (
                λ g. opened.tells.0 (parts ∙ (λ j. same j ∷ g j) ∙
                    ap (λ b. if b then number_terms (negsuc 0 -ℤ t.1) else turned t ∷
                    one_less_negated (drop (suc i) right)) (sym e)),
                λ g. (same_first (sym parts ∙ other e g)).1,
              );
            })

-- nothing is left of the other
pub last_number : {ls left right : List (Mono × ℤ)} (i : ℕ) {b : Bool} → length right ≤ i →
    Comparing ls (drop i right) left right → (IsTrue b ↔ (ls ≡ number_terms (negsuc 0))) →
    IsTrue b ↔ (left ≡ one_less_negated right)
last_number {ls} {left} {right} i h c f =
    let all = subst (λ rest. Comparing ls rest left right) (drop_of_length-le right h) c in
    (λ g. all.tells.0 (f.0 g), λ g. f.1 (all.tells.1 g))
