-- Numbers, and the row that gives a variable its value.
use Rattle.std.proofs.Common.{◌≡◌, ◌∙◌, ap, subst, sym, refl, ℕ, ◌<◌, ◌==◌, Bool, true, false, ◌&&◌, cond, Some, None, List, [], ◌∷◌, map, ℤ, pos, neg_ℤ, ◌-ℤ◌, arith}
use Rattle.std.specs.Prelude.{nat_lt}
use Rattle.std.specs.declared.cmp.Ordering.{Ordering}
use Rattle.std.specs.declared.cmp.Ordering.TheVariants.{Less}
use Rattle.std.proofs.lemmas.Bool.{and_parts, false_from_ne_true, ltb-true}
use Rattle.std.proofs.lemmas.Bool.Decides.{nat_tests}
use Rattle.std.proofs.lemmas.Int.{ints}
use Rattle.std.proofs.lemmas.Option.{same_Some}
use Rattle.rx_plain.specs.Formed.{Formed}
use Rattle.rx_plain.specs.Graded.{graded_cmp}
use Rattle.rx_poly.specs.Constants.{number, variable}
use Rattle.rx_poly.specs.Limits.{body_difference, body_sum, fits_i128, is_within, of_atoms, of_terms}
use Rattle.rx_poly.specs.Normal.{is_empty, is_number, is_poly}
use Rattle.rx_poly.specs.Order.{atom_cmp, mono_cmp}
use Rattle.rx_poly.specs.Reading.{constant_of}
use Rattle.rx_poly.specs.Substitution.{plus_all, replaced, subst_atom, subst_body, subst_mono, times_all}
use Rattle.rx_poly.specs.Terms.{add_terms, cons_nonzero, insert_by, insert_term, is_sparse_sorted, is_zero, negated}
use Rattle.rx_poly.specs.Value.{value}
use Rattle.rx_poly.specs.Variables.{uses_below}
use Rattle.rx_poly.specs.declared.body.Atom.TheVariants.{Var}
use Rattle.rx_poly.specs.declared.body.Body.{Body, out-Body, roll-out-Body}
use Rattle.rx_poly.specs.declared.body.Mono.{Mono, out-Mono, roll-Mono, roll-out-Mono}
use Rattle.rx_poly.proofs.Alone.{one_factor, replaced_alone}
use Rattle.rx_poly.proofs.Constants.{number-nonzero, number_poly, number_within, value-number, value-variable}
use Rattle.rx_poly.proofs.Emptiness.{empty_is}
use Rattle.rx_poly.proofs.Levels.{atoms-of_atoms, terms-of_terms}
use Rattle.rx_poly.proofs.Neutral.{poly_within, zero_sum}
use Rattle.rx_poly.proofs.OrderLemmas.{mono_cmp_is, mono_total}
use Rattle.rx_poly.proofs.PolyLaws.{poly_terms, value-body_difference, zero_poly}
use Rattle.rx_poly.proofs.Same.{same_mono}
use Rattle.rx_poly.proofs.Substituting.{in_Var, in_body_is, in_mono_is, term_in, well}
use Rattle.rx_poly.proofs.TermLaws.{cons_nonzero-nonzero, listed_parts, zero_is}
use Rattle.rx_poly_laws.proofs.Locality.{same_value_below}
use Rattle.rx_poly_laws.proofs.SumCoefficients.{minus_itself, zero_within}
use Rattle.rx_poly_laws.proofs.TestLaws.{passes-body_difference, passes-number, passes-variable}

-- ---- numbers

one_term : (t : Mono × ℤ) (ts : List (Mono × ℤ)) (c : ℤ) → is_sparse_sorted mono_cmp (t ∷ ts) ≡
    true → (b : Bool) → is_number (t ∷ ts) ≡ b → cond b (Some t.1) None ≡ Some c → t ∷ ts ≡
    cons_nonzero (of_atoms []) c []
one_term t ts c listed true h e =
    let both = and_parts (is_empty ts) (is_empty (out-Mono t.0).atoms) h in
    let mono : t.0 ≡ of_atoms [] = sym (roll-out-Mono t.0) ∙
    (λ i. roll-Mono (record { atoms = empty_is (out-Mono t.0).atoms both.1 i })) in
    let same : t.1 ≡ c = same_Some t.1 c e in
    let nonzero = (listed_parts mono_cmp mono_total same_mono t ts listed).nonzero in
    (λ i. (mono i, same i) ∷ empty_is ts both.0 i)
    ∙ sym (cons_nonzero-nonzero (of_atoms []) c [] (subst (λ k. is_zero k ≡ false) same nonzero))
one_term t ts c listed false h e = cc

number_terms : (ts : List (Mono × ℤ)) (c : ℤ) → is_sparse_sorted mono_cmp ts ≡ true →
    constant_of ts ≡ Some c → ts ≡ cons_nonzero (of_atoms []) c []
number_terms [] c listed e =
    ap (λ (k : ℤ). cons_nonzero (of_atoms []) k []) (same_Some (pos 0) c e)
number_terms (t ∷ ts) c listed e = one_term t ts c listed (is_number (t ∷ ts)) refl e

-- a polynomial from which a number is read is that number
pub number_is : (p : Body) (c : ℤ) → is_poly p ≡ true → constant_of (out-Body p).terms ≡ Some c →
    p ≡ number c
number_is p c poly e =
    sym (roll-out-Body p) ∙
    ap of_terms (number_terms (out-Body p).terms c (poly_terms p poly).listed e)

pub number_fits : (c : ℤ) → is_poly (number c) ≡ true → fits_i128 c ≡ true
number_fits c poly = sym (number_within c) ∙ poly_within (number c) poly

fitting_by : (c : ℤ) → fits_i128 c ≡ true → (b : Bool) → is_zero c ≡ b → is_poly (number c) ≡ true
fitting_by c fits true e = ap (λ (k : ℤ). is_poly (number k)) (zero_is c e) ∙ zero_poly
fitting_by c fits false e = ap is_poly (number-nonzero c e) ∙ number_poly c e fits

pub fitting_number : (c : ℤ) → fits_i128 c ≡ true → is_poly (number c) ≡ true
fitting_number c fits = fitting_by c fits (is_zero c) refl

-- ---- the row that gives a variable its value

-- the variable minus the number
abbrev pub value_of : ℕ → ℤ → Body
value_of v c = body_difference (variable v) (number c)

abbrev alone : ℕ → Mono
alone v = of_atoms (Var v ∷ [])

abbrev none : Mono
none = of_atoms []

value_zero : (v : ℕ) → value_of v (pos 0) ≡ variable v
value_zero v =
    (λ i. of_terms (add_terms mono_cmp (terms-of_terms ((alone v, pos 1) ∷ []) i)
    (negated (terms-of_terms [] i))))

variable_first : (v : ℕ) → mono_cmp (alone v) none ≡ Less
variable_first v =
    mono_cmp_is (alone v) none ∙
    (λ i. graded_cmp atom_cmp (atoms-of_atoms (Var v ∷ []) i) (atoms-of_atoms [] i))

value_nonzero : (v : ℕ) (c : ℤ) → is_zero c ≡ false → value_of v c ≡
    of_terms ((alone v, pos 1) ∷ (none, neg_ℤ c) ∷ [])
value_nonzero v c e =
    ap (body_difference (variable v)) (number-nonzero c e)
    ∙ (λ i. of_terms (add_terms mono_cmp (terms-of_terms ((alone v, pos 1) ∷ []) i)
    (negated (terms-of_terms ((none, c) ∷ []) i))))
    ∙ ap (λ (r : Ordering). of_terms (insert_by r (alone v) (pos 1) (none, neg_ℤ c) []
    (insert_term mono_cmp (alone v) (pos 1) []))) (variable_first v)

-- the number and its negation make 0
nothing_left : (c : ℤ) → fits_i128 c ≡ true → is_zero c ≡ false →
    body_sum (number c) (number (neg_ℤ c)) ≡ of_terms []
nothing_left c fits e =
    let turned : is_zero (neg_ℤ c) ≡ false = false_from_ne_true (is_zero (neg_ℤ c)) (λ z.
    let other = zero_is (neg_ℤ c) z in
    let same : c ≡ pos 0 = omega (arith, ints) in
    let zero : is_zero c ≡ true = ap is_zero same in
    cc) in
    (λ i. body_sum (number-nonzero c e i) (number-nonzero (neg_ℤ c) turned i))
    ∙ (λ i. of_terms (add_terms mono_cmp (terms-of_terms ((none, c) ∷ []) i)
    (terms-of_terms ((none, neg_ℤ c) ∷ []) i)))
    ∙ sym (λ i. of_terms (add_terms mono_cmp (terms-of_terms ((none, c) ∷ []) i)
    (negated (terms-of_terms ((none, c) ∷ []) i))))
    ∙ minus_itself (of_terms ((none, c) ∷ [])) (number_poly c e fits)

-- ---- that row where the variable is replaced by the number

mono_alone : (ws : List (ℕ × Body)) (v : ℕ) (q : Body) → is_poly q ≡ true → replaced ws v ≡ q →
    subst_mono ws (alone v) (pos 1) ≡ well q
mono_alone ws v q poly r =
    in_mono_is ws (alone v) (pos 1)
    ∙ (λ i. times_all (well (number (pos 1)))
    (map (subst_atom ws) (atoms-of_atoms (Var v ∷ []) i)))
    ∙ (λ i. times_all (well (number (pos 1))) ((in_Var ws v ∙ ap well r) i ∷ []))
    ∙ one_factor q poly

mono_none : (ws : List (ℕ × Body)) (k : ℤ) → subst_mono ws none k ≡ well (number k)
mono_none ws k =
    in_mono_is ws none k ∙
    (λ i. times_all (well (number k)) (map (subst_atom ws) (atoms-of_atoms [] i)))

-- a formed polynomial plus another
abbrev plus : Formed Body → Formed Body → Formed Body
plus p q = record {
  form = body_sum p.form q.form;
  within = p.within && (q.within && is_within (body_sum p.form q.form));
}

first_sum : (q : Body) → is_poly q ≡ true → plus (well (of_terms [])) (well q) ≡ well q
first_sum q h =
    let made = zero_sum (of_terms []) q (terms-of_terms []) h in
    λ i. record { form = sym made.0 i; within = made.1 i }

in_nonzero : (ws : List (ℕ × Body)) (v : ℕ) (c : ℤ) → is_zero c ≡ false → fits_i128 c ≡ true →
    replaced ws v ≡ number c → subst_body ws (value_of v c) ≡ well (of_terms [])
in_nonzero ws v c e fits r =
    let ts : List (Mono × ℤ) = (alone v, pos 1) ∷ (none, neg_ℤ c) ∷ [] in
    let poly = fitting_number c fits in
    ap (subst_body ws) (value_nonzero v c e)
    ∙ in_body_is ws (of_terms ts)
    ∙ (λ i. plus_all (well (of_terms [])) (map (term_in ws) (terms-of_terms ts i)))
    ∙ (λ i. plus (plus (well (of_terms [])) (mono_alone ws v (number c) poly r i))
    (mono_none ws (neg_ℤ c) i))
    ∙ (λ i. plus (first_sum (number c) poly i) (well (number (neg_ℤ c))))
    ∙ (λ i. record {
      form = nothing_left c fits e i;
      within = true && (true && is_within (nothing_left c fits e i));
    })
    ∙ (λ i. record { form = of_terms []; within = zero_within i })

in_zero : (ws : List (ℕ × Body)) (v : ℕ) → replaced ws v ≡ number (pos 0) →
    subst_body ws (value_of v (pos 0)) ≡ well (of_terms [])
in_zero ws v r = replaced_alone ws v (value_of v (pos 0)) (value_zero v) (sym r) zero_poly

in_value_by : (ws : List (ℕ × Body)) (v : ℕ) (c : ℤ) → fits_i128 c ≡ true → replaced ws v ≡
    number c → (b : Bool) → is_zero c ≡ b → subst_body ws (value_of v c) ≡ well (of_terms [])
in_value_by ws v c fits r true e =
    subst (λ (k : ℤ). replaced ws v ≡ number k → subst_body ws (value_of v k) ≡ well (of_terms []))
    (sym (zero_is c e)) (in_zero ws v) r
in_value_by ws v c fits r false e = in_nonzero ws v c e fits r

-- it becomes 0 = 0
pub in_value : (ws : List (ℕ × Body)) (v : ℕ) (c : ℤ) → fits_i128 c ≡ true → replaced ws v ≡
    number c → subst_body ws (value_of v c) ≡ well (of_terms [])
in_value ws v c fits r = in_value_by ws v c fits r (is_zero c) refl

-- ---- what the row says of the variable and the number

value-is : (a : ℕ → ℤ) (v : ℕ) (c : ℤ) → value a (value_of v c) ≡ a v -ℤ c
value-is a v c =
    value-body_difference a (variable v) (number c) ∙
    (λ i. value-variable a v i -ℤ value-number a c i)

-- 1 for this variable, 0 for each other
abbrev marked : ℕ → ℕ → ℤ
marked v w = cond (w == v) (pos 1) (pos 0)

abbrev nowhere : ℕ → ℤ
nowhere w = pos 0

marked_itself : (v : ℕ) → marked v v ≡ pos 1
marked_itself v =
    let same : (v == v) ≡ true = grind (arith, nat_tests) in
    ap (λ (b : Bool). cond b (pos 1) (pos 0)) same

marked_other : (v w : ℕ) → (w == v) ≡ false → marked v w ≡ pos 0
marked_other v w e = ap (λ (b : Bool). cond b (pos 1) (pos 0)) e

same_variable : (v w : ℕ) (c : ℤ) → marked w v -ℤ c ≡ marked w w -ℤ c → (b : Bool) → (v == w) ≡ b →
    v ≡ w
same_variable v w c e true h = grind (arith, nat_tests)
same_variable v w c e false h =
    let zero = marked_other w v h in
    let one = marked_itself w in
    absurd (omega (arith, ints))

-- it is of one variable and one number
pub one_value_row : (v w : ℕ) (c d : ℤ) → value_of v c ≡ value_of w d → (v ≡ w) × (c ≡ d)
one_value_row v w c d e =
    let zeros : pos 0 -ℤ c ≡ pos 0 -ℤ d = sym (value-is nowhere v c) ∙ ap (value nowhere) e ∙
    value-is nowhere w d in
    let same : c ≡ d = omega (arith, ints) in
    let ones : marked w v -ℤ c ≡ marked w w -ℤ d = sym (value-is (marked w) v c) ∙
    ap (value (marked w)) e ∙ value-is (marked w) w d in
    (same_variable v w c (ones ∙ ap (λ (k : ℤ). marked w w -ℤ k) (sym same)) (v == w) refl, same)

below_by : (n v : ℕ) (c : ℤ) → uses_below n (value_of v c) ≡ true → (b : Bool) → nat_lt v n ≡ b →
    v < n
below_by n v c uses true h = ltb-true v n h
below_by n v c uses false h =
    let agree : (k : ℕ) → k < n → nowhere k ≡ marked v k = λ k lt.
    let other : (k == v) ≡ false = grind (arith, nat_tests) in
    sym (marked_other v k other) in
    let same = sym (value-is nowhere v c) ∙
    same_value_below nowhere (marked v) n (value_of v c) agree uses ∙ value-is (marked v) v c in
    let one = marked_itself v in
    absurd (omega (arith, ints))

-- where only variables below a number occur in it, the variable is below the number
pub value_below : (n v : ℕ) (c : ℤ) → uses_below n (value_of v c) ≡ true → v < n
value_below n v c uses = below_by n v c uses (nat_lt v n) refl

pub variable_uses : (n v : ℕ) → v < n → uses_below n (variable v) ≡ true
variable_uses n v lt =
    let test : nat_lt v n ≡ true = grind (arith, nat_tests) in
    passes-variable (λ k. nat_lt k n) v test

pub value_uses : (n v : ℕ) (c : ℤ) → v < n → uses_below n (value_of v c) ≡ true
value_uses n v c lt =
    passes-body_difference (λ k. nat_lt k n) (variable v) (number c) (variable_uses n v lt)
    (passes-number (λ k. nat_lt k n) c)
