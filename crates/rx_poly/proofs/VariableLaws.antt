-- The variables of atoms, monomials and sums, by those of their parts.
use Rattle.std.proofs.Common.{◌≡◌, ◌∙◌, ◌↔◌, ap, ℕ, suc, ◌+◌, ◌<◌, ◌≤◌, ◌==◌, max, Bool, true, false, ◌&&◌, ◌||◌, refl, sym, List, [], ◌∷◌, ◌++◌, drop, get_or, length, drop_of_length-le, add-one, ℤ, arith}
use Rattle.std.specs.Prelude.{nat_le, nat_lt}
use Rattle.std.specs.List.{flat_map, list_all, list_any}
use Rattle.rx_plain.proofs.Booleans.{and_true, or_false}
use Rattle.rx_poly.specs.Limits.{greatest}
use Rattle.std.proofs.lemmas.List.{append-nil}
use Rattle.std.proofs.lemmas.List.Folds.{list_all-append, list_any-append}
use Rattle.std.proofs.Math.Nat.{zero-max}
use Rattle.std.proofs.Math.Seq.{drop-cons}
use Rattle.std.proofs.lemmas.Bool.{and_from, and_parts, le-leb, leb-true, or_left}
use Rattle.std.proofs.lemmas.Bool.Decides.{nat_tests, same_from_decides}
use Rattle.rx_poly.specs.Variables.{all_below, atom_variables_level, mono_variables_level, body_variables_level, atom_variables, mono_variables, variables, atom_uses_below, mono_uses_below, uses_below, is_one_of, atom_uses, mono_uses, uses, bound_of, atom_bound, mono_bound, variable_bound}
use Rattle.rx_poly.proofs.Pieces.{list_all-flat_map, flat_map-map}
use Rattle.rx_poly.specs.declared.body.Atom.{fold_out-Atom}
use Rattle.rx_poly.specs.declared.body.Atom.TheVariants.{Var, Div, Mod, outs-Var, outs-Div, outs-Mod}
use Rattle.rx_poly.specs.declared.body.Mono.{Mono, out-Mono, fold_out-Mono}
use Rattle.rx_poly.specs.declared.body.Body.{Body, out-Body, fold_out-Body}

pub variables_Var : (n : ℕ) → atom_variables (Var n) ≡ n ∷ []
variables_Var n =
    fold_out-Atom (List ℕ) (List ℕ) (List ℕ) atom_variables_level body_variables_level
    mono_variables_level (Var n) ∙ rw (outs-Var n) refl

pub variables_Div : (p q : Body) → atom_variables (Div p q) ≡ variables p ++ variables q
variables_Div p q =
    fold_out-Atom (List ℕ) (List ℕ) (List ℕ) atom_variables_level body_variables_level
    mono_variables_level (Div p q) ∙ rw (outs-Div p q) refl

pub variables_Mod : (p q : Body) → atom_variables (Mod p q) ≡ variables p ++ variables q
variables_Mod p q =
    fold_out-Atom (List ℕ) (List ℕ) (List ℕ) atom_variables_level body_variables_level
    mono_variables_level (Mod p q) ∙ rw (outs-Mod p q) refl

pub mono_variables_is : (m : Mono) → mono_variables m ≡ flat_map atom_variables (out-Mono m).atoms
mono_variables_is m =
    fold_out-Mono (List ℕ) (List ℕ) (List ℕ) atom_variables_level body_variables_level
    mono_variables_level m
    ∙ flat_map-map (λ vs. vs) atom_variables (out-Mono m).atoms

pub variables_is : (b : Body) → variables b ≡
    flat_map (λ (t : Mono × ℤ). mono_variables t.0) (out-Body b).terms
variables_is b =
    fold_out-Body (List ℕ) (List ℕ) (List ℕ) atom_variables_level body_variables_level
    mono_variables_level b
    ∙ flat_map-map (λ (t : List ℕ × ℤ). t.0) (λ (t : Mono × ℤ). (mono_variables t.0, t.1))
    (out-Body b).terms

-- nothing is left of a list whose pieces are added after others
pub listed_end : {X Y : Type 0} (f : X → List Y) (xs : List X) (i : ℕ) (so_far before : List Y) →
    length xs ≤ i → so_far ++ flat_map f (drop i xs) ≡ before ++ flat_map f xs → so_far ≡ before ++
    flat_map f xs
listed_end f xs i so_far before h all =
    sym (append-nil so_far) ∙ ap (λ ys. so_far ++ flat_map f ys) (sym (drop_of_length-le xs h)) ∙
    all

-- ---- a test of all variables

pub all_Var : (p : ℕ → Bool) (v : ℕ) → list_all p (atom_variables (Var v)) ≡ p v
all_Var p v = ap (list_all p) (variables_Var v) ∙ and_true (p v)

pub all_Div : (p : ℕ → Bool) (l r : Body) → list_all p (atom_variables (Div l r)) ≡
    (list_all p (variables l) && list_all p (variables r))
all_Div p l r = ap (list_all p) (variables_Div l r) ∙ list_all-append p (variables l) (variables r)

pub all_Mod : (p : ℕ → Bool) (l r : Body) → list_all p (atom_variables (Mod l r)) ≡
    (list_all p (variables l) && list_all p (variables r))
all_Mod p l r = ap (list_all p) (variables_Mod l r) ∙ list_all-append p (variables l) (variables r)

pub all_mono_is : (p : ℕ → Bool) (m : Mono) → list_all p (mono_variables m) ≡
    list_all (λ x. list_all p (atom_variables x)) (out-Mono m).atoms
all_mono_is p m =
    ap (list_all p) (mono_variables_is m) ∙ list_all-flat_map p atom_variables (out-Mono m).atoms

pub all_body_is : (p : ℕ → Bool) (b : Body) → list_all p (variables b) ≡
    list_all (λ (t : Mono × ℤ). list_all p (mono_variables t.0)) (out-Body b).terms
all_body_is p b =
    ap (list_all p) (variables_is b) ∙ list_all-flat_map p (λ (t : Mono × ℤ). mono_variables t.0)
    (out-Body b).terms

-- ---- below a number

pub below_Var : (n v : ℕ) → atom_uses_below n (Var v) ≡ nat_lt v n
below_Var n v = all_Var (λ v. nat_lt v n) v

pub below_Div : (n : ℕ) (p q : Body) → atom_uses_below n (Div p q) ≡
    (uses_below n p && uses_below n q)
below_Div n p q = all_Div (λ v. nat_lt v n) p q

pub below_Mod : (n : ℕ) (p q : Body) → atom_uses_below n (Mod p q) ≡
    (uses_below n p && uses_below n q)
below_Mod n p q = all_Mod (λ v. nat_lt v n) p q

pub mono_below_is : (n : ℕ) (m : Mono) → mono_uses_below n m ≡
    list_all (atom_uses_below n) (out-Mono m).atoms
mono_below_is n m = all_mono_is (λ v. nat_lt v n) m

pub below_is : (n : ℕ) (b : Body) → uses_below n b ≡
    list_all (λ (t : Mono × ℤ). mono_uses_below n t.0) (out-Body b).terms
below_is n b = all_body_is (λ v. nat_lt v n) b

-- ---- whether a variable is one of them

list_any-flat_map : {X Y : Type 0} (p : Y → Bool) (f : X → List Y) (xs : List X) →
    list_any p (flat_map f xs) ≡ list_any (λ x. list_any p (f x)) xs
list_any-flat_map p f [] = refl
list_any-flat_map p f (x ∷ xs) =
    list_any-append p (f x) (flat_map f xs) ∙
    ap (λ b. list_any p (f x) || b) (list_any-flat_map p f xs)

pub uses_Var : (x v : ℕ) → atom_uses x (Var v) ≡ (v == x)
uses_Var x v = ap (is_one_of x) (variables_Var v) ∙ or_false (v == x)

pub uses_Div : (x : ℕ) (p q : Body) → atom_uses x (Div p q) ≡ (uses x p || uses x q)
uses_Div x p q =
    ap (is_one_of x) (variables_Div p q) ∙ list_any-append (λ v. v == x) (variables p) (variables q)

pub uses_Mod : (x : ℕ) (p q : Body) → atom_uses x (Mod p q) ≡ (uses x p || uses x q)
uses_Mod x p q =
    ap (is_one_of x) (variables_Mod p q) ∙ list_any-append (λ v. v == x) (variables p) (variables q)

pub mono_uses_is : (x : ℕ) (m : Mono) → mono_uses x m ≡ list_any (atom_uses x) (out-Mono m).atoms
mono_uses_is x m =
    ap (is_one_of x) (mono_variables_is m) ∙ list_any-flat_map (λ v. v == x) atom_variables
    (out-Mono m).atoms

pub uses_is : (x : ℕ) (b : Body) → uses x b ≡ list_any (λ (t : Mono × ℤ). mono_uses x t.0) (out-Body b).terms
uses_is x b =
    ap (is_one_of x) (variables_is b) ∙ list_any-flat_map (λ v. v == x)
    (λ (t : Mono × ℤ). mono_variables t.0) (out-Body b).terms

-- where the rest decides and its first element passes, some does
pub one_passes : {X : Type 0} (p : X → Bool) (xs : List X) (i : ℕ) (x : X) → i < length xs → x ≡
    get_or xs i x → p x ≡ true → list_any p (drop i xs) ≡ list_any p xs → list_any p xs ≡ true
one_passes p xs i x h is passes decides =
    sym decides ∙ ap (list_any p) (drop-cons xs i x h)
    ∙ or_left (p (get_or xs i x)) (list_any p (drop (suc i) xs)) (ap p (sym is) ∙ passes)

-- where the rest decides and nothing is left, none does
pub none_passes : {X : Type 0} (p : X → Bool) (xs : List X) (i : ℕ) → length xs ≤ i →
    list_any p (drop i xs) ≡ list_any p xs → list_any p xs ≡ false
none_passes p xs i h decides = sym decides ∙ ap (list_any p) (drop_of_length-le xs h)

-- ---- the least number above all of them

max_assoc : (a b c : ℕ) → max (max a b) c ≡ max a (max b c)
max_assoc a b c = grind arith

max_zero : (a : ℕ) → max a 0 ≡ a
max_zero a = grind arith

greatest-append : {X : Type 0} (f : X → ℕ) (xs ys : List X) → greatest f (xs ++ ys) ≡
    max (greatest f xs) (greatest f ys)
greatest-append f [] ys = sym (zero-max (greatest f ys))
greatest-append f (x ∷ xs) ys =
    ap (max (f x)) (greatest-append f xs ys) ∙ sym (max_assoc (f x) (greatest f xs) (greatest f ys))

greatest-flat_map : {X Y : Type 0} (f : Y → ℕ) (g : X → List Y) (xs : List X) →
    greatest f (flat_map g xs) ≡ greatest (λ x. greatest f (g x)) xs
greatest-flat_map f g [] = refl
greatest-flat_map f g (x ∷ xs) =
    greatest-append f (g x) (flat_map g xs) ∙ ap (max (greatest f (g x))) (greatest-flat_map f g xs)

pub bound_Var : (v : ℕ) → atom_bound (Var v) ≡ v + 1
bound_Var v = ap bound_of (variables_Var v) ∙ max_zero (v + 1)

pub bound_Div : (p q : Body) → atom_bound (Div p q) ≡ max (variable_bound p) (variable_bound q)
bound_Div p q =
    ap bound_of (variables_Div p q) ∙ greatest-append (λ v. v + 1) (variables p) (variables q)

pub bound_Mod : (p q : Body) → atom_bound (Mod p q) ≡ max (variable_bound p) (variable_bound q)
bound_Mod p q =
    ap bound_of (variables_Mod p q) ∙ greatest-append (λ v. v + 1) (variables p) (variables q)

pub mono_bound_is : (m : Mono) → mono_bound m ≡ greatest atom_bound (out-Mono m).atoms
mono_bound_is m =
    ap bound_of (mono_variables_is m) ∙ greatest-flat_map (λ v. v + 1) atom_variables
    (out-Mono m).atoms

pub variable_bound_is : (b : Body) → variable_bound b ≡
    greatest (λ (t : Mono × ℤ). mono_bound t.0) (out-Body b).terms
variable_bound_is b =
    ap bound_of (variables_is b) ∙ greatest-flat_map (λ v. v + 1)
    (λ (t : Mono × ℤ). mono_variables t.0) (out-Body b).terms

-- the greatest so far, and of those that are left
pub after_greater : {X : Type 0} (f : X → ℕ) (xs : List X) (i : ℕ) {x : X} (so_far : ℕ)
    {next whole : ℕ} → i < length xs → x ≡ get_or xs i x → max so_far (greatest f (drop i xs)) ≡
    whole → next ≡ max (f x) so_far → max next (greatest f (drop (i + 1) xs)) ≡ whole
after_greater f xs i {x} so_far {next} {whole} h is all e =
    let opened : greatest f (drop i xs) ≡ max (f x) (greatest f (drop (suc i) xs)) =
    ap (greatest f) (drop-cons xs i x h) ∙
    ap (λ y. max (f y) (greatest f (drop (suc i) xs))) (sym is) in
    let there : drop (i + 1) xs ≡ drop (suc i) xs = ap (λ n. drop n xs) (add-one i) in
    let same : max (max (f x) so_far) (greatest f (drop (suc i) xs)) ≡
    max so_far (max (f x) (greatest f (drop (suc i) xs))) =
    turned (f x) so_far (greatest f (drop (suc i) xs)) in
    (λ j. max (e j) (greatest f (there j))) ∙ same ∙ ap (max so_far) (sym opened) ∙ all
  where
    turned : (a b c : ℕ) → max (max a b) c ≡ max b (max a c)
    turned a b c = grind arith

pub greatest_end : {X : Type 0} (f : X → ℕ) (xs : List X) (i : ℕ) (so_far : ℕ) {whole : ℕ} →
    length xs ≤ i → max so_far (greatest f (drop i xs)) ≡ whole → so_far ≡ whole
greatest_end f xs i so_far {whole} h all =
    sym (max_zero so_far) ∙ ap (λ ys. max so_far (greatest f ys)) (sym (drop_of_length-le xs h)) ∙
    all

-- ---- below the bound

-- all are below a number exactly where it is at least the least number above them
pub below_bound : (n : ℕ) (vs : List ℕ) → (all_below n vs ≡ true) ↔ (bound_of vs ≤ n)
below_bound n [] = (λ h. omega arith, λ h. refl)
below_bound n (v ∷ vs) =
    let rest = below_bound n vs in (
      λ h.
          let p = and_parts (nat_lt v n) (all_below n vs) h in
          let here : nat_lt v n ≡ true = p.0 in
          let there : bound_of vs ≤ n = rest.0 p.1 in
          grind (arith, nat_tests),
      λ h.
          let here : nat_lt v n ≡ true = grind (arith, nat_tests) in
          let there : bound_of vs ≤ n = grind arith in
          and_from (nat_lt v n) (all_below n vs) here (rest.1 there),
    )

-- so a comparison with the bound decides
pub bound_decides : (n : ℕ) (p : Body) → nat_le (variable_bound p) n ≡ uses_below n p
bound_decides n p =
    same_from_decides (nat_le (variable_bound p) n) (uses_below n p)
    (leb-true (variable_bound p) n, le-leb (variable_bound p) n) (below_bound n (variables p))
