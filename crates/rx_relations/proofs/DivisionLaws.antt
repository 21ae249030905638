-- Atoms of a polynomial are polynomials by themselves; and what is 0 of a division by a number.
use Rattle.std.proofs.Common.{◌≡◌, ◌∙◌, ap, subst, sym, refl, cond, ℕ, ◌+◌, ◌≤◌, max, Bool, true, false, ◌&&◌, Option, Some, None, List, [], ◌∷◌, ◌++◌, ℤ, pos, ◌+ℤ◌, ◌-ℤ◌, ◌*ℤ◌, int_div, int_rem, arith}
use Rattle.std.specs.Prelude.{◌↔◌, All, IsTrue, sum_by}
use Rattle.std.specs.List.{flat_map, fold, list_all}
use Rattle.std.proofs.lemmas.Bool.{and_from, and_parts}
use Rattle.std.proofs.lemmas.Int.{ints, quot-rem}
use Rattle.std.proofs.lemmas.List.Elements.{All-append, All-cons, All-head, All-nil, All-tail}
use Rattle.std.proofs.lemmas.List.Sums.{sum_by-cons}
use lib.IntN.{*ℤ_comm}
use Rattle.rx_plain.specs.Formed.{map_formed}
use Rattle.rx_poly.proofs.Constants.{alone_normal, value-alone}
use Rattle.rx_poly.proofs.DivisionLaws.{constant_value, value-Div, value-Mod}
use Rattle.rx_poly.proofs.Levels.{atoms-of_atoms, body_depth_is, body_size_is, depth_Div, depth_Mod, div_is_normal, is_normal_mono_is, mod_is_normal, mono_depth_is, mono_size_is, size_Div, size_Mod, small_parts, terms-of_terms}
use Rattle.rx_poly.proofs.PolyLaws.{depth-of_terms, poly_terms, size-of_terms, value-body_difference, value-body_sum, value-scaled_by}
use Rattle.rx_poly.proofs.Same.{body_eq, body_eq-refl, body_eq-sound}
use Rattle.rx_poly.specs.Division.{atom_alone}
use Rattle.rx_poly.specs.Limits.{atom_depth, atom_size, body_depth, body_difference, body_size, greatest, is_small, mono_depth, mono_size, of_atoms, scaled_by}
use Rattle.rx_poly.specs.Normal.{is_normal, is_normal_atom, is_normal_mono, is_open, is_poly, is_sorted}
use Rattle.rx_poly.specs.Order.{atom_cmp}
use Rattle.rx_poly.specs.Reading.{constant_of}
use Rattle.rx_poly.specs.Terms.{all_keys, is_zero}
use Rattle.rx_poly.specs.Value.{quotient, remainder, value}
use Rattle.rx_poly.specs.declared.body.Atom.{Atom, Atom-F, out-Atom}
use Rattle.rx_poly.specs.declared.body.Atom.TheVariants.{Div, Mod}
use Rattle.rx_poly.specs.declared.body.Body.{Body, out-Body}
use Rattle.rx_poly.specs.declared.body.Mono.{Mono, out-Mono}
use Rattle.rx_poly_laws.proofs.InnerLaws.{small_from}
use Rattle.rx_relations.specs.Alone.{AreAlone, IsAlone}
use Rattle.rx_relations.specs.Divisions.{by_divisor, division_by, division_of, divisions, divisions_in, fact_formed, facts_formed, is_among, term_divisions, with_division}
use Rattle.rx_relations.specs.Holding.{AllZero}
use Rattle.rx_relations.specs.declared.divisions.Division.{Division}

-- ---- one atom

-- it is normal, and small enough to be the only one
record Fits (x : Atom) : Type 0 where
  normal : is_normal_atom x ≡ true
  size : 1 + atom_size x ≤ 4096
  depth : atom_depth x ≤ 64

alone_size : (x : Atom) → body_size (atom_alone x) ≡ 1 + atom_size x
alone_size x =
    let whole : body_size (atom_alone x) ≡ 0 + mono_size (of_atoms (x ∷ [])) =
    size-of_terms ((of_atoms (x ∷ []), pos 1) ∷ []) in
    let part : mono_size (of_atoms (x ∷ [])) ≡ 1 + (0 + atom_size x) =
    mono_size_is (of_atoms (x ∷ [])) ∙
    ap (λ xs. 1 + sum_by atom_size xs) (atoms-of_atoms (x ∷ [])) in
    omega (arith, whole, part)

alone_depth : (x : Atom) → body_depth (atom_alone x) ≡ atom_depth x
alone_depth x =
    let whole : body_depth (atom_alone x) ≡ max (mono_depth (of_atoms (x ∷ []))) 0 =
    depth-of_terms ((of_atoms (x ∷ []), pos 1) ∷ []) in
    let part : mono_depth (of_atoms (x ∷ [])) ≡ max (atom_depth x) 0 =
    mono_depth_is (of_atoms (x ∷ [])) ∙ ap (greatest atom_depth) (atoms-of_atoms (x ∷ [])) in
    omega (arith, whole, part)

alone_from : (x : Atom) → Fits x → IsAlone x
alone_from x f =
    and_from (is_normal (atom_alone x)) (is_small (atom_alone x)) (alone_normal x f.normal)
    (small_from (atom_alone x) (subst (λ n. n ≤ 4096) (sym (alone_size x)) f.size)
    (subst (λ n. n ≤ 64) (sym (alone_depth x)) f.depth))

normal_atom : (x : Atom) → IsAlone x → is_normal_atom x ≡ true
normal_atom x h =
    let ts = (of_atoms (x ∷ []), pos 1) ∷ [] in
    let m = of_atoms (x ∷ []) in
    let keys : all_keys is_normal_mono ts ≡ true =
    subst (λ us. all_keys is_normal_mono us ≡ true) (terms-of_terms ts)
    (poly_terms (atom_alone x) h).keys in
    let mono = and_parts (is_normal_mono m) true keys in
    let atoms = and_parts (list_all is_normal_atom (out-Mono m).atoms)
    (is_sorted atom_cmp (out-Mono m).atoms) (sym (is_normal_mono_is m) ∙ mono.0) in
    (and_parts (is_normal_atom x) true
    (subst (λ xs. list_all is_normal_atom xs ≡ true) (atoms-of_atoms (x ∷ [])) atoms.0)).0

fits_from : (x : Atom) → IsAlone x → Fits x
fits_from x h =
    let small = small_parts (atom_alone x)
    (and_parts (is_normal (atom_alone x)) (is_small (atom_alone x)) h).1 in
    record {
      normal = normal_atom x h;
      size = subst (λ n. n ≤ 4096) (alone_size x) small.0;
      depth = subst (λ n. n ≤ 64) (alone_depth x) small.1;
    }

-- ---- a quotient

-- its remainder is as large
pub mod_alone : (p q : Body) → IsAlone (Div p q) → IsAlone (Mod p q)
mod_alone p q h =
    let f = fits_from (Div p q) h in
    alone_from (Mod p q) (record {
      normal = mod_is_normal p q ∙ sym (div_is_normal p q) ∙ f.normal;
      size =
          subst (λ n. 1 + n ≤ 4096) (size_Div p q ∙ sym (size_Mod p q)) f.size;
      depth =
          subst (λ n. n ≤ 64) (depth_Div p q ∙ sym (depth_Mod p q)) f.depth;
    })

both_polys : (p q : Body) → IsAlone (Div p q) → (is_poly p ≡ true) × (is_poly q ≡ true)
both_polys p q h =
    let f = fits_from (Div p q) h in
    let n = and_parts (is_normal p) (is_normal q)
    (and_parts (is_normal p && is_normal q) (is_open p q) (sym (div_is_normal p q) ∙ f.normal)).0 in
    let size : 1 + (1 + (body_size p + body_size q)) ≤ 4096 =
    subst (λ k. 1 + k ≤ 4096) (size_Div p q) f.size in
    let depth : 1 + max (body_depth p) (body_depth q) ≤ 64 =
    subst (λ k. k ≤ 64) (depth_Div p q) f.depth in (
      and_from (is_normal p) (is_small p) n.0
          (small_from p (omega (arith, size)) (omega (arith, depth))),
      and_from (is_normal q) (is_small q) n.1
          (small_from q (omega (arith, size)) (omega (arith, depth))),
    )

pub dividend_poly : (p q : Body) → IsAlone (Div p q) → is_poly p ≡ true
dividend_poly p q h = (both_polys p q h).0

pub divisor_poly : (p q : Body) → IsAlone (Div p q) → is_poly q ≡ true
divisor_poly p q h = (both_polys p q h).1

-- ---- the atoms of a polynomial

atoms_alone : (xs : List Atom) → list_all is_normal_atom xs ≡ true →
    1 + sum_by atom_size xs ≤ 4096 → greatest atom_depth xs ≤ 64 → All IsAlone xs
atoms_alone [] h s d = All-nil IsAlone
atoms_alone (x ∷ xs) h s d =
    let n = and_parts (is_normal_atom x) (list_all is_normal_atom xs) h in
    let sizes : 1 + (atom_size x + sum_by atom_size xs) ≤ 4096 =
    subst (λ k. 1 + k ≤ 4096) (sum_by-cons atom_size x xs) s in
    let depths : max (atom_depth x) (greatest atom_depth xs) ≤ 64 = d in
    All-cons IsAlone x xs (alone_from x (record {
      normal = n.0;
      size = omega (arith, sizes);
      depth = omega (arith, depths);
    })) (atoms_alone xs n.1 (omega (arith, sizes)) (omega (arith, depths)))

terms_alone : (ts : List (Mono × ℤ)) → all_keys is_normal_mono ts ≡ true →
    sum_by (λ (t : Mono × ℤ). mono_size t.0) ts ≤ 4096 →
    greatest (λ (t : Mono × ℤ). mono_depth t.0) ts ≤ 64 → All AreAlone ts
terms_alone [] h s d = All-nil AreAlone
terms_alone (t ∷ ts) h s d =
    let xs = (out-Mono t.0).atoms in
    let n = and_parts (is_normal_mono t.0) (all_keys is_normal_mono ts) h in
    let sizes : mono_size t.0 + sum_by (λ (u : Mono × ℤ). mono_size u.0) ts ≤ 4096 =
    subst (λ k. k ≤ 4096) (sum_by-cons (λ (u : Mono × ℤ). mono_size u.0) t ts) s in
    let depths : max (mono_depth t.0) (greatest (λ (u : Mono × ℤ). mono_depth u.0) ts) ≤ 64 = d in
    let atoms = and_parts (list_all is_normal_atom xs) (is_sorted atom_cmp xs)
    (sym (is_normal_mono_is t.0) ∙ n.0) in
    let size : mono_size t.0 ≡ 1 + sum_by atom_size xs = mono_size_is t.0 in
    let depth : mono_depth t.0 ≡ greatest atom_depth xs = mono_depth_is t.0 in
    All-cons AreAlone t ts
    (atoms_alone xs atoms.0 (omega (arith, sizes, size)) (omega (arith, depths, depth)))
    (terms_alone ts n.1 (omega (arith, sizes)) (omega (arith, depths)))

pub all_alone : (p : Body) → is_poly p ≡ true → All AreAlone (out-Body p).terms
all_alone p h =
    let small = small_parts p (and_parts (is_normal p) (is_small p) h).1 in
    terms_alone (out-Body p).terms (poly_terms p h).keys
    (subst (λ k. k ≤ 4096) (body_size_is p) small.0)
    (subst (λ k. k ≤ 64) (body_depth_is p) small.1)

-- ---- sameness

-- what is found to be the same is what compares as equal
pub same_quotient : (b : Bool) (p q : Body) → (IsTrue b ↔ (p ≡ q)) → b ≡ body_eq p q
same_quotient true p q tells = sym (body_eq-refl p q (tells.0 refl))
same_quotient false p q tells = sym (different (body_eq p q) refl)
  where
    different : (b : Bool) → body_eq p q ≡ b → body_eq p q ≡ false
    different false e = e
    different true e =
        let wrong : false ≡ true = tells.1 (body_eq-sound p q e) in cc

-- ---- what is 0

module _ (a : ℕ → ℤ) where
  module _ (p q : Body) (k : ℤ) (is : constant_of (out-Body q).terms ≡ Some k)
      (nonzero : is_zero k ≡ false) where
    value_quotient : value a (atom_alone (Div p q)) ≡ int_div (value a p) k
    value_quotient =
        value-alone a (Div p q) ∙ value-Div a p q ∙
        ap (quotient (value a p)) (constant_value a q k is)
        ∙ ap (λ b. cond b (pos 0) (int_div (value a p) k)) nonzero

    value_remainder : value a (atom_alone (Mod p q)) ≡ int_rem (value a p) k
    value_remainder =
        value-alone a (Mod p q) ∙ value-Mod a p q ∙
        ap (remainder (value a p)) (constant_value a q k is)
        ∙ ap (λ b. cond b (pos 0) (int_rem (value a p) k)) nonzero

    fact_zero : value a (fact_formed (division_by p q k)).form ≡ pos 0
    fact_zero =
        let v = value a p in
        let multiple = scaled_by k (atom_alone (Div p q)) in
        let product : value a multiple ≡ k *ℤ int_div v k =
        value-scaled_by a k (atom_alone (Div p q)) ∙ ap (λ z. k *ℤ z) value_quotient in
        let without : value a (body_difference multiple p) ≡ k *ℤ int_div v k -ℤ v =
        value-body_difference a multiple p ∙ ap (λ z. z -ℤ v) product in
        value-body_sum a (body_difference multiple p) (atom_alone (Mod p q))
        ∙ (λ i. without i +ℤ value_remainder i)
        ∙ nothing v (k *ℤ int_div v k) (int_rem v k)
        (ap (λ z. z +ℤ int_rem v k) (*ℤ_comm k (int_div v k)) ∙ quot-rem v k)
      where
        nothing : (v m r : ℤ) → m +ℤ r ≡ v → (m -ℤ v) +ℤ r ≡ pos 0
        nothing v m r e = omega (arith, ints)

  abbrev GivesZero : Division → Type 0
  GivesZero d = value a (fact_formed d).form ≡ pos 0

  by_zero : (p q : Body) (k : ℤ) (b : Bool) → is_zero k ≡ b →
      constant_of (out-Body q).terms ≡ Some k →
      All GivesZero (cond b [] (division_by p q k ∷ []))
  by_zero p q k true e is = All-nil GivesZero
  by_zero p q k false e is =
      All-cons GivesZero (division_by p q k) [] (fact_zero p q k is e) (All-nil GivesZero)

  divisor_zero : (p q : Body) (o : Option ℤ) → constant_of (out-Body q).terms ≡ o →
      All GivesZero (by_divisor p q o)
  divisor_zero p q None is = All-nil GivesZero
  divisor_zero p q (Some k) is = by_zero p q k (is_zero k) refl is

  atom_zero : (y : Atom-F Atom Body Mono) → All GivesZero (division_of y)
  atom_zero (Atom-F.Var n) = All-nil GivesZero
  atom_zero (Atom-F.Div p q) = divisor_zero p q (constant_of (out-Body q).terms) refl
  atom_zero (Atom-F.Mod p q) = All-nil GivesZero

  mapped_zero : {X : Type 0} (f : X → List Division) → ((x : X) → All GivesZero (f x)) →
      (xs : List X) → All GivesZero (flat_map f xs)
  mapped_zero f h [] = All-nil GivesZero
  mapped_zero f h (x ∷ xs) =
      All-append GivesZero (f x) (flat_map f xs) (h x) (mapped_zero f h xs)

  division_zero : (p : Body) → All GivesZero (divisions_in p)
  division_zero p =
      mapped_zero term_divisions (λ t. mapped_zero (λ x. division_of (out-Atom x))
      (λ x. atom_zero (out-Atom x)) (out-Mono t.0).atoms) (out-Body p).terms

  more_zero : (b : Bool) (ds : List Division) (d : Division) → All GivesZero ds → GivesZero d →
      All GivesZero (cond b ds (ds ++ d ∷ []))
  more_zero true ds d h g = h
  more_zero false ds d h g =
      All-append GivesZero ds (d ∷ []) h (All-cons GivesZero d [] g (All-nil GivesZero))

  once_zero : (ds es : List Division) → All GivesZero ds → All GivesZero es →
      All GivesZero (fold with_division ds es)
  once_zero ds [] h g = h
  once_zero ds (e ∷ es) h g =
      once_zero (with_division ds e) es
      (more_zero (is_among ds e.quotient) ds e h (All-head GivesZero e es g))
      (All-tail GivesZero e es g)

  facts_of : (ds : List Division) → All GivesZero ds → AllZero a (map_formed fact_formed ds).form
  facts_of [] h = All-nil (λ p. value a p ≡ pos 0)
  facts_of (d ∷ ds) h =
      All-cons (λ p. value a p ≡ pos 0) (fact_formed d).form (map_formed fact_formed ds).form
      (All-head GivesZero d ds h) (facts_of ds (All-tail GivesZero d ds h))

  -- what is 0 of divisions is 0 under each assignment
  pub facts_zero : (ps : List Body) → AllZero a (facts_formed ps).form
  facts_zero ps =
      facts_of (divisions ps) (once_zero [] (flat_map divisions_in ps) (All-nil GivesZero)
      (mapped_zero divisions_in division_zero ps))
