-- What is inside a polynomial is normal, and as small as the whole or smaller.
use Rattle.std.proofs.Common.{◌≡◌, ◌∙◌, ap, subst, ◌+◌, ◌≤◌, max, true, ◌&&◌, sym, List, [], ◌∷◌, ℤ, arith}
use Rattle.std.specs.Prelude.{nat_le, sum_by}
use Rattle.std.specs.List.{All, flat_map, list_all}
use Rattle.std.proofs.lemmas.Bool.{and_parts, and_from, le-leb}
use Rattle.std.proofs.lemmas.List.Elements.{All-nil, All-cons, All-append}
use Rattle.std.proofs.lemmas.List.Sums.{sum_by-cons}
use Rattle.rx_poly.specs.Limits.{atom_size, mono_size, body_size, greatest, atom_depth, mono_depth, body_depth, is_small}
use Rattle.rx_poly.specs.Normal.{is_normal, is_normal_atom, is_normal_mono, is_open, is_poly, is_sorted}
use Rattle.rx_poly.specs.Order.{atom_cmp}
use Rattle.rx_poly.specs.Terms.{all_keys}
use Rattle.rx_poly.proofs.Levels.{body_size_is, mono_size_is, body_depth_is, mono_depth_is, is_normal_mono_is, div_is_normal, mod_is_normal, size_Div, size_Mod, depth_Div, depth_Mod, small_parts}
use Rattle.rx_poly.proofs.PolyLaws.{poly_terms}
use Rattle.rx_poly.specs.declared.body.Atom.{Atom, Atom-F, out-Atom, roll-Atom, roll-out-Atom}
use Rattle.rx_poly.specs.declared.body.Atom.TheVariants.{rolls-Div, rolls-Mod}
use Rattle.rx_poly.specs.declared.body.Mono.{Mono, out-Mono}
use Rattle.rx_poly.specs.declared.body.Body.{Body, out-Body}
use Rattle.rx_poly_laws.specs.Inner.{parts_of, inner_of_mono, inner}

-- size and depth keep the limits
pub small_from : (p : Body) → body_size p ≤ 4096 → body_depth p ≤ 64 → is_small p ≡ true
small_from p s d =
    and_from (nat_le (body_size p) 4096) (nat_le (body_depth p) 64) (le-leb (body_size p) 4096 s)
    (le-leb (body_depth p) 64 d)

abbrev IsPoly : Body → Type 0
IsPoly q = is_poly q ≡ true

-- both parts of a division whose atom is normal and small are polynomials
both_polys : (p q : Body) → ((is_normal p && is_normal q) && is_open p q) ≡ true → 1 +
    (body_size p + body_size q) ≤ 4096 → 1 + max (body_depth p) (body_depth q) ≤ 64 →
    All IsPoly (p ∷ q ∷ [])
both_polys p q h s d =
    let n = and_parts (is_normal p) (is_normal q)
    (and_parts (is_normal p && is_normal q) (is_open p q) h).0 in
    All-cons IsPoly p (q ∷ []) (and_from (is_normal p) (is_small p) n.0
    (small_from p (omega arith) (omega arith)))
    (All-cons IsPoly q [] (and_from (is_normal q) (is_small q) n.1
    (small_from q (omega arith) (omega arith))) (All-nil IsPoly))

level_polys : (y : Atom-F Atom Body Mono) → is_normal_atom (roll-Atom y) ≡ true →
    atom_size (roll-Atom y) ≤ 4096 → atom_depth (roll-Atom y) ≤ 64 → All IsPoly (parts_of y)
level_polys (Atom-F.Var n) h s d = All-nil IsPoly
level_polys (Atom-F.Div p q) h s d =
    both_polys p q (sym (div_is_normal p q) ∙ ap is_normal_atom (sym (rolls-Div p q)) ∙ h)
    (subst (λ k. k ≤ 4096) (ap atom_size (rolls-Div p q) ∙ size_Div p q) s)
    (subst (λ k. k ≤ 64) (ap atom_depth (rolls-Div p q) ∙ depth_Div p q) d)
level_polys (Atom-F.Mod p q) h s d =
    both_polys p q (sym (mod_is_normal p q) ∙ ap is_normal_atom (sym (rolls-Mod p q)) ∙ h)
    (subst (λ k. k ≤ 4096) (ap atom_size (rolls-Mod p q) ∙ size_Mod p q) s)
    (subst (λ k. k ≤ 64) (ap atom_depth (rolls-Mod p q) ∙ depth_Mod p q) d)

atom_polys : (x : Atom) → is_normal_atom x ≡ true → atom_size x ≤ 4096 → atom_depth x ≤ 64 →
    All IsPoly (parts_of (out-Atom x))
atom_polys x h s d =
    let is = sym (roll-out-Atom x) in
    level_polys (out-Atom x) (sym (ap is_normal_atom is) ∙ h) (subst (λ y. atom_size y ≤ 4096) is s)
    (subst (λ y. atom_depth y ≤ 64) is d)

atoms_polys : (xs : List Atom) → list_all is_normal_atom xs ≡ true → sum_by atom_size xs ≤ 4096 →
    greatest atom_depth xs ≤ 64 → All IsPoly (flat_map (λ x. parts_of (out-Atom x)) xs)
atoms_polys [] h s d = All-nil IsPoly
atoms_polys (x ∷ xs) h s d =
    let n = and_parts (is_normal_atom x) (list_all is_normal_atom xs) h in
    let sizes : atom_size x + sum_by atom_size xs ≤ 4096 =
    subst (λ k. k ≤ 4096) (sum_by-cons atom_size x xs) s in
    let depths : max (atom_depth x) (greatest atom_depth xs) ≤ 64 = d in
    All-append IsPoly (parts_of (out-Atom x)) (flat_map (λ y. parts_of (out-Atom y)) xs)
    (atom_polys x n.0 (omega (arith, sizes)) (omega (arith, depths)))
    (atoms_polys xs n.1 (omega (arith, sizes)) (omega (arith, depths)))

mono_polys : (m : Mono) → is_normal_mono m ≡ true → mono_size m ≤ 4096 → mono_depth m ≤ 64 →
    All IsPoly (inner_of_mono m)
mono_polys m h s d =
    let xs = (out-Mono m).atoms in
    let n = and_parts (list_all is_normal_atom xs) (is_sorted atom_cmp xs)
    (sym (is_normal_mono_is m) ∙ h) in
    let size : 1 + sum_by atom_size xs ≤ 4096 = subst (λ k. k ≤ 4096) (mono_size_is m) s in
    atoms_polys xs n.0 (omega (arith, size)) (subst (λ k. k ≤ 64) (mono_depth_is m) d)

terms_polys : (ts : List (Mono × ℤ)) → all_keys is_normal_mono ts ≡ true →
    sum_by (λ (t : Mono × ℤ). mono_size t.0) ts ≤ 4096 →
    greatest (λ (t : Mono × ℤ). mono_depth t.0) ts ≤ 64 →
    All IsPoly (flat_map (λ (t : Mono × ℤ). inner_of_mono t.0) ts)
terms_polys [] h s d = All-nil IsPoly
terms_polys (t ∷ ts) h s d =
    let n = and_parts (is_normal_mono t.0) (all_keys is_normal_mono ts) h in
    let sizes : mono_size t.0 + sum_by (λ (t : Mono × ℤ). mono_size t.0) ts ≤ 4096 =
    subst (λ k. k ≤ 4096) (sum_by-cons (λ (t : Mono × ℤ). mono_size t.0) t ts) s in
    let depths : max (mono_depth t.0) (greatest (λ (t : Mono × ℤ). mono_depth t.0) ts) ≤ 64 = d in
    All-append IsPoly (inner_of_mono t.0) (flat_map (λ (u : Mono × ℤ). inner_of_mono u.0) ts)
    (mono_polys t.0 n.0 (omega (arith, sizes)) (omega (arith, depths)))
    (terms_polys ts n.1 (omega (arith, sizes)) (omega (arith, depths)))

-- the dividends and divisors in a polynomial are polynomials
pub inner_polys : (p : Body) → is_poly p ≡ true → All (λ q. is_poly q ≡ true) (inner p)
inner_polys p h =
    let small = small_parts p (and_parts (is_normal p) (is_small p) h).1 in
    terms_polys (out-Body p).terms (poly_terms p h).keys
    (subst (λ k. k ≤ 4096) (body_size_is p) small.0)
    (subst (λ k. k ≤ 64) (body_depth_is p) small.1)
