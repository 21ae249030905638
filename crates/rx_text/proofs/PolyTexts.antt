-- The texts of atoms, monomials and sums, by those of their parts.
use Rattle.std.proofs.Common.{◌≡◌, ◌∙◌, ap, refl, ℕ, List, [], ◌∷◌, ◌++◌, map, ℤ}
use Rattle.std.specs.List.{flat_map}
use Rattle.rx_poly.specs.declared.body.Atom.{fold_out-Atom}
use Rattle.rx_poly.specs.declared.body.Atom.TheVariants.{Var, Div, Mod, outs-Var, outs-Div, outs-Mod}
use Rattle.rx_poly.specs.declared.body.Body.{Body, fold_out-Body, out-Body}
use Rattle.rx_poly.specs.declared.body.Mono.{Mono, fold_out-Mono, out-Mono}
use Rattle.rx_text.specs.Numbers.{natural_text}
use Rattle.rx_text.specs.Polynomials.{atom_text, atom_text_level, body_text_level, mono_text, mono_text_level, poly_text, term_text, text_of_term}

pub text_Var : (n : ℕ) → atom_text (Var n) ≡ 118 ∷ natural_text n
text_Var n =
    fold_out-Atom (List ℕ) (List ℕ) (List ℕ) atom_text_level body_text_level mono_text_level (Var n)
    ∙ rw (outs-Var n) refl

pub text_Div : (p q : Body)
    → atom_text (Div p q) ≡ 100 ∷ 105 ∷ 118 ∷ 40 ∷ (poly_text p ++ (44 ∷ (poly_text q ++ 41 ∷ [])))
text_Div p q =
    fold_out-Atom (List ℕ) (List ℕ) (List ℕ) atom_text_level body_text_level mono_text_level
    (Div p q)
    ∙ rw (outs-Div p q) refl

pub text_Mod : (p q : Body)
    → atom_text (Mod p q) ≡ 109 ∷ 111 ∷ 100 ∷ 40 ∷ (poly_text p ++ (44 ∷ (poly_text q ++ 41 ∷ [])))
text_Mod p q =
    fold_out-Atom (List ℕ) (List ℕ) (List ℕ) atom_text_level body_text_level mono_text_level
    (Mod p q)
    ∙ rw (outs-Mod p q) refl

mapped : {X Y Z : Type 0} (f : X → List Z) (g : Y → X) (ys : List Y)
    → flat_map f (map g ys) ≡ flat_map (λ y. f (g y)) ys
mapped f g [] = refl
mapped f g (y ∷ ys) = ap (λ zs. f (g y) ++ zs) (mapped f g ys)

pub mono_text_is : (m : Mono) → mono_text m ≡ flat_map (λ x. 42 ∷ atom_text x) (out-Mono m).atoms
mono_text_is m =
    fold_out-Mono (List ℕ) (List ℕ) (List ℕ) atom_text_level body_text_level mono_text_level m
    ∙ mapped (λ (text : List ℕ). 42 ∷ text) atom_text (out-Mono m).atoms

-- the terms of a sum
abbrev pub text_of_terms : List (Mono × ℤ) → List ℕ
text_of_terms [] = 48 ∷ []
text_of_terms (t ∷ ts) = text_of_term t ++ flat_map (λ u. 43 ∷ text_of_term u) ts

by_terms : (ts : List (Mono × ℤ))
    → body_text_level (record { terms = map (λ (t : Mono × ℤ). (mono_text t.0, t.1)) ts }) ≡
    text_of_terms ts
by_terms [] = refl
by_terms (t ∷ ts) =
    ap (λ zs. text_of_term t ++ zs)
    (mapped (λ (u : List ℕ × ℤ). 43 ∷ term_text u) (λ (u : Mono × ℤ). (mono_text u.0, u.1)) ts)

pub poly_text_is : (b : Body) → poly_text b ≡ text_of_terms (out-Body b).terms
poly_text_is b =
    fold_out-Body (List ℕ) (List ℕ) (List ℕ) atom_text_level body_text_level mono_text_level b
    ∙ by_terms (out-Body b).terms
