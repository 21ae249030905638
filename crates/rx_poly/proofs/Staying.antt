-- Variables that stay: the test of it by parts, and what it says of what is in their place.
use Rattle.std.proofs.Common.{◌≡◌, ◌∙◌, ap, subst, Bool, true, false, refl, ℕ, ◌==◌, ◌&&◌, sym, List, [], ◌∷◌, cond, suc, ◌+◌, take, arith, Option, Some, None, ℤ}
use Rattle.std.proofs.lemmas.Bool.{and_parts, eqb-true}
use Rattle.std.proofs.lemmas.List.Elements.{All-nil, All-cons, All-append}
use Rattle.std.specs.List.{flat_map, list_all, prefix_len}
use Rattle.std.specs.Option.{option_eq}
use Rattle.rx_poly.specs.Constants.{variable}
use Rattle.rx_poly.specs.Reading.{variable_of}
use Rattle.rx_poly.specs.Replacements.{variable_stays, all_stay, atom_stays, mono_stays, body_stays}
use Rattle.rx_poly.specs.Substitution.{replaced}
use Rattle.rx_poly.proofs.ReadingLaws.{is_variable}
use Rattle.rx_poly.proofs.Unchanged.{Stay}
use Rattle.rx_poly.proofs.VariableLaws.{all_Var, all_Div, all_Mod, all_mono_is, all_body_is}
use Rattle.rx_poly.specs.declared.body.Atom.TheVariants.{Var, Div, Mod}
use Rattle.rx_poly.specs.declared.body.Mono.{Mono, out-Mono}
use Rattle.rx_poly.specs.declared.body.Body.{Body, out-Body}

-- ---- the test by parts

pub stays_Var : (ws : List (ℕ × Body)) (v : ℕ) → atom_stays ws (Var v) ≡ variable_stays ws v
stays_Var ws v = all_Var (variable_stays ws) v

pub stays_Div : (ws : List (ℕ × Body)) (p q : Body) → atom_stays ws (Div p q) ≡
    (body_stays ws p && body_stays ws q)
stays_Div ws p q = all_Div (variable_stays ws) p q

pub stays_Mod : (ws : List (ℕ × Body)) (p q : Body) → atom_stays ws (Mod p q) ≡
    (body_stays ws p && body_stays ws q)
stays_Mod ws p q = all_Mod (variable_stays ws) p q

pub mono_stays_is : (ws : List (ℕ × Body)) (m : Mono) → mono_stays ws m ≡
    list_all (atom_stays ws) (out-Mono m).atoms
mono_stays_is ws m = all_mono_is (variable_stays ws) m

pub body_stays_is : (ws : List (ℕ × Body)) (p : Body) → body_stays ws p ≡
    list_all (λ (t : Mono × ℤ). mono_stays ws t.0) (out-Body p).terms
body_stays_is ws p = all_body_is (variable_stays ws) p

-- ---- what it says

-- a variable that stays is in place of itself
stays_is : (ws : List (ℕ × Body)) (v : ℕ) → variable_stays ws v ≡ true → replaced ws v ≡ variable v
stays_is ws v e = by (variable_of (out-Body (replaced ws v)).terms) refl e
  where
    by : (o : Option ℕ) → o ≡ variable_of (out-Body (replaced ws v)).terms →
        option_eq ◌==◌ o (Some v) ≡ true → replaced ws v ≡ variable v
    by None is e = cc
    by (Some n) is e = (is_variable (replaced ws v) v is).0 (ap Some (eqb-true n v e))

pub all_stays : (ws : List (ℕ × Body)) (vs : List ℕ) → all_stay ws vs ≡ true → Stay ws vs
all_stays ws [] e = All-nil (λ v. replaced ws v ≡ variable v)
all_stays ws (v ∷ vs) e =
    let p = and_parts (variable_stays ws v) (all_stay ws vs) e in
    All-cons (λ v. replaced ws v ≡ variable v) v vs (stays_is ws v p.0) (all_stays ws vs p.1)

-- the variables of the elements before the first one with a variable that doesn't stay do
first_stay : {X : Type 0} (ws : List (ℕ × Body)) (f : X → List ℕ) (xs : List X) →
    Stay ws (flat_map f (take (prefix_len (λ x. all_stay ws (f x)) xs) xs))
first_stay ws f [] = All-nil (λ v. replaced ws v ≡ variable v)
first_stay {X} ws f (x ∷ xs) = by (all_stay ws (f x)) refl (first_stay ws f xs)
  where
    n : ℕ
    n = prefix_len (λ (y : X). all_stay ws (f y)) xs

    by : (b : Bool) → all_stay ws (f x) ≡ b → Stay ws (flat_map f (take n xs)) →
        Stay ws (flat_map f (take (cond b (1 + n) 0) (x ∷ xs)))
    by true e rest =
        let one : suc n ≡ 1 + n = omega arith in
        subst (λ k. Stay ws (flat_map f (take k (x ∷ xs)))) one
        (All-append (λ v. replaced ws v ≡ variable v) (f x) (flat_map f (take n xs))
        (all_stays ws (f x) e) rest)
    by false e rest = All-nil (λ v. replaced ws v ≡ variable v)

pub front_stays : {X : Type 0} (ws : List (ℕ × Body)) (f : X → List ℕ) (xs : List X) {front : List X}
    {n : ℕ} → front ≡ take n xs → n ≡ prefix_len (λ x. all_stay ws (f x)) xs → Stay ws (flat_map f front)
front_stays ws f xs is e =
    subst (λ ys. Stay ws (flat_map f ys)) (sym (is ∙ ap (λ k. take k xs) e)) (first_stay ws f xs)
