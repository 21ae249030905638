-- The variables of what is formed of polynomials are those of its parts.
use Rattle.std.proofs.Common.{◌≡◌, ◌∙◌, ap, ℕ, Bool, true, ◌&&◌, refl, sym, List, [], ◌∷◌, ℤ, pos}
use Rattle.std.specs.List.{list_all}
use Rattle.std.proofs.lemmas.Bool.{and_from, and_parts}
use Rattle.std.proofs.lemmas.List.Folds.{list_all-append}
use Rattle.rx_poly.specs.Constants.{number, variable}
use Rattle.rx_poly.specs.Division.{atom_alone, quotient_of, remainder_of}
use Rattle.rx_poly.specs.Limits.{of_terms, of_atoms, body_sum, body_difference, scaled_by}
use Rattle.rx_poly.specs.Order.{atom_cmp, mono_cmp}
use Rattle.rx_poly.specs.Products.{mono_times, body_product, sum_of_products, term_product}
use Rattle.rx_poly.specs.Terms.{add_terms, all_keys, negated}
use Rattle.rx_poly.proofs.DivisionCases.{quotient_cases, remainder_cases}
use Rattle.rx_poly.proofs.Levels.{terms-of_terms, atoms-of_atoms}
use Rattle.rx_poly.proofs.PolyLaws.{keys-times_number}
use Rattle.rx_poly.proofs.SortedLaws.{all-join}
use Rattle.rx_poly.proofs.TermLaws.{all_keys-add, all_keys-cons_nonzero}
use Rattle.rx_poly.specs.declared.body.Atom.{Atom}
use Rattle.rx_poly.specs.declared.body.Atom.TheVariants.{Var, Div, Mod}
use Rattle.rx_poly.specs.declared.body.Mono.{Mono, out-Mono}
use Rattle.rx_poly.specs.declared.body.Body.{Body, out-Body}
use Rattle.rx_poly_laws.specs.Tests.{passes}
use Rattle.rx_poly.specs.Variables.{atom_variables, mono_variables, variables}
use Rattle.rx_poly.proofs.Pieces.{list_all-flat_map}
use Rattle.rx_poly.proofs.VariableLaws.{variables_Var, variables_Div, variables_Mod, mono_variables_is, variables_is}

module _ (test : ℕ → Bool) where
  -- all variables of an atom, and of a monomial, pass the test
  abbrev pub atom_passes : Atom → Bool
  atom_passes x = list_all test (atom_variables x)

  abbrev pub mono_passes : Mono → Bool
  mono_passes m = list_all test (mono_variables m)

  pub mono_passes_is : (m : Mono) → mono_passes m ≡ list_all atom_passes (out-Mono m).atoms
  mono_passes_is m =
      ap (list_all test) (mono_variables_is m) ∙
      list_all-flat_map test atom_variables (out-Mono m).atoms

  pub passes_is : (p : Body) → passes test p ≡ all_keys mono_passes (out-Body p).terms
  passes_is p =
      ap (list_all test) (variables_is p) ∙ list_all-flat_map test
      (λ (t : Mono × ℤ). mono_variables t.0) (out-Body p).terms

  pub passes-of_terms : (ts : List (Mono × ℤ)) → passes test (of_terms ts) ≡ all_keys mono_passes ts
  passes-of_terms ts = passes_is (of_terms ts) ∙ ap (all_keys mono_passes) (terms-of_terms ts)

  mono_passes-of_atoms : (xs : List Atom) → mono_passes (of_atoms xs) ≡ list_all atom_passes xs
  mono_passes-of_atoms xs =
      mono_passes_is (of_atoms xs) ∙ ap (list_all atom_passes) (atoms-of_atoms xs)

  -- the keys of a polynomial that passes
  keys_of : (p : Body) → passes test p ≡ true → all_keys mono_passes (out-Body p).terms ≡ true
  keys_of p h = sym (passes_is p) ∙ h

  -- ---- numbers, variables, atoms

  pub passes-number : (k : ℤ) → passes test (number k) ≡ true
  passes-number k =
      passes-of_terms _ ∙ all_keys-cons_nonzero mono_passes (of_atoms []) k []
      (mono_passes-of_atoms []) refl

  atom_alone_passes : (x : Atom) → atom_passes x ≡ true → passes test (atom_alone x) ≡ true
  atom_alone_passes x h =
      passes-of_terms ((of_atoms (x ∷ []), pos 1) ∷ [])
      ∙ and_from (mono_passes (of_atoms (x ∷ []))) true
      (mono_passes-of_atoms (x ∷ []) ∙ and_from (atom_passes x) true h refl) refl

  pub passes-variable : (n : ℕ) → test n ≡ true → passes test (variable n) ≡ true
  passes-variable n h =
      atom_alone_passes (Var n) (ap (list_all test) (variables_Var n) ∙
      and_from (test n) true h refl)

  -- ---- sums

  pub passes-body_sum : (p q : Body) → passes test p ≡ true → passes test q ≡ true →
      passes test (body_sum p q) ≡ true
  passes-body_sum p q h g =
      passes-of_terms _ ∙ all_keys-add mono_passes mono_cmp (out-Body p).terms (out-Body q).terms
      (keys_of p h) (keys_of q g)

  keys-negated : (ts : List (Mono × ℤ)) → all_keys mono_passes (negated ts) ≡
      all_keys mono_passes ts
  keys-negated [] = refl
  keys-negated (t ∷ ts) = ap (λ b. mono_passes t.0 && b) (keys-negated ts)

  pub passes-body_difference : (p q : Body) → passes test p ≡ true → passes test q ≡ true →
      passes test (body_difference p q) ≡ true
  passes-body_difference p q h g =
      passes-of_terms _
      ∙ all_keys-add mono_passes mono_cmp (out-Body p).terms (negated (out-Body q).terms)
      (keys_of p h) (keys-negated (out-Body q).terms ∙ keys_of q g)

  pub passes-scaled_by : (k : ℤ) (p : Body) → passes test p ≡ true → passes test (scaled_by k p) ≡
      true
  passes-scaled_by k p h =
      passes-of_terms _ ∙ keys-times_number mono_passes k (out-Body p).terms (keys_of p h)

  -- ---- products

  mono_times_passes : (m n : Mono) → mono_passes m ≡ true → mono_passes n ≡ true →
      mono_passes (mono_times m n) ≡ true
  mono_times_passes m n h g =
      mono_passes-of_atoms _
      ∙ all-join atom_cmp atom_passes (out-Mono m).atoms (out-Mono n).atoms
      (sym (mono_passes_is m) ∙ h) (sym (mono_passes_is n) ∙ g)

  keys-term_product : (t : Mono × ℤ) (us : List (Mono × ℤ)) → mono_passes t.0 ≡ true →
      all_keys mono_passes us ≡ true → all_keys mono_passes (term_product t us) ≡ true
  keys-term_product t [] h g = refl
  keys-term_product t (u ∷ us) h g =
      let both = and_parts (mono_passes u.0) (all_keys mono_passes us) g in
      and_from (mono_passes (mono_times t.0 u.0)) (all_keys mono_passes (term_product t us))
      (mono_times_passes t.0 u.0 h both.0) (keys-term_product t us h both.1)

  keys-sum_of_products : (sum ts us : List (Mono × ℤ)) → all_keys mono_passes sum ≡ true →
      all_keys mono_passes ts ≡ true → all_keys mono_passes us ≡ true →
      all_keys mono_passes (sum_of_products sum ts us) ≡ true
  keys-sum_of_products sum [] us s h g = s
  keys-sum_of_products sum (t ∷ ts) us s h g =
      let both = and_parts (mono_passes t.0) (all_keys mono_passes ts) h in
      keys-sum_of_products (add_terms mono_cmp sum (term_product t us)) ts us
      (all_keys-add mono_passes mono_cmp sum (term_product t us) s
      (keys-term_product t us both.0 g)) both.1
      g

  pub passes-body_product : (p q : Body) → passes test p ≡ true → passes test q ≡ true →
      passes test (body_product p q) ≡ true
  passes-body_product p q h g =
      passes-of_terms _ ∙ keys-sum_of_products [] (out-Body p).terms (out-Body q).terms refl
      (keys_of p h)
      (keys_of q g)

  -- ---- quotients and remainders

  pub passes-quotient_of : (p q : Body) → passes test p ≡ true → passes test q ≡ true →
      passes test (quotient_of p q) ≡ true
  passes-quotient_of p q h g =
      quotient_cases (λ r. passes test r ≡ true) p q passes-number
      (atom_alone_passes (Div p q) (ap (list_all test) (variables_Div p q) ∙
      list_all-append test (variables p) (variables q) ∙
      and_from (passes test p) (passes test q) h g))

  pub passes-remainder_of : (p q : Body) → passes test p ≡ true → passes test q ≡ true →
      passes test (remainder_of p q) ≡ true
  passes-remainder_of p q h g =
      remainder_cases (λ r. passes test r ≡ true) p q passes-number
      (atom_alone_passes (Mod p q) (ap (list_all test) (variables_Mod p q) ∙
      list_all-append test (variables p) (variables q) ∙
      and_from (passes test p) (passes test q) h g))
