-- Whether a polynomial is a variable without its constant, term by term.
use Rattle.std.proofs.Common.{◌≡◌, ◌∙◌, ap, refl, Bool, true, false, ◌&&◌, List, [], ◌∷◌, ℤ}
use Rattle.std.specs.Prelude.{filter}
use Rattle.std.specs.Option.{is_some}
use Rattle.rx_plain.proofs.Booleans.{and_false, and_true}
use Rattle.rx_poly.specs.Normal.{is_empty}
use Rattle.rx_poly.specs.Reading.{variable_of}
use Rattle.rx_poly.specs.declared.body.Mono.{Mono}
use Rattle.rx_lemma.specs.Values.{is_no_number, valued_from}

abbrev others : List (Mono × ℤ) → List (Mono × ℤ)
others ts = filter is_no_number ts

-- once a variable was seen there is to be no other term
seen_alone : (ts : List (Mono × ℤ)) → valued_from true ts ≡ is_empty (others ts)
seen_alone [] = refl
seen_alone (t ∷ ts) = by (is_no_number t) refl (seen_alone ts) where
  by : (b : Bool) → is_no_number t ≡ b → valued_from true ts ≡ is_empty (others ts) →
      valued_from true (t ∷ ts) ≡ is_empty (others (t ∷ ts))
  by true e later = rw e refl
  by false e later = rw e later

-- a sum is a variable where its first term is one and there is no other
alone : (t : Mono × ℤ) (ts : List (Mono × ℤ)) → (is_some (variable_of (t ∷ [])) && is_empty ts) ≡
    is_some (variable_of (t ∷ ts))
alone t [] = and_true (is_some (variable_of (t ∷ [])))
alone t (s ∷ ts) = and_false (is_some (variable_of (t ∷ [])))

pub valued_by_terms : (ts : List (Mono × ℤ)) → valued_from false ts ≡
    is_some (variable_of (others ts))
valued_by_terms [] = refl
valued_by_terms (t ∷ ts) = by (is_no_number t) refl (valued_by_terms ts) where
  by : (b : Bool) → is_no_number t ≡ b → valued_from false ts ≡ is_some (variable_of (others ts))
      → valued_from false (t ∷ ts) ≡ is_some (variable_of (others (t ∷ ts)))
  by true e later =
      rw e (ap (λ (b : Bool). is_some (variable_of (t ∷ [])) && b) (seen_alone ts) ∙
      alone t (others ts))
  by false e later = rw e later
