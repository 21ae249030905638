-- The number of a polynomial among others.
use Rattle.std.proofs.Common.{◌≡◌, ◌∙◌, ap, sym, refl, subst, ℕ, zero, suc, true, false, Some, Contains, List, [], ◌∷◌, slice_get, position, true≢false, Bool, if◌then◌else◌, ◌++◌}
use Rattle.std.proofs.lemmas.List.Quantifiers.{position-Some}
use Rattle.std.proofs.lemmas.Option.{slice_get-get_or}
use Rattle.std.specs.List.{slice_index_or}
use Rattle.std.specs.List.{AllByRecursion, IsDistinct}
use Rattle.rx_bank.specs.Numbers.{AreDistinct, KeepsNumbers}
use Rattle.rx_poly.specs.declared.body.Body.{Body}
use Rattle.rx_poly.proofs.Same.{body_eq, body_eq-refl, body_eq-sound}

module _ (p : Body) where
  -- a place that a look-up finds has the polynomial
  pub found_at : (ps : List Body) (i : ℕ) → position (body_eq p) ps ≡ Some i → slice_get ps i ≡
      Some p
  found_at ps i e =
      let f = position-Some (body_eq p) ps i p e in slice_get-get_or ps i p f.0 ∙
      ap Some (sym (body_eq-sound p (slice_index_or ps i p) f.1))

  -- so it is one of them
  pub found_among : (ps : List Body) (i : ℕ) → position (body_eq p) ps ≡ Some i → Contains ps p
  found_among ps i e =
      let f = position-Some (body_eq p) ps i p e in
      (i, f.0, sym (body_eq-sound p (slice_index_or ps i p) f.1))

  -- a place of an equal polynomial has it
  pub stored_at : (ps : List Body) (i : ℕ) (q : Body) → slice_get ps i ≡ Some q → body_eq p q ≡
      true → slice_get ps i ≡ Some p
  stored_at ps i q e same = e ∙ ap Some (sym (body_eq-sound p q same))

-- a list in which no two compare as equal has no polynomial at two places
differs_at : (q p : Body) (ps : List Body) (i : ℕ) → AllByRecursion (λ r. body_eq q r ≡ false) ps →
    slice_get ps i ≡ Some p → body_eq q p ≡ false
differs_at q p [] i all e = cc
differs_at q p (r ∷ ps) zero all e =
    let same : r ≡ p = cc in subst (λ x. body_eq q x ≡ false) same all.0
differs_at q p (r ∷ ps) (suc i) all e = differs_at q p ps i all.1 e

pub distinct_places : (ps : List Body) → IsDistinct body_eq ps → AreDistinct ps
unfolding IsDistinct
distinct_places [] d i j p e f = cc
distinct_places (q ∷ ps) d zero zero p e f = refl
distinct_places (q ∷ ps) d zero (suc j) p e f =
    let same : q ≡ p = cc in absurd (true≢false
    (sym (body_eq-refl q p same) ∙ differs_at q p ps j d.0 f))
distinct_places (q ∷ ps) d (suc i) zero p e f =
    let same : q ≡ p = cc in absurd (true≢false
    (sym (body_eq-refl q p same) ∙ differs_at q p ps i d.0 e))
distinct_places (q ∷ ps) d (suc i) (suc j) p e f = ap suc (distinct_places ps d.1 i j p e f)

found_with : (ps more : List Body) (i : ℕ) (p : Body) → slice_get ps i ≡ Some p →
    slice_get (ps ++ more) i ≡ Some p
found_with [] more i p e = cc
found_with (q ∷ ps) more zero p e = e
found_with (q ∷ ps) more (suc i) p e = found_with ps more i p e

-- polynomials keep their numbers where one is added after them, or none
pub keeps_inserted : (b : Bool) (ps : List Body) (q : Body) →
    KeepsNumbers ps (if b then ps else (ps ++ q ∷ []))
keeps_inserted true ps q = λ i p e. e
keeps_inserted false ps q = found_with ps (q ∷ [])
