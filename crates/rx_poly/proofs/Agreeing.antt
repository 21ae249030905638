-- Two lists that are compared from the front: what is left of both decides.
use Rattle.std.proofs.Common.{◌≡◌, ◌↔◌, IsTrue, ◌∙◌, ap, Bool, false, sym, ◌==◌, List, [], ◌∷◌, length}
use Rattle.std.proofs.lemmas.Bool.{eq-eqb, eqb-true}
use Rattle.std.proofs.lemmas.List.{nil_from_length}

module _ {X : Type 0} (left right rest others : List X)
    (decides : (rest ≡ others) ↔ (left ≡ right)) where
  -- both are at their end, or the second is longer
  pub finished : (same : Bool) → length rest ≡ 0 → same ≡ (length others == 0) →
      IsTrue same ↔ (left ≡ right)
  finished same none is = (
    λ e. decides.0 (nil_from_length rest none ∙
        sym (nil_from_length others (eqb-true (length others) 0 (sym is ∙ e)))),
    λ e. is ∙ eq-eqb (length others) 0 (ap length (sym (decides.1 e)) ∙ none),
  )

  module _ (x : X) (more : List X) (is : rest ≡ x ∷ more) where
    -- the first is longer
    pub ended : length others ≡ 0 → IsTrue false ↔ (left ≡ right)
    ended none = (
      λ e. cc,
      λ e. let h : x ∷ more ≡ [] = sym is ∙ decides.1 e ∙ nil_from_length others none in cc,
    )

    module _ (y : X) (further : List X) (are : others ≡ y ∷ further) where
      together : left ≡ right → x ∷ more ≡ y ∷ further
      together e = sym is ∙ decides.1 e ∙ are

      -- they begin alike
      pub alike : x ≡ y → (more ≡ further) ↔ (left ≡ right)
      alike same = (
        λ e. decides.0 (is ∙ (λ i. same i ∷ e i) ∙ sym are),
        λ e. let h = together e in cc,
      )

      -- they don't
      pub unlike : (same : Bool) → same ≡ false → IsTrue same ↔ (x ≡ y) →
          IsTrue false ↔ (left ≡ right)
      unlike same fails says = (
        λ e. cc,
        λ e. let h = together e in
            let first : x ≡ y = cc in
            sym fails ∙ says.1 first,
      )
