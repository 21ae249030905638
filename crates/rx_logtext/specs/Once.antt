-- That a side, and whether a goal is kept, are given by their words.
use Rattle.std.specs.Prelude.{ℕ, ◌==◌, Bool, true, false, List, [], ◌∷◌}
use Rattle.std.proofs.Common.{◌∙◌, ap, refl, sym}
use Rattle.std.proofs.lemmas.Bool.{false≢true}
use Rattle.rx_inference.specs.declared.step.Side.TheVariants.{Left, Right}
use Rattle.rx_text.specs.Formats.{IsUnambiguous}
use Rattle.rx_logtext.specs.Steps.{keeps, sides}

-- the bytes after the first
abbrev tail : List ℕ → List ℕ
tail [] = []
tail (byte ∷ bytes) = bytes

-- whether the first is this one
abbrev starts_with : ℕ → List ℕ → Bool
starts_with first [] = false
starts_with first (byte ∷ bytes) = byte == first

pub sides_once : IsUnambiguous sides
sides_once bytes Left Left left right b c = (refl, ap tail (sym b.text ∙ c.text))
sides_once bytes Left Right left right b c =
    absurd (false≢true (sym (ap (starts_with 108) (sym b.text ∙ c.text))))
sides_once bytes Right Left left right b c =
    absurd (false≢true (ap (starts_with 108) (sym b.text ∙ c.text)))
sides_once bytes Right Right left right b c = (refl, ap tail (sym b.text ∙ c.text))

pub keeps_once : IsUnambiguous keeps
keeps_once bytes true true left right b c =
    (refl, ap (λ (it : List ℕ). tail (tail (tail (tail it)))) (sym b.text ∙ c.text))
keeps_once bytes true false left right b c =
    absurd (false≢true (sym (ap (starts_with 107) (sym b.text ∙ c.text))))
keeps_once bytes false true left right b c =
    absurd (false≢true (ap (starts_with 107) (sym b.text ∙ c.text)))
keeps_once bytes false false left right b c =
    (refl, ap (λ (it : List ℕ). tail (tail (tail (tail it)))) (sym b.text ∙ c.text))
