-- The choices at a goal, before they are tried: the four expansions, Decompose, and lemmas.
use Rattle.std.specs.Prelude.{ℕ, true, false, List, [], ◌∷◌}
use Rattle.rx_inference.specs.declared.step.Side.TheVariants.{Left, Right}
use Rattle.rx_inference.specs.declared.step.Step.TheVariants as steps
use Rattle.rx_lemma.specs.Lemmas.{Generalisation}
use Rattle.rx_lemma.specs.declared.lemma.LemmaKind.{LemmaKind}
use Rattle.rx_lemma.specs.declared.lemma.LemmaKind.TheVariants.{NameConstants, DropValues, ReplaceRepeated}
use Rattle.rx_search.specs.declared.candidates.Candidate.{Candidate}

-- Expand of each side that keeps the goal, and then that doesn't; and Decompose
abbrev pub expansions : List Candidate
expansions =
    record { number = 1; keeps = true; step = steps.Expand Left true }
    ∷ record { number = 2; keeps = true; step = steps.Expand Right true }
    ∷ record { number = 3; keeps = false; step = steps.Expand Left false }
    ∷ record { number = 4; keeps = false; step = steps.Expand Right false }
    ∷ record { number = 5; keeps = false; step = steps.Decompose [] }
    ∷ []

-- the numbers of lemmas; what names constants is never a choice
abbrev pub number_of : LemmaKind → ℕ
number_of NameConstants = 0
number_of DropValues = 6
number_of ReplaceRepeated = 7

-- a lemma
abbrev pub lemma_candidate : Generalisation → Candidate
lemma_candidate lemma = record {
  number = number_of lemma.kind;
  keeps = false;
  step = steps.Generalise lemma.goal.left lemma.goal.right lemma.goal.rows lemma.subst [];
}
