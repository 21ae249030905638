-- Lemmas as calls have them, whose steps have certificates.
use Rattle.std.specs.Prelude.{◌||◌, Option, Some, None, [], ◌++◌, option_to_list}
use Rattle.rx_inference.specs.declared.step.Delete.TheVariants as delete
use Rattle.rx_inference.specs.declared.step.Step.{Step}
use Rattle.rx_inference.specs.declared.step.Step.TheVariants as step
use Rattle.rx_lemma.specs.Lemmas.{Generalisation}
use Rattle.rx_lemma.specs.declared.lemma.LemmaKind.{LemmaKind}
use Rattle.rx_settle.specs.declared.trial.Trial.{Trial}
use Rattle.rx_find_lemmas.specs.declared.lemma.Found.{Found}
use Rattle.rx_find_lemmas.specs.declared.lemma.Lemma.{Lemma}

-- the lemma without its certificates
abbrev pub general : Lemma → Generalisation
general lemma = record { kind = lemma.kind; goal = lemma.goal; subst = lemma.subst }

-- the step to it
abbrev pub step_to : Lemma → Step
step_to lemma =
    step.Generalise lemma.goal.left lemma.goal.right lemma.goal.rows lemma.subst lemma.certs

-- the step to a generalisation, without certificates
abbrev pub bare_step : Generalisation → Step
bare_step g = step.Generalise g.goal.left g.goal.right g.goal.rows g.subst []

-- the lemma that a step is the one to, if it is of kind Generalise
abbrev pub lemma_of : LemmaKind → Step → Option Lemma
lemma_of kind (step.Simplify side rule certs) = None
lemma_of kind (step.Hyp side place hyp subst certs) = None
lemma_of kind (step.Expand side keep) = None
lemma_of kind (step.Delete (delete.Absurd cert)) = None
lemma_of kind (step.Delete (delete.Equal certs)) = None
lemma_of kind step.EqDelete = None
lemma_of kind (step.Generalise left right rows subst certs) = Some (record {
  kind = kind;
  goal = record { left = left; right = right; rows = rows };
  subst = subst;
  certs = certs;
})
lemma_of kind (step.Postulate left right rows certs) = None
lemma_of kind (step.Split row) = None
lemma_of kind (step.Decompose certs) = None
lemma_of kind (step.Results left right certs) = None

abbrev pub lemma_taken : LemmaKind → Option Step → Option Lemma
lemma_taken kind None = None
lemma_taken kind (Some step) = lemma_of kind step

-- what is found so far, with what comes of one more step
abbrev pub with_trial : Found → LemmaKind → Trial → Found
with_trial found kind trial = record {
  lemmas = found.lemmas ++ option_to_list (lemma_taken kind trial.taken);
  noted = found.noted || trial.noted;
}
