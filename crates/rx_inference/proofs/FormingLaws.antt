-- Forming doesn't look at certificates, and has four ends.
use Rattle.std.proofs.Common.{◌≡◌, ◌∙◌, ap, refl, Bool, true, false, if◌then◌else◌, Option, Some, None, Ok, Err, List}
use Rattle.std.specs.Prelude.{slice_get}
use Rattle.rx_plain.specs.Formed.{Formed}
use Rattle.rx_term.specs.Meaning.{redex_of}
use Rattle.rx_term.specs.Stacks.{suffix_at}
use Rattle.rx_term.specs.declared.rule.Equation.{Equation}
use Rattle.rx_term.specs.declared.rule.Rule.{Rule}
use Rattle.rx_term.specs.declared.rule_set.RuleParts.{RuleParts}
use Rattle.rx_inference.specs.Forming.{Forming, found_or, limited, provided, ◌>>=◌}
use Rattle.rx_inference.specs.Judging.{Shown, bare, certificates, first_rows, judged}
use Rattle.rx_inference.specs.Kinds.{formed, formed_on}
use Rattle.rx_inference.specs.Making.{decomposed_by, different_by, equal_by, expanded_by_all, generalised_by, postulated_by, resulting_by, simplified_by, split_by}
use Rattle.rx_inference.specs.Pieces.{have_one_shape, is_equation, is_substitution, side_of, top_frame}
use Rattle.rx_inference.specs.States.{State, applied, carried_out, taken, taken_if}
use Rattle.rx_inference.specs.declared.form_end.FormEnd.TheVariants.{WrongShape, NoSuchRule, Large, NoMemory}
use Rattle.rx_inference.specs.declared.formed_step.FormedStep.{FormedStep}
use Rattle.rx_inference.specs.declared.step.Delete.TheVariants as delete
use Rattle.rx_inference.specs.declared.step.Step.{Step}
use Rattle.rx_inference.specs.declared.step.Step.TheVariants as step

module _ (parts : RuleParts) (hypotheses : List Rule) where
  so_bare : (goal : Equation) (s : Step) → formed_on parts goal hypotheses s ≡
      formed_on parts goal hypotheses (bare s)
  so_bare goal (step.Simplify side rule certs) = refl
  so_bare goal (step.Hyp side place hyp subst certs) = refl
  so_bare goal (step.Expand side keep) = refl
  so_bare goal (step.Delete (delete.Absurd cert)) = refl
  so_bare goal (step.Delete (delete.Equal certs)) = refl
  so_bare goal step.EqDelete = refl
  so_bare goal (step.Generalise left right rows subst certs) = refl
  so_bare goal (step.Postulate left right rows certs) = refl
  so_bare goal (step.Split row) = refl
  so_bare goal (step.Decompose certs) = refl
  so_bare goal (step.Results left right certs) = refl

  -- a step without certificates is formed as with them
  pub formed_bare : (goal : Option Equation) (s : Step) → formed parts goal hypotheses s ≡
      formed parts goal hypotheses (bare s)
  formed_bare None s = refl
  formed_bare (Some goal) s = so_bare goal s

-- a step that is formed and judged shown makes of the state what is taken
pub shown_taken : (parts : RuleParts) (state : State) (s : Step) (f : FormedStep) →
    formed parts (slice_get state.goals 0) state.hypotheses s ≡ Ok f
    → judged (first_rows state.goals) (first_rows f.goals) f.asked (certificates s) ≡ Shown →
    applied parts state s ≡ Ok (taken state f)
shown_taken parts state s f e shown =
    ap (carried_out state (certificates s)) e ∙ ap (taken_if state f) shown

-- ---- no definition runs out of memory

abbrev Ends : {A : Type 0} → Forming A → Type 0
Ends x = x ≡ Err NoMemory → ⊥

no_shape : {A : Type 0} → Ends {A = A} (Err WrongShape)
no_shape e = cc

no_rule : {A : Type 0} → Ends {A = A} (Err NoSuchRule)
no_rule e = cc

found : {A : Type 0} (x : A) → Ends (Ok x)
found x e = cc

after : {A B : Type 0} (x : Forming A) (next : A → Forming B) → Ends x → ((y : A) → Ends (next y)) →
    Ends (x >>= next)
after (Ok y) next here later h = later y h
after (Err e) next here later h = here (let is : e ≡ NoMemory = cc in ap Err is)

part : {A : Type 0} (o : Option A) → Ends (found_or WrongShape o)
part None = no_shape
part (Some x) = found x

numbered : {A : Type 0} (o : Option A) → Ends (found_or NoSuchRule o)
numbered None = no_rule
numbered (Some x) = found x

tested : {A : Type 0} (b : Bool) (x : Forming A) → Ends x → Ends (provided b x)
tested true x here = here
tested false x here = no_shape

kept : {A : Type 0} (f : Formed A) → Ends (limited f)
kept f = by f.within
  where
    by : (b : Bool) → Ends (if b then Ok f.form else Err Large)
    by true e = cc
    by false e = cc

module _ (parts : RuleParts) (hypotheses : List Rule) (goal : Equation) where
  never_on : (s : Step) → Ends (formed_on parts goal hypotheses s)
  never_on (step.Simplify side number certs) =
      after (found_or WrongShape (redex_of (side_of side goal))) _
      (part (redex_of (side_of side goal))) (λ redex.
      after (found_or NoSuchRule (slice_get parts.rules number)) _
      (numbered (slice_get parts.rules number)) (λ rule.
      tested (have_one_shape rule.left redex) _ (kept (simplified_by goal side redex rule))))
  never_on (step.Hyp side place number ws certs) =
      after (found_or WrongShape (suffix_at place (side_of side goal))) _
      (part (suffix_at place (side_of side goal))) (λ place.
      after (provided (is_substitution ws) (found_or NoSuchRule (slice_get hypotheses number))) _
      (tested (is_substitution ws) _ (numbered (slice_get hypotheses number))) (λ rule.
      tested (have_one_shape place rule.left) _ (kept _)))
  never_on (step.Expand side keep) =
      after (found_or WrongShape (redex_of (side_of side goal))) _
      (part (redex_of (side_of side goal)))
      (λ redex. kept (expanded_by_all parts.rules goal side keep redex))
  never_on (step.Delete (delete.Absurd cert)) = found _
  never_on (step.Delete (delete.Equal certs)) =
      tested (have_one_shape goal.left goal.right) _ (kept (equal_by goal))
  never_on step.EqDelete = tested (have_one_shape goal.left goal.right) _ (kept (different_by goal))
  never_on (step.Generalise left right rows ws certs) =
      tested _ _ (kept (generalised_by parts goal
      (record { left = left; right = right; rows = rows }) ws))
  never_on (step.Postulate left right rows certs) =
      tested (is_equation parts (record { left = left; right = right; rows = rows })) _
      (kept (postulated_by parts goal (record { left = left; right = right; rows = rows })))
  never_on (step.Split row) = tested _ _ (kept (split_by goal row))
  never_on (step.Decompose certs) =
      after (found_or WrongShape (top_frame goal.left)) _ (part (top_frame goal.left)) (λ one.
      after (found_or WrongShape (top_frame goal.right)) _ (part (top_frame goal.right)) (λ other.
      tested _ _ (kept (decomposed_by goal one.arguments other.arguments one.inner other.inner))))
  never_on (step.Results left right certs) =
      after (found_or WrongShape (suffix_at left goal.left)) _ (part (suffix_at left goal.left))
      (λ one.
      after (found_or WrongShape (suffix_at right goal.right)) _ (part (suffix_at right goal.right))
      (λ other.
      tested _ _ (kept (resulting_by parts.fails goal left right one other))))

-- forming ends in a step, or in one of the other four ways
pub formed_ends : (parts : RuleParts) (goal : Option Equation) (hypotheses : List Rule) (s : Step) →
    formed parts goal hypotheses s ≡ Err NoMemory → ⊥
formed_ends parts None hypotheses s e = cc
formed_ends parts (Some goal) hypotheses s e = never_on parts hypotheses goal s e
