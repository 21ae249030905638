-- A step with the certificates of what it asks is formed as without them, and they show it.
use Rattle.std.proofs.Common.{◌≡◌, ◌∙◌, ap, sym, refl, true, Option, Some, None, Ok, List, ◌≤◌}
use Rattle.std.specs.Prelude.{All}
use Rattle.std.proofs.lemmas.List.Elements.{All-nil}
use Rattle.rx_cert.specs.Depth.{cert_depth}
use Rattle.rx_cert.specs.declared.cert.Cert.{Cert}
use Rattle.rx_row.specs.declared.row.Row.{Row}
use Rattle.rx_term.specs.Meaning.{redex_of}
use Rattle.rx_term.specs.declared.rule.Equation.{Equation}
use Rattle.rx_term.specs.declared.rule.Rule.{Rule}
use Rattle.rx_term.specs.declared.rule_set.RuleParts.{RuleParts}
use Rattle.rx_inference.specs.Forming.{found_or}
use Rattle.rx_inference.specs.Judging.{Shown, certificates, judged}
use Rattle.rx_inference.specs.Kinds.{formed, formed_on}
use Rattle.rx_inference.specs.Pieces.{side_of}
use Rattle.rx_inference.specs.declared.form_end.FormEnd.TheVariants.{WrongShape}
use Rattle.rx_inference.specs.declared.formed_step.FormedStep.{FormedStep}
use Rattle.rx_inference.specs.declared.step.Delete.TheVariants as delete
use Rattle.rx_inference.specs.declared.step.Step.{Step}
use Rattle.rx_inference.specs.declared.step.Step.TheVariants as step
use Rattle.rx_settle.specs.Certified.{asks_rows, certified}
use Rattle.rx_moves.specs.Moves.{move_of, step_of}
use Rattle.rx_moves.proofs.AskingNothing.{after, kept, none_shows, tested}
use Rattle.rx_moves.proofs.MoveForms.{as_move}

-- other certificates leave the move
pub certified_move : (s : Step) (certs : List Cert) → move_of (certified s certs) ≡ move_of s
certified_move (step.Simplify side rule old) certs = refl
certified_move (step.Hyp side place hyp subst old) certs = refl
certified_move (step.Expand side keep) certs = refl
certified_move (step.Delete (delete.Absurd cert)) certs = refl
certified_move (step.Delete (delete.Equal old)) certs = refl
certified_move step.EqDelete certs = refl
certified_move (step.Generalise left right rows subst old) certs = refl
certified_move (step.Postulate left right rows old) certs = refl
certified_move (step.Split row) certs = refl
certified_move (step.Decompose old) certs = refl
certified_move (step.Results left right old) certs = refl

-- so the step is formed as before
pub certified_formed : (parts : RuleParts) (goal : Option Equation) (hypotheses : List Rule)
    (s : Step) (certs : List Cert) →
    formed parts goal hypotheses (certified s certs) ≡ formed parts goal hypotheses s
certified_formed parts goal hypotheses s certs =
    as_move parts hypotheses goal (certified s certs)
    ∙ ap (λ m. formed parts goal hypotheses (step_of m)) (certified_move s certs)
    ∙ sym (as_move parts hypotheses goal s)

-- ---- certificates

module _ (parts : RuleParts) (hypotheses : List Rule) (goal : Equation) (old new : List Row)
    (certs : List Cert) (f : FormedStep) where
  shown_on : (s : Step) → asks_rows s ≡ true → formed_on parts goal hypotheses s ≡ Ok f →
      judged old new f.asked certs ≡ Shown →
      judged old new f.asked (certificates (certified s certs)) ≡ Shown
  shown_on (step.Simplify side rule before) rows is shows = shows
  shown_on (step.Hyp side place hyp subst before) rows is shows = shows
  shown_on (step.Expand side keep) rows is shows =
      none_shows old new f (after (found_or WrongShape (redex_of (side_of side goal))) _
      (λ redex. kept _ refl) f is)
  shown_on (step.Delete (delete.Absurd cert)) rows is shows = cc
  shown_on (step.Delete (delete.Equal before)) rows is shows = shows
  shown_on step.EqDelete rows is shows = none_shows old new f (tested _ _ (kept _ refl) f is)
  shown_on (step.Generalise left right more subst before) rows is shows = shows
  shown_on (step.Postulate left right more before) rows is shows = shows
  shown_on (step.Split row) rows is shows = none_shows old new f (tested _ _ (kept _ refl) f is)
  shown_on (step.Decompose before) rows is shows = shows
  shown_on (step.Results left right before) rows is shows = shows

-- the certificates that show what is asked are those that the step has then
pub certified_shown : (parts : RuleParts) (goal : Option Equation) (hypotheses : List Rule)
    (old new : List Row) (certs : List Cert) (f : FormedStep) (s : Step) →
    asks_rows s ≡ true → formed parts goal hypotheses s ≡ Ok f → judged old new f.asked certs ≡
    Shown →
    judged old new f.asked (certificates (certified s certs)) ≡ Shown
certified_shown parts None hypotheses old new certs f s rows is shows = cc
certified_shown parts (Some goal) hypotheses old new certs f s rows is shows =
    shown_on parts hypotheses goal old new certs f s rows is shows

abbrev IsDeep : Cert → Type 0
IsDeep cert = cert_depth cert ≤ 174

-- nor is one deeper
pub certified_deep : (s : Step) (certs : List Cert) → asks_rows s ≡ true → All IsDeep certs →
    All IsDeep (certificates (certified s certs))
certified_deep (step.Simplify side rule before) certs rows deep = deep
certified_deep (step.Hyp side place hyp subst before) certs rows deep = deep
certified_deep (step.Expand side keep) certs rows deep = All-nil IsDeep
certified_deep (step.Delete (delete.Absurd cert)) certs rows deep = cc
certified_deep (step.Delete (delete.Equal before)) certs rows deep = deep
certified_deep step.EqDelete certs rows deep = All-nil IsDeep
certified_deep (step.Generalise left right more subst before) certs rows deep = deep
certified_deep (step.Postulate left right more before) certs rows deep = deep
certified_deep (step.Split row) certs rows deep = All-nil IsDeep
certified_deep (step.Decompose before) certs rows deep = deep
certified_deep (step.Results left right before) certs rows deep = deep
