-- What the calls say that a trial is made of: forming a step, and showing what it asks.
use Rattle.std.specs.Prelude.{◌≡◌, ◌≤◌, All, Ok, Err, List, slice_get}
use Rattle.rx_cert.specs.Depth.{cert_depth}
use Rattle.rx_cert.specs.Findings.{Yes, No, Beyond}
use Rattle.rx_cert.specs.declared.cert.Cert.{Cert}
use Rattle.rx_row.specs.declared.row.Row.{Row}
use Rattle.rx_solve.specs.Attempts.{fails}
use Rattle.rx_solve.specs.Bounds.{most_deep}
use Rattle.rx_solve.specs.declared.showing.AllShown.{AllShown}
use Rattle.rx_solve.specs.declared.showing.AllShown.TheVariants as all
use Rattle.rx_inference.specs.Forming.{Forming}
use Rattle.rx_inference.specs.Judging.{Shown, judged}
use Rattle.rx_inference.specs.Kinds.{formed}
use Rattle.rx_inference.specs.States.{State}
use Rattle.rx_inference.specs.declared.form_end.FormEnd.TheVariants.{Large}
use Rattle.rx_inference.specs.declared.formed_step.Asked.{Asked}
use Rattle.rx_inference.specs.declared.formed_step.FormedStep.{FormedStep}
use Rattle.rx_inference.specs.declared.step.Step.{Step}
use Rattle.rx_term.specs.declared.rule_set.RuleParts.{RuleParts}
use Rattle.rx_moves.specs.Moves.{Move}
use Rattle.rx_moves.specs.Trying.{asked_shown, next_if_formed}
use Rattle.rx_moves.specs.declared.formation.Formation.{Formation}
use Rattle.rx_moves.specs.declared.formation.Formation.TheVariants.{Formed, Refused, TooLarge}

-- what forming a step on the first goal of a state comes to
unfoldable pub formed_first : RuleParts → State → Step → Forming FormedStep
formed_first parts state step = formed parts (slice_get state.goals 0) state.hypotheses step

-- what forming comes to: a formed step, a refusal, by which no move applies, or the limits
abbrev pub IsFormation : Forming FormedStep → Formation → Type 0
IsFormation forming (Formed f) = forming ≡ Ok f
IsFormation forming Refused =
    (state : State) (move : Move) → next_if_formed state move forming ≡ fails
IsFormation forming TooLarge = forming ≡ Err Large

-- the certificates show what is asked, and none is deeper than the refuter's are
pub record AreProofs (given new : List Row) (asked : Asked) (certs : List Cert) : Type 0 where
  pub said : asked_shown given new asked ≡ Yes
  pub shows : judged given new asked certs ≡ Shown
  pub deep : All (λ cert. cert_depth cert ≤ most_deep) certs

unfoldable pub ShownBy : List Row → List Row → Asked → List Cert → Type 0
ShownBy given new asked certs = AreProofs given new asked certs

-- what is asked is shown with those certificates, it isn't, or it passes the limits
abbrev pub IsAskedShown : List Row → List Row → Asked → AllShown → Type 0
IsAskedShown given new asked (all.Shown certs) = ShownBy given new asked certs
IsAskedShown given new asked all.NotShown = asked_shown given new asked ≡ No
IsAskedShown given new asked all.TooLarge = asked_shown given new asked ≡ Beyond
