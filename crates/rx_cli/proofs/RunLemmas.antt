-- How a run ends, from what was answered and what was written.
use Rattle.std.proofs.Common.{◌≡◌, ◌∙◌, List, ℕ, Option, inr, refl}
use Rattle.rx_io.specs.Outside.{Names, AppendsPrefix}
use Rattle.rx_report.specs.declared.answer.Answer.{Answer}
use Rattle.rx_report.specs.declared.ends.Status.TheVariants as Ends
use Rattle.rx_cli.specs.Answers.{AnswersOrFails}
use Rattle.rx_report.specs.Reports.{text_in}
use Rattle.rx_report.specs.Ends.{status_in}
use Rattle.rx_cli.specs.Run.{RunEnds}
use Rattle.rx_command.specs.Commands.{command_of}

-- a part of the text was written
pub ends_cut : (held : Option Names) (read_fault write_fault : Type 0) (words : List (List ℕ))
    (old new : Option (List ℕ)) (answer : Answer) (text lent : List ℕ)
    → AnswersOrFails held read_fault (command_of words) answer → text ≡ text_in answer → lent ≡
    text →
    write_fault → AppendsPrefix old new lent →
    RunEnds held read_fault write_fault words old new Ends.WriteFault
ends_cut held read_fault write_fault words old new answer text lent answered is same fault put =
    inr (inr (refl, fault, (status_in answer, lent, (answer, answered, (refl, same ∙ is)), put)))
