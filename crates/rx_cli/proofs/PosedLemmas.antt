-- What a text that is read poses.
use Rattle.std.specs.Prelude.{◌≡◌, ℕ, List, Option, Some, None}
use Rattle.std.proofs.Common.{inl, inr, subst}
use Rattle.c_front.specs.declared.stages.Next.TheVariants.{Ends, Goes}
use Rattle.rx_command.specs.Commands.{Comparison, Compare, Induction, Rules}
use Rattle.rx_io.specs.Outside.{HoldsBytes, Names}
use Rattle.rx_report.specs.declared.verdicts.Verdict.{Verdict}
use Rattle.rx_report.specs.declared.verdicts.Verdict.TheVariants as Said
use Rattle.rx_cli.specs.Problems.{asked, longest_source, posed}
use Rattle.rx_cli.specs.Answers.{file_in, functions_in}
use Rattle.rx_cli.specs.Posed.{Poses, Posing}
use Rattle.rx_cli.specs.Steps.{PosesIn, PosesOf, Reads}
use Rattle.rx_cli.specs.declared.problems.Problem.{Problem}

module _ (held : Option Names) (fault : Type 0) (file : List ℕ) (posing : Posing) where
  -- a text that can't be read poses nothing
  pub poses_unread : (verdict : Verdict) →
      Reads held fault file longest_source Said.LongSource (Ends verdict) →
      PosesIn held fault file posing None
  poses_unread verdict (inl (more, is)) = inl (inr (inr more))
  poses_unread verdict (inr (inl found, is)) = inl (inl found)
  poses_unread verdict (inr (inr missing, is)) = inl (inr (inl missing))

  poses_bytes : (source : List ℕ) (problem : Option Problem) → HoldsBytes held file source →
      PosesOf posing source problem → PosesIn held fault file posing problem
  poses_bytes source None holds (verdict, none) = inr (source, holds, (verdict, none))
  poses_bytes source (Some problem) holds poses = (source, holds, poses)

  -- what the bytes that were read pose is what the text poses
  pub poses_read : (source given : List ℕ) (problem : Option Problem) →
      HoldsBytes held file source → given ≡ source → PosesOf posing given problem →
      PosesIn held fault file posing problem
  poses_read source given problem holds same poses =
      poses_bytes source problem holds
      (subst (λ (bytes : List ℕ). PosesOf posing bytes problem) same poses)

-- what the text of the functions that are compared poses
pub poses_compared : (held : Option Names) (fault : Type 0) (comparison : Comparison)
    (problem : Option Problem) →
    PosesIn held fault (functions_in comparison).file (asked (functions_in comparison)) problem →
    Poses held fault (Some (Compare comparison)) problem
poses_compared held fault comparison None lacks = lacks
poses_compared held fault comparison (Some problem) poses = poses

-- what a rule text poses
pub poses_rules : (held : Option Names) (fault : Type 0) (task : Induction)
    (problem : Option Problem) → PosesIn held fault (file_in task) posed problem →
    Poses held fault (Some (Rules task)) problem
poses_rules held fault task None lacks = lacks
poses_rules held fault task (Some problem) poses = poses
