-- What is said of the log in a file names what its replay answers.
use Rattle.std.proofs.Common.{ℕ, List, Option, Ok, Err, inl, inr, refl, sym, subst}
use Rattle.c_front.specs.declared.stages.Next.{Next}
use Rattle.c_front.specs.declared.stages.Next.TheVariants.{Ends, Goes}
use Rattle.rx_io.specs.Outside.{Names}
use Rattle.rx_log.specs.Acceptance as acceptance
use Rattle.rx_logfile.specs.LogFiles.{OnFile}
use Rattle.rx_logfile.specs.declared.file_end.FileEnd.{FileEnd}
use Rattle.rx_logfile.specs.declared.file_end.FileEnd.TheVariants as end
use Rattle.rx_cli.specs.declared.problems.Problem.{Problem}
use Rattle.rx_report.specs.declared.verdicts.Verdict.{Verdict}
use Rattle.rx_report.specs.declared.verdicts.Verdict.TheVariants as Said
use Rattle.rx_cli.specs.Checks.{longest_log}
use Rattle.rx_cli.specs.Steps.{ChecksRead, OnNext, Reads, SaidOfNamed, SaysEndOfLog}
use Rattle.rx_report.specs.Texts.{IsReportableVerdict}
use Rattle.rx_cli.proofs.AnswerLemmas.{said_read, said_unread}
use Rattle.rx_cli.proofs.LogFaults.{verdict_said}

module _ (held : Option Names) (fault : Type 0) (name : List ℕ) (problem : Problem) where
  pub accepted_said : OnFile held fault name longest_log problem.rules problem.goal (Ok tt) →
      ChecksRead held fault name problem Said.Equivalent
  accepted_said told = record {
    next = Goes told.bytes;
    reads = (told.holds, told.within);
    on = inr (told.said.0, told.said.1.0, (acceptance.Accepted, told.said.1.1, refl));
  }

  pub end_said : (why : FileEnd) (verdict : Verdict) → SaysEndOfLog why verdict →
      OnFile held fault name longest_log problem.rules problem.goal (Err why)
      → ChecksRead held fault name problem verdict × IsReportableVerdict verdict
  end_said end.Failed verdict is told =
      let line : IsReportableVerdict verdict = subst IsReportableVerdict (sym is) tt in
      (record { next = Ends Said.ReadFault; reads = inr (told, refl); on = is }, line)
  end_said end.TooLong verdict is told =
      let line : IsReportableVerdict verdict = subst IsReportableVerdict (sym is) tt in
      (record { next = Ends Said.LongLog; reads = inl (told, refl); on = is }, line)
  end_said (end.BadLine number) verdict is told =
      let line : IsReportableVerdict verdict = subst IsReportableVerdict (sym is) tt in (
        record {
          next = Goes told.bytes;
          reads = (told.holds, told.within);
          on =
              inl (number, told.said, is);
        },
        line,
      )
  end_said (end.Check why) verdict is told =
      let said = verdict_said problem told.said.0 why verdict is told.said.1.1 in (
        record {
          next = Goes told.bytes;
          reads = (told.holds, told.within);
          on =
              inr (told.said.0, told.said.1.0, said.0);
        },
        said.1,
      )
  end_said end.NoMemory verdict is told = absurd is

module _ (held : Option Names) (fault : Type 0) (name : List ℕ) (problem : Problem)
    (verdict : Verdict) where
  by_next : (next : Next Verdict (List ℕ)) → Reads held fault name longest_log Said.LongLog next →
      OnNext problem next verdict → SaidOfNamed held fault name problem verdict
  by_next (Ends end) reads is =
      said_unread held fault name problem verdict
      (subst (λ v. Reads held fault name longest_log Said.LongLog (Ends v)) (sym is) reads)
  by_next (Goes bytes) reads on =
      said_read held fault name problem verdict bytes reads.0 reads.1 on

  -- what is said of a log that is read is said of the problem
  pub read_said : ChecksRead held fault name problem verdict →
      SaidOfNamed held fault name problem verdict
  read_said read = by_next read.next read.reads read.on
