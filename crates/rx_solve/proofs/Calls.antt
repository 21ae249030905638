-- What is known of a solver gives what a call answers, and is known after the call again; and which
-- closures are solvers.
use Rattle.std.proofs.Common.{refl, Option, Result, List, [], ◌∷◌}
use Rattle.std.proofs.lemmas.Fn.{answers_by}
use Rattle.std.specs.Fn.{Mut, Called}
use denote.Ref.{Bor}
use denote.Param.Always.{mut_next, mut_total, mut_by}
use Rattle.rx_row.specs.declared.row.Row.{Row}
use Rattle.rx_cert.specs.declared.cert.Cert.{Cert}
use Rattle.rx_fm.specs.declared.fm_end.FmEnd.{FmEnd}
use Rattle.rx_solve.specs.Answers.{Answers, AnswersCall, IsSolver}

module _ {F : Type 0} (g : Mut F (Bor (List Row) × Unit {0}) (Result (Option Cert) FmEnd)) where
  pub answer_now : {f f' : F} {a : Bor (List Row) × Unit {0}} {r : Result (Option Cert) FmEnd} →
      IsSolver g f → Called g f a r f' → Answers a.0.now r
  answer_now {f} {f'} {a} {r} k e = (k.answers.at (a ∷ []) r f' e).0

  pub solver_then : {f f' : F} {a : Bor (List Row) × Unit {0}} {r : Result (Option Cert) FmEnd} →
      IsSolver g f → Called g f a r f' → IsSolver g f'
  solver_then {f} {f'} {a} {r} k e = record {
    callable = mut_next g f a r f' f' e refl k.callable;
    answers = record { at = λ xs. (k.answers.at (a ∷ xs) r f' e).1 };
  }

  pub solver_by : ((f : F) (a : Bor (List Row) × Unit {0}) → g.pre f a) →
      ((f : F) (a : Bor (List Row) × Unit {0}) (r : Result (Option Cert) FmEnd) (f' : F) →
      Called g f a r f' → Answers a.0.now r) → (f : F) → IsSolver g f
  solver_by asks says f = record {
    callable = mut_total g f asks;
    answers = answers_by g AnswersCall (λ h. Unit {0}) (λ h a r h' k i. (says h a r h' k, tt)) f tt;
  }

  pub solver_while : (I : F → Type 0) → ((f : F) (a : Bor (List Row) × Unit {0}) → I f → g.pre f a)
      → ((f : F) (a : Bor (List Row) × Unit {0}) (r : Result (Option Cert) FmEnd) (f' : F) →
      Called g f a r f' → I f → Answers a.0.now r × I f') → (f : F) → I f → IsSolver g f
  solver_while I asks says f i = record {
    callable = mut_by g I asks (λ s a r t j e. (says s a r t e j).1) f i;
    answers = answers_by g AnswersCall I (λ h a r h' k j. says h a r h' k j) f i;
  }
