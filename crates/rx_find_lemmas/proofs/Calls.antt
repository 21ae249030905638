-- What is known of a finder gives what a call answers, and is known after the call again; and which
-- closures are finders.
use Rattle.std.proofs.Common.{ℕ, zero, suc, Option, Result, List}
use Rattle.std.specs.Fn.{Mut, Called}
use denote.Ref.{Bor}
use Rattle.rx_cert.specs.declared.cert.Cert.{Cert}
use Rattle.rx_fm.specs.declared.fm_end.FmEnd.{FmEnd}
use Rattle.rx_row.specs.declared.row.Row.{Row}
use Rattle.rx_solve.specs.Answers.{IsSolver}
use Rattle.rx_find_lemmas.specs.Finders.{Back, Finds, FindsEach, Given, IsLemmaFinder}

module _ {S L : Type 0} (s : Mut S (Bor (List Row) × Unit {0}) (Result (Option Cert) FmEnd))
    (g : Mut L (Given S) (Back S)) where
  module _ {f : L} {given : Given S} (is : IsLemmaFinder s g f)
      (solver : IsSolver s given.1.1.0.now) where
    pub may_find : g.pre f given
    may_find = (is.calls 1 given solver).0

    module _ {f' : L} {back : Back S} (called : Called g f given back f') where
      pub finds_now : Finds s g given back
      finds_now = ((is.calls 1 given solver).1 back f' called).0

      pub finder_then : IsLemmaFinder s g f'
      finder_then =
          record { calls = λ n. ((is.calls (suc n) given solver).1 back f' called).1 }

  -- what stays so at each call gives that it may be called, and what it finds
  module _ (I : L → Type 0)
      (may : (f : L) (given : Given S) → I f → IsSolver s given.1.1.0.now → g.pre f given)
      (says : (f : L) (given : Given S) (back : Back S) (f' : L) → Called g f given back f' →
      I f → IsSolver s given.1.1.0.now → Finds s g given back × I f') where
    each : (n : ℕ) (f : L) → I f → FindsEach s g n f
    each zero f i = tt
    each (suc n) f i = λ given solver. (
      may f given i solver,
      λ back f' called.
          let one = says f given back f' called i solver in (one.0, each n f' one.1),
    )

    pub finder_while : (f : L) → I f → IsLemmaFinder s g f
    finder_while f i = record { calls = λ n. each n f i }
