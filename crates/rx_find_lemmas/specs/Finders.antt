-- Which answers of a finder of lemmas are right, and which closures always give such.
use Rattle.std.specs.Prelude.{◌≡◌, ℕ, zero, suc, All, Option, Some, None, Result, Ok, Err, List, map}
use Rattle.std.specs.Fn.{Mut, Called}
use denote.Ref.{Bor, MutBor}
use Rattle.rx_cert.specs.declared.cert.Cert.{Cert}
use Rattle.rx_fm.specs.declared.fm_end.FmEnd.{FmEnd}
use Rattle.rx_fm.specs.declared.fm_end.FmEnd.TheVariants.{Large}
use Rattle.rx_row.specs.declared.row.Row.{Row}
use Rattle.rx_solve.specs.Answers.{IsSolver}
use Rattle.rx_solve.specs.Attempts.{applies}
use Rattle.rx_term.specs.declared.rule.Equation.{Equation}
use Rattle.rx_term.specs.declared.rule_set.RuleParts.{RuleParts}
use Rattle.rx_steps.specs.Alone.{alone}
use Rattle.rx_moves.specs.Answers.{IsTaken}
use Rattle.rx_moves.specs.Moves.{Generalise}
use Rattle.rx_find_lemmas.specs.Finding.{attempted, lemmas_at}
use Rattle.rx_find_lemmas.specs.Lemmas.{general, step_to}
use Rattle.rx_find_lemmas.specs.declared.lemma.Lemma.{Lemma}

-- ---- answers

module _ (parts : RuleParts) (goal : Equation) where
  -- the refuter shows what the step to the lemma asks, where the goal is alone; and so do the
  -- certificates, each at most 174 deep: by them the step makes the lemma alone of it
  pub record IsShown (lemma : Lemma) : Type 0 where
    pub shown : attempted parts goal (general lemma) ≡
        applies (record { move = Generalise lemma.goal lemma.subst; state = alone lemma.goal })
    pub taken : IsTaken parts (alone goal) (alone lemma.goal) (step_to lemma)

  -- all lemmas of the goal, in order, each shown
  pub record AreLemmas (found : List Lemma) : Type 0 where
    pub all : lemmas_at parts goal ≡ Some (map general found)
    pub shown : All IsShown found

  -- an answer that has them, or says that something passes the limits; that memory runs out is free
  abbrev pub FindsLemmas : Result (List Lemma) FmEnd → Type 0
  FindsLemmas (Ok found) = AreLemmas found
  FindsLemmas (Err e) = e ≡ Large → lemmas_at parts goal ≡ None

-- ---- closures

-- what a call is given: a goal, rules, and a solver that it may ask
abbrev pub Given : Type 0 → Type 0
Given S = Bor Equation × (Bor RuleParts × (MutBor S × Unit {0}))

-- what it gives back: its answer, and the solver
abbrev pub Back : Type 0 → Type 0
Back S = Result (List Lemma) FmEnd × (MutBor S × Unit {0})

module _ {S L : Type 0} (s : Mut S (Bor (List Row) × Unit {0}) (Result (Option Cert) FmEnd))
    (g : Mut L (Given S) (Back S)) where
  -- a call finds the lemmas, and the solver stays one
  pub record Finds (given : Given S) (back : Back S) : Type 0 where
    pub answer : FindsLemmas given.1.0.now given.0.now back.0
    pub solver : IsSolver s back.1.0.now

  -- so many calls, one after the other, may be made with a solver each, and find the lemmas
  abbrev pub FindsEach : ℕ → L → Type 0
  FindsEach zero f = Unit {0}
  FindsEach (suc n) f = (given : Given S) → IsSolver s given.1.1.0.now →
      g.pre f given × ((back : Back S) (f' : L) → Called g f given back f' →
      Finds given back × FindsEach n f')

  -- a closure that may be called again and again with a solver, and finds the lemmas each time
  pub record IsLemmaFinder (f : L) : Type 0 where
    pub calls : (n : ℕ) → FindsEach n f
