-- Terms simplified again and again: what is left to do decides.
use Rattle.std.proofs.Common.{◌≡◌, ◌∙◌, ap, sym, refl, ℕ, zero, suc, ◌+◌, ◌-◌, ◌<◌, ◌≤◌, true, false, Option, Some, None, List, arith}
use Rattle.rx_plain.specs.Formed.{Formed, pure, ◌>>=◌}
use Rattle.rx_plain.proofs.Forming.{then_false, then_true}
use Rattle.rx_poly.specs.declared.body.Body.{Body}
use Rattle.rx_term.specs.Meaning.{redex_of}
use Rattle.rx_term.specs.declared.rule.Rule.{Rule}
use Rattle.rx_term.specs.declared.term.Sym.{Sym}
use Rattle.rx_term.specs.declared.term.Term.{Term}
use Rattle.rx_term.specs.declared.term.Term.TheVariants.{Return, Fail, Call, Frame, outs-Return, outs-Fail, outs-Call, outs-Frame}
use Rattle.rx_match.specs.Simplification.{free_rule, returned, returned_level, simplified, simplified_at, simplified_by, simplified_often, then_on}

-- ---- what a term returns

pub returned-Return : (p : Body) → returned (Return p) ≡ Some p
returned-Return p = ap returned_level (outs-Return p)

pub returned-Fail : (c : ℕ) → returned (Fail c) ≡ None
returned-Fail c = ap returned_level (outs-Fail c)

pub returned-Call : (f : Sym) (ps : List Body) → returned (Call f ps) ≡ None
returned-Call f ps = ap returned_level (outs-Call f ps)

pub returned-Frame : (f : Sym) (ps : List Body) (t : Term) → returned (Frame f ps t) ≡ None
returned-Frame f ps t = ap returned_level (outs-Frame f ps t)

-- ---- one step

module _ (rules : List Rule) (t : Term) where
  -- there is no redex
  pub no_redex : None ≡ redex_of t → simplified rules t ≡ pure None
  no_redex e = ap (simplified_at rules t) (sym e)

  -- there is one, and no rule for it
  pub no_rule : (redex : Term) → Some redex ≡ redex_of t → None ≡ free_rule rules redex →
      simplified rules t ≡ pure None
  no_rule redex e f =
      ap (simplified_at rules t) (sym e) ∙ ap (simplified_by t redex) (sym f)

  -- there is a rule for it
  pub by_free_rule : (redex : Term) (rule : Rule) → Some redex ≡ redex_of t →
      Some rule ≡ free_rule rules redex → simplified rules t ≡ simplified_by t redex (Some rule)
  by_free_rule redex rule e f =
      ap (simplified_at rules t) (sym e) ∙ ap (simplified_by t redex) (sym f)

-- ---- one step after the other

-- the term, simplified at most so many times, is the whole
pub record Simplifying (rules : List Rule) (t : Term) (left : ℕ) (whole : Formed Term) : Type 0
  where
    pub all : simplified_often rules left t ≡ whole

turn : (rules : List Rule) (n : ℕ) (t : Term) → simplified_often rules (suc n) t ≡
    (simplified rules t >>= (λ next. then_on t next (simplified_often rules n)))
unfolding simplified_often
turn rules n t = refl

ended : (rules : List Rule) (t : Term) → simplified_often rules zero t ≡ pure t
unfolding simplified_often
ended rules t = refl

module _ {rules : List Rule} {t : Term} {whole : Formed Term} (n i : ℕ) (h : i < n)
    (m : Simplifying rules t (n - i) whole) where
  abbrev later : Option Term → Formed Term
  later next = then_on t next (simplified_often rules (n - (i + 1)))

  opened : (simplified rules t >>= later) ≡ whole
  opened =
      let same : suc (n - (i + 1)) ≡ n - i = omega arith in
      sym (turn rules (n - (i + 1)) t) ∙ ap (λ k. simplified_often rules k t) same ∙ m.all

  -- a step beyond the limits decides
  pub no_step : (simplified rules t).within ≡ false → whole.within ≡ false
  no_step g =
      ap (λ (w : Formed Term). w.within) (sym opened) ∙ then_false (simplified rules t) later g

  after : (next : Option Term) → next ≡ (simplified rules t).form →
      (simplified rules t).within ≡ true → later next ≡ whole
  after next e g = ap later e ∙ sym (then_true (simplified rules t) later g) ∙ opened

  -- one within them leaves it to the others
  pub one_more : (next : Term) → Some next ≡ (simplified rules t).form →
      (simplified rules t).within ≡ true → Simplifying rules next (n - (i + 1)) whole
  one_more next e g = record { all = after (Some next) e g }

  -- no step is left to take
  pub no_more : None ≡ (simplified rules t).form → (simplified rules t).within ≡ true →
      (t ≡ whole.form) × (whole.within ≡ true)
  no_more e g =
      let end : pure t ≡ whole = after None e g in
      (ap (λ (w : Formed Term). w.form) end, sym (ap (λ (w : Formed Term). w.within) end))

-- as many steps as there may be were taken
pub all_taken : (rules : List Rule) (t : Term) (whole : Formed Term) (n i : ℕ) → n ≤ i →
    Simplifying rules t (n - i) whole → (t ≡ whole.form) × (whole.within ≡ true)
all_taken rules t whole n i h m =
    let none : 0 ≡ n - i = omega arith in
    let end : pure t ≡ whole = sym (ended rules t) ∙ ap (λ k. simplified_often rules k t) none ∙
    m.all in
    (ap (λ (w : Formed Term). w.form) end, sym (ap (λ (w : Formed Term). w.within) end))
