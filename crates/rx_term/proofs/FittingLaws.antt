-- Fitting terms have fitting ground terms.
use Rattle.std.proofs.Common.{◌≡◌, ◌∙◌, sym, subst, Bool, true, false, ℕ, Option, Some, None, List, length, ℤ}
use Rattle.std.specs.Prelude.{slice_get, nat_eq, nat_le}
use Rattle.std.specs.Option.{option_map}
use Rattle.std.proofs.lemmas.Bool.{and_parts, eqb-true, leb-true}
use Rattle.std.proofs.lemmas.List.{length-map}
use Rattle.std.proofs.lemmas.Option.{slice_get-map}
use Rattle.rx_poly.specs.Value.{value}
use Rattle.rx_poly.specs.declared.body.Body.{Body}
use Rattle.rx_rewriting.specs.Terms.{Declares, Fits}
use Rattle.rx_term.specs.Fitting.{is_alike, is_declared, term_fits}
use Rattle.rx_term.specs.Meaning.{values, ground_at, signature, symbol_of}
use Rattle.rx_term.specs.declared.rule_set.RuleParts.{RuleParts}
use Rattle.rx_term.specs.declared.rule_set.SymInfo.{SymInfo}
use Rattle.rx_term.specs.declared.term.Sym.{Sym}
use Rattle.rx_term.specs.declared.term.Term.{Term}
use Rattle.rx_term.specs.declared.term.Term.TheVariants.{Return, Fail, Call, Frame}
use Rattle.rx_term.proofs.Equations.{induct, fits-Fail, fits-Call, fits-Frame, ground-Return, ground-Fail, ground-Call, ground-Frame}
use Rattle.rx_term.proofs.ShapeLaws.{alike, declared_so}

told : (o : Option SymInfo) (b : Bool) (n : ℕ) → declared_so o b n ≡ true → option_map symbol_of o ≡
    Some (record { arity = n; is_frame = b })
told None b n h = cc
told (Some s) b n h =
    let both = and_parts (is_alike s.frame b) (nat_eq s.arity n) h in
    let arity : s.arity ≡ n = eqb-true s.arity n both.1 in
    let frame : s.frame ≡ b = alike s.frame b both.0 in
    (λ i. Some (record { arity = arity i; is_frame = frame i }))

-- a symbol that is declared is so in the signature
pub declares : (parts : RuleParts) (f : Sym) (b : Bool) (n : ℕ) → is_declared parts.symbols f b n ≡
    true → Declares (signature parts) f.0 b n
declares parts f b n h =
    slice_get-map symbol_of parts.symbols f.0 ∙ told (slice_get parts.symbols f.0) b n h

module _ (parts : RuleParts) (a : ℕ → ℤ) where
  abbrev Fitting : Term → Type 0
  Fitting t = term_fits parts t ≡ true → Fits (signature parts) (ground_at a t)

  fitting_return : (p : Body) → Fitting (Return p)
  fitting_return p h = subst (Fits (signature parts)) (sym (ground-Return a p)) tt

  fitting_fail : (c : ℕ) → Fitting (Fail c)
  fitting_fail c h =
      let both = and_parts (nat_le 1 c) (nat_le c parts.fails) (sym (fits-Fail parts c) ∙ h) in
      subst (Fits (signature parts)) (sym (ground-Fail a c))
      (leb-true 1 c both.0, leb-true c parts.fails both.1)

  declared_values : (f : Sym) (b : Bool) (ps : List Body) →
      is_declared parts.symbols f b (length ps) ≡ true →
      Declares (signature parts) f.0 b (length (values a ps))
  declared_values f b ps h =
      subst (Declares (signature parts) f.0 b) (sym (length-map ps (value a)))
      (declares parts f b (length ps) h)

  fitting_call : (f : Sym) (ps : List Body) → Fitting (Call f ps)
  fitting_call f ps h =
      subst (Fits (signature parts)) (sym (ground-Call a f ps))
      (declared_values f false ps (sym (fits-Call parts f ps) ∙ h))

  fitting_frame : (f : Sym) (ps : List Body) (t : Term) → Fitting t → Fitting (Frame f ps t)
  fitting_frame f ps t inner h =
      let both = and_parts (is_declared parts.symbols f true (length ps)) (term_fits parts t)
      (sym (fits-Frame parts f ps t) ∙ h) in
      subst (Fits (signature parts)) (sym (ground-Frame a f ps t))
      (declared_values f true ps both.0, inner both.1)

  -- the ground term of a fitting term fits
  pub ground_fits : (t : Term) → term_fits parts t ≡ true → Fits (signature parts) (ground_at a t)
  ground_fits = induct Fitting fitting_return fitting_fail fitting_call fitting_frame
