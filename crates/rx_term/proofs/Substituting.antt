-- A stack that is being rewritten frame by frame: what is there, in reverse order, and what the
-- part that is left still decides.
use Rattle.std.proofs.Common.{◌≡◌, ◌∙◌, ap, sym, true, false, ◌&&◌, ℕ, List}
use Rattle.std.proofs.lemmas.Bool.{and_left}
use Rattle.rx_poly.specs.declared.body.Body.{Body}
use Rattle.rx_term.specs.declared.term.Sym.{Sym}
use Rattle.rx_term.specs.declared.term.Term.{Term}
use Rattle.rx_term.specs.declared.term.Term.TheVariants.{Frame}
use Rattle.rx_term.specs.Stacks.{plug_reversed}
use Rattle.rx_term.specs.Substitution.{subst_polys, polys_within, subst_term, term_within}
use Rattle.rx_term.proofs.Equations.{plug_reversed-Frame, subst_term-Frame, within-Frame}

pub record Substituting (ws : List (ℕ × Body)) (upper here whole : Term) : Type 0 where
  pub made : plug_reversed upper (subst_term ws here) ≡ subst_term ws whole
  pub limits : term_within ws here ≡ term_within ws whole

module _ {ws : List (ℕ × Body)} {upper whole : Term} (f : Sym) (ps : List Body) (inner : Term)
    (s : Substituting ws upper (Frame f ps inner) whole) where
  -- a frame beyond the limits is one of all
  pub no_frame : polys_within ws ps ≡ false → term_within ws whole ≡ false
  no_frame e =
      sym s.limits ∙ within-Frame ws f ps inner ∙
      and_left (polys_within ws ps) (term_within ws inner) e

  -- one within them leaves it to the part under it
  pub after_frame : polys_within ws ps ≡ true →
      Substituting ws (Frame f (subst_polys ws ps) upper) inner whole
  after_frame e = record {
    made =
        plug_reversed-Frame f (subst_polys ws ps) upper (subst_term ws inner) ∙
        ap (plug_reversed upper) (sym (subst_term-Frame ws f ps inner)) ∙ s.made;
    limits =
        ap (λ b. b && term_within ws inner) (sym e) ∙ sym (within-Frame ws f ps inner) ∙ s.limits;
  }
