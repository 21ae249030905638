-- The rows that put a term inside the domains, collected frame by frame.
use Rattle.std.proofs.Common.{◌≡◌, ◌∙◌, ap, sym, refl, ℕ, Bool, true, ◌&&◌, List, [], ◌++◌, append_assoc}
use Rattle.rx_plain.specs.Formed.{Formed, pure}
use Rattle.rx_poly.specs.declared.body.Body.{Body}
use Rattle.rx_row.specs.declared.row.Row.{Row}
use Rattle.rx_term.specs.Domains.{inside_level, inside_rows, rows_at}
use Rattle.rx_term.specs.declared.rule_set.RuleParts.{RuleParts}
use Rattle.rx_term.specs.declared.term.Sym.{Sym}
use Rattle.rx_term.specs.declared.term.Term.{Term}
use Rattle.rx_term.specs.declared.term.Term.TheFolds.{fold_out-Term}
use Rattle.rx_term.specs.declared.term.Term.TheVariants.{Return, Fail, Call, Frame, outs-Return, outs-Fail, outs-Call, outs-Frame}

-- ---- of each form of a term

pub inside-Return : (parts : RuleParts) (p : Body) → inside_rows parts (Return p) ≡ pure []
inside-Return parts p =
    fold_out-Term (Formed (List Row)) (inside_level parts) (Return p) ∙ rw (outs-Return p) refl

pub inside-Fail : (parts : RuleParts) (c : ℕ) → inside_rows parts (Fail c) ≡ pure []
inside-Fail parts c =
    fold_out-Term (Formed (List Row)) (inside_level parts) (Fail c) ∙ rw (outs-Fail c) refl

pub inside-Call : (parts : RuleParts) (f : Sym) (ps : List Body) →
    inside_rows parts (Call f ps) ≡ rows_at parts f.0 ps
inside-Call parts f ps =
    fold_out-Term (Formed (List Row)) (inside_level parts) (Call f ps) ∙ rw (outs-Call f ps) refl

-- the rows of a frame before those of what is under it
abbrev pub over_rows : Formed (List Row) → Formed (List Row) → Formed (List Row)
over_rows own inner = record {
  form = own.form ++ inner.form;
  within = own.within && inner.within;
}

pub inside-Frame : (parts : RuleParts) (f : Sym) (ps : List Body) (t : Term) →
    inside_rows parts (Frame f ps t) ≡ over_rows (rows_at parts f.0 ps) (inside_rows parts t)
inside-Frame parts f ps t =
    fold_out-Term (Formed (List Row)) (inside_level parts) (Frame f ps t) ∙
    rw (outs-Frame f ps t) refl

-- ---- in turn

-- what was collected, and what the part that is left still adds and decides
pub record Collecting (parts : RuleParts) (made : List Row) (here whole : Term) : Type 0 where
  pub form : made ++ (inside_rows parts here).form ≡ (inside_rows parts whole).form
  pub within : (inside_rows parts here).within ≡ (inside_rows parts whole).within

module _ {parts : RuleParts} {made rows new : List Row} {here whole : Term} (f : Sym)
    (ps : List Body) (so : Collecting parts made here whole)
    (formed : (rows ≡ (rows_at parts f.0 ps).form) × ((rows_at parts f.0 ps).within ≡ true))
    (added : new ≡ made ++ rows) where
  -- the rows of a call are the last
  pub after_call : here ≡ Call f ps → (new ≡ (inside_rows parts whole).form) ×
      ((inside_rows parts whole).within ≡ true)
  after_call is =
      let last = ap (inside_rows parts) is ∙ inside-Call parts f ps in (
        added ∙ ap (λ (rs : List Row). made ++ rs)
            (formed.0 ∙ sym (ap (λ (r : Formed (List Row)). r.form) last))
            ∙ so.form,
        sym so.within ∙ ap (λ (r : Formed (List Row)). r.within) last ∙ formed.1,
      )

  -- those of a frame leave it to the part under it
  pub after_frame : (inner : Term) → here ≡ Frame f ps inner → Collecting parts new inner whole
  after_frame inner is =
      let last = ap (inside_rows parts) is ∙ inside-Frame parts f ps inner in
      let more : List Row = (inside_rows parts inner).form in
      record {
        form =
            ap (λ (rs : List Row). rs ++ more) added ∙ append_assoc made rows more ∙
            ap (λ (rs : List Row). made ++ (rs ++ more)) formed.0 ∙
            ap (λ (rs : List Row). made ++ rs)
            (sym (ap (λ (r : Formed (List Row)). r.form) last))
            ∙ so.form;
        within =
            ap (λ (b : Bool). b && (inside_rows parts inner).within) (sym formed.1) ∙
            sym (ap (λ (r : Formed (List Row)). r.within) last) ∙ so.within;
      }
