-- Polynomials that are being changed one by one: those that are there, and what those that are left
-- still decide.
use Rattle.std.proofs.Common.{◌≡◌, ◌∙◌, ap, subst, true, false, ◌&&◌, refl, sym, ℕ, suc, ◌+◌, ◌<◌, ◌≤◌, List, [], ◌∷◌, ◌++◌, length, drop, get_or, drop_of_length-le, append_assoc, add-one}
use Rattle.std.proofs.Math.Seq.{drop-cons}
use Rattle.std.proofs.lemmas.Bool.{and_left}
use Rattle.std.proofs.lemmas.List.{append-nil}
use Rattle.rx_poly.specs.Substitution.{subst_body}
use Rattle.rx_poly.specs.declared.body.Body.{Body}
use Rattle.rx_term.specs.Substitution.{subst_polys, polys_within}

-- the polynomials that are there already, and those that are left
pub record Changing (ws : List (ℕ × Body)) (done rest whole : List Body) : Type 0 where
  pub made : done ++ subst_polys ws rest ≡ subst_polys ws whole
  pub limits : polys_within ws rest ≡ polys_within ws whole

pub begin : (ws : List (ℕ × Body)) (ps : List Body) → Changing ws [] (drop 0 ps) ps
begin ws ps = record { made = refl; limits = refl }

module _ {ws : List (ℕ × Body)} {done : List Body} (ps : List Body) (i : ℕ) {p : Body}
    (h : i < length ps) (is : p ≡ get_or ps i p) (s : Changing ws done (drop i ps) ps) where
  opened : Changing ws done (p ∷ drop (suc i) ps) ps
  opened =
      subst (λ rest. Changing ws done rest ps)
      (drop-cons ps i p h ∙ ap (λ r. r ∷ drop (suc i) ps) (sym is)) s

  -- one beyond the limits is one of all
  pub no_poly : (subst_body ws p).within ≡ false → polys_within ws ps ≡ false
  no_poly f =
      sym opened.limits ∙ and_left (subst_body ws p).within (polys_within ws (drop (suc i) ps)) f

  -- one within them leaves it to the rest
  pub after_poly : {next : List Body} → next ≡ done ++ (subst_body ws p).form ∷ [] →
      (subst_body ws p).within ≡ true → Changing ws next (drop (i + 1) ps) ps
  after_poly {next} e f =
      subst (λ n. Changing ws next (drop n ps) ps) (sym (add-one i))
      (subst (λ qs. Changing ws qs (drop (suc i) ps) ps) (sym e) (record {
        made =
            append_assoc done ((subst_body ws p).form ∷ []) (subst_polys ws (drop (suc i) ps)) ∙
            opened.made;
        limits = ap (λ b. b && polys_within ws (drop (suc i) ps)) (sym f) ∙ opened.limits;
      }))

-- nothing is left
pub finished : (ws : List (ℕ × Body)) (done ps : List Body) (i : ℕ) → length ps ≤ i →
    Changing ws done (drop i ps) ps → (done ≡ subst_polys ws ps) × (polys_within ws ps ≡ true)
finished ws done ps i h s =
    let all = subst (λ rest. Changing ws done rest ps) (drop_of_length-le ps h) s in
    (sym (append-nil done) ∙ all.made, sym all.limits)
