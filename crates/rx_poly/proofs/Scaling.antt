-- One term that is being multiplied with a sum, term by term.
use Rattle.std.proofs.Common.{◌≡◌, ◌∙◌, ap, subst, true, false, refl, sym, ℕ, suc, ◌+◌, ◌<◌, ◌≤◌, List, [], ◌∷◌, ◌++◌, length, drop, get_or, drop_of_length-le, append_assoc, add-one, ℤ, ◌*ℤ◌}
use Rattle.std.proofs.Math.Seq.{drop-cons}
use Rattle.std.proofs.lemmas.Bool.{and_parts, and_from, and_left, and_right}
use Rattle.std.proofs.lemmas.List.{append-nil}
use Rattle.std.proofs.lemmas.List.Folds.{list_all-append}
use Rattle.rx_poly.specs.Limits.{all_fit, fits_i128}
use Rattle.rx_poly.specs.Normal.{is_normal_mono}
use Rattle.rx_poly.specs.Products.{mono_times, term_product}
use Rattle.rx_poly.specs.Terms.{all_keys}
use Rattle.rx_poly.specs.declared.body.Mono.{Mono}

-- the products that are there already, and the terms that are left
pub record Scaling (t : Mono × ℤ) (done rest whole : List (Mono × ℤ)) : Type 0 where
  pub keys : all_keys is_normal_mono rest ≡ true
  pub made : done ++ term_product t rest ≡ whole
  pub fits : all_fit done ≡ true

-- the product of two terms
abbrev pub product : Mono × ℤ → Mono × ℤ → Mono × ℤ
product t u = (mono_times t.0 u.0, t.1 *ℤ u.1)

module _ {t : Mono × ℤ} {done whole : List (Mono × ℤ)} (us : List (Mono × ℤ)) (i : ℕ) {u : Mono × ℤ}
    (h : i < length us) (is : u ≡ get_or us i u) (s : Scaling t done (drop i us) whole) where
  opened : Scaling t done (u ∷ drop (suc i) us) whole
  opened =
      subst (λ rest. Scaling t done rest whole)
      (drop-cons us i u h ∙ ap (λ v. v ∷ drop (suc i) us) (sym is)) s

  -- the next term has a normal monomial
  pub next_key : is_normal_mono u.0 ≡ true
  next_key =
      (and_parts (is_normal_mono u.0) (all_keys is_normal_mono (drop (suc i) us)) opened.keys).0

  apart : (done ++ product t u ∷ []) ++ term_product t (drop (suc i) us) ≡ whole
  apart = append_assoc done (product t u ∷ []) (term_product t (drop (suc i) us)) ∙ opened.made

  -- its product comes after the others
  pub after_product : {next : List (Mono × ℤ)} → next ≡ done ++ product t u ∷ [] →
      fits_i128 (t.1 *ℤ u.1) ≡ true → Scaling t next (drop (i + 1) us) whole
  after_product e f =
      subst (λ xs. Scaling t xs (drop (i + 1) us) whole) (sym e)
      (subst (λ n. Scaling t (done ++ product t u ∷ []) (drop n us) whole) (sym (add-one i))
      (record {
        keys =
            (and_parts (is_normal_mono u.0) (all_keys is_normal_mono (drop (suc i) us))
            opened.keys).1;
        made = apart;
        fits =
            list_all-append (λ (v : Mono × ℤ). fits_i128 v.1) done (product t u ∷ []) ∙
            and_from (all_fit done) (all_fit (product t u ∷ [])) s.fits
            (and_from (fits_i128 (t.1 *ℤ u.1)) true f refl);
      }))

  -- a product that leaves i128 is one of the whole
  pub no_product : fits_i128 (t.1 *ℤ u.1) ≡ false → all_fit whole ≡ false
  no_product f =
      ap all_fit (sym opened.made) ∙ list_all-append (λ (v : Mono × ℤ). fits_i128 v.1) done
      (term_product t (u ∷ drop (suc i) us))
      ∙ and_right (all_fit done) (all_fit (term_product t (u ∷ drop (suc i) us)))
      (and_left (fits_i128 (t.1 *ℤ u.1)) (all_fit (term_product t (drop (suc i) us))) f)

pub begin : (t : Mono × ℤ) (us : List (Mono × ℤ)) → all_keys is_normal_mono us ≡ true →
    Scaling t [] (drop 0 us) (term_product t us)
begin t us h = record { keys = h; made = refl; fits = refl }

-- nothing is left
pub done_is : (t : Mono × ℤ) (done us whole : List (Mono × ℤ)) (i : ℕ) → length us ≤ i →
    Scaling t done (drop i us) whole → (done ≡ whole) × (all_fit whole ≡ true)
done_is t done us whole i h s =
    let all = subst (λ rest. Scaling t done rest whole) (drop_of_length-le us h) s in
    let same : done ≡ whole = sym (append-nil done) ∙ all.made in
    (same, ap all_fit (sym same) ∙ all.fits)
