-- Polynomials that are being substituted for variables: the product or sum so far, and what is left
-- still makes the whole.
use Rattle.std.proofs.Common.{◌≡◌, ◌∙◌, ap, subst, ℕ, suc, ◌+◌, ◌<◌, ◌≤◌, true, false, ◌&&◌, refl, sym, List, [], ◌∷◌, map, length, drop, get_or, drop_of_length-le, add-one, ℤ}
use Rattle.std.proofs.Math.Seq.{drop-cons}
use Rattle.std.proofs.lemmas.Bool.{and_left}
use Rattle.rx_poly.specs.Constants.{number}
use Rattle.rx_poly.specs.Division.{quotient_of, remainder_of}
use Rattle.rx_poly.specs.Limits.{of_terms, body_sum, is_within}
use Rattle.rx_plain.proofs.Forming.{then_false, then_true}
use Rattle.rx_plain.specs.Formed.{Formed, ◌>>=◌}
use Rattle.rx_poly.specs.Products.{body_product, mul_within}
use Rattle.rx_poly.specs.Substitution.{divided_formed, plus_formed, times_formed, replaced, times_all, plus_all, subst_atom, subst_mono, subst_body, atom_substituted, mono_substituted, body_substituted}
use Rattle.rx_poly.specs.declared.body.Atom.{Atom, fold_out-Atom}
use Rattle.rx_poly.specs.declared.body.Atom.TheVariants.{Var, Div, Mod, outs-Var, outs-Div, outs-Mod}
use Rattle.rx_poly.specs.declared.division.Operator.TheVariants.{Quotient, Remainder}
use Rattle.rx_poly.specs.declared.body.Mono.{Mono, out-Mono, fold_out-Mono}
use Rattle.rx_poly.specs.declared.body.Body.{Body, out-Body, fold_out-Body}

-- a polynomial that was formed within the limits
abbrev pub well : Body → Formed Body
well b = record { form = b; within = true }

-- after a step that is made within the limits it is as the next one
pub made_then : {A B : Type 0} {f : Formed A} {x : A} (g : A → Formed B) → x ≡ f.form → f.within ≡
    true → g x ≡ (f >>= g)
made_then {A} {B} {f} {x} g e h = ap g e ∙ sym (then_true f g h)

-- ---- by parts

module _ (ws : List (ℕ × Body)) where
  pub in_Var : (n : ℕ) → subst_atom ws (Var n) ≡ well (replaced ws n)
  in_Var n =
      fold_out-Atom (Formed Body) (Formed Body) (ℤ → Formed Body) (atom_substituted ws)
      (body_substituted ws) (mono_substituted ws) (Var n) ∙ rw (outs-Var n) refl

  pub in_Div : (p q : Body) → subst_atom ws (Div p q) ≡
      record {
        form = quotient_of (subst_body ws p).form (subst_body ws q).form;
        within =
            (subst_body ws p).within && ((subst_body ws q).within &&
            is_within (quotient_of (subst_body ws p).form (subst_body ws q).form));
      }
  in_Div p q =
      fold_out-Atom (Formed Body) (Formed Body) (ℤ → Formed Body) (atom_substituted ws)
      (body_substituted ws) (mono_substituted ws) (Div p q) ∙ rw (outs-Div p q) refl

  pub in_Mod : (p q : Body) → subst_atom ws (Mod p q) ≡
      record {
        form = remainder_of (subst_body ws p).form (subst_body ws q).form;
        within =
            (subst_body ws p).within && ((subst_body ws q).within &&
            is_within (remainder_of (subst_body ws p).form (subst_body ws q).form));
      }
  in_Mod p q =
      fold_out-Atom (Formed Body) (Formed Body) (ℤ → Formed Body) (atom_substituted ws)
      (body_substituted ws) (mono_substituted ws) (Mod p q) ∙ rw (outs-Mod p q) refl

  -- a dividend that is made leaves it to the divisor, and one beyond the limits decides
  pub quotient_made : {x : Atom} {num : Body} (p q : Body) → x ≡ Div p q → num ≡
      (subst_body ws p).form → (subst_body ws p).within ≡ true →
      divided_formed Quotient num (subst_body ws q) ≡ subst_atom ws x
  quotient_made p q is e h =
      made_then (λ n. divided_formed Quotient n (subst_body ws q)) e h ∙ sym (in_Div p q) ∙
      ap (subst_atom ws) (sym is)

  pub remainder_made : {x : Atom} {num : Body} (p q : Body) → x ≡ Mod p q → num ≡
      (subst_body ws p).form → (subst_body ws p).within ≡ true →
      divided_formed Remainder num (subst_body ws q) ≡ subst_atom ws x
  remainder_made p q is e h =
      made_then (λ n. divided_formed Remainder n (subst_body ws q)) e h ∙ sym (in_Mod p q) ∙
      ap (subst_atom ws) (sym is)

  pub no_quotient : {x : Atom} (p q : Body) → x ≡ Div p q → (subst_body ws p).within ≡ false →
      (subst_atom ws x).within ≡ false
  no_quotient p q is h =
      ap (λ y. (subst_atom ws y).within) is ∙ ap (λ (w : Formed Body). w.within) (in_Div p q) ∙
      then_false (subst_body ws p) (λ n. divided_formed Quotient n (subst_body ws q)) h

  pub no_remainder : {x : Atom} (p q : Body) → x ≡ Mod p q → (subst_body ws p).within ≡ false →
      (subst_atom ws x).within ≡ false
  no_remainder p q is h =
      ap (λ y. (subst_atom ws y).within) is ∙ ap (λ (w : Formed Body). w.within) (in_Mod p q) ∙
      then_false (subst_body ws p) (λ n. divided_formed Remainder n (subst_body ws q)) h

  pub in_mono_is : (m : Mono) (k : ℤ) → subst_mono ws m k ≡
      times_all (well (number k)) (map (subst_atom ws) (out-Mono m).atoms)
  in_mono_is m k =
      ap (λ (g : ℤ → Formed Body). g k) (fold_out-Mono (Formed Body) (Formed Body) (ℤ → Formed Body)
      (atom_substituted ws) (body_substituted ws) (mono_substituted ws) m)

  abbrev pub term_in : Mono × ℤ → (ℤ → Formed Body) × ℤ
  term_in t = (subst_mono ws t.0, t.1)

  pub in_body_is : (b : Body) → subst_body ws b ≡
      plus_all (well (of_terms [])) (map term_in (out-Body b).terms)
  in_body_is b =
      fold_out-Body (Formed Body) (Formed Body) (ℤ → Formed Body) (atom_substituted ws)
      (body_substituted ws) (mono_substituted ws) b

-- what has passed the limits stays so
pub times_false : (xs : List (Formed Body)) (done : Formed Body) → done.within ≡ false →
    (times_all done xs).within ≡ false
times_false [] done h = h
times_false (x ∷ xs) done h =
    times_false xs (record {
      form = body_product done.form x.form;
      within = done.within &&
          (x.within && mul_within done.form x.form);
    })
    (and_left done.within (x.within && mul_within done.form x.form) h)

pub plus_false : (ts : List ((ℤ → Formed Body) × ℤ)) (done : Formed Body) → done.within ≡ false →
    (plus_all done ts).within ≡ false
plus_false [] done h = h
plus_false (t ∷ ts) done h =
    plus_false ts (record {
      form = body_sum done.form (t.0 t.1).form;
      within = done.within &&
          ((t.0 t.1).within && is_within (body_sum done.form (t.0 t.1).form));
    })
    (and_left done.within ((t.0 t.1).within && is_within (body_sum done.form (t.0 t.1).form)) h)

-- ---- products

-- the product so far, times the atoms that are left, is the whole
pub record Multiplying (ws : List (ℕ × Body)) (product : Body) (rest : List Atom)
    (whole : Formed Body) : Type 0 where
  pub made : times_all (well product) (map (subst_atom ws) rest) ≡ whole

module _ (ws : List (ℕ × Body)) {product : Body} {whole : Formed Body} (xs : List Atom) (i : ℕ)
    {x : Atom} (h : i < length xs) (is : x ≡ get_or xs i x)
    (m : Multiplying ws product (drop i xs) whole) where
  abbrev next_atom : Formed Body
  next_atom = subst_atom ws x

  abbrev next_product : Formed Body
  next_product =
      record {
        form = body_product product next_atom.form;
        within = true &&
            (next_atom.within && mul_within product next_atom.form);
      }

  opened_atom : times_all next_product (map (subst_atom ws) (drop (suc i) xs)) ≡ whole
  opened_atom =
      (subst (λ rest. Multiplying ws product rest whole)
      (drop-cons xs i x h ∙ ap (λ y. y ∷ drop (suc i) xs) (sym is)) m).made

  pub no_product : (times_formed product next_atom).within ≡ false → whole.within ≡ false
  no_product f =
      ap (λ (w : Formed Body). w.within) (sym opened_atom) ∙
      times_false (map (subst_atom ws) (drop (suc i) xs)) next_product f

  pub after_atom : {next : Body} → next ≡ (times_formed product next_atom).form →
      (times_formed product next_atom).within ≡ true → Multiplying ws next (drop (i + 1) xs) whole
  after_atom {next} e f =
      subst (λ n. Multiplying ws next (drop n xs) whole) (sym (add-one i)) (record {
        made =
            (λ j. times_all (record { form = e j; within = sym f j })
            (map (subst_atom ws) (drop (suc i) xs))) ∙ opened_atom;
      })

pub times_begin : (ws : List (ℕ × Body)) (m : Mono) (k : ℤ) {product : Body} {xs : List Atom} → xs ≡
    (out-Mono m).atoms → product ≡ number k → Multiplying ws product (drop 0 xs) (subst_mono ws m k)
times_begin ws m k {product} {xs} is e =
    record {
      made = (λ j. times_all (well (e j)) (map (subst_atom ws) (is j))) ∙
          sym (in_mono_is ws m k);
    }

pub times_end : (ws : List (ℕ × Body)) {product : Body} {whole : Formed Body} (xs : List Atom)
    (i : ℕ) → length xs ≤ i → Multiplying ws product (drop i xs) whole → well product ≡ whole
times_end ws {product} {whole} xs i h m =
    (subst (λ rest. Multiplying ws product rest whole) (drop_of_length-le xs h) m).made

-- ---- sums

-- the sum so far, plus the terms that are left, is the whole
pub record Adding (ws : List (ℕ × Body)) (sum : Body) (rest : List (Mono × ℤ)) (whole : Formed Body)
    : Type 0 where
  pub made : plus_all (well sum) (map (term_in ws) rest) ≡ whole

module _ (ws : List (ℕ × Body)) {sum : Body} {whole : Formed Body} (ts : List (Mono × ℤ)) (i : ℕ)
    {t : Mono × ℤ} (h : i < length ts) (is : t ≡ get_or ts i t)
    (m : Adding ws sum (drop i ts) whole) where
  abbrev next_term : Formed Body
  next_term = subst_mono ws t.0 t.1

  abbrev next_sum : Formed Body
  next_sum =
      record {
        form = body_sum sum next_term.form;
        within = true &&
            (next_term.within && is_within (body_sum sum next_term.form));
      }

  opened_term : plus_all next_sum (map (term_in ws) (drop (suc i) ts)) ≡ whole
  opened_term =
      (subst (λ rest. Adding ws sum rest whole)
      (drop-cons ts i t h ∙ ap (λ u. u ∷ drop (suc i) ts) (sym is)) m).made

  pub no_sum : (plus_formed sum next_term).within ≡ false → whole.within ≡ false
  no_sum f =
      ap (λ (w : Formed Body). w.within) (sym opened_term) ∙
      plus_false (map (term_in ws) (drop (suc i) ts)) next_sum f

  pub after_term : {next : Body} → next ≡ (plus_formed sum next_term).form →
      (plus_formed sum next_term).within ≡ true → Adding ws next (drop (i + 1) ts) whole
  after_term {next} e f =
      subst (λ n. Adding ws next (drop n ts) whole) (sym (add-one i)) (record {
        made =
            (λ j. plus_all (record { form = e j; within = sym f j })
            (map (term_in ws) (drop (suc i) ts))) ∙ opened_term;
      })

pub plus_begin : (ws : List (ℕ × Body)) (b : Body) {sum : Body} {ts : List (Mono × ℤ)} → ts ≡
    (out-Body b).terms → sum ≡ of_terms [] → Adding ws sum (drop 0 ts) (subst_body ws b)
plus_begin ws b is e =
    record { made = (λ j. plus_all (well (e j)) (map (term_in ws) (is j))) ∙ sym (in_body_is ws b) }

pub plus_end : (ws : List (ℕ × Body)) {sum : Body} {whole : Formed Body} (ts : List (Mono × ℤ))
    (i : ℕ) → length ts ≤ i → Adding ws sum (drop i ts) whole → well sum ≡ whole
plus_end ws {sum} {whole} ts i h m =
    (subst (λ rest. Adding ws sum rest whole) (drop_of_length-le ts h) m).made
