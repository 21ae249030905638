-- Terms and sums: a coefficient and the atoms after it, and the terms joined by `+`.
use Rattle.std.proofs.Common.{◌≡◌, ◌∙◌, ap, subst, refl, sym, ℕ, ◌==◌, Bool, true, false, not, List, [], ◌∷◌, ◌++◌, drop, arith, Some, None, ℤ, pos}
use Rattle.std.proofs.lemmas.Bool.{and_from, and_parts, both_ways}
use Rattle.std.proofs.lemmas.Fmt.{decimal_digit}
use Rattle.std.proofs.lemmas.List.{append_assoc}
use Rattle.std.specs.List.{list_all}
use Rattle.rx_poly.specs.Limits.{fits_i128, of_atoms, of_terms}
use Rattle.rx_poly.specs.Terms.{is_zero}
use Rattle.rx_poly.specs.declared.body.Atom.{Atom}
use Rattle.rx_poly.specs.declared.body.Body.{Body, out-Body, roll-Body, roll-out-Body}
use Rattle.rx_poly.specs.declared.body.Mono.{Mono, out-Mono, roll-Mono, roll-out-Mono}
use Rattle.rx_poly.proofs.Levels.{atoms-of_atoms, terms-of_terms}
use Rattle.rx_text.specs.Formats.{BeginsWith, IsUnambiguous, Reads, Skips, StandsAt, is_over, repeated}
use Rattle.rx_text.specs.Numbers.{integer_text, integers, is_digit}
use Rattle.rx_text.specs.Plain.{atoms, is_coefficient, is_plain, is_plain_atom, is_plain_term, sums, terms}
use Rattle.rx_text.specs.Polynomials.{goes_on_with_poly, goes_on_with_term, mono_text, text_of_term}
use Rattle.rx_text.proofs.Atoms.{atoms_unambiguous}
use Rattle.rx_text.proofs.Integers.{integers_unambiguous}
use Rattle.rx_text.proofs.Lists.{ReadSoFar, all_read, over_first, repeated_unambiguous, row, row_over, stuck}
use Rattle.rx_text.proofs.PolyTexts.{mono_text_is, poly_text_is, text_of_terms}

module _ (inner : Body → Bool) (one : IsUnambiguous (sums inner)) where
  factors_one : IsUnambiguous (repeated 42 (atoms inner))
  factors_one = repeated_unambiguous 42 (atoms inner) (atoms_unambiguous inner one) refl

  -- ---- terms

  abbrev factors : Mono → List ℕ
  factors m = row 42 (atoms inner) (out-Mono m).atoms

  term_whole : (t : Mono × ℤ) (left : List ℕ)
      → (terms inner).text t ++ left ≡ integer_text t.1 ++ (factors t.0 ++ left)
  term_whole t left =
      append_assoc (integer_text t.1) (mono_text t.0) left
      ∙ ap (λ s. integer_text t.1 ++ (s ++ left)) (mono_text_is t.0)

  -- the coefficient of a term that the bytes begin with, and its atoms
  pub term_coefficient : {bytes left : List ℕ} {t : Mono × ℤ}
      → BeginsWith (terms inner) bytes t left → BeginsWith integers bytes t.1 (factors t.0 ++ left)
  term_coefficient {bytes} {left} {t} b =
      let parts =
      and_parts (is_coefficient t.1) (list_all (is_plain_atom inner) (out-Mono t.0).atoms)
      b.in_range in
      record {
        in_range = (and_parts (not (is_zero t.1)) (fits_i128 t.1) parts.0).1;
        text = b.text ∙ term_whole t left;
        over =
            row_over 42 (atoms inner) refl (out-Mono t.0).atoms left
            (over_first is_digit (λ next. next == 42) left b.over);
      }

  pub term_factors : {bytes left : List ℕ} {t : Mono × ℤ} (rest : List ℕ)
      → BeginsWith (terms inner) bytes t left → rest ≡ factors t.0 ++ left
      → BeginsWith (repeated 42 (atoms inner)) rest (out-Mono t.0).atoms left
  term_factors {bytes} {left} {t} rest b e = record {
    in_range =
        (and_parts (is_coefficient t.1) (list_all (is_plain_atom inner) (out-Mono t.0).atoms)
        b.in_range).1;
    text = e;
    over = b.over;
  }

  pub terms_unambiguous : IsUnambiguous (terms inner)
  terms_unambiguous bytes t u left right b c =
      let number =
      integers_unambiguous bytes t.1 u.1 (factors t.0 ++ left) (factors u.0 ++ right)
      (term_coefficient b) (term_coefficient c) in
      let behind = factors_one (factors t.0 ++ left) (out-Mono t.0).atoms (out-Mono u.0).atoms left
      right
      (term_factors (factors t.0 ++ left) b refl) (term_factors (factors t.0 ++ left) c number.1) in
      let mono : t.0 ≡ u.0 =
      sym (roll-out-Mono t.0) ∙ (λ i. roll-Mono (record { atoms = behind.0 i })) ∙
      roll-out-Mono u.0 in
      ((λ i. (mono i, number.0 i)), behind.1)

  -- where there is no coefficient, there is no term
  pub no_coefficient : (bytes : List ℕ) (at : ℕ) → Reads integers bytes at None
      → Reads (terms inner) bytes at None
  no_coefficient bytes at never = λ t left b. never t.1 (factors t.0 ++ left) (term_coefficient b)

  -- nor where it is 0
  pub coefficient_is_zero : (bytes : List ℕ) (at : ℕ) {end : ℕ} {c : ℤ}
      → StandsAt integers bytes at c end → is_zero c ≡ true → Reads (terms inner) bytes at None
  coefficient_is_zero bytes at {end} {c} s zero = λ t left b.
      let number =
      integers_unambiguous (drop at bytes) c t.1 (drop end bytes) (factors t.0 ++ left) s.begins
      (term_coefficient b) in
      let parts =
      and_parts (is_coefficient t.1) (list_all (is_plain_atom inner) (out-Mono t.0).atoms)
      b.in_range in
      let other : not (is_zero t.1) ≡ true =
      (and_parts (not (is_zero t.1)) (fits_i128 t.1) parts.0).0 in
      both_ways (not (is_zero t.1)) (ap not (ap is_zero (sym number.0) ∙ zero)) other

  -- where a factor is missing
  pub no_factor : (bytes : List ℕ) (at : ℕ) {end place after : ℕ} {c : ℤ} {things : List Atom}
      → StandsAt integers bytes at c end → ReadSoFar 42 (atoms inner) bytes end things place
      → Skips (42 ∷ []) bytes place (Some after) → Reads (atoms inner) bytes after None
      → Reads (terms inner) bytes at None
  no_factor bytes at {end} {place} {after} {c} {things} s r k never = λ t left b.
      let number =
      integers_unambiguous (drop at bytes) c t.1 (drop end bytes) (factors t.0 ++ left) s.begins
      (term_coefficient b) in
      stuck 42 (atoms inner) (atoms_unambiguous inner one) refl bytes end r k never
      (term_factors (drop end bytes) b number.1)

  pub term_stands : (bytes : List ℕ) (at : ℕ) {end place : ℕ} {c : ℤ} {things : List Atom}
      {t : Mono × ℤ}
      → StandsAt integers bytes at c end → is_zero c ≡ false
      → ReadSoFar 42 (atoms inner) bytes end things place → Skips (42 ∷ []) bytes place None
      → t ≡ (of_atoms things, c) → StandsAt (terms inner) bytes at t place
  term_stands bytes at {end} {place} {c} {things} {t} s nonzero r never is =
      let read = all_read 42 (atoms inner) bytes end r never in
      subst (λ u. StandsAt (terms inner) bytes at u place) (sym is) (record {
        forward = omega (arith, s.forward, r.forward);
        inside = r.inside;
        begins = record {
          in_range =
              and_from (is_coefficient c)
              (list_all (is_plain_atom inner) (out-Mono (of_atoms things)).atoms)
              (and_from (not (is_zero c)) (fits_i128 c) (ap not nonzero) s.begins.in_range)
              (ap (list_all (is_plain_atom inner)) (atoms-of_atoms things) ∙ read.in_range);
          text =
              s.begins.text
              ∙ ap (λ b. integer_text c ++ b)
              (read.text ∙ ap (λ xs. row 42 (atoms inner) xs ++ drop place bytes)
              (sym (atoms-of_atoms things)))
              ∙ sym (term_whole (of_atoms things, c) (drop place bytes));
          over = read.over;
        };
      })

  -- ---- sums

  -- what bytes that begin with a sum are
  pub data SumKind (bytes : List ℕ) (p : Body) (left : List ℕ) : Type 0 where
    IsZero : (out-Body p).terms ≡ [] → bytes ≡ 48 ∷ left → is_over goes_on_with_poly left ≡ true
        → SumKind bytes p left
    HasTerms : (t : Mono × ℤ) (ts : List (Mono × ℤ)) (rest : List ℕ) → (out-Body p).terms ≡ t ∷ ts
        → BeginsWith (terms inner) bytes t rest
        → BeginsWith (repeated 43 (terms inner)) rest ts left → SumKind bytes p left

  kind_by_terms : {bytes left : List ℕ} {p : Body} (ts : List (Mono × ℤ)) → (out-Body p).terms ≡ ts
      → BeginsWith (sums (is_plain inner)) bytes p left → SumKind bytes p left
  kind_by_terms {bytes} {left} {p} [] e b =
      IsZero e (b.text ∙ ap (λ s. s ++ left) (poly_text_is p ∙ ap text_of_terms e)) b.over
  kind_by_terms {bytes} {left} {p} (t ∷ ts) e b =
      let fine : list_all (is_plain_term inner) (t ∷ ts) ≡ true =
      ap (list_all (is_plain_term inner)) (sym e) ∙ b.in_range in
      let parts = and_parts (is_plain_term inner t) (list_all (is_plain_term inner) ts) fine in
      HasTerms t ts (row 43 (terms inner) ts ++ left) e
      (record {
        in_range = parts.0;
        text =
            b.text ∙ ap (λ s. s ++ left) (poly_text_is p ∙ ap text_of_terms e)
            ∙ append_assoc (text_of_term t) (row 43 (terms inner) ts) left;
        over =
            row_over 43 (terms inner) refl ts left
            (over_first goes_on_with_term (λ next. next == 43) left b.over);
      })
      (record { in_range = parts.1; text = refl; over = b.over })

  pub sum_kind : {bytes left : List ℕ} {p : Body} → BeginsWith (sums (is_plain inner)) bytes p left
      → SumKind bytes p left
  sum_kind {bytes} {left} {p} b = kind_by_terms (out-Body p).terms refl b

  -- `0` is no term
  zero_is_no_term : {bytes left rest : List ℕ} {t : Mono × ℤ} → bytes ≡ 48 ∷ left
      → is_over goes_on_with_poly left ≡ true → BeginsWith (terms inner) bytes t rest → ⊥
  zero_is_no_term {bytes} {left} {rest} {t} e o b =
      let digits : is_over is_digit left ≡ true =
      over_first is_digit (λ next. next == 42) left
      (over_first goes_on_with_term (λ next. next == 43) left o) in
      let number =
      integers_unambiguous bytes (pos 0) t.1 left (factors t.0 ++ rest)
      (record {
        in_range = refl;
        text = e ∙ ap (λ s. s ++ left)
            (sym (decimal_digit 0 (omega arith)));
        over = digits;
      })
      (term_coefficient b) in
      let parts =
      and_parts (is_coefficient t.1) (list_all (is_plain_atom inner) (out-Mono t.0).atoms)
      b.in_range in
      let other : not (is_zero t.1) ≡ true =
      (and_parts (not (is_zero t.1)) (fits_i128 t.1) parts.0).0 in
      both_ways (not (is_zero t.1)) (ap not (ap is_zero (sym number.0))) other

  same_sum : {p q : Body} → (out-Body p).terms ≡ (out-Body q).terms → p ≡ q
  same_sum {p} {q} e =
      sym (roll-out-Body p) ∙ (λ i. roll-Body (record { terms = e i })) ∙ roll-out-Body q

  sum_kinds : {bytes left right : List ℕ} {p q : Body} → SumKind bytes p left
      → SumKind bytes q right → (p ≡ q) × (left ≡ right)
  sum_kinds {bytes} {left} {right} {p} {q} (IsZero e t o) (IsZero f u v) =
      let both : 48 ∷ left ≡ 48 ∷ right = sym t ∙ u in (same_sum (e ∙ sym f), cc)
  sum_kinds (IsZero e t o) (HasTerms x xs r f b c) = absurd (zero_is_no_term t o b)
  sum_kinds (HasTerms x xs r f b c) (IsZero e t o) = absurd (zero_is_no_term t o b)
  sum_kinds {bytes} {left} {right} {p} {q} (HasTerms x xs r e b c) (HasTerms y ys s f d g) =
      let first = terms_unambiguous bytes x y r s b d in
      let others =
      repeated_unambiguous 43 (terms inner) terms_unambiguous refl s xs ys left right
      (subst (λ l. BeginsWith (repeated 43 (terms inner)) l xs left) first.1 c) g in
      (same_sum (e ∙ (λ i. first.0 i ∷ others.0 i) ∙ sym f), others.1)

  pub sums_of_plain_unambiguous : IsUnambiguous (sums (is_plain inner))
  sums_of_plain_unambiguous bytes p q left right b c = sum_kinds (sum_kind b) (sum_kind c)

  -- ---- what has been read of a sum

  -- no term is there, and `0` is there
  pub zero_stands : (bytes : List ℕ) (at : ℕ) {end : ℕ} → Skips (48 ∷ []) bytes at (Some end)
      → is_over goes_on_with_poly (drop end bytes) ≡ true
      → StandsAt (sums (is_plain inner)) bytes at (of_terms []) end
  zero_stands bytes at {end} k o = record {
    forward = omega (arith, k.0);
    inside = k.1.0;
    begins = record {
      in_range = ap (list_all (is_plain_term inner)) (terms-of_terms []);
      text =
          k.1.1
          ∙ ap (λ s. s ++ drop end bytes)
          (sym (poly_text_is (of_terms []) ∙ ap text_of_terms (terms-of_terms [])));
      over = o;
    };
  }

  pub no_sum : (bytes : List ℕ) (at : ℕ) → Reads (terms inner) bytes at None
      → ((left : List ℕ) → drop at bytes ≡ 48 ∷ left → is_over goes_on_with_poly left ≡ true → ⊥)
      → Reads (sums (is_plain inner)) bytes at None
  no_sum bytes at never zero = λ p left b. by (sum_kind b)
    where
      by : {p : Body} {left : List ℕ} → SumKind (drop at bytes) p left → ⊥
      by {p} {left} (IsZero e t o) = zero left t o
      by (HasTerms x xs r e b c) = never x r b

  pub no_term : (bytes : List ℕ) (at : ℕ) {end place after : ℕ} {t : Mono × ℤ}
      {things : List (Mono × ℤ)}
      → StandsAt (terms inner) bytes at t end → ReadSoFar 43 (terms inner) bytes end things place
      → Skips (43 ∷ []) bytes place (Some after) → Reads (terms inner) bytes after None
      → Reads (sums (is_plain inner)) bytes at None
  no_term bytes at {end} {place} {after} {t} {things} s r k never = λ p left b. by (sum_kind b)
    where
      by : {p : Body} {left : List ℕ} → SumKind (drop at bytes) p left → ⊥
      by {p} {left} (IsZero e u o) = zero_is_no_term u o s.begins
      by {p} {left} (HasTerms x xs rest e b c) =
          let first = terms_unambiguous (drop at bytes) t x (drop end bytes) rest s.begins b in
          stuck 43 (terms inner) terms_unambiguous refl bytes end r k never
          (subst (λ l. BeginsWith (repeated 43 (terms inner)) l xs left) (sym first.1) c)

  pub sum_stands : (bytes : List ℕ) (at : ℕ) {end place : ℕ} {t : Mono × ℤ}
      {things whole : List (Mono × ℤ)}
      → StandsAt (terms inner) bytes at t end → ReadSoFar 43 (terms inner) bytes end things place
      → Skips (43 ∷ []) bytes place None → whole ≡ t ∷ things
      → StandsAt (sums (is_plain inner)) bytes at (of_terms whole) place
  sum_stands bytes at {end} {place} {t} {things} {whole} s r never is =
      let read = all_read 43 (terms inner) bytes end r never in
      let listed : (out-Body (of_terms whole)).terms ≡ t ∷ things = terms-of_terms whole ∙ is in
      record {
        forward = omega (arith, s.forward, r.forward);
        inside = r.inside;
        begins = record {
          in_range =
              ap (list_all (is_plain_term inner)) listed
              ∙ and_from (is_plain_term inner t) (list_all (is_plain_term inner) things)
              s.begins.in_range read.in_range;
          text =
              s.begins.text ∙ ap (λ b. text_of_term t ++ b) read.text
              ∙ sym (append_assoc (text_of_term t) (row 43 (terms inner) things) (drop place bytes))
              ∙ ap (λ b. b ++ drop place bytes)
              (sym (poly_text_is (of_terms whole) ∙ ap text_of_terms listed));
          over = read.over;
        };
      }
