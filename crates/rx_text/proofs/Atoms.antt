-- The three kinds of atoms, by the word in front.
use Rattle.std.proofs.Common.{◌≡◌, ◌∙◌, ap, subst, refl, sym, ℕ, ◌<◌, ◌≤◌, Bool, true, false, List, [], ◌∷◌, ◌++◌, drop, arith, Some, None}
use Rattle.std.proofs.lemmas.Bool.{and_from, and_parts, both_ways, le-leb, leb-true, lt-ltb, ltb-true, not_from_false}
use Rattle.std.proofs.lemmas.List.{append_assoc}
use Rattle.rx_poly.specs.declared.body.Atom.{Atom, Atom-F, out-Atom, roll-Atom, roll-out-Atom}
use Rattle.rx_poly.specs.declared.body.Atom.TheVariants.{Var, Div, Mod, outs-Var, outs-Div, outs-Mod, rolls-Var, rolls-Div, rolls-Mod}
use Rattle.rx_poly.specs.declared.body.Body.{Body}
use Rattle.rx_poly.specs.declared.body.Mono.{Mono}
use Rattle.rx_text.specs.Formats.{BeginsWith, Format, IsUnambiguous, Reads, Skips, StandsAt, is_over}
use Rattle.rx_text.specs.Numbers.{is_digit, natural_text, naturals}
use Rattle.rx_text.specs.Plain.{atoms, is_plain_level, pairs, sums}
use Rattle.rx_text.specs.Polynomials.{atom_text}
use Rattle.rx_text.proofs.Decimals.{naturals_unambiguous}
use Rattle.rx_text.proofs.PolyTexts.{text_Var, text_Div, text_Mod}

-- ---- pairs

module _ {A : Type 0} (format : Format A) (comma : format.goes_on 44 ≡ false)
    (close : format.goes_on 41 ≡ false) where
  pair_whole : (x y : A) (left : List ℕ)
      → (pairs format).text (x, y) ++ left ≡ format.text x ++ (44 ∷ (format.text y ++ (41 ∷ left)))
  pair_whole x y left =
      append_assoc (format.text x) (44 ∷ (format.text y ++ 41 ∷ [])) left
      ∙ ap (λ s. format.text x ++ (44 ∷ s)) (append_assoc (format.text y) (41 ∷ []) left)

  pub pair_first : {bytes left : List ℕ} {x y : A} → BeginsWith (pairs format) bytes (x, y) left
      → BeginsWith format bytes x (44 ∷ (format.text y ++ (41 ∷ left)))
  pair_first {bytes} {left} {x} {y} b = record {
    in_range = (and_parts (format.in_range x) (format.in_range y) b.in_range).0;
    text = b.text ∙ pair_whole x y left;
    over = not_from_false (format.goes_on 44) comma;
  }

  pub pair_second : {bytes : List ℕ} {left : List ℕ} {x y : A} (rest : List ℕ)
      → BeginsWith (pairs format) bytes (x, y) left → rest ≡ format.text y ++ (41 ∷ left)
      → BeginsWith format rest y (41 ∷ left)
  pair_second {bytes} {left} {x} {y} rest b e = record {
    in_range = (and_parts (format.in_range x) (format.in_range y) b.in_range).1;
    text = e;
    over = not_from_false (format.goes_on 41) close;
  }

  pub pairs_unambiguous : IsUnambiguous format → IsUnambiguous (pairs format)
  pairs_unambiguous one bytes (x, y) (v, w) left right b c =
      let first =
      one bytes x v (44 ∷ (format.text y ++ (41 ∷ left))) (44 ∷ (format.text w ++ (41 ∷ right)))
      (pair_first b) (pair_first c) in
      let inside : format.text y ++ (41 ∷ left) ≡ format.text w ++ (41 ∷ right) =
      cons_tail first.1 in
      let second =
      one (format.text y ++ (41 ∷ left)) y w (41 ∷ left) (41 ∷ right)
      (pair_second (format.text y ++ (41 ∷ left)) b refl)
      (pair_second (format.text y ++ (41 ∷ left)) c inside) in
      ((λ i. (first.0 i, second.0 i)), cons_tail second.1)
    where
      cons_tail : {X : Type 0} {a b : X} {xs ys : List X} → a ∷ xs ≡ b ∷ ys → xs ≡ ys
      cons_tail e = cc

  -- where one of the parts isn't found, no pair is
  pub no_first_part : (bytes : List ℕ) (at : ℕ) → Reads format bytes at None
      → Reads (pairs format) bytes at None
  no_first_part bytes at never =
      λ thing left b. never thing.0 (44 ∷ (format.text thing.1 ++ (41 ∷ left))) (pair_first b)

  -- what follows the first part of any pair that is there
  rest_is : IsUnambiguous format
      → (bytes : List ℕ) (at : ℕ) {end : ℕ} {x : A} {pair : A × A} {left : List ℕ}
      → StandsAt format bytes at x end → BeginsWith (pairs format) (drop at bytes) pair left
      → drop end bytes ≡ 44 ∷ (format.text pair.1 ++ (41 ∷ left))
  rest_is one bytes at {end} {x} {pair} {left} s b =
      (one (drop at bytes) x pair.0 (drop end bytes) (44 ∷ (format.text pair.1 ++ (41 ∷ left)))
      s.begins (pair_first b)).1

  pub no_comma : IsUnambiguous format → (bytes : List ℕ) (at : ℕ) {end : ℕ} {x : A}
      → StandsAt format bytes at x end → Skips (44 ∷ []) bytes end None
      → Reads (pairs format) bytes at None
  no_comma one bytes at {end} {x} s never =
      λ pair left b. never (format.text pair.1 ++ (41 ∷ left)) (rest_is one bytes at s b)

  second_is : IsUnambiguous format
      → (bytes : List ℕ) (at : ℕ) {end after : ℕ} {x : A} {pair : A × A} {left : List ℕ}
      → StandsAt format bytes at x end → Skips (44 ∷ []) bytes end (Some after)
      → BeginsWith (pairs format) (drop at bytes) pair left
      → BeginsWith format (drop after bytes) pair.1 (41 ∷ left)
  second_is one bytes at {end} {after} {x} {pair} {left} s k b =
      let whole : 44 ∷ drop after bytes ≡ 44 ∷ (format.text pair.1 ++ (41 ∷ left)) =
      sym k.1.1 ∙ rest_is one bytes at s b in
      pair_second (drop after bytes) b cc

  pub no_second_part : IsUnambiguous format → (bytes : List ℕ) (at : ℕ) {end after : ℕ} {x : A}
      → StandsAt format bytes at x end → Skips (44 ∷ []) bytes end (Some after)
      → Reads format bytes after None → Reads (pairs format) bytes at None
  no_second_part one bytes at {end} {after} {x} s k never =
      λ pair left b. never pair.1 (41 ∷ left) (second_is one bytes at s k b)

  pub no_close : IsUnambiguous format → (bytes : List ℕ) (at : ℕ) {end after last : ℕ} {x y : A}
      → StandsAt format bytes at x end → Skips (44 ∷ []) bytes end (Some after)
      → StandsAt format bytes after y last → Skips (41 ∷ []) bytes last None
      → Reads (pairs format) bytes at None
  no_close one bytes at {end} {after} {last} {x} {y} s k t never = λ pair left b.
      never left
      (one (drop after bytes) y pair.1 (drop last bytes) (41 ∷ left) t.begins
      (second_is one bytes at s k b)).1

  pub digit_after : IsUnambiguous format
      → (bytes : List ℕ) (at : ℕ) {end after last behind : ℕ} {x y : A}
      → StandsAt format bytes at x end → Skips (44 ∷ []) bytes end (Some after)
      → StandsAt format bytes after y last → Skips (41 ∷ []) bytes last (Some behind)
      → is_over is_digit (drop behind bytes) ≡ false → Reads (pairs format) bytes at None
  digit_after one bytes at {end} {after} {last} {behind} {x} {y} s k t m digit = λ pair left b.
      let close : 41 ∷ drop behind bytes ≡ 41 ∷ left =
      sym m.1.1
      ∙ (one (drop after bytes) y pair.1 (drop last bytes) (41 ∷ left) t.begins
      (second_is one bytes at s k b)).1 in
      let same : drop behind bytes ≡ left = cc in
      both_ways (is_over is_digit left) (ap (is_over is_digit) (sym same) ∙ digit) b.over

  pub pair_stands : (bytes : List ℕ) (at : ℕ) {end after last behind : ℕ} {x y : A}
      → StandsAt format bytes at x end → Skips (44 ∷ []) bytes end (Some after)
      → StandsAt format bytes after y last → Skips (41 ∷ []) bytes last (Some behind)
      → is_over is_digit (drop behind bytes) ≡ true → StandsAt (pairs format) bytes at (x, y) behind
  pair_stands bytes at {end} {after} {last} {behind} {x} {y} s k t m over = record {
    forward = omega (arith, s.forward, k.0, t.forward, m.0);
    inside = m.1.0;
    begins = record {
      in_range =
          and_from (format.in_range x) (format.in_range y) s.begins.in_range t.begins.in_range;
      text =
          s.begins.text
          ∙ ap (λ b. format.text x ++ b)
          (k.1.1 ∙ ap (λ b. 44 ∷ b) (t.begins.text ∙ ap (λ b. format.text y ++ b) m.1.1))
          ∙ sym (pair_whole x y (drop behind bytes));
      over = over;
    };
  }

-- ---- the kinds of atoms

module _ (inner : Body → Bool) where
  -- what bytes that begin with an atom are
  pub data Kind (bytes : List ℕ) (x : Atom) (left : List ℕ) : Type 0 where
    IsVar : (n : ℕ) (rest : List ℕ) → x ≡ Var n → bytes ≡ 118 ∷ rest
        → BeginsWith (naturals 999999) rest n left → Kind bytes x left
    IsDiv : (p q : Body) (rest : List ℕ) → x ≡ Div p q → bytes ≡ 100 ∷ 105 ∷ 118 ∷ 40 ∷ rest
        → BeginsWith (pairs (sums inner)) rest (p, q) left → Kind bytes x left
    IsMod : (p q : Body) (rest : List ℕ) → x ≡ Mod p q → bytes ≡ 109 ∷ 111 ∷ 100 ∷ 40 ∷ rest
        → BeginsWith (pairs (sums inner)) rest (p, q) left → Kind bytes x left

  kind_by : {bytes left : List ℕ} {x : Atom} (y : Atom-F Atom Body Mono) → out-Atom x ≡ y
      → BeginsWith (atoms inner) bytes x left → Kind bytes x left
  kind_by {bytes} {left} {x} (Atom-F.Var n) e b =
      let is : x ≡ Var n = sym (roll-out-Atom x) ∙ ap roll-Atom e ∙ rolls-Var n in
      let less : n < 1000000 =
      ltb-true n 1000000 (ap (is_plain_level inner) (sym e) ∙ b.in_range) in
      let most : n ≤ 999999 = omega arith in
      IsVar n (natural_text n ++ left) is
      (b.text ∙ ap (λ s. s ++ left) (ap atom_text is ∙ text_Var n))
      (record { in_range = le-leb n 999999 most; text = refl; over = b.over })
  kind_by {bytes} {left} {x} (Atom-F.Div p q) e b =
      let is : x ≡ Div p q = sym (roll-out-Atom x) ∙ ap roll-Atom e ∙ rolls-Div p q in
      IsDiv p q ((pairs (sums inner)).text (p, q) ++ left) is
      (b.text ∙ ap (λ s. s ++ left) (ap atom_text is ∙ text_Div p q))
      (record {
        in_range = ap (is_plain_level inner) (sym e) ∙ b.in_range;
        text = refl;
        over =
            b.over;
      })
  kind_by {bytes} {left} {x} (Atom-F.Mod p q) e b =
      let is : x ≡ Mod p q = sym (roll-out-Atom x) ∙ ap roll-Atom e ∙ rolls-Mod p q in
      IsMod p q ((pairs (sums inner)).text (p, q) ++ left) is
      (b.text ∙ ap (λ s. s ++ left) (ap atom_text is ∙ text_Mod p q))
      (record {
        in_range = ap (is_plain_level inner) (sym e) ∙ b.in_range;
        text = refl;
        over =
            b.over;
      })

  pub kind_of : {bytes left : List ℕ} {x : Atom} → BeginsWith (atoms inner) bytes x left
      → Kind bytes x left
  kind_of {bytes} {left} {x} b = kind_by (out-Atom x) refl b

  -- ---- each kind as it is read

  pub begins_Var : {bytes : List ℕ} (rest : List ℕ) {left : List ℕ} {n : ℕ} → bytes ≡ 118 ∷ rest
      → BeginsWith (naturals 999999) rest n left → BeginsWith (atoms inner) bytes (Var n) left
  begins_Var {bytes} rest {left} {n} e b =
      let most : n ≤ 999999 = leb-true n 999999 b.in_range in
      record {
        in_range = ap (is_plain_level inner) (outs-Var n) ∙ lt-ltb n 1000000 (omega arith);
        text = e ∙ ap (λ s. 118 ∷ s) b.text ∙ ap (λ s. s ++ left) (sym (text_Var n));
        over = b.over;
      }

  pub begins_Div : {bytes : List ℕ} (rest : List ℕ) {left : List ℕ} {p q : Body}
      → bytes ≡ 100 ∷ 105 ∷ 118 ∷ 40 ∷ rest → BeginsWith (pairs (sums inner)) rest (p, q) left
      → BeginsWith (atoms inner) bytes (Div p q) left
  begins_Div {bytes} rest {left} {p} {q} e b = record {
    in_range = ap (is_plain_level inner) (outs-Div p q) ∙ b.in_range;
    text = e ∙ ap (λ s. 100 ∷ 105 ∷ 118 ∷ 40 ∷ s) b.text ∙ ap (λ s. s ++ left) (sym (text_Div p q));
    over = b.over;
  }

  pub begins_Mod : {bytes : List ℕ} (rest : List ℕ) {left : List ℕ} {p q : Body}
      → bytes ≡ 109 ∷ 111 ∷ 100 ∷ 40 ∷ rest → BeginsWith (pairs (sums inner)) rest (p, q) left
      → BeginsWith (atoms inner) bytes (Mod p q) left
  begins_Mod {bytes} rest {left} {p} {q} e b = record {
    in_range = ap (is_plain_level inner) (outs-Mod p q) ∙ b.in_range;
    text = e ∙ ap (λ s. 109 ∷ 111 ∷ 100 ∷ 40 ∷ s) b.text ∙ ap (λ s. s ++ left) (sym (text_Mod p q));
    over = b.over;
  }

  -- ---- one way to read an atom

  heads : {a b : ℕ} {xs ys : List ℕ} → a ∷ xs ≡ b ∷ ys → a ≡ b
  heads e = cc

  v_or_d : {rest more : List ℕ} → 118 ∷ rest ≡ 100 ∷ more → ⊥
  v_or_d e = let h = heads e in absurd (omega (arith, h))

  v_or_m : {rest more : List ℕ} → 118 ∷ rest ≡ 109 ∷ more → ⊥
  v_or_m e = let h = heads e in absurd (omega (arith, h))

  d_or_m : {rest more : List ℕ} → 100 ∷ rest ≡ 109 ∷ more → ⊥
  d_or_m e = let h = heads e in absurd (omega (arith, h))

  kinds : IsUnambiguous (pairs (sums inner)) → {bytes left right : List ℕ} {x y : Atom}
      → Kind bytes x left → Kind bytes y right → (x ≡ y) × (left ≡ right)
  kinds one {bytes} {left} {right} {x} {y} (IsVar n r e t b) (IsVar m s f u c) =
      let same : r ≡ s = cons_tail (sym t ∙ u) in
      let read =
      naturals_unambiguous 999999 (omega arith) s n m left right
      (subst (λ l. BeginsWith (naturals 999999) l n left) same b) c in
      (e ∙ ap Var read.0 ∙ sym f, read.1)
    where
      cons_tail : {a : ℕ} {xs ys : List ℕ} → a ∷ xs ≡ a ∷ ys → xs ≡ ys
      cons_tail e = cc
  kinds one (IsVar n r e t b) (IsDiv p q s f u c) = absurd (v_or_d (sym t ∙ u))
  kinds one (IsVar n r e t b) (IsMod p q s f u c) = absurd (v_or_m (sym t ∙ u))
  kinds one (IsDiv p q s f u c) (IsVar n r e t b) = absurd (v_or_d (sym t ∙ u))
  kinds one {bytes} {left} {right} {x} {y} (IsDiv p q r e t b) (IsDiv v w s f u c) =
      let same : r ≡ s = cons_tail (sym t ∙ u) in
      let read =
      one s (p, q) (v, w) left right
      (subst (λ l. BeginsWith (pairs (sums inner)) l (p, q) left) same b) c in
      (e ∙ (λ i. Div (read.0 i).0 (read.0 i).1) ∙ sym f, read.1)
    where
      cons_tail : {xs ys : List ℕ} → 100 ∷ 105 ∷ 118 ∷ 40 ∷ xs ≡ 100 ∷ 105 ∷ 118 ∷ 40 ∷ ys → xs ≡ ys
      cons_tail e = cc
  kinds one (IsDiv v w r e t b) (IsMod p q s f u c) = absurd (d_or_m (sym t ∙ u))
  kinds one (IsMod p q s f u c) (IsVar n r e t b) = absurd (v_or_m (sym t ∙ u))
  kinds one (IsMod p q s f u c) (IsDiv v w r e t b) = absurd (d_or_m (sym t ∙ u))
  kinds one {bytes} {left} {right} {x} {y} (IsMod p q r e t b) (IsMod v w s f u c) =
      let same : r ≡ s = cons_tail (sym t ∙ u) in
      let read =
      one s (p, q) (v, w) left right
      (subst (λ l. BeginsWith (pairs (sums inner)) l (p, q) left) same b) c in
      (e ∙ (λ i. Mod (read.0 i).0 (read.0 i).1) ∙ sym f, read.1)
    where
      cons_tail : {xs ys : List ℕ} → 109 ∷ 111 ∷ 100 ∷ 40 ∷ xs ≡ 109 ∷ 111 ∷ 100 ∷ 40 ∷ ys → xs ≡ ys
      cons_tail e = cc

  pub atoms_unambiguous : IsUnambiguous (sums inner) → IsUnambiguous (atoms inner)
  atoms_unambiguous one bytes x y left right b c =
      kinds (pairs_unambiguous (sums inner) refl refl one) (kind_of b) (kind_of c)

  -- ---- what reading after a word says

  pub variable_stands : (bytes : List ℕ) (at : ℕ) {after n end : ℕ}
      → Skips (118 ∷ []) bytes at (Some after) → StandsAt (naturals 999999) bytes after n end
      → StandsAt (atoms inner) bytes at (Var n) end
  variable_stands bytes at {after} {n} {end} k s = record {
    forward = omega (arith, k.0, s.forward);
    inside = s.inside;
    begins = begins_Var (drop after bytes) k.1.1 s.begins;
  }

  pub quotient_stands : (bytes : List ℕ) (at : ℕ) {after end : ℕ} {p q : Body}
      → Skips (100 ∷ 105 ∷ 118 ∷ 40 ∷ []) bytes at (Some after)
      → StandsAt (pairs (sums inner)) bytes after (p, q) end
      → StandsAt (atoms inner) bytes at (Div p q) end
  quotient_stands bytes at {after} {end} {p} {q} k s = record {
    forward = omega (arith, k.0, s.forward);
    inside = s.inside;
    begins = begins_Div (drop after bytes) k.1.1 s.begins;
  }

  pub remainder_stands : (bytes : List ℕ) (at : ℕ) {after end : ℕ} {p q : Body}
      → Skips (109 ∷ 111 ∷ 100 ∷ 40 ∷ []) bytes at (Some after)
      → StandsAt (pairs (sums inner)) bytes after (p, q) end
      → StandsAt (atoms inner) bytes at (Mod p q) end
  remainder_stands bytes at {after} {end} {p} {q} k s = record {
    forward = omega (arith, k.0, s.forward);
    inside = s.inside;
    begins = begins_Mod (drop after bytes) k.1.1 s.begins;
  }

  pub no_variable : (bytes : List ℕ) (at : ℕ) {after : ℕ} → Skips (118 ∷ []) bytes at (Some after)
      → Reads (naturals 999999) bytes after None → Reads (atoms inner) bytes at None
  no_variable bytes at {after} k never = λ x left b. by (kind_of b)
    where
      by : {x : Atom} {left : List ℕ} → Kind (drop at bytes) x left → ⊥
      by {x} {left} (IsVar n r e t b) =
          let same : r ≡ drop after bytes = cons_tail (sym t ∙ k.1.1) in
          never n left (subst (λ l. BeginsWith (naturals 999999) l n left) same b)
        where
          cons_tail : {xs ys : List ℕ} → 118 ∷ xs ≡ 118 ∷ ys → xs ≡ ys
          cons_tail e = cc
      by (IsDiv p q r e t b) = v_or_d (sym k.1.1 ∙ t)
      by (IsMod p q r e t b) = v_or_m (sym k.1.1 ∙ t)

  pub no_quotient : (bytes : List ℕ) (at : ℕ) {after : ℕ}
      → Skips (100 ∷ 105 ∷ 118 ∷ 40 ∷ []) bytes at (Some after)
      → Reads (pairs (sums inner)) bytes after None → Reads (atoms inner) bytes at None
  no_quotient bytes at {after} k never = λ x left b. by (kind_of b)
    where
      by : {x : Atom} {left : List ℕ} → Kind (drop at bytes) x left → ⊥
      by (IsVar n r e t b) = v_or_d (sym t ∙ k.1.1)
      by {x} {left} (IsDiv p q r e t b) =
          let same : r ≡ drop after bytes = cons_tail (sym t ∙ k.1.1) in
          never (p, q) left (subst (λ l. BeginsWith (pairs (sums inner)) l (p, q) left) same b)
        where
          cons_tail : {xs ys : List ℕ} → 100 ∷ 105 ∷ 118 ∷ 40 ∷ xs ≡ 100 ∷ 105 ∷ 118 ∷ 40 ∷ ys
              → xs ≡ ys
          cons_tail e = cc
      by (IsMod p q r e t b) = d_or_m (sym k.1.1 ∙ t)

  pub no_remainder : (bytes : List ℕ) (at : ℕ) {after : ℕ}
      → Skips (109 ∷ 111 ∷ 100 ∷ 40 ∷ []) bytes at (Some after)
      → Reads (pairs (sums inner)) bytes after None → Reads (atoms inner) bytes at None
  no_remainder bytes at {after} k never = λ x left b. by (kind_of b)
    where
      by : {x : Atom} {left : List ℕ} → Kind (drop at bytes) x left → ⊥
      by (IsVar n r e t b) = v_or_m (sym t ∙ k.1.1)
      by (IsDiv p q r e t b) = d_or_m (sym t ∙ k.1.1)
      by {x} {left} (IsMod p q r e t b) =
          let same : r ≡ drop after bytes = cons_tail (sym t ∙ k.1.1) in
          never (p, q) left (subst (λ l. BeginsWith (pairs (sums inner)) l (p, q) left) same b)
        where
          cons_tail : {xs ys : List ℕ} → 109 ∷ 111 ∷ 100 ∷ 40 ∷ xs ≡ 109 ∷ 111 ∷ 100 ∷ 40 ∷ ys
              → xs ≡ ys
          cons_tail e = cc

  pub no_atom : (bytes : List ℕ) (at : ℕ) → Skips (118 ∷ []) bytes at None
      → Skips (100 ∷ 105 ∷ 118 ∷ 40 ∷ []) bytes at None
      → Skips (109 ∷ 111 ∷ 100 ∷ 40 ∷ []) bytes at None → Reads (atoms inner) bytes at None
  no_atom bytes at v d m = λ x left b. by (kind_of b)
    where
      by : {x : Atom} {left : List ℕ} → Kind (drop at bytes) x left → ⊥
      by (IsVar n r e t b) = v r t
      by (IsDiv p q r e t b) = d r t
      by (IsMod p q r e t b) = m r t
