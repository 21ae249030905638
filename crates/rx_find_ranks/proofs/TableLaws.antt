-- One column more: what was lower stays lower, and the rows of all columns are those of the earlier
-- ones and of the last.
use Rattle.std.proofs.Common.{◌≡◌, ◌∙◌, ap, sym, subst, refl, cond, arith, ℕ, zero, suc, ◌≤◌, ◌<◌, Bool, true, false, ◌&&◌, List, [], ◌∷◌, ◌++◌, length, append_assoc, append-nil}
use Rattle.std.specs.Prelude.{nat_le, nat_lt}
use Rattle.std.proofs.lemmas.Bool.{and_parts, leb-true, ltb-true, le-leb, lt-ltb}
use Rattle.std.proofs.lemmas.List.{length-append, length-map, map-append}
use Rattle.std.proofs.lemmas.List.Elements.{All-append}
use Rattle.rx_plain.proofs.Booleans.{and_grouped, and_true}
use Rattle.rx_plain.specs.Formed.{Formed}
use Rattle.rx_poly.specs.declared.body.Body.{Body}
use Rattle.rx_row.specs.declared.row.Row.{Row}
use Rattle.rx_cert.specs.Conditions.{is_shown}
use Rattle.rx_cert.specs.Depth.{cert_depth}
use Rattle.rx_cert.specs.Findings.{Yes, No, guard}
use Rattle.rx_cert.specs.declared.cert.Cert.{Cert}
use Rattle.rx_solve.specs.Answers.{AreCertificates}
use Rattle.rx_solve.specs.Bounds.{most_deep}
use Rattle.rx_pairs.specs.Columns.{falls_rows, holds_rows}
use Rattle.rx_pairs.specs.Lowering.{column_finding, has_column, lower_rows, rows_finding}
use Rattle.rx_pairs.specs.declared.pair.Pair.{Pair}
use Rattle.rx_rank.proofs.Certified.{certificates_append}
use Rattle.rx_rank.specs.Answers.{IsProved}
use Rattle.rx_pairs.specs.declared.pair_cert.PairCert.{PairCert}
use Rattle.rx_find_ranks.specs.Columns.{Column, rank_at, value_at}
use Rattle.rx_find_ranks.specs.Tables.{IsLowerBy, held_rows}

-- rows that are those of two lists one after the other, and keep the limits where both do
pub record IsJoined (whole first second : Formed (List Row)) : Type 0 where
  pub form : whole.form ≡ first.form ++ second.form
  pub within : whole.within ≡ (first.within && second.within)

module _ (pair : Pair) where
  abbrev chain : Formed (List Row) → Formed (List Row) → Formed (List Row)
  chain rows others =
      record { form = rows.form ++ others.form; within = rows.within && others.within }

  join_more : (rows whole first second : Formed (List Row)) → IsJoined whole first second →
      IsJoined (chain rows whole) (chain rows first) second
  join_more rows whole first second j = record {
    form = ap (λ rs. rows.form ++ rs) j.form ∙ sym (append_assoc rows.form first.form second.form);
    within = ap (λ b. rows.within && b) j.within ∙ and_grouped rows.within first.within
        second.within;
  }

  -- a column that was there has the same rows
  lower_longer : (j : ℕ) (ps qs : List Body) (p q : Body) → j ≤ length ps → j ≤ length qs
      → lower_rows pair j (ps ++ p ∷ []) (qs ++ q ∷ []) ≡ lower_rows pair j ps qs
  lower_longer zero ps qs p q a b = refl
  lower_longer (suc j) [] qs p q a b = absurd (omega (arith, a))
  lower_longer (suc j) (x ∷ ps) [] p q a b = absurd (omega (arith, b))
  lower_longer (suc zero) (x ∷ ps) (y ∷ qs) p q a b = refl
  lower_longer (suc (suc j)) (x ∷ ps) (y ∷ qs) p q a b =
      ap (λ rest. chain (holds_rows pair x y) rest)
      (lower_longer (suc j) ps qs p q (omega (arith, a)) (omega (arith, b)))

  has_more : (j : ℕ) (ps qs : List Body) (p q : Body) → has_column j ps qs ≡ true →
      has_column j (ps ++ p ∷ []) (qs ++ q ∷ []) ≡ true
  has_more j ps qs p q has =
      let some = and_parts (nat_lt 0 j) (nat_le j (length ps) && nat_le j (length qs)) has in
      let many = and_parts (nat_le j (length ps)) (nat_le j (length qs)) some.1 in
      let left = leb-true j (length ps) many.0 in
      let right = leb-true j (length qs) many.1 in
      let longer = length-append ps (p ∷ []) in
      let also = length-append qs (q ∷ []) in
      has_of j (ps ++ p ∷ []) (qs ++ q ∷ []) (ltb-true 0 j some.0) (omega (arith, left, longer))
      (omega (arith, right, also))
    where
      has_of : (i : ℕ) (xs ys : List Body) → 0 < i → i ≤ length xs → i ≤ length ys →
          has_column i xs ys ≡ true
      has_of i xs ys a b c =
          λ k. lt-ltb 0 i a k && (le-leb i (length xs) b k && le-leb i (length ys) c k)

  by_column : (j : ℕ) (ps qs : List Body) (p q : Body) (certs : List Cert) (b : Bool) →
      has_column j ps qs ≡ b
      → cond b (rows_finding pair (lower_rows pair j ps qs) certs) No ≡ Yes →
      column_finding pair j (ps ++ p ∷ []) (qs ++ q ∷ []) certs ≡ Yes
  by_column j ps qs p q certs true has found =
      let some = and_parts (nat_lt 0 j) (nat_le j (length ps) && nat_le j (length qs)) has in
      let many = and_parts (nat_le j (length ps)) (nat_le j (length qs)) some.1 in
      ap (λ b. cond b (rows_finding pair (lower_rows pair j (ps ++ p ∷ []) (qs ++ q ∷ [])) certs)
      No) (has_more j ps qs p q has)
      ∙ ap (λ rows. rows_finding pair rows certs)
      (lower_longer j ps qs p q (leb-true j (length ps) many.0) (leb-true j (length qs) many.1))
      ∙ found
  by_column j ps qs p q certs false has found = cc

  pub column_longer : (j : ℕ) (ps qs : List Body) (p q : Body) (certs : List Cert) →
      column_finding pair j ps qs certs ≡ Yes
      → column_finding pair j (ps ++ p ∷ []) (qs ++ q ∷ []) certs ≡ Yes
  column_longer j ps qs p q certs found =
      by_column j ps qs p q certs (has_column j ps qs) refl found

  -- the rows by the last column are those of the earlier ones and its own
  fall_last : (n : ℕ) (ps qs : List Body) (p q : Body) → n ≡ length ps → n ≡ length qs
      → IsJoined (lower_rows pair (suc n) (ps ++ p ∷ []) (qs ++ q ∷ [])) (held_rows pair ps qs)
      (falls_rows pair p q)
  fall_last zero [] [] p q a b = record { form = refl; within = refl }
  fall_last zero (x ∷ ps) qs p q a b = absurd (omega (arith, a))
  fall_last zero [] (y ∷ qs) p q a b = absurd (omega (arith, b))
  fall_last (suc n) [] qs p q a b = absurd (omega (arith, a))
  fall_last (suc n) (x ∷ ps) [] p q a b = absurd (omega (arith, b))
  fall_last (suc n) (x ∷ ps) (y ∷ qs) p q a b =
      join_more (holds_rows pair x y) (lower_rows pair (suc n) (ps ++ p ∷ []) (qs ++ q ∷ []))
      (held_rows pair ps qs) (falls_rows pair p q)
      (fall_last n ps qs p q (omega (arith, a)) (omega (arith, b)))

  hold_last : (ps qs : List Body) (p q : Body) → length ps ≡ length qs
      → IsJoined (held_rows pair (ps ++ p ∷ []) (qs ++ q ∷ [])) (held_rows pair ps qs)
      (holds_rows pair p q)
  hold_last [] [] p q e =
      record {
        form = append-nil (holds_rows pair p q).form;
        within =
            and_true (holds_rows pair p q).within;
      }
  hold_last [] (y ∷ qs) p q e = absurd (omega (arith, e))
  hold_last (x ∷ ps) [] p q e = absurd (omega (arith, e))
  hold_last (x ∷ ps) (y ∷ qs) p q e =
      join_more (holds_rows pair x y) (held_rows pair (ps ++ p ∷ []) (qs ++ q ∷ []))
      (held_rows pair ps qs) (holds_rows pair p q)
      (hold_last ps qs p q (omega (arith, e)))

  -- rows that are proved one after the other
  both_proved : (whole first second : Formed (List Row)) (certs more : List Cert) →
      IsJoined whole first second → IsProved pair first certs → IsProved pair second more
      → IsProved pair whole (certs ++ more)
  both_proved whole first second certs more j a b = record {
    within = j.within ∙ (λ k. a.within k && b.within k);
    certified = subst (λ rs. AreCertificates most_deep pair.phi rs (certs ++ more)) (sym j.form)
        (certificates_append pair.phi most_deep first.form second.form certs more a.certified
        b.certified);
  }

  pub held_more : (ps qs : List Body) (p q : Body) (certs more : List Cert) → length ps ≡
      length qs → IsProved pair (held_rows pair ps qs) certs
      → IsProved pair (holds_rows pair p q) more →
      IsProved pair (held_rows pair (ps ++ p ∷ []) (qs ++ q ∷ [])) (certs ++ more)
  held_more ps qs p q certs more e a b =
      both_proved (held_rows pair (ps ++ p ∷ []) (qs ++ q ∷ [])) (held_rows pair ps qs)
      (holds_rows pair p q) certs more (hold_last ps qs p q e) a b

  found_proved : (rows : Formed (List Row)) (certs : List Cert) → IsProved pair rows certs →
      rows_finding pair rows certs ≡ Yes
  found_proved rows certs is = λ k. guard (is.within k) (is_shown (is.certified.shows k))

  pub fallen_last : (ps qs : List Body) (p q : Body) (certs more : List Cert) → length ps ≡
      length qs → IsProved pair (held_rows pair ps qs) certs
      → IsProved pair (falls_rows pair p q) more →
      column_finding pair (suc (length ps)) (ps ++ p ∷ []) (qs ++ q ∷ []) (certs ++ more) ≡ Yes
  fallen_last ps qs p q certs more e a b =
      let j = suc (length ps) in
      let whole = lower_rows pair j (ps ++ p ∷ []) (qs ++ q ∷ []) in
      let longer = length-append ps (p ∷ []) in
      let also = length-append qs (q ∷ []) in
      ap (λ b. cond b (rows_finding pair whole (certs ++ more)) No)
      (has_of j (ps ++ p ∷ []) (qs ++ q ∷ []) (omega arith) (omega (arith, longer))
      (omega (arith, also, e)))
      ∙ found_proved whole (certs ++ more)
      (both_proved whole (held_rows pair ps qs) (falls_rows pair p q) certs more
      (fall_last (length ps) ps qs p q refl e) a b)
    where
      has_of : (i : ℕ) (xs ys : List Body) → 0 < i → i ≤ length xs → i ≤ length ys →
          has_column i xs ys ≡ true
      has_of i xs ys a b c =
          λ k. lt-ltb 0 i a k && (le-leb i (length xs) b k && le-leb i (length ys) c k)

-- ---- ranks

pub rank_count : (columns : List Column) (f : ℕ) → length (rank_at columns f) ≡ length columns
rank_count columns f = length-map columns (value_at f)

pub rank_more : (columns : List Column) (column : Column) (f : ℕ) →
    rank_at (columns ++ column ∷ []) f ≡ rank_at columns f ++ value_at f column ∷ []
rank_more columns column f = map-append (value_at f) columns (column ∷ [])

module _ (columns : List Column) (column : Column) (pair : Pair) where
  abbrev l : ℕ
  l = pair.left.0

  abbrev r : ℕ
  r = pair.right.0

  same_count : length (rank_at columns l) ≡ length (rank_at columns r)
  same_count = rank_count columns l ∙ sym (rank_count columns r)

  -- a column that holds too
  pub held_column : (certs more : List Cert) →
      IsProved pair (held_rows pair (rank_at columns l) (rank_at columns r)) certs
      → IsProved pair (holds_rows pair (value_at l column) (value_at r column)) more
      → IsProved pair (held_rows pair (rank_at (columns ++ column ∷ []) l)
      (rank_at (columns ++ column ∷ []) r)) (certs ++ more)
  held_column certs more a b =
      subst (λ qs. IsProved pair (held_rows pair (rank_at (columns ++ column ∷ []) l) qs)
      (certs ++ more)) (sym (rank_more columns column r))
      (subst (λ ps. IsProved pair (held_rows pair ps (rank_at columns r ++ value_at r column ∷ []))
      (certs ++ more)) (sym (rank_more columns column l))
      (held_more pair (rank_at columns l) (rank_at columns r) (value_at l column)
      (value_at r column) certs more same_count a b))

  -- a column that falls
  fallen_finding : (certs more : List Cert) →
      IsProved pair (held_rows pair (rank_at columns l) (rank_at columns r)) certs
      → IsProved pair (falls_rows pair (value_at l column) (value_at r column)) more
      → column_finding pair (suc (length columns)) (rank_at (columns ++ column ∷ []) l)
      (rank_at (columns ++ column ∷ []) r) (certs ++ more) ≡ Yes
  fallen_finding certs more a b =
      ap (λ ps. column_finding pair (suc (length columns)) ps (rank_at (columns ++ column ∷ []) r)
      (certs ++ more)) (rank_more columns column l)
      ∙ ap (λ qs. column_finding pair (suc (length columns))
      (rank_at columns l ++ value_at l column ∷ []) qs (certs ++ more))
      (rank_more columns column r)
      ∙ ap (λ n. column_finding pair (suc n) (rank_at columns l ++ value_at l column ∷ [])
      (rank_at columns r ++ value_at r column ∷ []) (certs ++ more))
      (sym (rank_count columns l))
      ∙ fallen_last pair (rank_at columns l) (rank_at columns r) (value_at l column)
      (value_at r column) certs more same_count a b

  pub fallen_column : (certs more : List Cert) →
      IsProved pair (held_rows pair (rank_at columns l) (rank_at columns r)) certs
      → IsProved pair (falls_rows pair (value_at l column) (value_at r column)) more
      → IsLowerBy (columns ++ column ∷ []) pair
      (record { column = suc (length columns); certs = certs ++ more })
  fallen_column certs more a b = record {
    finds = fallen_finding certs more a b;
    deep =
        All-append (λ (cert : Cert). cert_depth cert ≤ most_deep) certs more a.certified.deep
        b.certified.deep;
  }

  -- a pair that was lower stays so
  longer_finding : (cert : PairCert) → column_finding pair cert.column (rank_at columns l)
      (rank_at columns r) cert.certs ≡ Yes
      → column_finding pair cert.column (rank_at (columns ++ column ∷ []) l)
      (rank_at (columns ++ column ∷ []) r) cert.certs ≡ Yes
  longer_finding cert lower =
      ap (λ ps. column_finding pair cert.column ps (rank_at (columns ++ column ∷ []) r) cert.certs)
      (rank_more columns column l)
      ∙ ap (λ qs. column_finding pair cert.column (rank_at columns l ++ value_at l column ∷ []) qs
      cert.certs) (rank_more columns column r)
      ∙ column_longer pair cert.column (rank_at columns l) (rank_at columns r) (value_at l column)
      (value_at r column) cert.certs lower

  pub longer_column : (cert : PairCert) → IsLowerBy columns pair cert →
      IsLowerBy (columns ++ column ∷ []) pair cert
  longer_column cert lower = record { finds = longer_finding cert lower.finds; deep = lower.deep }
