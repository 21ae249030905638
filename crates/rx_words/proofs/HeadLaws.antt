-- The first words of a certificate are read by their kind.
use Rattle.std.proofs.Common.{◌≡◌, ◌∙◌, ap, subst, refl, sym, ℕ, ◌==◌, Bool, true, false, cond, List, [], ◌∷◌, ◌++◌, drop, Option, Some, None, arith, append_assoc, ℤ}
use Rattle.std.proofs.lemmas.Bool.{and_from, and_parts}
use Rattle.rx_poly.specs.declared.body.Body.{Body}
use Rattle.rx_row.specs.declared.row.Row.{Row}
use Rattle.rx_text.specs.Formats.{BeginsWith, IsUnambiguous, Reads}
use Rattle.rx_text.specs.Numbers.{integers}
use Rattle.rx_text.specs.Polynomials.{polynomials}
use Rattle.rx_text.specs.Rows.{row_format}
use Rattle.rx_words.specs.Certificates.{part_lists}
use Rattle.rx_words.specs.Heads.{ReadsKind, fields, fields_text, heads, is_of, is_readable_head, kind_of, kind_word, solution}
use Rattle.rx_words.specs.Words.{numbers, pairs, variables, word, words}
use Rattle.rx_words.specs.declared.heads.Head.{Head}
use Rattle.rx_words.specs.declared.heads.Kind.{Kind}
use Rattle.rx_words.proofs.Once.{numbers_once, integers_once, part_lists_once, polynomials_once, rows_once, second_rows_once}
use Rattle.rx_words.proofs.Joined.{pairs_once}

-- the kind whose word the first three bytes begin, and what comes after the word
abbrev known_s : ℕ → List ℕ → Kind × List ℕ
known_s b rest =
    cond (b == 117) (Kind.Sum, drop 1 rest) (cond (b == 112) (Kind.Split, drop 3 rest)
    (Kind.Solve, drop 3 rest))

abbrev known_d : ℕ → List ℕ → Kind × List ℕ
known_d c rest = cond (c == 102) (Kind.Differ, drop 4 rest) (Kind.DivFacts, drop 1 rest)

abbrev told : ℕ → ℕ → ℕ → List ℕ → Kind × List ℕ
told a b c rest =
    cond (a == 99) (Kind.Cut, drop 1 rest) (cond (a == 100) (known_d c rest) (known_s b rest))

abbrev known_from : List ℕ → Kind × List ℕ
known_from [] = (Kind.Sum, [])
known_from (a ∷ []) = (Kind.Sum, [])
known_from (a ∷ b ∷ []) = (Kind.Sum, [])
known_from (a ∷ b ∷ c ∷ rest) = told a b c rest

known_kind : (kind : Kind) (rest : List ℕ) → known_from (kind_word kind ++ rest) ≡ (kind, rest)
known_kind Kind.Sum rest = refl
known_kind Kind.Cut rest = refl
known_kind Kind.Split rest = refl
known_kind Kind.Differ rest = refl
known_kind Kind.Solve rest = refl
known_kind Kind.DivFacts rest = refl

-- bytes begin with the word of one kind
kinds_apart : (j k : Kind) (s t : List ℕ) → kind_word j ++ s ≡ kind_word k ++ t → (j ≡ k) × (s ≡ t)
kinds_apart j k s t e =
    let same : (j, s) ≡ (k, t) = sym (known_kind j s) ∙ ap known_from e ∙ known_kind k t in
    (ap (λ (p : Kind × List ℕ). p.0) same, ap (λ (p : Kind × List ℕ). p.1) same)

of_its_kind : (head : Head) → is_of (kind_of head) head ≡ true
of_its_kind (Head.Sum parts) = refl
of_its_kind (Head.Cut parts div) = refl
of_its_kind (Head.Split row) = refl
of_its_kind (Head.Differ at) = refl
of_its_kind (Head.Solve first second var) = refl
of_its_kind (Head.DivFacts num den) = refl

-- one kind's fields are those of a plain format
module _ {A : Type 0} (text : A → List ℕ) (in_range : A → Bool) (kind : Kind) (make : A → Head)
    (same : (x : A) → fields_text (make x) ≡ text x)
    (ranged : (x : A) → is_readable_head (make x) ≡ in_range x)
    (only : (head : Head) → is_of kind head ≡ true → (x : A) × (head ≡ make x)) where
  plain : {bytes left : List ℕ} {head : Head} (x : A) → head ≡ make x →
      BeginsWith (fields kind) bytes head left → BeginsWith (words text in_range) bytes x left
  plain {bytes} {left} {head} x e b = record {
    in_range =
        sym (ranged x) ∙ ap is_readable_head (sym e) ∙
        (and_parts (is_of kind head) (is_readable_head head) b.in_range).1;
    text = b.text ∙ ap (λ s. s ++ left) (ap fields_text e ∙ same x);
    over = b.over;
  }

  pub fields_none : (bytes : List ℕ) (at : ℕ) → Reads (words text in_range) bytes at None →
      Reads (fields kind) bytes at None
  fields_none bytes at never head left b =
      let x = only head (and_parts (is_of kind head) (is_readable_head head) b.in_range).0 in
      never x.0 left (plain x.0 x.1 b)

  pub fields_once : IsUnambiguous (words text in_range) → IsUnambiguous (fields kind)
  fields_once once bytes y z left right b c =
      let p = only y (and_parts (is_of kind y) (is_readable_head y) b.in_range).0 in
      let q = only z (and_parts (is_of kind z) (is_readable_head z) c.in_range).0 in
      let s = once bytes p.0 q.0 left right (plain p.0 p.1 b) (plain q.0 q.1 c) in
      (p.1 ∙ ap make s.0 ∙ sym q.1, s.1)

only_sum : (head : Head) → is_of Kind.Sum head ≡ true → (x : List (ℕ × ℤ)) × (head ≡ Head.Sum x)
only_sum (Head.Sum parts) e = (parts, refl)
only_sum head e = absurd (let f : false ≡ true = e in cc)

abbrev a_cut : List (ℕ × ℤ) × ℤ → Head
a_cut x = Head.Cut x.0 x.1

only_cut : (head : Head) → is_of Kind.Cut head ≡ true → (x : List (ℕ × ℤ) × ℤ) × (head ≡ a_cut x)
only_cut (Head.Cut parts div) e = ((parts, div), refl)
only_cut head e = absurd (let f : false ≡ true = e in cc)

only_split : (head : Head) → is_of Kind.Split head ≡ true → (x : Row) × (head ≡ Head.Split x)
only_split (Head.Split row) e = (row, refl)
only_split head e = absurd (let f : false ≡ true = e in cc)

only_differ : (head : Head) → is_of Kind.Differ head ≡ true → (x : ℕ) × (head ≡ Head.Differ x)
only_differ (Head.Differ at) e = (at, refl)
only_differ head e = absurd (let f : false ≡ true = e in cc)

abbrev a_solution : ℕ × (ℕ × ℕ) → Head
a_solution x = Head.Solve x.0 x.1.0 x.1.1

only_solve : (head : Head) → is_of Kind.Solve head ≡ true → (x : ℕ × (ℕ × ℕ)) ×
    (head ≡ a_solution x)
only_solve (Head.Solve first second var) e = ((first, (second, var)), refl)
only_solve head e = absurd (let f : false ≡ true = e in cc)

abbrev a_division : Body × ℤ → Head
a_division x = Head.DivFacts x.0 x.1

only_division : (head : Head) → is_of Kind.DivFacts head ≡ true → (x : Body × ℤ) ×
    (head ≡ a_division x)
only_division (Head.DivFacts num den) e = ((num, den), refl)
only_division head e = absurd (let f : false ≡ true = e in cc)

pub no_cut : (bytes : List ℕ) (at : ℕ) → Reads (pairs part_lists (word integers)) bytes at None →
    Reads (fields Kind.Cut) bytes at None
no_cut =
    fields_none (pairs part_lists (word integers)).text (pairs part_lists (word integers)).in_range
    Kind.Cut a_cut (λ x. refl) (λ x. refl) only_cut

pub no_solution : (bytes : List ℕ) (at : ℕ) →
    Reads (pairs numbers (pairs numbers variables)) bytes at None →
    Reads (fields Kind.Solve) bytes at None
no_solution =
    fields_none (pairs numbers (pairs numbers variables)).text
    (pairs numbers (pairs numbers variables)).in_range Kind.Solve a_solution (λ x. refl)
    (λ x. refl) only_solve

pub reads_solution : (bytes : List ℕ) (at : ℕ) (r : Option ((ℕ × (ℕ × ℕ)) × ℕ)) →
    Reads (pairs numbers (pairs numbers variables)) bytes at r →
    Reads (fields Kind.Solve) bytes at (solution r)
reads_solution bytes at None h = no_solution bytes at h
reads_solution bytes at (Some r) h = record {
  forward = h.forward;
  inside = h.inside;
  begins = record { in_range = h.begins.in_range; text = h.begins.text; over = h.begins.over };
}

pub no_division : (bytes : List ℕ) (at : ℕ) →
    Reads (pairs (word polynomials) (word integers)) bytes at None →
    Reads (fields Kind.DivFacts) bytes at None
no_division =
    fields_none (pairs (word polynomials) (word integers)).text
    (pairs (word polynomials) (word integers)).in_range Kind.DivFacts a_division (λ x. refl)
    (λ x. refl) only_division

-- the fields of each kind are unambiguous
each_once : (kind : Kind) → IsUnambiguous (fields kind)
each_once Kind.Sum =
    fields_once part_lists.text part_lists.in_range Kind.Sum Head.Sum (λ x. refl) (λ x. refl)
    only_sum part_lists_once
each_once Kind.Cut =
    fields_once (pairs part_lists (word integers)).text (pairs part_lists (word integers)).in_range
    Kind.Cut a_cut (λ x. refl) (λ x. refl) only_cut
    (pairs_once part_lists.text part_lists.in_range integers.text integers.in_range part_lists_once
    integers_once)
each_once Kind.Split =
    fields_once row_format.text row_format.in_range Kind.Split Head.Split (λ x. refl) (λ x. refl)
    only_split rows_once
each_once Kind.Differ =
    fields_once numbers.text numbers.in_range Kind.Differ Head.Differ (λ x. refl) (λ x. refl)
    only_differ numbers_once
each_once Kind.Solve =
    fields_once (pairs numbers (pairs numbers variables)).text
    (pairs numbers (pairs numbers variables)).in_range Kind.Solve a_solution (λ x. refl)
    (λ x. refl) only_solve
    (pairs_once numbers.text numbers.in_range (pairs numbers variables).text
    (pairs numbers variables).in_range numbers_once second_rows_once)
each_once Kind.DivFacts =
    fields_once (pairs (word polynomials) (word integers)).text
    (pairs (word polynomials) (word integers)).in_range Kind.DivFacts a_division (λ x. refl)
    (λ x. refl) only_division
    (pairs_once polynomials.text polynomials.in_range integers.text integers.in_range
    polynomials_once integers_once)

-- after the word of the kind come the fields
after_word : {bytes left rest : List ℕ} {head : Head} (kind : Kind) →
    BeginsWith heads bytes head left → bytes ≡ kind_word kind ++ rest →
    BeginsWith (fields kind) rest head left
after_word {bytes} {left} {rest} {head} kind b e =
    let apart = kinds_apart (kind_of head) kind (fields_text head ++ left) rest
    (sym (append_assoc (kind_word (kind_of head)) (fields_text head) left) ∙ sym b.text ∙ e) in
    record {
      in_range =
          and_from (is_of kind head) (is_readable_head head)
          (subst (λ k. is_of k head ≡ true) apart.0 (of_its_kind head)) b.in_range;
      text = sym apart.1;
      over = b.over;
    }

pub no_kind : (bytes : List ℕ) (at : ℕ) → ReadsKind bytes at None → Reads heads bytes at None
no_kind bytes at never head left b =
    never (kind_of head) (fields_text head ++ left)
    (b.text ∙ append_assoc (kind_word (kind_of head)) (fields_text head) left)

is_its_kind : (kind : Kind) (head : Head) → is_of kind head ≡ true → kind_of head ≡ kind
is_its_kind Kind.Sum head e = ap kind_of (only_sum head e).1
is_its_kind Kind.Cut head e = ap kind_of (only_cut head e).1
is_its_kind Kind.Split head e = ap kind_of (only_split head e).1
is_its_kind Kind.Differ head e = ap kind_of (only_differ head e).1
is_its_kind Kind.Solve head e = ap kind_of (only_solve head e).1
is_its_kind Kind.DivFacts head e = ap kind_of (only_division head e).1

-- what was read after the word of a kind is what was read from its beginning
pub reads_head : (bytes : List ℕ) (at next : ℕ) (kind : Kind) (r : Option (Head × ℕ)) →
    ReadsKind bytes at (Some (kind, next)) → Reads (fields kind) bytes next r →
    Reads heads bytes at r
reads_head bytes at next kind None k h = λ head left b. h head left (after_word kind b k.1.1)
reads_head bytes at next kind (Some r) k h =
    let parts = and_parts (is_of kind r.0) (is_readable_head r.0) h.begins.in_range in
    record {
      forward = omega (arith, h.forward, k.0);
      inside = h.inside;
      begins = record {
        in_range = parts.1;
        text =
            k.1.1 ∙ ap (λ s. kind_word kind ++ s) h.begins.text ∙
            sym (append_assoc (kind_word kind) (fields_text r.0) (drop r.1 bytes))
            ∙ ap (λ j. (kind_word j ++ fields_text r.0) ++ drop r.1 bytes)
            (sym (is_its_kind kind r.0 parts.0));
        over = h.begins.over;
      };
    }

-- bytes begin with the first words of at most one certificate
pub heads_once : IsUnambiguous heads
heads_once bytes x y left right b c =
    let rest = fields_text x ++ left in
    let e = b.text ∙ append_assoc (kind_word (kind_of x)) (fields_text x) left in
    each_once (kind_of x) rest x y left right (after_word (kind_of x) b e)
    (after_word (kind_of x) c e)
