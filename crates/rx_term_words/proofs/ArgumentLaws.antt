-- Polynomials with commas between them, and what closes them.
use Rattle.std.proofs.Common.{◌≡◌, ◌∙◌, ap, subst, refl, sym, ℕ, ◌<◌, ◌^◌, ◌==◌, Bool, true, false, ◌||◌, List, [], ◌∷◌, ◌++◌, drop, Some, None, arith, append_assoc, ℤ, pos, negsuc}
use Rattle.std.specs.List.{list_all}
use Rattle.std.proofs.lemmas.Bool.{and_from, and_parts, ltb-true, or_left}
use Rattle.rx_poly.specs.declared.body.Body.{Body}
use Rattle.rx_text.specs.Formats.{BeginsWith, IsUnambiguous, Reads, Skips, StandsAt, is_over, repeated}
use Rattle.rx_text.specs.Numbers.{integers, is_digit}
use Rattle.rx_text.specs.Plain.{is_plain_inside}
use Rattle.rx_text.specs.Polynomials.{goes_on_with_poly, is_readable_poly, poly_text, polynomials}
use Rattle.rx_text.proofs.Decimals.{number_first}
use Rattle.rx_text.proofs.Lists.{ReadSoFar, all_read, over_first, repeated_unambiguous, row, row_over, stuck}
use Rattle.rx_text.proofs.Nesting.{inside_unambiguous}
use Rattle.rx_text.proofs.Readable.{as_sum, polynomials_unambiguous}
use Rattle.rx_text.proofs.Readers.{only_that}
use Rattle.rx_text.proofs.Sums.{SumKind, IsZero, HasTerms, sum_kind, term_coefficient}
use Rattle.rx_term_words.specs.Layers.{arguments, closer_text, closers, is_some, some_polys}
use Rattle.rx_term_words.specs.declared.arguments.Closer.{Closer}

abbrev more_text : List Body → List ℕ
more_text ps = row 44 polynomials ps

first_poly : {bytes left : List ℕ} {p : Body} {ps : List Body} →
    BeginsWith some_polys bytes (p ∷ ps) left
    → BeginsWith polynomials bytes p (more_text ps ++ left)
first_poly {bytes} {left} {p} {ps} b = record {
  in_range = (and_parts (is_readable_poly p) (list_all is_readable_poly ps) b.in_range).0;
  text = b.text ∙ append_assoc (poly_text p) (more_text ps) left;
  over =
      row_over 44 polynomials refl ps left (over_first goes_on_with_poly (λ next. next == 44) left
      b.over);
}

more_polys : {bytes rest left : List ℕ} {p : Body} {ps : List Body} →
    BeginsWith some_polys bytes (p ∷ ps) left
    → rest ≡ more_text ps ++ left → BeginsWith (repeated 44 polynomials) rest ps left
more_polys {bytes} {rest} {left} {p} {ps} b e = record {
  in_range = (and_parts (is_readable_poly p) (list_all is_readable_poly ps) b.in_range).1;
  text = e;
  over = b.over;
}

none_is_not_some : {bytes left : List ℕ} → BeginsWith some_polys bytes [] left → ⊥
none_is_not_some b = let h = b.in_range in cc

-- bytes begin with at most one such list
pub some_once : IsUnambiguous some_polys
some_once bytes [] ys left right b c = absurd (none_is_not_some b)
some_once bytes (p ∷ ps) [] left right b c = absurd (none_is_not_some c)
some_once bytes (p ∷ ps) (q ∷ qs) left right b c =
    let s = polynomials_unambiguous bytes p q (more_text ps ++ left) (more_text qs ++ right)
    (first_poly b) (first_poly c) in
    let t = repeated_unambiguous 44 polynomials polynomials_unambiguous refl (more_text ps ++ left)
    ps qs left right (more_polys b refl) (more_polys c s.1) in
    ((λ i. s.0 i ∷ t.0 i), t.1)

pub no_first : (bytes : List ℕ) (at : ℕ) → Reads polynomials bytes at None →
    Reads some_polys bytes at None
no_first bytes at never [] left b = none_is_not_some b
no_first bytes at never (p ∷ ps) left b = never p (more_text ps ++ left) (first_poly b)

pub no_next : (bytes : List ℕ) (at : ℕ) {end place after : ℕ} {p : Body} {things : List Body}
    → StandsAt polynomials bytes at p end → ReadSoFar 44 polynomials bytes end things place
    → Skips (44 ∷ []) bytes place (Some after) → Reads polynomials bytes after None →
    Reads some_polys bytes at None
no_next bytes at s r k never [] left b = none_is_not_some b
no_next bytes at {end} s r k never (q ∷ qs) left b =
    stuck 44 polynomials polynomials_unambiguous refl bytes end r k never
    (more_polys b (only_that polynomials_unambiguous s (first_poly b)).1)

pub some_stand : (bytes : List ℕ) (at : ℕ) {end place : ℕ} {p : Body} {things whole : List Body}
    → StandsAt polynomials bytes at p end → ReadSoFar 44 polynomials bytes end things place
    → Skips (44 ∷ []) bytes place None → whole ≡ p ∷ things →
    StandsAt some_polys bytes at whole place
some_stand bytes at {end} {place} {p} {things} {whole} s r never is =
    let read = all_read 44 polynomials bytes end r never in
    subst (λ (w : List Body). StandsAt some_polys bytes at w place) (sym is) (record {
      forward = omega (arith, s.forward, r.forward);
      inside = r.inside;
      begins = record {
        in_range =
            and_from (is_readable_poly p) (list_all is_readable_poly things) s.begins.in_range
            read.in_range;
        text =
            s.begins.text ∙ ap (λ b. poly_text p ++ b) read.text
            ∙ sym (append_assoc (poly_text p) (more_text things) (drop place bytes));
        over = read.over;
      };
    })

-- ---- how a polynomial begins

abbrev begins_poly : ℕ → Bool
begins_poly byte = is_digit byte || byte == 45

integer_first : {bytes left rest : List ℕ} {byte : ℕ} (z : ℤ) → BeginsWith integers bytes z left →
    bytes ≡ byte ∷ rest → begins_poly byte ≡ true
integer_first {bytes} {left} {rest} {byte} (pos n) b e =
    let less : n < 2 ^ 127 = ltb-true n (2 ^ 127) b.in_range in
    let small : n < 10 ^ 64 = omega arith in
    or_left (is_digit byte) (byte == 45) (number_first n left small (sym b.text ∙ e))
integer_first {bytes} {left} {rest} {byte} (negsuc n) b e =
    let both = sym b.text ∙ e in
    let same : 45 ≡ byte = cc in ap begins_poly (sym same)

poly_first : {bytes left rest : List ℕ} {byte : ℕ} {p : Body} →
    BeginsWith polynomials bytes p left → bytes ≡ byte ∷ rest → begins_poly byte ≡ true
poly_first {bytes} {left} {rest} {byte} {p} b e =
    by (sum_kind (is_plain_inside 64) (inside_unambiguous 64) (as_sum b))
  where
    by : SumKind (is_plain_inside 64) (inside_unambiguous 64) bytes p left → begins_poly byte ≡ true
    by (IsZero none is over) =
        let both = sym is ∙ e in
        let same : 48 ≡ byte = cc in ap begins_poly (sym same)
    by (HasTerms t ts more is first others) =
        integer_first t.1 (term_coefficient (is_plain_inside 64) (inside_unambiguous 64) first) e

-- what closes polynomials begins none
closer_or_poly : (closer : Closer) (rest : List ℕ) {bytes left : List ℕ} {p : Body} →
    BeginsWith polynomials bytes p left
    → bytes ≡ closer_text closer ++ rest → ⊥
closer_or_poly Closer.Semicolon rest b e = let h : false ≡ true = poly_first b e in cc
closer_or_poly Closer.Parenthesis rest b e = let h : false ≡ true = poly_first b e in cc

-- ---- polynomials and what closes them

same_rest : (byte : ℕ) {s t : List ℕ} → byte ∷ s ≡ byte ∷ t → s ≡ t
same_rest byte {s} {t} e = cc

apart : {s t : List ℕ} → 59 ∷ s ≡ 41 ∷ t → ⊥
apart e = cc

pub closers_once : IsUnambiguous closers
closers_once bytes Closer.Semicolon Closer.Semicolon left right b c =
    (refl, same_rest 59 (sym b.text ∙ c.text))
closers_once bytes Closer.Semicolon Closer.Parenthesis left right b c =
    absurd (apart (sym b.text ∙ c.text))
closers_once bytes Closer.Parenthesis Closer.Semicolon left right b c =
    absurd (apart (sym c.text ∙ b.text))
closers_once bytes Closer.Parenthesis Closer.Parenthesis left right b c =
    (refl, same_rest 41 (sym b.text ∙ c.text))

none_goes_on : (left : List ℕ) → is_over (λ byte. false) left ≡ true
none_goes_on [] = refl
none_goes_on (byte ∷ left) = refl

closer_ends : (closer : Closer) (left : List ℕ) →
    is_over some_polys.goes_on (closer_text closer ++ left) ≡ true
closer_ends Closer.Semicolon left = refl
closer_ends Closer.Parenthesis left = refl

closer_alone : {bytes left : List ℕ} {closer : Closer} →
    BeginsWith arguments bytes ([], closer) left → BeginsWith closers bytes closer left
closer_alone b = record { in_range = refl; text = b.text; over = b.over }

polys_before : {bytes left : List ℕ} {closer : Closer} {p : Body} {ps : List Body} →
    BeginsWith arguments bytes (p ∷ ps, closer) left
    → BeginsWith some_polys bytes (p ∷ ps) (closer_text closer ++ left)
polys_before {bytes} {left} {closer} {p} {ps} b = record {
  in_range = b.in_range;
  text = b.text ∙ append_assoc (poly_text p ++ more_text ps) (closer_text closer) left;
  over = closer_ends closer left;
}

closer_after : {bytes left rest : List ℕ} {ps : List Body} {closer : Closer} →
    BeginsWith arguments bytes (ps, closer) left → rest ≡ closer_text closer ++ left →
    BeginsWith closers rest closer left
closer_after b e = record { in_range = refl; text = e; over = b.over }

pub arguments_once : IsUnambiguous arguments
arguments_once bytes ([], x) ([], y) left right b c =
    let s = closers_once bytes x y left right (closer_alone b) (closer_alone c) in
    ((λ i. ([], s.0 i)), s.1)
arguments_once bytes ([], x) (q ∷ qs, y) left right b c =
    absurd (closer_or_poly x left (first_poly (polys_before c)) b.text)
arguments_once bytes (p ∷ ps, x) ([], y) left right b c =
    absurd (closer_or_poly y right (first_poly (polys_before b)) c.text)
arguments_once bytes (p ∷ ps, x) (q ∷ qs, y) left right b c =
    let s = some_once bytes (p ∷ ps) (q ∷ qs) (closer_text x ++ left) (closer_text y ++ right)
    (polys_before b) (polys_before c) in
    let t = closers_once (closer_text x ++ left) x y left right (closer_after b refl)
    (closer_after c s.1) in
    ((λ i. (s.0 i, t.0 i)), t.1)

pub no_polys : (bytes : List ℕ) (at : ℕ) → Reads closers bytes at None →
    Reads some_polys bytes at None → Reads arguments bytes at None
no_polys bytes at none never ([], closer) left b = none closer left (closer_alone b)
no_polys bytes at none never (p ∷ ps, closer) left b =
    never (p ∷ ps) (closer_text closer ++ left) (polys_before b)

pub no_closer : (bytes : List ℕ) (at : ℕ) {middle : ℕ} {ps : List Body} →
    Reads closers bytes at None → StandsAt some_polys bytes at ps middle
    → Reads closers bytes middle None → Reads arguments bytes at None
no_closer bytes at none s never ([], closer) left b = none closer left (closer_alone b)
no_closer bytes at none s never (p ∷ ps, closer) left b =
    never closer left (closer_after b (only_that some_once s (polys_before b)).1)

pub arguments_stand : (bytes : List ℕ) (at : ℕ) {middle end : ℕ} {ps : List Body} {closer : Closer}
    → StandsAt some_polys bytes at ps middle
    → StandsAt closers bytes middle closer end → StandsAt arguments bytes at (ps, closer) end
arguments_stand bytes at {middle} {end} {ps} {closer} s t = record {
  forward = omega (arith, s.forward, t.forward);
  inside = t.inside;
  begins = record {
    in_range = (and_parts (is_some ps) (list_all is_readable_poly ps) s.begins.in_range).1;
    text =
        s.begins.text ∙ ap (λ b. some_polys.text ps ++ b) t.begins.text
        ∙ sym (append_assoc (some_polys.text ps) (closer_text closer) (drop end bytes));
    over = t.begins.over;
  };
}

pub none_stand : (bytes : List ℕ) (at : ℕ) {end : ℕ} {closer : Closer} →
    StandsAt closers bytes at closer end → StandsAt arguments bytes at ([], closer) end
none_stand bytes at s = record {
  forward = s.forward;
  inside = s.inside;
  begins = record { in_range = refl; text = s.begins.text; over = s.begins.over };
}
