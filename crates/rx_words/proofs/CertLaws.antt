-- A certificate is its first words with the certificates in it: its text, its depth, and whether it
-- has a text.
use Rattle.std.proofs.Common.{◌≡◌, ◌∙◌, ap, subst, refl, sym, ℕ, zero, suc, ◌+◌, ◌<◌, ◌≤◌, max, Bool, true, false, ◌&&◌, List, [], ◌∷◌, ◌++◌, length, drop, Some, None, arith, append_assoc, ℤ, codes}
use Rattle.std.specs.List.{list_all}
use Rattle.std.proofs.lemmas.Bool.{and_from, and_parts, leb-true, le-leb}
use Rattle.std.specs.Cmp.{both_ways}
use Rattle.std.proofs.lemmas.List.{append-nil}
use Rattle.std.specs.Prelude.{nat_le}
use Rattle.rx_plain.proofs.Booleans.{and_exchange}
use Rattle.rx_poly.specs.Limits.{fits_i128}
use Rattle.rx_poly.specs.declared.body.Body.{Body}
use Rattle.rx_row.specs.declared.row.Row.{Row}
use Rattle.rx_text.specs.Numbers.{integer_text, natural_text}
use Rattle.rx_text.specs.Polynomials.{is_readable_poly, poly_text}
use Rattle.rx_text.specs.Rows.{is_readable_row, row_text}
use Rattle.rx_cert.specs.Depth.{cert_depth}
use Rattle.rx_cert.specs.declared.cert.Cert.{Cert, Cert-F, fold_out-Cert, map-Cert, out-Cert, roll-Cert, roll-out-Cert}
use Rattle.rx_cert.specs.declared.cert.Cert.TheVariants as made
use Rattle.rx_cert.proofs.Equations.{depth_sum, depth_cut, depth_split, depth_differ, depth_solve, depth_division}
use Rattle.rx_text.specs.Formats.{BeginsWith, IsUnambiguous, Reads, StandsAt}
use Rattle.rx_words.specs.Certificates.{cert_text, cert_text_level, certificate_lists, certificates_within, is_readable_cert, is_readable_level, part_lists}
use Rattle.rx_words.specs.Heads.{assembled, heads, inner_count, is_readable_head}
use Rattle.rx_words.specs.Words.{each_spaced, numbers, variables}
use Rattle.rx_words.specs.declared.heads.Head.{Head}
use Rattle.rx_words.specs.Lists.{AreSpaced, ReadsSpaced}
use Rattle.rx_words.proofs.HeadLaws.{heads_once}
use Rattle.rx_words.proofs.Joined.{counted_once}
use Rattle.rx_words.proofs.Once.{numbers_once}
use Rattle.rx_words.proofs.Spaced.{over_spaced, spaced_once}
use Rattle.rx_text.proofs.Readers.{only_that}

-- the text of a certificate of each kind
text_of : (cert : Cert) → cert_text cert ≡ cert_text_level
    (map-Cert Cert (List ℕ) cert_text (out-Cert cert))
text_of cert = fold_out-Cert (List ℕ) cert_text_level cert

readable : (cert : Cert) → is_readable_cert cert ≡
    is_readable_level (map-Cert Cert Bool is_readable_cert (out-Cert cert))
readable cert = fold_out-Cert Bool is_readable_level cert

abbrev fits : ℕ → Cert → Bool
fits n cert = nat_le (cert_depth cert) n

-- what is known of a certificate by its first words and those in it
pub record Made (head : Head) (inner : List Cert) (cert : Cert) : Type 0 where
  pub count : length inner ≡ inner_count head
  pub text : cert_text cert ≡ heads.text head ++ each_spaced cert_text inner
  pub readable : is_readable_cert cert ≡ (is_readable_head head && list_all is_readable_cert inner)
  pub deep : 0 < cert_depth cert
  pub depth : (n : ℕ) → fits (n + 1) cert ≡ list_all (fits n) inner

and_last : (a : Bool) → a ≡ (a && true)
and_last true = refl
and_last false = refl

-- the tests of the parts in one order and the other
pair_and_one : (a b c : Bool) → (a && (b && c)) ≡ ((a && b) && (c && true))
pair_and_one true b c = ap (λ t. b && t) (and_last c)
pair_and_one false b c = refl

one_and_two : (a b c : Bool) → (a && (b && c)) ≡ (a && (b && (c && true)))
one_and_two a b c = ap (λ t. a && (b && t)) (and_last c)

triple_and_one : (a b c d : Bool) → (a && (b && (c && d))) ≡ ((a && (b && c)) && (d && true))
triple_and_one true b c d = pair_and_one b c d
triple_and_one false b c d = refl

pair_and_two : (a b c d : Bool) → (a && (b && (c && d))) ≡ ((a && b) && (c && (d && true)))
pair_and_two true b c d = one_and_two b c d
pair_and_two false b c d = refl

-- and so of the texts
one_text : (a b : List ℕ) → a ++ (32 ∷ b) ≡ a ++ (32 ∷ (b ++ []))
one_text a b = ap (λ s. a ++ (32 ∷ s)) (sym (append-nil b))

pair_one_text : (a b c : List ℕ) → a ++ (32 ∷ (b ++ (32 ∷ c))) ≡ (a ++ (32 ∷ b)) ++ (32 ∷ (c ++ []))
pair_one_text a b c =
    ap (λ s. a ++ (32 ∷ s)) (one_text b c) ∙ sym (append_assoc a (32 ∷ b) (32 ∷ (c ++ [])))

one_two_text : (a b c : List ℕ) → a ++ (32 ∷ (b ++ (32 ∷ c))) ≡ a ++ (32 ∷ (b ++ (32 ∷ (c ++ []))))
one_two_text a b c = ap (λ s. a ++ (32 ∷ s)) (one_text b c)

triple_one_text : (a b c d : List ℕ) → a ++ (32 ∷ (b ++ (32 ∷ (c ++ (32 ∷ d))))) ≡
    (a ++ (32 ∷ (b ++ (32 ∷ c)))) ++ (32 ∷ (d ++ []))
triple_one_text a b c d =
    ap (λ s. a ++ (32 ∷ s)) (pair_one_text b c d) ∙
    sym (append_assoc a (32 ∷ (b ++ (32 ∷ c))) (32 ∷ (d ++ [])))

pair_two_text : (a b c d : List ℕ) → a ++ (32 ∷ (b ++ (32 ∷ (c ++ (32 ∷ d))))) ≡ (a ++ (32 ∷ b)) ++
    (32 ∷ (c ++ (32 ∷ (d ++ []))))
pair_two_text a b c d =
    ap (λ s. a ++ (32 ∷ s)) (one_two_text b c d) ∙
    sym (append_assoc a (32 ∷ b) (32 ∷ (c ++ (32 ∷ (d ++ [])))))

pub one_deep : (n : ℕ) → nat_le 1 (n + 1) ≡ true
one_deep n = le-leb 1 (n + 1) (omega arith)

one_deeper : (x n : ℕ) → nat_le (1 + x) (n + 1) ≡ (nat_le x n && true)
one_deeper x n =
    both_ways (nat_le (1 + x) (n + 1)) (nat_le x n)
    (λ h. le-leb x n (let le : 1 + x ≤ n + 1 = leb-true (1 + x) (n + 1) h in omega arith))
    (λ h. le-leb (1 + x) (n + 1) (let le : x ≤ n = leb-true x n h in omega arith))
    ∙ and_last (nat_le x n)

two_deeper : (x y n : ℕ) → nat_le (1 + max x y) (n + 1) ≡ (nat_le x n && (nat_le y n && true))
two_deeper x y n =
    both_ways (nat_le (1 + max x y) (n + 1)) (nat_le x n && (nat_le y n && true))
    (λ h. let le : 1 + max x y ≤ n + 1 = leb-true (1 + max x y) (n + 1) h in
    and_from (nat_le x n) (nat_le y n && true) (le-leb x n (omega arith))
    (and_from (nat_le y n) true (le-leb y n (omega arith)) refl))
    (λ h. let p = and_parts (nat_le x n) (nat_le y n && true) h in
    let l : x ≤ n = leb-true x n p.0 in
    let r : y ≤ n = leb-true y n (and_parts (nat_le y n) true p.1).0 in
    le-leb (1 + max x y) (n + 1) (omega arith))

pub a_sum : (ps : List (ℕ × ℤ)) → Made (Head.Sum ps) ([]) (made.Sum ps)
a_sum ps = record {
  count = refl;
  text =
      text_of (made.Sum ps) ∙ rw (made.outs-Sum ps) (sym (append-nil (heads.text (Head.Sum ps))));
  readable =
      readable (made.Sum ps) ∙ rw (made.outs-Sum ps) (and_last (is_readable_head (Head.Sum ps)));
  deep = omega (arith, depth_sum ps);
  depth = λ n. rw (depth_sum ps) (one_deep n);
}

pub a_cut : (ps : List (ℕ × ℤ)) (d : ℤ) (rest : Cert) →
    Made (Head.Cut ps d) (rest ∷ []) (made.Cut ps d rest)
a_cut ps d rest = record {
  count = refl;
  text =
      text_of (made.Cut ps d rest) ∙ rw (made.outs-Cut ps d rest)
      (ap (λ s. codes "cut " ++ s) (pair_one_text (part_lists.text ps) (integer_text d)
      (cert_text rest)));
  readable =
      readable (made.Cut ps d rest) ∙ rw (made.outs-Cut ps d rest)
      (pair_and_one (part_lists.in_range ps) (fits_i128 d) (is_readable_cert rest));
  deep = omega (arith, depth_cut ps d rest);
  depth = λ n. rw (depth_cut ps d rest) (one_deeper (cert_depth rest) n);
}

pub a_split : (row : Row) (holds fails : Cert) →
    Made (Head.Split row) (holds ∷ fails ∷ []) (made.Split row holds fails)
a_split row holds fails = record {
  count = refl;
  text =
      text_of (made.Split row holds fails) ∙ rw (made.outs-Split row holds fails)
      (ap (λ s. codes "split " ++ s) (one_two_text (row_text row) (cert_text holds)
      (cert_text fails)));
  readable =
      readable (made.Split row holds fails) ∙
      rw (made.outs-Split row holds fails) (one_and_two (is_readable_row row)
      (is_readable_cert holds) (is_readable_cert fails));
  deep = omega (arith, depth_split row holds fails);
  depth =
      λ n. rw (depth_split row holds fails) (two_deeper (cert_depth holds) (cert_depth fails) n);
}

pub a_difference : (at : ℕ) (above below : Cert) →
    Made (Head.Differ at) (above ∷ below ∷ []) (made.Differ at above below)
a_difference at above below = record {
  count = refl;
  text =
      text_of (made.Differ at above below) ∙ rw (made.outs-Differ at above below)
      (ap (λ s. codes "differ " ++ s) (one_two_text (natural_text at) (cert_text above)
      (cert_text below)));
  readable =
      readable (made.Differ at above below) ∙
      rw (made.outs-Differ at above below) (one_and_two (numbers.in_range at)
      (is_readable_cert above) (is_readable_cert below));
  deep = omega (arith, depth_differ at above below);
  depth =
      λ n. rw (depth_differ at above below) (two_deeper (cert_depth above) (cert_depth below) n);
}

pub a_solution : (first second var : ℕ) (rest : Cert) →
    Made (Head.Solve first second var) (rest ∷ []) (made.Solve first second var rest)
a_solution first second var rest = record {
  count = refl;
  text =
      text_of (made.Solve first second var rest) ∙
      rw (made.outs-Solve first second var rest)
      (ap (λ s. codes "solve " ++ s) (triple_one_text (natural_text first) (natural_text second)
      (natural_text var) (cert_text rest)));
  readable =
      readable (made.Solve first second var rest) ∙
      rw (made.outs-Solve first second var rest)
      (triple_and_one (numbers.in_range first) (numbers.in_range second) (variables.in_range var)
      (is_readable_cert rest));
  deep = omega (arith, depth_solve first second var rest);
  depth = λ n. rw (depth_solve first second var rest) (one_deeper (cert_depth rest) n);
}

pub a_division : (num : Body) (den : ℤ) (above below : Cert) →
    Made (Head.DivFacts num den) (above ∷ below ∷ []) (made.DivFacts num den above below)
a_division num den above below = record {
  count = refl;
  text =
      text_of (made.DivFacts num den above below) ∙
      rw (made.outs-DivFacts num den above below)
      (ap (λ s. codes "div " ++ s) (pair_two_text (poly_text num) (integer_text den)
      (cert_text above) (cert_text below)));
  readable =
      readable (made.DivFacts num den above below) ∙
      rw (made.outs-DivFacts num den above below)
      (pair_and_two (is_readable_poly num) (fits_i128 den) (is_readable_cert above)
      (is_readable_cert below));
  deep = omega (arith, depth_division num den above below);
  depth =
      λ n. rw (depth_division num den above below)
      (two_deeper (cert_depth above) (cert_depth below) n);
}

nothing : {cert : Cert} → None ≡ Some cert → ⊥
nothing e = cc

-- what is assembled is known so
pub made_so : (head : Head) (inner : List Cert) (cert : Cert) → assembled head inner ≡ Some cert →
    Made head inner cert
made_so (Head.Sum ps) [] cert e =
    let f : made.Sum ps ≡ cert = cc in subst (Made (Head.Sum ps) []) f (a_sum ps)
made_so (Head.Cut ps d) (rest ∷ []) cert e =
    let f : made.Cut ps d rest ≡ cert = cc in
    subst (Made (Head.Cut ps d) (rest ∷ [])) f (a_cut ps d rest)
made_so (Head.Split row) (x ∷ y ∷ []) cert e =
    let f : made.Split row x y ≡ cert = cc in
    subst (Made (Head.Split row) (x ∷ y ∷ [])) f (a_split row x y)
made_so (Head.Differ at) (x ∷ y ∷ []) cert e =
    let f : made.Differ at x y ≡ cert = cc in
    subst (Made (Head.Differ at) (x ∷ y ∷ [])) f (a_difference at x y)
made_so (Head.Solve i j v) (rest ∷ []) cert e =
    let f : made.Solve i j v rest ≡ cert = cc in
    subst (Made (Head.Solve i j v) (rest ∷ [])) f (a_solution i j v rest)
made_so (Head.DivFacts num den) (x ∷ y ∷ []) cert e =
    let f : made.DivFacts num den x y ≡ cert = cc in
    subst (Made (Head.DivFacts num den) (x ∷ y ∷ [])) f (a_division num den x y)
made_so head inner cert e = absurd (nothing e)

-- each certificate is assembled of something
abbrev IsAssembled : Cert → Type 0
IsAssembled cert = (head : Head) × (inner : List Cert) × (assembled head inner ≡ Some cert)

by_level : (y : Cert-F Cert) → IsAssembled (roll-Cert y)
by_level (Cert-F.Sum ps) = subst IsAssembled (sym (made.rolls-Sum ps)) (Head.Sum ps, [], refl)
by_level (Cert-F.Cut ps d rest) =
    subst IsAssembled (sym (made.rolls-Cut ps d rest)) (Head.Cut ps d, rest ∷ [], refl)
by_level (Cert-F.Split row x y) =
    subst IsAssembled (sym (made.rolls-Split row x y)) (Head.Split row, x ∷ y ∷ [], refl)
by_level (Cert-F.Differ at x y) =
    subst IsAssembled (sym (made.rolls-Differ at x y)) (Head.Differ at, x ∷ y ∷ [], refl)
by_level (Cert-F.Solve i j v rest) =
    subst IsAssembled (sym (made.rolls-Solve i j v rest)) (Head.Solve i j v, rest ∷ [], refl)
by_level (Cert-F.DivFacts num den x y) =
    subst IsAssembled (sym (made.rolls-DivFacts num den x y))
    (Head.DivFacts num den, x ∷ y ∷ [], refl)

pub each_assembled : (cert : Cert) → IsAssembled cert
each_assembled cert = subst IsAssembled (roll-out-Cert cert) (by_level (out-Cert cert))

-- as many certificates as belong after the first words can be assembled with them
pub can_assemble : (head : Head) (inner : List Cert) → length inner ≡ inner_count head →
    assembled head inner ≡ None → ⊥
can_assemble (Head.Sum ps) [] n e = cc
can_assemble (Head.Sum ps) (x ∷ xs) n e = omega arith
can_assemble (Head.Cut ps d) [] n e = omega arith
can_assemble (Head.Cut ps d) (x ∷ []) n e = cc
can_assemble (Head.Cut ps d) (x ∷ y ∷ xs) n e = omega arith
can_assemble (Head.Split row) [] n e = omega arith
can_assemble (Head.Split row) (x ∷ []) n e = omega arith
can_assemble (Head.Split row) (x ∷ y ∷ []) n e = cc
can_assemble (Head.Split row) (x ∷ y ∷ z ∷ xs) n e = omega arith
can_assemble (Head.Differ at) [] n e = omega arith
can_assemble (Head.Differ at) (x ∷ []) n e = omega arith
can_assemble (Head.Differ at) (x ∷ y ∷ []) n e = cc
can_assemble (Head.Differ at) (x ∷ y ∷ z ∷ xs) n e = omega arith
can_assemble (Head.Solve i j v) [] n e = omega arith
can_assemble (Head.Solve i j v) (x ∷ []) n e = cc
can_assemble (Head.Solve i j v) (x ∷ y ∷ xs) n e = omega arith
can_assemble (Head.DivFacts num den) [] n e = omega arith
can_assemble (Head.DivFacts num den) (x ∷ []) n e = omega arith
can_assemble (Head.DivFacts num den) (x ∷ y ∷ []) n e = cc
can_assemble (Head.DivFacts num den) (x ∷ y ∷ z ∷ xs) n e = omega arith

both_on_all : {A : Type 0} (p q : A → Bool) (xs : List A) → list_all (λ x. p x && q x) xs ≡
    (list_all p xs && list_all q xs)
both_on_all p q [] = refl
both_on_all p q (x ∷ xs) =
    ap (λ t. (p x && q x) && t) (both_on_all p q xs) ∙
    and_exchange (p x) (q x) (list_all p xs) (list_all q xs)

first_out : (a b c : Bool) → (a && (b && c)) ≡ (b && (a && c))
first_out true b c = refl
first_out false true c = refl
first_out false false c = refl

-- it is in range where its first words have a text and those in it are in range, one level less
-- deep
made_in_range : {head : Head} {inner : List Cert} {cert : Cert} (n : ℕ) → Made head inner cert →
    (certificates_within (n + 1)).in_range cert ≡
    (is_readable_head head && list_all (certificates_within n).in_range inner)
made_in_range {head} {inner} {cert} n m =
    (λ i. m.depth n i && m.readable i) ∙ first_out (list_all (fits n) inner) (is_readable_head head)
    (list_all is_readable_cert inner)
    ∙ ap (λ t. is_readable_head head && t) (sym (both_on_all (fits n) is_readable_cert inner))

module _ (n : ℕ) where
  head_begins : {bytes left : List ℕ} {head : Head} {inner : List Cert} {cert : Cert} →
      Made head inner cert → BeginsWith (certificates_within (n + 1)) bytes cert left →
      BeginsWith heads bytes head (each_spaced cert_text inner ++ left)
  head_begins {bytes} {left} {head} {inner} m b = record {
    in_range =
        (and_parts (is_readable_head head) (list_all (certificates_within n).in_range inner)
        (sym (made_in_range n m) ∙ b.in_range)).0;
    text =
        b.text ∙ ap (λ s. s ++ left) m.text ∙
        append_assoc (heads.text head) (each_spaced cert_text inner) left;
    over = over_spaced cert_text inner left b.over;
  }

  inner_stand : {bytes left rest : List ℕ} {head : Head} {inner : List Cert} {cert : Cert} →
      Made head inner cert → BeginsWith (certificates_within (n + 1)) bytes cert left →
      rest ≡ each_spaced cert_text inner ++ left →
      AreSpaced (certificates_within n) (inner_count head) rest inner left
  inner_stand {bytes} {left} {rest} {head} {inner} m b e = record {
    many = m.count;
    in_range =
        (and_parts (is_readable_head head) (list_all (certificates_within n).in_range inner)
        (sym (made_in_range n m) ∙ b.in_range)).1;
    text = e;
    over = b.over;
  }

  -- first words, and after them as many certificates as belong there, are a certificate
  pub cert_stands : {bytes : List ℕ} {at middle end : ℕ} {head : Head} {inner : List Cert}
      {cert : Cert} → Made head inner cert → StandsAt heads bytes at head middle →
      ReadsSpaced (certificates_within n) (inner_count head) bytes middle (Some (inner, end)) →
      StandsAt (certificates_within (n + 1)) bytes at cert end
  cert_stands {bytes} {at} {middle} {end} {head} {inner} m s r = record {
    forward = omega (arith, s.forward, r.0);
    inside = r.1.0;
    begins = record {
      in_range =
          made_in_range n m ∙ and_from (is_readable_head head)
          (list_all (certificates_within n).in_range inner) s.begins.in_range r.1.1.in_range;
      text =
          s.begins.text ∙ ap (λ t. heads.text head ++ t) r.1.1.text ∙
          sym (append_assoc (heads.text head) (each_spaced cert_text inner) (drop end bytes))
          ∙ ap (λ t. t ++ drop end bytes) (sym m.text);
      over = r.1.1.over;
    };
  }

  pub no_head : (bytes : List ℕ) (at : ℕ) → Reads heads bytes at None →
      Reads (certificates_within (n + 1)) bytes at None
  no_head bytes at never cert left b =
      let a = each_assembled cert in
      let m = made_so a.0 a.1 cert a.2 in
      never a.0 (each_spaced cert_text a.1 ++ left) (head_begins m b)

  pub no_inner : (bytes : List ℕ) (at : ℕ) {middle : ℕ} {head : Head} →
      StandsAt heads bytes at head middle →
      ReadsSpaced (certificates_within n) (inner_count head) bytes middle None →
      Reads (certificates_within (n + 1)) bytes at None
  no_inner bytes at {middle} {head} s never cert left b =
      let a = each_assembled cert in
      let m = made_so a.0 a.1 cert a.2 in
      let same = only_that heads_once s (head_begins m b) in
      never a.1 left (subst (λ h. AreSpaced (certificates_within n) (inner_count h)
      (drop middle bytes) a.1 left) (sym same.0) (inner_stand m b same.1))

  deeper_once : IsUnambiguous (certificates_within n) → IsUnambiguous (certificates_within (n + 1))
  deeper_once once bytes x y left right b c =
      let p = each_assembled x in
      let q = each_assembled y in
      let m = made_so p.0 p.1 x p.2 in
      let k = made_so q.0 q.1 y q.2 in
      let s = heads_once bytes p.0 q.0 (each_spaced cert_text p.1 ++ left)
      (each_spaced cert_text q.1 ++ right) (head_begins m b) (head_begins k c) in
      let rest = each_spaced cert_text p.1 ++ left in
      let other = subst (λ h. AreSpaced (certificates_within n) (inner_count h) rest q.1 right)
      (sym s.0) (inner_stand k c s.1) in
      let t = spaced_once cert_text (certificates_within n).in_range once (inner_count p.0) rest p.1
      q.1 left right (inner_stand m b refl) other in
      let whole : Some x ≡ Some y = sym p.2 ∙ (λ i. assembled (s.0 i) (t.0 i)) ∙ q.2 in
      let same : x ≡ y = cc in
      (same, t.1)

-- nothing is not deep at all
pub none_at_all : (bytes : List ℕ) (at : ℕ) → Reads (certificates_within 0) bytes at None
none_at_all bytes at cert left b =
    let a = each_assembled cert in
    let m = made_so a.0 a.1 cert a.2 in
    let le : cert_depth cert ≤ 0 = leb-true (cert_depth cert) 0
    (and_parts (fits 0 cert) (is_readable_cert cert) b.in_range).0 in
    omega (arith, m.deep)

-- bytes begin with at most one certificate
pub certificates_once : (n : ℕ) → IsUnambiguous (certificates_within n)
certificates_once zero = λ bytes x y left right b c. absurd (none_at_all bytes 0 x left b)
certificates_once (suc n) =
    let e : n + 1 ≡ suc n = omega arith in subst (λ m. IsUnambiguous (certificates_within m)) e
    (deeper_once n (certificates_once n))

pub certificate_lists_once : IsUnambiguous certificate_lists
certificate_lists_once =
    counted_once cert_text (certificates_within 200).in_range numbers_once (certificates_once 200)
