-- A line is given by its text.
use Rattle.std.proofs.Common.{◌≡◌, ◌∙◌, refl, sym, ap, subst, ℕ, eqb, Bool, true, false, ◌&&◌, ◌||◌, List, [], ◌∷◌, ◌++◌, codes, drop, leb, ◌≤◌, ◌-◌, ◌^◌, arith}
use Rattle.std.proofs.lemmas.Bool.{eqb-true, leb-true, le-leb}
use Rattle.std.proofs.lemmas.List.{append-nil}
use Rattle.std.specs.List.{list_all}
use Rattle.rx_plain.proofs.Booleans.{and_first, and_second}
use Rattle.rx_cert.specs.declared.cert.Cert.{Cert}
use Rattle.rx_cover.specs.declared.cover_tree.CoverTree.{CoverTree}
use Rattle.rx_pairs.specs.declared.pair_cert.PairCert.{PairCert}
use Rattle.rx_poly.specs.declared.body.Body.{Body}
use Rattle.rx_row.specs.declared.row.Row.{Row}
use Rattle.rx_inference.specs.declared.step.Delete.TheVariants.{Absurd, Equal}
use Rattle.rx_inference.specs.declared.step.Step.{Step}
use Rattle.rx_inference.specs.declared.step.Step.TheVariants as step
use Rattle.rx_poly.specs.Normal.{is_empty}
use Rattle.rx_term.specs.declared.rule.Equation.{Equation}
use Rattle.rx_text.specs.Formats.{BeginsWith, IsUnambiguous}
use Rattle.rx_text.specs.Numbers.{natural_text}
use Rattle.rx_text.specs.Polynomials.{polynomials}
use Rattle.rx_words.specs.Certificates.{certificate_lists}
use Rattle.rx_term_words.specs.Equations.{equations}
use Rattle.rx_words.specs.Substitutions.{row_lists, substitutions}
use Rattle.rx_term_words.specs.Trees.{trees}
use Rattle.rx_words.specs.Words.{each_spaced, numbers, pairs, words}
use Rattle.rx_words.proofs.Joined.{pairs_once}
use Rattle.rx_words.proofs.Once.{numbers_once, polynomials_once, row_lists_once, rows_once, substitutions_once}
use Rattle.rx_logtext.specs.Lines.{IsText, domain_parts, is_width, line_text, lines_of, pair_parts}
use Rattle.rx_logtext.specs.Steps.{expand_parts, generalise_parts, hyp_parts, keeps, postulate_parts, results_parts, sides, simplify_parts, step_text, steps_of}
use Rattle.rx_log.specs.declared.line.Line.{Line}
use Rattle.rx_log.specs.declared.line.Line.TheVariants as line
use Rattle.rx_log.specs.declared.version.Version.{Version}
use Rattle.rx_log.specs.declared.version.Version.TheVariants.{One, Two}
use Rattle.rx_logtext.proofs.Each.{each_once, over_end}
use Rattle.rx_logtext.specs.Once.{keeps_once, sides_once}
use Rattle.rx_words.proofs.CertLaws.{certificate_lists_once, certificates_once}
use Rattle.rx_term_words.proofs.EquationLaws.{equations_once}
use Rattle.rx_term_words.proofs.TreeWords.{trees_once}
use Rattle.rx_logtext.proofs.StepKinds.{IsKind, absurd_kind, decompose_kind, equal_kind, expand_kind, generalise_kind, hyp_kind, postulate_kind, results_kind, simplify_kind, split_kind, starts}
use Rattle.rx_logtext.proofs.Taking.{IsOne}

-- ---- parts

numbered_certs_once : IsUnambiguous (pairs numbers certificate_lists)
numbered_certs_once =
    pairs_once numbers.text numbers.in_range certificate_lists.text certificate_lists.in_range
    numbers_once certificate_lists_once

replaced_certs_once : IsUnambiguous (pairs substitutions certificate_lists)
replaced_certs_once =
    pairs_once substitutions.text substitutions.in_range certificate_lists.text
    certificate_lists.in_range substitutions_once certificate_lists_once

simplify_once : IsUnambiguous simplify_parts
simplify_once =
    pairs_once sides.text sides.in_range (pairs numbers certificate_lists).text
    (pairs numbers certificate_lists).in_range sides_once numbered_certs_once

numbered_once : IsUnambiguous (pairs numbers (pairs substitutions certificate_lists))
numbered_once =
    pairs_once numbers.text numbers.in_range (pairs substitutions certificate_lists).text
    (pairs substitutions certificate_lists).in_range numbers_once replaced_certs_once

placed_once : IsUnambiguous (pairs numbers (pairs numbers (pairs substitutions certificate_lists)))
placed_once =
    pairs_once numbers.text numbers.in_range (pairs numbers
    (pairs substitutions certificate_lists)).text
    (pairs numbers (pairs substitutions certificate_lists)).in_range numbers_once numbered_once

hyp_once : IsUnambiguous hyp_parts
hyp_once =
    pairs_once sides.text sides.in_range (pairs numbers
    (pairs numbers (pairs substitutions certificate_lists))).text
    (pairs numbers (pairs numbers (pairs substitutions certificate_lists))).in_range sides_once
    placed_once

expand_once : IsUnambiguous expand_parts
expand_once = pairs_once sides.text sides.in_range keeps.text keeps.in_range sides_once keeps_once

generalise_once : IsUnambiguous generalise_parts
generalise_once =
    pairs_once equations.text equations.in_range (pairs substitutions certificate_lists).text
    (pairs substitutions certificate_lists).in_range equations_once replaced_certs_once

results_once : IsUnambiguous results_parts
results_once =
    pairs_once numbers.text numbers.in_range (pairs numbers certificate_lists).text
    (pairs numbers certificate_lists).in_range numbers_once numbered_certs_once

domain_once : IsUnambiguous domain_parts
domain_once =
    pairs_once numbers.text numbers.in_range row_lists.text row_lists.in_range numbers_once
    row_lists_once

none_in : (certs : List Cert) → is_empty certs ≡ true → certs ≡ []
none_in [] e = refl
none_in (cert ∷ certs) e = absurd (cc)

alone : (bytes : List ℕ) (x : Equation × List Cert) (left : List ℕ) →
    BeginsWith (words (postulate_parts One).text (postulate_parts One).in_range) bytes x left →
    BeginsWith equations bytes x.0 left
alone bytes x left b = record {
  in_range = and_second (is_empty x.1) (equations.in_range x.0) b.in_range;
  text = b.text;
  over = b.over;
}

postulate_once : (version : Version) →
    IsUnambiguous (words (postulate_parts version).text (postulate_parts version).in_range)
postulate_once One bytes x y left right b c =
    let same = equations_once bytes x.0 y.0 left right (alone bytes x left b)
    (alone bytes y right c) in
    let none : x.1 ≡ y.1 =
    none_in x.1 (and_first (is_empty x.1) (equations.in_range x.0) b.in_range)
    ∙ sym (none_in y.1 (and_first (is_empty y.1) (equations.in_range y.0) c.in_range)) in
    (λ i. (same.0 i, none i), same.1)
postulate_once Two bytes x y left right b c =
    pairs_once equations.text equations.in_range certificate_lists.text
    certificate_lists.in_range equations_once certificate_lists_once bytes x y left right b c

-- a whole text is one thing's
pub whole_once : {A : Type 0} (text : A → List ℕ) (in_range : A → Bool) →
    IsUnambiguous (words text in_range) → (bytes : List ℕ) (x y : A) → in_range x ≡ true →
    in_range y ≡ true → bytes ≡ text x → bytes ≡ text y → x ≡ y
whole_once text in_range once bytes x y r s e f =
    (once bytes x y [] []
    (record { in_range = r; text = e ∙ sym (append-nil (text x)); over = refl })
    (record { in_range = s; text = f ∙ sym (append-nil (text y)); over = refl })).0

-- the bytes begin as a line that is no step
abbrev pub frames_from : ℕ → List ℕ → Bool
frames_from c [] = false
frames_from c (d ∷ bytes) =
    ((eqb c 99 || eqb c 69) || (eqb c 107 || (eqb c 100 && eqb d 111)))
    || ((eqb c 114 || eqb c 112) && eqb d 97)

abbrev pub begins_frame : List ℕ → Bool
begins_frame [] = false
begins_frame (c ∷ bytes) = frames_from c bytes

-- a line that is no step
abbrev is_frame : Line → Bool
is_frame (line.Step step) = false
is_frame other = true

module _ (version : Version) where
  -- a step of a kind is the only one with its text
  kind_once : {P : Type 0} {beginning : List ℕ} {text : P → List ℕ} {in_range : P → Bool}
      {make : P → Step} → IsKind version beginning (words text in_range) make →
      IsUnambiguous (words text in_range) → (bytes : List ℕ) (parts : P) (y : Step) →
      IsText (steps_of version) bytes (make parts) → IsText (steps_of version) bytes y →
      make parts ≡ y
  kind_once {P} {beginning} {text} {in_range} {make} kind once bytes parts y t u =
      let o = kind.only (text parts) y (sym (kind.text parts) ∙ sym t.text ∙ u.text) in
      let r : in_range parts ≡ true = sym (kind.in_range parts) ∙ t.in_range in
      let s : in_range o.0 ≡ true = sym (kind.in_range o.0)
      ∙ ap (steps_of version).in_range (sym o.1.0) ∙
      u.in_range in
      let same : parts ≡ o.0 = whole_once text in_range once (text parts) parts o.0 r s refl o.1.1
      in
      ap make same ∙ sym o.1.0

  only_eqdelete : (y : Step) → codes "eqdelete" ≡ step_text version y → step.EqDelete ≡ y
  only_eqdelete step.EqDelete e = refl
  only_eqdelete (step.Delete (Absurd cert)) e =
      absurd (let f : true ≡ false = ap (starts (codes "eqd")) e in cc)
  only_eqdelete y e = absurd (let f : true ≡ false = ap (starts (codes "eqd")) e in cc)

  pub steps_one : (bytes : List ℕ) (x y : Step) → IsText (steps_of version) bytes x →
      IsText (steps_of version) bytes y → x ≡ y
  steps_one bytes (step.Simplify side rule certs) y t u =
      kind_once (simplify_kind version) simplify_once bytes (side, (rule, certs)) y t u
  steps_one bytes (step.Hyp side place hyp subst certs) y t u =
      kind_once (hyp_kind version) hyp_once bytes (side, (place, (hyp, (subst, certs)))) y t u
  steps_one bytes (step.Expand side keep) y t u =
      kind_once (expand_kind version) expand_once bytes (side, keep) y t u
  steps_one bytes (step.Delete (Absurd cert)) y t u =
      kind_once (absurd_kind version) (certificates_once 200) bytes cert y t u
  steps_one bytes (step.Delete (Equal certs)) y t u =
      kind_once (equal_kind version) certificate_lists_once bytes certs y t u
  steps_one bytes step.EqDelete y t u = only_eqdelete y (sym t.text ∙ u.text)
  steps_one bytes (step.Generalise left right rows subst certs) y t u =
      kind_once (generalise_kind version) generalise_once bytes
      (record { left = left; right = right; rows = rows }, (subst, certs)) y t u
  steps_one bytes (step.Postulate left right rows certs) y t u =
      kind_once (postulate_kind version) (postulate_once version) bytes
      (record { left = left; right = right; rows = rows }, certs) y t u
  steps_one bytes (step.Split row) y t u = kind_once (split_kind version) rows_once bytes row y t u
  steps_one bytes (step.Decompose certs) y t u =
      kind_once (decompose_kind version) certificate_lists_once bytes certs y t u
  steps_one bytes (step.Results left right certs) y t u =
      kind_once (results_kind version) results_once bytes (left, (right, certs)) y t u

  -- ---- steps and other lines

  pub no_frame : (s : Step) → begins_frame (step_text version s) ≡ false
  no_frame (step.Simplify side rule certs) = refl
  no_frame (step.Hyp side place hyp subst certs) = refl
  no_frame (step.Expand side keep) = refl
  no_frame (step.Delete (Absurd cert)) = refl
  no_frame (step.Delete (Equal certs)) = refl
  no_frame step.EqDelete = refl
  no_frame (step.Generalise left right rows subst certs) = refl
  no_frame (step.Postulate left right rows certs) = refl
  no_frame (step.Split row) = refl
  no_frame (step.Decompose certs) = refl
  no_frame (step.Results left right certs) = refl

  frame_begins : (l : Line) (m : ℕ) → is_frame l ≡ true → begins_frame (line_text version l m)
      ≡ true
  frame_begins (line.Step s) m e = absurd (cc)
  frame_begins l m e = refl

  pub apart : (s : Step) (l : Line) (m : ℕ) → is_frame l ≡ true → step_text version s
      ≡ line_text version l m → ⊥
  apart s l m f e =
      let g : begins_frame (step_text version s) ≡ begins_frame (line_text version l m) =
      ap begins_frame e in let h =
      sym (no_frame s) ∙ g ∙ frame_begins l m f in cc

  -- ---- lines

  both_zero : (m n : ℕ) → eqb m 0 ≡ true → eqb n 0 ≡ true → m ≡ n
  both_zero m n e f = eqb-true m 0 e ∙ sym (eqb-true n 0 f)

  abbrev Numbered : Type 0
  Numbered = Line × ℕ

  -- a list of things after the number of a symbol
  listed_once : {A : Type 0} (text : A → List ℕ) (in_range : A → Bool) →
      IsUnambiguous (words text in_range) → (m n : ℕ) (xs ys : List A) → numbers.in_range m ≡ true →
      numbers.in_range n ≡ true → list_all in_range xs ≡ true → list_all in_range ys ≡ true →
      natural_text m ++ each_spaced text xs ≡ natural_text n ++ each_spaced text ys → (xs ≡ ys) ×
      (m ≡ n)
  listed_once text in_range once m n xs ys p q r s e =
      let same = numbers_once (natural_text m ++ each_spaced text xs) m n (each_spaced text xs)
      (each_spaced text ys)
      (record { in_range = p; text = refl; over = over_end text in_range xs })
      (record { in_range = q; text = e; over = over_end text in_range ys }) in
      (each_once text in_range once xs ys r s same.1, same.0)

  -- a number of columns is one of u32
  pub width_fits : (c : ℕ) → is_width c ≡ true → numbers.in_range c ≡ true
  width_fits c w =
      let small : c ≤ 15 = leb-true c 15 (and_second (leb 1 c) (leb c 15) w) in
      le-leb c (2 ^ 32 - 1) (omega arith)

  same_header : (bytes : List ℕ) (m : ℕ) (y : Line) (n : ℕ) →
      IsText (lines_of version) bytes (line.Header, m) → IsText (lines_of version) bytes (y, n) →
      ◌≡◌ {A = Numbered} (line.Header, m) (y, n)
  same_header bytes m line.Header n t u =
      λ i. (line.Header, both_zero m n t.in_range u.in_range i)
  same_header bytes m (line.Step s) n t u =
      absurd (apart s line.Header m refl (sym u.text ∙ t.text))
  same_header bytes m line.Header2 n t u =
      absurd (let f : true ≡ false = ap (starts (codes "ctrl-log 1")) (sym t.text ∙ u.text) in cc)
  same_header bytes m y n t u =
      absurd (let f : true ≡ false = ap (starts (codes "ctr")) (sym t.text ∙ u.text) in cc)

  same_header2 : (bytes : List ℕ) (m : ℕ) (y : Line) (n : ℕ) →
      IsText (lines_of version) bytes (line.Header2, m) → IsText (lines_of version) bytes (y, n) →
      ◌≡◌ {A = Numbered} (line.Header2, m) (y, n)
  same_header2 bytes m line.Header2 n t u =
      λ i. (line.Header2, both_zero m n t.in_range u.in_range i)
  same_header2 bytes m (line.Step s) n t u =
      absurd (apart s line.Header2 m refl (sym u.text ∙ t.text))
  same_header2 bytes m line.Header n t u =
      absurd (let f : true ≡ false = ap (starts (codes "ctrl-log 2")) (sym t.text ∙ u.text) in cc)
  same_header2 bytes m y n t u =
      absurd (let f : true ≡ false = ap (starts (codes "ctr")) (sym t.text ∙ u.text) in cc)

  same_domain : (xs : List Row) (bytes : List ℕ) (m : ℕ) (y : Line) (n : ℕ) →
      IsText (lines_of version) bytes (line.Domain xs, m) → IsText (lines_of version) bytes (y, n) →
      ◌≡◌ {A = Numbered} (line.Domain xs, m) (y, n)
  same_domain xs bytes m (line.Domain ys) n t u =
      let e : domain_parts.text (m, xs) ≡ domain_parts.text (n, ys) =
      ap (drop 8) (sym t.text ∙ u.text) in
      let same = whole_once domain_parts.text domain_parts.in_range domain_once
      (domain_parts.text (m, xs)) (m, xs) (n, ys) t.in_range u.in_range refl e in
      λ i. (line.Domain (same i).1, (same i).0)
  same_domain xs bytes m (line.Step s) n t u =
      absurd (apart s (line.Domain xs) m refl (sym u.text ∙ t.text))
  same_domain xs bytes m y n t u =
      absurd (let f : true ≡ false = ap (starts (codes "dom")) (sym t.text ∙ u.text) in cc)

  same_keep : (xs : List Cert) (bytes : List ℕ) (m : ℕ) (y : Line) (n : ℕ) →
      IsText (lines_of version) bytes (line.Keep xs, m) → IsText (lines_of version) bytes (y, n) →
      ◌≡◌ {A = Numbered} (line.Keep xs, m) (y, n)
  same_keep xs bytes m (line.Keep ys) n t u =
      let e : certificate_lists.text xs ≡ certificate_lists.text ys =
      ap (drop 5) (sym t.text ∙ u.text) in
      let same = whole_once certificate_lists.text certificate_lists.in_range
      certificate_lists_once (certificate_lists.text xs) xs ys (and_first _ _ t.in_range)
      (and_first _ _ u.in_range) refl e in
      let zero : m ≡ n = both_zero m n (and_second _ _ t.in_range) (and_second _ _ u.in_range) in
      λ i. (line.Keep (same i), zero i)
  same_keep xs bytes m (line.Step s) n t u =
      absurd (apart s (line.Keep xs) m refl (sym u.text ∙ t.text))
  same_keep xs bytes m y n t u =
      absurd (let f : true ≡ false = ap (starts (codes "keep")) (sym t.text ∙ u.text) in cc)

  same_end : (bytes : List ℕ) (m : ℕ) (y : Line) (n : ℕ) →
      IsText (lines_of version) bytes (line.End, m) → IsText (lines_of version) bytes (y, n) →
      ◌≡◌ {A = Numbered} (line.End, m) (y, n)
  same_end bytes m line.End n t u = λ i. (line.End, both_zero m n t.in_range u.in_range i)
  same_end bytes m (line.Step s) n t u =
      absurd (apart s line.End m refl (sym u.text ∙ t.text))
  same_end bytes m y n t u =
      absurd (let f : true ≡ false = ap (starts (codes "EQU")) (sym t.text ∙ u.text) in cc)

  same_step : (s : Step) (bytes : List ℕ) (m : ℕ) (y : Line) (n : ℕ) →
      IsText (lines_of version) bytes (line.Step s, m) → IsText (lines_of version) bytes (y, n) →
      ◌≡◌ {A = Numbered} (line.Step s, m) (y, n)
  same_step s bytes m (line.Step r) n t u =
      let same : s ≡ r = steps_one bytes s r (record
      { in_range = and_first _ _ t.in_range; text = t.text })
      (record { in_range = and_first _ _ u.in_range; text = u.text }) in
      let zero : m ≡ n = both_zero m n (and_second _ _ t.in_range) (and_second _ _ u.in_range) in
      λ i. (line.Step (same i), zero i)
  same_step s bytes m y n t u = absurd (apart s y n refl (sym t.text ∙ u.text))

  same_cover : (xs : List CoverTree) (bytes : List ℕ) (m : ℕ) (y : Line) (n : ℕ) →
      IsText (lines_of version) bytes (line.Cover xs, m) → IsText (lines_of version) bytes (y, n) →
      ◌≡◌ {A = Numbered} (line.Cover xs, m) (y, n)
  same_cover xs bytes m (line.Cover ys) n t u =
      let e : natural_text m ++ each_spaced trees.text xs ≡ natural_text n ++
      each_spaced trees.text ys = ap (drop 7) (sym t.text ∙ u.text) in
      let same = listed_once trees.text trees.in_range (trees_once 200) m n xs ys
      (and_first _ _ t.in_range) (and_first _ _ u.in_range) (and_second _ _ t.in_range)
      (and_second _ _ u.in_range) e in
      λ i. (line.Cover (same.0 i), same.1 i)
  same_cover xs bytes m (line.Step s) n t u =
      absurd (apart s (line.Cover xs) m refl (sym u.text ∙ t.text))
  same_cover xs bytes m y n t u =
      absurd (let f : true ≡ false = ap (starts (codes "cov")) (sym t.text ∙ u.text) in cc)

  same_ranks : (c : ℕ) (bytes : List ℕ) (m : ℕ) (y : Line) (n : ℕ) →
      IsText (lines_of version) bytes (line.Ranks c, m) → IsText (lines_of version) bytes (y, n) →
      ◌≡◌ {A = Numbered} (line.Ranks c, m) (y, n)
  same_ranks c bytes m (line.Ranks d) n t u =
      let e : numbers.text c ≡ numbers.text d = ap (drop 6) (sym t.text ∙ u.text) in
      let same : c ≡ d = whole_once numbers.text numbers.in_range numbers_once (numbers.text c) c d
      (width_fits c (and_first _ _ t.in_range)) (width_fits d (and_first _ _ u.in_range)) refl e in
      let zero : m ≡ n = both_zero m n (and_second _ _ t.in_range) (and_second _ _ u.in_range) in
      λ i. (line.Ranks (same i), zero i)
  same_ranks c bytes m (line.Step s) n t u =
      absurd (apart s (line.Ranks c) m refl (sym u.text ∙ t.text))
  same_ranks c bytes m y n t u =
      absurd (let f : true ≡ false = ap (starts (codes "ranks")) (sym t.text ∙ u.text) in cc)

  same_rank : (xs : List Body) (bytes : List ℕ) (m : ℕ) (y : Line) (n : ℕ) →
      IsText (lines_of version) bytes (line.Rank xs, m) → IsText (lines_of version) bytes (y, n) →
      ◌≡◌ {A = Numbered} (line.Rank xs, m) (y, n)
  same_rank xs bytes m (line.Rank ys) n t u =
      let e : natural_text m ++ each_spaced polynomials.text xs ≡ natural_text n ++
      each_spaced polynomials.text ys = ap (drop 6) (sym t.text ∙ u.text) in
      let same = listed_once polynomials.text polynomials.in_range polynomials_once m n xs ys
      (and_first _ _ t.in_range) (and_first _ _ u.in_range) (and_second _ _ (and_second _ _
      t.in_range))
      (and_second _ _ (and_second _ _ u.in_range)) e in
      λ i. (line.Rank (same.0 i), same.1 i)
  same_rank xs bytes m (line.Step s) n t u =
      absurd (apart s (line.Rank xs) m refl (sym u.text ∙ t.text))
  same_rank xs bytes m y n t u =
      absurd (let f : true ≡ false = ap (starts (codes "rank ")) (sym t.text ∙ u.text) in cc)

  same_pair : (p : PairCert) (bytes : List ℕ) (m : ℕ) (y : Line) (n : ℕ) →
      IsText (lines_of version) bytes (line.Pair p, m) → IsText (lines_of version) bytes (y, n) →
      ◌≡◌ {A = Numbered} (line.Pair p, m) (y, n)
  same_pair p bytes m (line.Pair q) n t u =
      let e : pair_parts.text (p.column, p.certs) ≡ pair_parts.text (q.column, q.certs) =
      ap (drop 5) (sym t.text ∙ u.text) in
      let same = whole_once pair_parts.text pair_parts.in_range numbered_certs_once
      (pair_parts.text (p.column, p.certs)) (p.column, p.certs) (q.column, q.certs)
      (and_first _ _ t.in_range) (and_first _ _ u.in_range) refl e in
      let zero : m ≡ n = both_zero m n (and_second _ _ t.in_range) (and_second _ _ u.in_range) in
      λ i. (line.Pair (record { column = (same i).0; certs = (same i).1 }), zero i)
  same_pair p bytes m (line.Step s) n t u =
      absurd (apart s (line.Pair p) m refl (sym u.text ∙ t.text))
  same_pair p bytes m y n t u =
      absurd (let f : true ≡ false = ap (starts (codes "pai")) (sym t.text ∙ u.text) in cc)

  pub same_line : (bytes : List ℕ) (x : Line) (m : ℕ) (y : Line) (n : ℕ) →
      IsText (lines_of version) bytes (x, m) →
      IsText (lines_of version) bytes (y, n) → ◌≡◌ {A = Numbered} (x, m) (y, n)
  same_line bytes line.Header m y n t u = same_header bytes m y n t u
  same_line bytes line.Header2 m y n t u = same_header2 bytes m y n t u
  same_line bytes (line.Domain xs) m y n t u = same_domain xs bytes m y n t u
  same_line bytes (line.Keep xs) m y n t u = same_keep xs bytes m y n t u
  same_line bytes line.End m y n t u = same_end bytes m y n t u
  same_line bytes (line.Step s) m y n t u = same_step s bytes m y n t u
  same_line bytes (line.Cover xs) m y n t u = same_cover xs bytes m y n t u
  same_line bytes (line.Ranks c) m y n t u = same_ranks c bytes m y n t u
  same_line bytes (line.Rank xs) m y n t u = same_rank xs bytes m y n t u
  same_line bytes (line.Pair p) m y n t u = same_pair p bytes m y n t u

  pub lines_one : IsOne version
  lines_one bytes x y t u = same_line bytes x.0 x.1 y.0 y.1 t u
