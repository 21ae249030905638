-- Each kind of line by what it begins with.
use Rattle.std.proofs.Common.{◌≡◌, ◌∙◌, refl, sym, ap, ℕ, Bool, true, false, Some, None, List, ◌++◌, codes, drop, length}
use Rattle.rx_plain.proofs.Booleans.{and_first, and_second}
use Rattle.rx_poly.specs.declared.body.Body.{Body}
use Rattle.rx_cert.specs.declared.cert.Cert.{Cert}
use Rattle.rx_cover.specs.declared.cover_tree.CoverTree.{CoverTree}
use Rattle.rx_text.specs.Formats.{IsUnambiguous, Reads, StandsAt}
use Rattle.rx_text.specs.Numbers.{natural_text}
use Rattle.rx_text.specs.Polynomials.{polynomials}
use Rattle.rx_term_words.specs.Trees.{trees}
use Rattle.rx_row.specs.declared.row.Row.{Row}
use Rattle.rx_words.specs.Certificates.{certificate_lists}
use Rattle.rx_words.specs.Words.{each_spaced, numbers, words}
use Rattle.rx_words.proofs.Once.{numbers_once}
use Rattle.rx_logtext.specs.Lines.{ReadsAll, ReadsEach, domain_parts, is_readable_line, is_width, line_text, lines_of, pair_parts}
use Rattle.rx_log.specs.declared.line.Line.{Line}
use Rattle.rx_log.specs.declared.line.Line.TheVariants as line
use Rattle.rx_log.specs.declared.version.Version.{Version}
use Rattle.rx_logtext.proofs.Each.{each_once, over_end}
use Rattle.rx_logtext.proofs.StepKinds.{starts}
use Rattle.rx_logtext.proofs.Unique.{begins_frame, no_frame, whole_once, width_fits}

-- ---- lists after a symbol

module _ {A : Type 0} (text : A → List ℕ) (in_range : A → Bool) where
  no_number : (bytes : List ℕ) (at n : ℕ) (xs : List A) → Reads numbers bytes at None →
      numbers.in_range n ≡ true → drop at bytes ≡ natural_text n ++ each_spaced text xs → ⊥
  no_number bytes at n xs none r e =
      none n (each_spaced text xs) (record {
        in_range = r;
        text = e;
        over =
            over_end text in_range xs;
      })

  after_number : {bytes : List ℕ} {at end m : ℕ} (n : ℕ) (xs : List A) →
      StandsAt numbers bytes at m end → numbers.in_range n ≡ true → drop at bytes ≡
      natural_text n ++ each_spaced text xs → drop end bytes ≡ each_spaced text xs
  after_number {bytes} {at} {end} {m} n xs s r e =
      (numbers_once (drop at bytes) m n (drop end bytes) (each_spaced text xs) s.begins
      (record { in_range = r; text = e; over = over_end text in_range xs })).1

module _ (version : Version) where
  -- ---- what begins so is of that kind

  only_cover : (rest : List ℕ) (l : Line) (n : ℕ) → codes "cover s" ++ rest
      ≡ line_text version l n →
      (xs : List CoverTree) × ((l ≡ line.Cover xs) ×
      (rest ≡ natural_text n ++ each_spaced trees.text xs))
  only_cover rest (line.Cover xs) n e = (xs, (refl, ap (drop 7) e))
  only_cover rest (line.Step s) n e =
      absurd (let f : true ≡ false = ap begins_frame e ∙ no_frame version s in cc)
  only_cover rest l n e = absurd (let f : true ≡ false = ap (starts (codes "cov")) e in cc)

  only_rank : (rest : List ℕ) (l : Line) (n : ℕ) → codes "rank s" ++ rest ≡ line_text version l n →
      (xs : List Body) × ((l ≡ line.Rank xs) × (rest ≡ natural_text n ++
      each_spaced polynomials.text xs))
  only_rank rest (line.Rank xs) n e = (xs, (refl, ap (drop 6) e))
  only_rank rest (line.Step s) n e =
      absurd (let f : true ≡ false = ap begins_frame e ∙ no_frame version s in cc)
  only_rank rest l n e = absurd (let f : true ≡ false = ap (starts (codes "rank ")) e in cc)

  only_ranks : (rest : List ℕ) (l : Line) (n : ℕ) → codes "ranks " ++ rest ≡ line_text version l n
      → (c : ℕ) ×
      ((l ≡ line.Ranks c) × (rest ≡ numbers.text c))
  only_ranks rest (line.Ranks c) n e = (c, (refl, ap (drop 6) e))
  only_ranks rest (line.Step s) n e =
      absurd (let f : true ≡ false = ap begins_frame e ∙ no_frame version s in cc)
  only_ranks rest l n e = absurd (let f : true ≡ false = ap (starts (codes "ranks")) e in cc)

  only_pair : (rest : List ℕ) (l : Line) (n : ℕ) → codes "pair " ++ rest ≡ line_text version l n →
      (p : ℕ × List Cert) × ((l ≡ line.Pair (record { column = p.0; certs = p.1 })) ×
      (rest ≡ pair_parts.text p))
  only_pair rest (line.Pair p) n e = ((p.column, p.certs), (refl, ap (drop 5) e))
  only_pair rest (line.Step s) n e =
      absurd (let f : true ≡ false = ap begins_frame e ∙ no_frame version s in cc)
  only_pair rest l n e = absurd (let f : true ≡ false = ap (starts (codes "pai")) e in cc)

  only_domain : (rest : List ℕ) (l : Line) (n : ℕ) → codes "domain s" ++ rest
      ≡ line_text version l n →
      (xs : List Row) × ((l ≡ line.Domain xs) × (rest ≡ domain_parts.text (n, xs)))
  only_domain rest (line.Domain xs) n e = (xs, (refl, ap (drop 8) e))
  only_domain rest (line.Step s) n e =
      absurd (let f : true ≡ false = ap begins_frame e ∙ no_frame version s in cc)
  only_domain rest l n e = absurd (let f : true ≡ false = ap (starts (codes "dom")) e in cc)

  only_keep : (rest : List ℕ) (l : Line) (n : ℕ) → codes "keep " ++ rest ≡ line_text version l n →
      (xs : List Cert) × ((l ≡ line.Keep xs) × (rest ≡ certificate_lists.text xs))
  only_keep rest (line.Keep xs) n e = (xs, (refl, ap (drop 5) e))
  only_keep rest (line.Step s) n e =
      absurd (let f : true ≡ false = ap begins_frame e ∙ no_frame version s in cc)
  only_keep rest l n e = absurd (let f : true ≡ false = ap (starts (codes "keep")) e in cc)

  -- ---- lines that are none

  pub no_symbol_of_cover : (bytes : List ℕ) (at : ℕ) → bytes ≡ codes "cover s" ++ drop at bytes →
      Reads numbers bytes at None → ReadsAll (lines_of version) bytes None
  no_symbol_of_cover bytes at e none = λ thing t.
      let o = only_cover (drop at bytes) thing.0 thing.1 (sym e ∙ t.text) in
      let r : is_readable_line version (line.Cover o.0) thing.1 ≡ true =
      ap (λ (l : Line). is_readable_line version l thing.1) (sym o.1.0) ∙ t.in_range in
      no_number trees.text trees.in_range bytes at thing.1 o.0 none (and_first _ _ r) o.1.1

  pub no_trees_of_cover : (bytes : List ℕ) (at end m : ℕ) → bytes ≡ codes "cover s"
      ++ drop at bytes →
      StandsAt numbers bytes at m end → ReadsEach trees (drop end bytes) None →
      ReadsAll (lines_of version) bytes None
  no_trees_of_cover bytes at end m e s none = λ thing t.
      let o = only_cover (drop at bytes) thing.0 thing.1 (sym e ∙ t.text) in
      let r : is_readable_line version (line.Cover o.0) thing.1 ≡ true =
      ap (λ (l : Line). is_readable_line version l thing.1) (sym o.1.0) ∙ t.in_range in
      none o.0 (and_second _ _ r) (after_number trees.text trees.in_range thing.1 o.0 s
      (and_first _ _ r)
      o.1.1)

  pub no_symbol_of_rank : (bytes : List ℕ) (at : ℕ) → bytes ≡ codes "rank s" ++ drop at bytes →
      Reads numbers bytes at None → ReadsAll (lines_of version) bytes None
  no_symbol_of_rank bytes at e none = λ thing t.
      let o = only_rank (drop at bytes) thing.0 thing.1 (sym e ∙ t.text) in
      let r : is_readable_line version (line.Rank o.0) thing.1 ≡ true =
      ap (λ (l : Line). is_readable_line version l thing.1) (sym o.1.0) ∙ t.in_range in
      no_number polynomials.text polynomials.in_range bytes at thing.1 o.0 none (and_first _ _ r)
      o.1.1

  pub no_columns_of_rank : (bytes : List ℕ) (at end m : ℕ) → bytes ≡ codes "rank s"
      ++ drop at bytes →
      StandsAt numbers bytes at m end → ReadsEach (words polynomials.text polynomials.in_range)
      (drop end bytes) None → ReadsAll (lines_of version) bytes None
  no_columns_of_rank bytes at end m e s none = λ thing t.
      let o = only_rank (drop at bytes) thing.0 thing.1 (sym e ∙ t.text) in
      let r : is_readable_line version (line.Rank o.0) thing.1 ≡ true =
      ap (λ (l : Line). is_readable_line version l thing.1) (sym o.1.0) ∙ t.in_range in
      none o.0 (and_second _ _ (and_second _ _ r)) (after_number polynomials.text
      polynomials.in_range
      thing.1 o.0 s (and_first _ _ r) o.1.1)

  pub no_width_of_rank : IsUnambiguous (words polynomials.text polynomials.in_range) →
      (bytes : List ℕ) (at end m : ℕ) (ys : List Body) → bytes ≡ codes "rank s" ++ drop at bytes →
      StandsAt numbers bytes at m end → ReadsEach (words polynomials.text polynomials.in_range)
      (drop end bytes) (Some ys) → is_width (length ys) ≡ false →
      ReadsAll (lines_of version) bytes None
  no_width_of_rank once bytes at end m ys e s some wide = λ thing t.
      let o = only_rank (drop at bytes) thing.0 thing.1 (sym e ∙ t.text) in
      let r : is_readable_line version (line.Rank o.0) thing.1 ≡ true =
      ap (λ (l : Line). is_readable_line version l thing.1) (sym o.1.0) ∙ t.in_range in
      let same : ys ≡ o.0 = each_once polynomials.text polynomials.in_range once ys o.0 some.0
      (and_second _ _ (and_second _ _ r)) (sym some.1 ∙
      after_number polynomials.text polynomials.in_range thing.1 o.0 s (and_first _ _ r) o.1.1) in
      let w : is_width (length o.0) ≡ true = and_first _ _ (and_second _ _ r) in
      let f : false ≡ true = sym wide ∙ ap (λ (xs : List Body). is_width (length xs)) same ∙ w in
      cc

  pub no_width_of_ranks : (bytes : List ℕ) (at c : ℕ) → bytes ≡ codes "ranks " ++ drop at bytes →
      ReadsAll numbers (drop at bytes) (Some c) → is_width c ≡ false →
      ReadsAll (lines_of version) bytes None
  no_width_of_ranks bytes at c e some wide = λ thing t.
      let o = only_ranks (drop at bytes) thing.0 thing.1 (sym e ∙ t.text) in
      let r : is_readable_line version (line.Ranks o.0) thing.1 ≡ true =
      ap (λ (l : Line). is_readable_line version l thing.1) (sym o.1.0) ∙ t.in_range in
      let w : is_width o.0 ≡ true = and_first _ _ r in
      let same : c ≡ o.0 = whole_once numbers.text numbers.in_range numbers_once (drop at bytes) c
      o.0
      some.in_range (width_fits version o.0 w) some.text o.1.1 in
      let f : false ≡ true = sym wide ∙ ap is_width same ∙ w in
      cc

  pub no_number_of_ranks : (bytes : List ℕ) (at : ℕ) → bytes ≡ codes "ranks " ++ drop at bytes →
      ReadsAll numbers (drop at bytes) None → ReadsAll (lines_of version) bytes None
  no_number_of_ranks bytes at e none = λ thing t.
      let o = only_ranks (drop at bytes) thing.0 thing.1 (sym e ∙ t.text) in
      let r : is_readable_line version (line.Ranks o.0) thing.1 ≡ true =
      ap (λ (l : Line). is_readable_line version l thing.1) (sym o.1.0) ∙ t.in_range in
      none o.0 (record { in_range = width_fits version o.0 (and_first _ _ r); text = o.1.1 })

  pub no_parts_of_pair : (bytes : List ℕ) (at : ℕ) → bytes ≡ codes "pair " ++ drop at bytes →
      ReadsAll pair_parts (drop at bytes) None → ReadsAll (lines_of version) bytes None
  no_parts_of_pair bytes at e none = λ thing t.
      let o = only_pair (drop at bytes) thing.0 thing.1 (sym e ∙ t.text) in
      let r : is_readable_line version (line.Pair (record { column = o.0.0; certs = o.0.1 })) thing.1
      ≡ true =
      ap (λ (l : Line). is_readable_line version l thing.1) (sym o.1.0) ∙ t.in_range in
      none o.0 (record { in_range = and_first _ _ r; text = o.1.1 })

  pub no_parts_of_domain : (bytes : List ℕ) (at : ℕ) → bytes ≡ codes "domain s" ++ drop at bytes →
      ReadsAll domain_parts (drop at bytes) None → ReadsAll (lines_of version) bytes None
  no_parts_of_domain bytes at e none = λ thing t.
      let o = only_domain (drop at bytes) thing.0 thing.1 (sym e ∙ t.text) in
      let r : is_readable_line version (line.Domain o.0) thing.1 ≡ true =
      ap (λ (l : Line). is_readable_line version l thing.1) (sym o.1.0) ∙ t.in_range in
      none (thing.1, o.0) (record { in_range = r; text = o.1.1 })

  pub no_certs_of_keep : (bytes : List ℕ) (at : ℕ) → bytes ≡ codes "keep " ++ drop at bytes →
      ReadsAll certificate_lists (drop at bytes) None → ReadsAll (lines_of version) bytes None
  no_certs_of_keep bytes at e none = λ thing t.
      let o = only_keep (drop at bytes) thing.0 thing.1 (sym e ∙ t.text) in
      let r : is_readable_line version (line.Keep o.0) thing.1 ≡ true =
      ap (λ (l : Line). is_readable_line version l thing.1) (sym o.1.0) ∙ t.in_range in
      none o.0 (record { in_range = and_first _ _ r; text = o.1.1 })
