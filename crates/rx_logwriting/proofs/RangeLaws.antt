-- All in a log is in the ranges of the format where its parts are.
use Rattle.std.proofs.Common.{◌≡◌, ◌∙◌, ap, refl, ℕ, ◌+◌, Bool, true, false, ◌&&◌, Option, Some, None, List, [], ◌∷◌, ◌++◌}
use Rattle.std.proofs.Math.Bool.{and-true}
use Rattle.std.proofs.lemmas.List.Folds.{list_all-append}
use Rattle.std.specs.List.{list_all}
use Rattle.rx_domain.specs.declared.domains.Domains.{Domains}
use Rattle.rx_log.specs.declared.log.Log.{Log}
use Rattle.rx_log.specs.declared.version.Version.{Version}
use Rattle.rx_log.specs.declared.version.Version.TheVariants.{One}
use Rattle.rx_logtext.specs.Lines.{is_width, lines_of}
use Rattle.rx_log.specs.Lines.{before_covers, before_end, before_ranks, behind_steps, by_symbol, has_widths, log_lines, plain, version_of}
use Rattle.rx_logtext.specs.Logs.{has_ranges}
use Rattle.rx_logwriting.specs.Frames.{are_frames}
use Rattle.rx_logwriting.specs.Ranges.{are_domains_in_range, are_parts_in_range, is_readable_pair}
use Rattle.rx_logtext.specs.Steps.{is_readable_step}
use Rattle.rx_log.specs.declared.line.Line.{Line}
use Rattle.rx_log.specs.declared.line.Line.TheVariants as line
use Rattle.rx_words.specs.Certificates.{certificate_lists}

-- tests one after the other, however they are grouped
regroup : (n a b c d e f : Bool) → (((n && (a && b)) && (c && (d && e))) && f) ≡
    (n && (a && (b && (c && (d && (e && f))))))
regroup true true true true true e f = refl
regroup true true true true false e f = refl
regroup true true true false d e f = refl
regroup true true false c d e f = refl
regroup true false b c d e f = refl
regroup false a b c d e f = refl

module _ (version : Version) where
  -- all of the lines have a text in logs of the version
  abbrev fit : List (Line × ℕ) → Bool
  fit its = list_all (lines_of version).in_range its

  -- lines without a symbol are in range where what they say is
  plain_in_range : {A : Type 0} (make : A → Line) (test : A → Bool)
      → ((x : A) → (lines_of version).in_range (make x, 0) ≡ test x)
      → (xs : List A) → fit (plain make xs) ≡ list_all test xs
  plain_in_range make test same [] = refl
  plain_in_range make test same (x ∷ xs) =
      ap (λ b. b && fit (plain make xs)) (same x)
      ∙ ap (λ b. test x && b) (plain_in_range make test same xs)

  -- lines with a symbol, of a kind that has the same text in each version
  numbered_in_range : {A : Type 0} (make : A → Line)
      → ((x : A) (k : ℕ) → (lines_of version).in_range (make x, k)
      ≡ (lines_of One).in_range (make x, k))
      → (k : ℕ) (xs : List A) → fit (by_symbol make k xs) ≡ are_frames (by_symbol make k xs)
  numbered_in_range make same k [] = refl
  numbered_in_range make same k (x ∷ xs) =
      ap (λ b. b && fit (by_symbol make (k + 1) xs)) (same x k)
      ∙ ap (λ b. (lines_of One).in_range (make x, k) && b)
      (numbered_in_range make same (k + 1) xs)

  -- the domains
  domains_in_range : (d : Option Domains) → fit (before_covers d) ≡ are_domains_in_range d
  domains_in_range None = refl
  domains_in_range (Some d) =
      list_all-append (lines_of version).in_range (by_symbol line.Domain 0 d.rows)
      (plain line.Keep d.keeps)
      ∙ ap (λ b. b && fit (plain line.Keep d.keeps))
      (numbered_in_range line.Domain (λ x k. refl) 0 d.rows)
      ∙ ap (λ b. are_frames (by_symbol line.Domain 0 d.rows) && b)
      (plain_in_range line.Keep certificate_lists.in_range
      (λ x. and-true (certificate_lists.in_range x)) d.keeps)

  -- what comes before the ranks
  begins_in_range : (log : Log) → fit (before_ranks log)
      ≡ (are_domains_in_range log.domains
      && (are_frames (by_symbol line.Cover 0 log.covers)
      && list_all (is_readable_step version) log.steps))
  begins_in_range log =
      let domains = are_domains_in_range log.domains in
      let covers = are_frames (by_symbol line.Cover 0 log.covers) in
      let c = by_symbol line.Cover 0 log.covers in
      let s = plain line.Step log.steps in
      list_all-append (lines_of version).in_range (before_covers log.domains) (c ++ s)
      ∙ ap (λ b. b && fit (c ++ s)) (domains_in_range log.domains)
      ∙ ap (λ b. domains && b)
      (list_all-append (lines_of version).in_range c s
      ∙ ap (λ b. b && fit s) (numbered_in_range line.Cover (λ x k. refl) 0 log.covers)
      ∙ ap (λ b. covers && b)
      (plain_in_range line.Step (is_readable_step version)
      (λ x. and-true (is_readable_step version x)) log.steps))

  -- the ranks and the pairs
  ends_in_range : (log : Log) → fit (behind_steps log)
      ≡ (is_width log.table.columns
      && (are_frames (by_symbol line.Rank 0 log.table.ranks) &&
      list_all is_readable_pair log.pairs))
  ends_in_range log =
      let r = by_symbol line.Rank 0 log.table.ranks in
      let p = plain line.Pair log.pairs in
      ap (λ b. b && fit (r ++ p)) (and-true (is_width log.table.columns))
      ∙ ap (λ b. is_width log.table.columns && b)
      (list_all-append (lines_of version).in_range r p
      ∙ ap (λ b. b && fit p) (numbered_in_range line.Rank (λ x k. refl) 0 log.table.ranks)
      ∙ ap (λ b. are_frames r && b)
      (plain_in_range line.Pair is_readable_pair (λ x. and-true (is_readable_pair x)) log.pairs))

  -- all lines
  lines_in_range : (log : Log) → fit (log_lines log)
      ≡ (fit (before_ranks log) && fit (behind_steps log))
  lines_in_range log =
      list_all-append (lines_of version).in_range (before_end log) ((line.End, 0) ∷ [])
      ∙ and-true (fit (before_end log))
      ∙ list_all-append (lines_of version).in_range (before_ranks log) (behind_steps log)

-- the whole log
pub ranges_are : (log : Log) → has_ranges log ≡ are_parts_in_range log
ranges_are log =
    let v = version_of log in
    let domains = are_domains_in_range log.domains in
    let covers = are_frames (by_symbol line.Cover 0 log.covers) in
    let steps = list_all (is_readable_step v) log.steps in
    let ranks = are_frames (by_symbol line.Rank 0 log.table.ranks) in
    let pairs = list_all is_readable_pair log.pairs in
    ap (λ b. b && has_widths log)
    (lines_in_range v log
    ∙ ap (λ b. b && fit v (behind_steps log)) (begins_in_range v log)
    ∙ ap (λ b. (domains && (covers && steps)) && b) (ends_in_range v log))
    ∙ regroup domains covers steps (is_width log.table.columns) ranks pairs (has_widths log)
