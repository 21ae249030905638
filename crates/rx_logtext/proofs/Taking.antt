-- Lines that a reader takes one after the other: with which lines a log begins, and with which none
-- does.
use Rattle.std.proofs.Common.{◌≡◌, ◌∙◌, sym, refl, ap, ℕ, ◌+◌, eqb, subst, codes, take, Bool, true, false, Option, Some, None, List, [], ◌∷◌, ◌++◌, ◌&&◌, if◌then◌else◌, length, append_assoc, arith}
use Rattle.std.proofs.lemmas.Bool.{eq-eqb}
use Rattle.std.proofs.lemmas.List.{append-nil, map-append}
use Rattle.std.proofs.lemmas.List.Folds.{list_all-append}
use Rattle.std.specs.List.{list_all}
use Rattle.rx_plain.proofs.Lists.{all_pushed}
use Rattle.rx_plain.proofs.Booleans.{and_first, and_second}
use Rattle.rx_poly.specs.declared.body.Body.{Body}
use Rattle.std.specs.Option.{option_map}
use Rattle.rx_cert.specs.declared.cert.Cert.{Cert}
use Rattle.rx_row.specs.declared.row.Row.{Row}
use Rattle.rx_domain.specs.declared.domains.Domains.{Domains}
use Rattle.rx_cover.specs.declared.cover_tree.CoverTree.{CoverTree}
use Rattle.rx_inference.specs.declared.step.Step.{Step}
use Rattle.rx_pairs.specs.declared.pair_cert.PairCert.{PairCert}
use Rattle.rx_pairs.specs.declared.table.RankTable.{RankTable}
use Rattle.rx_log.specs.declared.log.Log.{Log}
use Rattle.rx_logtext.specs.Lines.{IsText, lines_of}
use Rattle.rx_log.specs.Lines.{before_covers, before_ranks, behind_steps, by_symbol, has_widths, log_lines, plain, version_by, version_of}
use Rattle.rx_logtext.specs.Logs.{Begins, HasLines, has_ranges, line_texts, log_texts}
use Rattle.rx_logtext.specs.Readers.{version_after}
use Rattle.rx_log.proofs.PlaceLaws.{after_all-append}
use Rattle.rx_log.specs.Places.{after, after_all}
use Rattle.rx_log.specs.Reading.{IsAt, IsBeforeRanks, lines_to, pushed, with_domain, with_keep}
use Rattle.rx_logtext.specs.Reading.{HasTaken, MayCome}
use Rattle.rx_log.specs.declared.line.Line.{Line}
use Rattle.rx_log.specs.declared.line.Line.TheVariants as line
use Rattle.rx_log.specs.declared.line_state.LineState.{LineState}
use Rattle.rx_log.specs.declared.line_state.LineState.TheVariants.{AtHeader, InDomains, InKeeps, InCovers, InSteps, InRanks, InPairs, Finished}
use Rattle.rx_log.specs.declared.version.Version.{Version}
use Rattle.rx_log.specs.declared.version.Version.TheVariants.{One, Two}
use Rattle.rx_logtext.proofs.Places.{front_lines, moves}
use Rattle.rx_logtext.proofs.StepKinds.{starts}

-- ---- tests of two facts

pub both : {a b : Bool} → a ≡ true → b ≡ true → (a && b) ≡ true
both e f = rw (e, f) refl

-- ---- one line more

line_texts-push : (version : Version) (its : List (Line × ℕ)) (it : Line × ℕ) →
    line_texts version (its ++ it ∷ []) ≡
    line_texts version its ++ (lines_of version).text it ∷ []
line_texts-push version its it = map-append (lines_of version).text its (it ∷ [])

-- ---- the version

version_mapped : (d : Option Domains) (f : Domains → Domains) → version_by d ≡
    version_by (option_map f d)
version_mapped None f = refl
version_mapped (Some d) f = refl

-- only the first line of version 2 changes the version of the log so far
pub version_pushed : (read : Line) (log : Log) →
    version_after (version_of log) read ≡ version_of (pushed read log)
version_pushed line.Header2 log = refl
version_pushed (line.Domain rows) log = version_mapped log.domains (with_domain rows)
version_pushed (line.Keep certs) log = version_mapped log.domains (with_keep certs)
version_pushed read log = refl

takes_same : (place : LineState) (log : Log) (texts : List (List ℕ)) (bytes : List ℕ) (read : Line)
    (m : ℕ) (next : LineState) → version_of log ≡ version_of (pushed read log) →
    HasTaken place log texts → IsText (lines_of (version_of log)) bytes (read, m) →
    after place (read, m) ≡ Some next → HasTaken next (pushed read log) (texts ++ bytes ∷ [])
takes_same place log texts bytes read m next e h t a =
    let v = moves (version_of log) place log read m next h.at h.widths t.in_range a in
    record {
      at = v.at;
      widths = v.widths;
      in_range =
          subst (λ (w : Version).
          list_all (lines_of w).in_range (lines_to next (pushed read log)) ≡ true) e
          (rw v.lines (all_pushed (lines_of (version_of log)).in_range (lines_to place log)
          (read, m)
          h.in_range t.in_range));
      are =
          subst (λ (w : Version).
          line_texts w (lines_to next (pushed read log)) ≡ texts ++ bytes ∷ []) e
          (rw v.lines (line_texts-push (version_of log) (lines_to place log) (read, m) ∙
          ap (λ (ts : List (List ℕ)). ts ++ (lines_of (version_of log)).text (read, m) ∷ []) h.are ∙
          ap (λ (b : List ℕ). texts ++ b ∷ []) (sym t.text)));
      arrives =
          rw v.lines (after_all-append (Some AtHeader) (lines_to place log) ((read, m) ∷ []) ∙
          ap (λ (p : Option LineState). after_all p ((read, m) ∷ [])) h.arrives ∙ a);
    }

takes_second : (place : LineState) (log : Log) (texts : List (List ℕ)) (bytes : List ℕ)
    (m : ℕ) (next : LineState) → HasTaken place log texts →
    IsText (lines_of (version_of log)) bytes (line.Header2, m) →
    after place (line.Header2, m) ≡ Some next →
    HasTaken next (pushed line.Header2 log) (texts ++ bytes ∷ [])
takes_second AtHeader log texts bytes m next h t a =
    let v = moves (version_of log) AtHeader log line.Header2 m next h.at h.widths t.in_range a in
    record {
      at = v.at;
      widths = v.widths;
      in_range = rw v.lines (both t.in_range refl);
      are =
          rw v.lines (ap (λ (b : List ℕ). b ∷ []) (sym t.text)
          ∙ ap (λ (ts : List (List ℕ)). ts ++ bytes ∷ []) h.are);
      arrives = rw v.lines a;
    }
takes_second place log texts bytes m next h t a = absurd (cc)

pub takes : (place : LineState) (log : Log) (texts : List (List ℕ)) (bytes : List ℕ) (read : Line)
    (m : ℕ) (next : LineState) → HasTaken place log texts →
    IsText (lines_of (version_of log)) bytes (read, m) →
    after place (read, m) ≡ Some next → HasTaken next (pushed read log) (texts ++ bytes ∷ [])
takes place log texts bytes line.Header2 m next h t a =
    takes_second place log texts bytes m next h t a
takes place log texts bytes read m next h t a =
    takes_same place log texts bytes read m next (version_pushed read log) h t a

-- ---- whole logs come to the end

covers_run : (k : ℕ) (xs : List (List CoverTree)) →
    after_all (Some (InCovers k)) (by_symbol line.Cover k xs) ≡ Some (InCovers (k + length xs))
covers_run k [] = let e : k + 0 ≡ k = omega arith in rw e refl
covers_run k (x ∷ xs) =
    let e : eqb k k ≡ true = eq-eqb k k refl in
    let f : (k + 1) + length xs ≡ k + length (x ∷ xs) = omega arith in
    let g : after (InCovers k) (line.Cover x, k) ≡ Some (InCovers (k + 1)) =
    ap (λ (b : Bool). if b then Some (InCovers (k + 1)) else None) e in
    ap (λ (at : Option LineState). after_all at (by_symbol line.Cover (k + 1) xs)) g ∙
    covers_run (k + 1) xs ∙ ap (λ (n : ℕ). Some (InCovers n)) f

ranks_run : (columns k : ℕ) (xs : List (List Body)) →
    list_all (λ (rank : List Body). eqb (length rank) columns) xs ≡ true →
    after_all (Some (InRanks columns k)) (by_symbol line.Rank k xs) ≡
    Some (InRanks columns (k + length xs))
ranks_run columns k [] w = let e : k + 0 ≡ k = omega arith in rw e refl
ranks_run columns k (x ∷ xs) w =
    let e : eqb k k ≡ true = eq-eqb k k refl in
    let g : eqb (length x) columns ≡ true = and_first _ _ w in
    let f : (k + 1) + length xs ≡ k + length (x ∷ xs) = omega arith in
    let h : after (InRanks columns k) (line.Rank x, k) ≡ Some (InRanks columns (k + 1)) =
    ap (λ (b : Bool). if b then (if eqb (length x) columns then Some (InRanks columns (k + 1)) else
    None) else None) e
    ∙ ap (λ (b : Bool). if b then Some (InRanks columns (k + 1)) else None) g in
    ap (λ (at : Option LineState). after_all at (by_symbol line.Rank (k + 1) xs)) h ∙
    ranks_run columns (k + 1) xs (and_second _ _ w) ∙ ap (λ (n : ℕ). Some (InRanks columns n)) f

later_steps : (xs : List Step) (columns : ℕ) (more : List (Line × ℕ)) →
    after_all (Some InSteps) (plain line.Step xs ++ (line.Ranks columns, 0) ∷ more) ≡
    after_all (Some (InRanks columns 0)) more
later_steps [] columns more = refl
later_steps (x ∷ xs) columns more = later_steps xs columns more

steps_run : (n : ℕ) (xs : List Step) (columns : ℕ) (more : List (Line × ℕ)) →
    after_all (Some (InCovers n)) (plain line.Step xs ++ (line.Ranks columns, 0) ∷ more) ≡
    after_all (Some (InRanks columns 0)) more
steps_run n [] columns more = refl
steps_run n (x ∷ xs) columns more = later_steps xs columns more

later_pairs : (xs : List PairCert) → after_all (Some InPairs)
    (plain line.Pair xs ++ (line.End, 0) ∷ []) ≡ Some Finished
later_pairs [] = refl
later_pairs (x ∷ xs) = later_pairs xs

pairs_run : (columns n : ℕ) (xs : List PairCert) →
    after_all (Some (InRanks columns n)) (plain line.Pair xs ++ (line.End, 0) ∷ []) ≡ Some Finished
pairs_run columns n [] = refl
pairs_run columns n (x ∷ xs) = later_pairs xs

in_order : {A : Type 0} (b c s k p e : List A) (r : A) →
    ((b ++ (c ++ s)) ++ r ∷ (k ++ p)) ++ e ≡ b ++ (c ++ (s ++ r ∷ (k ++ (p ++ e))))
in_order b c s k p e r = simp append_assoc

domains_run : (k : ℕ) (xs : List (List Row)) →
    after_all (Some (InDomains k)) (by_symbol line.Domain k xs) ≡ Some (InDomains (k + length xs))
domains_run k [] = let e : k + 0 ≡ k = omega arith in rw e refl
domains_run k (x ∷ xs) =
    let e : eqb k k ≡ true = eq-eqb k k refl in
    let f : (k + 1) + length xs ≡ k + length (x ∷ xs) = omega arith in
    let g : after (InDomains k) (line.Domain x, k) ≡ Some (InDomains (k + 1)) =
    ap (λ (b : Bool). if b then Some (InDomains (k + 1)) else None) e in
    ap (λ (at : Option LineState). after_all at (by_symbol line.Domain (k + 1) xs)) g ∙
    domains_run (k + 1) xs ∙ ap (λ (n : ℕ). Some (InDomains n)) f

module _ (covers : List (List CoverTree)) (steps : List Step) (columns : ℕ)
    (more : List (Line × ℕ)) where
  -- what comes behind the domains
  abbrev front : List (Line × ℕ)
  front =
      by_symbol line.Cover 0 covers ++ (plain line.Step steps ++ (line.Ranks columns, 0) ∷ more)

  -- it comes as if at once after the first line
  from_keeps : (cs : List (List CoverTree)) (ss : List Step) → after_all (Some InKeeps)
      (by_symbol line.Cover 0 cs ++ (plain line.Step ss ++ (line.Ranks columns, 0) ∷ more)) ≡
      after_all (Some (InCovers 0))
      (by_symbol line.Cover 0 cs ++ (plain line.Step ss ++ (line.Ranks columns, 0) ∷ more))
  from_keeps [] [] = refl
  from_keeps [] (s ∷ ss) = refl
  from_keeps (c ∷ cs) ss = refl

  from_domains : (n : ℕ) (cs : List (List CoverTree)) (ss : List Step) →
      after_all (Some (InDomains n))
      (by_symbol line.Cover 0 cs ++ (plain line.Step ss ++ (line.Ranks columns, 0) ∷ more)) ≡
      after_all (Some (InCovers 0))
      (by_symbol line.Cover 0 cs ++ (plain line.Step ss ++ (line.Ranks columns, 0) ∷ more))
  from_domains n [] [] = refl
  from_domains n [] (s ∷ ss) = refl
  from_domains n (c ∷ cs) ss = refl

  later_keeps : (xs : List (List Cert)) → after_all (Some InKeeps) (plain line.Keep xs ++ front) ≡
      after_all (Some (InCovers 0)) front
  later_keeps [] = from_keeps covers steps
  later_keeps (x ∷ xs) = later_keeps xs

  keeps_run : (n : ℕ) (xs : List (List Cert)) →
      after_all (Some (InDomains n)) (plain line.Keep xs ++ front) ≡
      after_all (Some (InCovers 0)) front
  keeps_run n [] = from_domains n covers steps
  keeps_run n (x ∷ xs) = later_keeps xs

  front_runs : (d : Option Domains) → after_all (Some AtHeader) (before_covers d ++ front) ≡
      after_all (Some (InCovers 0)) front
  front_runs None = refl
  front_runs (Some d) =
      ap (after_all (Some (InDomains 0)))
      (append_assoc (by_symbol line.Domain 0 d.rows) (plain line.Keep d.keeps) front)
      ∙ after_all-append (Some (InDomains 0)) (by_symbol line.Domain 0 d.rows)
      (plain line.Keep d.keeps ++ front)
      ∙ ap (λ (at : Option LineState). after_all at (plain line.Keep d.keeps ++ front))
      (domains_run 0 d.rows)
      ∙ keeps_run (0 + length d.rows) d.keeps

-- the lines of a log are in order
pub log_runs : (log : Log) → has_widths log ≡ true → after_all (Some AtHeader) (log_lines log) ≡
    Some Finished
log_runs log w =
    let c : List (Line × ℕ) = by_symbol line.Cover 0 log.covers in
    let s : List (Line × ℕ) = plain line.Step log.steps in
    let k : List (Line × ℕ) = by_symbol line.Rank 0 log.table.ranks in
    let p : List (Line × ℕ) = plain line.Pair log.pairs ++ (line.End, 0) ∷ [] in
    let columns : ℕ = log.table.columns in
    let whole : after_all (Some AtHeader) (log_lines log) ≡
    after_all (Some (InCovers 0)) (c ++ (s ++ (line.Ranks columns, 0) ∷ (k ++ p))) =
    ap (after_all (Some AtHeader)) (in_order (before_covers log.domains) c s k
    (plain line.Pair log.pairs) ((line.End, 0) ∷ []) (line.Ranks columns, 0))
    ∙ front_runs log.covers log.steps columns (k ++ p) log.domains in
    let over_covers : after_all (Some (InCovers 0)) (c ++ (s ++ (line.Ranks columns, 0) ∷ (k ++ p)))
    ≡ after_all (Some (InCovers (0 + length log.covers)))
    (s ++ (line.Ranks columns, 0) ∷ (k ++ p)) =
    after_all-append (Some (InCovers 0)) c (s ++ (line.Ranks columns, 0) ∷ (k ++ p)) ∙
    ap (λ (at : Option LineState). after_all at (s ++ (line.Ranks columns, 0) ∷ (k ++ p)))
    (covers_run 0 log.covers) in
    let over_ranks : after_all (Some (InRanks columns 0)) (k ++ p) ≡
    after_all (Some (InRanks columns (0 + length log.table.ranks))) p =
    after_all-append (Some (InRanks columns 0)) k p ∙
    ap (λ (at : Option LineState). after_all at p) (ranks_run columns 0 log.table.ranks w) in
    whole ∙ over_covers ∙ steps_run (0 + length log.covers) log.steps columns (k ++ p) ∙
    over_ranks ∙ pairs_run columns (0 + length log.table.ranks) log.pairs

-- ---- what was taken begins a log

pub of_ranges : (log : Log) → has_ranges log ≡ true →
    list_all (lines_of (version_of log)).in_range (log_lines log) ≡ true
of_ranges log h = and_first _ _ h

of_widths : (log : Log) → has_ranges log ≡ true → has_widths log ≡ true
of_widths log h = and_second _ _ h

-- the lines of a log up to a place, and those after it
record Parts (place : LineState) (log : Log) : Type 0 where
  behind : List (Line × ℕ)
  whole : log_lines log ≡ lines_to place log ++ behind
  in_range : list_all (lines_of (version_of log)).in_range behind ≡ true

soon : {A : Type 0} (b y k p : List A) (r s e : A) → y ≡ b → k ≡ [] → p ≡ [] → r ≡ s →
    (b ++ r ∷ (k ++ p)) ++ e ∷ [] ≡ y ++ s ∷ e ∷ []
soon b y k p r s e f g h i = rw (f, g, h, i) (simp append_assoc)

ended_soon : (log : Log) (place : LineState) → IsBeforeRanks log → lines_to place log ≡
    before_ranks log → Parts place log
ended_soon log place at e = record {
  behind = (line.Ranks 1, 0) ∷ (line.End, 0) ∷ [];
  whole =
      soon (before_ranks log) (lines_to place log) (by_symbol line.Rank 0 log.table.ranks)
      (plain line.Pair log.pairs)
      (line.Ranks log.table.columns, 0) (line.Ranks 1, 0) (line.End, 0) e
      (ap (λ (table : RankTable). by_symbol line.Rank 0 table.ranks) at.0)
      (ap (plain line.Pair) at.1)
      (ap (λ (table : RankTable). let it : Line × ℕ = (line.Ranks table.columns, 0) in it) at.0);
  in_range = refl;
}

parts : (place : LineState) (log : Log) → IsAt place log → Parts place log
parts AtHeader log at = record { behind = log_lines log; whole = refl; in_range = rw at refl }
parts (InDomains n) log at = ended_soon log (InDomains n) at.1.1.1 (front_lines log at.1)
parts InKeeps log at = ended_soon log InKeeps at.1.1.1 (front_lines log at.1)
parts (InCovers n) log at = ended_soon log (InCovers n) at.1.1 refl
parts InSteps log at = ended_soon log InSteps at refl
parts (InRanks columns n) log at =
    record { behind = (line.End, 0) ∷ []; whole = refl; in_range = refl }
parts InPairs log at = record { behind = (line.End, 0) ∷ []; whole = refl; in_range = refl }
parts Finished log at =
    record { behind = []; whole = sym (append-nil (log_lines log)); in_range = refl }

pub taken_ranges : {place : LineState} {log : Log} {texts : List (List ℕ)} → HasTaken place log
    texts →
    has_ranges log ≡ true
taken_ranges {place} {log} {texts} h =
    let p = parts place log h.at in
    both (ap (list_all (lines_of (version_of log)).in_range) p.whole ∙
    list_all-append (lines_of (version_of log)).in_range (lines_to place log) p.behind
    ∙ both h.in_range p.in_range)
    h.widths

-- some log begins with what was taken: the log so far does
pub taken_begins : {place : LineState} {log : Log} {texts : List (List ℕ)} → HasTaken place log
    texts →
    Begins texts
taken_begins {place} {log} {texts} h =
    let p = parts place log h.at in
    record {
      log = log;
      in_range = taken_ranges h;
      more = line_texts (version_of log) p.behind;
      are =
          ap (line_texts (version_of log)) p.whole
          ∙ map-append (lines_of (version_of log)).text (lines_to place log) p.behind
          ∙ ap (λ (ts : List (List ℕ)). ts ++ line_texts (version_of log) p.behind) h.are;
    }

-- at the end the log so far has just the lines that were taken
pub taken_whole : {log : Log} {texts : List (List ℕ)} → HasTaken Finished log texts →
    HasLines log texts
taken_whole h = record { in_range = taken_ranges h; are = h.are }

-- ---- what no log begins with

-- a line in range is given by its text
abbrev pub IsOne : Version → Type 0
IsOne version = (bytes : List ℕ) (x y : Line × ℕ) → IsText (lines_of version) bytes x →
    IsText (lines_of version) bytes y → x ≡ y

module _ (version : Version) where
  text_of : (x : Line × ℕ) (bytes : List ℕ) → (lines_of version).in_range x ≡ true →
      (lines_of version).text x ≡ bytes →
      IsText (lines_of version) bytes x
  text_of x bytes r e = record { in_range = r; text = sym e }

  pub same_lines : IsOne version → (xs ys : List (Line × ℕ)) →
      list_all (lines_of version).in_range xs ≡ true →
      list_all (lines_of version).in_range ys ≡ true → line_texts version xs
      ≡ line_texts version ys → xs ≡ ys
  same_lines one [] [] r s e = refl
  same_lines one [] (y ∷ ys) r s e = absurd (cc)
  same_lines one (x ∷ xs) [] r s e = absurd (cc)
  same_lines one (x ∷ xs) (y ∷ ys) r s e =
      let head : (lines_of version).text y ≡ (lines_of version).text x = cc in
      let tail : line_texts version xs ≡ line_texts version ys = cc in
      let same : x ≡ y = one ((lines_of version).text x) x y
      (text_of x ((lines_of version).text x) (and_first ((lines_of version).in_range x)
      (list_all (lines_of version).in_range xs) r) refl)
      (text_of y ((lines_of version).text x) (and_first ((lines_of version).in_range y)
      (list_all (lines_of version).in_range ys) s) head) in
      let u : list_all (lines_of version).in_range xs ≡ true =
      and_second ((lines_of version).in_range x) (list_all (lines_of version).in_range xs) r in
      let v : list_all (lines_of version).in_range ys ≡ true =
      and_second ((lines_of version).in_range y) (list_all (lines_of version).in_range ys) s in
      let rest : xs ≡ ys = same_lines one xs ys u v tail in cc

  -- lines whose texts go on with one more: the line with that text comes after the others
  record GoesOn (its : List (Line × ℕ)) (texts : List (List ℕ)) (bytes : List ℕ) : Type 0 where
    before : List (Line × ℕ)
    next : Line × ℕ
    more : List (Line × ℕ)
    whole : its ≡ before ++ next ∷ more
    are : line_texts version before ≡ texts
    in_range : list_all (lines_of version).in_range before ≡ true
    is : IsText (lines_of version) bytes next

  goes_on : (its : List (Line × ℕ)) (texts : List (List ℕ)) (bytes : List ℕ)
      (more : List (List ℕ)) →
      list_all (lines_of version).in_range its ≡ true → line_texts version its ≡ texts
      ++ bytes ∷ more →
      GoesOn its texts bytes
  goes_on [] [] bytes more r e = absurd (cc)
  goes_on [] (t ∷ ts) bytes more r e = absurd (cc)
  goes_on (x ∷ xs) [] bytes more r e =
      let head : (lines_of version).text x ≡ bytes = cc in
      record {
        before = [];
        next = x;
        more = xs;
        whole = refl;
        are = refl;
        in_range = refl;
        is =
            text_of x bytes (and_first ((lines_of version).in_range x)
            (list_all (lines_of version).in_range xs) r) head;
      }
  goes_on (x ∷ xs) (t ∷ ts) bytes more r e =
      let head : (lines_of version).text x ≡ t = cc in
      let tail : line_texts version xs ≡ ts ++ bytes ∷ more = cc in
      let s : list_all (lines_of version).in_range xs ≡ true =
      and_second ((lines_of version).in_range x) (list_all (lines_of version).in_range xs) r in
      let g : GoesOn xs ts bytes = goes_on xs ts bytes more s tail in
      record {
        before = x ∷ g.before;
        next = g.next;
        more = g.more;
        whole = ap (λ (its : List (Line × ℕ)). x ∷ its) g.whole;
        are =
            ap (λ (it : List ℕ). it ∷ line_texts version g.before) head ∙
            ap (λ (its : List (List ℕ)). t ∷ its) g.are;
        in_range = both (and_first ((lines_of version).in_range x)
            (list_all (lines_of version).in_range xs) r) g.in_range;
        is = g.is;
      }

-- ---- the first line tells the version

abbrev header : Version → List ℕ
header One = codes "ctrl-log 1"
header Two = codes "ctrl-log 2"

header_once : (v w : Version) → header v ≡ header w → v ≡ w
header_once One One e = refl
header_once Two Two e = refl
header_once One Two e =
    absurd (let f : true ≡ false = ap (starts (codes "ctrl-log 1")) e in cc)
header_once Two One e =
    absurd (let f : true ≡ false = ap (starts (codes "ctrl-log 2")) e in cc)

same_header : (v w : Version) → header v ∷ [] ≡ header w ∷ [] → v ≡ w
same_header v w e = header_once v w (let f : header v ≡ header w = cc in f)

first_by : (version : Version) (d : Option Domains) (its : List (Line × ℕ)) →
    take 1 (line_texts version (before_covers d ++ its)) ≡ header (version_by d) ∷ []
first_by version None its = refl
first_by version (Some d) its = refl

behind_first : {A : Type 0} (b x y z : List A) → ((b ++ x) ++ y) ++ z ≡ b ++ (x ++ (y ++ z))
behind_first b x y z = simp append_assoc

-- that of a log
first_all : (log : Log) → take 1 (log_texts log) ≡ header (version_of log) ∷ []
first_all log =
    let x : List (Line × ℕ) = by_symbol line.Cover 0 log.covers ++ plain line.Step log.steps in
    ap (λ (its : List (Line × ℕ)). take 1 (line_texts (version_of log) its))
    (behind_first (before_covers log.domains) x (behind_steps log) ((line.End, 0) ∷ []))
    ∙ first_by (version_of log) log.domains (x ++ (behind_steps log ++ (line.End, 0) ∷ []))

first_alone : (log : Log) →
    take 1 (line_texts (version_of log) (before_covers log.domains)) ≡
    header (version_of log) ∷ []
first_alone log =
    ap (λ (its : List (Line × ℕ)). take 1 (line_texts (version_of log) its))
    (sym (append-nil (before_covers log.domains)))
    ∙ first_by (version_of log) log.domains []

first_end : (log : Log) →
    take 1 (line_texts (version_of log) (before_ranks log ++ behind_steps log)) ≡
    header (version_of log) ∷ []
first_end log =
    let x : List (Line × ℕ) = by_symbol line.Cover 0 log.covers ++ plain line.Step log.steps in
    ap (λ (its : List (Line × ℕ)). take 1 (line_texts (version_of log) its))
    (append_assoc (before_covers log.domains) x (behind_steps log))
    ∙ first_by (version_of log) log.domains (x ++ behind_steps log)

-- that of the lines up to a place
first_to : (place : LineState) (log : Log) → (place ≡ AtHeader → ⊥) →
    take 1 (line_texts (version_of log) (lines_to place log)) ≡ header (version_of log) ∷ []
first_to AtHeader log far = absurd (far refl)
first_to (InDomains n) log far = first_alone log
first_to InKeeps log far = first_alone log
first_to (InCovers n) log far =
    first_by (version_of log) log.domains
    (by_symbol line.Cover 0 log.covers ++ plain line.Step log.steps)
first_to InSteps log far =
    first_by (version_of log) log.domains
    (by_symbol line.Cover 0 log.covers ++ plain line.Step log.steps)
first_to (InRanks columns n) log far = first_end log
first_to InPairs log far = first_end log
first_to Finished log far = first_all log

-- the same version where the same lines come first
first_more : (texts more : List (List ℕ)) (text : List ℕ) → take 1 texts ≡ text ∷ [] →
    take 1 (texts ++ more) ≡ text ∷ []
first_more [] more text e = absurd (cc)
first_more (t ∷ ts) more text e = e

pub same_log_version : (a b : Log) → log_texts a ≡ log_texts b → version_of a ≡ version_of b
same_log_version a b e =
    same_header (version_of a) (version_of b)
    (sym (first_all a) ∙ ap (take 1) e ∙ first_all b)

same_version : {place : LineState} {log : Log} {texts : List (List ℕ)} → HasTaken place log texts →
    (place ≡ AtHeader → ⊥) → (other : Log) (more : List (List ℕ)) →
    log_texts other ≡ texts ++ more → version_of other ≡ version_of log
same_version {place} {log} {texts} h far other more e =
    let first : take 1 texts ≡ header (version_of log) ∷ [] =
    ap (take 1) (sym h.are) ∙ first_to place log far in
    same_header (version_of other) (version_of log)
    (sym (first_all other) ∙ ap (take 1) e ∙ first_more texts more (header (version_of log)) first)

-- ---- lines that may come

leads_somewhere : (place : Option LineState) (its : List (Line × ℕ)) (end : LineState) →
    after_all place its ≡ Some end → (behind : LineState) × (place ≡ Some behind)
leads_somewhere None [] end e = absurd (cc)
leads_somewhere None (it ∷ its) end e = absurd (cc)
leads_somewhere (Some place) its end e = (place, refl)

-- the first line of any log may come first
may_begin : (v w : Version) (bytes : List ℕ) → bytes ≡ header w → MayCome v AtHeader bytes
may_begin v One bytes e = record {
  next = (line.Header, 0);
  behind = InCovers 0;
  is = record { in_range = refl; text = e };
  leads = refl;
}
may_begin v Two bytes e = record {
  next = (line.Header2, 0);
  behind = InDomains 0;
  is = record { in_range = refl; text = e };
  leads = refl;
}

begins_so : {log : Log} {texts : List (List ℕ)} (bytes : List ℕ) → HasTaken AtHeader log texts →
    (b : Begins (texts ++ bytes ∷ [])) → bytes ≡ header (version_of b.log)
begins_so {log} {texts} bytes h b =
    let none : texts ≡ [] = sym h.are in
    let e : bytes ∷ [] ≡ header (version_of b.log) ∷ [] =
    ap (λ (ts : List (List ℕ)). take 1 ((ts ++ bytes ∷ []) ++ b.more)) (sym none)
    ∙ ap (take 1) (sym b.are) ∙ first_all b.log in
    let f : bytes ≡ header (version_of b.log) = cc in f

may_go_on : {place : LineState} {log : Log} {texts : List (List ℕ)} (bytes : List ℕ) →
    IsOne (version_of log) → (place ≡ AtHeader → ⊥) →
    HasTaken place log texts → Begins (texts ++ bytes ∷ []) → MayCome (version_of log) place bytes
may_go_on {place} {log} {texts} bytes one far h b =
    let v : Version = version_of log in
    let lines : log_texts b.log ≡ texts ++ bytes ∷ b.more =
    b.are ∙ append_assoc texts (bytes ∷ []) b.more in
    let like : version_of b.log ≡ version_of log =
    same_version h far b.log (bytes ∷ b.more) lines in
    let all : list_all (lines_of v).in_range (log_lines b.log) ≡ true =
    subst (λ (w : Version). list_all (lines_of w).in_range (log_lines b.log) ≡ true) like
    (of_ranges b.log b.in_range) in
    let are : line_texts v (log_lines b.log) ≡ texts ++ bytes ∷ b.more =
    subst (λ (w : Version). line_texts w (log_lines b.log) ≡ texts ++ bytes ∷ b.more) like
    lines in
    let g = goes_on v (log_lines b.log) texts bytes b.more all are in
    let same : g.before ≡ lines_to place log =
    same_lines v one g.before (lines_to place log) g.in_range h.in_range (g.are ∙ sym h.are) in
    let there : after_all (Some AtHeader) g.before ≡ Some place =
    ap (after_all (Some AtHeader)) same ∙ h.arrives in
    let run : after_all (after_all (Some AtHeader) g.before) (g.next ∷ g.more) ≡ Some Finished =
    sym (after_all-append (Some AtHeader) g.before (g.next ∷ g.more)) ∙
    ap (after_all (Some AtHeader)) (sym g.whole) ∙
    log_runs b.log (of_widths b.log b.in_range) in
    let on : after_all (Some place) (g.next ∷ g.more) ≡ Some Finished =
    ap (λ (at : Option LineState). after_all at (g.next ∷ g.more)) (sym there) ∙ run in
    let l = leads_somewhere (after place g.next) g.more Finished on in
    record { next = g.next; behind = l.0; is = g.is; leads = l.1 }

-- where a log begins with the lines that were taken and one more, that line may come
pub may_come : ((version : Version) → IsOne version) → (place : LineState) {log : Log}
    {texts : List (List ℕ)} (bytes : List ℕ) → HasTaken place log texts →
    Begins (texts ++ bytes ∷ []) → MayCome (version_of log) place bytes
may_come one AtHeader {log} bytes h b =
    may_begin (version_of log) (version_of b.log) bytes (begins_so bytes h b)
may_come one place {log} bytes h b =
    may_go_on bytes (one (version_of log)) (λ e. absurd (cc)) h b

-- a line that was read is the one that may come, if any
pub only_it : (version : Version) → IsOne version → (place : LineState) (bytes : List ℕ)
    (read : Line × ℕ) → IsText (lines_of version) bytes read →
    after place read ≡ None → MayCome version place bytes → ⊥
only_it version one place bytes read is none m =
    let same : read ≡ m.next = one bytes read m.next is m.is in
    let leads : after place read ≡ Some m.behind = ap (after place) same ∙ m.leads in cc

-- before the first line none was taken
not_begun : {log : Log} {texts : List (List ℕ)} → HasTaken AtHeader log texts → (other : Log) →
    HasLines other texts → ⊥
not_begun {log} {texts} h other w =
    let e : header (version_of other) ∷ [] ≡ [] =
    sym (first_all other) ∙ ap (take 1) w.are ∙ ap (take 1) (sym h.are) in cc

not_ended : {place : LineState} {log : Log} {texts : List (List ℕ)} → IsOne (version_of log) →
    (place ≡ AtHeader → ⊥) → HasTaken place log texts → (place ≡ Finished → ⊥) → (other : Log) →
    HasLines other texts → ⊥
not_ended {place} {log} {texts} one begun h far other w =
    let v : Version = version_of log in
    let like : version_of other ≡ version_of log =
    same_version h begun other [] (w.are ∙ sym (append-nil texts)) in
    let all : list_all (lines_of v).in_range (log_lines other) ≡ true =
    subst (λ (w : Version). list_all (lines_of w).in_range (log_lines other) ≡ true) like
    (of_ranges other w.in_range) in
    let are : line_texts v (log_lines other) ≡ texts =
    subst (λ (w : Version). line_texts w (log_lines other) ≡ texts) like w.are in
    let same : log_lines other ≡ lines_to place log =
    same_lines v one (log_lines other) (lines_to place log) all h.in_range (are ∙ sym h.are) in
    let there : Some Finished ≡ Some place = sym (log_runs other (of_widths other w.in_range)) ∙
    ap (after_all (Some AtHeader)) same ∙ h.arrives in
    far (let e : place ≡ Finished = cc in e)

-- before the end no log has just the lines that were taken
pub not_whole : ((version : Version) → IsOne version) → (place : LineState) {log : Log}
    {texts : List (List ℕ)} → HasTaken place log texts → (place ≡ Finished → ⊥) → (other : Log) →
    HasLines other texts → ⊥
not_whole one AtHeader h far other w = not_begun h other w
not_whole one place {log} h far other w =
    not_ended (one (version_of log)) (λ e. absurd (cc)) h far other w
