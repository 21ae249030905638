-- The order of lines: what comes after each, and how the logs that go on after a line go on before
-- it.
use Rattle.std.proofs.Common.{◌≡◌, ◌∙◌, ap, sym, subst, refl, ℕ, ◌+◌, ◌==◌, Bool, true, false, if◌then◌else◌, Option, Some, None, option_map, List, [], ◌∷◌, ◌++◌, length, append_assoc}
use Rattle.std.proofs.lemmas.List.{append-nil}
use Rattle.std.proofs.lemmas.Option.{same_Some}
use Rattle.rx_poly.specs.declared.body.Body.{Body}
use Rattle.rx_cert.specs.declared.cert.Cert.{Cert}
use Rattle.rx_cover.specs.declared.cover_tree.CoverTree.{CoverTree}
use Rattle.rx_domain.specs.declared.domains.Domains.{Domains}
use Rattle.rx_row.specs.declared.row.Row.{Row}
use Rattle.rx_inference.specs.declared.step.Step.{Step}
use Rattle.rx_pairs.specs.declared.pair_cert.PairCert.{PairCert}
use Rattle.rx_log.specs.Lines.{before_covers, before_end, before_ranks, behind_steps, by_symbol, log_lines, plain}
use Rattle.rx_log.specs.Places.{after}
use Rattle.rx_log.specs.Reading.{blank, no_domains, no_ranks, pushed, with_keep}
use Rattle.rx_log.specs.declared.line.Line.{Line}
use Rattle.rx_log.specs.declared.line.Line.TheVariants as line
use Rattle.rx_log.specs.declared.log.Log.{Log}
use Rattle.rx_log.specs.declared.line_state.LineState.{LineState}
use Rattle.rx_log.specs.declared.line_state.LineState.TheVariants.{AtHeader, InDomains, InKeeps, InCovers, InSteps, InRanks, InPairs, Finished}
use Rattle.rx_check.specs.LineByLine.{Extends, GoesOn}
use Rattle.rx_check.specs.Replay.{DomainsGoOn, KeepsGoOn, log_of, pushed_all}
use Rattle.rx_check.specs.Whole.{domains_alone}

-- ---- lines one after the other

pub pushed_all-append : (log : Log) (its more : List (Line × ℕ)) → pushed_all log (its ++ more) ≡
    pushed_all (pushed_all log its) more
pushed_all-append log [] more = refl
pushed_all-append log (it ∷ its) more = pushed_all-append (pushed it.0 log) its more

-- ---- the lines of a log

covers_pushed : (log : Log) (k : ℕ) (xs : List (List CoverTree)) →
    pushed_all log (by_symbol line.Cover k xs) ≡ record log { covers = log.covers ++ xs }
covers_pushed log k [] = ap (λ covers. record log { covers = covers }) (sym (append-nil log.covers))
covers_pushed log k (x ∷ xs) =
    covers_pushed (pushed (line.Cover x) log) (k + 1) xs ∙
    ap (λ covers. record log { covers = covers }) (append_assoc log.covers (x ∷ []) xs)

steps_pushed : (log : Log) (xs : List Step) → pushed_all log (plain line.Step xs) ≡
    record log { steps = log.steps ++ xs }
steps_pushed log [] = ap (λ steps. record log { steps = steps }) (sym (append-nil log.steps))
steps_pushed log (x ∷ xs) =
    steps_pushed (pushed (line.Step x) log) xs ∙
    ap (λ steps. record log { steps = steps }) (append_assoc log.steps (x ∷ []) xs)

ranks_pushed : (log : Log) (k : ℕ) (xs : List (List Body)) →
    pushed_all log (by_symbol line.Rank k xs)
    ≡ record log { table = record log.table { ranks = log.table.ranks ++ xs } }
ranks_pushed log k [] =
    ap (λ ranks. record log { table = record log.table { ranks = ranks } })
    (sym (append-nil log.table.ranks))
ranks_pushed log k (x ∷ xs) =
    ranks_pushed (pushed (line.Rank x) log) (k + 1) xs
    ∙ ap (λ ranks. record log { table = record log.table { ranks = ranks } })
    (append_assoc log.table.ranks (x ∷ []) xs)

pairs_pushed : (log : Log) (xs : List PairCert) → pushed_all log (plain line.Pair xs) ≡
    record log { pairs = log.pairs ++ xs }
pairs_pushed log [] = ap (λ pairs. record log { pairs = pairs }) (sym (append-nil log.pairs))
pairs_pushed log (x ∷ xs) =
    pairs_pushed (pushed (line.Pair x) log) xs ∙
    ap (λ pairs. record log { pairs = pairs }) (append_assoc log.pairs (x ∷ []) xs)

-- the log with these domains
abbrev with_all : Log → Domains → Log
with_all log domains = record log { domains = Some domains }

lists_pushed : (log : Log) (domains : Domains) (k : ℕ) (xs : List (List Row)) →
    pushed_all (with_all log domains) (by_symbol line.Domain k xs)
    ≡ with_all log (record domains { rows = domains.rows ++ xs })
lists_pushed log domains k [] =
    ap (λ (rows : List (List Row)). with_all log (record domains { rows = rows }))
    (sym (append-nil domains.rows))
lists_pushed log domains k (x ∷ xs) =
    lists_pushed log (record domains { rows = domains.rows ++ x ∷ [] }) (k + 1) xs ∙
    ap (λ (rows : List (List Row)). with_all log (record domains { rows = rows }))
    (append_assoc domains.rows (x ∷ []) xs)

keeps_pushed : (log : Log) (domains : Domains) (xs : List (List Cert)) →
    pushed_all (with_all log domains) (plain line.Keep xs)
    ≡ with_all log (record domains { keeps = domains.keeps ++ xs })
keeps_pushed log domains [] =
    ap (λ (keeps : List (List Cert)). with_all log (record domains { keeps = keeps }))
    (sym (append-nil domains.keeps))
keeps_pushed log domains (x ∷ xs) =
    keeps_pushed log (record domains { keeps = domains.keeps ++ x ∷ [] }) xs ∙
    ap (λ (keeps : List (List Cert)). with_all log (record domains { keeps = keeps }))
    (append_assoc domains.keeps (x ∷ []) xs)

-- the first lines give the domains
domains_pushed : (domains : Option Domains) →
    pushed_all blank (before_covers domains) ≡ domains_alone domains
domains_pushed None = refl
domains_pushed (Some domains) =
    pushed_all-append (with_all blank no_domains) (by_symbol line.Domain 0 domains.rows)
    (plain line.Keep domains.keeps)
    ∙ ap (λ (l : Log). pushed_all l (plain line.Keep domains.keeps))
    (lists_pushed blank no_domains 0 domains.rows)
    ∙ keeps_pushed blank (record no_domains { rows = domains.rows }) domains.keeps

module _ (log : Log) where
  abbrev so_far : Log
  so_far = record {
    domains = log.domains;
    covers = log.covers;
    steps = log.steps;
    table = no_ranks;
    pairs = [];
  }

  before_pushed : pushed_all blank (before_ranks log) ≡ so_far
  before_pushed =
      pushed_all-append blank (before_covers log.domains)
      (by_symbol line.Cover 0 log.covers ++ plain line.Step log.steps)
      ∙ ap (λ (l : Log). pushed_all l (by_symbol line.Cover 0 log.covers ++ plain line.Step log.steps))
      (domains_pushed log.domains)
      ∙ pushed_all-append (domains_alone log.domains) (by_symbol line.Cover 0 log.covers)
      (plain line.Step log.steps)
      ∙ ap (λ (l : Log). pushed_all l (plain line.Step log.steps))
      (covers_pushed (domains_alone log.domains) 0 log.covers)
      ∙ steps_pushed (record (domains_alone log.domains) { covers = log.covers }) log.steps

  after_pushed : pushed_all so_far (behind_steps log) ≡ log
  after_pushed =
      let begun : Log = pushed (line.Ranks log.table.columns) so_far in
      pushed_all-append begun (by_symbol line.Rank 0 log.table.ranks) (plain line.Pair log.pairs)
      ∙ ap (λ l. pushed_all l (plain line.Pair log.pairs)) (ranks_pushed begun 0 log.table.ranks)
      ∙ pairs_pushed (record so_far { table = log.table }) log.pairs

  -- the lines of a log give it
  pub lines_give : log_of (log_lines log) ≡ log
  lines_give =
      pushed_all-append blank (before_end log) ((line.End, 0) ∷ [])
      ∙ pushed_all-append blank (before_ranks log) (behind_steps log)
      ∙ ap (λ l. pushed_all l (behind_steps log)) before_pushed
      ∙ after_pushed

-- ---- where trees and ranks come

cover_test : (next : ℕ) (behind : LineState) (b : Bool) →
    (if b then Some (InCovers (next + 1)) else None) ≡ Some behind → InCovers (next + 1) ≡ behind
cover_test next behind true e = same_Some (InCovers (next + 1)) behind e
cover_test next behind false e = absurd cc

pub after_cover : (next : ℕ) (trees : List CoverTree) (symbol : ℕ) (behind : LineState) →
    after (InCovers next) (line.Cover trees, symbol) ≡ Some behind
    → InCovers (next + 1) ≡ behind
after_cover next trees symbol behind e = cover_test next behind (symbol == next) e

rank_test : (columns next : ℕ) (behind : LineState) (b c : Bool)
    → (if b then (if c then Some (InRanks columns (next + 1)) else None) else None) ≡ Some behind →
    InRanks columns (next + 1) ≡ behind
rank_test columns next behind true true e = same_Some (InRanks columns (next + 1)) behind e
rank_test columns next behind true false e = absurd cc
rank_test columns next behind false c e = absurd cc

pub after_rank : (columns next : ℕ) (rank : List Body) (symbol : ℕ) (behind : LineState) →
    after (InRanks columns next) (line.Rank rank, symbol) ≡ Some behind
    → InRanks columns (next + 1) ≡ behind
after_rank columns next rank symbol behind e =
    rank_test columns next behind (symbol == next) (length rank == columns) e

-- ---- logs that go on

-- what begins with one more begins so
less : {A : Type 0} (xs : List A) (x : A) (ys : List A) → Extends (xs ++ x ∷ []) ys → Extends xs ys
less xs x ys on = (x ∷ on.0, on.1 ∙ append_assoc xs (x ∷ []) on.0)

same : {A : Type 0} (xs ys : List A) → ys ≡ xs → Extends xs ys
same xs ys e = ([], e ∙ sym (append-nil xs))

module _ (log whole : Log) (symbol : ℕ) (behind : LineState) where
  -- a log that goes on after a line goes on before it
  pub goes_on_before : (place : LineState) (next : Line) → after place (next, symbol) ≡ Some behind
      →
      GoesOn behind (pushed next log) whole → GoesOn place log whole
  goes_on_before AtHeader next e there = tt
  goes_on_before (InDomains n) next e there = tt
  goes_on_before InKeeps next e there = tt
  goes_on_before (InCovers n) line.Header e there = absurd cc
  goes_on_before (InCovers n) line.Header2 e there = absurd cc
  goes_on_before (InCovers n) (line.Domain rows) e there = absurd cc
  goes_on_before (InCovers n) (line.Keep certs) e there = absurd cc
  goes_on_before (InCovers n) (line.Cover trees) e there =
      let on : GoesOn (InCovers (n + 1)) (pushed (line.Cover trees) log) whole =
      subst (λ b. GoesOn b (pushed (line.Cover trees) log) whole)
      (sym (after_cover n trees symbol behind e)) there in
      less log.covers trees whole.covers on
  goes_on_before (InCovers n) (line.Step step) e there =
      let on : GoesOn (InSteps) (pushed (line.Step step) log) whole =
      subst (λ b. GoesOn b (pushed (line.Step step) log) whole)
      (sym (same_Some InSteps behind e)) there in
      same log.covers whole.covers on.0
  goes_on_before (InCovers n) (line.Ranks columns) e there =
      let on : GoesOn (InRanks columns 0) (pushed (line.Ranks columns) log) whole =
      subst (λ b. GoesOn b (pushed (line.Ranks columns) log) whole)
      (sym (same_Some (InRanks columns 0) behind e)) there in
      same log.covers whole.covers on.0
  goes_on_before (InCovers n) (line.Rank rank) e there = absurd cc
  goes_on_before (InCovers n) (line.Pair pair) e there = absurd cc
  goes_on_before (InCovers n) line.End e there = absurd cc
  goes_on_before InSteps line.Header e there = absurd cc
  goes_on_before InSteps line.Header2 e there = absurd cc
  goes_on_before InSteps (line.Domain rows) e there = absurd cc
  goes_on_before InSteps (line.Keep certs) e there = absurd cc
  goes_on_before InSteps (line.Cover trees) e there = absurd cc
  goes_on_before InSteps (line.Step step) e there =
      let on : GoesOn (InSteps) (pushed (line.Step step) log) whole =
      subst (λ b. GoesOn b (pushed (line.Step step) log) whole)
      (sym (same_Some InSteps behind e)) there in
      (on.0, less log.steps step whole.steps on.1)
  goes_on_before InSteps (line.Ranks columns) e there =
      let on : GoesOn (InRanks columns 0) (pushed (line.Ranks columns) log) whole =
      subst (λ b. GoesOn b (pushed (line.Ranks columns) log) whole)
      (sym (same_Some (InRanks columns 0) behind e)) there in
      (on.0, same log.steps whole.steps on.1.0)
  goes_on_before InSteps (line.Rank rank) e there = absurd cc
  goes_on_before InSteps (line.Pair pair) e there = absurd cc
  goes_on_before InSteps line.End e there = absurd cc
  goes_on_before (InRanks c n) line.Header e there = absurd cc
  goes_on_before (InRanks c n) line.Header2 e there = absurd cc
  goes_on_before (InRanks c n) (line.Domain rows) e there = absurd cc
  goes_on_before (InRanks c n) (line.Keep certs) e there = absurd cc
  goes_on_before (InRanks c n) (line.Cover trees) e there = absurd cc
  goes_on_before (InRanks c n) (line.Step step) e there = absurd cc
  goes_on_before (InRanks c n) (line.Ranks columns) e there = absurd cc
  goes_on_before (InRanks c n) (line.Rank rank) e there =
      let on : GoesOn (InRanks c (n + 1)) (pushed (line.Rank rank) log) whole =
      subst (λ b. GoesOn b (pushed (line.Rank rank) log) whole)
      (sym (after_rank c n rank symbol behind e)) there in
      (on.0, (on.1.0, (on.1.1.0, less log.table.ranks rank whole.table.ranks on.1.1.1)))
  goes_on_before (InRanks c n) (line.Pair pair) e there =
      let on : GoesOn (InPairs) (pushed (line.Pair pair) log) whole =
      subst (λ b. GoesOn b (pushed (line.Pair pair) log) whole)
      (sym (same_Some InPairs behind e)) there in (
        on.0,
        (
          on.1.0,
          (
            ap (λ t. t.columns) on.1.1.0,
            same log.table.ranks whole.table.ranks (ap (λ t. t.ranks) on.1.1.0),
          ),
        ),
      )
  goes_on_before (InRanks c n) line.End e there =
      let on : GoesOn (Finished) (pushed line.End log) whole =
      subst (λ b. GoesOn b (pushed line.End log) whole) (sym (same_Some Finished behind e))
      there in (
        ap (λ l. l.covers) on,
        (
          ap (λ l. l.steps) on,
          (
            ap (λ l. l.table.columns) on,
            same log.table.ranks whole.table.ranks
                (ap (λ l. l.table.ranks) on),
          ),
        ),
      )
  goes_on_before InPairs line.Header e there = absurd cc
  goes_on_before InPairs line.Header2 e there = absurd cc
  goes_on_before InPairs (line.Domain rows) e there = absurd cc
  goes_on_before InPairs (line.Keep certs) e there = absurd cc
  goes_on_before InPairs (line.Cover trees) e there = absurd cc
  goes_on_before InPairs (line.Step step) e there = absurd cc
  goes_on_before InPairs (line.Ranks columns) e there = absurd cc
  goes_on_before InPairs (line.Rank rank) e there = absurd cc
  goes_on_before InPairs (line.Pair pair) e there =
      let on : GoesOn (InPairs) (pushed (line.Pair pair) log) whole =
      subst (λ b. GoesOn b (pushed (line.Pair pair) log) whole)
      (sym (same_Some InPairs behind e)) there in
      (on.0, (on.1.0, (on.1.1.0, less log.pairs pair whole.pairs on.1.1.1)))
  goes_on_before InPairs line.End e there =
      let on : GoesOn (Finished) (pushed line.End log) whole =
      subst (λ b. GoesOn b (pushed line.End log) whole) (sym (same_Some Finished behind e))
      there in (
        ap (λ l. l.covers) on,
        (
          ap (λ l. l.steps) on,
          (ap (λ l. l.table) on, same log.pairs whole.pairs (ap (λ l. l.pairs) on)),
        ),
      )
  goes_on_before Finished line.Header e there = absurd cc
  goes_on_before Finished line.Header2 e there = absurd cc
  goes_on_before Finished (line.Domain rows) e there = absurd cc
  goes_on_before Finished (line.Keep certs) e there = absurd cc
  goes_on_before Finished (line.Cover trees) e there = absurd cc
  goes_on_before Finished (line.Step step) e there = absurd cc
  goes_on_before Finished (line.Ranks columns) e there = absurd cc
  goes_on_before Finished (line.Rank rank) e there = absurd cc
  goes_on_before Finished (line.Pair pair) e there = absurd cc
  goes_on_before Finished line.End e there = absurd cc

-- ---- domains that go on

-- what keeps them begins so if it begins with one more
keeps_less : (certs : List Cert) (domains all : Option Domains) →
    KeepsGoOn (option_map (with_keep certs) domains) all → KeepsGoOn domains all
keeps_less certs None None on = on
keeps_less certs None (Some all) on = on
keeps_less certs (Some domains) None on = on
keeps_less certs (Some domains) (Some all) on = (on.0, less domains.keeps certs all.keeps on.1)

pub keeps_same : (domains all : Option Domains) → all ≡ domains → KeepsGoOn domains all
keeps_same domains all same = subst (KeepsGoOn domains) (sym same) (by_domains domains) where
  by_domains : (o : Option Domains) → KeepsGoOn o o
  by_domains None = tt
  by_domains (Some all) = (refl, ([], sym (append-nil all.keeps)))

module _ (log : Log) (all : Option Domains) (symbol : ℕ) (behind : LineState) where
  -- what goes on from one place goes on from the other
  from : (next : Line) (at : LineState) → at ≡ behind →
      DomainsGoOn behind (pushed next log).domains all → DomainsGoOn at (pushed next log).domains all
  from next at is there = subst (λ b. DomainsGoOn b (pushed next log).domains all) (sym is) there

  -- what goes on after a line goes on before it
  pub domains_go_on : (place : LineState) (next : Line) → after place (next, symbol) ≡ Some behind
      → DomainsGoOn behind (pushed next log).domains all → DomainsGoOn place log.domains all
  domains_go_on AtHeader next e there = tt
  domains_go_on (InDomains n) next e there = tt
  domains_go_on InKeeps line.Header e there = absurd cc
  domains_go_on InKeeps line.Header2 e there = absurd cc
  domains_go_on InKeeps (line.Domain rows) e there = absurd cc
  domains_go_on InKeeps (line.Keep certs) e there =
      keeps_less certs log.domains all
      (from (line.Keep certs) InKeeps (same_Some InKeeps behind e) there)
  domains_go_on InKeeps (line.Cover trees) e there =
      keeps_same log.domains all (from (line.Cover trees) (InCovers 1) (after_cover 0 trees symbol behind e) there)
  domains_go_on InKeeps (line.Step step) e there =
      keeps_same log.domains all (from (line.Step step) InSteps (same_Some InSteps behind e) there)
  domains_go_on InKeeps (line.Ranks columns) e there =
      keeps_same log.domains all (from (line.Ranks columns) (InRanks columns 0) (same_Some (InRanks columns 0) behind e) there)
  domains_go_on InKeeps (line.Rank rank) e there = absurd cc
  domains_go_on InKeeps (line.Pair pair) e there = absurd cc
  domains_go_on InKeeps line.End e there = absurd cc
  domains_go_on (InCovers n) line.Header e there = absurd cc
  domains_go_on (InCovers n) line.Header2 e there = absurd cc
  domains_go_on (InCovers n) (line.Domain rows) e there = absurd cc
  domains_go_on (InCovers n) (line.Keep certs) e there = absurd cc
  domains_go_on (InCovers n) (line.Cover trees) e there =
      from (line.Cover trees) (InCovers (n + 1)) (after_cover n trees symbol behind e) there
  domains_go_on (InCovers n) (line.Step step) e there =
      from (line.Step step) InSteps (same_Some InSteps behind e) there
  domains_go_on (InCovers n) (line.Ranks columns) e there =
      from (line.Ranks columns) (InRanks columns 0) (same_Some (InRanks columns 0) behind e) there
  domains_go_on (InCovers n) (line.Rank rank) e there = absurd cc
  domains_go_on (InCovers n) (line.Pair pair) e there = absurd cc
  domains_go_on (InCovers n) line.End e there = absurd cc
  domains_go_on InSteps line.Header e there = absurd cc
  domains_go_on InSteps line.Header2 e there = absurd cc
  domains_go_on InSteps (line.Domain rows) e there = absurd cc
  domains_go_on InSteps (line.Keep certs) e there = absurd cc
  domains_go_on InSteps (line.Cover trees) e there = absurd cc
  domains_go_on InSteps (line.Step step) e there =
      from (line.Step step) InSteps (same_Some InSteps behind e) there
  domains_go_on InSteps (line.Ranks columns) e there =
      from (line.Ranks columns) (InRanks columns 0) (same_Some (InRanks columns 0) behind e) there
  domains_go_on InSteps (line.Rank rank) e there = absurd cc
  domains_go_on InSteps (line.Pair pair) e there = absurd cc
  domains_go_on InSteps line.End e there = absurd cc
  domains_go_on (InRanks c n) line.Header e there = absurd cc
  domains_go_on (InRanks c n) line.Header2 e there = absurd cc
  domains_go_on (InRanks c n) (line.Domain rows) e there = absurd cc
  domains_go_on (InRanks c n) (line.Keep certs) e there = absurd cc
  domains_go_on (InRanks c n) (line.Cover trees) e there = absurd cc
  domains_go_on (InRanks c n) (line.Step step) e there = absurd cc
  domains_go_on (InRanks c n) (line.Ranks columns) e there = absurd cc
  domains_go_on (InRanks c n) (line.Rank rank) e there =
      from (line.Rank rank) (InRanks c (n + 1)) (after_rank c n rank symbol behind e) there
  domains_go_on (InRanks c n) (line.Pair pair) e there =
      from (line.Pair pair) InPairs (same_Some InPairs behind e) there
  domains_go_on (InRanks c n) line.End e there =
      from line.End Finished (same_Some Finished behind e) there
  domains_go_on InPairs line.Header e there = absurd cc
  domains_go_on InPairs line.Header2 e there = absurd cc
  domains_go_on InPairs (line.Domain rows) e there = absurd cc
  domains_go_on InPairs (line.Keep certs) e there = absurd cc
  domains_go_on InPairs (line.Cover trees) e there = absurd cc
  domains_go_on InPairs (line.Step step) e there = absurd cc
  domains_go_on InPairs (line.Ranks columns) e there = absurd cc
  domains_go_on InPairs (line.Rank rank) e there = absurd cc
  domains_go_on InPairs (line.Pair pair) e there =
      from (line.Pair pair) InPairs (same_Some InPairs behind e) there
  domains_go_on InPairs line.End e there =
      from line.End Finished (same_Some Finished behind e) there
  domains_go_on Finished line.Header e there = absurd cc
  domains_go_on Finished line.Header2 e there = absurd cc
  domains_go_on Finished (line.Domain rows) e there = absurd cc
  domains_go_on Finished (line.Keep certs) e there = absurd cc
  domains_go_on Finished (line.Cover trees) e there = absurd cc
  domains_go_on Finished (line.Step step) e there = absurd cc
  domains_go_on Finished (line.Ranks columns) e there = absurd cc
  domains_go_on Finished (line.Rank rank) e there = absurd cc
  domains_go_on Finished (line.Pair pair) e there = absurd cc
  domains_go_on Finished line.End e there = absurd cc
