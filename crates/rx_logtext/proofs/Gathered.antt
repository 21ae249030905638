-- A log is given by its lines.
use Rattle.std.proofs.Common.{◌≡◌, ◌∙◌, refl, sym, ap, subst, ℕ, ◌+◌, true, Option, Some, None, List, [], ◌∷◌, ◌++◌, append_assoc}
use Rattle.std.proofs.lemmas.List.{append-nil}
use Rattle.rx_poly.specs.declared.body.Body.{Body}
use Rattle.std.specs.List.{list_all}
use Rattle.rx_cert.specs.declared.cert.Cert.{Cert}
use Rattle.rx_row.specs.declared.row.Row.{Row}
use Rattle.rx_domain.specs.declared.domains.Domains.{Domains}
use Rattle.rx_cover.specs.declared.cover_tree.CoverTree.{CoverTree}
use Rattle.rx_inference.specs.declared.step.Step.{Step}
use Rattle.rx_pairs.specs.declared.pair_cert.PairCert.{PairCert}
use Rattle.rx_log.specs.declared.log.Log.{Log}
use Rattle.rx_log.specs.Lines.{before_covers, before_end, before_ranks, by_symbol, log_lines, plain, version_of}
use Rattle.rx_logtext.specs.Lines.{lines_of}
use Rattle.rx_logtext.specs.Logs.{HasLines, line_texts, log_texts}
use Rattle.rx_log.specs.Reading.{blank, pushed}
use Rattle.rx_log.specs.declared.line.Line.{Line}
use Rattle.rx_log.specs.declared.line.Line.TheVariants as line
use Rattle.rx_log.specs.declared.version.Version.{Version}
use Rattle.rx_logtext.proofs.Taking.{of_ranges, same_lines, same_log_version}
use Rattle.rx_logtext.proofs.Unique.{lines_one}

-- the log with what lines say, one after the other
abbrev gathered : Log → List (Line × ℕ) → Log
gathered log [] = log
gathered log (it ∷ its) = gathered (pushed it.0 log) its

gathered-append : (log : Log) (its more : List (Line × ℕ)) → gathered log (its ++ more) ≡
    gathered (gathered log its) more
gathered-append log [] more = refl
gathered-append log (it ∷ its) more = gathered-append (pushed it.0 log) its more

of_covers : (log : Log) (k : ℕ) (xs : List (List CoverTree)) →
    gathered log (by_symbol line.Cover k xs) ≡ record log { covers = log.covers ++ xs }
of_covers log k [] =
    ap (λ (ys : List (List CoverTree)). let it : Log = record log { covers = ys } in it)
    (sym (append-nil log.covers))
of_covers log k (x ∷ xs) =
    of_covers (pushed (line.Cover x) log) (k + 1) xs
    ∙ ap (λ (ys : List (List CoverTree)). let it : Log = record log { covers = ys } in it)
    (append_assoc log.covers (x ∷ []) xs)

of_steps : (log : Log) (xs : List Step) → gathered log (plain line.Step xs) ≡
    record log { steps = log.steps ++ xs }
of_steps log [] =
    ap (λ (ys : List Step). let it : Log = record log { steps = ys } in it)
    (sym (append-nil log.steps))
of_steps log (x ∷ xs) =
    of_steps (pushed (line.Step x) log) xs
    ∙ ap (λ (ys : List Step). let it : Log = record log { steps = ys } in it)
    (append_assoc log.steps (x ∷ []) xs)

of_rank_lines : (log : Log) (k : ℕ) (xs : List (List Body)) →
    gathered log (by_symbol line.Rank k xs) ≡
    record log { table = record log.table { ranks = log.table.ranks ++ xs } }
of_rank_lines log k [] =
    ap (λ (ys : List (List Body)). let it : Log =
    record log { table = record log.table { ranks = ys } } in it) (sym (append-nil log.table.ranks))
of_rank_lines log k (x ∷ xs) =
    of_rank_lines (pushed (line.Rank x) log) (k + 1) xs
    ∙ ap (λ (ys : List (List Body)). let it : Log =
    record log { table = record log.table { ranks = ys } } in it)
    (append_assoc log.table.ranks (x ∷ []) xs)

of_pairs : (log : Log) (xs : List PairCert) → gathered log (plain line.Pair xs) ≡
    record log { pairs = log.pairs ++ xs }
of_pairs log [] =
    ap (λ (ys : List PairCert). let it : Log = record log { pairs = ys } in it)
    (sym (append-nil log.pairs))
of_pairs log (x ∷ xs) =
    of_pairs (pushed (line.Pair x) log) xs
    ∙ ap (λ (ys : List PairCert). let it : Log = record log { pairs = ys } in it)
    (append_assoc log.pairs (x ∷ []) xs)

-- the log with domains alone
abbrev with_some : List (List Row) → List (List Cert) → Log
with_some rows keeps = record blank { domains = Some (record { rows = rows; keeps = keeps }) }

of_rows : (k : ℕ) (rows xs : List (List Row)) →
    gathered (with_some rows []) (by_symbol line.Domain k xs) ≡ with_some (rows ++ xs) []
of_rows k rows [] = ap (λ (ys : List (List Row)). with_some ys []) (sym (append-nil rows))
of_rows k rows (x ∷ xs) =
    of_rows (k + 1) (rows ++ x ∷ []) xs
    ∙ ap (λ (ys : List (List Row)). with_some ys []) (append_assoc rows (x ∷ []) xs)

of_keeps : (rows : List (List Row)) (keeps xs : List (List Cert)) →
    gathered (with_some rows keeps) (plain line.Keep xs) ≡ with_some rows (keeps ++ xs)
of_keeps rows keeps [] = ap (with_some rows) (sym (append-nil keeps))
of_keeps rows keeps (x ∷ xs) =
    of_keeps rows (keeps ++ x ∷ []) xs ∙ ap (with_some rows) (append_assoc keeps (x ∷ []) xs)

of_domains : (d : Option Domains) → gathered blank (before_covers d) ≡ record blank { domains = d }
of_domains None = refl
of_domains (Some d) =
    gathered-append (with_some [] []) (by_symbol line.Domain 0 d.rows) (plain line.Keep d.keeps)
    ∙ ap (λ (l : Log). gathered l (plain line.Keep d.keeps)) (of_rows 0 [] d.rows)
    ∙ of_keeps d.rows [] d.keeps

-- the log with domains, covers and steps alone
abbrev begun : Log → Log
begun log = record blank { domains = log.domains; covers = log.covers; steps = log.steps }

of_front : (log : Log) → gathered blank (before_ranks log) ≡ begun log
of_front log =
    let b : Log = record blank { domains = log.domains } in
    let s : List (Line × ℕ) = plain line.Step log.steps in
    gathered-append blank (before_covers log.domains) (by_symbol line.Cover 0 log.covers ++ s)
    ∙ ap (λ (l : Log). gathered l (by_symbol line.Cover 0 log.covers ++ s)) (of_domains log.domains)
    ∙ gathered-append b (by_symbol line.Cover 0 log.covers) s
    ∙ ap (λ (l : Log). gathered l s) (of_covers b 0 log.covers)
    ∙ of_steps (record b { covers = log.covers }) log.steps

of_back : (log : Log) → gathered blank (before_end log) ≡ log
of_back log =
    gathered-append blank (before_ranks log) ((line.Ranks log.table.columns, 0) ∷
    (by_symbol line.Rank 0 log.table.ranks ++ plain line.Pair log.pairs))
    ∙ ap (λ (l : Log). gathered l ((line.Ranks log.table.columns, 0) ∷
    (by_symbol line.Rank 0 log.table.ranks ++ plain line.Pair log.pairs))) (of_front log)
    ∙ gathered-append (pushed (line.Ranks log.table.columns) (begun log))
    (by_symbol line.Rank 0 log.table.ranks) (plain line.Pair log.pairs)
    ∙ ap (λ (l : Log). gathered l (plain line.Pair log.pairs))
    (of_rank_lines (pushed (line.Ranks log.table.columns) (begun log)) 0 log.table.ranks)
    ∙ of_pairs (record (begun log) { table = log.table }) log.pairs

of_lines : (log : Log) → gathered blank (log_lines log) ≡ log
of_lines log = gathered-append blank (before_end log) ((line.End, 0) ∷ []) ∙ of_back log

-- no two logs have the same lines
pub given_by_lines : (texts : List (List ℕ)) (a b : Log) → HasLines a texts → HasLines b texts → a ≡
    b
given_by_lines texts a b p q =
    let both : log_texts a ≡ log_texts b = p.are ∙ sym q.are in
    let like : version_of a ≡ version_of b = same_log_version a b both in
    let v : Version = version_of b in
    let all : list_all (lines_of v).in_range (log_lines a) ≡ true =
    subst (λ (w : Version). list_all (lines_of w).in_range (log_lines a) ≡ true) like
    (of_ranges a p.in_range) in
    let are : line_texts v (log_lines a) ≡ log_texts b =
    subst (λ (w : Version). line_texts w (log_lines a) ≡ log_texts b) like both in
    sym (of_lines a)
    ∙ ap (gathered blank) (same_lines v (lines_one v) (log_lines a) (log_lines b) all
    (of_ranges b q.in_range) are)
    ∙ of_lines b
