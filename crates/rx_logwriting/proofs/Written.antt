-- The text of a log is that of its parts, one after the other.
use Rattle.std.proofs.Common.{◌≡◌, ◌∙◌, ap, refl, sym, ℕ, ◌+◌, Option, Some, None, List, [], ◌∷◌, ◌++◌, append_assoc}
use Rattle.std.proofs.lemmas.Grind.{flat_map-append}
use Rattle.std.proofs.lemmas.List.{append-nil, map-append}
use Rattle.std.specs.Prelude.{codes}
use Rattle.rx_cert.specs.declared.cert.Cert.{Cert}
use Rattle.rx_row.specs.declared.row.Row.{Row}
use Rattle.rx_domain.specs.declared.domains.Domains.{Domains}
use Rattle.rx_cover.specs.declared.cover_tree.CoverTree.{CoverTree}
use Rattle.rx_inference.specs.declared.step.Step.{Step}
use Rattle.rx_inference.specs.declared.step.Step.TheVariants as step
use Rattle.rx_log.specs.declared.log.Log.{Log}
use Rattle.rx_log.specs.declared.version.Version.{Version}
use Rattle.rx_log.specs.declared.version.Version.TheVariants.{One, Two}
use Rattle.rx_logtext.specs.Lines.{line_text, lines_of}
use Rattle.rx_log.specs.Lines.{before_covers, before_end, before_ranks, behind_steps, by_symbol, plain, version_of}
use Rattle.rx_logtext.specs.Logs.{ended, line_texts, log_text}
use Rattle.rx_logtext.specs.Steps.{step_text}
use Rattle.rx_log.specs.declared.line.Line.{Line}
use Rattle.rx_log.specs.declared.line.Line.TheVariants as line
use Rattle.rx_logwriting.specs.Frames.{frame_texts, new_certs_text}
use Rattle.rx_term.specs.declared.rule.Equation.{Equation}
use Rattle.rx_term_words.specs.Equations.{equations}
use Rattle.rx_words.specs.Certificates.{certificate_lists}

-- the text of two lists of lines
pub lines_written : (version : Version) (xs ys : List (Line × ℕ)) →
    ended (line_texts version (xs ++ ys)) ≡
    ended (line_texts version xs) ++ ended (line_texts version ys)
lines_written version xs ys =
    ap ended (map-append (lines_of version).text xs ys)
    ∙ flat_map-append (λ text. text ++ 10 ∷ []) (line_texts version xs) (line_texts version ys)

-- ---- lines that are no steps have the same text in each version

module _ (version : Version) where
  numbered_alike : {A : Type 0} (make : A → Line)
      → ((x : A) (k : ℕ) → line_text version (make x) k ≡ line_text One (make x) k)
      → (k : ℕ) (xs : List A) →
      line_texts version (by_symbol make k xs) ≡ line_texts One (by_symbol make k xs)
  numbered_alike make same k [] = refl
  numbered_alike make same k (x ∷ xs) =
      ap (λ text. text ∷ line_texts version (by_symbol make (k + 1) xs)) (same x k)
      ∙ ap (λ texts. line_text One (make x) k ∷ texts) (numbered_alike make same (k + 1) xs)

  plain_alike : {A : Type 0} (make : A → Line)
      → ((x : A) → line_text version (make x) 0 ≡ line_text One (make x) 0) → (xs : List A) →
      line_texts version (plain make xs) ≡ line_texts One (plain make xs)
  plain_alike make same [] = refl
  plain_alike make same (x ∷ xs) =
      ap (λ text. text ∷ line_texts version (plain make xs)) (same x)
      ∙ ap (λ texts. line_text One (make x) 0 ∷ texts) (plain_alike make same xs)

  both_alike : (xs ys : List (Line × ℕ)) → line_texts version xs ≡ line_texts One xs →
      line_texts version ys ≡ line_texts One ys →
      line_texts version (xs ++ ys) ≡ line_texts One (xs ++ ys)
  both_alike xs ys e f =
      map-append (lines_of version).text xs ys
      ∙ ap (λ texts. texts ++ line_texts version ys) e
      ∙ ap (λ texts. line_texts One xs ++ texts) f
      ∙ sym (map-append (lines_of One).text xs ys)

  domains_alike : (d : Option Domains) →
      line_texts version (before_covers d) ≡ line_texts One (before_covers d)
  domains_alike None = refl
  domains_alike (Some d) =
      ap (λ texts. codes "ctrl-log 2" ∷ texts)
      (both_alike (by_symbol line.Domain 0 d.rows) (plain line.Keep d.keeps)
      (numbered_alike line.Domain (λ x k. refl) 0 d.rows)
      (plain_alike line.Keep (λ x. refl) d.keeps))

  ranks_alike : (log : Log) →
      line_texts version (behind_steps log) ≡ line_texts One (behind_steps log)
  ranks_alike log =
      ap (λ texts. line_text One (line.Ranks log.table.columns) 0 ∷ texts)
      (both_alike (by_symbol line.Rank 0 log.table.ranks) (plain line.Pair log.pairs)
      (numbered_alike line.Rank (λ x k. refl) 0 log.table.ranks)
      (plain_alike line.Pair (λ x. refl) log.pairs))

-- ---- the parts of a log

-- what comes before the ranks
pub front_written : (out : List ℕ) (log : Log)
    → ((out ++ frame_texts (before_covers log.domains))
    ++ frame_texts (by_symbol line.Cover 0 log.covers))
    ++ ended (line_texts (version_of log) (plain line.Step log.steps))
    ≡ out ++ ended (line_texts (version_of log) (before_ranks log))
front_written out log =
    let v = version_of log in
    let b = before_covers log.domains in
    let c = by_symbol line.Cover 0 log.covers in
    let s = plain line.Step log.steps in
    let behind = ended (line_texts v s) in
    ap (λ text. ((out ++ text) ++ frame_texts c) ++ behind)
    (ap ended (sym (domains_alike v log.domains)))
    ∙ ap (λ text. ((out ++ ended (line_texts v b)) ++ text) ++ behind)
    (ap ended (sym (numbered_alike v line.Cover (λ x k. refl) 0 log.covers)))
    ∙ append_assoc (out ++ ended (line_texts v b)) (ended (line_texts v c)) behind
    ∙ append_assoc out (ended (line_texts v b)) (ended (line_texts v c) ++ behind)
    ∙ ap (λ text. out ++ text)
    (ap (λ text. ended (line_texts v b) ++ text) (sym (lines_written v c s))
    ∙ sym (lines_written v b (c ++ s)))

-- so it is written, one part after the other
pub front_joined : (out : List ℕ) (log : Log) {a b d : List ℕ} {version : Version}
    {covers : List (List CoverTree)} {steps : List Step} →
    a ≡ out ++ frame_texts (before_covers log.domains) → covers ≡ log.covers →
    b ≡ a ++ frame_texts (by_symbol line.Cover 0 covers) → version ≡ version_of log →
    steps ≡ log.steps → d ≡ b ++ ended (line_texts version (plain line.Step steps)) →
    d ≡ out ++ ended (line_texts (version_of log) (before_ranks log))
front_joined out log {a} {b} {d} {version} {covers} {steps} e f g h i j =
    j
    ∙ ap (λ (v : Version). b ++ ended (line_texts v (plain line.Step steps))) h
    ∙ ap (λ (s : List Step). b ++ ended (line_texts (version_of log) (plain line.Step s))) i
    ∙ ap (λ text. text ++ ended (line_texts (version_of log) (plain line.Step log.steps)))
    (g ∙ ap (λ (c : List (List CoverTree)). a ++ frame_texts (by_symbol line.Cover 0 c)) f
    ∙ ap (λ text. text ++ frame_texts (by_symbol line.Cover 0 log.covers)) e)
    ∙ front_written out log

-- the text of a log
pub log_written : (out : List ℕ) (log : Log)
    → ((out ++ ended (line_texts (version_of log) (before_ranks log)))
    ++ frame_texts (behind_steps log)) ++ codes "EQUIVALENT\n" ≡ out ++ log_text log
log_written out log =
    let v = version_of log in
    let a = ended (line_texts v (before_ranks log)) in
    let b = ended (line_texts v (behind_steps log)) in
    let c = codes "EQUIVALENT\n" in
    ap (λ text. ((out ++ a) ++ text) ++ c) (ap ended (sym (ranks_alike v log)))
    ∙ append_assoc (out ++ a) b c ∙ append_assoc out a (b ++ c)
    ∙ ap (λ text. out ++ text)
    (sym (append_assoc a b c)
    ∙ ap (λ text. text ++ c) (sym (lines_written v (before_ranks log) (behind_steps log)))
    ∙ sym (lines_written v (before_end log) ((line.End, 0) ∷ [])))

-- a postulate
pub postulate_written : (version : Version) (out : List ℕ) (goal : Equation) (certs : List Cert) →
    ((out ++ codes "postulate ") ++ equations.text goal) ++ new_certs_text version certs
    ≡ out ++ step_text version (step.Postulate goal.left goal.right goal.rows certs)
postulate_written One out goal certs =
    append-nil ((out ++ codes "postulate ") ++ equations.text goal)
    ∙ append_assoc out (codes "postulate ") (equations.text goal)
postulate_written Two out goal certs =
    append_assoc (out ++ codes "postulate ") (equations.text goal)
    (codes " " ++ certificate_lists.text certs)
    ∙ append_assoc out (codes "postulate ")
    (equations.text goal ++ (codes " " ++ certificate_lists.text certs))

pub postulate_joined : (version : Version) (out : List ℕ) (goal : Equation) (certs : List Cert)
    {a b d : List ℕ} {rows : List Row} → a ≡ out ++ codes "postulate " → rows ≡ goal.rows →
    b ≡ a ++ equations.text (record { left = goal.left; right = goal.right; rows = rows }) →
    d ≡ b ++ new_certs_text version certs →
    d ≡ out ++ step_text version (step.Postulate goal.left goal.right goal.rows certs)
postulate_joined version out goal certs {a} {b} {d} {rows} e f g h =
    h
    ∙ ap (λ text. text ++ new_certs_text version certs)
    (g
    ∙ ap (λ (r : List Row). a
    ++ equations.text (record { left = goal.left; right = goal.right; rows = r })) f
    ∙ ap (λ text. text ++ equations.text goal) e)
    ∙ postulate_written version out goal certs
