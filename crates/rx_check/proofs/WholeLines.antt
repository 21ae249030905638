-- A whole log that is replayed line by line: each line may come, and adds its part to the log.
use Rattle.std.proofs.Common.{◌≡◌, ◌∙◌, ap, sym, subst, refl, eqb, ℕ, ◌+◌, ◌<◌, ◌≤◌, Bool, true, if◌then◌else◌, Option, Some, None, option_map, List, [], ◌∷◌, ◌++◌, length, get_or, take, append_assoc}
use Rattle.std.proofs.lemmas.Bool.{eq-eqb}
use Rattle.std.proofs.lemmas.List.{append-nil, take_all, take_more}
use Rattle.rx_poly.specs.declared.body.Body.{Body}
use Rattle.rx_cert.specs.declared.cert.Cert.{Cert}
use Rattle.rx_cover.specs.declared.cover_tree.CoverTree.{CoverTree}
use Rattle.rx_domain.specs.declared.domains.Domains.{Domains}
use Rattle.rx_row.specs.declared.row.Row.{Row}
use Rattle.rx_inference.specs.declared.step.Step.{Step}
use Rattle.rx_pairs.specs.declared.pair_cert.PairCert.{PairCert}
use Rattle.rx_term.specs.declared.rule.Equation.{Equation}
use Rattle.rx_term.specs.declared.rule_set.RuleParts.{RuleParts}
use Rattle.rx_log.specs.Places.{after}
use Rattle.rx_log.specs.Reading.{blank, pushed, with_domain, with_keep}
use Rattle.rx_log.specs.declared.line.Line.{Line}
use Rattle.rx_log.specs.declared.line.Line.TheVariants as line
use Rattle.rx_log.specs.declared.line_state.LineState.{LineState}
use Rattle.rx_log.specs.declared.line_state.LineState.TheVariants.{AtHeader, InDomains, InKeeps, InCovers, InSteps, InRanks, InPairs, Finished}
use Rattle.rx_log.specs.declared.log.Log.{Log}
use Rattle.rx_check.specs.LineByLine.{IsOpen, IsRanked}
use Rattle.rx_check.specs.Replay.{StandsFor, place_after}
use Rattle.rx_check.specs.Whole.{AwaitsCover, IsInside, Replays, with_covers, with_keeps, with_lists, with_pairs, with_ranks, with_steps}
use Rattle.rx_check.specs.declared.replayer.Replayer.{Replayer}
use Rattle.rx_check.proofs.LineOrder.{pushed_all-append}

-- ---- which lines may come

-- the domain of the next symbol
pub domain_leads : (n : ℕ) (rows : List Row) →
    after (InDomains n) (line.Domain rows, n) ≡ Some (InDomains (n + 1))
domain_leads n rows =
    let same : eqb n n ≡ true = eq-eqb n n refl in
    ap (λ (b : Bool). if b then Some (InDomains (n + 1)) else None) same

-- certificates that the domains are kept
pub keep_leads : (place : LineState) (certs : List Cert) → IsInside place →
    after place (line.Keep certs, 0) ≡ Some InKeeps
keep_leads AtHeader certs is = absurd is
keep_leads (InDomains n) certs is = refl
keep_leads InKeeps certs is = refl
keep_leads (InCovers n) certs is = absurd is
keep_leads InSteps certs is = absurd is
keep_leads (InRanks c n) certs is = absurd is
keep_leads InPairs certs is = absurd is
keep_leads Finished certs is = absurd is

-- what is inside awaits the first cover
pub inside_awaits : (place : LineState) → IsInside place → AwaitsCover 0 place
inside_awaits AtHeader is = is
inside_awaits (InDomains n) is = refl
inside_awaits InKeeps is = refl
inside_awaits (InCovers n) is = absurd is
inside_awaits InSteps is = is
inside_awaits (InRanks c n) is = is
inside_awaits InPairs is = is
inside_awaits Finished is = is

-- where a cover is awaited, steps may come
pub awaits_open : (symbol : ℕ) (place : LineState) → AwaitsCover symbol place → IsOpen place
awaits_open symbol AtHeader is = is
awaits_open symbol (InDomains n) is = tt
awaits_open symbol InKeeps is = tt
awaits_open symbol (InCovers n) is = tt
awaits_open symbol InSteps is = tt
awaits_open symbol (InRanks c n) is = is
awaits_open symbol InPairs is = is
awaits_open symbol Finished is = is

-- the trees of the next symbol
pub cover_leads : (place : LineState) (n : ℕ) (trees : List CoverTree) → AwaitsCover n place →
    after place (line.Cover trees, n) ≡ Some (InCovers (n + 1))
cover_leads AtHeader n trees is = absurd is
cover_leads (InDomains m) n trees is =
    subst (λ (k : ℕ). (if eqb k 0 then Some (InCovers 1) else None) ≡ Some (InCovers (k + 1)))
    (sym is) refl
cover_leads InKeeps n trees is =
    subst (λ (k : ℕ). (if eqb k 0 then Some (InCovers 1) else None) ≡ Some (InCovers (k + 1)))
    (sym is) refl
cover_leads (InCovers m) n trees is =
    let same : eqb m m ≡ true = eq-eqb m m refl in
    subst (λ (k : ℕ). (if eqb k m then Some (InCovers (m + 1)) else None) ≡ Some (InCovers (k + 1)))
    (sym is) (ap (λ (b : Bool). if b then Some (InCovers (m + 1)) else None) same)
cover_leads InSteps n trees is = absurd is
cover_leads (InRanks c m) n trees is = absurd is
cover_leads InPairs n trees is = absurd is
cover_leads Finished n trees is = absurd is

-- the rank of the next symbol, if it has the table's width
pub rank_leads : (columns n : ℕ) (rank : List Body) → length rank ≡ columns →
    after (InRanks columns n) (line.Rank rank, n) ≡ Some (InRanks columns (n + 1))
rank_leads columns n rank width =
    let same : eqb n n ≡ true = eq-eqb n n refl in
    let wide : eqb (length rank) columns ≡ true = eq-eqb (length rank) columns width in
    ap (λ (b : Bool). if b
    then (if eqb (length rank) columns then Some (InRanks columns (n + 1)) else None)
    else None) same
    ∙ ap (λ (b : Bool). if b then Some (InRanks columns (n + 1)) else None) wide

-- a step
pub step_leads : (place : LineState) (step : Step) → IsOpen place →
    after place (line.Step step, 0) ≡ Some InSteps
step_leads AtHeader step is = absurd is
step_leads (InDomains n) step is = refl
step_leads InKeeps step is = refl
step_leads (InCovers n) step is = refl
step_leads InSteps step is = refl
step_leads (InRanks c n) step is = absurd is
step_leads InPairs step is = absurd is
step_leads Finished step is = absurd is

-- the line that begins the ranks
pub ranks_lead : (place : LineState) (columns : ℕ) → IsOpen place →
    after place (line.Ranks columns, 0) ≡ Some (InRanks columns 0)
ranks_lead AtHeader columns is = absurd is
ranks_lead (InDomains n) columns is = refl
ranks_lead InKeeps columns is = refl
ranks_lead (InCovers n) columns is = refl
ranks_lead InSteps columns is = refl
ranks_lead (InRanks c n) columns is = absurd is
ranks_lead InPairs columns is = absurd is
ranks_lead Finished columns is = absurd is

-- the certificate of a pair
pub pair_leads : (place : LineState) (cert : PairCert) → IsRanked place →
    after place (line.Pair cert, 0) ≡ Some InPairs
pair_leads AtHeader cert ranked = absurd ranked
pair_leads (InDomains n) cert ranked = absurd ranked
pair_leads InKeeps cert ranked = absurd ranked
pair_leads (InCovers n) cert ranked = absurd ranked
pair_leads InSteps cert ranked = absurd ranked
pair_leads (InRanks c n) cert ranked = refl
pair_leads InPairs cert ranked = refl
pair_leads Finished cert ranked = absurd ranked

-- the end
pub end_leads : (place : LineState) → IsRanked place →
    after place (line.End, 0) ≡ Some Finished
end_leads AtHeader ranked = absurd ranked
end_leads (InDomains n) ranked = absurd ranked
end_leads InKeeps ranked = absurd ranked
end_leads (InCovers n) ranked = absurd ranked
end_leads InSteps ranked = absurd ranked
end_leads (InRanks c n) ranked = refl
end_leads InPairs ranked = refl
end_leads Finished ranked = absurd ranked

-- a line that leads on leads on from what is the same place, if it is the same line
pub leads_same : (place at : LineState) (next same : Line) (symbol : ℕ) (behind : LineState) →
    place ≡ at → next ≡ same → after at (same, symbol) ≡ Some behind →
    after place (next, symbol) ≡ Some behind
leads_same place at next same symbol behind p n leads =
    ap (λ (q : LineState). after q (next, symbol)) p
    ∙ ap (λ (l : Line). after at (l, symbol)) n ∙ leads

-- ---- what lines say of the log

pub lists_pushed_on : (log : Log) (lists : List (List Row)) (rows : List Row) →
    pushed (line.Domain rows) (with_lists log lists) ≡ with_lists log (lists ++ rows ∷ [])
lists_pushed_on log lists rows =
    ap (λ (all : Option Domains). record log { domains = all }) (by_domains log.domains)
  where
    by_domains : (o : Option Domains) → option_map (with_domain rows)
        (option_map (λ (d : Domains). record d { rows = d.rows ++ lists }) o)
        ≡ option_map (λ (d : Domains). record d { rows = d.rows ++ (lists ++ rows ∷ []) }) o
    by_domains None = refl
    by_domains (Some d) =
        ap (λ (all : List (List Row)). Some (record d { rows = all }))
        (append_assoc d.rows lists (rows ∷ []))

pub keeps_pushed_on : (log : Log) (keeps : List (List Cert)) (certs : List Cert) →
    pushed (line.Keep certs) (with_keeps log keeps) ≡ with_keeps log (keeps ++ certs ∷ [])
keeps_pushed_on log keeps certs =
    ap (λ (all : Option Domains). record log { domains = all }) (by_domains log.domains)
  where
    by_domains : (o : Option Domains) → option_map (with_keep certs)
        (option_map (λ (d : Domains). record d { keeps = d.keeps ++ keeps }) o)
        ≡ option_map (λ (d : Domains). record d { keeps = d.keeps ++ (keeps ++ certs ∷ []) }) o
    by_domains None = refl
    by_domains (Some d) =
        ap (λ (all : List (List Cert)). Some (record d { keeps = all }))
        (append_assoc d.keeps keeps (certs ∷ []))

pub covers_pushed_on : (log : Log) (covers : List (List CoverTree)) (trees : List CoverTree) →
    pushed (line.Cover trees) (with_covers log covers) ≡ with_covers log (covers ++ trees ∷ [])
covers_pushed_on log covers trees =
    ap (λ (all : List (List CoverTree)). record log { covers = all })
    (append_assoc log.covers covers (trees ∷ []))

pub steps_pushed_on : (log : Log) (steps : List Step) (step : Step) →
    pushed (line.Step step) (with_steps log steps) ≡ with_steps log (steps ++ step ∷ [])
steps_pushed_on log steps step =
    ap (λ (all : List Step). record log { steps = all })
    (append_assoc log.steps steps (step ∷ []))

pub ranks_pushed_on : (log : Log) (ranks : List (List Body)) (rank : List Body) →
    pushed (line.Rank rank) (with_ranks log ranks) ≡ with_ranks log (ranks ++ rank ∷ [])
ranks_pushed_on log ranks rank =
    ap (λ (all : List (List Body)). record log { table = record log.table { ranks = all } })
    (append_assoc log.table.ranks ranks (rank ∷ []))

pub pairs_pushed_on : (log : Log) (pairs : List PairCert) (pair : PairCert) →
    pushed (line.Pair pair) (with_pairs log pairs) ≡ with_pairs log (pairs ++ pair ∷ [])
pairs_pushed_on log pairs pair =
    ap (λ (all : List PairCert). record log { pairs = all })
    (append_assoc log.pairs pairs (pair ∷ []))

pub no_lists : (log : Log) → with_lists log [] ≡ log
no_lists log = ap (λ (all : Option Domains). record log { domains = all }) (by_domains log.domains)
  where
    by_domains : (o : Option Domains) →
        option_map (λ (d : Domains). record d { rows = d.rows ++ [] }) o ≡ o
    by_domains None = refl
    by_domains (Some d) =
        ap (λ (all : List (List Row)). Some (record d { rows = all })) (append-nil d.rows)

pub no_keeps : (log : Log) → with_keeps log [] ≡ log
no_keeps log = ap (λ (all : Option Domains). record log { domains = all }) (by_domains log.domains)
  where
    by_domains : (o : Option Domains) →
        option_map (λ (d : Domains). record d { keeps = d.keeps ++ [] }) o ≡ o
    by_domains None = refl
    by_domains (Some d) =
        ap (λ (all : List (List Cert)). Some (record d { keeps = all })) (append-nil d.keeps)

pub no_covers : (log : Log) → with_covers log [] ≡ log
no_covers log =
    ap (λ (all : List (List CoverTree)). record log { covers = all }) (append-nil log.covers)

pub no_steps : (log : Log) → with_steps log [] ≡ log
no_steps log = ap (λ (all : List Step). record log { steps = all }) (append-nil log.steps)

pub no_ranks_on : (log : Log) → with_ranks log [] ≡ log
no_ranks_on log =
    ap (λ (all : List (List Body)). record log { table = record log.table { ranks = all } })
    (append-nil log.table.ranks)

pub no_pairs : (log : Log) → with_pairs log [] ≡ log
no_pairs log = ap (λ (all : List PairCert). record log { pairs = all }) (append-nil log.pairs)

-- ---- one line more

-- a line that may come adds what it says
pub one_line : {old new : Replayer} {parts : RuleParts} {goal : Equation} {log : Log}
    (next : Line) (symbol : ℕ) (behind : LineState) → Replays old parts goal log
    → after (place_after old) (next, symbol) ≡ Some behind
    → ((its : List (Line × ℕ)) (k : ℕ) → StandsFor old parts goal its →
    after (place_after old) (next, k) ≡ Some behind →
    StandsFor new parts goal (its ++ (next, k) ∷ []))
    → Replays new parts goal (pushed next log)
one_line next symbol behind replays leads stands = record {
  its = replays.its ++ (next, symbol) ∷ [];
  stands = stands replays.its symbol replays.stands leads;
  are =
      pushed_all-append blank replays.its ((next, symbol) ∷ [])
      ∙ ap (λ (l : Log). pushed next l) replays.are;
}

-- what is kept is what the first log gives, and the things of a list that were added to it
abbrev pub ReplaysWith : {A : Type 0} → (Log → List A → Log) → Replayer → Replayer → RuleParts →
    List A → Type 0
ReplaysWith add first now parts xs =
    (goal : Equation) (log : Log) → Replays first parts goal log → Replays now parts goal
    (add log xs)

-- nothing was added yet
pub none_taken : {A : Type 0} (add : Log → List A → Log) (first : Replayer) (parts : RuleParts)
    → ((log : Log) → add log [] ≡ log) → ReplaysWith add first first parts []
none_taken add first parts none = λ goal log before.
    subst (λ (l : Log). Replays first parts goal l) (sym (none log)) before

-- one thing more
pub one_taken : {A : Type 0} (add : Log → List A → Log) (make : A → Line)
    (first old new : Replayer) (parts : RuleParts) (xs : List A) (i : ℕ) (x d : A) (next : Line)
    (symbol : ℕ) (behind : LineState)
    → ((log : Log) (ys : List A) (y : A) → pushed (make y) (add log ys) ≡ add log (ys ++ y ∷ []))
    → i < length xs → x ≡ get_or xs i d → next ≡ make x
    → after (place_after old) (next, symbol) ≡ Some behind
    → ReplaysWith add first old parts (take i xs)
    → ((goal : Equation) (its : List (Line × ℕ)) (k : ℕ) → StandsFor old parts goal its →
    after (place_after old) (next, k) ≡ Some behind →
    StandsFor new parts goal (its ++ (next, k) ∷ []))
    → ReplaysWith add first new parts (take (i + 1) xs)
one_taken add make first old new parts xs i x d next symbol behind pushes within at is leads before
    stands = λ goal log begins.
    let more : take i xs ++ x ∷ [] ≡ take (i + 1) xs =
    ap (λ y. take i xs ++ y ∷ []) at ∙ sym (take_more xs i d within) in
    let added : pushed next (add log (take i xs)) ≡ add log (take (i + 1) xs) =
    ap (λ (l : Line). pushed l (add log (take i xs))) is ∙ pushes log (take i xs) x
    ∙ ap (λ ys. add log ys) more in
    let taken : Replays new parts goal (pushed next (add log (take i xs))) =
    one_line next symbol behind (before goal log begins) leads (stands goal) in
    subst (λ (l : Log). Replays new parts goal l) added taken

-- all things were added
pub all_taken : {A : Type 0} (add : Log → List A → Log) (first now : Replayer)
    (parts : RuleParts) (xs : List A) (i : ℕ) → length xs ≤ i
    → ReplaysWith add first now parts (take i xs) → ReplaysWith add first now parts xs
all_taken add first now parts xs i past before = λ goal log begins.
    subst (λ ys. Replays now parts goal (add log ys)) (take_all i xs past) (before goal log begins)
