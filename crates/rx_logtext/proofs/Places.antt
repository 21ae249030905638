-- What a line does to a log that was read up to a place.
use Rattle.std.proofs.Common.{◌≡◌, ◌∙◌, sym, refl, ap, subst, ℕ, ◌+◌, eqb, Bool, true, false, Option, Some, None, List, [], ◌∷◌, ◌++◌, if◌then◌else◌, length, append_assoc, length-append, arith}
use Rattle.std.proofs.lemmas.List.{append-nil}
use Rattle.std.proofs.lemmas.Bool.{eq-eqb, eqb-true}
use Rattle.rx_plain.proofs.Lists.{all_pushed}
use Rattle.rx_plain.proofs.Booleans.{and_second}
use Rattle.rx_poly.specs.declared.body.Body.{Body}
use Rattle.std.specs.Option.{option_map}
use Rattle.rx_cert.specs.declared.cert.Cert.{Cert}
use Rattle.rx_row.specs.declared.row.Row.{Row}
use Rattle.rx_domain.specs.declared.domains.Domains.{Domains}
use Rattle.rx_cover.specs.declared.cover_tree.CoverTree.{CoverTree}
use Rattle.rx_inference.specs.declared.step.Step.{Step}
use Rattle.rx_pairs.specs.declared.pair_cert.PairCert.{PairCert}
use Rattle.rx_pairs.specs.declared.table.RankTable.{RankTable}
use Rattle.rx_log.specs.declared.log.Log.{Log}
use Rattle.rx_logtext.specs.Lines.{is_readable_line}
use Rattle.rx_log.specs.Lines.{before_covers, before_end, before_ranks, by_symbol, has_widths, plain}
use Rattle.rx_log.specs.Places.{after}
use Rattle.rx_log.specs.Reading.{AreDomainsOnly, AreThere, IsAt, IsBeforeCovers, IsBeforeRanks, lines_to, pushed, with_domain, with_keep}
use Rattle.rx_log.specs.declared.version.Version.{Version}
use Rattle.rx_log.specs.declared.line.Line.{Line}
use Rattle.rx_log.specs.declared.line.Line.TheVariants as line
use Rattle.rx_log.specs.declared.line_state.LineState.{LineState}
use Rattle.rx_log.specs.declared.line_state.LineState.TheVariants.{AtHeader, InDomains, InKeeps, InCovers, InSteps, InRanks, InPairs, Finished}

-- one thing more is one line more, with the next number
pub by_symbol-push : {A : Type 0} (make : A → Line) (k : ℕ) (xs : List A) (x : A) (n : ℕ) → n ≡ k +
    length xs → by_symbol make k (xs ++ x ∷ []) ≡ by_symbol make k xs ++ (make x, n) ∷ []
by_symbol-push make k [] x n e = let f : n ≡ k = omega arith in cc
by_symbol-push make k (y ∷ ys) x n e =
    let f : n ≡ (k + 1) + length ys = omega arith in
    let h = by_symbol-push make (k + 1) ys x n f in cc

pub plain-push : {A : Type 0} (make : A → Line) (xs : List A) (x : A) → plain make (xs ++ x ∷ []) ≡
    plain make xs ++ (make x, 0) ∷ []
plain-push make [] x = refl
plain-push make (y ∷ ys) x = ap (λ (zs : List (Line × ℕ)). (make y, 0) ∷ zs) (plain-push make ys x)

-- lines after which none comes yet
snoc_first : {A : Type 0} (c new s : List A) (x : A) → new ≡ c ++ x ∷ [] → s ≡ [] → new ++ s ≡
    (c ++ s) ++ x ∷ []
snoc_first c new s x e f = rw (e, f) (simp append-nil)

snoc_after : {A : Type 0} (b c new s : List A) (r x : A) → new ≡ c ++ x ∷ [] → s ≡ [] → b ++ r ∷
    (new ++ s) ≡ (b ++ r ∷ (c ++ s)) ++ x ∷ []
snoc_after b c new s r x e f = rw (e, f) (simp (append-nil, append_assoc))

alone_after : {A : Type 0} (b y c s : List A) (r : A) → y ≡ b → c ≡ [] → s ≡ [] → b ++ r ∷
    (c ++ s) ≡ y ++ r ∷ []
alone_after b y c s r e f g = rw (e, f, g) refl

-- ---- the lines up to the next place

-- what was read up to the place, the line, and the place after it: the log with the line is read up
-- to there
pub record Moves (place : LineState) (log : Log) (read : Line) (symbol : ℕ) (next : LineState) :
    Type 0
  where
    pub at : IsAt next (pushed read log)
    pub widths : has_widths (pushed read log) ≡ true
    pub lines : lines_to next (pushed read log) ≡ lines_to place log ++ (read, symbol) ∷ []

some-injective : {A : Type 0} {x y : A} → Some x ≡ Some y → x ≡ y
some-injective e = cc

-- a choice of a place that is made
chosen : (b : Bool) (x y : LineState) → (if b then Some x else None) ≡ Some y → (b ≡ true) × (x ≡ y)
chosen true x y e = (refl, some-injective e)
chosen false x y e = absurd (cc)

-- the same move to an equal place, with an equal symbol
moved : (place : LineState) (log : Log) (read : Line) (m n : ℕ) (x y : LineState) → m ≡ n → x ≡ y →
    Moves place log read n x → Moves place log read m y
moved place log read m n x y e f h =
    subst (λ k. Moves place log read k y) (sym e) (subst (λ next. Moves place log read n next) f h)

-- before the header nothing was read
header : (log : Log) → IsAt AtHeader log → Moves AtHeader log line.Header 0 (InCovers 0)
header log e =
    subst (λ l. Moves AtHeader l line.Header 0 (InCovers 0)) (sym e)
    (record { at = (refl, (refl, (refl, refl))); widths = refl; lines = refl })

second : (log : Log) → IsAt AtHeader log → Moves AtHeader log line.Header2 0 (InDomains 0)
second log e =
    subst (λ l. Moves AtHeader l line.Header2 0 (InDomains 0)) (sym e)
    (record { at = ((refl, refl), (refl, (refl, (refl, refl)))); widths = refl; lines = refl })

-- a domain more
domain_lines : (d : Option Domains) (rows : List Row) (n : ℕ) → AreDomainsOnly n d →
    before_covers (option_map (with_domain rows) d) ≡ before_covers d ++ (line.Domain rows, n) ∷ []
domain_lines None rows n at = absurd at
domain_lines (Some d) rows n at =
    let k : n ≡ 0 + length d.rows = omega (arith, at.0) in
    ap (λ (its : List (Line × ℕ)). (line.Header2, 0) ∷ its)
    (snoc_first (by_symbol line.Domain 0 d.rows) _ (plain line.Keep d.keeps) (line.Domain rows, n)
    (by_symbol-push line.Domain 0 d.rows rows n k) (ap (plain line.Keep) at.1))

domain_more : (d : Option Domains) (rows : List Row) (n : ℕ) → AreDomainsOnly n d →
    AreDomainsOnly (n + 1) (option_map (with_domain rows) d)
domain_more None rows n at = at
domain_more (Some d) rows n at = (
  let e : n + 1 ≡ length (d.rows ++ rows ∷ []) =
      omega (arith, at.0, length-append d.rows (rows ∷ [])) in e,
  at.1,
)

domain : (log : Log) (rows : List Row) (n : ℕ) → IsAt (InDomains n) log → has_widths log ≡ true →
    Moves (InDomains n) log (line.Domain rows) n (InDomains (n + 1))
domain log rows n at w = record {
  at = (domain_more log.domains rows n at.0, at.1);
  widths = w;
  lines = domain_lines log.domains rows n at.0;
}

-- certificates more
keep_lines : (d : Option Domains) (certs : List Cert) → AreThere d →
    before_covers (option_map (with_keep certs) d) ≡ before_covers d ++ (line.Keep certs, 0) ∷ []
keep_lines None certs at = absurd at
keep_lines (Some d) certs at = simp (plain-push, append_assoc)

keep_more : (d : Option Domains) (certs : List Cert) → AreThere d →
    AreThere (option_map (with_keep certs) d)
keep_more None certs at = at
keep_more (Some d) certs at = tt

are_there : (d : Option Domains) (n : ℕ) → AreDomainsOnly n d → AreThere d
are_there None n at = at
are_there (Some d) n at = tt

keep : (place : LineState) (log : Log) (certs : List Cert) → AreThere log.domains →
    IsBeforeCovers log → has_widths log ≡ true → lines_to place log ≡ before_covers log.domains →
    Moves place log (line.Keep certs) 0 InKeeps
keep place log certs there at w e = record {
  at = (keep_more log.domains certs there, at);
  widths = w;
  lines =
      keep_lines log.domains certs there
      ∙ ap (λ (its : List (Line × ℕ)). its ++ (line.Keep certs, 0) ∷ []) (sym e);
}

-- no cover and no step has come
pub front_lines : (log : Log) → IsBeforeCovers log → before_covers log.domains ≡ before_ranks log
front_lines log at =
    let c : before_ranks log ≡ before_covers log.domains ++ [] =
    ap (λ (xs : List (List CoverTree)). before_covers log.domains
    ++ (by_symbol line.Cover 0 xs ++ plain line.Step log.steps)) at.0
    ∙ ap (λ (xs : List Step). before_covers log.domains ++ plain line.Step xs) at.1.0 in
    sym (c ∙ append-nil (before_covers log.domains))

first_lines : (log : Log) (trees : List CoverTree) → IsBeforeCovers log →
    before_covers log.domains
    ++ (by_symbol line.Cover 0 (log.covers ++ trees ∷ []) ++ plain line.Step log.steps)
    ≡ before_covers log.domains ++ (line.Cover trees, 0) ∷ []
first_lines log trees at =
    ap (λ (xs : List (List CoverTree)). before_covers log.domains
    ++ (by_symbol line.Cover 0 (xs ++ trees ∷ []) ++ plain line.Step log.steps)) at.0
    ∙ ap (λ (xs : List Step). before_covers log.domains
    ++ ((line.Cover trees, 0) ∷ plain line.Step xs)) at.1.0

first_cover : (place : LineState) (log : Log) (trees : List CoverTree) → IsBeforeCovers log →
    has_widths log ≡ true → lines_to place log ≡ before_covers log.domains →
    Moves place log (line.Cover trees) 0 (InCovers 1)
first_cover place log trees at w e = record {
  at = (
    let n : 1 ≡ length (log.covers ++ trees ∷ []) =
        omega (arith, ap length at.0, length-append log.covers (trees ∷ [])) in n,
    at.1,
  );
  widths = w;
  lines =
      first_lines log trees at
      ∙ ap (λ (its : List (Line × ℕ)). its ++ (line.Cover trees, 0) ∷ []) (sym e);
}

cover : (log : Log) (trees : List CoverTree) (n : ℕ) → IsAt (InCovers n) log → has_widths log ≡
    true → Moves (InCovers n) log (line.Cover trees) n (InCovers (n + 1))
cover log trees n at w = record {
  at = (
    let e : n + 1 ≡ length (log.covers ++ trees ∷ []) =
        omega (arith, at.0, length-append log.covers (trees ∷ [])) in e,
    at.1,
  );
  widths = w;
  lines =
      let k : n ≡ 0 + length log.covers = omega (arith, at.0) in
      ap (λ (its : List (Line × ℕ)). before_covers log.domains ++ its)
      (snoc_first (by_symbol line.Cover 0 log.covers) _ (plain line.Step log.steps)
      (line.Cover trees, n)
      (by_symbol-push line.Cover 0 log.covers trees n k) (ap (plain line.Step) at.1.0))
      ∙ sym (append_assoc (before_covers log.domains)
      (by_symbol line.Cover 0 log.covers ++ plain line.Step log.steps)
      ((line.Cover trees, n) ∷ []));
}

step : (place : LineState) (log : Log) (taken : Step) → IsBeforeRanks log → has_widths log ≡ true →
    lines_to place log ≡ before_ranks log → Moves place log (line.Step taken) 0 InSteps
step place log taken at w e = record {
  at = at;
  widths = w;
  lines = rw e (simp (plain-push, append_assoc));
}

ranks : (place : LineState) (log : Log) (columns : ℕ) → IsBeforeRanks log → lines_to place log ≡
    before_ranks log → Moves place log (line.Ranks columns) 0 (InRanks columns 0)
ranks place log columns at e = record {
  at = (refl, (rw at.0 refl, at.1));
  widths = rw at.0 refl;
  lines =
      alone_after (before_ranks log) _ (by_symbol line.Rank 0 log.table.ranks)
      (plain line.Pair log.pairs)
      (line.Ranks columns, 0) e (ap (λ (table : RankTable). by_symbol line.Rank 0 table.ranks) at.0)
      (ap (plain line.Pair) at.1);
}

rank : (log : Log) (columns n : ℕ) (new : List Body) → IsAt (InRanks columns n) log →
    has_widths log ≡ true → length new ≡ columns →
    Moves (InRanks columns n) log (line.Rank new) n (InRanks columns (n + 1))
rank log columns n new at w e = record {
  at = (
    at.0,
    (
      let k : n + 1 ≡ length (log.table.ranks ++ new ∷ []) =
          omega (arith, at.1.0, length-append log.table.ranks (new ∷ [])) in k,
      at.1.1,
    ),
  );
  widths =
      all_pushed (λ (it : List Body). eqb (length it) log.table.columns) log.table.ranks new w
      (eq-eqb _ _ (e ∙ at.0));
  lines =
      let k : n ≡ 0 + length log.table.ranks = omega (arith, at.1.0) in
      snoc_after (before_ranks log) (by_symbol line.Rank 0 log.table.ranks) _
      (plain line.Pair log.pairs)
      (line.Ranks log.table.columns, 0) (line.Rank new, n)
      (by_symbol-push line.Rank 0 log.table.ranks new n k) (ap (plain line.Pair) at.1.1);
}

pair : (place : LineState) (log : Log) (new : PairCert) → has_widths log ≡ true → lines_to place log
    ≡
    before_end log → Moves place log (line.Pair new) 0 InPairs
pair place log new w e =
    record { at = tt; widths = w; lines = rw e (simp (plain-push, append_assoc)) }

end : (place : LineState) (log : Log) → has_widths log ≡ true → lines_to place log ≡ before_end log
    →
    Moves place log line.End 0 Finished
end place log w e =
    record {
      at = tt;
      widths = w;
      lines = ap (λ (its : List (Line × ℕ)). its ++ (line.End, 0) ∷ [])
          (sym e);
    }

-- ---- all of them

zero_symbol : (m : ℕ) → eqb m 0 ≡ true → m ≡ 0
zero_symbol m e = eqb-true m 0 e

place_of : {place : LineState} {log : Log} {read : Line} {m : ℕ} {x y : LineState} → m ≡ 0 → Some x
    ≡
    Some y → Moves place log read 0 x → Moves place log read m y
place_of {place} {log} {read} {m} {x} {y} e f h =
    moved place log read m 0 x y e (some-injective f) h

-- a cover of the symbol that is next
cover_next : (log : Log) (trees : List CoverTree) (n m : ℕ) (next : LineState) → IsAt (InCovers n)
    log →
    has_widths log ≡ true → after (InCovers n) (line.Cover trees, m) ≡ Some next →
    Moves (InCovers n) log (line.Cover trees) m next
cover_next log trees n m next at w a =
    let c = chosen (eqb m n) (InCovers (n + 1)) next a in
    moved (InCovers n) log (line.Cover trees) m n (InCovers (n + 1)) next (eqb-true m n c.0) c.1
    (cover log trees n at w)

-- a domain of the symbol that is next
domain_next : (log : Log) (rows : List Row) (n m : ℕ) (next : LineState) → IsAt (InDomains n) log →
    has_widths log ≡ true → after (InDomains n) (line.Domain rows, m) ≡ Some next →
    Moves (InDomains n) log (line.Domain rows) m next
domain_next log rows n m next at w a =
    let c = chosen (eqb m n) (InDomains (n + 1)) next a in
    moved (InDomains n) log (line.Domain rows) m n (InDomains (n + 1)) next (eqb-true m n c.0) c.1
    (domain log rows n at w)

-- a cover where that of the first symbol may come
cover_first : (place : LineState) (log : Log) (trees : List CoverTree) (m : ℕ) (next : LineState) →
    IsBeforeCovers log → has_widths log ≡ true → lines_to place log ≡ before_covers log.domains →
    (if eqb m 0 then Some (InCovers 1) else None) ≡ Some next →
    Moves place log (line.Cover trees) m next
cover_first place log trees m next at w e a =
    let c = chosen (eqb m 0) (InCovers 1) next a in
    moved place log (line.Cover trees) m 0 (InCovers 1) next (eqb-true m 0 c.0) c.1
    (first_cover place log trees at w e)

both_chosen : (b c : Bool) (x y : LineState) → (if b then (if c then Some x else None) else None) ≡
    Some y → (b ≡ true) × ((c ≡ true) × (x ≡ y))
both_chosen true c x y e = (refl, chosen c x y e)
both_chosen false c x y e = absurd (cc)

-- a rank of the symbol that is next
rank_next : (log : Log) (columns n m : ℕ) (new : List Body) (next : LineState) →
    IsAt (InRanks columns n) log → has_widths log ≡ true →
    after (InRanks columns n) (line.Rank new, m) ≡ Some next →
    Moves (InRanks columns n) log (line.Rank new) m next
rank_next log columns n m new next at w a =
    let c = both_chosen (eqb m n) (eqb (length new) columns) (InRanks columns (n + 1)) next a in
    moved (InRanks columns n) log (line.Rank new) m n (InRanks columns (n + 1)) next
    (eqb-true m n c.0) c.1.1
    (rank log columns n new at w (eqb-true (length new) columns c.1.0))

-- where a line in range may come, the log with it is read up to the place after it
pub moves : (version : Version) (place : LineState) (log : Log) (read : Line) (m : ℕ)
    (next : LineState) → IsAt place
    log →
    has_widths log ≡ true → is_readable_line version read m ≡ true → after place (read, m)
    ≡ Some next →
    Moves place log read m next
moves version AtHeader log line.Header m next at w r a =
    place_of (zero_symbol m r) a (header log at)
moves version AtHeader log line.Header2 m next at w r a =
    place_of (zero_symbol m r) a (second log at)
moves version AtHeader log read m next at w r a = absurd (cc)
moves version (InDomains n) log (line.Domain rows) m next at w r a =
    domain_next log rows n m next at w a
moves version (InDomains n) log (line.Keep certs) m next at w r a =
    place_of (zero_symbol m (and_second _ _ r)) a
    (keep (InDomains n) log certs (are_there log.domains n at.0) at.1 w refl)
moves version (InDomains n) log (line.Cover trees) m next at w r a =
    cover_first (InDomains n) log trees m next at.1 w refl a
moves version (InDomains n) log (line.Step taken) m next at w r a =
    place_of (zero_symbol m (and_second _ _ r)) a
    (step (InDomains n) log taken at.1.1.1 w (front_lines log at.1))
moves version (InDomains n) log (line.Ranks columns) m next at w r a =
    place_of (zero_symbol m (and_second _ _ r)) a
    (ranks (InDomains n) log columns at.1.1.1 (front_lines log at.1))
moves version (InDomains n) log read m next at w r a = absurd (cc)
moves version InKeeps log (line.Keep certs) m next at w r a =
    place_of (zero_symbol m (and_second _ _ r)) a (keep InKeeps log certs at.0 at.1 w refl)
moves version InKeeps log (line.Cover trees) m next at w r a =
    cover_first InKeeps log trees m next at.1 w refl a
moves version InKeeps log (line.Step taken) m next at w r a =
    place_of (zero_symbol m (and_second _ _ r)) a
    (step InKeeps log taken at.1.1.1 w (front_lines log at.1))
moves version InKeeps log (line.Ranks columns) m next at w r a =
    place_of (zero_symbol m (and_second _ _ r)) a
    (ranks InKeeps log columns at.1.1.1 (front_lines log at.1))
moves version InKeeps log read m next at w r a = absurd (cc)
moves version (InCovers n) log (line.Cover trees) m next at w r a =
    cover_next log trees n m next at w a
moves version (InCovers n) log (line.Step taken) m next at w r a =
    place_of (zero_symbol m (and_second _ _ r)) a (step (InCovers n) log taken at.1.1 w refl)
moves version (InCovers n) log (line.Ranks columns) m next at w r a =
    place_of (zero_symbol m (and_second _ _ r)) a (ranks (InCovers n) log columns at.1.1 refl)
moves version (InCovers n) log read m next at w r a = absurd (cc)
moves version InSteps log (line.Step taken) m next at w r a =
    place_of (zero_symbol m (and_second _ _ r)) a (step InSteps log taken at w refl)
moves version InSteps log (line.Ranks columns) m next at w r a =
    place_of (zero_symbol m (and_second _ _ r)) a (ranks InSteps log columns at refl)
moves version InSteps log read m next at w r a = absurd (cc)
moves version (InRanks columns n) log (line.Rank new) m next at w r a =
    rank_next log columns n m new next at w a
moves version (InRanks columns n) log (line.Pair new) m next at w r a =
    place_of (zero_symbol m (and_second _ _ r)) a (pair (InRanks columns n) log new w refl)
moves version (InRanks columns n) log line.End m next at w r a =
    place_of (zero_symbol m r) a (end (InRanks columns n) log w refl)
moves version (InRanks columns n) log read m next at w r a = absurd (cc)
moves version InPairs log (line.Pair new) m next at w r a =
    place_of (zero_symbol m (and_second _ _ r)) a (pair InPairs log new w refl)
moves version InPairs log line.End m next at w r a =
    place_of (zero_symbol m r) a (end InPairs log w refl)
moves version InPairs log read m next at w r a = absurd (cc)
moves version Finished log read m next at w r a = absurd (cc)
