-- Walks over the pairs of rules inside the domains, each with its certificate.
use Rattle.std.proofs.Common.{◌≡◌, ◌∙◌, ap, sym, subst, refl, arith, ℕ, ◌+◌, ◌<◌, ◌≤◌, Bool, true, false, Option, Some, None, Result, Ok, Err, OnOk, All, List, [], ◌∷◌, ◌++◌, append_assoc, drop, drop_of_length-le, get_or, length, map, slice_get, take, take_all}
use Rattle.std.proofs.lemmas.List.{append-nil, take_more}
use Rattle.std.proofs.lemmas.List.Elements.{All-append, All-cons, All-nil}
use Rattle.rx_cert.specs.Findings.{Said}
use Rattle.rx_plain.specs.Formed.{Formed, pure}
use Rattle.rx_rewriting.specs.Premises.{Lowers}
use Rattle.rx_rewriting.specs.Ranks.{weight_of}
use Rattle.rx_rewriting.specs.Steps.{Either}
use Rattle.rx_rewriting.specs.Terms.{Fits}
use Rattle.rx_row.specs.declared.row.Row.{Row}
use Rattle.rx_term.specs.Meaning.{Instance, signature}
use Rattle.rx_term.specs.WellMade.{IsWellMade}
use Rattle.rx_term.specs.declared.rule_set.RuleParts.{RuleParts}
use Rattle.rx_term.specs.declared.rule.Rule.{Rule}
use Rattle.rx_term.proofs.Places.{from_end, from_nowhere, from_place}
use Rattle.rx_pairs.specs.Descents.{Refuses, Tells, TellsRanked, lent_from, lent_listing}
use Rattle.rx_pairs.specs.Inside.{bounded, descends_in, descent_in, listed_before, listing, pairs_in}
use Rattle.rx_pairs.specs.Lent.{all_lent, lent}
use Rattle.rx_pairs.specs.Lowering.{Descends, Descent, NotLower, PassesLimits, goes_on, lower_finding}
use Rattle.rx_pairs.specs.Pairs.{AreAllPairs, ArePairs, HasRoot, NoRules, OneMore, Part, SidesFit, pair_under}
use Rattle.rx_pairs.specs.Ranks.{bad_rank, rank_of}
use Rattle.rx_pairs.specs.declared.descending.Witness.{Witness}
use Rattle.rx_pairs.specs.declared.listing.Listing.{Listing}
use Rattle.rx_pairs.specs.declared.pair.Pair.{Pair}
use Rattle.rx_pairs.specs.declared.pair_cert.PairCert.{PairCert}
use Rattle.rx_pairs.specs.declared.pair_end.PairEnd.{PairEnd}
use Rattle.rx_pairs.specs.declared.parts.Application.{Application}
use Rattle.rx_pairs.specs.declared.table.RankTable.{RankTable}
use Rattle.rx_pairs.proofs.InsideLaws.{bounded_descend, listed_large, listed_ok}
use Rattle.rx_pairs.proofs.PairsLaws.{all_append}

-- ---- one pair

module _ (w : Witness) (whole : Bool) (pair : Pair) (others : List Pair) (number : ℕ) where
  -- its certificate decides, and then the others
  pub one_turn : (made : Pair) (cert : PairCert) (said : Said) → slice_get w.certs.now number ≡
      Some cert → made ≡ pair → lower_finding made w.table.now cert ≡ said
      → lent_from w whole (pair ∷ others) number ≡
      goes_on number said (lent_from w whole others (number + 1))
  one_turn made cert said there same is =
      ap (descent_in w.table.now whole number (pair ∷ others))
      (from_place w.certs.now number cert there)
      ∙ ap (λ p. goes_on number (lower_finding p w.table.now cert)
      (lent_from w whole others (number + 1))) (sym same)
      ∙ ap (λ s. goes_on number s (lent_from w whole others (number + 1))) is

  -- without one it isn't lower
  pub no_turn : slice_get w.certs.now number ≡ None → lent_from w whole (pair ∷ others) number ≡
      NotLower number
  no_turn none =
      ap (descent_in w.table.now whole number (pair ∷ others))
      (from_nowhere w.certs.now number none)

-- ---- a list of parts

module _ (w : Witness) (rows : List Row) (root : Part) (all : List Application) where
  -- the pairs of the parts that are left decide
  pub record PartsRemain (i start next : ℕ) : Type 0 where
    pub decides : (whole : Bool) (others : List Pair)
        → lent_from w whole (map (pair_under rows root) (all_lent (drop i all)) ++ others) next ≡
        lent_from w whole (map (pair_under rows root) (all_lent all) ++ others) start

  -- one more is lower
  pub part_done : (i start next after : ℕ) (a : Application) → slice_get all i ≡ Some a → after ≡
      next + 1
      → ((whole : Bool) (others : List Pair) →
      lent_from w whole (pair_under rows root (lent a) ∷ others) next ≡
      lent_from w whole others (next + 1))
      → PartsRemain i start next → PartsRemain (i + 1) start after
  part_done i start next after a there is lower before = record {
    decides = λ whole others.
        ap (lent_from w whole (map (pair_under rows root) (all_lent (drop (i + 1) all)) ++ others))
        is
        ∙ sym (lower whole (map (pair_under rows root) (all_lent (drop (i + 1) all)) ++ others))
        ∙ ap (λ parts. lent_from w whole (map (pair_under rows root) (all_lent parts) ++ others)
        next) (sym (from_place all i a there))
        ∙ before.decides whole others;
  }

  -- a refusal at one is that of all
  pub part_refused : (i start next : ℕ) (a : Application) (e : PairEnd) → slice_get all i ≡ Some a
      → ((whole : Bool) (others : List Pair) →
      Refuses (lent_from w whole (pair_under rows root (lent a) ∷ others) next) e)
      → PartsRemain i start next → (whole : Bool) (others : List Pair) →
      Refuses (lent_from w whole (map (pair_under rows root) (all_lent all) ++ others) start) e
  part_refused i start next a e there refuses before whole others =
      subst (λ d. Refuses d e)
      (ap (λ parts. lent_from w whole (map (pair_under rows root) (all_lent parts) ++ others) next)
      (sym (from_place all i a there)) ∙ before.decides whole others)
      (refuses whole (map (pair_under rows root) (all_lent (drop (i + 1) all)) ++ others))

  -- none is left
  pub parts_done : (i start next : ℕ) → length all ≤ i → PartsRemain i start next
      → (whole : Bool) (others : List Pair) →
      lent_from w whole (map (pair_under rows root) (all_lent all) ++ others) start
      ≡ lent_from w whole others next
  parts_done i start next end before whole others =
      sym (before.decides whole others) ∙ ap (λ parts.
      lent_from w whole (map (pair_under rows root) (all_lent parts) ++ others) next)
      (drop_of_length-le all end)

-- ---- a rule

module _ (parts : RuleParts) (w : Witness) (rule : Rule) (rest : Listing) (number : ℕ) where
  abbrev first : Descent
  first = lent_listing w (listed_before (pairs_in parts rule) rest) number

  -- a rule without pairs
  pub rule_without : pairs_in parts rule ≡ pure [] → first ≡ lent_listing w rest number
  rule_without none =
      ap (λ (f : Formed (List Pair)). lent_listing w (listed_before f rest) number) none

  -- one whose pairs pass the limits, with a certificate or without
  pub rule_beyond : (pairs_in parts rule).within ≡ false → first ≡ PassesLimits number
  rule_beyond beyond =
      ap (λ l. lent_listing w l number) (listed_large (pairs_in parts rule) rest beyond)

  -- and one whose pairs are formed
  pub rule_formed : (pairs : List Pair) → (pairs_in parts rule).form ≡ pairs →
      (pairs_in parts rule).within ≡ true → first ≡
      lent_from w rest.whole (pairs ++ rest.pairs) number
  rule_formed pairs form within =
      ap (λ l. lent_listing w l number) (listed_ok (pairs_in parts rule) rest within)
      ∙ ap (λ ps. lent_from w rest.whole (ps ++ rest.pairs) number) form

-- ---- a list of rules

module _ (parts : RuleParts) (w : Witness) (all : List Rule) where
  -- the pairs of the rules that are left decide, from a number on, as those of all do from where
  -- the walk began
  pub record Remain (i start next : ℕ) : Type 0 where
    pub decides : (rest : List Rule) → lent_listing w (listing parts (drop i all ++ rest)) next ≡
        lent_listing w (listing parts (all ++ rest)) start

  pub begin : (start : ℕ) → Remain 0 start start
  begin start = record { decides = λ rest. refl }

  -- one more rule's are lower
  pub rule_done : (i start next after : ℕ) (rule : Rule) → slice_get all i ≡ Some rule
      → ((rest : Listing) → lent_listing w (listed_before (pairs_in parts rule) rest) next ≡
      lent_listing w rest after)
      → Remain i start next → Remain (i + 1) start after
  rule_done i start next after rule there lower before = record {
    decides = λ rest.
        sym (lower (listing parts (drop (i + 1) all ++ rest)))
        ∙ ap (λ (rules : List Rule). lent_listing w (listing parts (rules ++ rest)) next)
        (sym (from_place all i rule there))
        ∙ before.decides rest;
  }

  -- a refusal at one is that of all
  pub rule_refused : (i start next : ℕ) (rule : Rule) (e : PairEnd) → slice_get all i ≡ Some rule
      → ((rest : Listing) →
      Refuses (lent_listing w (listed_before (pairs_in parts rule) rest) next) e)
      → Remain i start next → (rest : List Rule) →
      Refuses (lent_listing w (listing parts (all ++ rest)) start) e
  rule_refused i start next rule e there refuses before rest =
      subst (λ d. Refuses d e)
      (ap (λ (rules : List Rule). lent_listing w (listing parts (rules ++ rest)) next)
      (sym (from_place all i rule there)) ∙ before.decides rest)
      (refuses (listing parts (drop (i + 1) all ++ rest)))

  -- none is left
  pub rules_done : (i start next : ℕ) → length all ≤ i → Remain i start next → (rest : List Rule) →
      lent_listing w (listing parts (all ++ rest)) start ≡
      lent_listing w (listing parts rest) next
  rules_done i start next end before rest =
      sym (before.decides rest)
      ∙ ap (λ (rules : List Rule). lent_listing w (listing parts (rules ++ rest)) next)
      (drop_of_length-le all end)

-- ---- rules and hypotheses

-- where the ranks are lawful, what is said of the pairs is said of both
pub told_ranked : (found : Descent) (bad : Option ℕ) (r : Result (Unit {0}) PairEnd) →
    bad ≡ None → Tells found r → TellsRanked bad found r
told_ranked found None r good told = told
told_ranked found (Some f) r good told = absurd cc

-- where the ranks are lawful and all pairs are lower, each step makes the weight smaller
pub lowers_all : (parts : RuleParts) (hypotheses : List Rule) (table : RankTable)
    (certs : List PairCert) (r : Result (Unit {0}) PairEnd)
    → IsWellMade parts → All HasRoot hypotheses → bad_rank parts table ≡ None
    → Tells (descends_in parts (parts.rules ++ hypotheses) table certs) r
    → OnOk r (All (SidesFit parts) hypotheses
    → Lowers (weight_of (rank_of table)) (Fits (signature parts))
    (Either (Instance (map (bounded parts) parts.rules))
    (Instance (map (bounded parts) hypotheses))))
lowers_all parts hypotheses table certs (Err e) made roots good told = tt
lowers_all parts hypotheses table certs (Ok _) made roots good told = λ fit.
    bounded_descend parts hypotheses table certs made roots fit good told

-- more certificates than pairs are refused
more_certs : (w : Witness) (count : ℕ) (o : Option PairCert) → slice_get w.certs.now count ≡ o →
    count < length w.certs.now → lent_from w true [] count ≡ NotLower count
more_certs w count None none there =
    let end = from_end w.certs.now count none in absurd (omega (arith, end, there))
more_certs w count (Some cert) some there =
    ap (descent_in w.table.now true count []) (from_place w.certs.now count cert some)

module _ (parts : RuleParts) (w : Witness) (rules hypotheses : List Rule) (first : ℕ)
    (rules_lower : (rest : List Rule) → lent_listing w (listing parts (rules ++ rest)) 0 ≡
    lent_listing w (listing parts rest) first) where
  -- a refusal at the hypotheses is that of both
  pub second_refused : (e : PairEnd) → ((rest : List Rule) →
      Refuses (lent_listing w (listing parts (hypotheses ++ rest)) first) e) →
      Refuses (lent_listing w (listing parts (rules ++ hypotheses)) 0) e
  second_refused e refuses =
      subst (λ d. Refuses d e)
      (ap (λ (rs : List Rule). lent_listing w (listing parts rs) first) (append-nil hypotheses) ∙
      sym (rules_lower hypotheses)) (refuses [])

  -- where both are lower, the certificates that are left decide
  pub both_done : (count : ℕ) → ((rest : List Rule) →
      lent_listing w (listing parts (hypotheses ++ rest)) first ≡
      lent_listing w (listing parts rest) count) →
      lent_listing w (listing parts (rules ++ hypotheses)) 0 ≡ lent_from w true [] count
  both_done count lower =
      rules_lower hypotheses
      ∙ ap (λ (rs : List Rule). lent_listing w (listing parts rs) first)
      (sym (append-nil hypotheses))
      ∙ lower []

pub more_left : (w : Witness) (count : ℕ) → count < length w.certs.now →
    lent_from w true [] count ≡ NotLower count
more_left w count there = more_certs w count (slice_get w.certs.now count) refl there

pub none_left : (w : Witness) (count : ℕ) → length w.certs.now ≤ count →
    lent_from w true [] count ≡ Descends
none_left w count end =
    ap (descent_in w.table.now true count []) (drop_of_length-le w.certs.now end)

-- ---- lists of pairs that are made

-- one more rule's pairs after those so far
pub push_rule : (rules before : List Rule) (i : ℕ) (rule : Rule) (pairs more after : List Pair) →
    i < length rules → rule ≡ get_or rules i rule
    → AreAllPairs (before ++ take i rules) pairs → ArePairs rule more → after ≡ pairs ++ more →
    AreAllPairs (before ++ take (i + 1) rules) after
push_rule rules before i rule pairs more after there is so_far are same =
    let one : take (i + 1) rules ≡ take i rules ++ rule ∷ [] = take_more rules i rule there ∙
    ap (λ r. take i rules ++ r ∷ []) (sym is) in
    let whole : (before ++ take i rules) ++ rule ∷ [] ≡ before ++ take (i + 1) rules =
    append_assoc before (take i rules) (rule ∷ []) ∙ ap (λ rs. before ++ rs) (sym one) in
    subst (λ rs. AreAllPairs rs after) whole
    (subst (AreAllPairs ((before ++ take i rules) ++ rule ∷ []))
    (ap (λ ps. pairs ++ ps) (append-nil more) ∙ sym same)
    (all_append (before ++ take i rules) (rule ∷ []) pairs (more ++ []) so_far
    (OneMore rule [] more [] are NoRules)))

-- one more rule has a root
pub more_roots : (rules : List Rule) (i : ℕ) (rule : Rule) → i < length rules → rule ≡
    get_or rules i rule → All HasRoot (take i rules) → HasRoot rule
    → All HasRoot (take (i + 1) rules)
more_roots rules i rule there is before has =
    let one : take (i + 1) rules ≡ take i rules ++ rule ∷ [] = take_more rules i rule there ∙
    ap (λ r. take i rules ++ r ∷ []) (sym is) in
    subst (All HasRoot) (sym one) (All-append HasRoot (take i rules) (rule ∷ []) before
    (All-cons HasRoot rule [] has (All-nil HasRoot)))

pub all_roots : (rules : List Rule) (i : ℕ) → length rules ≤ i → All HasRoot (take i rules) →
    All HasRoot rules
all_roots rules i end before = subst (All HasRoot) (take_all i rules end) before
