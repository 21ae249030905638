-- The pairs of rules inside the domains are those of rules under more rows. Without domains they are
-- the pairs of the rules.
use Rattle.std.proofs.Common.{◌≡◌, ◌∙◌, ap, sym, subst, refl, cond, ℕ, ◌+◌, Bool, true, false, ◌||◌, Option, Some, None, unwrap_or, List, [], ◌∷◌, ◌++◌, map, slice_get, All, append_assoc}
use Rattle.std.proofs.lemmas.Bool.{false≢true}
use Rattle.std.proofs.lemmas.List.{append-nil, map-append}
use Rattle.std.proofs.lemmas.List.Elements.{All-append, All-head, All-map, All-tail}
use Rattle.std.specs.Option.{option_map_or}
use Rattle.rx_plain.specs.Formed.{Formed, pure, ◌<$>◌}
use Rattle.rx_poly.specs.Substitution.{numbered}
use Rattle.rx_poly.specs.declared.body.Body.{Body}
use Rattle.rx_row.specs.Substitution.{rows_with}
use Rattle.rx_row.specs.declared.row.Row.{Row}
use Rattle.rx_rewriting.specs.Premises.{Lowers}
use Rattle.rx_rewriting.specs.Ranks.{weight_of}
use Rattle.rx_rewriting.specs.Steps.{Either}
use Rattle.rx_rewriting.specs.Terms.{Fits}
use Rattle.rx_term.specs.Domains.{rows_at}
use Rattle.rx_term.specs.Meaning.{Instance, signature}
use Rattle.rx_term.specs.WellMade.{IsWellMade}
use Rattle.rx_term.specs.declared.rule.Rule.{Rule}
use Rattle.rx_term.specs.declared.rule_set.RuleParts.{RuleParts}
use Rattle.rx_pairs.specs.Inside.{bounded, descends_in, descent_in, is_empty, listed_before, listing, pairs_in, root_rows}
use Rattle.rx_pairs.specs.Listed.{pairs_by, pairs_by_all, root_part_of}
use Rattle.rx_pairs.specs.Lowering.{Descends, goes_on, lower_finding}
use Rattle.rx_cert.specs.Findings.{Said, Yes, No, Beyond}
use Rattle.rx_pairs.specs.Pairs.{AreAllPairs, AreParts, HasRoot, IsRoot, NoRules, OneMore, PairsOf, Part, SidesFit, pair_of, pair_under}
use Rattle.rx_pairs.specs.Ranks.{bad_rank, rank_of}
use Rattle.rx_pairs.specs.declared.listing.Listing.{Listing}
use Rattle.rx_pairs.specs.declared.pair.Pair.{Pair}
use Rattle.rx_pairs.specs.declared.pair_cert.PairCert.{PairCert}
use Rattle.rx_pairs.specs.declared.table.RankTable.{RankTable}
use Rattle.rx_pairs.proofs.ListedLaws.{only_listed, pairs_listed}
use Rattle.rx_pairs.proofs.Lowered.{both_descend, made_fit}
use Rattle.rx_pairs.proofs.PairsLaws.{made_roots, root_found}

-- ---- one rule

module _ (parts : RuleParts) (rule : Rule) (root : Part) (is : IsRoot rule.left root)
    (made : List Part) (are : AreParts rule.left rule.right made) where
  rows_are : root_rows parts rule ≡ rows_at parts root.symbol.0 root.arguments
  rows_are =
      ap (λ (o : Option Part). option_map_or (λ (r : Part). rows_at parts r.symbol.0 r.arguments) o
      (pure [])) (root_found rule.left root is)

  -- the parts of its right side make the pairs
  form_is : (pairs_in parts rule).form ≡
      map (pair_under (rule.rows ++ (rows_at parts root.symbol.0 root.arguments).form) root) made
  form_is =
      sym (only_listed (bounded parts rule) (map (pair_of (bounded parts rule) root) made)
      (PairsOf root is made are))
      ∙ ap (λ (f : Formed (List Row)). map (pair_under (rule.rows ++ f.form) root) made) rows_are

  empty_is : is_empty (pairs_by rule) ≡ is_empty (map (pair_of rule root) made)
  empty_is =
      ap is_empty (sym (only_listed rule (map (pair_of rule root) made) (PairsOf root is made are)))

  -- without parts nothing is formed
  pub nothing_in : made ≡ [] → pairs_in parts rule ≡ pure []
  nothing_in none =
      let form = form_is ∙ ap
      (map (pair_under (rule.rows ++ (rows_at parts root.symbol.0 root.arguments).form) root)) none
      in
      let within = ap (λ b. b || (root_rows parts rule).within)
      (empty_is ∙ ap (λ ps. is_empty (map (pair_of rule root) ps)) none) in
      λ i. record { form = form i; within = within i }

  -- with some the rows are formed
  pub some_in : (made ≡ [] → ⊥) → pairs_in parts rule ≡
      (λ rows. map (pair_under (rule.rows ++ rows) root) made) <$>
      rows_at parts root.symbol.0 root.arguments
  some_in some =
      let within = ap (λ b. b || (root_rows parts rule).within) (empty_is ∙ by made some)
      ∙ ap (λ (f : Formed (List Row)). f.within) rows_are in
      λ i. record { form = form_is i; within = within i }
    where
      by : (ps : List Part) → (ps ≡ [] → ⊥) → is_empty (map (pair_of rule root) ps) ≡ false
      by [] some = absurd (some refl)
      by (p ∷ ps) some = refl

-- ---- lists of rules

-- a rule whose pairs are formed is listed, and at another the list ends
pub listed_ok : (f : Formed (List Pair)) (rest : Listing) → f.within ≡ true → listed_before f rest ≡
    record { pairs = f.form ++ rest.pairs; whole = rest.whole }
listed_ok f rest e =
    ap (λ b. cond b (record { pairs = f.form ++ rest.pairs; whole = rest.whole })
    (record { pairs = []; whole = false })) e

pub listed_large : (f : Formed (List Pair)) (rest : Listing) → f.within ≡ false →
    listed_before f rest ≡ record { pairs = []; whole = false }
listed_large f rest e =
    ap (λ b. cond b (record { pairs = f.form ++ rest.pairs; whole = rest.whole })
    (record { pairs = []; whole = false })) e

abbrev before_by : Bool → List Pair → Listing → Listing
before_by b form rest =
    cond b (record { pairs = form ++ rest.pairs; whole = rest.whole })
    (record { pairs = []; whole = false })

-- where the list is whole, it has the pairs of the rules under more rows
pub whole_listed : (parts : RuleParts) (rules : List Rule) → All HasRoot rules →
    (listing parts rules).whole ≡ true → AreAllPairs (map (bounded parts) rules)
    (listing parts rules).pairs
whole_listed parts [] all e = NoRules
whole_listed parts (rule ∷ rules) all e =
    by (pairs_in parts rule).within (whole_listed parts rules (All-tail HasRoot rule rules all)) e
  where
    by : (b : Bool) → ((listing parts rules).whole ≡ true →
        AreAllPairs (map (bounded parts) rules) (listing parts rules).pairs) →
        (before_by b (pairs_by (bounded parts rule)) (listing parts rules)).whole ≡ true →
        AreAllPairs (map (bounded parts) (rule ∷ rules))
        (before_by b (pairs_by (bounded parts rule)) (listing parts rules)).pairs
    by true rest e =
        OneMore (bounded parts rule) (map (bounded parts) rules) (pairs_by (bounded parts rule))
        (listing parts rules).pairs
        (pairs_listed (bounded parts rule) (All-head HasRoot rule rules all)) (rest e)
    by false rest e = absurd (false≢true e)

-- the pairs of one list of rules, and then those of another
abbrev pub joined : Listing → Listing → Listing
joined first second =
    cond first.whole
    (record { pairs = first.pairs ++ second.pairs; whole = second.whole }) first

pub listing-append : (parts : RuleParts) (rules others : List Rule) → listing parts (rules ++ others)
    ≡ joined (listing parts rules) (listing parts others)
listing-append parts [] others = refl
listing-append parts (rule ∷ rules) others =
    ap (listed_before (pairs_in parts rule)) (listing-append parts rules others)
    ∙ by (pairs_in parts rule).within (listing parts rules).whole
  where
    by : (b whole : Bool) →
        before_by b (pairs_in parts rule).form
        (cond whole (record {
          pairs = (listing parts rules).pairs ++ (listing parts others).pairs;
          whole = (listing parts others).whole;
        })
        (record { pairs = (listing parts rules).pairs; whole = whole })) ≡
        joined (before_by b (pairs_in parts rule).form
        (record { pairs = (listing parts rules).pairs; whole = whole })) (listing parts others)
    by false whole = refl
    by true false = refl
    by true true =
        ap (λ ps. record { pairs = ps; whole = (listing parts others).whole })
        (sym (append_assoc (pairs_in parts rule).form (listing parts rules).pairs
        (listing parts others).pairs))

-- the list of both as it is made: where the first is whole it goes on, and else it ends
module _ (parts : RuleParts) (rules others lent : List Rule) (same : lent ≡ rules)
    (empty pairs : List Pair) (none : empty ≡ []) (whole : Bool)
    (pairs_are : pairs ≡ empty ++ (listing parts lent).pairs)
    (whole_is : whole ≡ (listing parts lent).whole) where
  first_is : record { pairs = pairs; whole = whole } ≡ listing parts rules
  first_is =
      let these = pairs_are ∙ ap (λ ps. ps ++ (listing parts lent).pairs) none in
      (λ i. record { pairs = these i; whole = whole_is i }) ∙ ap (listing parts) same

  pub ends_there : whole ≡ false → record { pairs = pairs; whole = false } ≡
      listing parts (rules ++ others)
  ends_there refused =
      ap (λ b. joined (record { pairs = pairs; whole = b }) (listing parts others)) (sym refused)
      ∙ ap (λ l. joined l (listing parts others)) first_is
      ∙ sym (listing-append parts rules others)

  pub goes_further : whole ≡ true → (after : List Pair) (second : Bool) →
      after ≡ pairs ++ (listing parts others).pairs → second ≡ (listing parts others).whole →
      record { pairs = after; whole = second } ≡ listing parts (rules ++ others)
  goes_further goes after second after_are second_is =
      (λ i. record { pairs = after_are i; whole = second_is i })
      ∙ ap (λ b. joined (record { pairs = pairs; whole = b }) (listing parts others)) (sym goes)
      ∙ ap (λ l. joined l (listing parts others)) first_is
      ∙ sym (listing-append parts rules others)

-- ---- without domains

module _ (parts : RuleParts) (none : parts.domains ≡ []) where
  no_rows : (f : ℕ) (ps : List Body) → rows_at parts f ps ≡ pure []
  no_rows f ps =
      ap (λ (lists : List (List Row)). rows_with (numbered ps) (unwrap_or (slice_get lists f) []))
      none

  no_root_rows : (o : Option Part) → option_map_or (λ (r : Part).
      rows_at parts r.symbol.0 r.arguments) o (pure []) ≡ pure []
  no_root_rows None = refl
  no_root_rows (Some r) = no_rows r.symbol.0 r.arguments

  pub root_rows_none : (rule : Rule) → root_rows parts rule ≡ pure []
  root_rows_none rule = no_root_rows (root_part_of rule.left)

  or_true : (b : Bool) → (b || true) ≡ true
  or_true true = refl
  or_true false = refl

  -- a rule is as it was
  pub bounded_none : (rule : Rule) → bounded parts rule ≡ rule
  bounded_none rule =
      let rows = ap (λ (f : Formed (List Row)). rule.rows ++ f.form) (root_rows_none rule) ∙
      append-nil rule.rows in
      λ i. record { left = rule.left; right = rule.right; rows = rows i }

  pub pairs_in_none : (rule : Rule) → pairs_in parts rule ≡ pure (pairs_by rule)
  pairs_in_none rule =
      let form = ap pairs_by (bounded_none rule) in
      let within = ap (λ (f : Formed (List Row)). is_empty (pairs_by rule) || f.within)
      (root_rows_none rule) ∙ or_true (is_empty (pairs_by rule)) in
      λ i. record { form = form i; within = within i }

  pub listing_none : (rules : List Rule) → listing parts rules ≡
      record { pairs = pairs_by_all rules; whole = true }
  listing_none [] = refl
  listing_none (rule ∷ rules) =
      ap (λ (f : Formed (List Pair)). listed_before f (listing parts rules)) (pairs_in_none rule)
      ∙ ap (listed_before (pure (pairs_by rule))) (listing_none rules)

-- ---- where all are lower

-- the list is whole
pub descends_whole : (table : RankTable) (whole : Bool) (i : ℕ) (pairs : List Pair)
    (certs : List PairCert) → descent_in table whole i pairs certs ≡ Descends → whole ≡ true
descends_whole table true i [] certs e = refl
descends_whole table false i [] certs e = cc
descends_whole table whole i (pair ∷ pairs) [] e = cc
descends_whole table whole i (pair ∷ pairs) (cert ∷ certs) e =
    by (lower_finding pair table cert) (descends_whole table whole (i + 1) pairs certs) e where
      by : (found : Said) → (descent_in table whole (i + 1) pairs certs ≡ Descends → whole ≡ true) →
          goes_on i found (descent_in table whole (i + 1) pairs certs) ≡ Descends → whole ≡ true
      by Yes rest e = rest e
      by No rest e = cc
      by Beyond rest e = cc

-- each step by rules and hypotheses whose left root meets its domain makes the weight smaller
pub bounded_descend : (parts : RuleParts) (hypotheses : List Rule) (table : RankTable)
    (certs : List PairCert) → IsWellMade parts → All HasRoot hypotheses →
    All (SidesFit parts) hypotheses → bad_rank parts table ≡ None →
    descends_in parts (parts.rules ++ hypotheses) table certs ≡ Descends →
    Lowers (weight_of (rank_of table)) (Fits (signature parts))
    (Either (Instance (map (bounded parts) parts.rules))
    (Instance (map (bounded parts) hypotheses)))
bounded_descend parts hypotheses table certs made roots fit good descends =
    let all = parts.rules ++ hypotheses in
    let first = map (bounded parts) parts.rules in
    let second = map (bounded parts) hypotheses in
    let pairs = (listing parts all).pairs in
    let whole = (listing parts all).whole in
    let are = whole_listed parts all (All-append HasRoot parts.rules hypotheses
    (made_roots parts parts.rules made) roots)
    (descends_whole table whole 0 pairs certs descends) in
    both_descend parts first second table whole pairs certs
    (All-append (SidesFit parts) first second
    (All-map (SidesFit parts) (bounded parts) parts.rules (made_fit parts parts.rules made))
    (All-map (SidesFit parts) (bounded parts) hypotheses fit)) good
    (subst (λ (rs : List Rule). AreAllPairs rs pairs)
    (map-append (bounded parts) parts.rules hypotheses) are) descends
