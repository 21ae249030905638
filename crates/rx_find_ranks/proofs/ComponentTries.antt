-- What comes of one component more decides, or leaves it to the components after it.
use Rattle.std.proofs.Common.{◌≡◌, ◌∙◌, ap, sym, refl, ℕ, zero, suc, ◌+◌, ◌<◌, Bool, true, false, Vec, List, [], ◌∷◌, ◌++◌, append-nil, drop, get_or, length, map, take, cond}
use Rattle.std.specs.List.{range_with_len}
use Rattle.std.specs.declared.alloc.Global.{Global}
use Rattle.std.proofs.lemmas.Grind.{flat_map-append}
use Rattle.std.proofs.lemmas.List.{map-append, take_more}
use Rattle.rx_term.proofs.Places.{at_some, from_place}
use Rattle.rx_term.specs.declared.rule.Rule.{Rule}
use Rattle.rx_term.specs.declared.rule_set.RuleParts.{RuleParts}
use Rattle.rx_anchors.specs.Members.{is_member, symbols_of}
use Rattle.rx_rank.specs.Components.{representatives_of, pairs_in}
use Rattle.rx_rank.specs.Ranking.{polynomials, tried_in, unless_empty}
use Rattle.rx_rank.specs.Tries.{all_made}
use Rattle.rx_find_ranks.specs.Groups.{by_component, entries_in, groups_in, ungrouped}
use Rattle.rx_find_ranks.specs.Joined.{tries_from}
use Rattle.rx_find_ranks.specs.Tables.{pairs_open}
use Rattle.rx_find_ranks.proofs.Grouping.{items_of}
use Rattle.rx_find_ranks.specs.declared.open_pair.OpenPair.{OpenPair}
use Rattle.rx_rank.specs.declared.kind.RankingKind.{RankingKind}

-- ---- groups in memory

module _ (groups : List (Vec OpenPair Global)) (i : ℕ) (group : Vec OpenPair Global)
    (there : i < length groups) (is : group ≡ get_or groups i group) where
  -- the groups from a place on, and up to a place
  pub groups_after : groups_in (drop i groups) ≡ group.items ∷ groups_in (drop (i + 1) groups)
  groups_after = ap groups_in (from_place groups i group (at_some groups i group group there is))

  pub pairs_until : pairs_open (ungrouped (groups_in (take (i + 1) groups))) ≡
      pairs_open (ungrouped (groups_in (take i groups))) ++ pairs_open group.items
  pairs_until =
      let past = take i groups in
      ap (λ gs. pairs_open (ungrouped (groups_in gs)))
      (take_more groups i group there ∙ ap (λ g. past ++ g ∷ []) (sym is))
      ∙ ap (λ gs. pairs_open (ungrouped gs)) (map-append items_of past (group ∷ []))
      ∙ ap pairs_open (flat_map-append (λ g. g) (groups_in past) (group.items ∷ []) ∙
      ap (λ os. ungrouped (groups_in past) ++ os) (append-nil group.items))
      ∙ map-append (λ (o : OpenPair). o.pair) (ungrouped (groups_in past)) group.items

-- ---- the components of the definition

module _ (kind : RankingKind) (parts : RuleParts) (hypotheses : List Rule) (names : List ℕ)
    (entries : List OpenPair)
  where
    pairs_one : (c : ℕ) (o : OpenPair) (os : List OpenPair) (b : Bool) →
        pairs_open (entries_in names os c) ≡ pairs_in names c (pairs_open os)
        → pairs_open (cond b (o ∷ entries_in names os c) (entries_in names os c)) ≡
        cond b (o.pair ∷ pairs_in names c (pairs_open os)) (pairs_in names c (pairs_open os))
    pairs_one c o os true rest = ap (λ ps. o.pair ∷ ps) rest
    pairs_one c o os false rest = rest

    pairs_same : (c : ℕ) (os : List OpenPair) → pairs_open (entries_in names os c) ≡
        pairs_in names c (pairs_open os)
    pairs_same c [] = refl
    pairs_same c (o ∷ os) = pairs_one c o os (is_member names c o.pair.left.0) (pairs_same c os)

    tries_same : (a n : ℕ) → tries_from kind parts hypotheses names a
        (map (entries_in names entries) (range_with_len a n))
        ≡ map (tried_in kind parts hypotheses names (pairs_open entries)) (range_with_len a n)
    tries_same a zero = refl
    tries_same a (suc n) =
        λ i. unless_empty kind parts hypotheses names a (pairs_same a entries i) ∷ tries_same
        (a + 1) n i

    pub all_tries : names ≡ representatives_of (length parts.symbols) (pairs_open entries) → length
        names ≡
        length parts.symbols
        → all_made (tries_from kind parts hypotheses names 0 (by_component names entries)) ≡
        polynomials kind parts hypotheses (pairs_open entries)
    all_tries found count =
        ap all_made (tries_same 0 (length names))
        ∙ (λ i. all_made (map (tried_in kind parts hypotheses (found i) (pairs_open entries))
        (symbols_of (count i))))
