-- The ranking: up to seven rounds, each of a column of heights and a column of polynomials, and a
-- last column of heights. By heights the pairs between components of the graph of open pairs fall
-- and are closed. For polynomials each component with an open pair takes its first fit choice, and
-- the pairs that fall are closed; in the wider ranking, where it has none, exchanges of an anchor
-- with another symbol are tried. The pairs are those inside the domains.
use Rattle.std.specs.Prelude.{ℕ, zero, suc, ◌==◌, Bool, ◌&&◌, ◌||◌, not, if◌then◌else◌, Option, Some, None, List, [], ◌∷◌, ◌++◌, length, map, take}
use Rattle.std.specs.List.{filter, flat_map, list_any}
use Rattle.rx_poly.specs.Normal.{is_empty}
use Rattle.rx_poly.specs.declared.body.Body.{Body}
use Rattle.rx_cert.specs.Findings.{Said}
use Rattle.rx_solve.specs.Attempts.{Tried, applies, beyond, fails, first_applying, made_or}
use Rattle.rx_term.specs.declared.rule.Rule.{Rule}
use Rattle.rx_term.specs.declared.rule_set.RuleParts.{RuleParts}
use Rattle.rx_term.specs.declared.rule_set.SymInfo.{SymInfo}
use Rattle.rx_pairs.specs.Inside.{listing}
use Rattle.rx_pairs.specs.declared.listing.Listing.{Listing}
use Rattle.rx_pairs.specs.declared.pair.Pair.{Pair}
use Rattle.rx_anchors.specs.Choices.{products}
use Rattle.rx_anchors.specs.Members.{arity_of, is_anchor, members, symbols_of}
use Rattle.rx_rank.specs.Candidates.{are_noted, candidates_at}
use Rattle.rx_rank.specs.Choices.{all_choices, choosing, order_of}
use Rattle.rx_rank.specs.Components.{inside, representatives_of, pairs_in}
use Rattle.rx_rank.specs.Tries.{all_made, and_then, noting, tried_said}
use Rattle.rx_rank.specs.declared.exchange.Exchange.{Exchange}
use Rattle.rx_rank.specs.declared.kind.RankingKind.{RankingKind}
use Rattle.rx_rank.specs.declared.kind.RankingKind.TheVariants.{Plain, Wider}

-- so many choices are tried at most in a component; and at most so many exchanges, with so many
-- choices each
abbrev pub most_choices : ℕ
most_choices = 4096

abbrev pub most_exchanges : ℕ
most_exchanges = 64

abbrev pub most_choices_exchanged : ℕ
most_choices_exchanged = 64

-- a symbol has a domain row
abbrev pub has_domain_row : RuleParts → Bool
has_domain_row parts = list_any (λ rows. not (is_empty rows)) parts.domains

-- the symbols that may be raised: the others, by number, where there is a domain row
abbrev pub raisable : RuleParts → List ℕ → List ℕ
raisable parts others = if has_domain_row parts then others else []

-- the first choice that is fit of at most so many, in lexicographic order, first with no symbol
-- raised and then with each of those; none is tried where the other symbols have no order
abbrev pub first_fit : ℕ → List SymInfo → List Pair → List ℕ → List ℕ → List (List Body) →
    Option (List ℕ) → Tried (List Pair)
first_fit most infos pairs anchors raisable lists None = fails
first_fit most infos pairs anchors raisable lists (Some order) =
    first_applying (map (choosing infos pairs anchors order)
    (all_choices raisable (take most (products lists))))

-- the symbols of a component in two parts: the anchors, which get candidates, and the others
pub record Partition : Type 0 where
  pub anchors : List ℕ
  pub others : List ℕ

-- the symbols for which the test holds are the anchors
abbrev pub parted : (ℕ → Bool) → List ℕ → Partition
parted is_one symbols =
    record { anchors = filter is_one symbols; others = filter (λ f. not (is_one f)) symbols }

-- each anchor, in order, with each other symbol in place of it
abbrev pub exchanges_of : ℕ → List ℕ → List Exchange
exchanges_of h others = map (λ g. record { anchor = h; other = g }) others

abbrev pub all_exchanges : Partition → List Exchange
all_exchanges part = flat_map (λ h. exchanges_of h part.others) part.anchors

module _ (parts : RuleParts) (hypotheses : List Rule) where
  -- the component with that name: its entries, heads and left roots of hypotheses are the anchors
  abbrev pub stated_partition : List ℕ → ℕ → Partition
  stated_partition names c = parted (is_anchor parts.symbols hypotheses) (members names c)

  -- the same, with the other symbol of an exchange as an anchor in place of the anchor of it
  abbrev pub is_exchanged : Exchange → ℕ → Bool
  is_exchanged e f =
      f == e.other || (not (f == e.anchor) && is_anchor parts.symbols hypotheses f)

  abbrev pub exchanged : List ℕ → ℕ → Exchange → Partition
  exchanged names c e = parted (is_exchanged e) (members names c)

  -- the first of the component's exchanges
  abbrev pub exchanges : List ℕ → ℕ → List Exchange
  exchanges names c = take most_exchanges (all_exchanges (stated_partition names c))

-- what is tried, and where nothing comes of it, in the wider ranking, the exchanges
abbrev pub or_exchanged : {A : Type 0} → RankingKind → Tried A → Tried A → Tried A
or_exchanged Plain t later = t
or_exchanged Wider t later = made_or t.made t.noted later

module _ (kind : RankingKind) (parts : RuleParts) (hypotheses : List Rule) where
  -- what comes of at most so many choices for these anchors: all candidates are made first
  abbrev pub fit_by : ℕ → List ℕ → ℕ → List Pair → Partition → Tried (List Pair)
  fit_by most names c pairs part =
      noting
      (are_noted names c (parts.rules ++ hypotheses) (map (arity_of parts.symbols) part.anchors))
      (first_fit most parts.symbols pairs part.anchors (raisable parts part.others)
      (map (candidates_at kind parts hypotheses names c) part.anchors)
      (order_of pairs part.others))

  -- what comes of an exchange
  abbrev pub fit_exchanged : List ℕ → ℕ → List Pair → Exchange → Tried (List Pair)
  fit_exchanged names c pairs e =
      fit_by most_choices_exchanged names c pairs (exchanged parts hypotheses names c e)

  -- what comes of the component with its pairs
  abbrev pub component : List ℕ → ℕ → List Pair → Tried (List Pair)
  component names c pairs =
      or_exchanged kind (fit_by most_choices names c pairs (stated_partition parts hypotheses names c))
      (first_applying (map (fit_exchanged names c pairs) (exchanges parts hypotheses names c)))

  -- without an open pair nothing is tried in it
  abbrev pub unless_empty : List ℕ → ℕ → List Pair → Tried (List Pair)
  unless_empty names c [] = applies []
  unless_empty names c (pair ∷ pairs) = component names c (pair ∷ pairs)

  abbrev pub tried_in : List ℕ → List Pair → ℕ → Tried (List Pair)
  tried_in names pairs c = unless_empty names c (pairs_in names c pairs)

  -- the components in order, up to the first without a fit choice: the pairs that stay open
  abbrev pub polynomials : List Pair → Tried (List Pair)
  polynomials pairs =
      all_made (map (tried_in (representatives_of (length parts.symbols) pairs) pairs)
      (symbols_of (length parts.symbols)))

  -- no pair is open, or what comes next
  abbrev pub unless_closed : List Pair → Tried (Unit {0}) → Tried (Unit {0})
  unless_closed [] next = applies tt
  unless_closed (pair ∷ pairs) next = next

  -- a column of heights, where none is open then the end, and otherwise a column of polynomials; n
  -- rounds are left
  unfoldable pub ranking_from : ℕ → List Pair → Tried (Unit {0})
  ranking_from zero pairs = unless_closed (inside (length parts.symbols) pairs) fails
  ranking_from (suc n) pairs =
      unless_closed (inside (length parts.symbols) pairs)
      (and_then (polynomials (inside (length parts.symbols) pairs)) (ranking_from n))

  -- of pairs that are listed; where these aren't all, nothing is found because of the limits
  abbrev pub ranking_of : Listing → Tried (Unit {0})
  ranking_of listed = if listed.whole then ranking_from 7 listed.pairs else beyond

  -- whether there is a table, with what was noted on the way
  abbrev pub ranking : Tried (Unit {0})
  ranking = ranking_of (listing parts (parts.rules ++ hypotheses))

  -- there is one; or there is none and nothing passed the limits; or there is none and something
  -- did
  abbrev pub ranked : Said
  ranked = tried_said ranking
