-- The fits of several components as one: what was said of the pairs of each stays true.
use Rattle.std.proofs.Common.{◌≡◌, ◌∙◌, ap, sym, subst, refl, arith, inl, inr, ℕ, ◌==◌, ◌+◌, Bool, true, false, Option, Some, None, List, [], ◌∷◌, ◌++◌, append-nil, length, slice_get}
use Rattle.std.specs.List.{AllZip}
use Rattle.std.specs.Option.{IfSome, option_map, option_map_or}
use Rattle.std.proofs.lemmas.Bool.{eqb-true}
use Rattle.std.proofs.lemmas.List.{length-map}
use Rattle.std.proofs.lemmas.Option.{same_Some}
use Rattle.rx_poly.specs.declared.body.Body.{Body}
use Rattle.rx_cert.specs.declared.cert.Cert.{Cert}
use Rattle.rx_term.specs.declared.rule.Rule.{Rule}
use Rattle.rx_term.specs.declared.rule_set.RuleParts.{RuleParts}
use Rattle.rx_term.specs.declared.rule_set.SymInfo.{SymInfo}
use Rattle.rx_pairs.specs.declared.pair.Pair.{Pair}
use Rattle.rx_rank.proofs.OwnValues.{length-without, none_own}
use Rattle.rx_rank.specs.Answers.{IsComponentFit, IsDecided, IsFallen, IsHeld, IsOwn, still_open, tried_as}
use Rattle.rx_anchors.specs.Members.{is_member}
use Rattle.rx_anchors.specs.Values.{polynomial_of, without_polynomials}
use Rattle.rx_rank.specs.Choices.{falls_by, is_yes, tested}
use Rattle.rx_rank.specs.PairTests.{falls}
use Rattle.rx_rank.specs.Ranking.{component, unless_empty}
use Rattle.rx_rank.specs.Tries.{after}
use Rattle.rx_rank.specs.declared.attempt.Attempt.{Attempt}
use Rattle.rx_rank.specs.declared.fitting.Fit.{Fit}
use Rattle.rx_find_ranks.specs.Tables.{pairs_open}
use Rattle.rx_find_ranks.proofs.Overlaying.{length-overlaid, over_either, over_first, over_second}
use Rattle.rx_find_ranks.specs.declared.open_pair.OpenPair.{OpenPair}
use Rattle.rx_find_ranks.specs.Joined.{AreJoined, IsFitBelow, IsNext, IsOneMore, IsOwnBelow, JoinsNext}
use Rattle.rx_find_ranks.specs.Columns.{overlaid}
use Rattle.rx_rank.specs.declared.kind.RankingKind.{RankingKind}

-- ---- what is said of pairs

module _ (vs ws : List (Option Body)) (kept : (f : ℕ) (p : Body) → polynomial_of vs f ≡ Some p →
    polynomial_of ws f ≡ Some p) where
  held_kept : (pair : Pair) (certs : List Cert) → IsHeld vs pair certs → IsHeld ws pair certs
  held_kept pair certs h = record {
    left = h.left;
    right = h.right;
    left_is = kept pair.left.0 h.left h.left_is;
    right_is = kept pair.right.0 h.right h.right_is;
    proved = h.proved;
  }

  fallen_kept : (pair : Pair) (certs : List Cert) → IsFallen vs pair certs → IsFallen ws pair certs
  fallen_kept pair certs h = record {
    left = h.left;
    right = h.right;
    left_is = kept pair.left.0 h.left h.left_is;
    right_is = kept pair.right.0 h.right h.right_is;
    proved = h.proved;
  }

  falls_kept : (pair : Pair) (certs : List Cert) → IsHeld vs pair certs → falls_by ws pair ≡
      falls_by vs pair
  falls_kept pair certs h =
      (λ i. tested (falls pair) (kept pair.left.0 h.left h.left_is i)
      (kept pair.right.0 h.right h.right_is i))
      ∙ sym (λ i. tested (falls pair) (h.left_is i) (h.right_is i))

  decided_kept : (pair : Pair) (certs : List Cert) (found : Option (List Cert)) →
      IsHeld vs pair certs → IsDecided vs pair found → IsDecided ws pair found
  decided_kept pair certs None h e = ap is_yes (falls_kept pair certs h) ∙ e
  decided_kept pair certs (Some more) h e =
      (falls_kept pair certs h ∙ e.0, fallen_kept pair more e.1)

  all_held_kept : (pairs : List Pair) (certs : List (List Cert)) → AllZip (IsHeld vs) pairs certs →
      AllZip (IsHeld ws) pairs certs
  all_held_kept [] [] all = all
  all_held_kept [] (c ∷ cs) all = absurd all
  all_held_kept (pair ∷ pairs) [] all = absurd all
  all_held_kept (pair ∷ pairs) (c ∷ cs) all = (held_kept pair c all.0, all_held_kept pairs cs all.1)

  all_decided_kept : (pairs : List Pair) (certs : List (List Cert))
      (found : List (Option (List Cert))) → AllZip (IsHeld vs) pairs certs
      → AllZip (IsDecided vs) pairs found → AllZip (IsDecided ws) pairs found
  all_decided_kept [] certs [] held all = all
  all_decided_kept [] certs (d ∷ ds) held all = absurd all
  all_decided_kept (pair ∷ pairs) [] found held all = absurd held
  all_decided_kept (pair ∷ pairs) (c ∷ cs) [] held all = absurd all
  all_decided_kept (pair ∷ pairs) (c ∷ cs) (d ∷ ds) held all =
      (decided_kept pair c d held.0 all.0, all_decided_kept pairs cs ds held.1 all.1)

-- two lists go together, and two more
zip_append : {A B : Type 0} (R : A → B → Type 0) (xs us : List A) (ys vs : List B) →
    AllZip R xs ys → AllZip R us vs → AllZip R (xs ++ us) (ys ++ vs)
zip_append R [] us [] vs all more = more
zip_append R [] us (y ∷ ys) vs all more = absurd all
zip_append R (x ∷ xs) us [] vs all more = absurd all
zip_append R (x ∷ xs) us (y ∷ ys) vs all more = (all.0, zip_append R xs us ys vs all.1 more)

still_append : (values : List (Option Body)) (done pairs : List Pair)
    (ds es : List (Option (List Cert))) → AllZip (IsDecided values) done ds
    → still_open (done ++ pairs) (ds ++ es) ≡ still_open done ds ++ still_open pairs es
still_append values [] pairs [] es all = refl
still_append values [] pairs (d ∷ ds) es all = absurd all
still_append values (pair ∷ done) pairs [] es all = absurd all
still_append values (pair ∷ done) pairs (None ∷ ds) es all =
    ap (λ ps. pair ∷ ps) (still_append values done pairs ds es all.1)
still_append values (pair ∷ done) pairs (Some certs ∷ ds) es all =
    still_append values done pairs ds es all.1

-- ---- components

named : (o : Option ℕ) (c : ℕ) → option_map_or (λ name. name == c) o false ≡ true → (name : ℕ) ×
    (o ≡ Some name) × (name ≡ c)
named None c e = cc
named (Some name) c e = (name, refl, eqb-true name c e)

own_later : (infos : List SymInfo) (names : List ℕ) (c f : ℕ) (p : Body) →
    IsOwnBelow infos names c f p → IsOwnBelow infos names (c + 1) f p
own_later infos names c f p own =
    let less = own.less in record {
      name = own.name;
      is = own.is;
      less = omega (arith, less);
      over =
          own.over;
    }

-- a symbol of an earlier component is none of this
apart : (infos : List SymInfo) (names : List ℕ) (c f : ℕ) (p : Body) →
    IsOwnBelow infos names c f p → is_member names c f ≡ true → ⊥
apart infos names c f p own member =
    let here = named (slice_get names f) c member in
    let same : own.name ≡ here.0 = same_Some own.name here.0 (sym own.is ∙ here.1) in
    let less = own.less in
    let is = here.2 in
    omega (arith, less, same, is)

-- no component
pub nothing_below : (infos : List SymInfo) (names : List ℕ) (fit : Fit) → fit.values.items ≡
    without_polynomials (length infos) → fit.holds.items ≡ [] → fit.falls.items ≡ []
    → IsFitBelow infos names 0 [] fit
nothing_below infos names fit none holds falls = record {
  fit_is = record {
    same = refl;
    holds = subst (AllZip (IsHeld fit.values.items) []) (sym holds) tt;
    falls = subst (AllZip (IsDecided fit.values.items) []) (sym falls) tt;
  };
  count = ap (λ (values : List (Option Body)). length values) none ∙ length-without (length infos);
  own =
      λ f p e. none_own (IsOwnBelow infos names 0) (length infos) f p
      (ap (λ values. polynomial_of values f) (sym none) ∙ e);
}

-- a component's pairs are as many as its entries
pub open_count : (entries : List OpenPair) → length (pairs_open entries) ≡ length entries
open_count entries = length-map entries (λ (o : OpenPair). o.pair)

module _ (kind : RankingKind) (parts : RuleParts) (hypotheses : List Rule) (names : List ℕ) (c : ℕ)
    (pairs : List Pair)
    (before : Fit) where
  own_here : (f : ℕ) (p : Body) → IsOwn kind parts hypotheses names c pairs f p →
      IsOwnBelow parts.symbols names (c + 1) f p
  own_here f p own =
      let here = named (slice_get names f) c own.member in
      let is = here.2 in
      record { name = here.0; is = here.1; less = omega (arith, is); over = own.over }

  module _ (fit whole : Fit) (is : AreJoined before fit whole)
      (own : IsComponentFit kind parts hypotheses names c pairs fit) (done : List Pair)
      (below : IsFitBelow parts.symbols names c done before) where
    abbrev vs : List (Option Body)
    vs = before.values.items

    abbrev us : List (Option Body)
    us = fit.values.items

    same_count : length us ≡ length vs
    same_count =
        ap (λ (values : List (Option Body)). length values) own.fit_is.same ∙ own.count ∙
        sym below.count

    own_one : (f : ℕ) (p : Body) → polynomial_of us f ≡ Some p →
        IsOwn kind parts hypotheses names c pairs f p
    own_one f p e = own.own f p (ap (λ values. polynomial_of values f) (sym own.fit_is.same) ∙ e)

    second_kept : (f : ℕ) (p : Body) → polynomial_of us f ≡ Some p →
        polynomial_of (overlaid vs us) f ≡ Some p
    second_kept f p e = over_second vs us f p same_count e

    first_kept : (f : ℕ) (p : Body) → polynomial_of vs f ≡ Some p →
        polynomial_of (overlaid vs us) f ≡ Some p
    first_kept f p e = by (polynomial_of us f) refl where
      by : (o : Option Body) → polynomial_of us f ≡ o → polynomial_of (overlaid vs us) f ≡ Some p
      by None none = over_first vs us f none ∙ e
      by (Some q) some =
          absurd (apart parts.symbols names c f p (below.own f p e) (own_one f q some).member)

    held_all : AllZip (IsHeld whole.values.items) (done ++ pairs) whole.holds.items
    held_all =
        subst (λ values. AllZip (IsHeld values) (done ++ pairs) whole.holds.items) (sym is.values)
        (subst (AllZip (IsHeld (overlaid vs us)) (done ++ pairs)) (sym is.holds)
        (zip_append (IsHeld (overlaid vs us)) done pairs before.holds.items fit.holds.items
        (all_held_kept vs (overlaid vs us) first_kept done before.holds.items below.fit_is.holds)
        (all_held_kept us (overlaid vs us) second_kept pairs fit.holds.items
        (subst (λ values. AllZip (IsHeld values) pairs fit.holds.items) (sym own.fit_is.same)
        own.fit_is.holds))))

    decided_all : AllZip (IsDecided whole.values.items) (done ++ pairs) whole.falls.items
    decided_all =
        subst (λ values. AllZip (IsDecided values) (done ++ pairs) whole.falls.items)
        (sym is.values)
        (subst (AllZip (IsDecided (overlaid vs us)) (done ++ pairs)) (sym is.falls)
        (zip_append (IsDecided (overlaid vs us)) done pairs before.falls.items fit.falls.items
        (all_decided_kept vs (overlaid vs us) first_kept done before.holds.items before.falls.items
        below.fit_is.holds below.fit_is.falls)
        (all_decided_kept us (overlaid vs us) second_kept pairs fit.holds.items fit.falls.items
        (subst (λ values. AllZip (IsHeld values) pairs fit.holds.items) (sym own.fit_is.same)
        own.fit_is.holds)
        (subst (λ values. AllZip (IsDecided values) pairs fit.falls.items) (sym own.fit_is.same)
        own.fit_is.falls))))

    own_all : (f : ℕ) (p : Body) → polynomial_of whole.values.items f ≡ Some p →
        IsOwnBelow parts.symbols names (c + 1) f p
    own_all f p e =
        elim (over_either vs us f p (ap (λ values. polynomial_of values f) (sym is.values) ∙ e)) [
          | inl first ↦ own_later parts.symbols names c f p (below.own f p first)
          | inr second ↦ own_here f p (own_one f p second)
        ]

    joined_below : IsFitBelow parts.symbols names (c + 1) (done ++ pairs) whole
    joined_below = record {
      fit_is = record { same = refl; holds = held_all; falls = decided_all };
      count =
          ap (λ (values : List (Option Body)). length values) is.values ∙ length-overlaid vs us ∙
          below.count;
      own = own_all;
    }

    joined_open : still_open (done ++ pairs) whole.falls.items ≡
        still_open done before.falls.items ++ still_open pairs fit.falls.items
    joined_open =
        ap (still_open (done ++ pairs)) is.falls ∙
        still_append vs done pairs before.falls.items fit.falls.items below.fit_is.falls

  -- the component has pairs, so its first fit choice is tried
  unless_some : (ps : List Pair) → (length ps ≡ 0 → ⊥) → component kind parts hypotheses names c ps
      ≡
      unless_empty kind parts hypotheses names c ps
  unless_some [] some = absurd (some refl)
  unless_some (p ∷ ps) some = refl

  -- there is one
  more_made : (fit whole : Fit) (noted : Bool) → (length pairs ≡ 0 → ⊥) →
      record { made = Some (still_open pairs fit.falls.items); noted = noted } ≡
      component kind parts hypotheses names c pairs
      → IsComponentFit kind parts hypotheses names c pairs fit → AreJoined before fit whole →
      IsOneMore kind parts hypotheses names c pairs before
      (record { made = Some whole; noted = noted })
  more_made fit whole noted some tried own is = record {
    tried = λ done below.
        (λ i. record { made = Some (joined_open fit whole is own done below i); noted = noted })
        ∙ ap (after (still_open done before.falls.items)) (tried ∙ unless_some pairs some);
    fits = λ done below. joined_below fit whole is own done below;
  }

  -- there is none
  more_failed : (noted : Bool) → (length pairs ≡ 0 → ⊥) → record { made = None; noted = noted } ≡
      component kind parts hypotheses names c pairs
      → IsOneMore kind parts hypotheses names c pairs before (record { made = None; noted = noted })
  more_failed noted some tried = record {
    tried =
        λ done below. ap (after (still_open done before.falls.items))
        (tried ∙ unless_some pairs some);
    fits = λ done below. tt;
  }

  -- what comes of it joined to the fit before
  pub one_joined : (t whole : Attempt Fit) → (length pairs ≡ 0 → ⊥)
      → tried_as (λ (fit : Fit). still_open pairs fit.falls.items) t ≡
      component kind parts hypotheses names c pairs
      → IfSome t.made (IsComponentFit kind parts hypotheses names c pairs)
      → IsNext before t whole → IsOneMore kind parts hypotheses names c pairs before whole
  one_joined t whole some tried fits next =
      subst (λ n. IsOneMore kind parts hypotheses names c pairs before
      (record { made = whole.made; noted = n })) (sym next.noted)
      (by t.made whole.made tried fits next.made)
    where
      by : (made after : Option Fit) → record {
        made = option_map (λ (fit : Fit). still_open pairs fit.falls.items) made;
        noted = t.noted;
      } ≡ component kind parts hypotheses names c pairs
          → IfSome made (IsComponentFit kind parts hypotheses names c pairs)
          → JoinsNext before made after → IsOneMore kind parts hypotheses names c pairs before
          (record { made = after; noted = t.noted })
      by None after is own none =
          subst (λ m. IsOneMore kind parts hypotheses names c pairs before
          (record { made = m; noted = t.noted })) (sym none) (more_failed t.noted some is)
      by (Some fit) None is own joined = absurd joined
      by (Some fit) (Some both) is own joined = more_made fit both t.noted some is own joined

-- the component has no pair
nothing_more : (kind : RankingKind) (parts : RuleParts) (hypotheses : List Rule) (names : List ℕ)
    (c : ℕ) (before : Fit)
    → IsOneMore kind parts hypotheses names c [] before (record {
      made = Some before;
      noted = false;
    })
nothing_more kind parts hypotheses names c before = record {
  tried = λ done below. (λ i. record {
    made =
        Some ((ap (λ ps. still_open ps before.falls.items) (append-nil done) ∙
        sym (append-nil (still_open done before.falls.items))) i);
    noted = false;
  });
  fits =
      λ done below. subst (λ ps. IsFitBelow parts.symbols names (c + 1) ps before)
      (sym (append-nil done)) (record {
        fit_is = below.fit_is;
        count = below.count;
        own = λ f p e. own_later parts.symbols names c f p (below.own f p e);
      });
}

pub more_empty : (kind : RankingKind) (parts : RuleParts) (hypotheses : List Rule) (names : List ℕ)
    (c : ℕ) (before : Fit) (entries : List OpenPair) → length entries ≡ 0
    → IsOneMore kind parts hypotheses names c (pairs_open entries) before
    (record { made = Some before; noted = false })
more_empty kind parts hypotheses names c before [] none =
    nothing_more kind parts hypotheses names c before
more_empty kind parts hypotheses names c before (o ∷ os) none = absurd (omega (arith, none))
