-- The polynomials of a fit choice are of the component's symbols, over their arguments, with no
-- variables but those of the rules' rows and of the pairs.
use Rattle.std.proofs.Common.{◌≡◌, ◌∙◌, ap, sym, subst, refl, ℕ, zero, suc, pos, ◌==◌, ◌+◌, Bool, true, false, ◌&&◌, not, cond, Option, Some, None, List, [], ◌∷◌, ◌++◌, length, map, take}
use Rattle.std.proofs.lemmas.Bool.{and_parts}
use Rattle.std.proofs.lemmas.List.Elements.{All-cons, All-contains, All-append, All-filter, All-head, All-map, All-nil, All-tail, All-take, All-weaker, filter_passes}
use Rattle.std.specs.List.{All, AllZip, filter, find, flat_map, list_all}
use Rattle.std.specs.Option.{IfSome, option_map}
use Rattle.rx_poly.specs.Constants.{number}
use Rattle.rx_poly.specs.Limits.{body_sum, is_within}
use Rattle.rx_poly.specs.Substitution.{subst_body, numbered, numbered_from, replaced}
use Rattle.rx_poly.specs.Variables.{uses_below, variables}
use Rattle.rx_poly.specs.declared.body.Body.{Body}
use Rattle.rx_poly_laws.specs.Tests.{passes}
use Rattle.rx_poly_laws.proofs.InstanceVariables.{instance_passes}
use Rattle.rx_poly_laws.proofs.TestLaws.{passes-body_sum, passes-number, passes-variable}
use Rattle.rx_cert.specs.Findings.{Said, Yes, No, Beyond}
use Rattle.rx_cert.specs.Variables.{rows_pass}
use Rattle.rx_solve.specs.Attempts.{where_shown}
use Rattle.rx_term.specs.declared.rule.Rule.{Rule}
use Rattle.rx_term.specs.declared.rule_set.RuleParts.{RuleParts}
use Rattle.rx_term.specs.declared.rule_set.SymInfo.{SymInfo}
use Rattle.rx_pairs.specs.Columns.{at_right}
use Rattle.rx_pairs.specs.declared.pair.Pair.{Pair}
use Rattle.rx_rank.proofs.OwnRows.{IsAnchorCandidate, anchor_own}
use Rattle.rx_rank.proofs.OwnValues.{All-flat_map, AreOwn, choice_own, filled_own, made_by_one, made_of_both, none_own, products_own, length-choice, length-filled, length-without}
use Rattle.rx_rank.specs.Answers.{AreOf, IsComponentFit, IsFirstFit, IsOwn, pair_passes, partition_of}
use Rattle.rx_anchors.specs.Choices.{products}
use Rattle.rx_anchors.specs.Members.{arity_of, is_anchor, is_member, members, symbols_of}
use Rattle.rx_anchors.specs.declared.members.Members.{Members}
use Rattle.rx_anchors.specs.Values.{polynomial_of, with_choice, without_polynomials}
use Rattle.rx_rank.specs.Candidates.{are_noted, candidates_at}
use Rattle.rx_rank.specs.Choices.{RankChoice, all_choices, first_serving, from_target, hold_with, instance_on, is_ready, next_first, order_by, order_of, pairs_from, plain_choice, raised_by, raised_choices, serving, without}
use Rattle.rx_rank.specs.Ranking.{Partition, first_fit, fit_by, parted, raisable, stated_partition}
use Rattle.rx_rank.specs.Tries.{and_then, kept_tried, noting}
use Rattle.rx_rank.specs.declared.fitting.Fit.{Fit}
use Rattle.rx_rank.specs.declared.kind.RankingKind.{RankingKind}

-- ---- orders

module _ (P : ℕ → Type 0) where
  found_has : (test : ℕ → Bool) (fs : List ℕ) (f : ℕ) → All P fs → find test fs ≡ Some f → P f
  found_has test [] f all e = cc
  found_has test (g ∷ gs) f all e = by (test g) e (found_has test gs f (All-tail P g gs all)) where
    by : (b : Bool) → cond b (Some g) (find test gs) ≡ Some f → (find test gs ≡ Some f → P f) → P f
    by true is later = let same : g ≡ f = cc in subst P same (All-head P g gs all)
    by false is later = later is

  -- what is true of all symbols is true of those in order
  pub order_has : (n : ℕ) (pairs : List Pair) (waiting order : List ℕ) → All P waiting →
      order_by n pairs waiting ≡ Some order → All P order
  order_has zero pairs waiting order all e =
      let same : [] ≡ order = cc in subst (All P) same (All-nil P)
  order_has (suc n) pairs waiting order all e =
      by (find (is_ready pairs waiting) waiting) refl e
      (λ f gs is. order_has n pairs (without f waiting) gs
      (All-filter (λ g. not (g == f)) P waiting all) is)
    where
      with_rest : (f : ℕ) → P f → (o : Option (List ℕ)) → ((gs : List ℕ) → o ≡ Some gs → All P gs) →
          option_map (λ fs. f ∷ fs) o ≡ Some order → All P order
      with_rest f here None rest made = cc
      with_rest f here (Some gs) rest made =
          let same : f ∷ gs ≡ order = cc in subst (All P) same (All-cons P f gs here (rest gs refl))

      by : (o : Option ℕ) → find (is_ready pairs waiting) waiting ≡ o →
          next_first o (λ f. order_by n pairs (without f waiting)) ≡ Some order
          → ((f : ℕ) (gs : List ℕ) → order_by n pairs (without f waiting) ≡ Some gs → All P gs) →
          All P order
      by None is made rest = cc
      by (Some f) is made rest =
          with_rest f (found_has (is_ready pairs waiting) waiting f all is)
          (order_by n pairs (without f waiting)) (rest f) made

-- ---- instances

replaced_passes : (test : ℕ → Bool) (n : ℕ) (ps : List Body) (v : ℕ) → list_all (passes test) ps ≡
    true → test v ≡ true → passes test (replaced (numbered_from n ps) v) ≡ true
replaced_passes test n [] v h t = passes-variable test v t
replaced_passes test n (p ∷ ps) v h t =
    let parts = and_parts (passes test p) (list_all (passes test) ps) h in
    by (n == v) parts.0 (replaced_passes test (n + 1) ps v parts.1 t)
  where
    by : (b : Bool) → passes test p ≡ true → passes test (replaced (numbered_from (n + 1) ps) v) ≡
        true → passes test (cond b p (replaced (numbered_from (n + 1) ps) v)) ≡ true
    by true here later = here
    by false here later = later

all_replaced : (test : ℕ → Bool) (ps : List Body) (vs : List ℕ) → list_all (passes test) ps ≡ true →
    list_all test vs ≡ true → All (λ v. passes test (replaced (numbered ps) v) ≡ true) vs
all_replaced test ps [] h t = All-nil (λ v. passes test (replaced (numbered ps) v) ≡ true)
all_replaced test ps (v ∷ vs) h t =
    let parts = and_parts (test v) (list_all test vs) t in
    All-cons (λ v. passes test (replaced (numbered ps) v) ≡ true) v vs
    (replaced_passes test 0 ps v h parts.0) (all_replaced test ps vs h parts.1)

-- an instance has the variables of the arguments and of the polynomial
pub instance_own : (test : ℕ → Bool) (ps : List Body) (q : Body) → list_all (passes test) ps ≡
    true → passes test q ≡ true → passes test (subst_body (numbered ps) q).form ≡ true
instance_own test ps q h t =
    instance_passes test (numbered ps) q (all_replaced test ps (variables q) h t)

-- ---- polynomials that serve

served_by : (arity : ℕ) (values : List (Option Body)) (mine : List Pair) (x p : Body) →
    (serving arity values mine x).made ≡ Some p → (uses_below arity x ≡ true) × (x ≡ p)
served_by arity values mine x p e = by (uses_below arity x) refl (hold_with values x mine) e where
  by : (b : Bool) → uses_below arity x ≡ b → (s : Said) →
      (cond b (where_shown s x) (record { made = None; noted = false })).made ≡ Some p →
      (uses_below arity x ≡ true) × (x ≡ p)
  by true is Yes f = (is, cc)
  by true is No f = cc
  by true is Beyond f = cc
  by false is s f = cc

instance_made : (pair : Pair) (o : Option Body) (x : Body) → (instance_on pair o).made ≡ Some x →
    (q : Body) × (o ≡ Some q) × (x ≡ (at_right pair q).form)
instance_made pair None x e = cc
instance_made pair (Some q) x e = (q, refl, by (at_right pair q).within e) where
  by : (b : Bool) → (kept_tried b (at_right pair q).form).made ≡ Some x → x ≡ (at_right pair q).form
  by true f = cc
  by false f = cc

-- with 1 added, a polynomial has the same variables
raised_passes : (test : ℕ → Bool) (up : Bool) (q p : Body) → (raised_by up q).made ≡ Some p →
    passes test q ≡ true → passes test p ≡ true
raised_passes test false q p e h = let same : q ≡ p = cc in subst (λ r. passes test r ≡ true) same h
raised_passes test true q p e h = by (is_within (body_sum q (number (pos 1)))) e where
  by : (b : Bool) → (kept_tried b (body_sum q (number (pos 1)))).made ≡ Some p →
      passes test p ≡ true
  by true f =
      let same : body_sum q (number (pos 1)) ≡ p = cc in
      subst (λ r. passes test r ≡ true) same
      (passes-body_sum test q (number (pos 1)) h (passes-number test (pos 1)))
  by false f = cc

-- ---- choices

-- all choices are of these lists
all_of_lists : (P : List Body → Type 0) (symbols : List ℕ) (lists : List (List Body)) →
    All P lists → All (λ (choice : RankChoice). P choice.polys) (all_choices symbols lists)
all_of_lists P symbols lists all =
    let Q : RankChoice → Type 0 = λ choice. P choice.polys in
    All-append Q (map plain_choice lists) (flat_map (raised_choices symbols) lists)
    (All-map Q plain_choice lists all)
    (All-flat_map (λ f p. Unit {0}) Q P (raised_choices symbols) lists all
    (λ polys here. All-map Q (λ f. record { raised = Some f; polys = polys }) symbols
    (λ k d h. here)))

-- ---- the stated anchors

pub stated_is : (parts : RuleParts) (hypotheses : List Rule) (names : List ℕ) (c : ℕ)
    (made : Members) (infos : List SymInfo) → infos ≡ parts.symbols →
    made.anchors.items ≡ filter (is_anchor infos hypotheses) (members names c) →
    made.others.items ≡ filter (λ f. not (is_anchor infos hypotheses f)) (members names c) →
    partition_of made ≡ stated_partition parts hypotheses names c
stated_is parts hypotheses names c made infos same anchors others =
    let first : made.anchors.items ≡ filter (is_anchor parts.symbols hypotheses) (members names c) =
    anchors ∙ ap (λ s. filter (is_anchor s hypotheses) (members names c)) same in
    let second : made.others.items ≡
    filter (λ f. not (is_anchor parts.symbols hypotheses f)) (members names c) =
    others ∙ ap (λ s. filter (λ f. not (is_anchor s hypotheses f)) (members names c)) same in
    λ j. record { anchors = first j; others = second j }

module _ (kind : RankingKind) (parts : RuleParts) (hypotheses : List Rule) (names : List ℕ) (c : ℕ)
    (pairs : List Pair) where
  abbrev R : ℕ → Body → Type 0
  R = IsOwn kind parts hypotheses names c pairs

  -- the pair's variables are those of the pairs
  abbrev IsOwnPair : Pair → Type 0
  IsOwnPair pair =
      (test : ℕ → Bool) → list_all (pair_passes test) pairs ≡ true → pair_passes test pair ≡ true

  pairs_own : (rest : List Pair) → ((test : ℕ → Bool) → list_all (pair_passes test) pairs ≡ true →
      list_all (pair_passes test) rest ≡ true) → All IsOwnPair rest
  pairs_own [] own = All-nil IsOwnPair
  pairs_own (pair ∷ rest) own =
      All-cons IsOwnPair pair rest (λ test h.
      (and_parts (pair_passes test pair) (list_all (pair_passes test) rest) (own test h)).0)
      (pairs_own rest (λ test h. (and_parts (pair_passes test pair)
      (list_all (pair_passes test) rest) (own test h)).1))

  right_passes : (test : ℕ → Bool) (pair : Pair) → pair_passes test pair ≡ true →
      list_all (passes test) pair.right_args ≡ true
  right_passes test pair h =
      (and_parts (list_all (passes test) pair.left_args) (list_all (passes test) pair.right_args)
      (and_parts (rows_pass test pair.phi) (list_all (passes test) pair.left_args &&
      list_all (passes test) pair.right_args) h).1).1

  from_target_own : (f : ℕ) → is_member names c f ≡ true → (values : List (Option Body)) →
      AreOwn R values → (mine : List Pair) (pair : Pair) → IsOwnPair pair → (up : Bool) (p : Body)
      → (from_target up (arity_of parts.symbols f) values mine pair).made ≡ Some p → R f p
  from_target_own f member values own mine pair own_pair up p e =
      let arity = arity_of parts.symbols f in
      let first = instance_on pair (polynomial_of values pair.right.0) in
      let both = and_then first (raised_by up) in
      let two = made_of_both both.made both.noted (serving arity values mine) p e in
      let served = served_by arity values mine two.0 p two.2 in
      let one = made_of_both first.made first.noted (raised_by up) two.0 two.1 in
      let made = instance_made pair (polynomial_of values pair.right.0) one.0 one.1 in
      let target = own pair.right.0 made.0 made.1 in
      record {
        member = member;
        over = subst (λ q. uses_below arity q ≡ true) served.1 served.0;
        own_variables = λ test h d g.
            subst (λ q. passes test q ≡ true) served.1
            (raised_passes test up one.0 two.0 one.2
            (subst (λ q. passes test q ≡ true) (sym made.2)
            (instance_own test pair.right_args made.0 (right_passes test pair (own_pair test g))
            (target.own_variables test h d g))));
      }

  serving_own : (f : ℕ) → is_member names c f ≡ true → (up : Bool) (values : List (Option Body))
      (p : Body) → AreOwn R values
      → (first_serving up (arity_of parts.symbols f) values (pairs_from f pairs)).made ≡ Some p →
      R f p
  serving_own f member up values p own e =
      let mine = pairs_from f pairs in
      let arity = arity_of parts.symbols f in
      made_by_one (R f) (from_target up arity values mine) mine p
      (All-weaker IsOwnPair (λ pair. (y : Body) → (from_target up arity values mine pair).made ≡
      Some y → R f y)
      (λ pair own_pair. from_target_own f member values own mine pair own_pair up) mine
      (All-filter (λ (pair : Pair). pair.left.0 == f) IsOwnPair pairs
      (pairs_own pairs (λ test h. h)))) e

  -- ---- the component

  abbrev IsMember : ℕ → Type 0
  IsMember f = is_member names c f ≡ true

  all_members : All IsMember (members names c)
  all_members = filter_passes (is_member names c) (symbols_of (length names))

  own_candidates : (fs : List ℕ) → All IsMember fs →
      All (λ f. All (R f) (candidates_at kind parts hypotheses names c f)) fs
  own_candidates fs all =
      All-weaker IsMember (λ f. All (R f) (candidates_at kind parts hypotheses names c f))
      (λ f member. All-weaker (IsAnchorCandidate kind parts hypotheses f) (R f)
      (λ p own. record {
        member = member;
        over = own.over;
        own_variables = λ test h d g. own.own_variables test h d;
      })
      (candidates_at kind parts hypotheses names c f)
      (anchor_own kind parts hypotheses f names c)) fs all

  -- whatever symbols are the anchors, all are of the component
  pub parted_members : (test : ℕ → Bool) → AreOf names c (parted test (members names c))
  parted_members test = record {
    anchors = All-filter test IsMember (members names c) all_members;
    others = All-filter (λ f. not (test f)) IsMember (members names c) all_members;
  }

  module _ (most : ℕ) (part : Partition) (mine : AreOf names c part) where
    abbrev part_lists : List (List Body)
    part_lists = map (candidates_at kind parts hypotheses names c) part.anchors

    abbrev part_choices : List RankChoice
    part_choices = all_choices (raisable parts part.others) (take most (products part_lists))

    -- the first fit choice of the component with these anchors
    part_fit : (order : List ℕ) (fit : Fit) → order_of pairs part.others ≡ Some order →
        IsFirstFit parts.symbols pairs part.anchors order part_choices fit →
        IsComponentFit kind parts hypotheses names c pairs fit
    part_fit order fit ordered first =
        let fs = part.anchors in
        let taken : All (AllZip R fs) (take most (products part_lists)) =
        All-take (AllZip R fs) most (products part_lists)
        (products_own R (candidates_at kind parts hypotheses names c) fs
        (own_candidates fs mine.anchors)) in
        let zipped : AllZip R fs first.choice.polys =
        All-contains (λ (choice : RankChoice). AllZip R fs choice.polys) part_choices first.choice
        (all_of_lists (AllZip R fs) (raisable parts part.others) (take most (products part_lists))
        taken) first.among in
        let start = with_choice (without_polynomials (length parts.symbols)) fs first.choice.polys
        in
        let raised = first.choice.raised in
        let in_order : All IsMember order =
        order_has IsMember (length part.others) pairs part.others order mine.others ordered in
        let Serves : ℕ → Type 0 = λ f. (up : Bool) (vs : List (Option Body)) (p : Body) →
        AreOwn R vs →
        (first_serving up (arity_of parts.symbols f) vs (pairs_from f pairs)).made ≡ Some p →
        R f p in
        record {
          values = first.chosen.values;
          fit_is = first.chosen.fit_is;
          count =
              length-filled parts.symbols pairs raised order start first.chosen.values
              first.chosen.filled_is
              ∙ length-choice (without_polynomials (length parts.symbols)) fs first.choice.polys ∙
              length-without (length parts.symbols);
          own =
              filled_own R parts.symbols pairs raised order start first.chosen.values
              (choice_own R (without_polynomials (length parts.symbols)) fs first.choice.polys
              (none_own R (length parts.symbols)) zipped)
              (All-weaker IsMember Serves (λ f member. serving_own f member) order in_order)
              first.chosen.filled_is;
        }

    -- what is handed on from call to call
    pub record Handed (infos : List SymInfo) (anchors others symbols : List ℕ)
        (lists : List (List Body)) (noted : Bool) (order : Option (List ℕ)) : Type 0 where
      pub infos_are : infos ≡ parts.symbols
      pub anchors_are : anchors ≡ part.anchors
      pub others_are : others ≡ part.others
      pub made_symbols : symbols ≡ raisable parts others
      pub made_lists : lists ≡ map (candidates_at kind parts hypotheses names c) anchors
      pub made_noted : noted ≡ are_noted names c (parts.rules ++ hypotheses)
          (map (arity_of parts.symbols) anchors)
      pub made_order : order ≡ order_of pairs others

    module _ {infos : List SymInfo} {anchors others symbols : List ℕ}
        {lists : List (List Body)} {noted : Bool} {order : Option (List ℕ)}
        (h : Handed infos anchors others symbols lists noted order) where
      symbols_are : symbols ≡ raisable parts part.others
      symbols_are = h.made_symbols ∙ ap (raisable parts) h.others_are

      lists_are : lists ≡ part_lists
      lists_are =
          h.made_lists ∙ ap (map (candidates_at kind parts hypotheses names c)) h.anchors_are

      noted_are : noted ≡ are_noted names c (parts.rules ++ hypotheses)
          (map (arity_of parts.symbols) part.anchors)
      noted_are =
          h.made_noted ∙ ap (λ fs. are_noted names c (parts.rules ++ hypotheses)
          (map (arity_of parts.symbols) fs)) h.anchors_are

      order_are : order ≡ order_of pairs part.others
      order_are = h.made_order ∙ ap (order_of pairs) h.others_are

      -- what comes of the choices is what comes of these anchors
      pub part_is : noting noted (first_fit most infos pairs anchors symbols lists order) ≡
          fit_by kind parts hypotheses most names c pairs part
      part_is =
          λ j. noting (noted_are j) (first_fit most (h.infos_are j) pairs (h.anchors_are j)
          (symbols_are j) (lists_are j) (order_are j))

      pub fits_part : (made : Option Fit) → IfSome made (λ fit. (fs : List ℕ) ×
          (order ≡ Some fs) ×
          IsFirstFit infos pairs anchors fs (all_choices symbols (take most (products lists))) fit)
          → IfSome made (IsComponentFit kind parts hypotheses names c pairs)
      fits_part None first = tt
      fits_part (Some fit) first =
          part_fit first.0 fit (sym order_are ∙ first.1)
          (subst (λ s. IsFirstFit s pairs part.anchors first.0 part_choices fit) h.infos_are
          (subst (λ hs. IsFirstFit infos pairs hs first.0 part_choices fit) h.anchors_are
          (subst (λ fs. IsFirstFit infos pairs anchors first.0
          (all_choices fs (take most (products part_lists))) fit) symbols_are
          (subst (λ ls. IsFirstFit infos pairs anchors first.0
          (all_choices symbols (take most (products ls))) fit) lists_are first.2))))
