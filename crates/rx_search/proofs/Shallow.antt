-- Of a log that is found no certificate and no tree is deeper than 200.
use Rattle.std.proofs.Common.{◌≡◌, ◌≤◌, Bool, true, ◌&&◌, List, [], ◌∷◌, Some, None, Option, refl, sym, ap, subst, ◌∙◌, arith, All}
use Rattle.std.specs.Prelude.{nat_le}
use Rattle.std.specs.List.{list_all}
use Rattle.std.proofs.lemmas.Bool.{and_from, and_parts}
use Rattle.std.proofs.lemmas.List.Elements.{All-head, All-tail}
use Rattle.rx_cert.specs.Depth.{cert_depth}
use Rattle.rx_cert.specs.declared.cert.Cert.{Cert}
use Rattle.rx_solve.specs.Bounds.{most_deep}
use Rattle.rx_term.specs.declared.rule_set.RuleParts.{RuleParts}
use Rattle.rx_inference.specs.Judging.{certificates}
use Rattle.rx_inference.specs.declared.step.Step.{Step}
use Rattle.rx_cover.specs.Depth.{tree_depth}
use Rattle.rx_cover.specs.declared.cover_tree.CoverTree.{CoverTree, CoverTree-F, fold-roll-CoverTree, ind-CoverTree, map-CoverTree, roll-CoverTree}
use Rattle.rx_domain.specs.declared.domains.Domains.{Domains}
use Rattle.rx_find_cover.specs.Answers.{AreSmall, domain_rows}
use Rattle.rx_find_cover.specs.Trees.{IsSmall, is_cert_deep, passes_level, tree_passes}
use Rattle.rx_pairs.specs.declared.pair_cert.PairCert.{PairCert}
use Rattle.rx_log.specs.Depth.{are_shallow, are_shallow_keeps, certs_level, deepest, has_shallow_certs, is_shallow, is_shallow_log, is_shallow_tree}
use Rattle.rx_log.specs.declared.log.Log.{Log}
use Rattle.rx_settle.specs.Answers.{AreDeep}
use Rattle.rx_settle.proofs.ReachedLaws.{IsDeep}

-- ---- tests

all_pass : {A : Type 0} (P : A → Type 0) (test : A → Bool) → ((x : A) → P x → test x ≡ true) →
    (xs : List A) → All P xs → list_all test xs ≡ true
all_pass P test each [] all = refl
all_pass P test each (x ∷ xs) all =
    and_from (test x) (list_all test xs) (each x (All-head P x xs all))
    (all_pass P test each xs (All-tail P x xs all))

all_weaker : {A : Type 0} (one other : A → Bool) → ((x : A) → one x ≡ true → other x ≡ true) →
    (xs : List A) → list_all one xs ≡ true → list_all other xs ≡ true
all_weaker one other each [] all = refl
all_weaker one other each (x ∷ xs) all =
    let (first, later) = and_parts (one x) (list_all one xs) all in
    and_from (other x) (list_all other xs) (each x first) (all_weaker one other each xs later)

-- ---- certificates

cert_shallow : (cert : Cert) → cert_depth cert ≤ 174 → is_shallow cert ≡ true
cert_shallow cert h = grind arith

deep_shallow : (cert : Cert) → is_cert_deep cert ≡ true → is_shallow cert ≡ true
deep_shallow cert h = grind arith

pub certs_shallow : (certs : List Cert) → All (λ (cert : Cert). cert_depth cert ≤ 174) certs →
    are_shallow certs ≡ true
certs_shallow certs all =
    all_pass (λ (cert : Cert). cert_depth cert ≤ 174) is_shallow cert_shallow certs all

-- ---- trees

abbrev passing : CoverTree → Bool
passing = tree_passes (λ row. true) is_cert_deep

abbrev IsShallowBy : CoverTree → Type 0
IsShallowBy tree = passing tree ≡ true → has_shallow_certs tree ≡ true

abbrev PartTree : Type 0
PartTree = (tree : CoverTree) × IsShallowBy tree

abbrev bare_tree : CoverTree-F PartTree → CoverTree-F CoverTree
bare_tree = map-CoverTree PartTree CoverTree (λ (p : PartTree). p.0)

abbrev tests : (CoverTree → Bool) → CoverTree-F PartTree → CoverTree-F Bool
tests test y = map-CoverTree CoverTree Bool test (bare_tree y)

tree_level : (y : CoverTree-F PartTree) → passes_level (λ row. true) is_cert_deep (tests passing y)
    ≡ true
    → certs_level (tests has_shallow_certs y) ≡ true
tree_level (CoverTree-F.Use rule certs) h = all_weaker is_cert_deep is_shallow deep_shallow certs h
tree_level (CoverTree-F.Split row holds fails) h =
    let (one, other) = and_parts (passing holds.0) (passing fails.0) h in
    and_from (has_shallow_certs holds.0) (has_shallow_certs fails.0) (holds.1 one) (fails.1 other)
tree_level (CoverTree-F.Absurd cert) h = deep_shallow cert h

tree_step : (x : CoverTree-F CoverTree) (y : CoverTree-F PartTree) → bare_tree y ≡ x →
    IsShallowBy (roll-CoverTree x)
tree_step x y is =
    subst (λ z. IsShallowBy (roll-CoverTree z)) is
    (λ h. fold-roll-CoverTree Bool certs_level (bare_tree y)
    ∙ tree_level y (sym (fold-roll-CoverTree Bool (passes_level (λ row. true) is_cert_deep)
    (bare_tree y)) ∙ h))

certs_in : (tree : CoverTree) → IsShallowBy tree
certs_in = ind-CoverTree IsShallowBy tree_step

depth_shallow : (tree : CoverTree) → tree_depth tree ≤ 33 → nat_le (tree_depth tree) deepest ≡ true
depth_shallow tree h = grind arith

module _ (parts : RuleParts) where
  tree_shallow : (tree : CoverTree) → IsSmall parts.rules 33 (domain_rows parts) tree →
      is_shallow_tree tree ≡ true
  tree_shallow tree small =
      and_from (nat_le (tree_depth tree) deepest) (has_shallow_certs tree)
      (depth_shallow tree small.deep) (certs_in tree small.certs_deep)

  trees_shallow : (trees : List CoverTree) → AreSmall parts trees → list_all is_shallow_tree trees ≡
      true
  trees_shallow trees all =
      all_pass (IsSmall parts.rules 33 (domain_rows parts)) is_shallow_tree tree_shallow trees all

  -- ---- logs

  -- a log without domains, by its parts
  shallow_parts : (domains : Option Domains) (covers steps pairs : Bool) → domains ≡ None →
      covers ≡ true → steps ≡ true → pairs ≡ true
      → are_shallow_keeps domains && (covers && (steps && pairs)) ≡ true
  shallow_parts domains covers steps pairs none one two three =
      and_from (are_shallow_keeps domains) (covers && (steps && pairs)) (ap are_shallow_keeps none)
      (and_from covers (steps && pairs) one (and_from steps pairs two three))

  pub log_shallow : (log : Log) (covers : List (List CoverTree)) (steps : List Step)
      (pairs : List PairCert)
      → log.domains ≡ None → log.covers ≡ covers → log.steps ≡ steps → log.pairs ≡ pairs →
      All (AreSmall parts) covers → AreDeep steps
      → All (λ (c : PairCert). All (λ (cert : Cert). cert_depth cert ≤ most_deep) c.certs) pairs →
      is_shallow_log log ≡ true
  log_shallow log covers steps pairs none same_covers same_steps same_pairs small deep deep_pairs =
      shallow_parts log.domains (list_all (λ trees. list_all is_shallow_tree trees) log.covers)
      (list_all (λ (step : Step). are_shallow (certificates step)) log.steps)
      (list_all (λ (pair : PairCert). are_shallow pair.certs) log.pairs) none
      (ap (list_all (λ trees. list_all is_shallow_tree trees)) same_covers
      ∙ all_pass (AreSmall parts) (λ trees. list_all is_shallow_tree trees) trees_shallow covers
      small)
      (ap (list_all (λ (step : Step). are_shallow (certificates step))) same_steps
      ∙ all_pass IsDeep (λ (step : Step). are_shallow (certificates step))
      (λ step. certs_shallow (certificates step)) steps deep)
      (ap (list_all (λ (pair : PairCert). are_shallow pair.certs)) same_pairs
      ∙ all_pass (λ (c : PairCert). All (λ (cert : Cert). cert_depth cert ≤ most_deep) c.certs)
      (λ (pair : PairCert). are_shallow pair.certs)
      (λ pair. certs_shallow pair.certs) pairs deep_pairs)

-- with shallow domains it is shallow as before
pub shallow_inside : (log made : Log) (domains : Domains) → made ≡ record log { domains = Some domains }
    → is_shallow_log log ≡ true → are_shallow_keeps (Some domains) ≡ true →
    is_shallow_log made ≡ true
shallow_inside log made domains same one two =
    let others = list_all (λ trees. list_all is_shallow_tree trees) log.covers
    && (list_all (λ (step : Step). are_shallow (certificates step)) log.steps
    && list_all (λ (pair : PairCert). are_shallow pair.certs) log.pairs) in
    ap is_shallow_log same
    ∙ and_from (are_shallow_keeps (Some domains)) others two
    (and_parts (are_shallow_keeps log.domains) others one).1
