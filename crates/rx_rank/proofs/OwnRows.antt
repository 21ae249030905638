-- A candidate of an anchor is over its arguments, and has no variables but those of the rows that it
-- comes from.
use Rattle.std.proofs.Common.{◌≡◌, subst, refl, ℕ, zero, suc, Bool, true, false, cond, unwrap_or, List, [], ◌∷◌, ◌++◌, slice_get}
use Rattle.std.specs.List.{All, flat_map, list_all}
use Rattle.std.proofs.lemmas.Bool.{and_parts}
use Rattle.std.proofs.lemmas.List.Elements.{All-append, All-cons, All-nil, All-weaker}
use Rattle.rx_poly.specs.Variables.{uses_below}
use Rattle.rx_poly.specs.declared.body.Body.{Body}
use Rattle.rx_poly_laws.specs.Tests.{passes}
use Rattle.rx_row.specs.declared.row.Row.{Row}
use Rattle.rx_row.specs.declared.row.Row.TheVariants.{Ge, Eq, Ne}
use Rattle.rx_cert.specs.Variables.{row_passes, rows_pass}
use Rattle.rx_term.specs.Domains.{domain_of}
use Rattle.rx_term.specs.declared.rule.Rule.{Rule}
use Rattle.rx_term.specs.declared.rule_set.RuleParts.{RuleParts}
use Rattle.rx_anchors.specs.Members.{arity_of}
use Rattle.rx_rank.specs.Answers.{domains_pass, rules_pass}
use Rattle.rx_rank.specs.Candidates.{candidates, candidates_at, own_by, own_candidates}
use Rattle.rx_rank.specs.declared.kind.RankingKind.{RankingKind}
use Rattle.rx_rank.specs.declared.kind.RankingKind.TheVariants.{Plain, Wider}
use Rattle.rx_rank.proofs.OwnCandidates.{IsOwnCandidate, candidates_own, each_once}

-- what all rows of domains pass, those of one domain do
domain_passes : (test : ℕ → Bool) (domains : List (List Row)) (f : ℕ) → list_all (rows_pass test)
    domains ≡ true → rows_pass test (unwrap_or (slice_get domains f) []) ≡ true
domain_passes test [] f h = refl
domain_passes test (rows ∷ lists) zero h =
    (and_parts (rows_pass test rows) (list_all (rows_pass test) lists) h).0
domain_passes test (rows ∷ lists) (suc f) h =
    domain_passes test lists f
    (and_parts (rows_pass test rows) (list_all (rows_pass test) lists) h).1

module _ (kind : RankingKind) (parts : RuleParts) (hypotheses : List Rule) (f : ℕ) where
  pub record IsAnchorCandidate (p : Body) : Type 0 where
    pub over : uses_below (arity_of parts.symbols f) p ≡ true
    pub own_variables : (test : ℕ → Bool) → rules_pass test (parts.rules ++ hypotheses) ≡ true →
        domains_pass kind test parts.domains ≡ true → passes test p ≡ true

  row_own : (row : Row) → ((test : ℕ → Bool) → domains_pass kind test parts.domains ≡ true →
      row_passes test row ≡ true) → All IsAnchorCandidate (own_by (arity_of parts.symbols f) row)
  row_own (Ge p) own = by (uses_below (arity_of parts.symbols f) p) refl where
    by : (b : Bool) → uses_below (arity_of parts.symbols f) p ≡ b →
        All IsAnchorCandidate (cond b (p ∷ []) [])
    by true is =
        All-cons IsAnchorCandidate p [] (record { over = is; own_variables = λ test h d. own test d })
        (All-nil IsAnchorCandidate)
    by false is = All-nil IsAnchorCandidate
  row_own (Eq p) own = All-nil IsAnchorCandidate
  row_own (Ne p) own = All-nil IsAnchorCandidate

  rows_own : (rows : List Row) → ((test : ℕ → Bool) → domains_pass kind test parts.domains ≡ true →
      rows_pass test rows ≡ true)
      → All IsAnchorCandidate (flat_map (own_by (arity_of parts.symbols f)) rows)
  rows_own [] own = All-nil IsAnchorCandidate
  rows_own (row ∷ rows) own =
      All-append IsAnchorCandidate (own_by (arity_of parts.symbols f) row)
      (flat_map (own_by (arity_of parts.symbols f)) rows)
      (row_own row (λ test d. (and_parts (row_passes test row) (rows_pass test rows)
      (own test d)).0))
      (rows_own rows (λ test d. (and_parts (row_passes test row) (rows_pass test rows)
      (own test d)).1))

  domain_own : (k : RankingKind) → kind ≡ k →
      All IsAnchorCandidate (own_candidates k (arity_of parts.symbols f) (domain_of parts f))
  domain_own Plain is = All-nil IsAnchorCandidate
  domain_own Wider is =
      rows_own (domain_of parts f) (λ test d. domain_passes test parts.domains f
      (subst (λ k. domains_pass k test parts.domains ≡ true) is d))

  pub anchor_own : (names : List ℕ) (c : ℕ) →
      All IsAnchorCandidate (candidates_at kind parts hypotheses names c f)
  anchor_own names c =
      let stated = candidates names c (parts.rules ++ hypotheses) (arity_of parts.symbols f) in
      let Stated : Body → Type 0 = IsOwnCandidate (parts.rules ++ hypotheses)
      (arity_of parts.symbols f) in
      each_once IsAnchorCandidate
      (own_candidates kind (arity_of parts.symbols f) (domain_of parts f)) stated
      (All-weaker Stated IsAnchorCandidate (λ p own. record {
        over = own.over;
        own_variables = λ test h d. own.own_variables test h;
      }) stated (candidates_own names c (parts.rules ++ hypotheses) (arity_of parts.symbols f)))
      (domain_own kind refl)
