-- A candidate is over the arguments of its anchor, and has no variables but those of the rules'
-- rows.
use Rattle.std.proofs.Common.{◌≡◌, subst, refl, ℕ, Bool, true, false, cond, Option, Some, None, List, [], ◌∷◌, ◌++◌}
use Rattle.std.specs.List.{All, cons_option, flat_map, fold, list_any}
use Rattle.std.specs.Prelude.{nat_lt, negsuc}
use Rattle.std.proofs.lemmas.Bool.{and_parts}
use Rattle.std.proofs.lemmas.List.Elements.{All-append, All-cons, All-head, All-nil, All-tail}
use Rattle.rx_poly.specs.Limits.{is_within}
use Rattle.rx_poly.specs.Variables.{uses_below}
use Rattle.rx_poly.specs.contracts.body.BodyPartialEq.TheImpl as body_equal
use Rattle.rx_poly.specs.declared.body.Body.{Body}
use Rattle.rx_poly_laws.specs.Tests.{passes}
use Rattle.rx_poly_laws.proofs.TestLaws.{passes-scaled_by}
use Rattle.rx_row.specs.Negation.{opposite}
use Rattle.rx_row.specs.Parts.{poly_of}
use Rattle.rx_row.specs.declared.row.Row.{Row}
use Rattle.rx_row.specs.declared.row.Row.TheVariants.{Ge, Eq, Ne}
use Rattle.rx_cert.specs.Variables.{row_passes, rows_pass}
use Rattle.rx_solve.specs.Attempts.{Tried, applies, applying}
use Rattle.rx_term.specs.declared.rule.Rule.{Rule}
use Rattle.rx_rank.specs.Answers.{rules_pass}
use Rattle.rx_rank.specs.Candidates.{all_candidates, candidates, candidates_by, opposite_tried, row_candidates, rule_candidates, with_candidate}
use Rattle.rx_anchors.specs.Members.{is_rule_of}
use Rattle.rx_rank.specs.Tries.{kept_tried}

-- what is true of all is true of them each once
pub each_once : (P : Body → Type 0) (ps done : List Body) → All P done → All P ps →
    All P (fold with_candidate done ps)
each_once P [] done own all = own
each_once P (p ∷ ps) done own all =
    each_once P ps (with_candidate done p) (by (list_any (λ q. (body_equal.ghosts).eq q p) done))
    (All-tail P p ps all) where
      by : (b : Bool) → All P (cond b done (done ++ p ∷ []))
      by true = own
      by false =
          All-append P done (p ∷ []) own (All-cons P p [] (All-head P p ps all) (All-nil P))

module _ (whole : List Rule) (arity : ℕ) where
  -- over n arguments, and without other variables than those of the rules' rows
  pub record IsOwnCandidate (p : Body) : Type 0 where
    pub over : uses_below arity p ≡ true
    pub own_variables : (test : ℕ → Bool) → rules_pass test whole ≡ true → passes test p ≡ true

  -- so is what is made
  abbrev MakesOwn : Tried Body → Type 0
  MakesOwn t = (p : Body) → t.made ≡ Some p → IsOwnCandidate p

  same_own : (p : Body) → IsOwnCandidate p → MakesOwn (applies p)
  same_own p own q e = let same : p ≡ q = cc in subst IsOwnCandidate same own

  opposite_own : (p : Body) → IsOwnCandidate p → MakesOwn (opposite_tried p)
  opposite_own p own q e = by (is_within (opposite p)) e where
    turned : IsOwnCandidate (opposite p)
    turned = record {
      over = passes-scaled_by (λ v. nat_lt v arity) (negsuc 0) p own.over;
      own_variables = λ test h. passes-scaled_by test (negsuc 0) p (own.own_variables test h);
    }

    by : (b : Bool) → (kept_tried b (opposite p)).made ≡ Some q → IsOwnCandidate q
    by true f = let same : opposite p ≡ q = cc in subst IsOwnCandidate same turned
    by false f = cc

  one_own : (t : Tried Body) → MakesOwn t → All MakesOwn (t ∷ [])
  one_own t own = All-cons MakesOwn t [] own (All-nil MakesOwn)

  by_row_own : (row : Row) → IsOwnCandidate (poly_of row) → All MakesOwn (candidates_by row)
  by_row_own (Ge p) own = one_own (applies p) (same_own p own)
  by_row_own (Eq p) own =
      All-cons MakesOwn (applies p) (opposite_tried p ∷ []) (same_own p own)
      (one_own (opposite_tried p) (opposite_own p own))
  by_row_own (Ne p) own =
      All-cons MakesOwn (applies p) (opposite_tried p ∷ []) (same_own p own)
      (one_own (opposite_tried p) (opposite_own p own))

  row_own : (row : Row) → ((test : ℕ → Bool) → rules_pass test whole ≡ true → row_passes test row ≡
      true) → All MakesOwn (row_candidates arity row)
  row_own row own = by (uses_below arity (poly_of row)) refl where
    by : (b : Bool) → uses_below arity (poly_of row) ≡ b →
        All MakesOwn (cond b (candidates_by row) [])
    by true is = by_row_own row (record { over = is; own_variables = own })
    by false is = All-nil MakesOwn

  rows_own : (rows : List Row) → ((test : ℕ → Bool) → rules_pass test whole ≡ true →
      rows_pass test rows ≡ true) → All MakesOwn (flat_map (row_candidates arity) rows)
  rows_own [] own = All-nil MakesOwn
  rows_own (row ∷ rows) own =
      All-append MakesOwn (row_candidates arity row) (flat_map (row_candidates arity) rows)
      (row_own row (λ test h. (and_parts (row_passes test row) (rows_pass test rows)
      (own test h)).0))
      (rows_own rows (λ test h. (and_parts (row_passes test row) (rows_pass test rows)
      (own test h)).1))

  module _ (names : List ℕ) (c : ℕ) where
    rules_own : (rules : List Rule) → ((test : ℕ → Bool) → rules_pass test whole ≡ true →
        rules_pass test rules ≡ true) → All MakesOwn (all_candidates names c rules arity)
    rules_own [] own = All-nil MakesOwn
    rules_own (rule ∷ rules) own =
        All-append MakesOwn (rule_candidates names c arity rule)
        (all_candidates names c rules arity)
        (by (is_rule_of names c rule))
        (rules_own rules (λ test h. (and_parts (rows_pass test rule.rows) (rules_pass test rules)
        (own test h)).1))
      where
        by : (b : Bool) → All MakesOwn (cond b (flat_map (row_candidates arity) rule.rows) [])
        by true =
            rows_own rule.rows (λ test h. (and_parts (rows_pass test rule.rows)
            (rules_pass test rules) (own test h)).0)
        by false = All-nil MakesOwn

  applying_own : (ts : List (Tried Body)) → All MakesOwn ts → All IsOwnCandidate (applying ts)
  applying_own [] all = All-nil IsOwnCandidate
  applying_own (t ∷ ts) all =
      by t.made (All-head MakesOwn t ts all) (applying_own ts (All-tail MakesOwn t ts all)) where
        by : (o : Option Body) → ((p : Body) → o ≡ Some p → IsOwnCandidate p) →
            All IsOwnCandidate (applying ts) → All IsOwnCandidate (cons_option o (applying ts))
        by None own rest = rest
        by (Some p) own rest = All-cons IsOwnCandidate p (applying ts) (own p refl) rest

-- all candidates are such
pub candidates_own : (names : List ℕ) (c : ℕ) (rules : List Rule) (arity : ℕ) →
    All (IsOwnCandidate rules arity) (candidates names c rules arity)
candidates_own names c rules arity =
    each_once (IsOwnCandidate rules arity) (applying (all_candidates names c rules arity)) []
    (All-nil (IsOwnCandidate rules arity))
    (applying_own rules arity (all_candidates names c rules arity)
    (rules_own rules arity names c rules (λ test h. h)))
