-- Where the table is lawful and all pairs are lower, each step by the rules makes the weight of a
-- term smaller.
use Rattle.std.proofs.Common.{◌≡◌, ◌∙◌, ap, subst, sym, refl, cond, arith, inl, inr, ℕ, zero, suc, ◌+◌, ◌==◌, Bool, true, false, ◌&&◌, Option, Some, None, unwrap_or, List, [], ◌∷◌, ◌++◌, length, map, All, Contains, slice_get, ℤ}
use Rattle.std.specs.Prelude.{nat_eq, nat_le, nat_lt}
use Rattle.std.specs.List.{enumerate_from, list_all}
use Rattle.std.specs.Option.{option_map_or}
use Rattle.std.proofs.lemmas.Bool.{and_parts, eqb-true, leb-true, ltb-true}
use Rattle.std.proofs.lemmas.List.{length-map}
use Rattle.std.proofs.lemmas.List.Elements.{All-cons, All-contains, All-head, All-nil, All-tail, All-weaker}
use Rattle.std.proofs.lemmas.Option.{none-some, same_Some}
use Rattle.rx_poly.specs.Substitution.{numbered, updated_assignment}
use Rattle.rx_poly.specs.Value.{value}
use Rattle.rx_poly.specs.Variables.{uses_below}
use Rattle.rx_poly.specs.declared.body.Body.{Body}
use Rattle.rx_poly_laws.proofs.Locality.{same_value_below}
use Rattle.rx_cert.proofs.ConditionLaws.{conditions_hold}
use Rattle.rx_cert.proofs.FindingLaws.{shown_list, within_parts}
use Rattle.rx_cert.specs.Conditions.{conditions, is_shown}
use Rattle.rx_cert.specs.Findings.{Said, Yes, No, Beyond}
use Rattle.rx_cert.specs.declared.cert.Cert.{Cert}
use Rattle.rx_row.specs.Holds.{AllHold}
use Rattle.rx_rewriting.specs.Ranks.{FirstLess, Smaller, weight_of}
use Rattle.rx_rewriting.proofs.SmallerWeights.{lowers_under_frames}
use Rattle.rx_rewriting.proofs.UnderFrames.{Fits-inner}
use Rattle.rx_rewriting.specs.Premises.{Lowers}
use Rattle.rx_rewriting.specs.Steps.{Either}
use Rattle.rx_rewriting.specs.Terms.{Fits, Ground}
use Rattle.rx_term.proofs.AssignedLaws.{updated_assignment-arguments}
use Rattle.rx_term.proofs.Equations.{fits-Call, fits-Frame}
use Rattle.rx_plain.proofs.Kept.{first_or_other}
use Rattle.rx_term.proofs.TogetherLaws.{numbered_in_order, of_either_list}
use Rattle.rx_term.specs.Assigned.{assigned}
use Rattle.rx_term.specs.Fitting.{is_alike, is_declared, term_fits}
use Rattle.rx_term.specs.Meaning.{Instance, ground_at, signature, values}
use Rattle.rx_term.specs.WellMade.{IsMade}
use Rattle.rx_term.specs.declared.rule.Rule.{Rule}
use Rattle.rx_term.specs.declared.rule_set.RuleParts.{RuleParts}
use Rattle.rx_term.specs.declared.rule_set.SymInfo.{SymInfo}
use Rattle.rx_term.specs.declared.term.Sym.{Sym}
use Rattle.rx_term.specs.declared.term.Term.{Term}
use Rattle.rx_term.specs.declared.term.Term.TheVariants.{Call, Frame}
use Rattle.rx_pairs.specs.Inside.{descent_in}
use Rattle.rx_pairs.specs.Lowering.{Descends, IsLower, goes_on, has_column, lower_finding, lower_rows, rows_finding}
use Rattle.rx_pairs.specs.Pairs.{AreAllPairs, NoRules, OneMore, ArePairs, PairsOf, AreParts, Common, AtReturn, AtFail, AtCall, AtFrame, IsRoot, OfCall, OfFrame, Part, SidesFit, pair_of, part}
use Rattle.rx_pairs.specs.Ranks.{bad_from, bad_rank, column, columns_of, is_rank, rank_of}
use Rattle.rx_pairs.specs.declared.pair.Pair.{Pair}
use Rattle.rx_pairs.specs.declared.pair_cert.PairCert.{PairCert}
use Rattle.rx_pairs.specs.declared.table.RankTable.{RankTable}
use Rattle.rx_pairs.proofs.ColumnLaws.{halves, rows_lower}
use Rattle.rx_pairs.proofs.Descent.{rule_lowers}

-- ---- one pair

-- the columns of a lawful rank have at its arguments the values that they have as instances
columns_at : (a : ℕ → ℤ) (args ps : List Body) → list_all (uses_below (length args)) ps ≡ true
    → map (λ p. column (value (updated_assignment a (numbered args)) p)) ps ≡
    map (λ p. column (value (assigned (values a args)) p)) ps
columns_at a args [] below = refl
columns_at a args (p ∷ ps) below =
    let both = and_parts (uses_below (length args) p) (list_all (uses_below (length args)) ps) below
    in
    let here = ap (λ ws. value (updated_assignment a ws) p) (numbered_in_order args)
    ∙ same_value_below (updated_assignment a (enumerate_from 0 args)) (assigned (values a args))
    (length args) p
    (updated_assignment-arguments a args) both.0 in
    (λ i. column (here i) ∷ columns_at a args ps both.1 i)

-- both symbols of a pair have lawful ranks at its arguments
pub record IsRanked (table : RankTable) (pair : Pair) : Type 0 where
  pub left : is_rank table.columns (length pair.left_args) (columns_of table pair.left.0) ≡ true
  pub right : is_rank table.columns (length pair.right_args) (columns_of table pair.right.0) ≡ true

module _ (table : RankTable) (pair : Pair) (ranked : IsRanked table pair) (a : ℕ → ℤ)
    (holds : AllHold a pair.phi) where
  left_parts : (length (columns_of table pair.left.0) == table.columns ≡ true) ×
      (list_all (uses_below (length pair.left_args)) (columns_of table pair.left.0) ≡ true)
  left_parts =
      and_parts (length (columns_of table pair.left.0) == table.columns)
      (list_all (uses_below (length pair.left_args)) (columns_of table pair.left.0)) ranked.left

  right_parts : (length (columns_of table pair.right.0) == table.columns ≡ true) ×
      (list_all (uses_below (length pair.right_args)) (columns_of table pair.right.0) ≡ true)
  right_parts =
      and_parts (length (columns_of table pair.right.0) == table.columns)
      (list_all (uses_below (length pair.right_args)) (columns_of table pair.right.0)) ranked.right

  one_length : length (rank_of table pair.right.0 (values a pair.right_args)) ≡
      length (rank_of table pair.left.0 (values a pair.left_args))
  one_length =
      length-map (columns_of table pair.right.0)
      (λ p. column (value (assigned (values a pair.right_args)) p))
      ∙ eqb-true (length (columns_of table pair.right.0)) table.columns right_parts.0
      ∙ sym (eqb-true (length (columns_of table pair.left.0)) table.columns left_parts.0)
      ∙ sym (length-map (columns_of table pair.left.0)
      (λ p. column (value (assigned (values a pair.left_args)) p)))

  by_rows : (j : ℕ) (certs : List Cert) → has_column j (columns_of table pair.left.0)
      (columns_of table pair.right.0) ≡ true
      → rows_finding pair (lower_rows pair j (columns_of table pair.left.0)
      (columns_of table pair.right.0)) certs ≡ Yes → IsLower table a pair
  by_rows j certs has found =
      let ps = columns_of table pair.left.0 in
      let qs = columns_of table pair.right.0 in
      let rows = lower_rows pair j ps qs in
      let some = and_parts (nat_lt 0 j) (nat_le j (length ps) && nat_le j (length qs)) has in
      let many = and_parts (nat_le j (length ps)) (nat_le j (length qs)) some.1 in
      let both = within_parts rows.within (is_shown (conditions pair.phi (Some rows.form) certs))
      found in
      let all = conditions_hold pair.phi rows.form certs
      (shown_list (conditions pair.phi (Some rows.form) certs) both.1) a holds in
      let less = rows_lower a pair j ps qs (ltb-true 0 j some.0) (leb-true j (length ps) many.0)
      (leb-true j (length qs) many.1) all in (
        one_length,
        subst (λ (ys : List ℕ). FirstLess (rank_of table pair.right.0 (values a pair.right_args))
            ys) (columns_at a pair.left_args ps left_parts.1)
            (subst (λ (xs : List ℕ). FirstLess xs
            (map (λ p. column (value (updated_assignment a (numbered pair.left_args)) p)) ps))
            (columns_at a pair.right_args qs right_parts.1) less),
      )

  by_column : (j : ℕ) (certs : List Cert) (b : Bool) →
      has_column j (columns_of table pair.left.0) (columns_of table pair.right.0) ≡ b
      → cond b (rows_finding pair (lower_rows pair j (columns_of table pair.left.0)
      (columns_of table pair.right.0)) certs) No ≡ Yes → IsLower table a pair
  by_column j certs true has found = by_rows j certs has found
  by_column j certs false has found = cc

  -- a pair that is found lower is lower at each assignment that meets its rows
  pub pair_lower : (cert : PairCert) → lower_finding pair table cert ≡ Yes → IsLower table a pair
  pair_lower cert found =
      by_column cert.column cert.certs (has_column cert.column (columns_of table pair.left.0)
      (columns_of table pair.right.0)) refl found

-- ---- the table

-- each declared symbol has a lawful rank
rank_from : (width f : ℕ) (infos : List SymInfo) (ranks : List (List Body)) →
    bad_from width f infos ranks ≡ None
    → (i : ℕ) (info : SymInfo) → slice_get infos i ≡ Some info →
    is_rank width info.arity (unwrap_or (slice_get ranks i) []) ≡ true
rank_from width f [] ranks good i info there = absurd (none-some info there)
rank_from width f (first ∷ infos) [] good i info there = cc
rank_from width f (first ∷ infos) (rank ∷ ranks) good i info there =
    by_rank (is_rank width first.arity rank) refl (rank_from width (f + 1) infos ranks) good i there
  where
    by_rank : (b : Bool) → is_rank width first.arity rank ≡ b
        → (bad_from width (f + 1) infos ranks ≡ None → (i : ℕ) (info : SymInfo) →
        slice_get infos i ≡ Some info → is_rank width info.arity
        (unwrap_or (slice_get ranks i) []) ≡ true)
        → cond b (bad_from width (f + 1) infos ranks) (Some f) ≡ None
        → (i : ℕ) → slice_get (first ∷ infos) i ≡ Some info →
        is_rank width info.arity (unwrap_or (slice_get (rank ∷ ranks) i) []) ≡ true
    by_rank false is others good i there = cc
    by_rank true is others good zero there =
        ap (λ (s : SymInfo). is_rank width s.arity rank) (sym (same_Some first info there)) ∙ is
    by_rank true is others good (suc i) there = others good i info there

module _ (parts : RuleParts) (table : RankTable) (good : bad_rank parts table ≡ None) where
  declared_ranked : (f : Sym) (frame : Bool) (n : ℕ) → is_declared parts.symbols f frame n ≡ true →
      is_rank table.columns n (columns_of table f.0) ≡ true
  declared_ranked f frame n declared = by_info (slice_get parts.symbols f.0) refl declared where
    by_info : (o : Option SymInfo) → slice_get parts.symbols f.0 ≡ o →
        option_map_or (λ (s : SymInfo). is_alike s.frame frame && nat_eq s.arity n) o false ≡ true
        → is_rank table.columns n (columns_of table f.0) ≡ true
    by_info None there e = cc
    by_info (Some info) there e =
        let count = eqb-true info.arity n (and_parts (is_alike info.frame frame)
        (nat_eq info.arity n) e).1 in
        subst (λ k. is_rank table.columns k (columns_of table f.0) ≡ true) count
        (rank_from table.columns 0 parts.symbols table.ranks good f.0 info there)

  -- the symbol has a lawful rank over as many variables as there are arguments
  abbrev HasRank : Part → Type 0
  HasRank p = is_rank table.columns (length p.arguments) (columns_of table p.symbol.0) ≡ true

  root_ranked : (t : Term) (root : Part) → IsRoot t root → term_fits parts t ≡ true → HasRank root
  root_ranked _ _ (OfCall f ps) fits =
      declared_ranked f false (length ps) (sym (fits-Call parts f ps) ∙ fits)
  root_ranked _ _ (OfFrame f ps t) fits =
      declared_ranked f true (length ps) (and_parts (is_declared parts.symbols f true (length ps))
      (term_fits parts t) (sym (fits-Frame parts f ps t) ∙ fits)).0

  parts_ranked : (left t : Term) (ps : List Part) → AreParts left t ps → term_fits parts t ≡ true →
      All HasRank ps
  parts_ranked left t _ (Common _ under) fits = All-nil HasRank
  parts_ranked left _ _ (AtReturn p) fits = All-nil HasRank
  parts_ranked left _ _ (AtFail c) fits = All-nil HasRank
  parts_ranked left _ _ (AtCall f ps differs) fits =
      All-cons HasRank (part f ps) [] (root_ranked (Call f ps) (part f ps) (OfCall f ps) fits)
      (All-nil HasRank)
  parts_ranked left _ _ (AtFrame f ps t rest differs inner) fits =
      let both = and_parts (is_declared parts.symbols f true (length ps)) (term_fits parts t)
      (sym (fits-Frame parts f ps t) ∙ fits) in
      All-cons HasRank (part f ps) rest (root_ranked (Frame f ps t) (part f ps) (OfFrame f ps t)
      fits) (parts_ranked left t rest inner both.1)

  -- ---- all pairs

  -- the pair is found lower by some certificate
  abbrev pub IsFoundLower : Pair → Type 0
  IsFoundLower pair = (cert : PairCert) × (lower_finding pair table cert ≡ Yes)

  each_found : (whole : Bool) (i : ℕ) (pairs : List Pair) (certs : List PairCert) →
      descent_in table whole i pairs certs ≡ Descends → All IsFoundLower pairs
  each_found whole i [] certs e = All-nil IsFoundLower
  each_found whole i (pair ∷ pairs) [] e = cc
  each_found whole i (pair ∷ pairs) (cert ∷ certs) e =
      by_found (lower_finding pair table cert) refl (each_found whole (i + 1) pairs certs) e where
        by_found : (found : Said) → lower_finding pair table cert ≡ found →
            (descent_in table whole (i + 1) pairs certs ≡ Descends → All IsFoundLower pairs)
            → goes_on i found (descent_in table whole (i + 1) pairs certs) ≡ Descends →
            All IsFoundLower (pair ∷ pairs)
        by_found Beyond is rest e = cc
        by_found No is rest e = cc
        by_found Yes is rest e = All-cons IsFoundLower pair pairs (cert, is) (rest e)

  -- a rule of a list has pairs that are all found lower, where those of the list are
  pub record HasLowerPairs (rule : Rule) : Type 0 where
    pub pairs : List Pair
    pub are : ArePairs rule pairs
    pub found : All IsFoundLower pairs

  rule_pairs : (rules : List Rule) (pairs : List Pair) → AreAllPairs rules pairs →
      All IsFoundLower pairs → (rule : Rule) → Contains rules rule → HasLowerPairs rule
  rule_pairs _ _ NoRules found rule among = absurd (no_rule rule among) where
    no_rule : (rule : Rule) → Contains [] rule → ⊥
    no_rule rule (k, below, is) = omega (arith, below)
  rule_pairs _ _ (OneMore first rules pairs others are rest) found rule among =
      let both = halves IsFoundLower pairs others found in
      elim (first_or_other first rules rule among) [
        | inl same ↦ subst HasLowerPairs same (record { pairs = pairs; are = are; found = both.0 })
        | inr other ↦ rule_pairs rules others rest both.1 rule other
      ]

  module _ (rule : Rule) (left_fits : term_fits parts rule.left ≡ true)
      (right_fits : term_fits parts rule.right ≡ true) (a : ℕ → ℤ) (holds : AllHold a rule.rows)
    where
      lower_parts : (root : Part) → HasRank root → (ps : List Part) → All HasRank ps →
          All IsFoundLower (map (pair_of rule root) ps)
          → All (IsLower table a) (map (pair_of rule root) ps)
      lower_parts root has [] all found = All-nil (IsLower table a)
      lower_parts root has (p ∷ ps) all found =
          let pair = pair_of rule root p in
          let rest = map (pair_of rule root) ps in
          let one = All-head IsFoundLower pair rest found in
          let ranked : IsRanked table pair = record
          { left = has; right = All-head HasRank p ps all }
          in
          All-cons (IsLower table a) pair rest (pair_lower table pair ranked a holds one.0 one.1)
          (lower_parts root has ps (All-tail HasRank p ps all)
          (All-tail IsFoundLower pair rest found))

      all_lower : (pairs : List Pair) → ArePairs rule pairs → All IsFoundLower pairs →
          All (IsLower table a) pairs
      all_lower _ (PairsOf root is_root ps are) found =
          lower_parts root (root_ranked rule.left root is_root left_fits) ps
          (parts_ranked rule.left rule.right ps are right_fits) found

      -- its right side has a smaller weight
      pub rule_descends : HasLowerPairs rule → Smaller
          (weight_of (rank_of table) (ground_at a rule.right))
          (weight_of (rank_of table) (ground_at a rule.left))
      rule_descends has =
          rule_lowers table a rule has.pairs has.are (all_lower has.pairs has.are has.found)

  -- so does the right side of each instance of a list of rules that fit
  pub instances_descend : (rules : List Rule) (whole : Bool) (pairs : List Pair)
      (certs : List PairCert) → AreAllPairs rules pairs →
      descent_in table whole 0 pairs certs ≡ Descends
      → All (SidesFit parts) rules
      → (s t : Ground) → Instance rules s t →
      Smaller (weight_of (rank_of table) t) (weight_of (rank_of table) s)
  instances_descend rules whole pairs certs are descends fit s t one =
      let fits = All-contains (SidesFit parts) rules one.rule fit one.among in
      let less = rule_descends one.rule fits.0 fits.1 one.at one.holds
      (rule_pairs rules pairs are (each_found whole 0 pairs certs descends) one.rule one.among) in
      subst (λ u. Smaller (weight_of (rank_of table) u) (weight_of (rank_of table) s))
      (sym one.right)
      (subst (λ u. Smaller (weight_of (rank_of table) (ground_at one.at one.rule.right))
      (weight_of (rank_of table) u)) (sym one.left) less)

-- ---- rules and hypotheses together

pub made_fit : (parts : RuleParts) (rules : List Rule) → All (IsMade parts) rules →
    All (SidesFit parts) rules
made_fit parts rules made =
    All-weaker (IsMade parts) (SidesFit parts) (λ rule m. (m.left_fits, m.right_fits)) rules made

module _ (parts : RuleParts) (rules hypotheses : List Rule) (table : RankTable) (whole : Bool)
    (pairs : List Pair) (certs : List PairCert)
    (fit : All (SidesFit parts) (rules ++ hypotheses)) (good : bad_rank parts table ≡ None)
    (are : AreAllPairs (rules ++ hypotheses) pairs)
    (descends : descent_in table whole 0 pairs certs ≡ Descends) where
  together : (s t : Ground) → Instance (rules ++ hypotheses) s t →
      Smaller (weight_of (rank_of table) t) (weight_of (rank_of table) s)
  together =
      instances_descend parts table good (rules ++ hypotheses) whole pairs certs are descends fit

  -- each step by both from a fitting term makes its weight smaller
  pub both_descend : Lowers (weight_of (rank_of table)) (Fits (signature parts))
      (Either (Instance rules) (Instance hypotheses))
  both_descend =
      let inside = Fits (signature parts) in
      let inner = Fits-inner (signature parts) in
      lowers_under_frames (rank_of table) inside
      (Either (Instance rules) (Instance hypotheses)) inner
      (λ s t fits one. together s t ((of_either_list rules hypotheses s t).1 one))
