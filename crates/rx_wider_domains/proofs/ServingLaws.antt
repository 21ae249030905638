-- Lists that serve, and that what is left of them serves too.
use Rattle.std.proofs.Common.{◌≡◌, ◌∙◌, ap, sym, refl, ℕ, zero, suc, Bool, true, false, if◌then◌else◌, List, [], ◌∷◌, Some, None, set}
use Rattle.std.specs.Prelude.{slice_set}
use Rattle.std.specs.List.{fold}
use Rattle.std.proofs.lemmas.Bool.{and_parts}
use Rattle.rx_row.specs.declared.row.Row.{Row}
use Rattle.rx_cert.specs.Findings.{Said, Yes, No, Beyond}
use Rattle.rx_domain.specs.Setting.{with_domains}
use Rattle.rx_find_cover.specs.Coverable.{is_coverable}
use Rattle.rx_find_domains.specs.Finding.{is_yes, list_of, others, without}
use Rattle.rx_find_domains.specs.Groups.{groups}
use Rattle.rx_find_domains.proofs.Settling.{fold_keeps}
use Rattle.rx_rank.specs.Ranking.{ranked}
use Rattle.rx_rank.specs.declared.kind.RankingKind.TheVariants.{Wider}
use Rattle.rx_term.specs.declared.rule.Equation.{Equation}
use Rattle.rx_term.specs.declared.rule_set.RuleParts.{RuleParts}
use Rattle.rx_wider_domains.specs.Finding.{domains_by, domains_of, is_ready, leaving, left_out, serves, tried, wider_domains}
use Rattle.rx_wider_domains.specs.Lists.{lists_by, wider_lists}

-- ---- a set that is ready

ready_yes : (said : Said) → is_yes said ≡ true → said ≡ Yes
ready_yes Yes e = refl
ready_yes No e = cc
ready_yes Beyond e = cc

pub ready_coverable : (parts : RuleParts) → is_ready parts ≡ true → is_coverable parts ≡ true
ready_coverable parts e = (and_parts (is_coverable parts) (is_yes (ranked Wider parts [])) e).0

pub ready_ranked : (parts : RuleParts) → is_ready parts ≡ true → ranked Wider parts [] ≡ Yes
ready_ranked parts e =
    ready_yes (ranked Wider parts [])
    (and_parts (is_coverable parts) (is_yes (ranked Wider parts [])) e).1

-- ---- a row put back

put_back_any : (lists : List (List Row)) (f : ℕ) (rows : List Row) →
    set (set lists f rows) f (list_of lists f) ≡ lists
put_back_any [] f rows = refl
put_back_any (own ∷ lists) zero rows = refl
put_back_any (own ∷ lists) (suc f) rows =
    ap (λ (rest : List (List Row)). own ∷ rest) (put_back_any lists f rows)

pub put_back : (lists : List (List Row)) (f : ℕ) (row : Row) →
    slice_set (without lists f row) f (list_of lists f) ≡ lists
put_back lists f row = put_back_any lists f (others row (list_of lists f))

module _ (parts : RuleParts) (goal : Equation) where
  -- ---- lists that serve

  pub served_by : (lists rows : List (List Row)) (inside : RuleParts) →
      rows ≡ domains_of parts goal lists → inside ≡ with_domains parts rows →
      is_ready inside ≡ serves parts goal lists
  unfolding serves
  served_by lists rows inside are is =
      ap is_ready (is ∙ ap (with_domains parts) are)

  pub serves_ready : (lists : List (List Row)) → serves parts goal lists ≡ true →
      is_ready (with_domains parts (domains_of parts goal lists)) ≡ true
  unfolding serves
  serves_ready lists e = e

  -- ---- one row

  pub row_left : (lists : List (List Row)) (at : ℕ × Row) (b : Bool) →
      serves parts goal (without lists at.0 at.1) ≡ b →
      (if b then without lists at.0 at.1 else lists) ≡ leaving parts goal lists at
  row_left lists at b is =
      ap (λ (c : Bool). if c then without lists at.0 at.1 else lists) (sym is)

  leaving_serves : (lists : List (List Row)) (at : ℕ × Row) → serves parts goal lists ≡ true →
      serves parts goal (leaving parts goal lists at) ≡ true
  leaving_serves lists at here =
      by (serves parts goal (without lists at.0 at.1)) refl where
        by : (b : Bool) → serves parts goal (without lists at.0 at.1) ≡ b →
            serves parts goal (if b then without lists at.0 at.1 else lists) ≡ true
        by true is = is
        by false is = here

  -- ---- all rows

  pub left_out_serves : (lists : List (List Row)) → serves parts goal lists ≡ true →
      serves parts goal (left_out parts goal lists) ≡ true
  unfolding left_out
  left_out_serves lists here =
      fold_keeps (λ (ls : List (List Row)). serves parts goal ls ≡ true) (leaving parts goal)
      leaving_serves lists (tried lists) here

  pub left_out_is : (lists : List (List Row)) →
      fold (leaving parts goal) lists (tried lists) ≡ left_out parts goal lists
  unfolding left_out
  left_out_is lists = refl

  -- ---- the domains

  pub domains_served : (lists : List (List Row)) (b : Bool) → serves parts goal lists ≡ b →
      (if b then Some (domains_of parts goal (left_out parts goal lists)) else None) ≡
      domains_by parts goal lists
  domains_served lists b is =
      ap (λ (c : Bool). if c then Some (domains_of parts goal (left_out parts goal lists))
      else None) (sym is)

  pub wider_is : (lists : List (List Row)) → lists ≡ wider_lists parts goal →
      domains_by parts goal lists ≡ wider_domains parts goal
  unfolding wider_domains
  wider_is lists are = ap (domains_by parts goal) are

  pub lists_are : (names : List ℕ) (own : RuleParts) → names ≡ groups parts → own ≡ parts →
      lists_by names own goal ≡ wider_lists parts goal
  unfolding wider_lists
  lists_are names own named is =
      ap (λ (ns : List ℕ). lists_by ns own goal) named ∙
      ap (λ (ps : RuleParts). lists_by (groups parts) ps goal) is
