-- Where a search begins, and what it comes to from there.
use Rattle.std.proofs.Common.{if◌then◌else◌, ◌≡◌, ℕ, Bool, true, false, Option, Some, None, List, [], ◌∷◌, sym, ap, subst, ◌∙◌, refl}
use Rattle.std.proofs.lemmas.Bool.{and_from}
use Rattle.std.specs.List.{AllZip, list_all}
use Rattle.std.specs.Option.{option_map}
use Rattle.std.specs.Prelude.{IfSome}
use Rattle.rx_row.specs.declared.row.Row.{Row}
use Rattle.rx_cert.specs.Findings.{Said, Yes}
use Rattle.rx_cert.specs.declared.cert.Cert.{Cert}
use Rattle.rx_domain.specs.Keeping.{Keeps, KeptPart, keeping, parts_kept}
use Rattle.rx_domain.specs.Setting.{bad_domain, with_domains}
use Rattle.rx_domain.specs.declared.domains.Domains.{Domains}
use Rattle.rx_find_cover.specs.Coverable.{is_coverable}
use Rattle.rx_find_domains.specs.Finding.{found_domains}
use Rattle.rx_find_domains.specs.Kept.{AreAllKeeps, AreKeeps}
use Rattle.rx_log.specs.Depth.{are_shallow, are_shallow_keeps}
use Rattle.rx_pairs.specs.Inside.{listing}
use Rattle.rx_proofs.specs.Goals.{IsFitting}
use Rattle.rx_rank.specs.Ranking.{ranked}
use Rattle.rx_rank.specs.declared.kind.RankingKind.{RankingKind}
use Rattle.rx_rank.specs.declared.kind.RankingKind.TheVariants.{Plain, Wider}
use Rattle.rx_term.specs.declared.rule.Equation.{Equation}
use Rattle.rx_term.specs.declared.rule_set.RuleParts.{RuleParts}
use Rattle.rx_wider_domains.specs.Finding.{wider_domains}
use Rattle.rx_search.specs.Beginning.{Over, Unranked, beginning, begun_by, begun_inside, begun_over, begun_wider, by_ranks, or_wider, stated_beginning}
use Rattle.rx_search.specs.Beginning as beginnings
use Rattle.rx_search.specs.Begun.{AreFound, BeginsWith, IsBegun, IsInside, IsReady, IsStatedBegun}
use Rattle.rx_search.specs.Search.{searched, searched_from, visited}
use Rattle.rx_search.specs.declared.beginning.Beginning.{Beginning}
use Rattle.rx_search.specs.declared.beginning.Beginning.TheVariants as begun
use Rattle.rx_search.specs.declared.beginning.Inside.{Inside}
use Rattle.rx_search.proofs.Shallow.{certs_shallow}

-- ---- domains

-- certificates by which parts keep the domains are no deeper than a text allows
keeps_shallow : (parts : List KeptPart) (lists : List (List Cert)) → AllZip AreKeeps parts lists →
    list_all are_shallow lists ≡ true
keeps_shallow [] [] are = refl
keeps_shallow [] (certs ∷ lists) are = absurd are
keeps_shallow (p ∷ parts) [] are = absurd are
keeps_shallow (p ∷ parts) (certs ∷ lists) are =
    and_from (are_shallow certs) (list_all are_shallow lists) (certs_shallow certs are.0.deep)
    (keeps_shallow parts lists are.1)

pub domains_shallow : (parts : RuleParts) (goal : Equation) (domains : Domains)
    → AreAllKeeps (with_domains parts domains.rows) goal domains.keeps
    → are_shallow_keeps (Some domains) ≡ true
domains_shallow parts goal domains are =
    keeps_shallow (parts_kept (with_domains parts domains.rows) goal) domains.keeps are

-- the set with them, whose pairs are listed
module _ (kind : RankingKind) (parts : RuleParts) (goal : Equation) (domains : Domains)
    (set : RuleParts) (inside : Inside) (is : set ≡ with_domains parts domains.rows)
    (same : inside ≡ record {
      rules = set;
      domains = domains;
      listed = listing set set.rules;
      kind = kind;
    }) where
  pub inside_is : AreFound kind parts goal domains → IsInside parts goal inside
  inside_is found =
      subst (IsInside parts goal) (sym same) (record { found = found; set = is; listed = refl })

-- ---- where a search begins

-- a set that isn't coverable
pub begun_uncovered : (parts : RuleParts) (noted : Bool) (rows : List (List Row)) →
    is_coverable parts ≡ false → Unranked noted ≡ begun_over parts noted rows
begun_uncovered parts noted rows is =
    ap (λ b. if b then by_ranks noted rows (ranked Plain parts []) else Unranked noted) (sym is)

-- one that is
pub begun_covered : (parts : RuleParts) (noted : Bool) (rows : List (List Row)) (said : Said) →
    is_coverable parts ≡ true → ranked Plain parts [] ≡ said →
    by_ranks noted rows said ≡ begun_over parts noted rows
begun_covered parts noted rows said is ranks =
    ap (by_ranks noted rows) (sym ranks)
    ∙ ap (λ b. if b then by_ranks noted rows (ranked Plain parts []) else Unranked noted) (sym is)

module _ (parts : RuleParts) (goal : Equation) where
  pub begins : (said : Said) → ranked Plain parts [] ≡ said →
      stated_beginning parts goal ≡ begun_by said parts goal
  unfolding stated_beginning
  begins said is = ap (λ s. begun_by s parts goal) is

  -- the set that it begins with is that of the domains that are found
  pub begins_over : (noted : Bool) (inside : Inside) → inside.kind ≡ Plain →
      IsInside parts goal inside →
      begun_inside parts noted (found_domains parts goal) ≡
      begun_over inside.rules noted inside.domains.rows
  begins_over noted inside plain is =
      let found : AreFound Plain parts goal inside.domains =
      subst (λ k. AreFound k parts goal inside.domains) plain is.found in
      ap (begun_inside parts noted) (sym found.rows)
      ∙ ap (λ set. begun_over set noted inside.domains.rows) (sym is.set)

  pub begun_is : (noted : Bool) (inside : Inside) (b : Beginning) → inside.kind ≡ Plain →
      IsInside parts goal inside →
      stated_beginning parts goal ≡ begun_inside parts noted (found_domains parts goal) →
      BeginsWith inside noted b → IsStatedBegun parts goal b
  begun_is noted inside begun.Bare plain is from with = absurd with
  begun_is noted inside (begun.Inside other) plain is from with =
      subst (λ (i : Inside). IsStatedBegun parts goal (begun.Inside i)) (sym with.0) (
        from ∙ begins_over noted inside plain is ∙ with.2
            ∙ ap (λ k. Over k (Some inside.domains.rows)) (sym plain),
        is,
        subst (λ k. IsReady k inside.rules) (sym plain) with.1,
      )
  begun_is noted inside (begun.Unranked now) plain is from with =
      from ∙ begins_over noted inside plain is ∙ with

  -- ---- with the wider ranking

  begins_wider : (b : beginnings.Beginning) → stated_beginning parts goal ≡ b →
      beginning parts goal ≡ or_wider parts goal b
  unfolding beginning
  begins_wider b is = ap (or_wider parts goal) is

  -- a search that begins somewhere, or of which something was noted, begins so
  pub begun_bare : IsStatedBegun parts goal begun.Bare → IsBegun parts goal begun.Bare
  begun_bare is = (begins_wider (Over Plain None) is.0, is.1)

  pub begun_within : (inside : Inside) → IsStatedBegun parts goal (begun.Inside inside) →
      IsBegun parts goal (begun.Inside inside)
  begun_within inside is =
      (begins_wider (Over inside.kind (Some inside.domains.rows)) is.0, is.1, is.2)

  pub begun_noted : IsStatedBegun parts goal (begun.Unranked true) →
      IsBegun parts goal (begun.Unranked true)
  begun_noted is = begins_wider (Unranked true) is

  -- one that doesn't begins inside the wider domains, if there are some
  module _ (nowhere : stated_beginning parts goal ≡ Unranked false) (found : Option Domains)
      (rows : option_map (λ (d : Domains). d.rows) found ≡ wider_domains parts goal) where
    begins_found : beginning parts goal ≡ begun_wider (option_map (λ (d : Domains). d.rows) found)
    begins_found = begins_wider (Unranked false) nowhere ∙ ap begun_wider (sym rows)

    pub wider_nowhere : found ≡ None → IsBegun parts goal (begun.Unranked false)
    wider_nowhere none =
        begins_found ∙ ap (λ o. begun_wider (option_map (λ (d : Domains). d.rows) o)) none

    module _ (domains : Domains) (some : found ≡ Some domains) where
      there : (P : Domains → Type 0) → IfSome found P → P domains
      there P is = subst (λ (o : Option Domains). IfSome o P) some is

      pub wider_found : IfSome found (λ d. bad_domain parts.symbols d.rows ≡ None) →
          IfSome found (λ d. keeping (with_domains parts d.rows) goal d.keeps ≡ Keeps) →
          IfSome found (λ d. AreAllKeeps (with_domains parts d.rows) goal d.keeps) →
          AreFound Wider parts goal domains
      wider_found lawful keeps certificates = record {
        rows = sym rows ∙ ap (option_map (λ (d : Domains). d.rows)) some;
        lawful = there (λ d. bad_domain parts.symbols d.rows ≡ None) lawful;
        keeps = there (λ d. keeping (with_domains parts d.rows) goal d.keeps ≡ Keeps) keeps;
        shallow =
            domains_shallow parts goal domains
            (there (λ d. AreAllKeeps (with_domains parts d.rows) goal d.keeps) certificates);
      }

      pub wider_begun : (inside : Inside) → IsInside parts goal inside → inside.kind ≡ Wider →
          inside.domains ≡ domains →
          IfSome found (λ d. is_coverable (with_domains parts d.rows) ≡ true) →
          IfSome found (λ d. ranked Wider (with_domains parts d.rows) [] ≡ Yes) →
          IsBegun parts goal (begun.Inside inside)
      wider_begun inside is kind same coverable ranks =
          let set : inside.rules ≡ with_domains parts domains.rows =
          is.set ∙ ap (λ (d : Domains). with_domains parts d.rows) same in
          let ready : IsReady Wider inside.rules = record {
            coverable =
                ap is_coverable set
                ∙ there (λ d. is_coverable (with_domains parts d.rows) ≡ true) coverable;
            ranked =
                ap (λ r. ranked Wider r []) set
                ∙ there (λ d. ranked Wider (with_domains parts d.rows) [] ≡ Yes) ranks;
          } in (
            begins_found
                ∙ ap (λ o. begun_wider (option_map (λ (d : Domains). d.rows) o)) some
                ∙ (λ i. Over (sym kind i) (Some (sym same i).rows)),
            is,
            subst (λ k. IsReady k inside.rules) (sym kind) ready,
          )

  -- ---- what a search comes to

  pub searched_at : (b : beginnings.Beginning) (depth budget : ℕ) → beginning parts goal ≡ b →
      searched parts goal depth budget ≡ searched_from b parts goal depth budget
  searched_at b depth budget is = ap (λ b. searched_from b parts goal depth budget) is

  pub searched_inside : (inside : Inside) (depth budget : ℕ) → IsInside parts goal inside →
      beginning parts goal ≡ Over inside.kind (Some inside.domains.rows) →
      searched parts goal depth budget ≡ visited inside.kind inside.rules goal depth budget
  searched_inside inside depth budget is from =
      searched_at (Over inside.kind (Some inside.domains.rows)) depth budget from
      ∙ ap (λ set. visited inside.kind set goal depth budget) (sym is.set)

  -- domains don't say which terms fit
  pub fits_inside : (inside : Inside) → IsInside parts goal inside → IsFitting parts goal →
      IsFitting inside.rules goal
  fits_inside inside is fits =
      subst (λ set. IsFitting set goal) (sym is.set)
      (record { left = fits.left; right = fits.right })
