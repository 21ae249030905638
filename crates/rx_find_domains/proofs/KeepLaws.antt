-- The domains that are found are kept, and certificates for each part say so.
use Rattle.std.proofs.Common.{sym, subst, ◌<◌, append_assoc, get_or, length, map, take, ◌≡◌, ◌∙◌, ap, refl, arith, ℕ, ◌+◌, ◌≤◌, Bool, Some, List, [], ◌∷◌, ◌++◌}
use Rattle.std.specs.List.{All, AllZip}
use Rattle.std.proofs.lemmas.List.{map-append, take_more}
use Rattle.std.proofs.lemmas.List.Elements.{All-cons, All-head, All-nil, All-tail}
use Rattle.rx_row.specs.declared.row.Row.{Row}
use Rattle.rx_cert.specs.Conditions.{conditions, is_shown}
use Rattle.rx_cert.specs.Findings.{Said, Yes, guard}
use Rattle.rx_cert.specs.declared.cert.Cert.{Cert}
use Rattle.rx_term.specs.declared.rule.Equation.{Equation}
use Rattle.rx_term.specs.declared.rule.Rule.{Rule}
use Rattle.rx_term.specs.declared.rule_set.RuleParts.{RuleParts}
use Rattle.rx_domain.specs.Keeping.{Keeps, KeptPart, goes_on, keeping, keeping_from, part_finding, parts_kept, rule_part}
use Rattle.rx_domain.specs.Setting.{with_domains}
use Rattle.rx_find_domains.specs.Candidates.{all_candidates, candidates_from}
use Rattle.rx_find_domains.specs.Finding.{count_rows, given_rows, settled}
use Rattle.rx_find_domains.specs.Groups.{groups}
use Rattle.rx_find_domains.specs.Kept.{AreAllKeeps, AreAllShown, AreKeeps, IsShown}
use Rattle.rx_find_domains.specs.Parts.{rule_given}
use Rattle.rx_find_domains.specs.declared.given.Given.{Given}
use Rattle.rx_find_domains.proofs.PassLaws.{pass_same, passes_settle}
use Rattle.rx_find_domains.proofs.ShownLaws.{all_shown_there, given_of_rule}

-- what is settled is shown at each part
pub settled_shown : (parts : RuleParts) (goal : Equation) (lists : List (List Row)) →
    AreAllShown (with_domains parts (settled parts goal lists)) goal
settled_shown parts goal lists =
    let least : count_rows lists ≤ count_rows lists = omega arith in
    all_shown_there parts (settled parts goal lists) goal
    (pass_same parts goal (settled parts goal lists)
    (passes_settle parts goal (count_rows lists) lists least)).1

-- passes over the lists settle them
pub settled_by : (parts lent : RuleParts) (goal : Equation) (first last : List (List Row)) →
    lent ≡ parts → last ≡ settled lent goal first → last ≡ settled parts goal first
settled_by parts lent goal first last same done =
    done ∙ ap (λ (ps : RuleParts). settled ps goal first) same

-- the candidates are made by the groups
pub candidates_by : (parts lent : RuleParts) (goal : Equation) (names : List ℕ)
    (first : List (List Row)) → lent ≡ parts → names ≡ groups lent →
    first ≡ candidates_from names lent.rules goal 0 lent.symbols →
    first ≡ all_candidates parts goal
candidates_by parts lent goal names first same named begun =
    let all : names ≡ groups parts = named ∙ ap groups same in
    begun ∙ (λ i. candidates_from (all i) (same i).rules goal 0 (same i).symbols)

-- ---- certificates

part_kept : (p : KeptPart) (certs : List Cert) → IsShown p → AreKeeps p certs →
    part_finding p certs ≡ Yes
part_kept p certs shown are =
    ap (λ (b : Bool). guard b (is_shown (conditions p.given (Some p.asked.form) certs)))
    shown.within ∙
    ap is_shown are.shows

all_kept : (k : ℕ) (parts : List KeptPart) (lists : List (List Cert)) → All IsShown parts →
    AllZip AreKeeps parts lists → keeping_from k parts lists ≡ Keeps
all_kept k [] [] shown are = refl
all_kept k [] (certs ∷ lists) shown are = absurd are
all_kept k (p ∷ parts) [] shown are = absurd are
all_kept k (p ∷ parts) (certs ∷ lists) shown are =
    ap (λ (said : Said). goes_on k said (keeping_from (k + 1) parts lists))
    (part_kept p certs (All-head IsShown p parts shown) are.0) ∙
    all_kept (k + 1) parts lists (All-tail IsShown p parts shown) are.1

pub keeps_all : (parts : RuleParts) (goal : Equation) (lists : List (List Cert)) →
    AreAllShown parts goal → AreAllKeeps parts goal lists → keeping parts goal lists ≡ Keeps
keeps_all parts goal lists shown are = all_kept 0 (parts_kept parts goal) lists shown are

-- one more part, with its certificates
pub keeps_more : (parts : List KeptPart) (lists : List (List Cert)) (p : KeptPart)
    (certs : List Cert) → AllZip AreKeeps parts lists → AreKeeps p certs →
    AllZip AreKeeps (parts ++ p ∷ []) (lists ++ certs ∷ [])
keeps_more [] [] p certs are here = (here, tt)
keeps_more [] (others ∷ lists) p certs are here = absurd are
keeps_more (q ∷ parts) [] p certs are here = absurd are
keeps_more (q ∷ parts) (others ∷ lists) p certs are here =
    (are.0, keeps_more parts lists p certs are.1 here)

-- what is given of a rule, where the lists are the domains
pub rule_given_is : (parts : RuleParts) (rule : Rule) (sides : Given)
    (domains : List (List Row)) (given : List Row) → sides ≡ rule_given rule →
    domains ≡ parts.domains → given ≡ given_rows sides domains →
    given ≡ (rule_part parts rule).given
rule_given_is parts rule sides domains given own lists is =
    is ∙ (λ i. given_rows (own i) (lists i)) ∙ given_of_rule parts parts.domains rule

-- ---- the rules one after the other

module _ (parts : RuleParts) where
  pub rules_are_shown : (rules : List Rule) → All IsShown (map (rule_part parts) rules) →
      All (λ (rule : Rule). IsShown (rule_part parts rule)) rules
  rules_are_shown [] all = All-nil (λ (rule : Rule). IsShown (rule_part parts rule))
  rules_are_shown (rule ∷ rules) all =
      All-cons (λ (rule : Rule). IsShown (rule_part parts rule)) rule rules
      (All-head IsShown (rule_part parts rule) (map (rule_part parts) rules) all)
      (rules_are_shown rules
      (All-tail IsShown (rule_part parts rule) (map (rule_part parts) rules) all))

  module _ (before : List KeptPart) (rules : List Rule) (i : ℕ) (rule : Rule)
      (there : i < length rules) (is : rule ≡ get_or rules i rule) where
    parts_more : (before ++ map (rule_part parts) (take i rules)) ++ rule_part parts rule ∷ [] ≡
        before ++ map (rule_part parts) (take (i + 1) rules)
    parts_more =
        append_assoc before (map (rule_part parts) (take i rules)) (rule_part parts rule ∷ []) ∙
        ap (λ (ps : List KeptPart). before ++ ps)
        (sym (map-append (rule_part parts) (take i rules) (rule ∷ [])) ∙
        sym (ap (map (rule_part parts)) (take_more rules i rule there ∙
        ap (λ (r : Rule). take i rules ++ r ∷ []) (sym is))))

    -- one rule more, with its certificates
    pub rule_kept : (keeps next : List (List Cert)) (certs : List Cert) →
        next ≡ keeps ++ certs ∷ [] →
        AllZip AreKeeps (before ++ map (rule_part parts) (take i rules)) keeps →
        AreKeeps (rule_part parts rule) certs →
        AllZip AreKeeps (before ++ map (rule_part parts) (take (i + 1) rules)) next
    rule_kept keeps next certs grown are here =
        subst (λ (ks : List (List Cert)). AllZip AreKeeps
        (before ++ map (rule_part parts) (take (i + 1) rules)) ks) (sym grown)
        (subst (λ (ps : List KeptPart). AllZip AreKeeps ps (keeps ++ certs ∷ [])) parts_more
        (keeps_more (before ++ map (rule_part parts) (take i rules)) keeps (rule_part parts rule)
        certs are here))
