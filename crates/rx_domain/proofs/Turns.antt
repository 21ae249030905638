-- One turn of the walk over the parts and their lists of certificates, and its end.
use Rattle.std.proofs.Common.{◌≡◌, ◌∙◌, ap, sym, subst, refl, arith, ℕ, zero, suc, ◌+◌, ◌-◌, ◌≤◌, ◌<◌, Bool, true, Option, Some, None, Err, List, [], ◌∷◌, length, drop, drop_of_length-le, slice_get}
use Rattle.std.specs.Option.{option_map, option_map_or}
use Rattle.std.proofs.lemmas.List.{length-map}
use Rattle.std.proofs.lemmas.Option.{slice_get-map, slice_get_within}
use Rattle.rx_cert.specs.Conditions.{conditions, is_shown}
use Rattle.rx_cert.specs.Findings.{Said, Yes, No, Beyond, guard}
use Rattle.rx_cert.specs.declared.cert.Cert.{Cert}
use Rattle.rx_row.specs.declared.row.Row.{Row}
use Rattle.rx_term.specs.declared.rule.Equation.{Equation}
use Rattle.rx_term.specs.declared.rule.Rule.{Rule}
use Rattle.rx_term.specs.declared.rule_set.RuleParts.{RuleParts}
use Rattle.rx_term.proofs.Places.{from_end, from_nowhere, from_place}
use Rattle.rx_domain.specs.Answers.{Tells}
use Rattle.rx_domain.specs.Keeping.{Keeping, Keeps, Fails, KeptPart, goes_on, keeping, keeping_from, one_kept, part_finding, parts_kept, rule_part}
use Rattle.rx_domain.specs.declared.domain_end.DomainEnd.{DomainEnd}
use Rattle.rx_domain.specs.declared.domain_end.DomainEnd.TheVariants.{BadDomain, NotKept, Large, NoMemory}

-- ---- which part it is

-- beyond its end a list has no element
pub nothing_at : {A : Type 0} (xs : List A) (i : ℕ) → length xs ≤ i → slice_get xs i ≡ None
nothing_at [] i end = refl
nothing_at (x ∷ xs) zero end = absurd (omega (arith, end))
nothing_at (x ∷ xs) (suc i) end = nothing_at xs i (omega (arith, end))

-- what is found of the rule with that number, if it is there
abbrev pub rule_finding : RuleParts → List Cert → Option Rule → Said
rule_finding parts certs o =
    option_map_or (λ (p : KeptPart). part_finding p certs) (option_map (rule_part parts) o) No

-- a part that isn't the first is that of a rule
pub at_rule : (parts : RuleParts) (goal : Equation) (certs : List Cert) (k : ℕ) → (k ≡ 0 → ⊥) →
    one_kept parts goal k certs ≡ rule_finding parts certs (slice_get parts.rules (k - 1))
at_rule parts goal certs zero there = absurd (there refl)
at_rule parts goal certs (suc k) there =
    let before : k ≡ suc k - 1 = omega arith in
    ap (λ (o : Option KeptPart). option_map_or (λ (p : KeptPart). part_finding p certs) o No)
    (slice_get-map (rule_part parts) parts.rules k)
    ∙ ap (λ (i : ℕ). rule_finding parts certs (slice_get parts.rules i)) before

module _ (parts : RuleParts) (goal : Equation) (certs : List Cert) (k : ℕ) (there : k ≡ 0 → ⊥)
    (lent : List Rule) (is : lent ≡ parts.rules) where
  of_lent : one_kept parts goal k certs ≡ rule_finding parts certs (slice_get lent (k - 1))
  of_lent =
      at_rule parts goal certs k there ∙
      ap (λ (rs : List Rule). rule_finding parts certs (slice_get rs (k - 1))) (sym is)

  -- that of this rule, or of none
  pub of_rule : (rule : Rule) → slice_get lent (k - 1) ≡ Some rule →
      one_kept parts goal k certs ≡ part_finding (rule_part parts rule) certs
  of_rule rule e = of_lent ∙ ap (rule_finding parts certs) e

  pub of_none : length lent ≤ k - 1 → one_kept parts goal k certs ≡ No
  of_none end = of_lent ∙ ap (rule_finding parts certs) (nothing_at lent (k - 1) end)

-- ---- one turn

module _ (all : List KeptPart) (k : ℕ) (lists : List (List Cert)) (certs : List Cert)
    (next : slice_get lists k ≡ Some certs) where
  abbrev rest : Keeping
  rest = keeping_from (k + 1) (drop (k + 1) all) (drop (k + 1) lists)

  -- what is found of a part, if it is there
  abbrev pub found : Option KeptPart → Said
  found o = option_map_or (λ (p : KeptPart). part_finding p certs) o No

  by_part : (o : Option KeptPart) → slice_get all k ≡ o
      → keeping_from k (drop k all) (certs ∷ drop (k + 1) lists) ≡ goes_on k (found o) rest
  by_part None none =
      ap (λ (ps : List KeptPart). keeping_from k ps (certs ∷ drop (k + 1) lists))
      (from_nowhere all k none)
  by_part (Some p) some =
      ap (λ (ps : List KeptPart). keeping_from k ps (certs ∷ drop (k + 1) lists))
      (from_place all k p some)

  -- the part and the list of one turn decide, and then the others
  one_turn : keeping_from k (drop k all) (drop k lists) ≡ goes_on k (found (slice_get all k)) rest
  one_turn =
      ap (keeping_from k (drop k all)) (from_place lists k certs next) ∙
      by_part (slice_get all k) refl

  -- where the turn's answer is that the part is kept, the others decide
  pub turn_kept : goes_on k (found (slice_get all k)) Keeps ≡ Keeps →
      rest ≡ keeping_from k (drop k all) (drop k lists)
  turn_kept e = sym (one_turn ∙ by_found (found (slice_get all k)) e) where
    by_found : (said : Said) → goes_on k said Keeps ≡ Keeps → goes_on k said rest ≡ rest
    by_found Beyond e = cc
    by_found Yes e = refl
    by_found No e = cc

  -- and there is such a part
  pub turn_there : goes_on k (found (slice_get all k)) Keeps ≡ Keeps → k + 1 ≤ length all
  turn_there e = by_place (slice_get all k) refl e where
    by_place : (o : Option KeptPart) → slice_get all k ≡ o → goes_on k (found o) Keeps ≡ Keeps →
        k + 1 ≤ length all
    by_place None none e = cc
    by_place (Some p) some e = let h = slice_get_within all k p some in omega (arith, h)

  -- where it is another, that is the answer for all
  pub turn_ends : (e : DomainEnd) → Tells (goes_on k (found (slice_get all k)) Keeps) (Err e) →
      Tells (keeping_from k (drop k all) (drop k lists)) (Err e)
  turn_ends e told =
      subst (λ c. Tells c (Err e)) (sym one_turn) (by_found e (found (slice_get all k)) told)
    where
      by_found : (e : DomainEnd) (said : Said) → Tells (goes_on k said Keeps) (Err e) →
          Tells (goes_on k said rest) (Err e)
      by_found (BadDomain f) said told = told
      by_found (NotKept j) Beyond told = cc
      by_found (NotKept j) Yes told = cc
      by_found (NotKept j) No told = told
      by_found (Large j) Beyond told = told
      by_found (Large j) Yes told = cc
      by_found (Large j) No told = cc
      by_found NoMemory said told = tt

-- with no lists left, a part that is left is not kept
pub lists_end : (all : List KeptPart) (k : ℕ) → k < length all →
    keeping_from k (drop k all) [] ≡ Fails k
lists_end all k there = by_part (slice_get all k) refl where
  by_part : (o : Option KeptPart) → slice_get all k ≡ o → keeping_from k (drop k all) [] ≡ Fails k
  by_part None none = let no = from_end all k none in absurd (omega (arith, no, there))
  by_part (Some p) some =
      ap (λ (ps : List KeptPart). keeping_from k ps []) (from_place all k p some)

-- with neither parts nor lists left, all are kept
pub both_end : (parts : RuleParts) (goal : Equation) (lists : List (List Cert)) (k : ℕ) →
    keeping_from k (drop k (parts_kept parts goal)) (drop k lists) ≡ keeping parts goal lists →
    length lists ≤ k → length parts.rules < length lists → keeping parts goal lists ≡ Keeps
both_end parts goal lists k decides end more =
    let all = parts_kept parts goal in
    let count = length-map parts.rules (rule_part parts) in
    let none : drop k all ≡ [] = drop_of_length-le all (omega (arith, count, end, more)) in
    sym decides ∙ ap (keeping_from k (drop k all)) (drop_of_length-le lists end) ∙
    ap (λ (ps : List KeptPart). keeping_from k ps []) none

-- ---- one part

-- rows that are formed within the limits, from the given ones, are what is found of the part
pub part_is : (p : KeptPart) (certs : List Cert) (given asked : List Row) → given ≡ p.given →
    (asked ≡ p.asked.form) × (p.asked.within ≡ true) →
    is_shown (conditions given (Some asked) certs) ≡ part_finding p certs
part_is p certs given asked e f =
    (λ i. is_shown (conditions (e i) (Some (f.0 i)) certs)) ∙
    ap (λ (b : Bool). guard b (is_shown (conditions p.given (Some p.asked.form) certs))) (sym f.1)
