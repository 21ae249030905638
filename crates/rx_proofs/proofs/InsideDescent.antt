-- Inside the domains each step by rules and hypotheses all of whose pairs there are lower makes the
-- weight of a term smaller.
use Rattle.std.proofs.Common.{◌≡◌, ◌∙◌, ap, sym, subst, arith, inl, inr, ℕ, true, false, Option, None, List, [], ◌∷◌, ◌++◌, length, map, All, Contains, ℤ}
use Rattle.std.specs.Option.{option_map_or}
use Rattle.std.proofs.lemmas.Bool.{and_parts}
use Rattle.std.proofs.lemmas.List.Elements.{All-append, All-contains, All-nil}
use Rattle.rx_plain.proofs.Kept.{first_one, first_or_other, other_one}
use Rattle.rx_plain.specs.Formed.{pure}
use Rattle.rx_row.specs.Holds.{AllHold, RowHolds}
use Rattle.rx_rewriting.proofs.SmallerWeights.{lowers_under_frames}
use Rattle.rx_rewriting.specs.Premises.{Lowers}
use Rattle.rx_rewriting.specs.Ranks.{weight_of}
use Rattle.rx_rewriting.specs.Steps.{Either, Here}
use Rattle.rx_rewriting.specs.Terms.{Ground}
use Rattle.rx_term.proofs.Equations.{ACall, AFail, AFrame, AReturn, Form, fits-Call, fits-Frame, form, ground-Call, ground-Frame}
use Rattle.rx_term.specs.Domains.{IsInside, MeetsDomains, are_domains, rows_at}
use Rattle.rx_term.specs.Fitting.{is_declared, term_fits}
use Rattle.rx_term.specs.Meaning.{Instance, ground_at}
use Rattle.rx_term.specs.WellMade.{IsWellMade}
use Rattle.rx_term.specs.declared.rule.Rule.{Rule}
use Rattle.rx_term.specs.declared.rule_set.RuleParts.{RuleParts}
use Rattle.rx_term.specs.declared.term.Term.{Term}
use Rattle.rx_term.specs.declared.term.Term.TheVariants.{outs-Call, outs-Fail, outs-Frame, outs-Return}
use Rattle.rx_domain.proofs.Inside.{below_count, inside_inner, rows_hold}
use Rattle.rx_pairs.proofs.InsideLaws.{bounded_descend}
use Rattle.rx_pairs.proofs.Lowered.{made_fit}
use Rattle.rx_pairs.specs.Inside.{bounded, descends_in, root_rows}
use Rattle.rx_pairs.specs.Listed.{root_part_level, root_part_of}
use Rattle.rx_pairs.specs.Lowering.{Descends}
use Rattle.rx_pairs.specs.Pairs.{HasRoot, Part, SidesFit}
use Rattle.rx_pairs.specs.Ranks.{bad_rank, rank_of}
use Rattle.rx_pairs.specs.declared.pair_cert.PairCert.{PairCert}
use Rattle.rx_pairs.specs.declared.table.RankTable.{RankTable}

-- what a function makes of an element is among what it makes of all
contains_made : {A B : Type 0} (f : A → B) (xs : List A) (x : A) → Contains xs x →
    Contains (map f xs) (f x)
contains_made {A} f [] x among = absurd (none x among) where
  none : (x : A) → Contains [] x → ⊥
  none x (k, below, is) = omega (arith, below)
contains_made f (y ∷ ys) x among = elim (first_or_other y ys x among) [
  | inl same ↦ subst (λ z. Contains (map f (y ∷ ys)) (f z)) same (first_one (f y) (map f ys))
  | inr other ↦ other_one (f y) (map f ys) (f x) (contains_made f ys x other)
]

module _ (parts : RuleParts) (good : are_domains parts.symbols parts.domains ≡ true) (a : ℕ → ℤ)
  where
    -- the domain of the root's symbol holds at its arguments
    abbrev RootHolds : Option Part → Type 0
    RootHolds o =
        AllHold a (option_map_or (λ (r : Part). rows_at parts r.symbol.0 r.arguments) o
        (pure [])).form

    -- so it is where a fitting term meets the domains
    root_meets : (t : Term) → Form t → term_fits parts t ≡ true →
        MeetsDomains parts (ground_at a t) → RootHolds (root_part_of t)
    root_meets _ (AReturn p) fits meets =
        subst RootHolds (sym (ap root_part_level (outs-Return p))) (All-nil (RowHolds a))
    root_meets _ (AFail c) fits meets =
        subst RootHolds (sym (ap root_part_level (outs-Fail c))) (All-nil (RowHolds a))
    root_meets _ (ACall f ps) fits meets =
        subst RootHolds (sym (ap root_part_level (outs-Call f ps)))
        (rows_hold parts a f.0 ps
        (below_count parts good f false (length ps) (sym (fits-Call parts f ps) ∙ fits))
        (subst (MeetsDomains parts) (ground-Call a f ps) meets))
    root_meets _ (AFrame f ps t) fits meets =
        subst RootHolds (sym (ap root_part_level (outs-Frame f ps t)))
        (rows_hold parts a f.0 ps
        (below_count parts good f true (length ps)
        (and_parts (is_declared parts.symbols f true (length ps)) (term_fits parts t)
        (sym (fits-Frame parts f ps t) ∙ fits)).0)
        (subst (MeetsDomains parts) (ground-Frame a f ps t) meets).0)

-- an instance of a rule at a term inside is one of the rule under the domain of its left root
bounded_instance : (parts : RuleParts) → are_domains parts.symbols parts.domains ≡ true →
    (rules : List Rule) → All (SidesFit parts) rules → (s t : Ground) → IsInside parts s →
    Instance rules s t → Instance (map (bounded parts) rules) s t
bounded_instance parts good rules fit s t inside one =
    let fits = All-contains (SidesFit parts) rules one.rule fit one.among in record {
      rule = bounded parts one.rule;
      among = contains_made (bounded parts) rules one.rule one.among;
      at = one.at;
      holds =
          All-append (RowHolds one.at) one.rule.rows (root_rows parts one.rule).form one.holds
          (root_meets parts good one.at one.rule.left (form one.rule.left) fits.0
          (subst (MeetsDomains parts) one.left inside.1));
      left = one.left;
      right = one.right;
    }

-- so each step from a term inside makes its weight smaller
pub inside_descend : (parts : RuleParts) (hypotheses : List Rule) (table : RankTable)
    (certs : List PairCert) → IsWellMade parts → are_domains parts.symbols parts.domains ≡ true →
    All HasRoot hypotheses → All (SidesFit parts) hypotheses → bad_rank parts table ≡ None →
    descends_in parts (parts.rules ++ hypotheses) table certs ≡ Descends →
    Lowers (weight_of (rank_of table)) (IsInside parts)
    (Either (Instance parts.rules) (Instance hypotheses))
inside_descend parts hypotheses table certs made good roots fit lawful descends =
    let lowers = bounded_descend parts hypotheses table certs made roots fit lawful descends in
    let rules_fit = made_fit parts parts.rules made in
    lowers_under_frames (rank_of table) (IsInside parts)
    (Either (Instance parts.rules) (Instance hypotheses)) (inside_inner parts)
    (λ s t inside one. elim one [
      | inl rule ↦ lowers s t inside.0 (Here (inl (bounded_instance parts good parts.rules rules_fit
          s t inside rule)))
      | inr hypothesis ↦ lowers s t inside.0 (Here (inr (bounded_instance parts good hypotheses fit
          s t inside hypothesis)))
    ])
