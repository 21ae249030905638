-- What answers about the rows of a column say.
use Rattle.std.proofs.Common.{◌≡◌, ◌∙◌, ap, sym, subst, refl, ◌≤◌, true, false, List, [], ◌∷◌, Result, Ok, Err, IfOk}
use Rattle.std.proofs.lemmas.Bool.{and_from}
use Rattle.std.proofs.lemmas.List.Elements.{All-nil}
use Rattle.rx_cert.proofs.FindingLaws.{and_yes}
use Rattle.rx_plain.specs.Formed.{Formed}
use Rattle.rx_poly.specs.declared.body.Body.{Body}
use Rattle.rx_row.specs.declared.row.Row.{Row}
use Rattle.rx_row.specs.declared.row.Row.TheVariants.{Ge}
use Rattle.rx_cert.specs.Depth.{cert_depth}
use Rattle.rx_cert.specs.Findings.{Said, Yes, No, Beyond, and_also, guard}
use Rattle.rx_cert.specs.Showing.{all_shown, shown}
use Rattle.rx_cert.specs.Variables.{cert_passes}
use Rattle.rx_cert.specs.declared.cert.Cert.{Cert}
use Rattle.rx_solve.specs.Answers.{AreCertificates, one_formed}
use Rattle.rx_solve.specs.Refuter.{refuted}
use Rattle.rx_solve.specs.Shown.{IsAllShown}
use Rattle.rx_solve.specs.declared.showing.AllShown.{AllShown}
use Rattle.rx_solve.specs.declared.showing.AllShown.TheVariants.{Shown, NotShown, TooLarge}
use Rattle.rx_pairs.specs.Columns.{at_left, falls_rows}
use Rattle.rx_pairs.specs.declared.pair.Pair.{Pair}
use Rattle.rx_rank.proofs.Certified.{certificates_append}
use Rattle.rx_rank.specs.Answers.{IsProved, IsTold, joined}
use Rattle.rx_rank.specs.PairTests.{falls, less_by_one, not_negative, row_said}

module _ (pair : Pair) where
  -- rows that keep the limits
  pub known_rows : (rows : Formed (List Row)) (list : List Row) (a : AllShown) → list ≡ rows.form →
      rows.within ≡ true → IsAllShown pair.phi list a
      → IsTold (guard rows.within (all_shown refuted pair.phi rows.form)) pair rows a
  known_rows rows list (Shown certs) is keeps told =
      let t = subst (λ rs. IsAllShown pair.phi rs (Shown certs)) is told in (
        ap (λ b. guard b (all_shown refuted pair.phi rows.form)) keeps ∙ t.0,
        record { within = keeps; certified = t.1 },
      )
  known_rows rows list NotShown is keeps told =
      ap (λ b. guard b (all_shown refuted pair.phi rows.form)) keeps ∙
      subst (λ rs. all_shown refuted pair.phi rs ≡ No) is told
  known_rows rows list TooLarge is keeps told =
      ap (λ b. guard b (all_shown refuted pair.phi rows.form)) keeps ∙
      subst (λ rs. all_shown refuted pair.phi rs ≡ Beyond) is told

  -- no rows
  no_certificates : AreCertificates 174 pair.phi [] []
  no_certificates = record {
    shows = refl;
    deep = All-nil (λ (cert : Cert). cert_depth cert ≤ 174);
    own_variables = λ test h g. All-nil (λ (cert : Cert). cert_passes test cert ≡ true);
  }

  pub known_none : (rows : Formed (List Row)) → [] ≡ rows.form → rows.within ≡ true →
      IsTold (guard rows.within (all_shown refuted pair.phi rows.form)) pair rows (Shown [])
  known_none rows is keeps = known_rows rows [] (Shown []) is keeps (refl, no_certificates)

  -- rows that pass them
  pub beyond_rows : (rows : Formed (List Row)) → rows.within ≡ false →
      guard rows.within (all_shown refuted pair.phi rows.form) ≡ Beyond
  beyond_rows rows passes = ap (λ b. guard b (all_shown refuted pair.phi rows.form)) passes

  -- one row
  pub known_row : (row : Formed Row) (it : Row) (a : AllShown) → it ≡ row.form → row.within ≡ true →
      IsAllShown pair.phi (it ∷ []) a → IsTold (row_said pair row) pair (one_formed row) a
  known_row row it a is keeps told =
      subst (λ s. IsTold (guard row.within s) pair (one_formed row) a)
      (and_yes (shown refuted pair.phi row.form))
      (known_rows (one_formed row) (it ∷ []) a (ap (λ r. r ∷ []) is) keeps told)

  pub beyond_row : (row : Formed Row) → row.within ≡ false → row_said pair row ≡ Beyond
  beyond_row row passes = ap (λ b. guard b (shown refuted pair.phi row.form)) passes

  module _ (p q : Body) where
    abbrev first : Formed Row
    first = not_negative pair p

    abbrev second : Formed Row
    second = less_by_one pair (at_left pair p).form q

    -- the first row isn't shown
    pub not_first : (s : Said) → row_said pair first ≡ s → (s ≡ Yes → ⊥) → falls pair p q ≡ s
    not_first Yes is other = absurd (other refl)
    not_first No is other = ap (λ s. and_also s (row_said pair second)) is
    not_first Beyond is other = ap (λ s. and_also s (row_said pair second)) is

    -- it is, and the second decides
    pub falls_second : row_said pair first ≡ Yes → falls pair p q ≡ row_said pair second
    falls_second is = ap (λ s. and_also s (row_said pair second)) is

    pub known_falls : (certs : List Cert) (later : AllShown) → row_said pair first ≡ Yes →
        IsProved pair (one_formed first) certs →
        IsTold (row_said pair second) pair (one_formed second) later
        → IsTold (falls pair p q) pair (falls_rows pair p q) (joined certs later)
    known_falls certs (Shown more) is proved told = (
      falls_second is ∙ told.0,
      record {
        within = and_from first.within second.within proved.within told.1.within;
        certified =
            certificates_append pair.phi 174 (first.form ∷ []) (second.form ∷ []) certs more
            proved.certified told.1.certified;
      },
    )
    known_falls certs NotShown is proved told = falls_second is ∙ told
    known_falls certs TooLarge is proved told = falls_second is ∙ told

    pub falls_known : {E : Type 0} (here : Body) (certs : List Cert) (later : AllShown)
        (r : Result AllShown E) → here ≡ (at_left pair p).form → (at_left pair p).within ≡ true
        → IsAllShown pair.phi (Ge here ∷ []) (Shown certs) →
        IsTold (row_said pair (less_by_one pair here q)) pair
        (one_formed (less_by_one pair here q)) later
        → IfOk r (λ a. a ≡ joined certs later) →
        IfOk r (IsTold (falls pair p q) pair (falls_rows pair p q))
    falls_known here certs later (Err e) is keeps one two made = tt
    falls_known here certs later (Ok a) is keeps one two made =
        let t = known_row first (Ge here) (Shown certs) (ap Ge is) keeps one in
        subst (IsTold (falls pair p q) pair (falls_rows pair p q)) (sym made)
        (known_falls certs later t.0 t.1 (subst
        (λ l. IsTold (row_said pair (less_by_one pair l q)) pair
        (one_formed (less_by_one pair l q)) later) is two))
