-- What a solver shows of groups of rows: each under the rows that it is given, and the certificates
-- of all one after the other.
use Rattle.std.proofs.Common.{◌≡◌, ◌∙◌, ap, subst, sym, refl, arith, cond, Option, Some, None, List, [], ◌∷◌, ◌++◌, ℕ, ◌+◌, ◌<◌, ◌≤◌, length, take, drop, get_or}
use Rattle.std.specs.Prelude.{All, ◌==◌}
use Rattle.std.proofs.lemmas.Bool.{eq-eqb}
use Rattle.std.proofs.Math.Seq.{drop-append_seam, take-append_seam}
use Rattle.std.proofs.lemmas.List.{append-nil, append_assoc, drop_more, length-append}
use Rattle.std.proofs.lemmas.List.Elements.{All-append, All-nil}
use Rattle.rx_cert.proofs.ConditionLaws.{conditions_parts, renumbered}
use Rattle.rx_cert.specs.Conditions.{asked_for, in_order}
use Rattle.rx_cert.specs.Depth.{cert_depth}
use Rattle.rx_cert.specs.Findings.{No, Beyond, Said, and_also}
use Rattle.rx_cert.specs.Showing.{all_shown}
use Rattle.rx_cert.specs.declared.cert.Cert.{Cert}
use Rattle.rx_cert.specs.declared.conditions.ConditionsAnswer.{ConditionsAnswer}
use Rattle.rx_cert.specs.declared.conditions.ConditionsAnswer.TheVariants as answer
use Rattle.rx_row.specs.declared.row.Row.{Row}
use Rattle.rx_solve.specs.Refuter.{refuted}
use Rattle.rx_solve.specs.Shown.{IsAllShown}
use Rattle.rx_solve.specs.declared.showing.AllShown.TheVariants as all
use Rattle.rx_inference.specs.Judging.{asked_by, asked_by_all, given_to, groups_in_order, of_conditions, then_later}
use Rattle.rx_inference.specs.declared.formed_step.Asked.TheVariants.{Rows}
use Rattle.rx_inference.specs.declared.formed_step.Group.{Group}
use Rattle.rx_moves.specs.Parts.{IsAskedShown, ShownBy}
use Rattle.rx_moves.specs.Trying.{asked_shown, groups_shown}

abbrev IsDeep : Cert → Type 0
IsDeep cert = cert_depth cert ≤ 174

-- the first group is shown, and so are the others
both_shown : (o later : Option ConditionsAnswer) → then_later o later ≡ Some answer.Shown →
    (o ≡ Some answer.Shown) × (later ≡ Some answer.Shown)
both_shown None later e = cc
both_shown (Some answer.Shown) later e = (refl, e)
both_shown (Some answer.WrongCount) later e = cc
both_shown (Some (answer.NotShown i)) later e = cc

module _ (old new : List Row) where
  abbrev ShownFrom : ℕ → List Group → List Cert → Type 0
  ShownFrom i gs certs = groups_in_order old new i gs certs ≡ Some answer.Shown

  -- groups that are shown are shown whatever the number of the first row
  numbered_on : (gs : List Group) (i j : ℕ) (certs : List Cert) → ShownFrom i gs certs →
      ShownFrom j gs certs
  numbered_on [] i j certs e = refl
  numbered_on (g ∷ gs) i j certs e =
      let n = asked_by old new g in
      let given = given_to old new g.under in
      let both = both_shown (in_order i given g.rows (take n certs))
      (groups_in_order old new (i + length g.rows) gs (drop n certs)) e in
      ap (λ o. then_later o (groups_in_order old new (j + length g.rows) gs (drop n certs)))
      (renumbered given g.rows i j (take n certs) both.0)
      ∙ numbered_on gs (i + length g.rows) (j + length g.rows) (drop n certs) both.1

  -- the first group is shown by its certificates, and the others by those after them
  with_first : (g : Group) (gs : List Group) (own more : List Cert) →
      length own ≡ asked_by old new g →
      in_order 0 (given_to old new g.under) g.rows own ≡ Some answer.Shown →
      ShownFrom 0 gs more → ShownFrom 0 (g ∷ gs) (own ++ more)
  with_first g gs own more count shown later =
      let taken : take (asked_by old new g) (own ++ more) ≡ own =
      ap (λ n. take n (own ++ more)) (sym count) ∙ take-append_seam own more in
      let left : drop (asked_by old new g) (own ++ more) ≡ more =
      ap (λ n. drop n (own ++ more)) (sym count) ∙ drop-append_seam own more in
      ap (λ cs. then_later (in_order 0 (given_to old new g.under) g.rows cs)
      (groups_in_order old new (0 + length g.rows) gs (drop (asked_by old new g) (own ++ more))))
      taken
      ∙ ap (λ o. then_later o (groups_in_order old new (0 + length g.rows) gs
      (drop (asked_by old new g) (own ++ more)))) shown
      ∙ ap (groups_in_order old new (0 + length g.rows) gs) left
      ∙ numbered_on gs 0 (0 + length g.rows) more later

  -- the groups so far are shown by those certificates, and the rest decides
  pub record SoFar (gs : List Group) (certs : List Cert) (rest : List Group) : Type 0 where
    pub said : groups_shown old new gs ≡ groups_shown old new rest
    pub order : (more : List Cert) → ShownFrom 0 rest more → ShownFrom 0 gs (certs ++ more)
    pub count : asked_by_all old new gs ≡ length certs + asked_by_all old new rest
    pub deep : All IsDeep certs

  pub begun : (gs : List Group) → SoFar gs [] gs
  begun gs = record {
    said = refl;
    order = λ more shown. shown;
    count = omega arith;
    deep = All-nil IsDeep;
  }

  -- all groups are shown
  pub all_groups : (gs : List Group) (certs : List Cert) → SoFar gs certs [] →
      IsAskedShown old new (Rows gs) (all.Shown certs)
  unfolding asked_shown ShownBy
  all_groups gs certs so =
      let whole = so.count in
      let count : length certs ≡ asked_by_all old new gs = omega (arith, whole) in
      record {
        said = so.said;
        shows =
            ap (λ b. of_conditions (cond b (groups_in_order old new 0 gs certs)
            (Some answer.WrongCount))) (eq-eqb (length certs) (asked_by_all old new gs) count)
            ∙ ap of_conditions (ap (groups_in_order old new 0 gs) (sym (append-nil certs))
            ∙ so.order [] refl);
        deep = so.deep;
      }

  -- a group of the list, at its place, with the rows that it is given and that it asks
  module _ (gs : List Group) (i : ℕ) (g : Group) (given rows : List Row) (certs : List Cert)
      (below : i < length gs) (is : g ≡ get_or gs i g) (under : given ≡ given_to old new g.under)
      (its : rows ≡ g.rows) (so : SoFar gs certs (drop i gs)) where
    from_here : drop i gs ≡ g ∷ drop (i + 1) gs
    from_here = drop_more gs i g below ∙ ap (λ (x : Group). x ∷ drop (i + 1) gs) (sym is)

    so_here : SoFar gs certs (g ∷ drop (i + 1) gs)
    so_here = subst (SoFar gs certs) from_here so

    all_said : all_shown refuted given rows ≡ all_shown refuted (given_to old new g.under) g.rows
    all_said = λ k. all_shown refuted (under k) (its k)

    said_so : (said : Said) → all_shown refuted given rows ≡ said →
        groups_shown old new gs ≡ and_also said (groups_shown old new (drop (i + 1) gs))
    said_so said found =
        so_here.said ∙ ap (λ s. and_also s (groups_shown old new (drop (i + 1) gs)))
        (sym all_said ∙ found)

    -- it is shown, with more certificates
    pub one_more : (own after : List Cert) → after ≡ certs ++ own →
        IsAllShown given rows (all.Shown own) → SoFar gs after (drop (i + 1) gs)
    one_more own after made shown =
        let parts = conditions_parts given rows own shown.1.shows in
        let count : length own ≡ asked_by old new g =
        parts.0 ∙ (λ k. asked_for (under k) (its k)) in
        let first : in_order 0 (given_to old new g.under) g.rows own ≡ Some answer.Shown =
        (λ k. in_order 0 (sym under k) (sym its k) own) ∙ parts.1 in
        subst (λ cs. SoFar gs cs (drop (i + 1) gs)) (sym made) (record {
          said = said_so _ shown.0;
          order =
              λ more later. ap (groups_in_order old new 0 gs) (append_assoc certs own more)
              ∙ so_here.order (own ++ more)
              (with_first g (drop (i + 1) gs) own more count first later);
          count =
              let whole = so_here.count in
              let longer = length-append certs own in
              omega (arith, whole, longer, count);
          deep = All-append IsDeep certs own so_here.deep shown.1.deep;
        })

    -- it isn't
    pub none_here : all_shown refuted given rows ≡ No →
        IsAskedShown old new (Rows gs) all.NotShown
    unfolding asked_shown
    none_here found = said_so No found

    -- something passes the limits
    pub beyond_here : all_shown refuted given rows ≡ Beyond →
        IsAskedShown old new (Rows gs) all.TooLarge
    unfolding asked_shown
    beyond_here found = said_so Beyond found
