-- Moves that are tried one after the other on a goal: the first that applies decides, with what was
-- noted before.
use Rattle.std.proofs.Common.{◌≡◌, ◌∙◌, ap, subst, sym, Bool, true, false, ◌||◌, Option, Some, None, [], ◌∷◌}
use Rattle.std.specs.Prelude.{Ok, Err, is_some}
use Rattle.rx_solve.specs.Attempts.{Tried, beyond, fails, first_applying, made_or}
use Rattle.rx_term.specs.declared.rule_set.RuleParts.{RuleParts}
use Rattle.rx_inference.specs.States.{State}
use Rattle.rx_moves.specs.Answers.{Gives, IsFound, IsUnready}
use Rattle.rx_moves.specs.Trying.{Next, noting}
use Rattle.rx_moves.specs.declared.found.Found.{Found}
use Rattle.rx_moves.specs.declared.found.Ready.{Ready}
use Rattle.rx_moves.proofs.TriedLaws.{one_tried, some_by}

module _ (parts : RuleParts) (state : State) where
  -- what is found of equal things
  pub found_of : (tried other : Tried Next) (f : Found) → tried ≡ other →
      IsFound parts state tried f → IsFound parts state other f
  found_of tried other f e is = subst (λ t. IsFound parts state t f) e is

  -- nothing applies
  pub failed_found : (tried : Tried Next) (f : Found) → tried ≡ fails → f ≡
      record { ready = None; noted = false } → IsFound parts state tried f
  failed_found tried f e is =
      subst (λ u. IsFound parts state tried u) (sym is)
      (record {
        noted = sym (ap (λ (t : Tried Next). t.noted) e);
        gives = ap (λ (t : Tried Next). t.made) e;
      })

  -- something passes the limits
  pub beyond_found : (tried : Tried Next) (f : Found) → tried ≡ beyond → f ≡
      record { ready = None; noted = true } → IsFound parts state tried f
  beyond_found tried f e is =
      subst (λ u. IsFound parts state tried u) (sym is)
      (record {
        noted = sym (ap (λ (t : Tried Next). t.noted) e);
        gives = ap (λ (t : Tried Next). t.made) e;
      })

  module _ (first : Tried Next) (t : Found) (is : IsFound parts state first t) where
    gives_by : (o : Option Ready) → t.ready ≡ o → Gives parts state first.made o
    gives_by o e = subst (λ x. Gives parts state first.made x) e is.gives

    pub none_made : t.ready ≡ None → first.made ≡ None
    none_made e = gives_by None e

    -- a move applies: what comes later isn't tried
    pub first_found : (later : Tried Next) (r : Ready) → t.ready ≡ Some r →
        IsFound parts state (made_or first.made first.noted later) t
    first_found later r e =
        let made = (gives_by (Some r) e).0 in
        let whole : made_or first.made first.noted later ≡ first =
        ap (λ m. made_or m first.noted later) made ∙
        sym (ap (λ m. let u : Tried Next = record { made = m; noted = first.noted } in u) made) in
        subst (λ x. IsFound parts state x t) (sym whole) is

    -- what comes later decides
    pub later_is : (later : Tried Next) → t.ready ≡ None → made_or first.made first.noted later ≡
        noting t.noted later
    later_is later e =
        ap (λ m. made_or m first.noted later) (none_made e) ∙
        ap (λ n. noting n later) (sym is.noted)

    -- two things: the first applies
    pub two_first : (second : Tried Next) (same : Found) → IsUnready t (Err same) →
        IsFound parts state (first_applying (first ∷ second ∷ [])) same
    two_first second same e =
        let set : is_some t.ready ≡ true = sym (ap (λ (x : Found). is_some x.ready) e.0) ∙ e.1 in
        let some = some_by t.ready set in
        subst (λ x. IsFound parts state (first_applying (first ∷ second ∷ [])) x) (sym e.0)
        (first_found (first_applying (second ∷ [])) some.0 some.1)

    -- it doesn't, and the second decides
    pub two_second : (second : Tried Next) (u v : Found) (noted : Bool) → IsUnready t (Ok noted) →
        IsFound parts state second u → v ≡ record { ready = u.ready; noted = noted || u.noted } →
        IsFound parts state (first_applying (first ∷ second ∷ [])) v
    two_second second u v noted e more same =
        let none : t.ready ≡ None = ap (λ (x : Found). x.ready) e in
        let whole : noting noted second ≡ first_applying (first ∷ second ∷ []) =
        ap (noting noted) (sym (one_tried second))
        ∙ ap (λ (x : Found). noting x.noted (first_applying (second ∷ []))) (sym e)
        ∙ sym (later_is (first_applying (second ∷ [])) none) in
        subst (λ x. IsFound parts state (first_applying (first ∷ second ∷ [])) x) (sym same)
        (subst (λ x. IsFound parts state x (record { ready = u.ready; noted = noted || u.noted }))
        whole (record { noted = ap (λ n. noted || n) more.noted; gives = more.gives }))
