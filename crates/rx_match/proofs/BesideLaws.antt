-- What the other side of a goal sets, one thing after the other.
use Rattle.std.proofs.Common.{◌≡◌, ◌∙◌, ap, subst, sym, refl, cond, ℕ, Bool, true, false, ◌&&◌, Result, List}
use Rattle.rx_plain.specs.Formed.{Formed, Forms, pure, ◌>>=◌}
use Rattle.rx_plain.proofs.Forming.{then_false, then_true}
use Rattle.rx_poly.specs.declared.body.Body.{Body}
use Rattle.rx_term.specs.declared.rule.Rule.{Rule}
use Rattle.rx_match.specs.Beside.{where_unset}
use Rattle.rx_match.specs.Settings.{is_set}
use Rattle.rx_match.specs.Variables.{rule_passes}

-- what is formed so forms what it equals
pub forms_same : {A E : Type 0} (large : E) (r : Result A E) (f g : Formed A) → f ≡ g →
    Forms large r f → Forms large r g
forms_same large r f g e h = subst (λ x. Forms large r x) e h

-- where nothing is unset, nothing is set
all_set : (hypothesis : Rule) (ws : List (ℕ × Body))
    (set : List (ℕ × Body) → Formed (List (ℕ × Body))) →
    rule_passes (is_set ws) hypothesis ≡ true → where_unset hypothesis set ws ≡ pure ws
all_set hypothesis ws set e = ap (λ b. cond b (pure ws) (set ws)) e

-- ---- both matchings

and_true : (b : Bool) → (b && true) ≡ b
and_true true = refl
and_true false = refl

-- where nothing is unset nothing more is set
pub nothing_unset : (hypothesis : Rule) (settings : Formed (List (ℕ × Body)))
    (one other : List (ℕ × Body) → Formed (List (ℕ × Body))) →
    rule_passes (is_set settings.form) hypothesis ≡ true →
    (settings >>= (λ ws. where_unset hypothesis one ws >>= where_unset hypothesis other)) ≡ settings
nothing_unset hypothesis settings one other e =
    let nothing : (where_unset hypothesis one settings.form >>= where_unset hypothesis other) ≡
    pure settings.form =
    ap (λ (f : Formed (List (ℕ × Body))). f >>= where_unset hypothesis other)
    (all_set hypothesis settings.form one e)
    ∙ all_set hypothesis settings.form other e in
    ap (λ (f : Formed (List (ℕ × Body))).
    let g : Formed (List (ℕ × Body)) = record {
      form = f.form;
      within = settings.within && f.within;
    } in g) nothing
    ∙ (λ i. record { form = settings.form; within = and_true settings.within i })

-- ---- one after the other

module _ (hypothesis : Rule) (settings : Formed (List (ℕ × Body)))
    (one other : List (ℕ × Body) → Formed (List (ℕ × Body))) where
  abbrev more : List (ℕ × Body) → Formed (List (ℕ × Body))
  more ws = where_unset hypothesis one ws >>= where_unset hypothesis other

  abbrev whole : Formed (List (ℕ × Body))
  whole = settings >>= more

  -- what the part alone sets passes the limits
  pub alone_beyond : settings.within ≡ false → whole.within ≡ false
  alone_beyond g = then_false settings more g

  module _ (ws : List (ℕ × Body)) (e : ws ≡ settings.form) (g : settings.within ≡ true) where
    after_alone : whole ≡ more ws
    after_alone = then_true settings more g ∙ ap more (sym e)

    -- what the part beside sets passes them
    pub beside_beyond : (where_unset hypothesis one ws).within ≡ false → whole.within ≡ false
    beside_beyond b =
        ap (λ (f : Formed (List (ℕ × Body))). f.within) after_alone
        ∙ then_false (where_unset hypothesis one ws) (where_unset hypothesis other) b

    -- the result decides
    pub result_last : {E : Type 0} (large : E) (r : Result (List (ℕ × Body)) E)
        (vs : List (ℕ × Body)) → vs ≡ (where_unset hypothesis one ws).form →
        (where_unset hypothesis one ws).within ≡ true →
        Forms large r (where_unset hypothesis other vs) → Forms large r whole
    result_last large r vs f b h =
        forms_same large r (where_unset hypothesis other vs) whole
        (sym (after_alone
        ∙ then_true (where_unset hypothesis one ws) (where_unset hypothesis other) b
        ∙ ap (where_unset hypothesis other) (sym f))) h
