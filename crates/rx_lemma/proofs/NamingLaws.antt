-- Naming goes on place by place.
use Rattle.std.proofs.Common.{◌≡◌, ◌∙◌, ap, sym, Bool, true, false, ℕ, suc, ◌+◌, ◌-◌, ◌<◌, Option, Some, None, Ok, List, [], ◌∷◌, ◌++◌, ℤ, arith}
use Rattle.std.specs.Prelude.{if◌then◌else◌}
use Rattle.rx_plain.specs.Formed.{Formed}
use Rattle.rx_poly.specs.Constants.{number}
use Rattle.rx_poly.specs.declared.body.Body.{Body}
use Rattle.rx_row.specs.Membership.{pushed}
use Rattle.rx_row.specs.declared.row.Row.{Row}
use Rattle.rx_term.specs.declared.rule.Equation.{Equation}
use Rattle.rx_solve.specs.Attempts.{Tried, applies, beyond, fails}
use Rattle.rx_inference.specs.declared.step.Side.{Side}
use Rattle.rx_lemma.specs.Naming.{Answers, and_then, goal_with, named_new, naming_at, naming_from, where_formed}
use Rattle.rx_lemma.specs.declared.constants.Naming.{Naming}

module _ (side : Side) (place count : ℕ) (n : Naming) where
  -- a place, and then those after it
  turn : place < count → naming_from side place (count - place) n ≡
      and_then (naming_at side place n) (naming_from side (place + 1) (count - (place + 1)))
  unfolding naming_from
  turn h =
      let more : count - place ≡ suc (count - (place + 1)) = omega arith in
      ap (λ k. naming_from side place k n) more

  -- the place applies: what comes after it decides
  pub place_applies : (m : Naming) → place < count → naming_at side place n ≡ applies m
      → naming_from side place (count - place) n ≡
      naming_from side (place + 1) (count - (place + 1)) m
  place_applies m h e =
      turn h ∙ ap (λ (t : Tried Naming). and_then t
      (naming_from side (place + 1) (count - (place + 1)))) e

  -- it doesn't
  pub place_fails : place < count → naming_at side place n ≡ fails →
      naming_from side place (count - place) n ≡ fails
  place_fails h e =
      turn h ∙ ap (λ (t : Tried Naming). and_then t
      (naming_from side (place + 1) (count - (place + 1)))) e

  -- something passes the limits
  pub place_beyond : place < count → naming_at side place n ≡ beyond →
      naming_from side place (count - place) n ≡ beyond
  place_beyond h e =
      turn h ∙ ap (λ (t : Tried Naming). and_then t
      (naming_from side (place + 1) (count - (place + 1)))) e

-- after the last place nothing changes
pub no_more_places : (side : Side) (place count : ℕ) (n : Naming) → count - place ≡ 0 →
    naming_from side place (count - place) n ≡ applies n
unfolding naming_from
no_more_places side place count n e = ap (λ k. naming_from side place k n) e

-- what is formed decides
pub decided : {A : Type 0} (f : Formed Bool) (known : Bool) (there new : Tried A) → known ≡ f.form →
    f.within ≡ true
    → where_formed f (λ y. if y then there else new) ≡ (if known then there else new)
decided f known there new e w =
    ap (λ (t : Bool). if t then (if f.form then there else new) else beyond) w ∙
    ap (λ (t : Bool). if t then there else new) (sym e)

-- the parts of what a new variable makes
pub named_made : (side : Side) (place : ℕ) (c : ℤ) (r : Row) (n : Naming) (goal : Equation)
    (rows : List Row) (ws : List (ℕ × Body))
    → goal ≡ goal_with side place n.fresh n.goal → rows ≡ pushed goal.rows r → ws ≡ n.subst ++
    (n.fresh, number c) ∷ []
    → ◌≡◌ {A = Naming} (record {
      goal = record
          { left = goal.left; right = goal.right; rows = rows };
      subst = ws;
      fresh = n.fresh + 1;
    })
    (named_new side place c r n)
named_made side place c r n goal rows ws same more added =
    let all : rows ≡ pushed (goal_with side place n.fresh n.goal).rows r = more ∙
    ap (λ (g : Equation). pushed g.rows r) same in
    (λ i. record {
      goal = record { left = (same i).left; right = (same i).right; rows = all i };
      subst = added i;
      fresh = n.fresh + 1;
    })

-- what an answer says, by what it is
pub answer_applies : (tried : Tried Naming) (o : Option Naming) (m : Naming) →
    Answers tried (Ok o) → o ≡ Some m → tried ≡ applies m
answer_applies tried None m a e = cc
answer_applies tried (Some x) m a e =
    a ∙ ap (λ (y : Option Naming). record { made = y; noted = false }) e

pub answer_fails : (tried : Tried Naming) (o : Option Naming) → Answers tried (Ok o) → o ≡ None →
    tried ≡ fails
answer_fails tried None a e = a
answer_fails tried (Some x) a e = cc
