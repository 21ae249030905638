-- Relations that vanish at goals are 0 there.
use Rattle.std.proofs.Common.{◌≡◌, ◌∙◌, ap, sym, List, [], ◌∷◌, map, ℕ, ℤ, pos, ◌-ℤ◌, ◌*ℤ◌}
use Rattle.std.specs.Prelude.{All}
use Rattle.std.proofs.lemmas.List.Elements.{All-append, All-cons, All-filter, All-head, All-map, All-nil, All-tail}
use Rattle.rx_plain.specs.Formed.{fold_formed, map_formed}
use Rattle.rx_plain.proofs.Integers.{mul-zero-int}
use Rattle.rx_poly.proofs.Constants.{value-number}
use Rattle.rx_poly.proofs.Levels.{value_is}
use Rattle.rx_poly.proofs.PolyLaws.{value-body_difference, value-scaled_by}
use Rattle.rx_poly.proofs.SubstitutedValue.{value-subst_body}
use Rattle.rx_poly.specs.Limits.{body_difference, scaled_by}
use Rattle.rx_poly.specs.Substitution.{numbered}
use Rattle.rx_poly.specs.Value.{mono_value, sum_terms, value}
use Rattle.rx_poly.specs.declared.body.Body.{Body, out-Body}
use Rattle.rx_relations.specs.Cancelling.{vanishing}
use Rattle.rx_relations.specs.Common.{combinations, common, is_nonzero, of_equation, valued, vanishing_at}
use Rattle.rx_relations.specs.Content.{common_content, content, primitive}
use Rattle.rx_relations.specs.Holding.{AllZero, at_goal}
use Rattle.rx_relations.specs.declared.combination.Combination.{Combination}
use Rattle.rx_relations.specs.declared.instance.Instance.{Instance}
use Rattle.rx_relations.proofs.Closing.{IsClosed, keeps_vanishing}
use Rattle.rx_relations.proofs.ContentLaws.{same_divided, zero_divided}
use Rattle.rx_relations.proofs.Dividing.{common_divides, content_divides}

-- a difference of multiples
value-difference : (a : ℕ → ℤ) (k : ℤ) (p : Body) (l : ℤ) (q : Body) →
    value a (body_difference (scaled_by k p) (scaled_by l q)) ≡
    k *ℤ value a p -ℤ l *ℤ value a q
value-difference a k p l q =
    value-body_difference a (scaled_by k p) (scaled_by l q) ∙
    (λ i. value-scaled_by a k p i -ℤ value-scaled_by a l q i)

-- a polynomial without terms
value-empty : (a : ℕ → ℤ) (p : Body) → (out-Body p).terms ≡ [] → value a p ≡ pos 0
value-empty a p e = value_is a p ∙ ap (sum_terms (mono_value a)) e

-- ---- one goal

-- the value, under the one assignment, is that of the relation under the other
abbrev Agrees : (ℕ → ℤ) → (ℕ → ℤ) → Combination → Type 0
Agrees a b c = value a c.value ≡ value b c.relation

-- the relation is 0
abbrev Vanishes : (ℕ → ℤ) → Combination → Type 0
Vanishes b c = value b c.relation ≡ pos 0

abbrev IsZero : (ℕ → ℤ) → Body → Type 0
IsZero b p = value b p ≡ pos 0

agrees_closed : (a b : ℕ → ℤ) → IsClosed (Agrees a b) (IsZero b)
agrees_closed a b = record {
  differences = λ k c l d h g.
      value-difference a k c.value l d.value ∙ (λ i. k *ℤ h i -ℤ l *ℤ g i) ∙
      sym (value-difference b k c.relation l d.relation);
  quotients = λ c h.
      let p = common_divides c in
      same_divided a b (common_content c) c.value c.relation p.0 p.1 h;
  zero = λ c e h. sym h ∙ value-empty a c.value e;
}

no_difference : (k l x y : ℤ) → x ≡ pos 0 → y ≡ pos 0 → k *ℤ x -ℤ l *ℤ y ≡ pos 0
no_difference k l x y h g =
    (λ i. k *ℤ h i -ℤ l *ℤ g i) ∙ (λ i. mul-zero-int k i -ℤ mul-zero-int l i)

vanishes_closed : (b : ℕ → ℤ) → IsClosed (Vanishes b) (IsZero b)
vanishes_closed b = record {
  differences = λ k c l d h g.
      value-difference b k c.relation l d.relation ∙
      no_difference k l (value b c.relation) (value b d.relation) h g;
  quotients = λ c h. zero_divided b (common_content c) c.relation (common_divides c).1 h;
  zero = λ c e h. h;
}

-- the equations agree where they hold
equations_agree : (a b : ℕ → ℤ) (es : List Body) → AllZero a es →
    All (Agrees a b) (map of_equation es)
equations_agree a b es h =
    All-map (Agrees a b) of_equation es (each_agrees es h)
  where
    each_agrees : (ps : List Body) → AllZero a ps → All (λ e. Agrees a b (of_equation e)) ps
    each_agrees [] g = All-nil (λ e. Agrees a b (of_equation e))
    each_agrees (p ∷ ps) g =
        All-cons (λ e. Agrees a b (of_equation e)) p ps
        (All-head (IsZero a) p ps g ∙ sym (value-number b (pos 0)))
        (each_agrees ps (All-tail (IsZero a) p ps g))

-- and the basis agrees
basis_agrees : (a : ℕ → ℤ) (goal : Instance) (basis : List Body) →
    All (Agrees a (at_goal a goal)) (map_formed (valued goal.values) basis).form
basis_agrees a goal [] = All-nil (Agrees a (at_goal a goal))
basis_agrees a goal (p ∷ ps) =
    All-cons (Agrees a (at_goal a goal)) (valued goal.values p).form
    (map_formed (valued goal.values) ps).form (value-subst_body a (numbered goal.values) p)
    (basis_agrees a goal ps)

-- what vanishes at a goal is 0 there
pub zero_at : (a : ℕ → ℤ) (goal : Instance) (basis : List Body) → AllZero a goal.equations →
    AllZero (at_goal a goal) (vanishing_at basis goal).form
zero_at a goal basis h =
    let b = at_goal a goal in
    let cs = (combinations goal basis).form in
    All-filter is_nonzero (IsZero b) (vanishing cs).form
    (keeps_vanishing (Agrees a b) (IsZero b) (agrees_closed a b) cs
    (All-append (Agrees a b) (map of_equation goal.equations)
    (map_formed (valued goal.values) basis).form
    (equations_agree a b goal.equations h) (basis_agrees a goal basis)))

-- ---- another goal

equations_vanish : (b : ℕ → ℤ) (es : List Body) → All (Vanishes b) (map of_equation es)
equations_vanish b [] = All-nil (Vanishes b)
equations_vanish b (e ∷ es) =
    All-cons (Vanishes b) (of_equation e) (map of_equation es) (value-number b (pos 0))
    (equations_vanish b es)

basis_vanishes : (b : ℕ → ℤ) (values basis : List Body) → AllZero b basis →
    All (Vanishes b) (map_formed (valued values) basis).form
basis_vanishes b values [] h = All-nil (Vanishes b)
basis_vanishes b values (p ∷ ps) h =
    All-cons (Vanishes b) (valued values p).form (map_formed (valued values) ps).form
    (All-head (IsZero b) p ps h) (basis_vanishes b values ps (All-tail (IsZero b) p ps h))

-- where the basis is 0, its combinations are
still_zero : (b : ℕ → ℤ) (goal : Instance) (basis : List Body) → AllZero b basis →
    AllZero b (vanishing_at basis goal).form
still_zero b goal basis h =
    let cs = (combinations goal basis).form in
    All-filter is_nonzero (IsZero b) (vanishing cs).form
    (keeps_vanishing (Vanishes b) (IsZero b) (vanishes_closed b) cs
    (All-append (Vanishes b) (map of_equation goal.equations)
    (map_formed (valued goal.values) basis).form
    (equations_vanish b goal.equations) (basis_vanishes b goal.values basis h)))

all_still_zero : (b : ℕ → ℤ) (goals : List Instance) (basis : List Body) → AllZero b basis →
    AllZero b (fold_formed vanishing_at basis goals).form
all_still_zero b [] basis h = h
all_still_zero b (goal ∷ goals) basis h =
    all_still_zero b goals (vanishing_at basis goal).form (still_zero b goal basis h)

-- ---- all goals

-- divided by their contents
pub all_primitive : (b : ℕ → ℤ) (ps : List Body) → AllZero b ps → AllZero b (map primitive ps)
all_primitive b [] h = All-nil (IsZero b)
all_primitive b (p ∷ ps) h =
    All-cons (IsZero b) (primitive p) (map primitive ps)
    (zero_divided b (content p) p (content_divides p) (All-head (IsZero b) p ps h))
    (all_primitive b ps (All-tail (IsZero b) p ps h))

-- under each assignment that meets the equations of the goal, these are 0 of its values
abbrev pub ZeroAt : List Body → Instance → Type 0
ZeroAt ps goal = (a : ℕ → ℤ) → AllZero a goal.equations → AllZero (at_goal a goal) ps

folded_zero : (goals : List Instance) (basis : List Body) →
    All (ZeroAt (fold_formed vanishing_at basis goals).form) goals
folded_zero [] basis = All-nil (ZeroAt basis)
folded_zero (goal ∷ goals) basis =
    let first = (vanishing_at basis goal).form in
    let last = (fold_formed vanishing_at first goals).form in
    All-cons (ZeroAt last) goal goals
    (λ a h. all_still_zero (at_goal a goal) goals first (zero_at a goal basis h))
    (folded_zero goals first)

-- what each of these follows from
pub all_weaker : (ps qs : List Body) (goals : List Instance) →
    ((b : ℕ → ℤ) → AllZero b ps → AllZero b qs) → All (ZeroAt ps) goals → All (ZeroAt qs) goals
all_weaker ps qs [] f h = All-nil (ZeroAt qs)
all_weaker ps qs (goal ∷ goals) f h =
    All-cons (ZeroAt qs) goal goals
    (λ a g. f (at_goal a goal) (All-head (ZeroAt ps) goal goals h a g))
    (all_weaker ps qs goals f (All-tail (ZeroAt ps) goal goals h))

-- the common relations are 0 at each goal
pub common_zero : (basis : List Body) (goals : List Instance) →
    All (ZeroAt (common basis goals).form) goals
common_zero basis goals =
    let found = (fold_formed vanishing_at basis goals).form in
    all_weaker found (map primitive found) goals (λ b h. all_primitive b found h)
    (folded_zero goals basis)
