-- What naming says of its new variables is a substitution: their numbers rise, and are below the
-- limit of variables.
use Rattle.std.proofs.Common.{◌≡◌, refl, Bool, true, false, ◌||◌, ℕ, zero, suc, ◌+◌, ◌<◌, ◌≤◌, Option, Some, None, List, [], ◌∷◌, ◌++◌, length, IfSome, ℤ, arith}
use Rattle.std.specs.Prelude.{if◌then◌else◌, nat_le, nat_lt}
use Rattle.std.specs.List.{list_all}
use Rattle.std.specs.Option.{option_map_or}
use Rattle.std.proofs.lemmas.Bool.{and_from, and_parts, ltb-true}
use Rattle.std.proofs.lemmas.Bool.Decides.{nat_tests}
use Rattle.rx_poly.specs.Constants.{number}
use Rattle.rx_poly.specs.Variables.{variable_bound}
use Rattle.rx_poly.specs.declared.body.Body.{Body}
use Rattle.rx_poly_laws.proofs.BoundLaws.{below_the_bound}
use Rattle.rx_poly_laws.proofs.TestLaws.{passes-number}
use Rattle.rx_row.specs.Naming.{named}
use Rattle.rx_solve.specs.Attempts.{Tried, applies, beyond, fails}
use Rattle.rx_term.specs.Bounds.{equation_bound}
use Rattle.rx_term.specs.declared.rule.Equation.{Equation}
use Rattle.rx_term.specs.declared.rule_set.RuleParts.{RuleParts}
use Rattle.rx_inference.specs.Pieces.{is_replacement, is_substitution, other_side, rises, side_of, variable_limit}
use Rattle.rx_inference.specs.declared.step.Side.{Side}
use Rattle.rx_inference.specs.declared.step.Side.TheVariants.{Left, Right}
use Rattle.rx_lemma.specs.NamingCalls.{constant_at, variable_at}
use Rattle.rx_lemma.specs.Naming.{gives, has_constant, named_arguments, named_as, named_goal, named_new, naming_at, naming_both, naming_by, naming_constant, naming_from, naming_if, naming_new, naming_of}
use Rattle.rx_lemma.specs.Lemmas.{variables_end}
use Rattle.rx_lemma.specs.Shapes.{NamingSubstitutes}
use Rattle.rx_lemma.specs.declared.constants.Naming.{Naming}
use Rattle.rx_lemma.specs.Lemmas.{Generalisation}

-- ---- lists

abbrev under : ℕ → ℕ × Body → Bool
under m w = nat_lt w.0 m

-- one more that passes
all_after : (test : ℕ × Body → Bool) (ws : List (ℕ × Body)) (w : ℕ × Body) → list_all test ws ≡
    true → test w ≡ true → list_all test (ws ++ w ∷ []) ≡ true
all_after test [] w all here = and_from (test w) true here refl
all_after test (x ∷ xs) w all here =
    let both = and_parts (test x) (list_all test xs) all in
    and_from (test x) (list_all test (xs ++ w ∷ [])) both.0 (all_after test xs w both.1 here)

still_below : (a m : ℕ) → nat_lt a m ≡ true → nat_lt a (m + 1) ≡ true
still_below a m h = grind (arith, nat_tests)

below_next : (m : ℕ) → nat_lt m (m + 1) ≡ true
below_next m = grind (arith, nat_tests)

test_le : (a b : ℕ) → a ≤ b → nat_le a b ≡ true
test_le a b h = grind (arith, nat_tests)

test_lt : (a b : ℕ) → a < b → nat_lt a b ≡ true
test_lt a b h = grind (arith, nat_tests)

all_under : (m : ℕ) (ws : List (ℕ × Body)) → list_all (under m) ws ≡ true →
    list_all (under (m + 1)) ws ≡ true
all_under m [] h = refl
all_under m (w ∷ ws) h =
    let both = and_parts (nat_lt w.0 m) (list_all (under m) ws) h in
    and_from (nat_lt w.0 (m + 1)) (list_all (under (m + 1)) ws) (still_below w.0 m both.0)
    (all_under m ws both.1)

rises_after : (from v : ℕ) (p : Body) (ws : List (ℕ × Body)) → from ≤ v → list_all (under v) ws ≡
    true → rises from ws ≡ true → rises from (ws ++ (v, p) ∷ []) ≡ true
rises_after from v p [] le all h = and_from (nat_le from v) true (test_le from v le) refl
rises_after from v p (w ∷ ws) le all h =
    let both = and_parts (nat_le from w.0) (rises (w.0 + 1) ws) h in
    let below = and_parts (nat_lt w.0 v) (list_all (under v) ws) all in
    let lt = ltb-true w.0 v below.0 in
    let next : w.0 + 1 ≤ v = omega (arith, lt) in
    and_from (nat_le from w.0) (rises (w.0 + 1) (ws ++ (v, p) ∷ [])) both.0
    (rises_after (w.0 + 1) v p ws next below.1 both.1)

-- a number in place of a new variable
replacement : (v : ℕ) (c : ℤ) → nat_lt v variables_end ≡ true → is_replacement (v, number c) ≡ true
replacement v c h =
    let lt = ltb-true v variables_end h in
    let low : v < variable_limit = omega (arith, lt) in
    let bound = (below_the_bound variable_limit (number c)).0
    (passes-number (λ n. nat_lt n variable_limit) c) in
    and_from (nat_lt v variable_limit) (nat_le (variable_bound (number c)) variable_limit)
    (test_lt v variable_limit low)
    (test_le (variable_bound (number c)) variable_limit bound)

-- ---- naming

record Ready (n : Naming) : Type 0 where
  rising : rises 0 n.subst ≡ true
  below : list_all (under n.fresh) n.subst ≡ true
  replacements : list_all is_replacement n.subst ≡ true

abbrev Kept : Tried Naming → Type 0
Kept t = IfSome t.made Ready

kept_if : (b : Bool) (t u : Tried Naming) → (b ≡ true → Kept t) → Kept u → Kept (if b then t else u)
kept_if true t u k l = k refl
kept_if false t u k l = l

with_new : (side : Side) (place : ℕ) (c : ℤ) (n : Naming) → Ready n → nat_lt n.fresh variables_end ≡
    true → Ready (named_new side place c (named n.fresh c).form n)
with_new side place c n ready h = record {
  rising = rises_after 0 n.fresh (number c) n.subst (omega arith) ready.below ready.rising;
  below =
      all_after (under (n.fresh + 1)) n.subst (n.fresh, number c)
      (all_under n.fresh n.subst ready.below) (below_next n.fresh);
  replacements =
      all_after is_replacement n.subst (n.fresh, number c) ready.replacements
      (replacement n.fresh c h);
}

module _ (side : Side) (place : ℕ) where
  kept_new : (c : ℤ) (n : Naming) → Ready n → Kept (naming_new side place c n)
  unfolding naming_new
  kept_new c n ready =
      let f = named n.fresh c in
      let t = applies (named_new side place c f.form n) in
      kept_if (nat_lt n.fresh variables_end) (if f.within then t else beyond) fails
      (λ h. kept_if f.within t beyond (λ _. with_new side place c n ready h) tt) tt

  kept_by : (c : ℤ) (n : Naming) (o : Option ℕ) → Ready n → Kept (naming_by side place c n o)
  kept_by c n None ready = kept_new c n ready
  kept_by c n (Some v) ready =
      let f = gives v c n.goal.rows in
      let t = applies (named_as side place v n) in
      let u = naming_new side place c n in
      kept_if f.within (if f.form then t else u) beyond
      (λ _. kept_if f.form t u (λ _. record {
        rising = ready.rising;
        below = ready.below;
        replacements = ready.replacements;
      }) (kept_new c n ready)) tt

  kept_constant : (c : ℤ) (n : Naming) → Ready n → Kept (naming_constant side place c n)
  unfolding naming_constant
  kept_constant c n ready =
      kept_by c n (variable_at place (side_of side n.goal) (other_side side n.goal)) ready

  kept_where : (n : Naming) (o : Option ℤ) → Ready n → Kept (naming_if side place n o)
  kept_where n None ready = ready
  kept_where n (Some c) ready = kept_constant c n ready

  kept_at : (n : Naming) → Ready n → Kept (naming_at side place n)
  unfolding naming_at
  kept_at n ready = kept_where n (constant_at place (side_of side n.goal)) ready

kept_after : (o : Option Naming) (other : Tried Naming) (next : Naming → Tried Naming)
    → IfSome o Ready → Kept other → ((m : Naming) → Ready m → Kept (next m)) →
    Kept (option_map_or next o other)
kept_after None other next k l each = l
kept_after (Some m) other next k l each = each m k

kept_from : (side : Side) (count place : ℕ) (n : Naming) → Ready n →
    Kept (naming_from side place count n)
unfolding naming_from
kept_from side zero place n ready = ready
kept_from side (suc count) place n ready =
    kept_after (naming_at side place n).made (record
    { made = None; noted = (naming_at side place n).noted })
    (naming_from side (place + 1) count)
    (kept_at side place n ready) tt (λ m now. kept_from side count (place + 1) m now)

abbrev started : Equation → Naming
started goal = record { goal = goal; subst = []; fresh = equation_bound goal }

kept_both : (parts : RuleParts) (goal : Equation) → Kept (naming_both parts goal)
kept_both parts goal =
    let n = started goal in
    let left = naming_from Left 0 (length (named_arguments parts Left goal)) n in
    let count = length (named_arguments parts Right goal) in
    kept_after left.made (record { made = None; noted = left.noted }) (naming_from Right 0 count)
    (kept_from Left (length (named_arguments parts Left goal)) 0 n
    (record { rising = refl; below = refl; replacements = refl })) tt
    (λ m now. kept_from Right count 0 m now)

abbrev Found : Tried Generalisation → Type 0
Found t = IfSome t.made (λ (found : Generalisation). is_substitution found.subst ≡ true)

found_after : (parts : RuleParts) (o : Option Naming) (other : Tried Generalisation)
    → IfSome o Ready → Found other → Found (option_map_or
    (λ (n : Naming). applies (named_goal parts n)) o other)
found_after parts None other k l = l
found_after parts (Some m) other k l =
    and_from (rises 0 m.subst) (list_all is_replacement m.subst) k.rising k.replacements

found_if : (b : Bool) (t : Tried Generalisation) → Found t → Found (if b then t else fails)
found_if true t k = k
found_if false t k = tt

pub naming_substitutes : NamingSubstitutes
unfolding naming_of
naming_substitutes parts goal =
    let both = naming_both parts goal in
    let other : Tried Generalisation = record { made = None; noted = both.noted } in
    found_if (has_constant parts Left goal || has_constant parts Right goal)
    (option_map_or (λ (n : Naming). applies (named_goal parts n)) both.made other)
    (found_after parts both.made other (kept_both parts goal) tt)
