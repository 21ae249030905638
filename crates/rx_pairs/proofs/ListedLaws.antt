-- The pairs that are computed are the pairs of a rule, and of a list of rules.
use Rattle.std.proofs.Common.{◌≡◌, ◌∙◌, ap, sym, subst, refl, arith, ℕ, zero, suc, ◌<◌, ◌==◌, Bool, true, false, ◌&&◌, cond, inl, inr, Option, Some, None, List, [], ◌∷◌, ◌++◌, map}
use Rattle.std.proofs.lemmas.Bool.{and_from, and_parts, cases_order, eq-eqb, eqb-true, false≢true}
use Rattle.std.proofs.lemmas.List.Elements.{All-head, All-tail}
use Rattle.std.specs.Option.{option_map_or}
use Rattle.std.specs.Prelude.{All}
use lib.Pointwise.{pointwise_decides}
use Rattle.rx_term.proofs.RedexWalks.{result-Frame}
use Rattle.rx_graph.proofs.GraphLaws.{or_cases, or_left, or_right}
use Rattle.rx_poly.proofs.Same.{body_eq-refl, body_eq-sound}
use Rattle.rx_poly.specs.declared.body.Body.{Body}
use Rattle.rx_term.specs.Stacks.{suffix_at, depth_of, is_result}
use Rattle.rx_term.specs.declared.rule.Rule.{Rule}
use Rattle.rx_term.specs.declared.term.Sym.{Sym}
use Rattle.rx_term.specs.declared.term.Term.{Term, Term-F, out-Term}
use Rattle.rx_term.specs.declared.term.Term.TheFolds.{fold_out-Term}
use Rattle.rx_term.specs.declared.term.Term.TheVariants.{Return, Fail, Call, Frame, outs-Return, outs-Fail, outs-Call, outs-Frame}
use Rattle.rx_term.proofs.Equations.{ACall, AFail, AFrame, AReturn, Form, depth-Frame, form, induct, symbols_are}
use Rattle.rx_term.proofs.KeepingLaws.{depth_after}
use Rattle.rx_pairs.specs.Listed.{is_same_term, is_under, is_under_most, pairs_by, pairs_by_all, parts_by, parts_level, same_arguments, same_level}
use Rattle.rx_pairs.specs.Pairs.{AreAllPairs, AreParts, ArePairs, AtCall, AtFail, AtFrame, AtReturn, Common, HasRoot, IsRoot, IsUnder, NoRules, OfCall, OfFrame, OneMore, PairsOf, Part, pair_of}
use Rattle.rx_pairs.specs.declared.pair.Pair.{Pair}
use Rattle.rx_pairs.proofs.PairsLaws.{any_root, one_pairs, result_call, root_found}

-- ---- two terms are the same

arguments_same : (ps qs : List Body) → (same_arguments ps qs ≡ true → ps ≡ qs) ×
    (ps ≡ qs → same_arguments ps qs ≡ true)
arguments_same = pointwise_decides (λ p q. (body_eq-sound p q, body_eq-refl p q))

abbrev Level : Type 0
Level = Term-F (Term → Bool)

abbrev compare_level : Level → Term → Bool
compare_level level other = same_level level (out-Term other)

same-Return : (p : Body) (u : Term) → is_same_term (Return p) u ≡
    same_level (Term-F.Return p) (out-Term u)
same-Return p u =
    ap (λ (g : Term → Bool). g u) (fold_out-Term (Term → Bool) compare_level (Return p)) ∙
    rw (outs-Return p) refl

same-Fail : (c : ℕ) (u : Term) → is_same_term (Fail c) u ≡ same_level (Term-F.Fail c) (out-Term u)
same-Fail c u =
    ap (λ (g : Term → Bool). g u) (fold_out-Term (Term → Bool) compare_level (Fail c)) ∙
    rw (outs-Fail c) refl

same-Call : (f : Sym) (ps : List Body) (u : Term) → is_same_term (Call f ps) u ≡
    same_level (Term-F.Call f ps) (out-Term u)
same-Call f ps u =
    ap (λ (g : Term → Bool). g u) (fold_out-Term (Term → Bool) compare_level (Call f ps)) ∙
    rw (outs-Call f ps) refl

same-Frame : (f : Sym) (ps : List Body) (t u : Term) → is_same_term (Frame f ps t) u ≡
    same_level (Term-F.Frame f ps (is_same_term t)) (out-Term u)
same-Frame f ps t u =
    ap (λ (g : Term → Bool). g u) (fold_out-Term (Term → Bool) compare_level (Frame f ps t)) ∙
    rw (outs-Frame f ps t) refl

-- what the test of two terms says of their forms
told : (level : Level) (t u : Term) (other : Term-F Term) → is_same_term t u ≡
    same_level level (out-Term u) → out-Term u ≡ other → is_same_term t u ≡ true
    → same_level level other ≡ true
told level t u other is out e = sym (ap (same_level level) out) ∙ sym is ∙ e

from_return : (p : Body) (u : Term) → Form u → is_same_term (Return p) u ≡ true → Return p ≡ u
from_return p _ (AReturn q) e =
    ap Return (body_eq-sound p q (told (Term-F.Return p) (Return p) (Return q) (Term-F.Return q)
    (same-Return p (Return q)) (outs-Return q) e))
from_return p _ (AFail c) e =
    absurd (false≢true (told (Term-F.Return p) (Return p) (Fail c) (Term-F.Fail c)
    (same-Return p (Fail c)) (outs-Fail c) e))
from_return p _ (ACall f ps) e =
    absurd (false≢true (told (Term-F.Return p) (Return p) (Call f ps) (Term-F.Call f ps)
    (same-Return p (Call f ps)) (outs-Call f ps) e))
from_return p _ (AFrame f ps t) e =
    absurd (false≢true (told (Term-F.Return p) (Return p) (Frame f ps t) (Term-F.Frame f ps t)
    (same-Return p (Frame f ps t)) (outs-Frame f ps t) e))

from_fail : (c : ℕ) (u : Term) → Form u → is_same_term (Fail c) u ≡ true → Fail c ≡ u
from_fail c _ (AReturn q) e =
    absurd (false≢true (told (Term-F.Fail c) (Fail c) (Return q) (Term-F.Return q)
    (same-Fail c (Return q)) (outs-Return q) e))
from_fail c _ (AFail d) e =
    ap Fail (eqb-true c d (told (Term-F.Fail c) (Fail c) (Fail d) (Term-F.Fail d)
    (same-Fail c (Fail d)) (outs-Fail d) e))
from_fail c _ (ACall f ps) e =
    absurd (false≢true (told (Term-F.Fail c) (Fail c) (Call f ps) (Term-F.Call f ps)
    (same-Fail c (Call f ps)) (outs-Call f ps) e))
from_fail c _ (AFrame f ps t) e =
    absurd (false≢true (told (Term-F.Fail c) (Fail c) (Frame f ps t) (Term-F.Frame f ps t)
    (same-Fail c (Frame f ps t)) (outs-Frame f ps t) e))

from_call : (f : Sym) (ps : List Body) (u : Term) → Form u → is_same_term (Call f ps) u ≡ true →
    Call f ps ≡ u
from_call f ps _ (AReturn q) e =
    absurd (false≢true (told (Term-F.Call f ps) (Call f ps) (Return q) (Term-F.Return q)
    (same-Call f ps (Return q)) (outs-Return q) e))
from_call f ps _ (AFail d) e =
    absurd (false≢true (told (Term-F.Call f ps) (Call f ps) (Fail d) (Term-F.Fail d)
    (same-Call f ps (Fail d)) (outs-Fail d) e))
from_call f ps _ (ACall g qs) e =
    let both = and_parts (f.0 == g.0) (same_arguments ps qs)
    (told (Term-F.Call f ps) (Call f ps) (Call g qs) (Term-F.Call g qs)
    (same-Call f ps (Call g qs)) (outs-Call g qs) e) in
    λ i. Call (symbols_are f g (eqb-true f.0 g.0 both.0) i) ((arguments_same ps qs).0 both.1 i)
from_call f ps _ (AFrame g qs t) e =
    absurd (false≢true (told (Term-F.Call f ps) (Call f ps) (Frame g qs t) (Term-F.Frame g qs t)
    (same-Call f ps (Frame g qs t)) (outs-Frame g qs t) e))

from_frame : (f : Sym) (ps : List Body) (t : Term) →
    ((u : Term) → is_same_term t u ≡ true → t ≡ u) → (u : Term) → Form u →
    is_same_term (Frame f ps t) u ≡ true → Frame f ps t ≡ u
from_frame f ps t inner _ (AReturn q) e =
    absurd (false≢true (told (Term-F.Frame f ps (is_same_term t)) (Frame f ps t) (Return q)
    (Term-F.Return q) (same-Frame f ps t (Return q)) (outs-Return q) e))
from_frame f ps t inner _ (AFail d) e =
    absurd (false≢true (told (Term-F.Frame f ps (is_same_term t)) (Frame f ps t) (Fail d)
    (Term-F.Fail d) (same-Frame f ps t (Fail d)) (outs-Fail d) e))
from_frame f ps t inner _ (ACall g qs) e =
    absurd (false≢true (told (Term-F.Frame f ps (is_same_term t)) (Frame f ps t) (Call g qs)
    (Term-F.Call g qs) (same-Frame f ps t (Call g qs)) (outs-Call g qs) e))
from_frame f ps t inner _ (AFrame g qs u) e =
    let all = and_parts (f.0 == g.0 && same_arguments ps qs) (is_same_term t u)
    (told (Term-F.Frame f ps (is_same_term t)) (Frame f ps t) (Frame g qs u) (Term-F.Frame g qs u)
    (same-Frame f ps t (Frame g qs u)) (outs-Frame g qs u) e) in
    let both = and_parts (f.0 == g.0) (same_arguments ps qs) all.0 in
    λ i. Frame (symbols_are f g (eqb-true f.0 g.0 both.0) i) ((arguments_same ps qs).0 both.1 i)
    (inner u all.1 i)

pub same_sound : (t u : Term) → is_same_term t u ≡ true → t ≡ u
same_sound = induct (λ t. (u : Term) → is_same_term t u ≡ true → t ≡ u)
    (λ p u. from_return p u (form u))
    (λ c u. from_fail c u (form u))
    (λ f ps u. from_call f ps u (form u))
    (λ f ps t inner u. from_frame f ps t inner u (form u))

pub same_itself : (t : Term) → is_same_term t t ≡ true
same_itself = induct (λ t. is_same_term t t ≡ true)
    (λ p. same-Return p (Return p) ∙ ap (same_level (Term-F.Return p)) (outs-Return p) ∙
    body_eq-refl p p refl)
    (λ c. same-Fail c (Fail c) ∙ ap (same_level (Term-F.Fail c)) (outs-Fail c) ∙ eq-eqb c c refl)
    (λ f ps. same-Call f ps (Call f ps) ∙ ap (same_level (Term-F.Call f ps)) (outs-Call f ps)
    ∙ and_from (f.0 == f.0) (same_arguments ps ps) (eq-eqb f.0 f.0 refl)
    ((arguments_same ps ps).1 refl))
    (λ f ps t inner. same-Frame f ps t (Frame f ps t) ∙
    ap (same_level (Term-F.Frame f ps (is_same_term t))) (outs-Frame f ps t)
    ∙ and_from (f.0 == f.0 && same_arguments ps ps) (is_same_term t t)
    (and_from (f.0 == f.0) (same_arguments ps ps) (eq-eqb f.0 f.0 refl)
    ((arguments_same ps ps).1 refl)) inner)

-- ---- what is under the left side

module _ (left t : Term) where
  abbrev is_here : Option Term → Bool
  is_here found = option_map_or (λ u. is_same_term u t) found false

  found_here : (k : ℕ) (found : Option Term) → suffix_at (suc k) left ≡ found → is_here found ≡
      true →
      IsUnder left t
  found_here k None is e = absurd (false≢true e)
  found_here k (Some u) is e = (k, is ∙ ap Some (same_sound u t e))

  under_found : (n : ℕ) → is_under_most n left t ≡ true → IsUnder left t
  under_found zero e = absurd (false≢true e)
  under_found (suc n) e =
      elim (or_cases (is_here (suffix_at (suc n) left)) (is_under_most n left t) e) [
        | inl here ↦ found_here n (suffix_at (suc n) left) refl here
        | inr less ↦ under_found n less
      ]

  under_seen : (n k : ℕ) → k < n → suffix_at (suc k) left ≡ Some t → is_under_most n left t ≡ true
  under_seen zero k less is = absurd (omega (arith, less))
  under_seen (suc n) k less is = elim (cases_order k n) [
    | inl same ↦
        or_left (is_here (suffix_at (suc n) left)) (is_under_most n left t)
        (ap is_here (ap (λ i. suffix_at (suc i) left) (sym same) ∙ is) ∙ same_itself t)
    | inr apart ↦
        or_right (is_here (suffix_at (suc n) left)) (is_under_most n left t)
        (under_seen n k (elim apart [ inl lesser ↦ lesser | inr more ↦ omega (arith, less, more) ])
        is)
  ]

  pub under_sound : is_under left t ≡ true → IsUnder left t
  under_sound e = under_found (depth_of left) e

  pub under_complete : IsUnder left t → is_under left t ≡ true
  under_complete under =
      let deep = depth_after (suc under.0) left t under.1 in
      under_seen (depth_of left) under.0 (omega (arith, deep)) under.1

-- ---- parts

module _ (left : Term) where
  abbrev Listed : ℕ → Term → Type 0
  Listed n t = depth_of t < n → AreParts left t (parts_by n left t)

  by_form : (n : ℕ) → ((t : Term) → Listed n t) → (t : Term) → Form t → (IsUnder left t → ⊥) →
      depth_of t < suc n → AreParts left t (parts_level (out-Term t) (parts_by n left))
  by_form n further _ (AReturn p) clear deep =
      subst (AreParts left (Return p)) (sym (ap
      (λ (x : Term-F Term). parts_level x (parts_by n left)) (outs-Return p))) (AtReturn p)
  by_form n further _ (AFail c) clear deep =
      subst (AreParts left (Fail c)) (sym (ap (λ (x : Term-F Term). parts_level x (parts_by n left))
      (outs-Fail c))) (AtFail c)
  by_form n further _ (ACall f ps) clear deep =
      subst (AreParts left (Call f ps)) (sym (ap
      (λ (x : Term-F Term). parts_level x (parts_by n left)) (outs-Call f ps)))
      (AtCall f ps clear)
  by_form n further _ (AFrame f ps t) clear deep =
      let depth = depth-Frame f ps t in
      subst (AreParts left (Frame f ps t)) (sym
      (ap (λ (x : Term-F Term). parts_level x (parts_by n left)) (outs-Frame f ps t)))
      (AtFrame f ps t (parts_by n left t) clear (further t (omega (arith, depth, deep))))

  by_test : (n : ℕ) → ((t : Term) → Listed n t) → (t : Term) (b : Bool) → is_under left t ≡ b →
      depth_of t < suc n
      → AreParts left t (cond b [] (parts_level (out-Term t) (parts_by n left)))
  by_test n further t true is deep = Common t (under_sound left t is)
  by_test n further t false is deep =
      by_form n further t (form t) (λ under. false≢true (sym is ∙ under_complete left t under)) deep

  pub parts_listed : (n : ℕ) (t : Term) → Listed n t
  parts_listed zero t deep = absurd (omega (arith, deep))
  parts_listed (suc n) t deep = by_test n (parts_listed n) t (is_under left t) refl deep

-- ---- pairs

pub pairs_listed : (rule : Rule) → HasRoot rule → ArePairs rule (pairs_by rule)
pairs_listed rule has =
    let (root, is) = any_root rule.left (form rule.left) has in
    let parts = parts_by (suc (depth_of rule.right)) rule.left rule.right in
    subst (ArePairs rule) (sym (ap (λ (found : Option Part).
    option_map_or (λ root. map (pair_of rule root) parts) found [])
    (root_found rule.left root is)))
    (PairsOf root is parts (parts_listed rule.left (suc (depth_of rule.right)) rule.right
    (omega arith)))

has_root : (t : Term) (root : Part) → IsRoot t root → is_result t ≡ false
has_root _ _ (OfCall f ps) = result_call f ps
has_root _ _ (OfFrame f ps t) = result-Frame f ps t

pub pairs_have_root : (rule : Rule) (pairs : List Pair) → ArePairs rule pairs → HasRoot rule
pairs_have_root rule _ (PairsOf root is parts are) = has_root rule.left root is

pub only_listed : (rule : Rule) (pairs : List Pair) → ArePairs rule pairs → pairs ≡ pairs_by rule
only_listed rule pairs are =
    one_pairs rule pairs (pairs_by rule) are (pairs_listed rule (pairs_have_root rule pairs are))

pub all_listed : (rules : List Rule) → All HasRoot rules → AreAllPairs rules (pairs_by_all rules)
all_listed [] all = NoRules
all_listed (rule ∷ rules) all =
    OneMore rule rules (pairs_by rule) (pairs_by_all rules)
    (pairs_listed rule (All-head HasRoot rule rules all))
    (all_listed rules (All-tail HasRoot rule rules all))

pub only_all_listed : (rules : List Rule) (pairs : List Pair) → AreAllPairs rules pairs → pairs ≡
    pairs_by_all rules
only_all_listed _ _ NoRules = refl
only_all_listed _ _ (OneMore rule rules pairs others are rest) =
    λ i. only_listed rule pairs are i ++ only_all_listed rules others rest i
