-- A rule whose left side is no bare result has exactly one list of pairs.
use Rattle.std.proofs.Common.{◌≡◌, ◌∙◌, ap, sym, subst, refl, ℕ, zero, suc, true, false, inl, inr, Some, None, List, [], ◌∷◌, ◌++◌, map, append_assoc}
use Rattle.std.proofs.lemmas.Bool.{false≢true}
use Rattle.std.proofs.lemmas.List.Elements.{All-head, All-tail, All-weaker}
use Rattle.std.proofs.lemmas.Option.{none-some, same_Some}
use Rattle.std.specs.Prelude.{All}
use Rattle.rx_term.proofs.RedexWalks.{result-Frame}
use Rattle.rx_poly.specs.Constants.{variable}
use Rattle.rx_poly.specs.declared.body.Body.{Body}
use Rattle.rx_term.specs.Stacks.{suffix_at, is_result, is_result_level, under_frame}
use Rattle.rx_term.specs.WellMade.{IsLeft, IsMade, OfPoint, OverFail, OverReturn, variables_from}
use Rattle.rx_term.specs.declared.rule.Rule.{Rule}
use Rattle.rx_term.specs.declared.rule_set.RuleParts.{RuleParts}
use Rattle.rx_term.specs.declared.term.Sym.{Sym}
use Rattle.rx_term.specs.declared.term.Term.{Term, Term-F, out-Term}
use Rattle.rx_term.specs.declared.term.Term.TheVariants.{Return, Fail, Call, Frame, outs-Return, outs-Fail, outs-Call, outs-Frame}
use Rattle.rx_term.proofs.Equations.{Form, AReturn, AFail, ACall, AFrame, form, induct, suffix_at-Frame}
use Rattle.rx_pairs.specs.Common.{IsPart}
use Rattle.rx_pairs.specs.Listed.{root_part_level, root_part_of}
use Rattle.rx_pairs.specs.Pairs.{AreAllPairs, AreParts, ArePairs, AtCall, AtFail, AtFrame, AtReturn, Common, HasRoot, IsRoot, IsUnder, NoRules, OfCall, OfFrame, OneMore, PairsOf, Part, pair_of, part}
use Rattle.rx_pairs.specs.declared.pair.Pair.{Pair}
use Rattle.rx_pairs.proofs.CommonLaws.{frame_arguments, frame_inner, frame_symbol}
use Rattle.rx_pairs.proofs.Deciding.{Either, same_term}
use Rattle.rx_pairs.proofs.PartsLaws.{inner_under, under_inner}

-- ---- one root

pub root_found : (t : Term) (root : Part) → IsRoot t root → root_part_of t ≡ Some root
root_found _ _ (OfCall f ps) = ap root_part_level (outs-Call f ps)
root_found _ _ (OfFrame f ps t) = ap root_part_level (outs-Frame f ps t)

pub one_root : (t : Term) (p q : Part) → IsRoot t p → IsRoot t q → p ≡ q
one_root t p q is also = same_Some p q (sym (root_found t p is) ∙ root_found t q also)

-- ---- one list of parts

-- the four forms are apart
pub result_call : (f : Sym) (ps : List Body) → is_result (Call f ps) ≡ false
result_call f ps = ap is_result_level (outs-Call f ps)

result_return : (p : Body) → is_result (Return p) ≡ true
result_return p = ap is_result_level (outs-Return p)

result_fail : (c : ℕ) → is_result (Fail c) ≡ true
result_fail c = ap is_result_level (outs-Fail c)

no_result : (t u : Term) → is_result t ≡ true → is_result u ≡ false → t ≡ u → ⊥
no_result t u is isnt same = false≢true (sym isnt ∙ ap is_result (sym same) ∙ is)

call_frame : (f g : Sym) (ps qs : List Body) (t : Term) → Call f ps ≡ Frame g qs t → ⊥
call_frame f g ps qs t e = let o = sym (outs-Call f ps) ∙ ap out-Term e ∙ outs-Frame g qs t in cc

call_part : (f g : Sym) (ps qs : List Body) → Call f ps ≡ Call g qs → part f ps ≡ part g qs
call_part f g ps qs e = let o = sym (outs-Call f ps) ∙ ap out-Term e ∙ outs-Call g qs in cc

module _ (left : Term) where
  -- what the parts are where something common begins, at a result, at a call and at a frame
  under_none : (t : Term) (qs : List Part) → AreParts left t qs → IsUnder left t → qs ≡ []
  under_none _ _ (Common t under) there = refl
  under_none _ _ (AtReturn p) there = refl
  under_none _ _ (AtFail c) there = refl
  under_none _ _ (AtCall f ps differs) there = absurd (differs there)
  under_none _ _ (AtFrame f ps t rest differs inner) there = absurd (differs there)

  result_none : (t : Term) (qs : List Part) → AreParts left t qs → is_result t ≡ true → qs ≡ []
  result_none _ _ (Common t under) is = refl
  result_none _ _ (AtReturn p) is = refl
  result_none _ _ (AtFail c) is = refl
  result_none _ _ (AtCall f ps differs) is = absurd (false≢true (sym (result_call f ps) ∙ is))
  result_none _ _ (AtFrame f ps t rest differs inner) is =
      absurd (false≢true (sym (result-Frame f ps t) ∙ is))

  call_alone : (f : Sym) (ps : List Body) (t : Term) (qs : List Part) → AreParts left t qs → t ≡
      Call f ps → (IsUnder left t → ⊥) → qs ≡ part f ps ∷ []
  call_alone f ps _ _ (Common t under) is clear = absurd (clear under)
  call_alone f ps _ _ (AtReturn p) is clear =
      absurd (no_result (Return p) (Call f ps) (result_return p) (result_call f ps) is)
  call_alone f ps _ _ (AtFail c) is clear =
      absurd (no_result (Fail c) (Call f ps) (result_fail c) (result_call f ps) is)
  call_alone f ps _ _ (AtCall g qs differs) is clear = ap (λ p. p ∷ []) (call_part g f qs ps is)
  call_alone f ps _ _ (AtFrame g qs t rest differs inner) is clear =
      absurd (call_frame f g ps qs t (sym is))

  -- a frame's part, and those of what it is over
  record FrameFirst (f : Sym) (ps : List Body) (u : Term) (qs : List Part) : Type 0 where
    pub rest : List Part
    pub inner : AreParts left u rest
    pub whole : qs ≡ part f ps ∷ rest

  frame_first : (f : Sym) (ps : List Body) (u t : Term) (qs : List Part) → AreParts left t qs → t ≡
      Frame f ps u → (IsUnder left t → ⊥) → FrameFirst f ps u qs
  frame_first f ps u _ _ (Common t under) is clear = absurd (clear under)
  frame_first f ps u _ _ (AtReturn p) is clear =
      absurd (no_result (Return p) (Frame f ps u) (result_return p) (result-Frame f ps u) is)
  frame_first f ps u _ _ (AtFail c) is clear =
      absurd (no_result (Fail c) (Frame f ps u) (result_fail c) (result-Frame f ps u) is)
  frame_first f ps u _ _ (AtCall g qs differs) is clear = absurd (call_frame g f qs ps u is)
  frame_first f ps u _ _ (AtFrame g qs t rest differs inner) is clear = record {
    rest = rest;
    inner = subst (λ v. AreParts left v rest) (frame_inner g f qs ps t u is) inner;
    whole = λ i. part (frame_symbol g f qs ps t u is i) (frame_arguments g f qs ps t u is i) ∷ rest;
  }

  pub one_list : (t : Term) (ps qs : List Part) → AreParts left t ps → AreParts left t qs → ps ≡ qs
  one_list _ _ qs (Common t under) also = sym (under_none t qs also under)
  one_list _ _ qs (AtReturn p) also = sym (result_none (Return p) qs also (result_return p))
  one_list _ _ qs (AtFail c) also = sym (result_none (Fail c) qs also (result_fail c))
  one_list _ _ qs (AtCall f ps differs) also =
      sym (call_alone f ps (Call f ps) qs also refl differs)
  one_list _ _ qs (AtFrame f ps t rest differs inner) also =
      let first = frame_first f ps t (Frame f ps t) qs also refl differs in
      ap (λ r. part f ps ∷ r) (one_list t rest first.rest inner first.inner) ∙ sym first.whole

  -- ---- there is one

  pub any_list : ((t : Term) → Either (IsUnder left t)) → (t : Term) → (ps : List Part) ×
      AreParts left t ps
  any_list decide = induct (λ t. (ps : List Part) × AreParts left t ps)
      (λ p. ([], AtReturn p))
      (λ c. ([], AtFail c))
      (λ f ps. elim (decide (Call f ps)) [
        | inl under ↦ ([], Common (Call f ps) under)
        | inr clear ↦ (part f ps ∷ [], AtCall f ps clear)
      ])
      (λ f ps t inner. elim (decide (Frame f ps t)) [
        | inl under ↦ ([], Common (Frame f ps t) under)
        | inr clear ↦ (part f ps ∷ inner.0, AtFrame f ps t inner.0 clear inner.1)
      ])

-- ---- whether one stack is under another can be decided

abbrev Ends : Term → Type 0
Ends u = (k : ℕ) → suffix_at (suc k) u ≡ None

not_deeper : (u t : Term) → Ends u → (u ≡ t → ⊥) → (k : ℕ) → suffix_at k u ≡ Some t → ⊥
not_deeper u t ends apart zero is = apart (same_Some u t is)
not_deeper u t ends apart (suc k) is = none-some t (sym (ends k) ∙ is)

only_whole : (u : Term) → Ends u → (t : Term) → Either (IsPart u t)
only_whole u ends t = elim (same_term u t) [
  | inl same ↦ inl (0, ap Some same)
  | inr apart ↦ inr (λ part. not_deeper u t ends apart part.0 part.1)
]

deeper : (f : Sym) (ps : List Body) (v t : Term) → (Frame f ps v ≡ t → ⊥) → (IsPart v t → ⊥) →
    (k : ℕ) → suffix_at k (Frame f ps v) ≡ Some t → ⊥
deeper f ps v t apart clear zero is = apart (same_Some (Frame f ps v) t is)
deeper f ps v t apart clear (suc k) is = clear (k, sym (suffix_at-Frame k f ps v) ∙ is)

ends_return : (p : Body) → Ends (Return p)
ends_return p k = ap (λ (x : Term-F Term). under_frame x (suffix_at k)) (outs-Return p)

ends_fail : (c : ℕ) → Ends (Fail c)
ends_fail c k = ap (λ (x : Term-F Term). under_frame x (suffix_at k)) (outs-Fail c)

ends_call : (f : Sym) (ps : List Body) → Ends (Call f ps)
ends_call f ps k = ap (λ (x : Term-F Term). under_frame x (suffix_at k)) (outs-Call f ps)

decide_part : (u t : Term) → Either (IsPart u t)
decide_part = induct (λ u. (t : Term) → Either (IsPart u t))
    (λ p. only_whole (Return p) (ends_return p))
    (λ c. only_whole (Fail c) (ends_fail c))
    (λ f ps. only_whole (Call f ps) (ends_call f ps))
    (λ f ps v inner t. elim (same_term (Frame f ps v) t) [
      | inl same ↦ inl (0, ap Some same)
      | inr apart ↦ elim (inner t) [
        | inl part ↦ inl (suc part.0, suffix_at-Frame part.0 f ps v ∙ part.1)
        | inr clear ↦ inr (λ part. deeper f ps v t apart clear part.0 part.1)
      ]
    ])

nothing_under : (left t : Term) → Ends left → IsUnder left t → ⊥
nothing_under left t ends under = none-some t (sym (ends under.0) ∙ under.1)

decide_under : (left : Term) → Form left → (t : Term) → Either (IsUnder left t)
decide_under _ (AReturn p) t = inr (nothing_under (Return p) t (ends_return p))
decide_under _ (AFail c) t = inr (nothing_under (Fail c) t (ends_fail c))
decide_under _ (ACall f ps) t = inr (nothing_under (Call f ps) t (ends_call f ps))
decide_under _ (AFrame f ps v) t = elim (decide_part v t) [
  | inl part ↦ inl (inner_under f ps v t part)
  | inr clear ↦ inr (λ under. clear (under_inner f ps v t under))
]

-- ---- pairs

pub any_root : (t : Term) → Form t → is_result t ≡ false → (root : Part) × IsRoot t root
any_root _ (AReturn p) isnt = absurd (false≢true (sym isnt ∙ result_return p))
any_root _ (AFail c) isnt = absurd (false≢true (sym isnt ∙ result_fail c))
any_root _ (ACall f ps) isnt = (part f ps, OfCall f ps)
any_root _ (AFrame f ps t) isnt = (part f ps, OfFrame f ps t)

-- a rule has pairs
pub some_pairs : (rule : Rule) → HasRoot rule → (pairs : List Pair) × ArePairs rule pairs
some_pairs rule has =
    let (root, is) = any_root rule.left (form rule.left) has in
    let (parts, are) = any_list rule.left (decide_under rule.left (form rule.left)) rule.right in
    (map (pair_of rule root) parts, PairsOf root is parts are)

-- and no others
pub one_pairs : (rule : Rule) (ps qs : List Pair) → ArePairs rule ps → ArePairs rule qs → ps ≡ qs
one_pairs rule _ _ (PairsOf root is parts are) (PairsOf other also others too) =
    λ i. map (pair_of rule (one_root rule.left root other is also i))
    (one_list rule.left rule.right parts others are too i)

-- so does a list of rules
pub some_all : (rules : List Rule) → All HasRoot rules → (pairs : List Pair) ×
    AreAllPairs rules pairs
some_all [] all = ([], NoRules)
some_all (rule ∷ rules) all =
    let (pairs, are) = some_pairs rule (All-head HasRoot rule rules all) in
    let (others, rest) = some_all rules (All-tail HasRoot rule rules all) in
    (pairs ++ others, OneMore rule rules pairs others are rest)

pub one_all : (rules : List Rule) (ps qs : List Pair) → AreAllPairs rules ps →
    AreAllPairs rules qs → ps ≡ qs
one_all _ _ _ NoRules NoRules = refl
one_all _ _ _ (OneMore rule rules pairs others are rest) (OneMore _ _ pairs2 others2 are2 rest2) =
    λ i. one_pairs rule pairs pairs2 are are2 i ++ one_all rules others others2 rest rest2 i

-- ---- two lists of rules, one after the other

pub all_append : (rules others : List Rule) (ps qs : List Pair) → AreAllPairs rules ps →
    AreAllPairs others qs → AreAllPairs (rules ++ others) (ps ++ qs)
all_append _ others _ qs NoRules after = after
all_append _ others _ qs (OneMore rule rules pairs rest are more) after =
    subst (AreAllPairs (rule ∷ rules ++ others)) (sym (append_assoc pairs rest qs))
    (OneMore rule (rules ++ others) pairs (rest ++ qs) are
    (all_append rules others rest qs more after))

-- the pairs of the first list, and then those of the second
pub record Parted (rules others : List Rule) (pairs : List Pair) : Type 0 where
  pub ours : List Pair
  pub theirs : List Pair
  pub first : AreAllPairs rules ours
  pub second : AreAllPairs others theirs
  pub whole : pairs ≡ ours ++ theirs

pub part_pairs : (rules others : List Rule) (pairs : List Pair) →
    AreAllPairs (rules ++ others) pairs → Parted rules others pairs
part_pairs [] others pairs are =
    record { ours = []; theirs = pairs; first = NoRules; second = are; whole = refl }
part_pairs (rule ∷ rules) others _ (OneMore _ _ pairs rest are more) =
    let inner = part_pairs rules others rest more in
    record {
      ours = pairs ++ inner.ours;
      theirs = inner.theirs;
      first = OneMore rule rules pairs inner.ours are inner.first;
      second = inner.second;
      whole = ap (λ r. pairs ++ r) inner.whole ∙ sym (append_assoc pairs inner.ours inner.theirs);
    }

-- the left side of a rule that is well made is no bare result
made_root : (left : Term) → IsLeft left → is_result left ≡ false
made_root _ (OfPoint f n) = result_call f (variables_from 0 n)
made_root _ (OverReturn f n) = result-Frame f (variables_from 0 n) (Return (variable n))
made_root _ (OverFail f n c) = result-Frame f (variables_from 0 n) (Fail c)

pub made_roots : (parts : RuleParts) (rules : List Rule) → All (IsMade parts) rules →
    All HasRoot rules
made_roots parts rules made =
    All-weaker (IsMade parts) HasRoot (λ rule m. made_root rule.left m.form) rules made
