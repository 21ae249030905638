-- Where the pairs are lower, a rule's step gives a smaller weight.
use Rattle.std.proofs.Common.{◌≡◌, ℕ, suc, inl, Option, Some, None, List, [], ◌∷◌, ◌++◌, map, refl, sym, ap, subst, ◌∙◌, ℤ, All}
use Rattle.std.proofs.lemmas.List.{append-nil}
use Rattle.std.proofs.lemmas.List.Elements.{All-head, All-tail}
use Rattle.rx_rewriting.specs.Ranks.{Rank, Weight, AllBelow, Smaller, weight_of, ranks_of}
use Rattle.rx_rewriting.proofs.SmallerWeights.{Smaller-exchange, weight_of-in_context}
use Rattle.rx_term.specs.Meaning.{values, ground_at, outer_frames}
use Rattle.rx_term.specs.Stacks.{suffix_at, under_frame}
use Rattle.rx_term.specs.declared.term.Term.{Term, Term-F}
use Rattle.rx_term.specs.declared.term.Term.TheVariants.{outs-Call}
use Rattle.rx_term.proofs.Equations.{ground-Return, ground-Fail, ground-Call, ground-Frame, outer-Frame}
use Rattle.rx_term.proofs.RedexLaws.{ground_after}
use Rattle.rx_term.specs.declared.rule.Rule.{Rule}
use Rattle.rx_pairs.specs.Lowering.{IsLower}
use Rattle.rx_pairs.specs.Pairs.{Part, part, IsRoot, OfCall, OfFrame, AreParts, Common, AtReturn, AtFail, AtCall, AtFrame, ArePairs, PairsOf, pair_of}
use Rattle.rx_pairs.specs.Ranks.{rank_of}
use Rattle.rx_pairs.specs.declared.pair.Pair.{Pair}
use Rattle.rx_pairs.specs.declared.table.RankTable.{RankTable}

module _ (table : RankTable) (a : ℕ → ℤ) (rule : Rule) (root : Part)
    (is_root : IsRoot rule.left root) where
  abbrev left : Term
  left = rule.left

  abbrev rank : ℕ → List ℤ → Rank
  rank = rank_of table

  abbrev top : Rank
  top = rank root.symbol.0 (values a root.arguments)

  -- the weight of the left side begins with the root's rank, and so does what is taken from it down
  -- to a part under the root
  record Taken (kept : Weight) : Type 0 where
    pub others : Weight
    pub whole : weight_of rank (ground_at a left) ≡ (top ∷ others) ++ kept

  from_root : (l : Term) → IsRoot l root → (others : Weight) ×
      (weight_of rank (ground_at a l) ≡ top ∷ others)
  from_root _ (OfCall f ps) = ([], ap (weight_of rank) (ground-Call a f ps))
  from_root _ (OfFrame f ps t) =
      (weight_of rank (ground_at a t), ap (weight_of rank) (ground-Frame a f ps t))

  nothing_kept : Taken []
  nothing_kept =
      let (others, is) = from_root left is_root in
      record { others = others; whole = is ∙ sym (append-nil (top ∷ others)) }

  outer_root : (k : ℕ) (l t : Term) → IsRoot l root → suffix_at (suc k) l ≡ Some t →
      (others : Weight) × (ranks_of rank (outer_frames a (suc k) l) ≡ top ∷ others)
  outer_root k _ t (OfCall f ps) stands =
      let no_ : ◌≡◌ {A = Option Term} None (Some t) =
      sym (ap (λ (x : Term-F Term). under_frame x (suffix_at k)) (outs-Call f ps)) ∙ stands in
      absurd cc
  outer_root k _ t (OfFrame f ps u) stands =
      (ranks_of rank (outer_frames a k u), ap (ranks_of rank) (outer-Frame a k f ps u))

  part_kept : (k : ℕ) (t : Term) → suffix_at (suc k) left ≡ Some t →
      Taken (weight_of rank (ground_at a t))
  part_kept k t stands =
      let (others, is) = outer_root k left t is_root stands in
      record {
        others = others;
        whole =
            ap (weight_of rank) (ground_after a (suc k) left t stands) ∙
            (weight_of-in_context rank (outer_frames a (suc k) left) (ground_at a t) ∙
            ap (λ w. w ++ weight_of rank (ground_at a t)) is);
      }

  -- the weight of a right side is the ranks of its parts, and what is kept
  record Put (t : Term) (parts : List Part) : Type 0 where
    pub kept : Weight
    pub taken : Taken kept
    pub put : Weight
    pub whole : weight_of rank (ground_at a t) ≡ put ++ kept
    pub below : (others : Weight) → AllBelow (top ∷ others) put

  -- all pairs with these parts are lower
  abbrev AllLower : List Part → Type 0
  AllLower parts = All (IsLower table a) (map (pair_of rule root) parts)

  first_lower : (first : Part) (rest : List Part) → AllLower (first ∷ rest) →
      IsLower table a (pair_of rule root first)
  first_lower first rest all =
      All-head (IsLower table a) (pair_of rule root first) (map (pair_of rule root) rest) all

  others_lower : (first : Part) (rest : List Part) → AllLower (first ∷ rest) → AllLower rest
  others_lower first rest all =
      All-tail (IsLower table a) (pair_of rule root first) (map (pair_of rule root) rest) all

  puts : (t : Term) (parts : List Part) → AreParts left t parts → AllLower parts → Put t parts
  puts t parts (Common _ under) all =
      record {
        kept = weight_of rank (ground_at a t);
        taken = part_kept under.0 t under.1;
        put = [];
        whole = refl;
        below = λ others. tt;
      }
  puts _ parts (AtReturn p) all =
      record {
        kept = [];
        taken = nothing_kept;
        put = [];
        whole =
            ap (weight_of rank) (ground-Return a p);
        below = λ others. tt;
      }
  puts _ parts (AtFail c) all =
      record {
        kept = [];
        taken = nothing_kept;
        put = [];
        whole =
            ap (weight_of rank) (ground-Fail a c);
        below = λ others. tt;
      }
  puts _ parts (AtCall f ps differs) all =
      let lower = first_lower (part f ps) [] all in
      record {
        kept = [];
        taken = nothing_kept;
        put = rank f.0 (values a ps) ∷ [];
        whole =
            ap (weight_of rank) (ground-Call a f ps);
        below = λ others. (inl lower, tt);
      }
  puts _ parts (AtFrame f ps t rest differs inner) all =
      let lower = first_lower (part f ps) rest all in
      let inside = puts t rest inner (others_lower (part f ps) rest all) in
      record {
        kept = inside.kept;
        taken = inside.taken;
        put = rank f.0 (values a ps) ∷ inside.put;
        whole =
            ap (weight_of rank) (ground-Frame a f ps t) ∙
            ap (λ w. rank f.0 (values a ps) ∷ w) inside.whole;
        below = λ others. (inl lower, inside.below others);
      }

  -- so the right side has a smaller weight
  lowered : (right : Term) (parts : List Part) → AreParts left right parts → AllLower parts →
      Smaller (weight_of rank (ground_at a right)) (weight_of rank (ground_at a left))
  lowered right parts are all =
      let put = puts right parts are all in
      subst (λ v. Smaller v (weight_of rank (ground_at a left))) (sym put.whole)
      (subst (Smaller (put.put ++ put.kept)) (sym put.taken.whole)
      (Smaller-exchange top put.taken.others put.put put.kept (put.below put.taken.others)))

-- at an assignment at which all pairs of a rule are lower, its right side has a smaller weight than
-- its left side
pub rule_lowers : (table : RankTable) (a : ℕ → ℤ) (rule : Rule) (pairs : List Pair) →
    ArePairs rule pairs → All (IsLower table a) pairs
    → Smaller (weight_of (rank_of table) (ground_at a rule.right))
    (weight_of (rank_of table) (ground_at a rule.left))
rule_lowers table a rule _ (PairsOf root is_root parts are) all =
    lowered table a rule root is_root rule.right parts are all
