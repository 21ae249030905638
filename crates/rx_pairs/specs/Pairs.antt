-- The pairs of a rule or a hypothesis (Arts and Giesl 2000, for stacks): the root of its left side
-- against each frame and the call of its right side, from outer to inner, down to the first part
-- that is also a proper part of the left side.
use Rattle.std.specs.Prelude.{◌≡◌, true, false, ℕ, suc, Some, List, [], ◌∷◌, ◌++◌, map}
use Rattle.rx_poly.specs.declared.body.Body.{Body}
use Rattle.rx_row.specs.declared.row.Row.{Row}
use Rattle.rx_term.specs.Fitting.{term_fits}
use Rattle.rx_term.specs.Stacks.{suffix_at, is_result}
use Rattle.rx_term.specs.declared.rule.Rule.{Rule}
use Rattle.rx_term.specs.declared.rule_set.RuleParts.{RuleParts}
use Rattle.rx_term.specs.declared.term.Sym.{Sym}
use Rattle.rx_term.specs.declared.term.Term.{Term}
use Rattle.rx_term.specs.declared.term.Term.TheVariants.{Return, Fail, Call, Frame}
use Rattle.rx_pairs.specs.declared.pair.Pair.{Pair}

-- a symbol with its arguments
pub record Part : Type 0 where
  pub symbol : Sym
  pub arguments : List Body

abbrev pub part : Sym → List Body → Part
part f ps = record { symbol = f; arguments = ps }

-- the outermost frame of a term, or its call; a result has none
pub data IsRoot : Term → Part → Type 0 where
  OfCall : (f : Sym) (ps : List Body) → IsRoot (Call f ps) (part f ps)
  OfFrame : (f : Sym) (ps : List Body) (t : Term) → IsRoot (Frame f ps t) (part f ps)

-- the term is a proper part of the left side: what is under some of its frames
abbrev pub IsUnder : Term → Term → Type 0
IsUnder left t = (k : ℕ) × (suffix_at (suc k) left ≡ Some t)

-- the frames and the call of a right side, from outer to inner, down to the first part that is also
-- under the left side
pub data AreParts (left : Term) : Term → List Part → Type 0 where
  Common : (t : Term) → IsUnder left t → AreParts left t []
  AtReturn : (p : Body) → AreParts left (Return p) []
  AtFail : (c : ℕ) → AreParts left (Fail c) []
  AtCall : (f : Sym) (ps : List Body) → (IsUnder left (Call f ps) → ⊥) →
      AreParts left (Call f ps) (part f ps ∷ [])
  AtFrame : (f : Sym) (ps : List Body) (t : Term) (rest : List Part) →
      (IsUnder left (Frame f ps t) → ⊥)
      → AreParts left t rest → AreParts left (Frame f ps t) (part f ps ∷ rest)

-- the pair of a left root and a part, under these rows
abbrev pub pair_under : List Row → Part → Part → Pair
pair_under rows root right = record {
  phi = rows;
  left = root.symbol;
  left_args = root.arguments;
  right = right.symbol;
  right_args = right.arguments;
}

-- under the rule's rows
abbrev pub pair_of : Rule → Part → Part → Pair
pair_of rule = pair_under rule.rows

pub data ArePairs (rule : Rule) : List Pair → Type 0 where
  PairsOf : (root : Part) → IsRoot rule.left root → (parts : List Part) →
      AreParts rule.left rule.right parts
      → ArePairs rule (map (pair_of rule root) parts)

-- the pairs of a list of rules, those of the first rule first
pub data AreAllPairs : List Rule → List Pair → Type 0 where
  NoRules : AreAllPairs [] []
  OneMore : (rule : Rule) (rules : List Rule) (pairs others : List Pair) → ArePairs rule pairs →
      AreAllPairs rules others
      → AreAllPairs (rule ∷ rules) (pairs ++ others)

-- the left side of a rule is no bare result
abbrev pub HasRoot : Rule → Type 0
HasRoot rule = is_result rule.left ≡ false

-- both sides of a rule fit the symbols
abbrev pub SidesFit : RuleParts → Rule → Type 0
SidesFit parts rule = (term_fits parts rule.left ≡ true) × (term_fits parts rule.right ≡ true)
