-- Cover trees for a rule set: for each symbol a list, one tree for each shape that a redex with
-- that symbol has.
use Rattle.std.specs.Prelude.{Bool, true, false, if◌then◌else◌, ℕ, zero, suc, ◌+◌, ◌==◌, Option, Some, None, List, [], ◌∷◌, length, slice_get}
use Rattle.rx_row.specs.declared.row.Row.{Row}
use Rattle.rx_cert.specs.Findings.{Said, Yes, No, Beyond, and_also}
use Rattle.rx_term.specs.Domains.{domain_of}
use Rattle.rx_term.specs.Shapes.{Shape, Return, Fail, Call, Frame}
use Rattle.rx_term.specs.declared.rule.Rule.{Rule}
use Rattle.rx_term.specs.declared.rule_set.RuleParts.{RuleParts}
use Rattle.rx_term.specs.declared.rule_set.SymInfo.{SymInfo}
use Rattle.rx_term.specs.declared.term.Sym.{Sym}
use Rattle.rx_cover.specs.Trees.{tree_finding}
use Rattle.rx_cover.specs.declared.cover_tree.CoverTree.{CoverTree}

-- the symbol with that number
abbrev pub symbol : ℕ → Sym
symbol f = record { 0 = f }

-- a frame over failures with n codes, from that one on
abbrev pub over_failures : Sym → ℕ → ℕ → List Shape
over_failures f from zero = []
over_failures f from (suc n) = Frame f (Fail from) ∷ over_failures f (from + 1) n

-- the shapes of redexes with the symbol: a point's call; a frame over a returned value, and over
-- each failure code
abbrev pub redex_shapes : Sym → Bool → ℕ → List Shape
redex_shapes f false fails = Call f ∷ []
redex_shapes f true fails = Frame f Return ∷ over_failures f 1 fails

-- how many there are
abbrev pub shape_count : Bool → ℕ → ℕ
shape_count false fails = 1
shape_count true fails = fails + 1

-- each tree shows its shape at the path; trees after those of the shapes are not examined
abbrev pub in_turn : List Rule → List Row → List Shape → List CoverTree → Said
in_turn rules path [] trees = Yes
in_turn rules path (shape ∷ shapes) [] = No
in_turn rules path (shape ∷ shapes) (tree ∷ trees) =
    and_also (tree_finding rules shape tree path) (in_turn rules path shapes trees)

-- whether the trees show the shapes of the symbol, a frame or a point, at the path; where there is
-- another number of trees than of shapes, nothing is examined
abbrev pub shapes_finding : List Rule → ℕ → Sym → Bool → List Row → List CoverTree → Said
shapes_finding rules fails f frame path trees =
    if length trees == shape_count frame fails then
    in_turn rules path (redex_shapes f frame fails) trees else No

-- no trees cover a symbol that isn't there; otherwise their paths begin with its domain
abbrev pub symbol_finding : RuleParts → ℕ → Option SymInfo → List CoverTree → Said
symbol_finding parts f None trees = No
symbol_finding parts f (Some info) trees =
    shapes_finding parts.rules parts.fails (symbol f) info.frame (domain_of parts f) trees

abbrev pub one_covered : RuleParts → ℕ → List CoverTree → Said
one_covered parts f trees = symbol_finding parts f (slice_get parts.symbols f) trees

-- all symbols are covered, or the first that isn't, or the first at which the limits are passed
pub data Covering : Type 0 where
  Covers : Covering
  Fails : ℕ → Covering
  PassesLimits : ℕ → Covering

abbrev pub goes_on : ℕ → Said → Covering → Covering
goes_on f Beyond rest = PassesLimits f
goes_on f Yes rest = rest
goes_on f No rest = Fails f

-- the symbols in order, the first having that number; a symbol without a list fails, and so does
-- the number of symbols where there are more lists
abbrev pub covering_from : RuleParts → ℕ → List SymInfo → List (List CoverTree) → Covering
covering_from parts f [] [] = Covers
covering_from parts f [] (trees ∷ lists) = Fails f
covering_from parts f (info ∷ infos) [] = Fails f
covering_from parts f (info ∷ infos) (trees ∷ lists) =
    goes_on f (symbol_finding parts f (Some info) trees) (covering_from parts (f + 1) infos lists)

abbrev pub covering : RuleParts → List (List CoverTree) → Covering
covering parts lists = covering_from parts 0 parts.symbols lists
