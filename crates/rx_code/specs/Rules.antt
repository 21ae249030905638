-- The rules of code: what is done at a symbol, as rules whose left side has that symbol at its
-- root.
use Rattle.std.specs.Prelude.{ℕ, ◌==◌, Bool, true, List, [], ◌∷◌, ◌++◌, length, map, take, filter}
use Rattle.std.specs.List.{enumerate_from, flat_map, list_any}
use Rattle.c_ast.specs.declared.integers.Integers.{Integers}
use Rattle.c_ast.specs.declared.integers.Integers.TheVariants.{Unbounded, Bits32}
use Rattle.rx_poly.specs.Constants.{variable}
use Rattle.rx_poly.specs.Division.{quotient_of, remainder_of}
use Rattle.rx_poly.specs.Limits.{is_within}
use Rattle.rx_poly.specs.declared.body.Body.{Body}
use Rattle.rx_row.specs.Negation.{negation, negation_within}
use Rattle.rx_row.specs.declared.row.Row.{Row}
use Rattle.rx_row.specs.declared.row.Row.TheVariants.{Eq, Ne}
use Rattle.rx_term.specs.WellMade.{variables_from}
use Rattle.rx_term.specs.declared.rule.Rule.{Rule}
use Rattle.rx_term.specs.declared.rule_set.RuleParts.{RuleParts}
use Rattle.rx_term.specs.declared.rule_set.SymInfo.{SymInfo}
use Rattle.rx_term.specs.declared.term.Sym.{Sym}
use Rattle.rx_term.specs.declared.term.Term.{Term}
use Rattle.rx_term.specs.declared.term.Term.TheVariants as term
use Rattle.rx_code.specs.Points.{with_element}
use Rattle.rx_code.specs.Programs.{entry_of}
use Rattle.rx_code.specs.declared.action.Action.{Action}
use Rattle.rx_code.specs.declared.action.Action.TheVariants.{Go, Set, Test, Exclude, Divide, Call, Resume, Return}
use Rattle.rx_code.specs.declared.action.Instruction.{Instruction}
use Rattle.rx_code.specs.declared.action.Division.{Division}
use Rattle.rx_code.specs.declared.action.Division.TheVariants.{Quotient, Remainder}
use Rattle.rx_code.specs.declared.code.Code.{Code}
use Rattle.rx_code.specs.declared.point.Opening.{Opening}
use Rattle.rx_code.specs.declared.point.Point.{Point}

-- the symbol of that number
abbrev pub symbol : ℕ → Sym
symbol n = record { 0 = n }

-- the variables of a point
abbrev pub variables_of : Point → List Body
variables_of a = variables_from 0 a.width

-- the call of a point on its variables
abbrev pub call_of : Point → Term
call_of a = term.Call (symbol a.symbol) (variables_of a)

-- the call of a point on the first of these, as many as it has variables
abbrev pub jump : Point → List Body → Term
jump z ps = term.Call (symbol z.symbol) (take z.width ps)

-- the polynomial that is the result of a division
abbrev pub divided : Division → Body → Body → Body
divided Quotient p q = quotient_of p q
divided Remainder p q = remainder_of p q

-- a rule without rows, and one with a row
abbrev pub always : Term → Term → Rule
always left right = record { left = left; right = right; rows = [] }

abbrev pub where_holds : Row → Term → Term → Rule
where_holds row left right = record { left = left; right = right; rows = row ∷ [] }

-- the codes of failures, by the kind of integers: 1 for the division error; of 32-bit integers 2
-- for the range error
abbrev pub failure_codes : Integers → List ℕ
failure_codes Unbounded = 1 ∷ []
failure_codes Bits32 = 1 ∷ 2 ∷ []

-- at a frame: on with what is returned, and a failure handed on
abbrev pub over_value : Point → Point → Rule
over_value a b =
    always (term.Frame (symbol a.symbol) (variables_of a) (term.Return (variable a.width)))
    (jump b (variables_of a ++ variable a.width ∷ []))

abbrev pub over_failure : Point → ℕ → Rule
over_failure a code =
    always (term.Frame (symbol a.symbol) (variables_of a) (term.Fail code)) (term.Fail code)

-- whether what is formed for the rules of an action keeps the limits: the negation of a row, and
-- the result of a division
abbrev pub action_within : Action → Bool
action_within (Test row y w) = negation_within row
action_within (Exclude row z) = negation_within row
action_within (Divide d p q b) = is_within (divided d p q)
action_within _ = true

abbrev pub instruction_within : Instruction → Bool
instruction_within d = action_within d.action

-- what the symbol of that number is
abbrev pub info_at : Code → ℕ × Opening → SymInfo
info_at c o = record {
  arity = o.1.width;
  frame = o.1.frame;
  entry = list_any (λ (e : ℕ × ℕ). e.1 == o.0) c.entries;
  head = list_any (λ k. k == o.0) c.heads;
}

module _ (integers : Integers) where
  -- the rules of an action, where `entry` is the entry of each function; `Resume` is done at a
  -- frame, over what is returned and over each failure
  abbrev pub rules_of_action : (ℕ → ℕ) → Point → Action → List Rule
  rules_of_action entry a (Go z) = always (call_of a) (jump z (variables_of a)) ∷ []
  rules_of_action entry a (Set k p z) =
      always (call_of a) (jump z (with_element k p (variables_of a))) ∷ []
  rules_of_action entry a (Test row y w) =
      where_holds row (call_of a) (jump y (variables_of a))
      ∷ where_holds (negation row) (call_of a) (jump w (variables_of a)) ∷ []
  rules_of_action entry a (Exclude row z) =
      where_holds row (call_of a) (term.Fail 2)
      ∷ where_holds (negation row) (call_of a) (jump z (variables_of a)) ∷ []
  rules_of_action entry a (Divide d p q b) =
      where_holds (Eq q) (call_of a) (term.Fail 1)
      ∷ where_holds (Ne q) (call_of a) (jump b (variables_of a ++ divided d p q ∷ [])) ∷ []
  rules_of_action entry a (Call f ps r) =
      always (call_of a)
      (term.Frame (symbol r.symbol) (take r.width (variables_of a))
      (term.Call (symbol (entry f)) ps))
      ∷ []
  rules_of_action entry a (Resume b) =
      over_value a b ∷ map (over_failure a) (failure_codes integers)
  rules_of_action entry a (Return p) = always (call_of a) (term.Return p) ∷ []

  abbrev pub rules_of_instruction : (ℕ → ℕ) → Instruction → List Rule
  rules_of_instruction entry d = rules_of_action entry d.at d.action

  -- the rules of what is done at the symbol of that number
  abbrev pub rules_at : Code → ℕ → List Rule
  rules_at c k =
      flat_map (rules_of_instruction (entry_of c.entries))
      (filter (λ (d : Instruction). d.at.symbol == k) c.instructions)

  -- the rule set of code: its symbols, the rules symbol by symbol, and as many failures as there
  -- are codes
  abbrev pub parts_of : Code → RuleParts
  parts_of c = record {
    symbols = map (info_at c) (enumerate_from 0 c.opened);
    domains = [];
    rules = flat_map (λ (o : ℕ × Opening). rules_at c o.0) (enumerate_from 0 c.opened);
    fails = length (failure_codes integers);
  }
