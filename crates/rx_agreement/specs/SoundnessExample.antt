-- A program of two functions that return 0, its rule set and a rank table.
--
--   int a() { return 0; }
--   int b() { return 0; }
use Rattle.std.specs.Prelude.{true, false, [], ◌∷◌, pos}
use Rattle.rx_poly.specs.Constants.{number}
use Rattle.c_ast.specs.declared.expr.Expr.TheVariants.{Lit}
use Rattle.c_ast.specs.declared.program.Function.{Function}
use Rattle.c_ast.specs.declared.program.Resolved.{Resolved}
use Rattle.c_ast.specs.declared.stmt.Stmt.TheVariants as stmt
use Rattle.rx_code.specs.Rules.{symbol}
use Rattle.rx_pairs.specs.declared.table.RankTable.{RankTable}
use Rattle.rx_term.specs.declared.rule.Rule.{Rule}
use Rattle.rx_term.specs.declared.rule_set.RuleParts.{RuleParts}
use Rattle.rx_term.specs.declared.rule_set.SymInfo.{SymInfo}
use Rattle.rx_term.specs.declared.term.Sym.{Sym}
use Rattle.rx_term.specs.declared.term.Term.TheVariants.{Call, Return}

abbrev pub a : Function
a = record { name = 1; params = []; body = stmt.Return (Lit (pos 0)) ∷ [] }

abbrev pub b : Function
b = record { name = 2; params = []; body = stmt.Return (Lit (pos 0)) ∷ [] }

abbrev pub example : Resolved
example = record { functions = a ∷ b ∷ [] }

-- s0 and s1 are entry and end of `a`, s2 and s3 those of `b`; these are the entries
abbrev pub first : Sym
first = symbol 0

abbrev pub second : Sym
second = symbol 2

-- the entry of a function, and its end
abbrev pub an_entry : SymInfo
an_entry = record { arity = 0; frame = false; entry = true; head = false }

abbrev pub an_end : SymInfo
an_end = record { arity = 0; frame = false; entry = false; head = false }

-- the point returns 0
abbrev pub returns : Sym → Rule
returns s = record { left = Call s []; right = Return (number (pos 0)); rows = [] }

abbrev pub parts : RuleParts
parts = record {
  symbols = an_entry ∷ an_end ∷ an_entry ∷ an_end ∷ [];
  domains = [];
  rules = returns first ∷ returns (symbol 1) ∷ returns second ∷ returns (symbol 3) ∷ [];
  fails = 1;
}

-- one column, 0 for each symbol
abbrev pub table : RankTable
table =
    let zero = number (pos 0) ∷ [] in
    record { columns = 1; ranks = zero ∷ zero ∷ zero ∷ zero ∷ [] }
