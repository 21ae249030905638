-- The names in a tree are the numbers of tokens that are names.
use Rattle.std.specs.Prelude.{List}
use Rattle.std.specs.List.{All}
use Rattle.c_lex.specs.declared.token.Token.{Token}
use Rattle.c_ast.specs.declared.program.Function.{Function}
use Rattle.c_ast.specs.Variables.{stmt_variables}
use Rattle.c_syntax.specs.Names.{IsName}

-- the name of the function, its parameters and the variables of its body are places of names
pub record IsNamed (ts : List Token) (f : Function) : Type 0 where
  pub name : IsName ts f.name
  pub params : All (IsName ts) f.params
  pub body : All (λ s. All (IsName ts) (stmt_variables s)) f.body
