-- Whatever the recogniser still expects can be completed: each symbol has a shortest spelling, and
-- these, one after the other, are accepted.
use Rattle.std.proofs.Common.{◌≡◌, ℕ, ◌+◌, true, Option, None, List, [], ◌∷◌, refl, ◌∙◌}
use Rattle.c_lex.specs.declared.token.Token.{Token}
use Rattle.c_lex.specs.declared.token.TokenKind.{TokenKind}
use Rattle.c_lex.specs.declared.token.TokenKind.TheVariants.{Name, Word, Mark}
use Rattle.c_lex.specs.declared.token.Keyword.TheVariants as word
use Rattle.c_lex.specs.declared.token.Mark.TheVariants as mark
use Rattle.c_parse.specs.declared.symbol.Symbol.{Symbol}
use Rattle.c_parse.specs.declared.symbol.Symbol.TheVariants as symbol
use Rattle.c_parse.specs.declared.symbol.Naming.{Naming}
use Rattle.c_parse.specs.declared.symbol.Naming.TheVariants.{Full, Partial}
use Rattle.c_parse.specs.Actions.{skips, going_action, else_action}
use Rattle.c_parse.specs.Recogniser.{fed, fault}
use Rattle.c_parse.proofs.Running.{first_kind, skips_token}
use Rattle.c_parse.proofs.Stacks.{is_stack, stack_tail}

-- tokens in front of others
abbrev pub spell : List TokenKind → List Token → List Token
spell [] ts = ts
spell (k ∷ ks) ts = (record { kind = k; at = 0; len = 1 }) ∷ spell ks ts

-- the shortest spelling of a symbol
abbrev pub shortest : Symbol → List TokenKind
shortest symbol.Name = Name ∷ []
shortest symbol.LeftParen = Mark mark.LeftParen ∷ []
shortest symbol.RightParen = Mark mark.RightParen ∷ []
shortest symbol.Colon = Mark mark.Colon ∷ []
shortest symbol.Semicolon = Mark mark.Semicolon ∷ []
shortest symbol.While = Word word.While ∷ []
shortest symbol.Expression = Name ∷ Mark mark.LeftParen ∷ Mark mark.RightParen ∷ []
shortest symbol.Called = Mark mark.LeftParen ∷ Mark mark.RightParen ∷ []
shortest symbol.Going = []
shortest symbol.Arguments = Mark mark.RightParen ∷ []
shortest symbol.Following = Mark mark.RightParen ∷ []
shortest symbol.Items = Mark mark.RightBrace ∷ []
shortest symbol.Statement = Mark mark.Semicolon ∷ []
shortest symbol.Else = []
shortest symbol.Changed = Mark mark.PlusPlus ∷ []
shortest symbol.Declarators = Name ∷ Mark mark.Semicolon ∷ []
shortest symbol.Declared = Mark mark.Semicolon ∷ []
shortest symbol.MoreDeclarators = Mark mark.Semicolon ∷ []
shortest symbol.ForStart = Mark mark.Semicolon ∷ []
shortest symbol.ForTest = Mark mark.Semicolon ∷ []
shortest symbol.ForChange = Mark mark.RightParen ∷ []
shortest symbol.Program = []
shortest symbol.Parameters = Mark mark.RightParen ∷ Mark mark.Semicolon ∷ []
shortest (symbol.Parameter naming) =
    Word word.Int ∷ Name ∷ Mark mark.RightParen ∷ Mark mark.Semicolon ∷ []
shortest (symbol.ParameterName naming) = Name ∷ Mark mark.RightParen ∷ Mark mark.Semicolon ∷ []
shortest (symbol.MoreParameters naming) = Mark mark.RightParen ∷ Mark mark.Semicolon ∷ []
shortest symbol.Body = Mark mark.Semicolon ∷ []

-- all that a stack expects
abbrev pub completion : List Symbol → List Token
completion [] = []
completion (s ∷ ss) = spell (shortest s) (completion ss)

-- a token that goes on with no expression and no `if`
record IsCalm (kind : Option TokenKind) : Type 0 where
  going : going_action kind ≡ skips
  alone : else_action kind ≡ skips

-- the completion of a stack begins with such a token
calm : (ss : List Symbol) → IsCalm (first_kind (completion ss))
calm [] = record { going = refl; alone = refl }
calm (symbol.Going ∷ ss) = calm ss
calm (symbol.Else ∷ ss) = calm ss
calm (symbol.Program ∷ ss) = calm ss
calm (_ ∷ ss) = record { going = refl; alone = refl }

-- after a call nothing need go on
going_over : (ss : List Symbol) (at : ℕ) → fault ss at (completion ss) ≡ None →
    fault (symbol.Going ∷ ss) at (completion ss) ≡ None
going_over ss at h = skips_token symbol.Going ss at (completion ss) (calm ss).going ∙ h

-- the end of the parameters of a prototype
closing : (naming : Naming) (ss : List Symbol) (at : ℕ) (ts : List Token) →
    fault ss (at + 1 + 1) ts ≡ None → fault (symbol.MoreParameters naming ∷ ss) at
    (spell (Mark mark.RightParen ∷ Mark mark.Semicolon ∷ []) ts) ≡ None
unfolding fault fed
closing Full ss at ts h = h
closing Partial ss at ts h = h

-- a stack accepts its completion
pub completed : (ss : List Symbol) (at : ℕ) → is_stack ss ≡ true → fault ss at (completion ss) ≡
    None
unfolding fault fed
completed [] at h = refl
completed (symbol.Program ∷ []) at h = refl
completed (symbol.Program ∷ (r ∷ ss)) at h = absurd cc
completed (symbol.Going ∷ ss) at h =
    going_over ss at (completed ss at (stack_tail symbol.Going ss h))
completed (symbol.Else ∷ ss) at h =
    skips_token symbol.Else ss at (completion ss) (calm ss).alone ∙
    completed ss at (stack_tail symbol.Else ss h)
completed (symbol.Expression ∷ ss) at h =
    going_over ss (at + 1 + 1 + 1) (completed ss (at + 1 + 1 + 1)
    (stack_tail symbol.Expression ss h))
completed (symbol.Called ∷ ss) at h =
    going_over ss (at + 1 + 1) (completed ss (at + 1 + 1) (stack_tail symbol.Called ss h))
completed (symbol.Declarators ∷ ss) at h =
    completed ss (at + 1 + 1) (stack_tail symbol.Declarators ss h)
completed (symbol.Parameters ∷ ss) at h =
    completed ss (at + 1 + 1) (stack_tail symbol.Parameters ss h)
completed (symbol.Parameter naming ∷ ss) at h =
    closing naming ss (at + 1 + 1) (completion ss)
    (completed ss (at + 1 + 1 + 1 + 1) (stack_tail (symbol.Parameter naming) ss h))
completed (symbol.ParameterName naming ∷ ss) at h =
    closing naming ss (at + 1) (completion ss)
    (completed ss (at + 1 + 1 + 1) (stack_tail (symbol.ParameterName naming) ss h))
completed (symbol.MoreParameters naming ∷ ss) at h =
    closing naming ss at (completion ss) (completed ss (at + 1 + 1)
    (stack_tail (symbol.MoreParameters naming) ss h))
completed (s ∷ ss) at h = completed ss (at + 1) (stack_tail s ss h)
