-- What the last stages say is what the front end says, of two names and of a precondition.
use Rattle.std.proofs.Common.{ℕ, List, inl, inr}
use Rattle.c_ast.specs.declared.integers.Integers.{Integers}
use Rattle.c_lex.specs.declared.token.Token.{Token}
use Rattle.c_front.specs.declared.pairs.TwoFunctions.{TwoFunctions}
use Rattle.c_front.specs.declared.refusals.Refusal.{Refusal}
use Rattle.c_front.specs.declared.stages.Next.{Next}
use Rattle.c_front.specs.declared.stages.Next.TheVariants.{Ends, Goes}
use Rattle.c_front.specs.declared.texts.ProgramText.{ProgramText}
use Rattle.c_front.specs.declared.texts.ResolvedText.{ResolvedText}
use Rattle.c_ast.specs.declared.expr.Expr.{Expr}
use Rattle.c_front.specs.declared.texts.PreText.{PreText}
use Rattle.c_front.specs.Conditions.{pre_lex_stage, pre_name_stage, pre_parse_stage, read_pre}
use Rattle.c_front.specs.Front.{count_stage, front, lex_stage, literal_stage, name_stage, parse_stage, scope_stage}

-- a number that is too wide decides
pub literals_decide : (integers : Integers) (source first second : List ℕ) (tokens : List Token)
    (text : ProgramText) (found : ResolvedText)
    → lex_stage source (Goes tokens) → parse_stage tokens (Goes text)
    → scope_stage source text (Goes found)
    → (refusal : Refusal) → literal_stage integers found (Ends refusal) →
    front integers source first second (Ends refusal)
literals_decide integers source first second tokens text found lexed parsed scoped refusal wide =
    inr (tokens, lexed, inr (text, parsed, inr (found, scoped, inl wide)))

module _ (integers : Integers) (source first second : List ℕ) (tokens : List Token)
    (text : ProgramText) (found known : ResolvedText)
    (lexed : lex_stage source (Goes tokens)) (parsed : parse_stage tokens (Goes text))
    (scoped : scope_stage source text (Goes found))
    (narrow : literal_stage integers found (Goes known)) where
  pub names_decide : (refusal : Refusal) → name_stage source first second known (Ends refusal) →
      front integers source first second (Ends refusal)
  names_decide refusal named =
      inr (tokens, lexed, inr (text, parsed, inr (found, scoped, inr (known, narrow, inl named))))

  pub counts_decide : (two : TwoFunctions) → name_stage source first second known (Goes two) →
      (x : Next Refusal TwoFunctions) → count_stage two x → front integers source first second x
  counts_decide two named (Ends refusal) counted =
      inr (
        tokens,
        lexed,
        inr (
          text,
          parsed,
          inr
              (found, scoped, inr (known, narrow, inr (two, named, counted))),
        ),
      )
  counts_decide two named (Goes t) counted =
      (tokens, lexed, (text, parsed, (found, scoped, (known, narrow, (two, named, counted)))))

-- what is said of the names of a precondition is said of it
pub pre_names_decide : (source : List ℕ) (text : ProgramText) (first : ℕ) (bytes : List ℕ)
    (tokens : List Token) (read : PreText)
    → pre_lex_stage bytes (Goes tokens) → pre_parse_stage tokens (Goes read)
    → (x : Next Refusal Expr) → pre_name_stage source text first bytes read x →
    read_pre source text first bytes x
pre_names_decide source text first bytes tokens read lexed parsed (Ends refusal) named =
    inr (tokens, lexed, inr (read, parsed, named))
pre_names_decide source text first bytes tokens read lexed parsed (Goes pre) named =
    (tokens, lexed, (read, parsed, named))
