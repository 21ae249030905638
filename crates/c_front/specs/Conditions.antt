-- Preconditions as stages: tokens, grammar, names. The names are those of the parameters of the
-- first function.
use Rattle.std.specs.Prelude.{◌≡◌, ◌≢◌, ℕ, List, [], Option, Some, None, Ok, Err, slice_get}
use Rattle.std.specs.Option.{option_map_or}
use Rattle.c_lex.specs.declared.token.Token.{Token}
use Rattle.c_lex.specs.Tokens.{tokens_of}
use Rattle.c_ast.specs.declared.expr.Expr.{Expr}
use Rattle.c_ast.specs.declared.integers.Integers.{Integers}
use Rattle.c_ast.specs.declared.program.Function.{Function}
use Rattle.c_parse.specs.declared.error.ParseEnd.{ParseEnd}
use Rattle.c_parse.specs.declared.error.ParseEnd.TheVariants as Flaw
use Rattle.c_parse.specs.Preconditions.{PreAnswers}
use Rattle.c_names.specs.declared.error.ScopeEnd.TheVariants as Wrong
use Rattle.c_names.specs.Preconditions.{resolved_pre}
use Rattle.c_names.specs.Steps.{Checked}
use Rattle.c_front.specs.declared.pairs.Compared.{Compared}
use Rattle.c_front.specs.declared.pairs.TwoFunctions.{TwoFunctions}
use Rattle.c_front.specs.declared.refusals.Refusal.{Refusal}
use Rattle.c_front.specs.declared.refusals.Refusal.TheVariants.{PreLex, PreName, PreParse}
use Rattle.c_front.specs.declared.stages.Next.{Next}
use Rattle.c_front.specs.declared.stages.Next.TheVariants.{Ends, Goes}
use Rattle.c_front.specs.declared.texts.PreText.{PreText}
use Rattle.c_front.specs.declared.texts.ProgramText.{ProgramText}
use Rattle.c_front.specs.Front.{front}
use Rattle.c_front.specs.FrontEnd.{IsProgram}
use Rattle.c_front.specs.Stages.{Stage, before, by}

-- a text has these tokens, or this first fault
abbrev pub pre_lex_stage : Stage Refusal (List ℕ) (List Token)
pre_lex_stage = by PreLex tokens_of

-- the tokens spell this row form within the limits, or are refused for this cause; a relation,
-- which holds of one answer at most
abbrev pub pre_parse_stage : List Token → Next Refusal PreText → Type 0
pre_parse_stage tokens (Ends refusal) =
    (end : ParseEnd) × PreAnswers tokens (Err end) × (end ≢ Flaw.NoMemory) ×
    (refusal ≡ PreParse end)
pre_parse_stage tokens (Goes text) = (text.tokens ≡ tokens) × PreAnswers tokens (Ok text.pre)

-- the parameters of the function at a place, by their tokens
abbrev pub params_at : List Function → ℕ → List ℕ
params_at functions place =
    option_map_or (λ (f : Function). f.params) (slice_get functions place) []

-- the names of a precondition are resolved, or this token is the first that no parameter has as its
-- name
abbrev pub IsResolved : Checked Expr → Next Refusal Expr → Type 0
IsResolved found (Ends refusal) =
    (token : ℕ) × (found ≡ Err (Wrong.UnknownName token)) × (refusal ≡ PreName token)
IsResolved found (Goes pre) = found ≡ Ok pre

abbrev pub pre_name_stage : List ℕ → ProgramText → ℕ → List ℕ → PreText → Next Refusal Expr → Type 0
pre_name_stage source text first bytes read =
    IsResolved
    (resolved_pre source text.tokens (params_at text.program.functions first) bytes read.tokens
    read.pre)

-- what is said of the bytes of a precondition, for the function at a place of a program
abbrev pub read_pre : List ℕ → ProgramText → ℕ → List ℕ → Next Refusal Expr → Type 0
read_pre source text first bytes =
    before pre_lex_stage (before pre_parse_stage (pre_name_stage source text first bytes)) bytes

-- two functions, without a precondition or with one
abbrev pub comparison : TwoFunctions → Option Expr → Compared
comparison two pre = record { two = two; precondition = pre }

-- what is said of a precondition on two functions of the program that a text spells
abbrev pub condition_stage : List ℕ → Option (List ℕ) → TwoFunctions → Next Refusal Compared →
    Type 0
condition_stage source None two (Ends refusal) = ⊥
condition_stage source None two (Goes compared) = compared ≡ comparison two None
condition_stage source (Some bytes) two (Ends refusal) =
    (text : ProgramText) × IsProgram source text.tokens text.program
    × read_pre source text two.first bytes (Ends refusal)
condition_stage source (Some bytes) two (Goes compared) =
    (text : ProgramText) × IsProgram source text.tokens text.program
    × (pre : Expr) × read_pre source text two.first bytes (Goes pre) ×
    (compared ≡ comparison two (Some pre))

-- what the front end says of a text, two names and a precondition
abbrev pub whole_front : Integers → List ℕ → List ℕ → List ℕ → Option (List ℕ) →
    Next Refusal Compared → Type 0
whole_front integers source first second pre =
    before (λ (text : List ℕ). front integers text first second) (condition_stage source pre) source
