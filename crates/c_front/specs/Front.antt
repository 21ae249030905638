-- The front end as stages: tokens, grammar, scope, the numbers, the two names, their numbers of
-- parameters. The first stage that ends the run decides.
use Rattle.std.specs.Prelude.{◌≡◌, ◌≢◌, ℕ, List, Option, Some, None, Result, Ok, Err, nat_eq, slice_get, if◌then◌else◌}
use Rattle.c_lex.specs.declared.token.Token.{Token}
use Rattle.c_lex.specs.Tokens.{tokens_of}
use Rattle.c_ast.specs.declared.integers.Integers.{Integers}
use Rattle.c_ast.specs.declared.program.Resolved.{Resolved}
use Rattle.c_parse.specs.declared.error.ParseEnd.{ParseEnd}
use Rattle.c_parse.specs.declared.error.ParseEnd.TheVariants as Flaw
use Rattle.c_parse.specs.Answers.{Answers}
use Rattle.c_names.specs.declared.error.ScopeEnd.{ScopeEnd}
use Rattle.c_names.specs.Expressions.{count_at}
use Rattle.c_scope.specs.Programs.{scope_of}
use Rattle.c_front.specs.declared.pairs.TwoFunctions.{TwoFunctions}
use Rattle.c_front.specs.declared.refusals.Refusal.{Refusal}
use Rattle.c_front.specs.declared.refusals.Refusal.TheVariants.{Lex, Parse, Scope, WideLiteral, NoFunction, Arity}
use Rattle.c_front.specs.declared.stages.Next.{Next}
use Rattle.c_front.specs.declared.stages.Next.TheVariants.{Ends, Goes}
use Rattle.c_front.specs.declared.texts.ProgramText.{ProgramText}
use Rattle.c_front.specs.declared.texts.ResolvedText.{ResolvedText}
use Rattle.c_front.specs.FrontEnd.{place_in}
use Rattle.c_front.specs.Literals.{first_wide}
use Rattle.c_front.specs.Stages.{Stage, by, before}

-- a text has these tokens, or this first fault
abbrev pub lex_stage : Stage Refusal (List ℕ) (List Token)
lex_stage = by Lex tokens_of

-- the tokens spell this program within the limits, or are refused for this cause; a relation, which
-- holds of one answer at most
abbrev pub parse_stage : List Token → Next Refusal ProgramText → Type 0
parse_stage tokens (Ends refusal) =
    (end : ParseEnd) × Answers tokens (Err end) × (end ≢ Flaw.NoMemory) × (refusal ≡ Parse end)
parse_stage tokens (Goes text) = (text.tokens ≡ tokens) × Answers tokens (Ok text.program)

-- with the names of the program resolved
abbrev pub with_names : ProgramText → Result Resolved ScopeEnd → Result ResolvedText ScopeEnd
with_names text (Ok resolved) = Ok (record { text = text; resolved = resolved })
with_names text (Err fault) = Err fault

-- the program is well formed, or has this first fault
abbrev pub scope_stage : List ℕ → Stage Refusal ProgramText ResolvedText
scope_stage source = by Scope (λ text. with_names text (scope_of source text.tokens text.program))

-- the text, where no number is too wide; otherwise the place of the first that is
abbrev pub where_narrow : ResolvedText → Option ℕ → Result ResolvedText ℕ
where_narrow known None = Ok known
where_narrow known (Some token) = Err token

-- each number of the text is an integer of the kind, or this token is the first that is none
abbrev pub literal_stage : Integers → Stage Refusal ResolvedText ResolvedText
literal_stage integers =
    by WideLiteral (λ known. where_narrow known (first_wide integers known.text.tokens))

-- two functions at these places, or the number of the first name that has none
abbrev pub two_at : Resolved → Option ℕ → Option ℕ → Result TwoFunctions ℕ
two_at resolved None second = Err 1
two_at resolved (Some i) None = Err 2
two_at resolved (Some i) (Some j) = Ok (record { program = resolved; first = i; second = j })

-- both names have functions, or this is the first that has none
abbrev pub name_stage : List ℕ → List ℕ → List ℕ → Stage Refusal ResolvedText TwoFunctions
name_stage source first second =
    by NoFunction (λ known. two_at known.resolved
    (place_in source known.text.tokens known.text.program first)
    (place_in source known.text.tokens known.text.program second))

-- the functions, where these numbers of parameters are equal
abbrev pub with_counts : TwoFunctions → ℕ → ℕ → Result TwoFunctions Refusal
with_counts two m n = if nat_eq m n then Ok two else Err (Arity m n)

-- the number of parameters of the function at a place
abbrev pub count_in : Resolved → ℕ → ℕ
count_in program place = count_at (slice_get program.functions place)

-- both functions have equally many parameters, or these are their numbers
abbrev pub count_stage : Stage Refusal TwoFunctions TwoFunctions
count_stage =
    by (λ refusal. refusal) (λ two. with_counts two (count_in two.program two.first)
    (count_in two.program two.second))

-- what the front end says of a text and two names
abbrev pub front : Integers → List ℕ → List ℕ → List ℕ → Next Refusal TwoFunctions → Type 0
front integers source first second =
    before lex_stage (before parse_stage (before (scope_stage source)
    (before (literal_stage integers) (before (name_stage source first second) count_stage)))) source
