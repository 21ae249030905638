-- A text and two names have one answer of the stages.
use Rattle.std.proofs.Common.{◌≡◌, ℕ, List, sym, ap, ◌∙◌}
use Rattle.c_ast.specs.declared.integers.Integers.{Integers}
use Rattle.c_lex.specs.Tokens.{tokens_of}
use Rattle.c_parse.proofs.OneAnswer.{one_refusal, spelled_unrefused}
use Rattle.c_parse.proofs.Unique.{program_unique}
use Rattle.c_scope.specs.Programs.{scope_of}
use Rattle.c_front.specs.declared.pairs.TwoFunctions.{TwoFunctions}
use Rattle.c_front.specs.declared.refusals.Refusal.{Refusal}
use Rattle.c_front.specs.declared.refusals.Refusal.TheVariants.{Lex, Parse, Scope, WideLiteral, NoFunction}
use Rattle.c_front.specs.declared.stages.Next.{Next}
use Rattle.c_front.specs.declared.stages.Next.TheVariants.{Ends, Goes}
use Rattle.c_front.specs.Front.{count_in, count_stage, front, lex_stage, literal_stage, name_stage, parse_stage, scope_stage, two_at, where_narrow, with_counts, with_names}
use Rattle.c_front.specs.FrontEnd.{place_in}
use Rattle.c_front.specs.Literals.{first_wide}
use Rattle.c_front.proofs.StageLaws.{AreSame, IsOne, one_before, one_by}

-- a list of tokens is parsed in one way
one_parse : IsOne parse_stage
one_parse tokens (Ends r) (Ends s) (d, a, p, is_r) (e, b, q, is_s) =
    is_r ∙ (ap Parse (one_refusal tokens d e a b p q) ∙ sym is_s)
one_parse tokens (Ends r) (Goes u) (d, a, p, is_r) (same, b) =
    spelled_unrefused tokens u.program d b a p
one_parse tokens (Goes t) (Ends s) (same, a) (e, b, q, is_s) =
    spelled_unrefused tokens t.program e a b q
one_parse tokens (Goes t) (Goes u) (same, a) (too, b) =
    let lists : t.tokens ≡ u.tokens = same ∙ sym too in
    let programs : t.program ≡ u.program = program_unique tokens t.program u.program a.1 b.1 in
    λ i. record { tokens = lists i; program = programs i }

pub one_front : (integers : Integers) (source first second : List ℕ)
    (x y : Next Refusal TwoFunctions) →
    front integers source first second x → front integers source first second y → AreSame x y
one_front integers source first second =
    one_before lex_stage _ (one_by Lex tokens_of)
    (one_before parse_stage _ one_parse
    (one_before (scope_stage source) _ (one_by Scope
    (λ text. with_names text (scope_of source text.tokens text.program)))
    (one_before (literal_stage integers) _ (one_by WideLiteral
    (λ known. where_narrow known (first_wide integers known.text.tokens)))
    (one_before (name_stage source first second) count_stage
    (one_by NoFunction (λ known. two_at known.resolved
    (place_in source known.text.tokens known.text.program first)
    (place_in source known.text.tokens known.text.program second)))
    (one_by (λ refusal. refusal) (λ two. with_counts two (count_in two.program two.first)
    (count_in two.program two.second))))))) source
