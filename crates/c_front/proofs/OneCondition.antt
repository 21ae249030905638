-- A precondition on two functions of a text is read in one way.
use Rattle.std.proofs.Common.{◌≡◌, ℕ, List, Option, Some, None, sym, ap, subst, ◌∙◌}
use Rattle.c_lex.specs.declared.token.Token.{Token}
use Rattle.c_lex.specs.Tokens.{tokens_of}
use Rattle.c_ast.specs.declared.expr.Expr.{Expr}
use Rattle.c_ast.specs.declared.integers.Integers.{Integers}
use Rattle.c_parse.proofs.OneAnswer.{one_pre_refusal, spelled_unrefused_pre}
use Rattle.c_parse.proofs.PreLemmas.{expression_unique}
use Rattle.c_parse.proofs.Unique.{program_unique}
use Rattle.c_names.specs.Preconditions.{resolved_pre}
use Rattle.c_names.specs.Steps.{Checked}
use Rattle.c_names.specs.declared.error.ScopeEnd.TheVariants as Wrong
use Rattle.c_front.specs.declared.pairs.Compared.{Compared}
use Rattle.c_front.specs.declared.refusals.Refusal.{Refusal}
use Rattle.c_front.specs.declared.refusals.Refusal.TheVariants.{PreLex, PreName, PreParse}
use Rattle.c_front.specs.declared.stages.Next.{Next}
use Rattle.c_front.specs.declared.stages.Next.TheVariants.{Ends, Goes}
use Rattle.c_front.specs.declared.texts.ProgramText.{ProgramText}
use Rattle.c_front.specs.Conditions.{IsResolved, comparison, condition_stage, params_at, pre_lex_stage, pre_name_stage, pre_parse_stage, read_pre, whole_front}
use Rattle.c_front.specs.Front.{front}
use Rattle.c_front.specs.FrontEnd.{IsProgram}
use Rattle.c_front.proofs.OneFront.{one_front}
use Rattle.c_front.proofs.Options.{clash, same_err, same_ok}
use Rattle.c_front.proofs.StageLaws.{AreSame, IsOne, one_before, one_by, same_next}

-- tokens are parsed in one way
one_parse : IsOne pre_parse_stage
one_parse tokens (Ends r) (Ends s) (d, a, p, is_r) (e, b, q, is_s) =
    is_r ∙ (ap PreParse (one_pre_refusal tokens d e a b p q) ∙ sym is_s)
one_parse tokens (Ends r) (Goes u) (d, a, p, is_r) (same, b) =
    spelled_unrefused_pre tokens u.pre d b a p
one_parse tokens (Goes t) (Ends s) (same, a) (e, b, q, is_s) =
    spelled_unrefused_pre tokens t.pre e a b q
one_parse tokens (Goes t) (Goes u) (same, a) (too, b) =
    let lists : t.tokens ≡ u.tokens = same ∙ sym too in
    let trees : t.pre ≡ u.pre = expression_unique tokens t.pre u.pre a.1.0.0 b.1.0.0 in
    λ i. record { tokens = lists i; pre = trees i }

-- names are resolved in one way
one_resolved : (found : Checked Expr) (x y : Next Refusal Expr) → IsResolved found x →
    IsResolved found y → AreSame x y
one_resolved found (Ends r) (Ends s) (t, p, is_r) (u, q, is_s) =
    let faults : Wrong.UnknownName t ≡ Wrong.UnknownName u = same_err p q in
    let tokens : t ≡ u = cc in
    is_r ∙ (ap PreName tokens ∙ sym is_s)
one_resolved found (Ends r) (Goes e) (t, p, is_r) q = clash q p
one_resolved found (Goes e) (Ends s) p (u, q, is_s) = clash p q
one_resolved found (Goes e) (Goes f) p q = same_ok p q

one_read : (source : List ℕ) (text : ProgramText) (first : ℕ) (bytes : List ℕ)
    (x y : Next Refusal Expr)
    → read_pre source text first bytes x → read_pre source text first bytes y → AreSame x y
one_read source text first bytes =
    one_before pre_lex_stage _ (one_by PreLex tokens_of)
    (one_before pre_parse_stage (pre_name_stage source text first bytes) one_parse
    (λ read x y p q. one_resolved (resolved_pre source text.tokens
    (params_at text.program.functions first) bytes read.tokens read.pre) x y p q))
    bytes

-- a text spells one program
one_text : (source : List ℕ) (t u : ProgramText) → IsProgram source t.tokens t.program →
    IsProgram source u.tokens u.program → t ≡ u
one_text source t u p q =
    let lists : t.tokens ≡ u.tokens = same_ok p.lexed q.lexed in
    let programs : t.program ≡ u.program =
    program_unique u.tokens t.program u.program (rw (← lists) p.spelled.1) q.spelled.1 in
    λ i. record { tokens = lists i; program = programs i }

-- two functions and a precondition that is there or not
one_condition : (source : List ℕ) (pre : Option (List ℕ)) → IsOne (condition_stage source pre)
one_condition source None two (Ends r) y p q = absurd p
one_condition source None two (Goes c) (Ends s) p q = absurd q
one_condition source None two (Goes c) (Goes d) p q = p ∙ sym q
one_condition source (Some bytes) two (Ends r) (Ends s) (t, p, a) (u, q, b) =
    one_read source t two.first bytes (Ends r) (Ends s) a
    (subst (λ v. read_pre source v two.first bytes (Ends s)) (one_text source u t q p) b)
one_condition source (Some bytes) two (Ends r) (Goes d) (t, p, a) (u, q, f, b, is_d) =
    one_read source t two.first bytes (Ends r) (Goes f) a
    (subst (λ v. read_pre source v two.first bytes (Goes f)) (one_text source u t q p) b)
one_condition source (Some bytes) two (Goes c) (Ends s) (t, p, e, a, is_c) (u, q, b) =
    one_read source t two.first bytes (Goes e) (Ends s) a
    (subst (λ v. read_pre source v two.first bytes (Ends s)) (one_text source u t q p) b)
one_condition source (Some bytes) two (Goes c) (Goes d) (t, p, e, a, is_c) (u, q, f, b, is_d) =
    let same : e ≡ f = one_read source t two.first bytes (Goes e) (Goes f) a
    (subst (λ v. read_pre source v two.first bytes (Goes f)) (one_text source u t q p) b) in
    is_c ∙ (ap (λ (x : Expr). comparison two (Some x)) same ∙ sym is_d)

pub one_whole : (integers : Integers) (source first second : List ℕ) (pre : Option (List ℕ))
    (x y : Next Refusal Compared)
    → whole_front integers source first second pre x
    → whole_front integers source first second pre y → AreSame x y
one_whole integers source first second pre =
    one_before (λ (text : List ℕ). front integers text first second) (condition_stage source pre)
    (λ text x y p q. one_front integers text first second x y p q) (one_condition source pre) source

-- a text, two names and a precondition have one answer
pub one_compared : (integers : Integers) (source first second : List ℕ) (pre : Option (List ℕ))
    (x y : Next Refusal Compared)
    → whole_front integers source first second pre x
    → whole_front integers source first second pre y → x ≡ y
one_compared integers source first second pre x y p q =
    same_next x y (one_whole integers source first second pre x y p q)
