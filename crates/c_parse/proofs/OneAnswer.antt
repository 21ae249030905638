-- A list of tokens has at most one answer of `parse`, and one of `parse_pre`, but out of memory.
use Rattle.std.proofs.Common.{◌≡◌, ◌≢◌, ℕ, List, Ok, Err, inl, inr, refl, sym, ap, ◌∙◌}
use Rattle.c_lex.specs.declared.token.Token.{Token}
use Rattle.c_ast.specs.declared.expr.Expr.{Expr}
use Rattle.c_ast.specs.RowForms.{is_row_form}
use Rattle.c_ast.specs.declared.program.Program.{Program}
use Rattle.c_parse.proofs.OnePlace.{one_place}
use Rattle.c_parse.specs.Places.{IsProgram as SpellsProgram, IsExpression as SpellsExpression}
use Rattle.c_parse.specs.declared.error.ParseEnd.{ParseEnd}
use Rattle.c_parse.specs.declared.error.ParseEnd.TheVariants.{Syntax, TooDeep, TooManyParams, NoMemory, NotARowForm}
use Rattle.c_parse.specs.Answers.{Answers, IsSyntaxError, OneAnswer, too_many}
use Rattle.c_parse.specs.Preconditions.{IsPreSyntaxError, OnePreAnswer, PreAnswers}
use Rattle.c_parse.proofs.OneHigh.{one_high}
use Rattle.c_parse.proofs.PreLemmas.{expression_unique}
use Rattle.c_parse.proofs.Unique.{program_unique}

-- ---- programs

-- a syntax error has one place
one_syntax_error : (ts : List Token) (t u : ℕ) → IsSyntaxError ts t → IsSyntaxError ts u → t ≡ u
one_syntax_error ts t u (inl p) (inl q) = one_place SpellsProgram ts t u p q
one_syntax_error ts t u (inl p) (inr q) = absurd (p.unspelled (q.externals, q.spelled))
one_syntax_error ts t u (inr p) (inl q) = absurd (q.unspelled (p.externals, p.spelled))
one_syntax_error ts t u (inr p) (inr q) = one_high ts t u p q

-- a list of tokens that spells a program within the limits isn't refused
pub spelled_unrefused : (ts : List Token) (p : Program) (end : ParseEnd) → Answers ts (Ok p) →
    Answers ts (Err end) → end ≢ NoMemory → ⊥
spelled_unrefused ts p (TooDeep token) a b other = let deep = a.0 in cc
spelled_unrefused ts p (Syntax token) a b other = b.1 p a.1
spelled_unrefused ts p (TooManyParams token) a b other =
    let same : p ≡ b.1.0 = program_unique ts p b.1.0 a.1 b.1.1.0 in
    let counts = ap too_many same in
    let few = a.2 in
    let many = b.1.1.1 in cc
spelled_unrefused ts p NoMemory a b other = other refl
spelled_unrefused ts p NotARowForm a b other = b

-- it is refused for one cause
pub one_refusal : (ts : List Token) (d e : ParseEnd) → Answers ts (Err d) → Answers ts (Err e) →
    d ≢ NoMemory → e ≢ NoMemory → d ≡ e
one_refusal ts (TooDeep t) (TooDeep u) a b p q = cc
one_refusal ts (TooDeep t) (Syntax u) a b p q = let shallow = b.0 in cc
one_refusal ts (TooDeep t) (TooManyParams u) a b p q = let shallow = b.0 in cc
one_refusal ts (TooDeep t) NoMemory a b p q = absurd (q refl)
one_refusal ts (TooDeep t) NotARowForm a b p q = absurd b
one_refusal ts (Syntax t) (TooDeep u) a b p q = let shallow = a.0 in cc
one_refusal ts (Syntax t) (Syntax u) a b p q =
    ap (λ (n : ℕ). Syntax n) (one_syntax_error ts t u a.2 b.2)
one_refusal ts (Syntax t) (TooManyParams u) a b p q = absurd (a.1 b.1.0 b.1.1.0)
one_refusal ts (Syntax t) NoMemory a b p q = absurd (q refl)
one_refusal ts (Syntax t) NotARowForm a b p q = absurd b
one_refusal ts (TooManyParams t) (TooDeep u) a b p q = let shallow = a.0 in cc
one_refusal ts (TooManyParams t) (Syntax u) a b p q = absurd (b.1 a.1.0 a.1.1.0)
one_refusal ts (TooManyParams t) (TooManyParams u) a b p q =
    let same : a.1.0 ≡ b.1.0 = program_unique ts a.1.0 b.1.0 a.1.1.0 b.1.1.0 in
    let counts = ap too_many same in
    let many = a.1.1.1 in
    let more = b.1.1.1 in cc
one_refusal ts (TooManyParams t) NoMemory a b p q = absurd (q refl)
one_refusal ts (TooManyParams t) NotARowForm a b p q = absurd b
one_refusal ts NoMemory e a b p q = absurd (p refl)
one_refusal ts NotARowForm e a b p q = absurd a

pub one_answer : OneAnswer
one_answer ts (Ok p) (Ok q) a b x y = ap (λ (r : Program). Ok r) (program_unique ts p q a.1 b.1)
one_answer ts (Ok p) (Err e) a b x y =
    absurd (spelled_unrefused ts p e a b (λ same. y (ap (λ (end : ParseEnd). Err end) same)))
one_answer ts (Err d) (Ok q) a b x y =
    absurd (spelled_unrefused ts q d b a (λ same. x (ap (λ (end : ParseEnd). Err end) same)))
one_answer ts (Err d) (Err e) a b x y =
    ap (λ (r : ParseEnd). Err r) (one_refusal ts d e a b
    (λ same. x (ap (λ (end : ParseEnd). Err end) same))
    (λ same. y (ap (λ (end : ParseEnd). Err end) same)))

-- ---- preconditions

one_pre_syntax_error : (ts : List Token) (t u : ℕ) → IsPreSyntaxError ts t → IsPreSyntaxError ts u →
    t ≡ u
one_pre_syntax_error ts t u (inl p) (inl q) = one_place SpellsExpression ts t u p q
one_pre_syntax_error ts t u (inl p) (inr q) = absurd (p.unspelled q.0)
one_pre_syntax_error ts t u (inr p) (inl q) = absurd (q.unspelled p.0)
one_pre_syntax_error ts t u (inr p) (inr q) = p.1 ∙ sym q.1

pub spelled_unrefused_pre : (ts : List Token) (e : Expr) (end : ParseEnd) → PreAnswers ts (Ok e) →
    PreAnswers ts (Err end) → end ≢ NoMemory → ⊥
spelled_unrefused_pre ts e (TooDeep token) a b other = let shallow = a.0 in cc
spelled_unrefused_pre ts e (Syntax token) a b other = b.1.0 e a.1.0
spelled_unrefused_pre ts e NotARowForm a b other =
    let same : e ≡ b.1.0 = expression_unique ts e b.1.0 a.1.0.0 b.1.1.0.0 in
    let forms = ap is_row_form same in
    let is = a.1.1 in
    let no = b.1.1.1 in cc
spelled_unrefused_pre ts e NoMemory a b other = other refl
spelled_unrefused_pre ts e (TooManyParams token) a b other = b

pub one_pre_refusal : (ts : List Token) (d e : ParseEnd) → PreAnswers ts (Err d) →
    PreAnswers ts (Err e) → d ≢ NoMemory → e ≢ NoMemory → d ≡ e
one_pre_refusal ts (TooDeep t) (TooDeep u) a b p q = cc
one_pre_refusal ts (TooDeep t) (Syntax u) a b p q = let shallow = b.0 in cc
one_pre_refusal ts (TooDeep t) NotARowForm a b p q = let shallow = b.0 in cc
one_pre_refusal ts (TooDeep t) (TooManyParams u) a b p q = absurd b
one_pre_refusal ts (TooDeep t) NoMemory a b p q = absurd (q refl)
one_pre_refusal ts (Syntax t) (TooDeep u) a b p q = let shallow = a.0 in cc
one_pre_refusal ts (Syntax t) (Syntax u) a b p q =
    ap (λ (n : ℕ). Syntax n) (one_pre_syntax_error ts t u a.1.1 b.1.1)
one_pre_refusal ts (Syntax t) NotARowForm a b p q = absurd (a.1.0 b.1.0 b.1.1.0)
one_pre_refusal ts (Syntax t) (TooManyParams u) a b p q = absurd b
one_pre_refusal ts (Syntax t) NoMemory a b p q = absurd (q refl)
one_pre_refusal ts NotARowForm (TooDeep u) a b p q = let shallow = a.0 in cc
one_pre_refusal ts NotARowForm (Syntax u) a b p q = absurd (b.1.0 a.1.0 a.1.1.0)
one_pre_refusal ts NotARowForm NotARowForm a b p q = refl
one_pre_refusal ts NotARowForm (TooManyParams u) a b p q = absurd b
one_pre_refusal ts NotARowForm NoMemory a b p q = absurd (q refl)
one_pre_refusal ts (TooManyParams t) e a b p q = absurd a
one_pre_refusal ts NoMemory e a b p q = absurd (p refl)

pub one_pre_answer : OnePreAnswer
one_pre_answer ts (Ok e) (Ok f) a b x y =
    ap (λ (g : Expr). Ok g) (expression_unique ts e f a.1.0.0 b.1.0.0)
one_pre_answer ts (Ok e) (Err d) a b x y =
    absurd (spelled_unrefused_pre ts e d a b (λ same. y (ap (λ (end : ParseEnd). Err end) same)))
one_pre_answer ts (Err d) (Ok f) a b x y =
    absurd (spelled_unrefused_pre ts f d b a (λ same. x (ap (λ (end : ParseEnd). Err end) same)))
one_pre_answer ts (Err d) (Err e) a b x y =
    ap (λ (r : ParseEnd). Err r) (one_pre_refusal ts d e a b
    (λ same. x (ap (λ (end : ParseEnd). Err end) same))
    (λ same. y (ap (λ (end : ParseEnd). Err end) same)))
