-- The recogniser accepts the lists that spell an expression, and no others.
use Rattle.std.proofs.Common.{◌≡◌, ℕ, Option, None, List, [], ◌∷◌, length, refl, ◌∙◌, ap, arith}
use Rattle.std.proofs.Math.Seq.{drop-length}
use Rattle.c_syntax.proofs.Lookahead.{nothing_over}
use Rattle.c_lex.specs.declared.token.Token.{Token}
use Rattle.c_syntax.specs.Grammar.{kind_at, Expression}
use Rattle.c_parse.specs.declared.symbol.Symbol.{Symbol}
use Rattle.c_parse.specs.declared.symbol.Symbol.TheVariants as symbol
use Rattle.c_parse.specs.Places.{IsExpression, IsPlace}
use Rattle.c_parse.specs.Recogniser.{fed, fault}
use Rattle.c_parse.proofs.Running.{fault_at, skipped}
use Rattle.c_parse.proofs.ExpressionPasses.{whole_passes}
use Rattle.c_parse.proofs.Soundness.{spans_of}
use Rattle.c_parse.proofs.Answering.{places}

pub from_start : (ts : List Token) (ss : List Symbol) → fault ss 0 ts ≡ fault_at ts ss 0
unfolding fault_at
from_start ts ss = refl

pub accepted_at_end : (ts : List Token) → fault_at ts [] (length ts) ≡ None
unfolding fault_at fault fed
accepted_at_end ts = ap (fault [] (length ts)) (drop-length ts)

sound : (ts : List Token) → fault (symbol.Expression ∷ []) 0 ts ≡ None → IsExpression ts
sound ts h =
    let s = spans_of ts ts 0 (symbol.Expression ∷ []) refl (omega arith) h in
    let whole : Expression ts 0 (length ts) s.1.0.0 = rw s.1.1 at s.1.0.1 in
    (s.1.0.0, whole)

complete : (ts : List Token) → IsExpression ts → fault (symbol.Expression ∷ []) 0 ts ≡ None
complete ts w =
    let none : kind_at ts (length ts) ≡ None = nothing_over ts in
    from_start ts (symbol.Expression ∷ [])
    ∙ (whole_passes ts 0 (length ts) w.0 w.1 (λ z. cc) []
    ∙ (skipped ts symbol.Going [] (length ts) None none refl ∙ accepted_at_end ts))

pub expression_places : (ts : List Token) (o : Option ℕ) → o ≡ fault (symbol.Expression ∷ []) 0 ts →
    IsPlace IsExpression ts o
expression_places ts o h = places (symbol.Expression ∷ []) IsExpression refl sound complete ts o h
