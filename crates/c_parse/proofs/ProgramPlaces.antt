-- The recogniser accepts the lists that spell a program, and no others.
use Rattle.std.proofs.Common.{◌≡◌, ℕ, Option, None, List, [], ◌∷◌, length, refl, ◌∙◌, arith}
use Rattle.c_syntax.proofs.Lookahead.{nothing_over}
use Rattle.c_lex.specs.declared.token.Token.{Token}
use Rattle.c_syntax.specs.Programs.{Externals}
use Rattle.c_parse.specs.declared.symbol.Symbol.TheVariants as symbol
use Rattle.c_parse.specs.Places.{IsProgram, IsPlace}
use Rattle.c_parse.specs.Recogniser.{fault}
use Rattle.c_parse.proofs.Running.{skipped}
use Rattle.c_parse.proofs.ProgramPasses.{externals_passes}
use Rattle.c_parse.proofs.Soundness.{spans_of}
use Rattle.c_parse.proofs.Answering.{places}
use Rattle.c_parse.proofs.ExpressionPlaces.{from_start, accepted_at_end}

sound : (ts : List Token) → fault (symbol.Program ∷ []) 0 ts ≡ None → IsProgram ts
sound ts h =
    let s = spans_of ts ts 0 (symbol.Program ∷ []) refl (omega arith) h in
    let whole : Externals ts 0 (length ts) s.1.0.0 = rw s.1.1 at s.1.0.1 in
    (s.1.0.0, whole)

complete : (ts : List Token) → IsProgram ts → fault (symbol.Program ∷ []) 0 ts ≡ None
complete ts w =
    from_start ts (symbol.Program ∷ [])
    ∙ (externals_passes ts 0 (length ts) w.0 w.1 []
    ∙ (skipped ts symbol.Program [] (length ts) None (nothing_over ts) refl ∙ accepted_at_end ts))

pub program_places : (ts : List Token) (o : Option ℕ) → o ≡ fault (symbol.Program ∷ []) 0 ts →
    IsPlace IsProgram ts o
program_places ts o h = places (symbol.Program ∷ []) IsProgram refl sound complete ts o h
