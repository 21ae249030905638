use Rattle.std.proofs.Common.{◌≡◌, drop, sym, ap, subst, ◌∙◌, arith}
use Rattle.std.proofs.lemmas.Result.{err_from_is_err_and}
use Rattle.c_lex.specs.Pieces.{piece, IsPieceOf}
use Rattle.c_lex.proofs.Found.{found_turn, found_end, found_fault}
use Rattle.c_lex.proofs.lexer.tokens.Goals as goal

pub pieces-preserved : goal.pieces-preserved
pieces-preserved c =
    let is : piece c.pieces.fresh (drop c.pieces.at c.args.source.now) ≡ c.piece_at_front.result =
    ap (piece c.pieces.fresh) (sym c.rest_from.ensures) ∙ sym c.piece_at_front.ensures.value in
    let part : IsPieceOf (drop c.pieces.at c.args.source.now) c.piece_at_front.result =
    subst (λ rest. IsPieceOf rest c.piece_at_front.result) c.rest_from.ensures
    c.piece_at_front.ensures.part in
    rw c.fresh_after-fresh.ensures
    (found_turn c.piece_at_front.result c.args.source.now c.pieces.fresh c.pieces.at c.in_ok-len.len
    c.pieces.found.items c.keep.new.found.items c.pieces.invariant (omega arith) is part
    c.in_ok-len.ensures)

pub returns-clause-gives : goal.returns-clause-gives
returns-clause-gives c =
    found_end c.args.source.now c.pieces.fresh c.pieces.at c.pieces.found.items c.pieces.invariant
    (omega arith)

pub returns-in_err-len-clause-gives : goal.returns-in_err-len-clause-gives
returns-in_err-len-clause-gives c =
    let is : piece c.pieces.fresh (drop c.pieces.at c.args.source.now) ≡ c.piece_at_front.result =
    ap (piece c.pieces.fresh) (sym c.rest_from.ensures) ∙ sym c.piece_at_front.ensures.value in
    let p = err_from_is_err_and c.from_residual.result c.from_residual.ensures.1 in
    rw (p.1, p.2)
    (found_fault c.piece_at_front.result c.args.source.now c.pieces.fresh c.pieces.at
    c.in_err-len.field-0.0 c.pieces.found.items c.keep.new.found.items c.pieces.invariant
    (omega arith) is c.in_err-len.ensures)
