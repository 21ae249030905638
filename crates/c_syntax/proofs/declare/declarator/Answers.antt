use Rattle.std.proofs.Common.{refl, arith}
use Rattle.c_syntax.proofs.Declaring.{bare_reads}
use Rattle.c_syntax.proofs.declare.declarator.Goals as goal

pub returns-then-is_parted : goal.returns-then-is_parted
returns-then-is_parted c =
    bare_reads c.args.tokens.now c.args.at c.args.room _ c.if-not-has_name.ensures
    c.if-is_parted.ensures (omega arith) refl refl
