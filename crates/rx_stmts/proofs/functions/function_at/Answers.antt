use Rattle.std.proofs.Common.{◌∙◌, ap, sym, length}
use Rattle.std.specs.Prelude.{Option}
use Rattle.std.proofs.lemmas.Option.{slice_get_past}
use Rattle.rx_exprs.proofs.Following.{append-no_code}
use Rattle.rx_plain.specs.Formed.{Formed}
use Rattle.c_ast.specs.declared.program.Function.{Function}
use Rattle.rx_code.specs.Pieces.{append_code}
use Rattle.rx_code.specs.Programs.{place_code}
use Rattle.rx_code.specs.declared.code.Code.{Code}
use Rattle.rx_stmts.proofs.functions.function_at.Goals as goal

pub returns-in-None : goal.returns-in-None
returns-in-None c =
    let none = ap (λ (f : Option Function). place_code c.args.setting.integers c.args.place f
    (length c.args.code.now.opened)) (slice_get_past c.args.functions.now c.args.place
    c.in-None.ensures.lookup.3) in
    record {
      code = (
        sym (append-no_code c.args.code.now) ∙
            ap (λ (d : Formed Code). append_code c.args.code.now d.form) (sym none),
        ap (λ (d : Formed Code). d.within) none,
      );
    }
