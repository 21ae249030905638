use Rattle.std.proofs.Common.{◌≡◌, false, get_or, length, rules}
use Rattle.std.specs.Prelude.{IsErrAnd, slice_get}
use Rattle.rx_poly.specs.declared.poly_end.PolyEnd.TheVariants.{Large}
use Rattle.rx_code.specs.Programs.{place_code, places_code}
use Rattle.rx_stmts.proofs.FunctionList.{fails_forms, none_read}
use Rattle.rx_stmts.proofs.functions.code_of.Goals as goal

pub returns-in_err-function_at : goal.returns-in_err-function_at
returns-in_err-function_at c =
    let integers = c.args.integers in
    let functions = c.args.functions.now in
    let places = c.args.places.now in
    let k = c.loop-place.place-index in
    let now = c.loop-place.code in
    let part = place_code integers (get_or places k 0) (slice_get functions (get_or places k 0))
    (length now.opened) in
    let f : IsErrAnd c.from_residual.result (λ e. e ≡ Large → part.within ≡ false) = search rules in
    record {
      forms =
          fails_forms c.from_residual.result part.within (places_code integers functions places 0) f
          (none_read integers functions now places k c.loop-place-test.true c.loop-place.invariant);
    }
