-- A value, and then its tests for being an integer of the kind.
use Rattle.std.proofs.Common.{◌≡◌, ◌∙◌, sym, ap, subst, ◌&&◌, Bool, true, false, ℕ, Result, Ok, Err, length, length-append, arith}
use Rattle.std.proofs.lemmas.Bool.{and_left}
use Rattle.rx_plain.proofs.Booleans.{and_assoc}
use Rattle.rx_plain.specs.Formed.{Formed}
use Rattle.rx_poly.specs.declared.body.Body.{Body}
use Rattle.rx_poly.specs.declared.poly_end.PolyEnd.{PolyEnd}
use Rattle.c_ast.specs.declared.integers.Integers.{Integers}
use Rattle.c_ast.specs.declared.integers.Integers.TheVariants.{Unbounded, Bits32}
use Rattle.rx_code.specs.Expressions.{Value, Valued, range_tests, ranged}
use Rattle.rx_code.specs.Pieces.{after, append_code}
use Rattle.rx_code.specs.declared.code.Code.{Code}
use Rattle.rx_code.specs.declared.point.Point.{Point}
use Rattle.rx_exprs.specs.Compiles.{CompilesValue, formed_at, ranged_at}
use Rattle.rx_exprs.proofs.Following.{after_code, append-no_code, append_code_assoc, opened-append, then_value}

-- a value that is compiled, and then tested
pub value_ranged : (integers : Integers) (v : Value) (old two new : Code) (a at : Point) (p : Body)
    (result : Result (Point × Body) PolyEnd)
    → CompilesValue old two (Ok (at, p)) (v a (length old.opened)) →
    CompilesValue two new result (ranged_at integers p at (length two.opened))
    → CompilesValue old new result (ranged integers v a (length old.opened))
value_ranged Unbounded v old two new a at p (Ok r) first second =
    (second.0 ∙ append-no_code two ∙ first.0, second.1 ∙ first.1, second.2 ∙ first.2, first.3)
value_ranged Unbounded v old two new a at p (Err e) first second =
    λ large. absurd (let h = second large in cc)
value_ranged Bits32 v old two new a at p result first second =
    let n = length old.opened in
    let x = v a n in
    let count : length two.opened ≡ after n x.code = ap (λ (c : Code). length c.opened) first.0 ∙
    opened-append old x.code in
    let t = range_tests x.value x.at (after n x.code) in
    let same : range_tests p at (length two.opened) ≡ t = λ i.
    range_tests (first.2 i) (first.1 i) (count i) in
    then_value old two new x.code x.within t result first.0 first.3
    (subst (λ (w : Valued). CompilesValue two new result w) same second)

-- one beyond the limits is so with its tests
pub value_not : (integers : Integers) (v : Value) (a : Point) (n : ℕ) → (v a n).within ≡ false →
    (ranged integers v a n).within ≡ false
value_not Unbounded v a n h = h
value_not Bits32 v a n h =
    let x = v a n in and_left x.within (range_tests x.value x.at (after n x.code)).within h

-- a value without further code
pub formed_value : (f : Formed Body) (p : Body) (old : Code) (at : Point) → p ≡ f.form →
    f.within ≡ true → CompilesValue old old (Ok (at, p)) (formed_at f at (length old.opened))
formed_value f p old at is kept = (sym (append-no_code old), (λ i. at), is, kept)

-- the tests come after what comes before the value
regroup : (c : Code) (within : Bool) (x t : Valued) →
    after_code c within (after_code x.code x.within t) ≡ after_code (append_code c x.code) (within && x.within) t
regroup c within x t i = record {
  code = sym (append_code_assoc c x.code t.code) i;
  at = t.at;
  value = t.value;
  within = sym (and_assoc within x.within t.within) i;
}

-- a tested value after a piece of code
pub then_ranged : (integers : Integers) (whole v : Value) (old two new c : Code) (within : Bool)
    (a at : Point) (result : Result (Point × Body) PolyEnd)
    → whole a (length old.opened) ≡ after_code c within (v at (length two.opened))
    → two ≡ append_code old c → within ≡ true
    → CompilesValue two new result (ranged integers v at (length two.opened)) →
    CompilesValue old new result (ranged integers whole a (length old.opened))
then_ranged Unbounded whole v old two new c within a at result is code kept compiled =
    subst (λ (w : Valued). CompilesValue old new result w) (sym is)
    (then_value old two new c within (v at (length two.opened)) result code kept compiled)
then_ranged Bits32 whole v old two new c within a at result is code kept compiled =
    let n = length old.opened in
    let m = length two.opened in
    let x = v at m in
    let count : after m x.code ≡ after n (append_code c x.code) =
    let before = ap (λ (d : Code). length d.opened) code in
    let one = length-append old.opened c.opened in
    let both = length-append c.opened x.code.opened in
    omega (arith, before, one, both) in
    let t = range_tests x.value x.at (after m x.code) in
    let moved : t ≡ range_tests x.value x.at (after n (append_code c x.code)) =
    ap (range_tests x.value x.at) count in
    let tests : Valued → Valued = λ w.
    after_code w.code w.within (range_tests w.value w.at (after n w.code)) in
    let same : after_code c within (after_code x.code x.within t) ≡ tests (whole a n) =
    regroup c within x t ∙ ap (after_code (append_code c x.code) (within && x.within)) moved
    ∙ ap tests (sym is) in
    subst (λ (w : Valued). CompilesValue old new result w) same
    (then_value old two new c within (after_code x.code x.within t) result code kept compiled)
