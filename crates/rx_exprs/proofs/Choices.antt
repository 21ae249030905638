-- A choice after its condition and its two values, and a call after its arguments.
use Rattle.std.proofs.Common.{◌≡◌, ◌∙◌, sym, ap, subst, Bool, true, false, ◌&&◌, ℕ, ◌+◌, Result, Ok, List, [], ◌∷◌, length, map, arith}
use Rattle.std.proofs.lemmas.Bool.{and_from, and_left, and_parts, and_right}
use Rattle.std.proofs.lemmas.List.{append-nil}
use Rattle.rx_plain.specs.Formed.{Formed}
use Rattle.rx_poly.specs.Constants.{variable}
use Rattle.rx_poly.specs.declared.body.Body.{Body}
use Rattle.rx_poly.specs.declared.poly_end.PolyEnd.{PolyEnd}
use Rattle.c_ast.specs.declared.integers.Integers.{Integers}
use Rattle.c_ast.specs.declared.expr.Expr.{Expr}
use Rattle.c_ast.specs.declared.expr.Expr.TheVariants.{Apply, Choose}
use Rattle.rx_code.specs.Expressions as table
use Rattle.rx_code.specs.Expressions.{Asked, Valued, arguments, expr_code}
use Rattle.rx_code.specs.Pieces.{a_point, after, append_code, does, is_room, opens, point}
use Rattle.rx_code.specs.declared.action.Action.TheVariants.{Set}
use Rattle.rx_code.specs.declared.code.Code.{Code}
use Rattle.rx_code.specs.declared.point.Opening.{Opening}
use Rattle.rx_code.specs.declared.point.Point.{Point}
use Rattle.rx_code.proofs.ExprEquations.{code-Apply, code-Choose}
use Rattle.rx_exprs.specs.Compiles.{CompilesArguments, CompilesCode, CompilesValue, arguments_at, call_at, condition_at, set_at, value_at}
use Rattle.rx_exprs.proofs.Following.{after_code, append_code_assoc, opened-append, second_false, then_value}

-- ---- a call

pub call_compiled : (integers : Integers) (e : Expr) (f : ℕ) (es : List Expr) (old two new : Code)
    (a at : Point)
    (ps : List Body) (result : Result (Point × Body) PolyEnd)
    → e ≡ Apply f es → CompilesArguments old two (Ok (at, ps)) (arguments_at integers es a old)
    → CompilesValue two new result (call_at f ps at (length two.opened)) →
    CompilesValue old new result (value_at integers e a old)
call_compiled integers e f es old two new a at ps result is known called =
    let n = length old.opened in
    let xs = arguments (map (expr_code integers) es) a n in
    let d = call_at f xs.values xs.at (after n xs.code) in
    let count : length two.opened ≡ after n xs.code = ap (λ (c : Code). length c.opened) known.0 ∙
    opened-append old xs.code in
    let piece : call_at f ps at (length two.opened) ≡ d = λ i.
    call_at f (known.2 i) (known.1 i) (count i) in
    let same : value_at integers e a old ≡ after_code xs.code xs.within d =
    ap (λ (x : Expr). (expr_code integers x).value a n) is ∙
    ap (λ (b : Asked). b.value a n) (code-Apply integers f es) in
    subst (λ (w : Valued). CompilesValue old new result w) (sym same)
    (then_value old two new xs.code xs.within d result known.0 known.3
    (subst (λ (w : Valued). CompilesValue two new result w) piece called))

-- ---- a choice

-- a point is opened after code
pub record IsOpened (old new : Code) (p : Point) (width : ℕ) : Type 0 where
  pub code : new ≡ append_code old (opens (a_point width ∷ []))
  pub is : p ≡ point (length old.opened) width
  pub room : is_room (length old.opened) width ≡ true

-- three points are, where `n` symbols were
pub record AreOpened (old new : Code) (y w b : Point) (width : ℕ) : Type 0 where
  pub code : new ≡ append_code old (opens (a_point width ∷ a_point width ∷ a_point (width + 1) ∷
      []))
  pub first : y ≡ point (length old.opened) width
  pub second : w ≡ point (length old.opened + 1) width
  pub third : b ≡ point (length old.opened + 2) (width + 1)
  pub room : (is_room (length old.opened) width &&
      (is_room (length old.opened + 1) width && is_room (length old.opened + 2) (width + 1))) ≡ true
  pub count : length new.opened ≡ length old.opened + 3

-- how many symbols there are after one more
pub one_more : (old new : Code) (p : Point) (width : ℕ) → IsOpened old new p width →
    length new.opened ≡ length old.opened + 1
one_more old new p width o =
    ap (λ (c : Code). length c.opened) o.code ∙ opened-append old (opens (a_point width ∷ []))

pub three_opened : (old one two new : Code) (y w b : Point) (width : ℕ) → IsOpened old one y width →
    IsOpened one two w width → IsOpened two new b (width + 1)
    → AreOpened old new y w b width
three_opened old one two new y w b width o p q =
    let n = length old.opened in
    let first = one_more old one y width o in
    let second : length two.opened ≡ n + 2 = let s = one_more one two w width p in
    omega (arith, first, s) in
    let third : length new.opened ≡ n + 3 = let s = one_more two new b (width + 1) q in
    omega (arith, second, s) in
    let y_code = opens (a_point width ∷ []) in
    let b_code = opens (a_point (width + 1) ∷ []) in
    record {
      code =
          q.code ∙ ap (λ (c : Code). append_code c b_code)
          (p.code ∙ ap (λ (c : Code). append_code c y_code) o.code)
          ∙ append_code_assoc (append_code old y_code) y_code b_code ∙
          append_code_assoc old y_code (append_code y_code b_code);
      first = o.is;
      second = p.is ∙ ap (λ k. point k width) first;
      third = q.is ∙ ap (λ k. point k (width + 1)) second;
      room =
          and_from (is_room n width) (is_room (n + 1) width && is_room (n + 2) (width + 1)) o.room
          (and_from (is_room (n + 1) width) (is_room (n + 2) (width + 1))
          (sym (ap (λ k. is_room k width) first) ∙ p.room)
          (sym (ap (λ k. is_room k (width + 1)) second) ∙ q.room));
      count = third;
    }

-- a branch: an expression's value is set
record Branch (integers : Integers) (e : Expr) (old new : Code) (from : Point) (slot : ℕ)
    (b : Point) (next : ℕ) : Type 0 where
  code : new ≡ append_code old (append_code ((expr_code integers e).value from next).code
      (does ((expr_code integers e).value from next).at
      (Set slot ((expr_code integers e).value from next).value b)))
  within : ((expr_code integers e).value from next).within ≡ true
  count : length new.opened ≡ after next ((expr_code integers e).value from next).code

moved : (integers : Integers) (e : Expr) (old : Code) (from start : Point) (next : ℕ) →
    from ≡ start → length old.opened ≡ next
    → value_at integers e from old ≡ (expr_code integers e).value start next
moved integers e old from start next is counted i =
    (expr_code integers e).value (is i) (counted i)

branch : (integers : Integers) (e : Expr) (old new : Code) (from start : Point) (slot : ℕ)
    (b to : Point) (next : ℕ)
    → CompilesCode old new (Ok tt) (set_at integers e slot b from old)
    → from ≡ start → b ≡ to → length old.opened ≡ next →
    Branch integers e old new start slot to next
branch integers e old new from start slot b to next set is goes counted =
    let v = (expr_code integers e).value start next in
    let same = moved integers e old from start next is counted in
    let piece : Valued → Point → Code = λ x z.
    append_code x.code (does x.at (Set slot x.value z)) in
    let made : new ≡ append_code old (piece v to) = set.0 ∙
    (λ i. append_code old (piece (same i) (goes i))) in
    record {
      code = made;
      within = sym (ap (λ (x : Valued). x.within) same) ∙ set.1;
      count =
          ap (λ (c : Code). length c.opened) made ∙ opened-append old (piece v to) ∙
          ap (λ k. k + length (piece v to).opened) counted ∙
          ap (λ (os : List Opening). next + length os) (append-nil v.code.opened);
    }

pieces : (old o t x s z : Code) → append_code
    (append_code (append_code (append_code old o) t) (append_code x s)) z ≡
    append_code old (append_code o (append_code t (append_code x (append_code s z))))
pieces old o t x s z =
    append_code_assoc (append_code (append_code old o) t) (append_code x s) z
    ∙ append_code_assoc (append_code old o) t (append_code (append_code x s) z)
    ∙ append_code_assoc old o (append_code t (append_code (append_code x s) z))
    ∙ ap (λ (d : Code). append_code old (append_code o (append_code t d)))
    (append_code_assoc x s z)

all_true : (p q r s t u : Bool) → (p && (q && r)) ≡ true → s ≡ true → t ≡ true → u ≡ true →
    (p && (q && (r && (s && (t && u))))) ≡ true
all_true p q r s t u rooms first second third =
    let l = and_parts p (q && r) rooms in
    let m = and_parts q r l.1 in
    and_from p _ l.0 (and_from q _ m.0 (and_from r _ m.1
    (and_from s _ first (and_from t u second third))))

-- what is known as a choice is compiled
module _ (integers : Integers) (e c f g : Expr) (is : e ≡ Choose c f g) (old : Code) (a : Point)
  where
    abbrev n : ℕ
    n = length old.opened

    abbrev y0 : Point
    y0 = point n a.width

    abbrev w0 : Point
    w0 = point (n + 1) a.width

    abbrev b0 : Point
    b0 = point (n + 2) (a.width + 1)

    abbrev test : Formed Code
    test = (expr_code integers c).condition a y0 w0 (n + 3)

    abbrev x : Valued
    x = (expr_code integers f).value y0 (after (n + 3) test.form)

    abbrev z : Valued
    z = (expr_code integers g).value w0 (after (after (n + 3) test.form) x.code)

    choice_is : value_at integers e a old ≡ (table.choice (expr_code integers c)
        (expr_code integers f) (expr_code integers g)).value a n
    choice_is =
        ap (λ (v : Expr). (expr_code integers v).value a n) is ∙
        ap (λ (v : Asked). v.value a n) (code-Choose integers c f g)

    abbrev parts : Bool
    parts = test.within && (x.within && z.within)

    -- the rooms, and what is compiled at them
    within_is : (value_at integers e a old).within ≡
        (is_room n a.width && (is_room (n + 1) a.width && (is_room (n + 2) (a.width + 1) && parts)))
    within_is = ap (λ (v : Valued). v.within) choice_is

    beyond : parts ≡ false → (value_at integers e a old).within ≡ false
    beyond large =
        within_is ∙ and_right (is_room n a.width) _ (and_right (is_room (n + 1) a.width) _
        (and_right (is_room (n + 2) (a.width + 1)) parts large))

    -- no room for the second point, or for the third
    pub second_point_fails : (one : Code) (y : Point) → IsOpened old one y a.width →
        is_room (length one.opened) a.width ≡ false → (value_at integers e a old).within ≡ false
    second_point_fails one y first full =
        let count = one_more old one y a.width first in
        within_is ∙ and_right (is_room n a.width) _
        (and_left (is_room (n + 1) a.width) (is_room (n + 2) (a.width + 1) && parts)
        (sym (ap (λ k. is_room k a.width) count) ∙ full))

    pub third_point_fails : (one two : Code) (y w : Point) → IsOpened old one y a.width →
        IsOpened one two w a.width → is_room (length two.opened) (a.width + 1) ≡ false
        → (value_at integers e a old).within ≡ false
    third_point_fails one two y w first second full =
        let one_count = one_more old one y a.width first in
        let two_count = one_more one two w a.width second in
        let count : length two.opened ≡ n + 2 = omega (arith, one_count, two_count) in
        within_is ∙ and_right (is_room n a.width) _ (and_right (is_room (n + 1) a.width) _
        (and_left (is_room (n + 2) (a.width + 1)) parts
        (sym (ap (λ k. is_room k (a.width + 1)) count) ∙ full)))

    module _ (three : Code) (y w b : Point) (o : AreOpened old three y w b a.width) where
      t_same : condition_at integers c a y w three ≡ test
      t_same i = (expr_code integers c).condition a (o.first i) (o.second i) (o.count i)

      pub test_fails : (condition_at integers c a y w three).within ≡ false →
          (value_at integers e a old).within ≡ false
      test_fails large =
          beyond (and_left test.within (x.within && z.within)
          (sym (ap (λ (v : Formed Code). v.within) t_same) ∙ large))

      module _ (four : Code)
          (tested : CompilesCode three four (Ok tt) (condition_at integers c a y w three)) where
        t_code : four ≡ append_code three test.form
        t_code = tested.0 ∙ ap (λ (v : Formed Code). append_code three v.form) t_same

        t_within : test.within ≡ true
        t_within = sym (ap (λ (v : Formed Code). v.within) t_same) ∙ tested.1

        t_count : length four.opened ≡ after (n + 3) test.form
        t_count =
            ap (λ (v : Code). length v.opened) t_code ∙ opened-append three test.form ∙
            ap (λ k. k + length test.form.opened) o.count

        pub first_fails : (set_at integers f a.width b y four).within ≡ false →
            (value_at integers e a old).within ≡ false
        first_fails large =
            beyond (second_false test.within (x.within && z.within) t_within
            (and_left x.within z.within
            (sym (ap (λ (v : Valued). v.within)
            (moved integers f four y y0 (after (n + 3) test.form) o.first t_count)) ∙ large)))

        module _ (five : Code)
            (first : CompilesCode four five (Ok tt) (set_at integers f a.width b y four)) where
          one : Branch integers f four five y0 a.width b0 (after (n + 3) test.form)
          one =
              branch integers f four five y y0 a.width b b0 (after (n + 3) test.form) first o.first
              o.third t_count

          pub second_fails : (set_at integers g a.width b w five).within ≡ false →
              (value_at integers e a old).within ≡ false
          second_fails large =
              beyond (second_false test.within (x.within && z.within) t_within
              (second_false x.within z.within one.within
              (sym (ap (λ (v : Valued). v.within)
              (moved integers g five w w0 (after (after (n + 3) test.form) x.code) o.second
              one.count)) ∙ large)))

          pub choice_compiled : (new : Code) (p : Body)
              → CompilesCode five new (Ok tt) (set_at integers g a.width b w five)
              → p ≡ variable a.width → CompilesValue old new (Ok (b, p)) (value_at integers e a old)
          choice_compiled new p second named =
              let two = branch integers g five new w w0 a.width b b0
              (after (after (n + 3) test.form) x.code) second o.second o.third one.count in
              let rooms = opens (a_point a.width ∷ a_point a.width ∷ a_point (a.width + 1) ∷ []) in
              let x_set = does x.at (Set a.width x.value b0) in
              let z_code = append_code z.code (does z.at (Set a.width z.value b0)) in
              let x_code = append_code x.code x_set in
              subst (λ (v : Valued). CompilesValue old new (Ok (b, p)) v) (sym choice_is) (
                two.code ∙ ap (λ (d : Code). append_code d z_code)
                    (one.code ∙ ap (λ (d : Code). append_code d x_code)
                    (t_code ∙ ap (λ (d : Code). append_code d test.form) o.code))
                    ∙ pieces old rooms test.form x.code x_set z_code,
                o.third,
                named,
                all_true (is_room n a.width) (is_room (n + 1) a.width)
                    (is_room (n + 2) (a.width + 1)) test.within x.within z.within o.room t_within
                    one.within two.within,
              )

-- a choice of equal parts
pub same_choice : (c d f g h k : Expr) → c ≡ d → f ≡ g → h ≡ k → Choose c f h ≡ Choose d g k
same_choice c d f g h k first second third i = Choose (first i) (second i) (third i)
