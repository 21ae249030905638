use Rattle.std.proofs.Common.{◌∙◌, ◌+◌, length, refl, rules, sym}
use Rattle.c_ast.specs.declared.expr.UnOp.TheVariants as unary
use Rattle.rx_code.specs.Pieces.{is_room}
use Rattle.rx_exprs.specs.Compiles.{condition_at, set_at, value_at}
use Rattle.rx_exprs.proofs.Choices.{call_compiled, choice_compiled, first_fails, same_choice, second_fails, second_point_fails, test_fails, third_point_fails, three_opened}
use Rattle.rx_exprs.proofs.Following.{Fails, fails_value}
use Rattle.rx_exprs.proofs.Operands.{arithmetic_compiled, comparison_compiled, division_compiled, kind_left, negation_compiled, right_fails, same_part, same_parts}
use Rattle.rx_exprs.proofs.exprs.+exprs.Goals as goal

pub computed-returns-in-Dividing : goal.computed-returns-in-Dividing
computed-returns-in-Dividing t c =
    let b = c.in-Binary in
    let l = c.get-in-Binary.result.now in
    let r = c.get-in-Binary-2.result.now in
    record {
      value =
          division_compiled c.args.setting.integers c.args.e.now b.op l r c.args.code.now
          c.value-in-Binary.new.code
          c.value-in-Binary-2.new.code c.divided.new.code
          c.args.a c.in_ok-middle-in-Binary.middle c.in_ok-at-in-Binary.at
          c.in_ok-middle-in-Binary.left c.in_ok-at-in-Binary.right c.divided.result
          (b.is ∙ same_parts b.op b.l l b.r r (sym c.get-in-Binary.ensures)
          (sym c.get-in-Binary-2.ensures)) (sym c.kind_of.ensures ∙ c.in-Dividing.is)
          c.in_ok-middle-in-Binary.ensures.value c.in_ok-at-in-Binary.ensures.value
          c.divided.ensures.value;
    }

pub computed-returns-in_default-kind_of : goal.computed-returns-in_default-kind_of
computed-returns-in_default-kind_of t c =
    let b = c.in-Binary in
    let l = c.get-in-Binary.result.now in
    let r = c.get-in-Binary-2.result.now in
    let is = b.is ∙ same_parts b.op b.l l b.r r (sym c.get-in-Binary.ensures)
    (sym c.get-in-Binary-2.ensures) in
    record {
      value =
          arithmetic_compiled c.args.setting.integers c.args.e.now b.op l r c.args.code.now
          c.value-in-Binary.new.code c.value-in-Binary-2.new.code c.joined.new.code
          c.args.a c.in_ok-middle-in-Binary.middle c.in_ok-at-in-Binary.at
          c.in_ok-middle-in-Binary.left c.in_ok-at-in-Binary.right c.joined.result
          is (kind_left c.args.e.now b.op l r is c.requires.kind
          (λ k. c.in_default-kind_of.not-Dividing (c.kind_of.ensures ∙ k)))
          c.in_ok-middle-in-Binary.ensures.value c.in_ok-at-in-Binary.ensures.value
          c.joined.ensures.value;
    }

pub computed-returns-in-Minus : goal.computed-returns-in-Minus
computed-returns-in-Minus t c =
    let u = c.in-Unary in
    let f = c.get.result.now in
    record {
      value =
          negation_compiled c.args.setting.integers c.args.e.now f c.args.code.now
          c.value.new.code c.negated.new.code c.args.a c.in_ok-at-in-Unary.at
          c.in_ok-at-in-Unary.inner_value c.negated.result
          (u.is ∙ same_part u.op unary.Minus u.inner f c.in-Minus.is (sym c.get.ensures))
          c.in_ok-at-in-Unary.ensures.value c.negated.ensures.value;
    }

pub computed-returns-in_err-at-in-Binary : goal.computed-returns-in_err-at-in-Binary
computed-returns-in_err-at-in-Binary t c =
    let b = c.in-Binary in
    let l = c.get-in-Binary.result.now in
    let r = c.get-in-Binary-2.result.now in
    let integers = c.args.setting.integers in
    let middle = c.in_ok-middle-in-Binary in
    let part = (value_at integers r middle.middle c.value-in-Binary.new.code).within in
    let f : Fails c.from_residual-in_err-at-in-Binary.result part = search rules in
    record {
      value =
          fails_value c.args.code.now c.value-in-Binary-2.new.code
          c.from_residual-in_err-at-in-Binary.result part
          (value_at integers c.args.e.now c.args.a c.args.code.now) f
          (right_fails integers c.args.e.now b.op l r c.args.code.now c.value-in-Binary.new.code
          c.args.a middle.middle middle.left (b.is ∙ same_parts b.op b.l l b.r r
          (sym c.get-in-Binary.ensures) (sym c.get-in-Binary-2.ensures)) c.requires.kind
          middle.ensures.value);
    }

pub computed-returns-in_ok-at-in-Apply : goal.computed-returns-in_ok-at-in-Apply
computed-returns-in_ok-at-in-Apply t c = record {
  value =
      call_compiled c.args.setting.integers c.args.e.now c.in-Apply.f c.in-Apply.es c.args.code.now
      c.arguments.new.code
      c.called.new.code c.args.a c.in_ok-at-in-Apply.at c.in_ok-at-in-Apply.values c.called.result
      c.in-Apply.is c.in_ok-at-in-Apply.ensures.values c.called.ensures.value;
}

-- ---- a choice

pub computed-returns-in_err-w-in-Choose : goal.computed-returns-in_err-w-in-Choose
computed-returns-in_err-w-in-Choose t c =
    let x = c.in-Choose in
    let integers = c.args.setting.integers in
    let y = c.in_ok-y-in-Choose in
    let part = is_room (length c.open.new.self.opened) c.args.a.width in
    let f : Fails c.from_residual-in_err-w-in-Choose.result part = search rules in
    record {
      value =
          fails_value c.args.code.now c.open-in-Choose.new.self
          c.from_residual-in_err-w-in-Choose.result part
          (value_at integers c.args.e.now c.args.a c.args.code.now) f
          (second_point_fails integers c.args.e.now x.test x.first x.second x.is c.args.code.now
          c.args.a c.open.new.self y.y
          (record { code = y.ensures.code; is = y.ensures.point; room = y.ensures.within }));
    }

pub computed-returns-in_err-b-in-Choose : goal.computed-returns-in_err-b-in-Choose
computed-returns-in_err-b-in-Choose t c =
    let x = c.in-Choose in
    let integers = c.args.setting.integers in
    let y = c.in_ok-y-in-Choose in
    let w = c.in_ok-w-in-Choose in
    let part = is_room (length c.open-in-Choose.new.self.opened) (c.args.a.width + 1) in
    let f : Fails c.from_residual-in_err-b-in-Choose.result part = search rules in
    record {
      value =
          fails_value c.args.code.now c.open_wider.new.self
          c.from_residual-in_err-b-in-Choose.result part
          (value_at integers c.args.e.now c.args.a c.args.code.now) f
          (third_point_fails integers c.args.e.now x.test x.first x.second x.is c.args.code.now
          c.args.a c.open.new.self c.open-in-Choose.new.self y.y w.w
          (record { code = y.ensures.code; is = y.ensures.point; room = y.ensures.within })
          (record { code = w.ensures.code; is = w.ensures.point; room = w.ensures.within }));
    }

pub computed-returns-in_err-condition-in-Choose : goal.computed-returns-in_err-condition-in-Choose
computed-returns-in_err-condition-in-Choose t c =
    let x = c.in-Choose in
    let integers = c.args.setting.integers in
    let f = c.get-in-Choose.result.now in
    let y = c.in_ok-y-in-Choose in
    let w = c.in_ok-w-in-Choose in
    let b = c.in_ok-b-in-Choose in
    let opened = three_opened c.args.code.now c.open.new.self c.open-in-Choose.new.self
    c.open_wider.new.self y.y w.w b.b c.args.a.width
    (record { code = y.ensures.code; is = y.ensures.point; room = y.ensures.within })
    (record { code = w.ensures.code; is = w.ensures.point; room = w.ensures.within })
    (record { code = b.ensures.code; is = b.ensures.point; room = b.ensures.within }) in
    let part = (condition_at integers f c.args.a y.y w.w c.open_wider.new.self).within in
    let fails : Fails c.from_residual-in_err-condition-in-Choose.result part = search rules in
    record {
      value =
          fails_value c.args.code.now c.condition.new.code
          c.from_residual-in_err-condition-in-Choose.result part
          (value_at integers c.args.e.now c.args.a c.args.code.now) fails
          (test_fails integers c.args.e.now f x.first x.second
          (x.is ∙ same_choice x.test f x.first x.first x.second x.second
          (sym c.get-in-Choose.ensures) refl refl) c.args.code.now c.args.a
          c.open_wider.new.self y.y w.w b.b opened);
    }

pub computed-returns-in_err-set_value-in-Choose : goal.computed-returns-in_err-set_value-in-Choose
computed-returns-in_err-set_value-in-Choose t c =
    let x = c.in-Choose in
    let integers = c.args.setting.integers in
    let f = c.get-in-Choose.result.now in
    let g = c.get-in-Choose-2.result.now in
    let y = c.in_ok-y-in-Choose in
    let w = c.in_ok-w-in-Choose in
    let b = c.in_ok-b-in-Choose in
    let opened = three_opened c.args.code.now c.open.new.self c.open-in-Choose.new.self
    c.open_wider.new.self y.y w.w b.b c.args.a.width
    (record { code = y.ensures.code; is = y.ensures.point; room = y.ensures.within })
    (record { code = w.ensures.code; is = w.ensures.point; room = w.ensures.within })
    (record { code = b.ensures.code; is = b.ensures.point; room = b.ensures.within }) in
    let part = (set_at integers g c.args.a.width b.b y.y c.condition.new.code).within in
    let fails : Fails c.from_residual-in_err-set_value-in-Choose.result part = search rules in
    record {
      value =
          fails_value c.args.code.now c.set_value.new.code
          c.from_residual-in_err-set_value-in-Choose.result part
          (value_at integers c.args.e.now c.args.a c.args.code.now) fails
          (first_fails integers c.args.e.now f g x.second
          (x.is ∙ same_choice x.test f x.first g x.second x.second (sym c.get-in-Choose.ensures)
          (sym c.get-in-Choose-2.ensures) refl) c.args.code.now c.args.a
          c.open_wider.new.self y.y w.w b.b opened c.condition.new.code
          c.in_ok-condition-in-Choose.ensures.condition);
    }

pub computed-returns-in_err-set_value-in-Choose-2 :
    goal.computed-returns-in_err-set_value-in-Choose-2
computed-returns-in_err-set_value-in-Choose-2 t c =
    let x = c.in-Choose in
    let integers = c.args.setting.integers in
    let f = c.get-in-Choose.result.now in
    let g = c.get-in-Choose-2.result.now in
    let h = c.get-in-Choose-3.result.now in
    let y = c.in_ok-y-in-Choose in
    let w = c.in_ok-w-in-Choose in
    let b = c.in_ok-b-in-Choose in
    let opened = three_opened c.args.code.now c.open.new.self c.open-in-Choose.new.self
    c.open_wider.new.self y.y w.w b.b c.args.a.width
    (record { code = y.ensures.code; is = y.ensures.point; room = y.ensures.within })
    (record { code = w.ensures.code; is = w.ensures.point; room = w.ensures.within })
    (record { code = b.ensures.code; is = b.ensures.point; room = b.ensures.within }) in
    let part = (set_at integers h c.args.a.width b.b w.w c.set_value.new.code).within in
    let fails : Fails c.from_residual-in_err-set_value-in-Choose-2.result part = search rules in
    record {
      value =
          fails_value c.args.code.now c.set_value-in-Choose.new.code
          c.from_residual-in_err-set_value-in-Choose-2.result part
          (value_at integers c.args.e.now c.args.a c.args.code.now) fails
          (second_fails integers c.args.e.now f g h
          (x.is ∙ same_choice x.test f x.first g x.second h (sym c.get-in-Choose.ensures)
          (sym c.get-in-Choose-2.ensures) (sym c.get-in-Choose-3.ensures)) c.args.code.now c.args.a
          c.open_wider.new.self y.y w.w b.b opened c.condition.new.code
          c.in_ok-condition-in-Choose.ensures.condition c.set_value.new.code
          c.in_ok-set_value-in-Choose.ensures.condition);
    }

pub computed-returns-in_ok-variable-in-Choose : goal.computed-returns-in_ok-variable-in-Choose
computed-returns-in_ok-variable-in-Choose t c =
    let x = c.in-Choose in
    let f = c.get-in-Choose.result.now in
    let g = c.get-in-Choose-2.result.now in
    let h = c.get-in-Choose-3.result.now in
    let y = c.in_ok-y-in-Choose in
    let w = c.in_ok-w-in-Choose in
    let b = c.in_ok-b-in-Choose in
    let opened = three_opened c.args.code.now c.open.new.self c.open-in-Choose.new.self
    c.open_wider.new.self y.y w.w b.b c.args.a.width
    (record { code = y.ensures.code; is = y.ensures.point; room = y.ensures.within })
    (record { code = w.ensures.code; is = w.ensures.point; room = w.ensures.within })
    (record { code = b.ensures.code; is = b.ensures.point; room = b.ensures.within }) in
    record {
      value =
          choice_compiled c.args.setting.integers c.args.e.now f g h
          (x.is ∙ same_choice x.test f x.first g x.second h (sym c.get-in-Choose.ensures)
          (sym c.get-in-Choose-2.ensures) (sym c.get-in-Choose-3.ensures)) c.args.code.now c.args.a
          c.open_wider.new.self y.y w.w b.b opened c.condition.new.code
          c.in_ok-condition-in-Choose.ensures.condition c.set_value.new.code
          c.in_ok-set_value-in-Choose.ensures.condition c.set_value-in-Choose.new.code
          c.in_ok-variable-in-Choose.field-0 c.in_ok-set_value-in-Choose-2.ensures.condition
          c.in_ok-variable-in-Choose.ensures.same;
    }

-- ---- a comparison

pub condition-returns-in_ok-emit-in-Comparing : goal.condition-returns-in_ok-emit-in-Comparing
condition-returns-in_ok-emit-in-Comparing t c =
    let b = c.in-Binary in
    let l = c.get-in-Comparing.result.now in
    let r = c.get-in-Comparing-2.result.now in
    let first = c.in_ok-between-in-Comparing in
    let second = c.in_ok-at-in-Comparing in
    record {
      condition =
          comparison_compiled c.args.setting.integers c.args.e.now b.op l r c.args.code.now
          c.value.new.code c.value-in-Comparing.new.code c.emit.new.self c.args.a first.between
          second.at c.args.y c.args.w first.left second.right c.in_ok-row-in-Comparing.row
          (b.is ∙ same_parts b.op b.l l b.r r (sym c.get-in-Comparing.ensures)
          (sym c.get-in-Comparing-2.ensures)) (sym c.kind_of.ensures ∙ c.in-Comparing.is)
          first.ensures.value second.ensures.value c.in_ok-row-in-Comparing.ensures.forms
          c.in_ok-emit-in-Comparing.ensures.code;
    }
