use Rattle.std.proofs.Common.{◌≡◌, [], ◌∷◌, ◌+◌, ◌-◌, ◌≤◌, ◌<◌, suc, length, Some, None, ap, refl, ◌∙◌, arith, rules, w64}
use mir.Val.{SFits, to_z, of_z}
use Rattle.std.proofs.lemmas.Int.{to_z-of_z}
use Rattle.c_lex.specs.declared.token.TokenKind.TheVariants.{Name, Number, Mark}
use Rattle.c_lex.specs.declared.token.Mark.TheVariants.{LeftParen, Question, Colon, Comma}
use Rattle.c_ast.specs.declared.expr.Expr.TheVariants.{Lit}
use Rattle.c_ast.specs.Height.{expr_height}
use Rattle.c_ast.proofs.Equations.{height-positive}
use Rattle.c_syntax.specs.declared.read.Read.{Read}
use Rattle.c_syntax.specs.Grammar.{kind_at, unary_of, Expression, BinaryAt, levels}
use Rattle.c_syntax.specs.Readers.{Reads, ReadsList}
use Rattle.c_syntax.proofs.Lookahead.{kind_within, operator_within, sign_within}
use Rattle.c_syntax.proofs.Chains.{turning_begins, turning_none, turning_ends, turning_full, turning_breaks, turning_goes}
use Rattle.c_syntax.proofs.Choices.{whole_none, whole_plain, whole_full, whole_valueless, whole_open, whole_halved, whole_choice}
use Rattle.c_syntax.proofs.Operands.{answers_unsigned, reads_crowded, reads_bare, reads_prefixed, reads_number, reads_name, reads_call, reads_parens}
use Rattle.c_syntax.proofs.Passing.{list_empty, list_missing, passing_begins, passing_goes, passing_breaks, passing_ends, passing_stops}
use Rattle.c_syntax.proofs.expr.+expr.Goals as goal

pub chain-returns-in_default : goal.chain-returns-in_default
chain-returns-in_default t c =
    let ts = c.args.tokens.now in
    let first : Reads (BinaryAt ts c.args.n) ts c.args.n c.args.at c.args.room None =
    rw c.in_default.is at c.in_ok-left.ensures in
    turning_none ts c.args.n c.args.at c.args.room first

pub chain-more-init : goal.chain-more-init
chain-more-init t c =
    let ts = c.args.tokens.now in
    let first : Reads (BinaryAt ts c.args.n) ts c.args.n c.args.at c.args.room (Some c.in-Some.left)
    = rw c.in-Some.is at c.in_ok-left.ensures in
    turning_begins ts c.args.n c.args.at c.args.room c.in-Some.left first

pub chain-returns-then-left-room : goal.chain-returns-then-left-room
chain-returns-then-left-room t c =
    turning_full c.args.tokens.now c.args.n c.args.at c.args.room c.more.left
    c.in-Some-operator_at.op c.more.invariant c.in-Some-operator_at.ensures c.if-left-room.true

pub chain-binary_level-requires-in-Some-operator_at : goal.chain-binary_level-requires-in-Some-operator_at
chain-binary_level-requires-in-Some-operator_at t c =
    let within : c.more.left.end < length c.args.tokens.now =
    operator_within c.args.tokens.now c.more.left.end c.args.n c.in-Some-operator_at.op
    c.in-Some-operator_at.ensures in
    let some : 1 ≤ expr_height c.more.left.tree = height-positive c.more.left.tree in
    let high : c.more.left.height ≡ expr_height c.more.left.tree = c.more.invariant.high in
    let further : c.args.at < c.more.left.end = c.more.invariant.further in
    let low : c.more.left.height < c.args.room = c.if-left-room.false in
    (omega (arith, c.decreases), (omega arith, (omega arith, omega arith)))

pub chain-returns-in_default-2 : goal.chain-returns-in_default-2
chain-returns-in_default-2 t c =
    let ts = c.args.tokens.now in
    let right : Reads (BinaryAt ts c.args.n) ts c.args.n (c.more.left.end + 1) (c.args.room - 1)
    None = rw c.in_default-2.is at c.in_ok-right.ensures in
    turning_breaks ts c.args.n c.args.at c.args.room c.more.left c.in-Some-operator_at.op
    c.more.invariant c.in-Some-operator_at.ensures right

pub chain-more-preserved : goal.chain-more-preserved
chain-more-preserved t c =
    let ts = c.args.tokens.now in
    let right : Reads (BinaryAt ts c.args.n) ts c.args.n (c.more.left.end + 1) (c.args.room - 1)
    (Some c.in-Some-2.right) = rw c.in-Some-2.is at c.in_ok-right.ensures in
    turning_goes ts c.args.n c.args.at c.args.room c.more.left c.in-Some-2.right c.in_ok-left-2.left
    c.in-Some-operator_at.op c.more.invariant c.in-Some-operator_at.ensures
    c.if-left-room.false right c.in_ok-left-2.ensures.tree c.in_ok-left-2.ensures.end
    c.in_ok-left-2.ensures.height

pub chain-returns : goal.chain-returns
chain-returns t c =
    turning_ends c.args.tokens.now c.args.n c.args.at c.args.room c.more.left c.more.invariant
    c.in_default-operator_at.ensures

pub arguments-returns-then-has_mark : goal.arguments-returns-then-has_mark
arguments-returns-then-has_mark t c =
    list_empty c.args.tokens.now c.args.at c.args.room _ c.if-has_mark.ensures c.new-found.ensures
    refl refl

pub arguments-returns-in_default : goal.arguments-returns-in_default
arguments-returns-in_default t c =
    let ts = c.args.tokens.now in
    let first : Reads (Expression ts) ts (suc levels) c.args.at c.args.room None =
    rw c.in_default.is at c.in_ok-first.ensures in
    list_missing ts c.args.at c.args.room c.if-has_mark.ensures first

pub arguments-next-init : goal.arguments-next-init
arguments-next-init t c =
    let ts = c.args.tokens.now in
    let first : Reads (Expression ts) ts (suc levels) c.args.at c.args.room (Some c.in-Some.first) =
    rw c.in-Some.is at c.in_ok-first.ensures in
    let pushed : c.push.new.self ≡ c.in-Some.first.tree ∷ [] =
    rw c.new-found.ensures at c.in_ok-push.ensures.ok in
    rw pushed (passing_begins ts c.args.at c.args.room c.if-has_mark.ensures c.in-Some.first first)

pub arguments-expression-requires-in-next : goal.arguments-expression-requires-in-next
arguments-expression-requires-in-next t c =
    let within : c.next.end < length c.args.tokens.now =
    kind_within c.args.tokens.now c.next.end (Mark Comma) c.next-test.ensures in
    let further : c.args.at < c.next.end = c.next.invariant.further in
    (omega (arith, c.decreases), (omega arith, (omega arith, omega arith)))

pub arguments-returns-in_default-2 : goal.arguments-returns-in_default-2
arguments-returns-in_default-2 t c =
    let ts = c.args.tokens.now in
    let read : Reads (Expression ts) ts (suc levels) (c.next.end + 1) c.args.room None =
    rw c.in_default-2.is at c.in_ok-read.ensures in
    passing_breaks ts c.args.at c.args.room c.next.found c.next.end c.next.height c.next.invariant
    c.next-test.ensures read

pub arguments-next-preserved : goal.arguments-next-preserved
arguments-next-preserved t c =
    let ts = c.args.tokens.now in
    let read : Reads (Expression ts) ts (suc levels) (c.next.end + 1) c.args.room
    (Some c.in-Some-2.read) = rw c.in-Some-2.is at c.in_ok-read.ensures in
    rw (c.in_ok-push-2.ensures.ok, c.max-height.ensures)
    (passing_goes ts c.args.at c.args.room c.next.found c.next.end c.next.height c.in-Some-2.read
    c.next.invariant c.next-test.ensures read)

pub arguments-returns-then-has_mark-2 : goal.arguments-returns-then-has_mark-2
arguments-returns-then-has_mark-2 t c =
    passing_ends c.args.tokens.now c.args.at c.args.room c.next.found c.next.end c.next.height _
    c.next.invariant c.if-has_mark-2.ensures refl refl refl

pub arguments-returns-else-has_mark-2 : goal.arguments-returns-else-has_mark-2
arguments-returns-else-has_mark-2 t c =
    passing_stops c.args.tokens.now c.args.at c.args.room c.next.found c.next.end c.next.height
    c.next.invariant c.next-test.ensures c.if-has_mark-2.ensures

pub primary-arguments-requires : goal.primary-arguments-requires
primary-arguments-requires t c =
    let within : c.args.at + 1 < length c.args.tokens.now =
    kind_within c.args.tokens.now (c.args.at + 1) (Mark LeftParen) c.if-has_mark.ensures in
    (omega (arith, c.decreases), (omega arith, omega arith))

pub primary-returns-then-has_mark : goal.primary-returns-then-has_mark
primary-returns-then-has_mark t c =
    let ts = c.args.tokens.now in
    let here : kind_at ts c.args.at ≡ Some Name = cc in
    let read : ReadsList ts (c.args.at + 2) (c.args.room - 1) (Some c.in-Some.read) =
    rw c.in-Some.is at c.in_ok-read-in-Some-Name.ensures in
    reads_call ts c.args.at c.args.room c.in-Some.read _ here c.if-has_mark.ensures c.requires.some
    read refl refl refl

pub primary-expression-requires : goal.primary-expression-requires
primary-expression-requires t c =
    let here : kind_at c.args.tokens.now c.args.at ≡ Some (Mark LeftParen) = cc in
    let within : c.args.at < length c.args.tokens.now =
    kind_within c.args.tokens.now c.args.at (Mark LeftParen) here in
    (omega (arith, c.decreases), (omega arith, (omega arith, omega arith)))

pub primary-returns-in-Some-Number : goal.primary-returns-in-Some-Number
primary-returns-in-Some-Number t c =
    let ts = c.args.tokens.now in
    let x = c.leaf.result in
    let here : kind_at ts c.args.at ≡ Some (Number c.in-Some-Number.value) = cc in
    let fits : SFits w64 c.in-Some-Number.value = search rules in
    let value : to_z w64 (of_z w64 c.in-Some-Number.value) ≡ c.in-Some-Number.value =
    to_z-of_z w64 c.in-Some-Number.value fits in
    let tree : x.tree ≡ Lit c.in-Some-Number.value = ap (λ (y : Read). y.tree) c.leaf.ensures ∙
    ap Lit value in
    reads_number ts c.args.at c.args.room c.in-Some-Number.value x here c.requires.some
    (ap (λ (y : Read). y.end) c.leaf.ensures) tree
    (ap (λ (y : Read). y.height) c.leaf.ensures)

pub primary-returns-else-has_mark : goal.primary-returns-else-has_mark
primary-returns-else-has_mark t c =
    let ts = c.args.tokens.now in
    let x = c.leaf-in-Some-Name.result in
    let here : kind_at ts c.args.at ≡ Some Name = cc in
    reads_name ts c.args.at c.args.room x here c.if-has_mark.ensures c.requires.some
    (ap (λ (y : Read). y.end) c.leaf-in-Some-Name.ensures)
    (ap (λ (y : Read). y.tree) c.leaf-in-Some-Name.ensures)
    (ap (λ (y : Read). y.height) c.leaf-in-Some-Name.ensures)

pub primary-returns-then-has_mark-2 : goal.primary-returns-then-has_mark-2
primary-returns-then-has_mark-2 t c =
    let ts = c.args.tokens.now in
    let here : kind_at ts c.args.at ≡ Some (Mark LeftParen) = cc in
    let inner : Reads (Expression ts) ts (suc levels) (c.args.at + 1) c.args.room
    (Some c.in-Some-2.inner) = rw c.in-Some-2.is at c.in_ok-inner-in-Some-Mark-LeftParen.ensures
    in
    reads_parens ts c.args.at c.args.room c.in-Some-2.inner _ here inner c.if-has_mark-2.ensures refl
    refl refl

pub signed-returns-in_default : goal.signed-returns-in_default
signed-returns-in_default t c =
    let unsigned : unary_of (kind_at c.args.tokens.now c.args.at) ≡ None = cc in
    answers_unsigned c.args.tokens.now c.args.at c.args.room c.primary.result unsigned
    c.primary.ensures

pub signed-returns-then-room-eq1 : goal.signed-returns-then-room-eq1
signed-returns-then-room-eq1 t c =
    let sign : unary_of (kind_at c.args.tokens.now c.args.at) ≡ Some c.in-Some.op = cc in
    reads_crowded c.args.tokens.now c.args.at c.args.room c.in-Some.op sign c.if-room-eq1.true

pub signed-signed-requires : goal.signed-signed-requires
signed-signed-requires t c =
    let sign : unary_of (kind_at c.args.tokens.now c.args.at) ≡ Some c.in-Some.op = cc in
    let within : c.args.at < length c.args.tokens.now =
    sign_within c.args.tokens.now c.args.at c.in-Some.op sign in
    (omega (arith, c.decreases), (omega arith, (omega arith, omega arith)))

pub signed-returns-in_default-2 : goal.signed-returns-in_default-2
signed-returns-in_default-2 t c =
    let ts = c.args.tokens.now in
    let sign : unary_of (kind_at ts c.args.at) ≡ Some c.in-Some.op = cc in
    let inner : Reads (BinaryAt ts 0) ts 0 (c.args.at + 1) (c.args.room - 1) None =
    rw c.in_default-2.is at c.in_ok-inner.ensures in
    reads_bare ts c.args.at c.args.room c.in-Some.op sign inner

pub signed-returns : goal.signed-returns
signed-returns t c =
    let ts = c.args.tokens.now in
    let sign : unary_of (kind_at ts c.args.at) ≡ Some c.in-Some.op = cc in
    let inner : Reads (BinaryAt ts 0) ts 0 (c.args.at + 1) (c.args.room - 1)
    (Some c.in-Some-2.inner) = rw c.in-Some-2.is at c.in_ok-inner.ensures in
    reads_prefixed ts c.args.at c.args.room c.in-Some.op c.in-Some-2.inner _ sign (omega arith)
    inner c.in_ok-prefixed.ensures.tree c.in_ok-prefixed.ensures.end
    c.in_ok-prefixed.ensures.height

pub expression-returns-in_default : goal.expression-returns-in_default
expression-returns-in_default t c =
    let ts = c.args.tokens.now in
    let test : Reads (BinaryAt ts levels) ts levels c.args.at c.args.room None =
    rw c.in_default.is at c.in_ok-test.ensures in
    whole_none ts c.args.at c.args.room test

pub expression-returns-then-not-has_mark : goal.expression-returns-then-not-has_mark
expression-returns-then-not-has_mark t c =
    let ts = c.args.tokens.now in
    let test : Reads (BinaryAt ts levels) ts levels c.args.at c.args.room (Some c.in-Some.test) =
    rw c.in-Some.is at c.in_ok-test.ensures in
    whole_plain ts c.args.at c.args.room c.in-Some.test test c.if-not-has_mark.ensures

pub expression-returns-then-test-room : goal.expression-returns-then-test-room
expression-returns-then-test-room t c =
    let ts = c.args.tokens.now in
    let test : Reads (BinaryAt ts levels) ts levels c.args.at c.args.room (Some c.in-Some.test) =
    rw c.in-Some.is at c.in_ok-test.ensures in
    whole_full ts c.args.at c.args.room c.in-Some.test test c.if-not-has_mark.ensures
    c.if-test-room.true

pub expression-expression-requires : goal.expression-expression-requires
expression-expression-requires t c =
    let ts = c.args.tokens.now in
    let test : Reads (BinaryAt ts levels) ts levels c.args.at c.args.room (Some c.in-Some.test) =
    rw c.in-Some.is at c.in_ok-test.ensures in
    let further : c.args.at < c.in-Some.test.end = test.found.further in
    let high : c.in-Some.test.height ≡ expr_height c.in-Some.test.tree = test.found.high in
    let some : 1 ≤ expr_height c.in-Some.test.tree = height-positive c.in-Some.test.tree in
    let low : c.in-Some.test.height < c.args.room = c.if-test-room.false in
    let within : c.in-Some.test.end < length ts =
    kind_within ts c.in-Some.test.end (Mark Question) c.if-not-has_mark.ensures in
    (omega (arith, c.decreases), (omega arith, (omega arith, omega arith)))

pub expression-returns-in_default-2 : goal.expression-returns-in_default-2
expression-returns-in_default-2 t c =
    let ts = c.args.tokens.now in
    let test : Reads (BinaryAt ts levels) ts levels c.args.at c.args.room (Some c.in-Some.test) =
    rw c.in-Some.is at c.in_ok-test.ensures in
    let first : Reads (Expression ts) ts (suc levels) (c.in-Some.test.end + 1) (c.args.room - 1)
    None = rw c.in_default-2.is at c.in_ok-first.ensures in
    whole_valueless ts c.args.at c.args.room c.in-Some.test test c.if-not-has_mark.ensures first

pub expression-returns-then-not-has_mark-2 : goal.expression-returns-then-not-has_mark-2
expression-returns-then-not-has_mark-2 t c =
    let ts = c.args.tokens.now in
    let test : Reads (BinaryAt ts levels) ts levels c.args.at c.args.room (Some c.in-Some.test) =
    rw c.in-Some.is at c.in_ok-test.ensures in
    let first : Reads (Expression ts) ts (suc levels) (c.in-Some.test.end + 1) (c.args.room - 1)
    (Some c.in-Some-2.first) = rw c.in-Some-2.is at c.in_ok-first.ensures in
    whole_open ts c.args.at c.args.room c.in-Some.test test c.if-not-has_mark.ensures
    c.in-Some-2.first first c.if-not-has_mark-2.ensures

pub expression-expression-requires-2 : goal.expression-expression-requires-2
expression-expression-requires-2 t c =
    let ts = c.args.tokens.now in
    let test : Reads (BinaryAt ts levels) ts levels c.args.at c.args.room (Some c.in-Some.test) =
    rw c.in-Some.is at c.in_ok-test.ensures in
    let first : Reads (Expression ts) ts (suc levels) (c.in-Some.test.end + 1) (c.args.room - 1)
    (Some c.in-Some-2.first) = rw c.in-Some-2.is at c.in_ok-first.ensures in
    let further : c.args.at < c.in-Some.test.end = test.found.further in
    let again : c.in-Some.test.end + 1 < c.in-Some-2.first.end = first.found.further in
    let high : c.in-Some.test.height ≡ expr_height c.in-Some.test.tree = test.found.high in
    let some : 1 ≤ expr_height c.in-Some.test.tree = height-positive c.in-Some.test.tree in
    let low : c.in-Some.test.height < c.args.room = c.if-test-room.false in
    let within : c.in-Some-2.first.end < length ts =
    kind_within ts c.in-Some-2.first.end (Mark Colon) c.if-not-has_mark-2.ensures in
    (omega (arith, c.decreases), (omega arith, (omega arith, omega arith)))

pub expression-returns-in_default-3 : goal.expression-returns-in_default-3
expression-returns-in_default-3 t c =
    let ts = c.args.tokens.now in
    let test : Reads (BinaryAt ts levels) ts levels c.args.at c.args.room (Some c.in-Some.test) =
    rw c.in-Some.is at c.in_ok-test.ensures in
    let first : Reads (Expression ts) ts (suc levels) (c.in-Some.test.end + 1) (c.args.room - 1)
    (Some c.in-Some-2.first) = rw c.in-Some-2.is at c.in_ok-first.ensures in
    let other : Reads (Expression ts) ts (suc levels) (c.in-Some-2.first.end + 1) (c.args.room - 1)
    None = rw c.in_default-3.is at c.in_ok-other.ensures in
    whole_halved ts c.args.at c.args.room c.in-Some.test test c.if-not-has_mark.ensures
    c.in-Some-2.first first other

pub expression-returns : goal.expression-returns
expression-returns t c =
    let ts = c.args.tokens.now in
    let test : Reads (BinaryAt ts levels) ts levels c.args.at c.args.room (Some c.in-Some.test) =
    rw c.in-Some.is at c.in_ok-test.ensures in
    let first : Reads (Expression ts) ts (suc levels) (c.in-Some.test.end + 1) (c.args.room - 1)
    (Some c.in-Some-2.first) = rw c.in-Some-2.is at c.in_ok-first.ensures in
    let other : Reads (Expression ts) ts (suc levels) (c.in-Some-2.first.end + 1) (c.args.room - 1)
    (Some c.in-Some-3.other) = rw c.in-Some-3.is at c.in_ok-other.ensures in
    whole_choice ts c.args.at c.args.room c.in-Some.test test c.if-not-has_mark.ensures
    c.in-Some-2.first first c.in-Some-3.other _ c.if-not-has_mark-2.ensures c.if-test-room.false
    other
    c.in_ok-conditional.ensures.tree c.in_ok-conditional.ensures.end c.in_ok-conditional.ensures.height
