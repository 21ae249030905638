use Rattle.std.proofs.Common.{◌≡◌, ◌+◌, ◌-◌, ◌<◌, [], ◌∷◌, length, Some, None, refl, arith}
use Rattle.c_lex.specs.declared.token.TokenKind.TheVariants.{Word, Mark}
use Rattle.c_lex.specs.declared.token.Keyword.TheVariants.{Else, If, While, Do, For}
use Rattle.c_lex.specs.declared.token.Mark.TheVariants.{LeftBrace}
use Rattle.c_ast.specs.declared.stmt.Stmt.{Stmt}
use Rattle.c_ast.specs.declared.stmt.Stmt.TheVariants as stmt
use Rattle.c_ast.specs.Height.{expr_height, stmt_height}
use Rattle.c_syntax.specs.Grammar.{Test}
use Rattle.c_syntax.specs.Statements.{ForHead, Statement, BlockItem, BlockItems}
use Rattle.c_syntax.specs.Heights.{list_height, head_height}
use Rattle.c_syntax.specs.Readers.{Gives, IsNoHigher}
use Rattle.c_syntax.proofs.Lookahead.{kind_within}
use Rattle.c_syntax.proofs.Building.{built_none, built_some}
use Rattle.c_syntax.proofs.Forms.{builds_block, while_testless, builds_while, for_headless, builds_for, do_bodiless, do_whileless, do_testless, do_endless, reads_do, if_testless, if_thenless, reads_alone, builds_else}
use Rattle.c_syntax.proofs.Blocks.{item_names, item_builds, inner_stops, inner_goes, inner_ends}
use Rattle.c_syntax.proofs.statement.+statements.Goals as goal

pub block-overflow_add-at : goal.block-overflow_add-at
block-overflow_add-at t c =
    let within : c.args.at < length c.args.tokens.now =
    kind_within c.args.tokens.now c.args.at (Mark LeftBrace) c.requires.here in omega arith

pub branch-overflow_add-at : goal.branch-overflow_add-at
branch-overflow_add-at t c =
    let within : c.args.at < length c.args.tokens.now =
    kind_within c.args.tokens.now c.args.at (Word If) c.requires.here in omega arith

pub while_loop-overflow_add-at : goal.while_loop-overflow_add-at
while_loop-overflow_add-at t c =
    let within : c.args.at < length c.args.tokens.now =
    kind_within c.args.tokens.now c.args.at (Word While) c.requires.here in omega arith

pub do_loop-overflow_add-at : goal.do_loop-overflow_add-at
do_loop-overflow_add-at t c =
    let within : c.args.at < length c.args.tokens.now =
    kind_within c.args.tokens.now c.args.at (Word Do) c.requires.here in omega arith

pub for_loop-overflow_add-at : goal.for_loop-overflow_add-at
for_loop-overflow_add-at t c =
    let within : c.args.at < length c.args.tokens.now =
    kind_within c.args.tokens.now c.args.at (Word For) c.requires.here in omega arith

pub block-block_items-requires : goal.block-block_items-requires
block-block_items-requires t c =
    let within : c.args.at < length c.args.tokens.now =
    kind_within c.args.tokens.now c.args.at (Mark LeftBrace) c.requires.here in
    (omega (arith, c.decreases), (omega arith, omega arith))

pub block-returns-in_default : goal.block-returns-in_default
block-returns-in_default t c =
    let ts = c.args.tokens.now in
    let inside : Gives (IsNoHigher list_height (c.args.room - 1) (BlockItems ts (c.args.at + 1)))
    (c.args.at + 1) (length ts) None = rw c.in_default.is at c.in_ok-inside.ensures in
    built_none stmt.Block (IsNoHigher list_height (c.args.room - 1) (BlockItems ts (c.args.at + 1)))
    (IsNoHigher stmt_height c.args.room (Statement ts c.args.at))
    (builds_block ts c.args.at c.args.room c.requires.some c.requires.here) c.args.at
    (c.args.at + 1) (length ts) inside

pub block-returns : goal.block-returns
block-returns t c =
    let ts = c.args.tokens.now in
    let inside : Gives (IsNoHigher list_height (c.args.room - 1) (BlockItems ts (c.args.at + 1)))
    (c.args.at + 1) (length ts) (Some c.in-Some.inside) =
    rw c.in-Some.is at c.in_ok-inside.ensures in
    built_some stmt.Block (IsNoHigher list_height (c.args.room - 1) (BlockItems ts (c.args.at + 1)))
    (IsNoHigher stmt_height c.args.room (Statement ts c.args.at))
    (builds_block ts c.args.at c.args.room c.requires.some c.requires.here) c.args.at
    (c.args.at + 1) (length ts) (omega arith) c.in-Some.inside _ inside refl refl

pub while_loop-parenthesized-requires-clause-inside : goal.while_loop-parenthesized-requires-clause-inside
while_loop-parenthesized-requires-clause-inside t c =
    let within : c.args.at < length c.args.tokens.now =
    kind_within c.args.tokens.now c.args.at (Word While) c.requires.here in omega arith

pub while_loop-returns-in_default : goal.while_loop-returns-in_default
while_loop-returns-in_default t c =
    let ts = c.args.tokens.now in
    let test : Gives (IsNoHigher expr_height (c.args.room - 1) (Test ts (c.args.at + 1)))
    (c.args.at + 1)
    (length ts) None = rw c.in_default.is at c.in_ok-test.ensures in
    while_testless ts c.args.at c.args.room c.requires.some c.requires.here test

pub while_loop-returns-in_default-2 : goal.while_loop-returns-in_default-2
while_loop-returns-in_default-2 t c =
    let ts = c.args.tokens.now in
    let test : Gives (IsNoHigher expr_height (c.args.room - 1) (Test ts (c.args.at + 1)))
    (c.args.at + 1)
    (length ts) (Some c.in-Some.test) = rw c.in-Some.is at c.in_ok-test.ensures in
    let body : Gives (IsNoHigher stmt_height (c.args.room - 1) (Statement ts c.in-Some.test.end))
    c.in-Some.test.end (length ts) None = rw c.in_default-2.is at c.in_ok-body.ensures in
    built_none (stmt.While c.in-Some.test.value)
    (IsNoHigher stmt_height (c.args.room - 1) (Statement ts c.in-Some.test.end))
    (IsNoHigher stmt_height c.args.room (Statement ts c.args.at))
    (builds_while ts c.args.at c.args.room c.requires.some c.requires.here c.in-Some.test test)
    c.args.at c.in-Some.test.end (length ts) body

pub while_loop-returns : goal.while_loop-returns
while_loop-returns t c =
    let ts = c.args.tokens.now in
    let test : Gives (IsNoHigher expr_height (c.args.room - 1) (Test ts (c.args.at + 1)))
    (c.args.at + 1)
    (length ts) (Some c.in-Some.test) = rw c.in-Some.is at c.in_ok-test.ensures in
    let body : Gives (IsNoHigher stmt_height (c.args.room - 1) (Statement ts c.in-Some.test.end))
    c.in-Some.test.end (length ts) (Some c.in-Some-2.body) =
    rw c.in-Some-2.is at c.in_ok-body.ensures in
    let further : c.args.at + 1 < c.in-Some.test.end = test.found.further in
    built_some (stmt.While c.in-Some.test.value)
    (IsNoHigher stmt_height (c.args.room - 1) (Statement ts c.in-Some.test.end))
    (IsNoHigher stmt_height c.args.room (Statement ts c.args.at))
    (builds_while ts c.args.at c.args.room c.requires.some c.requires.here c.in-Some.test test)
    c.args.at c.in-Some.test.end (length ts) (omega arith) c.in-Some-2.body _ body refl refl

pub for_loop-for_head-requires-clause-inside : goal.for_loop-for_head-requires-clause-inside
for_loop-for_head-requires-clause-inside t c =
    let within : c.args.at < length c.args.tokens.now =
    kind_within c.args.tokens.now c.args.at (Word For) c.requires.here in omega arith

pub for_loop-returns-in_default : goal.for_loop-returns-in_default
for_loop-returns-in_default t c =
    let ts = c.args.tokens.now in
    let head : Gives (IsNoHigher head_height (c.args.room - 1) (ForHead ts (c.args.at + 1)))
    (c.args.at + 1) (length ts) None = rw c.in_default.is at c.in_ok-head.ensures in
    for_headless ts c.args.at c.args.room c.requires.some c.requires.here head

pub for_loop-returns-in_default-2 : goal.for_loop-returns-in_default-2
for_loop-returns-in_default-2 t c =
    let ts = c.args.tokens.now in
    let head : Gives (IsNoHigher head_height (c.args.room - 1) (ForHead ts (c.args.at + 1)))
    (c.args.at + 1) (length ts) (Some c.in-Some.head) =
    rw c.in-Some.is at c.in_ok-head.ensures in
    let body : Gives (IsNoHigher stmt_height (c.args.room - 1) (Statement ts c.in-Some.head.end))
    c.in-Some.head.end (length ts) None = rw c.in_default-2.is at c.in_ok-body.ensures in
    built_none (stmt.For c.in-Some.head.value.first c.in-Some.head.value.test
    c.in-Some.head.value.change) (IsNoHigher stmt_height (c.args.room - 1)
    (Statement ts c.in-Some.head.end)) (IsNoHigher stmt_height c.args.room (Statement ts c.args.at))
    (builds_for ts c.args.at c.args.room c.requires.some c.requires.here c.in-Some.head head)
    c.args.at c.in-Some.head.end (length ts) body

pub for_loop-returns : goal.for_loop-returns
for_loop-returns t c =
    let ts = c.args.tokens.now in
    let head : Gives (IsNoHigher head_height (c.args.room - 1) (ForHead ts (c.args.at + 1)))
    (c.args.at + 1) (length ts) (Some c.in-Some.head) =
    rw c.in-Some.is at c.in_ok-head.ensures in
    let body : Gives (IsNoHigher stmt_height (c.args.room - 1) (Statement ts c.in-Some.head.end))
    c.in-Some.head.end (length ts) (Some c.in-Some-2.body) =
    rw c.in-Some-2.is at c.in_ok-body.ensures in
    let further : c.args.at + 1 < c.in-Some.head.end = head.found.further in
    built_some (stmt.For c.in-Some.head.value.first c.in-Some.head.value.test
    c.in-Some.head.value.change) (IsNoHigher stmt_height (c.args.room - 1)
    (Statement ts c.in-Some.head.end)) (IsNoHigher stmt_height c.args.room (Statement ts c.args.at))
    (builds_for ts c.args.at c.args.room c.requires.some c.requires.here c.in-Some.head head)
    c.args.at c.in-Some.head.end (length ts) (omega arith) c.in-Some-2.body _ body refl refl

pub do_loop-boxed_statement-requires : goal.do_loop-boxed_statement-requires
do_loop-boxed_statement-requires t c =
    let within : c.args.at < length c.args.tokens.now =
    kind_within c.args.tokens.now c.args.at (Word Do) c.requires.here in
    (omega (arith, c.decreases), (omega arith, omega arith))

pub do_loop-returns-in_default : goal.do_loop-returns-in_default
do_loop-returns-in_default t c =
    let ts = c.args.tokens.now in
    let body : Gives (IsNoHigher stmt_height (c.args.room - 1) (Statement ts (c.args.at + 1)))
    (c.args.at + 1) (length ts) None = rw c.in_default.is at c.in_ok-body.ensures in
    do_bodiless ts c.args.at c.args.room c.requires.some c.requires.here body

pub do_loop-returns-then-not-has_keyword : goal.do_loop-returns-then-not-has_keyword
do_loop-returns-then-not-has_keyword t c =
    let ts = c.args.tokens.now in
    let body : Gives (IsNoHigher stmt_height (c.args.room - 1) (Statement ts (c.args.at + 1)))
    (c.args.at + 1) (length ts) (Some c.in-Some.body) =
    rw c.in-Some.is at c.in_ok-body.ensures in
    do_whileless ts c.args.at c.args.room c.requires.some c.requires.here c.in-Some.body body
    c.if-not-has_keyword.ensures

pub do_loop-parenthesized-requires-clause-inside : goal.do_loop-parenthesized-requires-clause-inside
do_loop-parenthesized-requires-clause-inside t c =
    let within : c.in-Some.body.end < length c.args.tokens.now =
    kind_within c.args.tokens.now c.in-Some.body.end (Word While) c.if-not-has_keyword.ensures in
    omega arith

pub do_loop-returns-in_default-2 : goal.do_loop-returns-in_default-2
do_loop-returns-in_default-2 t c =
    let ts = c.args.tokens.now in
    let body : Gives (IsNoHigher stmt_height (c.args.room - 1) (Statement ts (c.args.at + 1)))
    (c.args.at + 1) (length ts) (Some c.in-Some.body) =
    rw c.in-Some.is at c.in_ok-body.ensures in
    let test : Gives (IsNoHigher expr_height (c.args.room - 1) (Test ts (c.in-Some.body.end + 1)))
    (c.in-Some.body.end + 1) (length ts) None = rw c.in_default-2.is at c.in_ok-test.ensures in
    do_testless ts c.args.at c.args.room c.requires.some c.requires.here c.in-Some.body body test

pub do_loop-returns-then-not-has_mark : goal.do_loop-returns-then-not-has_mark
do_loop-returns-then-not-has_mark t c =
    let ts = c.args.tokens.now in
    let body : Gives (IsNoHigher stmt_height (c.args.room - 1) (Statement ts (c.args.at + 1)))
    (c.args.at + 1) (length ts) (Some c.in-Some.body) =
    rw c.in-Some.is at c.in_ok-body.ensures in
    let test : Gives (IsNoHigher expr_height (c.args.room - 1) (Test ts (c.in-Some.body.end + 1)))
    (c.in-Some.body.end + 1) (length ts) (Some c.in-Some-2.test) =
    rw c.in-Some-2.is at c.in_ok-test.ensures in
    do_endless ts c.args.at c.args.room c.requires.some c.requires.here c.in-Some.body body
    c.in-Some-2.test test c.if-not-has_mark.ensures

pub do_loop-returns : goal.do_loop-returns
do_loop-returns t c =
    let ts = c.args.tokens.now in
    let body : Gives (IsNoHigher stmt_height (c.args.room - 1) (Statement ts (c.args.at + 1)))
    (c.args.at + 1) (length ts) (Some c.in-Some.body) =
    rw c.in-Some.is at c.in_ok-body.ensures in
    let test : Gives (IsNoHigher expr_height (c.args.room - 1) (Test ts (c.in-Some.body.end + 1)))
    (c.in-Some.body.end + 1) (length ts) (Some c.in-Some-2.test) =
    rw c.in-Some-2.is at c.in_ok-test.ensures in
    reads_do ts c.args.at c.args.room c.requires.some c.requires.here c.in-Some.body body
    c.in-Some-2.test test _ c.if-not-has_keyword.ensures c.if-not-has_mark.ensures refl refl

pub branch-parenthesized-requires-clause-inside : goal.branch-parenthesized-requires-clause-inside
branch-parenthesized-requires-clause-inside t c =
    let within : c.args.at < length c.args.tokens.now =
    kind_within c.args.tokens.now c.args.at (Word If) c.requires.here in omega arith

pub branch-returns-in_default : goal.branch-returns-in_default
branch-returns-in_default t c =
    let ts = c.args.tokens.now in
    let test : Gives (IsNoHigher expr_height (c.args.room - 1) (Test ts (c.args.at + 1)))
    (c.args.at + 1)
    (length ts) None = rw c.in_default.is at c.in_ok-test.ensures in
    if_testless ts c.args.at c.args.room c.requires.some c.requires.here test

pub branch-returns-in_default-2 : goal.branch-returns-in_default-2
branch-returns-in_default-2 t c =
    let ts = c.args.tokens.now in
    let test : Gives (IsNoHigher expr_height (c.args.room - 1) (Test ts (c.args.at + 1)))
    (c.args.at + 1)
    (length ts) (Some c.in-Some.test) = rw c.in-Some.is at c.in_ok-test.ensures in
    let taken : Gives (IsNoHigher stmt_height (c.args.room - 1) (Statement ts c.in-Some.test.end))
    c.in-Some.test.end (length ts) None = rw c.in_default-2.is at c.in_ok-then.ensures in
    if_thenless ts c.args.at c.args.room c.requires.some c.requires.here c.in-Some.test test taken

pub branch-returns-then-not-has_keyword : goal.branch-returns-then-not-has_keyword
branch-returns-then-not-has_keyword t c =
    let ts = c.args.tokens.now in
    let test : Gives (IsNoHigher expr_height (c.args.room - 1) (Test ts (c.args.at + 1)))
    (c.args.at + 1)
    (length ts) (Some c.in-Some.test) = rw c.in-Some.is at c.in_ok-test.ensures in
    let taken : Gives (IsNoHigher stmt_height (c.args.room - 1) (Statement ts c.in-Some.test.end))
    c.in-Some.test.end (length ts) (Some c.in-Some-2.then) =
    rw c.in-Some-2.is at c.in_ok-then.ensures in
    reads_alone ts c.args.at c.args.room c.requires.some c.requires.here c.in-Some.test test
    c.in-Some-2.then taken _ c.if-not-has_keyword.ensures refl refl

pub branch-boxed_statement-requires-2 : goal.branch-boxed_statement-requires-2
branch-boxed_statement-requires-2 t c =
    let ts = c.args.tokens.now in
    let test : Gives (IsNoHigher expr_height (c.args.room - 1) (Test ts (c.args.at + 1)))
    (c.args.at + 1)
    (length ts) (Some c.in-Some.test) = rw c.in-Some.is at c.in_ok-test.ensures in
    let taken : Gives (IsNoHigher stmt_height (c.args.room - 1) (Statement ts c.in-Some.test.end))
    c.in-Some.test.end (length ts) (Some c.in-Some-2.then) =
    rw c.in-Some-2.is at c.in_ok-then.ensures in
    let further : c.args.at + 1 < c.in-Some.test.end = test.found.further in
    let again : c.in-Some.test.end < c.in-Some-2.then.end = taken.found.further in
    let within : c.in-Some-2.then.end < length ts =
    kind_within ts c.in-Some-2.then.end (Word Else) c.if-not-has_keyword.ensures in
    (omega (arith, c.decreases), (omega arith, omega arith))

pub branch-returns-in_default-3 : goal.branch-returns-in_default-3
branch-returns-in_default-3 t c =
    let ts = c.args.tokens.now in
    let test : Gives (IsNoHigher expr_height (c.args.room - 1) (Test ts (c.args.at + 1)))
    (c.args.at + 1)
    (length ts) (Some c.in-Some.test) = rw c.in-Some.is at c.in_ok-test.ensures in
    let taken : Gives (IsNoHigher stmt_height (c.args.room - 1) (Statement ts c.in-Some.test.end))
    c.in-Some.test.end (length ts) (Some c.in-Some-2.then) =
    rw c.in-Some-2.is at c.in_ok-then.ensures in
    let other : Gives (IsNoHigher stmt_height (c.args.room - 1)
    (Statement ts (c.in-Some-2.then.end + 1)))
    (c.in-Some-2.then.end + 1) (length ts) None =
    rw c.in_default-3.is at c.in_ok-other.ensures in
    built_none (λ (u : Stmt). stmt.If c.in-Some.test.value c.in-Some-2.then.value (Some u))
    (IsNoHigher stmt_height (c.args.room - 1) (Statement ts (c.in-Some-2.then.end + 1)))
    (IsNoHigher stmt_height c.args.room (Statement ts c.args.at))
    (builds_else ts c.args.at c.args.room c.requires.some c.requires.here c.in-Some.test test
    c.in-Some-2.then taken c.if-not-has_keyword.ensures) c.args.at (c.in-Some-2.then.end + 1)
    (length ts) other

pub branch-returns : goal.branch-returns
branch-returns t c =
    let ts = c.args.tokens.now in
    let test : Gives (IsNoHigher expr_height (c.args.room - 1) (Test ts (c.args.at + 1)))
    (c.args.at + 1)
    (length ts) (Some c.in-Some.test) = rw c.in-Some.is at c.in_ok-test.ensures in
    let taken : Gives (IsNoHigher stmt_height (c.args.room - 1) (Statement ts c.in-Some.test.end))
    c.in-Some.test.end (length ts) (Some c.in-Some-2.then) =
    rw c.in-Some-2.is at c.in_ok-then.ensures in
    let other : Gives (IsNoHigher stmt_height (c.args.room - 1)
    (Statement ts (c.in-Some-2.then.end + 1)))
    (c.in-Some-2.then.end + 1) (length ts) (Some c.in-Some-3.other) =
    rw c.in-Some-3.is at c.in_ok-other.ensures in
    let further : c.args.at + 1 < c.in-Some.test.end = test.found.further in
    let again : c.in-Some.test.end < c.in-Some-2.then.end = taken.found.further in
    built_some (λ (u : Stmt). stmt.If c.in-Some.test.value c.in-Some-2.then.value (Some u))
    (IsNoHigher stmt_height (c.args.room - 1) (Statement ts (c.in-Some-2.then.end + 1)))
    (IsNoHigher stmt_height c.args.room (Statement ts c.args.at))
    (builds_else ts c.args.at c.args.room c.requires.some c.requires.here c.in-Some.test test
    c.in-Some-2.then taken c.if-not-has_keyword.ensures) c.args.at (c.in-Some-2.then.end + 1)
    (length ts) (omega arith) c.in-Some-3.other _ other refl refl

pub block_items-returns-in_default : goal.block_items-returns-in_default
block_items-returns-in_default t c =
    let ts = c.args.tokens.now in
    let read : Gives (IsNoHigher list_height c.args.room (BlockItem ts c.items.end)) c.items.end
    (length ts) None = rw c.in_default.is at c.in_ok-read.ensures in
    inner_stops ts c.args.at c.args.room c.items.found c.items.end c.items.invariant
    c.items-test.ensures read

pub block_items-items-preserved : goal.block_items-items-preserved
block_items-items-preserved t c =
    let ts = c.args.tokens.now in
    let read : Gives (IsNoHigher list_height c.args.room (BlockItem ts c.items.end)) c.items.end
    (length ts) (Some c.in-Some.read) = rw c.in-Some.is at c.in_ok-read.ensures in
    rw c.in_ok-append.ensures.ok (inner_goes ts c.args.at c.args.room c.items.found c.items.end
    c.items.invariant c.in-Some.read read c.items-test.ensures)

pub block_items-returns : goal.block_items-returns
block_items-returns t c =
    let ts = c.args.tokens.now in
    inner_ends ts c.args.at c.args.room c.items.found c.items.end c.items.invariant _
    c.items-test.ensures refl refl

pub block_item-returns-then-has_keyword : goal.block_item-returns-then-has_keyword
block_item-returns-then-has_keyword t c =
    let ts = c.args.tokens.now in
    item_names ts c.args.at c.args.room _ c.if-has_keyword.ensures c.declaration.ensures

pub block_item-returns : goal.block_item-returns
block_item-returns t c =
    let ts = c.args.tokens.now in
    let read : Gives (IsNoHigher stmt_height c.args.room (Statement ts c.args.at)) c.args.at
    (length ts)
    (Some c.in-Some.read) = rw c.in-Some.is at c.in_ok-read.ensures in
    let one : c.push.new.self ≡ c.in-Some.read.value ∷ [] =
    rw c.new-one.ensures at c.in_ok-push.ensures.ok in
    built_some (λ (s : Stmt). s ∷ []) (IsNoHigher stmt_height c.args.room (Statement ts c.args.at))
    (IsNoHigher list_height c.args.room (BlockItem ts c.args.at))
    (item_builds ts c.args.at c.args.room c.if-has_keyword.ensures) c.args.at c.args.at (length ts)
    (omega arith) c.in-Some.read _ read one refl
