-- How statements pass on the set of definitely assigned slots: from the set in front of a statement
-- come the sets after it and at its `break`s and
-- `continue`s, and the first variable, in the order of the text, that is read where it may have no
-- value. After a loop is what is assigned where it is left: a loop whose test always holds is left
-- by its `break`s alone, and any other counts as left by its test.
use Rattle.std.specs.Prelude.{ℕ, ◌-◌, Bool, true, false, List, [], ◌∷◌, ◌++◌, length, Option, Some, None, pos, int_lt, if◌then◌else◌}
use Rattle.std.specs.Option.{option_or}
use Rattle.c_ast.specs.Variables.{variables}
use Rattle.c_ast.specs.declared.expr.Expr.{Expr}
use Rattle.c_ast.specs.declared.expr.Expr.TheOpen.{Expr-F}
use Rattle.c_ast.specs.declared.expr.Expr.TheViews.{out-Expr}
use Rattle.c_ast.specs.declared.stmt.Stmt.{Stmt}
use Rattle.c_ast.specs.declared.stmt.Stmt.TheOpen.{Stmt-F}
use Rattle.c_ast.specs.declared.stmt.Stmt.TheFolds.{fold-Stmt}
use Rattle.c_names.specs.Names.{name_at}
use Rattle.c_names.specs.Slots.{slot_of}
use Rattle.c_assigned.specs.declared.flow.Flow.{Flow}
use Rattle.c_assigned.specs.Sets.{Assigned, meet, with_slot, with_assigned, restrict, first_unset}

-- what comes of a statement, and the names in scope after it, by slot
pub record After : Type 0 where
  pub scope : List ℕ
  pub flow : Flow

-- what passes to the next statement alone
abbrev pub fall_through : List ℕ → Assigned → Option ℕ → After
fall_through scope set unset =
    record {
      scope = scope;
      flow = record {
        behind = set;
        breaks = None;
        continues = None;
        unset =
            unset;
      };
    }

-- a literal above 0
abbrev pub is_above_zero : Expr-F Expr → Bool
is_above_zero (Expr-F.Lit n) = int_lt (pos 0) n
is_above_zero _ = false

-- a test that always holds: a literal above 0, or none in a `for`
abbrev pub is_endless : Option Expr → Bool
is_endless None = true
is_endless (Some e) = is_above_zero (out-Expr e)

-- the set with a slot assigned, where there is one
abbrev pub assign : Option ℕ → Assigned → Assigned
assign None set = set
assign (Some slot) set = with_assigned slot set

-- what a statement does, with the names in scope and the set in front of it
abbrev pub Transfer : Type 0
Transfer = List ℕ → Assigned → After

-- a flow that goes on with another after it
abbrev pub sequence : Flow → Flow → Flow
sequence first rest = record {
  behind = rest.behind;
  breaks = meet first.breaks rest.breaks;
  continues = meet first.continues rest.continues;
  unset = option_or first.unset rest.unset;
}

-- a list of statements, in its order
abbrev pub in_order : List Transfer → Transfer
in_order [] scope set = fall_through scope set None
in_order (way ∷ ways) scope set =
    let first = way scope set in
    let rest = in_order ways first.scope first.flow.behind in
    record { scope = rest.scope; flow = sequence first.flow rest.flow }

-- at the end of a scope the slots that were in scope before it are left
abbrev pub leave : ℕ → Flow → Flow
leave slots flow =
    record {
      behind = restrict slots flow.behind;
      breaks = restrict slots flow.breaks;
      continues =
          restrict slots flow.continues;
      unset = flow.unset;
    }

-- a part of a statement: what it declares is gone after it
abbrev pub nested : Transfer → List ℕ → Assigned → Flow
nested way scope set = leave (length scope) (way scope set).flow

-- such a part that may be left out passes the set on where it is
abbrev pub nested_optional : Option Transfer → List ℕ → Assigned → Flow
nested_optional None scope set = (fall_through scope set None).flow
nested_optional (Some way) scope set = nested way scope set

-- two branches, after a test
abbrev pub branch : Option ℕ → Flow → Flow → Flow
branch tested holds fails = record {
  behind = meet holds.behind fails.behind;
  breaks = meet holds.breaks fails.breaks;
  continues = meet holds.continues fails.continues;
  unset = option_or tested (option_or holds.unset fails.unset);
}

module _ (names : List ℕ) where
  -- the first variable that an expression reads where it may have no value
  abbrev pub unset_in : List ℕ → Assigned → Expr → Option ℕ
  unset_in scope set e = first_unset names scope set None (variables e)

  -- of a declaration: in its initial value its own variable, in the last slot, may not be read
  abbrev pub declaration_flow : List ℕ → Assigned → Option Expr → After
  declaration_flow scope set None = fall_through scope (with_slot false set) None
  declaration_flow scope set (Some e) =
      fall_through scope (with_slot true set) (first_unset names scope (with_slot false set)
      (Some (length scope - 1)) (variables e))

  -- of the test of a `for`, which may be missing
  abbrev pub unset_in_test : List ℕ → Assigned → Option Expr → Option ℕ
  unset_in_test scope set None = None
  unset_in_test scope set (Some e) = unset_in scope set e

  -- `while`, by what comes of a turn: the test is read from the set in front of the loop
  abbrev pub while_loop : List ℕ → Assigned → Bool → Option ℕ → Flow → After
  while_loop scope set always tested turn =
      fall_through scope (if always then turn.breaks else set) (option_or tested turn.unset)

  -- `do`: the test is read from the meet of the body and its `continue`s
  abbrev pub do_loop : List ℕ → Expr → Flow → After
  do_loop scope e turn =
      let tested = meet turn.behind turn.continues in
      fall_through scope (if is_above_zero (out-Expr e) then turn.breaks else
      meet tested turn.breaks)
      (option_or turn.unset (unset_in scope tested e))

  -- `for`, after its first part: the change, which is in front of the body, is read from the meet
  -- of the body and its `continue`s
  abbrev pub for_loop : List ℕ → After → Option Expr → Option Transfer → Transfer → After
  for_loop scope begun test change inner =
      let turn = nested inner begun.scope begun.flow.behind in
      let changed = nested_optional change begun.scope (meet turn.behind turn.continues) in
      fall_through scope (restrict (length scope) (if is_endless test then turn.breaks else
      begun.flow.behind))
      (option_or begun.flow.unset (option_or (unset_in_test begun.scope begun.flow.behind test)
      (option_or changed.unset turn.unset)))

  -- what comes of a statement, from what the statements in it do
  abbrev pub stmt_level : Stmt-F Transfer → Transfer
  stmt_level Stmt-F.Empty scope set = fall_through scope set None
  -- `int x;` and `int x = e;`: the name is in scope from the end of its declarator on
  stmt_level (Stmt-F.Declare token value) scope set =
      declaration_flow (scope ++ name_at names token ∷ []) set value
  stmt_level (Stmt-F.Assign token e) scope set =
      fall_through scope (assign (slot_of scope (name_at names token)) set) (unset_in scope set e)
  -- `if`: the meet of both branches; a missing `else` leaves the set
  stmt_level (Stmt-F.If e inner other) scope set =
      record {
        scope = scope;
        flow = branch (unset_in scope set e) (nested inner scope set)
            (nested_optional other scope set);
      }
  stmt_level (Stmt-F.While e inner) scope set =
      while_loop scope set (is_above_zero (out-Expr e)) (unset_in scope set e)
      (nested inner scope set)
  stmt_level (Stmt-F.DoWhile inner e) scope set = do_loop scope e (nested inner scope set)
  stmt_level (Stmt-F.For first test change inner) scope set =
      for_loop scope (in_order first scope set) test change inner
  stmt_level (Stmt-F.Break token) scope set =
      record {
        scope = scope;
        flow = record {
          behind = None;
          breaks = set;
          continues = None;
          unset =
              None;
        };
      }
  stmt_level (Stmt-F.Continue token) scope set =
      record {
        scope = scope;
        flow = record {
          behind = None;
          breaks = None;
          continues = set;
          unset =
              None;
        };
      }
  stmt_level (Stmt-F.Return e) scope set = fall_through scope None (unset_in scope set e)
  stmt_level (Stmt-F.Block inner) scope set =
      record { scope = scope; flow = leave (length scope) (in_order inner scope set).flow }

  -- what comes of a statement
  abbrev pub stmt_flow : Stmt → Transfer
  stmt_flow = fold-Stmt Transfer stmt_level
