-- Each form of statement, by its first token, and as it is read part by part.
use Rattle.std.proofs.Common.{◌≡◌, ℕ, ◌+◌, ◌-◌, ◌≤◌, ◌<◌, max, Option, Some, None, Result, IfOk, List, length, subst, refl, sym, ◌∙◌, ap, arith}
use Rattle.c_lex.specs.declared.token.Token.{Token}
use Rattle.c_lex.specs.declared.token.TokenKind.{TokenKind}
use Rattle.c_lex.specs.declared.token.TokenKind.TheVariants.{Name, Word, Mark}
use Rattle.c_lex.specs.declared.token.Keyword.TheVariants as word
use Rattle.c_lex.specs.declared.token.Mark.TheVariants as mark
use Rattle.c_ast.specs.declared.expr.Expr.{Expr}
use Rattle.c_ast.specs.declared.stmt.Stmt.{Stmt}
use Rattle.c_ast.specs.declared.stmt.Stmt.TheVariants.{Empty, If, While, DoWhile, For, Break, Continue, Return, Block}
use Rattle.c_ast.specs.Height.{of_option, expr_height, stmt_height}
use Rattle.c_ast.proofs.Equations.{height-Return}
use Rattle.c_syntax.specs.declared.tree.Head.{Head}
use Rattle.rx_plain.specs.declared.no_memory.NoMemory.{NoMemory}
use Rattle.c_syntax.specs.declared.read.Span.{Span}
use Rattle.c_syntax.specs.Grammar.{kind_at, UpTo, Test}
use Rattle.c_syntax.specs.Statements.{step, changing_of, Change, ForHead, Statement, nothing, block, changes, if_alone, if_else, while_loop, do_loop, for_loop, breaks, continues, returns, BlockItems}
use Rattle.c_syntax.specs.Heights.{list_height, head_height}
use Rattle.c_syntax.specs.Readers.{IsThat, Gives, IsNoHigher}
use Rattle.c_syntax.specs.StmtReaders.{IsSimple, Jumps}
use Rattle.c_ast.proofs.StmtEquations.{height-Empty, height-alone, height-else, height-While, height-DoWhile, height-For, height-Break, height-Continue, height-Block}
use Rattle.c_syntax.proofs.Lookahead.{kind_within}
use Rattle.c_syntax.proofs.Building.{Built, renamed, renamed_ok}
use Rattle.c_syntax.proofs.ChangeLemmas.{unchanging, Changed, changed_value, changed_update, changed_after, changed_before, changed_of}

-- a block, by its items
pub record Filled (ts : List Token) (i j : ℕ) (s : Stmt) : Type 0 where
  pub inside : List Stmt
  pub inner : BlockItems ts (i + 1) j inside
  pub is : s ≡ Block inside

-- how an `if` ends after its first statement
pub data Way (ts : List Token) (i j : ℕ) (e : Expr) (t s : Stmt) : Type 0 where
  way_alone : (kind_at ts i ≡ Some (Word word.Else) → ⊥) → i ≡ j → s ≡ If e t None →
      Way ts i j e t s
  way_else : (o : Stmt) → kind_at ts i ≡ Some (Word word.Else) → Statement ts (i + 1) j o → s ≡
      If e t (Some o) → Way ts i j e t s

-- an `if`, by its parts
pub record Branching (ts : List Token) (i j : ℕ) (s : Stmt) : Type 0 where
  pub middle : ℕ
  pub test : Expr
  pub tests : Test ts (i + 1) middle test
  pub last : ℕ
  pub taken : Stmt
  pub runs : Statement ts middle last taken
  pub way : Way ts last j test taken s

-- a `while` loop, by its parts
pub record Looping (ts : List Token) (i j : ℕ) (s : Stmt) : Type 0 where
  pub middle : ℕ
  pub test : Expr
  pub tests : Test ts (i + 1) middle test
  pub body : Stmt
  pub runs : Statement ts middle j body
  pub is : s ≡ While test body

-- a `do` loop, by its parts
pub record Doing (ts : List Token) (i j : ℕ) (s : Stmt) : Type 0 where
  pub middle : ℕ
  pub body : Stmt
  pub runs : Statement ts (i + 1) middle body
  pub again : kind_at ts middle ≡ Some (Word word.While)
  pub last : ℕ
  pub test : Expr
  pub tests : Test ts (middle + 1) last test
  pub marked : kind_at ts last ≡ Some (Mark mark.Semicolon)
  pub behind : j ≡ last + 1
  pub is : s ≡ DoWhile body test

-- a `for` loop, by its parts
pub record Counting (ts : List Token) (i j : ℕ) (s : Stmt) : Type 0 where
  pub middle : ℕ
  pub head : Head
  pub heads : ForHead ts (i + 1) middle head
  pub body : Stmt
  pub runs : Statement ts middle j body
  pub is : s ≡ For head.first head.test head.change body

-- a statement that is its keyword and a semicolon
pub record Jumping (ts : List Token) (i : ℕ) (value : Stmt) (j : ℕ) (s : Stmt) : Type 0 where
  pub marked : kind_at ts (i + 1) ≡ Some (Mark mark.Semicolon)
  pub behind : j ≡ i + 2
  pub is : s ≡ value

-- a `return`, by its parts
pub record Returning (ts : List Token) (i j : ℕ) (s : Stmt) : Type 0 where
  pub value : Expr
  pub reads : UpTo mark.Semicolon ts (i + 1) j value
  pub is : s ≡ Return value

-- what a statement can be whose first token is of that kind, where it is no change
abbrev pub Form : TokenKind → List Token → ℕ → ℕ → Stmt → Type 0
Form (Mark mark.Semicolon) ts i j s = (j ≡ i + 1) × (s ≡ Empty)
Form (Mark mark.LeftBrace) ts i j s = Filled ts i j s
Form (Word word.If) ts i j s = Branching ts i j s
Form (Word word.While) ts i j s = Looping ts i j s
Form (Word word.Do) ts i j s = Doing ts i j s
Form (Word word.For) ts i j s = Counting ts i j s
Form (Word word.Break) ts i j s = Jumping ts i (Break i) j s
Form (Word word.Continue) ts i j s = Jumping ts i (Continue i) j s
Form (Word word.Return) ts i j s = Returning ts i j s
Form _ ts i j s = ⊥

-- a change begins with a name, `++` or `--`
pub changed_start : (ts : List Token) (i j : ℕ) (s : Stmt) (k : TokenKind) → kind_at ts i ≡ Some k →
    changing_of (Some k) ≡ None → (k ≡ Name → ⊥) → Changed mark.Semicolon ts i j s → ⊥
changed_start ts i j s k g no_step no_name (changed_value e h a u q) =
    let same : k ≡ Name = cc in no_name same
changed_start ts i j s k g no_step no_name (changed_update op e h a u q) =
    let same : k ≡ Name = cc in no_name same
changed_start ts i j s k g no_step no_name (changed_after op h a c p q) =
    let same : k ≡ Name = cc in no_name same
changed_start ts i j s k g no_step no_name (changed_before op a h c p q) =
    unchanging ts i k (step op) g no_step a

-- the form of another kind, where two tokens are one
same_form : (ts : List Token) (i j : ℕ) (s : Stmt) (here k : TokenKind) → kind_at ts i ≡ Some here →
    kind_at ts i ≡ Some k → Form here ts i j s → Form k ts i j s
same_form ts i j s here k h g f =
    let same : here ≡ k = cc in subst (λ (x : TokenKind). Form x ts i j s) same f

-- the form of a statement, by its first token
pub form_of : (ts : List Token) (i j : ℕ) (s : Stmt) (k : TokenKind) → kind_at ts i ≡ Some k →
    changing_of (Some k) ≡ None → (k ≡ Name → ⊥) → Statement ts i j s → Form k ts i j s
form_of ts i j s k g no_step no_name (nothing _ _ h) =
    same_form ts i (i + 1) Empty (Mark mark.Semicolon) k h g (refl, refl)
form_of ts i j s k g no_step no_name (block _ _ l ss h r) =
    same_form ts i l (Block ss) (Mark mark.LeftBrace) k h g
    (record { inside = ss; inner = r; is = refl })
form_of ts i j s k g no_step no_name (changes _ _ l t c) =
    absurd (changed_start ts i l t k g no_step no_name (changed_of mark.Semicolon ts i l t c))
form_of ts i j s k g no_step no_name (if_alone _ _ m l e t h c r o) =
    same_form ts i l (If e t None) (Word word.If) k h g
    (record {
      middle = m;
      test = e;
      tests = c;
      last = l;
      taken = t;
      runs = r;
      way =
          way_alone o refl refl;
    })
form_of ts i j s k g no_step no_name (if_else _ _ m n l e t u h c r o v) =
    same_form ts i l (If e t (Some u)) (Word word.If) k h g
    (record {
      middle = m;
      test = e;
      tests = c;
      last = n;
      taken = t;
      runs = r;
      way =
          way_else u o v refl;
    })
form_of ts i j s k g no_step no_name (while_loop _ _ m l e t h c r) =
    same_form ts i l (While e t) (Word word.While) k h g
    (record { middle = m; test = e; tests = c; body = t; runs = r; is = refl })
form_of ts i j s k g no_step no_name (do_loop _ _ m l t e h r w c z) =
    same_form ts i (l + 1) (DoWhile t e) (Word word.Do) k h g
    (record {
      middle = m;
      body = t;
      runs = r;
      again = w;
      last = l;
      test = e;
      tests = c;
      marked = z;
      behind = refl;
      is = refl;
    })
form_of ts i j s k g no_step no_name (for_loop _ _ m l d t h c r) =
    same_form ts i l (For d.first d.test d.change t) (Word word.For) k h g
    (record { middle = m; head = d; heads = c; body = t; runs = r; is = refl })
form_of ts i j s k g no_step no_name (breaks _ _ h c) =
    same_form ts i (i + 2) (Break i) (Word word.Break) k h g
    (record { marked = c; behind = refl; is = refl })
form_of ts i j s k g no_step no_name (continues _ _ h c) =
    same_form ts i (i + 2) (Continue i) (Word word.Continue) k h g
    (record { marked = c; behind = refl; is = refl })
form_of ts i j s k g no_step no_name (returns _ _ l e h u) =
    same_form ts i l (Return e) (Word word.Return) k h g
    (record { value = e; reads = u; is = refl })

-- a statement that begins with none of the other first tokens is a change
pub change_of : (ts : List Token) (i j : ℕ) (s : Stmt) → IsSimple ts i →
    (kind_at ts i ≡ Some (Mark mark.Semicolon) → ⊥) → (kind_at ts i ≡ Some (Word word.Break) → ⊥)
    → (kind_at ts i ≡ Some (Word word.Continue) → ⊥) →
    (kind_at ts i ≡ Some (Word word.Return) → ⊥) → Statement ts i j s →
    Change mark.Semicolon ts i j s
change_of ts i j s simple a b c d (nothing _ _ h) = absurd (a h)
change_of ts i j s simple a b c d (block _ _ l ss h r) = absurd (simple.no_block h)
change_of ts i j s simple a b c d (changes _ _ _ _ x) = x
change_of ts i j s simple a b c d (if_alone _ _ m l e t h g r o) = absurd (simple.no_if h)
change_of ts i j s simple a b c d (if_else _ _ m n l e t u h g r o v) = absurd (simple.no_if h)
change_of ts i j s simple a b c d (while_loop _ _ m l e t h g r) = absurd (simple.no_while h)
change_of ts i j s simple a b c d (do_loop _ _ m l t e h r w g z) = absurd (simple.no_do h)
change_of ts i j s simple a b c d (for_loop _ _ m l f t h g r) = absurd (simple.no_for h)
change_of ts i j s simple a b c d (breaks _ _ h g) = absurd (b h)
change_of ts i j s simple a b c d (continues _ _ h g) = absurd (c h)
change_of ts i j s simple a b c d (returns _ _ l e h u) = absurd (d h)

module _ (ts : List Token) (at room : ℕ) (some : 0 < room) where
  -- the empty statement
  pub reads_nothing : (y : Span Stmt) → kind_at ts at ≡ Some (Mark mark.Semicolon) → y.value ≡
      Empty → y.end ≡ at + 1 → Gives (IsNoHigher stmt_height room (Statement ts at)) at (length ts)
      (Some y)
  reads_nothing y h yv ye =
      let within : at < length ts = kind_within ts at (Mark mark.Semicolon) h in
      let high : stmt_height Empty ≡ 1 = height-Empty in
      record {
        found =
            record {
              spelled = rw (ye, yv) (nothing ts at h, omega arith);
              further = omega arith;
              within = omega arith;
            };
        only = λ j s p.
            let f : (j ≡ at + 1) × (s ≡ Empty) =
            form_of ts at j s (Mark mark.Semicolon) h refl (λ q. cc) p.0 in
            (ye ∙ sym f.0, yv ∙ sym f.1);
      }

  -- a keyword and a semicolon
  jumps : (value : Stmt) (r : Option (Span Stmt))
      → Jumps ts at value r
      → Gives (Jumping ts at value) at (length ts) r
  jumps value None h = record { found = tt; only = λ j s p. h p.marked }
  jumps value (Some x) h =
      let within : at + 1 < length ts = kind_within ts (at + 1) (Mark mark.Semicolon) h.0 in
      let there : x.end ≡ at + 2 = h.1.1 in
      record {
        found =
            record {
              spelled = record { marked = h.0; behind = h.1.1; is = h.1.0 };
              further =
                  omega arith;
              within = omega arith;
            };
        only = λ j s p. (h.1.1 ∙ sym p.behind, h.1.0 ∙ sym p.is);
      }

  -- a `break`
  pub reads_break : (r : Option (Span Stmt)) → kind_at ts at ≡ Some (Word word.Break)
      → Jumps ts at (Break at) r
      → Gives (IsNoHigher stmt_height room (Statement ts at)) at (length ts) r
  reads_break r h g =
      renamed (Jumping ts at (Break at)) (IsNoHigher stmt_height room (Statement ts at)) at at
      (length ts)
      r (omega arith)
      (λ j s p.
      let high : stmt_height (Break at) ≡ 1 = height-Break at in
      let same : stmt_height s ≡ stmt_height (Break at) = ap stmt_height p.is in
      (rw (p.behind, p.is) (breaks ts at h p.marked), omega arith))
      (λ j s q. form_of ts at j s (Word word.Break) h refl (λ z. cc) q.0)
      (jumps (Break at) r g)

  -- a `continue`
  pub reads_continue : (r : Option (Span Stmt)) → kind_at ts at ≡ Some (Word word.Continue)
      → Jumps ts at (Continue at) r
      → Gives (IsNoHigher stmt_height room (Statement ts at)) at (length ts) r
  reads_continue r h g =
      renamed (Jumping ts at (Continue at)) (IsNoHigher stmt_height room (Statement ts at)) at at
      (length ts) r (omega arith)
      (λ j s p.
      let high : stmt_height (Continue at) ≡ 1 = height-Continue at in
      let same : stmt_height s ≡ stmt_height (Continue at) = ap stmt_height p.is in
      (rw (p.behind, p.is) (continues ts at h p.marked), omega arith))
      (λ j s q. form_of ts at j s (Word word.Continue) h refl (λ z. cc) q.0)
      (jumps (Continue at) r g)

  -- a `return`, built of its value
  pub builds_return : kind_at ts at ≡ Some (Word word.Return) →
      Built Return (IsNoHigher expr_height (room - 1) (UpTo mark.Semicolon ts (at + 1)))
      (IsNoHigher stmt_height room (Statement ts at))
  builds_return h = record {
    make = λ j e p.
        let high : stmt_height (Return e) ≡ 1 + expr_height e = height-Return e in
        let fits : expr_height e ≤ room - 1 = p.1 in
        (returns ts at j e h p.0, omega arith);
    part = λ j s q.
        let f : Returning ts at j s = form_of ts at j s (Word word.Return) h refl (λ z. cc) q.0 in
        let high : stmt_height (Return f.value) ≡ 1 + expr_height f.value = height-Return f.value in
        let same : stmt_height s ≡ stmt_height (Return f.value) = ap stmt_height f.is in
        let fits : stmt_height s ≤ room = q.1 in
        (f.value, ((f.reads, omega arith), f.is));
  }

  -- a change
  pub reads_change : (r : Result (Option (Span Stmt)) NoMemory) → IsSimple ts at →
      (kind_at ts at ≡ Some (Mark mark.Semicolon) → ⊥) →
      (kind_at ts at ≡ Some (Word word.Break) → ⊥)
      → (kind_at ts at ≡ Some (Word word.Continue) → ⊥) →
      (kind_at ts at ≡ Some (Word word.Return) → ⊥)
      → IfOk r (Gives (IsNoHigher stmt_height room (Change mark.Semicolon ts at)) at (length ts)) →
      IfOk r (Gives (IsNoHigher stmt_height room (Statement ts at)) at (length ts))
  reads_change r simple a b c d =
      renamed_ok (IsNoHigher stmt_height room (Change mark.Semicolon ts at))
      (IsNoHigher stmt_height room (Statement ts at)) at at (length ts) r (omega arith)
      (λ j s p. (changes ts at j s p.0, p.1))
      (λ j s q. (change_of ts at j s simple a b c d q.0, q.1))

  -- a block, built of what is in it
  pub builds_block : kind_at ts at ≡ Some (Mark mark.LeftBrace) →
      Built Block (IsNoHigher list_height (room - 1) (BlockItems ts (at + 1)))
      (IsNoHigher stmt_height room (Statement ts at))
  builds_block h = record {
    make = λ j ss p.
        let high : stmt_height (Block ss) ≡ 1 + list_height ss = height-Block ss in
        let fits : list_height ss ≤ room - 1 = p.1 in
        (block ts at j ss h p.0, omega arith);
    part = λ j s q.
        let f : Filled ts at j s = form_of ts at j s (Mark mark.LeftBrace) h refl (λ z. cc) q.0 in
        let high : stmt_height (Block f.inside) ≡ 1 + list_height f.inside =
        height-Block f.inside in
        let same : stmt_height s ≡ stmt_height (Block f.inside) = ap stmt_height f.is in
        let fits : stmt_height s ≤ room = q.1 in
        (f.inside, ((f.inner, omega arith), f.is));
  }

  module _ (h : kind_at ts at ≡ Some (Word word.While)) where
    looping : (j : ℕ) (s : Stmt) → Statement ts at j s → Looping ts at j s
    looping j s w = form_of ts at j s (Word word.While) h refl (λ z. cc) w

    loop_fits : (j : ℕ) (s : Stmt) (f : Looping ts at j s) → stmt_height s ≤ room →
        (expr_height f.test ≤ room - 1) × (stmt_height f.body ≤ room - 1)
    loop_fits j s f fits =
        let high : stmt_height (While f.test f.body) ≡ 1 +
        max (expr_height f.test) (stmt_height f.body) = height-While f.test f.body in
        let same : stmt_height s ≡ stmt_height (While f.test f.body) = ap stmt_height f.is in
        (omega arith, omega arith)

    -- a loop without a test is none
    pub while_testless : Gives (IsNoHigher expr_height (room - 1) (Test ts (at + 1))) (at + 1)
        (length ts)
        None → Gives (IsNoHigher stmt_height room (Statement ts at)) at (length ts) None
    while_testless r =
        record {
          found = tt;
          only = λ j s p. let f = looping j s p.0 in let fit =
              loop_fits j s f p.1 in r.only f.middle f.test (f.tests, fit.0);
        }

    -- a loop after its test, built of its body
    pub builds_while : (x : Span Expr) → Gives
        (IsNoHigher expr_height (room - 1) (Test ts (at + 1)))
        (at + 1) (length ts) (Some x)
        → Built (While x.value) (IsNoHigher stmt_height (room - 1) (Statement ts x.end))
        (IsNoHigher stmt_height room (Statement ts at))
    builds_while x r = record {
      make = λ j b p.
          let high : stmt_height (While x.value b) ≡ 1 + max (expr_height x.value) (stmt_height b) =
          height-While x.value b in
          let low : expr_height x.value ≤ room - 1 = r.found.spelled.1 in
          let fits : stmt_height b ≤ room - 1 = p.1 in
          (while_loop ts at x.end j x.value b h r.found.spelled.0 p.0, omega arith);
      part = λ j s q.
          let f = looping j s q.0 in
          let fit = loop_fits j s f q.1 in
          let is : (x.end ≡ f.middle) × (x.value ≡ f.test) =
          r.only f.middle f.test (f.tests, fit.0) in
          let there : Statement ts x.end j f.body = rw is.0 f.runs in
          (f.body, ((there, fit.1), f.is ∙ ap (λ z. While z f.body) (sym is.1)));
    }

  module _ (h : kind_at ts at ≡ Some (Word word.For)) where
    counting : (j : ℕ) (s : Stmt) → Statement ts at j s → Counting ts at j s
    counting j s w = form_of ts at j s (Word word.For) h refl (λ z. cc) w

    count_fits : (j : ℕ) (s : Stmt) (f : Counting ts at j s) → stmt_height s ≤ room →
        (head_height f.head ≤ room - 1) × (stmt_height f.body ≤ room - 1)
    count_fits j s f fits =
        let d = f.head in
        let high : stmt_height (For f.head.first f.head.test f.head.change f.body)
        ≡ 1 + max (max (max (list_height f.head.first) (of_option expr_height f.head.test))
        (stmt_height f.body)) (of_option stmt_height f.head.change) =
        height-For f.head.first f.head.test f.head.change f.body in
        let same : stmt_height s ≡ stmt_height (For f.head.first f.head.test f.head.change f.body) =
        ap stmt_height f.is in
        (omega arith, omega arith)

    -- a loop without a head is none
    pub for_headless : Gives (IsNoHigher head_height (room - 1) (ForHead ts (at + 1))) (at + 1)
        (length ts)
        None → Gives (IsNoHigher stmt_height room (Statement ts at)) at (length ts) None
    for_headless r =
        record {
          found = tt;
          only = λ j s p. let f = counting j s p.0 in let fit =
              count_fits j s f p.1 in r.only f.middle f.head (f.heads, fit.0);
        }

    -- a loop after its head, built of its body
    pub builds_for : (x : Span Head) → Gives (IsNoHigher head_height (room - 1)
        (ForHead ts (at + 1)))
        (at + 1) (length ts) (Some x)
        → Built (For x.value.first x.value.test x.value.change)
        (IsNoHigher stmt_height (room - 1) (Statement ts x.end))
        (IsNoHigher stmt_height room (Statement ts at))
    builds_for x r = record {
      make = λ j b p.
          let high : stmt_height (For x.value.first x.value.test x.value.change b)
          ≡ 1 + max (max (max (list_height x.value.first) (of_option expr_height x.value.test))
          (stmt_height b)) (of_option stmt_height x.value.change) =
          height-For x.value.first x.value.test x.value.change b in
          let low : head_height x.value ≤ room - 1 = r.found.spelled.1 in
          let fits : stmt_height b ≤ room - 1 = p.1 in
          (for_loop ts at x.end j x.value b h r.found.spelled.0 p.0, omega arith);
      part = λ j s q.
          let f = counting j s q.0 in
          let fit = count_fits j s f q.1 in
          let is : (x.end ≡ f.middle) × (x.value ≡ f.head) =
          r.only f.middle f.head (f.heads, fit.0) in
          let there : Statement ts x.end j f.body = rw is.0 f.runs in (
            f.body,
            (
              (there, fit.1),
              f.is ∙ ap (λ (z : Head). For z.first z.test z.change f.body)
                  (sym is.1),
            ),
          );
    }

  module _ (h : kind_at ts at ≡ Some (Word word.Do)) where
    doing : (j : ℕ) (s : Stmt) → Statement ts at j s → Doing ts at j s
    doing j s w = form_of ts at j s (Word word.Do) h refl (λ z. cc) w

    do_fits : (j : ℕ) (s : Stmt) (f : Doing ts at j s) → stmt_height s ≤ room →
        (stmt_height f.body ≤ room - 1) × (expr_height f.test ≤ room - 1)
    do_fits j s f fits =
        let high : stmt_height (DoWhile f.body f.test) ≡ 1 +
        max (stmt_height f.body) (expr_height f.test) = height-DoWhile f.body f.test in
        let same : stmt_height s ≡ stmt_height (DoWhile f.body f.test) = ap stmt_height f.is in
        (omega arith, omega arith)

    -- a loop without a body is none
    pub do_bodiless : Gives (IsNoHigher stmt_height (room - 1) (Statement ts (at + 1))) (at + 1)
        (length ts) None → Gives (IsNoHigher stmt_height room (Statement ts at)) at (length ts) None
    do_bodiless r =
        record {
          found = tt;
          only = λ j s p. let f = doing j s p.0 in let fit = do_fits j s f p.1 in
              r.only f.middle f.body (f.runs, fit.0);
        }

    module _ (x : Span Stmt) (r : Gives (IsNoHigher stmt_height (room - 1) (Statement ts (at + 1)))
        (at + 1) (length ts) (Some x)) where
      body_is : (j : ℕ) (s : Stmt) (f : Doing ts at j s) → stmt_height s ≤ room →
          (x.end ≡ f.middle) × (x.value ≡ f.body)
      body_is j s f fits = let fit = do_fits j s f fits in r.only f.middle f.body (f.runs, fit.0)

      -- no `while` after the body
      pub do_whileless : (kind_at ts x.end ≡ Some (Word word.While) → ⊥) →
          Gives (IsNoHigher stmt_height room (Statement ts at)) at (length ts) None
      do_whileless no_while =
          record {
            found = tt;
            only = λ j s p. let f = doing j s p.0 in let is =
                body_is j s f p.1 in no_while (rw is.0 f.again);
          }

      -- no test after it
      pub do_testless : Gives (IsNoHigher expr_height (room - 1) (Test ts (x.end + 1))) (x.end + 1)
          (length ts) None → Gives (IsNoHigher stmt_height room (Statement ts at)) at (length ts)
          None
      do_testless t = record {
        found = tt;
        only = λ j s p.
            let f = doing j s p.0 in
            let fit = do_fits j s f p.1 in
            let is = body_is j s f p.1 in
            let there : Test ts (x.end + 1) f.last f.test = rw is.0 f.tests in
            t.only f.last f.test (there, fit.1);
      }

      module _ (y : Span Expr) (t : Gives (IsNoHigher expr_height (room - 1) (Test ts (x.end + 1)))
          (x.end + 1) (length ts) (Some y)) where
        test_is : (j : ℕ) (s : Stmt) (f : Doing ts at j s) → stmt_height s ≤ room →
            (y.end ≡ f.last) × (y.value ≡ f.test)
        test_is j s f fits =
            let fit = do_fits j s f fits in
            let is = body_is j s f fits in
            let there : Test ts (x.end + 1) f.last f.test = rw is.0 f.tests in
            t.only f.last f.test (there, fit.1)

        -- no semicolon after the test
        pub do_endless : (kind_at ts y.end ≡ Some (Mark mark.Semicolon) → ⊥) →
            Gives (IsNoHigher stmt_height room (Statement ts at)) at (length ts) None
        do_endless no_semicolon =
            record {
              found = tt;
              only = λ j s p. let f = doing j s p.0 in let is =
                  test_is j s f p.1 in no_semicolon (rw is.0 f.marked);
            }

        -- a `do` loop
        pub reads_do : (z : Span Stmt) → kind_at ts x.end ≡ Some (Word word.While) →
            kind_at ts y.end ≡ Some (Mark mark.Semicolon) → z.value ≡ DoWhile x.value y.value →
            z.end ≡ y.end + 1
            → Gives (IsNoHigher stmt_height room (Statement ts at)) at (length ts) (Some z)
        reads_do z w c zv ze =
            let high : stmt_height (DoWhile x.value y.value) ≡ 1 +
            max (stmt_height x.value) (expr_height y.value) = height-DoWhile x.value y.value in
            let low1 : stmt_height x.value ≤ room - 1 = r.found.spelled.1 in
            let low2 : expr_height y.value ≤ room - 1 = t.found.spelled.1 in
            let f1 : at + 1 < x.end = r.found.further in
            let f2 : x.end + 1 < y.end = t.found.further in
            let within : y.end < length ts = kind_within ts y.end (Mark mark.Semicolon) c in
            record {
              found =
                  record {
                    spelled = rw (ze, zv) (
                      do_loop ts at x.end y.end x.value y.value h r.found.spelled.0 w
                          t.found.spelled.0
                          c,
                      omega arith,
                    );
                    further = omega arith;
                    within = omega arith;
                  };
              only = λ j s p.
                  let f = doing j s p.0 in
                  let is1 = body_is j s f p.1 in
                  let is2 = test_is j s f p.1 in
                  let tree : DoWhile x.value y.value ≡ DoWhile f.body f.test =
                  rw (is1.1, is2.1) refl in
                  (ze ∙ (ap (λ k. k + 1) is2.0 ∙ sym f.behind), zv ∙ (tree ∙ sym f.is));
            }

  module _ (h : kind_at ts at ≡ Some (Word word.If)) where
    branching : (j : ℕ) (s : Stmt) → Statement ts at j s → Branching ts at j s
    branching j s w = form_of ts at j s (Word word.If) h refl (λ z. cc) w

    way_fits : (i j : ℕ) (e : Expr) (t s : Stmt) → Way ts i j e t s → stmt_height s ≤ room →
        (expr_height e ≤ room - 1) × (stmt_height t ≤ room - 1)
    way_fits i j e t s (way_alone o p q) fits =
        let high : stmt_height (If e t None) ≡ 1 + max (expr_height e) (stmt_height t) =
        height-alone e t in
        let same : stmt_height s ≡ stmt_height (If e t None) = ap stmt_height q in
        (omega arith, omega arith)
    way_fits i j e t s (way_else u o r q) fits =
        let high : stmt_height (If e t (Some u)) ≡ 1 +
        max (max (expr_height e) (stmt_height t)) (stmt_height u) = height-else e t u in
        let same : stmt_height s ≡ stmt_height (If e t (Some u)) = ap stmt_height q in
        (omega arith, omega arith)

    branch_fits : (j : ℕ) (s : Stmt) (f : Branching ts at j s) → stmt_height s ≤ room →
        (expr_height f.test ≤ room - 1) × (stmt_height f.taken ≤ room - 1)
    branch_fits j s f fits = way_fits f.last j f.test f.taken s f.way fits

    -- an `if` without a test is none
    pub if_testless : Gives (IsNoHigher expr_height (room - 1) (Test ts (at + 1))) (at + 1)
        (length ts)
        None → Gives (IsNoHigher stmt_height room (Statement ts at)) at (length ts) None
    if_testless r =
        record {
          found = tt;
          only = λ j s p. let f = branching j s p.0 in let fit =
              branch_fits j s f p.1 in r.only f.middle f.test (f.tests, fit.0);
        }

    module _ (x : Span Expr) (r : Gives (IsNoHigher expr_height (room - 1) (Test ts (at + 1)))
        (at + 1)
        (length ts) (Some x)) where
      if_test_is : (j : ℕ) (s : Stmt) (f : Branching ts at j s) → stmt_height s ≤ room →
          (x.end ≡ f.middle) × (x.value ≡ f.test)
      if_test_is j s f fits =
          let fit = branch_fits j s f fits in r.only f.middle f.test (f.tests, fit.0)

      -- an `if` without a statement is none
      pub if_thenless : Gives (IsNoHigher stmt_height (room - 1) (Statement ts x.end)) x.end
          (length ts)
          None → Gives (IsNoHigher stmt_height room (Statement ts at)) at (length ts) None
      if_thenless t = record {
        found = tt;
        only = λ j s p.
            let f = branching j s p.0 in
            let fit = branch_fits j s f p.1 in
            let is = if_test_is j s f p.1 in
            let there : Statement ts x.end f.last f.taken = rw is.0 f.runs in
            t.only f.last f.taken (there, fit.1);
      }

      module _ (y : Span Stmt) (t : Gives (IsNoHigher stmt_height (room - 1) (Statement ts x.end))
          x.end
          (length ts) (Some y)) where
        then_is : (j : ℕ) (s : Stmt) (f : Branching ts at j s) → stmt_height s ≤ room →
            (y.end ≡ f.last) × (y.value ≡ f.taken)
        then_is j s f fits =
            let fit = branch_fits j s f fits in
            let is = if_test_is j s f fits in
            let there : Statement ts x.end f.last f.taken = rw is.0 f.runs in
            t.only f.last f.taken (there, fit.1)

        way_here : (j : ℕ) (s : Stmt) → Statement ts at j s → stmt_height s ≤ room →
            Way ts y.end j x.value y.value s
        way_here j s w fits =
            let f = branching j s w in
            let is1 = if_test_is j s f fits in
            let is2 = then_is j s f fits in
            rw (is2.0, is1.1, is2.1) f.way

        alone_only : (z : Span Stmt) → (kind_at ts y.end ≡ Some (Word word.Else) → ⊥) → z.value ≡
            If x.value y.value None → z.end ≡ y.end → (j : ℕ) (s : Stmt)
            → Way ts y.end j x.value y.value s → IsThat (Some z) j s
        alone_only z no_else zv ze j s (way_alone o p q) = (ze ∙ p, zv ∙ sym q)
        alone_only z no_else zv ze j s (way_else u o v q) = absurd (no_else o)

        -- an `if` without an `else`
        pub reads_alone : (z : Span Stmt) → (kind_at ts y.end ≡ Some (Word word.Else) → ⊥) →
            z.value ≡ If x.value y.value None → z.end ≡ y.end
            → Gives (IsNoHigher stmt_height room (Statement ts at)) at (length ts) (Some z)
        reads_alone z no_else zv ze =
            let high : stmt_height (If x.value y.value None) ≡ 1 +
            max (expr_height x.value) (stmt_height y.value) = height-alone x.value y.value in
            let low1 : expr_height x.value ≤ room - 1 = r.found.spelled.1 in
            let low2 : stmt_height y.value ≤ room - 1 = t.found.spelled.1 in
            let f1 : at + 1 < x.end = r.found.further in
            let f2 : x.end < y.end = t.found.further in
            let within : y.end ≤ length ts = t.found.within in
            record {
              found =
                  record {
                    spelled = rw (ze, zv) (
                      if_alone ts at x.end y.end x.value y.value h r.found.spelled.0
                          t.found.spelled.0
                          no_else,
                      omega arith,
                    );
                    further = omega arith;
                    within = omega arith;
                  };
              only = λ j s p. alone_only z no_else zv ze j s (way_here j s p.0 p.1);
            }

        other_of : kind_at ts y.end ≡ Some (Word word.Else) → (j : ℕ) (s : Stmt) →
            Way ts y.end j x.value y.value s → stmt_height s ≤ room
            → (u : Stmt) × ((Statement ts (y.end + 1) j u × (stmt_height u ≤ room - 1)) ×
            (s ≡ If x.value y.value (Some u)))
        other_of o j s (way_alone no_else p q) fits = absurd (no_else o)
        other_of o j s (way_else u g v q) fits =
            let high : stmt_height (If x.value y.value (Some u)) ≡ 1 +
            max (max (expr_height x.value) (stmt_height y.value)) (stmt_height u) =
            height-else x.value y.value u in
            let same : stmt_height s ≡ stmt_height (If x.value y.value (Some u)) =
            ap stmt_height q in
            (u, ((v, omega arith), q))

        -- an `if` after its `else`, built of the other statement
        pub builds_else : kind_at ts y.end ≡ Some (Word word.Else)
            → Built (λ (u : Stmt). If x.value y.value (Some u))
            (IsNoHigher stmt_height (room - 1) (Statement ts (y.end + 1)))
            (IsNoHigher stmt_height room (Statement ts at))
        builds_else o = record {
          make = λ j u p.
              let high : stmt_height (If x.value y.value (Some u)) ≡ 1 +
              max (max (expr_height x.value) (stmt_height y.value)) (stmt_height u) =
              height-else x.value y.value u in
              let low1 : expr_height x.value ≤ room - 1 = r.found.spelled.1 in
              let low2 : stmt_height y.value ≤ room - 1 = t.found.spelled.1 in
              let fits : stmt_height u ≤ room - 1 = p.1 in (
                if_else ts at x.end y.end j x.value y.value u h r.found.spelled.0 t.found.spelled.0
                    o
                    p.0,
                omega arith,
              );
          part = λ j s q. other_of o j s (way_here j s q.0 q.1) q.1;
        }
