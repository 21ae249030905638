-- The recogniser passes over each phrase of statements and programs: from its first token on it
-- does as from the phrase's end with the phrase no longer expected.
use Rattle.std.proofs.Common.{◌≡◌, ◌⊎◌, inl, inr, ℕ, ◌+◌, Option, Some, List, [], ◌∷◌, ◌++◌, refl, sym, ◌∙◌, ap}
use Rattle.rx_plain.proofs.Naturals.{three_more, two_more}
use Rattle.c_lex.specs.declared.token.Token.{Token}
use Rattle.c_lex.specs.declared.token.TokenKind.{TokenKind}
use Rattle.c_lex.specs.declared.token.TokenKind.TheVariants.{Name, Word, Mark}
use Rattle.c_lex.specs.declared.token.Keyword.TheVariants as word
use Rattle.c_lex.specs.declared.token.Mark.{Mark as TheMark}
use Rattle.c_lex.specs.declared.token.Mark.TheVariants as mark
use Rattle.c_ast.specs.declared.expr.BinOp.{BinOp}
use Rattle.c_ast.specs.declared.expr.Expr.{Expr}
use Rattle.c_ast.specs.declared.stmt.Stmt.{Stmt}
use Rattle.c_syntax.specs.declared.tree.Head.{Head}
use Rattle.c_syntax.specs.Grammar.{kind_at, Expression, UpTo, ended, Test}
use Rattle.c_syntax.specs.Statements.{changing_of, update, step, Change, by_value, by_update, by_step_after, by_step_before, IsParted, InitDeclarator, bare, valued, InitDeclarators, last_name, next_name, ForInit, no_start, start_change, start_names, ForTest, no_test, a_test, ForStep, no_change, a_change, ForHead, Statement, nothing, block, changes, if_alone, if_else, while_loop, do_loop, for_loop, breaks, continues, returns, BlockItem, statement, declaration, BlockItems, closed, item}
use Rattle.c_syntax.proofs.Passing.{whole_begins}
use Rattle.c_parse.specs.declared.symbol.Symbol.{Symbol}
use Rattle.c_parse.specs.declared.symbol.Symbol.TheVariants as symbol
use Rattle.c_parse.specs.Actions.{takes, skips, before, action, expression_action, called_action, statement_action, else_action, changed_action, items_action, for_test_action}
use Rattle.c_parse.proofs.Running.{fault_at, taken, skipped, handed}
use Rattle.c_parse.proofs.ExpressionPasses.{expression_stays, expression_ends}

-- a symbol that expands to another and more after it, at a token
pub handed_at : (ts : List Token) (s r : Symbol) (more ss : List Symbol) (i : ℕ) (kind : TokenKind)
    → kind_at ts i ≡ Some kind → action s (Some kind) ≡ before more (action r (Some kind))
    → (action r (Some kind) ≡ skips → ⊥) → fault_at ts (s ∷ ss) i ≡ fault_at ts (r ∷ (more ++ ss)) i
handed_at ts s r more ss i kind h same never =
    handed ts s r more ss i (λ z. never (ap (action r) (sym h) ∙ z))
    (ap (action s) h ∙ (same ∙ ap (λ k. before more (action r k)) (sym h)))

-- the marks `op=` have an expression after them
update_row : (kind : Option TokenKind) (op : BinOp) → changing_of kind ≡ Some (update op) →
    (k : TokenKind) × ((kind ≡ Some k) × (changed_action (Some k) ≡ takes (symbol.Expression ∷ [])))
update_row (Some (Mark mark.PlusAssign)) op h = (Mark mark.PlusAssign, (refl, refl))
update_row (Some (Mark mark.MinusAssign)) op h = (Mark mark.MinusAssign, (refl, refl))
update_row (Some (Mark mark.StarAssign)) op h = (Mark mark.StarAssign, (refl, refl))
update_row (Some (Mark mark.SlashAssign)) op h = (Mark mark.SlashAssign, (refl, refl))
update_row (Some (Mark mark.PercentAssign)) op h = (Mark mark.PercentAssign, (refl, refl))
update_row kind op h = absurd cc

-- a step is `++` or `--`
step_row : (kind : Option TokenKind) (op : BinOp) → changing_of kind ≡ Some (step op) →
    (kind ≡ Some (Mark mark.PlusPlus)) ⊎ (kind ≡ Some (Mark mark.MinusMinus))
step_row (Some (Mark mark.PlusPlus)) op h = inl refl
step_row (Some (Mark mark.MinusMinus)) op h = inr refl
step_row kind op h = absurd cc

-- a step after a name
step_passes : (ts : List Token) (i : ℕ) → (kind_at ts i ≡ Some (Mark mark.PlusPlus)) ⊎
    (kind_at ts i ≡ Some (Mark mark.MinusMinus)) → (ss : List Symbol) →
    fault_at ts (symbol.Changed ∷ ss) i ≡ fault_at ts ss (i + 1)
step_passes ts i (inl h) ss = taken ts symbol.Changed ss i (Mark mark.PlusPlus) [] h refl
step_passes ts i (inr h) ss = taken ts symbol.Changed ss i (Mark mark.MinusMinus) [] h refl

-- the mark at the end of a phrase, and the symbol that takes it
module _ (m : TheMark) (s : Symbol) (stops : called_action (Some (Mark m)) ≡ skips)
    (ends : action s (Some (Mark m)) ≡ takes []) where
  up_to_passes : (ts : List Token) (i j : ℕ) (e : Expr) → UpTo m ts i j e → (ss : List Symbol) →
      fault_at ts (symbol.Expression ∷ s ∷ ss) i ≡ fault_at ts ss j
  up_to_passes ts i j e (ended _ _ _ k _ x q) ss =
      expression_ends ts i k e (Mark m) x q stops (s ∷ ss) ∙ taken ts s ss k (Mark m) [] q ends

  -- a symbol that a change may begin
  module _ (r : Symbol) (named : action r (Some Name) ≡ takes (symbol.Changed ∷ s ∷ []))
      (up : action r (Some (Mark mark.PlusPlus)) ≡ takes (symbol.Name ∷ s ∷ []))
      (down : action r (Some (Mark mark.MinusMinus)) ≡ takes (symbol.Name ∷ s ∷ [])) where
    step_begins : (ts : List Token) (i : ℕ) → (kind_at ts i ≡ Some (Mark mark.PlusPlus)) ⊎
        (kind_at ts i ≡ Some (Mark mark.MinusMinus)) → (ss : List Symbol) → fault_at ts (r ∷ ss) i ≡
        fault_at ts (symbol.Name ∷ s ∷ ss) (i + 1)
    step_begins ts i (inl h) ss = taken ts r ss i (Mark mark.PlusPlus) (symbol.Name ∷ s ∷ []) h up
    step_begins ts i (inr h) ss =
        taken ts r ss i (Mark mark.MinusMinus) (symbol.Name ∷ s ∷ []) h down

    change_passes : (ts : List Token) (i j : ℕ) (c : Stmt) → Change m ts i j c →
        (ss : List Symbol) → fault_at ts (r ∷ ss) i ≡ fault_at ts ss j
    change_passes ts i j c (by_value _ _ _ _ e h a u) ss =
        taken ts r ss i Name (symbol.Changed ∷ s ∷ []) h named
        ∙ (taken ts symbol.Changed (s ∷ ss) (i + 1) (Mark mark.Assign) (symbol.Expression ∷ []) a
        refl
        ∙ (ap (fault_at ts (symbol.Expression ∷ s ∷ ss)) (two_more i) ∙
        up_to_passes ts (i + 2) j e u ss))
    change_passes ts i j c (by_update _ _ _ _ op e h a u) ss =
        let o = update_row (kind_at ts (i + 1)) op a in
        taken ts r ss i Name (symbol.Changed ∷ s ∷ []) h named
        ∙ (taken ts symbol.Changed (s ∷ ss) (i + 1) o.0 (symbol.Expression ∷ []) o.1.0 o.1.1
        ∙ (ap (fault_at ts (symbol.Expression ∷ s ∷ ss)) (two_more i) ∙
        up_to_passes ts (i + 2) j e u ss))
    change_passes ts i j c (by_step_after _ _ _ op h a q) ss =
        taken ts r ss i Name (symbol.Changed ∷ s ∷ []) h named
        ∙ (step_passes ts (i + 1) (step_row (kind_at ts (i + 1)) op a) (s ∷ ss)
        ∙ (ap (fault_at ts (s ∷ ss)) (two_more i) ∙
        (taken ts s ss (i + 2) (Mark m) [] q ends ∙ ap (fault_at ts ss) (three_more i))))
    change_passes ts i j c (by_step_before _ _ _ op a h q) ss =
        step_begins ts i (step_row (kind_at ts i) op a) ss
        ∙ (taken ts symbol.Name (s ∷ ss) (i + 1) Name [] h refl
        ∙ (ap (fault_at ts (s ∷ ss)) (two_more i) ∙
        (taken ts s ss (i + 2) (Mark m) [] q ends ∙ ap (fault_at ts ss) (three_more i))))

-- the declaration of one name, before a comma or a semicolon
parted_passes : (ts : List Token) (i : ℕ) → IsParted ts i → (ss : List Symbol) →
    fault_at ts (symbol.Declared ∷ ss) i ≡ fault_at ts (symbol.MoreDeclarators ∷ ss) i
parted_passes ts i (inl h) ss =
    handed_at ts symbol.Declared symbol.MoreDeclarators [] ss i (Mark mark.Comma) h refl
    (λ e. absurd cc)
parted_passes ts i (inr h) ss =
    handed_at ts symbol.Declared symbol.MoreDeclarators [] ss i (Mark mark.Semicolon) h refl
    (λ e. absurd cc)

value_passes : (ts : List Token) (i j : ℕ) (e : Expr) → Expression ts i j e → IsParted ts j →
    (ss : List Symbol) → fault_at ts (symbol.Expression ∷ ss) i ≡ fault_at ts ss j
value_passes ts i j e x (inl h) ss = expression_ends ts i j e (Mark mark.Comma) x h refl ss
value_passes ts i j e x (inr h) ss = expression_ends ts i j e (Mark mark.Semicolon) x h refl ss

declarator_passes : (ts : List Token) (i j : ℕ) (s : Stmt) → InitDeclarator ts i j s →
    (ss : List Symbol) → fault_at ts (symbol.Declarators ∷ ss) i ≡
    fault_at ts (symbol.MoreDeclarators ∷ ss) j
declarator_passes ts i j s (bare _ _ h p) ss =
    taken ts symbol.Declarators ss i Name (symbol.Declared ∷ []) h refl ∙
    parted_passes ts (i + 1) p ss
declarator_passes ts i j s (valued _ _ _ e h a x p) ss =
    taken ts symbol.Declarators ss i Name (symbol.Declared ∷ []) h refl
    ∙ (taken ts symbol.Declared ss (i + 1) (Mark mark.Assign)
    (symbol.Expression ∷ symbol.MoreDeclarators ∷ []) a refl
    ∙ (ap (fault_at ts (symbol.Expression ∷ symbol.MoreDeclarators ∷ ss)) (two_more i) ∙
    value_passes ts (i + 2) j e x p (symbol.MoreDeclarators ∷ ss)))

pub declarators_pass : (ts : List Token) (i j : ℕ) (xs : List Stmt) → InitDeclarators ts i j xs →
    (ss : List Symbol) → fault_at ts (symbol.Declarators ∷ ss) i ≡ fault_at ts ss j
declarators_pass ts i j xs (last_name _ _ k s d h) ss =
    declarator_passes ts i k s d ss ∙ taken ts symbol.MoreDeclarators ss k (Mark mark.Semicolon) []
    h refl
declarators_pass ts i j xs (next_name _ _ k _ s rest d h r) ss =
    declarator_passes ts i k s d ss ∙ (taken ts symbol.MoreDeclarators ss k (Mark mark.Comma)
    (symbol.Declarators ∷ []) h refl ∙ declarators_pass ts (k + 1) j rest r ss)

-- an expression in parentheses
pub test_passes : (ts : List Token) (i j : ℕ) (e : Expr) → Test ts i j e → (ss : List Symbol) →
    fault_at ts (symbol.LeftParen ∷ symbol.Expression ∷ symbol.RightParen ∷ ss) i ≡ fault_at ts ss j
test_passes ts i j e t ss =
    taken ts symbol.LeftParen (symbol.Expression ∷ symbol.RightParen ∷ ss) i (Mark mark.LeftParen)
    [] t.0 refl
    ∙ up_to_passes mark.RightParen symbol.RightParen refl refl ts (i + 1) j e t.1 ss

-- the head of a `for`
pub for_start_passes : (ts : List Token) (i j : ℕ) (xs : List Stmt) → ForInit ts i j xs →
    (ss : List Symbol) → fault_at ts (symbol.ForStart ∷ ss) i ≡ fault_at ts ss j
for_start_passes ts i j xs (no_start _ _ h) ss =
    taken ts symbol.ForStart ss i (Mark mark.Semicolon) [] h refl
for_start_passes ts i j xs (start_change _ _ _ s c) ss =
    change_passes mark.Semicolon symbol.Semicolon refl refl symbol.ForStart refl refl refl ts i j s
    c ss
for_start_passes ts i j xs (start_names _ _ _ _ d) ss =
    taken ts symbol.ForStart ss i (Word word.Int) (symbol.Declarators ∷ []) d.0 refl ∙
    declarators_pass ts (i + 1) j xs d.1 ss

-- the test of a `for` that is no semicolon is an expression before one
test_row : (k : Option TokenKind) → (k ≡ Some (Mark mark.Semicolon) → ⊥) → for_test_action k ≡
    before (symbol.Semicolon ∷ []) (expression_action k)
test_row (Some (Mark mark.Semicolon)) other = absurd (other refl)
test_row k other = refl

-- no semicolon begins an expression before one
up_to_opens : (ts : List Token) (i j : ℕ) (e : Expr) → UpTo mark.Semicolon ts i j e → kind_at ts i ≡
    Some (Mark mark.Semicolon) → ⊥
up_to_opens ts i j e (ended _ _ _ k _ x q) h =
    whole_begins mark.Semicolon refl (λ z. cc) ts i k e x h

pub for_test_passes : (ts : List Token) (i j : ℕ) (o : Option Expr) → ForTest ts i j o →
    (ss : List Symbol) → fault_at ts (symbol.ForTest ∷ ss) i ≡ fault_at ts ss j
for_test_passes ts i j o (no_test _ _ h) ss =
    taken ts symbol.ForTest ss i (Mark mark.Semicolon) [] h refl
for_test_passes ts i j o (a_test _ _ _ e u) ss =
    handed ts symbol.ForTest symbol.Expression (symbol.Semicolon ∷ []) ss i
    (expression_stays (kind_at ts i)) (test_row (kind_at ts i) (up_to_opens ts i j e u))
    ∙ up_to_passes mark.Semicolon symbol.Semicolon refl refl ts i j e u ss

pub for_change_passes : (ts : List Token) (i j : ℕ) (o : Option Stmt) → ForStep ts i j o →
    (ss : List Symbol) → fault_at ts (symbol.ForChange ∷ ss) i ≡ fault_at ts ss j
for_change_passes ts i j o (no_change _ _ h) ss =
    taken ts symbol.ForChange ss i (Mark mark.RightParen) [] h refl
for_change_passes ts i j o (a_change _ _ _ s c) ss =
    change_passes mark.RightParen symbol.RightParen refl refl symbol.ForChange refl refl refl ts i j
    s c ss

head_passes : (ts : List Token) (i j : ℕ) (h : Head) → ForHead ts i j h → (ss : List Symbol) →
    fault_at ts (symbol.LeftParen ∷ symbol.ForStart ∷ symbol.ForTest ∷ symbol.ForChange ∷ ss) i ≡
    fault_at ts ss j
head_passes ts i j h p ss =
    taken ts symbol.LeftParen (symbol.ForStart ∷ symbol.ForTest ∷ symbol.ForChange ∷ ss) i
    (Mark mark.LeftParen) [] p.opens refl
    ∙ (for_start_passes ts (i + 1) p.middle h.first p.starts
    (symbol.ForTest ∷ symbol.ForChange ∷ ss)
    ∙ (for_test_passes ts p.middle p.last h.test p.continues (symbol.ForChange ∷ ss) ∙
    for_change_passes ts p.last j h.change p.advances ss))

-- what begins a statement in a block
Opening : Option TokenKind → Type 0
Opening kind =
    (k : TokenKind) × ((kind ≡ Some k) × ((items_action (Some k) ≡
    before (symbol.Items ∷ []) (statement_action (Some k))) ×
    (statement_action (Some k) ≡ skips → ⊥)))

step_opens : (kind : Option TokenKind) → (kind ≡ Some (Mark mark.PlusPlus)) ⊎
    (kind ≡ Some (Mark mark.MinusMinus)) → Opening kind
unfolding Opening
step_opens kind (inl h) = (Mark mark.PlusPlus, (h, (refl, λ e. absurd cc)))
step_opens kind (inr h) = (Mark mark.MinusMinus, (h, (refl, λ e. absurd cc)))

change_opens : (m : TheMark) (ts : List Token) (i j : ℕ) (s : Stmt) → Change m ts i j s →
    Opening (kind_at ts i)
unfolding Opening
change_opens m ts i j s (by_value _ _ _ _ e h a u) = (Name, (h, (refl, λ z. absurd cc)))
change_opens m ts i j s (by_update _ _ _ _ op e h a u) = (Name, (h, (refl, λ z. absurd cc)))
change_opens m ts i j s (by_step_after _ _ _ op h a q) = (Name, (h, (refl, λ z. absurd cc)))
change_opens m ts i j s (by_step_before _ _ _ op a h q) =
    step_opens (kind_at ts i) (step_row (kind_at ts i) op a)

statement_opens : (ts : List Token) (i j : ℕ) (s : Stmt) → Statement ts i j s →
    Opening (kind_at ts i)
unfolding Opening
statement_opens ts i j s (nothing _ _ h) = (Mark mark.Semicolon, (h, (refl, λ z. absurd cc)))
statement_opens ts i j s (block _ _ _ xs h b) = (Mark mark.LeftBrace, (h, (refl, λ z. absurd cc)))
statement_opens ts i j s (changes _ _ _ _ c) = change_opens mark.Semicolon ts i j s c
statement_opens ts i j s (if_alone _ _ k _ e b h c d alone) =
    (Word word.If, (h, (refl, λ z. absurd cc)))
statement_opens ts i j s (if_else _ _ k l _ e b c h t d other f) =
    (Word word.If, (h, (refl, λ z. absurd cc)))
statement_opens ts i j s (while_loop _ _ k _ e b h c d) =
    (Word word.While, (h, (refl, λ z. absurd cc)))
statement_opens ts i j s (do_loop _ _ k l b e h d w c q) =
    (Word word.Do, (h, (refl, λ z. absurd cc)))
statement_opens ts i j s (for_loop _ _ k _ head b h c d) =
    (Word word.For, (h, (refl, λ z. absurd cc)))
statement_opens ts i j s (breaks _ _ h q) = (Word word.Break, (h, (refl, λ z. absurd cc)))
statement_opens ts i j s (continues _ _ h q) = (Word word.Continue, (h, (refl, λ z. absurd cc)))
statement_opens ts i j s (returns _ _ _ e h u) = (Word word.Return, (h, (refl, λ z. absurd cc)))

-- no `else`, no alternative
else_row : (kind : Option TokenKind) → (kind ≡ Some (Word word.Else) → ⊥) → else_action kind ≡ skips
else_row (Some (Word word.Else)) other = absurd (other refl)
else_row kind other = refl

-- `break` or `continue` with its semicolon
jump_passes : (ts : List Token) (i : ℕ) (k : TokenKind) → kind_at ts i ≡ Some k →
    statement_action (Some k) ≡ takes (symbol.Semicolon ∷ []) → kind_at ts (i + 1) ≡
    Some (Mark mark.Semicolon) → (ss : List Symbol)
    → fault_at ts (symbol.Statement ∷ ss) i ≡ fault_at ts ss (i + 2)
jump_passes ts i k h row q ss =
    taken ts symbol.Statement ss i k (symbol.Semicolon ∷ []) h row
    ∙ (taken ts symbol.Semicolon ss (i + 1) (Mark mark.Semicolon) [] q refl ∙
    ap (fault_at ts ss) (two_more i))

-- a statement is begun where a block goes on with one
begins_statement : (ts : List Token) (i : ℕ) → Opening (kind_at ts i) → (ss : List Symbol) →
    fault_at ts (symbol.Items ∷ ss) i ≡ fault_at ts (symbol.Statement ∷ symbol.Items ∷ ss) i
unfolding Opening
begins_statement ts i o ss =
    handed_at ts symbol.Items symbol.Statement (symbol.Items ∷ []) ss i o.0 o.1.0 o.1.1.0 o.1.1.1

mutual
  pub statement_passes : (ts : List Token) (i j : ℕ) (s : Stmt) → Statement ts i j s →
      (ss : List Symbol) → fault_at ts (symbol.Statement ∷ ss) i ≡ fault_at ts ss j
  statement_passes ts i j s (nothing _ _ h) ss =
      taken ts symbol.Statement ss i (Mark mark.Semicolon) [] h refl
  statement_passes ts i j s (block _ _ _ xs h b) ss =
      taken ts symbol.Statement ss i (Mark mark.LeftBrace) (symbol.Items ∷ []) h refl ∙
      items_passes ts (i + 1) j xs b ss
  statement_passes ts i j s (changes _ _ _ _ c) ss =
      change_passes mark.Semicolon symbol.Semicolon refl refl symbol.Statement refl refl refl ts i j
      s c ss
  statement_passes ts i j s (if_alone _ _ k _ e b h c d alone) ss =
      taken ts symbol.Statement ss i (Word word.If)
      (symbol.LeftParen ∷ symbol.Expression ∷ symbol.RightParen ∷ symbol.Statement ∷
      symbol.Else ∷ []) h refl
      ∙ (test_passes ts (i + 1) k e c (symbol.Statement ∷ symbol.Else ∷ ss)
      ∙ (statement_passes ts k j b d (symbol.Else ∷ ss) ∙
      skipped ts symbol.Else ss j (kind_at ts j) refl (else_row (kind_at ts j) alone)))
  statement_passes ts i j s (if_else _ _ k l _ e b t h c d other f) ss =
      taken ts symbol.Statement ss i (Word word.If)
      (symbol.LeftParen ∷ symbol.Expression ∷ symbol.RightParen ∷ symbol.Statement ∷
      symbol.Else ∷ []) h refl
      ∙ (test_passes ts (i + 1) k e c (symbol.Statement ∷ symbol.Else ∷ ss)
      ∙ (statement_passes ts k l b d (symbol.Else ∷ ss)
      ∙ (taken ts symbol.Else ss l (Word word.Else) (symbol.Statement ∷ []) other refl ∙
      statement_passes ts (l + 1) j t f ss)))
  statement_passes ts i j s (while_loop _ _ k _ e b h c d) ss =
      taken ts symbol.Statement ss i (Word word.While)
      (symbol.LeftParen ∷ symbol.Expression ∷ symbol.RightParen ∷ symbol.Statement ∷ []) h refl
      ∙ (test_passes ts (i + 1) k e c (symbol.Statement ∷ ss) ∙ statement_passes ts k j b d ss)
  statement_passes ts i j s (do_loop _ _ k l b e h d w c q) ss =
      taken ts symbol.Statement ss i (Word word.Do)
      (symbol.Statement ∷ symbol.While ∷ symbol.LeftParen ∷ symbol.Expression ∷
      symbol.RightParen ∷ symbol.Semicolon ∷ []) h refl
      ∙ (statement_passes ts (i + 1) k b d (symbol.While ∷ symbol.LeftParen ∷ symbol.Expression ∷
      symbol.RightParen ∷ symbol.Semicolon ∷ ss)
      ∙ (taken ts symbol.While (symbol.LeftParen ∷ symbol.Expression ∷ symbol.RightParen ∷
      symbol.Semicolon ∷ ss) k (Word word.While) [] w refl
      ∙ (test_passes ts (k + 1) l e c (symbol.Semicolon ∷ ss) ∙
      taken ts symbol.Semicolon ss l (Mark mark.Semicolon) [] q refl)))
  statement_passes ts i j s (for_loop _ _ k _ head b h c d) ss =
      taken ts symbol.Statement ss i (Word word.For)
      (symbol.LeftParen ∷ symbol.ForStart ∷ symbol.ForTest ∷ symbol.ForChange ∷
      symbol.Statement ∷ []) h refl
      ∙ (head_passes ts (i + 1) k head c (symbol.Statement ∷ ss) ∙ statement_passes ts k j b d ss)
  statement_passes ts i j s (breaks _ _ h q) ss = jump_passes ts i (Word word.Break) h refl q ss
  statement_passes ts i j s (continues _ _ h q) ss =
      jump_passes ts i (Word word.Continue) h refl q ss
  statement_passes ts i j s (returns _ _ _ e h u) ss =
      taken ts symbol.Statement ss i (Word word.Return) (symbol.Expression ∷ symbol.Semicolon ∷ [])
      h refl
      ∙ up_to_passes mark.Semicolon symbol.Semicolon refl refl ts (i + 1) j e u ss

  item_passes : (ts : List Token) (i j : ℕ) (xs : List Stmt) → BlockItem ts i j xs →
      (ss : List Symbol) → fault_at ts (symbol.Items ∷ ss) i ≡ fault_at ts (symbol.Items ∷ ss) j
  item_passes ts i j xs (statement _ _ _ s x) ss =
      begins_statement ts i (statement_opens ts i j s x) ss ∙
      statement_passes ts i j s x (symbol.Items ∷ ss)
  item_passes ts i j xs (declaration _ _ _ _ d) ss =
      taken ts symbol.Items ss i (Word word.Int) (symbol.Declarators ∷ symbol.Items ∷ []) d.0 refl ∙
      declarators_pass ts (i + 1) j xs d.1 (symbol.Items ∷ ss)

  pub items_passes : (ts : List Token) (i j : ℕ) (all : List Stmt) → BlockItems ts i j all →
      (ss : List Symbol) → fault_at ts (symbol.Items ∷ ss) i ≡ fault_at ts ss j
  items_passes ts i j all (closed _ _ h) ss =
      taken ts symbol.Items ss i (Mark mark.RightBrace) [] h refl
  items_passes ts i j all (item _ _ k _ xs rest x r) ss =
      item_passes ts i k xs x ss ∙ items_passes ts k j rest r ss
