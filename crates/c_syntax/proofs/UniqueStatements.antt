-- A statement and its end are determined by where it begins, and so is what is in a block.
use Rattle.std.proofs.Common.{◌≡◌, ◌≢◌, ℕ, suc, ◌+◌, Option, Some, None, List, [], ◌∷◌, ◌++◌, refl, sym, ◌∙◌, ap}
use Rattle.c_lex.specs.declared.token.Token.{Token}
use Rattle.c_lex.specs.declared.token.TokenKind.TheVariants.{Word, Mark}
use Rattle.c_lex.specs.declared.token.Keyword.TheVariants as word
use Rattle.c_lex.specs.declared.token.Mark.{Mark as TheMark}
use Rattle.c_lex.specs.declared.token.Mark.TheVariants as mark
use Rattle.c_ast.specs.declared.expr.Expr.{Expr}
use Rattle.c_ast.specs.declared.stmt.Stmt.{Stmt}
use Rattle.c_ast.specs.declared.stmt.Stmt.TheVariants.{Empty, Declare, Assign, If, While, DoWhile, For, Break, Continue, Return, Block}
use Rattle.c_syntax.specs.declared.tree.Head.{Head}
use Rattle.c_syntax.specs.Grammar.{kind_at, binary_of, levels, UpTo, Test}
use Rattle.c_syntax.specs.Statements.{updated, Change, InitDeclarators, last_name, next_name, Declaration, ForTest, ForStep, ForHead, Statement, nothing, block, changes, if_alone, if_else, while_loop, do_loop, for_loop, breaks, continues, returns, BlockItem, statement, declaration, BlockItems, closed, item, CompoundStatement}
use Rattle.c_syntax.proofs.Lookahead.{token_stops}
use Rattle.c_syntax.proofs.Choices.{chosen_of}
use Rattle.c_syntax.proofs.Passing.{whole_begins}
use Rattle.c_syntax.proofs.DelimitedLemmas.{Ended, ended_of}
use Rattle.c_syntax.proofs.ChangeLemmas.{Changed, changed_value, changed_update, changed_after, changed_before, changed_of, change_value, change_update, change_after, change_before}
use Rattle.c_syntax.proofs.Declaring.{parted_stops, unassigned, Declared, declared_bare, declared_valued, declared_of, Named, named_last, named_next, named_of}
use Rattle.c_syntax.proofs.HeadLemmas.{change_opens, change_no_int, Started, started_none, started_change, started_names, started_of, Continued, continued_none, continued_some, continued_of, Advanced, advanced_none, advanced_some, advanced_of}
use Rattle.c_syntax.proofs.Forms.{Filled, Way, way_alone, way_else, Branching, Looping, Doing, Counting, Jumping, Returning, changed_start, form_of}
use Rattle.c_syntax.proofs.Blocks.{Itemed, itemed_statement, itemed_names, itemed_of, statement_no_int, item_no_end, Inside, inside_closed, inside_item, inside_of}
use Rattle.c_syntax.proofs.UniqueExprs.{Same, whole_unique}

module _ (m : TheMark) (no_operator : binary_of (Some (Mark m)) ≡ None)
    (no_choice : m ≢ mark.Question) (no_call : m ≢ mark.LeftParen) where
  ended_unique : (ts : List Token) (i j k : ℕ) (e f : Expr) → Ended m ts i j e → Ended m ts i k f →
      Same j k e f
  ended_unique ts i j k e f p q =
      let same : Same p.middle q.middle e f =
      whole_unique ts i p.middle q.middle e f p.reads (chosen_of ts i q.middle f q.reads)
      (token_stops ts (suc levels) p.middle (Mark m) p.marked no_operator (λ z. no_choice cc)
      (λ z. no_call cc))
      (token_stops ts (suc levels) q.middle (Mark m) q.marked no_operator (λ z. no_choice cc)
      (λ z. no_call cc)) in
      (p.behind ∙ (ap (λ z. z + 1) same.0 ∙ sym q.behind), same.1)

  -- an expression up to a mark
  pub up_to_unique : (ts : List Token) (i j k : ℕ) (e f : Expr) → UpTo m ts i j e →
      UpTo m ts i k f → Same j k e f
  up_to_unique ts i j k e f u v =
      ended_unique ts i j k e f (ended_of m ts i j e u) (ended_of m ts i k f v)

  -- a change
  pub change_unique : (ts : List Token) (i j k : ℕ) (s t : Stmt) → Changed m ts i j s →
      Changed m ts i k t → Same j k s t
  change_unique ts i j k s t (changed_value e h a u q) d =
      let is = change_value m ts i h a k t d in
      let same : Same j k e is.0 = up_to_unique ts (i + 2) j k e is.0 u is.1.0 in
      (same.0, q ∙ (ap (Assign i) same.1 ∙ sym is.1.1))
  change_unique ts i j k s t (changed_update op e h a u q) d =
      let is = change_update m ts i h op a k t d in
      let same : Same j k e is.0 = up_to_unique ts (i + 2) j k e is.0 u is.1.0 in
      (same.0, q ∙ (ap (updated i op) same.1 ∙ sym is.1.1))
  change_unique ts i j k s t (changed_after op h a c p q) d =
      let is = change_after m ts i h op a k t d in (p ∙ sym is.1.0, q ∙ sym is.1.1)
  change_unique ts i j k s t (changed_before op a h c p q) d =
      let is = change_before m ts i op a k t d in (p ∙ sym is.1.1.0, q ∙ sym is.1.1.1)

-- a test
test_unique : (ts : List Token) (i j k : ℕ) (e f : Expr) → Test ts i j e → Test ts i k f →
    Same j k e f
test_unique ts i j k e f p q =
    up_to_unique mark.RightParen refl (λ z. cc) (λ z. cc) ts (i + 1) j k e f p.1 q.1

-- the declaration of one name
declared_unique : (ts : List Token) (i j k : ℕ) (s t : Stmt) → Declared ts i j s →
    Declared ts i k t → Same j k s t
declared_unique ts i j k s t (declared_bare h p q is) (declared_bare g o r that) =
    (q ∙ sym r, is ∙ sym that)
declared_unique ts i j k s t (declared_bare h p q is) (declared_valued f g a v o that) =
    absurd (unassigned ts (i + 1) p a)
declared_unique ts i j k s t (declared_valued e h a w p is) (declared_bare g o r that) =
    absurd (unassigned ts (i + 1) o a)
declared_unique ts i j k s t (declared_valued e h a w p is) (declared_valued f g b v o that) =
    let same : Same j k e f = whole_unique ts (i + 2) j k e f w (chosen_of ts (i + 2) k f v)
    (parted_stops ts (suc levels) j p) (parted_stops ts (suc levels) k o) in
    (same.0, is ∙ (ap (λ z. Declare i (Some z)) same.1 ∙ sym that))

-- declarations
names_unique : (ts : List Token) (i j k : ℕ) (ss us : List Stmt) → InitDeclarators ts i j ss →
    Named ts i k us → Same j k ss us
names_unique ts i j k ss us (last_name _ _ l s d h) (named_last m t c g p q) =
    let same : Same l m s t = declared_unique ts i l m s t (declared_of ts i l s d)
    (declared_of ts i m t c) in
    (ap (λ z. z + 1) same.0 ∙ sym p, ap (λ z. z ∷ []) same.1 ∙ sym q)
names_unique ts i j k ss us (last_name _ _ l s d h) (named_next m t rest c g r q) =
    let same : Same l m s t = declared_unique ts i l m s t (declared_of ts i l s d)
    (declared_of ts i m t c) in
    let there : kind_at ts m ≡ Some (Mark mark.Semicolon) = rw same.0 at h in absurd cc
names_unique ts i j k ss us (next_name _ _ l _ s more d h r) (named_last m t c g p q) =
    let same : Same l m s t = declared_unique ts i l m s t (declared_of ts i l s d)
    (declared_of ts i m t c) in
    let there : kind_at ts m ≡ Some (Mark mark.Comma) = rw same.0 at h in absurd cc
names_unique ts i j k ss us (next_name _ _ l _ s more d h r) (named_next m t rest c g o q) =
    let same : Same l m s t = declared_unique ts i l m s t (declared_of ts i l s d)
    (declared_of ts i m t c) in
    let there : InitDeclarators ts (l + 1) k rest = rw same.0 o in
    let tail : Same j k more rest = names_unique ts (l + 1) j k more rest r
    (named_of ts (l + 1) k rest there) in
    let list : s ∷ more ≡ t ∷ rest = rw (same.1, tail.1) refl in
    (tail.0, list ∙ sym q)

declares_unique : (ts : List Token) (i j k : ℕ) (ss us : List Stmt) → Declaration ts i j ss →
    Declaration ts i k us → Same j k ss us
declares_unique ts i j k ss us p q =
    names_unique ts (i + 1) j k ss us p.1 (named_of ts (i + 1) k us q.1)

-- what is in the head of a `for` before its test
started_unique : (ts : List Token) (i j k : ℕ) (ss us : List Stmt) → Started ts i j ss →
    Started ts i k us → Same j k ss us
started_unique ts i j k ss us (started_none h p q) (started_none g r o) = (p ∙ sym r, q ∙ sym o)
started_unique ts i j k ss us (started_none h p q) (started_change t c o) =
    absurd (change_opens mark.Semicolon mark.Semicolon ts i k t h refl
    (changed_of mark.Semicolon ts i k t c))
started_unique ts i j k ss us (started_none h p q) (started_names d) = let here = d.0 in absurd cc
started_unique ts i j k ss us (started_change s c q) (started_none h p o) =
    absurd (change_opens mark.Semicolon mark.Semicolon ts i j s h refl
    (changed_of mark.Semicolon ts i j s c))
started_unique ts i j k ss us (started_change s c q) (started_change t d o) =
    let same : Same j k s t = change_unique mark.Semicolon refl (λ z. cc) (λ z. cc) ts i j k s t
    (changed_of mark.Semicolon ts i j s c) (changed_of mark.Semicolon ts i k t d) in
    (same.0, q ∙ (ap (λ z. z ∷ []) same.1 ∙ sym o))
started_unique ts i j k ss us (started_change s c q) (started_names d) =
    absurd (change_no_int mark.Semicolon ts i j s d.0 (changed_of mark.Semicolon ts i j s c))
started_unique ts i j k ss us (started_names d) (started_none h p q) = let here = d.0 in absurd cc
started_unique ts i j k ss us (started_names d) (started_change t c q) =
    absurd (change_no_int mark.Semicolon ts i k t d.0 (changed_of mark.Semicolon ts i k t c))
started_unique ts i j k ss us (started_names d) (started_names c) =
    declares_unique ts i j k ss us d c

-- the test
continued_unique : (ts : List Token) (i j k : ℕ) (o r : Option Expr) → Continued ts i j o →
    Continued ts i k r → Same j k o r
continued_unique ts i j k o r (continued_none h p q) (continued_none g a b) = (p ∙ sym a, q ∙ sym b)
continued_unique ts i j k o r (continued_none h p q) (continued_some f v b) =
    let e = ended_of mark.Semicolon ts i k f v in
    absurd (whole_begins mark.Semicolon refl (λ z. cc) ts i e.middle f e.reads h)
continued_unique ts i j k o r (continued_some f v b) (continued_none h p q) =
    let e = ended_of mark.Semicolon ts i j f v in
    absurd (whole_begins mark.Semicolon refl (λ z. cc) ts i e.middle f e.reads h)
continued_unique ts i j k o r (continued_some e u q) (continued_some f v b) =
    let same : Same j k e f = up_to_unique mark.Semicolon refl (λ z. cc) (λ z. cc) ts i j k e f u v
    in
    (same.0, q ∙ (ap (λ z. Some z) same.1 ∙ sym b))

-- the change after it
advanced_unique : (ts : List Token) (i j k : ℕ) (o r : Option Stmt) → Advanced ts i j o →
    Advanced ts i k r → Same j k o r
advanced_unique ts i j k o r (advanced_none h p q) (advanced_none g a b) = (p ∙ sym a, q ∙ sym b)
advanced_unique ts i j k o r (advanced_none h p q) (advanced_some t c b) =
    absurd (change_opens mark.RightParen mark.RightParen ts i k t h refl
    (changed_of mark.RightParen ts i k t c))
advanced_unique ts i j k o r (advanced_some t c b) (advanced_none h p q) =
    absurd (change_opens mark.RightParen mark.RightParen ts i j t h refl
    (changed_of mark.RightParen ts i j t c))
advanced_unique ts i j k o r (advanced_some s c q) (advanced_some t d b) =
    let same : Same j k s t = change_unique mark.RightParen refl (λ z. cc) (λ z. cc) ts i j k s t
    (changed_of mark.RightParen ts i j s c) (changed_of mark.RightParen ts i k t d) in
    (same.0, q ∙ (ap (λ z. Some z) same.1 ∙ sym b))

-- the head of a `for`
heads_unique : (ts : List Token) (i j k : ℕ) (h g : Head) → ForHead ts i j h → ForHead ts i k g →
    Same j k h g
heads_unique ts i j k h g p q =
    let one : Same p.middle q.middle h.first g.first =
    started_unique ts (i + 1) p.middle q.middle h.first g.first
    (started_of ts (i + 1) p.middle h.first p.starts)
    (started_of ts (i + 1) q.middle g.first q.starts) in
    let here : ForTest ts p.middle q.last g.test = rw one.0 q.continues in
    let two : Same p.last q.last h.test g.test =
    continued_unique ts p.middle p.last q.last h.test g.test
    (continued_of ts p.middle p.last h.test p.continues)
    (continued_of ts p.middle q.last g.test here) in
    let there : ForStep ts p.last k g.change = rw two.0 q.advances in
    let three : Same j k h.change g.change =
    advanced_unique ts p.last j k h.change g.change (advanced_of ts p.last j h.change p.advances)
    (advanced_of ts p.last k g.change there) in
    let made : (record { first = h.first; test = h.test; change = h.change }) ≡ g =
    rw (one.1, two.1, three.1) refl in
    (three.0, made)

-- where a change begins, a statement is a change
only_change : (ts : List Token) (i j k : ℕ) (s t : Stmt) → Changed mark.Semicolon ts i j s →
    Statement ts i k t → Change mark.Semicolon ts i k t
only_change ts i j k s t c (nothing _ _ h) =
    absurd (changed_start ts i j s (Mark mark.Semicolon) h refl (λ z. cc) c)
only_change ts i j k s t c (block _ _ l ss h r) =
    absurd (changed_start ts i j s (Mark mark.LeftBrace) h refl (λ z. cc) c)
only_change ts i j k s t c (changes _ _ _ _ d) = d
only_change ts i j k s t c (if_alone _ _ m l e u h g r o) =
    absurd (changed_start ts i j s (Word word.If) h refl (λ z. cc) c)
only_change ts i j k s t c (if_else _ _ m n l e u v h g r o w) =
    absurd (changed_start ts i j s (Word word.If) h refl (λ z. cc) c)
only_change ts i j k s t c (while_loop _ _ m l e u h g r) =
    absurd (changed_start ts i j s (Word word.While) h refl (λ z. cc) c)
only_change ts i j k s t c (do_loop _ _ m l u e h r w g o) =
    absurd (changed_start ts i j s (Word word.Do) h refl (λ z. cc) c)
only_change ts i j k s t c (for_loop _ _ m l d u h g r) =
    absurd (changed_start ts i j s (Word word.For) h refl (λ z. cc) c)
only_change ts i j k s t c (breaks _ _ h g) =
    absurd (changed_start ts i j s (Word word.Break) h refl (λ z. cc) c)
only_change ts i j k s t c (continues _ _ h g) =
    absurd (changed_start ts i j s (Word word.Continue) h refl (λ z. cc) c)
only_change ts i j k s t c (returns _ _ l e h u) =
    absurd (changed_start ts i j s (Word word.Return) h refl (λ z. cc) c)

-- an `if` that no `else` follows
way_without : (ts : List Token) (i j : ℕ) (e : Expr) (t s : Stmt) →
    (kind_at ts i ≡ Some (Word word.Else) → ⊥) → Way ts i j e t s → (i ≡ j) × (s ≡ If e t None)
way_without ts i j e t s no_else (way_alone o p q) = (p, q)
way_without ts i j e t s no_else (way_else u o v q) = absurd (no_else o)

-- an `if` that an `else` follows
way_with : (ts : List Token) (i j : ℕ) (e : Expr) (t s : Stmt) → kind_at ts i ≡
    Some (Word word.Else) → Way ts i j e t s
    → (u : Stmt) × (Statement ts (i + 1) j u × (s ≡ If e t (Some u)))
way_with ts i j e t s h (way_alone o p q) = absurd (o h)
way_with ts i j e t s h (way_else u o v q) = (u, (v, q))

-- two statements after the same `else`
with_else : (e : Expr) (u v w t : Stmt) → v ≡ w → t ≡ If e u (Some w) → If e u (Some v) ≡ t
with_else e u v w t same is = ap (λ z. If e u (Some z)) same ∙ sym is

mutual
  pub statement_unique : (ts : List Token) (i j k : ℕ) (s t : Stmt) → Statement ts i j s →
      Statement ts i k t → Same j k s t
  statement_unique ts i j k s t (nothing _ _ h) d =
      let f : (k ≡ i + 1) × (t ≡ Empty) = form_of ts i k t (Mark mark.Semicolon) h refl (λ z. cc) d
      in (sym f.0, sym f.1)
  statement_unique ts i j k s t (block _ _ l ss h r) d =
      let f : Filled ts i k t = form_of ts i k t (Mark mark.LeftBrace) h refl (λ z. cc) d in
      let same : Same l k ss f.inside = inner_unique ts (i + 1) l k ss f.inside r
      (inside_of ts (i + 1) k f.inside f.inner) in
      (same.0, ap Block same.1 ∙ sym f.is)
  statement_unique ts i j k s t (changes _ _ l u c) d =
      let e = only_change ts i l k u t (changed_of mark.Semicolon ts i l u c) d in
      change_unique mark.Semicolon refl (λ z. cc) (λ z. cc) ts i l k u t
      (changed_of mark.Semicolon ts i l u c) (changed_of mark.Semicolon ts i k t e)
  statement_unique ts i j k s t (if_alone _ _ m l e u h c r o) d =
      let f : Branching ts i k t = form_of ts i k t (Word word.If) h refl (λ z. cc) d in
      let one : Same m f.middle e f.test = test_unique ts (i + 1) m f.middle e f.test c f.tests in
      let runs : Statement ts m f.last f.taken = rw one.0 f.runs in
      let two : Same l f.last u f.taken = statement_unique ts m l f.last u f.taken r runs in
      let way : Way ts l k e u t = rw (two.0, one.1, two.1) f.way in
      let is = way_without ts l k e u t o way in
      (is.0, sym is.1)
  statement_unique ts i j k s t (if_else _ _ m l n e u v h c r o w) d =
      let f : Branching ts i k t = form_of ts i k t (Word word.If) h refl (λ z. cc) d in
      let one : Same m f.middle e f.test = test_unique ts (i + 1) m f.middle e f.test c f.tests in
      let runs : Statement ts m f.last f.taken = rw one.0 f.runs in
      let two : Same l f.last u f.taken = statement_unique ts m l f.last u f.taken r runs in
      let way : Way ts l k e u t = rw (two.0, one.1, two.1) f.way in
      let is = way_with ts l k e u t o way in
      let three : Same n k v is.0 = statement_unique ts (l + 1) n k v is.0 w is.1.0 in
      (three.0, with_else e u v is.0 t three.1 is.1.1)
  statement_unique ts i j k s t (while_loop _ _ m l e u h c r) d =
      let f : Looping ts i k t = form_of ts i k t (Word word.While) h refl (λ z. cc) d in
      let one : Same m f.middle e f.test = test_unique ts (i + 1) m f.middle e f.test c f.tests in
      let runs : Statement ts m k f.body = rw one.0 f.runs in
      let two : Same l k u f.body = statement_unique ts m l k u f.body r runs in
      let tree : While e u ≡ While f.test f.body = rw (one.1, two.1) refl in
      (two.0, tree ∙ sym f.is)
  statement_unique ts i j k s t (do_loop _ _ m l u e h r w c o) d =
      let f : Doing ts i k t = form_of ts i k t (Word word.Do) h refl (λ z. cc) d in
      let one : Same m f.middle u f.body = statement_unique ts (i + 1) m f.middle u f.body r f.runs
      in
      let tests : Test ts (m + 1) f.last f.test = rw one.0 f.tests in
      let two : Same l f.last e f.test = test_unique ts (m + 1) l f.last e f.test c tests in
      let tree : DoWhile u e ≡ DoWhile f.body f.test = rw (one.1, two.1) refl in
      (ap (λ z. z + 1) two.0 ∙ sym f.behind, tree ∙ sym f.is)
  statement_unique ts i j k s t (for_loop _ _ m l a u h c r) d =
      let f : Counting ts i k t = form_of ts i k t (Word word.For) h refl (λ z. cc) d in
      let one : Same m f.middle a f.head = heads_unique ts (i + 1) m f.middle a f.head c f.heads in
      let runs : Statement ts m k f.body = rw one.0 f.runs in
      let two : Same l k u f.body = statement_unique ts m l k u f.body r runs in
      let tree : For a.first a.test a.change u ≡ For f.head.first f.head.test f.head.change f.body =
      ap (λ (z : Head). For z.first z.test z.change u) one.1 ∙
      ap (For f.head.first f.head.test f.head.change) two.1 in
      (two.0, tree ∙ sym f.is)
  statement_unique ts i j k s t (breaks _ _ h c) d =
      let f : Jumping ts i (Break i) k t = form_of ts i k t (Word word.Break) h refl (λ z. cc) d in
      (sym f.behind, sym f.is)
  statement_unique ts i j k s t (continues _ _ h c) d =
      let f : Jumping ts i (Continue i) k t =
      form_of ts i k t (Word word.Continue) h refl (λ z. cc) d in (sym f.behind, sym f.is)
  statement_unique ts i j k s t (returns _ _ l e h u) d =
      let f : Returning ts i k t = form_of ts i k t (Word word.Return) h refl (λ z. cc) d in
      let same : Same l k e f.value = up_to_unique mark.Semicolon refl (λ z. cc) (λ z. cc) ts
      (i + 1) l k e f.value u f.reads in
      (same.0, ap Return same.1 ∙ sym f.is)

  pub item_unique : (ts : List Token) (i j k : ℕ) (ss us : List Stmt) → BlockItem ts i j ss →
      Itemed ts i k us → Same j k ss us
  item_unique ts i j k ss us (statement _ _ l s w) (itemed_statement t v q) =
      let same : Same l k s t = statement_unique ts i l k s t w v in
      (same.0, ap (λ z. z ∷ []) same.1 ∙ sym q)
  item_unique ts i j k ss us (statement _ _ l s w) (itemed_names d) =
      absurd (statement_no_int ts i l s d.0 w)
  item_unique ts i j k ss us (declaration _ _ l xs d) (itemed_statement t v q) =
      absurd (statement_no_int ts i k t d.0 v)
  item_unique ts i j k ss us (declaration _ _ l xs d) (itemed_names c) =
      declares_unique ts i l k xs us d c

  pub inner_unique : (ts : List Token) (i j k : ℕ) (ss us : List Stmt) → BlockItems ts i j ss →
      Inside ts i k us → Same j k ss us
  inner_unique ts i j k ss us (closed _ _ h) (inside_closed g p q) = (sym p, sym q)
  inner_unique ts i j k ss us (closed _ _ h) (inside_item m xs rest w r q) =
      absurd (item_no_end ts i m xs h (itemed_of ts i m xs w))
  inner_unique ts i j k ss us (item _ _ l n xs more w r) (inside_closed g p q) =
      absurd (item_no_end ts i l xs g (itemed_of ts i l xs w))
  inner_unique ts i j k ss us (item _ _ l n xs more w r) (inside_item m ys rest v o q) =
      let one : Same l m xs ys = item_unique ts i l m xs ys w (itemed_of ts i m ys v) in
      let there : BlockItems ts l k rest = rw one.0 o in
      let two : Same n k more rest = inner_unique ts l n k more rest r (inside_of ts l k rest there)
      in
      let list : xs ++ more ≡ ys ++ rest = rw (one.1, two.1) refl in
      (two.0, list ∙ sym q)

-- a block
pub blocks_unique : (ts : List Token) (i j k : ℕ) (ss us : List Stmt) →
    CompoundStatement ts i j ss → CompoundStatement ts i k us → Same j k ss us
blocks_unique ts i j k ss us p q =
    inner_unique ts (i + 1) j k ss us p.1 (inside_of ts (i + 1) k us q.1)
