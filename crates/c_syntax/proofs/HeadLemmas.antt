-- The head of a `for`, part by part.
use Rattle.std.proofs.Common.{◌≡◌, ℕ, ◌+◌, ◌≤◌, ◌<◌, max, Option, Some, None, Result, IfOk, List, [], ◌∷◌, length, refl, sym, ◌∙◌, ap, arith}
use Rattle.c_lex.specs.declared.token.Token.{Token}
use Rattle.c_lex.specs.declared.token.TokenKind.TheVariants.{Word, Mark}
use Rattle.c_lex.specs.declared.token.Keyword.TheVariants.{Int}
use Rattle.c_lex.specs.declared.token.Mark.{Mark as TheMark}
use Rattle.c_lex.specs.declared.token.Mark.TheVariants.{LeftParen, RightParen, Semicolon}
use Rattle.c_ast.specs.declared.expr.Expr.{Expr}
use Rattle.c_ast.specs.declared.stmt.Stmt.{Stmt}
use Rattle.c_ast.specs.Height.{of_option, expr_height, stmt_height}
use Rattle.c_syntax.specs.declared.tree.Head.{Head}
use Rattle.rx_plain.specs.declared.no_memory.NoMemory.{NoMemory}
use Rattle.c_syntax.specs.declared.read.Span.{Span}
use Rattle.c_syntax.specs.Grammar.{kind_at, UpTo}
use Rattle.c_syntax.specs.Statements.{step, changing_of, Change, Declaration, ForInit, no_start, start_change, start_names, ForTest, no_test, a_test, ForStep, no_change, a_change, ForHead}
use Rattle.c_syntax.specs.Heights.{list_height, head_height}
use Rattle.c_syntax.specs.Readers.{IsThat, Gives, IsNoHigher}
use Rattle.c_syntax.proofs.Lookahead.{kind_within}
use Rattle.c_syntax.proofs.Passing.{whole_begins}
use Rattle.c_syntax.proofs.DelimitedLemmas.{ended_of}
use Rattle.c_syntax.proofs.ChangeLemmas.{unchanging, Changed, changed_value, changed_update, changed_after, changed_before, changed_of}
use Rattle.c_syntax.proofs.Building.{Built, renamed_ok}

-- no change begins with another mark
pub change_opens : (m here : TheMark) (ts : List Token) (i j : ℕ) (s : Stmt) → kind_at ts i ≡
    Some (Mark here) → changing_of (Some (Mark here)) ≡ None → Changed m ts i j s → ⊥
change_opens m here ts i j s g none (changed_value e h a u q) = cc
change_opens m here ts i j s g none (changed_update op e h a u q) = cc
change_opens m here ts i j s g none (changed_after op h a c p q) = cc
change_opens m here ts i j s g none (changed_before op a h c p q) =
    unchanging ts i (Mark here) (step op) g none a

-- nor with `int`
pub change_no_int : (m : TheMark) (ts : List Token) (i j : ℕ) (s : Stmt) → kind_at ts i ≡
    Some (Word Int) → Changed m ts i j s → ⊥
change_no_int m ts i j s g (changed_value e h a u q) = cc
change_no_int m ts i j s g (changed_update op e h a u q) = cc
change_no_int m ts i j s g (changed_after op h a c p q) = cc
change_no_int m ts i j s g (changed_before op a h c p q) =
    unchanging ts i (Word Int) (step op) g refl a

-- the part before the test
pub data Started (ts : List Token) (i j : ℕ) (ss : List Stmt) : Type 0 where
  started_none : kind_at ts i ≡ Some (Mark Semicolon) → j ≡ i + 1 → ss ≡ [] → Started ts i j ss
  started_change : (s : Stmt) → Change Semicolon ts i j s → ss ≡ s ∷ [] → Started ts i j ss
  started_names : Declaration ts i j ss → Started ts i j ss

pub started_of : (ts : List Token) (i j : ℕ) (ss : List Stmt) → ForInit ts i j ss →
    Started ts i j ss
started_of ts i j ss (no_start _ _ h) = started_none h refl refl
started_of ts i j ss (start_change _ _ _ s c) = started_change s c refl
started_of ts i j ss (start_names _ _ _ _ d) = started_names d

-- the test
pub data Continued (ts : List Token) (i j : ℕ) (o : Option Expr) : Type 0 where
  continued_none : kind_at ts i ≡ Some (Mark Semicolon) → j ≡ i + 1 → o ≡ None → Continued ts i j o
  continued_some : (e : Expr) → UpTo Semicolon ts i j e → o ≡ Some e → Continued ts i j o

pub continued_of : (ts : List Token) (i j : ℕ) (o : Option Expr) → ForTest ts i j o →
    Continued ts i j o
continued_of ts i j o (no_test _ _ h) = continued_none h refl refl
continued_of ts i j o (a_test _ _ _ e u) = continued_some e u refl

-- the change after it
pub data Advanced (ts : List Token) (i j : ℕ) (o : Option Stmt) : Type 0 where
  advanced_none : kind_at ts i ≡ Some (Mark RightParen) → j ≡ i + 1 → o ≡ None → Advanced ts i j o
  advanced_some : (s : Stmt) → Change RightParen ts i j s → o ≡ Some s → Advanced ts i j o

pub advanced_of : (ts : List Token) (i j : ℕ) (o : Option Stmt) → ForStep ts i j o →
    Advanced ts i j o
advanced_of ts i j o (no_change _ _ h) = advanced_none h refl refl
advanced_of ts i j o (a_change _ _ _ s c) = advanced_some s c refl

module _ (ts : List Token) (at room : ℕ) where
  bare_start : (y : Span (List Stmt)) → kind_at ts at ≡ Some (Mark Semicolon) → y.value ≡ [] →
      y.end ≡ at + 1 → (j : ℕ) (ss : List Stmt) → Started ts at j ss → IsThat (Some y) j ss
  bare_start y h yv ye j ss (started_none g p q) = (ye ∙ sym p, yv ∙ sym q)
  bare_start y h yv ye j ss (started_change s c q) =
      absurd (change_opens Semicolon Semicolon ts at j s h refl (changed_of Semicolon ts at j s c))
  bare_start y h yv ye j ss (started_names d) = let word = d.0 in absurd cc

  -- nothing before the test
  pub start_none : (y : Span (List Stmt)) → kind_at ts at ≡ Some (Mark Semicolon) → y.value ≡ [] →
      y.end ≡ at + 1 → Gives (IsNoHigher list_height room (ForInit ts at)) at (length ts) (Some y)
  start_none y h yv ye =
      let within : at < length ts = kind_within ts at (Mark Semicolon) h in
      record {
        found =
            record {
              spelled = rw (ye, yv) (no_start ts at h, omega arith);
              further = omega arith;
              within = omega arith;
            };
        only = λ j ss p. bare_start y h yv ye j ss (started_of ts at j ss p.0);
      }

  names_from : kind_at ts at ≡ Some (Word Int) → (j : ℕ) (ss : List Stmt) → Started ts at j ss →
      Declaration ts at j ss
  names_from h j ss (started_none g p q) = absurd cc
  names_from h j ss (started_change s c q) =
      absurd (change_no_int Semicolon ts at j s h (changed_of Semicolon ts at j s c))
  names_from h j ss (started_names d) = d

  -- a declaration before the test
  pub start_declared : (r : Result (Option (Span (List Stmt))) NoMemory) → kind_at ts at ≡
      Some (Word Int) → IfOk r (Gives (IsNoHigher list_height room (Declaration ts at)) at
      (length ts))
      → IfOk r (Gives (IsNoHigher list_height room (ForInit ts at)) at (length ts))
  start_declared r h =
      renamed_ok (IsNoHigher list_height room (Declaration ts at))
      (IsNoHigher list_height room (ForInit ts at))
      at at (length ts) r (omega arith)
      (λ j ss p. (start_names ts at j ss p.0, p.1))
      (λ j ss q. (names_from h j ss (started_of ts at j ss q.0), q.1))

  change_from : (kind_at ts at ≡ Some (Mark Semicolon) → ⊥) →
      (kind_at ts at ≡ Some (Word Int) → ⊥) → (j : ℕ) (ss : List Stmt) → Started ts at j ss →
      list_height ss ≤ room
      → (s : Stmt) × ((Change Semicolon ts at j s × (stmt_height s ≤ room)) × (ss ≡ s ∷ []))
  change_from a b j ss (started_none g p q) fits = absurd (a g)
  change_from a b j ss (started_change s c q) fits =
      let high : list_height ss ≡ list_height (s ∷ []) = ap list_height q in
      (s, ((c, omega arith), q))
  change_from a b j ss (started_names d) fits = absurd (b d.0)

  -- a change before the test
  pub start_builds : (kind_at ts at ≡ Some (Mark Semicolon) → ⊥) →
      (kind_at ts at ≡ Some (Word Int) → ⊥)
      → Built (λ (s : Stmt). s ∷ []) (IsNoHigher stmt_height room (Change Semicolon ts at))
      (IsNoHigher list_height room (ForInit ts at))
  start_builds a b = record {
    make =
        λ j s p. let fits : stmt_height s ≤ room = p.1 in (start_change ts at j s p.0, omega arith);
    part = λ j ss q. change_from a b j ss (started_of ts at j ss q.0) q.1;
  }

  bare_test : (y : Span (Option Expr)) → kind_at ts at ≡ Some (Mark Semicolon) → y.value ≡ None →
      y.end ≡ at + 1 → (j : ℕ) (o : Option Expr) → Continued ts at j o → IsThat (Some y) j o
  bare_test y h yv ye j o (continued_none g p q) = (ye ∙ sym p, yv ∙ sym q)
  bare_test y h yv ye j o (continued_some e u q) =
      let p = ended_of Semicolon ts at j e u in
      absurd (whole_begins Semicolon refl (λ z. cc) ts at p.middle e p.reads h)

  -- no test
  pub test_none : (y : Span (Option Expr)) → kind_at ts at ≡ Some (Mark Semicolon) → y.value ≡
      None → y.end ≡ at + 1
      → Gives (IsNoHigher (of_option expr_height) room (ForTest ts at)) at (length ts) (Some y)
  test_none y h yv ye =
      let within : at < length ts = kind_within ts at (Mark Semicolon) h in
      record {
        found =
            record {
              spelled = rw (ye, yv) (no_test ts at h, omega arith);
              further = omega arith;
              within = omega arith;
            };
        only = λ j o p. bare_test y h yv ye j o (continued_of ts at j o p.0);
      }

  test_from : (kind_at ts at ≡ Some (Mark Semicolon) → ⊥) → (j : ℕ) (o : Option Expr) →
      Continued ts at j o → of_option expr_height o ≤ room
      → (e : Expr) × ((UpTo Semicolon ts at j e × (expr_height e ≤ room)) × (o ≡ Some e))
  test_from a j o (continued_none g p q) fits = absurd (a g)
  test_from a j o (continued_some e u q) fits =
      let high : of_option expr_height o ≡ expr_height e = ap (of_option expr_height) q in
      (e, ((u, omega arith), q))

  -- a test
  pub test_builds : (kind_at ts at ≡ Some (Mark Semicolon) → ⊥) →
      Built (λ (e : Expr). Some e) (IsNoHigher expr_height room (UpTo Semicolon ts at))
      (IsNoHigher (of_option expr_height) room (ForTest ts at))
  test_builds a = record {
    make = λ j e p. (a_test ts at j e p.0, p.1);
    part = λ j o q. test_from a j o (continued_of ts at j o q.0) q.1;
  }

  bare_advance : (y : Span (Option Stmt)) → kind_at ts at ≡ Some (Mark RightParen) → y.value ≡
      None → y.end ≡ at + 1 → (j : ℕ) (o : Option Stmt) → Advanced ts at j o → IsThat (Some y) j o
  bare_advance y h yv ye j o (advanced_none g p q) = (ye ∙ sym p, yv ∙ sym q)
  bare_advance y h yv ye j o (advanced_some s c q) =
      absurd (change_opens RightParen RightParen ts at j s h refl
      (changed_of RightParen ts at j s c))

  -- no change after the test
  pub advance_none : (y : Span (Option Stmt)) → kind_at ts at ≡ Some (Mark RightParen) → y.value ≡
      None → y.end ≡ at + 1
      → Gives (IsNoHigher (of_option stmt_height) room (ForStep ts at)) at (length ts) (Some y)
  advance_none y h yv ye =
      let within : at < length ts = kind_within ts at (Mark RightParen) h in
      record {
        found =
            record {
              spelled = rw (ye, yv) (no_change ts at h, omega arith);
              further = omega arith;
              within = omega arith;
            };
        only = λ j o p. bare_advance y h yv ye j o (advanced_of ts at j o p.0);
      }

  advance_from : (kind_at ts at ≡ Some (Mark RightParen) → ⊥) → (j : ℕ) (o : Option Stmt) →
      Advanced ts at j o → of_option stmt_height o ≤ room
      → (s : Stmt) × ((Change RightParen ts at j s × (stmt_height s ≤ room)) × (o ≡ Some s))
  advance_from a j o (advanced_none g p q) fits = absurd (a g)
  advance_from a j o (advanced_some s c q) fits =
      let high : of_option stmt_height o ≡ stmt_height s = ap (of_option stmt_height) q in
      (s, ((c, omega arith), q))

  -- a change after the test
  pub advance_builds : (kind_at ts at ≡ Some (Mark RightParen) → ⊥) →
      Built (λ (s : Stmt). Some s) (IsNoHigher stmt_height room (Change RightParen ts at))
      (IsNoHigher (of_option stmt_height) room (ForStep ts at))
  advance_builds a = record {
    make = λ j s p. (a_change ts at j s p.0, p.1);
    part = λ j o q. advance_from a j o (advanced_of ts at j o q.0) q.1;
  }

  -- the parts of a head fit where it does
  parts_fit : (h : Head) → head_height h ≤ room → (list_height h.first ≤ room) ×
      ((of_option expr_height h.test ≤ room) × (of_option stmt_height h.change ≤ room))
  parts_fit h fits =
      let here : max (max (list_height h.first) (of_option expr_height h.test))
      (of_option stmt_height h.change) ≤ room = fits in
      (omega arith, (omega arith, omega arith))

  -- no head without the part before the test
  pub head_startless : Gives (IsNoHigher list_height room (ForInit ts (at + 1))) (at + 1)
      (length ts) None
      → Gives (IsNoHigher head_height room (ForHead ts at)) at (length ts) None
  head_startless r =
      record {
        found = tt;
        only = λ j h p. let fit = parts_fit h p.1 in
            r.only p.0.middle h.first (p.0.starts, fit.0);
      }

  module _ (x : Span (List Stmt)) (r : Gives (IsNoHigher list_height room (ForInit ts (at + 1)))
      (at + 1)
      (length ts) (Some x)) where
    start_is : (j : ℕ) (h : Head) (p : ForHead ts at j h) → head_height h ≤ room →
        (x.end ≡ p.middle) × (x.value ≡ h.first)
    start_is j h p fits = let fit = parts_fit h fits in r.only p.middle h.first (p.starts, fit.0)

    -- no head without a test
    pub head_testless : Gives (IsNoHigher (of_option expr_height) room (ForTest ts x.end)) x.end
        (length ts) None → Gives (IsNoHigher head_height room (ForHead ts at)) at (length ts) None
    head_testless t = record {
      found = tt;
      only = λ j h p.
          let fit = parts_fit h p.1 in
          let is = start_is j h p.0 p.1 in
          let there : ForTest ts x.end p.0.last h.test = rw is.0 p.0.continues in
          t.only p.0.last h.test (there, fit.1.0);
    }

    module _ (y : Span (Option Expr)) (t : Gives
        (IsNoHigher (of_option expr_height) room (ForTest ts x.end)) x.end (length ts) (Some y))
      where
        test_is : (j : ℕ) (h : Head) (p : ForHead ts at j h) → head_height h ≤ room →
            (y.end ≡ p.last) × (y.value ≡ h.test)
        test_is j h p fits =
            let fit = parts_fit h fits in
            let is = start_is j h p fits in
            let there : ForTest ts x.end p.last h.test = rw is.0 p.continues in
            t.only p.last h.test (there, fit.1.0)

        -- no head without what is after the test
        pub head_changeless : Gives (IsNoHigher (of_option stmt_height) room (ForStep ts y.end)) y.end
            (length ts) None → Gives (IsNoHigher head_height room (ForHead ts at)) at (length ts) None
        head_changeless a = record {
          found = tt;
          only = λ j h p.
              let fit = parts_fit h p.1 in
              let is = test_is j h p.0 p.1 in
              let there : ForStep ts y.end j h.change = rw is.0 p.0.advances in
              a.only j h.change (there, fit.1.1);
        }

        -- a head
        pub head_reads : (z : Span (Option Stmt)) (w : Span Head) → kind_at ts at ≡
            Some (Mark LeftParen) → Gives (IsNoHigher (of_option stmt_height) room (ForStep ts y.end))
            y.end
            (length ts) (Some z)
            → w.value ≡ record { first = x.value; test = y.value; change = z.value } → w.end ≡ z.end →
            Gives (IsNoHigher head_height room (ForHead ts at)) at (length ts) (Some w)
        head_reads z w o a wv we =
            let f1 : at + 1 < x.end = r.found.further in
            let f2 : x.end < y.end = t.found.further in
            let f3 : y.end < z.end = a.found.further in
            let within : z.end ≤ length ts = a.found.within in
            let low1 : list_height x.value ≤ room = r.found.spelled.1 in
            let low2 : of_option expr_height y.value ≤ room = t.found.spelled.1 in
            let low3 : of_option stmt_height z.value ≤ room = a.found.spelled.1 in
            record {
              found = record {
                spelled =
                    rw (we, wv) (
                      record {
                        opens = o;
                        middle = x.end;
                        starts = r.found.spelled.0;
                        last = y.end;
                        continues = t.found.spelled.0;
                        advances = a.found.spelled.0;
                      },
                      omega arith,
                    );
                further = omega arith;
                within = omega arith;
              };
              only = λ j h p.
                  let fit = parts_fit h p.1 in
                  let is1 = start_is j h p.0 p.1 in
                  let is2 = test_is j h p.0 p.1 in
                  let there : ForStep ts y.end j h.change = rw is2.0 p.0.advances in
                  let is3 : (z.end ≡ j) × (z.value ≡ h.change) = a.only j h.change (there, fit.1.1) in
                  (we ∙ is3.0, wv ∙ (rw (is1.1, is2.1, is3.1) refl));
            }
