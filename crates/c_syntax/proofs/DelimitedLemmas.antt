-- Expressions up to a mark.
use Rattle.std.proofs.Common.{◌≡◌, ◌≢◌, ℕ, suc, ◌+◌, ◌≤◌, ◌<◌, Some, None, List, length, refl, sym, ◌∙◌, ap, arith}
use Rattle.c_lex.specs.declared.token.Token.{Token}
use Rattle.c_lex.specs.declared.token.TokenKind.TheVariants.{Mark}
use Rattle.c_lex.specs.declared.token.Mark.{Mark as TheMark}
use Rattle.c_lex.specs.declared.token.Mark.TheVariants.{LeftParen, Question}
use Rattle.c_ast.specs.declared.expr.Expr.{Expr}
use Rattle.c_ast.specs.Height.{expr_height}
use Rattle.c_syntax.specs.declared.read.Read.{Read}
use Rattle.c_syntax.specs.declared.read.Span.{Span}
use Rattle.c_syntax.specs.Grammar.{kind_at, binary_of, levels, Expression, UpTo, ended}
use Rattle.c_syntax.specs.Readers.{Reads, Gives, IsNoHigher}
use Rattle.c_syntax.proofs.Lookahead.{kind_within, token_stops}

-- the parts of an expression up to a mark
pub record Ended (m : TheMark) (ts : List Token) (i j : ℕ) (e : Expr) : Type 0 where
  pub middle : ℕ
  pub reads : Expression ts i middle e
  pub marked : kind_at ts middle ≡ Some (Mark m)
  pub behind : j ≡ middle + 1

pub ended_of : (m : TheMark) (ts : List Token) (i j : ℕ) (e : Expr) → UpTo m ts i j e →
    Ended m ts i j e
ended_of m ts i j e (ended _ _ _ k _ w h) =
    record { middle = k; reads = w; marked = h; behind = refl }

module _ (m : TheMark) (ts : List Token) (at room : ℕ)
    (no_operator : binary_of (Some (Mark m)) ≡ None) (no_choice : m ≢ Question)
    (no_call : m ≢ LeftParen) where
  module _ (x : Read) (r : Reads (Expression ts) ts (suc levels) at room (Some x)) where
    up_to_is : (j : ℕ) (e : Expr) → Ended m ts at j e → expr_height e ≤ room → (j ≡ x.end + 1) ×
        ((x.tree ≡ e) × (kind_at ts x.end ≡ Some (Mark m)))
    up_to_is j e p fits =
        let is : (x.end ≡ p.middle) × (x.tree ≡ e) =
        r.only p.middle e p.reads (token_stops ts (suc levels) p.middle (Mark m) p.marked
        no_operator (λ q. no_choice cc) (λ q. no_call cc)) fits in
        (p.behind ∙ ap (λ k. k + 1) (sym is.0), (is.1, rw is.0 p.marked))

    -- the mark is after the expression
    pub up_to_ends : (y : Span Expr) → kind_at ts x.end ≡ Some (Mark m) → y.value ≡ x.tree → y.end ≡
        x.end + 1 → Gives (IsNoHigher expr_height room (UpTo m ts at)) at (length ts) (Some y)
    up_to_ends y h yv ye =
        let within : x.end < length ts = kind_within ts x.end (Mark m) h in
        let further : at < x.end = r.found.further in
        let high : x.height ≡ expr_height x.tree = r.found.high in
        let fits : x.height ≤ room = r.found.fits in
        record {
          found =
              record {
                spelled = rw (ye, yv) (
                  ended m ts at x.end x.tree r.found.spelled h,
                  omega arith,
                );
                further = omega arith;
                within = omega arith;
              };
          only =
              λ j e low. let is = up_to_is j e (ended_of m ts at j e low.0) low.1 in
              (ye ∙ sym is.0, yv ∙ is.1.0);
        }

    -- another token is there
    pub up_to_misses : (kind_at ts x.end ≡ Some (Mark m) → ⊥) →
        Gives (IsNoHigher expr_height room (UpTo m ts at)) at (length ts) None
    up_to_misses h =
        record {
          found = tt;
          only = λ j e low. let is =
              up_to_is j e (ended_of m ts at j e low.0) low.1 in h is.1.1;
        }
