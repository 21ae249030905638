-- A choice by `?` and `:`, read after its test.
use Rattle.std.proofs.Common.{◌≡◌, ℕ, suc, ◌+◌, ◌-◌, ◌≤◌, ◌<◌, max, Some, None, List, length, refl, sym, ◌∙◌, ap, arith}
use Rattle.c_lex.specs.declared.token.Token.{Token}
use Rattle.c_lex.specs.declared.token.TokenKind.TheVariants.{Mark}
use Rattle.c_lex.specs.declared.token.Mark.TheVariants.{Question, Colon}
use Rattle.c_ast.specs.declared.expr.Expr.{Expr}
use Rattle.c_ast.specs.declared.expr.Expr.TheVariants.{Choose}
use Rattle.c_ast.specs.Height.{expr_height}
use Rattle.c_ast.proofs.Equations.{height-Choose}
use Rattle.c_syntax.specs.declared.read.Read.{Read}
use Rattle.c_syntax.specs.Grammar.{kind_at, levels, Expression, plain, choice, BinaryAt}
use Rattle.c_syntax.specs.Readers.{Stops, IsRead, Reads}
use Rattle.c_syntax.proofs.Lookahead.{fewer_stop, question_stops, colon_stops}

-- what an expression can be
pub data Chosen (ts : List Token) (i l : ℕ) (e : Expr) : Type 0 where
  chosen_plain : BinaryAt ts levels i l e → Chosen ts i l e
  chosen_choice : (j k : ℕ) → (c a b : Expr) → BinaryAt ts levels i j c → kind_at ts j ≡
      Some (Mark Question) → Expression ts (j + 1) k a → kind_at ts k ≡ Some (Mark Colon)
      → Expression ts (k + 1) l b → e ≡ Choose c a b → Chosen ts i l e

pub chosen_of : (ts : List Token) (i l : ℕ) (e : Expr) → Expression ts i l e → Chosen ts i l e
chosen_of ts i l e (plain _ _ _ _ v) = chosen_plain v
chosen_of ts i l e (choice _ _ j k _ c a b v q w p u) = chosen_choice j k c a b v q w p u refl

-- each part of a choice is lower than the choice
parts_lower : (e c a b : Expr) (room : ℕ) → e ≡ Choose c a b → expr_height e ≤ room →
    (1 + expr_height c ≤ room) × ((1 + expr_height a ≤ room) × (1 + expr_height b ≤ room))
parts_lower e c a b room same fits =
    let here : expr_height (Choose c a b) ≡ 1 +
    max (max (expr_height c) (expr_height a)) (expr_height b) = height-Choose c a b in
    let high : expr_height e ≡ expr_height (Choose c a b) = ap expr_height same in
    (omega arith, (omega arith, omega arith))

-- an expression whose test has been read: its two values
record Split (ts : List Token) (x : Read) (room j : ℕ) (e : Expr) : Type 0 where
  middle : ℕ
  first : Expr
  other : Expr
  reads_first : Expression ts (x.end + 1) middle first
  colon : kind_at ts middle ≡ Some (Mark Colon)
  reads_other : Expression ts (middle + 1) j other
  is : e ≡ Choose x.tree first other
  first_fits : expr_height first ≤ room - 1
  other_fits : expr_height other ≤ room - 1
  test_fits : x.height < room

module _ (ts : List Token) (at room : ℕ) where
  none_only : Reads (BinaryAt ts levels) ts levels at room None → (j : ℕ) (e : Expr) →
      Chosen ts at j e → Stops ts (suc levels) j → expr_height e ≤ room → ⊥
  none_only h j e (chosen_plain l) s fits = h.only j e l (fewer_stop ts levels j s) fits
  none_only h j e (chosen_choice m k c a b l q w p u same) s fits =
      let lower = parts_lower e c a b room same fits in
      h.only m c l (question_stops ts m q) (omega arith)

  -- without a test there is no expression
  pub whole_none : Reads (BinaryAt ts levels) ts levels at room None →
      Reads (Expression ts) ts (suc levels) at room None
  whole_none h =
      record { found = tt; only = λ j e w s fits. none_only h j e (chosen_of ts at j e w) s fits }

  plain_only : (x : Read) → Reads (BinaryAt ts levels) ts levels at room (Some x) →
      (kind_at ts x.end ≡ Some (Mark Question) → ⊥) → (j : ℕ) (e : Expr) → Chosen ts at j e
      → Stops ts (suc levels) j → expr_height e ≤ room → IsRead (Some x) j e
  plain_only x h no_question j e (chosen_plain l) s fits =
      h.only j e l (fewer_stop ts levels j s) fits
  plain_only x h no_question j e (chosen_choice m k c a b l q w p u same) s fits =
      let lower = parts_lower e c a b room same fits in
      let is : (x.end ≡ m) × (x.tree ≡ c) = h.only m c l (question_stops ts m q) (omega arith) in
      absurd (no_question (rw is.0 q))

  -- where no question mark follows, the expression is read
  pub whole_plain : (x : Read) → Reads (BinaryAt ts levels) ts levels at room (Some x) →
      (kind_at ts x.end ≡ Some (Mark Question) → ⊥) →
      Reads (Expression ts) ts (suc levels) at room (Some x)
  whole_plain x h no_question = record {
    found = record {
      spelled = plain ts at x.end x.tree h.found.spelled;
      high = h.found.high;
      fits = h.found.fits;
      further = h.found.further;
      within = h.found.within;
    };
    only = λ j e w s fits. plain_only x h no_question j e (chosen_of ts at j e w) s fits;
  }

  split_of : (x : Read) → Reads (BinaryAt ts levels) ts levels at room (Some x) → kind_at ts x.end ≡
      Some (Mark Question) → (j : ℕ) (e : Expr) → Chosen ts at j e
      → Stops ts (suc levels) j → expr_height e ≤ room → Split ts x room j e
  split_of x h q j e (chosen_plain l) s fits =
      let is : (x.end ≡ j) × (x.tree ≡ e) = h.only j e l (fewer_stop ts levels j s) fits in
      let there : kind_at ts j ≡ Some (Mark Question) = rw is.0 at q in
      let past : suc levels ≤ levels = s.choice there in absurd (omega arith)
  split_of x h q j e (chosen_choice m k c a b l g w p u same) s fits =
      let lower = parts_lower e c a b room same fits in
      let is : (x.end ≡ m) × (x.tree ≡ c) = h.only m c l (question_stops ts m g) (omega arith) in
      let high : x.height ≡ expr_height x.tree = h.found.high in
      let test : expr_height x.tree ≡ expr_height c = ap expr_height is.1 in
      record {
        middle = k;
        first = a;
        other = b;
        reads_first = rw is.0 w;
        colon = p;
        reads_other = u;
        is = rw is.1 same;
        first_fits = omega arith;
        other_fits = omega arith;
        test_fits = omega arith;
      }

  module _ (x : Read) (h : Reads (BinaryAt ts levels) ts levels at room (Some x))
      (q : kind_at ts x.end ≡ Some (Mark Question)) where
    split_here : (j : ℕ) (e : Expr) → Expression ts at j e → Stops ts (suc levels) j →
        expr_height e ≤ room → Split ts x room j e
    split_here j e w s fits = split_of x h q j e (chosen_of ts at j e w) s fits

    full_only : room ≤ x.height → (j : ℕ) (e : Expr) → Split ts x room j e → ⊥
    full_only full j e p = let low : x.height < room = p.test_fits in omega arith

    -- a test that fills the room
    pub whole_full : room ≤ x.height → Reads (Expression ts) ts (suc levels) at room None
    whole_full full =
        record { found = tt; only = λ j e w s fits. full_only full j e (split_here j e w s fits) }

    -- no first value
    pub whole_valueless : Reads (Expression ts) ts (suc levels) (x.end + 1) (room - 1) None →
        Reads (Expression ts) ts (suc levels) at room None
    whole_valueless r = record {
      found = tt;
      only = λ j e w s fits.
          let p = split_here j e w s fits in r.only p.middle p.first p.reads_first
          (colon_stops ts (suc levels) p.middle p.colon) p.first_fits;
    }

    module _ (y : Read) (r : Reads (Expression ts) ts (suc levels) (x.end + 1) (room - 1) (Some y))
      where
        first_is : (j : ℕ) (e : Expr) (p : Split ts x room j e) → (y.end ≡ p.middle) ×
            (y.tree ≡ p.first)
        first_is j e p =
            r.only p.middle p.first p.reads_first (colon_stops ts (suc levels) p.middle p.colon)
            p.first_fits

        -- no colon
        pub whole_open : (kind_at ts y.end ≡ Some (Mark Colon) → ⊥) →
            Reads (Expression ts) ts (suc levels) at room None
        whole_open no_colon = record {
          found = tt;
          only = λ j e w s fits.
              let p = split_here j e w s fits in
              let is = first_is j e p in
              no_colon (rw is.0 p.colon);
        }

        -- no second value
        pub whole_halved : Reads (Expression ts) ts (suc levels) (y.end + 1) (room - 1) None →
            Reads (Expression ts) ts (suc levels) at room None
        whole_halved o = record {
          found = tt;
          only = λ j e w s fits.
              let p = split_here j e w s fits in
              let is = first_is j e p in
              let there : Expression ts (y.end + 1) j p.other = rw is.0 p.reads_other in
              o.only j p.other there s p.other_fits;
        }

        chosen_only : (z v : Read) → Reads (Expression ts) ts (suc levels) (y.end + 1) (room - 1)
            (Some z) → v.tree ≡ Choose x.tree y.tree z.tree → v.end ≡ z.end
            → (j : ℕ) (e : Expr) → Stops ts (suc levels) j → Split ts x room j e →
            IsRead (Some v) j e
        chosen_only z v o vt ve j e s p =
            let is = first_is j e p in
            let there : Expression ts (y.end + 1) j p.other = rw is.0 p.reads_other in
            let that : (z.end ≡ j) × (z.tree ≡ p.other) = o.only j p.other there s p.other_fits in
            let tree : Choose x.tree y.tree z.tree ≡ Choose x.tree p.first p.other =
            rw (is.1, that.1) refl in
            (ve ∙ that.0, vt ∙ (tree ∙ sym p.is))

        -- the whole choice
        pub whole_choice : (z v : Read) → kind_at ts y.end ≡ Some (Mark Colon) → x.height < room →
            Reads (Expression ts) ts (suc levels) (y.end + 1) (room - 1) (Some z)
            → v.tree ≡ Choose x.tree y.tree z.tree → v.end ≡ z.end → v.height ≡ 1 +
            max (max x.height y.height) z.height →
            Reads (Expression ts) ts (suc levels) at room (Some v)
        whole_choice z v c low o vt ve vh =
            let here : expr_height (Choose x.tree y.tree z.tree) ≡ 1 +
            max (max (expr_height x.tree) (expr_height y.tree)) (expr_height z.tree) =
            height-Choose x.tree y.tree z.tree in
            let tree_high : expr_height v.tree ≡ expr_height (Choose x.tree y.tree z.tree) =
            ap expr_height vt in
            let test_high : x.height ≡ expr_height x.tree = h.found.high in
            let first_high : y.height ≡ expr_height y.tree = r.found.high in
            let other_high : z.height ≡ expr_height z.tree = o.found.high in
            let first_fits : y.height ≤ room - 1 = r.found.fits in
            let other_fits : z.height ≤ room - 1 = o.found.fits in
            let f1 : at < x.end = h.found.further in
            let f2 : x.end + 1 < y.end = r.found.further in
            let f3 : y.end + 1 < z.end = o.found.further in
            let within : z.end ≤ length ts = o.found.within in
            record {
              found = record {
                spelled =
                    rw (ve, vt) (choice ts at x.end y.end z.end x.tree y.tree z.tree h.found.spelled
                    q
                    r.found.spelled c o.found.spelled);
                high = omega arith;
                fits = omega arith;
                further = omega arith;
                within = omega arith;
              };
              only = λ j e w s fits. chosen_only z v o vt ve j e s (split_here j e w s fits);
            }
