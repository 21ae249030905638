-- A chain of operators of one level, read from left to right: one turn of the loop, and its ends.
use Rattle.std.proofs.Common.{◌≡◌, ℕ, suc, ◌+◌, ◌-◌, ◌≤◌, ◌<◌, max, Option, Some, None, List, length, refl, ◌∙◌, ap, subst, arith}
use Rattle.c_lex.specs.declared.token.Token.{Token}
use Rattle.c_ast.specs.declared.expr.BinOp.{BinOp}
use Rattle.c_ast.specs.declared.expr.Expr.{Expr}
use Rattle.c_ast.specs.declared.expr.Expr.TheVariants.{Binary}
use Rattle.c_ast.specs.Height.{expr_height}
use Rattle.c_ast.proofs.Equations.{height-Binary}
use Rattle.c_syntax.specs.declared.read.Read.{Read}
use Rattle.c_syntax.specs.Grammar.{kind_at, infixed, binary_of, BinaryAt, chain, Operands, done, more}
use Rattle.c_syntax.specs.Readers.{Stops, IsRead, Reads, Turning}
use Rattle.c_syntax.proofs.Lookahead.{rest_stops, rest_higher}

-- the two parts of a chain
data Turned (ts : List Token) (n i k : ℕ) (e : Expr) : Type 0 where
  turned : (j : ℕ) → (a : Expr) → BinaryAt ts n i j a → Operands ts n a j k e → Turned ts n i k e

reversed_of : (ts : List Token) (n i k : ℕ) (e : Expr) → BinaryAt ts (suc n) i k e → Turned ts n i k e
reversed_of ts n i k e (chain _ _ _ j _ a _ l r) = turned j a l r

-- how a chain goes on after an operand
pub data Going (ts : List Token) (n : ℕ) (a : Expr) (i k : ℕ) (e : Expr) : Type 0 where
  stopped : i ≡ k → a ≡ e → Going ts n a i k e
  went : (j : ℕ) → (op : BinOp) → (b : Expr) → binary_of (kind_at ts i) ≡ Some (infixed n op) →
      BinaryAt ts n (i + 1) j b
      → Operands ts n (Binary op a b) j k e → Going ts n a i k e

pub going_of : (ts : List Token) (n : ℕ) (a : Expr) (i k : ℕ) (e : Expr) → Operands ts n a i k e →
    Going ts n a i k e
going_of ts n a i k e (done _ _ _ _) = stopped refl refl
going_of ts n a i k e (more _ _ _ _ j _ op b _ h l r) = went j op b h l r

-- where an operator of the level is, the level doesn't stop
pub not_stopped : (ts : List Token) (n i j : ℕ) (op : BinOp) → binary_of (kind_at ts i) ≡
    Some (infixed n op) → i ≡ j → Stops ts (suc n) j → ⊥
not_stopped ts n i j op h same s =
    let here : binary_of (kind_at ts j) ≡ Some (infixed n op) = rw (← same) h in
    let above : suc n ≤ n = s.operator n op here in omega arith

-- an operand and the operator before it are lower than the whole chain
operand_lower : (ts : List Token) (n : ℕ) (op : BinOp) (a b : Expr) (j k : ℕ) (e : Expr) →
    Operands ts n (Binary op a b) j k e
    → (1 + expr_height a ≤ expr_height e) × (1 + expr_height b ≤ expr_height e)
operand_lower ts n op a b j k e r =
    let higher : expr_height (Binary op a b) ≤ expr_height e =
    rest_higher ts n (Binary op a b) j k e r in
    let here : expr_height (Binary op a b) ≡ 1 + max (expr_height a) (expr_height b) =
    height-Binary op a b in
    (omega arith, omega arith)

module _ (ts : List Token) (n at room : ℕ) where
  -- after its first operand a chain can be whatever it can be as a whole
  begun_only : (x : Read) → Reads (BinaryAt ts n) ts n at room (Some x) → (j : ℕ) (e : Expr) →
      Turned ts n at j e → Stops ts (suc n) j
      → expr_height e ≤ room → Operands ts n x.tree x.end j e
  begun_only x h j e (turned k a l r) s fits =
      let higher : expr_height a ≤ expr_height e = rest_higher ts n a k j e r in
      let is : (x.end ≡ k) × (x.tree ≡ a) = h.only k a l (rest_stops ts n a k j e r s) (omega arith)
      in
      rw (is.0, is.1) r

  pub turning_begins : (x : Read) → Reads (BinaryAt ts n) ts n at room (Some x) →
      Turning ts n at room x
  turning_begins x h = record {
    forward = λ j e r. chain ts n at x.end j x.tree e h.found.spelled r;
    only = λ j e l s fits. begun_only x h j e (reversed_of ts n at j e l) s fits;
    high = h.found.high;
    fits = h.found.fits;
    further = h.found.further;
    within = h.found.within;
  }

  none_only : Reads (BinaryAt ts n) ts n at room None → (j : ℕ) (e : Expr) → Turned ts n at j e →
      Stops ts (suc n) j → expr_height e ≤ room → ⊥
  none_only h j e (turned k a l r) s fits =
      let higher : expr_height a ≤ expr_height e = rest_higher ts n a k j e r in
      h.only k a l (rest_stops ts n a k j e r s) (omega arith)

  -- without a first operand there is no chain
  pub turning_none : Reads (BinaryAt ts n) ts n at room None →
      Reads (BinaryAt ts (suc n)) ts (suc n) at room None
  turning_none h =
      record { found = tt; only = λ j e l s fits. none_only h j e (reversed_of ts n at j e l) s fits }

  ended_only : (x : Read) → ((op : BinOp) → binary_of (kind_at ts x.end) ≡ Some (infixed n op) → ⊥)
      → (j : ℕ) (e : Expr)
      → Going ts n x.tree x.end j e → IsRead (Some x) j e
  ended_only x no_operator j e (stopped p q) = (p, q)
  ended_only x no_operator j e (went k op b h l r) = absurd (no_operator op h)

  -- where no operator of the level follows, the chain is read
  pub turning_ends : (x : Read) → Turning ts n at room x →
      ((op : BinOp) → binary_of (kind_at ts x.end) ≡ Some (infixed n op) → ⊥)
      → Reads (BinaryAt ts (suc n)) ts (suc n) at room (Some x)
  turning_ends x t no_operator = record {
    found = record {
      spelled = t.forward x.end x.tree (done ts n x.tree x.end);
      high = t.high;
      fits = t.fits;
      further = t.further;
      within = t.within;
    };
    only =
        λ j e l s fits. ended_only x no_operator j e
        (going_of ts n x.tree x.end j e (t.only j e l s fits));
  }

  full_only : (x : Read) (op : BinOp) → Turning ts n at room x → binary_of (kind_at ts x.end) ≡
      Some (infixed n op) → room ≤ x.height → (j : ℕ) (e : Expr)
      → Going ts n x.tree x.end j e → Stops ts (suc n) j → expr_height e ≤ room → ⊥
  full_only x op t o full j e (stopped p q) s fits = not_stopped ts n x.end j op o p s
  full_only x op t o full j e (went k other b h l r) s fits =
      let lower : (1 + expr_height x.tree ≤ expr_height e) × (1 + expr_height b ≤ expr_height e) =
      operand_lower ts n other x.tree b k j e r in
      let high : x.height ≡ expr_height x.tree = t.high in
      omega arith

  -- where the tree fills the room and an operator follows, nothing low enough is spelled
  pub turning_full : (x : Read) (op : BinOp) → Turning ts n at room x →
      binary_of (kind_at ts x.end) ≡ Some (infixed n op) → room ≤ x.height
      → Reads (BinaryAt ts (suc n)) ts (suc n) at room None
  turning_full x op t o full = record {
    found = tt;
    only =
        λ j e l s fits. full_only x op t o full j e
        (going_of ts n x.tree x.end j e (t.only j e l s fits)) s fits;
  }

  broken_only : (x : Read) (op : BinOp) → binary_of (kind_at ts x.end) ≡ Some (infixed n op) →
      Reads (BinaryAt ts n) ts n (x.end + 1) (room - 1) None
      → (j : ℕ) (e : Expr) → Going ts n x.tree x.end j e → Stops ts (suc n) j → expr_height e ≤
      room → ⊥
  broken_only x op o h j e (stopped p q) s fits = not_stopped ts n x.end j op o p s
  broken_only x op o h j e (went k other b g l r) s fits =
      let lower : (1 + expr_height x.tree ≤ expr_height e) × (1 + expr_height b ≤ expr_height e) =
      operand_lower ts n other x.tree b k j e r in
      h.only k b l (rest_stops ts n (Binary other x.tree b) k j e r s) (omega arith)

  -- where an operator follows and no operand after it, nothing low enough is spelled
  pub turning_breaks : (x : Read) (op : BinOp) → Turning ts n at room x →
      binary_of (kind_at ts x.end) ≡ Some (infixed n op)
      → Reads (BinaryAt ts n) ts n (x.end + 1) (room - 1) None →
      Reads (BinaryAt ts (suc n)) ts (suc n) at room None
  turning_breaks x op t o h = record {
    found = tt;
    only =
        λ j e l s fits. broken_only x op o h j e
        (going_of ts n x.tree x.end j e (t.only j e l s fits)) s fits;
  }

  went_only : (x y z : Read) (op : BinOp) → binary_of (kind_at ts x.end) ≡ Some (infixed n op) →
      Reads (BinaryAt ts n) ts n (x.end + 1) (room - 1) (Some y)
      → z.tree ≡ Binary op x.tree y.tree → z.end ≡ y.end → (j : ℕ) (e : Expr) →
      Going ts n x.tree x.end j e → Stops ts (suc n) j → expr_height e ≤ room
      → Operands ts n z.tree z.end j e
  went_only x y z op o h zt ze j e (stopped p q) s fits = absurd (not_stopped ts n x.end j op o p s)
  went_only x y z op o h zt ze j e (went k other b g l r) s fits =
      let lower : (1 + expr_height x.tree ≤ expr_height e) × (1 + expr_height b ≤ expr_height e) =
      operand_lower ts n other x.tree b k j e r in
      let is : (y.end ≡ k) × (y.tree ≡ b) = h.only k b l
      (rest_stops ts n (Binary other x.tree b) k j e r s) (omega arith) in
      let same : op ≡ other = cc in
      let end_is : z.end ≡ k = ze ∙ is.0 in
      let tree_is : z.tree ≡ Binary other x.tree b = cc in
      rw (end_is, tree_is) r

  -- one turn: an operator and its right operand join the tree
  pub turning_goes : (x y z : Read) (op : BinOp) → Turning ts n at room x →
      binary_of (kind_at ts x.end) ≡ Some (infixed n op) → x.height < room
      → Reads (BinaryAt ts n) ts n (x.end + 1) (room - 1) (Some y)
      → z.tree ≡ Binary op x.tree y.tree → z.end ≡ y.end → z.height ≡ 1 + max x.height y.height →
      Turning ts n at room z
  turning_goes x y z op t o low h zt ze zh =
      let here : expr_height (Binary op x.tree y.tree) ≡ 1 +
      max (expr_height x.tree) (expr_height y.tree) = height-Binary op x.tree y.tree in
      let left : x.height ≡ expr_height x.tree = t.high in
      let right : y.height ≡ expr_height y.tree = h.found.high in
      let right_fits : y.height ≤ room - 1 = h.found.fits in
      let further : at < x.end = t.further in
      let right_rest : x.end + 1 < y.end = h.found.further in
      let right_within : y.end ≤ length ts = h.found.within in
      let tree_high : expr_height z.tree ≡ expr_height (Binary op x.tree y.tree) =
      ap expr_height zt in
      record {
        forward =
            λ j e r. t.forward j e (more ts n x.tree x.end y.end j op y.tree e o h.found.spelled
            (rw (ze, zt) at r));
        only =
            λ j e l s fits. went_only x y z op o h zt ze j e
            (going_of ts n x.tree x.end j e (t.only j e l s fits)) s fits;
        high = omega arith;
        fits = omega arith;
        further = omega arith;
        within = omega arith;
      }

-- what is promised at a level is promised at an equal one
pub at_level : (ts : List Token) (n m at room : ℕ) (r : Option Read) → n ≡ m →
    Reads (BinaryAt ts n) ts n at room r → Reads (BinaryAt ts m) ts m at room r
at_level ts n m at room r same h = subst (λ (k : ℕ). Reads (BinaryAt ts k) ts k at room r) same h
