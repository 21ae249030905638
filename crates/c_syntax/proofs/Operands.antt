-- Operands: a literal, a name, a call, or an expression in parentheses, with the operators before
-- it.
use Rattle.std.proofs.Common.{◌≡◌, ℕ, ℤ, zero, suc, ◌+◌, ◌-◌, ◌≤◌, ◌<◌, Option, Some, None, Result, Ok, Err, IfOk, List, length, map, refl, sym, ◌∙◌, ap, arith}
use Rattle.c_lex.specs.declared.token.Token.{Token}
use Rattle.c_lex.specs.declared.token.TokenKind.TheVariants.{Name, Number, Mark}
use Rattle.c_lex.specs.declared.token.Mark.TheVariants.{LeftParen, RightParen}
use Rattle.c_ast.specs.declared.expr.UnOp.{UnOp}
use Rattle.c_ast.specs.declared.expr.Expr.{Expr}
use Rattle.c_ast.specs.declared.expr.Expr.TheVariants.{Lit, Var, Unary, Apply}
use Rattle.c_ast.specs.Height.{greatest, expr_height}
use Rattle.c_ast.proofs.Equations.{height-Lit, height-Var, height-Unary, height-Apply, height-positive}
use Rattle.c_syntax.specs.declared.read.Read.{Read}
use Rattle.c_syntax.specs.declared.read.ReadArguments.{ReadArguments}
use Rattle.c_syntax.specs.Grammar.{kind_at, unary_of, levels, Expression, BinaryAt, signed, UnaryExpression, unsigned, prefixed, PrimaryExpression, number, name, call, parens, Arguments}
use Rattle.c_syntax.specs.Readers.{Stops, Found, IsRead, Reads, ReadsList}
use Rattle.c_syntax.proofs.Lookahead.{kind_within, paren_stops}

-- what an operand without operators before it can be
pub data Leaf (ts : List Token) (i j : ℕ) (e : Expr) : Type 0 where
  leaf_number : (value : ℤ) → kind_at ts i ≡ Some (Number value) → j ≡ i + 1 → e ≡ Lit value →
      Leaf ts i j e
  leaf_name : kind_at ts i ≡ Some Name → j ≡ i + 1 → e ≡ Var i → Leaf ts i j e
  leaf_call : (es : List Expr) → kind_at ts i ≡ Some Name → kind_at ts (i + 1) ≡
      Some (Mark LeftParen) → Arguments ts (i + 2) j es → e ≡ Apply i es → Leaf ts i j e
  leaf_parens : (k : ℕ) → kind_at ts i ≡ Some (Mark LeftParen) → Expression ts (i + 1) k e →
      kind_at ts k ≡ Some (Mark RightParen) → j ≡ k + 1 → Leaf ts i j e

pub leaf_of : (ts : List Token) (i j : ℕ) (e : Expr) → PrimaryExpression ts i j e → Leaf ts i j e
leaf_of ts i j e (number _ _ value h) = leaf_number value h refl refl
leaf_of ts i j e (name _ _ h) = leaf_name h refl refl
leaf_of ts i j e (call _ _ _ es h p r) = leaf_call es h p r refl
leaf_of ts i j e (parens _ _ k _ h w c) = leaf_parens k h w c refl

-- an operand begins with no operator
pub no_sign : (ts : List Token) (i j : ℕ) (e : Expr) → Leaf ts i j e → unary_of (kind_at ts i) ≡
    None
no_sign ts i j e (leaf_number value h p q) = rw h refl
no_sign ts i j e (leaf_name h p q) = rw h refl
no_sign ts i j e (leaf_call es h p r q) = rw h refl
no_sign ts i j e (leaf_parens k h w c p) = rw h refl

-- what an operand can be
pub data Prefix (ts : List Token) (i j : ℕ) (e : Expr) : Type 0 where
  prefix_none : PrimaryExpression ts i j e → Prefix ts i j e
  prefix_some : (op : UnOp) → (a : Expr) → unary_of (kind_at ts i) ≡ Some op →
      UnaryExpression ts (i + 1) j a → e ≡ Unary op a → Prefix ts i j e

pub prefix_of : (ts : List Token) (i j : ℕ) (e : Expr) → UnaryExpression ts i j e → Prefix ts i j e
prefix_of ts i j e (unsigned _ _ _ _ p) = prefix_none p
prefix_of ts i j e (prefixed _ _ _ op a h s) = prefix_some op a h s refl

-- an expression without operators between operands is an operand
pub signed_of : (ts : List Token) (i j : ℕ) (e : Expr) → BinaryAt ts zero i j e →
    UnaryExpression ts i j e
signed_of ts i j e (signed _ _ _ _ s) = s

module _ (ts : List Token) (at room : ℕ) where
  unsigned_found : (r : Option Read) → Found (PrimaryExpression ts) ts at room r →
      Found (BinaryAt ts zero) ts at room r
  unsigned_found None h = tt
  unsigned_found (Some x) h = record {
    spelled = signed ts at x.end x.tree (unsigned ts at x.end x.tree h.spelled);
    high = h.high;
    fits = h.fits;
    further = h.further;
    within = h.within;
  }

  unsigned_only : (r : Option Read) → unary_of (kind_at ts at) ≡ None →
      Reads (PrimaryExpression ts) ts zero at room r → (j : ℕ) (e : Expr) → Prefix ts at j e
      → Stops ts zero j → expr_height e ≤ room → IsRead r j e
  unsigned_only r h p j e (prefix_none q) s fits = p.only j e q s fits
  unsigned_only r h p j e (prefix_some op a g q same) s fits =
      let contradiction : None ≡ Some op = sym h ∙ g in absurd cc

  -- where no operator is before it, an operand is what it is alone
  pub reads_unsigned : (r : Option Read) → unary_of (kind_at ts at) ≡ None →
      Reads (PrimaryExpression ts) ts zero at room r → Reads (BinaryAt ts zero) ts zero at room r
  reads_unsigned r h p = record {
    found = unsigned_found r p.found;
    only =
        λ j e l s fits. unsigned_only r h p j e (prefix_of ts at j e (signed_of ts at j e l)) s
        fits;
  }

  signless : (op : UnOp) (j : ℕ) (e : Expr) → unary_of (kind_at ts at) ≡ Some op → Leaf ts at j e →
      ⊥
  signless op j e h l = let contradiction : None ≡ Some op = sym (no_sign ts at j e l) ∙ h in cc

  crowded_only : (op : UnOp) → unary_of (kind_at ts at) ≡ Some op → room ≡ 1 → (j : ℕ) (e : Expr) →
      Prefix ts at j e → expr_height e ≤ room → ⊥
  crowded_only op h one j e (prefix_none q) fits = signless op j e h (leaf_of ts at j e q)
  crowded_only op h one j e (prefix_some other a g q same) fits =
      let here : expr_height (Unary other a) ≡ 1 + expr_height a = height-Unary other a in
      let high : expr_height e ≡ expr_height (Unary other a) = ap expr_height same in
      let some : 1 ≤ expr_height a = height-positive a in
      omega arith

  -- an operator has no room for its operand
  pub reads_crowded : (op : UnOp) → unary_of (kind_at ts at) ≡ Some op → room ≡ 1 →
      Reads (BinaryAt ts zero) ts zero at room None
  reads_crowded op h one =
      record {
        found = tt;
        only = λ j e l s fits. crowded_only op h one j e
            (prefix_of ts at j e (signed_of ts at j e l)) fits;
      }

  bare_only : (op : UnOp) → unary_of (kind_at ts at) ≡ Some op →
      Reads (BinaryAt ts zero) ts zero (at + 1) (room - 1) None → (j : ℕ) (e : Expr) →
      Prefix ts at j e
      → Stops ts zero j → expr_height e ≤ room → ⊥
  bare_only op h r j e (prefix_none q) s fits = signless op j e h (leaf_of ts at j e q)
  bare_only op h r j e (prefix_some other a g q same) s fits =
      let here : expr_height (Unary other a) ≡ 1 + expr_height a = height-Unary other a in
      let high : expr_height e ≡ expr_height (Unary other a) = ap expr_height same in
      r.only j a (signed ts (at + 1) j a q) s (omega arith)

  -- an operator without an operand
  pub reads_bare : (op : UnOp) → unary_of (kind_at ts at) ≡ Some op →
      Reads (BinaryAt ts zero) ts zero (at + 1) (room - 1) None →
      Reads (BinaryAt ts zero) ts zero at room None
  reads_bare op h r =
      record {
        found = tt;
        only = λ j e l s fits. bare_only op h r j e
            (prefix_of ts at j e (signed_of ts at j e l)) s fits;
      }

  prefixed_only : (op : UnOp) (x y : Read) → unary_of (kind_at ts at) ≡ Some op →
      Reads (BinaryAt ts zero) ts zero (at + 1) (room - 1) (Some x) → y.tree ≡ Unary op x.tree
      → y.end ≡ x.end → (j : ℕ) (e : Expr) → Prefix ts at j e → Stops ts zero j → expr_height e ≤
      room → IsRead (Some y) j e
  prefixed_only op x y h r yt ye j e (prefix_none q) s fits =
      absurd (signless op j e h (leaf_of ts at j e q))
  prefixed_only op x y h r yt ye j e (prefix_some other a g q same) s fits =
      let here : expr_height (Unary other a) ≡ 1 + expr_height a = height-Unary other a in
      let high : expr_height e ≡ expr_height (Unary other a) = ap expr_height same in
      let is : (x.end ≡ j) × (x.tree ≡ a) = r.only j a (signed ts (at + 1) j a q) s (omega arith) in
      let one : op ≡ other = cc in
      let tree : Unary op x.tree ≡ Unary other a = rw (one, is.1) refl in
      (ye ∙ is.0, yt ∙ (tree ∙ sym same))

  -- an operator with its operand
  pub reads_prefixed : (op : UnOp) (x y : Read) → unary_of (kind_at ts at) ≡ Some op → 1 < room →
      Reads (BinaryAt ts zero) ts zero (at + 1) (room - 1) (Some x)
      → y.tree ≡ Unary op x.tree → y.end ≡ x.end → y.height ≡ 1 + x.height →
      Reads (BinaryAt ts zero) ts zero at room (Some y)
  reads_prefixed op x y h some r yt ye yh =
      let here : expr_height (Unary op x.tree) ≡ 1 + expr_height x.tree = height-Unary op x.tree in
      let tree_high : expr_height y.tree ≡ expr_height (Unary op x.tree) = ap expr_height yt in
      let high : x.height ≡ expr_height x.tree = r.found.high in
      let fits : x.height ≤ room - 1 = r.found.fits in
      let further : at + 1 < x.end = r.found.further in
      let within : x.end ≤ length ts = r.found.within in
      record {
        found = record {
          spelled =
              rw (ye, yt) (signed ts at x.end (Unary op x.tree)
              (prefixed ts at x.end op x.tree h
              (signed_of ts (at + 1) x.end x.tree r.found.spelled)));
          high = omega arith;
          fits = omega arith;
          further = omega arith;
          within = omega arith;
        };
        only =
            λ j e l s fits'. prefixed_only op x y h r yt ye j e
            (prefix_of ts at j e (signed_of ts at j e l)) s fits';
      }

  number_only : (value : ℤ) (x : Read) → kind_at ts at ≡ Some (Number value) → x.end ≡ at + 1 →
      x.tree ≡ Lit value → (j : ℕ) (e : Expr) → Leaf ts at j e → IsRead (Some x) j e
  number_only value x h xe xt j e (leaf_number other g p q) = (cc, cc)
  number_only value x h xe xt j e (leaf_name g p q) = cc
  number_only value x h xe xt j e (leaf_call es g p r q) = cc
  number_only value x h xe xt j e (leaf_parens k g w c p) = cc

  -- a literal
  pub reads_number : (value : ℤ) (x : Read) → kind_at ts at ≡ Some (Number value) → 0 < room →
      x.end ≡ at + 1 → x.tree ≡ Lit value → x.height ≡ 1
      → Reads (PrimaryExpression ts) ts zero at room (Some x)
  reads_number value x h some xe xt xh =
      let here : at < length ts = kind_within ts at (Number value) h in
      let high : expr_height x.tree ≡ expr_height (Lit value) = ap expr_height xt in
      let one : expr_height (Lit value) ≡ 1 = height-Lit value in
      record {
        found = record {
          spelled = rw (xe, xt) (number ts at value h);
          high = omega arith;
          fits = omega arith;
          further = omega arith;
          within = omega arith;
        };
        only = λ j e p s fits. number_only value x h xe xt j e (leaf_of ts at j e p);
      }

  name_only : (x : Read) → kind_at ts at ≡ Some Name →
      (kind_at ts (at + 1) ≡ Some (Mark LeftParen) → ⊥) → x.end ≡ at + 1 → x.tree ≡ Var at →
      (j : ℕ) (e : Expr)
      → Leaf ts at j e → IsRead (Some x) j e
  name_only x h alone xe xt j e (leaf_number other g p q) = cc
  name_only x h alone xe xt j e (leaf_name g p q) = (cc, cc)
  name_only x h alone xe xt j e (leaf_call es g p r q) = absurd (alone p)
  name_only x h alone xe xt j e (leaf_parens k g w c p) = cc

  -- a name
  pub reads_name : (x : Read) → kind_at ts at ≡ Some Name →
      (kind_at ts (at + 1) ≡ Some (Mark LeftParen) → ⊥) → 0 < room → x.end ≡ at + 1 → x.tree ≡
      Var at → x.height ≡ 1
      → Reads (PrimaryExpression ts) ts zero at room (Some x)
  reads_name x h alone some xe xt xh =
      let here : at < length ts = kind_within ts at Name h in
      let high : expr_height x.tree ≡ expr_height (Var at) = ap expr_height xt in
      let one : expr_height (Var at) ≡ 1 = height-Var at in
      record {
        found = record {
          spelled = rw (xe, xt) (name ts at h);
          high = omega arith;
          fits = omega arith;
          further = omega arith;
          within = omega arith;
        };
        only = λ j e p s fits. name_only x h alone xe xt j e (leaf_of ts at j e p);
      }

  -- a call is one higher than its arguments
  arguments_fit : (e : Expr) (es : List Expr) → e ≡ Apply at es → expr_height e ≤ room →
      greatest (map expr_height es) ≤ room - 1
  arguments_fit e es same fits =
      let here : expr_height (Apply at es) ≡ 1 + greatest (map expr_height es) =
      height-Apply at es in
      let high : expr_height e ≡ expr_height (Apply at es) = ap expr_height same in omega arith

  call_only : (x : ReadArguments) (y : Read) → kind_at ts at ≡ Some Name → kind_at ts (at + 1) ≡
      Some (Mark LeftParen) → ReadsList ts (at + 2) (room - 1) (Some x)
      → y.tree ≡ Apply at x.arguments → y.end ≡ x.end → (j : ℕ) (e : Expr) → Leaf ts at j e →
      Stops ts zero j → expr_height e ≤ room → IsRead (Some y) j e
  call_only x y h o r yt ye j e (leaf_number other g p q) s fits = cc
  call_only x y h o r yt ye j e (leaf_name g p q) s fits = absurd (s.call (rw p o))
  call_only x y h o r yt ye j e (leaf_call es g p a q) s fits =
      let is : (x.end ≡ j) × (x.arguments ≡ es) = r.only j es a (arguments_fit e es q fits) in
      (ye ∙ is.0, yt ∙ (ap (λ zs. Apply at zs) is.1 ∙ sym q))
  call_only x y h o r yt ye j e (leaf_parens k g w c p) s fits = cc

  -- a call
  pub reads_call : (x : ReadArguments) (y : Read) → kind_at ts at ≡ Some Name →
      kind_at ts (at + 1) ≡ Some (Mark LeftParen) → 0 < room →
      ReadsList ts (at + 2) (room - 1) (Some x)
      → y.tree ≡ Apply at x.arguments → y.end ≡ x.end → y.height ≡ 1 + x.height →
      Reads (PrimaryExpression ts) ts zero at room (Some y)
  reads_call x y h o some r yt ye yh =
      let here : expr_height (Apply at x.arguments) ≡ 1 + greatest (map expr_height x.arguments) =
      height-Apply at x.arguments in
      let tree_high : expr_height y.tree ≡ expr_height (Apply at x.arguments) = ap expr_height yt in
      let high : x.height ≡ greatest (map expr_height x.arguments) = r.found.high in
      let fits : x.height ≤ room - 1 = r.found.fits in
      let further : at + 2 < x.end = r.found.further in
      let within : x.end ≤ length ts = r.found.within in
      record {
        found = record {
          spelled = rw (ye, yt) (call ts at x.end x.arguments h o r.found.spelled);
          high = omega arith;
          fits = omega arith;
          further = omega arith;
          within = omega arith;
        };
        only = λ j e p s fits'. call_only x y h o r yt ye j e (leaf_of ts at j e p) s fits';
      }

  uncalled_only : kind_at ts at ≡ Some Name → kind_at ts (at + 1) ≡ Some (Mark LeftParen) →
      ReadsList ts (at + 2) (room - 1) None → (j : ℕ) (e : Expr) → Leaf ts at j e
      → Stops ts zero j → expr_height e ≤ room → ⊥
  uncalled_only h o r j e (leaf_number other g p q) s fits = cc
  uncalled_only h o r j e (leaf_name g p q) s fits = s.call (rw p o)
  uncalled_only h o r j e (leaf_call es g p a q) s fits = r.only j es a (arguments_fit e es q fits)
  uncalled_only h o r j e (leaf_parens k g w c p) s fits = cc

  -- a call whose arguments can't be read
  pub reads_uncalled : kind_at ts at ≡ Some Name → kind_at ts (at + 1) ≡ Some (Mark LeftParen) →
      ReadsList ts (at + 2) (room - 1) None → Reads (PrimaryExpression ts) ts zero at room None
  reads_uncalled h o r =
      record {
        found = tt;
        only = λ j e p s fits. uncalled_only h o r j e (leaf_of ts at j e p) s
            fits;
      }

  parens_only : (x y : Read) → kind_at ts at ≡ Some (Mark LeftParen) →
      Reads (Expression ts) ts (suc levels) (at + 1) room (Some x)
      → y.tree ≡ x.tree → y.end ≡ x.end + 1 → (j : ℕ) (e : Expr) → Leaf ts at j e → expr_height e ≤
      room → IsRead (Some y) j e
  parens_only x y h r yt ye j e (leaf_number value g p q) fits = cc
  parens_only x y h r yt ye j e (leaf_name g p q) fits = cc
  parens_only x y h r yt ye j e (leaf_call es g p a q) fits = cc
  parens_only x y h r yt ye j e (leaf_parens k g w c p) fits =
      let is : (x.end ≡ k) × (x.tree ≡ e) = r.only k e w (paren_stops ts (suc levels) k c) fits in
      (cc, yt ∙ is.1)

  -- an expression in parentheses
  pub reads_parens : (x y : Read) → kind_at ts at ≡ Some (Mark LeftParen) →
      Reads (Expression ts) ts (suc levels) (at + 1) room (Some x) → kind_at ts x.end ≡
      Some (Mark RightParen)
      → y.tree ≡ x.tree → y.end ≡ x.end + 1 → y.height ≡ x.height →
      Reads (PrimaryExpression ts) ts zero at room (Some y)
  reads_parens x y h r c yt ye yh =
      let closes : x.end < length ts = kind_within ts x.end (Mark RightParen) c in
      let further : at + 1 < x.end = r.found.further in
      let fits : x.height ≤ room = r.found.fits in
      let high : x.height ≡ expr_height x.tree = r.found.high in
      let same : expr_height y.tree ≡ expr_height x.tree = ap expr_height yt in
      record {
        found = record {
          spelled = rw (ye, yt) (parens ts at x.end x.tree h r.found.spelled c);
          high = omega arith;
          fits = omega arith;
          further = omega arith;
          within = omega arith;
        };
        only = λ j e p s fits'. parens_only x y h r yt ye j e (leaf_of ts at j e p) fits';
      }

  open_only : (x : Read) → kind_at ts at ≡ Some (Mark LeftParen) →
      Reads (Expression ts) ts (suc levels) (at + 1) room (Some x) →
      (kind_at ts x.end ≡ Some (Mark RightParen) → ⊥)
      → (j : ℕ) (e : Expr) → Leaf ts at j e → expr_height e ≤ room → ⊥
  open_only x h r unclosed j e (leaf_number value g p q) fits = cc
  open_only x h r unclosed j e (leaf_name g p q) fits = cc
  open_only x h r unclosed j e (leaf_call es g p a q) fits = cc
  open_only x h r unclosed j e (leaf_parens k g w c p) fits =
      let is : (x.end ≡ k) × (x.tree ≡ e) = r.only k e w (paren_stops ts (suc levels) k c) fits in
      unclosed (rw is.0 c)

  -- a parenthesis that isn't closed spells nothing
  pub reads_open : (x : Read) → kind_at ts at ≡ Some (Mark LeftParen) →
      Reads (Expression ts) ts (suc levels) (at + 1) room (Some x) →
      (kind_at ts x.end ≡ Some (Mark RightParen) → ⊥)
      → Reads (PrimaryExpression ts) ts zero at room None
  reads_open x h r unclosed =
      record {
        found = tt;
        only = λ j e p s fits. open_only x h r unclosed j e (leaf_of ts at j e p)
            fits;
      }

-- the same of a reader's answer, in which out of memory is free
pub answers_unsigned : {E : Type 0} (ts : List Token) (at room : ℕ) (r : Result (Option Read) E) →
    unary_of (kind_at ts at) ≡ None
    → IfOk r (Reads (PrimaryExpression ts) ts zero at room) →
    IfOk r (Reads (BinaryAt ts zero) ts zero at room)
answers_unsigned ts at room (Ok x) h p = reads_unsigned ts at room x h p
answers_unsigned ts at room (Err e) h p = tt
