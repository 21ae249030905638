-- An expression and its end are determined by where it begins.
use Rattle.std.proofs.Common.{◌≡◌, ℕ, zero, suc, ◌+◌, ◌≤◌, Some, None, List, ◌∷◌, refl, sym, ◌∙◌, ap, arith}
use Rattle.c_lex.specs.declared.token.Token.{Token}
use Rattle.c_lex.specs.declared.token.TokenKind.TheVariants.{Mark}
use Rattle.c_lex.specs.declared.token.Mark.TheVariants.{Question}
use Rattle.c_ast.specs.declared.expr.Expr.{Expr}
use Rattle.c_ast.specs.declared.expr.UnOp.{UnOp}
use Rattle.c_ast.specs.declared.expr.Expr.TheVariants.{Unary, Binary, Choose, Apply}
use Rattle.c_syntax.specs.Grammar.{kind_at, unary_of, levels, Expression, plain, choice, BinaryAt, signed, chain, Operands, done, more, UnaryExpression, unsigned, prefixed, PrimaryExpression, number, name, call, parens, Arguments, no_arguments, arguments, Following, last_argument, next_argument}
use Rattle.c_syntax.specs.Readers.{Stops}
use Rattle.c_syntax.proofs.Lookahead.{rest_stops, fewer_stop, question_stops, colon_stops, paren_stops}
use Rattle.c_syntax.proofs.Choices.{Chosen, chosen_plain, chosen_choice, chosen_of}
use Rattle.c_syntax.proofs.Passing.{Given, given_none, given_some, given_of, Gone, gone_last, gone_next, gone_of, argument_stops, whole_opens}
use Rattle.c_syntax.proofs.Chains.{Going, stopped, went, going_of, not_stopped}
use Rattle.c_syntax.proofs.Operands.{Leaf, leaf_number, leaf_name, leaf_call, leaf_parens, leaf_of, no_sign, Prefix, prefix_none, prefix_some, prefix_of, signed_of}

-- the two ends and the two values are the same
abbrev pub Same : {A : Type 0} → ℕ → ℕ → A → A → Type 0
Same j k x y = (j ≡ k) × (x ≡ y)

-- the two parts of a chain
record Halves (ts : List Token) (n i k : ℕ) (e : Expr) : Type 0 where
  middle : ℕ
  first : Expr
  left : BinaryAt ts n i middle first
  right : Operands ts n first middle k e

halves_of : (ts : List Token) (n i k : ℕ) (e : Expr) → BinaryAt ts (suc n) i k e → Halves ts n i k e
halves_of ts n i k e (chain _ _ _ j _ a _ l r) =
    record { middle = j; first = a; left = l; right = r }

-- where no operator goes on, there is no question mark
unasked : (ts : List Token) (i j : ℕ) → i ≡ j → kind_at ts i ≡ Some (Mark Question) →
    Stops ts (suc levels) j → ⊥
unasked ts i j same h s =
    let there : kind_at ts j ≡ Some (Mark Question) = rw same at h in
    let past : suc levels ≤ levels = s.choice there in omega arith

-- an operand after an operator isn't one without
unsignable : (ts : List Token) (i j : ℕ) (op : UnOp) (e : Expr) → unary_of (kind_at ts i) ≡
    Some op → Leaf ts i j e → ⊥
unsignable ts i j op e h l = let contradiction : None ≡ Some op = sym (no_sign ts i j e l) ∙ h in cc

mutual
  -- an expression and its end are determined by where it begins, if nothing goes on after it
  pub whole_unique : (ts : List Token) (i j k : ℕ) (e f : Expr) → Expression ts i j e →
      Chosen ts i k f → Stops ts (suc levels) j → Stops ts (suc levels) k → Same j k e f
  whole_unique ts i j k e f (plain _ _ _ _ l) (chosen_plain m) s t =
      level_unique ts levels i j k e f l m (fewer_stop ts levels j s) (fewer_stop ts levels k t)
  whole_unique ts i j k e f (plain _ _ _ _ l) (chosen_choice g h c a b m q w p u same) s t =
      let one : Same j g e c = level_unique ts levels i j g e c l m (fewer_stop ts levels j s)
      (question_stops ts g q) in
      absurd (unasked ts g j (sym one.0) q s)
  whole_unique ts i j k e f (choice _ _ g h _ c a b l q w p u) (chosen_plain m) s t =
      let one : Same g k c f = level_unique ts levels i g k c f l m (question_stops ts g q)
      (fewer_stop ts levels k t) in
      absurd (unasked ts g k one.0 q t)
  whole_unique ts i j k e f (choice _ _ g h _ c a b l q w p u)
      (chosen_choice g' h' c' a' b' m q' w' p' u' same) s t =
      let one : Same g g' c c' = level_unique ts levels i g g' c c' l m (question_stops ts g q)
      (question_stops ts g' q') in
      let first : Expression ts (g + 1) h' a' = rw one.0 w' in
      let two : Same h h' a a' = whole_unique ts (g + 1) h h' a a' w
      (chosen_of ts (g + 1) h' a' first) (colon_stops ts (suc levels) h p)
      (colon_stops ts (suc levels) h' p') in
      let second : Expression ts (h + 1) k b' = rw two.0 u' in
      let three : Same j k b b' = whole_unique ts (h + 1) j k b b' u
      (chosen_of ts (h + 1) k b' second) s t in
      let tree : Choose c a b ≡ Choose c' a' b' = rw (one.1, two.1, three.1) refl in
      (three.0, tree ∙ sym same)

  level_unique : (ts : List Token) (n i j k : ℕ) (e f : Expr) → BinaryAt ts n i j e →
      BinaryAt ts n i k f → Stops ts n j → Stops ts n k → Same j k e f
  level_unique ts n i j k e f (signed _ _ _ _ p) m s t =
      signed_unique ts i j k e f p (prefix_of ts i k f (signed_of ts i k f m)) s t
  level_unique ts n i j k e f (chain _ o _ h _ a _ l r) m s t =
      let u = halves_of ts o i k f m in
      let same : Same h u.middle a u.first =
      level_unique ts o i h u.middle a u.first l u.left (rest_stops ts o a h j e r s)
      (rest_stops ts o u.first u.middle k f u.right t) in
      let there : Operands ts o a h k f = rw (same.0, same.1) u.right in
      rest_unique ts o a h j k e f r (going_of ts o a h k f there) s t

  rest_unique : (ts : List Token) (n : ℕ) (a : Expr) (i j k : ℕ) (e f : Expr) →
      Operands ts n a i j e → Going ts n a i k f → Stops ts (suc n) j → Stops ts (suc n) k →
      Same j k e f
  rest_unique ts n a i j k e f (done _ _ _ _) (stopped p q) s t = (p, q)
  rest_unique ts n a i j k e f (done _ _ _ _) (went h op b o l r) s t =
      absurd (not_stopped ts n i i op o refl s)
  rest_unique ts n a i j k e f (more _ _ _ _ h _ op b _ o l r) (stopped p q) s t =
      absurd (not_stopped ts n i k op o p t)
  rest_unique ts n a i j k e f (more _ _ _ _ h _ op b _ o l r) (went g other c u m q) s t =
      let same : Same h g b c = level_unique ts n (i + 1) h g b c l m
      (rest_stops ts n (Binary op a b) h j e r s) (rest_stops ts n (Binary other a c) g k f q t)
      in
      let one : op ≡ other = cc in
      let there : Operands ts n (Binary op a b) h k f = rw (one, same.0, same.1) q in
      rest_unique ts n (Binary op a b) h j k e f r (going_of ts n (Binary op a b) h k f there) s t

  signed_unique : (ts : List Token) (i j k : ℕ) (e f : Expr) → UnaryExpression ts i j e →
      Prefix ts i k f → Stops ts zero j → Stops ts zero k → Same j k e f
  signed_unique ts i j k e f (unsigned _ _ _ _ p) (prefix_none q) s t =
      primary_unique ts i j k e f p (leaf_of ts i k f q) s t
  signed_unique ts i j k e f (unsigned _ _ _ _ p) (prefix_some op a h q same) s t =
      absurd (unsignable ts i j op e h (leaf_of ts i j e p))
  signed_unique ts i j k e f (prefixed _ _ _ op a h r) (prefix_none q) s t =
      absurd (unsignable ts i k op f h (leaf_of ts i k f q))
  signed_unique ts i j k e f (prefixed _ _ _ op a h r) (prefix_some other b g q same) s t =
      let one : Same j k a b = signed_unique ts (i + 1) j k a b r (prefix_of ts (i + 1) k b q) s t
      in
      let equal : op ≡ other = cc in
      let tree : Unary op a ≡ Unary other b = rw (equal, one.1) refl in
      (one.0, tree ∙ sym same)

  primary_unique : (ts : List Token) (i j k : ℕ) (e f : Expr) → PrimaryExpression ts i j e →
      Leaf ts i k f → Stops ts zero j → Stops ts zero k → Same j k e f
  primary_unique ts i j k e f (number _ _ value h) (leaf_number other g p q) s t = (sym p, cc)
  primary_unique ts i j k e f (number _ _ value h) (leaf_name g p q) s t = absurd cc
  primary_unique ts i j k e f (number _ _ value h) (leaf_call es g p r q) s t = absurd cc
  primary_unique ts i j k e f (number _ _ value h) (leaf_parens m g w c p) s t = absurd cc
  primary_unique ts i j k e f (name _ _ h) (leaf_number other g p q) s t = absurd cc
  primary_unique ts i j k e f (name _ _ h) (leaf_name g p q) s t = (sym p, sym q)
  primary_unique ts i j k e f (name _ _ h) (leaf_call es g p r q) s t = absurd (s.call p)
  primary_unique ts i j k e f (name _ _ h) (leaf_parens m g w c p) s t = absurd cc
  primary_unique ts i j k e f (call _ _ _ es h o r) (leaf_number other g p q) s t = absurd cc
  primary_unique ts i j k e f (call _ _ _ es h o r) (leaf_name g p q) s t = absurd (t.call (rw p o))
  primary_unique ts i j k e f (call _ _ _ es h o r) (leaf_call us g p a q) s t =
      let same : Same j k es us = arguments_unique ts (i + 2) j k es us r
      (given_of ts (i + 2) k us a) in
      (same.0, ap (λ zs. Apply i zs) same.1 ∙ sym q)
  primary_unique ts i j k e f (call _ _ _ es h o r) (leaf_parens m g w c p) s t = absurd cc
  primary_unique ts i j k e f (parens _ _ l _ h v d) (leaf_number other g p q) s t = absurd cc
  primary_unique ts i j k e f (parens _ _ l _ h v d) (leaf_name g p q) s t = absurd cc
  primary_unique ts i j k e f (parens _ _ l _ h v d) (leaf_call es g p a q) s t = absurd cc
  primary_unique ts i j k e f (parens _ _ l _ h v d) (leaf_parens m g w c p) s t =
      let same : Same l m e f = whole_unique ts (i + 1) l m e f v (chosen_of ts (i + 1) m f w)
      (paren_stops ts (suc levels) l d) (paren_stops ts (suc levels) m c) in
      (ap (λ x. x + 1) same.0 ∙ sym p, same.1)

  arguments_unique : (ts : List Token) (i j k : ℕ) (es fs : List Expr) → Arguments ts i j es →
      Given ts i k fs → Same j k es fs
  arguments_unique ts i j k es fs (no_arguments _ _ h) (given_none g p q) = (sym p, sym q)
  arguments_unique ts i j k es fs (no_arguments _ _ h) (given_some m e rest w f q) =
      absurd (whole_opens ts i m e w h)
  arguments_unique ts i j k es fs (arguments _ _ l _ e rest w r) (given_none g p q) =
      absurd (whole_opens ts i l e w g)
  arguments_unique ts i j k es fs (arguments _ _ l _ e rest w r) (given_some m f others v u q) =
      let one : Same l m e f = whole_unique ts i l m e f w (chosen_of ts i m f v)
      (argument_stops ts (suc levels) l j rest r) (argument_stops ts (suc levels) m k others u)
      in
      let there : Following ts l k others = rw one.0 u in
      let two : Same j k rest others = following_unique ts l j k rest others r
      (gone_of ts l k others there) in
      let list : e ∷ rest ≡ f ∷ others = rw (one.1, two.1) refl in
      (two.0, list ∙ sym q)

  following_unique : (ts : List Token) (i j k : ℕ) (es fs : List Expr) → Following ts i j es →
      Gone ts i k fs → Same j k es fs
  following_unique ts i j k es fs (last_argument _ _ h) (gone_last g p q) = (sym p, sym q)
  following_unique ts i j k es fs (last_argument _ _ h) (gone_next m e rest g w f q) = absurd cc
  following_unique ts i j k es fs (next_argument _ _ l _ e rest h w r) (gone_last g p q) = absurd cc
  following_unique ts i j k es fs (next_argument _ _ l _ e rest h w r)
      (gone_next m f others g v u q) =
      let one : Same l m e f = whole_unique ts (i + 1) l m e f w (chosen_of ts (i + 1) m f v)
      (argument_stops ts (suc levels) l j rest r) (argument_stops ts (suc levels) m k others u)
      in
      let there : Following ts l k others = rw one.0 u in
      let two : Same j k rest others = following_unique ts l j k rest others r
      (gone_of ts l k others there) in
      let list : e ∷ rest ≡ f ∷ others = rw (one.1, two.1) refl in
      (two.0, list ∙ sym q)
