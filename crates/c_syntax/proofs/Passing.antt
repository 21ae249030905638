-- The arguments of a call, while they are read.
use Rattle.std.proofs.Common.{◌≡◌, ℕ, suc, ◌+◌, ◌≤◌, ◌<◌, max, Some, None, List, [], ◌∷◌, ◌++◌, length, map, append_assoc, refl, sym, ◌∙◌, ap, arith}
use Rattle.std.proofs.lemmas.List.{append-nil}
use Rattle.c_lex.specs.declared.token.Token.{Token}
use Rattle.c_lex.specs.declared.token.TokenKind.TheVariants.{Mark}
use Rattle.c_lex.specs.declared.token.Mark.{Mark as TheMark}
use Rattle.c_lex.specs.declared.token.Mark.TheVariants.{LeftParen, RightParen, Comma}
use Rattle.c_ast.specs.declared.expr.Expr.{Expr}
use Rattle.c_ast.specs.Height.{greatest, expr_height}
use Rattle.c_ast.proofs.Equations.{height-positive}
use Rattle.c_syntax.specs.declared.read.Read.{Read}
use Rattle.c_syntax.specs.declared.read.ReadArguments.{ReadArguments}
use Rattle.c_syntax.specs.Grammar.{kind_at, unary_of, levels, Expression, plain, choice, BinaryAt, signed, chain, UnaryExpression, unsigned, prefixed, PrimaryExpression, number, name, call, parens, Arguments, no_arguments, arguments, Following, last_argument, next_argument}
use Rattle.c_syntax.specs.Readers.{Stops, Reads, IsReadList, ReadsList, Passing}
use Rattle.c_syntax.proofs.Lookahead.{kind_within, paren_stops, comma_stops}

-- the greatest height of two lists in a row
greatest_append : (xs ys : List Expr) → greatest (map expr_height (xs ++ ys)) ≡
    max (greatest (map expr_height xs)) (greatest (map expr_height ys))
greatest_append [] ys = omega arith
greatest_append (x ∷ xs) ys =
    let rest : greatest (map expr_height (xs ++ ys)) ≡
    max (greatest (map expr_height xs)) (greatest (map expr_height ys)) =
    greatest_append xs ys in omega arith

module _ (m : TheMark) (no_sign : unary_of (Some (Mark m)) ≡ None) (no_call : m ≡ LeftParen → ⊥)
  where
    mutual
      -- no expression begins with a mark that is neither an operator before an operand nor `(`
      pub whole_begins : (ts : List Token) (i j : ℕ) (e : Expr) → Expression ts i j e →
          kind_at ts i ≡
          Some (Mark m) → ⊥
      whole_begins ts i j e (plain _ _ _ _ l) h = level_begins ts levels i j e l h
      whole_begins ts i j e (choice _ _ k _ _ c a b l q w p u) h = level_begins ts levels i k c l h

      level_begins : (ts : List Token) (n i j : ℕ) (e : Expr) → BinaryAt ts n i j e → kind_at ts i ≡
          Some (Mark m) → ⊥
      level_begins ts n i j e (signed _ _ _ _ s) h = signed_begins ts i j e s h
      level_begins ts n i j e (chain _ o _ k _ a _ l r) h = level_begins ts o i k a l h

      signed_begins : (ts : List Token) (i j : ℕ) (e : Expr) → UnaryExpression ts i j e →
          kind_at ts i ≡ Some (Mark m) → ⊥
      signed_begins ts i j e (unsigned _ _ _ _ p) h = primary_begins ts i j e p h
      signed_begins ts i j e (prefixed _ _ _ op a g s) h =
          let contradiction : None ≡ Some op = sym no_sign ∙ (ap unary_of (sym h) ∙ g) in cc

      primary_begins : (ts : List Token) (i j : ℕ) (e : Expr) → PrimaryExpression ts i j e →
          kind_at ts i ≡ Some (Mark m) → ⊥
      primary_begins ts i j e (number _ _ value g) h = cc
      primary_begins ts i j e (name _ _ g) h = cc
      primary_begins ts i j e (call _ _ _ es g p r) h = cc
      primary_begins ts i j e (parens _ _ k _ g w c) h =
          let same : m ≡ LeftParen = cc in no_call same

-- no expression begins with a closing parenthesis
pub whole_opens : (ts : List Token) (i j : ℕ) (e : Expr) → Expression ts i j e → kind_at ts i ≡
    Some (Mark RightParen) → ⊥
whole_opens ts i j e w h = whole_begins RightParen refl (λ q. cc) ts i j e w h

-- what arguments can be
pub data Given (ts : List Token) (i j : ℕ) (es : List Expr) : Type 0 where
  given_none : kind_at ts i ≡ Some (Mark RightParen) → j ≡ i + 1 → es ≡ [] → Given ts i j es
  given_some : (k : ℕ) → (e : Expr) → (rest : List Expr) → Expression ts i k e →
      Following ts k j rest → es ≡ e ∷ rest → Given ts i j es

pub given_of : (ts : List Token) (i j : ℕ) (es : List Expr) → Arguments ts i j es → Given ts i j es
given_of ts i j es (no_arguments _ _ h) = given_none h refl refl
given_of ts i j es (arguments _ _ k _ e rest w f) = given_some k e rest w f refl

-- what the arguments after the first can be
pub data Gone (ts : List Token) (i j : ℕ) (es : List Expr) : Type 0 where
  gone_last : kind_at ts i ≡ Some (Mark RightParen) → j ≡ i + 1 → es ≡ [] → Gone ts i j es
  gone_next : (k : ℕ) → (e : Expr) → (rest : List Expr) → kind_at ts i ≡ Some (Mark Comma) →
      Expression ts (i + 1) k e → Following ts k j rest → es ≡ e ∷ rest → Gone ts i j es

pub gone_of : (ts : List Token) (i j : ℕ) (es : List Expr) → Following ts i j es → Gone ts i j es
gone_of ts i j es (last_argument _ _ h) = gone_last h refl refl
gone_of ts i j es (next_argument _ _ k _ e rest h w f) = gone_next k e rest h w f refl

-- an argument ends where no operator goes on
following_stops : (ts : List Token) (n i j : ℕ) (es : List Expr) → Gone ts i j es → Stops ts n i
following_stops ts n i j es (gone_last h p q) = paren_stops ts n i h
following_stops ts n i j es (gone_next k e rest h w f q) = comma_stops ts n i h

pub argument_stops : (ts : List Token) (n i j : ℕ) (es : List Expr) → Following ts i j es →
    Stops ts n i
argument_stops ts n i j es f = following_stops ts n i j es (gone_of ts i j es f)

-- the first argument and those after it are no higher than all
first_fits : (e : Expr) (rest all : List Expr) (room : ℕ) → all ≡ e ∷ rest →
    greatest (map expr_height all) ≤ room → (expr_height e ≤ room) ×
    (greatest (map expr_height rest) ≤ room)
first_fits e rest all room same fits =
    let parts : greatest (map expr_height all) ≡
    max (expr_height e) (greatest (map expr_height rest)) =
    ap (λ xs. greatest (map expr_height xs)) same in
    (omega arith, omega arith)

-- those after the ones that were found are no higher than all
rest_fits : (found rest all : List Expr) (room : ℕ) → all ≡ found ++ rest →
    greatest (map expr_height all) ≤ room → greatest (map expr_height rest) ≤ room
rest_fits found rest all room same fits =
    let parts : greatest (map expr_height all) ≡ greatest (map expr_height (found ++ rest)) =
    ap (λ xs. greatest (map expr_height xs)) same in
    let joined : greatest (map expr_height (found ++ rest)) ≡
    max (greatest (map expr_height found)) (greatest (map expr_height rest)) =
    greatest_append found rest in
    omega arith

module _ (ts : List Token) (at room : ℕ) where
  empty_only : (x : ReadArguments) → kind_at ts at ≡ Some (Mark RightParen) → x.arguments ≡ [] →
      x.end ≡ at + 1 → (j : ℕ) (es : List Expr) → Given ts at j es → IsReadList (Some x) j es
  empty_only x h xa xe j es (given_none g p q) = (xe ∙ sym p, xa ∙ sym q)
  empty_only x h xa xe j es (given_some k e rest w f q) = absurd (whole_opens ts at k e w h)

  -- no arguments
  pub list_empty : (x : ReadArguments) → kind_at ts at ≡ Some (Mark RightParen) → x.arguments ≡ [] →
      x.end ≡ at + 1 → x.height ≡ 0 → ReadsList ts at room (Some x)
  list_empty x h xa xe xh =
      let within : at < length ts = kind_within ts at (Mark RightParen) h in
      let high : greatest (map expr_height x.arguments) ≡ 0 =
      ap (λ es. greatest (map expr_height es)) xa in
      record {
        found = record {
          spelled = rw (xe, xa) (no_arguments ts at h);
          high = omega arith;
          fits = omega arith;
          further = omega arith;
          within = omega arith;
        };
        only = λ j es a fits. empty_only x h xa xe j es (given_of ts at j es a);
      }

  full_only : (kind_at ts at ≡ Some (Mark RightParen) → ⊥) → room ≡ 0 → (j : ℕ) (es : List Expr) →
      Given ts at j es → greatest (map expr_height es) ≤ room → ⊥
  full_only opens none j es (given_none g p q) fits = opens g
  full_only opens none j es (given_some k e rest w f q) fits =
      let low = first_fits e rest es room q fits in
      let some : 1 ≤ expr_height e = height-positive e in omega arith

  -- no room for arguments
  pub list_full : (kind_at ts at ≡ Some (Mark RightParen) → ⊥) → room ≡ 0 →
      ReadsList ts at room None
  list_full opens none =
      record {
        found = tt;
        only = λ j es a fits.
            full_only opens none j es (given_of ts at j es a) fits;
      }

  missing_only : (kind_at ts at ≡ Some (Mark RightParen) → ⊥) →
      Reads (Expression ts) ts (suc levels) at room None → (j : ℕ) (es : List Expr) →
      Given ts at j es
      → greatest (map expr_height es) ≤ room → ⊥
  missing_only opens r j es (given_none g p q) fits = opens g
  missing_only opens r j es (given_some k e rest w f q) fits =
      r.only k e w (argument_stops ts (suc levels) k j rest f) (first_fits e rest es room q fits).0

  -- no first argument
  pub list_missing : (kind_at ts at ≡ Some (Mark RightParen) → ⊥) →
      Reads (Expression ts) ts (suc levels) at room None → ReadsList ts at room None
  list_missing opens r =
      record {
        found = tt;
        only = λ j es a fits.
            missing_only opens r j es (given_of ts at j es a) fits;
      }

  begun_only : (kind_at ts at ≡ Some (Mark RightParen) → ⊥) → (x : Read) →
      Reads (Expression ts) ts (suc levels) at room (Some x) → (j : ℕ) (all : List Expr) →
      Given ts at j all
      → greatest (map expr_height all) ≤ room → (es : List Expr) ×
      ((all ≡ (x.tree ∷ []) ++ es) × Following ts x.end j es)
  begun_only opens x r j all (given_none g p q) fits = absurd (opens g)
  begun_only opens x r j all (given_some k e rest w f q) fits =
      let is : (x.end ≡ k) × (x.tree ≡ e) = r.only k e w (argument_stops ts (suc levels) k j rest f)
      (first_fits e rest all room q fits).0 in
      (rest, (q ∙ ap (λ z. z ∷ rest) (sym is.1), rw is.0 f))

  -- the first argument
  pub passing_begins : (kind_at ts at ≡ Some (Mark RightParen) → ⊥) → (x : Read) →
      Reads (Expression ts) ts (suc levels) at room (Some x)
      → Passing ts at room (x.tree ∷ []) x.end x.height
  passing_begins opens x r =
      let high : x.height ≡ expr_height x.tree = r.found.high in
      record {
        forward = λ j es f. arguments ts at x.end j x.tree es r.found.spelled f;
        only = λ j all a fits. begun_only opens x r j all (given_of ts at j all a) fits;
        high = omega arith;
        fits = r.found.fits;
        further = r.found.further;
        within = r.found.within;
      }

  went_only : (found : List Expr) (end : ℕ) (y : Read) → kind_at ts end ≡ Some (Mark Comma) →
      Reads (Expression ts) ts (suc levels) (end + 1) room (Some y)
      → (j : ℕ) (all es : List Expr) → all ≡ found ++ es → greatest (map expr_height es) ≤ room →
      Gone ts end j es
      → (rest : List Expr) × ((all ≡ (found ++ y.tree ∷ []) ++ rest) × Following ts y.end j rest)
  went_only found end y h r j all es same fits (gone_last g p q) = absurd cc
  went_only found end y h r j all es same fits (gone_next k e rest g w f q) =
      let is : (y.end ≡ k) × (y.tree ≡ e) = r.only k e w (argument_stops ts (suc levels) k j rest f)
      (first_fits e rest es room q fits).0 in
      let here : es ≡ y.tree ∷ rest = q ∙ ap (λ z. z ∷ rest) (sym is.1) in (
        rest,
        (
          same ∙ (ap (λ xs. found ++ xs) here ∙ sym (append_assoc found (y.tree ∷ []) rest)),
          rw is.0 f,
        ),
      )

  -- one more argument
  pub passing_goes : (found : List Expr) (end height : ℕ) (y : Read) →
      Passing ts at room found end height → kind_at ts end ≡ Some (Mark Comma)
      → Reads (Expression ts) ts (suc levels) (end + 1) room (Some y) →
      Passing ts at room (found ++ y.tree ∷ []) y.end (max height y.height)
  passing_goes found end height y l h r =
      let joined : greatest (map expr_height (found ++ y.tree ∷ [])) ≡
      max (greatest (map expr_height found)) (greatest (map expr_height (y.tree ∷ []))) =
      greatest_append found (y.tree ∷ []) in
      let old : height ≡ greatest (map expr_height found) = l.high in
      let old_fits : height ≤ room = l.fits in
      let added : y.height ≡ expr_height y.tree = r.found.high in
      let added_fits : y.height ≤ room = r.found.fits in
      let first : at < end = l.further in
      let second : end + 1 < y.end = r.found.further in
      record {
        forward =
            λ j es f. rw (append_assoc found (y.tree ∷ []) es)
            (l.forward j (y.tree ∷ es) (next_argument ts end y.end j y.tree es h r.found.spelled
            f));
        only = λ j all a fits.
            let go = l.only j all a fits in
            went_only found end y h r j all go.0 go.1.0 (rest_fits found go.0 all room go.1.0 fits)
            (gone_of ts end j go.0 go.1.1);
        high = omega arith;
        fits = omega arith;
        further = omega arith;
        within = r.found.within;
      }

  broken_only : (end : ℕ) → kind_at ts end ≡ Some (Mark Comma) →
      Reads (Expression ts) ts (suc levels) (end + 1) room None → (j : ℕ) (es : List Expr)
      → greatest (map expr_height es) ≤ room → Gone ts end j es → ⊥
  broken_only end h r j es fits (gone_last g p q) = cc
  broken_only end h r j es fits (gone_next k e rest g w f q) =
      r.only k e w (argument_stops ts (suc levels) k j rest f) (first_fits e rest es room q fits).0

  -- a comma without an argument after it
  pub passing_breaks : (found : List Expr) (end height : ℕ) → Passing ts at room found end height →
      kind_at ts end ≡ Some (Mark Comma)
      → Reads (Expression ts) ts (suc levels) (end + 1) room None → ReadsList ts at room None
  passing_breaks found end height l h r = record {
    found = tt;
    only = λ j all a fits.
        let go = l.only j all a fits in
        broken_only end h r j go.0 (rest_fits found go.0 all room go.1.0 fits)
        (gone_of ts end j go.0 go.1.1);
  }

  closed_only : (found : List Expr) (end : ℕ) (x : ReadArguments) → kind_at ts end ≡
      Some (Mark RightParen) → x.arguments ≡ found → x.end ≡ end + 1
      → (j : ℕ) (all es : List Expr) → all ≡ found ++ es → Gone ts end j es →
      IsReadList (Some x) j all
  closed_only found end x h xa xe j all es same (gone_last g p q) =
      (xe ∙ sym p, xa ∙ sym (same ∙ (ap (λ xs. found ++ xs) q ∙ append-nil found)))
  closed_only found end x h xa xe j all es same (gone_next k e rest g w f q) = cc

  -- the closing parenthesis
  pub passing_ends : (found : List Expr) (end height : ℕ) (x : ReadArguments) →
      Passing ts at room found end height → kind_at ts end ≡ Some (Mark RightParen)
      → x.arguments ≡ found → x.end ≡ end + 1 → x.height ≡ height → ReadsList ts at room (Some x)
  passing_ends found end height x l h xa xe xh =
      let within : end < length ts = kind_within ts end (Mark RightParen) h in
      let further : at < end = l.further in
      let old : height ≡ greatest (map expr_height found) = l.high in
      let fits : height ≤ room = l.fits in
      let same : greatest (map expr_height x.arguments) ≡ greatest (map expr_height found) =
      ap (λ es. greatest (map expr_height es)) xa in
      let spelled : Arguments ts at (end + 1) (found ++ []) =
      l.forward (end + 1) [] (last_argument ts end h) in
      record {
        found = record {
          spelled = rw (xe, xa) (rw append-nil at spelled);
          high = omega arith;
          fits = omega arith;
          further = omega arith;
          within = omega arith;
        };
        only =
            λ j all a fits'. let go = l.only j all a fits' in
            closed_only found end x h xa xe j all go.0 go.1.0 (gone_of ts end j go.0 go.1.1);
      }

  open_only : (end : ℕ) → (kind_at ts end ≡ Some (Mark Comma) → ⊥) →
      (kind_at ts end ≡ Some (Mark RightParen) → ⊥) → (j : ℕ) (es : List Expr) → Gone ts end j es →
      ⊥
  open_only end a b j es (gone_last g p q) = b g
  open_only end a b j es (gone_next k e rest g w f q) = a g

  -- neither a comma nor the closing parenthesis
  pub passing_stops : (found : List Expr) (end height : ℕ) → Passing ts at room found end height →
      (kind_at ts end ≡ Some (Mark Comma) → ⊥)
      → (kind_at ts end ≡ Some (Mark RightParen) → ⊥) → ReadsList ts at room None
  passing_stops found end height l a b = record {
    found = tt;
    only =
        λ j all p fits. let go = l.only j all p fits in
        open_only end a b j go.0 (gone_of ts end j go.0 go.1.1);
  }
