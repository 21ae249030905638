-- The first statement of a program that is higher than 200, while it is looked for.
use Rattle.std.proofs.Common.{◌≡◌, ℕ, ◌+◌, ◌≤◌, ◌<◌, max, Option, Some, None, List, [], ◌++◌, length, append_assoc, ap, arith}
use Rattle.std.proofs.lemmas.List.{append-nil}
use Rattle.c_lex.specs.declared.token.Token.{Token}
use Rattle.c_lex.specs.declared.token.TokenKind.TheVariants.{Word, Mark}
use Rattle.c_lex.specs.declared.token.Keyword.TheVariants.{Int}
use Rattle.c_lex.specs.declared.token.Mark.TheVariants.{LeftParen, LeftBrace}
use Rattle.c_ast.specs.declared.stmt.Stmt.{Stmt}
use Rattle.c_syntax.specs.declared.read.Span.{Span}
use Rattle.c_syntax.specs.Grammar.{kind_at}
use Rattle.c_syntax.specs.Readers.{Gives, IsNoHigher}
use Rattle.c_syntax.specs.declared.tree.External.{External}
use Rattle.c_syntax.specs.Heights.{list_height}
use Rattle.c_syntax.specs.Statements.{BlockItem, BlockItems}
use Rattle.c_syntax.specs.Programs.{IsHeading, Parameters, ExternalDeclaration, Externals, finished, followed}
use Rattle.c_parse.specs.Places.{IsProgram as SpellsProgram}
use Rattle.c_parse.specs.Programs.{IsLow}
use Rattle.c_parse.specs.HighStatements.{LeadingItems, no_items, one_more, IsFirstHigh, IsHigh}
use Rattle.c_parse.specs.Readers.{IsStuck, GoesHigh, Seeking}
use Rattle.c_ast.proofs.StmtEquations.{height-append}
use Rattle.c_syntax.proofs.Lookahead.{kind_within}
use Rattle.c_syntax.proofs.UniqueExprs.{Same}
use Rattle.c_syntax.proofs.Blocks.{itemed_of, Inside, inside_closed, inside_item, inside_of}
use Rattle.c_syntax.proofs.UniqueStatements.{item_unique}
use Rattle.c_parse.proofs.Phrases.{Outer, outer_function, outer_prototype, outer_of, outer_begins, Fellows, fellow_none, fellow_more, fellows_of}
use Rattle.c_parse.proofs.Unique.{outer_unique}

-- ---- the items of a body

-- leading items with one more
leading_push : (ts : List Token) (i j k : ℕ) (ss xs : List Stmt) → LeadingItems ts i j ss →
    BlockItem ts j k xs → LeadingItems ts i k (ss ++ xs)
leading_push ts i j k ss xs (no_items _ _) b =
    let whole : LeadingItems ts i k (xs ++ []) = one_more ts i k k xs [] b (no_items ts k) in
    rw append-nil at whole
leading_push ts i j k ss xs (one_more _ _ m _ ys rest w r) b =
    rw (append_assoc ys rest xs) (one_more ts i m k ys (rest ++ xs) w
    (leading_push ts m j k rest xs r b))

-- the next item where one of the items is too high
record Next (ts : List Token) (i : ℕ) : Type 0 where
  end : ℕ
  item : List Stmt
  is_item : BlockItem ts i end item
  last : ℕ
  rest : List Stmt
  remaining : BlockItems ts end last rest
  high : 200 < max (list_height item) (list_height rest)

next_of : (ts : List Token) (i k : ℕ) (ss : List Stmt) → Inside ts i k ss → 200 < list_height ss →
    Next ts i
next_of ts i k ss (inside_closed h p q) high =
    let none : list_height ss ≡ 0 = ap list_height q in absurd (omega arith)
next_of ts i k ss (inside_item j xs rest w r q) high =
    let both : list_height (xs ++ rest) ≡ max (list_height xs) (list_height rest) =
    height-append xs rest in
    let same : list_height ss ≡ list_height (xs ++ rest) = ap list_height q in
    record {
      end = j;
      item = xs;
      is_item = w;
      last = k;
      rest = rest;
      remaining = r;
      high =
          omega arith;
    }

next_item : (ts : List Token) (i : ℕ) → GoesHigh ts i → Next ts i
next_item ts i g = next_of ts i g.end g.items (inside_of ts i g.end g.items g.spelled) g.high

-- what isn't at most 200 is above
above : (n : ℕ) → (n ≤ 200 → ⊥) → 200 < n
above n over = omega arith

-- nothing is passed
pub seeking_begins : (ts : List Token) (at : ℕ) → at ≤ length ts → GoesHigh ts at → Seeking ts at at
seeking_begins ts at inside g =
    record { lower = []; before = no_items ts at; low = omega arith; further = g; within = inside }

-- an item that can't be read
pub seeking_stops : (ts : List Token) (i at : ℕ) → Seeking ts i at →
    Gives (IsNoHigher list_height 200 (BlockItem ts at)) at (length ts) None → IsFirstHigh ts i at
seeking_stops ts i at s g =
    let next = next_item ts at s.further in
    record {
      lower = s.lower;
      before = s.before;
      low = s.low;
      item = next.item;
      end = next.end;
      is_item = next.is_item;
      high = above (list_height next.item) (λ low. g.only next.end next.item (next.is_item, low));
    }

-- one more item is passed
pub seeking_goes : (ts : List Token) (i at : ℕ) (x : Span (List Stmt)) → Seeking ts i at →
    Gives (IsNoHigher list_height 200 (BlockItem ts at)) at (length ts) (Some x) →
    Seeking ts i x.end
seeking_goes ts i at x s g =
    let next = next_item ts at s.further in
    let same : Same x.end next.end x.value next.item =
    item_unique ts at x.end next.end x.value next.item g.found.spelled.0
    (itemed_of ts at next.end next.item next.is_item) in
    let remaining : BlockItems ts x.end next.last next.rest = rw same.0 next.remaining in
    let low : list_height x.value ≤ 200 = g.found.spelled.1 in
    let lower : list_height s.lower ≤ 200 = s.low in
    let high : 200 < max (list_height next.item) (list_height next.rest) = next.high in
    let heights : list_height x.value ≡ list_height next.item = ap list_height same.1 in
    let both : list_height (s.lower ++ x.value) ≡ max (list_height s.lower) (list_height x.value) =
    height-append s.lower x.value in
    record {
      lower = s.lower ++ x.value;
      before = leading_push ts i at x.end s.lower x.value s.before g.found.spelled.0;
      low = omega arith;
      further =
          record { end = next.last; items = next.rest; spelled = remaining; high = omega arith };
      within = g.found.within;
    }

-- ---- the function

-- a function begins at a place, and an item of its body is higher than 200
pub record HoldsHigh (ts : List Token) (i : ℕ) : Type 0 where
  pub heading : IsHeading ts i
  pub params : Option (List (Option ℕ))
  pub opening : ℕ
  pub are_params : Parameters ts (i + 3) opening params
  pub opens : kind_at ts opening ≡ Some (Mark LeftBrace)
  pub further : GoesHigh ts (opening + 1)

-- a function or a prototype that is too high is such a function
outer_high : (ts : List Token) (i j : ℕ) (x : External) → Outer ts i j x → (IsLow x → ⊥) →
    HoldsHigh ts i
outer_high ts i j x (outer_function k ps names body h p n b q) not = record {
  heading = h;
  params = ps;
  opening = k;
  are_params = p;
  opens = b.0;
  further =
      record {
        end = j;
        items = body;
        spelled = b.1;
        high =
            above (list_height body) (λ low. not (rw q low));
      };
}
outer_high ts i j x (outer_prototype k ps h p c a q) not = absurd (not (rw q tt))

-- after the first function or prototype come the others
after_one : (ts : List Token) (i k : ℕ) (x : External) (ys : List External) →
    ExternalDeclaration ts i k x → Fellows ts i (length ts) ys
    → (zs : List External) × Externals ts k (length ts) zs
after_one ts i k x ys d (fellow_none p q) =
    let within : i < length ts = kind_within ts i (Word Int)
    (outer_begins ts i k x (outer_of ts i k x d)) in absurd (omega arith)
after_one ts i k x ys d (fellow_more m y rest c u q) =
    let same : Same k m x y = outer_unique ts i k m x y (outer_of ts i k x d) (outer_of ts i m y c)
    in (rest, rw same.0 u)

-- after some of them come the others
after : (ts : List Token) (i j : ℕ) (xs ys : List External) → Externals ts i j xs →
    Externals ts i (length ts) ys → (zs : List External) × Externals ts j (length ts) zs
after ts i j xs ys (finished _ _) e = (ys, e)
after ts i j xs ys (followed _ _ k _ x rest d r) e =
    let next = after_one ts i k x ys d (fellows_of ts i (length ts) ys e) in
    after ts k j rest next.0 r next.1

high_here : (ts : List Token) (at : ℕ) (zs : List External) → IsStuck ts at →
    Fellows ts at (length ts) zs → HoldsHigh ts at
high_here ts at zs s (fellow_none p q) =
    let within : at < length ts = s.within in absurd (omega arith)
high_here ts at zs s (fellow_more k y rest d r q) =
    outer_high ts at k y (outer_of ts at k y d) (λ low. s.nothing k y (d, low))

-- where a program is spelled, what can't be read is a function that is too high
pub stuck_high : (ts : List Token) (at : ℕ) → IsStuck ts at → SpellsProgram ts → HoldsHigh ts at
stuck_high ts at s p =
    let rest = after ts 0 at s.lower p.0 s.before p.1 in
    high_here ts at rest.0 s (fellows_of ts at (length ts) rest.0 rest.1)

module _ (ts : List Token) (at : ℕ) (h : HoldsHigh ts at) where
  -- its parameters are in the list
  pub high_heading : at + 3 ≤ length ts
  high_heading =
      let within : at + 2 < length ts = kind_within ts (at + 2) (Mark LeftParen) h.heading.1.1 in
      omega arith

  -- its parameters are read
  pub high_parameters : Gives (Parameters ts (at + 3)) (at + 3) (length ts) None → ⊥
  high_parameters g = g.only h.opening h.params h.are_params

  module _ (x : Span (Option (List (Option ℕ))))
      (g : Gives (Parameters ts (at + 3)) (at + 3) (length ts) (Some x)) where
    opening_is : x.end ≡ h.opening
    opening_is = (g.only h.opening h.params h.are_params).0

    -- its body is in the list
    pub high_inside : x.end + 1 ≤ length ts
    high_inside =
        let same : x.end ≡ h.opening = opening_is in
        let within : h.opening < length ts = kind_within ts h.opening (Mark LeftBrace) h.opens in
        omega arith

    -- an item of its body is too high
    pub high_body : GoesHigh ts (x.end + 1)
    high_body = rw opening_is h.further

    -- where the first such item is
    pub high_found : IsStuck ts at → SpellsProgram ts → (token : ℕ) →
        IsFirstHigh ts (x.end + 1) token → IsHigh ts token
    high_found s p token first = record {
      externals = p.0;
      spelled = p.1;
      lower = s.lower;
      at = at;
      before = s.before;
      low = s.low;
      in_function = record {
        heading = h.heading;
        params = h.params;
        opening = h.opening;
        are_params = h.are_params;
        opens = h.opens;
        in_body = rw opening_is at first;
      };
    }
