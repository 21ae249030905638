-- The items of a block, while they are read.
use Rattle.std.proofs.Common.{◌≡◌, ℕ, ◌+◌, ◌≤◌, ◌<◌, max, Option, Some, None, Result, IfOk, List, [], ◌∷◌, ◌++◌, length, append_assoc, refl, sym, ◌∙◌, ap, arith}
use Rattle.std.proofs.lemmas.List.{append-nil}
use Rattle.c_lex.specs.declared.token.Token.{Token}
use Rattle.c_lex.specs.declared.token.TokenKind.TheVariants.{Word, Mark}
use Rattle.c_lex.specs.declared.token.Keyword.TheVariants.{Int}
use Rattle.c_lex.specs.declared.token.Mark.TheVariants.{RightBrace}
use Rattle.c_ast.specs.declared.stmt.Stmt.{Stmt}
use Rattle.c_ast.specs.Height.{stmt_height}
use Rattle.rx_plain.specs.declared.no_memory.NoMemory.{NoMemory}
use Rattle.c_syntax.specs.declared.read.Span.{Span}
use Rattle.c_syntax.specs.Grammar.{kind_at}
use Rattle.c_syntax.specs.Statements.{Declaration, Statement, BlockItem, statement, declaration, BlockItems, closed, item}
use Rattle.c_syntax.specs.Heights.{list_height}
use Rattle.c_syntax.specs.Readers.{IsThat, Gives, IsNoHigher}
use Rattle.c_syntax.specs.StmtReaders.{Collected}
use Rattle.c_ast.proofs.StmtEquations.{height-append}
use Rattle.c_syntax.proofs.Lookahead.{kind_within}
use Rattle.c_syntax.proofs.Building.{Built, renamed_ok}
use Rattle.c_syntax.proofs.Declaring.{later_fits}
use Rattle.c_syntax.proofs.Forms.{form_of}

-- what an item can be
pub data Itemed (ts : List Token) (i j : ℕ) (ss : List Stmt) : Type 0 where
  itemed_statement : (s : Stmt) → Statement ts i j s → ss ≡ s ∷ [] → Itemed ts i j ss
  itemed_names : Declaration ts i j ss → Itemed ts i j ss

pub itemed_of : (ts : List Token) (i j : ℕ) (ss : List Stmt) → BlockItem ts i j ss →
    Itemed ts i j ss
itemed_of ts i j ss (statement _ _ _ s h) = itemed_statement s h refl
itemed_of ts i j ss (declaration _ _ _ _ d) = itemed_names d

-- no statement begins with `int`
pub statement_no_int : (ts : List Token) (i j : ℕ) (s : Stmt) → kind_at ts i ≡ Some (Word Int) →
    Statement ts i j s → ⊥
statement_no_int ts i j s h w = form_of ts i j s (Word Int) h refl (λ q. cc) w

-- nor with a closing brace
pub statement_no_end : (ts : List Token) (i j : ℕ) (s : Stmt) → kind_at ts i ≡
    Some (Mark RightBrace) → Statement ts i j s → ⊥
statement_no_end ts i j s h w = form_of ts i j s (Mark RightBrace) h refl (λ q. cc) w

-- no item begins with a closing brace
pub item_no_end : (ts : List Token) (i j : ℕ) (ss : List Stmt) → kind_at ts i ≡
    Some (Mark RightBrace) → Itemed ts i j ss → ⊥
item_no_end ts i j ss h (itemed_statement s w q) = statement_no_end ts i j s h w
item_no_end ts i j ss h (itemed_names d) = let word = d.0 in cc

module _ (ts : List Token) (at room : ℕ) where
  names_from : kind_at ts at ≡ Some (Word Int) → (j : ℕ) (ss : List Stmt) → Itemed ts at j ss →
      Declaration ts at j ss
  names_from h j ss (itemed_statement s w q) = absurd (statement_no_int ts at j s h w)
  names_from h j ss (itemed_names d) = d

  -- a declaration in a block
  pub item_names : (r : Result (Option (Span (List Stmt))) NoMemory) → kind_at ts at ≡
      Some (Word Int) → IfOk r (Gives (IsNoHigher list_height room (Declaration ts at)) at
      (length ts))
      → IfOk r (Gives (IsNoHigher list_height room (BlockItem ts at)) at (length ts))
  item_names r h =
      renamed_ok (IsNoHigher list_height room (Declaration ts at))
      (IsNoHigher list_height room (BlockItem ts at))
      at at (length ts) r (omega arith)
      (λ j ss p. (declaration ts at j ss p.0, p.1))
      (λ j ss q. (names_from h j ss (itemed_of ts at j ss q.0), q.1))

  statement_from : (kind_at ts at ≡ Some (Word Int) → ⊥) → (j : ℕ) (ss : List Stmt) →
      Itemed ts at j ss → list_height ss ≤ room
      → (s : Stmt) × ((Statement ts at j s × (stmt_height s ≤ room)) × (ss ≡ s ∷ []))
  statement_from a j ss (itemed_statement s w q) fits =
      let high : list_height ss ≡ list_height (s ∷ []) = ap list_height q in
      (s, ((w, omega arith), q))
  statement_from a j ss (itemed_names d) fits = absurd (a d.0)

  -- a statement in a block
  pub item_builds : (kind_at ts at ≡ Some (Word Int) → ⊥) →
      Built (λ (s : Stmt). s ∷ []) (IsNoHigher stmt_height room (Statement ts at))
      (IsNoHigher list_height room (BlockItem ts at))
  item_builds a = record {
    make = λ j s p. let fits : stmt_height s ≤ room = p.1 in (statement ts at j s p.0, omega arith);
    part = λ j ss q. statement_from a j ss (itemed_of ts at j ss q.0) q.1;
  }

-- what the items of a block can be
pub data Inside (ts : List Token) (i k : ℕ) (ss : List Stmt) : Type 0 where
  inside_closed : kind_at ts i ≡ Some (Mark RightBrace) → k ≡ i + 1 → ss ≡ [] → Inside ts i k ss
  inside_item : (j : ℕ) → (xs rest : List Stmt) → BlockItem ts i j xs → BlockItems ts j k rest →
      ss ≡ xs ++ rest → Inside ts i k ss

pub inside_of : (ts : List Token) (i k : ℕ) (ss : List Stmt) → BlockItems ts i k ss →
    Inside ts i k ss
inside_of ts i k ss (closed _ _ h) = inside_closed h refl refl
inside_of ts i k ss (item _ _ j _ xs rest w r) = inside_item j xs rest w r refl

-- an item fits where it and what follows do
item_fits : (ss xs rest : List Stmt) (room : ℕ) → ss ≡ xs ++ rest → list_height ss ≤ room →
    list_height xs ≤ room
item_fits ss xs rest room same fits =
    let both : list_height (xs ++ rest) ≡ max (list_height xs) (list_height rest) =
    height-append xs rest in
    let high : list_height ss ≡ list_height (xs ++ rest) = ap list_height same in omega arith

-- nothing is read
pub collected_begins : (ts : List Token) (at room : ℕ) → at ≤ length ts →
    Collected room (BlockItems ts at) (BlockItems ts) (length ts) at [] at
collected_begins ts at room inside = record {
  forward = λ j ss h. h;
  only = λ j all h low. (all, (refl, h));
  low = omega arith;
  begun = omega arith;
  within = inside;
}

module _ (ts : List Token) (at room : ℕ) (found : List Stmt) (end : ℕ)
    (c : Collected room (BlockItems ts at) (BlockItems ts) (length ts) at found end) where
  none_only : (kind_at ts end ≡ Some (Mark RightBrace) → ⊥) →
      Gives (IsNoHigher list_height room (BlockItem ts end)) end (length ts) None →
      (k : ℕ) (ss : List Stmt) → Inside ts end k ss
      → list_height ss ≤ room → ⊥
  none_only o g k ss (inside_closed h p q) fits = o h
  none_only o g k ss (inside_item j xs rest w r q) fits =
      g.only j xs (w, item_fits ss xs rest room q fits)

  -- neither an item nor the closing brace
  pub inner_stops : (kind_at ts end ≡ Some (Mark RightBrace) → ⊥) →
      Gives (IsNoHigher list_height room (BlockItem ts end)) end (length ts) None →
      Gives (IsNoHigher list_height room (BlockItems ts at)) at (length ts) None
  inner_stops o g = record {
    found = tt;
    only = λ k all p.
        let go = c.only k all p.0 p.1 in
        none_only o g k go.0 (inside_of ts end k go.0 go.1.1)
        (later_fits all found go.0 room go.1.0 p.1);
  }

  closed_only : (y : Span (List Stmt)) → kind_at ts end ≡ Some (Mark RightBrace) → y.value ≡ found →
      y.end ≡ end + 1 → (k : ℕ) (all ss : List Stmt) → all ≡ found ++ ss
      → Inside ts end k ss → IsThat (Some y) k all
  closed_only y o yv ye k all ss same (inside_closed h p q) =
      (ye ∙ sym p, yv ∙ sym (same ∙ (ap (λ zs. found ++ zs) q ∙ append-nil found)))
  closed_only y o yv ye k all ss same (inside_item j xs rest w r q) =
      absurd (item_no_end ts end j xs o (itemed_of ts end j xs w))

  -- the closing brace
  pub inner_ends : (y : Span (List Stmt)) → kind_at ts end ≡ Some (Mark RightBrace) → y.value ≡
      found → y.end ≡ end + 1 → Gives (IsNoHigher list_height room (BlockItems ts at)) at
      (length ts)
      (Some y)
  inner_ends y o yv ye =
      let spelled : BlockItems ts at (end + 1) (found ++ []) =
      c.forward (end + 1) [] (closed ts end o) in
      let whole : BlockItems ts at (end + 1) found = rw append-nil at spelled in
      let low : list_height found ≤ room = c.low in
      let begun : at ≤ end = c.begun in
      let within : end < length ts = kind_within ts end (Mark RightBrace) o in
      record {
        found =
            record {
              spelled = rw (ye, yv) (whole, low);
              further = omega arith;
              within =
                  omega arith;
            };
        only =
            λ k all p. let go = c.only k all p.0 p.1 in
            closed_only y o yv ye k all go.0 go.1.0 (inside_of ts end k go.0 go.1.1);
      }

  module _ (x : Span (List Stmt)) (g : Gives (IsNoHigher list_height room (BlockItem ts end)) end
      (length ts) (Some x)) where
    item_only : (kind_at ts end ≡ Some (Mark RightBrace) → ⊥) → (k : ℕ) (all ss : List Stmt) → all ≡
        found ++ ss → Inside ts end k ss → list_height ss ≤ room
        → (rest : List Stmt) × ((all ≡ (found ++ x.value) ++ rest) × BlockItems ts x.end k rest)
    item_only o k all ss same (inside_closed h p q) fits = absurd (o h)
    item_only o k all ss same (inside_item j xs rest w r q) fits =
        let is : (x.end ≡ j) × (x.value ≡ xs) = g.only j xs (w, item_fits ss xs rest room q fits) in
        let there : BlockItems ts x.end k rest = rw is.0 r in
        let joined : all ≡ (found ++ x.value) ++ rest =
        same ∙ (ap (λ zs. found ++ zs) (q ∙ ap (λ zs. zs ++ rest) (sym is.1)) ∙
        sym (append_assoc found x.value rest)) in
        (rest, (joined, there))

    -- one more item
    pub inner_goes : (kind_at ts end ≡ Some (Mark RightBrace) → ⊥) →
        Collected room (BlockItems ts at) (BlockItems ts) (length ts) at (found ++ x.value) x.end
    inner_goes o =
        let both : list_height (found ++ x.value) ≡ max (list_height found) (list_height x.value) =
        height-append found x.value in
        let one : list_height x.value ≤ room = g.found.spelled.1 in
        let lower : list_height found ≤ room = c.low in
        let before : at ≤ end = c.begun in
        let further : end < x.end = g.found.further in
        record {
          forward =
              λ k ss d. rw (append_assoc found x.value ss)
              (c.forward k (x.value ++ ss) (item ts end x.end k x.value ss g.found.spelled.0 d));
          only = λ k all w low.
              let go = c.only k all w low in
              item_only o k all go.0 go.1.0 (inside_of ts end k go.0 go.1.1)
              (later_fits all found go.0 room go.1.0 low);
          low = omega arith;
          begun = omega arith;
          within = g.found.within;
        }
