-- Declarations, while their names are read.
use Rattle.std.proofs.Common.{◌≡◌, inl, inr, ℕ, suc, ◌+◌, ◌-◌, ◌≤◌, ◌<◌, max, Option, Some, None, List, [], ◌∷◌, ◌++◌, length, append_assoc, refl, sym, ◌∙◌, ap, arith}
use Rattle.c_lex.specs.declared.token.Token.{Token}
use Rattle.c_lex.specs.declared.token.TokenKind.TheVariants.{Name, Mark}
use Rattle.c_lex.specs.declared.token.Mark.TheVariants.{Comma, Semicolon, Assign}
use Rattle.c_ast.specs.declared.expr.Expr.{Expr}
use Rattle.c_ast.specs.declared.stmt.Stmt.{Stmt}
use Rattle.c_ast.specs.declared.stmt.Stmt.TheVariants.{Declare}
use Rattle.c_ast.specs.Height.{of_option, expr_height, stmt_height}
use Rattle.c_syntax.specs.declared.read.Read.{Read}
use Rattle.c_syntax.specs.declared.read.Span.{Span}
use Rattle.c_syntax.specs.Grammar.{kind_at, levels, Expression}
use Rattle.c_syntax.specs.Statements.{IsParted, InitDeclarator, bare, valued, InitDeclarators, last_name, next_name}
use Rattle.c_syntax.specs.Heights.{list_height}
use Rattle.c_syntax.specs.Readers.{Stops, Reads, IsThat, Gives, IsNoHigher}
use Rattle.c_syntax.specs.StmtReaders.{Collected}
use Rattle.c_ast.proofs.StmtEquations.{height-Declare, height-append}
use Rattle.c_syntax.proofs.Lookahead.{kind_within, comma_stops, semicolon_stops}

-- a comma and a semicolon go on with no expression
pub parted_stops : (ts : List Token) (n i : ℕ) → IsParted ts i → Stops ts n i
parted_stops ts n i (inl h) = comma_stops ts n i h
parted_stops ts n i (inr h) = semicolon_stops ts n i h

-- neither is `=`
pub unassigned : (ts : List Token) (i : ℕ) → IsParted ts i → kind_at ts i ≡ Some (Mark Assign) → ⊥
unassigned ts i (inl h) g = cc
unassigned ts i (inr h) g = cc

-- of the two only the comma is no semicolon
comma_of : (ts : List Token) (i : ℕ) → IsParted ts i → (kind_at ts i ≡ Some (Mark Semicolon) → ⊥) →
    kind_at ts i ≡ Some (Mark Comma)
comma_of ts i (inl h) no_semicolon = h
comma_of ts i (inr h) no_semicolon = absurd (no_semicolon h)

-- what the declaration of one name can be
pub data Declared (ts : List Token) (i j : ℕ) (s : Stmt) : Type 0 where
  declared_bare : kind_at ts i ≡ Some Name → IsParted ts (i + 1) → j ≡ i + 1 → s ≡ Declare i None →
      Declared ts i j s
  declared_valued : (e : Expr) → kind_at ts i ≡ Some Name → kind_at ts (i + 1) ≡
      Some (Mark Assign) → Expression ts (i + 2) j e → IsParted ts j → s ≡ Declare i (Some e) →
      Declared ts i j s

pub declared_of : (ts : List Token) (i j : ℕ) (s : Stmt) → InitDeclarator ts i j s →
    Declared ts i j s
declared_of ts i j s (bare _ _ h p) = declared_bare h p refl refl
declared_of ts i j s (valued _ _ _ e h a w p) = declared_valued e h a w p refl

-- what is after it
parted_after : (ts : List Token) (i j : ℕ) (s : Stmt) → Declared ts i j s → IsParted ts j
parted_after ts i j s (declared_bare h p q is) = rw q p
parted_after ts i j s (declared_valued e h a w p is) = p

module _ (ts : List Token) (at room : ℕ) where
  bare_only : (y : Span Stmt) → IsParted ts (at + 1) → y.value ≡ Declare at None → y.end ≡ at + 1 →
      (j : ℕ) (s : Stmt) → Declared ts at j s → IsThat (Some y) j s
  bare_only y p yv ye j s (declared_bare h g q is) = (ye ∙ sym q, yv ∙ sym is)
  bare_only y p yv ye j s (declared_valued e h a w g is) = absurd (unassigned ts (at + 1) p a)

  -- a name without a value
  pub bare_reads : (y : Span Stmt) → kind_at ts at ≡ Some Name → IsParted ts (at + 1) → 0 < room →
      y.value ≡ Declare at None → y.end ≡ at + 1
      → Gives (IsNoHigher stmt_height room (InitDeclarator ts at)) at (length ts) (Some y)
  bare_reads y h p some yv ye =
      let within : at < length ts = kind_within ts at Name h in
      let none : Option Expr = None in
      let high : stmt_height (Declare at None) ≡ 1 + of_option expr_height none =
      height-Declare at None in
      record {
        found =
            record {
              spelled = rw (ye, yv) (bare ts at h p, omega arith);
              further = omega arith;
              within = omega arith;
            };
        only = λ j s low. bare_only y p yv ye j s (declared_of ts at j s low.0);
      }

  module _ (x : Read) (r : Reads (Expression ts) ts (suc levels) (at + 2) (room - 1) (Some x))
      (assigned : kind_at ts (at + 1) ≡ Some (Mark Assign)) where
    valued_is : (j : ℕ) (s : Stmt) → Declared ts at j s → stmt_height s ≤ room → (x.end ≡ j) ×
        ((s ≡ Declare at (Some x.tree)) × IsParted ts x.end)
    valued_is j s (declared_bare h p q is) fits = absurd (unassigned ts (at + 1) p assigned)
    valued_is j s (declared_valued e h a w p is) fits =
        let high : stmt_height (Declare at (Some e)) ≡ 1 + expr_height e =
        height-Declare at (Some e) in
        let same : stmt_height s ≡ stmt_height (Declare at (Some e)) = ap stmt_height is in
        let that : (x.end ≡ j) × (x.tree ≡ e) =
        r.only j e w (parted_stops ts (suc levels) j p) (omega arith) in
        (that.0, (is ∙ ap (λ z. Declare at (Some z)) (sym that.1), rw that.0 p))

    -- a name with a value
    pub valued_reads : (y : Span Stmt) → kind_at ts at ≡ Some Name → IsParted ts x.end → 2 ≤ room →
        y.value ≡ Declare at (Some x.tree) → y.end ≡ x.end
        → Gives (IsNoHigher stmt_height room (InitDeclarator ts at)) at (length ts) (Some y)
    valued_reads y h p some yv ye =
        let high : stmt_height (Declare at (Some x.tree)) ≡ 1 + expr_height x.tree =
        height-Declare at (Some x.tree) in
        let tree : x.height ≡ expr_height x.tree = r.found.high in
        let fits : x.height ≤ room - 1 = r.found.fits in
        let further : at + 2 < x.end = r.found.further in
        let within : x.end ≤ length ts = r.found.within in
        record {
          found =
              record {
                spelled = rw (ye, yv) (
                  valued ts at x.end x.tree h assigned r.found.spelled
                      p,
                  omega arith,
                );
                further = omega arith;
                within = omega arith;
              };
          only =
              λ j s low. let is = valued_is j s (declared_of ts at j s low.0) low.1 in
              (ye ∙ is.0, yv ∙ sym is.1.0);
        }

    -- neither a comma nor a semicolon after the value
    pub valued_misses : (IsParted ts x.end → ⊥) →
        Gives (IsNoHigher stmt_height room (InitDeclarator ts at)) at (length ts) None
    valued_misses unparted =
        record {
          found = tt;
          only = λ j s low. let is =
              valued_is j s (declared_of ts at j s low.0) low.1 in unparted is.1.1;
        }

-- what declarations of names can be
pub data Named (ts : List Token) (i k : ℕ) (ss : List Stmt) : Type 0 where
  named_last : (j : ℕ) → (s : Stmt) → InitDeclarator ts i j s → kind_at ts j ≡
      Some (Mark Semicolon) → k ≡ j + 1 → ss ≡ s ∷ [] → Named ts i k ss
  named_next : (j : ℕ) → (s : Stmt) → (rest : List Stmt) → InitDeclarator ts i j s → kind_at ts j ≡
      Some (Mark Comma) → InitDeclarators ts (j + 1) k rest → ss ≡ s ∷ rest → Named ts i k ss

pub named_of : (ts : List Token) (i k : ℕ) (ss : List Stmt) → InitDeclarators ts i k ss →
    Named ts i k ss
named_of ts i k ss (last_name _ _ j s d h) = named_last j s d h refl refl
named_of ts i k ss (next_name _ _ j _ s rest d h r) = named_next j s rest d h r refl

-- what is after those found fits where all do
pub later_fits : (all found ss : List Stmt) (room : ℕ) → all ≡ found ++ ss → list_height all ≤
    room → list_height ss ≤ room
later_fits all found ss room same fits =
    let both : list_height (found ++ ss) ≡ max (list_height found) (list_height ss) =
    height-append found ss in
    let high : list_height all ≡ list_height (found ++ ss) = ap list_height same in omega arith

-- so does the first of them
pub first_fits : (s : Stmt) (rest ss : List Stmt) (room : ℕ) → ss ≡ s ∷ rest → list_height ss ≤
    room → stmt_height s ≤ room
first_fits s rest ss room same fits =
    let high : list_height ss ≡ list_height (s ∷ rest) = ap list_height same in omega arith

module _ (ts : List Token) (at room : ℕ) (found : List Stmt) (end : ℕ)
    (c : Collected room (InitDeclarators ts at) (InitDeclarators ts) (length ts) at found end) where
  none_only : Gives (IsNoHigher stmt_height room (InitDeclarator ts end)) end (length ts) None →
      (k : ℕ) (ss : List Stmt) → Named ts end k ss → list_height ss ≤ room → ⊥
  none_only g k ss (named_last j s d h p q) fits = g.only j s (d, first_fits s [] ss room q fits)
  none_only g k ss (named_next j s rest d h r q) fits =
      g.only j s (d, first_fits s rest ss room q fits)

  -- no name follows
  pub names_end : Gives (IsNoHigher stmt_height room (InitDeclarator ts end)) end (length ts) None →
      Gives (IsNoHigher list_height room (InitDeclarators ts at)) at (length ts) None
  names_end g = record {
    found = tt;
    only = λ k all low.
        let go = c.only k all low.0 low.1 in
        none_only g k go.0 (named_of ts end k go.0 go.1.1)
        (later_fits all found go.0 room go.1.0 low.1);
  }

  module _ (x : Span Stmt) (g : Gives (IsNoHigher stmt_height room (InitDeclarator ts end)) end
      (length ts)
      (Some x)) where
    last_only : (y : Span (List Stmt)) → kind_at ts x.end ≡ Some (Mark Semicolon) → y.value ≡
        found ++ x.value ∷ [] → y.end ≡ x.end + 1 → (k : ℕ) (all ss : List Stmt)
        → all ≡ found ++ ss → Named ts end k ss → list_height ss ≤ room → IsThat (Some y) k all
    last_only y o yv ye k all ss same (named_last j s d h p q) fits =
        let is : (x.end ≡ j) × (x.value ≡ s) = g.only j s (d, first_fits s [] ss room q fits) in
        let tail : x.value ∷ [] ≡ ss = ap (λ z. z ∷ []) is.1 ∙ sym q in
        (ye ∙ (ap (λ z. z + 1) is.0 ∙ sym p), yv ∙ (ap (λ zs. found ++ zs) tail ∙ sym same))
    last_only y o yv ye k all ss same (named_next j s rest d h r q) fits =
        let is : (x.end ≡ j) × (x.value ≡ s) = g.only j s (d, first_fits s rest ss room q fits) in
        let there : kind_at ts j ≡ Some (Mark Semicolon) = rw is.0 at o in absurd cc

    -- the last name
    pub names_last : (y : Span (List Stmt)) → kind_at ts x.end ≡ Some (Mark Semicolon) → y.value ≡
        found ++ x.value ∷ [] → y.end ≡ x.end + 1
        → Gives (IsNoHigher list_height room (InitDeclarators ts at)) at (length ts) (Some y)
    names_last y o yv ye =
        let spelled : InitDeclarators ts at (x.end + 1) (found ++ x.value ∷ []) =
        c.forward (x.end + 1) (x.value ∷ [])
        (last_name ts end x.end x.value g.found.spelled.0 o) in
        let both : list_height (found ++ x.value ∷ []) ≡
        max (list_height found) (list_height (x.value ∷ [])) =
        height-append found (x.value ∷ []) in
        let one : stmt_height x.value ≤ room = g.found.spelled.1 in
        let low : list_height found ≤ room = c.low in
        let begun : at ≤ end = c.begun in
        let further : end < x.end = g.found.further in
        let within : x.end < length ts = kind_within ts x.end (Mark Semicolon) o in
        record {
          found =
              record {
                spelled = rw (ye, yv) (spelled, omega arith);
                further = omega arith;
                within =
                    omega arith;
              };
          only = λ k all p.
              let go = c.only k all p.0 p.1 in
              last_only y o yv ye k all go.0 go.1.0 (named_of ts end k go.0 go.1.1)
              (later_fits all found go.0 room go.1.0 p.1);
        }

    next_only : (kind_at ts x.end ≡ Some (Mark Semicolon) → ⊥) → (k : ℕ) (all ss : List Stmt) →
        all ≡ found ++ ss → Named ts end k ss → list_height ss ≤ room
        → (rest : List Stmt) × ((all ≡ (found ++ x.value ∷ []) ++ rest) ×
        InitDeclarators ts (x.end + 1) k rest)
    next_only o k all ss same (named_last j s d h p q) fits =
        let is : (x.end ≡ j) × (x.value ≡ s) = g.only j s (d, first_fits s [] ss room q fits) in
        absurd (o (rw is.0 h))
    next_only o k all ss same (named_next j s rest d h r q) fits =
        let is : (x.end ≡ j) × (x.value ≡ s) = g.only j s (d, first_fits s rest ss room q fits) in
        let there : InitDeclarators ts (x.end + 1) k rest = rw is.0 r in
        let joined : all ≡ (found ++ x.value ∷ []) ++ rest =
        same ∙ (ap (λ xs. found ++ xs) (q ∙ ap (λ z. z ∷ rest) (sym is.1)) ∙
        sym (append_assoc found (x.value ∷ []) rest)) in
        (rest, (joined, there))

    -- one more name
    pub names_go : (kind_at ts x.end ≡ Some (Mark Semicolon) → ⊥) →
        Collected room (InitDeclarators ts at) (InitDeclarators ts) (length ts) at
        (found ++ x.value ∷ []) (x.end + 1)
    names_go o =
        let comma : kind_at ts x.end ≡ Some (Mark Comma) =
        comma_of ts x.end (parted_after ts end x.end x.value
        (declared_of ts end x.end x.value g.found.spelled.0)) o in
        let both : list_height (found ++ x.value ∷ []) ≡
        max (list_height found) (list_height (x.value ∷ [])) =
        height-append found (x.value ∷ []) in
        let one : stmt_height x.value ≤ room = g.found.spelled.1 in
        let lower : list_height found ≤ room = c.low in
        let before : at ≤ end = c.begun in
        let further : end < x.end = g.found.further in
        let inside : x.end < length ts = kind_within ts x.end (Mark Comma) comma in
        record {
          forward =
              λ k ss d. rw (append_assoc found (x.value ∷ []) ss)
              (c.forward k (x.value ∷ ss) (next_name ts end x.end k x.value ss g.found.spelled.0
              comma d));
          only = λ k all w low.
              let go = c.only k all w low in
              next_only o k all go.0 go.1.0 (named_of ts end k go.0 go.1.1)
              (later_fits all found go.0 room go.1.0 low);
          low = omega arith;
          begun = omega arith;
          within = omega arith;
        }
