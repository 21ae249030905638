-- The first statement of a program that is higher than 200 is at one place.
use Rattle.std.proofs.Common.{◌≡◌, ℕ, ◌+◌, ◌≤◌, ◌<◌, max, Some, List, [], ◌∷◌, ◌++◌, refl, ap, arith}
use Rattle.std.specs.List.{All}
use Rattle.std.proofs.lemmas.List.Elements.{All-head, All-tail}
use Rattle.c_lex.specs.declared.token.Token.{Token}
use Rattle.c_lex.specs.declared.token.TokenKind.TheVariants.{Mark}
use Rattle.c_lex.specs.declared.token.Mark.TheVariants.{LeftBrace, Semicolon}
use Rattle.c_ast.specs.declared.stmt.Stmt.{Stmt}
use Rattle.c_syntax.specs.Grammar.{kind_at}
use Rattle.c_syntax.specs.declared.tree.External.{External}
use Rattle.c_syntax.specs.Heights.{list_height}
use Rattle.c_syntax.specs.Statements.{BlockItem, BlockItems}
use Rattle.c_syntax.specs.Programs.{Externals, finished, followed}
use Rattle.c_parse.specs.Programs.{IsLow}
use Rattle.c_parse.specs.HighStatements.{LeadingItems, no_items, one_more, IsFirstHigh, IsHighIn, IsHigh}
use Rattle.c_ast.proofs.StmtEquations.{height-append}
use Rattle.c_syntax.proofs.UniqueExprs.{Same}
use Rattle.c_syntax.proofs.Blocks.{itemed_of, item_no_end, Inside, inside_closed, inside_item, inside_of}
use Rattle.c_syntax.proofs.UniqueStatements.{item_unique}
use Rattle.c_parse.proofs.Phrases.{Outer, outer_function, outer_prototype, outer_of, Fellows, fellow_none, fellow_more, fellows_of}
use Rattle.c_parse.proofs.Unique.{outer_unique, parameters_unique}

-- what leading items can be
data Led (ts : List Token) (i k : ℕ) (ss : List Stmt) : Type 0 where
  led_none : i ≡ k → ss ≡ [] → Led ts i k ss
  led_more : (j : ℕ) → (xs rest : List Stmt) → BlockItem ts i j xs → LeadingItems ts j k rest → ss ≡
      xs ++ rest → Led ts i k ss

led_of : (ts : List Token) (i k : ℕ) (ss : List Stmt) → LeadingItems ts i k ss → Led ts i k ss
led_of ts i k ss (no_items _ _) = led_none refl refl
led_of ts i k ss (one_more _ _ j _ xs rest w r) = led_more j xs rest w r refl

-- two items at one place are equally high
same_height : (ts : List Token) (i j k : ℕ) (xs ys : List Stmt) → BlockItem ts i j xs →
    BlockItem ts i k ys → list_height xs ≡ list_height ys
same_height ts i j k xs ys w v =
    ap list_height (item_unique ts i j k xs ys w (itemed_of ts i k ys v)).1

-- the first items of a list that isn't higher than 200, and the others, are no higher
parts_low : (ss xs rest : List Stmt) → ss ≡ xs ++ rest → list_height ss ≤ 200 →
    (list_height xs ≤ 200) × (list_height rest ≤ 200)
parts_low ss xs rest q low =
    let both : list_height (xs ++ rest) ≡ max (list_height xs) (list_height rest) =
    height-append xs rest in
    let same : list_height ss ≡ list_height (xs ++ rest) = ap list_height q in
    (omega arith, omega arith)

-- a block is as high as an item that comes after its first items
in_block : (ts : List Token) (i token l k : ℕ) (ss ys body : List Stmt) →
    LeadingItems ts i token ss → BlockItem ts token l ys → Inside ts i k body → list_height ys ≤
    list_height body
in_block ts i token l k ss ys body (no_items _ _) b (inside_closed h p q) =
    absurd (item_no_end ts i l ys h (itemed_of ts i l ys b))
in_block ts i token l k ss ys body (no_items _ _) b (inside_item j xs rest w r q) =
    let one : list_height ys ≡ list_height xs = same_height ts i l j ys xs b w in
    let both : list_height (xs ++ rest) ≡ max (list_height xs) (list_height rest) =
    height-append xs rest in
    let same : list_height body ≡ list_height (xs ++ rest) = ap list_height q in omega arith
in_block ts i token l k ss ys body (one_more _ _ m _ zs more w r) b (inside_closed h p q) =
    absurd (item_no_end ts i m zs h (itemed_of ts i m zs w))
in_block ts i token l k ss ys body (one_more _ _ m _ zs more w r) b (inside_item j xs rest v o q) =
    let one : Same m j zs xs = item_unique ts i m j zs xs w (itemed_of ts i j xs v) in
    let there : BlockItems ts m k rest = rw one.0 o in
    let later : list_height ys ≤ list_height rest =
    in_block ts m token l k more ys rest r b (inside_of ts m k rest there) in
    let both : list_height (xs ++ rest) ≡ max (list_height xs) (list_height rest) =
    height-append xs rest in
    let same : list_height body ≡ list_height (xs ++ rest) = ap list_height q in omega arith

-- the first item that is too high has one place
one_item : (ts : List Token) (i k l m n : ℕ) (ss us xs ys : List Stmt) → LeadingItems ts i k ss →
    list_height ss ≤ 200 → BlockItem ts k m xs → 200 < list_height xs
    → Led ts i l us → list_height us ≤ 200 → BlockItem ts l n ys → 200 < list_height ys → k ≡ l
one_item ts i k l m n ss us xs ys (no_items _ _) low b high (led_none p q) lower c higher = p
one_item ts i k l m n ss us xs ys (no_items _ _) low b high (led_more j zs rest v o q) lower c
    higher =
    let same : list_height xs ≡ list_height zs = same_height ts i m j xs zs b v in
    let fits : list_height zs ≤ 200 = (parts_low us zs rest q lower).0 in absurd (omega arith)
one_item ts i k l m n ss us xs ys (one_more _ _ h _ zs rest w r) low b high (led_none p q) lower c
    higher =
    let here : BlockItem ts i n ys = rw p c in
    let same : list_height ys ≡ list_height zs = same_height ts i n h ys zs here w in
    let fits : list_height zs ≤ 200 = (parts_low (zs ++ rest) zs rest refl low).0 in
    absurd (omega arith)
one_item ts i k l m n ss us xs ys (one_more _ _ h _ zs rest w r) low b high
    (led_more j vs more v o q) lower c higher =
    let same : Same h j zs vs = item_unique ts i h j zs vs w (itemed_of ts i j vs v) in
    let there : LeadingItems ts h l more = rw same.0 o in
    one_item ts h k l m n rest more xs ys r (parts_low (zs ++ rest) zs rest refl low).1 b high
    (led_of ts h l more there) (parts_low us vs more q lower).1 c higher

one_first : (ts : List Token) (i k l : ℕ) → IsFirstHigh ts i k → IsFirstHigh ts i l → k ≡ l
one_first ts i k l p q =
    one_item ts i k l p.end q.end p.lower q.lower p.item q.item p.before p.low p.is_item p.high
    (led_of ts i l q.lower q.before) q.low q.is_item q.high

-- so it has in a function
one_in : (ts : List Token) (i k l : ℕ) → IsHighIn ts i k → IsHighIn ts i l → k ≡ l
one_in ts i k l p q =
    let same : Same p.opening q.opening p.params q.params =
    parameters_unique ts (i + 3) p.opening q.opening p.params q.params p.are_params q.are_params
    in
    let there : IsFirstHigh ts (p.opening + 1) l = rw same.0 q.in_body in
    one_first ts (p.opening + 1) k l p.in_body there

-- a function that holds it isn't low, and no prototype holds it
not_low : (ts : List Token) (i token j : ℕ) (x : External) → IsHighIn ts i token → Outer ts i j x →
    IsLow x → ⊥
not_low ts i token j x p (outer_function k ps names body h are n b q) low =
    let same : Same p.opening k p.params ps =
    parameters_unique ts (i + 3) p.opening k p.params ps p.are_params are in
    let body_low : list_height body ≤ 200 = rw q at low in
    let there : BlockItems ts (p.opening + 1) j body = rw same.0 b.1 in
    let f = p.in_body in
    let high : 200 < list_height f.item = f.high in
    let fits : list_height f.item ≤ list_height body =
    in_block ts (p.opening + 1) token f.end j f.lower f.item body f.before f.is_item
    (inside_of ts (p.opening + 1) j body there) in
    omega arith
not_low ts i token j x p (outer_prototype k ps h are c a q) low =
    let same : Same p.opening k p.params ps =
    parameters_unique ts (i + 3) p.opening k p.params ps p.are_params are in
    let opens : kind_at ts p.opening ≡ Some (Mark LeftBrace) = p.opens in
    let there : kind_at ts p.opening ≡ Some (Mark Semicolon) = rw same.0 c in cc

-- the first function that holds it has one place
one_function : (ts : List Token) (i j k t u : ℕ) (xs ys : List External) → Externals ts i j xs →
    All IsLow xs → IsHighIn ts j t → Fellows ts i k ys → All IsLow ys → IsHighIn ts k u → j ≡ k
one_function ts i j k t u xs ys (finished _ _) low p (fellow_none a q) lower r = a
one_function ts i j k t u xs ys (finished _ _) low p (fellow_more m y rest d e q) lower r =
    let both : All IsLow (y ∷ rest) = rw q at lower in
    absurd (not_low ts i t m y p (outer_of ts i m y d) (All-head IsLow y rest both))
one_function ts i j k t u xs ys (followed _ _ m _ x rest d e) low p (fellow_none a q) lower r =
    let here : IsHighIn ts i u = rw a r in
    absurd (not_low ts i u m x here (outer_of ts i m x d) (All-head IsLow x rest low))
one_function ts i j k t u xs ys (followed _ _ m _ x rest d e) low p (fellow_more n y more c f q)
    lower r =
    let both : All IsLow (y ∷ more) = rw q at lower in
    let same : Same m n x y = outer_unique ts i m n x y (outer_of ts i m x d) (outer_of ts i n y c)
    in
    let there : Externals ts m k more = rw same.0 f in
    one_function ts m j k t u rest more e (All-tail IsLow x rest low) p
    (fellows_of ts m k more there) (All-tail IsLow y more both) r

-- the first statement that is too high has one place
pub one_high : (ts : List Token) (k l : ℕ) → IsHigh ts k → IsHigh ts l → k ≡ l
one_high ts k l p q =
    let same : p.at ≡ q.at = one_function ts 0 p.at q.at k l p.lower q.lower p.before p.low
    p.in_function (fellows_of ts 0 q.at q.lower q.before) q.low q.in_function in
    let there : IsHighIn ts p.at l = rw same q.in_function in
    one_in ts p.at k l p.in_function there
