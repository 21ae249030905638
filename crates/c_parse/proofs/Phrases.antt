-- Functions and prototypes, and the program that they are, while they are read.
use Rattle.std.proofs.Common.{◌≡◌, ℕ, ◌+◌, ◌≤◌, ◌<◌, Option, Some, None, List, [], ◌∷◌, ◌++◌, length, append_assoc, refl, sym, ◌∙◌, ap, arith}
use Rattle.std.specs.List.{All}
use Rattle.std.proofs.lemmas.List.{append-nil, length-append}
use Rattle.std.specs.Option.{option_map}
use Rattle.std.proofs.lemmas.List.Elements.{All-nil, All-head, All-tail, All-push}
use Rattle.c_lex.specs.declared.token.Token.{Token}
use Rattle.c_lex.specs.declared.token.TokenKind.TheVariants.{Word, Mark}
use Rattle.c_lex.specs.declared.token.Keyword.TheVariants.{Int}
use Rattle.c_lex.specs.declared.token.Mark.TheVariants.{Semicolon}
use Rattle.c_ast.specs.declared.stmt.Stmt.{Stmt}
use Rattle.c_ast.specs.declared.program.Function.{Function}
use Rattle.c_ast.specs.declared.program.Prototype.{Prototype}
use Rattle.c_ast.specs.declared.program.Program.{Program}
use Rattle.c_syntax.specs.declared.read.Span.{Span}
use Rattle.c_syntax.specs.declared.tree.External.{External}
use Rattle.c_syntax.specs.declared.tree.External.TheVariants.{Defined, Declared}
use Rattle.c_parse.specs.declared.read.ReadProgram.TheVariants.{Spelled, Stopped}
use Rattle.c_syntax.specs.Grammar.{kind_at}
use Rattle.c_syntax.specs.Statements.{CompoundStatement}
use Rattle.c_syntax.specs.Heights.{list_height}
use Rattle.c_syntax.specs.Programs.{IsHeading, Parameters, names_of, ExternalDeclaration, function, prototype, Externals, finished, followed}
use Rattle.c_parse.specs.Programs.{functions_of, prototypes_of, program_of, IsLow}
use Rattle.c_syntax.specs.Readers.{IsThat, Gives, IsNoHigher}
use Rattle.c_parse.specs.Readers.{LowExternal, added, Collecting, ReadsAll}
use Rattle.c_syntax.proofs.Lookahead.{kind_within}

-- a function of this name, these parameters and this body
abbrev pub the_function : ℕ → List ℕ → List Stmt → External
the_function name params body = Defined (record { name = name; params = params; body = body })

-- a prototype of this name with that many parameters
abbrev pub the_prototype : ℕ → Option ℕ → External
the_prototype name params = Declared (record { name = name; params = params })

-- what a function or a prototype can be
pub data Outer (ts : List Token) (i j : ℕ) (x : External) : Type 0 where
  outer_function : (k : ℕ) → (ps : Option (List (Option ℕ))) → (names : List ℕ) → (body : List Stmt)
      → IsHeading ts i → Parameters ts (i + 3) k ps → names_of ps ≡ Some names →
      CompoundStatement ts k j body → x ≡ the_function (i + 1) names body → Outer ts i j x
  outer_prototype : (k : ℕ) → (ps : Option (List (Option ℕ)))
      → IsHeading ts i → Parameters ts (i + 3) k ps → kind_at ts k ≡ Some (Mark Semicolon) → j ≡ k +
      1 → x ≡ the_prototype (i + 1) (option_map (λ (os : List (Option ℕ)). length os) ps) →
      Outer ts i j x

pub outer_of : (ts : List Token) (i j : ℕ) (x : External) → ExternalDeclaration ts i j x →
    Outer ts i j x
outer_of ts i j x (function _ _ k _ ps names body h p n b) =
    outer_function k ps names body h p n b refl
outer_of ts i j x (prototype _ _ k ps h p c) = outer_prototype k ps h p c refl refl

-- each begins with `int`
pub outer_begins : (ts : List Token) (i j : ℕ) (x : External) → Outer ts i j x → kind_at ts i ≡
    Some (Word Int)
outer_begins ts i j x (outer_function k ps names body h p n b q) = h.0
outer_begins ts i j x (outer_prototype k ps h p c a q) = h.0

-- no block begins with a semicolon
no_block : (ts : List Token) (i j : ℕ) (body : List Stmt) → kind_at ts i ≡ Some (Mark Semicolon) →
    CompoundStatement ts i j body → ⊥
no_block ts i j body h b = let here = b.0 in cc

module _ (ts : List Token) (at : ℕ) where
  headless_only : (IsHeading ts at → ⊥) → (j : ℕ) (x : External) → Outer ts at j x → ⊥
  headless_only headless j x (outer_function k ps names body h p n b q) = headless h
  headless_only headless j x (outer_prototype k ps h p c a q) = headless h

  -- without a heading there is neither
  pub gives_headless : (IsHeading ts at → ⊥) → Gives (LowExternal ts at) at (length ts) None
  gives_headless headless =
      record { found = tt; only = λ j x low. headless_only headless j x (outer_of ts at j x low.0) }

  listless_only : Gives (Parameters ts (at + 3)) (at + 3) (length ts) None →
      (j : ℕ) (x : External) → Outer ts at j x → ⊥
  listless_only r j x (outer_function k ps names body h p n b q) = r.only k ps p
  listless_only r j x (outer_prototype k ps h p c a q) = r.only k ps p

  -- without parameters there is neither
  pub gives_listless : Gives (Parameters ts (at + 3)) (at + 3) (length ts) None →
      Gives (LowExternal ts at) at (length ts) None
  gives_listless r =
      record { found = tt; only = λ j x low. listless_only r j x (outer_of ts at j x low.0) }

  module _ (x : Span (Option (List (Option ℕ))))
      (r : Gives (Parameters ts (at + 3)) (at + 3) (length ts) (Some x)) where
    prototype_only : (y : Span External) → kind_at ts x.end ≡ Some (Mark Semicolon) → y.value ≡
        the_prototype (at + 1) (option_map (λ (os : List (Option ℕ)). length os) x.value)
        → y.end ≡ x.end + 1 → (j : ℕ) (z : External) → Outer ts at j z → IsThat (Some y) j z
    prototype_only y c yv ye j z (outer_function k ps names body h p n b q) =
        let is : (x.end ≡ k) × (x.value ≡ ps) = r.only k ps p in
        let there : kind_at ts k ≡ Some (Mark Semicolon) = rw is.0 at c in
        absurd (no_block ts k j body there b)
    prototype_only y c yv ye j z (outer_prototype k ps h p d a q) =
        let is : (x.end ≡ k) × (x.value ≡ ps) = r.only k ps p in (
          ye ∙ (ap (λ w. w + 1) is.0 ∙ sym a),
          yv ∙
              (ap (λ w. the_prototype (at + 1) (option_map (λ (os : List (Option ℕ)). length os) w))
              is.1 ∙ sym q),
        )

    -- a prototype
    pub gives_prototype : (y : Span External) → IsHeading ts at → kind_at ts x.end ≡
        Some (Mark Semicolon)
        → y.value ≡ the_prototype (at + 1) (option_map (λ (os : List (Option ℕ)). length os)
        x.value) → y.end ≡ x.end + 1 → Gives (LowExternal ts at) at (length ts) (Some y)
    gives_prototype y h c yv ye =
        let further : at + 3 < x.end = r.found.further in
        let within : x.end < length ts = kind_within ts x.end (Mark Semicolon) c in
        record {
          found =
              record {
                spelled = rw (ye, yv) (
                  prototype ts at x.end x.value h r.found.spelled c,
                  tt,
                );
                further = omega arith;
                within = omega arith;
              };
          only = λ j z low. prototype_only y c yv ye j z (outer_of ts at j z low.0);
        }

    module _ (continued : kind_at ts x.end ≡ Some (Mark Semicolon) → ⊥) where
      nameless_only : names_of x.value ≡ None → (j : ℕ) (z : External) → Outer ts at j z → ⊥
      nameless_only none j z (outer_function k ps names body h p n b q) =
          let is : (x.end ≡ k) × (x.value ≡ ps) = r.only k ps p in
          let contradiction : None ≡ Some names = sym none ∙ (ap names_of is.1 ∙ n) in cc
      nameless_only none j z (outer_prototype k ps h p c a q) =
          let is : (x.end ≡ k) × (x.value ≡ ps) = r.only k ps p in continued (rw is.0 c)

      -- a parameter of a function without a name
      pub gives_nameless : names_of x.value ≡ None → Gives (LowExternal ts at) at (length ts) None
      gives_nameless none =
          record { found = tt; only = λ j z low. nameless_only none j z (outer_of ts at j z low.0) }

      bodiless_only : Gives (IsNoHigher list_height 200 (CompoundStatement ts x.end)) x.end
          (length ts)
          None → (j : ℕ) (z : External) → Outer ts at j z → IsLow z → ⊥
      bodiless_only b j z (outer_function k ps names body h p n w q) low =
          let is : (x.end ≡ k) × (x.value ≡ ps) = r.only k ps p in
          let body_low : list_height body ≤ 200 = rw q at low in
          let here : CompoundStatement ts x.end j body = rw is.0 w in
          b.only j body (here, body_low)
      bodiless_only b j z (outer_prototype k ps h p c a q) low =
          let is : (x.end ≡ k) × (x.value ≡ ps) = r.only k ps p in continued (rw is.0 c)

      -- without a body there is no function
      pub gives_bodiless : Gives (IsNoHigher list_height 200 (CompoundStatement ts x.end)) x.end
          (length ts) None → Gives (LowExternal ts at) at (length ts) None
      gives_bodiless b =
          record {
            found = tt;
            only = λ j z low.
                bodiless_only b j z (outer_of ts at j z low.0) low.1;
          }

      function_only : (names : List ℕ) (y : Span (List Stmt)) (w : Span External) →
          names_of x.value ≡ Some names → Gives
          (IsNoHigher list_height 200 (CompoundStatement ts x.end))
          x.end (length ts) (Some y)
          → w.value ≡ the_function (at + 1) names y.value → w.end ≡ y.end → (j : ℕ) (z : External) →
          Outer ts at j z → IsLow z → IsThat (Some w) j z
      function_only names y w given b wv we j z (outer_function k ps others body h p n v q) low =
          let is : (x.end ≡ k) × (x.value ≡ ps) = r.only k ps p in
          let body_low : list_height body ≤ 200 = rw q at low in
          let here : CompoundStatement ts x.end j body = rw is.0 v in
          let that : (y.end ≡ j) × (y.value ≡ body) = b.only j body (here, body_low) in
          let lists : Some names ≡ Some others = sym given ∙ (ap names_of is.1 ∙ n) in
          let same : names ≡ others = cc in
          let tree : the_function (at + 1) names y.value ≡ the_function (at + 1) others body =
          rw (same, that.1) refl in
          (we ∙ that.0, wv ∙ (tree ∙ sym q))
      function_only names y w given b wv we j z (outer_prototype k ps h p c a q) low =
          let is : (x.end ≡ k) × (x.value ≡ ps) = r.only k ps p in absurd (continued (rw is.0 c))

      -- a function
      pub gives_function : (names : List ℕ) (y : Span (List Stmt)) (w : Span External) →
          IsHeading ts at → names_of x.value ≡ Some names
          → Gives (IsNoHigher list_height 200 (CompoundStatement ts x.end)) x.end (length ts)
          (Some y) →
          w.value ≡ the_function (at + 1) names y.value → w.end ≡ y.end
          → Gives (LowExternal ts at) at (length ts) (Some w)
      gives_function names y w h given b wv we =
          let first : at + 3 < x.end = r.found.further in
          let second : x.end < y.end = b.found.further in
          let within : y.end ≤ length ts = b.found.within in
          record {
            found = record {
              spelled =
                  rw (we, wv) (
                    function ts at x.end y.end x.value names y.value h r.found.spelled
                        given b.found.spelled.0,
                    b.found.spelled.1,
                  );
              further = omega arith;
              within = omega arith;
            };
            only =
                λ j z low. function_only names y w given b wv we j z (outer_of ts at j z low.0)
                low.1;
          }

-- what functions and prototypes in a row can be
pub data Fellows (ts : List Token) (i j : ℕ) (xs : List External) : Type 0 where
  fellow_none : i ≡ j → xs ≡ [] → Fellows ts i j xs
  fellow_more : (k : ℕ) → (x : External) → (rest : List External) → ExternalDeclaration ts i k x →
      Externals ts k j rest → xs ≡ x ∷ rest → Fellows ts i j xs

pub fellows_of : (ts : List Token) (i j : ℕ) (xs : List External) → Externals ts i j xs →
    Fellows ts i j xs
fellows_of ts i j xs (finished _ _) = fellow_none refl refl
fellows_of ts i j xs (followed _ _ k _ x rest d r) = fellow_more k x rest d r refl

-- the functions of a list with one more
functions_push : (xs : List External) (f : Function) → functions_of (xs ++ Defined f ∷ []) ≡
    functions_of xs ++ f ∷ []
functions_push [] f = refl
functions_push (Defined g ∷ xs) f = ap (λ gs. g ∷ gs) (functions_push xs f)
functions_push (Declared q ∷ xs) f = functions_push xs f

functions_keep : (xs : List External) (p : Prototype) → functions_of (xs ++ Declared p ∷ []) ≡
    functions_of xs
functions_keep [] p = refl
functions_keep (Defined g ∷ xs) p = ap (λ gs. g ∷ gs) (functions_keep xs p)
functions_keep (Declared q ∷ xs) p = functions_keep xs p

-- and the prototypes
prototypes_push : (xs : List External) (p : Prototype) → prototypes_of (xs ++ Declared p ∷ []) ≡
    prototypes_of xs ++ p ∷ []
prototypes_push [] p = refl
prototypes_push (Defined g ∷ xs) p = prototypes_push xs p
prototypes_push (Declared q ∷ xs) p = ap (λ qs. q ∷ qs) (prototypes_push xs p)

prototypes_keep : (xs : List External) (f : Function) → prototypes_of (xs ++ Defined f ∷ []) ≡
    prototypes_of xs
prototypes_keep [] f = refl
prototypes_keep (Defined g ∷ xs) f = prototypes_keep xs f
prototypes_keep (Declared q ∷ xs) f = ap (λ qs. q ∷ qs) (prototypes_keep xs f)

-- a program of these functions and prototypes
abbrev made_of : List Function → List Prototype → Program
made_of fs ps = record { functions = fs; prototypes = ps }

-- the program of a list with one more
program_push : (xs : List External) (x : External) → program_of (xs ++ x ∷ []) ≡
    added (program_of xs) x
program_push xs (Defined f) =
    ap (λ fs. made_of fs (prototypes_of (xs ++ Defined f ∷ []))) (functions_push xs f) ∙
    ap (λ ps. made_of (functions_of xs ++ f ∷ []) ps) (prototypes_keep xs f)
program_push xs (Declared p) =
    ap (λ fs. made_of fs (prototypes_of (xs ++ Declared p ∷ []))) (functions_keep xs p) ∙
    ap (λ ps. made_of (functions_of xs) ps) (prototypes_push xs p)

-- functions and prototypes with one more
externals_push : (ts : List Token) (i j k : ℕ) (xs : List External) (x : External) →
    Externals ts i j xs → ExternalDeclaration ts j k x → Externals ts i k (xs ++ x ∷ [])
externals_push ts i j k xs x (finished _ _) d = followed ts i k k x [] d (finished ts k)
externals_push ts i j k xs x (followed _ _ m _ y rest c r) d =
    followed ts i m k y (rest ++ x ∷ []) c (externals_push ts m j k rest x r d)

-- one more function or prototype is at most one function more
added_functions : (p : Program) (y : External) → length (added p y).functions ≤ length p.functions +
    1
added_functions p (Defined f) =
    let longer : length (p.functions ++ f ∷ []) ≡ length p.functions + 1 =
    length-append p.functions (f ∷ []) in omega (arith, longer)
added_functions p (Declared q) = omega arith

module _ (ts : List Token) where
  one_more : (found : List External) (at : ℕ) (x : Span External) → at < length ts →
      Gives (LowExternal ts at) at (length ts) (Some x)
      → (all xs : List External) → all ≡ found ++ xs → All IsLow xs → Fellows ts at (length ts) xs
      → (rest : List External) × ((all ≡ (found ++ x.value ∷ []) ++ rest) ×
      (Externals ts x.end (length ts) rest × All IsLow rest))
  one_more found at x within g all xs same low (fellow_none p q) = absurd (omega arith)
  one_more found at x within g all xs same low (fellow_more k y rest d r q) =
      let both : All IsLow (y ∷ rest) = rw q at low in
      let is : (x.end ≡ k) × (x.value ≡ y) = g.only k y (d, All-head IsLow y rest both) in
      let there : Externals ts x.end (length ts) rest = rw is.0 r in
      let joined : all ≡ (found ++ x.value ∷ []) ++ rest = same ∙
      (ap (λ zs. found ++ zs) (q ∙ ap (λ g. g ∷ rest) (sym is.1)) ∙
      sym (append_assoc found (x.value ∷ []) rest)) in
      (rest, (joined, (there, All-tail IsLow y rest both)))

  -- nothing is read
  pub collecting_begins : (p : Program) → p.functions ≡ [] → p.prototypes ≡ [] → Collecting ts p 0
  collecting_begins p none no_prototypes = record {
    found = [];
    is = λ i. record { functions = none i; prototypes = no_prototypes i };
    forward = λ xs h. h;
    spelled = finished ts 0;
    low = All-nil IsLow;
    only = λ all h low. (all, (refl, (h, low)));
    within = omega arith;
    few = let short : length p.functions ≡ 0 = ap length none in omega arith;
  }

  -- one more function or prototype
  pub collecting_goes : (p : Program) (at : ℕ) (x : Span External) → Collecting ts p at → at <
      length ts → Gives (LowExternal ts at) at (length ts) (Some x)
      → Collecting ts (added p x.value) x.end
  collecting_goes p at x c within g = record {
    found = c.found ++ x.value ∷ [];
    is = ap (λ q. added q x.value) c.is ∙ sym (program_push c.found x.value);
    forward =
        λ xs h. rw (append_assoc c.found (x.value ∷ []) xs)
        (c.forward (x.value ∷ xs) (followed ts at x.end (length ts) x.value xs g.found.spelled.0
        h));
    spelled = externals_push ts 0 at x.end c.found x.value c.spelled g.found.spelled.0;
    low = All-push IsLow c.found x.value c.low g.found.spelled.1;
    only =
        λ all h low. let go = c.only all h low in
        one_more c.found at x within g all go.0 go.1.0 go.1.1.1
        (fellows_of ts at (length ts) go.0 go.1.1.0);
    within = g.found.within;
    few =
        let more = added_functions p x.value in let before = c.few in let further =
        g.found.further in omega (arith, more, before, further);
  }

  unread : (at : ℕ) → at < length ts → Gives (LowExternal ts at) at (length ts) None →
      (xs : List External) → All IsLow xs → Fellows ts at (length ts) xs → ⊥
  unread at within g xs low (fellow_none p q) = omega arith
  unread at within g xs low (fellow_more k y rest d r q) =
      let both : All IsLow (y ∷ rest) = rw q at low in
      g.only k y (d, All-head IsLow y rest both)

  -- a place at which neither is
  pub collecting_stops : (p : Program) (at : ℕ) → Collecting ts p at → at < length ts →
      Gives (LowExternal ts at) at (length ts) None → ReadsAll ts (Stopped at)
  collecting_stops p at c within g = record {
    lower = c.found;
    before = c.spelled;
    low = c.low;
    within = within;
    nothing = λ j x low. g.only j x low;
    unspelled =
        λ q s. let go = c.only s.externals s.spelled s.low in
        unread at within g go.0 go.1.1.1 (fellows_of ts at (length ts) go.0 go.1.1.0);
  }

  -- the end of the list
  pub collecting_ends : (p : Program) (at : ℕ) → Collecting ts p at → length ts ≤ at →
      ReadsAll ts (Spelled p)
  collecting_ends p at c past =
      let within : at ≤ length ts = c.within in
      let same : at ≡ length ts = omega arith in
      let nothing : Externals ts at (length ts) [] = rw same (finished ts (length ts)) in
      let spelled : Externals ts 0 (length ts) (c.found ++ []) = c.forward [] nothing in
      let before : length p.functions ≤ at = c.few in (
        record { externals = c.found; spelled = rw append-nil at spelled; low = c.low; is = c.is },
        omega arith,
      )
