-- A list of tokens spells at most one program.
use Rattle.std.proofs.Common.{◌≡◌, ℕ, ◌+◌, ◌<◌, Option, Some, List, ◌∷◌, length, refl, sym, ◌∙◌, ap, arith}
use Rattle.std.specs.Option.{option_map}
use Rattle.c_lex.specs.declared.token.Token.{Token}
use Rattle.c_lex.specs.declared.token.TokenKind.TheVariants.{Word, Mark}
use Rattle.c_lex.specs.declared.token.Keyword.TheVariants.{Int}
use Rattle.c_lex.specs.declared.token.Mark.TheVariants.{Semicolon}
use Rattle.c_syntax.specs.declared.tree.External.{External}
use Rattle.c_syntax.specs.Grammar.{kind_at}
use Rattle.c_syntax.specs.Statements.{CompoundStatement}
use Rattle.c_syntax.specs.Programs.{Parameters, names_of, Externals, finished, followed}
use Rattle.c_parse.specs.Programs.{program_of, OneProgram}
use Rattle.c_syntax.proofs.Lookahead.{kind_within}
use Rattle.c_parse.proofs.Lists.{parts_of, parts_unique}
use Rattle.c_parse.proofs.Phrases.{the_function, the_prototype, Outer, outer_function, outer_prototype, outer_of, outer_begins, Fellows, fellow_none, fellow_more, fellows_of}
use Rattle.c_syntax.proofs.UniqueExprs.{Same}
use Rattle.c_syntax.proofs.UniqueStatements.{blocks_unique}

-- what is in the parentheses of a heading is determined by where it begins
pub parameters_unique : (ts : List Token) (i j k : ℕ) (ps qs : Option (List (Option ℕ))) →
    Parameters ts i j ps → Parameters ts i k qs → Same j k ps qs
parameters_unique ts i j k ps qs p q =
    parts_unique ts i j k ps qs (parts_of ts i j ps p) (parts_of ts i k qs q)

-- so are a function and a prototype
pub outer_unique : (ts : List Token) (i j k : ℕ) (x y : External) → Outer ts i j x →
    Outer ts i k y → Same j k x y
outer_unique ts i j k x y (outer_function m ps names body h p n b a)
    (outer_function l qs others inner g q o c d) =
    let first : Same m l ps qs = parameters_unique ts (i + 3) m l ps qs p q in
    let lists : Some names ≡ Some others = sym n ∙ (ap names_of first.1 ∙ o) in
    let same : names ≡ others = cc in
    let there : CompoundStatement ts m k inner = rw first.0 c in
    let second : Same j k body inner = blocks_unique ts m j k body inner b there in
    let tree : the_function (i + 1) names body ≡ the_function (i + 1) others inner =
    rw (same, second.1) refl in
    (second.0, a ∙ (tree ∙ sym d))
outer_unique ts i j k x y (outer_function m ps names body h p n b a)
    (outer_prototype l qs g q c e d) =
    let first : Same m l ps qs = parameters_unique ts (i + 3) m l ps qs p q in
    let there : kind_at ts m ≡ Some (Mark Semicolon) = rw first.0 c in
    let here = b.0 in absurd cc
outer_unique ts i j k x y (outer_prototype l qs g q c e d)
    (outer_function m ps names body h p n b a) =
    let first : Same l m qs ps = parameters_unique ts (i + 3) l m qs ps q p in
    let there : kind_at ts m ≡ Some (Mark Semicolon) = rw first.0 at c in
    let here = b.0 in absurd cc
outer_unique ts i j k x y (outer_prototype l qs g q c e d) (outer_prototype m ps h p o b a) =
    let first : Same l m qs ps = parameters_unique ts (i + 3) l m qs ps q p in (
      e ∙ (ap (λ z. z + 1) first.0 ∙ sym b),
      d ∙
          (ap (λ z. the_prototype (i + 1) (option_map (λ (os : List (Option ℕ)). length os) z))
          first.1 ∙ sym a),
    )

-- so are functions and prototypes up to the end of the list
externals_unique : (ts : List Token) (i j : ℕ) (xs ys : List External) → j ≡ length ts →
    Externals ts i j xs → Fellows ts i j ys → xs ≡ ys
externals_unique ts i j xs ys all (finished _ _) (fellow_none p q) = sym q
externals_unique ts i j xs ys all (finished _ _) (fellow_more k y rest d r q) =
    let within : i < length ts = kind_within ts i (Word Int)
    (outer_begins ts i k y (outer_of ts i k y d)) in absurd (omega arith)
externals_unique ts i j xs ys all (followed _ _ k _ x rest d r) (fellow_none p q) =
    let within : i < length ts = kind_within ts i (Word Int)
    (outer_begins ts i k x (outer_of ts i k x d)) in absurd (omega arith)
externals_unique ts i j xs ys all (followed _ _ k _ x rest d r) (fellow_more m y others c u q) =
    let same : Same k m x y = outer_unique ts i k m x y (outer_of ts i k x d) (outer_of ts i m y c)
    in
    let there : Externals ts k j others = rw same.0 u in
    let tail : rest ≡ others = externals_unique ts k j rest others all r
    (fellows_of ts k j others there) in
    (ap (λ (z : External). z ∷ rest) same.1 ∙ ap (λ (zs : List External). y ∷ zs) tail) ∙ sym q

-- a list of tokens spells at most one program
pub program_unique : OneProgram
program_unique ts p q s t =
    let same : s.externals ≡ t.externals = externals_unique ts 0 (length ts) s.externals t.externals
    refl s.spelled (fellows_of ts 0 (length ts) t.externals t.spelled) in
    s.is ∙ (ap program_of same ∙ sym t.is)
