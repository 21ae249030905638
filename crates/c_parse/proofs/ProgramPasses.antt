-- The recogniser passes over parameters, functions, prototypes and programs.
use Rattle.std.proofs.Common.{◌≡◌, ◌⊎◌, inl, inr, ℕ, ◌+◌, Option, Some, None, List, [], ◌∷◌, refl, ◌∙◌, ap}
use Rattle.std.specs.Option.{option_map}
use Rattle.rx_plain.proofs.Naturals.{two_more}
use Rattle.c_lex.specs.declared.token.Token.{Token}
use Rattle.c_lex.specs.declared.token.TokenKind.TheVariants.{Name, Word, Mark}
use Rattle.c_lex.specs.declared.token.Keyword.TheVariants as word
use Rattle.c_lex.specs.declared.token.Mark.TheVariants as mark
use Rattle.c_ast.specs.declared.stmt.Stmt.{Stmt}
use Rattle.c_syntax.specs.declared.tree.External.{External}
use Rattle.c_syntax.specs.Grammar.{kind_at}
use Rattle.c_syntax.specs.Statements.{CompoundStatement}
use Rattle.c_syntax.specs.Programs.{IsHeading, Parameter, named, nameless, Listed, last_parameter, next_parameter, Parameters, unsaid, void, listed, all_names, names_of, ExternalDeclaration, function, prototype, Externals, finished, followed}
use Rattle.c_parse.specs.declared.symbol.Symbol.{Symbol}
use Rattle.c_parse.specs.declared.symbol.Symbol.TheVariants as symbol
use Rattle.c_parse.specs.declared.symbol.Naming.{Naming}
use Rattle.c_parse.specs.declared.symbol.Naming.TheVariants.{Full, Partial}
use Rattle.c_parse.specs.Actions.{closed}
use Rattle.c_parse.proofs.Running.{fault_at, taken}
use Rattle.c_parse.proofs.StatementRows.{three_on}
use Rattle.c_parse.proofs.StatementPasses.{handed_at, items_passes}

-- whether each parameter has a name, after one more
abbrev with_parameter : Naming → Option ℕ → Naming
with_parameter naming (Some name) = naming
with_parameter naming None = Partial

-- the same after several
abbrev with_parameters : Naming → List (Option ℕ) → Naming
with_parameters naming [] = naming
with_parameters naming (o ∷ os) = with_parameters (with_parameter naming o) os

-- after `int` without a name
nameless_passes : (naming : Naming) (ts : List Token) (i : ℕ) →
    (kind_at ts i ≡ Some (Mark mark.Comma)) ⊎ (kind_at ts i ≡ Some (Mark mark.RightParen)) →
    (ss : List Symbol)
    → fault_at ts (symbol.ParameterName naming ∷ ss) i ≡
    fault_at ts (symbol.MoreParameters Partial ∷ ss) i
nameless_passes naming ts i (inl h) ss =
    handed_at ts (symbol.ParameterName naming) (symbol.MoreParameters Partial) [] ss i
    (Mark mark.Comma) h refl (λ e. absurd cc)
nameless_passes naming ts i (inr h) ss =
    handed_at ts (symbol.ParameterName naming) (symbol.MoreParameters Partial) [] ss i
    (Mark mark.RightParen) h refl (λ e. absurd cc)

-- a parameter, from after its `int` on
parameter_passes : (naming : Naming) (ts : List Token) (i j : ℕ) (o : Option ℕ) →
    Parameter ts i j o → (kind_at ts j ≡ Some (Mark mark.Comma)) ⊎
    (kind_at ts j ≡ Some (Mark mark.RightParen)) → (ss : List Symbol)
    → fault_at ts (symbol.ParameterName naming ∷ ss) (i + 1) ≡
    fault_at ts (symbol.MoreParameters (with_parameter naming o) ∷ ss) j
parameter_passes naming ts i j o (named _ _ h n) follows ss =
    taken ts (symbol.ParameterName naming) ss (i + 1) Name (symbol.MoreParameters naming ∷ []) n
    refl ∙ ap (fault_at ts (symbol.MoreParameters naming ∷ ss)) (two_more i)
parameter_passes naming ts i j o (nameless _ _ h n) follows ss =
    nameless_passes naming ts (i + 1) follows ss

-- parameters begin with `int`
parameter_begins : (ts : List Token) (i j : ℕ) (o : Option ℕ) → Parameter ts i j o → kind_at ts i ≡
    Some (Word word.Int)
parameter_begins ts i j o (named _ _ h n) = h
parameter_begins ts i j o (nameless _ _ h n) = h

listed_begins : (ts : List Token) (i j : ℕ) (os : List (Option ℕ)) → Listed ts i j os →
    kind_at ts i ≡ Some (Word word.Int)
listed_begins ts i j os (last_parameter _ _ k o p h) = parameter_begins ts i k o p
listed_begins ts i j os (next_parameter _ _ k _ o rest p c l) = parameter_begins ts i k o p

-- parameters, from after the first `int` on
listed_passes : (naming : Naming) (ts : List Token) (i j : ℕ) (os : List (Option ℕ)) →
    Listed ts i j os → (ss : List Symbol)
    → fault_at ts (symbol.ParameterName naming ∷ ss) (i + 1) ≡
    fault_at ts (closed (with_parameters naming os) ∷ ss) j
listed_passes naming ts i j os (last_parameter _ _ k o p h) ss =
    let rest = with_parameter naming o in
    parameter_passes naming ts i k o p (inr h) ss ∙
    taken ts (symbol.MoreParameters rest) ss k (Mark mark.RightParen) (closed rest ∷ []) h refl
listed_passes naming ts i j os (next_parameter _ _ k _ o more p c l) ss =
    let rest = with_parameter naming o in
    parameter_passes naming ts i k o p (inl c) ss
    ∙ (taken ts (symbol.MoreParameters rest) ss k (Mark mark.Comma) (symbol.Parameter rest ∷ []) c
    refl
    ∙ (taken ts (symbol.Parameter rest) ss (k + 1) (Word word.Int) (symbol.ParameterName rest ∷ [])
    (listed_begins ts (k + 1) j more l) refl
    ∙ listed_passes rest ts (k + 1) j more l ss))

-- whether each parameter in the parentheses of a heading has a name
abbrev naming_of : Option (List (Option ℕ)) → Naming
naming_of None = Full
naming_of (Some os) = with_parameters Full os

-- what the parentheses of a heading hold
parameters_pass : (ts : List Token) (i j : ℕ) (ps : Option (List (Option ℕ))) →
    Parameters ts i j ps → (ss : List Symbol) → fault_at ts (symbol.Parameters ∷ ss) i ≡
    fault_at ts (closed (naming_of ps) ∷ ss) j
parameters_pass ts i j ps (unsaid _ _ h) ss =
    taken ts symbol.Parameters ss i (Mark mark.RightParen) (symbol.Body ∷ []) h refl
parameters_pass ts i j ps (void _ _ h) ss =
    taken ts symbol.Parameters ss i (Word word.Void) (symbol.RightParen ∷ symbol.Body ∷ []) h.0 refl
    ∙ (taken ts symbol.RightParen (symbol.Body ∷ ss) (i + 1) (Mark mark.RightParen) [] h.1 refl ∙
    ap (fault_at ts (symbol.Body ∷ ss)) (two_more i))
parameters_pass ts i j ps (listed _ _ _ os l) ss =
    taken ts symbol.Parameters ss i (Word word.Int) (symbol.ParameterName Full ∷ [])
    (listed_begins ts i j os l) refl ∙ listed_passes Full ts i j os l ss

-- where each parameter has a name, a body may come
mapped_some : (name : ℕ) (o : Option (List ℕ)) (names : List ℕ) →
    option_map (λ rest. name ∷ rest) o ≡ Some names → (rest : List ℕ) × (o ≡ Some rest)
mapped_some name None names h = absurd cc
mapped_some name (Some rest) names h = (rest, refl)

all_full : (os : List (Option ℕ)) (names : List ℕ) → all_names os ≡ Some names →
    with_parameters Full os ≡ Full
all_full [] names h = refl
all_full (None ∷ os) names h = absurd cc
all_full (Some name ∷ os) names h =
    let rest = mapped_some name (all_names os) names h in all_full os rest.0 rest.1

names_full : (ps : Option (List (Option ℕ))) (names : List ℕ) → names_of ps ≡ Some names →
    naming_of ps ≡ Full
names_full None names h = refl
names_full (Some os) names h = all_full os names h

-- a semicolon is always possible
closed_by_semicolon : (naming : Naming) (ts : List Token) (j : ℕ) → kind_at ts j ≡
    Some (Mark mark.Semicolon) → (ss : List Symbol) → fault_at ts (closed naming ∷ ss) j ≡
    fault_at ts ss (j + 1)
closed_by_semicolon Full ts j h ss = taken ts symbol.Body ss j (Mark mark.Semicolon) [] h refl
closed_by_semicolon Partial ts j h ss =
    taken ts symbol.Semicolon ss j (Mark mark.Semicolon) [] h refl

body_passes : (ts : List Token) (i j : ℕ) (body : List Stmt) → CompoundStatement ts i j body →
    (ss : List Symbol) → fault_at ts (symbol.Body ∷ ss) i ≡ fault_at ts ss j
body_passes ts i j body b ss =
    taken ts symbol.Body ss i (Mark mark.LeftBrace) (symbol.Items ∷ []) b.0 refl ∙
    items_passes ts (i + 1) j body b.1 ss

-- a heading, up to and with the opening parenthesis
heading_passes : (ts : List Token) (i : ℕ) → IsHeading ts i → (ss : List Symbol) →
    fault_at ts (symbol.Program ∷ ss) i ≡ fault_at ts (symbol.Parameters ∷ symbol.Program ∷ ss)
    (i + 3)
heading_passes ts i h ss =
    let next : kind_at ts (i + 1 + 1) ≡ Some (Mark mark.LeftParen) = rw (two_more i) (h.1.1) in
    taken ts symbol.Program ss i (Word word.Int)
    (symbol.Name ∷ symbol.LeftParen ∷ symbol.Parameters ∷ symbol.Program ∷ []) h.0 refl
    ∙ (taken ts symbol.Name (symbol.LeftParen ∷ symbol.Parameters ∷ symbol.Program ∷ ss) (i + 1)
    Name [] h.1.0 refl
    ∙ (taken ts symbol.LeftParen (symbol.Parameters ∷ symbol.Program ∷ ss) (i + 1 + 1)
    (Mark mark.LeftParen) [] next refl
    ∙ ap (fault_at ts (symbol.Parameters ∷ symbol.Program ∷ ss)) (three_on i)))

pub external_passes : (ts : List Token) (i j : ℕ) (x : External) → ExternalDeclaration ts i j x →
    (ss : List Symbol) → fault_at ts (symbol.Program ∷ ss) i ≡ fault_at ts (symbol.Program ∷ ss) j
external_passes ts i j x (function _ _ k _ ps names body h p n b) ss =
    heading_passes ts i h ss
    ∙ (parameters_pass ts (i + 3) k ps p (symbol.Program ∷ ss)
    ∙ (ap (λ z. fault_at ts (closed z ∷ symbol.Program ∷ ss) k) (names_full ps names n) ∙
    body_passes ts k j body b (symbol.Program ∷ ss)))
external_passes ts i j x (prototype _ _ k ps h p q) ss =
    heading_passes ts i h ss
    ∙ (parameters_pass ts (i + 3) k ps p (symbol.Program ∷ ss) ∙
    closed_by_semicolon (naming_of ps) ts k q (symbol.Program ∷ ss))

pub externals_passes : (ts : List Token) (i j : ℕ) (xs : List External) → Externals ts i j xs →
    (ss : List Symbol) → fault_at ts (symbol.Program ∷ ss) i ≡ fault_at ts (symbol.Program ∷ ss) j
externals_passes ts i j xs (finished _ _) ss = refl
externals_passes ts i j xs (followed _ _ k _ x rest d r) ss =
    external_passes ts i k x d ss ∙ externals_passes ts k j rest r ss
