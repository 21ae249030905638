-- What the functions of a program that tokens spell name, are names.
use Rattle.std.proofs.Common.{◌≡◌, ℕ, ◌+◌, List, [], ◌∷◌, length, Option, Some, None, refl, sym, ap}
use Rattle.std.specs.List.{All}
use Rattle.std.specs.Option.{option_map}
use Rattle.c_lex.specs.declared.token.Token.{Token}
use Rattle.c_ast.specs.declared.program.Program.{Program}
use Rattle.c_syntax.specs.declared.tree.External.{External}
use Rattle.c_syntax.specs.Programs.{Parameter, named, nameless, Listed, last_parameter, next_parameter, Parameters, unsaid, void, listed, all_names, names_of, function, prototype, Externals, finished, followed}
use Rattle.c_parse.specs.Programs.{functions_of, Spells}
use Rattle.c_syntax.specs.Names.{IsName}
use Rattle.c_parse.specs.Names.{IsNamed}
use Rattle.c_syntax.proofs.NamedVariables.{all_cons, all_none}
use Rattle.c_syntax.proofs.StmtNamedVariables.{inner_named}

-- a list of names with one more in front
more_names : (n : ℕ) (r : Option (List ℕ)) (names : List ℕ) → option_map (λ ns. n ∷ ns) r ≡
    Some names → (rest : List ℕ) × ((r ≡ Some rest) × (names ≡ n ∷ rest))
more_names n None names h = absurd cc
more_names n (Some rest) names h = let same : n ∷ rest ≡ names = cc in (rest, (refl, sym same))

-- a list of parameters, the first with its name or without
one_listed : (ts : List Token) (i j : ℕ) (o : Option ℕ) (os : List (Option ℕ)) (names : List ℕ) →
    Parameter ts i j o → all_names (o ∷ os) ≡ Some names
    → ((rest : List ℕ) → all_names os ≡ Some rest → All (IsName ts) rest) → All (IsName ts) names
one_listed ts i j o os names (named _ _ h g) is tail =
    let more = more_names (i + 1) (all_names os) names is in
    rw more.1.1 (all_cons (IsName ts) (i + 1) more.0 g (tail more.0 more.1.0))
one_listed ts i j o os names (nameless _ _ h g) is tail = absurd cc

-- parameters are names
listed_named : (ts : List Token) (i j : ℕ) (os : List (Option ℕ)) (names : List ℕ) →
    Listed ts i j os → all_names os ≡ Some names → All (IsName ts) names
listed_named ts i j os names (last_parameter _ _ k o p h) is =
    one_listed ts i k o [] names p is (λ rest e. let nothing : [] ≡ rest = cc in
    rw (← nothing) (all_none (IsName ts)))
listed_named ts i j os names (next_parameter _ _ k l o rest p h r) is =
    one_listed ts i k o rest names p is (λ more e. listed_named ts (k + 1) l rest more r e)

parameters_named : (ts : List Token) (i j : ℕ) (ps : Option (List (Option ℕ))) (names : List ℕ) →
    Parameters ts i j ps → names_of ps ≡ Some names → All (IsName ts) names
parameters_named ts i j ps names (unsaid _ _ h) is =
    let nothing : [] ≡ names = cc in rw (← nothing) (all_none (IsName ts))
parameters_named ts i j ps names (void _ _ h) is =
    let nothing : [] ≡ names = cc in rw (← nothing) (all_none (IsName ts))
parameters_named ts i j ps names (listed _ _ k os r) is = listed_named ts i k os names r is

-- what each of the functions names are names
externals_named : (ts : List Token) (i j : ℕ) (xs : List External) → Externals ts i j xs →
    All (IsNamed ts) (functions_of xs)
externals_named ts i j xs (finished _ _) = all_none (IsNamed ts)
externals_named ts i j xs (followed _ _ k l _ rest (function _ _ m _ ps names body h p n b) r) =
    all_cons (IsNamed ts) (record { name = i + 1; params = names; body = body }) (functions_of rest)
    (record {
      name = h.1.0;
      params = parameters_named ts (i + 3) m ps names p n;
      body =
          inner_named ts (m + 1) k body b.1;
    })
    (externals_named ts k l rest r)
externals_named ts i j xs (followed _ _ k l _ rest (prototype _ _ m ps h p c) r) =
    externals_named ts (m + 1) l rest r

-- what a program names are names
pub program_named : (ts : List Token) (p : Program) → Spells ts p → All (IsNamed ts) p.functions
program_named ts p h =
    let all : All (IsNamed ts) (functions_of h.externals) =
    externals_named ts 0 (length ts) h.externals h.spelled in
    let same : p.functions ≡ functions_of h.externals = ap (λ (q : Program). q.functions) h.is in
    rw same all
