-- What the front end says of two names in a well-formed program.
use Rattle.std.proofs.Common.{◌≡◌, ◌≢◌, ℕ, ◌<◌, List, length, map, Option, Some, None, Ok, slice_get, refl, sym, ap, ◌∙◌, arith}
use Rattle.std.proofs.lemmas.List.{length-map}
use Rattle.rx_plain.proofs.Lists.{element_within, position_within}
use Rattle.c_lex.specs.declared.token.Token.{Token}
use Rattle.c_ast.specs.declared.integers.Integers.{Integers}
use Rattle.c_ast.specs.declared.program.Function.{Function}
use Rattle.c_ast.specs.declared.program.Program.{Program}
use Rattle.c_ast.specs.declared.program.Resolved.{Resolved}
use Rattle.c_names.specs.Spellings.{spellings, spelling_at}
use Rattle.c_names.specs.Expressions.{count_at}
use Rattle.c_scope.specs.Programs.{scope_of}
use Rattle.c_front.specs.declared.pairs.TwoFunctions.{TwoFunctions}
use Rattle.c_front.specs.declared.refusals.Refusal.TheVariants.{NoFunction, Arity}
use Rattle.c_front.specs.declared.stages.Next.TheVariants.{Ends, Goes}
use Rattle.c_front.specs.FrontEnd.{AreNamed, IsReading, IsWellFormed, missing, place_in}
use Rattle.std.proofs.lemmas.Option.{none-some}
use Rattle.c_scope.proofs.ResolvedPrograms.{counted, counts_kept}

-- a resolved program has as many parameters at each place
pub counts_at : (source : List ℕ) (tokens : List Token) (program : Program) (resolved : Resolved) →
    scope_of source tokens program ≡ Ok resolved
    → (i : ℕ) → count_at (slice_get resolved.functions i) ≡ count_at (slice_get program.functions i)
counts_at source tokens program resolved scoped i =
    by_counted (slice_get resolved.functions i) (slice_get program.functions i)
    (counts_kept source tokens program resolved scoped i)
  where
    by_counted : (o p : Option Function) → counted o ≡ counted p → count_at o ≡ count_at p
    by_counted None None e = refl
    by_counted None (Some g) e = absurd (none-some _ e)
    by_counted (Some f) None e = absurd (none-some _ (sym e))
    by_counted (Some f) (Some g) e = let same : length f.params ≡ length g.params = cc in same

module _ (integers : Integers) (source : List ℕ) (tokens : List Token) (program : Program)
    (resolved : Resolved) (well : IsWellFormed integers source tokens program resolved) where
  -- a name's place is that of a function of the program
  place_within : (name : List ℕ) (i : ℕ) → place_in source tokens program name ≡ Some i → i <
      length program.functions
  place_within name i is =
      let h = position_within _ 0 (spellings source tokens
      (map (λ (f : Function). f.name) program.functions)) i is in
      let l : length (spellings source tokens (map (λ (f : Function). f.name) program.functions)) ≡
      length (map (λ (f : Function). f.name) program.functions) =
      length-map (map (λ (f : Function). f.name) program.functions) (spelling_at source tokens)
      in
      let m : length (map (λ (f : Function). f.name) program.functions) ≡ length program.functions =
      length-map program.functions (λ (f : Function). f.name) in
      omega (arith, h, l, m)

  -- the function that is at a place, with n parameters
  abbrev Stands : ℕ → Type 0
  Stands i =
      (g : Function) × (slice_get resolved.functions i ≡ Some g) ×
      (length g.params ≡ count_at (slice_get program.functions i))

  stands_as : (i : ℕ) (f : Function) (o p : Option Function) → slice_get resolved.functions i ≡ o →
      slice_get program.functions i ≡ p → p ≡ Some f → counted o ≡ counted p → Stands i
  stands_as i f (Some g) (Some h) is_o is_p there e =
      let same : length g.params ≡ length h.params = cc in (g, is_o, same ∙ sym (ap count_at is_p))
  stands_as i f None (Some h) is_o is_p there e = absurd (none-some _ e)
  stands_as i f o None is_o is_p there e = absurd (none-some _ there)

  stands : (name : List ℕ) (i : ℕ) → place_in source tokens program name ≡ Some i → Stands i
  stands name i is =
      let there : (f : Function) × (slice_get program.functions i ≡ Some f) =
      element_within program.functions i (place_within name i is) in
      stands_as i there.0 (slice_get resolved.functions i) (slice_get program.functions i) refl refl
      there.1 (counts_kept source tokens program resolved well.scoped i)

  module _ (first second : List ℕ) where
    -- one of the names has no function
    pub lacks : (name : ℕ) → missing (place_in source tokens program first)
        (place_in source tokens program second) ≡ Some name
        → IsReading integers source first second (Ends (NoFunction name))
    lacks name is = (tokens, program, resolved, well, is)

    module _ (i j : ℕ) (first_is : place_in source tokens program first ≡ Some i)
        (second_is : place_in source tokens program second ≡ Some j) where
      abbrev pub named : TwoFunctions
      named = record { program = resolved; first = i; second = j }

      are_named : (f g : Function) → slice_get resolved.functions i ≡ Some f →
          slice_get resolved.functions j ≡ Some g → AreNamed integers source first second named f g
      are_named f g at_i at_j = record {
        tokens = tokens;
        program = program;
        is = well;
        first_stands = first_is;
        second_stands = second_is;
        is_left = at_i;
        is_right = at_j;
      }

      -- both have functions, with other numbers of parameters
      pub other_counts : (m n : ℕ) → m ≡ count_at (slice_get program.functions i) → n ≡
          count_at (slice_get program.functions j) → m ≢ n
          → IsReading integers source first second (Ends (Arity m n))
      other_counts m n is_m is_n differ =
          let left = stands first i first_is in
          let right = stands second j second_is in (
            named,
            left.0,
            right.0,
            are_named left.0 right.0 left.1 right.1,
            left.2 ∙ sym is_m,
            right.2 ∙ sym is_n,
            differ,
          )

      -- both have functions, of equally many parameters
      pub comparable : (m n : ℕ) → m ≡ count_at (slice_get program.functions i) → n ≡
          count_at (slice_get program.functions j) → m ≡ n
          → IsReading integers source first second (Goes named)
      comparable m n is_m is_n same =
          let left = stands first i first_is in
          let right = stands second j second_is in (
            left.0,
            right.0,
            record {
              are_named = are_named left.0 right.0 left.1 right.1;
              counts =
                  left.2 ∙ (sym is_m ∙ (same ∙ (is_n ∙ sym right.2)));
            },
          )
