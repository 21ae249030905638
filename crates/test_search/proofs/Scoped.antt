-- Two functions that the front end names are those of a program that is in order.
use Rattle.std.proofs.Common.{◌≡◌, ℕ, List, true, None, sym, subst}
use Rattle.c_ast.specs.Scoped.{is_scoped}
use Rattle.c_ast.specs.declared.integers.Integers.{Integers}
use Rattle.c_front.proofs.Readings.{reading_of}
use Rattle.c_front.specs.Conditions.{whole_front}
use Rattle.c_front.specs.declared.pairs.Compared.{Compared}
use Rattle.c_front.specs.declared.stages.Next.TheVariants.{Goes}
use Rattle.c_scope.proofs.Programs.{resolved_is_scoped}

module _ (integers : Integers) (source first second : List ℕ) (compared : Compared) where
  pub compared_scoped : whole_front integers source first second None (Goes compared) →
      is_scoped compared.two.program ≡ true
  compared_scoped (two, named, is) =
      let (left, right, are) = reading_of integers source first second (Goes two) named in
      let program = are.are_named.program in
      let scoped = resolved_is_scoped source are.are_named.tokens program two.program
      are.are_named.is.scoped in
      subst (λ (c : Compared). is_scoped c.two.program ≡ true) (sym is) scoped
