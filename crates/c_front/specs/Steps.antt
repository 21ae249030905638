-- What the functions inside promise to one another. Nothing that a caller reads depends on this.
use Rattle.std.specs.Prelude.{◌<◌, ◌^◌, ℕ, All, List, length, Option, option_map}
use Rattle.std.specs.Borrow.{Bor}
use Rattle.c_front.specs.declared.refusals.Refusal.{Refusal}
use Rattle.c_front.specs.declared.stages.Next.{Next}
use Rattle.c_front.specs.declared.stages.Next.TheVariants.{Ends, Goes}
use Rattle.c_front.specs.declared.texts.NamedText.{NamedText}
use Rattle.c_ast.specs.declared.program.Function.{Function}
use Rattle.c_front.specs.declared.pairs.TwoFunctions.{TwoFunctions}
use Rattle.c_front.specs.Front.{count_in}

-- each function has so few parameters that they can be counted
abbrev pub HaveFewParams : List Function → Type 0
HaveFewParams functions = All (λ (f : Function). length f.params < 2 ^ 32) functions

-- so have the two
abbrev pub CanBeCounted : TwoFunctions → Type 0
CanBeCounted two =
    (count_in two.program two.first < 2 ^ 32) × (count_in two.program two.second < 2 ^ 32)

-- the two functions alone
abbrev pub two_of : Next Refusal NamedText → Next Refusal TwoFunctions
two_of (Ends refusal) = Ends refusal
two_of (Goes named) = Goes named.two

-- the bytes of a precondition that is borrowed
abbrev pub bytes_of : Option (Bor (List ℕ)) → Option (List ℕ)
bytes_of = option_map (λ bytes. bytes.now)
