-- Runs and translations are asked for by the mathematical integers alone.
use Rattle.std.specs.Prelude.{◌≡◌, ⊤, ℕ, Bool, true, false, not, ◌&&◌, if◌then◌else◌, Option, Some, None, option_map, List, [], ◌∷◌, codes}
use Rattle.std.proofs.Common.{refl, sym, ap, ◌∙◌, subst}
use Rattle.std.specs.Str.{bytes_eq}
use Rattle.std.proofs.lemmas.Option.{none-some}
use Rattle.c_ast.specs.declared.integers.Integers.{Integers}
use Rattle.c_ast.specs.declared.integers.Integers.TheVariants.{Unbounded, Bits32}
use Rattle.clap.specs.Kinds.{Kinds}
use Rattle.clap.specs.Words.{Row, fault_of, first_of, matches_of}
use Rattle.rx_command.specs.App.{command_app}
use Rattle.rx_command.specs.Commands.{Command, Compare, Rules, Find, Replay, Translate, Demo, Functions, Prove, Check, Refute, after_comparisons, check_of, command_of, demo_of, effort_of, extent_of, functions_of, has_extent_alone, has_functions_alone, has_no_effort, has_no_extent, has_no_options, has_no_more_words, has_no_numbers, has_rules_alone, if_taken, in_mode, integers_of, is_narrow, is_short, named, prove_of, refute_of, rules_of, translate_of}
use Rattle.rx_command.specs.Numbers.{number_of}
use Rattle.rx_command.specs.declared.command.Effort.{Effort}
use Rattle.rx_command.specs.declared.command.Extent.{Extent}

is_false : (b : Bool) → not b ≡ true → b ≡ false
is_false true e = let no : ⊥ = cc in absurd no
is_false false e = refl

-- ---- the functions that are named

named_by : (b : Bool) (integers : Integers) (f g : Functions) → f.integers ≡ integers →
    (if b then Some f else None) ≡ Some g → g.integers ≡ integers
named_by true integers f g is e =
    let same : f ≡ g = cc in sym (ap (λ (h : Functions). h.integers) same) ∙ is
named_by false integers f g is e = absurd (none-some _ e)

named_integers : (integers : Integers) (file first second pre : Option (List ℕ)) (f : Functions) →
    named integers file first second pre ≡ Some f → f.integers ≡ integers
named_integers integers None first second pre f e = absurd (none-some _ e)
named_integers integers (Some file) None second pre f e = absurd (none-some _ e)
named_integers integers (Some file) (Some first) None pre f e = absurd (none-some _ e)
named_integers integers (Some file) (Some first) (Some second) pre f e =
    named_by (is_short pre) integers
    (record {
      integers = integers;
      file = file;
      first = first;
      second = second;
      precondition = pre;
    }) f refl e

-- where 32-bit integers aren't asked for, the functions are named by the others
unbounded_in : (rows : List Row) (f : Functions) → not (is_narrow rows) ≡ true → functions_of rows ≡
    Some f → f.integers ≡ Unbounded
unbounded_in rows f plain e =
    named_integers (integers_of rows) (first_of (codes "file") rows) (first_of (codes "first") rows)
    (first_of (codes "second") rows) (first_of (codes "pre") rows) f e
    ∙ ap (λ b. if b then Bits32 else Unbounded) (is_false (is_narrow rows) plain)

-- ---- what each mode asks for

-- runs and translations are by the mathematical integers
abbrev pub IsPlain : Command → Type 0
IsPlain (Compare (Refute f extent)) = f.integers ≡ Unbounded
IsPlain (Translate f) = f.integers ≡ Unbounded
IsPlain other = ⊤

-- what a mode asks for is so
abbrev AsksPlainly : Option Command → Type 0
AsksPlainly o = (c : Command) → o ≡ Some c → IsPlain c

nothing : AsksPlainly None
nothing c is = absurd (none-some _ is)

something : (d : Command) → IsPlain d → AsksPlainly (Some d)
something d plain c is = let same : d ≡ c = cc in subst IsPlain same plain

proved : (o : Option Functions) (e : Option Effort) (log : Option (List ℕ)) →
    AsksPlainly (prove_of o e log)
proved None e log = nothing
proved (Some g) None log = nothing
proved (Some g) (Some e) None = something (Compare (Prove g e)) tt
proved (Some g) (Some e) (Some log) = nothing

checked : (o : Option Functions) (log depth budget : Option (List ℕ)) →
    AsksPlainly (check_of o log depth budget)
checked None log depth budget = nothing
checked (Some g) None depth budget = nothing
checked (Some g) (Some log) (Some depth) budget = nothing
checked (Some g) (Some log) None (Some budget) = nothing
checked (Some g) (Some log) None None = something (Compare (Check g log)) tt

refuted : (o : Option Functions) (e : Option Extent) (log : Option (List ℕ))
    → ((g : Functions) → o ≡ Some g → g.integers ≡ Unbounded) → AsksPlainly (refute_of o e log)
refuted None e log plain = nothing
refuted (Some g) None log plain = nothing
refuted (Some g) (Some e) None plain = something (Compare (Refute g e)) (plain g refl)
refuted (Some g) (Some e) (Some log) plain = nothing

ruled : (file log : Option (List ℕ)) (alone : Bool) (e : Option Effort) →
    AsksPlainly (rules_of file log alone e)
ruled None log alone e = nothing
ruled (Some file) None alone None = nothing
ruled (Some file) None alone (Some e) = something (Rules (Find file e)) tt
ruled (Some file) (Some log) true e = something (Rules (Replay file log)) tt
ruled (Some file) (Some log) false e = nothing

translated : (o : Option Functions) (log : Option (List ℕ))
    → ((g : Functions) → o ≡ Some g → g.integers ≡ Unbounded) → AsksPlainly (translate_of o log)
translated None log plain = nothing
translated (Some g) None plain = something (Translate g) (plain g refl)
translated (Some g) (Some log) plain = nothing

shown : (o : Option ℕ) → AsksPlainly (option_map Demo o)
shown None = nothing
shown (Some n) = something (Demo n) tt

demonstrated : (o : Option (List ℕ)) → AsksPlainly (demo_of o)
demonstrated None = nothing
demonstrated (Some text) = shown (number_of 1 100 text)

-- one of two branches asks so, where the first does if the test passes, and the second does
branch : (b : Bool) (x y : Option Command) → (b ≡ true → AsksPlainly x) → AsksPlainly y →
    AsksPlainly (if b then x else y)
branch true x y first second = first refl
branch false x y first second = second

both_pass : (b c d : Bool) → (b && (c && d)) ≡ true → c ≡ true
both_pass true true d e = refl
both_pass true false d e = let no : ⊥ = cc in absurd no
both_pass false c d e = let no : ⊥ = cc in absurd no

after : (mode : List ℕ) (rows : List Row) → AsksPlainly (after_comparisons mode rows)
after mode rows =
    branch (bytes_eq mode (codes "rules") && has_rules_alone rows) _ _
    (λ t. ruled (first_of (codes "file") rows) (first_of (codes "first") rows) (has_no_effort rows)
    (effort_of rows))
    (branch (bytes_eq mode (codes "translate") && has_functions_alone rows) _ _
    (λ t. translated (functions_of rows) (first_of (codes "log") rows)
    (λ g. unbounded_in rows g
    (both_pass (bytes_eq mode (codes "translate")) (not (is_narrow rows)) (has_no_numbers rows) t)))
    (branch (bytes_eq mode (codes "demo") && (has_no_more_words rows && has_no_options rows)) _ _
    (λ t. demonstrated (first_of (codes "file") rows)) nothing))

in_order : (mode : Option (List ℕ)) (rows : List Row) → AsksPlainly (in_mode mode rows)
in_order None rows = nothing
in_order (Some mode) rows =
    branch (bytes_eq mode (codes "prove") && has_no_extent rows) _ _
    (λ t. proved (functions_of rows) (effort_of rows) (first_of (codes "log") rows))
    (branch (bytes_eq mode (codes "check") && has_no_extent rows) _ _
    (λ t. checked (functions_of rows) (first_of (codes "log") rows) (first_of (codes "depth") rows)
    (first_of (codes "budget") rows))
    (branch (bytes_eq mode (codes "refute") && has_extent_alone rows) _ _
    (λ t. refuted (functions_of rows) (extent_of rows) (first_of (codes "log") rows)
    (λ g. unbounded_in rows g
    (both_pass (bytes_eq mode (codes "refute")) (not (is_narrow rows)) (has_no_effort rows) t)))
    (after mode rows)))

taken_plainly : (kinds : Kinds) (rows : List Row) → AsksPlainly (if_taken kinds rows)
taken_plainly [] rows = in_order (first_of (codes "mode") rows) rows
taken_plainly (kind ∷ kinds) rows = nothing

pub asks_plainly : (words : List (List ℕ)) (c : Command) → command_of words ≡ Some c → IsPlain c
asks_plainly words = taken_plainly (fault_of command_app words) (matches_of command_app words)
