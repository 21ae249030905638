-- What the words of a command line ask for.
use Rattle.std.specs.Prelude.{ℕ, Bool, true, false, not, ◌&&◌, if◌then◌else◌, nat_le, Option, Some, None, is_none, List, [], ◌∷◌, length, codes, option_map}
use Rattle.std.specs.Borrow.{Bor}
use Rattle.std.specs.Option.{option_map_or}
use Rattle.std.specs.Str.{bytes_eq}
use Rattle.clap.specs.Kinds.{Kinds}
use Rattle.clap.specs.Words.{Row, fault_of, first_of, matches_of}
use Rattle.c_ast.specs.declared.integers.Integers.{Integers}
use Rattle.c_ast.specs.declared.integers.Integers.TheVariants.{Unbounded, Bits32}
use Rattle.rx_command.specs.App.{command_app}
use Rattle.rx_command.specs.Numbers.{number_of}
use Rattle.rx_command.specs.declared.command.Command as code
use Rattle.rx_command.specs.declared.command.Comparison as code_comparison
use Rattle.rx_command.specs.declared.command.Comparison.TheVariants as case
use Rattle.rx_command.specs.declared.command.Command.TheVariants as variant
use Rattle.rx_command.specs.declared.command.Effort.{Effort}
use Rattle.rx_command.specs.declared.command.Extent.{Extent}
use Rattle.rx_command.specs.declared.command.Functions as code_functions
use Rattle.rx_command.specs.declared.command.Induction as code_induction
use Rattle.rx_command.specs.declared.command.Induction.TheVariants as task

-- two functions of a file, by a kind of integers, and a precondition on their arguments
pub record Functions : Type 0 where
  pub integers : Integers
  pub file : List ℕ
  pub first : List ℕ
  pub second : List ℕ
  pub precondition : Option (List ℕ)

-- to search for a proof that both compute the same, to replay the proof in a log, or to run both on
-- all small arguments
pub data Comparison : Type 0 where
  Prove : Functions → Effort → Comparison
  Check : Functions → List ℕ → Comparison
  Refute : Functions → Extent → Comparison

-- to search for a proof of the equation of the rule text in a file, or to replay the proof in the
-- log with the second name
pub data Induction : Type 0 where
  Find : List ℕ → Effort → Induction
  Replay : List ℕ → List ℕ → Induction

-- to compare two functions, to prove the equation of a rule text, to write the rule text of two
-- functions, or to search for proofs of n examples
pub data Command : Type 0 where
  Compare : Comparison → Command
  Rules : Induction → Command
  Translate : Functions → Command
  Demo : ℕ → Command

-- ---- what the words give

-- the most bytes of a precondition
abbrev pub longest_precondition : ℕ
longest_precondition = 1048576

abbrev pub is_short : Option (List ℕ) → Bool
is_short None = true
is_short (Some text) = nat_le (length text) longest_precondition

-- 32-bit integers are asked for; `clap` gives the flag the value `true` or `false`
abbrev pub is_narrow : List Row → Bool
is_narrow rows =
    option_map_or (λ text. bytes_eq text (codes "true")) (first_of (codes "int32") rows) false

abbrev pub integers_of : List Row → Integers
integers_of rows = if is_narrow rows then Bits32 else Unbounded

-- two functions of a file, where all three words are there and the precondition isn't too long
abbrev pub named : Integers → Option (List ℕ) → Option (List ℕ) → Option (List ℕ) →
    Option (List ℕ) → Option Functions
named integers None first second pre = None
named integers (Some file) None second pre = None
named integers (Some file) (Some first) None pre = None
named integers (Some file) (Some first) (Some second) pre =
    if is_short pre then Some (record {
      integers = integers;
      file = file;
      first = first;
      second = second;
      precondition = pre;
    }) else None

abbrev pub functions_of : List Row → Option Functions
functions_of rows =
    named (integers_of rows) (first_of (codes "file") rows) (first_of (codes "first") rows)
    (first_of (codes "second") rows) (first_of (codes "pre") rows)

-- a number between two, or the usual one where nothing is given
abbrev pub number_or : ℕ → ℕ → ℕ → Option (List ℕ) → Option ℕ
number_or least most usual None = Some usual
number_or least most usual (Some text) = number_of least most text

abbrev pub both_numbers : Option ℕ → Option ℕ → Option Effort
both_numbers None budget = None
both_numbers (Some depth) None = None
both_numbers (Some depth) (Some budget) = Some (record { depth = depth; budget = budget })

-- the depth is 0 to 12 and usually 5, the budget 1 to 1,000,000 and usually 100,000
abbrev pub effort_of : List Row → Option Effort
effort_of rows =
    both_numbers (number_or 0 12 5 (first_of (codes "depth") rows))
    (number_or 1 1000000 100000 (first_of (codes "budget") rows))

abbrev pub both_parts : Option ℕ → Option ℕ → Option Extent
both_parts None rounds = None
both_parts (Some side) None = None
both_parts (Some side) (Some rounds) = Some (record { side = side; rounds = rounds })

-- the side of the box is 0 to 1,000 and usually 10, the rounds are 1 to 100,000 and usually 10,000
abbrev pub extent_of : List Row → Option Extent
extent_of rows =
    both_parts (number_or 0 1000 10 (first_of (codes "box") rows))
    (number_or 1 100000 10000 (first_of (codes "rounds") rows))

-- ---- modes

-- `prove` takes no log
abbrev pub prove_of : Option Functions → Option Effort → Option (List ℕ) → Option Command
prove_of None effort log = None
prove_of (Some functions) None log = None
prove_of (Some functions) (Some effort) None =
    Some (Compare (Prove functions effort))
prove_of (Some functions) (Some effort) (Some log) = None

-- `check` takes a log, and neither depth nor budget
abbrev pub check_of : Option Functions → Option (List ℕ) → Option (List ℕ) →
    Option (List ℕ) → Option Command
check_of None log depth budget = None
check_of (Some functions) None depth budget = None
check_of (Some functions) (Some log) (Some depth) budget = None
check_of (Some functions) (Some log) None (Some budget) = None
check_of (Some functions) (Some log) None None =
    Some (Compare (Check functions log))

-- `refute` takes no log
abbrev pub refute_of : Option Functions → Option Extent → Option (List ℕ) → Option Command
refute_of None extent log = None
refute_of (Some functions) None log = None
refute_of (Some functions) (Some extent) None = Some (Compare (Refute functions extent))
refute_of (Some functions) (Some extent) (Some log) = None

-- `rules` takes a log in the place of a function, and then neither depth nor budget
abbrev pub rules_of : Option (List ℕ) → Option (List ℕ) → Bool → Option Effort → Option Command
rules_of None log alone effort = None
rules_of (Some file) None alone effort = option_map (λ e. Rules (Find file e)) effort
rules_of (Some file) (Some log) true effort = Some (Rules (Replay file log))
rules_of (Some file) (Some log) false effort = None

-- `translate` takes no log
abbrev pub translate_of : Option Functions → Option (List ℕ) → Option Command
translate_of None log = None
translate_of (Some functions) None = Some (Translate functions)
translate_of (Some functions) (Some log) = None

-- `demo` takes the number of examples in the place of the file, 1 to 100
abbrev pub demo_of : Option (List ℕ) → Option Command
demo_of None = None
demo_of (Some text) = option_map Demo (number_of 1 100 text)

-- nothing is given under this
abbrev pub is_absent : List ℕ → List Row → Bool
is_absent id rows = is_none (first_of id rows)

-- no word is after the number of examples
abbrev pub has_no_more_words : List Row → Bool
has_no_more_words rows =
    is_absent (codes "first") rows && (is_absent (codes "second") rows &&
    is_absent (codes "log") rows)

-- neither a depth nor a budget
abbrev pub has_no_effort : List Row → Bool
has_no_effort rows = is_absent (codes "depth") rows && is_absent (codes "budget") rows

-- neither a box nor rounds
abbrev pub has_no_extent : List Row → Bool
has_no_extent rows = is_absent (codes "box") rows && is_absent (codes "rounds") rows

-- the integers aren't those of 32 bits, and there is neither a depth nor a budget
abbrev pub has_extent_alone : List Row → Bool
has_extent_alone rows = not (is_narrow rows) && has_no_effort rows

-- none of these four
abbrev pub has_no_numbers : List Row → Bool
has_no_numbers rows = has_no_effort rows && has_no_extent rows

-- nor 32-bit integers
abbrev pub has_functions_alone : List Row → Bool
has_functions_alone rows = not (is_narrow rows) && has_no_numbers rows

abbrev pub has_no_options : List Row → Bool
has_no_options rows = is_absent (codes "pre") rows && has_functions_alone rows

-- no second function, no further log, no precondition, no 32-bit integers, and neither a box nor
-- rounds
abbrev pub has_rules_alone : List Row → Bool
has_rules_alone rows =
    is_absent (codes "second") rows && (is_absent (codes "log") rows &&
    (is_absent (codes "pre") rows && (not (is_narrow rows) && has_no_extent rows)))

-- the modes that compare nothing
abbrev pub after_comparisons : List ℕ → List Row → Option Command
after_comparisons mode rows =
    if bytes_eq mode (codes "rules") && has_rules_alone rows
    then rules_of (first_of (codes "file") rows) (first_of (codes "first") rows)
    (has_no_effort rows) (effort_of rows)
    else (if bytes_eq mode (codes "translate") && has_functions_alone rows
    then translate_of (functions_of rows) (first_of (codes "log") rows)
    else (if bytes_eq mode (codes "demo") && (has_no_more_words rows && has_no_options rows)
    then demo_of (first_of (codes "file") rows)
    else None))

-- a depth and a budget are of `prove` and `rules` alone, a box and rounds of `refute` alone, 32-bit
-- integers of `prove` and `check` alone
abbrev pub in_mode : Option (List ℕ) → List Row → Option Command
in_mode None rows = None
in_mode (Some mode) rows =
    if bytes_eq mode (codes "prove") && has_no_extent rows
    then prove_of (functions_of rows) (effort_of rows) (first_of (codes "log") rows)
    else (if bytes_eq mode (codes "check") && has_no_extent rows
    then check_of (functions_of rows) (first_of (codes "log") rows)
    (first_of (codes "depth") rows) (first_of (codes "budget") rows)
    else (if bytes_eq mode (codes "refute") && has_extent_alone rows
    then refute_of (functions_of rows) (extent_of rows) (first_of (codes "log") rows)
    else after_comparisons mode rows))

abbrev pub command_in : List Row → Option Command
command_in rows = in_mode (first_of (codes "mode") rows) rows

-- what is asked for where `clap` finds no fault
abbrev pub if_taken : Kinds → List Row → Option Command
if_taken [] rows = command_in rows
if_taken (kind ∷ kinds) rows = None

-- what the words ask for, the program's name first; none where `clap` doesn't take them or one is
-- missing, too many or out of range
abbrev pub command_of : List (List ℕ) → Option Command
command_of words = if_taken (fault_of command_app words) (matches_of command_app words)

-- ---- the values of the code, by their bytes

abbrev pub bytes_of : Option (Bor (List ℕ)) → Option (List ℕ)
bytes_of = option_map (λ text. text.now)

abbrev pub functions_view : code_functions.Functions → Functions
functions_view f = record {
  integers = f.integers;
  file = f.file.now;
  first = f.first.now;
  second = f.second.now;
  precondition = bytes_of f.precondition;
}

abbrev pub comparison_view : code_comparison.Comparison → Comparison
comparison_view (case.Prove functions effort) = Prove (functions_view functions) effort
comparison_view (case.Check functions log) = Check (functions_view functions) log.now
comparison_view (case.Refute functions extent) = Refute (functions_view functions) extent

abbrev pub induction_view : code_induction.Induction → Induction
induction_view (task.Find file effort) = Find file.now effort
induction_view (task.Replay file log) = Replay file.now log.now

abbrev pub command_view : code.Command → Command
command_view (variant.Compare comparison) = Compare (comparison_view comparison)
command_view (variant.Rules induction) = Rules (induction_view induction)
command_view (variant.Translate functions) = Translate (functions_view functions)
command_view (variant.Demo count) = Demo count
