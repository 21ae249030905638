-- The precondition of a command isn't too long, and its search isn't too deep.
use Rattle.std.proofs.Common.{◌≡◌, ◌≤◌, ◌∙◌, ℕ, Bool, true, false, List, [], ◌∷◌, Option, None, Some, option_map, refl, sym, ap, subst, arith}
use Rattle.std.specs.Prelude.{◌&&◌, codes, if◌then◌else◌, nat_le}
use Rattle.std.specs.Str.{bytes_eq}
use Rattle.std.specs.Str.Parse.{digits_value}
use Rattle.std.proofs.lemmas.Bool.{leb-true}
use Rattle.std.proofs.lemmas.Option.{none-some}
use Rattle.c_front.proofs.Options.{same_some}
use Rattle.c_ast.specs.declared.integers.Integers.{Integers}
use Rattle.clap.specs.Kinds.{Kinds}
use Rattle.clap.specs.Words.{Row, fault_of, first_of, matches_of}
use Rattle.rx_command.specs.App.{command_app}
use Rattle.rx_command.specs.declared.command.Effort.{Effort}
use Rattle.rx_command.specs.declared.command.Extent.{Extent}
use Rattle.rx_command.specs.Commands.{Check, Command, Compare, Comparison, Demo, Find, Functions, Prove, Refute, Replay, Rules, Translate, after_comparisons, both_numbers, check_of, command_of, effort_of, functions_of, if_taken, demo_of, extent_of, has_extent_alone, has_functions_alone, has_no_effort, has_no_extent, has_no_more_words, has_no_options, has_rules_alone, in_mode, integers_of, is_short, named, number_or, prove_of, refute_of, rules_of, translate_of}
use Rattle.rx_command.specs.Numbers.{is_decimal, number_of}
use Rattle.rx_cli.specs.Answers.{functions_in}
use Rattle.rx_cli.specs.Steps.{IsNotDeep, IsInductionNotDeep}

-- the functions, where there are some, have a short precondition
abbrev AreShort : Option Functions → Type 0
AreShort o = (f : Functions) → o ≡ Some f → is_short f.precondition ≡ true

named_short : (integers : Integers) (file first second pre : Option (List ℕ)) →
    AreShort (named integers file first second pre)
named_short integers None first second pre f is = absurd (none-some _ is)
named_short integers (Some file) None second pre f is = absurd (none-some _ is)
named_short integers (Some file) (Some first) None pre f is = absurd (none-some _ is)
named_short integers (Some file) (Some first) (Some second) pre f is = go (is_short pre) refl is
  where
    whole : Functions
    whole = record {
      integers = integers;
      file = file;
      first = first;
      second = second;
      precondition = pre;
    }

    go : (b : Bool) → is_short pre ≡ b → (if b then Some whole else None) ≡ Some f →
        is_short f.precondition ≡ true
    go true short is =
        let same : whole ≡ f = same_some refl is in
        sym (ap (λ (g : Functions). is_short g.precondition) same) ∙ short
    go false short is = absurd (none-some _ is)

-- a number that is read is at most the greatest that may be
read_below : (least most : ℕ) (text : List ℕ) (n : ℕ) → number_of least most text ≡ Some n → n ≤
    most
read_below least most text n is =
    go (is_decimal text) (nat_le least (digits_value 10 text)) (nat_le (digits_value 10 text) most)
    refl is
  where
    go : (decimal above below : Bool) → nat_le (digits_value 10 text) most ≡ below →
        (if decimal && (above && below) then Some (digits_value 10 text) else None) ≡ Some n → n ≤
        most
    go true true true fits is =
        subst (λ k. k ≤ most) (same_some refl is) (leb-true (digits_value 10 text) most fits)
    go true true false fits is = absurd (none-some _ is)
    go true false below fits is = absurd (none-some _ is)
    go false above below fits is = absurd (none-some _ is)

number_below : (least most usual : ℕ) → usual ≤ most → (o : Option (List ℕ)) (n : ℕ) →
    number_or least most usual o ≡ Some n → n ≤ most
number_below least most usual below None n is = subst (λ k. k ≤ most) (same_some refl is) below
number_below least most usual below (Some text) n is = read_below least most text n is

-- the effort, where there is one, isn't deep
abbrev IsEffort : Option Effort → Type 0
IsEffort o = (e : Effort) → o ≡ Some e → e.depth ≤ 12

both_deep : (depth budget : Option ℕ) → ((n : ℕ) → depth ≡ Some n → n ≤ 12) →
    IsEffort (both_numbers depth budget)
both_deep None budget below e is = absurd (none-some _ is)
both_deep (Some depth) None below e is = absurd (none-some _ is)
both_deep (Some depth) (Some budget) below e is =
    let same : record { depth = depth; budget = budget } ≡ e = same_some refl is in
    subst (λ (z : Effort). z.depth ≤ 12) same (below depth refl)

effort_deep : (rows : List Row) → IsEffort (effort_of rows)
effort_deep rows =
    both_deep (number_or 0 12 5 (first_of (codes "depth") rows))
    (number_or 1 1000000 100000 (first_of (codes "budget") rows))
    (number_below 0 12 5 (omega arith) (first_of (codes "depth") rows))

-- a comparison with a short precondition whose search isn't deep
pub record IsAllowedComparison (comparison : Comparison) : Type 0 where
  pub short : is_short (functions_in comparison).precondition ≡ true
  pub depth : IsNotDeep comparison

-- such a comparison, such a search, a short precondition, or at most 100 examples
abbrev pub IsAllowed : Command → Type 0
IsAllowed (Compare comparison) = IsAllowedComparison comparison
IsAllowed (Rules task) = IsInductionNotDeep task
IsAllowed (Translate f) = is_short f.precondition ≡ true
IsAllowed (Demo pairs) = pairs ≤ 100

abbrev AllowsOnly : Option Command → Type 0
AllowsOnly o = (command : Command) → o ≡ Some command → IsAllowed command

none_allowed : AllowsOnly None
none_allowed command is = absurd (none-some _ is)

prove_allowed : (o : Option Functions) (e : Option Effort) (log : Option (List ℕ)) → AreShort o →
    IsEffort e → AllowsOnly (prove_of o e log)
prove_allowed None e log short deep command is = none_allowed command is
prove_allowed (Some f) None log short deep command is = none_allowed command is
prove_allowed (Some f) (Some effort) (Some log) short deep command is = none_allowed command is
prove_allowed (Some f) (Some effort) None short deep command is =
    let same : Compare (Prove f effort) ≡ command = same_some refl is in
    subst IsAllowed same (record { short = short f refl; depth = deep effort refl })

check_allowed : (o : Option Functions) (log depth budget : Option (List ℕ)) → AreShort o →
    AllowsOnly (check_of o log depth budget)
check_allowed None log depth budget short command is = none_allowed command is
check_allowed (Some f) None depth budget short command is = none_allowed command is
check_allowed (Some f) (Some log) (Some depth) budget short command is = none_allowed command is
check_allowed (Some f) (Some log) None (Some budget) short command is = none_allowed command is
check_allowed (Some f) (Some log) None None short command is =
    let same : Compare (Check f log) ≡ command = same_some refl is in
    subst IsAllowed same (record { short = short f refl; depth = tt })

refute_allowed : (o : Option Functions) (e : Option Extent) (log : Option (List ℕ)) → AreShort o →
    AllowsOnly (refute_of o e log)
refute_allowed None e log short command is = none_allowed command is
refute_allowed (Some f) None log short command is = none_allowed command is
refute_allowed (Some f) (Some extent) (Some log) short command is = none_allowed command is
refute_allowed (Some f) (Some extent) None short command is =
    let same : Compare (Refute f extent) ≡ command = same_some refl is in
    subst IsAllowed same (record { short = short f refl; depth = tt })

rules_allowed : (file log : Option (List ℕ)) (alone : Bool) (e : Option Effort) → IsEffort e →
    AllowsOnly (rules_of file log alone e)
rules_allowed None log alone e deep command is = none_allowed command is
rules_allowed (Some file) None alone None deep command is = none_allowed command is
rules_allowed (Some file) None alone (Some effort) deep command is =
    let same : Rules (Find file effort) ≡ command = same_some refl is in
    subst IsAllowed same (deep effort refl)
rules_allowed (Some file) (Some log) true e deep command is =
    let same : Rules (Replay file log) ≡ command = same_some refl is in subst IsAllowed same tt
rules_allowed (Some file) (Some log) false e deep command is = none_allowed command is

translate_allowed : (o : Option Functions) (log : Option (List ℕ)) → AreShort o →
    AllowsOnly (translate_of o log)
translate_allowed None log short command is = none_allowed command is
translate_allowed (Some f) (Some log) short command is = none_allowed command is
translate_allowed (Some f) None short command is =
    let same : Translate f ≡ command = same_some refl is in
    subst IsAllowed same (short f refl)

demo_allowed : (o : Option (List ℕ)) → AllowsOnly (demo_of o)
demo_allowed None command is = none_allowed command is
demo_allowed (Some text) command is = go (number_of 1 100 text) refl is
  where
    go : (o : Option ℕ) → number_of 1 100 text ≡ o → option_map Demo o ≡ Some command →
        IsAllowed command
    go None read is = absurd (none-some _ is)
    go (Some pairs) read is = subst IsAllowed (same_some refl is) (read_below 1 100 text pairs read)

if_allowed : (b : Bool) (x y : Option Command) → AllowsOnly x → AllowsOnly y →
    AllowsOnly (if b then x else y)
if_allowed true x y p q = p
if_allowed false x y p q = q

functions_short : (rows : List Row) → AreShort (functions_of rows)
functions_short rows =
    named_short (integers_of rows) (first_of (codes "file") rows) (first_of (codes "first") rows)
    (first_of (codes "second") rows) (first_of (codes "pre") rows)

-- what each mode asks for
abbrev in_demo : List ℕ → List Row → Option Command
in_demo mode rows =
    if bytes_eq mode (codes "demo") && (has_no_more_words rows && has_no_options rows) then
    demo_of (first_of (codes "file") rows) else None

abbrev in_translate : List Row → Option Command
in_translate rows = translate_of (functions_of rows) (first_of (codes "log") rows)

abbrev after_rules : List ℕ → List Row → Option Command
after_rules mode rows =
    if bytes_eq mode (codes "translate") && has_functions_alone rows then in_translate rows else
    in_demo mode rows

abbrev in_rules : List Row → Option Command
in_rules rows =
    rules_of (first_of (codes "file") rows) (first_of (codes "first") rows) (has_no_effort rows)
    (effort_of rows)

abbrev in_refute : List Row → Option Command
in_refute rows = refute_of (functions_of rows) (extent_of rows) (first_of (codes "log") rows)

abbrev after_check : List ℕ → List Row → Option Command
after_check mode rows =
    if bytes_eq mode (codes "refute") && has_extent_alone rows then in_refute rows else
    after_comparisons mode rows

abbrev in_check : List Row → Option Command
in_check rows =
    check_of (functions_of rows) (first_of (codes "log") rows) (first_of (codes "depth") rows)
    (first_of (codes "budget") rows)

abbrev after_prove : List ℕ → List Row → Option Command
after_prove mode rows =
    if bytes_eq mode (codes "check") && has_no_extent rows then in_check rows else
    after_check mode rows

demo_mode_allowed : (mode : List ℕ) (rows : List Row) → AllowsOnly (in_demo mode rows)
demo_mode_allowed mode rows =
    if_allowed (bytes_eq mode (codes "demo") && (has_no_more_words rows && has_no_options rows))
    (demo_of (first_of (codes "file") rows)) None (demo_allowed (first_of (codes "file") rows))
    none_allowed

after_rules_allowed : (mode : List ℕ) (rows : List Row) → AllowsOnly (after_rules mode rows)
after_rules_allowed mode rows =
    if_allowed (bytes_eq mode (codes "translate") && has_functions_alone rows) (in_translate rows)
    (in_demo mode rows)
    (translate_allowed (functions_of rows) (first_of (codes "log") rows) (functions_short rows))
    (demo_mode_allowed mode rows)

after_comparisons_allowed : (mode : List ℕ) (rows : List Row) →
    AllowsOnly (after_comparisons mode rows)
after_comparisons_allowed mode rows =
    if_allowed (bytes_eq mode (codes "rules") && has_rules_alone rows) (in_rules rows)
    (after_rules mode rows)
    (rules_allowed (first_of (codes "file") rows) (first_of (codes "first") rows)
    (has_no_effort rows) (effort_of rows) (effort_deep rows))
    (after_rules_allowed mode rows)

after_check_allowed : (mode : List ℕ) (rows : List Row) → AllowsOnly (after_check mode rows)
after_check_allowed mode rows =
    if_allowed (bytes_eq mode (codes "refute") && has_extent_alone rows) (in_refute rows)
    (after_comparisons mode rows)
    (refute_allowed (functions_of rows) (extent_of rows) (first_of (codes "log") rows)
    (functions_short rows)) (after_comparisons_allowed mode rows)

after_prove_allowed : (mode : List ℕ) (rows : List Row) → AllowsOnly (after_prove mode rows)
after_prove_allowed mode rows =
    if_allowed (bytes_eq mode (codes "check") && has_no_extent rows) (in_check rows)
    (after_check mode rows)
    (check_allowed (functions_of rows) (first_of (codes "log") rows) (first_of (codes "depth") rows)
    (first_of (codes "budget") rows) (functions_short rows))
    (after_check_allowed mode rows)

mode_allowed : (mode : Option (List ℕ)) (rows : List Row) → AllowsOnly (in_mode mode rows)
mode_allowed None rows = none_allowed
mode_allowed (Some mode) rows =
    if_allowed (bytes_eq mode (codes "prove") && has_no_extent rows)
    (prove_of (functions_of rows) (effort_of rows) (first_of (codes "log") rows))
    (after_prove mode rows)
    (prove_allowed (functions_of rows) (effort_of rows) (first_of (codes "log") rows)
    (functions_short rows) (effort_deep rows))
    (after_prove_allowed mode rows)

taken_allowed : (kinds : Kinds) (rows : List Row) → AllowsOnly (if_taken kinds rows)
taken_allowed [] rows = mode_allowed (first_of (codes "mode") rows) rows
taken_allowed (kind ∷ kinds) rows = none_allowed

-- what words ask for
pub command_allowed : (words : List (List ℕ)) (command : Command) → Some command ≡
    command_of words → IsAllowed command
command_allowed words command is =
    taken_allowed (fault_of command_app words) (matches_of command_app words) command (sym is)
