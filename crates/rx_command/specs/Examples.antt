-- Some command lines, and what they ask for.
use Rattle.std.specs.Prelude.{ℕ, Some, None, List, [], ◌∷◌, ◌++◌, codes}
use Rattle.c_ast.specs.declared.integers.Integers.TheVariants.{Unbounded, Bits32}
use Rattle.rx_command.specs.Commands.{Command, Functions, Compare, Prove, Check, Refute, Rules, Find, Replay, Translate}

abbrev pub no_words : List (List ℕ)
no_words = []

-- ctrl prove f.c up rec
abbrev pub prove_words : List (List ℕ)
prove_words = codes "ctrl" ∷ codes "prove" ∷ codes "f.c" ∷ codes "up" ∷ codes "rec" ∷ []

abbrev pub up_and_rec : Functions
up_and_rec =
    record {
      integers = Unbounded;
      file = codes "f.c";
      first = codes "up";
      second = codes "rec";
      precondition = None;
    }

abbrev pub prove_usual : Command
prove_usual = Compare (Prove up_and_rec (record { depth = 5; budget = 100000 }))

-- ctrl prove f.c up rec --depth 12 --pre n>=0 --budget=7
abbrev pub given_words : List (List ℕ)
given_words =
    prove_words ++ codes "--depth" ∷ codes "12" ∷ codes "--pre" ∷ codes "n>=0" ∷
    codes "--budget=7" ∷ []

abbrev pub prove_given : Command
prove_given =
    Compare (Prove (record up_and_rec { precondition = Some (codes "n>=0") })
    (record { depth = 12; budget = 7 }))

-- ctrl check f.c up rec f.log
abbrev pub check_words : List (List ℕ)
check_words =
    codes "ctrl" ∷ codes "check" ∷ codes "f.c" ∷ codes "up" ∷ codes "rec" ∷ codes "f.log" ∷ []

abbrev pub check_log : Command
check_log = Compare (Check up_and_rec (codes "f.log"))

-- ctrl check f.c up rec
abbrev pub no_log_words : List (List ℕ)
no_log_words = codes "ctrl" ∷ codes "check" ∷ codes "f.c" ∷ codes "up" ∷ codes "rec" ∷ []

-- ctrl prove f.c up rec --depth 13
abbrev pub deep_words : List (List ℕ)
deep_words = prove_words ++ codes "--depth" ∷ codes "13" ∷ []

-- ctrl prove f.c up rec --depth 05
abbrev pub zero_words : List (List ℕ)
zero_words = prove_words ++ codes "--depth" ∷ codes "05" ∷ []

-- ctrl check f.c up rec f.log --depth 5
abbrev pub beside_words : List (List ℕ)
beside_words = check_words ++ codes "--depth" ∷ codes "5" ∷ []

-- ctrl refute f.c up rec
abbrev pub refute_words : List (List ℕ)
refute_words = codes "ctrl" ∷ codes "refute" ∷ codes "f.c" ∷ codes "up" ∷ codes "rec" ∷ []

abbrev pub refute_usual : Command
refute_usual = Compare (Refute up_and_rec (record { side = 10; rounds = 10000 }))

-- ctrl refute f.c up rec --rounds 7 --pre n>=0 --box=0
abbrev pub boxed_words : List (List ℕ)
boxed_words =
    refute_words ++ codes "--rounds" ∷ codes "7" ∷ codes "--pre" ∷ codes "n>=0" ∷ codes "--box=0" ∷
    []

abbrev pub refute_boxed : Command
refute_boxed =
    Compare (Refute (record up_and_rec { precondition = Some (codes "n>=0") })
    (record { side = 0; rounds = 7 }))

-- ctrl refute f.c up rec --depth 5
abbrev pub deep_refute_words : List (List ℕ)
deep_refute_words = refute_words ++ codes "--depth" ∷ codes "5" ∷ []

-- ctrl check f.c up rec f.log --box 5
abbrev pub boxed_check_words : List (List ℕ)
boxed_check_words = check_words ++ codes "--box" ∷ codes "5" ∷ []

-- ctrl refute f.c up rec --box 1001
abbrev pub large_box_words : List (List ℕ)
large_box_words = refute_words ++ codes "--box" ∷ codes "1001" ∷ []

-- ctrl refute f.c up rec --rounds 0
abbrev pub no_rounds_words : List (List ℕ)
no_rounds_words = refute_words ++ codes "--rounds" ∷ codes "0" ∷ []

-- ctrl rules f.rules
abbrev pub rules_words : List (List ℕ)
rules_words = codes "ctrl" ∷ codes "rules" ∷ codes "f.rules" ∷ []

abbrev pub rules_usual : Command
rules_usual = Rules (Find (codes "f.rules") (record { depth = 5; budget = 100000 }))

-- ctrl rules f.rules --depth 7
abbrev pub deep_rules_words : List (List ℕ)
deep_rules_words = rules_words ++ codes "--depth" ∷ codes "7" ∷ []

abbrev pub rules_deep : Command
rules_deep = Rules (Find (codes "f.rules") (record { depth = 7; budget = 100000 }))

-- ctrl rules f.rules f.log
abbrev pub replay_words : List (List ℕ)
replay_words = rules_words ++ codes "f.log" ∷ []

abbrev pub rules_log : Command
rules_log = Rules (Replay (codes "f.rules") (codes "f.log"))

-- ctrl rules f.rules f.log --depth 7
abbrev pub deep_replay_words : List (List ℕ)
deep_replay_words = replay_words ++ codes "--depth" ∷ codes "7" ∷ []

-- ctrl rules f.rules f.log g.log
abbrev pub two_logs_words : List (List ℕ)
two_logs_words = replay_words ++ codes "g.log" ∷ []

-- ctrl rules f.rules --pre n>=0
abbrev pub pre_rules_words : List (List ℕ)
pre_rules_words = rules_words ++ codes "--pre" ∷ codes "n>=0" ∷ []

-- ctrl translate f.c up rec
abbrev pub translate_words : List (List ℕ)
translate_words = codes "ctrl" ∷ codes "translate" ∷ codes "f.c" ∷ codes "up" ∷ codes "rec" ∷ []

abbrev pub translate_both : Command
translate_both = Translate up_and_rec

-- ctrl translate f.c up rec f.log
abbrev pub log_translate_words : List (List ℕ)
log_translate_words = translate_words ++ codes "f.log" ∷ []

-- ctrl translate f.c up rec --depth 5
abbrev pub deep_translate_words : List (List ℕ)
deep_translate_words = translate_words ++ codes "--depth" ∷ codes "5" ∷ []

-- ctrl demo 100
abbrev pub demo_words : List (List ℕ)
demo_words = codes "ctrl" ∷ codes "demo" ∷ codes "100" ∷ []

-- ctrl demo 0
abbrev pub empty_demo_words : List (List ℕ)
empty_demo_words = codes "ctrl" ∷ codes "demo" ∷ codes "0" ∷ []

-- ctrl demo 101
abbrev pub long_demo_words : List (List ℕ)
long_demo_words = codes "ctrl" ∷ codes "demo" ∷ codes "101" ∷ []

-- ctrl demo 7 --depth 4
abbrev pub deep_demo_words : List (List ℕ)
deep_demo_words = codes "ctrl" ∷ codes "demo" ∷ codes "7" ∷ codes "--depth" ∷ codes "4" ∷ []

abbrev pub narrow_up_and_rec : Functions
narrow_up_and_rec = record up_and_rec { integers = Bits32 }

-- ctrl prove f.c up rec --int32 --depth 3
abbrev pub narrow_words : List (List ℕ)
narrow_words = prove_words ++ codes "--int32" ∷ codes "--depth" ∷ codes "3" ∷ []

abbrev pub prove_narrow : Command
prove_narrow = Compare (Prove narrow_up_and_rec (record { depth = 3; budget = 100000 }))

-- ctrl --int32 check f.c up rec f.log
abbrev pub first_narrow_words : List (List ℕ)
first_narrow_words =
    codes "ctrl" ∷ codes "--int32" ∷ codes "check" ∷ codes "f.c" ∷ codes "up" ∷ codes "rec" ∷
    codes "f.log" ∷ []

-- ctrl check f.c up rec f.log --int32
abbrev pub narrow_check_words : List (List ℕ)
narrow_check_words = check_words ++ codes "--int32" ∷ []

abbrev pub check_narrow : Command
check_narrow = Compare (Check narrow_up_and_rec (codes "f.log"))

-- ctrl prove f.c up rec --int32 --int32
abbrev pub twice_narrow_words : List (List ℕ)
twice_narrow_words = prove_words ++ codes "--int32" ∷ codes "--int32" ∷ []

-- ctrl prove f.c up rec --int32=true
abbrev pub value_narrow_words : List (List ℕ)
value_narrow_words = prove_words ++ codes "--int32=true" ∷ []

-- ctrl refute f.c up rec --int32
abbrev pub narrow_refute_words : List (List ℕ)
narrow_refute_words = refute_words ++ codes "--int32" ∷ []

-- ctrl rules f.rules --int32
abbrev pub narrow_rules_words : List (List ℕ)
narrow_rules_words = rules_words ++ codes "--int32" ∷ []

-- ctrl translate f.c up rec --int32
abbrev pub narrow_translate_words : List (List ℕ)
narrow_translate_words = translate_words ++ codes "--int32" ∷ []

-- ctrl demo 100 --int32
abbrev pub narrow_demo_words : List (List ℕ)
narrow_demo_words = demo_words ++ codes "--int32" ∷ []
