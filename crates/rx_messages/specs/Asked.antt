-- What the words of a command line name, as messages name it.
use Rattle.std.specs.Prelude.{ℕ, List, [], ◌++◌, codes, Option, Some, None, option_map}
use Rattle.rx_command.specs.Commands.{Command, Compare, Rules, Translate, Demo, Comparison, Functions, Prove, Check, Refute, Induction, Find, Replay, bytes_of, functions_view}
use Rattle.rx_places.specs.Pieces.{named}
use Rattle.rx_messages.specs.declared.asked.Asked as code

-- two functions, the name of the log that is replayed, and that of a rule text, if there are any
pub record Asked : Type 0 where
  pub functions : Option Functions
  pub log : Option (List ℕ)
  pub rules : Option (List ℕ)

abbrev pub asked_in : Comparison → Asked
asked_in (Prove f effort) = record { functions = Some f; log = None; rules = None }
asked_in (Check f log) = record { functions = Some f; log = Some log; rules = None }
asked_in (Refute f extent) = record { functions = Some f; log = None; rules = None }

abbrev pub asked_for : Induction → Asked
asked_for (Find file effort) = record { functions = None; log = None; rules = Some file }
asked_for (Replay file log) = record { functions = None; log = Some log; rules = Some file }

abbrev pub asked_of : Option Command → Asked
asked_of None = record { functions = None; log = None; rules = None }
asked_of (Some (Demo pairs)) = record { functions = None; log = None; rules = None }
asked_of (Some (Rules task)) = asked_for task
asked_of (Some (Translate f)) = record { functions = Some f; log = None; rules = None }
asked_of (Some (Compare comparison)) = asked_in comparison

-- the name of the file that has the functions, or else of the rule text
abbrev pub file_in : Option Functions → Option (List ℕ) → Option (List ℕ)
file_in None rules = rules
file_in (Some f) rules = Some f.file

abbrev pub file_of : Asked → Option (List ℕ)
file_of asked = file_in asked.functions asked.rules

-- the text of the precondition
abbrev pub text_of : Option (List ℕ) → List ℕ
text_of None = []
text_of (Some text) = text

abbrev pub condition_of : Option Functions → List ℕ
condition_of None = []
condition_of (Some f) = text_of f.precondition

-- a file as a message names it; the program where there is none
abbrev pub file_name : Option (List ℕ) → List ℕ
file_name None = codes "ctrl"
file_name (Some name) = named name

-- ---- calls

-- where a precondition is given, a call asks for one too
abbrev pub with_condition : Option (List ℕ) → List ℕ
with_condition None = codes "; "
with_condition (Some text) = codes " --pre E; "

-- the file and the two names
abbrev pub names_text : Functions → List ℕ
names_text f =
    named f.file ++ (codes " " ++ (named f.first ++ (codes " " ++ named f.second)))

-- the words that compare the functions in a mode, in front of other advice
abbrev pub call_of : List ℕ → Functions → List ℕ
call_of mode f =
    codes "ctrl " ++ (mode ++ (codes " " ++ (names_text f ++ with_condition f.precondition)))

abbrev pub call : List ℕ → Option Functions → List ℕ
call mode None = []
call mode (Some f) = call_of mode f

-- ---- the values of the code

abbrev pub asked_view : code.Asked → Asked
asked_view asked = record {
  functions = option_map functions_view asked.functions;
  log = bytes_of asked.log;
  rules = bytes_of asked.rules;
}
