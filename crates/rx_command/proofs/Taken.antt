-- The command line as `clap` takes it: what its answers say of the command.
use Rattle.std.specs.Prelude.{◌≡◌, ◌≢◌, ◌⊎◌, true, List, [], ◌∷◌, None}
use Rattle.std.proofs.Common.{inl, inr, refl, sym, ap, ◌∙◌, subst}
use Rattle.clap.specs.Kinds.{IsAmong, Kinds}
use Rattle.clap.specs.Words.{App, Row, Text, fault_of, is_simple, is_simple_and_free, matches_of}
use Rattle.clap.specs.declared.error.kind.ErrorKind.{ErrorKind}
use Rattle.clap.specs.declared.error.kind.ErrorKind.TheVariants.{OutOfMemory}
use Rattle.clap.proofs.OnLiterals.{clap_on_literals}
use Rattle.rx_command.specs.App.{command_app}
use Rattle.rx_command.specs.Commands.{command_in, command_of, if_taken}

is_one : is_simple command_app ≡ true
unfolding clap_on_literals
is_one = refl

is_free : is_simple_and_free command_app ≡ true
unfolding clap_on_literals
is_free = refl

-- with a fault nothing is asked for
faulty : (kinds : Kinds) (k : ErrorKind) (rows : List Row) → IsAmong k kinds → None ≡
    if_taken kinds rows
faulty [] k rows h = elim h [ ]
faulty (x ∷ xs) k rows h = refl

pub taken : (a : App) (words : List Text) (rows : List Row) → a ≡ command_app
    → (is_simple_and_free a ≡ true → fault_of a words ≡ []) →
    (is_simple a ≡ true → rows ≡ matches_of a words)
    → command_in rows ≡ command_of words
taken a words rows same fault found =
    let none : fault_of command_app words ≡ [] =
    subst (λ b. fault_of b words ≡ []) same (fault (ap is_simple_and_free same ∙ is_free)) in
    let rows_are : rows ≡ matches_of command_app words =
    subst (λ b. rows ≡ matches_of b words) same (found (ap is_simple same ∙ is_one)) in
    ap command_in rows_are ∙ sym (ap (λ ks. if_taken ks (matches_of command_app words)) none)

refused_by : (words : List Text) (k : ErrorKind) → k ≢ OutOfMemory → (k ≡ OutOfMemory) ⊎
    IsAmong k (fault_of command_app words)
    → None ≡ command_of words
refused_by words k other (inl e) = absurd (other e)
refused_by words k other (inr h) =
    faulty (fault_of command_app words) k (matches_of command_app words) h

pub refused : (a : App) (words : List Text) (k : ErrorKind) → a ≡ command_app → k ≢ OutOfMemory
    → (is_simple_and_free a ≡ true → (k ≡ OutOfMemory) ⊎ IsAmong k (fault_of a words))
    → None ≡ command_of words
refused a words k same other h =
    refused_by words k other (subst (λ b. (k ≡ OutOfMemory) ⊎ IsAmong k (fault_of b words)) same
    (h (ap is_simple_and_free same ∙ is_free)))
