-- The answers of a reader that is fed line by line.
use Rattle.std.proofs.Common.{◌≡◌, ◌∙◌, ap, refl, sym, ℕ, false, true, Some, None, List, [], ◌∷◌, ◌++◌}
use Rattle.rx_log.specs.declared.log.Log.{Log}
use Rattle.rx_log.specs.Lines.{version_of}
use Rattle.rx_logtext.specs.Lines.{IsLine, IsText, is_of, lines_of}
use Rattle.rx_logtext.specs.Logs.{Begins, HasLines}
use Rattle.rx_log.specs.Reading.{blank, pushed}
use Rattle.rx_logtext.specs.Reading.{HasTaken, ReadsNext}
use Rattle.rx_log.specs.declared.line.Line.{Line}
use Rattle.rx_log.specs.declared.line_state.LineState.{LineState}
use Rattle.rx_log.specs.declared.line_state.LineState.TheVariants.{AtHeader, Finished}
use Rattle.rx_log.specs.declared.version.Version.{Version}
use Rattle.rx_log.specs.Places.{after}
use Rattle.rx_logtext.proofs.Taking.{may_come, not_whole, only_it, takes}
use Rattle.rx_logtext.proofs.Unique.{lines_one}

pub none_taken : HasTaken AtHeader blank []
none_taken = record { at = refl; widths = refl; in_range = refl; are = refl; arrives = refl }

-- a line whose kind the version lacks is the only one with its text
pub other_kind : (version : Version) (bytes : List ℕ) (read : Line × ℕ) →
    IsText (lines_of version) bytes read → is_of version read.0 ≡ false → (other : Line) →
    ¬ (IsLine version bytes other)
other_kind version bytes read t never other is =
    let same : read ≡ (other, is.1.0) =
    lines_one version bytes read (other, is.1.0) t is.1.1 in
    let f : false ≡ true =
    sym never ∙ ap (λ (it : Line × ℕ). is_of version it.0) same ∙ is.0 in
    cc

-- a line that was read may not come
pub never_comes : (version : Version) (place : LineState) (bytes : List ℕ) (read : Line × ℕ) →
    IsText (lines_of version) bytes read → after place read ≡ None →
    ReadsNext version place bytes None
never_comes version place bytes read is none m =
    only_it version (lines_one version) place bytes read is none m

-- a line that may come was taken
pub one_taken : (place next : LineState) (log : Log) (texts : List (List ℕ)) (bytes : List ℕ)
    (read : Line) → ReadsNext (version_of log) place bytes (Some (read, next)) →
    HasTaken place log texts →
    HasTaken next (pushed read log) (texts ++ bytes ∷ [])
one_taken place next log texts bytes read r h =
    takes place log texts bytes read r.0 next h r.1.0 r.1.1

-- a line that may not come is one with which no log begins
pub none_begins : (place : LineState) (log : Log) (texts : List (List ℕ)) (bytes : List ℕ) →
    ReadsNext (version_of log) place bytes None → HasTaken place log texts →
    ¬ (Begins (texts ++ bytes ∷ []))
none_begins place log texts bytes none h b = none (may_come lines_one place bytes h b)

pub far_from_end : (place : LineState) (log : Log) (texts : List (List ℕ)) → (place ≡ Finished → ⊥)
    →
    HasTaken place log texts → (other : Log) → ¬ (HasLines other texts)
far_from_end place log texts far h other w = not_whole lines_one place h far other w
