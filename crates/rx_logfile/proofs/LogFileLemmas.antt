-- A log that is replayed while it is read: what is kept, a line or a piece at a time, and what is
-- said at the end.
use Rattle.std.proofs.Common.{◌≡◌, ◌∙◌, sym, refl, ap, subst, ℕ, ◌+◌, ◌<◌, ◌≤◌, suc, Bool, true, false, Option, Some, None, Result, Ok, Err, List, [], ◌∷◌, ◌++◌, drop, length, append_assoc, length-append, arith}
use Rattle.std.proofs.lemmas.List.{append-nil, length-drop}
use Rattle.std.specs.Io.KnownBytes.{Consumes, IsAtEnd}
use Rattle.std.specs.Prelude.{◌^◌}
use Rattle.rx_check.specs.Answers.{Answers}
use Rattle.rx_check.specs.Replay as lines
use Rattle.rx_check.specs.declared.check_end.CheckEnd.{CheckEnd}
use Rattle.rx_check.specs.Replay.{log_of, place_after}
use Rattle.rx_check.proofs.LineOrder.{pushed_all-append}
use Rattle.rx_io.specs.Outside.{HoldsBytes, IsOpenedAt, Names}
use Rattle.rx_domain.specs.declared.domains.Domains.{Domains}
use Rattle.rx_log.specs.Lines.{before_covers, before_end, before_ranks, behind_steps, log_lines, version_of}
use Rattle.rx_log.specs.Places.{after}
use Rattle.rx_log.specs.Reading.{blank, lines_to, pushed}
use Rattle.rx_log.specs.declared.line.Line.{Line}
use Rattle.rx_log.specs.declared.log.Log.{Log}
use Rattle.rx_log.specs.declared.version.Version.{Version}
use Rattle.rx_log.specs.declared.line_state.LineState.{LineState}
use Rattle.rx_log.specs.declared.line_state.LineState.TheVariants.{AtHeader, InDomains, InKeeps, InCovers, InSteps, InRanks, InPairs, Finished}
use Rattle.rx_logtext.specs.Logs.{IsFirstBad, IsLog, ended, line_texts, up_to_feed}
use Rattle.rx_logtext.specs.Readers as text
use Rattle.rx_logtext.specs.Readers.{MayLead, Takes, has_bad, place_of, taken_of}
use Rattle.rx_logtext.specs.declared.log_end.LogEnd.TheVariants as end
use Rattle.rx_logtext.specs.declared.reader.LogReader.{LogReader}
use Rattle.rx_logtext.proofs.Cuts.{up_to_feed-drop, up_to_feed-some}
use Rattle.rx_logtext.proofs.OneReading.{never_both, one_bad_line}
use Rattle.rx_logtext.proofs.Texts.{bad_goes_on, front_taken, stands_within}
use Rattle.rx_term.specs.declared.rule.Equation.{Equation}
use Rattle.rx_term.specs.declared.rule_set.RuleParts.{RuleParts}
use Rattle.rx_logfile.specs.Checking.{IsCount, IsInStep, IsReplayed, StandsFor, TakesLine, UnlessBad, lines_in}
use Rattle.rx_logfile.specs.LogFiles.{OnBytes, OnFile}
use Rattle.rx_logfile.specs.declared.file_end.FileEnd.{FileEnd}
use Rattle.rx_logfile.specs.declared.file_end.FileEnd.TheVariants as told
use Rattle.rx_logfile.specs.declared.log_check.LogCheck.{LogCheck}

-- ---- the beginning

no_lines : (texts : List (List ℕ)) (left : List ℕ) → [] ≡ ended texts ++ left → texts ≡ []
no_lines [] left e = refl
no_lines ([] ∷ texts) left e = absurd (cc)
no_lines ((byte ∷ bytes) ∷ texts) left e = absurd (cc)

no_its : (version : Version) (its : List (Line × ℕ)) → line_texts version its ≡ [] → its ≡ []
no_its version [] e = refl
no_its version (it ∷ its) e = absurd (cc)

first_empty : {A : Type 0} (xs ys : List A) → xs ++ ys ≡ [] → xs ≡ []
first_empty [] ys e = refl
first_empty (x ∷ xs) ys e = absurd (cc)

-- each log has a first line
never_empty : (domains : Option Domains) → before_covers domains ≡ [] → ⊥
never_empty None e = cc
never_empty (Some domains) e = cc

never_covers : (log : Log) → before_ranks log ≡ [] → ⊥
never_covers log e = never_empty log.domains (first_empty (before_covers log.domains) _ e)

never_ranks : (log : Log) → before_end log ≡ [] → ⊥
never_ranks log e = never_covers log (first_empty (before_ranks log) (behind_steps log) e)

at_header : (version : Version) (place : LineState) (log : Log) →
    line_texts version (lines_to place log) ≡ [] → place ≡ AtHeader
at_header version AtHeader log e = refl
at_header version (InDomains next) log e =
    absurd (never_empty log.domains (no_its version (before_covers log.domains) e))
at_header version InKeeps log e =
    absurd (never_empty log.domains (no_its version (before_covers log.domains) e))
at_header version (InCovers next) log e =
    absurd (never_covers log (no_its version (before_ranks log) e))
at_header version InSteps log e =
    absurd (never_covers log (no_its version (before_ranks log) e))
at_header version (InRanks columns next) log e =
    absurd (never_ranks log (no_its version (before_end log) e))
at_header version InPairs log e = absurd (never_ranks log (no_its version (before_end log) e))
at_header version Finished log e =
    absurd (never_ranks log (first_empty (before_end log) _ (no_its version (log_lines log) e)))

same_place : {x y : LineState} → Some x ≡ Some y → x ≡ y
same_place e = cc

pub starts : {check : LogCheck} {log : Log} (parts : RuleParts) (goal : Equation) →
    text.StandsFor check.reader log [] → lines.StandsFor check.replayer parts goal [] →
    place_after check.replayer ≡ place_of check.reader
starts {check} {log} parts goal reader replayer =
    same_place (sym replayer.arrives) ∙ sym (at_header (version_of log) check.reader.place log
    (reader.taken.are ∙ no_lines reader.texts reader.left reader.joined))

unless : (bad : Bool) (replayed : Type 0) → replayed → UnlessBad bad replayed
unless true replayed h = tt
unless false replayed h = h

pub stands_first : {check : LogCheck} (parts : RuleParts) (goal : Equation) →
    text.StandsFor check.reader blank [] → lines.StandsFor check.replayer parts goal [] →
    StandsFor check parts goal []
stands_first {check} parts goal reader replayer =
    let replayed : IsReplayed check parts goal blank [] =
    record { its = []; are = refl; stands = replayer; whole = refl } in
    record {
      log = blank;
      front = [];
      more = [];
      joined = refl;
      reader = reader;
      replayed = unless (has_bad check.reader) (IsReplayed check parts goal blank []) replayed;
    }

-- ---- a line

pub may_come : {check : LogCheck} (line : Line) (next place : LineState) → IsInStep check →
    MayLead (place_of check.reader) line next → place ≡ next →
    lines.MayLead (place_after check.replayer) line place
may_come line next place step (symbol, leads) is =
    (symbol, ap (λ (p : LineState). after p (line, symbol)) step.place ∙ leads ∙ ap Some (sym is))

replayed_of : {check : LogCheck} {parts : RuleParts} {goal : Equation} {bytes : List ℕ}
    (h : StandsFor check parts goal bytes) → has_bad check.reader ≡ false →
    IsReplayed check parts goal h.log h.more
replayed_of {check} {parts} {goal} h e =
    subst (λ (b : Bool). UnlessBad b (IsReplayed check parts goal h.log h.more)) e h.replayed

all_front : {bytes front more : List ℕ} → bytes ≡ front ++ more → more ≡ [] → bytes ≡ front
all_front {bytes} {front} e f = e ∙ ap (λ (m : List ℕ). front ++ m) f ∙ append-nil front

further : {bytes : List ℕ} (front : List ℕ) {more : List ℕ} (piece : List ℕ) → bytes ≡ front ++
    more → more ≡ [] → bytes ++ piece ≡ (front ++ piece) ++ []
further front piece e f =
    ap (λ (l : List ℕ). l ++ piece) (all_front e f) ∙ sym (append-nil (front ++ piece))

-- a line was read and replayed
pub line_replayed : {old new : LogCheck} {parts : RuleParts} {goal : Equation} {bytes : List ℕ}
    (piece : List ℕ) (count : ℕ) (line : Line) (h : StandsFor old parts goal bytes)
    → Takes old.reader h.log h.front piece new.reader (Ok (count, Some line)) → IsInStep old →
    MayLead (place_of old.reader) line (place_of new.reader)
    → ((its : List (Line × ℕ)) (symbol : ℕ) → lines.StandsFor old.replayer parts goal its →
    after (place_after old.replayer) (line, symbol) ≡ Some (place_of new.reader) →
    lines.StandsFor new.replayer parts goal (its ++ (line, symbol) ∷ []))
    → StandsFor new parts goal (bytes ++ up_to_feed piece)
line_replayed {old} {new} {parts} {goal} {bytes} piece count line h t step (symbol, leads) replays =
    let r = replayed_of h t.0 in
    let comes : after (place_after old.replayer) (line, symbol) ≡ Some (place_of new.reader) =
    ap (λ (p : LineState). after p (line, symbol)) step.place ∙ leads in
    let replayed : IsReplayed new parts goal (pushed line h.log) [] = record {
      its = r.its ++ (line, symbol) ∷ [];
      are =
          pushed_all-append blank r.its ((line, symbol) ∷ []) ∙
          ap (λ (l : Log). pushed line l) r.are;
      stands = replays r.its symbol r.stands comes;
      whole = refl;
    } in
    record {
      log = pushed line h.log;
      front = h.front ++ up_to_feed piece;
      more = [];
      joined = further h.front (up_to_feed piece) h.joined r.whole;
      reader = t.1.1;
      replayed =
          unless (has_bad new.reader) (IsReplayed new parts goal (pushed line h.log) []) replayed;
    }

-- a part of a line was read
pub part_read : {old : LogCheck} {parts : RuleParts} {goal : Equation} {bytes : List ℕ}
    (piece : List ℕ) (count : ℕ) (reader : LogReader) (h : StandsFor old parts goal bytes)
    → Takes old.reader h.log h.front piece reader (Ok (count, None)) →
    StandsFor (record { reader = reader; replayer = old.replayer }) parts goal
    (bytes ++ up_to_feed piece)
part_read {old} {parts} {goal} {bytes} piece count reader h t =
    let r = replayed_of h t.0 in
    let new : LogCheck = record { reader = reader; replayer = old.replayer } in
    let replayed : IsReplayed new parts goal h.log [] =
    record { its = r.its; are = r.are; stands = r.stands; whole = refl } in
    record {
      log = h.log;
      front = h.front ++ up_to_feed piece;
      more = [];
      joined = further h.front (up_to_feed piece) h.joined r.whole;
      reader = t.1.1;
      replayed = unless (has_bad reader) (IsReplayed new parts goal h.log []) replayed;
    }

left_over : {old : LogCheck} {parts : RuleParts} {goal : Equation} {bytes : List ℕ} (b : Bool)
    (piece : List ℕ) (h : StandsFor old parts goal bytes) → has_bad old.reader ≡ b
    → (more : List ℕ) × (bytes ++ piece ≡ (h.front ++ taken_of b piece) ++ more)
left_over true piece h bad = (
  h.more ++ piece,
  ap (λ (l : List ℕ). l ++ piece) h.joined ∙ append_assoc h.front h.more piece ∙
      ap (λ (l : List ℕ). l ++ (h.more ++ piece)) (sym (append-nil h.front)),
)
left_over {old} {parts} {goal} {bytes} false piece h good =
    let r = replayed_of h good in
    let f = up_to_feed-drop piece in (
      f.0,
      ap (λ (l : List ℕ). l ++ piece) (all_front h.joined r.whole) ∙
          ap (λ (l : List ℕ). h.front ++ l) f.1 ∙ sym (append_assoc h.front (up_to_feed piece) f.0),
    )

-- a bad line was read
pub bad_read : {old : LogCheck} {parts : RuleParts} {goal : Equation} {bytes : List ℕ}
    (piece : List ℕ) (number : ℕ) (reader : LogReader) (h : StandsFor old parts goal bytes)
    → Takes old.reader h.log h.front piece reader (Err (end.BadLine number)) →
    StandsFor (record { reader = reader; replayer = old.replayer }) parts goal (bytes ++ piece)
bad_read {old} {parts} {goal} {bytes} piece number reader h t =
    let m = left_over (has_bad old.reader) piece h refl in
    let new : LogCheck = record { reader = reader; replayer = old.replayer } in
    record {
      log = h.log;
      front = h.front ++ taken_of (has_bad old.reader) piece;
      more = m.0;
      joined = m.1;
      reader = t.1.1;
      replayed =
          subst (λ (b : Bool). UnlessBad b (IsReplayed new parts goal h.log m.0)) (sym t.0) tt;
    }

-- ---- a piece

-- the piece was taken up to what is left
pub record TakenSoFar (start now : LogCheck) (parts : RuleParts) (piece left : List ℕ) : Type 0
  where
    pub front : List ℕ
    pub joined : piece ≡ front ++ left
    pub stands : (goal : Equation) (bytes : List ℕ) → StandsFor start parts goal bytes →
        StandsFor now parts goal (bytes ++ front)
    pub step : IsInStep now
    pub room : lines_in now + length left < 2 ^ 64

pub nothing_taken : {check : LogCheck} (parts : RuleParts) (piece : List ℕ) → IsInStep check →
    lines_in check + length piece < 2 ^ 64 → TakenSoFar check check parts piece piece
nothing_taken {check} parts piece step room = record {
  front = [];
  joined = refl;
  stands =
      λ goal bytes h. subst (λ (l : List ℕ). StandsFor check parts goal l) (sym (append-nil bytes))
      h;
  step = step;
  room = room;
}

pub line_taken : {start now : LogCheck} {parts : RuleParts} {piece left : List ℕ} (count : ℕ)
    (next : LogCheck) (h : TakenSoFar start now parts piece left) → (left ≡ [] → ⊥) →
    IsCount left count
    → ((goal : Equation) (bytes : List ℕ) → StandsFor now parts goal bytes →
    TakesLine next parts goal bytes left (Some count)) → IsInStep next → lines_in next ≤
    lines_in now + 1
    → TakenSoFar start next parts piece (drop count left)
line_taken {start} {now} {parts} {piece} {left} count next h some (is, within) takes step fewer =
    let joined : left ≡ up_to_feed left ++ drop count left = front_taken left count is in
    record {
      front = h.front ++ up_to_feed left;
      joined =
          h.joined ∙ ap (λ (l : List ℕ). h.front ++ l) joined ∙
          sym (append_assoc h.front (up_to_feed left) (drop count left));
      stands = λ goal bytes s.
          subst (λ (l : List ℕ). StandsFor next parts goal l)
          (append_assoc bytes h.front (up_to_feed left))
          (takes goal (bytes ++ h.front) (h.stands goal bytes s));
      step = step;
      room =
          omega (
            arith,
            h.room,
            fewer,
            is,
            up_to_feed-some left some,
            ap length joined,
            length-append (up_to_feed left) (drop count left),
          );
    }

pub fewer_left : (left : List ℕ) (count : ℕ) → (left ≡ [] → ⊥) → IsCount left count →
    length (drop count left) < length left
fewer_left left count some (is, within) =
    omega (arith, is, within, up_to_feed-some left some, length-drop count left)

pub all_taken : {start now : LogCheck} {parts : RuleParts} {piece left : List ℕ}
    (h : TakenSoFar start now parts piece left) → left ≡ [] → (goal : Equation) (bytes : List ℕ) →
    StandsFor start parts goal bytes → StandsFor now parts goal (bytes ++ piece)
all_taken {start} {now} {parts} {piece} h empty goal bytes s =
    subst (λ (l : List ℕ). StandsFor now parts goal (bytes ++ l)) (sym (all_front h.joined empty))
    (h.stands goal bytes s)

pub none_more : {start now : LogCheck} {parts : RuleParts} {piece left : List ℕ} (next : LogCheck)
    (h : TakenSoFar start now parts piece left)
    → ((goal : Equation) (bytes : List ℕ) → StandsFor now parts goal bytes →
    TakesLine next parts goal bytes left None) → (goal : Equation) (bytes : List ℕ) →
    StandsFor start parts goal bytes → StandsFor next parts goal (bytes ++ piece)
none_more {start} {now} {parts} {piece} {left} next h takes goal bytes s =
    subst (λ (l : List ℕ). StandsFor next parts goal l)
    (append_assoc bytes h.front left ∙ ap (λ (l : List ℕ). bytes ++ l) (sym h.joined))
    (takes goal (bytes ++ h.front) (h.stands goal bytes s))

-- ---- the end

good_by : {reader : LogReader} {log : Log} {front : List ℕ} (b : Bool) → has_bad reader ≡ b →
    text.StandsFor reader log front → IsLog front log → has_bad reader ≡ false
good_by {reader} {log} {front} true e h is =
    absurd (never_both front log (suc reader.taken) is
    (subst (λ (l : List ℕ). IsFirstBad l (suc reader.taken)) (append-nil front)
    (bad_goes_on h e [])))
good_by false e h is = e

-- a log was read whole
pub log_checked : {check : LogCheck} {parts : RuleParts} {goal : Equation} {bytes : List ℕ}
    (answer : Result (Unit {0}) CheckEnd) (h : StandsFor check parts goal bytes) →
    IsLog h.front h.log
    → ((its : List (Line × ℕ)) → lines.StandsFor check.replayer parts goal its →
    Answers answer parts goal (log_of its)) → (log : Log) ×
    (IsLog bytes log × Answers answer parts goal log)
log_checked {check} {parts} {goal} {bytes} answer h is answers =
    let r = replayed_of h (good_by (has_bad check.reader) refl h.reader is) in (
      h.log,
      (
        subst (λ (l : List ℕ). IsLog l h.log) (sym (all_front h.joined r.whole)) is,
        subst (λ (l : Log). Answers answer parts goal l) r.are (answers r.its r.stands),
      ),
    )

-- and what a replay never answers isn't said of it
pub log_decided : {check : LogCheck} {parts : RuleParts} {goal : Equation} {bytes : List ℕ}
    (Never : Type 0) (h : StandsFor check parts goal bytes) → IsLog h.front h.log
    → ((its : List (Line × ℕ)) → lines.StandsFor check.replayer parts goal its → Never) → Never
log_decided {check} Never h is never =
    let r = replayed_of h (good_by (has_bad check.reader) refl h.reader is) in never r.its r.stands

bad_by : {check : LogCheck} {parts : RuleParts} {goal : Equation} {bytes : List ℕ} (b : Bool)
    (number : ℕ) (h : StandsFor check parts goal bytes) → has_bad check.reader ≡ b →
    IsFirstBad h.front number → IsFirstBad bytes number
bad_by {check} {parts} {goal} {bytes} true number h e f =
    let first : IsFirstBad h.front (suc check.reader.taken) =
    subst (λ (l : List ℕ). IsFirstBad l (suc check.reader.taken)) (append-nil h.front)
    (bad_goes_on h.reader e []) in
    let same : number ≡ suc check.reader.taken =
    one_bad_line h.front number (suc check.reader.taken) f first in
    subst (λ (n : ℕ). IsFirstBad bytes n) (sym same)
    (subst (λ (l : List ℕ). IsFirstBad l (suc check.reader.taken)) (sym h.joined)
    (bad_goes_on h.reader e h.more))
bad_by {check} {parts} {goal} {bytes} false number h e f =
    let r = replayed_of h e in
    subst (λ (l : List ℕ). IsFirstBad l number) (sym (all_front h.joined r.whole)) f

-- a first bad line was met
pub bad_checked : {check : LogCheck} {parts : RuleParts} {goal : Equation} {bytes : List ℕ}
    (number : ℕ) (h : StandsFor check parts goal bytes) → IsFirstBad h.front number →
    IsFirstBad bytes number
bad_checked {check} number h f = bad_by (has_bad check.reader) number h refl f

-- ---- the file

-- the bytes that were taken from the open file, and what is kept of them
pub record FileSoFar (start left : Option (List ℕ)) (check : LogCheck) (parts : RuleParts)
    (goal : Equation) (read most : ℕ) : Type 0 where
  pub bytes : List ℕ
  pub taken : Consumes start left bytes
  pub counted : read ≡ length bytes
  pub within : read ≤ most
  pub stands : StandsFor check parts goal bytes
  pub step : IsInStep check

pub nothing_consumed : (left : Option (List ℕ)) → Consumes left left []
nothing_consumed None = tt
nothing_consumed (Some xs) = refl

-- there are no more lines than bytes
pub lines_within : {check : LogCheck} {parts : RuleParts} {goal : Equation} {bytes : List ℕ} →
    StandsFor check parts goal bytes → lines_in check ≤ length bytes
lines_within h =
    omega (arith, stands_within h.reader, ap length h.joined, length-append h.front h.more)

-- at the end of a file its bytes are those that were taken
pub holds_all : (held : Option Names) (name : List ℕ) (start mid new : Option (List ℕ))
    (bytes piece : List ℕ) → piece ≡ [] → IsOpenedAt held name start → Consumes start mid bytes →
    Consumes mid new piece → IsAtEnd new → HoldsBytes held name bytes
holds_all None name start mid new bytes piece none opened first second at = tt
holds_all (Some names) name start mid new bytes piece none (whole, stands, is) first second at =
    stands ∙ ap (λ (l : List ℕ). Some l) (by mid new
    (subst (λ (s : Option (List ℕ)). Consumes s mid bytes) is first)
    (subst (λ (p : List ℕ). Consumes mid new p) none second) at)
  where
    by : (mid new : Option (List ℕ)) → Consumes (Some whole) mid bytes → Consumes mid new [] →
        IsAtEnd new → whole ≡ bytes
    by None new first second at = absurd first
    by (Some m) None first second at = absurd second
    by (Some m) (Some n) first second at = all_front first (second ∙ at)

-- what is said of the bytes is said of the file
pub on_file : (held : Option Names) (fault : Type 0) (name : List ℕ) (limit : ℕ) (parts : RuleParts)
    (goal : Equation) (bytes : List ℕ) (result : Result (Unit {0}) FileEnd) →
    HoldsBytes held name bytes → length bytes ≤ limit
    → OnBytes parts goal bytes result → OnFile held fault name limit parts goal result
on_file held fault name limit parts goal bytes (Ok done) holds within said =
    record { bytes = bytes; holds = holds; within = within; said = said }
on_file held fault name limit parts goal bytes (Err told.Failed) holds within said = absurd said
on_file held fault name limit parts goal bytes (Err told.TooLong) holds within said = absurd said
on_file held fault name limit parts goal bytes (Err (told.BadLine number)) holds within said =
    record { bytes = bytes; holds = holds; within = within; said = said }
on_file held fault name limit parts goal bytes (Err (told.Check failure)) holds within said =
    record { bytes = bytes; holds = holds; within = within; said = said }
on_file held fault name limit parts goal bytes (Err told.NoMemory) holds within said = tt
