-- A log that is read up to a step, a line or a piece at a time.
use Rattle.std.proofs.Common.{◌≡◌, ◌∙◌, sym, refl, ap, subst, inl, ℕ, ◌+◌, ◌<◌, ◌≤◌, suc, Bool, true, false, Option, Some, None, Result, Ok, Err, List, [], ◌∷◌, ◌++◌, drop, length, append_assoc, length-append, arith}
use Rattle.std.proofs.lemmas.List.{append-nil, length-drop}
use Rattle.std.proofs.KnownBytes.{Consumes-trans}
use Rattle.std.specs.Io.KnownBytes.{Consumes}
use Rattle.std.specs.Prelude.{◌^◌, IsErrOf}
use Rattle.rx_io.specs.Outside.{HoldsBytes, IsOpenedAt, Names}
use Rattle.rx_log.specs.Places.{after}
use Rattle.rx_log.specs.Reading.{IsAt, pushed}
use Rattle.rx_log.specs.declared.line.Line.{Line}
use Rattle.rx_log.specs.declared.line.Line.TheVariants as kind
use Rattle.rx_log.specs.declared.line_state.LineState.{LineState}
use Rattle.rx_log.specs.declared.line_state.LineState.TheVariants.{AtHeader, InDomains, InKeeps, InCovers, InSteps, InRanks, InPairs, Finished}
use Rattle.rx_log.specs.declared.log.Log.{Log}
use Rattle.rx_logtext.specs.Logs.{IsFirstBad, ended, up_to_feed}
use Rattle.rx_logtext.specs.Readers as text
use Rattle.rx_logtext.specs.Readers.{Takes, has_bad, taken_of}
use Rattle.rx_logtext.specs.declared.log_end.LogEnd.TheVariants as end
use Rattle.rx_logtext.specs.declared.reader.LogReader.{LogReader}
use Rattle.rx_logtext.proofs.Cuts.{up_to_feed-drop, up_to_feed-some}
use Rattle.rx_logtext.proofs.Texts.{bad_goes_on, front_taken, stands_within}
use Rattle.rx_row.specs.declared.row.Row.{Row}
use Rattle.rx_term.specs.declared.rule.Equation.{Equation}
use Rattle.rx_term.specs.declared.rule_set.RuleParts.{RuleParts}
use Rattle.rx_logstate.specs.AtSteps.{FindsStep}
use Rattle.rx_logstate.specs.Following.{EndsBad, Follows, GoesOn, IsBadFrom, IsCount, IsInOrder, Says, StandsFor, lines_in}
use Rattle.rx_logstate.specs.declared.at_step.AtStep.{AtStep}
use Rattle.rx_logstate.specs.declared.following.Follower.{Follower}
use Rattle.rx_logstate.specs.declared.look_end.LookEnd.{LookEnd}
use Rattle.rx_logstate.specs.declared.look_end.LookEnd.TheVariants as look_end
use Rattle.rx_logstate.specs.declared.looking.Look.{Look}

-- ---- nothing yet

-- a reader that has taken nothing has met no bad line
pub good_at_first : {reader : LogReader} {log : Log} → text.StandsFor reader log [] →
    has_bad reader ≡ false
good_at_first {reader} {log} h = by reader.is_bad refl
  where
    by : (flag : Bool) → reader.is_bad ≡ flag → reader.is_bad ≡ false
    by false e = e
    by true e =
        let bad : text.IsBadNext h.texts h.left =
        subst (λ (b : Bool). text.IsLeft b reader.line h.texts h.left) e h.is_left in
        absurd (omega (
          arith,
          ap length h.joined,
          ap length bad.is,
          length-append (ended h.texts) h.left,
          length-append bad.next (10 ∷ []),
        ))

-- ---- a line

-- a log has no steps where its header comes
no_steps_yet : (place : LineState) (log : Log) (symbol : ℕ) (next : LineState) → IsAt place log →
    after place (kind.Header2, symbol) ≡ Some next → log.steps ≡ []
no_steps_yet AtHeader log symbol next at e = ap (λ (l : Log). l.steps) at
no_steps_yet (InDomains n) log symbol next at e = absurd (cc)
no_steps_yet InKeeps log symbol next at e = absurd (cc)
no_steps_yet (InCovers n) log symbol next at e = absurd (cc)
no_steps_yet InSteps log symbol next at e = absurd (cc)
no_steps_yet (InRanks columns n) log symbol next at e = absurd (cc)
no_steps_yet InPairs log symbol next at e = absurd (cc)
no_steps_yet Finished log symbol next at e = absurd (cc)

-- nor where a domain comes
no_steps_there : (place : LineState) (log : Log) (rows : List Row) (symbol : ℕ)
    (next : LineState) → IsAt place log → after place (kind.Domain rows, symbol) ≡ Some next →
    log.steps ≡ []
no_steps_there AtHeader log rows symbol next at e = absurd (cc)
no_steps_there (InDomains n) log rows symbol next at e = at.1.1.0
no_steps_there InKeeps log rows symbol next at e = absurd (cc)
no_steps_there (InCovers n) log rows symbol next at e = absurd (cc)
no_steps_there InSteps log rows symbol next at e = absurd (cc)
no_steps_there (InRanks columns n) log rows symbol next at e = absurd (cc)
no_steps_there InPairs log rows symbol next at e = absurd (cc)
no_steps_there Finished log rows symbol next at e = absurd (cc)

in_order : (place : LineState) (log : Log) (line : Line) (symbol : ℕ) (next : LineState) →
    IsAt place log → after place (line, symbol) ≡ Some next → IsInOrder line log
in_order place log kind.Header2 symbol next at e = no_steps_yet place log symbol next at e
in_order place log (kind.Domain rows) symbol next at e =
    no_steps_there place log rows symbol next at e
in_order place log kind.Header symbol next at e = tt
in_order place log (kind.Keep certs) symbol next at e = tt
in_order place log (kind.Cover trees) symbol next at e = tt
in_order place log (kind.Step step) symbol next at e = tt
in_order place log (kind.Ranks columns) symbol next at e = tt
in_order place log (kind.Rank rank) symbol next at e = tt
in_order place log (kind.Pair pair) symbol next at e = tt
in_order place log kind.End symbol next at e = tt

module _ {old : Look} {parts : RuleParts} {goal : Equation} {number : ℕ} {bytes : List ℕ}
    (piece : List ℕ) (reader : LogReader) (h : StandsFor old parts goal number bytes)
  where
    pub line_read : (count : ℕ) (line : Line) (follower : Follower) →
        Takes old.reader h.log bytes piece reader (Ok (count, Some line)) →
        text.MayLead (text.place_of old.reader) line (text.place_of reader) →
        ((target : Equation) (at : ℕ) (log : Log) → Follows old.follower parts target at log →
        IsInOrder line log → Follows follower parts target at (pushed line log)) →
        StandsFor (record { reader = reader; follower = follower }) parts goal number
        (bytes ++ up_to_feed piece)
    line_read count line follower t comes follows = record {
      log = pushed line h.log;
      reader = t.1.1;
      good = t.1.0;
      follows =
          follows goal number h.log h.follows
          (in_order old.reader.place h.log line comes.0 reader.place h.reader.taken.at comes.1);
    }

    pub part_read : (count : ℕ) → Takes old.reader h.log bytes piece reader (Ok (count, None)) →
        StandsFor (record { reader = reader; follower = old.follower }) parts goal number
        (bytes ++ up_to_feed piece)
    part_read count t = record { log = h.log; reader = t.1.1; good = t.1.0; follows = h.follows }

    pub bad_read : (line : ℕ) → Takes old.reader h.log bytes piece reader (Err (end.BadLine line)) →
        IsBadFrom (bytes ++ piece)
    bad_read line t =
        let f = up_to_feed-drop piece in (
          suc reader.taken,
          λ more. subst (λ (l : List ℕ). IsFirstBad l (suc reader.taken))
              (sym (append_assoc (bytes ++ taken_of old.reader.is_bad piece) f.0 more)
              ∙ ap (λ (l : List ℕ). l ++ more)
              (append_assoc bytes (taken_of old.reader.is_bad piece) f.0
              ∙ ap (λ (l : List ℕ). bytes ++ l)
              (ap (λ (b : Bool). taken_of b piece ++ f.0) h.good ∙ sym f.1)))
              (bad_goes_on t.1.1 t.0 (f.0 ++ more)),
        )

-- ---- a piece

-- the piece was taken up to what is left
pub record TakenSoFar (start now : Look) (parts : RuleParts) (piece left : List ℕ) : Type 0 where
  pub front : List ℕ
  pub joined : piece ≡ front ++ left
  pub stands : GoesOn parts start front now
  pub room : lines_in now + length left < 2 ^ 64

pub nothing_taken : {look : Look} (parts : RuleParts) (piece : List ℕ) →
    lines_in look + length piece < 2 ^ 64 → TakenSoFar look look parts piece piece
nothing_taken {look} parts piece room = record {
  front = [];
  joined = refl;
  stands =
      λ goal number bytes h. subst (λ (l : List ℕ). StandsFor look parts goal number l)
      (sym (append-nil bytes)) h;
  room = room;
}

pub line_taken : {start now : Look} {parts : RuleParts} {piece left : List ℕ} (count : ℕ)
    (next : Look) (h : TakenSoFar start now parts piece left) → (left ≡ [] → ⊥) →
    IsCount left count → GoesOn parts now (up_to_feed left) next →
    lines_in next ≤ lines_in now + 1 → TakenSoFar start next parts piece (drop count left)
line_taken {start} {now} {parts} {piece} {left} count next h some (is, within) takes fewer =
    let joined : left ≡ up_to_feed left ++ drop count left = front_taken left count is in
    record {
      front = h.front ++ up_to_feed left;
      joined =
          h.joined ∙ ap (λ (l : List ℕ). h.front ++ l) joined ∙
          sym (append_assoc h.front (up_to_feed left) (drop count left));
      stands = λ goal number bytes s.
          subst (λ (l : List ℕ). StandsFor next parts goal number l)
          (append_assoc bytes h.front (up_to_feed left))
          (takes goal number (bytes ++ h.front) (h.stands goal number bytes s));
      room =
          omega (
            arith,
            h.room,
            fewer,
            is,
            up_to_feed-some left some,
            ap length joined,
            length-append (up_to_feed left) (drop count left),
          );
    }

pub fewer_left : (left : List ℕ) (count : ℕ) → (left ≡ [] → ⊥) → IsCount left count →
    length (drop count left) < length left
fewer_left left count some (is, within) =
    omega (arith, is, within, up_to_feed-some left some, length-drop count left)

pub all_taken : {start now : Look} {parts : RuleParts} {piece left : List ℕ}
    (h : TakenSoFar start now parts piece left) → left ≡ [] → GoesOn parts start piece now
all_taken {start} {now} {parts} {piece} h empty goal number bytes s =
    subst (λ (l : List ℕ). StandsFor now parts goal number (bytes ++ l))
    (sym (h.joined ∙ ap (λ (l : List ℕ). h.front ++ l) empty ∙ append-nil h.front))
    (h.stands goal number bytes s)

pub ends_bad : {start now : Look} {parts : RuleParts} {piece left : List ℕ}
    (h : TakenSoFar start now parts piece left) → EndsBad parts now left →
    EndsBad parts start piece
ends_bad {start} {now} {parts} {piece} {left} h bad goal number bytes s =
    subst IsBadFrom
    (append_assoc bytes h.front left ∙ ap (λ (l : List ℕ). bytes ++ l) (sym h.joined))
    (bad goal number (bytes ++ h.front) (h.stands goal number bytes s))

-- ---- the file

-- the bytes that were taken from the open file, and what is kept of them
pub record FileSoFar (start left : Option (List ℕ)) (look : Look) (parts : RuleParts)
    (goal : Equation) (number read most : ℕ) : Type 0 where
  pub bytes : List ℕ
  pub taken : Consumes start left bytes
  pub counted : read ≡ length bytes
  pub within : read ≤ most
  pub stands : StandsFor look parts goal number bytes

-- there are no more lines than bytes
pub lines_within : {look : Look} {parts : RuleParts} {goal : Equation} {number : ℕ} {bytes : List ℕ}
    → StandsFor look parts goal number bytes → lines_in look ≤ length bytes
lines_within h = stands_within h.reader

-- a file begins with the bytes that were taken from its beginning on
pub holds_front : (held : Option Names) (name : List ℕ) (start mid new : Option (List ℕ))
    (bytes piece : List ℕ) → IsOpenedAt held name start → Consumes start mid bytes →
    Consumes mid new piece → (rest : List ℕ) × HoldsBytes held name ((bytes ++ piece) ++ rest)
holds_front None name start mid new bytes piece opened first second = ([], tt)
holds_front (Some names) name start mid new bytes piece (whole, stands, is) first second =
    let all : Consumes (Some whole) new (bytes ++ piece) =
    subst (λ (s : Option (List ℕ)). Consumes s new (bytes ++ piece)) is
    (Consumes-trans start mid new bytes piece first second) in
    by new all
  where
    by : (new : Option (List ℕ)) → Consumes (Some whole) new (bytes ++ piece) →
        (rest : List ℕ) × (names name ≡ Some ((bytes ++ piece) ++ rest))
    by None all = absurd all
    by (Some rest) all = (rest, stands ∙ ap (λ (l : List ℕ). Some l) all)

-- what is said of the bytes is said of the file
pub finds_said : (held : Option Names) (fault : Type 0) (name : List ℕ) (limit : ℕ)
    (parts : RuleParts) (goal : Equation) (number : ℕ) (bytes : List ℕ)
    (result : Result AtStep LookEnd) → HoldsBytes held name bytes →
    Says parts goal number bytes result →
    FindsStep held fault name limit parts goal number result
finds_said held fault name limit parts goal number bytes (Ok found) holds said =
    record { bytes = bytes; holds = holds; said = said }
finds_said held fault name limit parts goal number bytes (Err look_end.Unread) holds said =
    absurd said
finds_said held fault name limit parts goal number bytes (Err look_end.NoPlace) holds said =
    record { bytes = bytes; holds = holds; said = said }
finds_said held fault name limit parts goal number bytes (Err look_end.NoMemory) holds said = tt

-- a file that begins with such bytes is no log
pub finds_bad : (held : Option Names) (fault : Type 0) (name : List ℕ) (limit : ℕ)
    (parts : RuleParts) (goal : Equation) (number : ℕ) (bytes rest : List ℕ) →
    HoldsBytes held name (bytes ++ rest) → IsBadFrom bytes →
    FindsStep held fault name limit parts goal number (Err look_end.NoPlace)
finds_bad held fault name limit parts goal number bytes rest holds bad = record {
  bytes = bytes ++ rest;
  holds = holds;
  said = inl (bad.0, bad.1 rest);
}

-- a piece isn't taken, for this cause
abbrev pub refusal : LookEnd → Result (Unit {0}) LookEnd
refusal end = Err end

-- what a piece that isn't taken says of the file
pub finds_end : (held : Option Names) (fault : Type 0) (name : List ℕ) (limit : ℕ)
    (parts : RuleParts) (goal : Equation) (number : ℕ) (bytes rest : List ℕ) (end : LookEnd) →
    HoldsBytes held name (bytes ++ rest) →
    (IsErrOf (refusal end) look_end.NoPlace → IsBadFrom bytes) →
    (IsErrOf (refusal end) look_end.Unread → ⊥) →
    FindsStep held fault name limit parts goal number (Err end)
finds_end held fault name limit parts goal number bytes rest look_end.Unread holds bad read =
    absurd (read refl)
finds_end held fault name limit parts goal number bytes rest look_end.NoPlace holds bad read =
    finds_bad held fault name limit parts goal number bytes rest holds (bad refl)
finds_end held fault name limit parts goal number bytes rest look_end.NoMemory holds bad read = tt
