-- A text read piece by piece: what a reader represents, and what that is at the end.
use Rattle.std.proofs.Common.{◌≡◌, ◌∙◌, inl, inr, sym, refl, ap, subst, ℕ, ◌+◌, ◌≤◌, suc, Bool, true, false, ◌&&◌, Option, Some, None, Result, Ok, Err, List, [], ◌∷◌, ◌++◌, drop, length, append_assoc, length-append, arith}
use Rattle.std.proofs.lemmas.Bool.{and_from}
use Rattle.std.proofs.lemmas.List.{append-nil}
use Rattle.std.proofs.lemmas.List.Folds.{list_all-append}
use Rattle.std.proofs.Math.Seq.{drop-append_seam}
use Rattle.std.specs.List.{list_all}
use Rattle.rx_log.specs.Lines.{has_widths, log_lines, version_of}
use Rattle.rx_log.specs.Reading.{lines_to, pushed}
use Rattle.rx_log.specs.declared.line.Line.{Line}
use Rattle.rx_log.specs.declared.log.Log.{Log}
use Rattle.rx_log.specs.declared.line_state.LineState.{LineState}
use Rattle.rx_log.specs.declared.line_state.LineState.TheVariants.{Finished}
use Rattle.rx_log.specs.declared.version.Version.{Version}
use Rattle.rx_logtext.specs.Lines.{in_line, lines_of}
use Rattle.rx_logtext.specs.Logs.{Begins, IsFirstBad, IsLog, ReadsLog, ended, has_ranges, is_one_line, up_to_feed}
use Rattle.rx_logtext.specs.Reading.{HasTaken, ReadsNext}
use Rattle.rx_logtext.specs.Readers.{Finishes, HasTakenAll, IsBadNext, IsLeft, IsReadAlike, IsWhole, StandsFor, Takes, count_of, pushed_if, taken_of, version_after}
use Rattle.rx_logtext.specs.declared.log_end.LogEnd.{LogEnd}
use Rattle.rx_logtext.specs.declared.log_end.LogEnd.TheVariants as end
use Rattle.rx_logtext.specs.declared.reader.LogReader.{LogReader}
use Rattle.rx_logtext.proofs.Cuts.{cut_once, up_to_feed-drop, up_to_feed-some}
use Rattle.rx_logtext.proofs.OneLine as one_line
use Rattle.rx_logtext.proofs.OneLineLines.{each_is_one_line}
use Rattle.rx_logtext.proofs.OneReading.{never_both, one_bad_line, one_log}
use Rattle.rx_logtext.proofs.Readers.{far_from_end, none_begins, one_taken}
use Rattle.rx_logtext.proofs.Taking.{taken_begins, version_pushed}

-- ---- lines and what is left after them

never_true : (b : Bool) → (b && false) ≡ true → ⊥
never_true true e = cc
never_true false e = cc

ended-push : (texts : List (List ℕ)) (next rest : List ℕ) → ended texts ++ (next ++ 10 ∷ rest) ≡
    ended (texts ++ next ∷ []) ++ rest
ended-push [] next rest = simp (append_assoc, append-nil)
ended-push (t ∷ ts) next rest = simp (append_assoc, ended-push ts next rest)

not_nil : (next rest : List ℕ) → [] ≡ next ++ 10 ∷ rest → ⊥
not_nil [] rest e = cc
not_nil (x ∷ xs) rest e = cc

not_one_line : (left next rest : List ℕ) → is_one_line left ≡ true → left ≡ next ++ 10 ∷ rest → ⊥
not_one_line left next rest one e =
    let split : is_one_line (next ++ 10 ∷ rest) ≡ (is_one_line next && false) =
    list_all-append in_line next (10 ∷ rest) in
    let f : is_one_line next && false ≡ true = sym split ∙ ap is_one_line (sym e) ∙ one in
    never_true (is_one_line next) f

-- there are no more lines than bytes
fewer_lines : (texts : List (List ℕ)) → length texts ≤ length (ended texts)
fewer_lines [] = omega arith
fewer_lines (t ∷ ts) =
    omega (
      arith,
      fewer_lines ts,
      length-append (t ++ 10 ∷ []) (ended ts),
      length-append t (10 ∷ []),
    )

-- each line that was taken is one line
one_by_one : {place : LineState} {log : Log} {texts : List (List ℕ)} → HasTaken place log texts →
    list_all is_one_line texts ≡ true
one_by_one {place} {log} {texts} h =
    subst (λ (ts : List (List ℕ)). list_all is_one_line ts ≡ true) h.are
    (each_is_one_line (version_of log) (lines_to place log))

-- ---- what a reader represents

pub stands_within : {reader : LogReader} {log : Log} {bytes : List ℕ} → StandsFor reader log bytes →
    reader.taken ≤ length bytes
stands_within {reader} {log} {bytes} h =
    omega (
      arith,
      h.counted,
      fewer_lines h.texts,
      ap length h.joined,
      length-append (ended h.texts) h.left,
    )

-- the next line so far, where none was bad
good_left : {reader : LogReader} {log : Log} {bytes : List ℕ} (h : StandsFor reader log bytes) →
    reader.is_bad ≡ false → (h.left ≡ reader.line) × (is_one_line h.left ≡ true)
good_left {reader} h e = subst (λ (b : Bool). IsLeft b reader.line h.texts h.left) e h.is_left

bad_left : {reader : LogReader} {log : Log} {bytes : List ℕ} (h : StandsFor reader log bytes) →
    reader.is_bad ≡ true → IsBadNext h.texts h.left
bad_left {reader} h e = subst (λ (b : Bool). IsLeft b reader.line h.texts h.left) e h.is_left

go_on : (bytes before left more : List ℕ) → bytes ≡ before ++ left → bytes ++ more ≡ before ++
    (left ++ more)
go_on bytes before left more e = ap (λ (l : List ℕ). l ++ more) e ∙ append_assoc before left more

-- a piece without a line feed was taken
pub part_taken : {old : LogReader} {log : Log} {bytes : List ℕ} (piece : List ℕ) (new : LogReader) →
    StandsFor old log bytes → old.is_bad ≡ false → is_one_line piece ≡ true
    → new.version ≡ old.version → new.place ≡ old.place → new.taken ≡ old.taken → new.is_bad
    ≡ false → new.line ≡ old.line ++
    piece → StandsFor new log (bytes ++ piece)
part_taken {old} {log} {bytes} piece new h good one version at count still line =
    let g = good_left h good in
    record {
      texts = h.texts;
      version = version ∙ h.version;
      taken = subst (λ (p : LineState). HasTaken p log h.texts) (sym at) h.taken;
      counted = count ∙ h.counted;
      left = h.left ++ piece;
      joined = go_on bytes (ended h.texts) h.left piece h.joined;
      is_left =
          subst (λ (b : Bool). IsLeft b new.line h.texts (h.left ++ piece)) (sym still)
          (ap (λ (l : List ℕ). l ++ piece) g.0 ∙ sym line, one_line.joined h.left piece g.1 one);
    }

-- the next line was taken
pub line_taken : {old : LogReader} {log : Log} {bytes : List ℕ} (front : List ℕ) (read : Line)
    (next : LineState) (new : LogReader) → StandsFor old log bytes → old.is_bad ≡ false
    → ReadsNext old.version old.place (old.line ++ front) (Some (read, next))
    → new.version ≡ version_after old.version read → new.place ≡ next → new.taken ≡
    suc old.taken → new.is_bad ≡ false → new.line ≡ []
    → StandsFor new (pushed read log) (bytes ++ (front ++ 10 ∷ []))
line_taken {old} {log} {bytes} front read next new h good reads version at count still line =
    let g = good_left h good in
    let text : List ℕ = old.line ++ front in
    let whole : h.left ++ (front ++ 10 ∷ []) ≡ text ++ 10 ∷ [] =
    ap (λ (l : List ℕ). l ++ (front ++ 10 ∷ [])) g.0 ∙
    sym (append_assoc old.line front (10 ∷ [])) in
    record {
      texts = h.texts ++ text ∷ [];
      version =
          version ∙ ap (λ (v : Version). version_after v read) h.version
          ∙ version_pushed read log;
      taken =
          subst (λ (p : LineState). HasTaken p (pushed read log) (h.texts ++ text ∷ [])) (sym at)
          (one_taken old.place next log h.texts text read
          (subst (λ (v : Version). ReadsNext v old.place text (Some (read, next))) h.version reads)
          h.taken);
      counted = omega (arith, count, h.counted, length-append h.texts (text ∷ []));
      left = [];
      joined =
          go_on bytes (ended h.texts) h.left (front ++ 10 ∷ []) h.joined ∙
          ap (λ (l : List ℕ). ended h.texts ++ l) whole ∙ ended-push h.texts text [];
      is_left =
          subst (λ (b : Bool). IsLeft b new.line (h.texts ++ text ∷ []) []) (sym still)
          (sym line, refl);
    }

-- a line with which no log begins was met
pub line_bad : {old : LogReader} {log : Log} {bytes : List ℕ} (front : List ℕ) (new : LogReader) →
    StandsFor old log bytes → old.is_bad ≡ false → is_one_line front ≡ true
    → ReadsNext old.version old.place (old.line ++ front) None → new.version ≡ old.version →
    new.place ≡ old.place → new.taken ≡ old.taken →
    new.is_bad ≡ true → StandsFor new log (bytes ++ (front ++ 10 ∷ []))
line_bad {old} {log} {bytes} front new h good one reads version at count bad =
    let g = good_left h good in
    record {
      texts = h.texts;
      version = version ∙ h.version;
      taken = subst (λ (p : LineState). HasTaken p log h.texts) (sym at) h.taken;
      counted = count ∙ h.counted;
      left = h.left ++ (front ++ 10 ∷ []);
      joined = go_on bytes (ended h.texts) h.left (front ++ 10 ∷ []) h.joined;
      is_left =
          subst (λ (b : Bool). IsLeft b new.line h.texts (h.left ++ (front ++ 10 ∷ []))) (sym bad)
          (record {
            next = h.left ++ front;
            is = sym (append_assoc h.left front (10 ∷ []));
            one = one_line.joined h.left front g.1 one;
            bad =
                subst (λ (l : List ℕ). ¬ (Begins (h.texts ++ (l ++ front) ∷ []))) (sym g.0)
                (none_begins old.place log h.texts (old.line ++ front)
                (subst (λ (v : Version). ReadsNext v old.place (old.line ++ front) None) h.version
                reads) h.taken);
          });
    }

-- ---- the first bad line

-- whatever comes after a bad line, it is the first
pub bad_goes_on : {reader : LogReader} {log : Log} {bytes : List ℕ} → StandsFor reader log bytes →
    reader.is_bad ≡ true → (more : List ℕ) → IsFirstBad (bytes ++ more) (suc reader.taken)
bad_goes_on {reader} {log} {bytes} h bad more =
    let b = bad_left h bad in
    let left : h.left ++ more ≡ b.next ++ 10 ∷ more = ap (λ (l : List ℕ). l ++ more) b.is ∙
    append_assoc b.next (10 ∷ []) more in
    record {
      before = h.texts;
      left = h.left ++ more;
      joined = go_on bytes (ended h.texts) h.left more h.joined;
      one_by_one = one_by_one h.taken;
      counted = ap suc h.counted;
      good_before = taken_begins h.taken;
      bad = λ other rest e one begins.
          let same : b.next ≡ other = cut_once b.next other more rest b.one one (sym left ∙ e) in
          b.bad (subst (λ (l : List ℕ). Begins (h.texts ++ l ∷ [])) (sym same) begins);
      missing = λ e log w. absurd (not_nil b.next more (sym e ∙ left));
    }

first_bad : {reader : LogReader} {log : Log} {bytes : List ℕ} → StandsFor reader log bytes →
    reader.is_bad ≡ true → IsFirstBad bytes (suc reader.taken)
first_bad {reader} {log} {bytes} h bad =
    subst (λ (text : List ℕ). IsFirstBad text (suc reader.taken)) (append-nil bytes)
    (bad_goes_on h bad [])

-- where the text ends too early, its first bad line is the next
ends_early : {reader : LogReader} {log : Log} {bytes : List ℕ} → StandsFor reader log bytes →
    reader.is_bad ≡ false → (reader.place ≡ Finished → reader.line ≡ [] → ⊥) →
    IsFirstBad bytes (suc reader.taken)
ends_early {reader} {log} {bytes} h good some =
    let g = good_left h good in
    record {
      before = h.texts;
      left = h.left;
      joined = h.joined;
      one_by_one = one_by_one h.taken;
      counted = ap suc h.counted;
      good_before = taken_begins h.taken;
      bad = λ next rest e one begins. not_one_line h.left next rest g.1 e;
      missing =
          λ e other w. far_from_end reader.place log h.texts (λ at. some at (sym g.0 ∙ e)) h.taken
          other w;
    }

by_bad : {reader : LogReader} {log : Log} {bytes : List ℕ} (b : Bool) → reader.is_bad ≡ b →
    StandsFor reader log bytes → IsWhole reader false → IsFirstBad bytes (suc reader.taken)
by_bad {reader} {log} {bytes} true bad h rest = first_bad h bad
by_bad {reader} {log} {bytes} false good h rest = ends_early h good (λ at line. rest at good line)

-- ---- the end

ranges_of : {log : Log} {texts : List (List ℕ)} → HasTaken Finished log texts → has_ranges log ≡
    true
ranges_of {log} h =
    and_from (list_all (lines_of (version_of log)).in_range (log_lines log)) (has_widths log)
    h.in_range h.widths

pub whole_text : {reader : LogReader} {log : Log} {bytes : List ℕ} → StandsFor reader log bytes →
    IsWhole reader true → IsLog bytes log
whole_text {reader} {log} {bytes} h (at, (good, line)) =
    let g = good_left h good in
    let taken : HasTaken Finished log h.texts =
    subst (λ (p : LineState). HasTaken p log h.texts) at h.taken in
    record {
      in_range = ranges_of taken;
      is =
          h.joined ∙ ap (λ (l : List ℕ). ended h.texts ++ l) (g.0 ∙ line) ∙
          append-nil (ended h.texts) ∙ ap ended (sym taken.are);
    }

pub not_whole_text : {reader : LogReader} {log : Log} {bytes : List ℕ} →
    StandsFor reader log bytes → IsWhole reader false → IsFirstBad bytes (suc reader.taken)
not_whole_text {reader} h rest = by_bad reader.is_bad refl h rest

-- ---- texts that are read whole

-- a reader has taken the text up to what is left, and this is the log so far
pub record ReadSoFar (text left : List ℕ) (reader : LogReader) (log : Log) : Type 0 where
  pub front : List ℕ
  pub joined : text ≡ front ++ left
  pub stands : StandsFor reader log front
  pub room : reader.taken + length left ≤ length text

-- what is taken begins the piece
taken_front : (b : Bool) (piece : List ℕ) → (more : List ℕ) × (piece ≡ taken_of b piece ++ more)
taken_front true piece = (piece, refl)
taken_front false piece = up_to_feed-drop piece

one_at_most : (line : Option Line) → count_of line ≤ 1
one_at_most None = omega arith
one_at_most (Some line) = omega arith

pub front_taken : (left : List ℕ) (count : ℕ) → count ≡ length (up_to_feed left) → left ≡
    up_to_feed left ++ drop count left
front_taken left count e =
    let f = up_to_feed-drop left in
    let behind : drop count left ≡ f.0 = ap (λ (n : ℕ). drop n left) e ∙
    ap (drop (length (up_to_feed left))) f.1 ∙ drop-append_seam (up_to_feed left) f.0 in
    f.1 ∙ ap (λ (l : List ℕ). up_to_feed left ++ l) (sym behind)

-- one piece more was read
pub piece_read : {text left : List ℕ} {reader : LogReader} {log : Log} (count : ℕ)
    (line : Option Line) (after : LogReader) (next : Log) (h : ReadSoFar text left reader log) →
    count ≡ length (up_to_feed left)
    → (left ≡ [] → ⊥) → Takes reader log h.front left after (Ok (count, line)) → after.taken ≡
    reader.taken + count_of line → next ≡ pushed_if line log →
    ReadSoFar text (drop count left) after next
piece_read {text} {left} {reader} {log} count line after next h count_is some t number next_is =
    let joined : left ≡ up_to_feed left ++ drop count left = front_taken left count count_is in
    record {
      front = h.front ++ up_to_feed left;
      joined =
          h.joined ∙ ap (λ (l : List ℕ). h.front ++ l) joined ∙
          sym (append_assoc h.front (up_to_feed left) (drop count left));
      stands =
          subst (λ (l : Log). StandsFor after l (h.front ++ up_to_feed left)) (sym next_is) t.1.1;
      room =
          omega (
            arith,
            h.room,
            number,
            one_at_most line,
            up_to_feed-some left some,
            count_is,
            ap length joined,
            length-append (up_to_feed left) (drop count left),
          );
    }

-- what a reader of texts answers where a piece wasn't taken
pub refused : {text left : List ℕ} {reader : LogReader} {log : Log} (after : LogReader)
    (end : LogEnd) (h : ReadSoFar text left reader log) →
    Takes reader log h.front left after (Err end) → ReadsLog text (Err end)
refused {text} {left} {reader} {log} after (end.BadLine number) h (bad, (number_is, stands)) =
    let f = taken_front reader.is_bad left in
    let whole : (h.front ++ taken_of reader.is_bad left) ++ f.0 ≡ text =
    append_assoc h.front (taken_of reader.is_bad left) f.0 ∙
    ap (λ (l : List ℕ). h.front ++ l) (sym f.1) ∙ sym h.joined in
    subst (λ (t : List ℕ). IsFirstBad t number) whole
    (subst (λ (n : ℕ). IsFirstBad ((h.front ++ taken_of reader.is_bad left) ++ f.0) n)
    (sym number_is) (bad_goes_on stands bad f.0))
refused after end.TooDeep h t = t
refused after end.OutOfRange h t = t
refused after end.NoMemory h t = tt

-- and at the end of the text
pub not_finished : {text left : List ℕ} {reader : LogReader} {log : Log} (end : LogEnd)
    (h : ReadSoFar text left reader log) → left ≡ [] → Finishes log h.front (Err end) →
    ReadsLog text (Err end)
not_finished {text} (end.BadLine number) h empty f =
    subst (λ (t : List ℕ). IsFirstBad t number)
    (sym (h.joined ∙ ap (λ (l : List ℕ). h.front ++ l) empty ∙ append-nil h.front)) f
not_finished end.TooDeep h empty f = f
not_finished end.OutOfRange h empty f = f
not_finished end.NoMemory h empty f = tt

pub finished : {text left : List ℕ} {reader : LogReader} {log : Log}
    (h : ReadSoFar text left reader log) → left ≡ [] → IsLog h.front log → IsLog text log
finished {text} {left} {reader} {log} h empty f =
    subst (λ (t : List ℕ). IsLog t log) (sym (h.joined ∙ ap (λ (l : List ℕ). h.front ++ l) empty ∙
    append-nil h.front)) f

-- ---- one reading, however the text was cut

pub read_alike : (log : Log) (bytes : List ℕ) (answer : Result (Unit {0}) LogEnd)
    (read : Result Log LogEnd) → Finishes log bytes answer → ReadsLog bytes read →
    IsReadAlike log answer read
read_alike log bytes (Ok done) (Ok read) f r = (one_log bytes read log r f, refl)
read_alike log bytes (Ok done) (Err (end.BadLine n)) f r = absurd (never_both bytes log n f r)
read_alike log bytes (Ok done) (Err end.TooDeep) f r = absurd r
read_alike log bytes (Ok done) (Err end.OutOfRange) f r = absurd r
read_alike log bytes (Ok done) (Err end.NoMemory) f r = tt
read_alike log bytes (Err (end.BadLine m)) (Ok read) f r = absurd (never_both bytes read m r f)
read_alike log bytes (Err (end.BadLine m)) (Err (end.BadLine n)) f r =
    ap (λ (k : ℕ). Err (end.BadLine k)) (one_bad_line bytes m n f r)
read_alike log bytes (Err (end.BadLine m)) (Err end.TooDeep) f r = absurd r
read_alike log bytes (Err (end.BadLine m)) (Err end.OutOfRange) f r = absurd r
read_alike log bytes (Err (end.BadLine m)) (Err end.NoMemory) f r = tt
read_alike log bytes (Err end.TooDeep) read f r = absurd f
read_alike log bytes (Err end.OutOfRange) read f r = absurd f
read_alike log bytes (Err end.NoMemory) read f r = absurd f

-- a reader that has met a bad line has its answer, whatever is after that
bad_stays : {reader : LogReader} {log : Log} {bytes : List ℕ} (behind : List ℕ)
    (answer : Result (Unit {0}) LogEnd) → StandsFor reader log bytes → reader.is_bad ≡ true →
    Finishes log bytes answer → Finishes log (bytes ++ behind) answer
bad_stays {reader} {log} {bytes} behind (Ok done) h bad f =
    absurd (never_both bytes log (suc reader.taken) f (first_bad h bad))
bad_stays {reader} {log} {bytes} behind (Err (end.BadLine number)) h bad f =
    subst (IsFirstBad (bytes ++ behind)) (one_bad_line bytes (suc reader.taken) number
    (first_bad h bad) f) (bad_goes_on h bad behind)
bad_stays behind (Err end.TooDeep) h bad f = f
bad_stays behind (Err end.OutOfRange) h bad f = f
bad_stays behind (Err end.NoMemory) h bad f = f

pub all_read_alike : {reader : LogReader} {log : Log} {bytes : List ℕ} (behind : List ℕ)
    (answer : Result (Unit {0}) LogEnd) (read : Result Log LogEnd) → StandsFor reader log bytes →
    HasTakenAll reader behind → Finishes log bytes answer
    → ReadsLog (bytes ++ behind) read → IsReadAlike log answer read
all_read_alike {reader} {log} {bytes} behind answer read h (inl none) f r =
    read_alike log bytes answer read f (subst (λ (t : List ℕ). ReadsLog t read)
    (ap (λ (l : List ℕ). bytes ++ l) none ∙ append-nil bytes) r)
all_read_alike {reader} {log} {bytes} behind answer read h (inr bad) f r =
    read_alike log (bytes ++ behind) answer read (bad_stays behind answer h bad f) r
