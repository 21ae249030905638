use Rattle.std.proofs.Common.{◌≡◌, ◌∙◌, ℕ, suc, Bool, false, true, Option, Some, None, List, [], ◌∷◌, ◌++◌, ap, length, length-append, refl, subst, sym, arith}
use Rattle.rx_log.specs.Reading.{pushed}
use Rattle.rx_log.specs.declared.line.Line.{Line}
use Rattle.rx_log.specs.declared.line_state.LineState.{LineState}
use Rattle.rx_logtext.specs.Logs.{up_to_feed}
use Rattle.rx_logtext.specs.Reading.{ReadsNext}
use Rattle.rx_logtext.specs.Readers.{StandsFor, taken_of, version_after}
use Rattle.rx_logtext.specs.declared.reader.LogReader.{LogReader}
use Rattle.rx_logtext.proofs.Cuts.{up_to_feed-cut, up_to_feed-none}
use Rattle.rx_logtext.proofs.Texts.{line_bad, line_taken, part_taken}
use Rattle.rx_logtext.proofs.reader.LogReader.take.Goals as goal

pub returns-in_default-clause-count : goal.returns-in_default-clause-count
returns-in_default-clause-count c =
    ap length (sym (up_to_feed-none c.args.piece.now c.in_default.ensures))

pub returns-in_default-clause-takes : goal.returns-in_default-clause-takes
returns-in_default-clause-takes c = λ log bytes h.
    let good : c.args.self.now.is_bad ≡ false = c.if-self.false in
    let all : up_to_feed c.args.piece.now ≡ c.args.piece.now =
    up_to_feed-none c.args.piece.now c.in_default.ensures in
    let new : LogReader = record {
      version = c.args.self.now.version;
      place = c.args.self.now.place;
      taken = c.args.self.now.taken;
      line = c.extend.new.line;
      is_bad = c.args.self.now.is_bad;
    } in (
      good,
      (
        good,
        subst (λ (l : List ℕ). StandsFor new log (bytes ++ l)) (sym all)
            (part_taken c.args.piece.now new h good c.in_default.ensures refl refl refl good
            c.in_ok-extend.ensures.ok),
      ),
    )

pub returns-in_default-2-clause-takes : goal.returns-in_default-2-clause-takes
returns-in_default-2-clause-takes c = λ log bytes h.
    let good : c.args.self.now.is_bad ≡ false = c.if-self.false in
    let front : up_to_feed c.args.piece.now ≡ c.in-Some.bytes.now ++ 10 ∷ [] =
    up_to_feed-cut c.args.piece.now c.in-Some.bytes.now c.in-Some.field-0-1.now
    c.in-Some.ensures.0 c.in-Some.ensures.1 in
    let none : ReadsNext c.args.self.now.version
    c.args.self.now.place (c.args.self.now.line ++ c.in-Some.bytes.now) None =
    subst (λ (found : Option (Line × LineState)). ReadsNext
    c.args.self.now.version c.args.self.now.place
    (c.args.self.now.line ++ c.in-Some.bytes.now) found) c.in_default-2.is
    c.in_ok-line.ensures.read in
    let new : LogReader = record {
      version = c.read_whole.new.self.version;
      place = c.read_whole.new.self.place;
      taken =
          c.read_whole.new.self.taken;
      line = c.read_whole.new.self.line;
      is_bad = true;
    } in
    let number : c.next_number-in_default-2.result ≡ suc c.read_whole.new.self.taken =
    omega (arith, c.next_number-in_default-2.ensures) in
    let taken : StandsFor new log (bytes ++ (c.in-Some.bytes.now ++ 10 ∷ [])) =
    line_bad c.in-Some.bytes.now new h good c.in-Some.ensures.1 none
    (ap (λ (r : LogReader). r.version) c.in_ok-line.ensures.kept)
    (ap (λ (r : LogReader). r.place) c.in_ok-line.ensures.kept)
    (ap (λ (r : LogReader). r.taken) c.in_ok-line.ensures.kept) refl in (
      refl,
      (
        number,
        subst (λ (b : Bool). StandsFor new log (bytes ++ taken_of b c.args.piece.now)) (sym good)
            (subst (λ (l : List ℕ). StandsFor new log (bytes ++ l)) (sym front) taken),
      ),
    )

pub returns-clause-count : goal.returns-clause-count
returns-clause-count c =
    let front : up_to_feed c.args.piece.now ≡ c.in-Some.bytes.now ++ 10 ∷ [] =
    up_to_feed-cut c.args.piece.now c.in-Some.bytes.now c.in-Some.field-0-1.now
    c.in-Some.ensures.0 c.in-Some.ensures.1 in
    omega (arith, ap length front, length-append c.in-Some.bytes.now (10 ∷ []))

pub returns-clause-takes : goal.returns-clause-takes
returns-clause-takes c = λ log bytes h.
    let good : c.args.self.now.is_bad ≡ false = c.if-self.false in
    let still : c.read_whole.new.self.is_bad ≡ false =
    ap (λ (r : LogReader). r.is_bad) c.in_ok-line.ensures.kept ∙ good in
    let front : up_to_feed c.args.piece.now ≡ c.in-Some.bytes.now ++ 10 ∷ [] =
    up_to_feed-cut c.args.piece.now c.in-Some.bytes.now c.in-Some.field-0-1.now
    c.in-Some.ensures.0 c.in-Some.ensures.1 in
    let some : ReadsNext c.args.self.now.version
    c.args.self.now.place (c.args.self.now.line ++ c.in-Some.bytes.now)
    (Some (c.in-Some-2.line, c.in-Some-2.place)) =
    subst (λ (found : Option (Line × LineState)). ReadsNext
    c.args.self.now.version c.args.self.now.place
    (c.args.self.now.line ++ c.in-Some.bytes.now) found) c.in-Some-2.is
    c.in_ok-line.ensures.read in
    let new : LogReader = record {
      version = c.version_after-self.result;
      place = c.in-Some-2.place;
      taken = c.next_number-self.result;
      line = c.truncate.new.self;
      is_bad = c.read_whole.new.self.is_bad;
    } in
    let version : c.version_after-self.result ≡
    version_after c.args.self.now.version c.in-Some-2.line =
    c.version_after-self.ensures
    ∙ ap (λ (r : LogReader). version_after r.version c.in-Some-2.line) c.in_ok-line.ensures.kept in
    let number : c.next_number-self.result ≡ suc c.args.self.now.taken =
    omega (
      arith,
      c.next_number-self.ensures,
      ap (λ (r : LogReader). r.taken) c.in_ok-line.ensures.kept,
    ) in (
      good,
      (
        still,
        subst (λ (l : List ℕ). StandsFor new (pushed c.in-Some-2.line log) (bytes ++ l)) (sym front)
            (line_taken c.in-Some.bytes.now c.in-Some-2.line c.in-Some-2.place new h good some
            version
            refl number still c.truncate.ensures),
      ),
    )

pub returns-clause-within : goal.returns-clause-within
returns-clause-within c =
    omega (
      arith,
      ap length c.in-Some.ensures.0,
      length-append c.in-Some.bytes.now (10 ∷ c.in-Some.field-0-1.now),
    )
