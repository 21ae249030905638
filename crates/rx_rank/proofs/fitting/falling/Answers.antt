-- One pair more.
use Rattle.std.proofs.Common.{◌∙◌, ap, sym, ◌+◌, ◌||◌, List, [], drop, drop_of_length-le, refl, slice_set, ◌<◌, length, subst, take, take_all}
use Rattle.std.specs.List.{AllZip, list_any}
use Rattle.rx_plain.proofs.Booleans.{or_assoc, or_false}
use Rattle.rx_pairs.specs.declared.pair.Pair.{Pair}
use Rattle.rx_rank.specs.Answers.{IsDecided}
use Rattle.rx_rank.specs.Choices.{falls_by, is_beyond}
use Rattle.rx_rank.proofs.Walks.{next_from, put_same, zip_next}
use Rattle.rx_rank.proofs.fitting.falling.Goals as goal

pub loop-known-preserved : goal.loop-known-preserved
loop-known-preserved g c =
    let values = c.args.values.now in
    let pairs = c.loop-known.pairs in
    let i = c.loop-known.known-index in
    let test = subst (λ (ps : List Pair). i < length ps) (sym c.loop-known.invariant.same)
    c.loop-known-test.true in
    let d = c.known-item.result in
    let put = put_same pairs i d c.decide.new.known c.decide.ensures.pair in
    let before = c.loop-known.noted in
    let more = c.in_ok-decision.decision.noted in
    let beyond = λ (ps : List Pair). list_any (λ q. is_beyond (falls_by values q)) ps in
    let rest = beyond (drop (i + 1) pairs) in
    record {
      solver = c.decide.ensures.solver;
      same = put ∙ c.loop-known.invariant.same;
      certs =
          zip_next (IsDecided values) pairs (slice_set pairs i c.decide.new.known)
          c.loop-known.certs.items c.push.new.self.items i d c.in_ok-decision.decision.certs
          test put c.in_ok-push.ensures.items c.loop-known.invariant.certs
          c.in_ok-decision.ensures.certs;
      noted =
          ap (λ ps. (before || more) || beyond (drop (i + 1) ps)) put
          ∙ or_assoc before more rest
          ∙ ap (λ m. before || (m || rest)) c.in_ok-decision.ensures.noted
          ∙ sym (ap (λ ps. before || beyond ps) (next_from pairs i d test))
          ∙ c.loop-known.invariant.noted;
    }

pub loop-known-init : goal.loop-known-init
loop-known-init g c = record {
  solver = c.requires.solver;
  same = refl;
  certs =
      subst (AllZip (IsDecided c.args.values.now) []) (sym c.new-certs.ensures.items) tt;
  noted = refl;
}

pub returns-clause-certs : goal.returns-clause-certs
returns-clause-certs g c =
    let i = c.loop-known.known-index in
    subst (λ (ps : List Pair). AllZip (IsDecided c.args.values.now) ps c.loop-known.certs.items)
    (ap (take i) c.loop-known.invariant.same ∙
    take_all i c.args.pairs.now c.loop-known-test.false)
    c.loop-known.invariant.certs

pub returns-clause-noted : goal.returns-clause-noted
returns-clause-noted g c =
    let values = c.args.values.now in
    let i = c.loop-known.known-index in
    let beyond = λ (ps : List Pair). list_any (λ q. is_beyond (falls_by values q)) ps in
    sym (or_false c.loop-known.noted)
    ∙ sym (ap (λ ps. c.loop-known.noted || beyond ps)
    (ap (drop i) c.loop-known.invariant.same ∙
    drop_of_length-le c.args.pairs.now c.loop-known-test.false))
    ∙ c.loop-known.invariant.noted

pub returns-in_err-decision-clause-pairs : goal.returns-in_err-decision-clause-pairs
returns-in_err-decision-clause-pairs g c =
    put_same c.loop-known.pairs c.loop-known.known-index c.known-item.result c.decide.new.known
    c.decide.ensures.pair ∙ c.loop-known.invariant.same

pub returns-in_err-push-clause-pairs : goal.returns-in_err-push-clause-pairs
returns-in_err-push-clause-pairs g c =
    put_same c.loop-known.pairs c.loop-known.known-index c.known-item.result c.decide.new.known
    c.decide.ensures.pair ∙ c.loop-known.invariant.same
