-- One pair more.
use Rattle.std.proofs.Common.{◌≡◌, ◌∙◌, ap, sym, subst, ◌+◌, ◌++◌, [], ◌∷◌, drop, drop_of_length-le, get_or, slice_set, Some, ◌<◌, length, List, refl, take, take_all}
use Rattle.std.specs.List.{AllZip}
use Rattle.std.specs.Option.{IfSome}
use Rattle.rx_cert.specs.Findings.{and_also}
use Rattle.rx_pairs.specs.declared.pair.Pair.{Pair}
use Rattle.rx_rank.specs.Answers.{IsHeld, only_shown}
use Rattle.rx_rank.specs.Choices.{all_hold, holds_by}
use Rattle.rx_rank.proofs.Walks.{made_not, made_yes, next_hold, put_same, zip_next}
use Rattle.rx_rank.proofs.fitting.all_held.Goals as goal

pub returns-in-None-clause-tried : goal.returns-in-None-clause-tried
returns-in-None-clause-tried g c =
    let values = c.args.values.now in
    let pairs = c.loop-known.pairs in
    let i = c.loop-known.known-index in
    let test = subst (λ (ps : List Pair). i < length ps) (sym c.loop-known.invariant.same)
    c.loop-known-test.true in
    let d = c.known-item.result in
    let later = all_hold values (drop (i + 1) pairs) in
    made_not c.in_ok-attempt.attempt.made c.in_ok-attempt.attempt.noted
    (holds_by values (get_or pairs i d)) c.in_ok-attempt.ensures.tried later c.in-None.is
    ∙ ap only_shown (sym (next_hold values pairs i d test) ∙
    c.loop-known.invariant.decides)

pub loop-known-preserved : goal.loop-known-preserved
loop-known-preserved g c =
    let values = c.args.values.now in
    let pairs = c.loop-known.pairs in
    let i = c.loop-known.known-index in
    let test = subst (λ (ps : List Pair). i < length ps) (sym c.loop-known.invariant.same)
    c.loop-known-test.true in
    let d = c.known-item.result in
    let s = holds_by values (get_or pairs i d) in
    let later = all_hold values (drop (i + 1) pairs) in
    let is : c.in_ok-attempt.attempt.made ≡ Some c.in-Some.certs = c.in-Some.is in
    let yes = made_yes c.in_ok-attempt.attempt.made c.in_ok-attempt.attempt.noted s
    c.in_ok-attempt.ensures.tried c.in-Some.certs is in
    let put = put_same pairs i d c.held.new.known c.held.ensures.pair in
    record {
      solver = c.held.ensures.solver;
      same = put ∙ c.loop-known.invariant.same;
      decides =
          ap (λ ps. all_hold values (drop (i + 1) ps)) put
          ∙ sym (next_hold values pairs i d test ∙ ap (λ t. and_also t later) yes)
          ∙ c.loop-known.invariant.decides;
      held =
          zip_next (IsHeld values) pairs (slice_set pairs i c.held.new.known) c.loop-known.all.items
          c.push.new.self.items i d c.in-Some.certs test put
          (c.in_ok-push-in-Some.ensures.items ∙
          ap (λ x. c.loop-known.all.items ++ x ∷ []) c.in-Some.certs-is)
          c.loop-known.invariant.held
          (subst (λ o. IfSome o (IsHeld values (get_or pairs i d))) is
          c.in_ok-attempt.ensures.held);
    }

pub loop-known-init : goal.loop-known-init
loop-known-init g c = record {
  solver = c.requires.solver;
  same = refl;
  decides = refl;
  held =
      subst (AllZip (IsHeld c.args.values.now) []) (sym c.new-all.ensures.items) tt;
}

pub returns-clause-tried : goal.returns-clause-tried
returns-clause-tried g c =
    let values = c.args.values.now in
    let same = c.loop-known.invariant.same in
    let i = c.loop-known.known-index in
    ap only_shown (sym (ap (all_hold values)
    (ap (drop i) same ∙ drop_of_length-le c.args.pairs.now c.loop-known-test.false)) ∙
    c.loop-known.invariant.decides)

pub returns-clause-held : goal.returns-clause-held
returns-clause-held g c =
    let i = c.loop-known.known-index in
    subst (λ (ps : List Pair). AllZip (IsHeld c.args.values.now) ps c.loop-known.all.items)
    (ap (take i) c.loop-known.invariant.same ∙
    take_all i c.args.pairs.now c.loop-known-test.false)
    c.loop-known.invariant.held

pub returns-in_err-attempt-clause-pairs : goal.returns-in_err-attempt-clause-pairs
returns-in_err-attempt-clause-pairs g c =
    put_same c.loop-known.pairs c.loop-known.known-index c.known-item.result c.held.new.known
    c.held.ensures.pair ∙ c.loop-known.invariant.same

pub returns-in_err-push-in-Some-clause-pairs : goal.returns-in_err-push-in-Some-clause-pairs
returns-in_err-push-in-Some-clause-pairs g c =
    put_same c.loop-known.pairs c.loop-known.known-index c.known-item.result c.held.new.known
    c.held.ensures.pair ∙ c.loop-known.invariant.same

pub returns-in-None-clause-pairs : goal.returns-in-None-clause-pairs
returns-in-None-clause-pairs g c =
    put_same c.loop-known.pairs c.loop-known.known-index c.known-item.result c.held.new.known
    c.held.ensures.pair ∙ c.loop-known.invariant.same
