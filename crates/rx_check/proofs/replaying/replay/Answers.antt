-- What the lines of the log give is what is said of it.
use Rattle.std.proofs.Common.{[], refl}
use Rattle.std.proofs.lemmas.Result.{err_from_is_err_and}
use Rattle.rx_log.specs.Reading.{blank}
use Rattle.rx_check.specs.Whole.{Replays}
use Rattle.rx_check.proofs.Sound.{replayed_answer, replayed_sound}
use Rattle.rx_check.proofs.replaying.replay.Goals as goal

pub returns-in_err-judge_ranks-clause-exact : goal.returns-in_err-judge_ranks-clause-exact
returns-in_err-judge_ranks-clause-exact c =
    let before : Replays c.in_ok-replayer.replayer c.args.rules.now c.args.goal blank =
    record { its = []; stands = c.in_ok-replayer.ensures.stands c.args.rules.now; are = refl } in
    let p = err_from_is_err_and c.from_residual-in_err-judge_ranks.result
    c.from_residual-in_err-judge_ranks.ensures.1 in
    rw (p.1, p.2) (c.in_err-judge_ranks.ensures.fails c.args.goal
    (c.in_ok-take_front.ensures.takes c.args.goal before))

pub returns-clause-exact : goal.returns-clause-exact
returns-clause-exact c =
    let before : Replays c.in_ok-replayer.replayer c.args.rules.now c.args.goal blank =
    record { its = []; stands = c.in_ok-replayer.ensures.stands c.args.rules.now; are = refl } in
    replayed_answer c.take_rest.new.self c.args.rules.now c.args.goal c.args.log.now
    (c.in_ok-take_rest.ensures.takes c.args.goal
    (c.in_ok-take_front.ensures.takes c.args.goal before))
    c.finish.result c.finish.ensures.exact

pub returns-clause-sound : goal.returns-clause-sound
returns-clause-sound c =
    let before : Replays c.in_ok-replayer.replayer c.args.rules.now c.args.goal blank =
    record { its = []; stands = c.in_ok-replayer.ensures.stands c.args.rules.now; are = refl } in
    replayed_sound c.take_rest.new.self c.args.rules.now c.args.goal c.args.log.now
    (c.in_ok-take_rest.ensures.takes c.args.goal
    (c.in_ok-take_front.ensures.takes c.args.goal before))
    c.finish.result (record { left = c.requires.left; right = c.requires.right })
    c.finish.ensures.sound
