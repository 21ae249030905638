-- The log of a proof is accepted.
use Rattle.std.proofs.Common.{◌≡◌, None, ap, subst, sym, true}
use Rattle.std.proofs.lemmas.Result.{IfOk-weaker}
use Rattle.rx_cover.specs.Covering.{Covers, covering}
use Rattle.rx_log.specs.Acceptance.{Accepted, verdict_over}
use Rattle.rx_log.specs.Depth.{is_shallow_log}
use Rattle.rx_log.specs.declared.log.Log.{Log}
use Rattle.rx_find_ranks.specs.Found.{HasColumns}
use Rattle.rx_proofs.specs.Runs as joins
use Rattle.rx_search.proofs.Closing.{accepted}
use Rattle.rx_search.proofs.Shallow.{log_shallow}
use Rattle.rx_settle.proofs.ReachedLaws.{reached_fits, reached_rooted}
use Rattle.rx_search.proofs.search.log_of.Goals as goal

pub ranks_of-requires-clause-ranked : goal.ranks_of-requires-clause-ranked
ranks_of-requires-clause-ranked g c = let (goal, proof) = c.requires.proved in proof.ranked

pub ranks_of-requires-clause-roots : goal.ranks_of-requires-clause-roots
ranks_of-requires-clause-roots g c =
    let s = c.args.space.now in
    let (goal, proof) = c.requires.proved in
    reached_rooted s.rules.now goal c.args.steps.now
    (joins.finished c.args.hypotheses.now) proof.reached

pub ranks_of-requires-clause-fits : goal.ranks_of-requires-clause-fits
ranks_of-requires-clause-fits g c =
    let s = c.args.space.now in
    let (goal, proof) = c.requires.proved in
    reached_fits s.rules.now goal c.args.steps.now
    (joins.finished c.args.hypotheses.now) proof.reached

pub returns-in-Ok-clause-steps : goal.returns-in-Ok-clause-steps
returns-in-Ok-clause-steps g c =
    IfOk-weaker c.log_with.result _ (λ (log : Log). log.steps ≡ c.args.steps.now)
    (λ log same. ap (λ (log : Log). log.steps) same) c.log_with.ensures

pub returns-in-Ok-clause-accepted : goal.returns-in-Ok-clause-accepted
returns-in-Ok-clause-accepted g c = λ goal proof.
    let s = c.args.space.now in
    IfOk-weaker c.log_with.result _ (λ (log : Log). verdict_over s.rules.now goal log ≡ Accepted)
    (λ log same. accepted s.kind s.rules.now goal c.args.steps.now
    c.args.hypotheses.now log c.in-Ok.ranking proof
    (subst (λ lists. covering s.rules.now lists ≡ Covers)
    (sym (ap (λ (log : Log). log.covers) same)) c.in_ok-covers.ensures.covers)
    (ap (λ (log : Log). log.steps) same) (ap (λ (log : Log). log.table) same)
    (ap (λ (log : Log). log.pairs) same) c.in-Ok.ensures.lowers)
    c.log_with.ensures

pub returns-in-Ok-clause-bare : goal.returns-in-Ok-clause-bare
returns-in-Ok-clause-bare g c =
    IfOk-weaker c.log_with.result _ (λ (log : Log). log.domains ≡ None)
    (λ log same. ap (λ (log : Log). log.domains) same) c.log_with.ensures

pub returns-in-Ok-clause-shallow : goal.returns-in-Ok-clause-shallow
returns-in-Ok-clause-shallow g c =
    let s = c.args.space.now in
    let (goal, proof) = c.requires.proved in
    IfOk-weaker c.log_with.result _ (λ (log : Log). is_shallow_log log ≡ true)
    (λ log same. log_shallow s.rules.now log c.in_ok-covers.covers c.args.steps.now
    c.in-Ok.ranking.certs (ap (λ (log : Log). log.domains) same)
    (ap (λ (log : Log). log.covers) same)
    (ap (λ (log : Log). log.steps) same) (ap (λ (log : Log). log.pairs) same)
    c.in_ok-covers.ensures.small proof.reached.deep c.in-Ok.ensures.lowers.deep)
    c.log_with.ensures

pub returns-in-Ok-clause-columns : goal.returns-in-Ok-clause-columns
returns-in-Ok-clause-columns g c =
    IfOk-weaker c.log_with.result _ (λ (log : Log). HasColumns log.table)
    (λ log same. subst HasColumns (sym (ap (λ (log : Log). log.table) same))
    c.in-Ok.ensures.columns) c.log_with.ensures
