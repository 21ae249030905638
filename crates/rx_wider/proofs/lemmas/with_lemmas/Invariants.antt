-- The lemmas so far stand before the search.
use Rattle.std.proofs.Common.{◌≡◌, take}
use Rattle.std.specs.List.{fold}
use Rattle.rx_settle.specs.Known.{AreKnown}
use Rattle.rx_solve.specs.Answers.{IsSolver}
use Rattle.rx_term.specs.declared.rule.Equation.{Equation}
use Rattle.rx_wider.specs.Calls.{opening_of}
use Rattle.rx_wider.specs.Reached.{IsBegun}
use Rattle.rx_wider.specs.Tails.{with_lemma}
use Rattle.rx_wider.proofs.lemmas.with_lemmas.Given as goal

abbrev pub invariant-loop-tail : goal.invariant-loop-tail
invariant-loop-tail g l = record {
  known : AreKnown l.target.setting.now.rules.now l.memo;
  solver : IsSolver g.S.FnMut l.solve;
  opening :
      opening_of l.begun ≡
      fold (with_lemma l.target.setting.now.kind l.target.setting.now.rules.now l.target.goal.now) (opening_of l.fn.begun)
      (take l.tail-index l.tails);
  begun : (from : Equation) → IsBegun l.target.setting.now.kind l.target.setting.now.rules.now from l.target.goal.now l.fn.begun →
      IsBegun l.target.setting.now.kind l.target.setting.now.rules.now from l.target.goal.now l.begun;
}
