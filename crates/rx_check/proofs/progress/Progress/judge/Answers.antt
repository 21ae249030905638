use Rattle.std.proofs.Common.{List, subst, sym}
use Rattle.rx_cover.specs.declared.cover_tree.CoverTree.{CoverTree}
use Rattle.rx_log.specs.declared.line.Line.{Line}
use Rattle.rx_log.specs.declared.line.Line.TheVariants as line
use Rattle.rx_check.specs.LineByLine.{Judges}
use Rattle.rx_check.proofs.progress.Progress.judge.Goals as goal

pub returns-in-Cover-clause-judges : goal.returns-in-Cover-clause-judges
returns-in-Cover-clause-judges c =
    subst (λ (next : Line). Judges c.args.rules.now c.args.place next c.args.self.now
    c.args.self.now c.judge_cover.result) (sym c.in-Cover.is)
    (subst (λ (trees : List CoverTree). Judges c.args.rules.now c.args.place (line.Cover trees)
    c.args.self.now c.args.self.now c.judge_cover.result)
    c.as_slice.ensures (c.judge_cover.ensures c.args.self.now))

pub returns-in-Rank-clause-judges : goal.returns-in-Rank-clause-judges
returns-in-Rank-clause-judges c =
    subst (λ (next : Line). Judges c.args.rules.now c.args.place next c.args.self.now
    c.push_rank.new.self c.push_rank.result) (sym c.in-Rank.is)
    (c.push_rank.ensures.judges c.args.rules.now c.args.place)
