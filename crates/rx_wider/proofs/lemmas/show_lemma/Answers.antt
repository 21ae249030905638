-- The lemma is posed, expanded and settled.
use Rattle.std.proofs.Common.{subst}
use Rattle.rx_wider.specs.Reached.{Expands, IsSettledLemma, Poses}
use Rattle.rx_wider.proofs.Openings.{begun_there, is_posed, shown_there}
use Rattle.rx_wider.proofs.lemmas.show_lemma.Goals as goal

pub expand_lemma-requires-clause-posed : goal.expand_lemma-requires-clause-posed
expand_lemma-requires-clause-posed g c =
    let kind = c.args.target.now.setting.now.kind in
    let parts = c.args.target.now.setting.now.rules.now in
    let begun = c.args.begun.now in
    let lemma = c.args.lemma.now in
    let (from, is) = c.requires.begun in
    let poses = subst (Poses parts begun.state lemma) c.in-Some.is c.in_ok-posed.ensures.posed in
    is_posed kind parts from c.args.target.now.goal.now lemma begun is poses.0 c.in-Some.posed poses.1

pub returns-clause-shown : goal.returns-clause-shown
returns-clause-shown g c =
    let kind = c.args.target.now.setting.now.kind in
    let parts = c.args.target.now.setting.now.rules.now in
    let begun = c.args.begun.now in
    let lemma = c.args.lemma.now in
    let (from, is) = c.requires.begun in
    let poses = subst (Poses parts begun.state lemma) c.in-Some.is c.in_ok-posed.ensures.posed in
    shown_there kind parts from c.args.target.now.goal.now lemma begun is poses.0 c.in-Some.posed poses.1
    c.in-Some-2.expanded
    (subst (Expands kind parts begun.state.hypotheses lemma) c.in-Some-2.is
    c.in_ok-expanded.ensures.expanded) c.in-Some-3.settled
    (subst (IsSettledLemma parts c.in-Some-2.expanded.state) c.in-Some-3.is
    c.in_ok-settled.ensures.settled) c.in_ok-next.next c.in_ok-next.ensures

pub returns-clause-begun : goal.returns-clause-begun
returns-clause-begun g c = λ from is.
    let kind = c.args.target.now.setting.now.kind in
    let parts = c.args.target.now.setting.now.rules.now in
    let begun = c.args.begun.now in
    let lemma = c.args.lemma.now in
    let poses = subst (Poses parts begun.state lemma) c.in-Some.is c.in_ok-posed.ensures.posed in
    begun_there kind parts from c.args.target.now.goal.now lemma begun is poses.0 c.in-Some.posed poses.1
    c.in-Some-2.expanded
    (subst (Expands kind parts begun.state.hypotheses lemma) c.in-Some-2.is
    c.in_ok-expanded.ensures.expanded) c.in-Some-3.settled
    (subst (IsSettledLemma parts c.in-Some-2.expanded.state) c.in-Some-3.is
    c.in_ok-settled.ensures.settled) c.in_ok-next.next c.in_ok-next.ensures
