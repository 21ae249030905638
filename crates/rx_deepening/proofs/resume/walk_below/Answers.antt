-- The nodes below the leaf are visited, and it is kept.
use Rattle.std.proofs.Common.{◌≡◌, ◌++◌, ◌∷◌, [], ◌+◌, ◌-◌, ◌<◌, All, IfOk, arith, map, subst}
use Rattle.std.proofs.lemmas.Result.{IfOk-weaker}
use Rattle.rx_deepening.specs.Keeping.{OfLeaf}
use Rattle.rx_deepening.specs.Counters.{counted, visited_open}
use Rattle.rx_deepening.specs.Views.{IfFound, seen_choice, seen_menu, seen_counter}
use Rattle.rx_deepening.specs.Visits.{visits_of}
use Rattle.rx_deepening.specs.declared.kept.Kept.TheVariants.{Frontier}
use Rattle.rx_deepening.specs.declared.counter.Counter.{Counter}
use Rattle.rx_deepening.proofs.KeepingLaws.{all_push}
use Rattle.rx_deepening.proofs.ResumeLaws.{leaf_walked_made, counter_made}
use Rattle.rx_deepening.proofs.resume.walk_below.Goals as goal

pub returns-clause-visited : goal.returns-clause-visited
returns-clause-visited g c = λ s at is.
    let w = g.T.Tree.world c.args.tree.now in
    let view = g.T.Tree.view in
    let settled = g.T.Tree.settled w in
    let menu = g.T.Tree.menu w in
    let a = c.args in
    let q = c.walk_leaf-walked.result in
    let counts = subst (λ path. IfOk q (λ t. seen_counter view t ≡
    counted (visited_open (a.progress.counter.left - 1) (seen_counter view a.progress.counter) path
    a.menu.note) (visits_of settled menu a.leaf.below path (map (seen_choice view)
    a.menu.choices)))) c.as_slice.ensures c.walk_leaf-walked.ensures.counted in
    leaf_walked_made view settled menu a.progress q c.keep_walked.result a.leaf s
    (seen_menu view a.menu) c.requires.goes at is counts c.keep_walked.ensures.counter
    c.keep_walked.ensures.kept

pub returns-clause-valid : goal.returns-clause-valid
returns-clause-valid g c =
    let valid = g.T.Tree.valid (g.T.Tree.world c.args.tree.now) in
    counter_made (λ (t : Counter _ _). IfFound valid t.ended) c.walk_leaf-walked.result
    c.keep_walked.result c.keep_walked.ensures.counter c.walk_leaf-walked.ensures.valid

pub returns-clause-leaves : goal.returns-clause-leaves
returns-clause-leaves g c = λ most below all.
    let a = c.args in
    let of_leaf = OfLeaf (g.T.Tree.valid (g.T.Tree.world a.tree.now)) (most + 1) in
    let leaf = Frontier
    (record { path = a.leaf.path; node = a.leaf.node; below = a.leaf.below + 1 }) in
    let fits : a.leaf.below + 1 < most + 1 = omega arith in
    IfOk-weaker c.keep_walked.result (λ b. b.kept ≡ a.progress.kept ++ leaf ∷ [])
    (λ b. All of_leaf b.kept)
    (λ b same. all_push of_leaf a.progress.kept b.kept leaf same all (c.requires.leaf, fits))
    c.keep_walked.ensures.kept
