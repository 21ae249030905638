-- One anchor more.
use Rattle.std.proofs.Common.{◌∙◌, ap, sym, ℕ, ◌+◌, ◌||◌, List, [], ◌∷◌, ◌++◌, append-nil, append_assoc, drop, drop_of_length-le, map}
use Rattle.std.proofs.lemmas.List.{map-append}
use Rattle.rx_plain.proofs.Booleans.{or_assoc, or_false}
use Rattle.rx_rank.proofs.Walks.{next_from}
use Rattle.rx_anchors.specs.Choices.{lists_in}
use Rattle.rx_anchors.specs.Members.{arity_of}
use Rattle.rx_rank.specs.Candidates.{are_noted, candidates_at}
use Rattle.rx_rank.proofs.candidates.all_lists.Goals as goal

pub loop-symbol-preserved : goal.loop-symbol-preserved
loop-symbol-preserved c =
    let k = c.args.component.now in
    let made = candidates_at k.kind k.parts.now k.hypotheses.now k.names.now k.name in
    let noted_of = λ (fs : List ℕ). are_noted k.names.now k.name (k.parts.now.rules ++ k.hypotheses.now)
    (map (arity_of k.parts.now.symbols) fs) in
    let anchors = c.args.anchors.now in
    let i = c.loop-symbol.symbol-index in
    let lists = c.loop-symbol.lists.items in
    let before = c.loop-symbol.noted in
    let one = c.in_ok-one.one in
    let opened = next_from anchors i 0 c.loop-symbol-test.true in
    let more = map made (drop (i + 1) anchors) in
    let rest = noted_of (drop (i + 1) anchors) in
    record {
      lists =
          ap (λ vs. lists_in vs ++ more) c.in_ok-push.ensures.items
          ∙ ap (λ ls. ls ++ more) (map-append (λ v. v.items) lists (one.polys ∷ []))
          ∙ append_assoc (lists_in lists) (one.polys.items ∷ []) more
          ∙ ap (λ ps. lists_in lists ++ (ps ∷ more)) c.in_ok-one.ensures.polys
          ∙ sym (ap (λ fs. lists_in lists ++ map made fs) opened)
          ∙ c.loop-symbol.invariant.lists;
      noted =
          or_assoc before one.noted rest
          ∙ ap (λ m. before || (m || rest)) c.in_ok-one.ensures.noted
          ∙ sym (ap (λ fs. before || noted_of fs) opened)
          ∙ c.loop-symbol.invariant.noted;
    }

pub returns-clause-lists : goal.returns-clause-lists
returns-clause-lists c =
    let k = c.args.component.now in
    let made = candidates_at k.kind k.parts.now k.hypotheses.now k.names.now k.name in
    let lists = lists_in c.loop-symbol.lists.items in
    sym (append-nil lists)
    ∙ ap (λ fs. lists ++ map made fs)
    (sym (drop_of_length-le c.args.anchors.now c.loop-symbol-test.false))
    ∙ c.loop-symbol.invariant.lists

pub returns-clause-noted : goal.returns-clause-noted
returns-clause-noted c =
    let k = c.args.component.now in
    let noted_of = λ (fs : List ℕ). are_noted k.names.now k.name (k.parts.now.rules ++ k.hypotheses.now)
    (map (arity_of k.parts.now.symbols) fs) in
    let noted = c.loop-symbol.noted in
    sym (or_false noted)
    ∙ ap (λ fs. noted || noted_of fs)
    (sym (drop_of_length-le c.args.anchors.now c.loop-symbol-test.false))
    ∙ c.loop-symbol.invariant.noted
