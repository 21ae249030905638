-- One token more: its word is known, and its name is found.
use Rattle.std.proofs.Common.{◌∙◌, ap, sym, ℕ, ◌+◌, ◌<◌, List, map, length, take, arith}
use Rattle.c_names.specs.Names.{names_of}
use Rattle.c_names.specs.Spellings.{spelling, place_of}
use Rattle.c_names.proofs.NameLaws.{next_seen, next_name}
use Rattle.c_names.proofs.names.names_of.Goals as goal

pub loop-token-preserved : goal.loop-token-preserved
loop-token-preserved c =
    let source = c.args.source.now in
    let tokens = c.args.tokens.now in
    let words = map (spelling source) tokens in
    let place = c.loop-token.invariant.0 in
    let h : c.loop-token.number < length tokens = omega (arith, place, c.loop-token-test.true) in
    let knows = λ (w : List ℕ). c.loop-token.invariant.1 w ∙
    ap (λ k. place_of (take k words) w) (sym place) in
    let word = c.spelling_at-word in
    let seen = next_seen source tokens c.loop-token.number h word.result.now word.ensures
    c.loop-token.seen.entries knows c.number_of.new.seen.entries c.in_ok-name.ensures.known in
    let names = next_name source tokens c.loop-token.number h word.result.now word.ensures
    c.loop-token.seen.entries knows c.in_ok-name.name c.loop-token.names.items
    c.in_ok-name.ensures.number (c.loop-token.invariant.2 ∙
    ap (λ k. take k (names_of source tokens)) (sym place)) in (
      omega (arith, place),
      λ w. seen w ∙ ap (λ k. place_of (take (k + 1) words) w) place,
      c.in_ok-push.ensures.items ∙ names ∙ ap (λ k. take (k + 1) (names_of source tokens)) place,
    )
