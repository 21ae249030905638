-- One symbol more.
use Rattle.std.proofs.Common.{get_or}
use Rattle.std.proofs.lemmas.Option.{slice_get-get_or}
use Rattle.rx_anchors.specs.Members.{members}
use Rattle.rx_anchors.proofs.MemberLaws.{skip_member, take_member}
use Rattle.rx_anchors.proofs.members.symbols_in.Goals as goal

pub loop-at-preserved-then-other-name : goal.loop-at-preserved-then-other-name
loop-at-preserved-then-other-name c =
    let names = c.args.names.now in
    let at = c.loop-at.at in
    skip_member names c.args.name at (get_or names at 0) c.loop-at.symbols.items
    (members names c.args.name) c.loop-at-test.true
    (slice_get-get_or names at 0 c.loop-at-test.true) c.loop-at.invariant c.if-other-name.true

pub loop-at-preserved : goal.loop-at-preserved
loop-at-preserved c =
    let names = c.args.names.now in
    let at = c.loop-at.at in
    take_member names c.args.name at (get_or names at 0) c.loop-at.symbols.items
    (members names c.args.name) c.loop-at-test.true
    (slice_get-get_or names at 0 c.loop-at-test.true) c.loop-at.invariant c.if-other-name.false
    c.push.new.self.items c.in_ok-symbol.symbol c.in_ok-symbol.ensures
    c.in_ok-push.ensures.items
