use Rattle.std.proofs.Common.{◌≡◌, ◌-◌, length, take}
use Rattle.c_code.proofs.Slots.{kept-end}
use Rattle.c_machine.proofs.store.Store.end.Goals as goal

pub returns-then-scopes-gt0 : goal.returns-then-scopes-gt0
returns-then-scopes-gt0 c =
    let inside = c.self.inside in
    let some : c.truncate-then-scopes-gt0.new.self.items ≡
    take (length inside.scopes.items - c.args.scopes) inside.scopes.items =
    cc (c.truncate-then-scopes-gt0.ensures.items, c.saturating_sub-left.ensures, c.len.ensures)
    in
    kept-end inside.base inside.slots.items inside.values.items inside.scopes.items c.args.self.now
    c.self.view_is c.args.scopes
    c.truncate.new.self.items c.truncate-then-scopes-gt0.new.self.items c.truncate.ensures.items
    some
