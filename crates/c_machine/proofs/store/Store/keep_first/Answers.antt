use Rattle.c_code.proofs.Slots.{kept-take}
use Rattle.c_machine.proofs.store.Store.keep_first.Goals as goal

pub returns-then-count : goal.returns-then-count
returns-then-count c =
    kept-take c.self.inside.base c.self.inside.slots.items c.self.inside.values.items
    c.self.inside.scopes.items c.args.self.now
    c.self.view_is c.args.count c.truncate.new.self.items c.truncate.ensures.items
