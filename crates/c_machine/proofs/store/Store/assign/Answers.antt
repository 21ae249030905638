use Rattle.std.proofs.lemmas.Int.{to_z-of_z}
use Rattle.c_code.proofs.Slots.{kept-set}
use Rattle.c_machine.proofs.store.Store.assign.Goals as goal

pub returns-then-at-len : goal.returns-then-at-len
returns-then-at-len c =
    let all = simp (to_z-of_z, c.ranges.value) at c.put.ensures in
    kept-set c.self.inside.base c.self.inside.slots.items c.self.inside.values.items
    c.self.inside.scopes.items c.args.self.now
    c.self.view_is c.args.at c.args.value _ all
