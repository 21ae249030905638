-- The instance decides, where it is formed.
use Rattle.std.proofs.Common.{◌≡◌, Bool, subst}
use Rattle.std.specs.Result.{IfOk}
use Rattle.rx_find_domains.proofs.StayingLaws.{beyond_drops, formed_decides}
use Rattle.rx_find_domains.proofs.staying.is_kept.Goals as goal

pub returns-in-Ok-clause-kept : goal.returns-in-Ok-clause-kept
returns-in-Ok-clause-kept g c =
    subst (λ (s : Bool). IfOk c.is_shown.result (λ b. b ≡ s))
    (formed_decides c.args.given.now c.args.args.now c.args.row.now c.in-Ok.instance
    c.in-Ok.ensures.forms) c.is_shown.ensures.shown

pub returns-in-Err-Large-clause-kept : goal.returns-in-Err-Large-clause-kept
returns-in-Err-Large-clause-kept g c =
    beyond_drops c.args.given.now c.args.args.now c.args.row.now
    (c.in-Err-Large.ensures.forms c.in-Err-Large.field-0-is)
