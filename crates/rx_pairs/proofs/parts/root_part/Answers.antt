use Rattle.rx_pairs.proofs.PartsLaws.{call_root, frame_root}
use Rattle.rx_pairs.proofs.parts.root_part.Goals as goal

pub returns-in-Call : goal.returns-in-Call
returns-in-Call c =
    call_root c.args.term.now c.in-Call.symbol c.in-Call.arguments c.as_slice.result.now
    c.in-Call.is c.as_slice.ensures

pub returns-in-Frame : goal.returns-in-Frame
returns-in-Frame c =
    frame_root c.args.term.now c.in-Frame.symbol c.in-Frame.arguments c.as_slice-in-Frame.result.now
    c.in-Frame.field-2 c.in-Frame.is c.as_slice-in-Frame.ensures
