use Rattle.std.proofs.Common.{◌≡◌, ◌<◌, ◌≤◌, ◌+◌, ◌-◌, ◌∙◌, length, get_or, drop, ap, arith, length-drop}
use Rattle.c_lex.specs.Bytes.{until, at_close, slash}
use Rattle.c_lex.proofs.Lines.{seen_by_ends, solid_byte, slash_is_solid}
use Rattle.c_lex.proofs.Scans.{close_fits, close_slash, comment_first}
use Rattle.c_lex.proofs.piece.block_comment.Goals as goal

pub blank-requires-clause-within : goal.blank-requires-clause-within
blank-requires-clause-within c =
    let rest = c.args.rest.now in
    let behind = c.rest_from-behind.result.now in
    let fits : until at_close behind < length behind → until at_close behind + 2 ≤ length behind =
    close_fits behind in
    let size : length behind ≡ length (drop 2 rest) = ap length c.rest_from-behind.ensures in
    let place : c.place_of-inside.result ≡ until at_close behind =
    c.place_of-inside.ensures.value in
    omega (arith, length-drop 2 rest)

pub blank-requires-clause-line : goal.blank-requires-clause-line
blank-requires-clause-line c =
    let rest = c.args.rest.now in
    let behind = c.rest_from-behind.result.now in
    let size : length behind ≡ length (drop 2 rest) = ap length c.rest_from-behind.ensures in
    let same : until at_close behind ≡ until at_close (drop 2 rest) =
    ap (until at_close) c.rest_from-behind.ensures in
    let place : c.place_of-inside.result ≡ until at_close behind =
    c.place_of-inside.ensures.value in
    let fits : until at_close (drop 2 rest) < length (drop 2 rest) → until at_close (drop 2 rest) +
    2 ≤ length (drop 2 rest) = close_fits (drop 2 rest) in
    let within : c.place_of-inside.result + 4 ≤ length rest = omega (arith, length-drop 2 rest) in
    let last : c.place_of-inside.result + 4 - 1 ≡ until at_close (drop 2 rest) + 3 = omega arith in
    let closed : get_or rest (c.place_of-inside.result + 4 - 1) 0 ≡ slash =
    ap (λ k. get_or rest k 0) last ∙ close_slash rest (omega arith) in
    seen_by_ends rest (c.place_of-inside.result + 4) (omega arith) within
    (solid_byte (get_or rest 0 0) slash (comment_first rest c.requires) slash_is_solid)
    (solid_byte (get_or rest (c.place_of-inside.result + 4 - 1) 0) slash closed slash_is_solid)
