-- Where the ranks end before the symbols.
use Rattle.std.proofs.Common.{◌≡◌, ◌∙◌, ap, sym, arith, Some, List, length}
use Rattle.rx_poly.specs.declared.body.Body.{Body}
use Rattle.rx_term.specs.declared.rule_set.SymInfo.{SymInfo}
use Rattle.rx_pairs.proofs.RankLaws.{ranks_end}
use Rattle.rx_pairs.proofs.table.bad_ranks.Goals as goal

pub returns-then-len-symbols : goal.returns-then-len-symbols
returns-then-len-symbols c =
    let ended = c.loop-sym-test.false in
    let most = c.loop-sym.auto.sym-end in
    let ranks = ap (λ (rs : List (List Body)). length rs) c.as_slice-rank-items.ensures in
    let symbols = ap (λ (infos : List SymInfo). length infos) c.symbols-2.ensures in
    let less = c.if-len-symbols.true in
    let count = c.len.ensures in
    let number : c.loop-sym.sym ≡ length c.args.table.now.ranks =
    omega (arith, ended, most, ranks) in
    ap Some (c.len-then-len-symbols.ensures ∙ sym number)
    ∙ sym (ranks_end c.args.table.now.columns c.loop-sym.sym c.args.rules.now.symbols
    c.args.table.now.ranks
    (omega (arith, number)) (omega (arith, number, less, symbols, count)))
    ∙ c.loop-sym.invariant.decides
