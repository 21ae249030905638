-- The table is lawful, and all pairs are lower by it.
use Rattle.std.proofs.Common.{◌∙◌, All, List, ap, length, subst, sym, true}
use Rattle.std.proofs.lemmas.List.{length-map}
use Rattle.rx_pairs.specs.Inside.{descent_in}
use Rattle.rx_pairs.specs.declared.pair_cert.PairCert.{PairCert}
use Rattle.rx_find_ranks.proofs.Finished.{table_deep, table_descends, table_lawful}
use Rattle.rx_find_ranks.specs.Tables.{IsDeepPair}
use Rattle.rx_find_ranks.specs.Columns.{column_of, columns_in}
use Rattle.rx_find_ranks.proofs.table.ranking_of.Goals as goal

pub returns-clause-lawful : goal.returns-clause-lawful
returns-clause-lawful c = λ parts count all.
    table_lawful parts (columns_in c.args.columns.now) c.args.symbols
    (record { columns = length c.args.columns.now; ranks = c.in_ok-ranks.ranks }) count all
    (sym (length-map c.args.columns.now column_of)) c.in_ok-ranks.ensures

pub returns-clause-lower : goal.returns-clause-lower
returns-clause-lower c = λ pairs split over.
    ap (λ (certs : List PairCert). descent_in
    (record { columns = length c.args.columns.now; ranks = c.in_ok-ranks.ranks }) true 0 pairs
    certs)
    c.in_ok-certs.ensures
    ∙ table_descends (columns_in c.args.columns.now) c.args.symbols
    (record { columns = length c.args.columns.now; ranks = c.in_ok-ranks.ranks })
    c.in_ok-ranks.ensures pairs c.args.closed.items split over

pub returns-clause-deep : goal.returns-clause-deep
returns-clause-deep c = λ pairs split.
    subst (All IsDeepPair) (sym c.in_ok-certs.ensures)
    (table_deep (columns_in c.args.columns.now) c.args.symbols
    (record { columns = length c.args.columns.now; ranks = c.in_ok-ranks.ranks })
    c.in_ok-ranks.ensures pairs c.args.closed.items split)
