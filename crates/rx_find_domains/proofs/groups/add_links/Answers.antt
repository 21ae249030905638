-- No edge, or two.
use Rattle.std.proofs.Common.{List, ◌∙◌, ◌++◌, ◌∷◌, [], ℕ, subst, sym}
use Rattle.rx_graph.specs.Graph.{IsGraphOf, rows_of}
use Rattle.rx_find_domains.proofs.GroupLaws.{entry_links, other_links}
use Rattle.rx_find_domains.proofs.groups.add_links.Goals as goal

pub returns-then-is_entry : goal.returns-then-is_entry
returns-then-is_entry c = λ n edges graph.
    subst (λ (es : List (ℕ × ℕ)). IsGraphOf n es (rows_of c.args.graph.now.rows.items))
    (entry_links c.args.symbols.now c.args.pair.now edges
    (sym c.is_entry.ensures ∙ c.if-is_entry.true)) graph

pub returns : goal.returns
returns c = λ n edges graph.
    let pair = c.args.pair.now in
    subst (λ (es : List (ℕ × ℕ)). IsGraphOf n es (rows_of c.add-2.new.self.rows.items))
    (other_links c.args.symbols.now pair edges (sym c.is_entry.ensures ∙ c.if-is_entry.false))
    (c.in_ok-add-2.ensures.edge n (edges ++ (pair.left.0, pair.right.0) ∷ [])
    (c.in_ok-add.ensures.edge n edges graph))
