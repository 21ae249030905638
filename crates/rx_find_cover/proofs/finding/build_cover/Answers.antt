-- One symbol more; at the end none is left.
use Rattle.std.proofs.Common.{◌≡◌, ◌∙◌, ap, sym, subst, false, ◌||◌, List, [], ◌∷◌, ◌++◌, ◌+◌, drop, drop_of_length-le, get_or}
use Rattle.std.specs.Prelude.{slice_get}
use Rattle.std.proofs.lemmas.Option.{slice_get-get_or}
use Rattle.rx_plain.proofs.Booleans.{either_first, either_second}
use Rattle.rx_term.specs.declared.rule_set.SymInfo.{SymInfo}
use Rattle.rx_find_cover.specs.Coverable.{coverage, symbols_coverage}
use Rattle.rx_find_cover.specs.Coverage.{noting}
use Rattle.rx_find_cover.proofs.Growing.{Listing, all_listed, listed_next, next_symbol}
use Rattle.rx_find_cover.proofs.finding.build_cover.Goals as goal
use Rattle.rx_find_cover.proofs.finding.build_cover.Goals.{then-noted, else-noted}

pub loop-sym-preserved : goal.loop-sym-preserved
loop-sym-preserved g c =
    let parts = c.args.parts.now in
    let lent = c.as_slice-info-items.result.now in
    let blank : SymInfo = record { arity = 0; frame = false; entry = false; head = false } in
    let info : SymInfo = get_or lent c.loop-sym.sym blank in
    let there = ap (λ (xs : List SymInfo). slice_get xs c.loop-sym.sym) (sym c.as_slice-info-items.ensures) ∙
    slice_get-get_or lent c.loop-sym.sym blank c.loop-sym-test.true in
    let either : c.if-noted.noted ≡ (c.loop-sym.noted || c.in_ok-tried.tried.noted) =
    elim c.if-noted.branch [
      | then-noted w ↦ either_first c.loop-sym.noted c.in_ok-tried.tried.noted c.if-noted.noted
          w.if-noted.true w.noted-is
      | else-noted w ↦ either_second c.loop-sym.noted c.in_ok-tried.tried.noted c.if-noted.noted
          w.if-noted.false w.noted-is
    ] in
    let decides = next_symbol parts c.loop-sym.sym info there c.loop-sym.noted c.in_ok-tried.tried
    c.in-Some.trees c.in_ok-tried.ensures.coverage c.in-Some.is c.loop-sym.invariant.decides in
    record {
      solver = c.build_symbol.ensures.solver;
      decides =
          subst (λ n. noting n (symbols_coverage parts (c.loop-sym.sym + 1)
          (drop (c.loop-sym.sym + 1) parts.symbols)) ≡ coverage parts) (sym either) decides;
      listing =
          listed_next parts c.loop-sym.sym info there c.loop-sym.lists c.push.new.self
          c.in_ok-tried.tried.made c.in-Some.trees c.loop-sym.invariant.listing c.in-Some.is
          c.in_ok-tried.ensures.trees
          (c.in_ok-push.ensures.ok ∙ ap (λ t. c.loop-sym.lists ++ t ∷ []) c.in-Some.trees-is);
    }

pub returns-clause-lists : goal.returns-clause-lists
returns-clause-lists g c =
    let parts = c.args.parts.now in
    all_listed parts c.loop-sym.sym c.loop-sym.lists
    (subst (λ rs. Listing parts c.loop-sym.sym rs c.loop-sym.lists)
    (ap (drop c.loop-sym.sym) (sym c.as_slice-info-items.ensures) ∙
    drop_of_length-le c.as_slice-info-items.result.now c.loop-sym-test.false) c.loop-sym.invariant.listing)
