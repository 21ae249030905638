-- The column is that of the fits, and the pairs that fall by it are closed.
use Rattle.std.proofs.Common.{◌≡◌, ◌∙◌, ◌++◌, ◌∷◌, [], ap, length, subst, sym, List, Option, Some}
use Rattle.std.specs.Option.{IfSome, option_map}
use Rattle.rx_pairs.specs.declared.pair.Pair.{Pair}
use Rattle.rx_rank.specs.Answers.{still_open}
use Rattle.rx_solve.specs.Attempts.{Tried}
use Rattle.rx_find_ranks.proofs.FallLaws.{fits_grown, pairs_left}
use Rattle.rx_find_ranks.specs.Closing.{close_all, fallen, fitted, left_open}
use Rattle.rx_find_ranks.specs.Fits.{AreFits}
use Rattle.rx_find_ranks.specs.Tables.{pairs_open}
use Rattle.rx_find_ranks.specs.declared.column.FoundColumn.TheVariants.{Polynomials}
use Rattle.rx_find_ranks.specs.declared.fits.Fits.{Fits}
use Rattle.rx_find_ranks.specs.declared.open_pair.OpenPair.{OpenPair}
use Rattle.rx_find_ranks.proofs.polynomials.add_polynomials.Goals as goal

pub returns-clause-tried : goal.returns-clause-tried
returns-clause-tried g c =
    let fits = c.in-Some.fits in
    let before = c.args.progress in
    let is : c.in_ok-tried.tried.made ≡ Some fits = c.in-Some.is in
    let are = subst (λ o. IfSome o (AreFits c.args.problem.now.rules.now.symbols before.entries.items)) is
    c.in_ok-tried.ensures.fits in
    let view : Fits → List Pair = λ f. still_open (pairs_open f.entries.items) f.falls.items in
    let shown : Option (List Pair) → Tried (List Pair) = λ o.
    record { made = o; noted = c.in_ok-tried.tried.noted } in
    let staying = c.in_ok-after.ensures.staying ∙
    ap (λ (f : Fits). left_open (fitted f.entries.items f.holds.items f.falls.items))
    c.in-Some.fits-is in
    ap (λ ps. shown (Some ps)) (ap pairs_open staying ∙
    pairs_left fits.column.items fits.entries.items fits.holds.items fits.falls.items are.holds
    are.falls)
    ∙ sym (ap (λ o. shown (option_map view o)) is) ∙ c.in_ok-tried.ensures.tried

pub returns-clause-grown : goal.returns-clause-grown
returns-clause-grown g c =
    let fits = c.in-Some.fits in
    let before = c.args.progress in
    let after = c.in_ok-after.after in
    let is : c.in_ok-tried.tried.made ≡ Some fits = c.in-Some.is in
    let are = subst (λ o. IfSome o (AreFits c.args.problem.now.rules.now.symbols before.entries.items)) is
    c.in_ok-tried.ensures.fits in
    let moved : Fits → List OpenPair = λ f. fallen
    (fitted f.entries.items f.holds.items f.falls.items) in
    fits_grown c.args.problem.now.rules.now.symbols before after fits are
    (c.in_ok-after.ensures.columns
    ∙ ap (λ (f : Fits). before.columns.items ++ Polynomials f.column ∷ []) c.in-Some.fits-is)
    (c.in_ok-after.ensures.staying ∙ ap (λ (f : Fits).
    left_open (fitted f.entries.items f.holds.items f.falls.items)) c.in-Some.fits-is)
    (c.in_ok-after.ensures.leaving
    ∙ ap (λ f. close_all (length after.columns.items) before.closed.items (moved f))
    c.in-Some.fits-is)
