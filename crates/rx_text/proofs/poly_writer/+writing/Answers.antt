-- Nothing is left, so what is written is the text of all.
use Rattle.std.proofs.Common.{◌∙◌, ◌++◌, ◌∷◌, ap, sym}
use Rattle.std.proofs.lemmas.List.{append_assoc}
use Rattle.std.specs.List.{flat_map}
use Rattle.rx_poly.proofs.VariableLaws.{listed_end}
use Rattle.rx_text.specs.Polynomials.{atom_text, text_of_term}
use Rattle.rx_text.proofs.PolyTexts.{mono_text_is, poly_text_is, text_of_terms}
use Rattle.rx_text.proofs.poly_writer.+writing.Goals as goal

pub push_mono-returns : goal.push_mono-returns
push_mono-returns t c =
    let items = c.as_slice-atom-items in
    let before = c.args.out.now.items in
    listed_end (λ x. 42 ∷ atom_text x) items.result.now c.loop-atom.atom-index c.loop-atom.out.items
    before c.loop-atom-test.false c.loop-atom.invariant
    ∙ ap (λ xs. before ++ flat_map (λ x. 42 ∷ atom_text x) xs) items.ensures
    ∙ ap (λ text. before ++ text) (sym (mono_text_is c.args.mono.now))

pub push_sum-returns : goal.push_sum-returns
push_sum-returns t c =
    let before = c.args.out.now.items in
    let rest = flat_map (λ u. 43 ∷ text_of_term u) c.in-Some.more.now in
    listed_end (λ u. 43 ∷ text_of_term u) c.in-Some.more.now c.loop-term.term-index
    c.loop-term.out.items c.push_term.new.out.items c.loop-term-test.false c.loop-term.invariant
    ∙ ap (λ text. text ++ rest) c.in_ok-push_term.ensures
    ∙ append_assoc before (text_of_term c.in-Some.first.now) rest
    ∙ ap (λ ts. before ++ text_of_terms ts) (sym c.in-Some.ensures.cases.0 ∙ c.as_slice.ensures)
    ∙ ap (λ text. before ++ text) (sym (poly_text_is c.args.sum.now))
