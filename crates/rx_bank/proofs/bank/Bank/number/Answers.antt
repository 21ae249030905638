-- A look-up finds the polynomial where it is one of them; otherwise it is added last.
use Rattle.std.proofs.Common.{◌≡◌, ◌∙◌, ap, sym, subst, Some, Contains, List, slice_get}
use Rattle.std.specs.List.{list_any}
use Rattle.rx_poly.specs.declared.body.Body.{Body}
use Rattle.rx_poly.proofs.Same.{body_eq}
use Rattle.rx_bank.specs.Numbers.{KeepsNumbers}
use Rattle.rx_bank.proofs.Numbering.{found_among, found_at, keeps_inserted, stored_at}
use Rattle.rx_bank.proofs.bank.Bank.number.Goals as goal

pub returns-in-Some-clause-number : goal.returns-in-Some-clause-number
returns-in-Some-clause-number c =
    subst (λ (ps : List Body). slice_get ps c.in-Some.at ≡ Some c.args.poly.now) c.self.view_is
    (found_at c.args.poly.now c.self.inside.polys.keys c.in-Some.at (sym c.in-Some.ensures.index))

pub returns-in-Some-clause-new : goal.returns-in-Some-clause-new
returns-in-Some-clause-new c = λ none. absurd (none
    (subst (λ (ps : List Body). Contains ps c.args.poly.now) c.self.view_is
    (found_among c.args.poly.now c.self.inside.polys.keys c.in-Some.at
    (sym c.in-Some.ensures.index))))

pub returns-clause-number : goal.returns-clause-number
returns-clause-number c =
    let s = c.in_ok-at.ensures.stored in
    let same = ap (λ (q : Body). body_eq q s.0) (sym c.in_ok-copy.ensures) ∙ s.2 in
    stored_at c.args.poly.now c.insert_full.new.self.keys c.in_ok-at.at s.0 s.1 same

pub returns-clause-stay : goal.returns-clause-stay
returns-clause-stay c =
    let inside = c.self.inside.polys.keys in
    let kept = keeps_inserted (list_any (body_eq c.in_ok-copy.copy) inside) inside c.in_ok-copy.copy
    in
    subst (λ (ps : List Body). KeepsNumbers ps c.insert_full.new.self.keys) c.self.view_is
    (subst (KeepsNumbers inside) (sym c.in_ok-at.ensures.keys) kept)
