-- The example meets what the laws ask of an order.
use Rattle.std.proofs.Common.{◌≡◌, ◌∙◌, refl, sym, ap, ℕ, true, false, Bool, eqb, List, [], ◌∷◌, codes}
use Rattle.rx_lines.specs.Example.{Closed, Entry, Item, Last, Open, Stage, entries, entry_text, items_then_last}
use Rattle.rx_lines.specs.Orders.{CanFinish, IsFirstBad, IsLineOrder, LeadsTo, MayCome}
use Rattle.rx_lines.specs.Texts.{IsText, is_one_line}
use Rattle.rx_lines.proofs.OrderLaws.{bad_at, missing_at}

abbrev starts_with : ℕ → List ℕ → Bool
starts_with first [] = false
starts_with first (byte ∷ bytes) = eqb byte first

one_reading : (bytes : List ℕ) (x y : Entry) → IsText entries bytes x → IsText entries bytes y →
    x ≡ y
one_reading bytes Item Item t u = refl
one_reading bytes Item Last t u =
    absurd (let f : true ≡ false = ap (starts_with 105) (sym t.text ∙ u.text) in cc)
one_reading bytes Last Item t u =
    absurd (let f : false ≡ true = ap (starts_with 105) (sym t.text ∙ u.text) in cc)
one_reading bytes Last Last t u = refl

finishes : (place : Stage) → CanFinish items_then_last place
finishes Open = record { lines = Last ∷ []; in_range = refl; arrives = refl }
finishes Closed = record { lines = []; in_range = refl; arrives = refl }

pub is_line_order : IsLineOrder items_then_last
is_line_order = record {
  one_reading = one_reading;
  one_line = λ line r. one_line line;
  finishes = finishes;
}
  where
    one_line : (line : Entry) → is_one_line (entry_text line) ≡ true
    one_line Item = refl
    one_line Last = refl

pub whole : LeadsTo items_then_last (entry_text Item ∷ entry_text Item ∷ entry_text Last ∷ []) Closed
whole =
    record { lines = Item ∷ Item ∷ Last ∷ []; in_range = refl; are = refl; arrives = refl }

two_items : LeadsTo items_then_last (entry_text Item ∷ entry_text Item ∷ []) Open
two_items = record { lines = Item ∷ Item ∷ []; in_range = refl; are = refl; arrives = refl }

not_closed : Open ≡ Closed → ⊥
not_closed e = cc

pub missing : IsFirstBad items_then_last (codes "item\nitem\n") 3
missing =
    missing_at items_then_last is_line_order (entry_text Item ∷ entry_text Item ∷ []) Open []
    two_items refl (λ empty. not_closed)

closed_soon : LeadsTo items_then_last (entry_text Item ∷ entry_text Last ∷ []) Closed
closed_soon = record { lines = Item ∷ Last ∷ []; in_range = refl; are = refl; arrives = refl }

nothing_after : MayCome items_then_last Closed (entry_text Item) → ⊥
nothing_after m = let f = m.leads in cc

pub bad : IsFirstBad items_then_last (codes "item\nlast\nitem\n") 3
bad =
    bad_at items_then_last is_line_order (entry_text Item ∷ entry_text Last ∷ []) Closed
    (entry_text Item) [] closed_soon refl nothing_after
