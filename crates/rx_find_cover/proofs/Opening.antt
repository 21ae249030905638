-- By which row a path is split: one row, or one rule, of a walk.
use Rattle.std.proofs.Common.{◌≡◌, ◌∙◌, ◌↔◌, ap, sym, subst, refl, cond, ℕ, ◌+◌, Bool, true, false, ◌||◌, Some, List, ◌∷◌, drop, map, slice_get}
use Rattle.std.specs.List.{find}
use Rattle.std.proofs.lemmas.Bool.{false_from_ne_true}
use Rattle.rx_row.proofs.Same.{row_eq, known_itself_row, known_same_row}
use Rattle.rx_row.specs.Membership.{stands_among}
use Rattle.rx_row.specs.Negation.{negation}
use Rattle.rx_row.specs.declared.row.Row.{Row}
use Rattle.rx_term.proofs.Places.{from_place}
use Rattle.rx_term.specs.Paired.{rules_of_shape}
use Rattle.rx_term.specs.Shapes.{Shape, same_shape, shape_of}
use Rattle.rx_term.specs.declared.rule.Rule.{Rule}
use Rattle.rx_find_cover.specs.Coverable.{is_open}

-- a test of whether the row is the negation of the other
known_negation : (b : Bool) (row other : Row) → ((b ≡ true) ↔ (row ≡ negation other)) →
    row_eq (negation other) row ≡ b
known_negation true row other tells =
    subst (λ r. row_eq (negation other) r ≡ true) (sym (tells.0 refl))
    (known_itself_row (negation other))
known_negation false row other tells =
    false_from_ne_true (row_eq (negation other) row) (λ e. let no : false ≡ true =
    tells.1 (sym (known_same_row (negation other) row e)) in cc)

-- one turn of the walk over the rows whose negation it may be
pub next_negation : (b : Bool) (rows : List Row) (row other : Row) (i : ℕ) → slice_get rows i ≡
    Some other → ((b ≡ true) ↔ (row ≡ negation other)) →
    stands_among (map negation (drop i rows)) row ≡
    (b || stands_among (map negation (drop (i + 1) rows)) row)
next_negation b rows row other i there tells =
    ap (λ rs. stands_among (map negation rs) row) (from_place rows i other there)
    ∙ ap (λ c. c || stands_among (map negation (drop (i + 1) rows)) row)
    (known_negation b row other tells)

-- one turn of the walk over rows that may be open
pub next_open : (b : Bool) (path rows : List Row) (row : Row) (i : ℕ) → slice_get rows i ≡
    Some row → b ≡ is_open path row →
    find (is_open path) (drop i rows) ≡ cond b (Some row) (find (is_open path) (drop (i + 1) rows))
next_open b path rows row i there is =
    ap (find (is_open path)) (from_place rows i row there)
    ∙ ap (λ c. cond c (Some row) (find (is_open path) (drop (i + 1) rows))) (sym is)

-- one turn of the walk over the rules: a rule of another shape is left out
pub other_shape : (shape : Shape) (rules : List Rule) (rule : Rule) (i : ℕ) → slice_get rules i ≡
    Some rule → same_shape (shape_of rule.left) shape ≡ false →
    rules_of_shape shape (drop i rules) ≡ rules_of_shape shape (drop (i + 1) rules)
other_shape shape rules rule i there is =
    ap (rules_of_shape shape) (from_place rules i rule there)
    ∙ ap (λ c. cond c (rule ∷ rules_of_shape shape (drop (i + 1) rules))
    (rules_of_shape shape (drop (i + 1) rules))) is

-- and one of the shape is next
pub this_shape : (shape : Shape) (rules : List Rule) (rule : Rule) (i : ℕ) → slice_get rules i ≡
    Some rule → same_shape (shape_of rule.left) shape ≡ true →
    rules_of_shape shape (drop i rules) ≡ rule ∷ rules_of_shape shape (drop (i + 1) rules)
this_shape shape rules rule i there is =
    ap (rules_of_shape shape) (from_place rules i rule there)
    ∙ ap (λ c. cond c (rule ∷ rules_of_shape shape (drop (i + 1) rules))
    (rules_of_shape shape (drop (i + 1) rules))) is
