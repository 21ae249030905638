-- Polynomials that occur repeatedly in an equation, and variables in place of them.
use Rattle.std.specs.Prelude.{ℕ, ◌+◌, ◌==◌, nat_le, Bool, not, ◌&&◌, if◌then◌else◌, List, [], ◌∷◌, ◌++◌, filter, length, map}
use Rattle.std.specs.List.{enumerate_from, find, fold, list_any}
use Rattle.std.specs.Option.{is_none, option_map_or}
use Rattle.rx_poly.specs.Constants.{variable}
use Rattle.rx_poly.specs.contracts.body.BodyPartialEq.TheImpl as body_equal
use Rattle.rx_poly.specs.declared.body.Body.{Body}
use Rattle.rx_term.specs.declared.rule.Equation.{Equation}
use Rattle.rx_term.specs.declared.term.Term.{Term, Term-F, fold-Term}
use Rattle.rx_term.specs.declared.term.Term.TheVariants as made
use Rattle.rx_lemma.specs.Calls.{lone_variable}
use Rattle.rx_lemma.specs.declared.repeated.Occurrence.{Occurrence}

-- ---- polynomials at places

-- the polynomials of a symbol, the first at that place
abbrev pub occurrences_from : ℕ → ℕ → List Body → List Occurrence
occurrences_from f place [] = []
occurrences_from f place (p ∷ ps) =
    record { symbol = f; place = place; poly = p } ∷ occurrences_from f (place + 1) ps

-- those of the frames from outside in, and then of the call
abbrev pub occurrences_level : Term-F (List Occurrence) → List Occurrence
occurrences_level (Term-F.Return p) = []
occurrences_level (Term-F.Fail c) = []
occurrences_level (Term-F.Call f ps) = occurrences_from f.0 0 ps
occurrences_level (Term-F.Frame f ps inner) = occurrences_from f.0 0 ps ++ inner

abbrev pub occurrences_in : Term → List Occurrence
occurrences_in = fold-Term (List Occurrence) occurrences_level

-- the left side first
abbrev pub occurrences : Equation → List Occurrence
occurrences goal = occurrences_in goal.left ++ occurrences_in goal.right

-- ---- which occur repeatedly

abbrev pub is_same_poly : Body → Body → Bool
is_same_poly p q = (body_equal.ghosts).eq p q

-- one polynomial at one place of one symbol
unfoldable pub is_same_occurrence : Occurrence → Occurrence → Bool
is_same_occurrence s t = s.symbol == t.symbol && s.place == t.place && is_same_poly s.poly t.poly

-- no variable alone, and twice or more at one place of one symbol
unfoldable pub is_repeated : List Occurrence → Occurrence → Bool
is_repeated all s =
    is_none (lone_variable s.poly) && nat_le 2 (length (filter (is_same_occurrence s) all))

-- it is that polynomial, and it is so
unfoldable pub is_taken_by : List Occurrence → Body → Occurrence → Bool
is_taken_by all p s = is_same_poly s.poly p && is_repeated all s

-- the polynomial is so somewhere
abbrev pub is_taken : List Occurrence → Body → Bool
is_taken all p = list_any (is_taken_by all p) all

-- one more that is so, unless it is there
unfoldable pub with_taken : List Occurrence → List Body → Occurrence → List Body
with_taken all done s =
    if not (list_any (λ p. is_same_poly p s.poly) done) && is_taken all s.poly then done ++ s.poly ∷
    [] else done

-- those that are so, each once, in order
abbrev pub taken_of : List Occurrence → List Body
taken_of all = fold (with_taken all) [] all

-- by their first place in the goal
abbrev pub repeated : Equation → List Body
repeated goal = taken_of (occurrences goal)

-- ---- variables in place of polynomials

-- the variable in place of the polynomial, or the polynomial
unfoldable pub replaced_by : List (ℕ × Body) → Body → Body
replaced_by ws p =
    option_map_or (λ (w : ℕ × Body). variable w.0) (find (λ (w : ℕ × Body). is_same_poly w.1 p) ws)
    p

-- as whole arguments of frames and of the call, not inside polynomials and not in results
abbrev pub replaced_level : List (ℕ × Body) → Term-F Term → Term
replaced_level ws (Term-F.Return p) = made.Return p
replaced_level ws (Term-F.Fail c) = made.Fail c
replaced_level ws (Term-F.Call f ps) = made.Call f (map (replaced_by ws) ps)
replaced_level ws (Term-F.Frame f ps inner) = made.Frame f (map (replaced_by ws) ps) inner

abbrev pub replaced_in : List (ℕ × Body) → Term → Term
replaced_in ws = fold-Term Term (replaced_level ws)

-- new variables from that number on, one for each of the polynomials
abbrev pub new_variables : ℕ → List Body → List (ℕ × Body)
new_variables from ps = enumerate_from from ps
