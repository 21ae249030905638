-- The text of a term in three parts: its frames, what is under them all, and what closes them.
use Rattle.std.specs.Prelude.{ℕ, List, [], ◌++◌, codes}
use Rattle.rx_term.specs.declared.term.Term.{Term, Term-F, fold-Term}
use Rattle.rx_term.specs.declared.term.Term.TheVariants as made
use Rattle.rx_term_words.specs.Terms.{applied_text}

-- the frames
abbrev pub opening_level : Term-F (List ℕ) → List ℕ
opening_level (Term-F.Return p) = []
opening_level (Term-F.Fail c) = []
opening_level (Term-F.Call f ps) = []
opening_level (Term-F.Frame f ps inner) = applied_text f ps ++ (codes ";" ++ inner)

abbrev pub opening_text : Term → List ℕ
opening_text = fold-Term (List ℕ) opening_level

-- the call or result under all frames
abbrev pub innermost_level : Term-F Term → Term
innermost_level (Term-F.Return p) = made.Return p
innermost_level (Term-F.Fail c) = made.Fail c
innermost_level (Term-F.Call f ps) = made.Call f ps
innermost_level (Term-F.Frame f ps inner) = inner

abbrev pub innermost_of : Term → Term
innermost_of = fold-Term Term innermost_level

-- what closes the frames
abbrev pub closing_level : Term-F (List ℕ) → List ℕ
closing_level (Term-F.Return p) = []
closing_level (Term-F.Fail c) = []
closing_level (Term-F.Call f ps) = []
closing_level (Term-F.Frame f ps inner) = codes ")" ++ inner

abbrev pub closing_text : Term → List ℕ
closing_text = fold-Term (List ℕ) closing_level
