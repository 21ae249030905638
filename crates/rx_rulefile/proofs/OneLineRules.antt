-- The text of each line of a rule text has no line feed in it.
use Rattle.std.proofs.Common.{◌≡◌, ◌∙◌, ap, refl, ℕ, Bool, true, false, List, [], ◌∷◌, ◌++◌, flat_map, codes}
use Rattle.rx_poly.specs.declared.body.Body.{Body}
use Rattle.rx_term.specs.declared.term.Sym.{Sym}
use Rattle.rx_term.specs.declared.term.Term.{Term}
use Rattle.rx_term.specs.declared.term.Term.TheFolds.{fold_out-Term}
use Rattle.rx_term.specs.declared.term.Term.TheVariants.{Return, Fail, Call, Frame, outs-Return, outs-Fail, outs-Call, outs-Frame}
use Rattle.rx_term.proofs.Equations.{induct}
use Rattle.rx_text.specs.Numbers.{natural_text}
use Rattle.rx_text.specs.Polynomials.{poly_text}
use Rattle.rx_text.specs.Rows.{row_format}
use Rattle.rx_words.specs.Substitutions.{row_lists}
use Rattle.rx_words.specs.Words.{word}
use Rattle.rx_term_words.specs.Equations.{equations}
use Rattle.rx_term_words.specs.Terms.{applied_text, polys_text, term_text, term_text_level}
use Rattle.rx_lines.specs.Texts.{is_one_line}
use Rattle.rx_lines.proofs.OneLine.{AreOneLine, joined, list_one_line, natural_one_line, spaced_one_line, spread}
use Rattle.rx_lines.proofs.OneLinePolys.{poly_one_line, row_one_line}
use Rattle.rx_rulefile.specs.RuleLines.{equation_of, kind_text, line_text}
use Rattle.rx_rulefile.specs.declared.rule_line.RuleLine.TheVariants as line

-- ---- terms

polys_one_line : AreOneLine polys_text
polys_one_line [] = refl
polys_one_line (p ∷ ps) =
    joined (poly_text p) (flat_map (λ q. 44 ∷ poly_text q) ps) (poly_one_line p)
    (spread (λ q. 44 ∷ poly_text q) poly_one_line ps)

applied_one_line : (f : Sym) (ps : List Body) → is_one_line (applied_text f ps) ≡ true
applied_one_line f ps =
    joined (natural_text f.0) (40 ∷ polys_text ps) (natural_one_line f.0) (polys_one_line ps)

abbrev OneTerm : Term → Type 0
OneTerm t = is_one_line (term_text t) ≡ true

text_Return : (p : Body) → term_text (Return p) ≡ codes "ret(" ++ (poly_text p ++ codes ")")
text_Return p = fold_out-Term (List ℕ) term_text_level (Return p) ∙ rw (outs-Return p) refl

text_Fail : (c : ℕ) → term_text (Fail c) ≡ codes "fail(" ++ (natural_text c ++ codes ")")
text_Fail c = fold_out-Term (List ℕ) term_text_level (Fail c) ∙ rw (outs-Fail c) refl

text_Call : (f : Sym) (ps : List Body) → term_text (Call f ps) ≡ applied_text f ps ++ codes ")"
text_Call f ps = fold_out-Term (List ℕ) term_text_level (Call f ps) ∙ rw (outs-Call f ps) refl

text_Frame : (f : Sym) (ps : List Body) (t : Term)
    → term_text (Frame f ps t) ≡ applied_text f ps ++ (codes ";" ++ (term_text t ++ codes ")"))
text_Frame f ps t =
    fold_out-Term (List ℕ) term_text_level (Frame f ps t) ∙ rw (outs-Frame f ps t) refl

return_one_line : (p : Body) → OneTerm (Return p)
return_one_line p =
    ap is_one_line (text_Return p) ∙ joined (poly_text p) (codes ")") (poly_one_line p) refl

fail_one_line : (c : ℕ) → OneTerm (Fail c)
fail_one_line c =
    ap is_one_line (text_Fail c) ∙ joined (natural_text c) (codes ")") (natural_one_line c) refl

call_one_line : (f : Sym) (ps : List Body) → OneTerm (Call f ps)
call_one_line f ps =
    ap is_one_line (text_Call f ps)
    ∙ joined (applied_text f ps) (codes ")") (applied_one_line f ps) refl

frame_one_line : (f : Sym) (ps : List Body) (t : Term) → OneTerm t → OneTerm (Frame f ps t)
frame_one_line f ps t one =
    ap is_one_line (text_Frame f ps t)
    ∙ joined (applied_text f ps) (59 ∷ (term_text t ++ 41 ∷ [])) (applied_one_line f ps)
    (joined (term_text t) (41 ∷ []) one refl)

pub term_one_line : AreOneLine term_text
term_one_line = induct OneTerm return_one_line fail_one_line call_one_line frame_one_line

-- ---- lists of rows, equations, substitutions

pub row_list_one_line : AreOneLine row_lists.text
row_list_one_line = list_one_line (word row_format) row_one_line

pub equation_one_line : AreOneLine equations.text
equation_one_line e =
    spaced_one_line (term_text e.left) (term_text e.right ++ 32 ∷ row_lists.text e.rows)
    (term_one_line e.left)
    (spaced_one_line (term_text e.right) (row_lists.text e.rows) (term_one_line e.right)
    (row_list_one_line e.rows))

-- ---- lines

kind_one_line : (frame entry head : Bool) → is_one_line (kind_text frame entry head) ≡ true
kind_one_line true entry head = refl
kind_one_line false true true = refl
kind_one_line false true false = refl
kind_one_line false false true = refl
kind_one_line false false false = refl

pub line_one_line : AreOneLine line_text
line_one_line line.Header = refl
line_one_line (line.Fails fails) = natural_one_line fails
line_one_line (line.Symbol number s) =
    spaced_one_line (natural_text number)
    (natural_text s.arity ++ 32 ∷ kind_text s.frame s.entry s.head) (natural_one_line number)
    (spaced_one_line (natural_text s.arity) (kind_text s.frame s.entry s.head)
    (natural_one_line s.arity) (kind_one_line s.frame s.entry s.head))
line_one_line (line.Rule rule) = equation_one_line (equation_of rule)
line_one_line (line.Equation equation) = equation_one_line equation
line_one_line line.End = refl
