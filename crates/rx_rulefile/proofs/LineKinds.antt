-- Each kind of line by the word that it begins with, and that a line is given by its text.
use Rattle.std.proofs.Common.{◌≡◌, ◌∙◌, refl, sym, ap, subst, ℕ, eqb, Bool, true, false, ◌&&◌, Option, Some, None, List, [], ◌∷◌, ◌++◌, codes, drop}
use Rattle.std.specs.Option.{option_map}
use Rattle.rx_term.specs.declared.rule.Equation.{Equation}
use Rattle.rx_text.specs.Formats.{Format, IsUnambiguous, Reads}
use Rattle.rx_words.specs.Words.{words}
use Rattle.rx_term_words.specs.Equations.{equations}
use Rattle.rx_term_words.proofs.EquationLaws.{equations_once}
use Rattle.rx_lines.specs.Texts.{IsText, ReadsAll, up_to_end}
use Rattle.rx_lines.proofs.LineEnds.{all_read, whole_once}
use Rattle.rx_rulefile.specs.SymbolParts.{symbols}
use Rattle.rx_rulefile.specs.RuleLines.{equation_of, fail_codes, is_readable_line, line_text, lines}
use Rattle.rx_rulefile.specs.declared.kinds.Kind.{Kind}
use Rattle.rx_rulefile.specs.declared.rule_line.RuleLine.{RuleLine}
use Rattle.rx_rulefile.specs.declared.rule_line.RuleLine.TheVariants as line
use Rattle.rx_rulefile.proofs.KindWords.{fail_codes_once, symbols_once}

-- whether a text begins with another
abbrev pub starts : List ℕ → List ℕ → Bool
starts [] text = true
starts (byte ∷ bytes) [] = false
starts (byte ∷ bytes) (first ∷ text) = eqb first byte && starts bytes text

-- a kind of line: all that have this beginning are made from parts of that format
pub record IsKind {P : Type 0} (beginning : List ℕ) (format : Format P) (make : P → RuleLine) :
    Type 0
  where
    pub text : (parts : P) → line_text (make parts) ≡ beginning ++ format.text parts
    pub in_range : (parts : P) → is_readable_line (make parts) ≡ format.in_range parts
    pub only : (rest : List ℕ) (x : RuleLine) → beginning ++ rest ≡ line_text x → (parts : P) ×
        ((x ≡ make parts) × (rest ≡ format.text parts))

-- the line is read where what comes after its beginning is
pub kind_reads : {P : Type 0} {beginning : List ℕ} {format : Format P} {make : P → RuleLine} →
    IsKind beginning format make → (text rest : List ℕ) → text ≡ beginning ++ rest →
    (found : Option P) → ReadsAll format rest found → ReadsAll lines text (option_map make found)
kind_reads {P} {beginning} {format} {make} kind text rest e (Some parts) t = record {
  in_range = kind.in_range parts ∙ t.in_range;
  text = e ∙ ap (λ (r : List ℕ). beginning ++ r) t.text ∙ sym (kind.text parts);
}
kind_reads {P} {beginning} {format} {make} kind text rest e None never = λ x t.
    let o = kind.only rest x (sym e ∙ t.text) in
    never o.0 (record {
      in_range = sym (kind.in_range o.0) ∙ ap is_readable_line (sym o.1.0) ∙ t.in_range;
      text = o.1.1;
    })

-- the line is read where what comes after its beginning is, up to the end
pub kind_ends : {P : Type 0} {beginning : List ℕ} {text : P → List ℕ} {in_range : P → Bool}
    {make : P → RuleLine} → IsKind beginning (words text in_range) make →
    IsUnambiguous (words text in_range) → (line : List ℕ) (at : ℕ) → line ≡ beginning ++ drop at line →
    (found : Option (P × ℕ)) → Reads (words text in_range) line at found → (r : Option P) → r ≡
    up_to_end line found → ReadsAll lines line (option_map make r)
kind_ends {P} {beginning} {text} {in_range} {make} kind once line at e found reads r is =
    subst (λ (x : Option P). ReadsAll lines line (option_map make x)) (sym is)
    (kind_reads kind line (drop at line) e (up_to_end line found)
    (all_read text in_range once line at found reads))

-- a line of a kind is the only one with its text
kind_once : {P : Type 0} {beginning : List ℕ} {text : P → List ℕ} {in_range : P → Bool}
    {make : P → RuleLine} → IsKind beginning (words text in_range) make →
    IsUnambiguous (words text in_range) → (bytes : List ℕ) (parts : P) (y : RuleLine) →
    IsText lines bytes (make parts) → IsText lines bytes y → make parts ≡ y
kind_once {P} {beginning} {text} {in_range} {make} kind once bytes parts y t u =
    let o = kind.only (text parts) y (sym (kind.text parts) ∙ sym t.text ∙ u.text) in
    let r : in_range parts ≡ true = sym (kind.in_range parts) ∙ t.in_range in
    let s : in_range o.0 ≡ true = sym (kind.in_range o.0) ∙ ap is_readable_line (sym o.1.0) ∙
    u.in_range in
    let same : parts ≡ o.0 =
    whole_once text in_range once (text parts) parts o.0 (record { in_range = r; text = refl })
    (record { in_range = s; text = o.1.1 }) in
    ap make same ∙ sym o.1.0

-- ---- kinds

only_fails : (rest : List ℕ) (x : RuleLine) → codes "fails " ++ rest ≡ line_text x → (parts : ℕ) ×
    ((x ≡ line.Fails parts) × (rest ≡ fail_codes.text parts))
only_fails rest (line.Fails fails) e = (fails, (refl, ap (drop 6) e))
only_fails rest x e = absurd (let f : true ≡ false = ap (starts (codes "f")) e in cc)

pub fails_kind : IsKind (codes "fails ") fail_codes line.Fails
fails_kind = record { text = λ parts. refl; in_range = λ parts. refl; only = only_fails }

abbrev pub symbol_of : ℕ × (ℕ × Kind) → RuleLine
symbol_of p =
    line.Symbol p.0 (record {
      arity = p.1.0;
      frame = p.1.1.frame;
      entry = p.1.1.entry;
      head = p.1.1.head;
    })

only_symbol : (rest : List ℕ) (x : RuleLine) → codes "symbol s" ++ rest ≡ line_text x →
    (parts : ℕ × (ℕ × Kind)) × ((x ≡ symbol_of parts) × (rest ≡ symbols.text parts))
only_symbol rest (line.Symbol number s) e = (
  (number, (s.arity, record { frame = s.frame; entry = s.entry; head = s.head })),
  (refl, ap (drop 8) e),
)
only_symbol rest x e = absurd (let f : true ≡ false = ap (starts (codes "s")) e in cc)

pub symbol_kind : IsKind (codes "symbol s") symbols symbol_of
symbol_kind = record { text = λ parts. refl; in_range = λ parts. refl; only = only_symbol }

abbrev pub rule_of : Equation → RuleLine
rule_of e = line.Rule (record { left = e.left; right = e.right; rows = e.rows })

only_rule : (rest : List ℕ) (x : RuleLine) → codes "rule " ++ rest ≡ line_text x →
    (parts : Equation) × ((x ≡ rule_of parts) × (rest ≡ equations.text parts))
only_rule rest (line.Rule rule) e = (equation_of rule, (refl, ap (drop 5) e))
only_rule rest x e = absurd (let f : true ≡ false = ap (starts (codes "r")) e in cc)

pub rule_kind : IsKind (codes "rule ") equations rule_of
rule_kind = record { text = λ parts. refl; in_range = λ parts. refl; only = only_rule }

only_goal : (rest : List ℕ) (x : RuleLine) → codes "equation " ++ rest ≡ line_text x →
    (parts : Equation) × ((x ≡ line.Equation parts) × (rest ≡ equations.text parts))
only_goal rest (line.Equation equation) e = (equation, (refl, ap (drop 9) e))
only_goal rest x e = absurd (let f : true ≡ false = ap (starts (codes "e")) e in cc)

pub goal_kind : IsKind (codes "equation ") equations line.Equation
goal_kind = record { text = λ parts. refl; in_range = λ parts. refl; only = only_goal }

-- ---- a line is given by its text

only_header : (y : RuleLine) → codes "ctrl-rules 1" ≡ line_text y → line.Header ≡ y
only_header line.Header e = refl
only_header y e = absurd (let f : true ≡ false = ap (starts (codes "c")) e in cc)

only_end : (y : RuleLine) → codes "END" ≡ line_text y → line.End ≡ y
only_end line.End e = refl
only_end y e = absurd (let f : true ≡ false = ap (starts (codes "E")) e in cc)

pub lines_one : (bytes : List ℕ) (x y : RuleLine) → IsText lines bytes x → IsText lines bytes y →
    x ≡ y
lines_one bytes line.Header y t u = only_header y (sym t.text ∙ u.text)
lines_one bytes (line.Fails fails) y t u = kind_once fails_kind fail_codes_once bytes fails y t u
lines_one bytes (line.Symbol number s) y t u =
    kind_once symbol_kind symbols_once bytes
    (number, (s.arity, record { frame = s.frame; entry = s.entry; head = s.head })) y t u
lines_one bytes (line.Rule rule) y t u =
    kind_once rule_kind equations_once bytes (equation_of rule) y t u
lines_one bytes (line.Equation equation) y t u =
    kind_once goal_kind equations_once bytes equation y t u
lines_one bytes line.End y t u = only_end y (sym t.text ∙ u.text)
