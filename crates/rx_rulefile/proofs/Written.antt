-- The text of a rule set with an equation is that of its parts, one after the other.
use Rattle.std.proofs.Common.{◌≡◌, ◌∙◌, ap, sym, ℕ, List, [], ◌∷◌, ◌++◌, codes, map, append_assoc}
use Rattle.std.proofs.lemmas.Grind.{flat_map-append}
use Rattle.std.proofs.lemmas.List.{append-nil, map-append}
use Rattle.rx_term.specs.declared.rule.Equation.{Equation}
use Rattle.rx_term.specs.declared.rule_set.RuleParts.{RuleParts}
use Rattle.rx_text.specs.Numbers.{natural_text}
use Rattle.rx_lines.specs.Texts.{ended}
use Rattle.rx_rulefile.specs.RuleLines.{lines}
use Rattle.rx_rulefile.specs.RuleTexts.{numbered, rule_lines}
use Rattle.rx_rulefile.specs.declared.rule_line.RuleLine.{RuleLine}
use Rattle.rx_rulefile.specs.declared.rule_line.RuleLine.TheVariants as line

-- the text of lines
abbrev pub text_of : List RuleLine → List ℕ
text_of its = ended (map lines.text its)

-- the text of two lists of lines
lines_written : (xs ys : List RuleLine) → text_of (xs ++ ys) ≡ text_of xs ++ text_of ys
lines_written xs ys =
    ap ended (map-append lines.text xs ys)
    ∙ flat_map-append (λ text. text ++ 10 ∷ []) (map lines.text xs) (map lines.text ys)

-- the text of a rule set and an equation
pub rules_written : (parts : RuleParts) (goal : Equation) →
    ((text_of (line.Header ∷ line.Fails parts.fails ∷ []) ++ text_of (numbered 0 parts.symbols))
    ++ text_of (map line.Rule parts.rules)) ++ text_of (line.Equation goal ∷ line.End ∷ []) ≡
    text_of (rule_lines parts goal)
rules_written parts goal =
    let a : List RuleLine = line.Header ∷ line.Fails parts.fails ∷ [] in
    let s : List RuleLine = numbered 0 parts.symbols in
    let r : List RuleLine = map line.Rule parts.rules in
    let e : List RuleLine = line.Equation goal ∷ line.End ∷ [] in
    ap (λ (text : List ℕ). text ++ text_of e)
    (append_assoc (text_of a) (text_of s) (text_of r)
    ∙ ap (λ (text : List ℕ). text_of a ++ text) (sym (lines_written s r))
    ∙ sym (lines_written a (s ++ r)))
    ∙ sym (lines_written (a ++ (s ++ r)) e)

-- the text of the first two lines
pub head_written : (out a b c : List ℕ) (fails : ℕ) → a ≡ out ++ codes "ctrl-rules 1\nfails " → b ≡
    a ++ natural_text fails → c ≡ b ++ codes "\n" → c ≡ out ++
    text_of (line.Header ∷ line.Fails fails ∷ [])
head_written out a b c fails e f g =
    g ∙ ap (λ (t : List ℕ). t ++ codes "\n")
    (f ∙ ap (λ (t : List ℕ). t ++ natural_text fails) e) ∙ simp (append_assoc, append-nil)
