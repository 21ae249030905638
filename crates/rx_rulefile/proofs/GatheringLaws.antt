-- What a line does to what was gathered up to a place, and what was gathered at the end.
use Rattle.std.proofs.Common.{◌≡◌, ◌∙◌, sym, refl, ap, subst, ℕ, ◌+◌, eqb, Bool, true, false, Option, Some, None, List, [], ◌∷◌, ◌++◌, if◌then◌else◌, map, length, append_assoc, length-append, arith}
use Rattle.std.proofs.lemmas.List.{append-nil, map-append}
use Rattle.std.proofs.lemmas.Bool.{eqb-true, eq-eqb}
use Rattle.std.specs.List.{list_all}
use Rattle.rx_term.specs.declared.rule.Equation.{Equation}
use Rattle.rx_term.specs.declared.rule.Rule.{Rule}
use Rattle.rx_term.specs.declared.rule_set.RuleParts.{RuleParts}
use Rattle.rx_term.specs.declared.rule_set.SymInfo.{SymInfo}
use Rattle.rx_lines.specs.Orders.{LeadsTo, after_all}
use Rattle.rx_lines.specs.Texts.{ended}
use Rattle.rx_lines.proofs.OrderLaws.{after_all-append}
use Rattle.rx_rulefile.specs.Gathering.{IsAt, blank, goal_lines, lines_to, pushed}
use Rattle.rx_rulefile.specs.Places.{after, after_rules, rule_order}
use Rattle.rx_rulefile.specs.RuleLines.{lines}
use Rattle.rx_rulefile.specs.RuleTexts.{IsRuleText, numbered, rule_lines, set_lines}
use Rattle.rx_rulefile.specs.declared.gathered.Gathered.{Gathered}
use Rattle.rx_rulefile.specs.declared.place.Place.{Place}
use Rattle.rx_rulefile.specs.declared.place.Place.TheVariants.{AtHeader, AtFails, InSymbols, InRules, AtEnd, Finished}
use Rattle.rx_rulefile.specs.declared.rule_line.RuleLine.{RuleLine}
use Rattle.rx_rulefile.specs.declared.rule_line.RuleLine.TheVariants as line

-- ---- one line more

-- one symbol more is one line more, with the next number
numbered-push : (k : ℕ) (xs : List SymInfo) (x : SymInfo) (n : ℕ) → n ≡ k + length xs →
    numbered k (xs ++ x ∷ []) ≡ numbered k xs ++ line.Symbol n x ∷ []
numbered-push k [] x n e = let f : n ≡ k = omega arith in cc
numbered-push k (y ∷ ys) x n e =
    let f : n ≡ (k + 1) + length ys = omega arith in
    let h = numbered-push (k + 1) ys x n f in cc

-- what was gathered up to the place, the line, and the place after it: what is gathered with the
-- line is so up to there
pub record Moves (place : Place) (it : Gathered) (read : RuleLine) (next : Place) : Type 0 where
  pub at : IsAt next (pushed read it)
  pub lines : lines_to next (pushed read it) ≡ lines_to place it ++ read ∷ []

some-injective : {A : Type 0} {x y : A} → Some x ≡ Some y → x ≡ y
some-injective e = cc

-- the same move to an equal place
moved : {place : Place} {it : Gathered} {read : RuleLine} {x y : Place} → Some x ≡ Some y →
    Moves place it read x → Moves place it read y
moved {place} {it} {read} {x} {y} e h = subst (Moves place it read) (some-injective e) h

header : (it : Gathered) → it ≡ blank → Moves AtHeader it line.Header AtFails
header it e = record { at = e; lines = refl }

fails : (it : Gathered) (code : ℕ) → it ≡ blank → Moves AtFails it (line.Fails code) (InSymbols 0)
fails it code e =
    subst (λ g. Moves AtFails g (line.Fails code) (InSymbols 0)) (sym e)
    (record { at = (refl, (refl, refl)); lines = refl })

symbol : (it : Gathered) (n : ℕ) (s : SymInfo) → IsAt (InSymbols n) it →
    Moves (InSymbols n) it (line.Symbol n s) (InSymbols (n + 1))
symbol it n s at = record {
  at = (
    let e : n + 1 ≡ length (it.parts.symbols ++ s ∷ []) =
        omega (arith, at.0, length-append it.parts.symbols (s ∷ [])) in e,
    at.1,
  );
  lines =
      let k : n ≡ 0 + length it.parts.symbols = omega (arith, at.0) in
      let none : map line.Rule it.parts.rules ≡ [] = ap (map line.Rule) at.1.0 in
      ap (λ (its : List RuleLine). line.Header ∷ line.Fails it.parts.fails ∷ its)
      (snoc_last (numbered 0 it.parts.symbols) (numbered 0 (it.parts.symbols ++ s ∷ []))
      (map line.Rule it.parts.rules) (line.Symbol n s) (numbered-push 0 it.parts.symbols s n k) none);
}
  where
    snoc_last : (c new rules : List RuleLine) (x : RuleLine) → new ≡ c ++ x ∷ [] → rules ≡ [] →
        new ++ rules ≡ (c ++ rules) ++ x ∷ []
    snoc_last c new rules x e f = rw (e, f) (simp append-nil)

rule : (place : Place) (it : Gathered) (r : Rule) → it.goal ≡ None → lines_to place it ≡
    set_lines it.parts → Moves place it (line.Rule r) InRules
rule place it r at e = record {
  at = at;
  lines =
      ap (λ (its : List RuleLine). line.Header ∷ line.Fails it.parts.fails ∷ its)
      (ap (λ (its : List RuleLine). numbered 0 it.parts.symbols ++ its)
      (map-append line.Rule it.parts.rules (r ∷ []))
      ∙ sym (append_assoc (numbered 0 it.parts.symbols) (map line.Rule it.parts.rules)
      (line.Rule r ∷ [])))
      ∙ ap (λ (its : List RuleLine). its ++ line.Rule r ∷ []) (sym e);
}

equation : (place : Place) (it : Gathered) (e : Equation) → lines_to place it ≡
    set_lines it.parts → Moves place it (line.Equation e) AtEnd
equation place it e is = record {
  at = (e, refl);
  lines = ap (λ (its : List RuleLine). its ++ line.Equation e ∷ []) (sym is);
}

last : (it : Gathered) → IsAt AtEnd it → Moves AtEnd it line.End Finished
last it at = record {
  at = at;
  lines =
      sym (append_assoc (set_lines it.parts) (goal_lines it.goal) (line.End ∷ []));
}

-- no line says anything of domains
pub keeps_domains : (read : RuleLine) (it : Gathered) → (pushed read it).parts.domains ≡
    it.parts.domains
keeps_domains line.Header it = refl
keeps_domains (line.Fails code) it = refl
keeps_domains (line.Symbol n s) it = refl
keeps_domains (line.Rule r) it = refl
keeps_domains (line.Equation e) it = refl
keeps_domains line.End it = refl

-- ---- all of them

chosen : (b : Bool) (x y : Place) → (if b then Some x else None) ≡ Some y → (b ≡ true) × (x ≡ y)
chosen true x y e = (refl, some-injective e)
chosen false x y e = absurd (cc)

symbol_next : (it : Gathered) (n m : ℕ) (s : SymInfo) (next : Place) → IsAt (InSymbols n) it →
    after (InSymbols n) (line.Symbol m s) ≡ Some next →
    Moves (InSymbols n) it (line.Symbol m s) next
symbol_next it n m s next at a =
    let c = chosen (eqb m n) (InSymbols (n + 1)) next a in
    subst (λ k. Moves (InSymbols n) it (line.Symbol k s) next) (sym (eqb-true m n c.0))
    (subst (Moves (InSymbols n) it (line.Symbol n s)) c.1 (symbol it n s at))

rules_next : (place : Place) (it : Gathered) (read : RuleLine) (next : Place) → it.goal ≡ None →
    lines_to place it ≡ set_lines it.parts → after_rules read ≡ Some next →
    Moves place it read next
rules_next place it (line.Rule r) next at e a = moved a (rule place it r at e)
rules_next place it (line.Equation q) next at e a = moved a (equation place it q e)
rules_next place it read next at e a = absurd (cc)

-- where a line may come, what is gathered with it is so up to the place after it
pub moves : (place : Place) (it : Gathered) (read : RuleLine) (next : Place) → IsAt place it →
    after place read ≡ Some next → Moves place it read next
moves AtHeader it line.Header next at a = moved a (header it at)
moves AtHeader it read next at a = absurd (cc)
moves AtFails it (line.Fails code) next at a = moved a (fails it code at)
moves AtFails it read next at a = absurd (cc)
moves (InSymbols n) it (line.Symbol m s) next at a = symbol_next it n m s next at a
moves (InSymbols n) it (line.Rule r) next at a =
    rules_next (InSymbols n) it (line.Rule r) next at.1.1 refl a
moves (InSymbols n) it (line.Equation q) next at a =
    rules_next (InSymbols n) it (line.Equation q) next at.1.1 refl a
moves (InSymbols n) it read next at a = absurd (cc)
moves InRules it read next at a = rules_next InRules it read next at refl a
moves AtEnd it line.End next at a = moved a (last it at)
moves AtEnd it read next at a = absurd (cc)
moves Finished it read next at a = absurd (cc)

-- ---- at the end

-- what was gathered at the end is a rule set with an equation, with these lines
pub record IsWhole (it : Gathered) (read : List RuleLine) : Type 0 where
  pub goal : Equation
  pub is : it.goal ≡ Some goal
  pub lines : read ≡ rule_lines it.parts goal
  pub no_domains : it.parts.domains ≡ []

pub whole_of : (it : Gathered) (read : List RuleLine) → IsAt Finished it → read ≡
    lines_to Finished it → it.parts.domains ≡ [] → IsWhole it read
whole_of it read at e none = record {
  no_domains = none;
  goal = at.0;
  is = at.1;
  lines =
      e ∙ ap (λ (goal : Option Equation). set_lines it.parts ++ (goal_lines goal ++ line.End ∷ []))
      at.1;
}

-- what lines that lead on from a place gather
pub record Gathers (read : List RuleLine) : Type 0 where
  pub it : Gathered
  pub whole : IsWhole it read

nowhere : (more : List RuleLine) → after_all after None more ≡ Some Finished → ⊥
nowhere [] e = cc
nowhere (x ∷ xs) e = cc

on_from : (place : Place) (it : Gathered) (taken more : List RuleLine) → IsAt place it → taken ≡
    lines_to place it → it.parts.domains ≡ [] →
    after_all after (Some place) more ≡ Some Finished → Gathers (taken ++ more)
on_from place it taken [] at e none a =
    let there : place ≡ Finished = some-injective a in
    record {
      it = it;
      whole =
          whole_of it (taken ++ []) (subst (λ p. IsAt p it) there at)
          (append-nil taken ∙ e ∙ ap (λ p. lines_to p it) there) none;
    }
on_from place it taken (read ∷ more) at e none a =
    by (after place read) refl (λ p g its h f n b. on_from p g its more h f n b)
  where
    by : (found : Option Place) → after place read ≡ found →
        ((p : Place) (g : Gathered) (its : List RuleLine) → IsAt p g → its ≡ lines_to p g →
        g.parts.domains ≡ [] → after_all after (Some p) more ≡ Some Finished → Gathers (its ++ more)) →
        Gathers (taken ++ read ∷ more)
    by None f rest =
        let never : after_all after None more ≡ Some Finished =
        ap (λ p. after_all after p more) (sym f) ∙ a in absurd (nowhere more never)
    by (Some next) f rest =
        let v = moves place it read next at f in
        let on : after_all after (Some next) more ≡ Some Finished =
        ap (λ p. after_all after p more) (sym f) ∙ a in
        subst Gathers (append_assoc taken (read ∷ []) more)
        (rest next (pushed read it) (taken ++ read ∷ []) v.at
        (ap (λ (its : List RuleLine). its ++ read ∷ []) e ∙ sym v.lines)
        (keeps_domains read it ∙ none) on)

-- lines that lead to the end are those of a rule set and an equation
pub gathers : (read : List RuleLine) → after_all after (Some AtHeader) read ≡ Some Finished →
    Gathers read
gathers read a = on_from AtHeader blank [] read refl refl refl a

pub whole_texts : (texts : List (List ℕ)) → LeadsTo rule_order texts Finished →
    (parts : RuleParts) × ((goal : Equation) × IsRuleText (ended texts) parts goal)
whole_texts texts h =
    let g = gathers h.lines h.arrives in
    let w = g.whole in (
      g.it.parts,
      (
        w.goal,
        record {
          in_range = ap (list_all lines.in_range) (sym w.lines) ∙ h.in_range;
          is = ap ended (sym h.are ∙ ap (map lines.text) w.lines);
          no_domains = w.no_domains;
        },
      ),
    )

-- ---- the lines of a rule set lead to the end

symbols_run : (k : ℕ) (xs : List SymInfo) → after_all after (Some (InSymbols k)) (numbered k xs) ≡
    Some (InSymbols (k + length xs))
symbols_run k [] = let e : k + 0 ≡ k = omega arith in rw e refl
symbols_run k (x ∷ xs) =
    let e : eqb k k ≡ true = eq-eqb k k refl in
    let f : (k + 1) + length xs ≡ k + length (x ∷ xs) = omega arith in
    let g : after (InSymbols k) (line.Symbol k x) ≡ Some (InSymbols (k + 1)) =
    ap (λ (b : Bool). if b then Some (InSymbols (k + 1)) else None) e in
    ap (λ (at : Option Place). after_all after at (numbered (k + 1) xs)) g ∙
    symbols_run (k + 1) xs ∙ ap (λ (n : ℕ). Some (InSymbols n)) f

later_rules : (rules : List Rule) (goal : Equation) →
    after_all after (Some InRules) (map line.Rule rules ++ (line.Equation goal ∷ line.End ∷ [])) ≡
    Some Finished
later_rules [] goal = refl
later_rules (r ∷ rs) goal = later_rules rs goal

rules_run : (n : ℕ) (rules : List Rule) (goal : Equation) →
    after_all after (Some (InSymbols n)) (map line.Rule rules ++ (line.Equation goal ∷ line.End ∷
    [])) ≡ Some Finished
rules_run n [] goal = refl
rules_run n (r ∷ rs) goal = later_rules rs goal

pub rule_lines_run : (parts : RuleParts) (goal : Equation) →
    after_all after (Some AtHeader) (rule_lines parts goal) ≡ Some Finished
rule_lines_run parts goal =
    let s : List RuleLine = numbered 0 parts.symbols in
    let r : List RuleLine = map line.Rule parts.rules in
    let e : List RuleLine = line.Equation goal ∷ line.End ∷ [] in
    ap (after_all after (Some (InSymbols 0))) (append_assoc s r e)
    ∙ after_all-append after (Some (InSymbols 0)) s (r ++ e)
    ∙ ap (λ (at : Option Place). after_all after at (r ++ e)) (symbols_run 0 parts.symbols)
    ∙ rules_run (0 + length parts.symbols) parts.rules goal

-- a rule text is that of lines that lead to the end
pub leads_to_end : {text : List ℕ} {parts : RuleParts} {goal : Equation} →
    IsRuleText text parts goal → LeadsTo rule_order (map lines.text (rule_lines parts goal)) Finished
leads_to_end {text} {parts} {goal} h = record {
  lines = rule_lines parts goal;
  in_range = h.in_range;
  are = refl;
  arrives = rule_lines_run parts goal;
}

-- ---- a rule set and an equation are given by their lines

-- what lines say, one after the other
abbrev gathered : Gathered → List RuleLine → Gathered
gathered it [] = it
gathered it (read ∷ more) = gathered (pushed read it) more

gathered-append : (it : Gathered) (xs ys : List RuleLine) → gathered it (xs ++ ys) ≡
    gathered (gathered it xs) ys
gathered-append it [] ys = refl
gathered-append it (x ∷ xs) ys = gathered-append (pushed x it) xs ys

abbrev with_symbols : Gathered → List SymInfo → Gathered
with_symbols it xs = record it { parts = record it.parts { symbols = xs } }

abbrev with_rules : Gathered → List Rule → Gathered
with_rules it xs = record it { parts = record it.parts { rules = xs } }

of_symbols : (it : Gathered) (k : ℕ) (xs : List SymInfo) → gathered it (numbered k xs) ≡
    with_symbols it (it.parts.symbols ++ xs)
of_symbols it k [] = ap (with_symbols it) (sym (append-nil it.parts.symbols))
of_symbols it k (x ∷ xs) =
    of_symbols (pushed (line.Symbol k x) it) (k + 1) xs
    ∙ ap (with_symbols it) (append_assoc it.parts.symbols (x ∷ []) xs)

of_rules : (it : Gathered) (xs : List Rule) → gathered it (map line.Rule xs) ≡
    with_rules it (it.parts.rules ++ xs)
of_rules it [] = ap (with_rules it) (sym (append-nil it.parts.rules))
of_rules it (x ∷ xs) =
    of_rules (pushed (line.Rule x) it) xs
    ∙ ap (with_rules it) (append_assoc it.parts.rules (x ∷ []) xs)

-- without domains
abbrev bare : RuleParts → RuleParts
bare parts = record parts { domains = [] }

bare_is : (parts : RuleParts) → parts.domains ≡ [] → bare parts ≡ parts
bare_is parts none = λ i. record parts { domains = sym none i }

abbrev made_of : RuleParts → Equation → Gathered
made_of parts goal = record { parts = bare parts; goal = Some goal }

of_lines : (parts : RuleParts) (goal : Equation) → gathered blank (rule_lines parts goal) ≡
    made_of parts goal
of_lines parts goal =
    let head : Gathered = pushed (line.Fails parts.fails) blank in
    let e : List RuleLine = line.Equation goal ∷ line.End ∷ [] in
    gathered-append head (numbered 0 parts.symbols ++ map line.Rule parts.rules) e
    ∙ ap (λ (it : Gathered). gathered it e)
    (gathered-append head (numbered 0 parts.symbols) (map line.Rule parts.rules)
    ∙ ap (λ (it : Gathered). gathered it (map line.Rule parts.rules))
    (of_symbols head 0 parts.symbols)
    ∙ of_rules (with_symbols head parts.symbols) parts.rules)

pub given_by_lines : (p q : RuleParts) (g h : Equation) → p.domains ≡ [] → q.domains ≡ [] →
    rule_lines p g ≡ rule_lines q h → (p ≡ q) × (g ≡ h)
given_by_lines p q g h m n e =
    let same : made_of p g ≡ made_of q h =
    sym (of_lines p g) ∙ ap (gathered blank) e ∙ of_lines q h in (
      sym (bare_is p m) ∙ ap (λ (it : Gathered). it.parts) same ∙ bare_is q n,
      some-injective (ap (λ (it : Gathered). it.goal) same),
    )
