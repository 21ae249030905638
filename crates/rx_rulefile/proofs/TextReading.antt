-- A rule text read line by line: what was gathered, the first bad line, and the end.
use Rattle.std.proofs.Common.{◌≡◌, ◌∙◌, ap, refl, sym, subst, ℕ, suc, ◌+◌, ◌≤◌, true, Option, Some, None, List, [], ◌∷◌, ◌++◌, map, length, length-append, arith}
use Rattle.std.proofs.lemmas.List.{append-nil}
use Rattle.std.specs.List.{list_all}
use Rattle.rx_term.specs.declared.rule.Equation.{Equation}
use Rattle.rx_lines.specs.Orders.{IsFirstBad, LeadsTo, ReadsNext}
use Rattle.rx_lines.specs.Texts.{ended, is_one_line}
use Rattle.rx_lines.proofs.Comparing.{ended-push}
use Rattle.rx_lines.proofs.OrderLaws.{bad_at, missing_at, one_taken}
use Rattle.rx_rulefile.specs.Gathering.{IsAt, blank, goal_lines, lines_to, pushed}
use Rattle.rx_rulefile.specs.Places.{rule_order}
use Rattle.rx_rulefile.specs.RuleLines.{lines}
use Rattle.rx_rulefile.specs.RuleTexts.{IsRuleText, rule_lines, set_lines}
use Rattle.rx_rulefile.specs.declared.gathered.Gathered.{Gathered}
use Rattle.rx_rulefile.specs.declared.place.Place.{Place}
use Rattle.rx_rulefile.specs.declared.place.Place.TheVariants.{AtHeader, Finished}
use Rattle.rx_rulefile.specs.declared.rule_line.RuleLine.{RuleLine}
use Rattle.rx_rulefile.specs.declared.rule_line.RuleLine.TheVariants as line
use Rattle.rx_rulefile.proofs.GatheringLaws.{keeps_domains, moves}
use Rattle.rx_rulefile.proofs.RuleOrder.{rules_in_order}

-- so many lines of the text were taken, which lead to the place; this was gathered from them, and
-- this is left of the text
pub record ReadSoFar (text left : List ℕ) (taken : ℕ) (place : Place) (it : Gathered) : Type 0 where
  pub texts : List (List ℕ)
  pub joined : text ≡ ended texts ++ left
  pub counted : taken ≡ length texts
  pub leads : LeadsTo rule_order texts place
  pub lines : leads.lines ≡ lines_to place it
  pub at : IsAt place it
  pub room : taken + length left ≤ length text
  pub no_domains : it.parts.domains ≡ []

pub none_so_far : (text : List ℕ) → ReadSoFar text text 0 AtHeader blank
none_so_far text = record {
  texts = [];
  joined = refl;
  counted = refl;
  leads = record { lines = []; in_range = refl; are = refl; arrives = refl };
  lines = refl;
  at = refl;
  no_domains = refl;
  room = omega arith;
}

-- one line more was taken
pub one_more : {text left : List ℕ} {taken : ℕ} {place : Place} {it : Gathered}
    (bytes rest : List ℕ) (read : RuleLine) (next : Place) → ReadSoFar text left taken place it →
    left ≡ bytes ++ 10 ∷ rest → ReadsNext rule_order place bytes (Some (read, next)) →
    ReadSoFar text rest (taken + 1) next (pushed read it)
one_more {text} {left} {taken} {place} {it} bytes rest read next h cut r =
    let v = moves place it read next h.at r.1 in
    let t = one_taken rule_order rules_in_order read h.leads r.0 r.1 in
    record {
      texts = h.texts ++ bytes ∷ [];
      joined =
          h.joined ∙ ap (λ (l : List ℕ). ended h.texts ++ l) cut ∙ ended-push h.texts bytes rest;
      counted = omega (arith, h.counted, length-append h.texts (bytes ∷ []));
      leads = t.0;
      lines = t.1 ∙ ap (λ (its : List RuleLine). its ++ read ∷ []) h.lines ∙ sym v.lines;
      at = v.at;
      no_domains = keeps_domains read it ∙ h.no_domains;
      room =
          omega (arith, h.room, ap length cut, length-append bytes (10 ∷ rest));
    }

numbered_so : {text other : List ℕ} {m n : ℕ} → text ≡ other → m ≡ n → IsFirstBad rule_order other n →
    IsFirstBad rule_order text m
numbered_so {text} {other} {m} {n} e f h =
    subst (λ (t : List ℕ). IsFirstBad rule_order t m) (sym e)
    (subst (IsFirstBad rule_order other) (sym f) h)

-- a line that may not come is the first bad one
pub line_bad : {text left : List ℕ} {taken : ℕ} {place : Place} {it : Gathered}
    (bytes rest : List ℕ) → ReadSoFar text left taken place it → left ≡ bytes ++ 10 ∷ rest →
    is_one_line bytes ≡ true → ReadsNext rule_order place bytes None →
    IsFirstBad rule_order text (taken + 1)
line_bad {text} {left} {taken} {place} bytes rest h cut one never =
    let number : taken + 1 ≡ suc (length h.texts) = omega (arith, h.counted) in
    numbered_so (h.joined ∙ ap (λ (l : List ℕ). ended h.texts ++ l) cut) number
    (bad_at rule_order rules_in_order h.texts place bytes rest h.leads one never)

-- where the text ends too early, the next line is
pub ends_early : {text left : List ℕ} {taken : ℕ} {place : Place} {it : Gathered} →
    ReadSoFar text left taken place it → is_one_line left ≡ true →
    (left ≡ [] → place ≡ Finished → ⊥) → IsFirstBad rule_order text (taken + 1)
ends_early {text} {left} {taken} {place} h one early =
    let number : taken + 1 ≡ suc (length h.texts) = omega (arith, h.counted) in
    numbered_so h.joined number
    (missing_at rule_order rules_in_order h.texts place left h.leads one early)

-- at the end there is an equation
pub some_goal : (it : Gathered) → IsAt Finished it → it.goal ≡ None → ⊥
some_goal it at e = let f : Some at.0 ≡ None = sym at.1 ∙ e in cc

-- the text of what was gathered
pub whole_text : {text : List ℕ} {taken : ℕ} {it : Gathered} (goal : Equation) →
    ReadSoFar text [] taken Finished it → it.goal ≡ Some goal → IsRuleText text it.parts goal
whole_text {text} {taken} {it} goal h e =
    let same : h.leads.lines ≡ rule_lines it.parts goal =
    h.lines ∙ ap (λ (goal : Option Equation).
    set_lines it.parts ++ (goal_lines goal ++ line.End ∷ [])) e in
    record {
      in_range = ap (list_all lines.in_range) (sym same) ∙ h.leads.in_range;
      no_domains = h.no_domains;
      is =
          h.joined ∙ append-nil (ended h.texts) ∙
          ap ended (sym h.leads.are ∙ ap (map lines.text) same);
    }
