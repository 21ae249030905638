-- Whether each left side has a root.
use Rattle.std.proofs.Common.{◌≡◌, Bool, List, ap, false, not, refl, sym, true}
use Rattle.std.specs.Prelude.{◌↔◌, All}
use Rattle.std.specs.List.{list_all}
use Rattle.std.proofs.lemmas.List.Elements.{All-weaker}
use Rattle.std.proofs.lemmas.List.Sums.{AllPass-from_list_all, list_all-from_AllPass}
use Rattle.rx_pairs.specs.Pairs.{HasRoot}
use Rattle.rx_term.specs.declared.rule.Rule.{Rule}
use Rattle.rx_goal_words.specs.PairTexts.{has_root}

-- two tests that hold together are the same
same_test : (b c : Bool) → (b ≡ true → c ≡ true) → (c ≡ true → b ≡ true) → b ≡ c
same_test true c to from = sym (to refl)
same_test false true to from = from refl
same_test false false to from = refl

from_not : (b : Bool) → not b ≡ true → b ≡ false
from_not true is = sym is
from_not false is = refl

-- an answer that says so of all is the test of all
pub all_have_roots : (answer : Bool) (rules : List Rule) → (answer ≡ true ↔ All HasRoot rules) →
    answer ≡ list_all has_root rules
all_have_roots answer rules says =
    same_test answer (list_all has_root rules)
    (λ is. list_all-from_AllPass has_root rules
    (All-weaker HasRoot (λ rule. has_root rule ≡ true) (λ rule has. ap not has) rules (says.0 is)))
    (λ is. says.1 (All-weaker (λ rule. has_root rule ≡ true) HasRoot
    (λ rule has. from_not _ has) rules (AllPass-from_list_all has_root rules is)))
