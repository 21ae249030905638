-- The choices so far, with one more.
use Rattle.std.proofs.Common.{◌≡◌, ◌∙◌, ap, sym, subst, refl, ℕ, ◌+◌, ◌<◌, Option, Some, None, List, [], ◌∷◌, ◌++◌, map, length, get_or, take, All}
use Rattle.std.specs.Prelude.{option_map, option_to_list}
use Rattle.std.specs.List.{cons_option, filter_map}
use Rattle.std.proofs.lemmas.List.{append-nil, map-append, take_more}
use Rattle.std.proofs.lemmas.List.Elements.{All-append, All-cons, All-nil, filter_map-append}
use Rattle.rx_deepening.specs.Views.{seen_choice}
use Rattle.rx_deepening.specs.declared.tree.Choice.{Choice}
use Rattle.rx_rank.specs.declared.kind.RankingKind.{RankingKind}
use Rattle.rx_term.specs.declared.rule_set.RuleParts.{RuleParts}
use Rattle.rx_wider.specs.Calls.{node_of}
use Rattle.rx_wider.specs.Menu.{led}
use Rattle.rx_wider.specs.Nodes as nodes
use Rattle.rx_wider.specs.Wider.{child}
use Rattle.rx_wider.specs.declared.candidates.Candidate.{Candidate}
use Rattle.rx_wider.specs.declared.node.Node.{Node}

abbrev seen : List (Choice Node) → List (Choice nodes.Node)
seen choices = map (seen_choice node_of) choices

abbrev numbered_node : ℕ → Option nodes.Node → List (Choice nodes.Node)
numbered_node number o =
    option_to_list (option_map (λ next. record { number = number; node = next }) o)

-- ---- one choice

module _ (kind : RankingKind) (parts : RuleParts) (node : Node) (c : Candidate)
    (old : List (Choice Node)) where
  -- it leads to this node
  pub choice_added : (next : Node) (new : List (Choice Node)) →
      Some (node_of next) ≡ led kind parts (node_of node) c →
      new ≡ old ++ record { number = c.number; node = next } ∷ [] →
      seen new ≡ seen old ++ option_to_list (child kind parts (node_of node) c)
  choice_added next new is same =
      ap seen same
      ∙ map-append (seen_choice node_of) old (record { number = c.number; node = next } ∷ [])
      ∙ ap (λ o. seen old ++ numbered_node c.number o) is

  -- it doesn't apply
  pub no_choice : None ≡ led kind parts (node_of node) c →
      seen old ≡ seen old ++ option_to_list (child kind parts (node_of node) c)
  no_choice is =
      sym (append-nil (seen old)) ∙ ap (λ o. seen old ++ numbered_node c.number o) is

module _ (P : Node → Type 0) where
  abbrev AtChoice : Choice Node → Type 0
  AtChoice c = P c.node

  pub node_added : (old new : List (Choice Node)) (number : ℕ) (next : Node) → P next →
      new ≡ old ++ record { number = number; node = next } ∷ [] → All AtChoice old →
      All AtChoice new
  node_added old new number next is same all =
      subst (All AtChoice) (sym same)
      (All-append AtChoice old (record { number = number; node = next } ∷ []) all
      (All-cons AtChoice (record { number = number; node = next }) [] is (All-nil AtChoice)))

-- ---- all of them

one_or_none : {A : Type 0} (o : Option A) → cons_option o [] ≡ option_to_list o
one_or_none None = refl
one_or_none (Some x) = refl

-- one more of a list
pub filtered_more : {A B : Type 0} (f : A → Option B) (xs : List A) (i : ℕ) (x : A) →
    i < length xs → x ≡ get_or xs i x →
    filter_map f (take i xs) ++ option_to_list (f x) ≡ filter_map f (take (i + 1) xs)
filtered_more f xs i x there is =
    ap (λ ys. filter_map f (take i xs) ++ ys) (sym (one_or_none (f x)))
    ∙ sym (filter_map-append f (take i xs) (x ∷ []))
    ∙ sym (ap (filter_map f)
    (take_more xs i x there ∙ ap (λ y. take i xs ++ y ∷ []) (sym is)))
