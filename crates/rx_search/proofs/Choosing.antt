-- The choices so far, with one more.
use Rattle.std.proofs.Common.{◌≡◌, ℕ, ◌+◌, ◌<◌, Bool, false, ◌||◌, Option, Some, None, List, [], ◌∷◌, ◌++◌, map, length, get_or, take, refl, sym, ap, subst, ◌∙◌, All}
use Rattle.std.specs.Prelude.{IfSome}
use Rattle.std.specs.List.{filter_map}
use Rattle.std.specs.Option.{option_map}
use Rattle.std.proofs.lemmas.List.{map-append, take_more}
use Rattle.std.proofs.lemmas.List.Elements.{All-append, All-cons, All-nil, filter_map-append}
use Rattle.std.proofs.lemmas.List.Folds.{list_any-append}
use Rattle.rx_plain.proofs.Booleans.{or_false}
use Rattle.rx_solve.specs.Attempts.{Tried}
use Rattle.rx_moves.specs.Trying.{Next}
use Rattle.rx_search.specs.Menu.{Chosen, choice}
use Rattle.rx_search.specs.Calls.{choice_of, node_of, with_choice}
use Rattle.rx_search.specs.Nodes.{AreChoices, IsTried}
use Rattle.rx_search.specs.NodeNodes as nodes
use Rattle.rx_search.specs.NodeNodes.{node_with}
use Rattle.rx_search.specs.Search.{child}
use Rattle.rx_search.specs.declared.node_choices.Choices.{Choices}
use Rattle.rx_rank.specs.declared.attempt.Attempt.{Attempt}
use Rattle.rx_search.specs.declared.node.Node.{Node}
use Rattle.rx_deepening.specs.Views.{seen_choice}
use Rattle.rx_deepening.specs.declared.tree.Choice.{Choice}
use Rattle.rx_settle.specs.Settling.{most_moves}

module _ (from : Node) where
  abbrev applying : List Chosen → List (Choice nodes.Node)
  applying cs = filter_map (child (node_of from)) cs

  abbrev seen : List (Choice Node) → List (Choice nodes.Node)
  seen choices = map (seen_choice node_of) choices

  one_choice : (number : ℕ) (node : Option Node) (noted : Bool) (made : Option Next)
      → option_map node_of node ≡ option_map (node_with most_moves (node_of from)) made
      → seen (choice_of number node) ≡ applying
      (choice number (record { made = made; noted = noted }) ∷ [])
  one_choice number None noted None same = refl
  one_choice number None noted (Some next) same = absurd cc
  one_choice number (Some node) noted None same = absurd cc
  one_choice number (Some node) noted (Some next) same =
      let one : node_of node ≡ node_with most_moves (node_of from) next = cc in
      λ i. record { number = number; node = one i } ∷ []

  pub no_choices : (found : Choices) → found ≡ record { choices = []; noted = false } →
      AreChoices from [] found
  no_choices found same =
      subst (AreChoices from []) (sym same) (record { choices = refl; noted = refl })

  pub choices_grow : (cs : List Chosen) (found : Choices) (number : ℕ) (tried : Tried Next)
      (trial : Attempt Node) → AreChoices from cs found
      → IsTried from tried trial → AreChoices from (cs ++ choice number tried ∷ [])
      (with_choice found number trial)
  choices_grow cs found number tried trial are is = record {
    choices =
        map-append (seen_choice node_of) found.choices (choice_of number trial.made)
        ∙ (λ i. are.choices i ++ one_choice number trial.made tried.noted tried.made is.made i)
        ∙ sym (filter_map-append (child (node_of from)) cs (choice number tried ∷ []));
    noted =
        (λ i. are.noted i || (is.noted ∙ sym (or_false tried.noted)) i)
        ∙ sym (list_any-append (λ (c : Chosen). c.tried.noted) cs (choice number tried ∷ []));
  }

-- one more of a list
pub taken_more : {A B : Type 0} (f : A → B) (xs : List A) (i : ℕ) (x : A) → i < length xs → x ≡
    get_or xs i x → map f (take i xs) ++ f x ∷ [] ≡ map f (take (i + 1) xs)
taken_more f xs i x there is =
    sym (ap (map f) (take_more xs i x there ∙ ap (λ y. take i xs ++ y ∷ []) (sym is)) ∙
    map-append f (take i xs) (x ∷ []))

module _ (P : Node → Type 0) where
  abbrev AtChoice : Choice Node → Type 0
  AtChoice c = P c.node

  one_node : (number : ℕ) (node : Option Node) → IfSome node P →
      All AtChoice (choice_of number node)
  one_node number None is = All-nil AtChoice
  one_node number (Some node) is =
      All-cons AtChoice (record { number = number; node = node }) [] is (All-nil AtChoice)

  pub no_nodes : (found : Choices) → found ≡ record { choices = []; noted = false } →
      All AtChoice found.choices
  no_nodes found same =
      subst (λ (f : Choices). All AtChoice f.choices) (sym same) (All-nil AtChoice)

  -- what holds of the nodes so far, and of the new one
  pub nodes_grow : (found : Choices) (number : ℕ) (trial : Attempt Node) →
      All AtChoice found.choices →
      IfSome trial.made P
      → All AtChoice (with_choice found number trial).choices
  nodes_grow found number trial all is =
      All-append AtChoice found.choices (choice_of number trial.made) all
      (one_node number trial.made is)
