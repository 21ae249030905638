-- The polynomials that an anchor of a component may get, in the plain ranking and in the wider one.
use Rattle.std.specs.Prelude.{ℕ, Bool, if◌then◌else◌, List, [], ◌∷◌, ◌++◌}
use Rattle.std.specs.List.{flat_map, fold, list_any}
use Rattle.rx_plain.specs.Formed.{kept}
use Rattle.rx_poly.specs.Limits.{is_within}
use Rattle.rx_poly.specs.Variables.{uses_below}
use Rattle.rx_poly.specs.declared.body.Body.{Body}
use Rattle.rx_poly.specs.contracts.body.BodyPartialEq.TheImpl as body_equal
use Rattle.rx_row.specs.Negation.{opposite}
use Rattle.rx_row.specs.Parts.{poly_of}
use Rattle.rx_row.specs.declared.row.Row.{Row}
use Rattle.rx_row.specs.declared.row.Row.TheVariants.{Ge, Eq, Ne}
use Rattle.rx_solve.specs.Attempts.{Tried, applies, applying, is_noted}
use Rattle.rx_term.specs.Domains.{domain_of}
use Rattle.rx_term.specs.declared.rule.Rule.{Rule}
use Rattle.rx_term.specs.declared.rule_set.RuleParts.{RuleParts}
use Rattle.rx_anchors.specs.Members.{arity_of, is_rule_of}
use Rattle.rx_rank.specs.Tries.{formed_tried}
use Rattle.rx_rank.specs.declared.kind.RankingKind.{RankingKind}
use Rattle.rx_rank.specs.declared.kind.RankingKind.TheVariants.{Plain, Wider}

-- -p, where it keeps the limits
abbrev pub opposite_tried : Body → Tried Body
opposite_tried p = formed_tried (kept is_within (opposite p))

-- those of a row's polynomial, where it is over n arguments: an inequality p >= 0 gives p, any
-- other row p and -p
abbrev pub candidates_by : Row → List (Tried Body)
candidates_by (Ge p) = applies p ∷ []
candidates_by (Eq p) = applies p ∷ opposite_tried p ∷ []
candidates_by (Ne p) = applies p ∷ opposite_tried p ∷ []

abbrev pub row_candidates : ℕ → Row → List (Tried Body)
row_candidates arity row = if uses_below arity (poly_of row) then candidates_by row else []

-- those of the rows of the rules whose left root is in the component
abbrev pub rule_candidates : List ℕ → ℕ → ℕ → Rule → List (Tried Body)
rule_candidates names c arity rule =
    if is_rule_of names c rule then flat_map (row_candidates arity) rule.rows else []

abbrev pub all_candidates : List ℕ → ℕ → List Rule → ℕ → List (Tried Body)
all_candidates names c rules arity = flat_map (rule_candidates names c arity) rules

-- one more, unless it is one of them
abbrev pub with_candidate : List Body → Body → List Body
with_candidate ps p = if list_any (λ q. (body_equal.ghosts).eq q p) ps then ps else ps ++ p ∷ []

-- each once, in order
abbrev pub candidates : List ℕ → ℕ → List Rule → ℕ → List Body
candidates names c rules arity =
    fold with_candidate [] (applying (all_candidates names c rules arity))

-- whether one of them passes the limits, for one of the anchors with those numbers of arguments
abbrev pub are_noted : List ℕ → ℕ → List Rule → List ℕ → Bool
are_noted names c rules arities =
    list_any (λ arity. is_noted (all_candidates names c rules arity)) arities

-- ---- rows of an anchor's own domain

-- the polynomial of an inequality p >= 0 that is over n arguments
abbrev pub own_by : ℕ → Row → List Body
own_by arity (Ge p) = if uses_below arity p then p ∷ [] else []
own_by arity (Eq p) = []
own_by arity (Ne p) = []

-- those of the rows of its domain, in the wider ranking
abbrev pub own_candidates : RankingKind → ℕ → List Row → List Body
own_candidates Plain arity rows = []
own_candidates Wider arity rows = flat_map (own_by arity) rows

-- the candidates of the anchor f: behind those of the rules its own, each once
abbrev pub candidates_at : RankingKind → RuleParts → List Rule → List ℕ → ℕ → ℕ → List Body
candidates_at kind parts hypotheses names c f =
    fold with_candidate
    (candidates names c (parts.rules ++ hypotheses) (arity_of parts.symbols f))
    (own_candidates kind (arity_of parts.symbols f) (domain_of parts f))
