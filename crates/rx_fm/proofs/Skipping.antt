-- A stage at a monomial that no polynomial has changes nothing: so the monomials that are gone need
-- not be looked for, and the first of the others that any polynomial has comes next.
use Rattle.std.proofs.Common.{◌≡◌, ◌∙◌, ap, true, false, ◌&&◌, cond, refl, List, [], ◌∷◌, ◌++◌, length, ℕ, ◌≤◌, nat_le, Option, Some, None, ℤ, pos, int_lt, arith}
use Rattle.std.proofs.lemmas.List.{append-nil}
use Rattle.rx_poly.specs.Terms.{is_zero}
use Rattle.rx_poly.specs.declared.body.Mono.{Mono}
use Rattle.rx_fm.specs.Elimination.{EliminationEnd, at, Large, eliminate, first_negative, found_or, negative, stage, stage_within, nothing, pairs, pairs_within, positive, without}
use Rattle.rx_fm.specs.declared.combination.Combination.{Combination}
use Rattle.rx_fm.proofs.Covering.{Lacks}

all_kept : (m : Mono) (cs : List Combination) → Lacks m cs → without m cs ≡ cs
all_kept m [] h = refl
all_kept m (c ∷ cs) h =
    let zero : is_zero (at m c) ≡ true = ap is_zero h.0 in
    ap (λ b. cond b (c ∷ without m cs) (without m cs)) zero ∙ ap (λ ds. c ∷ ds) (all_kept m cs h.1)

none_positive : (m : Mono) (cs : List Combination) → Lacks m cs → positive m cs ≡ []
none_positive m [] h = refl
none_positive m (c ∷ cs) h =
    let no : int_lt (pos 0) (at m c) ≡ false = ap (int_lt (pos 0)) h.0 in
    ap (λ b. cond b (c ∷ positive m cs) (positive m cs)) no ∙ none_positive m cs h.1

pub unchanged : (m : Mono) (cs : List Combination) → Lacks m cs → stage m cs ≡ cs
unchanged m cs h =
    (λ i. without m cs ++ pairs m (none_positive m cs h i) (negative m cs)) ∙
    append-nil (without m cs) ∙ all_kept m cs h

twice : (o : Option (List ℤ)) (x : EliminationEnd) → found_or o (found_or o x) ≡ found_or o x
twice None x = refl
twice (Some ms) x = refl

looked_once : (limit : ℕ) (ms : List Mono) (cs : List Combination) →
    found_or (first_negative cs) (eliminate limit ms cs) ≡ eliminate limit ms cs
looked_once limit [] cs = twice (first_negative cs) nothing
looked_once limit (m ∷ ms) cs =
    twice (first_negative cs) (cond (stage_within limit m cs) (eliminate limit ms (stage m cs))
    Large)

pub skipped : (limit : ℕ) (m : Mono) (ms : List Mono) (cs : List Combination) → Lacks m cs →
    length cs ≤ limit → eliminate limit (m ∷ ms) cs ≡ eliminate limit ms cs
skipped limit m ms cs h few =
    let same = unchanged m cs h in
    let count : nat_le (length cs) limit ≡ true = grind arith in
    let within : stage_within limit m cs ≡ true =
    (λ i. nat_le (length (same i)) limit && pairs_within m (none_positive m cs h i) (negative m cs))
    ∙ (λ i. count i && true) in
    ap (λ b. found_or (first_negative cs) (cond b (eliminate limit ms (stage m cs)) Large)) within
    ∙ ap (λ ds. found_or (first_negative cs) (eliminate limit ms ds)) same ∙
    looked_once limit ms cs
