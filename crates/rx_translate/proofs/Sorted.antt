-- Rules that are sorted by symbols are those of the symbols in order.
use Rattle.std.proofs.Common.{◌≡◌, ◌∙◌, ap, sym, subst, refl, Bool, true, false, ◌&&◌, ◌==◌, cond, ℕ, zero, suc, ◌+◌, ◌<◌, ◌≤◌, List, [], ◌∷◌, ◌++◌, length, map, replicate, drop, get_or, append_assoc, arith, add-one, drop_of_length-le}
use Rattle.std.specs.Prelude.{filter, slice_set}
use Rattle.std.specs.List.{enumerate_from, flat_map, list_all}
use Rattle.std.proofs.Math.Seq.{drop-cons}
use Rattle.std.proofs.lemmas.Bool.{and_left, eq-eqb, ne_eqb}
use Rattle.std.proofs.lemmas.List.{append-nil}
use Rattle.c_ast.specs.declared.integers.Integers.{Integers}
use Rattle.rx_term.specs.declared.rule.Rule.{Rule}
use Rattle.rx_code.specs.Programs.{entry_of}
use Rattle.rx_code.specs.Rules.{instruction_within, parts_of, rules_at, rules_of_instruction}
use Rattle.rx_code.specs.declared.action.Instruction.{Instruction}
use Rattle.rx_code.specs.declared.code.Code.{Code}
use Rattle.rx_code.specs.declared.point.Opening.{Opening}
use Rattle.rx_translate.specs.Parts.{add_at, sorted_after, sorted_rules}

-- ---- one list more at a place

pub add_at-set : {X : Type 0} (lists : List (List X)) (k : ℕ) (now : List X) (xs new : List X) → k <
    length lists → now ≡ get_or lists k now → new ≡ now ++ xs → slice_set lists k new ≡
    add_at lists k xs
add_at-set [] k now xs new below is pushed = absurd (omega (arith, below))
add_at-set (ys ∷ yss) zero now xs new below is pushed =
    ap (λ zs. zs ∷ yss) (pushed ∙ ap (λ zs. zs ++ xs) is)
add_at-set (ys ∷ yss) (suc k) now xs new below is pushed =
    ap (λ zss. ys ∷ zss) (add_at-set yss k now xs new (omega (arith, below)) is pushed)

pub add_at_past : {X : Type 0} (lists : List (List X)) (k : ℕ) (xs : List X) → length lists ≤ k →
    lists ≡ add_at lists k xs
add_at_past [] k xs above = refl
add_at_past (ys ∷ yss) zero xs above = absurd (omega (arith, above))
add_at_past (ys ∷ yss) (suc k) xs above =
    ap (λ zss. ys ∷ zss) (add_at_past yss k xs (omega (arith, above)))

abbrev numbered : (ℕ → List Rule) → ℕ → List Opening → List (List Rule)
numbered w s os = map (λ (o : ℕ × Opening). w o.0) (enumerate_from s os)

module _ (v : ℕ → List Rule) (xs : List Rule) where
  abbrev with_at : ℕ → ℕ → List Rule
  with_at k n = v n ++ cond (k == n) xs []

  past : (k s : ℕ) (os : List Opening) → k < s → numbered v s os ≡ numbered (with_at k) s os
  past k s [] below = refl
  past k s (o ∷ os) below =
      let here : v s ≡ with_at k s = sym (append-nil (v s)) ∙
      ap (λ b. v s ++ cond b xs []) (sym (ne_eqb k s (λ e. omega (arith, e, below)))) in
      let rest = past k (s + 1) os (omega (arith, below)) in
      λ i. here i ∷ rest i

  add_at-numbered : (os : List Opening) (s k : ℕ) → add_at (numbered v s os) k xs ≡
      numbered (with_at (s + k)) s os
  add_at-numbered [] s k = refl
  add_at-numbered (o ∷ os) s zero =
      let here : v s ++ xs ≡ with_at (s + 0) s =
      ap (λ b. v s ++ cond b xs []) (sym (eq-eqb (s + 0) s (omega arith))) in
      let rest = past (s + 0) (s + 1) os (omega arith) in
      λ i. here i ∷ rest i
  add_at-numbered (o ∷ os) s (suc k) =
      let here : v s ≡ with_at (s + suc k) s = sym (append-nil (v s)) ∙
      ap (λ b. v s ++ cond b xs []) (sym (ne_eqb (s + suc k) s (λ e. omega (arith, e)))) in
      let next : (s + 1) + k ≡ s + suc k = omega arith in
      let rest = add_at-numbered os (s + 1) k ∙
      ap (λ (n : ℕ). numbered (with_at n) (s + 1) os) next in
      λ i. here i ∷ rest i

module _ (integers : Integers) (entries : List (ℕ × ℕ)) where
  abbrev rules : Instruction → List Rule
  rules = rules_of_instruction integers (entry_of entries)

  abbrev at : ℕ → List Instruction → List Rule
  at n ds = flat_map rules (filter (λ (d : Instruction). d.at.symbol == n) ds)

  -- the rules of an instruction come before those of the others at a symbol
  one_more : (xs : List Rule) (n : ℕ) (d : Instruction) (ds : List Instruction) (b : Bool) →
      (d.at.symbol == n) ≡
      b
      → (xs ++ cond (d.at.symbol == n) (rules d) []) ++ at n ds ≡ xs ++ at n (d ∷ ds)
  one_more xs n d ds true is =
      ap (λ c. (xs ++ cond c (rules d) []) ++ at n ds) is ∙ append_assoc xs (rules d) (at n ds)
      ∙ sym (ap (λ c. xs ++ flat_map rules (cond c
      (d ∷ filter (λ (e : Instruction). e.at.symbol == n) ds)
      (filter (λ (e : Instruction). e.at.symbol == n) ds))) is)
  one_more xs n d ds false is =
      ap (λ c. (xs ++ cond c (rules d) []) ++ at n ds) is ∙ append_assoc xs [] (at n ds)
      ∙ sym (ap (λ c. xs ++ flat_map rules (cond c
      (d ∷ filter (λ (e : Instruction). e.at.symbol == n) ds)
      (filter (λ (e : Instruction). e.at.symbol == n) ds))) is)

  sorted_is : (os : List Opening) (v : ℕ → List Rule) (ds : List Instruction)
      → sorted_after integers entries (numbered v 0 os) ds ≡ numbered (λ n. v n ++ at n ds) 0 os
  sorted_is os v [] =
      ap (λ (w : ℕ → List Rule). map (λ (o : ℕ × Opening). w o.0) (enumerate_from 0 os))
      (λ i n. sym (append-nil (v n)) i)
  sorted_is os v (d ∷ ds) =
      let start : 0 + d.at.symbol ≡ d.at.symbol = omega arith in
      let w : ℕ → List Rule = λ n. v n ++ cond (d.at.symbol == n) (rules d) [] in
      let added : add_at (map (λ (o : ℕ × Opening). v o.0) (enumerate_from 0 os)) d.at.symbol
      (rules d) ≡ map (λ (o : ℕ × Opening). w o.0) (enumerate_from 0 os) =
      add_at-numbered v (rules d) os 0 d.at.symbol ∙
      ap (λ (k : ℕ). map (λ (o : ℕ × Opening). v o.0 ++ cond (k == o.0) (rules d) [])
      (enumerate_from 0 os)) start in
      ap (λ ls. sorted_after integers entries ls ds) added ∙ sorted_is os w ds
      ∙ ap (λ (u : ℕ → List Rule). map (λ (o : ℕ × Opening). u o.0) (enumerate_from 0 os))
      (λ i n. one_more (v n) n d ds (d.at.symbol == n) refl i)

empties : (os : List Opening) (s : ℕ) → replicate {A = List Rule} (length os) [] ≡
    numbered (λ n. []) s os
empties [] s = refl
empties (o ∷ os) s = ap (λ (ls : List (List Rule)). [] ∷ ls) (empties os (s + 1))

flat_mapped : {X : Type 0} (v : X → List Rule) (xs : List X) → flat_map (λ rs. rs) (map v xs) ≡
    flat_map v xs
flat_mapped v [] = refl
flat_mapped v (x ∷ xs) = ap (λ rs. v x ++ rs) (flat_mapped v xs)

-- the sorted rules, one list after another
pub sorted_joined : (integers : Integers) (c : Code) →
    flat_map (λ (rs : List Rule). rs) (sorted_rules integers c).form ≡ (parts_of integers c).rules
sorted_joined integers c =
    ap (flat_map (λ (rs : List Rule). rs)) (ap
    (λ ls. sorted_after integers c.entries ls c.instructions)
    (empties c.opened 0) ∙ sorted_is integers c.entries c.opened (λ n. []) c.instructions)
    ∙ flat_mapped (λ (o : ℕ × Opening). rules_at integers c o.0) (enumerate_from 0 c.opened)

-- ---- instruction by instruction

pub record Sorting (integers : Integers) (entries : List (ℕ × ℕ)) (old now : List (List Rule))
    (rest whole : List Instruction) :
    Type 0 where
  pub made : sorted_after integers entries now rest ≡ sorted_after integers entries old whole
  pub within : list_all instruction_within rest ≡ list_all instruction_within whole

pub begin : (integers : Integers) (entries : List (ℕ × ℕ)) (old : List (List Rule))
    (ds : List Instruction) →
    Sorting integers entries old old (drop 0 ds) ds
begin integers entries old ds = record { made = refl; within = refl }

module _ {integers : Integers} {entries : List (ℕ × ℕ)} {old now : List (List Rule)}
    (ds : List Instruction) (k : ℕ) {d : Instruction}
    (h : k < length ds) (is : d ≡ get_or ds k d)
    (s : Sorting integers entries old now (drop k ds) ds) where
  opened : Sorting integers entries old now (d ∷ drop (suc k) ds) ds
  opened =
      subst (λ rest. Sorting integers entries old now rest ds)
      (drop-cons ds k d h ∙ ap (λ x. x ∷ drop (suc k) ds) (sym is)) s

  pub none : instruction_within d ≡ false → list_all instruction_within ds ≡ false
  none large =
      sym opened.within ∙ and_left (instruction_within d)
      (list_all instruction_within (drop (suc k) ds)) large

  pub next : (new : List (List Rule)) → new ≡
      add_at now d.at.symbol (rules_of_instruction integers (entry_of entries) d) →
      instruction_within d ≡
      true →
      Sorting integers entries old new (drop (k + 1) ds) ds
  next new is_new kept =
      subst (λ j. Sorting integers entries old new (drop j ds) ds) (sym (add-one k)) (record {
        made = ap (λ ls. sorted_after integers entries ls (drop (suc k) ds)) is_new ∙ opened.made;
        within = sym (ap (λ b. b && list_all instruction_within (drop (suc k) ds)) kept) ∙
            opened.within;
      })

pub finished : (integers : Integers) (entries : List (ℕ × ℕ)) (old now : List (List Rule))
    (ds : List Instruction) (k : ℕ)
    →
    length ds ≤ k → Sorting integers entries old now (drop k ds) ds
    → (now ≡ sorted_after integers entries old ds) × (list_all instruction_within ds ≡ true)
finished integers entries old now ds k h s =
    let all = subst (λ rest. Sorting integers entries old now rest ds) (drop_of_length-le ds h) s in
    (all.made, sym all.within)
