-- What is at the positions of code, as ops are added.
use Rattle.std.proofs.Common.{◌≡◌, ℕ, suc, ◌+◌, ◌<◌, ◌≤◌, List, [], ◌∷◌, ◌++◌, length, refl, ap, ◌∙◌, sym, arith, zero, inl, inr, ◌⊎◌}
use Rattle.std.specs.Prelude.{fold}
use Rattle.std.proofs.Math.ListN.{length-append, get_or-append}
use Rattle.std.proofs.Math.Seq.{get_or-append_seam}
use Rattle.std.proofs.lemmas.List.{append_assoc}
use Rattle.std.proofs.lemmas.List.Sums.{fold-append}
use Rattle.c_meaning.specs.CountedExpressions.{Calls}
use Rattle.c_code.specs.Flat.{Rest, Back, lost, at, op_to, with_op, rests}
use Rattle.c_code.specs.declared.code.Op.{Op}

-- one of two numbers is greater, or not
pub le_or_less : (m n : ℕ) → (m ≤ n) ⊎ (n < m)
le_or_less zero n = inl (omega arith)
le_or_less (suc m) zero = inr (omega arith)
le_or_less (suc m) (suc n) =
    elim (le_or_less m n) [ inl le ↦ inl (omega arith) | inr less ↦ inr (omega arith) ]

module _ (calls : Calls) (back : Back) where
  length-with : (rs : List Rest) (ops : List Op) → length (fold (with_op calls back) rs ops) ≡
      length rs + length ops
  length-with rs [] = omega arith
  length-with rs (op ∷ ops) =
      let one = length-append rs (op_to calls back rs op ∷ []) in
      let rec = length-with (with_op calls back rs op) ops in
      omega arith

  -- each op has its position
  pub length-rests : (ops : List Op) → length (rests calls back ops) ≡ length ops
  length-rests ops =
      let same : length (rests calls back ops) ≡ 0 + length ops = length-with [] ops in omega arith

  at-with : (rs : List Rest) (ops : List Op) (p : ℕ) → p < length rs →
      at (fold (with_op calls back) rs ops) p ≡ at rs p
  at-with rs [] p below = refl
  at-with rs (op ∷ ops) p below =
      let one = length-append rs (op_to calls back rs op ∷ []) in
      let more : p < length (with_op calls back rs op) = omega arith in
      at-with (with_op calls back rs op) ops p more ∙
      get_or-append rs (op_to calls back rs op ∷ []) lost p below

  -- what is added changes no position that is there
  pub at-stays : (old more new : List Op) (p : ℕ) → new ≡ old ++ more → p < length old →
      at (rests calls back new) p ≡ at (rests calls back old) p
  at-stays old more new p is below =
      let same = length-rests old in
      let there : p < length (rests calls back old) = omega arith in
      ap (λ (ops : List Op). at (rests calls back ops) p) is
      ∙ (ap (λ (rs : List Rest). at rs p) (fold-append (with_op calls back) [] old more) ∙
      at-with (rests calls back old) more p there)

  -- the op that is added
  pub at-added : (old : List Op) (op : Op) → at (rests calls back (old ++ op ∷ [])) (length old) ≡
      op_to calls back (rests calls back old) op
  at-added old op =
      ap (λ (rs : List Rest). at rs (length old))
      (fold-append (with_op calls back) [] old (op ∷ []))
      ∙ (ap (λ (n : ℕ). at (rests calls back old ++ op_to calls back (rests calls back old) op ∷ [])
      n) (sym (length-rests old))
      ∙ get_or-append_seam (rests calls back old) (op_to calls back (rests calls back old) op) []
      lost)

  -- an op comes to the same as another that comes to the same in its place
  pub rests-changed : (old more : List Op) (first second : Op)
      → op_to calls back (rests calls back old) first ≡
      op_to calls back (rests calls back old) second
      → rests calls back (old ++ first ∷ more) ≡ rests calls back (old ++ second ∷ more)
  rests-changed old more first second same =
      fold-append (with_op calls back) [] old (first ∷ more)
      ∙ (ap (λ (r : Rest). fold (with_op calls back) (rests calls back old ++ r ∷ []) more) same
      ∙ sym (fold-append (with_op calls back) [] old (second ∷ more)))

  -- the op at a position, from the ops before it
  pub at-split : (before after : List Op) (op : Op)
      → at (rests calls back (before ++ op ∷ after)) (length before) ≡
      op_to calls back (rests calls back before) op
  at-split before after op =
      let one = length-append before (op ∷ []) in
      let there : length before < length (before ++ op ∷ []) = omega arith in
      at-stays (before ++ op ∷ []) after (before ++ op ∷ after) (length before)
      (sym (append_assoc before (op ∷ []) after)) there
      ∙ at-added before op
