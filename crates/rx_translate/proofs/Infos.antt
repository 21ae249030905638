-- What each symbol of code is, by marks of entries and of heads.
use Rattle.std.proofs.Common.{◌≡◌, ◌∙◌, ap, sym, refl, Bool, false, ◌==◌, ℕ, suc, ◌+◌, ◌<◌, List, [], ◌∷◌, ◌++◌, length, map, drop, get_or, append_assoc, arith}
use Rattle.std.specs.List.{enumerate_from, list_any}
use Rattle.std.proofs.lemmas.List.{drop_more}
use Rattle.rx_term.specs.declared.rule_set.SymInfo.{SymInfo}
use Rattle.rx_code.specs.Rules.{info_at}
use Rattle.rx_code.specs.declared.code.Code.{Code}
use Rattle.rx_code.specs.declared.point.Opening.{Opening}
use Rattle.rx_translate.specs.Marks.{marks_of}
use Rattle.rx_translate.specs.Parts.{info_of, infos_of}
use Rattle.rx_translate.proofs.MarkLemmas.{any_second, length-marks_of, mark_is}

-- symbol by symbol
pub record Listing (os : List Opening) (es hs : List Bool) (now : List SymInfo) (i : ℕ) : Type 0
  where
    pub made : now ++ infos_of (drop i os) (drop i es) (drop i hs) ≡ infos_of os es hs

module _ (os : List Opening) (es hs : List Bool) (now : List SymInfo) (i : ℕ) where
  pub begin : Listing os es hs [] 0
  begin = record { made = refl }

  pub next : i < length os → length es ≡ length os → length hs ≡ length os →
      (o : Opening) (e h : Bool) (new : List SymInfo) → get_or os i o ≡ o → get_or es i e ≡ e →
      get_or hs i h ≡ h
      → new ≡ now ++ info_of o e h ∷ [] → Listing os es hs now i → Listing os es hs new (i + 1)
  next below all_es all_hs o e h new is_o is_e is_h pushed l =
      let below_es : i < length es = omega (arith, below, all_es) in
      let below_hs : i < length hs = omega (arith, below, all_hs) in
      let first = drop_more os i o below ∙ ap (λ x. x ∷ drop (i + 1) os) is_o in
      let second = drop_more es i e below_es ∙ ap (λ x. x ∷ drop (i + 1) es) is_e in
      let third = drop_more hs i h below_hs ∙ ap (λ x. x ∷ drop (i + 1) hs) is_h in
      let split : infos_of (drop i os) (drop i es) (drop i hs) ≡ info_of o e h ∷
      infos_of (drop (i + 1) os) (drop (i + 1) es) (drop (i + 1) hs) = λ j.
      infos_of (first j) (second j) (third j) in
      record {
        made =
            ap (λ xs. xs ++ infos_of (drop (i + 1) os) (drop (i + 1) es) (drop (i + 1) hs)) pushed
            ∙ append_assoc now (info_of o e h ∷ [])
            (infos_of (drop (i + 1) os) (drop (i + 1) es) (drop (i + 1) hs))
            ∙ sym (ap (λ xs. now ++ xs) split) ∙ l.made;
      }

-- marks that say of each symbol from a number on whether it passes two tests
says : (entry head : ℕ → Bool) (os : List Opening) (es hs : List Bool) (n : ℕ) → length es ≡
    length os → length hs ≡ length os → ((i : ℕ) → i < length os → get_or es i false ≡
    entry (n + i))
    → ((i : ℕ) → i < length os → get_or hs i false ≡ head (n + i)) → infos_of os es hs ≡
    map (λ (o : ℕ × Opening). info_of o.1 (entry o.0) (head o.0)) (enumerate_from n os)
says entry head [] es hs n all_es all_hs are_es are_hs = refl
says entry head (o ∷ os) [] hs n all_es all_hs are_es are_hs = absurd (omega (arith, all_es))
says entry head (o ∷ os) (e ∷ es) [] n all_es all_hs are_es are_hs = absurd (omega (arith, all_hs))
says entry head (o ∷ os) (e ∷ es) (h ∷ hs) n all_es all_hs are_es are_hs =
    let start : n + 0 ≡ n = omega arith in
    let first_e = are_es 0 (omega arith) ∙ ap entry start in
    let first_h = are_hs 0 (omega arith) ∙ ap head start in
    let later : (i : ℕ) → n + suc i ≡ (n + 1) + i = λ i. omega arith in
    let rest = says entry head os es hs (n + 1) (omega (arith, all_es)) (omega (arith, all_hs))
    (λ i below. are_es (suc i) (omega (arith, below)) ∙ ap entry (later i))
    (λ i below. are_hs (suc i) (omega (arith, below)) ∙ ap head (later i)) in
    λ j. info_of o (first_e j) (first_h j) ∷ rest j

pub infos_are : (c : Code) → infos_of c.opened
    (marks_of (length c.opened) (map (λ (e : ℕ × ℕ). e.1) c.entries))
    (marks_of (length c.opened) c.heads) ≡ map (info_at c) (enumerate_from 0 c.opened)
infos_are c =
    let count = length c.opened in
    let from_0 : (i : ℕ) → i ≡ 0 + i = λ i. omega arith in
    says (λ k. list_any (λ (e : ℕ × ℕ). e.1 == k) c.entries) (λ k. list_any (λ j. j == k) c.heads)
    c.opened (marks_of count (map (λ (e : ℕ × ℕ). e.1) c.entries)) (marks_of count c.heads) 0
    (length-marks_of count (map (λ (e : ℕ × ℕ). e.1) c.entries)) (length-marks_of count c.heads)
    (λ i below. mark_is count (map (λ (e : ℕ × ℕ). e.1) c.entries) i below ∙
    any_second c.entries i ∙ ap (λ k. list_any (λ (e : ℕ × ℕ). e.1 == k) c.entries) (from_0 i))
    (λ i below. mark_is count c.heads i below ∙ ap (λ k. list_any (λ j. j == k) c.heads) (from_0 i))

-- from the steps that make them
module _ (c : Code) (os : List Opening) (pairs : List (ℕ × ℕ)) (numbers : List ℕ)
    (es hs : List Bool) (are_os : os ≡ c.opened) (are_pairs : pairs ≡ c.entries)
    (are_numbers : numbers ≡ c.heads)
    (are_es : es ≡ marks_of (length os) (map (λ (e : ℕ × ℕ). e.1) pairs))
    (are_hs : hs ≡ marks_of (length os) numbers) where
  pub all_entries : length es ≡ length os
  all_entries = ap length are_es ∙ length-marks_of (length os) (map (λ (e : ℕ × ℕ). e.1) pairs)

  pub all_heads : length hs ≡ length os
  all_heads = ap length are_hs ∙ length-marks_of (length os) numbers

  pub symbols_are : infos_of os es hs ≡ map (info_at c) (enumerate_from 0 c.opened)
  symbols_are =
      (λ i. infos_of os (are_es i) (are_hs i))
      ∙ (λ i. infos_of (are_os i) (marks_of (length (are_os i))
      (map (λ (e : ℕ × ℕ). e.1) (are_pairs i))) (marks_of (length (are_os i)) (are_numbers i)))
      ∙ infos_are c
