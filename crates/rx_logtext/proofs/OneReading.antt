-- A text is that of one log, or has one first bad line, and never both.
use Rattle.std.proofs.Common.{◌≡◌, ◌∙◌, ap, refl, subst, sym, ◌⊎◌, inl, inr, ℕ, suc, true, List, [], ◌∷◌, ◌++◌, length, append_assoc}
use Rattle.std.proofs.lemmas.Bool.{and_parts}
use Rattle.std.proofs.lemmas.List.{append-nil}
use Rattle.std.specs.List.{list_all}
use Rattle.rx_log.specs.declared.log.Log.{Log}
use Rattle.rx_log.specs.Lines.{log_lines, version_of}
use Rattle.rx_logtext.specs.Logs.{Begins, IsFirstBad, IsLog, ended, is_one_line, log_texts}
use Rattle.rx_logtext.proofs.Cuts.{cut_once}
use Rattle.rx_logtext.proofs.Gathered.{given_by_lines}
use Rattle.rx_logtext.proofs.OneLineLines.{each_is_one_line}

-- ---- lines that begin a text

-- these lines are the other ones and then more, which begin what is left after the other ones
record GoesOn (xs ys : List (List ℕ)) (left rest : List ℕ) : Type 0 where
  more : List (List ℕ)
  whole : ys ≡ xs ++ more
  one_by_one : list_all is_one_line more ≡ true
  is : left ≡ ended more ++ rest

regroup : (x : List ℕ) (xs : List (List ℕ)) (left : List ℕ)
    → ended (x ∷ xs) ++ left ≡ x ++ 10 ∷ (ended xs ++ left)
regroup x xs left = simp append_assoc

behind : (x : List ℕ) {xs ys : List ℕ} → x ++ 10 ∷ xs ≡ x ++ 10 ∷ ys → xs ≡ ys
behind [] e = cc
behind (b ∷ x) {xs} {ys} e =
    let f : x ++ 10 ∷ xs ≡ x ++ 10 ∷ ys = cc in behind x f

one_more : {x y : List ℕ} {xs ys : List (List ℕ)} {left rest : List ℕ} → x ≡ y
    → GoesOn xs ys left rest → GoesOn (x ∷ xs) (y ∷ ys) left rest
one_more {x} {y} {xs} e g = record {
  more = g.more;
  whole = (λ i. sym e i ∷ g.whole i);
  one_by_one = g.one_by_one;
  is = g.is;
}

-- where the same text begins with two lists of lines, one of them goes on with the other
compared : (xs ys : List (List ℕ)) (left rest : List ℕ) → list_all is_one_line xs ≡ true
    → list_all is_one_line ys ≡ true → ended xs ++ left ≡ ended ys ++ rest
    → GoesOn xs ys left rest ⊎ GoesOn ys xs rest left
compared [] ys left rest p q e =
    inl (record { more = ys; whole = refl; one_by_one = q; is = e })
compared (x ∷ xs) [] left rest p q e =
    inr (record { more = x ∷ xs; whole = refl; one_by_one = p; is = sym e })
compared (x ∷ xs) (y ∷ ys) left rest p q e =
    let a = and_parts (is_one_line x) (list_all is_one_line xs) p in
    let b = and_parts (is_one_line y) (list_all is_one_line ys) q in
    let f : x ++ 10 ∷ (ended xs ++ left) ≡ y ++ 10 ∷ (ended ys ++ rest) =
    sym (regroup x xs left) ∙ e ∙ regroup y ys rest in
    let same : x ≡ y = cut_once x y (ended xs ++ left) (ended ys ++ rest) a.0 b.0 f in
    let g : x ++ 10 ∷ (ended xs ++ left) ≡ x ++ 10 ∷ (ended ys ++ rest) =
    f ∙ ap (λ z. z ++ 10 ∷ (ended ys ++ rest)) (sym same) in
    elim (compared xs ys left rest a.1 b.1 (behind x g)) [
      | inl h ↦ inl (one_more same h)
      | inr h ↦ inr (one_more (sym same) h)
    ]

-- ---- one first bad line

-- some log begins with the first of the lines with which some log begins
fewer : (xs : List (List ℕ)) (next : List ℕ) (more : List (List ℕ))
    → Begins (xs ++ next ∷ more) → Begins (xs ++ next ∷ [])
fewer xs next more b = record {
  log = b.log;
  in_range = b.in_range;
  more = more ++ b.more;
  are =
      b.are ∙ append_assoc xs (next ∷ more) b.more
      ∙ sym (append_assoc xs (next ∷ []) (more ++ b.more));
}

none_before : {text : List ℕ} {m n : ℕ} (a : IsFirstBad text m) (b : IsFirstBad text n)
    → GoesOn a.before b.before a.left b.left → m ≡ n
none_before {text} {m} {n} a b g = by g.more g.whole g.one_by_one g.is
  where
    by : (more : List (List ℕ)) → b.before ≡ a.before ++ more
        → list_all is_one_line more ≡ true → a.left ≡ ended more ++ b.left → m ≡ n
    by [] whole one is =
        a.counted
        ∙ ap (λ (texts : List (List ℕ)). suc (length texts))
        (sym (append-nil a.before) ∙ sym whole)
        ∙ sym b.counted
    by (next ∷ more) whole one is =
        absurd
        (a.bad next (ended more ++ b.left) (is ∙ regroup next more b.left)
        (and_parts (is_one_line next) (list_all is_one_line more) one).0
        (fewer a.before next more (subst Begins whole b.good_before)))

pub one_bad_line : (text : List ℕ) (m n : ℕ) → IsFirstBad text m → IsFirstBad text n → m ≡ n
one_bad_line text m n a b =
    let both : ended a.before ++ a.left ≡ ended b.before ++ b.left = sym a.joined ∙ b.joined in
    elim (compared a.before b.before a.left b.left a.one_by_one b.one_by_one both) [
      | inl g ↦ none_before a b g
      | inr g ↦ sym (none_before b a g)
    ]

-- ---- one log

nothing_ended : (next rest : List ℕ) → [] ≡ next ++ 10 ∷ rest → ⊥
nothing_ended [] rest e = cc
nothing_ended (byte ∷ next) rest e = cc

texts_one_line : (log : Log) → list_all is_one_line (log_texts log) ≡ true
texts_one_line log = each_is_one_line (version_of log) (log_lines log)

whole_text : {text : List ℕ} {log : Log} → IsLog text log → text ≡ ended (log_texts log) ++ []
whole_text {text} {log} a = a.is ∙ sym (append-nil (ended (log_texts log)))

-- the lines of a text are those of its log
same_texts : {xs ys : List (List ℕ)} → GoesOn xs ys [] [] → xs ≡ ys
same_texts {xs} {ys} g = by g.more g.whole g.is
  where
    by : (more : List (List ℕ)) → ys ≡ xs ++ more → [] ≡ ended more ++ [] → xs ≡ ys
    by [] whole is = sym (append-nil xs) ∙ sym whole
    by (next ∷ more) whole is = absurd
        (nothing_ended next (ended more ++ []) (is ∙ regroup next more []))

pub one_log : (text : List ℕ) (a b : Log) → IsLog text a → IsLog text b → a ≡ b
one_log text a b p q =
    let both : ended (log_texts a) ++ [] ≡ ended (log_texts b) ++ [] =
    sym (whole_text p) ∙ whole_text q in
    let same : log_texts a ≡ log_texts b =
    elim (compared (log_texts a) (log_texts b) [] [] (texts_one_line a) (texts_one_line b) both) [
      | inl g ↦ same_texts g
      | inr g ↦ sym (same_texts g)
    ] in
    given_by_lines (log_texts b) a b (record { in_range = p.in_range; are = same })
    (record { in_range = q.in_range; are = refl })

-- ---- a log or a bad line

module _ {text : List ℕ} {log : Log} {number : ℕ} (a : IsLog text log) (b : IsFirstBad text number)
  where
    -- the log has more lines than those before the bad one, or just these
    lines_after : GoesOn b.before (log_texts log) b.left [] → ⊥
    lines_after g = by g.more g.whole g.one_by_one g.is
      where
        by : (more : List (List ℕ)) → log_texts log ≡ b.before ++ more
            → list_all is_one_line more ≡ true → b.left ≡ ended more ++ [] → ⊥
        by [] whole one is =
            b.missing is log
            (record { in_range = a.in_range; are = whole ∙ append-nil b.before })
        by (next ∷ more) whole one is =
            b.bad next (ended more ++ []) (is ∙ regroup next more [])
            (and_parts (is_one_line next) (list_all is_one_line more) one).0
            (record {
              log = log;
              in_range = a.in_range;
              more = more;
              are = whole ∙ sym (append_assoc b.before (next ∷ []) more);
            })

    -- the lines before the bad one are those of the log and more
    lines_before : GoesOn (log_texts log) b.before [] b.left → ⊥
    lines_before g = by g.more g.whole g.is
      where
        by : (more : List (List ℕ)) → b.before ≡ log_texts log ++ more
            → [] ≡ ended more ++ b.left → ⊥
        by [] whole is =
            b.missing (sym is) log
            (record { in_range = a.in_range; are = sym (whole ∙ append-nil (log_texts log)) })
        by (next ∷ more) whole is =
            nothing_ended next (ended more ++ b.left) (is ∙ regroup next more b.left)

pub never_both : (text : List ℕ) (log : Log) (number : ℕ) → IsLog text log
    → ¬ (IsFirstBad text number)
never_both text log number a b =
    let both : ended b.before ++ b.left ≡ ended (log_texts log) ++ [] =
    sym b.joined ∙ whole_text a in
    elim (compared b.before (log_texts log) b.left [] b.one_by_one (texts_one_line log) both) [
      | inl g ↦ lines_after a b g
      | inr g ↦ lines_before a b g
    ]
