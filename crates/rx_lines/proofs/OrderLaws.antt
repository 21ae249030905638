-- Which lines a text of an order begins with, and the first with which none begins.
use Rattle.std.proofs.Common.{◌≡◌, ◌∙◌, ap, refl, subst, sym, inl, inr, ℕ, suc, Bool, true, ◌&&◌, Option, Some, None, List, [], ◌∷◌, ◌++◌, map, length, append_assoc}
use Rattle.std.proofs.lemmas.Bool.{and_from, and_parts}
use Rattle.std.proofs.lemmas.List.{append-nil, map-append}
use Rattle.std.proofs.lemmas.List.Folds.{list_all-append}
use Rattle.std.specs.List.{list_all}
use Rattle.rx_lines.specs.Orders.{Begins, IsFirstBad, IsLineOrder, LeadsTo, MayCome, Order, after_all}
use Rattle.rx_lines.specs.Texts.{IsText, ended, is_one_line}
use Rattle.rx_lines.proofs.Comparing.{GoesOn, compared, not_one_line, nothing_ended, regroup, same_texts}
use Rattle.rx_lines.proofs.Cuts.{cut_once}

-- ---- lines one after the other

module _ {L P : Type 0} (after : P → L → Option P) where
  none_after : (lines : List L) → after_all after None lines ≡ None
  none_after [] = refl
  none_after (line ∷ lines) = refl

  pub after_all-append : (place : Option P) (xs ys : List L) → after_all after place (xs ++ ys) ≡
      after_all after (after_all after place xs) ys
  after_all-append place [] ys = refl
  after_all-append None (x ∷ xs) ys = sym (none_after ys)
  after_all-append (Some place) (x ∷ xs) ys = after_all-append (after place x) xs ys

  leads_somewhere : (place : Option P) (lines : List L) (end : P) → after_all after place lines ≡
      Some end → (behind : P) × (place ≡ Some behind)
  leads_somewhere None [] end e = absurd (cc)
  leads_somewhere None (line ∷ lines) end e = absurd (cc)
  leads_somewhere (Some place) lines end e = (place, refl)

some_injective : {A : Type 0} {x y : A} → Some x ≡ Some y → x ≡ y
some_injective e = cc

module _ {L P : Type 0} (order : Order L P) where
  abbrev text : L → List ℕ
  text = order.format.text

  abbrev in_range : L → Bool
  in_range = order.format.in_range

  -- ---- lines of the same texts

  module _ (laws : IsLineOrder order) where
    pub same_lines : (xs ys : List L) → list_all in_range xs ≡ true → list_all in_range ys ≡ true →
        map text xs ≡ map text ys → xs ≡ ys
    same_lines [] [] r s e = refl
    same_lines [] (y ∷ ys) r s e = absurd (cc)
    same_lines (x ∷ xs) [] r s e = absurd (cc)
    same_lines (x ∷ xs) (y ∷ ys) r s e =
        let head : text x ≡ text y = cc in
        let tail : map text xs ≡ map text ys = cc in
        let a = and_parts (in_range x) (list_all in_range xs) r in
        let b = and_parts (in_range y) (list_all in_range ys) s in
        let same : x ≡ y =
        laws.one_reading (text x) x y (record { in_range = a.0; text = refl })
        (record { in_range = b.0; text = head }) in
        let rest : xs ≡ ys = same_lines xs ys a.1 b.1 tail in cc

    -- lines lead to one place
    pub leads_once : (texts : List (List ℕ)) (p q : P) → LeadsTo order texts p →
        LeadsTo order texts q → p ≡ q
    leads_once texts p q a b =
        let same : a.lines ≡ b.lines =
        same_lines a.lines b.lines a.in_range b.in_range (a.are ∙ sym b.are) in
        some_injective (sym a.arrives ∙ ap (after_all order.after (Some order.start)) same ∙ b.arrives)

    each_one_line : (lines : List L) → list_all in_range lines ≡ true →
        list_all is_one_line (map text lines) ≡ true
    each_one_line [] r = refl
    each_one_line (x ∷ xs) r =
        let a = and_parts (in_range x) (list_all in_range xs) r in
        and_from (is_one_line (text x)) (list_all is_one_line (map text xs)) (laws.one_line x a.0)
        (each_one_line xs a.1)

    -- each of the lines that lead to a place is one line
    pub one_by_one : {texts : List (List ℕ)} {place : P} → LeadsTo order texts place →
        list_all is_one_line texts ≡ true
    one_by_one {texts} {place} h =
        ap (list_all is_one_line) (sym h.are) ∙ each_one_line h.lines h.in_range

    -- ---- one line more

    -- lines that lead to a place, and one that may come there
    pub one_taken : {texts : List (List ℕ)} {place next : P} {bytes : List ℕ} (line : L)
        (h : LeadsTo order texts place) → IsText order.format bytes line →
        order.after place line ≡ Some next → (more : LeadsTo order (texts ++ bytes ∷ []) next) ×
        (more.lines ≡ h.lines ++ line ∷ [])
    one_taken {texts} {place} {next} {bytes} line h t leads = (
      record {
        lines = h.lines ++ line ∷ [];
        in_range =
            list_all-append in_range h.lines (line ∷ []) ∙
            and_from (list_all in_range h.lines) (in_range line && true) h.in_range
            (and_from (in_range line) true t.in_range refl);
        are =
            map-append text h.lines (line ∷ []) ∙
            ap (λ (ts : List (List ℕ)). ts ++ text line ∷ []) h.are ∙
            ap (λ (b : List ℕ). texts ++ b ∷ []) (sym t.text);
        arrives =
            after_all-append order.after (Some order.start) h.lines (line ∷ []) ∙
            ap (λ (at : Option P). after_all order.after at (line ∷ [])) h.arrives ∙ leads;
      },
      refl,
    )

    -- some whole text begins with lines that lead to a place
    pub leads_begin : {texts : List (List ℕ)} {place : P} → LeadsTo order texts place →
        Begins order texts
    leads_begin {texts} {place} h =
        let on = laws.finishes place in
        record {
          more = map text on.lines;
          whole = record {
            lines = h.lines ++ on.lines;
            in_range =
                list_all-append in_range h.lines on.lines ∙
                and_from (list_all in_range h.lines) (list_all in_range on.lines) h.in_range
                on.in_range;
            are =
                map-append text h.lines on.lines ∙
                ap (λ (ts : List (List ℕ)). ts ++ map text on.lines) h.are;
            arrives =
                after_all-append order.after (Some order.start) h.lines on.lines ∙
                ap (λ (at : Option P). after_all order.after at on.lines) h.arrives ∙ on.arrives;
          };
        }

    -- ---- with what no text begins

    -- lines whose texts go on with one more: a line with that text comes after the others
    record Continues (lines : List L) (texts : List (List ℕ)) (bytes : List ℕ) : Type 0 where
      before : List L
      next : L
      more : List L
      whole : lines ≡ before ++ next ∷ more
      are : map text before ≡ texts
      in_range : list_all order.format.in_range before ≡ true
      is : IsText order.format bytes next

    continues : (lines : List L) (texts : List (List ℕ)) (bytes : List ℕ) (more : List (List ℕ)) →
        list_all in_range lines ≡ true → map text lines ≡ texts ++ bytes ∷ more →
        Continues lines texts bytes
    continues [] [] bytes more r e = absurd (cc)
    continues [] (t ∷ ts) bytes more r e = absurd (cc)
    continues (x ∷ xs) [] bytes more r e =
        let head : text x ≡ bytes = cc in
        record {
          before = [];
          next = x;
          more = xs;
          whole = refl;
          are = refl;
          in_range = refl;
          is =
              record { in_range = (and_parts (in_range x) (list_all in_range xs) r).0; text = sym head };
        }
    continues (x ∷ xs) (t ∷ ts) bytes more r e =
        let head : text x ≡ t = cc in
        let tail : map text xs ≡ ts ++ bytes ∷ more = cc in
        let a = and_parts (in_range x) (list_all in_range xs) r in
        let g : Continues xs ts bytes = continues xs ts bytes more a.1 tail in
        record {
          before = x ∷ g.before;
          next = g.next;
          more = g.more;
          whole = ap (λ (its : List L). x ∷ its) g.whole;
          are =
              ap (λ (it : List ℕ). it ∷ map text g.before) head ∙
              ap (λ (its : List (List ℕ)). t ∷ its) g.are;
          in_range =
              and_from (in_range x) (list_all in_range g.before) a.0 g.in_range;
          is = g.is;
        }

    -- where some text begins with lines that lead to a place and one more, that line may come there
    pub may_come : {texts : List (List ℕ)} {place : P} (bytes : List ℕ) →
        LeadsTo order texts place → Begins order (texts ++ bytes ∷ []) → MayCome order place bytes
    may_come {texts} {place} bytes h b =
        let g = continues b.whole.lines texts bytes b.more b.whole.in_range
        (b.whole.are ∙ append_assoc texts (bytes ∷ []) b.more) in
        let same : g.before ≡ h.lines =
        same_lines g.before h.lines g.in_range h.in_range (g.are ∙ sym h.are) in
        let there : after_all order.after (Some order.start) g.before ≡ Some place =
        ap (after_all order.after (Some order.start)) same ∙ h.arrives in
        let run : after_all order.after (after_all order.after (Some order.start) g.before)
        (g.next ∷ g.more) ≡ Some order.end =
        sym (after_all-append order.after (Some order.start) g.before (g.next ∷ g.more)) ∙
        ap (after_all order.after (Some order.start)) (sym g.whole) ∙ b.whole.arrives in
        let on : after_all order.after (Some place) (g.next ∷ g.more) ≡ Some order.end =
        ap (λ (at : Option P). after_all order.after at (g.next ∷ g.more)) (sym there) ∙ run in
        let l = leads_somewhere order.after (order.after place g.next) g.more order.end on in
        record { next = g.next; behind = l.0; is = g.is; leads = l.1 }

    -- a line that was read is the one that may come, if any
    pub only_it : {place : P} {bytes : List ℕ} (line : L) → IsText order.format bytes line →
        order.after place line ≡ None → MayCome order place bytes → ⊥
    only_it {place} {bytes} line is none m =
        let same : line ≡ m.next = laws.one_reading bytes line m.next is m.is in
        let leads : order.after place line ≡ Some m.behind =
        ap (order.after place) same ∙ m.leads in
        cc

    -- ---- first bad lines

    -- a line that may not come is the first bad one
    pub bad_at : (texts : List (List ℕ)) (place : P) (next rest : List ℕ) →
        LeadsTo order texts place → is_one_line next ≡ true → (MayCome order place next → ⊥) →
        IsFirstBad order (ended texts ++ (next ++ 10 ∷ rest)) (suc (length texts))
    bad_at texts place next rest h one never = record {
      before = texts;
      left = next ++ 10 ∷ rest;
      joined = refl;
      one_by_one = one_by_one h;
      counted = refl;
      good_before = leads_begin h;
      bad = λ other more e also begins.
          let same : next ≡ other = cut_once next other rest more one also e in
          never (may_come next h
          (subst (λ (l : List ℕ). Begins order (texts ++ l ∷ [])) (sym same) begins));
      missing = λ e w. nothing_ended next rest (sym e);
    }

    -- a line that is missing is
    pub missing_at : (texts : List (List ℕ)) (place : P) (left : List ℕ) →
        LeadsTo order texts place → is_one_line left ≡ true → (left ≡ [] → place ≡ order.end → ⊥) →
        IsFirstBad order (ended texts ++ left) (suc (length texts))
    missing_at texts place left h one early = record {
      before = texts;
      left = left;
      joined = refl;
      one_by_one = one_by_one h;
      counted = refl;
      good_before = leads_begin h;
      bad = λ next rest e also begins. not_one_line left next rest one e;
      missing = λ e w. early e (leads_once texts place order.end h w);
    }

    -- ---- one reading

    pub one_list : (xs ys : List (List ℕ)) → LeadsTo order xs order.end →
        LeadsTo order ys order.end → ended xs ≡ ended ys → xs ≡ ys
    one_list xs ys a b e = same_texts xs ys (one_by_one a) (one_by_one b) e

    -- some text begins with the first of the lines with which one begins
    fewer : (xs : List (List ℕ)) (next : List ℕ) (more : List (List ℕ)) →
        Begins order (xs ++ next ∷ more) → Begins order (xs ++ next ∷ [])
    fewer xs next more b = record {
      more = more ++ b.more;
      whole =
          subst (λ (texts : List (List ℕ)). LeadsTo order texts order.end)
          (append_assoc xs (next ∷ more) b.more
          ∙ sym (append_assoc xs (next ∷ []) (more ++ b.more))) b.whole;
    }

    none_before : {text : List ℕ} {m n : ℕ} (a : IsFirstBad order text m)
        (b : IsFirstBad order text n) → GoesOn a.before b.before a.left b.left → m ≡ n
    none_before {text} {m} {n} a b g = by g.more g.whole g.one_by_one g.is
      where
        by : (more : List (List ℕ)) → b.before ≡ a.before ++ more
            → list_all is_one_line more ≡ true → a.left ≡ ended more ++ b.left → m ≡ n
        by [] whole one is =
            a.counted
            ∙ ap (λ (texts : List (List ℕ)). suc (length texts))
            (sym (append-nil a.before) ∙ sym whole)
            ∙ sym b.counted
        by (next ∷ more) whole one is =
            absurd
            (a.bad next (ended more ++ b.left) (is ∙ regroup next more b.left)
            (and_parts (is_one_line next) (list_all is_one_line more) one).0
            (fewer a.before next more (subst (Begins order) whole b.good_before)))

    pub one_bad_line : (text : List ℕ) (m n : ℕ) → IsFirstBad order text m →
        IsFirstBad order text n → m ≡ n
    one_bad_line text m n a b =
        let both : ended a.before ++ a.left ≡ ended b.before ++ b.left =
        sym a.joined ∙ b.joined in
        elim (compared a.before b.before a.left b.left a.one_by_one b.one_by_one both) [
          | inl g ↦ none_before a b g
          | inr g ↦ sym (none_before b a g)
        ]

    -- ---- a whole text has no bad line

    module _ {texts : List (List ℕ)} {number : ℕ} (a : LeadsTo order texts order.end)
        (b : IsFirstBad order (ended texts) number) where
      -- the text has more lines than those before the bad one, or just these
      lines_after : GoesOn b.before texts b.left [] → ⊥
      lines_after g = by g.more g.whole g.one_by_one g.is
        where
          by : (more : List (List ℕ)) → texts ≡ b.before ++ more
              → list_all is_one_line more ≡ true → b.left ≡ ended more ++ [] → ⊥
          by [] whole one is =
              b.missing is
              (subst (λ (ts : List (List ℕ)). LeadsTo order ts order.end)
              (whole ∙ append-nil b.before) a)
          by (next ∷ more) whole one is =
              b.bad next (ended more ++ []) (is ∙ regroup next more [])
              (and_parts (is_one_line next) (list_all is_one_line more) one).0
              (record {
                more = more;
                whole =
                    subst (λ (ts : List (List ℕ)). LeadsTo order ts order.end)
                    (whole ∙ sym (append_assoc b.before (next ∷ []) more)) a;
              })

      -- the lines before the bad one are those of the text and more
      lines_before : GoesOn texts b.before [] b.left → ⊥
      lines_before g = by g.more g.whole g.is
        where
          by : (more : List (List ℕ)) → b.before ≡ texts ++ more
              → [] ≡ ended more ++ b.left → ⊥
          by [] whole is =
              b.missing (sym is)
              (subst (λ (ts : List (List ℕ)). LeadsTo order ts order.end)
              (sym (whole ∙ append-nil texts)) a)
          by (next ∷ more) whole is =
              nothing_ended next (ended more ++ b.left) (is ∙ regroup next more b.left)

    pub never_both : (texts : List (List ℕ)) (number : ℕ) → LeadsTo order texts order.end →
        IsFirstBad order (ended texts) number → ⊥
    never_both texts number a b =
        let both : ended b.before ++ b.left ≡ ended texts ++ [] =
        sym b.joined ∙ sym (append-nil (ended texts)) in
        elim (compared b.before texts b.left [] b.one_by_one (one_by_one a) both) [
          | inl g ↦ lines_after a b g
          | inr g ↦ lines_before a b g
        ]
