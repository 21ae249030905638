-- Common suffixes, found part by part from inside out.
use Rattle.std.proofs.Common.{◌≡◌, ◌≢◌, ◌∙◌, ap, subst, sym, refl, cond, ℕ, suc, ◌+◌, ◌-◌, ◌==◌, Bool, true, false, ◌&&◌, List, [], ◌∷◌, ◌++◌, length, map, reverse, zip, arith, add-zero, add_assoc, append_assoc, zero-add}
use Rattle.std.specs.Prelude.{IfOk, Result, Ok, Err}
use Rattle.std.proofs.lemmas.List.{map-append, reverse-append, length-append}
use Rattle.rx_cert.proofs.FindingLaws.{and_yes}
use Rattle.rx_plain.proofs.Lists.{empty_by_length}
use Rattle.rx_cert.specs.Findings.{Said, Yes, No, Beyond, and_also}
use Rattle.rx_cert.specs.Showing.{all_shown, shown}
use Rattle.rx_poly.specs.declared.body.Body.{Body}
use Rattle.rx_row.specs.declared.row.Row.{Row}
use Rattle.rx_solve.specs.Refuter.{refuted}
use Rattle.rx_solve.specs.Shown.{IsAllShown}
use Rattle.rx_solve.specs.declared.showing.AllShown.{AllShown}
use Rattle.rx_solve.specs.declared.showing.AllShown.TheVariants as all
use Rattle.rx_term.specs.Stacks.{depth_of, ends_in_call, ends_in_call_level}
use Rattle.rx_term.specs.declared.term.Sym.{Sym}
use Rattle.rx_term.specs.declared.term.Term.{Term}
use Rattle.rx_term.specs.declared.term.Term.TheFolds.{fold_out-Term}
use Rattle.rx_term.specs.declared.term.Term.TheVariants.{Return, Fail, Call, Frame, outs-Return, outs-Fail, outs-Call, outs-Frame}
use Rattle.rx_term.proofs.Equations.{depth-Call, depth-Frame, induct}
use Rattle.rx_moves.specs.SuffixAnswers.{SaysEqual, part_of, part_said}
use Rattle.rx_moves.specs.Suffixes as suffixes
use Rattle.rx_moves.specs.Suffixes.{common, common_if, common_suffix, ended, equal_shown, equals_shown, inwards, inwards_level}
use Rattle.rx_moves.specs.declared.finding.Common.{Common}
use Rattle.rx_moves.specs.declared.finding.Equality.{Equality}
use Rattle.rx_moves.specs.declared.finding.Equality.TheVariants as equality
use Rattle.rx_moves.specs.declared.finding.Part.{Part}
use Rattle.rx_moves.specs.declared.finding.Suffix.{Suffix}

-- ---- one row

-- the same without certificates
abbrev pub equality_of : AllShown → Equality
equality_of (all.Shown certs) = equality.Shown
equality_of all.NotShown = equality.NotShown
equality_of all.TooLarge = equality.TooLarge

-- what is found of a row, by what is found of the list of it alone
pub row_said : (given : List Row) (row : Row) (rows : List Row) (a : AllShown) → rows ≡ row ∷ [] →
    IsAllShown given rows a
    → SaysEqual (shown refuted given row) (equality_of a)
row_said given row rows a alone is = by a (subst (λ rs. IsAllShown given rs a) alone is)
  where
    one : all_shown refuted given (row ∷ []) ≡ shown refuted given row
    one = and_yes (shown refuted given row)

    by : (a : AllShown) → IsAllShown given (row ∷ []) a →
        SaysEqual (shown refuted given row) (equality_of a)
    by (all.Shown certs) is = sym one ∙ is.0
    by all.NotShown is = sym one ∙ is
    by all.TooLarge is = sym one ∙ is

-- so of an answer
pub row_answer : {E : Type 0} (given : List Row) (row : Row) (rows : List Row) (a b : AllShown)
    (r : Result Equality E) → rows ≡ row ∷ []
    → IsAllShown given rows a → a ≡ b → r ≡ Ok (equality_of b) →
    IfOk r (SaysEqual (shown refuted given row))
row_answer given row rows a b r alone is same e =
    subst (λ x. IfOk x (SaysEqual (shown refuted given row))) (sym e)
    (row_said given row rows b alone (subst (λ x. IsAllShown given rows x) same is))

-- ---- polynomials in pairs

none_left : (ps : List Body) → zip {X = Body} ps [] ≡ []
none_left [] = refl
none_left (p ∷ ps) = refl

module _ (given : List Row) (rest others : List Body) where
  -- one list is at its end
  pub ends_left : length rest ≡ 0 → equals_shown given (zip rest others) ≡ Yes
  ends_left e = ap (λ ps. equals_shown given (zip ps others)) (empty_by_length rest e)

  pub ends_right : length others ≡ 0 → equals_shown given (zip rest others) ≡ Yes
  ends_right e =
      ap (λ qs. equals_shown given (zip rest qs)) (empty_by_length others e) ∙
      ap (equals_shown given) (none_left rest)

  module _ (p q : Body) (more further : List Body) (left : rest ≡ p ∷ more)
      (right : others ≡ q ∷ further) where
    one_pair : equals_shown given (zip rest others) ≡
        and_also (equal_shown given (p, q)) (equals_shown given (zip more further))
    one_pair =
        ap (λ ps. equals_shown given (zip ps others)) left ∙
        ap (λ qs. equals_shown given (zip (p ∷ more) qs)) right

    -- a pair is shown equal, and the others decide
    pub pair_shown : equal_shown given (p, q) ≡ Yes → equals_shown given (zip rest others) ≡
        equals_shown given (zip more further)
    pair_shown e = one_pair ∙ ap (λ s. and_also s (equals_shown given (zip more further))) e

    -- or it decides
    pub pair_not : equal_shown given (p, q) ≡ No → equals_shown given (zip rest others) ≡ No
    pair_not e = one_pair ∙ ap (λ s. and_also s (equals_shown given (zip more further))) e

    pub pair_beyond : equal_shown given (p, q) ≡ Beyond → equals_shown given (zip rest others) ≡
        Beyond
    pair_beyond e = one_pair ∙ ap (λ s. and_also s (equals_shown given (zip more further))) e

-- ---- parts

-- n common parts before those
abbrev pub ahead : ℕ → Common → Common
ahead n c = record { parts = n + c.parts; noted = c.noted }

-- the parts of a list that is borrowed, from inside out
abbrev pub outwards : List Part → List suffixes.Part
outwards ps = reverse (map part_of ps)

-- the parts that are common so far, before those of what is left, are those of both lists
pub record Along (given : List Row) (n : ℕ) (rest others lefts rights : List Part) : Type 0 where
  pub count : n + length rest ≡ length lefts
  pub all : ahead n (common given (outwards rest) (outwards others)) ≡
      common given (outwards lefts) (outwards rights)

-- none is found yet
pub begin : (given : List Row) (lefts rights : List Part) → Along given 0 lefts rights lefts rights
begin given lefts rights = record {
  count = zero-add (length lefts);
  all =
      let whole = common given (outwards lefts) (outwards rights) in
      ap (λ k. let c : Common = record { parts = k; noted = whole.noted } in c)
      (zero-add whole.parts);
}

-- the last part comes first
last_first : (ps more : List Part) (p : Part) → ps ≡ more ++ p ∷ [] → outwards ps ≡ part_of p ∷
    outwards more
last_first ps more p e =
    ap outwards e ∙ ap reverse (map-append part_of more (p ∷ [])) ∙
    reverse-append (map part_of more) (part_of p ∷ [])

-- what is said of the first parts decides
by_first : (given : List Row) (p q : suffixes.Part) (ps qs : List suffixes.Part)
    → common given (p ∷ ps) (q ∷ qs) ≡ common_if (part_said given p q) (common given ps qs)
by_first given p q ps qs = by (p.symbol == q.symbol)
  where
    by : (b : Bool) → cond b (common_if (equals_shown given (zip p.arguments q.arguments))
        (common given ps qs)) ended
        ≡ common_if (cond b (equals_shown given (zip p.arguments q.arguments)) No)
        (common given ps qs)
    by true = refl
    by false = refl

no_others : (given : List Row) (ps : List suffixes.Part) → common given ps [] ≡ ended
no_others given [] = refl
no_others given (p ∷ ps) = refl

-- no more than those before
no_more : (n : ℕ) (noted : Bool) → record { parts = n; noted = noted } ≡
    ahead n (record { parts = 0; noted = noted })
no_more n noted =
    ap (λ k. let c : Common = record { parts = k; noted = noted } in c) (sym (add-zero n))

module _ (given : List Row) (n : ℕ) (rest others lefts rights : List Part)
    (so_far : Along given n rest others lefts rights) where
  -- no parts are left on a side
  pub no_left : length rest ≡ 0 → record { parts = n; noted = false } ≡
      common given (outwards lefts) (outwards rights)
  no_left e =
      no_more n false ∙ ap (λ ps. ahead n (common given (outwards ps) (outwards others)))
      (sym (empty_by_length rest e)) ∙ so_far.all

  pub no_right : length others ≡ 0 → record { parts = n; noted = false } ≡
      common given (outwards lefts) (outwards rights)
  no_right e =
      no_more n false ∙ ap (ahead n) (sym (no_others given (outwards rest)))
      ∙ ap (λ qs. ahead n (common given (outwards rest) (outwards qs))) (sym (empty_by_length others e)) ∙
      so_far.all

  module _ (p q : Part) (more further : List Part) (left : rest ≡ more ++ p ∷ [])
      (right : others ≡ further ++ q ∷ []) where
    by_last : ahead n (common_if (part_said given (part_of p) (part_of q))
        (common given (outwards more) (outwards further)))
        ≡ common given (outwards lefts) (outwards rights)
    by_last =
        ap (ahead n) (sym (by_first given (part_of p) (part_of q) (outwards more)
        (outwards further)))
        ∙ ap (λ ps. ahead n (common given ps (part_of q ∷ outwards further)))
        (sym (last_first rest more p left))
        ∙ ap (λ qs. ahead n (common given (outwards rest) qs))
        (sym (last_first others further q right))
        ∙ so_far.all

    by_said : (s : Said) → part_said given (part_of p) (part_of q) ≡ s
        → ahead n (common_if s (common given (outwards more) (outwards further))) ≡
        common given (outwards lefts) (outwards rights)
    by_said s e =
        ap (λ x. ahead n (common_if x (common given (outwards more) (outwards further)))) (sym e) ∙
        by_last

    -- one more is common
    pub next_part : part_said given (part_of p) (part_of q) ≡ Yes →
        Along given (n + 1) more further lefts rights
    next_part e =
        let later = common given (outwards more) (outwards further) in
        let one_less : length rest ≡ length more + 1 = ap length left ∙
        length-append more (p ∷ []) in
        let counted = so_far.count in
        record {
          count = omega (arith, one_less, counted);
          all =
              ap (λ k. let c : Common = record { parts = k; noted = later.noted } in c)
              (add_assoc n 1 later.parts) ∙ by_said Yes e;
        }

    -- or none
    pub part_differs : part_said given (part_of p) (part_of q) ≡ No →
        record { parts = n; noted = false } ≡ common given (outwards lefts) (outwards rights)
    part_differs e = no_more n false ∙ by_said No e

    pub part_beyond : part_said given (part_of p) (part_of q) ≡ Beyond →
        record { parts = n; noted = true } ≡ common given (outwards lefts) (outwards rights)
    part_beyond e = no_more n true ∙ by_said Beyond e

-- ---- the parts of a term

pub inwards-Call : (f : Sym) (ps : List Body) → inwards (Call f ps) ≡
    record { symbol = f.0; arguments = ps } ∷ []
inwards-Call f ps =
    fold_out-Term (List suffixes.Part) inwards_level (Call f ps) ∙ rw (outs-Call f ps) refl

pub inwards-Frame : (f : Sym) (ps : List Body) (t : Term) → inwards (Frame f ps t) ≡
    record { symbol = f.0; arguments = ps } ∷ inwards t
inwards-Frame f ps t =
    fold_out-Term (List suffixes.Part) inwards_level (Frame f ps t) ∙ rw (outs-Frame f ps t) refl

-- a part more is found, and what is left of the term begins inside it
module _ (t here : Term) (done made : List Part) (part : Part) (f : Sym) (ps : List Body)
    (before : map part_of done ++ inwards here ≡ inwards t)
    (same : part_of part ≡ record { symbol = f.0; arguments = ps })
    (new : made ≡ done ++ part ∷ []) where
  pushed : map part_of made ≡ map part_of done ++ record { symbol = f.0; arguments = ps } ∷ []
  pushed =
      ap (map part_of) new ∙ map-append part_of done (part ∷ [])
      ∙ ap (λ p. map part_of done ++ p ∷ []) same

  pub frame_found : (inner : Term) → here ≡ Frame f ps inner →
      map part_of made ++ inwards inner ≡ inwards t
  frame_found inner is =
      ap (λ xs. xs ++ inwards inner) pushed
      ∙ append_assoc (map part_of done) (record { symbol = f.0; arguments = ps } ∷ [])
      (inwards inner)
      ∙ ap (λ xs. map part_of done ++ xs) (sym (inwards-Frame f ps inner))
      ∙ ap (λ h. map part_of done ++ inwards h) (sym is) ∙ before

  pub call_found : here ≡ Call f ps → map part_of made ≡ inwards t
  call_found is =
      pushed ∙ ap (λ xs. map part_of done ++ xs) (sym (inwards-Call f ps))
      ∙ ap (λ h. map part_of done ++ inwards h) (sym is) ∙ before

ends-Return : (p : Body) → ends_in_call (Return p) ≡ false
ends-Return p = fold_out-Term Bool ends_in_call_level (Return p) ∙ rw (outs-Return p) refl

ends-Fail : (c : ℕ) → ends_in_call (Fail c) ≡ false
ends-Fail c = fold_out-Term Bool ends_in_call_level (Fail c) ∙ rw (outs-Fail c) refl

ends-Frame : (f : Sym) (ps : List Body) (t : Term) → ends_in_call (Frame f ps t) ≡ ends_in_call t
ends-Frame f ps t =
    fold_out-Term Bool ends_in_call_level (Frame f ps t) ∙ rw (outs-Frame f ps t) refl

abbrev IsCounted : Term → Type 0
IsCounted t = ends_in_call t ≡ true → length (inwards t) ≡ 1 + depth_of t

call_counted : (f : Sym) (ps : List Body) → IsCounted (Call f ps)
call_counted f ps is = ap length (inwards-Call f ps) ∙ ap (λ k. 1 + k) (sym (depth-Call f ps))

frame_counted : (f : Sym) (ps : List Body) (t : Term) → IsCounted t → IsCounted (Frame f ps t)
frame_counted f ps t inner is =
    let below = inner (sym (ends-Frame f ps t) ∙ is) in
    let deep = depth-Frame f ps t in
    let longer : length (inwards (Frame f ps t)) ≡ suc (length (inwards t)) =
    ap length (inwards-Frame f ps t) in
    omega (arith, below, deep, longer)

-- a term that ends in a call has that one and its frames
pub counted : (t : Term) → IsCounted t
counted = induct IsCounted
    (λ p is. let no = ends-Return p in cc)
    (λ c is. let no = ends-Fail c in cc)
    call_counted frame_counted

-- ---- two terms

module _ (given : List Row) (s t : Term) where
  by_ends : (a b : Bool) → ends_in_call s ≡ a → ends_in_call t ≡ b
      → cond (a && b) (common given (reverse (inwards s)) (reverse (inwards t))) ended ≡
      common_suffix given s t
  by_ends a b e f =
      ap (λ x. cond (x && b) (common given (reverse (inwards s)) (reverse (inwards t))) ended)
      (sym e)
      ∙ ap (λ x. cond (ends_in_call s && x) (common given (reverse (inwards s))
      (reverse (inwards t))) ended) (sym f)

  -- both end in calls
  pub by_lists : ends_in_call s ≡ true → ends_in_call t ≡ true →
      common given (reverse (inwards s)) (reverse (inwards t)) ≡ common_suffix given s t
  by_lists e f = by_ends true true e f

  -- or one of them doesn't
  pub no_suffix : ends_in_call s && ends_in_call t ≡ false → ended ≡ common_suffix given s t
  no_suffix e =
      ap (λ x. cond x (common given (reverse (inwards s)) (reverse (inwards t))) ended) (sym e)

-- the places of what is common are counted in frames
module _ {E : Type 0} (t : Term) (r : Result Suffix E) (is : ends_in_call t ≡ true) where
  pub left_counted : IfOk r (λ s. s.left ≡ length (inwards t) - s.common.parts) →
      IfOk r (λ s. s.common.parts ≢ 0 → s.left ≡ 1 + depth_of t - s.common.parts)
  left_counted = by r
    where
      by : (r : Result Suffix E) → IfOk r (λ s. s.left ≡ length (inwards t) - s.common.parts) →
          IfOk r (λ s. s.common.parts ≢ 0 → s.left ≡ 1 + depth_of t - s.common.parts)
      by (Ok s) e = λ some. e ∙ ap (λ k. k - s.common.parts) (counted t is)
      by (Err x) e = tt

  pub right_counted : IfOk r (λ s. s.right ≡ length (inwards t) - s.common.parts) →
      IfOk r (λ s. s.common.parts ≢ 0 → s.right ≡ 1 + depth_of t - s.common.parts)
  right_counted = by r
    where
      by : (r : Result Suffix E) → IfOk r (λ s. s.right ≡ length (inwards t) - s.common.parts) →
          IfOk r (λ s. s.common.parts ≢ 0 → s.right ≡ 1 + depth_of t - s.common.parts)
      by (Ok s) e = λ some. e ∙ ap (λ k. k - s.common.parts) (counted t is)
      by (Err x) e = tt
