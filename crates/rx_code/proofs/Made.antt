-- The rule set of whole code is well made.
use Rattle.std.proofs.Common.{◌≡◌, ◌∙◌, ap, subst, refl, Bool, true, false, ◌⊎◌, inl, inr, ℕ, zero, suc, ◌+◌, ◌-◌, ◌<◌, ◌≤◌, Option, Some, None, List, [], ◌∷◌, ◌++◌, length, map, take, drop, pos, negsuc, arith, length-append}
use Rattle.std.specs.Prelude.{All, Contains, filter, nat_lt, nat_eq, slice_get}
use Rattle.std.specs.List.{enumerate_from, list_all}
use Rattle.std.specs.Option.{option_map}
use Rattle.std.proofs.lemmas.Bool.{and_from, and_parts, eq-eqb, lt-ltb}
use Rattle.std.proofs.lemmas.List.{length-drop, length-take-le}
use Rattle.std.proofs.lemmas.List.Folds.{list_all-append}
use Rattle.std.proofs.lemmas.Option.{slice_get-map}
use Rattle.rx_plain.proofs.Lists.{all_pushed, all_taken}
use Rattle.c_ast.specs.declared.integers.Integers.{Integers}
use Rattle.c_ast.specs.declared.integers.Integers.TheVariants.{Unbounded, Bits32}
use Rattle.rx_poly.specs.Constants.{number, variable}
use Rattle.rx_poly.specs.Variables.{uses_below}
use Rattle.rx_poly.specs.declared.body.Body.{Body}
use Rattle.rx_poly_laws.proofs.TestLaws.{passes-quotient_of, passes-remainder_of, passes-scaled_by, passes-body_difference, passes-number, passes-variable}
use Rattle.rx_row.specs.Negation.{minus_one_more, negation, opposite}
use Rattle.rx_row.specs.Variables.{rows_use_below}
use Rattle.rx_row.specs.declared.row.Row.{Row}
use Rattle.rx_row.specs.declared.row.Row.TheVariants.{Ge, Eq, Ne}
use Rattle.rx_term.specs.Fitting.{code_fits, is_alike, is_declared, term_fits}
use Rattle.rx_term.specs.Variables.{polys_use_below, term_uses_below}
use Rattle.rx_term.specs.WellMade.{IsMade, IsWellMade, OfPoint, OverReturn, OverFail, variables_from, width}
use Rattle.rx_term.specs.declared.rule.Rule.{Rule}
use Rattle.rx_term.specs.declared.rule_set.RuleParts.{RuleParts}
use Rattle.rx_term.specs.declared.rule_set.SymInfo.{SymInfo}
use Rattle.rx_term.specs.declared.term.Term.{Term}
use Rattle.rx_term.specs.declared.term.Term.TheVariants as term
use Rattle.rx_term.proofs.Equations.{arguments-Call, arguments-Frame, arguments-Fail, arguments-Return, below-Call, below-Fail, below-Frame, below-Return, fits-Call, fits-Fail, fits-Frame, fits-Return}
use Rattle.rx_plain.proofs.Kept.{first_one, first_or_other, other_one, was_there}
use Rattle.rx_term.proofs.ShapeLaws.{declared_so}
use Rattle.rx_term.proofs.VariableTests.{length-variables_from}
use Rattle.rx_code.specs.Points.{with_element}
use Rattle.rx_code.specs.Programs.{entry_of}
use Rattle.rx_code.specs.Rules.{call_of, divided, failure_codes, info_at, jump, over_failure, over_value, parts_of, rules_at, rules_of_action, rules_of_instruction, symbol, variables_of}
use Rattle.rx_code.specs.declared.action.Action.{Action}
use Rattle.rx_code.specs.declared.action.Action.TheVariants.{Go, Set, Test, Exclude, Divide, Call, Resume, Return}
use Rattle.rx_code.specs.declared.action.Instruction.{Instruction}
use Rattle.rx_code.specs.declared.action.Division.{Division}
use Rattle.rx_code.specs.declared.action.Division.TheVariants.{Quotient, Remainder}
use Rattle.rx_code.specs.declared.code.Code.{Code}
use Rattle.rx_code.specs.declared.point.Opening.{Opening}
use Rattle.rx_code.specs.declared.point.Point.{Point}
use Rattle.rx_code.proofs.Elements.{all_from, from_flat_map, no_element}
use Rattle.rx_code.proofs.Whole.{FitsCode, IsOpened, IsTarget, IsWhole, Suits, is_at, is_resume}
use Rattle.std.proofs.lemmas.List.Elements.{All-cons, All-nil, All-contains}

-- ---- lists of polynomials over the first variables

below-variable : (n v : ℕ) → v < n → uses_below n (variable v) ≡ true
below-variable n v h = passes-variable (λ w. nat_lt w n) v (lt-ltb v n h)

pub variables_below : (n from count : ℕ) → from + count ≤ n →
    polys_use_below n (variables_from from count) ≡ true
variables_below n from zero h = refl
variables_below n from (suc count) h =
    and_from (uses_below n (variable from)) (polys_use_below n (variables_from (from + 1) count))
    (below-variable n from (omega (arith, h)))
    (variables_below n (from + 1) count (omega (arith, h)))

all-drop : {X : Type 0} (p : X → Bool) (k : ℕ) (xs : List X) → list_all p xs ≡ true →
    list_all p (drop k xs) ≡ true
all-drop p zero xs h = h
all-drop p (suc k) [] h = refl
all-drop p (suc k) (x ∷ xs) h = all-drop p k xs (and_parts (p x) (list_all p xs) h).1

all-append : {X : Type 0} (p : X → Bool) (xs ys : List X) → list_all p xs ≡ true → list_all p ys ≡
    true → list_all p (xs ++ ys) ≡ true
all-append p xs ys h g = list_all-append p xs ys ∙ and_from (list_all p xs) (list_all p ys) h g

all-with_element : {X : Type 0} (p : X → Bool) (k : ℕ) (x : X) (xs : List X) → list_all p xs ≡
    true → p x ≡ true → list_all p (with_element k x xs) ≡ true
all-with_element p k x xs h g =
    all-append p (take k xs) (x ∷ drop (suc k) xs) (all_taken p k xs h)
    (and_from (p x) (list_all p (drop (suc k) xs)) g (all-drop p (suc k) xs h))

length-with_element : {X : Type 0} (k : ℕ) (x : X) (xs : List X) → k ≤ length xs →
    length (with_element k x xs) ≡ k + suc (length xs - suc k)
length-with_element k x xs h =
    let e = length-append (take k xs) (x ∷ drop (suc k) xs) in let f = length-take-le k xs h in
    let g = length-drop (suc k) xs in omega (arith, e, f, g)

-- ---- symbols

numbered_at : {X : Type 0} (n : ℕ) (xs : List X) (k : ℕ) → slice_get (enumerate_from n xs) k ≡
    option_map (λ (x : X). (n + k, x)) (slice_get xs k)
numbered_at n [] k = refl
numbered_at {X} n (x ∷ xs) zero = let e : n ≡ n + 0 = omega arith in ap (λ (m : ℕ). Some (m, x)) e
numbered_at {X} n (x ∷ xs) (suc k) =
    let e : (n + 1) + k ≡ n + suc k = omega arith in
    numbered_at (n + 1) xs k ∙ ap (λ (m : ℕ). option_map (λ (y : X). (m, y)) (slice_get xs k)) e

alike_itself : (b : Bool) → is_alike b b ≡ true
alike_itself true = refl
alike_itself false = refl

-- a code of a failure fits as many failures as there are codes
pub code_there : (integers : Integers) (code : ℕ) → Contains (failure_codes integers) code →
    code_fits (length (failure_codes integers)) code ≡ true
code_there Unbounded code there =
    elim (first_or_other 1 [] code there) [
      | inl same ↦ subst (λ k. code_fits 1 k ≡ true) same refl
      | inr other ↦
          absurd (no_element code other)
    ]
code_there Bits32 code there =
    elim (first_or_other 1 (2 ∷ []) code there) [
      | inl same ↦ subst (λ k. code_fits 2 k ≡ true) same refl
      | inr other ↦ elim (first_or_other 2 [] code other) [
        | inl same ↦ subst (λ k. code_fits 2 k ≡ true) same refl
        | inr none ↦ absurd (no_element code none)
      ]
    ]

-- 1 is the code of a failure
pub one_there : (integers : Integers) → Contains (failure_codes integers) 1
one_there Unbounded = first_one 1 []
one_there Bits32 = first_one 1 (2 ∷ [])

module _ (integers : Integers) (c : Code) where
  pub symbol_at : (k : ℕ) → slice_get (parts_of integers c).symbols k ≡
      option_map (λ (o : Opening). info_at c (k, o)) (slice_get c.opened k)
  symbol_at k =
      slice_get-map (info_at c) (enumerate_from 0 c.opened) k
      ∙ ap (option_map (info_at c)) (numbered_at 0 c.opened k ∙
      ap (λ (m : ℕ). option_map (λ (o : Opening). (m, o)) (slice_get c.opened k)) (omega arith))
      ∙ twice (slice_get c.opened k)
    where
      twice : (o : Option Opening) → option_map (info_at c) (option_map (λ (o : Opening). (k, o)) o)
          ≡ option_map (λ (o : Opening). info_at c (k, o)) o
      twice None = refl
      twice (Some o) = refl

  -- an opened symbol is declared so
  pub declared : (k width : ℕ) (frame : Bool) → IsOpened c k width frame →
      is_declared (parts_of integers c).symbols (symbol k) frame width ≡ true
  declared k count frame opened =
      ap (λ (o : Option SymInfo). declared_so o frame count)
      (symbol_at k ∙ ap (option_map (λ (o : Opening). info_at c (k, o))) opened)
      ∙ and_from (is_alike frame frame) (nat_eq count count) (alike_itself frame)
      (eq-eqb count count refl)

  -- ---- sides

  abbrev set : RuleParts
  set = parts_of integers c

  length-variables : (a : Point) → length (variables_of a) ≡ a.width
  length-variables a = length-variables_from 0 a.width

  below_itself : (a : Point) → polys_use_below a.width (variables_of a) ≡ true
  below_itself a = variables_below a.width 0 a.width (omega arith)

  width-call_of : (a : Point) → width (call_of a) ≡ a.width
  width-call_of a =
      ap length (arguments-Call (symbol a.symbol) (variables_of a)) ∙ length-variables a

  fits-point : (a : Point) → IsOpened c a.symbol a.width false → term_fits set (call_of a) ≡ true
  fits-point a opened =
      fits-Call set (symbol a.symbol) (variables_of a)
      ∙ ap (is_declared set.symbols (symbol a.symbol) false) (length-variables a) ∙
      declared a.symbol a.width false opened

  fits-jump : (z : Point) (ps : List Body) (n : ℕ) → n ≤ length ps → IsTarget c n z →
      term_fits set (jump z ps) ≡ true
  fits-jump z ps n enough target =
      let e = target.enough in
      fits-Call set (symbol z.symbol) (take z.width ps)
      ∙ ap (is_declared set.symbols (symbol z.symbol) false)
      (length-take-le z.width ps (omega (arith, enough, e)))
      ∙ declared z.symbol z.width false target.opened

  below-jump : (n : ℕ) (z : Point) (ps : List Body) → polys_use_below n ps ≡ true →
      term_uses_below n (jump z ps) ≡ true
  below-jump n z ps h =
      below-Call n (symbol z.symbol) (take z.width ps) ∙ all_taken (uses_below n) z.width ps h

  -- ---- rules of points

  made_at : (a : Point) → IsOpened c a.symbol a.width false → a.width ≤ 128 →
      (right : Term) (rows : List Row)
      → term_fits set right ≡ true → term_uses_below a.width right ≡ true →
      rows_use_below a.width rows ≡ true
      → IsMade set (record { left = call_of a; right = right; rows = rows })
  made_at a opened narrow right rows fits below rows_below = record {
    form = OfPoint (symbol a.symbol) a.width;
    few = let e = width-call_of a in omega (arith, e, narrow);
    left_fits = fits-point a opened;
    right_fits = fits;
    right_variables = ap (λ n. term_uses_below n right) (width-call_of a) ∙ below;
    row_variables = ap (λ n. rows_use_below n rows) (width-call_of a) ∙ rows_below;
  }

  jumps : (a : Point) → IsOpened c a.symbol a.width false → a.width ≤ 128 → (rows : List Row) →
      rows_use_below a.width rows ≡ true
      → (z : Point) (ps : List Body) (n : ℕ) → n ≤ length ps → IsTarget c n z →
      polys_use_below a.width ps ≡ true
      → IsMade set (record { left = call_of a; right = jump z ps; rows = rows })
  jumps a opened narrow rows rows_below z ps n enough target below =
      made_at a opened narrow (jump z ps) rows (fits-jump z ps n enough target)
      (below-jump a.width z ps below) rows_below

  below-negation : (n : ℕ) (row : Row) → rows_use_below n (row ∷ []) ≡ true →
      rows_use_below n (negation row ∷ []) ≡ true
  below-negation n (Ge p) h =
      let p_below = (and_parts (uses_below n p) true h).0 in
      let test = λ (v : ℕ). nat_lt v n in
      and_from (uses_below n (minus_one_more p)) true
      (passes-body_difference test (opposite p) (number (pos 1))
      (passes-scaled_by test (negsuc 0) p p_below) (passes-number test (pos 1))) refl
  below-negation n (Eq p) h = h
  below-negation n (Ne p) h = h

  below-divided : (n : ℕ) (d : Division) (p q : Body) → uses_below n p ≡ true → uses_below n q ≡
      true → uses_below n (divided d p q) ≡ true
  below-divided n Quotient p q h g = passes-quotient_of (λ v. nat_lt v n) p q h g
  below-divided n Remainder p q h g = passes-remainder_of (λ v. nat_lt v n) p q h g

  one_made : (r : Rule) → IsMade set r → All (IsMade set) (r ∷ [])
  one_made r is = All-cons (IsMade set) r [] is (All-nil (IsMade set))

  two_made : (r q : Rule) → IsMade set r → IsMade set q → All (IsMade set) (r ∷ q ∷ [])
  two_made r q is also = All-cons (IsMade set) r (q ∷ []) is (one_made q also)

  -- ---- rules of frames

  width-value : (a : Point) → width (term.Frame (symbol a.symbol) (variables_of a)
      (term.Return (variable a.width))) ≡ a.width + 1
  width-value a =
      let inner = term.Return (variable a.width) in
      let e = ap length (arguments-Frame (symbol a.symbol) (variables_of a) inner) in
      let f = ap (λ qs. length (variables_of a ++ qs)) (arguments-Return (variable a.width)) in
      let g = length-append (variables_of a) (variable a.width ∷ []) in let h =
      length-variables a in
      e ∙ f ∙ omega (arith, g, h)

  width-failure : (a : Point) (code : ℕ) →
      width (term.Frame (symbol a.symbol) (variables_of a) (term.Fail code)) ≡ a.width
  width-failure a code =
      let e = ap length (arguments-Frame (symbol a.symbol) (variables_of a) (term.Fail code)) in
      let f = ap (λ qs. length (variables_of a ++ qs)) (arguments-Fail code) in
      let g = length-append (variables_of a) [] in let h = length-variables a in
      e ∙ f ∙ omega (arith, g, h)

  -- a code of a failure fits
  fits-code : (code : ℕ) → Contains (failure_codes integers) code →
      term_fits set (term.Fail code) ≡ true
  fits-code code there = fits-Fail set code ∙ code_there integers code there

  fits-frame : (a : Point) (inner : Term) → IsOpened c a.symbol a.width true → term_fits set inner ≡
      true → term_fits set (term.Frame (symbol a.symbol) (variables_of a) inner) ≡ true
  fits-frame a inner opened fits =
      fits-Frame set (symbol a.symbol) (variables_of a) inner
      ∙ and_from (is_declared set.symbols (symbol a.symbol) true (length (variables_of a)))
      (term_fits set inner)
      (ap (is_declared set.symbols (symbol a.symbol) true) (length-variables a) ∙
      declared a.symbol a.width true opened) fits

  -- the rules that hand failures on
  failures_made : (a : Point) → IsOpened c a.symbol a.width true → a.width ≤ 128 →
      (codes : List ℕ) → ((code : ℕ) → Contains codes code → Contains (failure_codes integers) code)
      → All (IsMade set) (map (over_failure a) codes)
  failures_made a opened narrow [] are = All-nil (IsMade set)
  failures_made a opened narrow (code ∷ codes) are =
      let fits = fits-code code (are code (first_one code codes)) in
      All-cons (IsMade set) (over_failure a code) (map (over_failure a) codes)
      (record {
        form = OverFail (symbol a.symbol) a.width code;
        few = let e = width-failure a code in omega (arith, e, narrow);
        left_fits = fits-frame a (term.Fail code) opened fits;
        right_fits = fits;
        right_variables =
            below-Fail (width (term.Frame (symbol a.symbol) (variables_of a) (term.Fail code)))
            code;
        row_variables = refl;
      })
      (failures_made a opened narrow codes
      (λ k there. are k (other_one code codes k there)))

  instruction_made : (d : Instruction) → FitsCode integers c d → All (IsMade set)
      (rules_of_instruction integers (entry_of c.entries) d)
  instruction_made d fits = go d.at d.action fits.opened fits.narrow fits.suits
    where
      go : (a : Point) (x : Action) → IsOpened c a.symbol a.width (is_resume x) → a.width ≤ 128 →
          Suits integers c a.width x
          → All (IsMade set) (rules_of_action integers (entry_of c.entries) a x)
      go a (Go z) opened narrow target =
          one_made _ (jumps a opened narrow [] refl z (variables_of a) a.width
          (let e = length-variables a in omega (arith, e)) target (below_itself a))
      go a (Set k p z) opened narrow (below, (fits_z, (target, p_below))) =
          let ps = with_element k p (variables_of a) in
          let e = length-with_element k p (variables_of a)
          (let g = length-variables a in omega (arith, g, below)) in
          let g = length-variables a in
          let lower : (z.width ≤ a.width) ⊎ (k ≡ a.width) → IsTarget c (length ps) z = λ is.
          record {
            opened = target.opened;
            enough =
                elim is [
                  | inl h ↦ omega (arith, e, g, h, below)
                  | inr h ↦ (let i = target.enough in omega (arith, e, g, h, i))
                ];
          } in
          one_made _ (jumps a opened narrow [] refl z ps (length ps) (omega arith) (lower fits_z)
          (all-with_element (uses_below a.width) k p (variables_of a) (below_itself a) p_below))
      go a (Test row y w) opened narrow (to_y, (to_w, row_below)) =
          let enough : a.width ≤ length (variables_of a) = let e = length-variables a in
          omega (arith, e) in
          two_made _ _ (jumps a opened narrow (row ∷ []) row_below y (variables_of a) a.width enough
          to_y (below_itself a))
          (jumps a opened narrow (negation row ∷ []) (below-negation a.width row row_below) w
          (variables_of a) a.width enough to_w (below_itself a))
      go a (Exclude row z) opened narrow (to_z, (row_below, code)) =
          let enough : a.width ≤ length (variables_of a) = let e = length-variables a in
          omega (arith, e) in
          two_made _ _
          (made_at a opened narrow (term.Fail 2) (row ∷ []) (fits-code 2 code)
          (below-Fail a.width 2) row_below)
          (jumps a opened narrow (negation row ∷ []) (below-negation a.width row row_below) z
          (variables_of a) a.width enough to_z (below_itself a))
      go a (Divide d p q z) opened narrow (target, (p_below, q_below)) =
          let ps = variables_of a ++ divided d p q ∷ [] in
          let q_row = and_from (uses_below a.width q) true q_below refl in
          let long = length-append (variables_of a) (divided d p q ∷ []) in
          let enough : suc a.width ≤ length ps = let e = length-variables a in
          omega (arith, e, long) in
          two_made _ _ (made_at a opened narrow (term.Fail 1) (Eq q ∷ [])
          (fits-code 1 (one_there integers)) (below-Fail a.width 1) q_row)
          (jumps a opened narrow (Ne q ∷ []) q_row z ps (suc a.width) enough target
          (all_pushed (uses_below a.width) (variables_of a) (divided d p q) (below_itself a)
          (below-divided a.width d p q p_below q_below)))
      go a (Call f ps r) opened narrow (frame, (fits_r, (entry, ps_below))) =
          let inner = term.Call (symbol (entry_of c.entries f)) ps in
          let vs = take r.width (variables_of a) in
          let right = term.Frame (symbol r.symbol) vs inner in
          let long : length vs ≡ r.width = length-take-le r.width (variables_of a)
          (let e = length-variables a in omega (arith, e, fits_r)) in
          one_made _ (made_at a opened narrow right []
          (fits-Frame set (symbol r.symbol) vs inner
          ∙ and_from (is_declared set.symbols (symbol r.symbol) true (length vs))
          (term_fits set inner)
          (ap (is_declared set.symbols (symbol r.symbol) true) long ∙
          declared r.symbol r.width true frame)
          (fits-Call set (symbol (entry_of c.entries f)) ps ∙
          declared (entry_of c.entries f) (length ps) false entry))
          (below-Frame a.width (symbol r.symbol) vs inner
          ∙ and_from (polys_use_below a.width vs) (term_uses_below a.width inner)
          (all_taken (uses_below a.width) r.width (variables_of a) (below_itself a))
          (below-Call a.width (symbol (entry_of c.entries f)) ps ∙ ps_below)) refl)
      go a (Resume z) opened narrow target =
          let value = term.Return (variable a.width) in
          let ps = variables_of a ++ variable a.width ∷ [] in
          let long = length-append (variables_of a) (variable a.width ∷ []) in
          let enough : suc a.width ≤ length ps = let e = length-variables a in
          omega (arith, e, long) in
          All-cons (IsMade set) (over_value a z) (map (over_failure a) (failure_codes integers))
          (record {
            form = OverReturn (symbol a.symbol) a.width;
            few = let e = width-value a in omega (arith, e, narrow);
            left_fits = fits-frame a value opened (fits-Return set (variable a.width));
            right_fits = fits-jump z ps (suc a.width) enough target;
            right_variables = ap (λ n. term_uses_below n (jump z ps)) (width-value a)
                ∙ below-jump (a.width + 1) z ps
                (all_pushed (uses_below (a.width + 1)) (variables_of a) (variable a.width)
                (variables_below (a.width + 1) 0 a.width (omega arith))
                (below-variable (a.width + 1) a.width (omega arith)));
            row_variables = refl;
          })
          (failures_made a opened narrow (failure_codes integers) (λ code there. there))
      go a (Return p) opened narrow p_below =
          one_made _ (made_at a opened narrow (term.Return p) [] (fits-Return set p)
          (below-Return a.width p ∙ p_below) refl)

  pub whole_made : IsWhole integers c → IsWellMade (parts_of integers c)
  whole_made whole = all_from (IsMade set) set.rules (λ r there.
      let of_symbol = from_flat_map (λ (o : ℕ × Opening). rules_at integers c o.0)
      (enumerate_from 0 c.opened) r there in
      let of_instruction = from_flat_map (rules_of_instruction integers (entry_of c.entries))
      (filter (is_at of_symbol.from.0) c.instructions) r of_symbol.inside in
      let among : Contains c.instructions of_instruction.from =
      was_there (is_at of_symbol.from.0) c.instructions of_instruction.from of_instruction.among in
      All-contains (IsMade set) (rules_of_instruction integers (entry_of c.entries)
      of_instruction.from) r
      (instruction_made of_instruction.from (whole.fits of_instruction.from among))
      of_instruction.inside)
