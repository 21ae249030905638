-- The code of a program is whole and carries it.
use Rattle.std.proofs.Common.{◌≡◌, ◌≢◌, ◌∙◌, ap, sym, subst, refl, Bool, true, false, ◌&&◌, inl, inr, ℕ, zero, suc, ◌+◌, ◌≤◌, ◌<◌, cond, Option, Some, None, List, [], ◌∷◌, ◌++◌, length, map, pos, arith}
use Rattle.std.specs.Prelude.{All, Contains, filter, nat_eq, slice_get}
use Rattle.std.specs.List.{concat, flat_map, list_all}
use Rattle.std.proofs.lemmas.Bool.{and_parts, eq-eqb, ne_eqb}
use Rattle.std.proofs.Math.Nat.{eq-or-lt_of_le}
use Rattle.std.proofs.lemmas.Option.{same_Some}
use Rattle.std.proofs.lemmas.List.Elements.{All-cons, All-contains, All-nil, Contains-append_cases, Contains-append_left, Contains-append_right}
use Rattle.rx_plain.proofs.Lists.{all_at}
use Rattle.rx_plain.specs.Formed.{Formed}
use Rattle.rx_poly.specs.Constants.{number}
use Rattle.rx_plain.proofs.Kept.{first_one, first_or_other, other_one}
use Rattle.c_ast.specs.declared.integers.Integers.{Integers}
use Rattle.c_ast.specs.Calls.{calls_in}
use Rattle.c_ast.specs.Scoped.{is_scoped, is_scoped_function, parameter_counts, slots_after, slots_in_order}
use Rattle.c_ast.specs.declared.program.Function.{Function}
use Rattle.c_ast.specs.declared.program.Resolved.{Resolved}
use Rattle.c_ast.proofs.ScopedLaws.{fine_is}
use Rattle.rx_code.specs.Codes.{HasCode}
use Rattle.rx_code.specs.Pieces.{a_point, append_code, after, does, is_room, marks_entry, no_code, opens, point}
use Rattle.rx_code.specs.Programs.{entry_of, function_code, place_code, places_code, program_code}
use Rattle.rx_code.specs.Reached.{AreReached, ByCall, IsRising, calls_of, next_number}
use Rattle.rx_code.specs.Rules.{instruction_within}
use Rattle.rx_code.specs.Statements.{Places, list_code, stmt_code}
use Rattle.rx_code.specs.declared.action.Action.TheVariants.{Return}
use Rattle.rx_code.specs.declared.action.Instruction.{Instruction}
use Rattle.rx_code.specs.declared.code.Code.{Code}
use Rattle.rx_code.specs.declared.point.Opening.{Opening}
use Rattle.rx_code.specs.declared.point.Point.{Point}
use Rattle.rx_code.specs.Carried.{CarriesProgram, TakesCall, acts_in}
use Rattle.rx_code.proofs.Counting.{among_from, at_symbol, instructions_at, joined, one_if}
use Rattle.rx_code.proofs.Elements.{all_from, no_element}
use Rattle.rx_code.proofs.Fitting.{Fits, StandsIn, after_instruction, instruction_fits, first_point, fits_append, later_point, number_below, stands_left, stands_right}
use Rattle.rx_code.proofs.Scoped.{AreStmts, MayCall, scoped_list}
use Rattle.rx_code.proofs.StmtCodes.{list_coded}
use Rattle.rx_code.proofs.StmtCounting.{list_is_counted}
use Rattle.rx_code.proofs.StmtFitting.{list_fits}
use Rattle.rx_code.proofs.Whole.{IsOpened, IsWhole, is_at}

-- ---- lists

pub was_at : {X Y : Type 0} (v : X → Y) (xs : List X) (i : ℕ) (y : Y) → slice_get (map v xs) i ≡
    Some y → (x : X) × (slice_get xs i ≡ Some x)
was_at v [] i y is = absurd cc
was_at v (x ∷ xs) zero y is = (x, refl)
was_at v (x ∷ xs) (suc i) y is = was_at v xs i y is

pub mapped_at : {X Y : Type 0} (v : X → Y) (xs : List X) (i : ℕ) (x : X) → slice_get xs i ≡ Some x →
    slice_get (map v xs) i ≡ Some (v x)
mapped_at v [] i x is = absurd cc
mapped_at v (z ∷ xs) zero x is = ap (λ y. Some (v y)) (same_Some z x is)
mapped_at v (z ∷ xs) (suc i) x is = mapped_at v xs i x is

flat_map_concat : {X : Type 0} (v : X → List ℕ) (xs : List X) → concat (map v xs) ≡ flat_map v xs
flat_map_concat v [] = refl
flat_map_concat v (x ∷ xs) = ap (λ ys. v x ++ ys) (flat_map_concat v xs)

-- ---- the code of a function

abbrev places_in : ℕ → ℕ → Places
places_in n next =
    record {
      at = point next n;
      to = point (next + 1) 0;
      break_to = point (next + 1) 0;
      continue_to = point (next + 1) 0;
    }

abbrev end_of : ℕ → Code
end_of next = does (point (next + 1) 0) (Return (number (pos 0)))

module _ (integers : Integers) where
  abbrev body_of : Function → ℕ → Formed Code
  body_of f next = list_code (map (stmt_code integers) f.body) (places_in (length f.params) next)
      (next + 2)

  function_entries : (place : ℕ) (f : Function) (next : ℕ) →
      (function_code integers place f next).form.entries ≡ (place, next) ∷ []
  function_entries place f next =
      ap (λ (es : List (ℕ × ℕ)). (place, next) ∷ es)
      (list_is_counted 0 integers f.body (places_in (length f.params) next) (next + 2)).entries

  function_counts : (x place : ℕ) (f : Function) (next : ℕ) →
      instructions_at x (function_code integers place f next).form.instructions ≡
      among_from next (length (function_code integers place f next).form.opened) x
  function_counts x place f next =
      let h = (list_is_counted x integers f.body (places_in (length f.params) next)
      (next + 2)).counts in
      let e : (next + 1) + 1 ≡ next + 2 = omega arith in
      let g = ap (λ m. among_from m (length (body_of f next).form.opened) x) e in
      omega (arith, h, g)

  -- ---- the code of places

  module _ (functions : List Function) where
    abbrev code_of : List ℕ → ℕ → Formed Code
    code_of fs next = places_code integers functions fs next

    abbrev at_place : ℕ → ℕ → Formed Code
    at_place f next = place_code integers f (slice_get functions f) next

    total : (x : ℕ) (fs : List ℕ) (next : ℕ) →
        instructions_at x (code_of fs next).form.instructions ≡
        among_from next (length (code_of fs next).form.opened) x
    total x [] next = refl
    total x (f ∷ fs) next =
        let c = (at_place f next).form in
        let d = (code_of fs (after next c)).form in
        let j = joined x next c d in
        let h = one (slice_get functions f) in
        let g = total x fs (after next c) in
        let k = j.instructions in let l = j.symbols in omega (arith, h, g, k, l)
      where
        one : (o : Option Function) → instructions_at x
            (place_code integers f o next).form.instructions ≡
            among_from next (length (place_code integers f o next).form.opened) x
        one None = refl
        one (Some g) = function_counts x f g next

    -- an entry is that of a function in the list
    entry_place : (fs : List ℕ) (next h s : ℕ) → Contains (code_of fs next).form.entries (h, s) →
        Contains fs h
    entry_place [] next h s there = absurd (no_element (h, s) there)
    entry_place (f ∷ fs) next h s there =
        let c = (at_place f next).form in
        let d = (code_of fs (after next c)).form in
        elim (Contains-append_cases c.entries d.entries (h, s) there) [
          | inl here ↦ first (slice_get functions f) here
          | inr other ↦ other_one f fs h (entry_place fs (after next c) h s other)
        ]
      where
        first : (o : Option Function) → Contains (place_code integers f o next).form.entries
            (h, s) →
            Contains (f ∷ fs) h
        first None here = absurd (no_element (h, s) here)
        first (Some g) here =
            let this : ℕ × ℕ = (f, next) in
            let that : ℕ × ℕ = (h, s) in
            let listed : Contains (this ∷ []) that =
            subst (λ (es : List (ℕ × ℕ)). Contains es that) (function_entries f g next) here in
            elim (first_or_other this [] that listed) [
              | inl same ↦ subst (Contains (f ∷ fs)) (ap (λ (e : ℕ × ℕ). e.0) same) (first_one f fs)
              | inr none ↦ absurd (no_element that none)
            ]

    -- a function in the list that is there has an entry
    pub has_entry : (fs : List ℕ) (next h : ℕ) (g : Function) → Contains fs h →
        slice_get functions h ≡ Some g → (s : ℕ) × Contains (code_of fs next).form.entries (h, s)
    has_entry [] next h g there stands = absurd (no_element h there)
    has_entry (f ∷ fs) next h g there stands =
        let c = (at_place f next).form in
        let d = (code_of fs (after next c)).form in
        elim (first_or_other f fs h there) [
          | inl same ↦ (
            next,
            Contains-append_left c.entries d.entries (h, next)
                (here (slice_get functions f) (ap (slice_get functions) same ∙ stands) same),
          )
          | inr other ↦ (let found = has_entry fs (after next c) h g other stands in
              (found.0, Contains-append_right c.entries d.entries (h, found.0) found.1))
        ]
      where
        here : (o : Option Function) → o ≡ Some g → f ≡ h →
            Contains (place_code integers f o next).form.entries (h, next)
        here None is same = absurd cc
        here (Some k) is same =
            let this : ℕ × ℕ = (f, next) in
            let that : ℕ × ℕ = (h, next) in
            subst (λ (es : List (ℕ × ℕ)). Contains es that) (sym (function_entries f k next))
            (subst (Contains (this ∷ [])) (ap (λ (n : ℕ). (n, next)) same) (first_one this []))

    -- an entry is the first of its function
    pub entry_first : (fs : List ℕ) (next : ℕ) → IsRising fs → (h s : ℕ) →
        Contains (code_of fs next).form.entries (h, s) → entry_of (code_of fs next).form.entries h ≡
        s
    entry_first [] next rising h s there = absurd (no_element (h, s) there)
    entry_first (f ∷ fs) next (next_number _ _ above rising) h s there =
        go (λ m among. entry_first fs m rising h s among) (slice_get functions f) there
      where
        go : ((m : ℕ) → Contains (code_of fs m).form.entries (h, s) →
            entry_of (code_of fs m).form.entries h ≡ s) → (o : Option Function)
            → let c = (place_code integers f o next).form in
            let d = (code_of fs (after next c)).form in
            Contains (append_code c d).entries (h, s) → entry_of (append_code c d).entries h ≡ s
        go rest None there = rest (after next no_code) there
        go rest (Some g) there =
            let c = (function_code integers f g next).form in
            let d = (code_of fs (after next c)).form in
            let this : ℕ × ℕ = (f, next) in
            let that : ℕ × ℕ = (h, s) in
            let listed : (append_code c d).entries ≡ this ∷ d.entries =
            ap (λ (es : List (ℕ × ℕ)). es ++ d.entries) (function_entries f g next) in
            let among : Contains (this ∷ d.entries) that =
            subst (λ (es : List (ℕ × ℕ)). Contains es that) listed there in
            ap (λ (es : List (ℕ × ℕ)). entry_of es h) listed
            ∙ elim (first_or_other this d.entries that among) [
              | inl same ↦ is_first d (ap (λ (e : ℕ × ℕ). e.0) same) (ap (λ (e : ℕ × ℕ). e.1) same)
              | inr other ↦ is_other d (entry_place fs (after next c) h s other)
                  (rest (after next c) other)
            ]
          where
            is_first : (d : Code) → f ≡ h → next ≡ s → entry_of ((f, next) ∷ d.entries) h ≡ s
            is_first d same is = ap (λ b. cond b next (entry_of d.entries h)) (eq-eqb f h same) ∙ is

            is_other : (d : Code) → Contains fs h → entry_of d.entries h ≡ s →
                entry_of ((f, next) ∷ d.entries) h ≡ s
            is_other d among is =
                let below = All-contains (λ k. f < k) fs h above among in
                ap (λ b. cond b next (entry_of d.entries h))
                (ne_eqb f h (λ e. omega (arith, e, below))) ∙ is

    module _ (c : Code) where
      -- the function's code is at its entry
      pub record Piece (h s : ℕ) : Type 0 where
        pub function : Function
        pub stands : slice_get functions h ≡ Some function
        pub piece : StandsIn c s (function_code integers h function s).form
        pub within : (function_code integers h function s).within ≡ true

      pieces : (fs : List ℕ) (next : ℕ) → StandsIn c next (code_of fs next).form →
          (code_of fs next).within ≡ true → (h s : ℕ) →
          Contains (code_of fs next).form.entries (h, s) → Piece h s
      pieces [] next stands within h s there = absurd (no_element (h, s) there)
      pieces (f ∷ fs) next stands within h s there =
          let p = at_place f next in
          let q = code_of fs (after next p.form) in
          let both = and_parts p.within q.within within in
          elim (Contains-append_cases p.form.entries q.form.entries (h, s) there) [
            | inl here ↦ first (slice_get functions f) refl
                (stands_left c next p.form q.form stands) both.0 here
            | inr other ↦ pieces fs (after next p.form) (stands_right c next p.form q.form stands)
                both.1 h s other
          ]
        where
          first : (o : Option Function) → slice_get functions f ≡ o →
              StandsIn c next (place_code integers f o next).form →
              (place_code integers f o next).within ≡ true →
              Contains (place_code integers f o next).form.entries (h, s) → Piece h s
          first None is stands within here = absurd (no_element (h, s) here)
          first (Some g) is stands within here =
              let this : ℕ × ℕ = (f, next) in
              let that : ℕ × ℕ = (h, s) in
              let found : Piece f next = record
              { function = g; stands = is; piece = stands; within = within } in
              let listed : Contains (this ∷ []) that =
              subst (λ (es : List (ℕ × ℕ)). Contains es that) (function_entries f g next) here in
              elim (first_or_other this [] that listed) [
                | inl same ↦ subst (λ (e : ℕ × ℕ). Piece e.0 e.1) same found
                | inr none ↦ absurd (no_element that none)
              ]

      -- a piece's entry and end are opened, and its body comes after them
      abbrev opening_of : Function → ℕ → List Opening
      opening_of g s = a_point (length g.params) ∷ a_point 0 ∷ []

      after_entry : (h s : ℕ) (g : Function) → StandsIn c s (function_code integers h g s).form →
          StandsIn c (s + 2) (append_code (end_of s) (body_of g s).form)
      after_entry h s g stands =
          let rest = append_code (end_of s) (body_of g s).form in
          let marked = stands_right c s (opens (opening_of g s))
          (append_code (marks_entry h s) rest)
          stands in
          record { opened = marked.opened; instructions = marked.instructions }

      entry_opened : (h s : ℕ) (g : Function) → StandsIn c s (function_code integers h g s).form →
          IsOpened c s (length g.params) false
      entry_opened h s g stands =
          let e : s + 0 ≡ s = omega arith in sym (ap (slice_get c.opened) e) ∙
          stands.opened 0 (a_point (length g.params)) refl

      -- ---- what is done in a function's code

      module _ (callable : ℕ → ℕ → Type 0) where
        function_carried : (h s k : ℕ) (g : Function) →
            AreStmts callable (length g.params) g.body k →
            StandsIn c s (function_code integers h g s).form →
            HasCode integers (acts_in c) callable g s
        function_carried h s k g scoped stands =
            let rest = after_entry h s g stands in
            let end : Point = point (s + 1) 0 in
            let final : Instruction = record { at = end; action = Return (number (pos 0)) } in
            let body = (body_of g s).form in
            record {
              slots = k;
              end = end;
              no_variables = refl;
              returns_zero =
                  (stands_left c (s + 2) (end_of s) body rest).instructions final
                  (first_one final []);
              body =
                  list_coded integers (acts_in c) callable (length g.params) g.body k scoped
                  (places_in (length g.params) s) (s + 2) refl (omega arith)
                  (λ d there. rest.instructions d (Contains-append_right (end_of s).instructions
                  body.instructions d
                  there));
            }

        module _
            (kept : (d : Instruction) → Contains c.instructions d → instruction_within d ≡ true)
            (entries : (f k : ℕ) → callable f k → IsOpened c (entry_of c.entries f) k false) where
          function_fits : (h s k : ℕ) (g : Function) →
              AreStmts callable (length g.params) g.body k →
              StandsIn c s (function_code integers h g s).form →
              (function_code integers h g s).within ≡ true →
              Fits c integers (function_code integers h g s).form
          function_fits h s k g scoped stands within =
              let n = length g.params in
              let body = body_of g s in
              let rest = append_code (marks_entry h s) (append_code (end_of s) body.form) in
              let one = and_parts (is_room s n) (is_room (s + 1) 0 && body.within) within in
              let two = and_parts (is_room (s + 1) 0) body.within one.1 in
              let at_entry = first_point c s n (a_point 0 ∷ []) rest stands one.0 in
              let at_end = later_point c s 1 0 (opening_of g s) rest stands refl two.0 in
              let inside = after_entry h s g stands in
              let in_body = after_instruction c (s + 2) (point (s + 1) 0) (Return (number (pos 0)))
              body.form
              inside in
              fits_append c integers (end_of s) body.form
              (instruction_fits c integers kept (s + 2) (point (s + 1) 0)
              (Return (number (pos 0))) at_end refl
              (stands_left c (s + 2) (end_of s) body.form inside) (number_below 0 (pos 0)))
              (list_fits integers c kept callable entries n g.body k scoped (places_in n s) (s + 2)
              (record {
                same = refl;
                here = at_entry;
                to = at_end;
                breaks = at_end;
                continues =
                    at_end;
                to_fits = omega arith;
                break_fits = omega arith;
                continue_fits =
                    omega arith;
              }) two.1 in_body)

          -- the bodies of these functions are in order
          abbrev AreScoped : List ℕ → Type 0
          AreScoped fs =
              (h : ℕ) (g : Function) → Contains fs h → slice_get functions h ≡ Some g → (k : ℕ) ×
              AreStmts callable (length g.params) g.body k

          places_fit : (fs : List ℕ) (next : ℕ) → AreScoped fs →
              StandsIn c next (code_of fs next).form → (code_of fs next).within ≡ true →
              Fits c integers (code_of fs next).form
          places_fit [] next scoped stands within = λ d there. absurd (no_element d there)
          places_fit (f ∷ fs) next scoped stands within =
              let p = at_place f next in
              let q = code_of fs (after next p.form) in
              let both = and_parts p.within q.within within in
              fits_append c integers p.form q.form (first (slice_get functions f) refl
              (stands_left c next p.form q.form stands) both.0)
              (places_fit fs (after next p.form)
              (λ h g there is. scoped h g (other_one f fs h there) is)
              (stands_right c next p.form q.form stands) both.1)
            where
              first : (o : Option Function) → slice_get functions f ≡ o →
                  StandsIn c next (place_code integers f o next).form →
                  (place_code integers f o next).within ≡ true →
                  Fits c integers (place_code integers f o next).form
              first None is stands within = λ d there. absurd (no_element d there)
              first (Some g) is stands within =
                  let body = scoped f g (first_one f fs) is in
                  function_fits f next body.0 g body.1 stands within

-- ---- the code of a program

kept_all : (ds : List Instruction) → list_all instruction_within ds ≡ true → All
    (λ d. instruction_within d ≡ true) ds
kept_all [] all = All-nil (λ d. instruction_within d ≡ true)
kept_all (d ∷ ds) all =
    let both = and_parts (instruction_within d) (list_all instruction_within ds) all in
    All-cons (λ d. instruction_within d ≡ true) d ds both.0 (kept_all ds both.1)

-- a symbol is once among n from a number on, or not at all
at_itself : (x y : ℕ) → y ≡ x → at_symbol x y ≡ 1
at_itself x y is = ap one_if (eq-eqb y x is)

at_other : (x y : ℕ) → y ≢ x → at_symbol x y ≡ 0
at_other x y other = ap one_if (ne_eqb y x other)

none_before : (next k x : ℕ) → x < next → among_from next k x ≡ 0
none_before next zero x below = refl
none_before next (suc k) x below =
    let here = at_other x next (λ e. omega (arith, e, below)) in
    let rest = none_before (next + 1) k x (omega (arith, below)) in omega (arith, here, rest)

once_among : (next k x : ℕ) → next ≤ x → x < next + k → among_from next k x ≡ 1
once_among next zero x above below = absurd (omega (arith, above, below))
once_among next (suc k) x above below =
    elim (eq-or-lt_of_le above) [
      | inl same ↦ (let here = at_itself x next same in let rest =
          none_before (next + 1) k x (omega (arith, same)) in omega (arith, here, rest))
      | inr lower ↦ (let here = at_other x next (λ e. omega (arith, e, lower)) in let rest =
          once_among (next + 1) k x (omega (arith, lower)) (omega (arith, below)) in
          omega (arith, here, rest))
    ]

-- where one instruction is at a symbol, it is all that a test for the symbol keeps
nothing_at : (k : ℕ) (ds : List Instruction) → instructions_at k ds ≡ 0 → filter (is_at k) ds ≡ []
nothing_at k [] none = refl
nothing_at k (d ∷ ds) none = go (nat_eq d.at.symbol k) refl (nothing_at k ds (omega (arith, none)))
  where
    go : (b : Bool) → nat_eq d.at.symbol k ≡ b → filter (is_at k) ds ≡ [] →
        filter (is_at k) (d ∷ ds) ≡ []
    go true is rest = let here = ap one_if is in absurd (omega (arith, here, none))
    go false is rest = ap (λ b. cond b (d ∷ filter (is_at k) ds) (filter (is_at k) ds)) is ∙ rest

one_at : (k : ℕ) (ds : List Instruction) → instructions_at k ds ≡ 1 → (d : Instruction) ×
    (filter (is_at k) ds ≡ d ∷ [])
one_at k [] one = absurd (omega (arith, one))
one_at k (d ∷ ds) one = go (nat_eq d.at.symbol k) refl (one_at k ds) (nothing_at k ds)
  where
    go : (b : Bool) → nat_eq d.at.symbol k ≡ b →
        (instructions_at k ds ≡ 1 → (d : Instruction) × (filter (is_at k) ds ≡ d ∷ [])) →
        (instructions_at k ds ≡ 0 → filter (is_at k) ds ≡ [])
        → (e : Instruction) × (filter (is_at k) (d ∷ ds) ≡ e ∷ [])
    go true is rest none =
        let here = ap one_if is in (
          d,
          ap (λ b. cond b (d ∷ filter (is_at k) ds) (filter (is_at k) ds)) is ∙
              ap (λ es. d ∷ es) (none (omega (arith, here, one))),
        )
    go false is rest none =
        let here = ap one_if is in
        let found = rest (omega (arith, here, one)) in
        (found.0, ap (λ b. cond b (d ∷ filter (is_at k) ds) (filter (is_at k) ds)) is ∙ found.1)

module _ (integers : Integers) (program : Resolved) (scoped : is_scoped program ≡ true) (f g : ℕ)
    (fs : List ℕ) (reached : AreReached program f g fs)
    (within : (program_code integers program fs).within ≡ true)
    (kept : list_all instruction_within (program_code integers program fs).form.instructions ≡
    true) where
  abbrev whole : Code
  whole = (program_code integers program fs).form

  abbrev may : ℕ → ℕ → Type 0
  may = TakesCall program whole

  abbrev counts : List ℕ
  counts = parameter_counts program.functions

  stands_whole : StandsIn whole 0 whole
  stands_whole =
      record {
        opened = λ i o is. ap (slice_get whole.opened) (omega arith) ∙ is;
        instructions = λ d there.
            there;
      }

  pub piece_at : (h s : ℕ) → Contains whole.entries (h, s) →
      Piece integers program.functions whole h s
  piece_at = pieces integers program.functions whole fs 0 stands_whole within

  first_entry : (h s : ℕ) → Contains whole.entries (h, s) → entry_of whole.entries h ≡ s
  first_entry = entry_first integers program.functions fs 0 reached.in_order

  -- a function that is reached may be called with as many arguments as it has parameters
  may_call : (h : ℕ) → Contains fs h → MayCall may counts h
  may_call h there k is =
      let found = was_at (λ (f : Function). length f.params) program.functions h k is in
      let entry = has_entry integers program.functions fs 0 h found.0 there found.1 in
      record { symbol = entry.0; begins = entry.1; parameters = is }

  calls_reached : (h : ℕ) (g : Function) → Contains fs h → slice_get program.functions h ≡ Some g →
      All (MayCall may counts) (concat (map calls_in g.body))
  calls_reached h caller there stands =
      subst (All (MayCall may counts)) (sym (flat_map_concat calls_in caller.body))
      (all_from (MayCall may counts) (calls_of caller)
      (λ k among. may_call k ((reached.members k).1
      (ByCall h k caller ((reached.members h).0 there) stands among))))

  body_scoped : (h : ℕ) (g : Function) → Contains fs h → slice_get program.functions h ≡ Some g →
      (k : ℕ) × AreStmts may (length g.params) g.body k
  body_scoped h function there stands =
      let fine = all_at (is_scoped_function counts) program.functions h function scoped stands in
      let k = fine_is (slots_in_order (map (slots_after counts) function.body)
      (length function.params)) fine in (
        k.0,
        scoped_list may counts (length function.params) k.0 function.body k.1
            (calls_reached h function there stands),
      )

  pub program_carried : CarriesProgram integers program whole
  program_carried h s begins =
      let there = piece_at h s begins in
      let body = body_scoped h there.function
      (entry_place integers program.functions fs 0 h s begins)
      there.stands in
      record {
        function = there.function;
        stands = there.stands;
        is_entry = first_entry h s begins;
        carried =
            function_carried integers program.functions whole may h s body.0 there.function body.1
            there.piece;
      }

  pub entries_opened : (h k : ℕ) → may h k → IsOpened whole (entry_of whole.entries h) k false
  entries_opened h k called =
      let there = piece_at h called.symbol called.begins in
      let count : length there.function.params ≡ k =
      same_Some (length there.function.params) k
      (sym (mapped_at (λ (f : Function). length f.params) program.functions h there.function
      there.stands) ∙ called.parameters) in
      subst (λ s. IsOpened whole s k false) (sym (first_entry h called.symbol called.begins))
      (subst (λ j. IsOpened whole called.symbol j false) count
      (entry_opened integers program.functions whole h called.symbol there.function there.piece))

  -- the code of a program in order is whole
  pub program_whole : IsWhole integers whole
  program_whole = record {
    one = λ k below.
        let counted = total integers program.functions k fs 0 in
        let once = once_among 0 (length whole.opened) k (omega arith) (omega (arith, below)) in
        let found = one_at k whole.instructions (counted ∙ once) in
        record { instruction = found.0; alone = found.1 };
    fits =
        places_fit integers program.functions whole may
        (λ d there. All-contains (λ d. instruction_within d ≡ true) whole.instructions d
        (kept_all whole.instructions kept) there) entries_opened fs 0 body_scoped stands_whole
        within;
  }
