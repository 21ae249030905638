-- The rule set of whole code is paired.
use Rattle.std.proofs.Common.{◌≡◌, ◌≢◌, ◌∙◌, ap, sym, subst, refl, Bool, true, false, true≢false, cond, ◌&&◌, inl, inr, ℕ, zero, suc, ◌+◌, ◌<◌, ◌≤◌, Option, Some, None, List, [], ◌∷◌, ◌++◌, length, map, arith}
use Rattle.std.specs.Prelude.{Contains, filter, nat_eq, nat_le, slice_get}
use Rattle.std.specs.List.{enumerate_from, flat_map}
use Rattle.std.specs.Option.{option_map}
use Rattle.std.proofs.lemmas.Bool.{and_parts, eq-eqb, eqb-true, leb-true, ne_eqb}
use Rattle.std.proofs.lemmas.List.{append-nil}
use Rattle.std.proofs.lemmas.List.Elements.{All-contains, filter-append, filter_passes}
use Rattle.std.proofs.lemmas.Option.{slice_get_within}
use Rattle.c_ast.specs.declared.integers.Integers.{Integers}
use Rattle.c_ast.specs.declared.integers.Integers.TheVariants.{Unbounded, Bits32}
use Rattle.rx_poly.specs.Constants.{variable}
use Rattle.rx_row.specs.declared.row.Row.TheVariants.{Eq}
use Rattle.rx_term.specs.Fitting.{code_fits, is_declared}
use Rattle.rx_term.specs.Paired.{IsPair, One, Two, IsPaired, PointShape, ReturnShape, FailShape, rules_of_shape}
use Rattle.rx_term.specs.Shapes.{Shape, same_shape, shape_of}
use Rattle.rx_term.specs.Shapes as shapes
use Rattle.rx_term.specs.declared.rule.Rule.{Rule}
use Rattle.rx_term.specs.declared.term.Sym.{Sym}
use Rattle.rx_term.specs.declared.term.Term.TheVariants as term
use Rattle.rx_term.proofs.Equations.{shape-Call, shape-Fail, shape-Frame, shape-Return}
use Rattle.rx_plain.proofs.Kept.{first_one, first_or_other, other_one, was_there}
use Rattle.rx_term.proofs.ShapeLaws.{alike, declared_so}
use Rattle.rx_code.specs.Programs.{entry_of}
use Rattle.rx_code.specs.Rules.{action_within, call_of, failure_codes, info_at, over_failure, over_value, parts_of, rules_at, rules_of_action, rules_of_instruction, symbol, variables_of}
use Rattle.rx_code.specs.declared.action.Action.{Action}
use Rattle.rx_code.specs.declared.action.Action.TheVariants.{Go, Set, Test, Exclude, Divide, Call, Resume, Return}
use Rattle.rx_code.specs.declared.action.Instruction.{Instruction}
use Rattle.rx_code.specs.declared.code.Code.{Code}
use Rattle.rx_code.specs.declared.point.Opening.{Opening}
use Rattle.rx_code.specs.declared.point.Point.{Point}
use Rattle.rx_code.proofs.Elements.{no_element}
use Rattle.rx_code.proofs.Made.{symbol_at}
use Rattle.rx_code.proofs.Whole.{IsWhole, is_at, is_resume}

-- ---- what a test keeps

keeps_one : {X : Type 0} (p : X → Bool) (x : X) (b : Bool) → p x ≡ b → filter p (x ∷ []) ≡
    cond b (x ∷ []) []
keeps_one p x b is = ap (λ t. cond t (x ∷ []) []) is

keeps_two : {X : Type 0} (p : X → Bool) (x y : X) (b d : Bool) → p x ≡ b → p y ≡ d →
    filter p (x ∷ y ∷ []) ≡ cond b (x ∷ cond d (y ∷ []) []) (cond d (y ∷ []) [])
keeps_two p x y b d is also =
    λ i. cond (is i) (x ∷ cond (also i) (y ∷ []) []) (cond (also i) (y ∷ []) [])

keeps_both : {X : Type 0} (p : X → Bool) (x y : X) (b : Bool) → p x ≡ b → p y ≡ b →
    filter p (x ∷ y ∷ []) ≡ cond b (x ∷ y ∷ []) []
keeps_both p x y true is also = keeps_two p x y true true is also
keeps_both p x y false is also = keeps_two p x y false false is also

filter-flat_map : {X Y : Type 0} (p : Y → Bool) (f : X → List Y) (xs : List X) →
    filter p (flat_map f xs) ≡ flat_map (λ x. filter p (f x)) xs
filter-flat_map p f [] = refl
filter-flat_map p f (x ∷ xs) =
    filter-append p (f x) (flat_map f xs) ∙ ap (λ ys. filter p (f x) ++ ys) (filter-flat_map p f xs)

-- where the lists of all numbers but one are empty, that one's list is left
nothing_from : {X Y : Type 0} (g : ℕ → List Y) (n : ℕ) (xs : List X) (k : ℕ) → k < n →
    ((j : ℕ) → j < n + length xs → j ≢ k → g j ≡ []) →
    flat_map (λ (o : ℕ × X). g o.0) (enumerate_from n xs) ≡ []
nothing_from g n [] k before others = refl
nothing_from g n (x ∷ xs) k before others =
    let here : g n ≡ [] = others n (omega arith) (λ e. omega (arith, e, before)) in
    let rest = nothing_from g (n + 1) xs k (omega (arith, before))
    (λ j below other. others j (omega (arith, below)) other) in
    (λ i. here i ++ rest i)

only_from : {X Y : Type 0} (g : ℕ → List Y) (n : ℕ) (xs : List X) (k : ℕ) → k < length xs →
    ((j : ℕ) → j < n + length xs → j ≢ (n + k) → g j ≡ []) →
    flat_map (λ (o : ℕ × X). g o.0) (enumerate_from n xs) ≡ g (n + k)
only_from g n [] k below others = absurd (omega (arith, below))
only_from g n (x ∷ xs) zero below others =
    let rest = nothing_from g (n + 1) xs n (omega arith)
    (λ j under other. others j (omega (arith, under)) (λ e. other (omega (arith, e)))) in
    (λ i. g n ++ rest i) ∙ append-nil (g n) ∙ ap g (omega arith)
only_from g n (x ∷ xs) (suc k) below others =
    let here : g n ≡ [] = others n (omega arith) (λ e. omega (arith, e)) in
    let rest = only_from g (n + 1) xs k (omega (arith, below))
    (λ j under other. others j (omega (arith, under)) (λ e. other (omega (arith, e)))) in
    (λ i. here i ++ rest i) ∙ ap g (omega arith)

-- what is made of a list that is one of two
map_cond : {X Y : Type 0} (f : X → Y) (b : Bool) (xs ys : List X) → map f (cond b xs ys) ≡
    cond b (map f xs) (map f ys)
map_cond f true xs ys = refl
map_cond f false xs ys = refl

-- what a test keeps of a list that is made of another's elements
keeps_made : {X Y : Type 0} (p : Y → Bool) (f : X → Y) (kept : X → Bool) (xs : List X) →
    ((x : X) → p (f x) ≡ kept x) → filter p (map f xs) ≡ map f (filter kept xs)
keeps_made p f kept [] is = refl
keeps_made p f kept (x ∷ xs) is =
    let rest = keeps_made p f kept xs is in
    (λ i. cond (is x i) (f x ∷ rest i) (rest i)) ∙
    sym (map_cond f (kept x) (x ∷ filter kept xs) (filter kept xs))

keeps_none : {X : Type 0} (xs : List X) → filter (λ x. false) xs ≡ []
keeps_none [] = refl
keeps_none (x ∷ xs) = keeps_none xs

-- ---- codes of failures

-- a code that fits as many failures as there are codes is one of these
code_among : (integers : Integers) (code : ℕ) →
    code_fits (length (failure_codes integers)) code ≡ true → Contains (failure_codes integers) code
code_among Unbounded code h =
    let both = and_parts (nat_le 1 code) (nat_le code 1) h in
    let low = leb-true 1 code both.0 in
    let high = leb-true code 1 both.1 in
    let same : 1 ≡ code = omega (arith, low, high) in
    subst (Contains (1 ∷ [])) same (first_one 1 [])
code_among Bits32 code h =
    let both = and_parts (nat_le 1 code) (nat_le code 2) h in
    let low = leb-true 1 code both.0 in
    let high = leb-true code 2 both.1 in
    either code low high
  where
    either : (k : ℕ) → 1 ≤ k → k ≤ 2 → Contains (1 ∷ 2 ∷ []) k
    either zero low high = absurd (omega arith)
    either (suc zero) low high = first_one 1 (2 ∷ [])
    either (suc (suc zero)) low high = other_one 1 (2 ∷ []) 2 (first_one 2 [])
    either (suc (suc (suc k))) low high = absurd (omega arith)

-- each code is there once
code_once : (integers : Integers) (code : ℕ) → Contains (failure_codes integers) code →
    filter (λ k. nat_eq k code) (failure_codes integers) ≡ code ∷ []
code_once Unbounded code there =
    elim (first_or_other 1 [] code there) [
      | inl same ↦ subst (λ c. filter (λ k. nat_eq k c) (1 ∷ []) ≡ c ∷ []) same refl
      | inr none ↦ absurd (no_element code none)
    ]
code_once Bits32 code there =
    elim (first_or_other 1 (2 ∷ []) code there) [
      | inl same ↦ subst (λ c. filter (λ k. nat_eq k c) (1 ∷ 2 ∷ []) ≡ c ∷ []) same refl
      | inr other ↦ elim (first_or_other 2 [] code other) [
        | inl same ↦ subst (λ c. filter (λ k. nat_eq k c) (1 ∷ 2 ∷ []) ≡ c ∷ []) same refl
        | inr none ↦ absurd (no_element code none)
      ]
    ]

-- ---- the rules of one action

shape-call_of : (a : Point) → shape_of (call_of a) ≡ shapes.Call (symbol a.symbol)
shape-call_of a = shape-Call (symbol a.symbol) (variables_of a)

module _ (integers : Integers) (entry : ℕ → ℕ) where
  -- at a point all rules have its shape
  pub point_rules : (shape : Shape) (a : Point) (x : Action) → is_resume x ≡ false
      → rules_of_shape shape (rules_of_action integers entry a x) ≡
      cond (same_shape (shapes.Call (symbol a.symbol)) shape) (rules_of_action integers entry a x)
      []
  point_rules shape a x not_resume = go x not_resume
    where
      test : Rule → Bool
      test r = same_shape (shape_of r.left) shape

      same : same_shape (shape_of (call_of a)) shape ≡
          same_shape (shapes.Call (symbol a.symbol)) shape
      same = ap (λ s. same_shape s shape) (shape-call_of a)

      go : (x : Action) → is_resume x ≡ false →
          rules_of_shape shape (rules_of_action integers entry a x) ≡
          cond (same_shape (shapes.Call (symbol a.symbol)) shape)
          (rules_of_action integers entry a x) []
      go (Go z) h = keeps_one test _ _ same
      go (Set k p z) h = keeps_one test _ _ same
      go (Test row y w) h = keeps_both test _ _ _ same same
      go (Exclude row z) h = keeps_both test _ _ _ same same
      go (Divide d p q z) h = keeps_both test _ _ _ same same
      go (Call f ps r) h = keeps_one test _ _ same
      go (Resume z) h = absurd (true≢false h)
      go (Return p) h = keeps_one test _ _ same

  -- at a frame the first is over a value, and the others over failures
  pub frame_rules : (shape : Shape) (a z : Point) (b : Bool) (kept : ℕ → Bool) →
      same_shape (shapes.Frame (symbol a.symbol) shapes.Return) shape ≡ b →
      ((code : ℕ) →
      same_shape (shapes.Frame (symbol a.symbol) (shapes.Fail code)) shape ≡ kept code)
      → rules_of_shape shape (rules_of_action integers entry a (Resume z)) ≡
      cond b (over_value a z ∷ map (over_failure a) (filter kept (failure_codes integers)))
      (map (over_failure a) (filter kept (failure_codes integers)))
  frame_rules shape a z b kept is also = λ i. cond (value i) (over_value a z ∷ rest i) (rest i)
    where
      test : Rule → Bool
      test r = same_shape (shape_of r.left) shape

      value : test (over_value a z) ≡ b
      value =
          ap (λ s. same_shape s shape) (shape-Frame (symbol a.symbol) (variables_of a)
          (term.Return (variable a.width)) ∙ ap (shapes.Frame (symbol a.symbol))
          (shape-Return (variable a.width))) ∙ is

      failure : (code : ℕ) → test (over_failure a code) ≡ kept code
      failure code =
          ap (λ s. same_shape s shape) (shape-Frame (symbol a.symbol) (variables_of a)
          (term.Fail code) ∙ ap (shapes.Frame (symbol a.symbol)) (shape-Fail code)) ∙ also code

      rest : filter test (map (over_failure a) (failure_codes integers)) ≡
          map (over_failure a) (filter kept (failure_codes integers))
      rest = keeps_made test (over_failure a) kept (failure_codes integers) failure

  -- the symbol of a shape
  abbrev root : Shape → ℕ
  root shapes.Return = 0
  root (shapes.Fail c) = 0
  root (shapes.Call f) = f.0
  root (shapes.Frame f s) = f.0

  other_call : (j : ℕ) (shape : Shape) → j ≢ root shape →
      same_shape (shapes.Call (symbol j)) shape ≡
      false
  other_call j shapes.Return other = refl
  other_call j (shapes.Fail c) other = refl
  other_call j (shapes.Call f) other = ne_eqb j f.0 other
  other_call j (shapes.Frame f s) other = refl

  other_frame : (j : ℕ) (inner shape : Shape) → j ≢ root shape →
      same_shape (shapes.Frame (symbol j) inner) shape ≡ false
  other_frame j inner shapes.Return other = refl
  other_frame j inner (shapes.Fail c) other = refl
  other_frame j inner (shapes.Call f) other = refl
  other_frame j inner (shapes.Frame f s) other =
      ap (λ b. b && same_shape inner s) (ne_eqb j f.0 other)

  -- the rules at another symbol have other shapes
  pub rules_elsewhere : (shape : Shape) (d : Instruction) → d.at.symbol ≢ root shape →
      rules_of_shape shape (rules_of_instruction integers entry d) ≡ []
  rules_elsewhere shape d other = go d.at d.action other
    where
      at_point : (a : Point) (x : Action) → is_resume x ≡ false → a.symbol ≢ root shape →
          rules_of_shape shape (rules_of_action integers entry a x) ≡ []
      at_point a x h other =
          point_rules shape a x h ∙ ap (λ b. cond b (rules_of_action integers entry a x) [])
          (other_call a.symbol shape other)

      go : (a : Point) (x : Action) → a.symbol ≢ root shape →
          rules_of_shape shape (rules_of_action integers entry a x) ≡ []
      go a (Go z) other = at_point a (Go z) refl other
      go a (Set k p z) other = at_point a (Set k p z) refl other
      go a (Test row y w) other = at_point a (Test row y w) refl other
      go a (Exclude row z) other = at_point a (Exclude row z) refl other
      go a (Divide d p q z) other = at_point a (Divide d p q z) refl other
      go a (Call f ps r) other = at_point a (Call f ps r) refl other
      go a (Resume z) other =
          frame_rules shape a z false (λ code. false)
          (other_frame a.symbol shapes.Return shape other)
          (λ code. other_frame a.symbol (shapes.Fail code) shape other)
          ∙ ap (map (over_failure a)) (keeps_none (failure_codes integers))
      go a (Return p) other = at_point a (Return p) refl other

  -- the rules of a point are one, or two with a row and its negation
  pub pair_at : (a : Point) (x : Action) → is_resume x ≡ false → action_within x ≡ true →
      IsPair (rules_of_action integers entry a x)
  pair_at a (Go z) h within = One _ refl
  pair_at a (Set k p z) h within = One _ refl
  pair_at a (Test row y w) h within = Two _ _ row refl refl within
  pair_at a (Exclude row z) h within = Two _ _ row refl refl within
  pair_at a (Divide d p q z) h within = Two _ _ (Eq q) refl refl refl
  pair_at a (Call f ps r) h within = One _ refl
  pair_at a (Resume z) h within = absurd (true≢false h)
  pair_at a (Return p) h within = One _ refl

  -- the rules of a point's shape
  pub point_pair : (f : Sym) (d : Instruction) → d.at.symbol ≡ f.0 → is_resume d.action ≡ false →
      action_within d.action ≡ true → IsPair (rules_of_shape (shapes.Call f)
      (rules_of_instruction integers entry d))
  point_pair f d at h within =
      subst IsPair (sym (point_rules (shapes.Call f) d.at d.action h ∙
      ap (λ b. cond b (rules_of_action integers entry d.at d.action) [])
      (eq-eqb d.at.symbol f.0 at)))
      (pair_at d.at d.action h within)

  -- and of a frame's
  frame_of : (x : Action) → is_resume x ≡ true → (z : Point) × (x ≡ Resume z)
  frame_of (Go z) h = absurd (true≢false (sym h))
  frame_of (Set k p z) h = absurd (true≢false (sym h))
  frame_of (Test row y w) h = absurd (true≢false (sym h))
  frame_of (Exclude row z) h = absurd (true≢false (sym h))
  frame_of (Divide d p q z) h = absurd (true≢false (sym h))
  frame_of (Call f ps r) h = absurd (true≢false (sym h))
  frame_of (Resume z) h = (z, refl)
  frame_of (Return p) h = absurd (true≢false (sym h))

  pub value_pair : (f : Sym) (d : Instruction) → d.at.symbol ≡ f.0 → is_resume d.action ≡ true →
      IsPair (rules_of_shape (shapes.Frame f shapes.Return) (rules_of_instruction integers entry d))
  value_pair f d at h =
      let (z, is) = frame_of d.action h in
      let same : nat_eq d.at.symbol f.0 ≡ true = eq-eqb d.at.symbol f.0 at in
      subst (λ x. IsPair (rules_of_shape (shapes.Frame f shapes.Return)
      (rules_of_action integers entry d.at x))) (sym is)
      (subst IsPair (sym (frame_rules (shapes.Frame f shapes.Return) d.at z true (λ code. false)
      (ap (λ b. b && true) same) (λ code. ap (λ b. b && false) same)
      ∙ ap (λ cs. over_value d.at z ∷ map (over_failure d.at) cs)
      (keeps_none (failure_codes integers))))
      (One (over_value d.at z) refl))

  pub failure_pair : (f : Sym) (c : ℕ) (d : Instruction) → Contains (failure_codes integers) c →
      d.at.symbol ≡ f.0 → is_resume d.action ≡ true →
      IsPair (rules_of_shape (shapes.Frame f (shapes.Fail c))
      (rules_of_instruction integers entry d))
  failure_pair f c d code at h =
      let (z, is) = frame_of d.action h in
      let same : nat_eq d.at.symbol f.0 ≡ true = eq-eqb d.at.symbol f.0 at in
      subst (λ x. IsPair (rules_of_shape (shapes.Frame f (shapes.Fail c))
      (rules_of_action integers entry d.at x)))
      (sym is)
      (subst IsPair (sym (frame_rules (shapes.Frame f (shapes.Fail c)) d.at z false
      (λ k. nat_eq k c) (ap (λ b. b && false) same) (λ k. ap (λ b. b && nat_eq k c) same)
      ∙ ap (map (over_failure d.at)) (code_once integers c code)))
      (One (over_failure d.at c) refl))

-- ---- the rule set

passes_there : {X : Type 0} (p : X → Bool) (xs : List X) (x : X) → filter p xs ≡ x ∷ [] → p x ≡ true
passes_there p xs x is =
    All-contains (λ y. p y ≡ true) (filter p xs) x (filter_passes p xs)
    (subst (λ ys. Contains ys x) (sym is) (first_one x []))

module _ (integers : Integers) (c : Code) (whole : IsWhole integers c) where
  -- the one instruction at a declared symbol
  record Found (f : Sym) (frame : Bool) : Type 0 where
    below : f.0 < length c.opened
    instruction : Instruction
    alone : filter (is_at f.0) c.instructions ≡ instruction ∷ []
    at : instruction.at.symbol ≡ f.0
    kind : is_resume instruction.action ≡ frame
    within : action_within instruction.action ≡ true

  found : (f : Sym) (frame : Bool) (n : ℕ) → is_declared (parts_of integers c).symbols f frame n ≡
      true →
      Found f frame
  found f frame n h =
      go (slice_get c.opened f.0) refl (sym (ap (λ o. declared_so o frame n)
      (symbol_at integers c f.0)) ∙ h)
    where
      go : (o : Option Opening) → slice_get c.opened f.0 ≡ o →
          declared_so (option_map (λ (o : Opening). info_at c (f.0, o)) (slice_get c.opened f.0))
          frame n ≡ true → Found f frame
      go None is h =
          let wrong : false ≡ true = sym (ap (λ o.
          declared_so (option_map (λ (o : Opening). info_at c (f.0, o)) o) frame n) is) ∙ h in
          absurd (true≢false (sym wrong))
      go (Some o) is h =
          let below = slice_get_within c.opened f.0 o is in
          let one = whole.one f.0 below in
          let at : one.instruction.at.symbol ≡ f.0 =
          eqb-true one.instruction.at.symbol f.0 (passes_there (is_at f.0) c.instructions
          one.instruction one.alone)
          in
          let there : Contains c.instructions one.instruction =
          was_there (is_at f.0) c.instructions one.instruction
          (subst (λ ds. Contains ds one.instruction) (sym one.alone) (first_one one.instruction []))
          in
          let fits = whole.fits one.instruction there in
          let opened : Some (record {
            width = one.instruction.at.width;
            frame =
                is_resume one.instruction.action;
          }) ≡ Some o = sym fits.opened ∙ ap (slice_get c.opened) at ∙
          is in
          let declared : declared_so (Some (info_at c (f.0, o))) frame n ≡ true =
          sym (ap (λ o. declared_so (option_map (λ (o : Opening). info_at c (f.0, o)) o) frame
          n) is) ∙ h in
          record {
            below = below;
            instruction = one.instruction;
            alone = one.alone;
            at = at;
            kind = ap frame_in opened ∙ alike o.frame frame (and_parts _ _ declared).0;
            within = fits.within;
          }
        where
          frame_in : Option Opening → Bool
          frame_in None = false
          frame_in (Some o) = o.frame

  rules_at_one : (k : ℕ) (d : Instruction) → filter (is_at k) c.instructions ≡ d ∷ [] →
      rules_at integers c k
      ≡
      rules_of_instruction integers (entry_of c.entries) d
  rules_at_one k d alone =
      ap (flat_map (rules_of_instruction integers (entry_of c.entries))) alone ∙
      append-nil (rules_of_instruction integers (entry_of c.entries) d)

  -- the rules of a shape are those of the instruction at its symbol
  picked : (shape : Shape) (d : Instruction) →
      root integers (entry_of c.entries) shape < length c.opened →
      filter (is_at (root integers (entry_of c.entries) shape)) c.instructions ≡ d ∷ []
      → rules_of_shape shape (parts_of integers c).rules ≡
      rules_of_shape shape (rules_of_instruction integers (entry_of c.entries) d)
  picked shape d below alone =
      let k = root integers (entry_of c.entries) shape in
      let test : Rule → Bool = λ (r : Rule). same_shape (shape_of r.left) shape in
      filter-flat_map test (λ (o : ℕ × Opening). rules_at integers c o.0)
      (enumerate_from 0 c.opened)
      ∙ only_from (λ j. filter test (rules_at integers c j)) 0 c.opened k below others
      ∙ ap (λ j. filter test (rules_at integers c j)) (omega arith)
      ∙ ap (filter test) (rules_at_one k d alone)
    where
      others : (j : ℕ) → j < 0 + length c.opened →
          j ≢ (0 + root integers (entry_of c.entries) shape) →
          rules_of_shape shape (rules_at integers c j) ≡ []
      others j below other =
          let one = whole.one j (omega (arith, below)) in
          let at : one.instruction.at.symbol ≡ j = eqb-true one.instruction.at.symbol j
          (passes_there (is_at j) c.instructions one.instruction one.alone) in
          ap (rules_of_shape shape) (rules_at_one j one.instruction one.alone)
          ∙ rules_elsewhere integers (entry_of c.entries) shape one.instruction
          (λ e. other (omega (arith, e, at)))

  pub whole_paired : IsPaired (parts_of integers c)
  whole_paired _ (PointShape f n h) =
      let there = found f false n h in
      subst IsPair (sym (picked (shapes.Call f) there.instruction there.below there.alone))
      (point_pair integers (entry_of c.entries) f there.instruction there.at there.kind
      there.within)
  whole_paired _ (ReturnShape f n h) =
      let there = found f true n h in
      subst IsPair (sym (picked (shapes.Frame f shapes.Return) there.instruction there.below
      there.alone))
      (value_pair integers (entry_of c.entries) f there.instruction there.at there.kind)
  whole_paired _ (FailShape f n code h k) =
      let there = found f true n h in
      subst IsPair (sym (picked (shapes.Frame f (shapes.Fail code)) there.instruction there.below
      there.alone))
      (failure_pair integers (entry_of c.entries) f code there.instruction
      (code_among integers code k) there.at
      there.kind)
