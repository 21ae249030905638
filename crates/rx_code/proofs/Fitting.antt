-- The instructions of a piece fit the whole code in which it is.
use Rattle.std.proofs.Common.{◌≡◌, ◌∙◌, ap, sym, subst, refl, Bool, true, false, ◌&&◌, ◌⊎◌, inl, inr, ℕ, zero, suc, ◌+◌, ◌≤◌, ◌<◌, Some, List, [], ◌∷◌, ◌++◌, length, map, ℤ, pos, negsuc, arith}
use Rattle.std.specs.Prelude.{Contains, nat_le, nat_lt, slice_get}
use Rattle.std.proofs.lemmas.Bool.{and_from, and_parts, leb-true, lt-ltb, ltb-false, ltb-true}
use Rattle.std.proofs.lemmas.List.{length-map}
use Rattle.std.proofs.lemmas.List.Elements.{Contains-append_cases, Contains-append_left, Contains-append_right}
use Rattle.rx_poly.specs.Constants.{number, variable}
use Rattle.rx_poly.specs.Limits.{scaled_by, body_difference}
use Rattle.rx_poly.specs.Variables.{uses_below}
use Rattle.rx_poly.specs.declared.body.Body.{Body}
use Rattle.rx_poly_laws.proofs.BoundLaws.{below_the_bound}
use Rattle.rx_poly_laws.proofs.TestLaws.{passes-body_sum, passes-body_product, passes-number, passes-scaled_by, passes-body_difference, passes-variable}
use Rattle.rx_row.specs.Variables.{rows_use_below}
use Rattle.rx_row.specs.declared.row.Row.TheVariants.{Ne}
use Rattle.rx_term.specs.Variables.{polys_use_below}
use Rattle.rx_plain.proofs.Kept.{first_one, first_or_other, other_one}
use Rattle.c_ast.specs.declared.integers.Integers.{Integers}
use Rattle.c_ast.specs.declared.integers.Integers.TheVariants.{Unbounded, Bits32}
use Rattle.c_ast.specs.declared.expr.UnOp.{UnOp}
use Rattle.c_ast.specs.declared.expr.UnOp.TheVariants as un
use Rattle.c_ast.specs.declared.expr.BinOp.{BinOp}
use Rattle.c_ast.specs.declared.expr.BinOp.TheVariants as bin
use Rattle.c_ast.specs.declared.expr.Expr.{Expr}
use Rattle.rx_code.specs.Expressions.{Asked, Condition, Value, Valued, above, arguments, arithmetic, arithmetic_of, below, binary_code, call, choice, comparison, conjunction, disjunction, division, expr_code, kind_of, of_condition, of_value, operands, range_tests, ranged, test_of, tested_by, unary_code}
use Rattle.rx_code.specs.Pieces.{a_frame, a_point, append_code, after, does, is_room, opens, point}
use Rattle.rx_code.specs.Programs.{entry_of}
use Rattle.rx_code.specs.Rules.{failure_codes, instruction_within}
use Rattle.rx_code.specs.declared.action.Action.{Action}
use Rattle.rx_code.specs.declared.action.Action.TheVariants.{Set, Test, Exclude, Divide, Call, Resume}
use Rattle.rx_code.specs.declared.action.Instruction.{Instruction}
use Rattle.rx_code.specs.declared.action.Division.{Division}
use Rattle.rx_code.specs.declared.action.Division.TheVariants.{Quotient, Remainder}
use Rattle.rx_code.specs.declared.code.Code.{Code}
use Rattle.rx_code.specs.declared.point.Opening.{Opening}
use Rattle.rx_code.specs.declared.point.Point.{Point}
use Rattle.rx_code.proofs.ExprEquations.{code-Lit, code-Var, code-Unary, code-Binary, code-Choose, code-Apply}
use Rattle.rx_code.proofs.Elements.{no_element}
use Rattle.rx_code.proofs.ExprCodes.{count_values}
use Rattle.rx_code.proofs.Scoped as scope
use Rattle.rx_code.proofs.Scoped.{AreExprs, IsExpr}
use Rattle.rx_code.proofs.Whole.{FitsCode, IsOpened, IsTarget, Suits, is_resume}

-- ---- variables of polynomials

pub more_below : (m n : ℕ) (p : Body) → m ≤ n → uses_below m p ≡ true → uses_below n p ≡ true
more_below m n p h is =
    let bound = (below_the_bound m p).0 is in (below_the_bound n p).1 (omega (arith, bound, h))

pub variable_below : (n v : ℕ) → v < n → uses_below n (variable v) ≡ true
variable_below n v h = passes-variable (λ w. nat_lt w n) v (lt-ltb v n h)

pub number_below : (n : ℕ) (k : ℤ) → uses_below n (number k) ≡ true
number_below n k = passes-number (λ w. nat_lt w n) k

more_polys_below : (m n : ℕ) (ps : List Body) → m ≤ n → polys_use_below m ps ≡ true →
    polys_use_below n ps ≡ true
more_polys_below m n [] h is = refl
more_polys_below m n (p ∷ ps) h is =
    let both = and_parts (uses_below m p) (polys_use_below m ps) is in
    and_from (uses_below n p) (polys_use_below n ps) (more_below m n p h both.0)
    (more_polys_below m n ps h both.1)

arithmetic_below : (op : BinOp) (n : ℕ) (p q : Body) → uses_below n p ≡ true → uses_below n q ≡
    true → uses_below n (arithmetic_of op p q).form ≡ true
arithmetic_below bin.Add n p q h g = passes-body_sum (λ w. nat_lt w n) p q h g
arithmetic_below bin.Sub n p q h g =
    passes-body_sum (λ w. nat_lt w n) p (scaled_by (negsuc 0) q) h
    (passes-scaled_by (λ w. nat_lt w n) (negsuc 0) q g)
arithmetic_below bin.Mul n p q h g = passes-body_product (λ w. nat_lt w n) p q h g
arithmetic_below bin.Div n p q h g = h
arithmetic_below bin.Rem n p q h g = h
arithmetic_below bin.Lt n p q h g = h
arithmetic_below bin.Le n p q h g = h
arithmetic_below bin.Gt n p q h g = h
arithmetic_below bin.Ge n p q h g = h
arithmetic_below bin.Eq n p q h g = h
arithmetic_below bin.Ne n p q h g = h
arithmetic_below bin.AndAlso n p q h g = h
arithmetic_below bin.OrElse n p q h g = h

difference_below : (n : ℕ) (p q : Body) → uses_below n p ≡ true → uses_below n q ≡ true →
    uses_below n (body_difference p q) ≡ true
difference_below n p q h g = passes-body_difference (λ w. nat_lt w n) p q h g

alone_below : (n : ℕ) (p : Body) → uses_below n p ≡ true → (uses_below n p && true) ≡ true
alone_below n p h = and_from (uses_below n p) true h refl

test_below : (op : BinOp) (n : ℕ) (p q : Body) → uses_below n p ≡ true → uses_below n q ≡ true →
    rows_use_below n ((test_of op p q).form ∷ []) ≡ true
test_below bin.Lt n p q h g =
    alone_below n (body_difference (body_difference q p) (number (pos 1)))
    (difference_below n (body_difference q p) (number (pos 1)) (difference_below n q p g h)
    (number_below n (pos 1)))
test_below bin.Le n p q h g = alone_below n (body_difference q p) (difference_below n q p g h)
test_below bin.Gt n p q h g =
    alone_below n (body_difference (body_difference p q) (number (pos 1)))
    (difference_below n (body_difference p q) (number (pos 1)) (difference_below n p q h g)
    (number_below n (pos 1)))
test_below bin.Ge n p q h g = alone_below n (body_difference p q) (difference_below n p q h g)
test_below bin.Eq n p q h g = alone_below n (body_difference p q) (difference_below n p q h g)
test_below bin.Ne n p q h g = alone_below n (body_difference p q) (difference_below n p q h g)
test_below bin.Add n p q h g = alone_below n (body_difference p q) (difference_below n p q h g)
test_below bin.Sub n p q h g = alone_below n (body_difference p q) (difference_below n p q h g)
test_below bin.Mul n p q h g = alone_below n (body_difference p q) (difference_below n p q h g)
test_below bin.Div n p q h g = alone_below n (body_difference p q) (difference_below n p q h g)
test_below bin.Rem n p q h g = alone_below n (body_difference p q) (difference_below n p q h g)
test_below bin.AndAlso n p q h g = alone_below n (body_difference p q) (difference_below n p q h g)
test_below bin.OrElse n p q h g = alone_below n (body_difference p q) (difference_below n p q h g)

above_uses : (n : ℕ) (p : Body) → uses_below n p ≡ true →
    rows_use_below n ((above p).form ∷ []) ≡ true
above_uses n p h =
    alone_below n (body_difference p (number (pos 2147483648)))
    (difference_below n p (number (pos 2147483648)) h (number_below n (pos 2147483648)))

below_uses : (n : ℕ) (p : Body) → uses_below n p ≡ true →
    rows_use_below n ((below p).form ∷ []) ≡ true
below_uses n p h =
    let q = scaled_by (negsuc 0) p in
    alone_below n (body_difference q (number (pos 2147483649)))
    (difference_below n q (number (pos 2147483649))
    (passes-scaled_by (λ w. nat_lt w n) (negsuc 0) p h) (number_below n (pos 2147483649)))

-- ---- the range error is a failure of 32-bit integers

range_fails : (kind : Integers) → kind ≡ Bits32 → Contains (failure_codes kind) 2
range_fails Unbounded is = absurd cc
range_fails Bits32 is = other_one 1 (2 ∷ []) 2 (first_one 2 [])

division_fails : (kind : Integers) (d : Division) → tested_by kind d ≡ Bits32 →
    Contains (failure_codes kind) 2
division_fails kind Quotient is = range_fails kind is
division_fails kind Remainder is = absurd cc

-- ---- places of lists

pub left_place : {X : Type 0} (xs ys : List X) (i : ℕ) (x : X) → slice_get xs i ≡ Some x →
    slice_get (xs ++ ys) i ≡ Some x
left_place [] ys i x is = absurd cc
left_place (z ∷ xs) ys zero x is = is
left_place (z ∷ xs) ys (suc i) x is = left_place xs ys i x is

pub right_place : {X : Type 0} (xs ys : List X) (i : ℕ) → slice_get (xs ++ ys) (length xs + i) ≡
    slice_get ys i
right_place {X} [] ys i = ap (slice_get ys) (omega arith)
right_place {X} (z ∷ xs) ys i =
    let e : suc (length xs) + i ≡ suc (length xs + i) = omega arith in
    ap (slice_get (z ∷ xs ++ ys)) e ∙ right_place xs ys i

-- ---- a piece in the whole code

-- a place is set whose number is that of the variables, or below it where the target has no more
pub set_enough : (k m : ℕ) (b : Point) → k ≤ m → b.width ≤ k + 1 → (b.width ≤ m) ⊎ (k ≡ m)
set_enough k m b below wide = go (nat_lt k m) refl
  where
    go : (t : Bool) → nat_lt k m ≡ t → (b.width ≤ m) ⊎ (k ≡ m)
    go true is = let h : k < m = ltb-true k m is in inl (omega (arith, h, wide))
    go false is = let h : m ≤ k = ltb-false k m is in inr (omega (arith, h, below))

module _ (c : Code) where
  -- the point is opened, with at most 128 variables
  pub record PointIn (z : Point) : Type 0 where
    pub opened : IsOpened c z.symbol z.width false
    pub narrow : z.width ≤ 128

  -- the piece is in the code, its symbols from that number on
  pub record StandsIn (next : ℕ) (p : Code) : Type 0 where
    pub opened : (i : ℕ) (o : Opening) → slice_get p.opened i ≡ Some o →
        slice_get c.opened (next + i) ≡ Some o
    pub instructions : (d : Instruction) → Contains p.instructions d → Contains c.instructions d

  pub stands_left : (next : ℕ) (p q : Code) → StandsIn next (append_code p q) → StandsIn next p
  stands_left next p q stands = record {
    opened = λ i o is. stands.opened i o (left_place p.opened q.opened i o is);
    instructions = λ d there. stands.instructions d (Contains-append_left p.instructions
        q.instructions d there);
  }

  pub stands_right : (next : ℕ) (p q : Code) → StandsIn next (append_code p q) →
      StandsIn (after next p) q
  stands_right next p q stands = record {
    opened = λ i o is.
        let e : next + (length p.opened + i) ≡ (next + length p.opened) + i = omega arith in
        sym (ap (slice_get c.opened) e) ∙ stands.opened (length p.opened + i) o
        (right_place p.opened q.opened i ∙ is);
    instructions = λ d there. stands.instructions d (Contains-append_right p.instructions
        q.instructions d there);
  }

  -- an instruction opens nothing
  pub after_instruction : (next : ℕ) (a : Point) (x : Action) (p : Code) →
      StandsIn next (append_code (does a x) p) → StandsIn next p
  after_instruction next a x p stands =
      record {
        opened = stands.opened;
        instructions = (stands_right next (does a x) p
            stands).instructions;
      }

  pub room_narrow : (next width : ℕ) → is_room next width ≡ true → width ≤ 128
  room_narrow next width room =
      leb-true width 128 (and_parts (nat_lt next 4096) (nat_le width 128) room).1

  -- a new point
  pub first_point : (next width : ℕ) (os : List Opening) (p : Code) →
      StandsIn next (append_code (opens (a_point width ∷ os)) p) → is_room next width ≡ true →
      PointIn (point next width)
  first_point next width os p stands room = record {
    opened =
        let e : next + 0 ≡ next = omega arith in sym (ap (slice_get c.opened) e) ∙
        stands.opened 0 (a_point width) refl;
    narrow = room_narrow next width room;
  }

  pub later_point : (next i width : ℕ) (os : List Opening) (p : Code) →
      StandsIn next (append_code (opens os) p) → slice_get os i ≡ Some (a_point width) →
      is_room (next + i) width ≡ true → PointIn (point (next + i) width)
  later_point next i width os p stands is room = record {
    opened = stands.opened i (a_point width) (left_place os p.opened i (a_point width) is);
    narrow = room_narrow (next + i) width room;
  }

  pub target : (n : ℕ) (z : Point) → PointIn z → z.width ≤ n → IsTarget c n z
  target n z there fits = record { opened = there.opened; enough = fits }

  module _ (integers : Integers) where
    -- all instructions of the piece fit
    abbrev pub Fits : Code → Type 0
    Fits p = (d : Instruction) → Contains p.instructions d → FitsCode integers c d

    pub fits_append : (p q : Code) → Fits p → Fits q → Fits (append_code p q)
    fits_append p q first second d there =
        elim (Contains-append_cases p.instructions q.instructions d there)
        [ inl h ↦ first d h | inr h ↦ second d h ]

    -- what is written down keeps the limits
    module _ (kept : (d : Instruction) → Contains c.instructions d → instruction_within d ≡ true)
      where
        pub instruction_fits : (next : ℕ) (a : Point) (x : Action) → PointIn a → is_resume x ≡
            false →
            StandsIn next (does a x) → Suits integers c a.width x → Fits (does a x)
        instruction_fits next a x there is stands suits d at =
            let instruction : Instruction = record { at = a; action = x } in
            let fits : FitsCode integers c instruction = record {
              opened = subst (IsOpened c a.symbol a.width) (sym is) there.opened;
              narrow = there.narrow;
              suits = suits;
              within = kept instruction (stands.instructions instruction
                  (first_one instruction []));
            } in
            elim (first_or_other instruction [] d at) [
              | inl same ↦ subst (FitsCode integers c) same fits
              | inr none ↦ absurd (no_element d none)
            ]

        -- the same of a frame
        pub frame_fits : (next : ℕ) (r b : Point) → IsOpened c r.symbol r.width true →
            r.width ≤ 128 →
            StandsIn next (does r (Resume b)) → IsTarget c (suc r.width) b →
            Fits (does r (Resume b))
        frame_fits next r b opened narrow stands suits d at =
            let instruction : Instruction = record { at = r; action = Resume b } in
            let fits : FitsCode integers c instruction = record {
              opened = opened;
              narrow = narrow;
              suits = suits;
              within = kept instruction (stands.instructions instruction
                  (first_one instruction []));
            } in
            elim (first_or_other instruction [] d at) [
              | inl same ↦ subst (FitsCode integers c) same fits
              | inr none ↦ absurd (no_element d none)
            ]

        module _ (callable : ℕ → ℕ → Type 0) (entries : (f k : ℕ) → callable f k →
            IsOpened c (entry_of c.entries f) k false) (n : ℕ) where
          -- a value at a point: its code fits, and it has the variables of the point where it is
          -- known
          pub record ValueFits (a : Point) (v : Valued) : Type 0 where
            pub fits : Fits v.code
            pub there : PointIn v.at
            pub wider : a.width ≤ v.at.width
            pub below : uses_below v.at.width v.value ≡ true

          abbrev pub FitsValue : Value → Type 0
          FitsValue value =
              (a : Point) (next : ℕ) → n ≤ a.width → PointIn a → (value a next).within ≡ true →
              StandsIn next (value a next).code → ValueFits a (value a next)

          abbrev pub FitsCondition : Condition → Type 0
          FitsCondition condition =
              (a y w : Point) (next : ℕ) → n ≤ a.width → PointIn a → PointIn y → PointIn w →
              y.width ≤
              a.width → w.width ≤ a.width
              → (condition a y w next).within ≡ true → StandsIn next (condition a y w next).form →
              Fits (condition a y w next).form

          pub record FitsExpr (x : Asked) : Type 0 where
            pub value : FitsValue x.value
            pub condition : FitsCondition x.condition

          by_value : (value : Value) → FitsValue value → FitsExpr (of_value value)
          by_value value is = record {
            value = is;
            condition = λ a y w next enough at_a at_y at_w fits_y fits_w within stands.
                let v = value a next in
                let test = Test (Ne v.value) y w in
                let f = is a next enough at_a within
                (stands_left next v.code (does v.at test) stands)
                in
                let more = f.wider in
                fits_append v.code (does v.at test) f.fits
                (instruction_fits (after next v.code) v.at test f.there refl
                (stands_right next v.code (does v.at test) stands) (
                  target v.at.width y at_y (omega (arith, fits_y, more)),
                  (
                    target v.at.width w at_w (omega (arith, fits_w, more)),
                    alone_below v.at.width v.value f.below,
                  ),
                ));
          }

          by_condition : (condition : Condition) → FitsCondition condition →
              FitsExpr (of_condition condition)
          by_condition condition is = record {
            value = λ a next enough at_a within stands.
                let y = point next a.width in
                let w = point (next + 1) a.width in
                let b = point (next + 2) (a.width + 1) in
                let formed = condition a y w (next + 3) in
                let p = formed.form in
                let os = a_point a.width ∷ a_point a.width ∷ a_point (a.width + 1) ∷ [] in
                let yes = Set a.width (number (pos 1)) b in
                let no = Set a.width (number (pos 0)) b in
                let ends = append_code (does y yes) (does w no) in
                let rest = append_code p ends in
                let one = and_parts (is_room next a.width)
                (is_room (next + 1) a.width && (is_room (next + 2) (a.width + 1) && formed.within))
                within in
                let two = and_parts (is_room (next + 1) a.width)
                (is_room (next + 2) (a.width + 1) && formed.within) one.1 in
                let three = and_parts (is_room (next + 2) (a.width + 1)) formed.within two.1 in
                let at_y = first_point next a.width (a_point a.width ∷ a_point (a.width + 1) ∷ [])
                rest
                stands one.0 in
                let at_w = later_point next 1 a.width os rest stands refl two.0 in
                let at_b = later_point next 2 (a.width + 1) os rest stands refl three.0 in
                let inner = stands_right next (opens os) rest stands in
                let stands_ends = stands_right (next + 3) p ends inner in
                let set : (k : ℤ) → Suits integers c a.width (Set a.width (number k) b) = λ k. (
                  omega arith,
                  (
                    inr refl,
                    (
                      target (suc a.width) b at_b (omega arith),
                      number_below a.width k,
                    ),
                  ),
                ) in
                record {
                  fits =
                      fits_append p ends (is a y w (next + 3) enough at_a at_y at_w (omega arith)
                      (omega arith) three.1 (stands_left (next + 3) p ends inner))
                      (fits_append (does y yes) (does w no)
                      (instruction_fits (after (next + 3) p) y yes at_y refl
                      (stands_left (after (next + 3) p) (does y yes) (does w no) stands_ends)
                      (set (pos 1)))
                      (instruction_fits (after (after (next + 3) p) (does y yes)) w no at_w refl
                      (stands_right (after (next + 3) p) (does y yes) (does w no) stands_ends)
                      (set (pos 0))));
                  there = at_b;
                  wider = omega arith;
                  below = variable_below (a.width + 1) a.width (omega arith);
                };
            condition = is;
          }

          -- two operands
          record OperandsFit (l r : Asked) (a : Point) (next : ℕ) : Type 0 where
            fits : Fits (operands l r a next).code
            there : PointIn (operands l r a next).at
            wider : a.width ≤ (operands l r a next).at.width
            left_below : uses_below (operands l r a next).at.width (operands l r a next).left ≡ true
            right_below : uses_below (operands l r a next).at.width (operands l r a next).right ≡
                true

          operands_fit : (l r : Asked) → FitsExpr l → FitsExpr r → (a : Point) (next : ℕ) → n ≤
              a.width → PointIn a → (operands l r a next).within ≡ true →
              StandsIn next (operands l r a next).code → OperandsFit l r a next
          operands_fit l r left right a next enough at_a within stands =
              let p = l.value a next in
              let q = r.value p.at (after next p.code) in
              let both = and_parts p.within q.within within in
              let first = left.value a next enough at_a both.0
              (stands_left next p.code q.code stands)
              in
              let wide = first.wider in
              let second = right.value p.at (after next p.code) (omega (arith, enough, wide))
              first.there both.1 (stands_right next p.code q.code stands) in
              let wider = second.wider in
              record {
                fits = fits_append p.code q.code first.fits second.fits;
                there = second.there;
                wider = omega (arith, wide, wider);
                left_below = more_below p.at.width q.at.width p.value wider first.below;
                right_below = second.below;
              }

          -- a value that is tested
          range_fits : Contains (failure_codes integers) 2 → (p : Body) (a : Point) (next : ℕ) →
              PointIn a → uses_below a.width p ≡ true → (range_tests p a next).within ≡ true →
              StandsIn next (range_tests p a next).code → ValueFits a (range_tests p a next)
          range_fits fails p a next at_a uses within stands =
              let h = point next a.width in
              let b = point (next + 1) a.width in
              let os = a_point a.width ∷ a_point a.width ∷ [] in
              let over = Exclude (above p).form h in
              let under = Exclude (below p).form b in
              let tests = append_code (does a over) (does h under) in
              let formed = (above p).within && (below p).within in
              let one = and_parts (is_room next a.width) (is_room (next + 1) a.width && formed)
              within in
              let two = and_parts (is_room (next + 1) a.width) formed one.1 in
              let at_h = first_point next a.width (a_point a.width ∷ []) tests stands one.0 in
              let at_b = later_point next 1 a.width os tests stands refl two.0 in
              let rest = stands_right next (opens os) tests stands in
              record {
                fits =
                    fits_append (does a over) (does h under)
                    (instruction_fits (next + 2) a over at_a refl
                    (stands_left (next + 2) (does a over) (does h under) rest)
                    (target a.width h at_h (omega arith), (above_uses a.width p uses, fails)))
                    (instruction_fits (next + 2) h under at_h refl
                    (after_instruction (next + 2) a over (does h under) rest)
                    (target a.width b at_b (omega arith), (below_uses a.width p uses, fails)));
                there = at_b;
                wider = omega arith;
                below = uses;
              }

          ranged_fits : (kind : Integers) → (kind ≡ Bits32 → Contains (failure_codes integers) 2) →
              (value : Value) → FitsValue value → FitsValue (ranged kind value)
          ranged_fits Unbounded fails value is a next enough at_a within stands =
              is a next enough at_a within stands
          ranged_fits Bits32 fails value is a next enough at_a within stands =
              let v = value a next in
              let m = after next v.code in
              let t = range_tests v.value v.at m in
              let both = and_parts v.within t.within within in
              let f = is a next enough at_a both.0 (stands_left next v.code t.code stands) in
              let g = range_fits (fails refl) v.value v.at m f.there f.below both.1
              (stands_right next v.code t.code stands) in
              record {
                fits = fits_append v.code t.code f.fits g.fits;
                there = g.there;
                wider = f.wider;
                below = f.below;
              }

          arithmetic_fits : (op : BinOp) (l r : Asked) → FitsExpr l → FitsExpr r →
              FitsExpr (arithmetic integers op l r)
          arithmetic_fits op l r left right =
              by_value _ (ranged_fits integers (range_fails integers) _
              (λ a next enough at_a within stands.
              let t = operands l r a next in
              let f = operands_fit l r left right a next enough at_a
              (and_parts t.within (arithmetic_of op t.left t.right).within within).0 stands in
              record {
                fits = f.fits;
                there = f.there;
                wider = f.wider;
                below =
                    arithmetic_below op t.at.width t.left t.right f.left_below f.right_below;
              }))

          division_fits : (d : Division) (l r : Asked) → FitsExpr l → FitsExpr r →
              FitsExpr (division integers d l r)
          division_fits d l r left right =
              by_value _ (ranged_fits (tested_by integers d) (division_fails integers d) _
              (λ a next enough at_a within stands.
              let t = operands l r a next in
              let m = after next t.code in
              let b = point m (t.at.width + 1) in
              let os = a_point (t.at.width + 1) ∷ [] in
              let instruction = does t.at (Divide d t.left t.right b) in
              let both = and_parts t.within (is_room m (t.at.width + 1)) within in
              let f = operands_fit l r left right a next enough at_a both.0
              (stands_left next t.code (append_code (opens os) instruction) stands) in
              let rest = stands_right next t.code (append_code (opens os) instruction) stands in
              let at_b = first_point m (t.at.width + 1) [] instruction rest both.1 in
              let more = f.wider in
              record {
                fits =
                    fits_append t.code instruction f.fits
                    (instruction_fits (after m (opens os)) t.at (Divide d t.left t.right b) f.there
                    refl
                    (stands_right m (opens os) instruction rest)
                    (target (suc t.at.width) b at_b (omega arith), (f.left_below, f.right_below)));
                there = at_b;
                wider = omega (arith, more);
                below = variable_below (t.at.width + 1) t.at.width (omega arith);
              }))

          comparison_fits : (op : BinOp) (l r : Asked) → FitsExpr l → FitsExpr r →
              FitsExpr (comparison op l r)
          comparison_fits op l r left right =
              by_condition _ (λ a y w next enough at_a at_y at_w fits_y fits_w within stands.
              let t = operands l r a next in
              let tested = test_of op t.left t.right in
              let instruction = does t.at (Test tested.form y w) in
              let f = operands_fit l r left right a next enough at_a
              (and_parts t.within tested.within within).0
              (stands_left next t.code instruction stands)
              in
              let more = f.wider in
              fits_append t.code instruction f.fits (instruction_fits (after next t.code) t.at
              (Test tested.form y w)
              f.there refl (stands_right next t.code instruction stands) (
                target t.at.width y at_y (omega (arith, fits_y, more)),
                (
                  target t.at.width w at_w (omega (arith, fits_w, more)),
                  test_below op t.at.width t.left t.right f.left_below f.right_below,
                ),
              )))

          conjunction_fits : (l r : Asked) → FitsExpr l → FitsExpr r → FitsExpr (conjunction l r)
          conjunction_fits l r left right =
              by_condition _ (λ a y w next enough at_a at_y at_w fits_y fits_w within stands.
              let m = point next a.width in
              let p = l.condition a m w (next + 1) in
              let q = r.condition m y w (after (next + 1) p.form) in
              let os = a_point a.width ∷ [] in
              let one = and_parts (is_room next a.width) (p.within && q.within) within in
              let two = and_parts p.within q.within one.1 in
              let at_m = first_point next a.width [] (append_code p.form q.form) stands one.0 in
              let inner = stands_right next (opens os) (append_code p.form q.form) stands in
              fits_append p.form q.form (left.condition a m w (next + 1) enough at_a at_m at_w
              (omega arith) fits_w two.0 (stands_left (next + 1) p.form q.form inner))
              (right.condition m y w (after (next + 1) p.form) enough at_m at_y at_w fits_y fits_w
              two.1
              (stands_right (next + 1) p.form q.form inner)))

          disjunction_fits : (l r : Asked) → FitsExpr l → FitsExpr r → FitsExpr (disjunction l r)
          disjunction_fits l r left right =
              by_condition _ (λ a y w next enough at_a at_y at_w fits_y fits_w within stands.
              let m = point next a.width in
              let p = l.condition a y m (next + 1) in
              let q = r.condition m y w (after (next + 1) p.form) in
              let os = a_point a.width ∷ [] in
              let one = and_parts (is_room next a.width) (p.within && q.within) within in
              let two = and_parts p.within q.within one.1 in
              let at_m = first_point next a.width [] (append_code p.form q.form) stands one.0 in
              let inner = stands_right next (opens os) (append_code p.form q.form) stands in
              fits_append p.form q.form (left.condition a y m
              (next + 1) enough at_a at_y at_m fits_y
              (omega arith) two.0 (stands_left (next + 1) p.form q.form inner))
              (right.condition m y w (after (next + 1) p.form) enough at_m at_y at_w fits_y fits_w
              two.1
              (stands_right (next + 1) p.form q.form inner)))

          choice_fits : (x l r : Asked) → FitsExpr x → FitsExpr l → FitsExpr r →
              FitsExpr (choice x l r)
          choice_fits x l r test left right = by_value _ (λ a next enough at_a within stands.
              let y = point next a.width in
              let w = point (next + 1) a.width in
              let b = point (next + 2) (a.width + 1) in
              let t = x.condition a y w (next + 3) in
              let p = l.value y (after (next + 3) t.form) in
              let q = r.value w (after (after (next + 3) t.form) p.code) in
              let os = a_point a.width ∷ a_point a.width ∷ a_point (a.width + 1) ∷ [] in
              let set_p = Set a.width p.value b in
              let set_q = Set a.width q.value b in
              let last = append_code q.code (does q.at set_q) in
              let middle = append_code (does p.at set_p) last in
              let values = append_code p.code middle in
              let rest = append_code t.form values in
              let one = and_parts (is_room next a.width)
              (is_room (next + 1) a.width && (is_room (next + 2) (a.width + 1) &&
              (t.within && (p.within && q.within)))) within in
              let two = and_parts (is_room (next + 1) a.width)
              (is_room (next + 2) (a.width + 1) && (t.within && (p.within && q.within))) one.1 in
              let three = and_parts (is_room (next + 2) (a.width + 1))
              (t.within && (p.within && q.within)) two.1 in
              let four = and_parts t.within (p.within && q.within) three.1 in
              let five = and_parts p.within q.within four.1 in
              let at_y = first_point next a.width
              (a_point a.width ∷ a_point (a.width + 1) ∷ []) rest
              stands one.0 in
              let at_w = later_point next 1 a.width os rest stands refl two.0 in
              let at_b = later_point next 2 (a.width + 1) os rest stands refl three.0 in
              let from_t = next + 3 in
              let from_p = after from_t t.form in
              let from_q = after from_p p.code in
              let in_rest = stands_right next (opens os) rest stands in
              let in_values = stands_right from_t t.form values in_rest in
              let in_middle = stands_right from_p p.code middle in_values in
              let in_last = after_instruction from_q p.at set_p last in_middle in
              let first = left.value y from_p enough at_y five.0
              (stands_left from_p p.code middle in_values) in
              let second = right.value w from_q enough at_w five.1
              (stands_left from_q q.code (does q.at set_q) in_last) in
              let wide_p = first.wider in
              let wide_q = second.wider in
              record {
                fits =
                    fits_append t.form values (test.condition a y w from_t enough at_a at_y at_w
                    (omega arith) (omega arith) four.0 (stands_left from_t t.form values in_rest))
                    (fits_append p.code middle first.fits
                    (fits_append (does p.at set_p) last
                    (instruction_fits from_q p.at set_p first.there refl
                    (stands_left from_q (does p.at set_p) last in_middle) (
                      omega (arith, wide_p),
                      (
                        set_enough a.width p.at.width b wide_p (omega arith),
                        (target (suc p.at.width) b at_b (omega (arith, wide_p)), first.below),
                      ),
                    ))
                    (fits_append q.code (does q.at set_q) second.fits
                    (instruction_fits (after from_q q.code) q.at set_q second.there refl
                    (stands_right from_q q.code (does q.at set_q) in_last) (
                      omega (arith, wide_q),
                      (
                        set_enough a.width q.at.width b wide_q (omega arith),
                        (target (suc q.at.width) b at_b (omega (arith, wide_q)), second.below),
                      ),
                    )))));
                there = at_b;
                wider = omega arith;
                below = variable_below (a.width + 1) a.width (omega arith);
              })

          unary_fits : (op : UnOp) (x : Asked) → FitsExpr x → FitsExpr (unary_code integers op x)
          unary_fits un.Plus x is = by_value _ is.value
          unary_fits un.Minus x is =
              by_value _ (ranged_fits integers (range_fails integers) _
              (λ a next enough at_a within stands.
              let v = x.value a next in
              let f = is.value a next enough at_a (and_parts v.within _ within).0 stands in
              record {
                fits = f.fits;
                there = f.there;
                wider = f.wider;
                below =
                    passes-scaled_by (λ w. nat_lt w v.at.width) (negsuc 0) v.value f.below;
              }))
          unary_fits un.Not x is =
              by_condition _ (λ a y w next enough at_a at_y at_w fits_y fits_w within stands.
              is.condition a w y next enough at_a at_w at_y fits_w fits_y within stands)

          binary_fits : (op : BinOp) (l r : Asked) → FitsExpr l → FitsExpr r →
              FitsExpr (binary_code integers (kind_of op) op l r)
          binary_fits bin.Add l r left right = arithmetic_fits bin.Add l r left right
          binary_fits bin.Sub l r left right = arithmetic_fits bin.Sub l r left right
          binary_fits bin.Mul l r left right = arithmetic_fits bin.Mul l r left right
          binary_fits bin.Div l r left right = division_fits Quotient l r left right
          binary_fits bin.Rem l r left right = division_fits Remainder l r left right
          binary_fits bin.Lt l r left right = comparison_fits bin.Lt l r left right
          binary_fits bin.Le l r left right = comparison_fits bin.Le l r left right
          binary_fits bin.Gt l r left right = comparison_fits bin.Gt l r left right
          binary_fits bin.Ge l r left right = comparison_fits bin.Ge l r left right
          binary_fits bin.Eq l r left right = comparison_fits bin.Eq l r left right
          binary_fits bin.Ne l r left right = comparison_fits bin.Ne l r left right
          binary_fits bin.AndAlso l r left right = conjunction_fits l r left right
          binary_fits bin.OrElse l r left right = disjunction_fits l r left right

          -- arguments
          pub record ArgumentsFit (ys : List Asked) (a : Point) (next : ℕ) : Type 0 where
            pub fits : Fits (arguments ys a next).code
            pub there : PointIn (arguments ys a next).at
            pub wider : a.width ≤ (arguments ys a next).at.width
            pub below : polys_use_below (arguments ys a next).at.width
                (arguments ys a next).values ≡
                true

          abbrev pub FitsArguments : List Asked → Type 0
          FitsArguments ys =
              (a : Point) (next : ℕ) → n ≤ a.width → PointIn a → (arguments ys a next).within ≡
              true →
              StandsIn next (arguments ys a next).code → ArgumentsFit ys a next

          nothing_fits : Fits (arguments [] (point 0 0) 0).code
          nothing_fits d there = absurd (no_element d there)

          no_argument : FitsArguments []
          no_argument a next enough at_a within stands =
              record { fits = nothing_fits; there = at_a; wider = omega arith; below = refl }

          one_argument : (y : Asked) (ys : List Asked) → FitsExpr y → FitsArguments ys →
              FitsArguments (y ∷ ys)
          one_argument y ys first rest a next enough at_a within stands =
              let v = y.value a next in
              let xs = arguments ys v.at (after next v.code) in
              let both = and_parts v.within xs.within within in
              let f = first.value a next enough at_a both.0
              (stands_left next v.code xs.code stands) in
              let wide = f.wider in
              let g = rest v.at (after next v.code) (omega (arith, enough, wide)) f.there both.1
              (stands_right next v.code xs.code stands) in
              let wider = g.wider in
              record {
                fits = fits_append v.code xs.code f.fits g.fits;
                there = g.there;
                wider = omega (arith, wide, wider);
                below =
                    and_from (uses_below xs.at.width v.value)
                    (polys_use_below xs.at.width xs.values)
                    (more_below v.at.width xs.at.width v.value wider f.below) g.below;
              }

          call_fits : (f k : ℕ) (ys : List Asked) → callable f k → length ys ≡ k →
              FitsArguments ys →
              FitsExpr (call f ys)
          call_fits f k ys may count each = by_value _ (λ a next enough at_a within stands.
              let xs = arguments ys a next in
              let m = after next xs.code in
              let w = xs.at.width in
              let r = point m w in
              let b = point (m + 1) (w + 1) in
              let os = a_frame w ∷ a_point (w + 1) ∷ [] in
              let enter = Call f xs.values r in
              let instructions = append_code (does xs.at enter) (does r (Resume b)) in
              let one = and_parts xs.within (is_room m w && is_room (m + 1) (w + 1)) within in
              let two = and_parts (is_room m w) (is_room (m + 1) (w + 1)) one.1 in
              let g = each a next enough at_a one.0
              (stands_left next xs.code (append_code (opens os) instructions) stands) in
              let rest = stands_right next xs.code (append_code (opens os) instructions) stands in
              let in_instructions = stands_right m (opens os) instructions rest in
              let at_b = later_point m 1 (w + 1) os instructions rest refl two.1 in
              let e : m + 0 ≡ m = omega arith in
              let frame : IsOpened c m w true = sym (ap (slice_get c.opened) e) ∙
              rest.opened 0 (a_frame w) refl in
              let counted : k ≡ length xs.values = sym (count_values ys a next ∙ count) in
              let entry : IsOpened c (entry_of c.entries f) (length xs.values) false =
              subst (λ j. IsOpened c (entry_of c.entries f) j false) counted (entries f k may) in
              let narrow = g.there.narrow in
              let wide = g.wider in
              record {
                fits =
                    fits_append xs.code instructions g.fits (fits_append (does xs.at enter)
                    (does r (Resume b))
                    (instruction_fits (after m (opens os)) xs.at enter g.there refl
                    (stands_left (after m (opens os)) (does xs.at enter) (does r (Resume b))
                    in_instructions)
                    (frame, (omega arith, (entry, g.below))))
                    (frame_fits (after m (opens os)) r b frame narrow
                    (after_instruction (after m (opens os)) xs.at enter (does r (Resume b))
                    in_instructions)
                    (target (suc w) b at_b (omega arith))));
                there = at_b;
                wider = omega (arith, wide);
                below = variable_below (w + 1) w (omega arith);
              })

          mutual
            -- the code of an expression in order fits
            pub expr_fits : (e : Expr) → IsExpr callable n e → FitsExpr (expr_code integers e)
            expr_fits e (scope.literal k) =
                subst FitsExpr (sym (code-Lit integers k))
                (by_value _ (λ a next enough at_a within stands. record {
                  fits = nothing_fits;
                  there = at_a;
                  wider = omega arith;
                  below =
                      number_below a.width k;
                }))
            expr_fits e (scope.variable_of v below) =
                subst FitsExpr (sym (code-Var integers v))
                (by_value _ (λ a next enough at_a within stands. record {
                  fits = nothing_fits;
                  there = at_a;
                  wider = omega arith;
                  below =
                      variable_below a.width v (omega (arith, below, enough));
                }))
            expr_fits e (scope.one_operand op f inner) =
                subst FitsExpr (sym (code-Unary integers op f))
                (unary_fits op (expr_code integers f) (expr_fits f inner))
            expr_fits e (scope.two_operands op f g left right) =
                subst FitsExpr (sym (code-Binary integers op f g))
                (binary_fits op (expr_code integers f) (expr_code integers g) (expr_fits f left)
                (expr_fits g right))
            expr_fits e (scope.chosen x f g test left right) =
                subst FitsExpr (sym (code-Choose integers x f g))
                (choice_fits (expr_code integers x) (expr_code integers f) (expr_code integers g)
                (expr_fits x test)
                (expr_fits f left) (expr_fits g right))
            expr_fits e (scope.applied f es may inner) =
                subst FitsExpr (sym (code-Apply integers f es))
                (call_fits f (length es) (map (expr_code integers) es) may
                (length-map es (expr_code integers))
                (exprs_fit es inner))

            exprs_fit : (es : List Expr) → AreExprs callable n es →
                FitsArguments (map (expr_code integers) es)
            exprs_fit es scope.no_expr = no_argument
            exprs_fit es (scope.one_more e fs first rest) =
                one_argument (expr_code integers e) (map (expr_code integers) fs)
                (expr_fits e first) (exprs_fit fs rest)
