-- Where a run comes to a point with a value: composed, and with one variable more.
use Rattle.std.proofs.Common.{◌≡◌, ℕ, suc, ◌≤◌, List, [], ◌∷◌, ◌++◌, length, take, sym, ap, subst, ◌∙◌, ℤ, arith, length-append, append_assoc}
use Rattle.std.proofs.lemmas.List.{append-nil, take-append-le}
use Rattle.std.proofs.Math.Seq.{take-length}
use Rattle.rx_poly.specs.Constants.{variable}
use Rattle.rx_poly.specs.Value.{value}
use Rattle.rx_poly.specs.declared.body.Body.{Body}
use Rattle.rx_poly.proofs.Constants.{value-variable}
use Rattle.rx_rewriting.specs.Terms as stack
use Rattle.rx_rewriting.specs.Terms.{Relation}
use Rattle.rx_term.specs.Assigned.{assigned}
use Rattle.rx_code.specs.Points.{with_element}
use Rattle.rx_code.specs.Doing.{at_point}
use Rattle.rx_code.specs.declared.point.Point.{Point}
use Rattle.rx_code.proofs.Lists.{assigned-next, with_element-end}
use Rattle.rx_agreement.proofs.Runs.{Runs, Stands, Comes}
use Rattle.rx_agreement.proofs.Leads.{run-none, run-trans}

-- a jump with all variables
pub whole_point : (y : Point) (xs : List ℤ) → length xs ≡ y.width → at_point y xs ≡
    stack.Call y.symbol xs
whole_point y xs long = ap (stack.Call y.symbol) (ap (λ k. take k xs) (sym long) ∙ take-length xs)

-- a jump with one place more
pub longer_point : (b c : Point) (ys : List ℤ) (z : ℤ) → length ys ≡ b.width →
    c.width ≡ suc b.width →
    at_point c (ys ++ z ∷ []) ≡ stack.Call c.symbol (ys ++ z ∷ [])
longer_point b c ys z long wide =
    whole_point c (ys ++ z ∷ []) (let l = length-append ys (z ∷ []) in
    omega (arith, l, long, wide))

-- a jump passes the first variables, which keep their integers where there are more
pub same_point : (y : Point) (xs more : List ℤ) → y.width ≤ length xs → at_point y (xs ++ more) ≡
    at_point y xs
same_point y xs more fits = ap (stack.Call y.symbol) (take-append-le y.width xs more fits)

-- an integer in the next place
pub put_point : (a b : Point) (xs more : List ℤ) (x : ℤ) → length xs ≡ a.width → b.width ≡
    suc a.width → at_point b (with_element a.width x (xs ++ more)) ≡
    stack.Call b.symbol (xs ++ x ∷ [])
put_point a b xs more x long wide =
    ap (stack.Call b.symbol) (ap (λ k. take k (with_element a.width x (xs ++ more))) wide ∙
    (ap (λ k. take (suc k) (with_element k x (xs ++ more))) (sym long) ∙
    with_element-end xs more x))

module _ (R : Relation) (w : ℕ) where
  pub nil : (ys : List ℤ) (r : Body) (z : ℤ) → Stands R w r ys z → value (assigned ys) r ≡ z
  nil ys r z stands = ap (λ l. value (assigned l) r) (sym (append-nil ys)) ∙ stands []

  -- the value is where the run is
  pub here : (a : Point) (xs : List ℤ) (p : Body) (x : ℤ) → length xs ≡ a.width →
      Stands R w p xs x →
      Comes R w a a xs p x
  here a xs p x long stands =
      let same : xs ++ [] ≡ xs = append-nil xs in
      record {
        more = [];
        run =
            subst (λ ys. Runs R w (stack.Call a.symbol xs) (stack.Call a.symbol ys)) (sym same)
            (run-none R w (stack.Call a.symbol xs));
        long = ap length same ∙ long;
        stands = λ zs. ap (λ ys. value (assigned (ys ++ zs)) p) same ∙ stands zs;
      }

  -- another polynomial with a value of its own at the same place
  pub other : (a b : Point) (xs : List ℤ) (p q : Body) (x y : ℤ) → (come : Comes R w a b xs p x) →
      Stands R w q (xs ++ come.more) y → Comes R w a b xs q y
  other a b xs p q x y come stands =
      record { more = come.more; run = come.run; long = come.long; stands = stands }

  -- one run after another
  pub one_after : (a b c : Point) (xs : List ℤ) (p q : Body) (x y : ℤ) (come : Comes R w a b xs p x)
      →
      Comes R w b c (xs ++ come.more) q y → Comes R w a c xs q y
  one_after a b c xs p q x y come next =
      let same : (xs ++ come.more) ++ next.more ≡ xs ++ (come.more ++ next.more) =
      append_assoc xs come.more next.more in
      record {
        more = come.more ++ next.more;
        run =
            run-trans R w come.run (subst (λ ys.
            Runs R w (stack.Call b.symbol (xs ++ come.more)) (stack.Call c.symbol ys)) same
            next.run);
        long = ap length (sym same) ∙ next.long;
        stands = λ zs. ap (λ ys. value (assigned (ys ++ zs)) q) (sym same) ∙ next.stands zs;
      }

  -- a value stays where places are added
  pub still : (p : Body) (ys : List ℤ) (x : ℤ) (more : List ℤ) → Stands R w p ys x →
      Stands R w p (ys ++ more) x
  still p ys x more stands zs =
      ap (λ l. value (assigned l) p) (append_assoc ys more zs) ∙ stands (more ++ zs)

  -- one place more, with its value
  pub next_place : (b c : Point) (ys : List ℤ) (z : ℤ) → length ys ≡ b.width → c.width ≡ suc b.width
      → Runs R w (stack.Call b.symbol ys) (stack.Call c.symbol (ys ++ z ∷ [])) →
      Comes R w b c ys (variable b.width) z
  next_place b c ys z long wide run = record {
    more = z ∷ [];
    run = run;
    long = let l = length-append ys (z ∷ []) in omega (arith, l, long, wide);
    stands = λ zs. value-variable (assigned ((ys ++ z ∷ []) ++ zs)) b.width
        ∙ (ap (λ l. assigned l b.width) (append_assoc ys (z ∷ []) zs) ∙
        (ap (assigned (ys ++ z ∷ zs)) (sym long) ∙ assigned-next ys z zs));
  }
