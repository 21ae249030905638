-- Arguments that are being compiled one by one: what is there, and what those that are left still
-- decide.
use Rattle.std.proofs.Common.{◌≡◌, ◌∙◌, refl, sym, ap, subst, ◌&&◌, false, ℕ, suc, ◌+◌, ◌<◌, ◌≤◌, Ok, List, [], ◌∷◌, ◌++◌, length, map, drop, get_or, drop_of_length-le, append_assoc, add-one}
use Rattle.std.proofs.Math.Seq.{drop-cons}
use Rattle.std.proofs.lemmas.Bool.{and_left}
use Rattle.std.proofs.lemmas.List.{append-nil}
use Rattle.rx_poly.specs.declared.body.Body.{Body}
use Rattle.c_ast.specs.declared.integers.Integers.{Integers}
use Rattle.c_ast.specs.declared.expr.Expr.{Expr}
use Rattle.rx_code.specs.Expressions.{Arguments, arguments, expr_code}
use Rattle.rx_code.specs.Pieces.{after, append_code}
use Rattle.rx_code.specs.declared.code.Code.{Code}
use Rattle.rx_code.specs.declared.point.Point.{Point}
use Rattle.rx_exprs.specs.Compiles.{CompilesArguments, CompilesValue, arguments_at, value_at}
use Rattle.rx_exprs.proofs.Following.{append-no_code, append_code_assoc, opened-append}

-- the code, the point and the values of the arguments so far, and those that are left
pub record Compiling (integers : Integers) (old now : Code) (a at : Point) (values : List Body)
    (rest whole : List Expr) : Type 0 where
  pub code : append_code now (arguments_at integers rest at now).code ≡
      append_code old (arguments_at integers whole a old).code
  pub at_is : (arguments_at integers rest at now).at ≡ (arguments_at integers whole a old).at
  pub values_are : values ++ (arguments_at integers rest at now).values ≡
      (arguments_at integers whole a old).values
  pub within : (arguments_at integers rest at now).within ≡
      (arguments_at integers whole a old).within

pub begin : (integers : Integers) (old : Code) (a : Point) (es : List Expr) →
    Compiling integers old old a a [] (drop 0 es) es
begin integers old a es = record { code = refl; at_is = refl; values_are = refl; within = refl }

module _ {integers : Integers} {old now : Code} {a at : Point} {values : List Body}
    (es : List Expr) (k : ℕ) {e : Expr} (h : k < length es) (is : e ≡ get_or es k e)
    (s : Compiling integers old now a at values (drop k es) es)
  where
    opened : Compiling integers old now a at values (e ∷ drop (suc k) es) es
    opened =
        subst (λ rest. Compiling integers old now a at values rest es)
        (drop-cons es k e h ∙ ap (λ x. x ∷ drop (suc k) es) (sym is)) s

    -- those that are left after the next one
    abbrev left : Arguments
    left =
        arguments (map (expr_code integers) (drop (suc k) es)) (value_at integers e at now).at
        (after (length now.opened) (value_at integers e at now).code)

    -- an argument beyond the limits is one of all
    pub no_argument : (value_at integers e at now).within ≡ false →
        (arguments_at integers es a old).within ≡ false
    no_argument f = sym opened.within ∙ and_left (value_at integers e at now).within left.within f

    -- one within them leaves it to the rest
    pub after_argument : (new : Code) (next : Point) (p : Body) (more : List Body) →
        CompilesValue now new (Ok (next, p)) (value_at integers e at now) → more ≡ values ++ p ∷ []
        → Compiling integers old new a next more (drop (k + 1) es) es
    after_argument new next p more v pushed =
        let x = value_at integers e at now in
        let count : length new.opened ≡ after (length now.opened) x.code =
        ap (λ (c : Code). length c.opened) v.0 ∙ opened-append now x.code in
        let same : arguments_at integers (drop (suc k) es) next new ≡ left = λ i.
        arguments (map (expr_code integers) (drop (suc k) es)) (v.1 i) (count i) in
        subst (λ n. Compiling integers old new a next more (drop n es) es) (sym (add-one k))
        (record {
          code =
              ap (λ (r : Arguments). append_code new r.code) same ∙
              ap (λ (c : Code). append_code c left.code) v.0 ∙
              append_code_assoc now x.code left.code ∙ opened.code;
          at_is = ap (λ (r : Arguments). r.at) same ∙ opened.at_is;
          values_are =
              ap (λ (r : Arguments). more ++ r.values) same ∙
              ap (λ (ps : List Body). ps ++ left.values)
              (pushed ∙ ap (λ (q : Body). values ++ q ∷ []) v.2)
              ∙ append_assoc values (x.value ∷ []) left.values ∙ opened.values_are;
          within =
              ap (λ (r : Arguments). r.within) same ∙ ap (λ b. b && left.within) (sym v.3) ∙
              opened.within;
        })

-- nothing is left
pub finished : (integers : Integers) (old now : Code) (a at : Point) (values : List Body)
    (es : List Expr) (k : ℕ) →
    length es ≤ k → Compiling integers old now a at values (drop k es) es
    → CompilesArguments old now (Ok (at, values)) (arguments_at integers es a old)
finished integers old now a at values es k h s =
    let all = subst (λ rest. Compiling integers old now a at values rest es)
    (drop_of_length-le es h) s in (
      sym (append-no_code now) ∙ all.code,
      all.at_is,
      sym (append-nil values) ∙ all.values_are,
      sym all.within,
    )
