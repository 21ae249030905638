-- Statements of a list that are being compiled one by one: what is there, and what those that are
-- left still decide.
use Rattle.std.proofs.Common.{◌≡◌, ◌≢◌, ◌∙◌, refl, sym, ap, subst, true, false, ◌&&◌, ℕ, suc, ◌+◌, ◌<◌, ◌≤◌, Result, Ok, Err, List, [], ◌∷◌, length, map, drop, get_or, drop_of_length-le, add-one, arith, length-drop}
use Rattle.std.proofs.Math.Seq.{drop-cons}
use Rattle.std.proofs.lemmas.Bool.{and_left, and_right}
use Rattle.rx_plain.specs.Formed.{Formed, pure}
use Rattle.rx_poly.specs.declared.poly_end.PolyEnd.{PolyEnd}
use Rattle.c_ast.specs.declared.integers.Integers.{Integers}
use Rattle.c_ast.specs.declared.stmt.Stmt.{Stmt}
use Rattle.rx_code.specs.Pieces.{a_point, after, append_code, does, is_room, opens, point}
use Rattle.rx_code.specs.Statements.{list_code, stmt_code}
use Rattle.rx_code.specs.declared.action.Action.TheVariants.{Go}
use Rattle.rx_code.specs.declared.code.Code.{Code}
use Rattle.rx_code.specs.declared.point.Point.{Point}
use Rattle.rx_exprs.specs.Compiles.{CompilesCode}
use Rattle.rx_exprs.proofs.Following.{append_code_assoc, opened-append}
use Rattle.rx_stmts.specs.Statements.{CompilesPoint, as_places, list_at, slots_after, stmt_at}
use Rattle.rx_stmts.specs.declared.places.Places.{Places}

-- the places with another beginning, and with another end
abbrev pub from : Point → Places → Places
from at p = record { at = at; to = p.to; break_to = p.break_to; continue_to = p.continue_to }

abbrev pub between : Point → Point → Places → Places
between at to p = record { at = at; to = to; break_to = p.break_to; continue_to = p.continue_to }

-- the code so far and the point that is reached, and the statements that are left
pub record Listing (integers : Integers) (old now : Code) (p : Places) (at : Point)
    (rest whole : List Stmt) : Type 0
  where
    pub code : append_code now (list_at integers rest (from at p) now).form ≡
        append_code old (list_at integers whole p old).form
    pub within : (list_at integers rest (from at p) now).within ≡
        (list_at integers whole p old).within

pub begin : (integers : Integers) (old : Code) (p : Places) (ts : List Stmt) →
    Listing integers old old p p.at (drop 0 ts) ts
begin integers old p ts = record { code = refl; within = refl }

-- what is compiled for the rest is compiled for the whole
ends_with : (old now new : Code) (c d : Formed Code) (result : Result (Unit {0}) PolyEnd) →
    append_code now c.form ≡ append_code old d.form → c.within ≡ d.within
    → CompilesCode now new result c → CompilesCode old new result d
ends_with old now new c d (Ok r) code within is = (is.0 ∙ code, sym within ∙ is.1)
ends_with old now new c d (Err e) code within is = λ large. sym within ∙ is large

-- a list that isn't empty
record IsCons (xs : List Stmt) : Type 0 where
  first : Stmt
  rest : List Stmt
  is : xs ≡ first ∷ rest

cons_of : (xs : List Stmt) → 0 < length xs → IsCons xs
cons_of [] h = absurd (omega (arith, h))
cons_of (x ∷ xs) h = record { first = x; rest = xs; is = refl }

module _ {integers : Integers} {old now : Code} {p : Places} {at : Point} (ts : List Stmt) (k : ℕ)
    {t : Stmt}
    (h : k < length ts) (is : t ≡ get_or ts k t) (s : Listing integers old now p at (drop k ts) ts)
  where
    opened : Listing integers old now p at (t ∷ drop (suc k) ts) ts
    opened =
        subst (λ rest. Listing integers old now p at rest ts)
        (drop-cons ts k t h ∙ ap (λ x. x ∷ drop (suc k) ts) (sym is)) s

    -- the last one
    pub last : k + 1 ≡ length ts → (new : Code) (result : Result (Unit {0}) PolyEnd) →
        CompilesCode now new result (stmt_at integers t (from at p) now) →
        CompilesCode old new result (list_at integers ts p old)
    last end new result compiled =
        let none : drop (suc k) ts ≡ [] = drop_of_length-le ts {i = suc k} (omega (arith, end)) in
        let alone : Listing integers old now p at (t ∷ []) ts =
        subst (λ rest. Listing integers old now p at (t ∷ rest) ts) none opened in
        ends_with old now new (stmt_at integers t (from at p) now) (list_at integers ts p old) result
        alone.code
        alone.within compiled

    module _ (other : k + 1 ≢ length ts) where
      more : IsCons (drop (suc k) ts)
      more = cons_of (drop (suc k) ts) (let l = length-drop (suc k) ts in omega (arith, l, h, other))

      both : Listing integers old now p at (t ∷ more.first ∷ more.rest) ts
      both = subst (λ rest. Listing integers old now p at (t ∷ rest) ts) more.is opened

      -- the number of slots after it, and the point of what follows
      abbrev n : ℕ
      n = slots_after integers t at.width

      abbrev z : Point
      z = point (length now.opened) n

      -- its code, and that of the rest
      abbrev c : Formed Code
      c = (stmt_code integers t).code (as_places (between at z p)) (length now.opened + 1)

      abbrev d : Formed Code
      d =
          list_code (stmt_code integers more.first ∷ map (stmt_code integers) more.rest)
          (as_places (from z p))
          (after (length now.opened + 1) c.form)

      pub no_point : is_room (length now.opened) n ≡ false → (list_at integers ts p old).within ≡
          false
      no_point full =
          sym both.within ∙ and_left (is_room (length now.opened) n) (c.within && d.within) full

      module _ (middle : Code) (to : Point) (point_opened : CompilesPoint now middle (Ok to) n) where
        count : length middle.opened ≡ length now.opened + 1
        count =
            ap (λ (x : Code). length x.opened) point_opened.0 ∙
            opened-append now (opens (a_point n ∷ []))

        same : stmt_at integers t (between at to p) middle ≡ c
        same i = (stmt_code integers t).code (as_places (between at (point_opened.1 i) p)) (count i)

        pub no_statement : (stmt_at integers t (between at to p) middle).within ≡ false →
            (list_at integers ts p old).within ≡ false
        no_statement large =
            sym both.within
            ∙ and_right (is_room (length now.opened) n) (c.within && d.within)
            (and_left c.within d.within (sym (ap (λ (x : Formed Code). x.within) same) ∙ large))

        pub next : (new : Code) → CompilesCode middle new (Ok tt)
            (stmt_at integers t (between at to p) middle)
            → Listing integers old new p to (drop (k + 1) ts) ts
        next new compiled =
            let made : new ≡ append_code middle c.form = compiled.0 ∙
            ap (λ (x : Formed Code). append_code middle x.form) same in
            let counted : length new.opened ≡ after (length now.opened + 1) c.form =
            ap (λ (x : Code). length x.opened) made ∙ opened-append middle c.form ∙
            ap (λ j. j + length c.form.opened) count in
            let rest : list_at integers (more.first ∷ more.rest) (from to p) new ≡ d = λ i.
            list_code (stmt_code integers more.first ∷ map (stmt_code integers) more.rest)
            (as_places (from (point_opened.1 i) p)) (counted i) in
            let o = opens (a_point n ∷ []) in
            let kept : c.within ≡ true = sym (ap (λ (x : Formed Code). x.within) same) ∙ compiled.1 in
            let known : Listing integers old new p to (more.first ∷ more.rest) ts = record {
              code =
                  ap (λ (x : Formed Code). append_code new x.form) rest ∙
                  ap (λ (x : Code). append_code x d.form)
                  (made ∙ ap (λ (x : Code). append_code x c.form) point_opened.0)
                  ∙ append_code_assoc (append_code now o) c.form d.form ∙
                  append_code_assoc now o (append_code c.form d.form) ∙ both.code;
              within =
                  ap (λ (x : Formed Code). x.within) rest ∙ ap (λ b. b && d.within) (sym kept) ∙
                  ap (λ b. b && (c.within && d.within)) (sym point_opened.2) ∙ both.within;
            } in
            subst (λ j. Listing integers old new p to (drop j ts) ts) (sym (add-one k))
            (subst (λ xs. Listing integers old new p to xs ts) (sym more.is) known)

-- nothing is left
pub finished : (integers : Integers) (old now new : Code) (p : Places) (at : Point) (ts : List Stmt)
    (k : ℕ) (result : Result (Unit {0}) PolyEnd) → length ts ≤ k →
    Listing integers old now p at (drop k ts) ts
    → CompilesCode now new result (pure (does at (Go p.to))) →
    CompilesCode old new result (list_at integers ts p old)
finished integers old now new p at ts k result h s compiled =
    let all = subst (λ rest. Listing integers old now p at rest ts) (drop_of_length-le ts h) s in
    ends_with old now new (pure (does at (Go p.to))) (list_at integers ts p old) result all.code
    all.within
    compiled
