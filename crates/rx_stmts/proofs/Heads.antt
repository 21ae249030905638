-- The first part of a `for` that has one: the point of the loop's head, and then the statements
-- that lead to it.
use Rattle.std.proofs.Common.{◌≡◌, ◌∙◌, sym, ap, Bool, false, ℕ, ◌+◌, Result, Ok, Err, List, [], ◌∷◌, length, map}
use Rattle.std.proofs.lemmas.Bool.{and_from, and_left}
use Rattle.std.specs.Prelude.{◌==◌}
use Rattle.rx_plain.specs.Formed.{Formed}
use Rattle.rx_poly.specs.declared.poly_end.PolyEnd.{PolyEnd}
use Rattle.c_ast.specs.declared.integers.Integers.{Integers}
use Rattle.c_ast.specs.declared.stmt.Stmt.{Stmt}
use Rattle.rx_code.specs.Pieces.{a_point, append_code, is_room, opens, point}
use Rattle.rx_code.specs.Statements.{list_code, stmt_code}
use Rattle.rx_code.specs.declared.code.Code.{Code}
use Rattle.rx_code.specs.declared.point.Point.{Point}
use Rattle.rx_exprs.specs.Compiles.{CompilesCode}
use Rattle.rx_exprs.proofs.Following.{Fails, append_code_assoc, opened-append, second_false}
use Rattle.rx_stmts.specs.Statements.{CompilesHead, CompilesPoint, Headed, as_places, head_at, list_at, slots_after_list}
use Rattle.rx_stmts.specs.declared.places.Places.{Places}

-- the places with another end
abbrev pub leading : Point → Places → Places
leading to p =
    record { at = p.at; to = to; break_to = p.break_to; continue_to = p.continue_to }

module _ (integers : Integers) (p : Places) (old : Code) where
  -- how many slots there are at the head
  abbrev count : List Stmt → ℕ
  count ts = slots_after_list integers ts p.at.width

  -- no room for the head
  pub no_head : (ts : List Stmt) → (length ts == 0) ≡ false →
      is_room (length old.opened) (count ts) ≡ false →
      (head_at integers ts p old).within ≡ false
  no_head [] some full = absurd cc
  no_head (t ∷ ts) some full =
      let h = point (length old.opened) (count (t ∷ ts)) in
      let c = list_code (map (stmt_code integers) (t ∷ ts)) (as_places (leading h p))
      (length old.opened + 1) in
      and_left (is_room (length old.opened) (count (t ∷ ts))) c.within full

  module _ (one : Code) (h : Point) where
    -- the statements at the point that is opened
    same : (t : Stmt) (ts : List Stmt) → CompilesPoint old one (Ok h) (count (t ∷ ts)) →
        list_at integers (t ∷ ts) (leading h p) one ≡
        list_code (map (stmt_code integers) (t ∷ ts))
        (as_places (leading (point (length old.opened) (count (t ∷ ts))) p)) (length old.opened + 1)
    same t ts head =
        let counted : length one.opened ≡ length old.opened + 1 =
        ap (λ (c : Code). length c.opened) head.0 ∙
        opened-append old (opens (a_point (count (t ∷ ts)) ∷ [])) in
        λ i. list_code (map (stmt_code integers) (t ∷ ts)) (as_places (leading (head.1 i) p))
        (counted i)

    pub no_list : (ts : List Stmt) → (length ts == 0) ≡ false →
        CompilesPoint old one (Ok h) (count ts) →
        (list_at integers ts (leading h p) one).within ≡ false →
        (head_at integers ts p old).within ≡ false
    no_list [] some head large = absurd cc
    no_list (t ∷ ts) some head large =
        let c = list_code (map (stmt_code integers) (t ∷ ts))
        (as_places (leading (point (length old.opened) (count (t ∷ ts))) p)) (length old.opened + 1)
        in
        second_false (is_room (length old.opened) (count (t ∷ ts))) c.within head.2
        (sym (ap (λ (x : Formed Code). x.within) (same t ts head)) ∙ large)

    pub head_compiled : (ts : List Stmt) (new : Code) → (length ts == 0) ≡ false →
        CompilesPoint old one (Ok h) (count ts)
        → CompilesCode one new (Ok tt) (list_at integers ts (leading h p) one) →
        CompilesHead old new (Ok h) (head_at integers ts p old)
    head_compiled [] new some head listed = absurd cc
    head_compiled (t ∷ ts) new some head listed =
        let n = count (t ∷ ts) in
        let c = list_code (map (stmt_code integers) (t ∷ ts))
        (as_places (leading (point (length old.opened) n) p)) (length old.opened + 1) in
        let is = same t ts head in (
          listed.0 ∙ ap (λ (x : Formed Code). append_code one x.form) is ∙
              ap (λ (x : Code). append_code x c.form) head.0 ∙
              append_code_assoc old (opens (a_point n ∷ [])) c.form,
          head.1,
          and_from (is_room (length old.opened) n) c.within head.2
              (sym (ap (λ (x : Formed Code). x.within) is) ∙ listed.1),
        )

-- a part is beyond the limits only where the whole is
pub fails_head : (old new : Code) (r : Result Point PolyEnd) (part : Bool) (whole : Headed) →
    Fails r part → (part ≡ false → whole.within ≡ false) → CompilesHead old new r whole
fails_head old new (Ok x) part whole f beyond = absurd f
fails_head old new (Err e) part whole f beyond = λ large. beyond (f large)
