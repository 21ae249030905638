-- Changes of a name: the forms, and how they are read.
use Rattle.std.proofs.Common.{◌≡◌, ℕ, ◌+◌, ◌-◌, ◌≤◌, ◌<◌, max, pos, Option, Some, None, Result, IfOk, List, length, refl, sym, ◌∙◌, ap, arith}
use Rattle.rx_plain.proofs.Naturals.{three_more}
use Rattle.c_lex.specs.declared.token.Token.{Token}
use Rattle.c_lex.specs.declared.token.TokenKind.{TokenKind}
use Rattle.c_lex.specs.declared.token.TokenKind.TheVariants.{Name, Mark}
use Rattle.c_lex.specs.declared.token.Mark.{Mark as TheMark}
use Rattle.c_lex.specs.declared.token.Mark.TheVariants.{Assign as AssignMark}
use Rattle.c_ast.specs.declared.expr.BinOp.{BinOp}
use Rattle.c_ast.specs.declared.expr.Expr.{Expr}
use Rattle.c_ast.specs.declared.expr.Expr.TheVariants.{Var, Binary}
use Rattle.c_ast.specs.declared.stmt.Stmt.{Stmt}
use Rattle.c_ast.specs.declared.stmt.Stmt.TheVariants.{Assign}
use Rattle.c_ast.specs.Height.{expr_height, stmt_height}
use Rattle.c_ast.proofs.Equations.{height-Var, height-Lit, height-Binary, height-positive}
use Rattle.rx_plain.specs.declared.no_memory.NoMemory.{NoMemory}
use Rattle.c_syntax.specs.declared.read.Span.{Span}
use Rattle.c_syntax.specs.Grammar.{kind_at, UpTo}
use Rattle.c_syntax.specs.Statements.{Changing, update, step, changing_of, unit, updated, Change, by_value, by_update, by_step_after, by_step_before}
use Rattle.c_syntax.specs.Readers.{Gives, IsNoHigher}
use Rattle.c_syntax.specs.StmtReaders.{IsStep}
use Rattle.c_ast.proofs.StmtEquations.{height-Assign}
use Rattle.c_syntax.proofs.Lookahead.{kind_within}
use Rattle.c_syntax.proofs.Building.{Built, renamed_ok}

-- what a change can be
pub data Changed (m : TheMark) (ts : List Token) (i j : ℕ) (s : Stmt) : Type 0 where
  changed_value : (e : Expr) → kind_at ts i ≡ Some Name → kind_at ts (i + 1) ≡
      Some (Mark AssignMark) → UpTo m ts (i + 2) j e → s ≡ Assign i e → Changed m ts i j s
  changed_update : (op : BinOp) → (e : Expr) → kind_at ts i ≡ Some Name →
      changing_of (kind_at ts (i + 1)) ≡ Some (update op) → UpTo m ts (i + 2) j e → s ≡
      updated i op e → Changed m ts i j s
  changed_after : (op : BinOp) → kind_at ts i ≡ Some Name → changing_of (kind_at ts (i + 1)) ≡
      Some (step op) → kind_at ts (i + 2) ≡ Some (Mark m) → j ≡ i + 3 → s ≡ updated i op unit →
      Changed m ts i j s
  changed_before : (op : BinOp) → changing_of (kind_at ts i) ≡ Some (step op) → kind_at ts (i + 1) ≡
      Some Name → kind_at ts (i + 2) ≡ Some (Mark m) → j ≡ i + 3 → s ≡ updated (i + 1) op unit →
      Changed m ts i j s

pub changed_of : (m : TheMark) (ts : List Token) (i j : ℕ) (s : Stmt) → Change m ts i j s →
    Changed m ts i j s
changed_of m ts i j s (by_value _ _ _ _ e h a u) = changed_value e h a u refl
changed_of m ts i j s (by_update _ _ _ _ op e h a u) = changed_update op e h a u refl
changed_of m ts i j s (by_step_after _ _ _ op h a c) = changed_after op h a c refl refl
changed_of m ts i j s (by_step_before _ _ _ op a h c) = changed_before op a h c refl refl

-- no mark of a change is where another kind of token is
pub unchanging : (ts : List Token) (i : ℕ) (k : TokenKind) (c : Changing) → kind_at ts i ≡ Some k →
    changing_of (Some k) ≡ None → changing_of (kind_at ts i) ≡ Some c → ⊥
unchanging ts i k c h none some =
    let contradiction : None ≡ Some c = sym none ∙ (ap changing_of (sym h) ∙ some) in cc

-- the heights of changes
pub height-updated : (name : ℕ) (op : BinOp) (e : Expr) → stmt_height (updated name op e) ≡ 2 +
    expr_height e
height-updated name op e =
    let outer : stmt_height (updated name op e) ≡ 1 + expr_height (Binary op (Var name) e) =
    height-Assign name (Binary op (Var name) e) in
    let inner : expr_height (Binary op (Var name) e) ≡ 1 +
    max (expr_height (Var name)) (expr_height e) = height-Binary op (Var name) e in
    let one : expr_height (Var name) ≡ 1 = height-Var name in
    let some : 1 ≤ expr_height e = height-positive e in
    omega arith

-- where such a mark is, the list goes on
changing_is_token : (k : Option TokenKind) (c : Changing) → changing_of k ≡ Some c →
    (t : TokenKind) × (k ≡ Some t)
changing_is_token None c h = cc
changing_is_token (Some t) c h = (t, refl)

pub changing_within : (ts : List Token) (i : ℕ) (c : Changing) → changing_of (kind_at ts i) ≡
    Some c → i < length ts
changing_within ts i c h =
    let stands = changing_is_token (kind_at ts i) c h in kind_within ts i stands.0 stands.1

-- the literal 1 is 1 high
height-unit : expr_height unit ≡ 1
height-unit = height-Lit (pos 1)

module _ (m : TheMark) (ts : List Token) (i : ℕ) where
  -- a change that begins with `++` or `--`
  pub change_before : (op : BinOp) → changing_of (kind_at ts i) ≡ Some (step op) →
      (j : ℕ) (s : Stmt) → Changed m ts i j s
      → (kind_at ts (i + 1) ≡ Some Name) × ((kind_at ts (i + 2) ≡ Some (Mark m)) ×
      ((j ≡ i + 3) × (s ≡ updated (i + 1) op unit)))
  change_before op o j s (changed_value e h a u q) =
      absurd (unchanging ts i Name (step op) h refl o)
  change_before op o j s (changed_update other e h a u q) =
      absurd (unchanging ts i Name (step op) h refl o)
  change_before op o j s (changed_after other h a c p q) =
      absurd (unchanging ts i Name (step op) h refl o)
  change_before op o j s (changed_before other a h c p q) =
      let same : op ≡ other = cc in (h, (c, (p, q ∙ ap (λ z. updated (i + 1) z unit) (sym same))))

  -- a change that begins with a name
  module _ (named : kind_at ts i ≡ Some Name) where
    pub change_after : (op : BinOp) → changing_of (kind_at ts (i + 1)) ≡ Some (step op) →
        (j : ℕ) (s : Stmt) → Changed m ts i j s
        → (kind_at ts (i + 2) ≡ Some (Mark m)) × ((j ≡ i + 3) × (s ≡ updated i op unit))
    change_after op o j s (changed_value e h a u q) =
        absurd (unchanging ts (i + 1) (Mark AssignMark) (step op) a refl o)
    change_after op o j s (changed_update other e h a u q) =
        let contradiction : Some (update other) ≡ Some (step op) = sym a ∙ o in absurd cc
    change_after op o j s (changed_after other h a c p q) =
        let same : op ≡ other = cc in (c, (p, q ∙ ap (λ z. updated i z unit) (sym same)))
    change_after op o j s (changed_before other a h c p q) =
        absurd (unchanging ts i Name (step other) named refl a)

    pub change_value : kind_at ts (i + 1) ≡ Some (Mark AssignMark) → (j : ℕ) (s : Stmt) →
        Changed m ts i j s → (e : Expr) × (UpTo m ts (i + 2) j e × (s ≡ Assign i e))
    change_value o j s (changed_value e h a u q) = (e, (u, q))
    change_value o j s (changed_update other e h a u q) =
        absurd (unchanging ts (i + 1) (Mark AssignMark) (update other) o refl a)
    change_value o j s (changed_after other h a c p q) =
        absurd (unchanging ts (i + 1) (Mark AssignMark) (step other) o refl a)
    change_value o j s (changed_before other a h c p q) =
        absurd (unchanging ts i Name (step other) named refl a)

    pub change_update : (op : BinOp) → changing_of (kind_at ts (i + 1)) ≡ Some (update op) →
        (j : ℕ) (s : Stmt) → Changed m ts i j s
        → (e : Expr) × (UpTo m ts (i + 2) j e × (s ≡ updated i op e))
    change_update op o j s (changed_value e h a u q) =
        absurd (unchanging ts (i + 1) (Mark AssignMark) (update op) a refl o)
    change_update op o j s (changed_update other e h a u q) =
        let same : op ≡ other = cc in (e, (u, q ∙ ap (λ z. updated i z e) (sym same)))
    change_update op o j s (changed_after other h a c p q) =
        let contradiction : Some (update op) ≡ Some (step other) = sym o ∙ a in absurd cc
    change_update op o j s (changed_before other a h c p q) =
        absurd (unchanging ts i Name (step other) named refl a)

-- a change by a value, built of the value
pub builds_value : (m : TheMark) (ts : List Token) (i room : ℕ) → kind_at ts i ≡ Some Name →
    kind_at ts (i + 1) ≡ Some (Mark AssignMark)
    → Built (Assign i) (IsNoHigher expr_height (room - 1) (UpTo m ts (i + 2)))
    (IsNoHigher stmt_height room (Change m ts i))
builds_value m ts i room named assigned = record {
  make = λ j e p.
      let high : stmt_height (Assign i e) ≡ 1 + expr_height e = height-Assign i e in
      let some : 1 ≤ expr_height e = height-positive e in
      let fits : expr_height e ≤ room - 1 = p.1 in
      (by_value m ts i j e named assigned p.0, omega arith);
  part = λ j s q.
      let is = change_value m ts i named assigned j s (changed_of m ts i j s q.0) in
      let high : stmt_height (Assign i is.0) ≡ 1 + expr_height is.0 = height-Assign i is.0 in
      let same : stmt_height s ≡ stmt_height (Assign i is.0) = ap stmt_height is.1.1 in
      let fits : stmt_height s ≤ room = q.1 in
      (is.0, ((is.1.0, omega arith), is.1.1));
}

-- a change by `op=`, built of the value
pub builds_update : (m : TheMark) (ts : List Token) (i room : ℕ) (op : BinOp) → kind_at ts i ≡
    Some Name → changing_of (kind_at ts (i + 1)) ≡ Some (update op)
    → Built (updated i op) (IsNoHigher expr_height (room - 2) (UpTo m ts (i + 2)))
    (IsNoHigher stmt_height room (Change m ts i))
builds_update m ts i room op named o = record {
  make = λ j e p.
      let high : stmt_height (updated i op e) ≡ 2 + expr_height e = height-updated i op e in
      let some : 1 ≤ expr_height e = height-positive e in
      let fits : expr_height e ≤ room - 2 = p.1 in
      (by_update m ts i j op e named o p.0, omega arith);
  part = λ j s q.
      let is = change_update m ts i named op o j s (changed_of m ts i j s q.0) in
      let high : stmt_height (updated i op is.0) ≡ 2 + expr_height is.0 =
      height-updated i op is.0 in
      let same : stmt_height s ≡ stmt_height (updated i op is.0) = ap stmt_height is.1.1 in
      let fits : stmt_height s ≤ room = q.1 in
      (is.0, ((is.1.0, omega arith), is.1.1));
}

-- what `=` and `op=` don't follow is no change, where no step is
pub unchanged : (m : TheMark) (ts : List Token) (i room : ℕ) → kind_at ts i ≡ Some Name →
    ((op : BinOp) → changing_of (kind_at ts (i + 1)) ≡ Some (step op) → ⊥)
    → (kind_at ts (i + 1) ≡ Some (Mark AssignMark) → ⊥) →
    ((op : BinOp) → changing_of (kind_at ts (i + 1)) ≡ Some (update op) → ⊥)
    → (j : ℕ) (s : Stmt) → Changed m ts i j s → ⊥
unchanged m ts i room named no_step no_value no_update j s (changed_value e h a u q) = no_value a
unchanged m ts i room named no_step no_value no_update j s (changed_update op e h a u q) =
    no_update op a
unchanged m ts i room named no_step no_value no_update j s (changed_after op h a c p q) =
    no_step op a
unchanged m ts i room named no_step no_value no_update j s (changed_before op a h c p q) =
    unchanging ts i Name (step op) named refl a

-- a step is read
pub step_reads : (m : TheMark) (ts : List Token) (name at room : ℕ) (op : BinOp) (y : Span Stmt) →
    kind_at ts at ≡ Some (Mark m) → 3 ≤ room
    → y.value ≡ updated name op unit → y.end ≡ at + 1 →
    Gives (IsNoHigher stmt_height room (IsStep m ts name op at)) at (length ts) (Some y)
step_reads m ts name at room op y h some yv ye =
    let within : at < length ts = kind_within ts at (Mark m) h in
    let high : stmt_height (updated name op unit) ≡ 2 + expr_height unit =
    height-updated name op unit in
    let one : expr_height unit ≡ 1 = height-unit in
    let same : stmt_height y.value ≡ stmt_height (updated name op unit) = ap stmt_height yv in
    record {
      found =
          record {
            spelled = (record { marked = h; behind = ye; is = yv }, omega arith);
            further =
                omega arith;
            within = omega arith;
          };
      only = λ j s p. (ye ∙ sym p.0.behind, yv ∙ sym p.0.is);
    }

-- a step in front of its name
pub steps_before : (m : TheMark) (ts : List Token) (i room : ℕ) (op : BinOp)
    (r : Result (Option (Span Stmt)) NoMemory) → changing_of (kind_at ts i) ≡ Some (step op) →
    kind_at ts (i + 1) ≡ Some Name
    → IfOk r (Gives (IsNoHigher stmt_height room (IsStep m ts (i + 1) op (i + 2))) (i + 2)
    (length ts)) →
    IfOk r (Gives (IsNoHigher stmt_height room (Change m ts i)) i (length ts))
steps_before m ts i room op r o named =
    renamed_ok (IsNoHigher stmt_height room (IsStep m ts (i + 1) op (i + 2)))
    (IsNoHigher stmt_height room (Change m ts i)) i (i + 2) (length ts) r (omega arith)
    (λ j s p. (
      rw (p.0.behind, three_more i, p.0.is) (by_step_before m ts i op o named p.0.marked),
      p.1,
    ))
    (λ j s q.
    let is = change_before m ts i op o j s (changed_of m ts i j s q.0) in
    (record { marked = is.1.0; behind = is.1.1.0 ∙ sym (three_more i); is = is.1.1.1 }, q.1))

-- a step after its name
pub steps_after : (m : TheMark) (ts : List Token) (i room : ℕ) (op : BinOp)
    (r : Result (Option (Span Stmt)) NoMemory) → kind_at ts i ≡ Some Name →
    changing_of (kind_at ts (i + 1)) ≡ Some (step op)
    → IfOk r (Gives (IsNoHigher stmt_height room (IsStep m ts i op (i + 2))) (i + 2) (length ts)) →
    IfOk r (Gives (IsNoHigher stmt_height room (Change m ts i)) i (length ts))
steps_after m ts i room op r named o =
    renamed_ok (IsNoHigher stmt_height room (IsStep m ts i op (i + 2)))
    (IsNoHigher stmt_height room (Change m ts i)) i (i + 2) (length ts) r (omega arith)
    (λ j s p. (
      rw (p.0.behind, three_more i, p.0.is) (by_step_after m ts i op named o p.0.marked),
      p.1,
    ))
    (λ j s q.
    let is = change_after m ts i named op o j s (changed_of m ts i j s q.0) in
    (record { marked = is.0; behind = is.1.0 ∙ sym (three_more i); is = is.1.1 }, q.1))
