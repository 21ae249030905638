-- Which ground terms are inside, and what the rows that put a term inside say.
use Rattle.std.proofs.Common.{◌≡◌, ◌∙◌, ap, sym, subst, refl, arith, ℕ, zero, suc, ◌+◌, ◌<◌, Bool, true, false, Option, Some, None, unwrap_or, List, [], ◌∷◌, ◌++◌, length, slice_get, ℤ}
use Rattle.std.specs.List.{enumerate_from}
use Rattle.std.specs.Option.{option_map, option_map_or}
use Rattle.std.proofs.lemmas.Bool.{and_parts}
use Rattle.std.proofs.lemmas.List.{append-nil, length-append, length-map}
use Rattle.std.proofs.lemmas.List.Elements.{All-nil, All-cons, All-head, All-tail, All-append}
use Rattle.std.proofs.lemmas.Option.{none-some, same_Some, slice_get-map}
use Rattle.rx_plain.specs.Formed.{Formed}
use Rattle.rx_poly.specs.Constants.{variable}
use Rattle.rx_poly.specs.Substitution.{numbered, updated_assignment}
use Rattle.rx_poly.specs.Value.{value}
use Rattle.rx_poly.specs.declared.body.Body.{Body}
use Rattle.rx_poly.proofs.Constants.{value-variable}
use Rattle.rx_row.specs.Holds.{AllHold, RowHolds}
use Rattle.rx_row.specs.Variables.{rows_use_below}
use Rattle.rx_row.specs.declared.row.Row.{Row}
use Rattle.rx_row.proofs.SubstitutionLaws.{subst_rows-hold}
use Rattle.rx_rewriting.specs.Terms as stack
use Rattle.rx_rewriting.specs.Terms.{Declares, Fits, Ground, Symbol}
use Rattle.rx_rewriting.specs.Premises.{ClosedUnderSubterms}
use Rattle.rx_term.specs.Assigned.{assigned}
use Rattle.rx_term.specs.Covered.{KeepsDomains}
use Rattle.rx_term.specs.Domains.{IsInside, Meets, MeetsDomains, are_domains, domain_of, inside_rows, root_domains, rows_at}
use Rattle.rx_term.specs.Fitting.{is_declared, term_fits}
use Rattle.rx_term.specs.Meaning.{IsRedex, CallRedex, ReturnRedex, FailRedex, ground_at, matched, signature, symbol_of, values}
use Rattle.rx_term.specs.Shapes as shapes
use Rattle.rx_term.specs.Shapes.{Shape, shape_of}
use Rattle.rx_term.specs.Stacks.{root_level, root_of}
use Rattle.rx_term.specs.Variables.{arguments_of}
use Rattle.rx_term.specs.WellMade.{IsLeft, OfPoint, OverReturn, OverFail, variables_from}
use Rattle.rx_term.specs.declared.rule_set.RuleParts.{RuleParts}
use Rattle.rx_term.specs.declared.rule_set.SymInfo.{SymInfo}
use Rattle.rx_term.specs.declared.term.Sym.{Sym}
use Rattle.rx_term.specs.declared.term.Term.{Term}
use Rattle.rx_term.specs.declared.term.Term.TheVariants.{Return, Fail, Call, Frame, outs-Call, outs-Frame}
use Rattle.rx_term.proofs.AssignedLaws.{updated_assignment-arguments}
use Rattle.rx_term.proofs.Collecting.{inside-Return, inside-Fail, inside-Call, inside-Frame}
use Rattle.rx_term.proofs.Equations.{arguments-Return, arguments-Fail, arguments-Call, arguments-Frame, fits-Call, fits-Frame, ground-Return, ground-Fail, ground-Call, ground-Frame, induct, shape-Return, shape-Fail, shape-Call, shape-Frame}
use Rattle.rx_term.proofs.FittingLaws.{declares}
use Rattle.rx_term.proofs.Locality.{hold_too}
use Rattle.rx_term.proofs.TogetherLaws.{numbered_in_order}
use Rattle.rx_term.proofs.VariableTests.{length-variables_from}

-- ---- rows of two lists

pub first_hold : (a : ℕ → ℤ) (xs ys : List Row) → AllHold a (xs ++ ys) → AllHold a xs
first_hold a [] ys h = All-nil (RowHolds a)
first_hold a (x ∷ xs) ys h =
    All-cons (RowHolds a) x xs (All-head (RowHolds a) x (xs ++ ys) h)
    (first_hold a xs ys (All-tail (RowHolds a) x (xs ++ ys) h))

pub second_hold : (a : ℕ → ℤ) (xs ys : List Row) → AllHold a (xs ++ ys) → AllHold a ys
second_hold a [] ys h = h
second_hold a (x ∷ xs) ys h = second_hold a xs ys (All-tail (RowHolds a) x (xs ++ ys) h)

-- ---- domains are over the arguments

domain_from : (infos : List SymInfo) (lists : List (List Row)) → are_domains infos lists ≡ true →
    (i : ℕ) (info : SymInfo) → slice_get infos i ≡ Some info →
    rows_use_below info.arity (unwrap_or (slice_get lists i) []) ≡ true
domain_from infos [] good i info there = refl
domain_from [] (rows ∷ lists) good i info there = absurd (none-some info there)
domain_from (first ∷ infos) (rows ∷ lists) good zero info there =
    let both = and_parts (rows_use_below first.arity rows) (are_domains infos lists) good in
    ap (λ (s : SymInfo). rows_use_below s.arity rows) (sym (same_Some first info there)) ∙ both.0
domain_from (first ∷ infos) (rows ∷ lists) good (suc i) info there =
    let both = and_parts (rows_use_below first.arity rows) (are_domains infos lists) good in
    domain_from infos lists both.1 i info there

module _ (parts : RuleParts) (good : are_domains parts.symbols parts.domains ≡ true) where
  -- the domain of a declared symbol is over its arguments
  pub below_arity : (f : ℕ) (frame : Bool) (n : ℕ) → Declares (signature parts) f frame n →
      rows_use_below n (domain_of parts f) ≡ true
  below_arity f frame n declared =
      by (slice_get parts.symbols f) refl
      (sym (slice_get-map symbol_of parts.symbols f) ∙ declared)
    where
      by : (o : Option SymInfo) → slice_get parts.symbols f ≡ o
          → option_map symbol_of o ≡ Some (record { arity = n; is_frame = frame })
          → rows_use_below n (domain_of parts f) ≡ true
      by None there e = absurd (none-some (record { arity = n; is_frame = frame }) e)
      by (Some info) there e =
          let same = ap (λ (s : Symbol). s.arity)
          (same_Some (symbol_of info) (record { arity = n; is_frame = frame }) e) in
          subst (λ k. rows_use_below k (domain_of parts f) ≡ true) same
          (domain_from parts.symbols parts.domains good f info there)

  pub below_count : (f : Sym) (frame : Bool) (n : ℕ) → is_declared parts.symbols f frame n ≡ true →
      rows_use_below n (domain_of parts f.0) ≡ true
  below_count f frame n declared = below_arity f.0 frame n (declares parts f frame n declared)

-- ---- the domain of a symbol at arguments

module _ (parts : RuleParts) (a : ℕ → ℤ) (f : ℕ) (ps : List Body)
    (below : rows_use_below (length ps) (domain_of parts f) ≡ true) where
  abbrev here : ℕ → ℤ
  here = updated_assignment a (enumerate_from 0 ps)

  abbrev there : ℕ → ℤ
  there = assigned (values a ps)

  -- where the rows at the arguments hold, their values meet the domain
  pub meets : AllHold a (rows_at parts f ps).form → Meets parts f (values a ps)
  meets h =
      hold_too here there (length ps) (updated_assignment-arguments a ps) (domain_of parts f) below
      (subst (λ ws. AllHold (updated_assignment a ws) (domain_of parts f)) (numbered_in_order ps)
      ((subst_rows-hold a (numbered ps) (domain_of parts f)).0 h))

  -- and the other way round
  pub rows_hold : Meets parts f (values a ps) → AllHold a (rows_at parts f ps).form
  rows_hold h =
      (subst_rows-hold a (numbered ps) (domain_of parts f)).1
      (subst (λ ws. AllHold (updated_assignment a ws) (domain_of parts f))
      (sym (numbered_in_order ps))
      (hold_too there here (length ps) (λ v less. sym (updated_assignment-arguments a ps v less))
      (domain_of parts f) below h))

-- ---- the rows that put a term inside

module _ (parts : RuleParts) (good : are_domains parts.symbols parts.domains ≡ true)
    (a : ℕ → ℤ) where
  -- they hold where its ground term meets the domains, and only there
  pub record SaysInside (t : Term) : Type 0 where
    pub meets : AllHold a (inside_rows parts t).form → MeetsDomains parts (ground_at a t)
    pub holds : MeetsDomains parts (ground_at a t) → AllHold a (inside_rows parts t).form

  abbrev Says : Term → Type 0
  Says t = term_fits parts t ≡ true → SaysInside t

  abbrev rows_of : Formed (List Row) → Type 0
  rows_of r = AllHold a r.form

  says_return : (p : Body) → Says (Return p)
  says_return p fits = record {
    meets = λ h. subst (MeetsDomains parts) (sym (ground-Return a p)) tt;
    holds = λ h. subst rows_of (sym (inside-Return parts p)) (All-nil (RowHolds a));
  }

  says_fail : (c : ℕ) → Says (Fail c)
  says_fail c fits = record {
    meets = λ h. subst (MeetsDomains parts) (sym (ground-Fail a c)) tt;
    holds = λ h. subst rows_of (sym (inside-Fail parts c)) (All-nil (RowHolds a));
  }

  says_call : (f : Sym) (ps : List Body) → Says (Call f ps)
  says_call f ps fits =
      let below = below_count parts good f false (length ps) (sym (fits-Call parts f ps) ∙ fits) in
      record {
        meets = λ h. subst (MeetsDomains parts) (sym (ground-Call a f ps))
            (meets parts a f.0 ps below (subst rows_of (inside-Call parts f ps) h));
        holds = λ h. subst rows_of (sym (inside-Call parts f ps))
            (rows_hold parts a f.0 ps below (subst (MeetsDomains parts) (ground-Call a f ps) h));
      }

  says_frame : (f : Sym) (ps : List Body) (t : Term) → Says t → Says (Frame f ps t)
  says_frame f ps t inner fits =
      let both = and_parts (is_declared parts.symbols f true (length ps)) (term_fits parts t)
      (sym (fits-Frame parts f ps t) ∙ fits) in
      let below = below_count parts good f true (length ps) both.0 in
      let under = inner both.1 in
      let own : List Row = (rows_at parts f.0 ps).form in
      let more : List Row = (inside_rows parts t).form in
      record {
        meets = λ h.
            let all = subst rows_of (inside-Frame parts f ps t) h in
            subst (MeetsDomains parts) (sym (ground-Frame a f ps t)) (
              meets parts a f.0 ps below (first_hold a own more all),
              under.meets (second_hold a own more all),
            );
        holds = λ h.
            let all = subst (MeetsDomains parts) (ground-Frame a f ps t) h in
            subst rows_of (sym (inside-Frame parts f ps t))
            (All-append (RowHolds a) own more (rows_hold parts a f.0 ps below all.0)
            (under.holds all.1));
      }

  pub says_inside : (t : Term) → term_fits parts t ≡ true → SaysInside t
  says_inside = induct Says says_return says_fail says_call says_frame

-- ---- frame by frame

-- the inner part of a term that is inside is inside
pub inside_inner : (parts : RuleParts) → ClosedUnderSubterms (IsInside parts)
inside_inner parts f xs s inside = (inside.0.1, inside.1.1)

-- and another part that is inside may be in its place
pub inside_exchange : (parts : RuleParts) (f : ℕ) (xs : List ℤ) (s t : Ground) →
    IsInside parts (stack.Frame f xs s) → IsInside parts t → IsInside parts (stack.Frame f xs t)
inside_exchange parts f xs s t whole inner = (
  (whole.0.0, inner.0),
  (whole.1.0, inner.1),
)

-- where no symbol has a domain, each term meets the domains
pub meets_none : (parts : RuleParts) → parts.domains ≡ [] → (s : Ground) → MeetsDomains parts s
meets_none parts none (stack.Return k) = tt
meets_none parts none (stack.Fail c) = tt
meets_none parts none (stack.Call f xs) =
    subst (λ (lists : List (List Row)). AllHold (assigned xs) (unwrap_or (slice_get lists f) []))
    (sym none) (All-nil (RowHolds (assigned xs)))
meets_none parts none (stack.Frame f xs s) = (
  subst (λ (lists : List (List Row)). AllHold (assigned xs) (unwrap_or (slice_get lists f) []))
      (sym none) (All-nil (RowHolds (assigned xs))),
  meets_none parts none s,
)

-- ---- redexes

-- the first integers of a longer list
assigned_first : (a : ℕ → ℤ) (ps qs : List Body) (v : ℕ) → v < length ps →
    assigned (values a (ps ++ qs)) v ≡ assigned (values a ps) v
assigned_first a [] qs v less = absurd (omega (arith, less))
assigned_first a (p ∷ ps) qs zero less = refl
assigned_first a (p ∷ ps) qs (suc v) less = assigned_first a ps qs v (omega (arith, less))

module _ (parts : RuleParts) (good : are_domains parts.symbols parts.domains ≡ true)
    (a : ℕ → ℤ) where
  -- arguments that meet a domain do so with others behind them
  holds_first : (f : ℕ) (frame : Bool) (ps qs : List Body) →
      Declares (signature parts) f frame (length (values a ps)) → Meets parts f (values a ps) →
      AllHold (updated_assignment a (enumerate_from 0 (ps ++ qs))) (domain_of parts f)
  holds_first f frame ps qs declared met =
      let all : List Body = ps ++ qs in
      let below = subst (λ k. rows_use_below k (domain_of parts f) ≡ true)
      (length-map ps (value a)) (below_arity parts good f frame (length (values a ps)) declared) in
      hold_too (assigned (values a ps)) (updated_assignment a (enumerate_from 0 all)) (length ps)
      (λ v less. sym (updated_assignment-arguments a all v
      (let many = length-append ps qs in omega (arith, many, less)) ∙
      assigned_first a ps qs v less))
      (domain_of parts f) below met

  at_shape : (t : Term) (shape : Shape) (args : List Body) → shape_of t ≡ shape →
      arguments_of t ≡ args →
      root_domains parts shape (updated_assignment a (enumerate_from 0 args)) →
      root_domains parts (shape_of t) (updated_assignment a (matched t))
  at_shape t shape args e f h =
      subst (λ s. root_domains parts s (updated_assignment a (matched t))) (sym e)
      (subst (λ ps. root_domains parts shape (updated_assignment a (enumerate_from 0 ps))) (sym f) h)

  redex_inside : (t : Term) → IsRedex t → IsInside parts (ground_at a t) →
      root_domains parts (shape_of t) (updated_assignment a (matched t))
  redex_inside _ (CallRedex f ps) inside =
      let is = subst (IsInside parts) (ground-Call a f ps) inside in
      at_shape (Call f ps) (shapes.Call f) (ps ++ []) (shape-Call f ps)
      (arguments-Call f ps ∙ sym (append-nil ps)) (holds_first f.0 false ps [] is.0 is.1)
  redex_inside _ (ReturnRedex f ps p) inside =
      let is = subst (IsInside parts) (ground-Frame a f ps (Return p)) inside in
      at_shape (Frame f ps (Return p)) (shapes.Frame f shapes.Return) (ps ++ (p ∷ []))
      (shape-Frame f ps (Return p) ∙ ap (shapes.Frame f) (shape-Return p))
      (arguments-Frame f ps (Return p) ∙ ap (λ qs. ps ++ qs) (arguments-Return p))
      (holds_first f.0 true ps (p ∷ []) is.0.0 is.1.0)
  redex_inside _ (FailRedex f ps c) inside =
      let is = subst (IsInside parts) (ground-Frame a f ps (Fail c)) inside in
      at_shape (Frame f ps (Fail c)) (shapes.Frame f (shapes.Fail c)) (ps ++ [])
      (shape-Frame f ps (Fail c) ∙ ap (shapes.Frame f) (shape-Fail c))
      (arguments-Frame f ps (Fail c) ∙ ap (λ qs. ps ++ qs) (arguments-Fail c))
      (holds_first f.0 true ps [] is.0.0 is.1.0)

-- redexes of terms that are inside have arguments of their domains
pub redexes_inside : (parts : RuleParts) → are_domains parts.symbols parts.domains ≡ true →
    KeepsDomains (IsInside parts) (root_domains parts)
redexes_inside parts good t redex a inside = redex_inside parts good a t redex inside

-- ---- left sides

values_of_variables : (a : ℕ → ℤ) (from n v : ℕ) → v < n →
    assigned (values a (variables_from from n)) v ≡ a (from + v)
values_of_variables a from zero v less = absurd (omega (arith, less))
values_of_variables a from (suc n) zero less = value-variable a from ∙ ap a (omega arith)
values_of_variables a from (suc n) (suc v) less =
    values_of_variables a (from + 1) n v (omega (arith, less)) ∙ ap a (omega arith)

module _ (parts : RuleParts) (good : are_domains parts.symbols parts.domains ≡ true)
    (a : ℕ → ℤ) where
  abbrev at_root : Option Sym → Type 0
  at_root o = AllHold a (option_map_or (λ (f : Sym). domain_of parts f.0) o [])

  variables_hold : (f : ℕ) (frame : Bool) (n : ℕ) →
      Declares (signature parts) f frame (length (values a (variables_from 0 n))) →
      Meets parts f (values a (variables_from 0 n)) → AllHold a (domain_of parts f)
  variables_hold f frame n declared met =
      let count = length-map (variables_from 0 n) (value a) ∙ length-variables_from 0 n in
      let below = subst (λ k. rows_use_below k (domain_of parts f) ≡ true) count
      (below_arity parts good f frame (length (values a (variables_from 0 n))) declared) in
      hold_too (assigned (values a (variables_from 0 n))) a n
      (λ v less. values_of_variables a 0 n v less ∙ ap a (omega arith)) (domain_of parts f) below met

  -- where the left side of a rule is inside, the domain of its outermost symbol holds
  pub left_inside : (left : Term) → IsLeft left → IsInside parts (ground_at a left) →
      at_root (root_of left)
  left_inside _ (OfPoint f n) inside =
      let ps = variables_from 0 n in
      let is = subst (IsInside parts) (ground-Call a f ps) inside in
      subst at_root (sym (ap root_level (outs-Call f ps))) (variables_hold f.0 false n is.0 is.1)
  left_inside _ (OverReturn f n) inside =
      let ps = variables_from 0 n in
      let is = subst (IsInside parts) (ground-Frame a f ps (Return (variable n))) inside in
      subst at_root (sym (ap root_level (outs-Frame f ps (Return (variable n)))))
      (variables_hold f.0 true n is.0.0 is.1.0)
  left_inside _ (OverFail f n c) inside =
      let ps = variables_from 0 n in
      let is = subst (IsInside parts) (ground-Frame a f ps (Fail c)) inside in
      subst at_root (sym (ap root_level (outs-Frame f ps (Fail c))))
      (variables_hold f.0 true n is.0.0 is.1.0)
