-- Another call in place of the call that a term ends in.
use Rattle.std.proofs.Common.{◌≡◌, ◌∙◌, ap, sym, ℕ, suc, ◌+◌, true, false, ◌&&◌, Option, Some, None, List, [], ◌++◌, length, arith}
use Rattle.std.specs.Option.{option_map_or}
use Rattle.std.proofs.lemmas.List.{append_assoc}
use Rattle.std.proofs.lemmas.Option.{same_Some}
use Rattle.rx_poly.specs.declared.body.Body.{Body}
use Rattle.rx_term.specs.Fitting.{is_declared, term_fits}
use Rattle.rx_term.specs.Stacks.{redex_place, replace_redex, replace_at}
use Rattle.rx_term.specs.Variables.{arguments_of}
use Rattle.rx_term.specs.declared.rule_set.RuleParts.{RuleParts}
use Rattle.rx_term.specs.declared.term.Sym.{Sym}
use Rattle.rx_term.specs.declared.term.Term.{Term}
use Rattle.rx_term.specs.declared.term.Term.TheVariants.{Call, Frame}
use Rattle.rx_term.proofs.Equations.{induct, arguments-Call, arguments-Frame, fits-Call, fits-Frame, redex-Call, redex-Frame, replace_at-Frame}
use Rattle.rx_lemma.specs.Calls.{Applied, call_of}
use Rattle.rx_lemma.proofs.CallLaws.{call-Return, call-Fail, call-Call, call-Frame}

no_call : (c : Applied) → ◌≡◌ {A = Option Applied} None (Some c) → ⊥
no_call c e = cc

-- another call of its symbol with as many polynomials
module _ (parts : RuleParts) (c : Applied) (qs : List Body) (count : length qs ≡ length c.arguments)
  where
    record Replacing (t : Term) : Type 0 where
      place : ℕ
      there : redex_place t ≡ Some place
      fits : term_fits parts (replace_at place t (Call c.symbol qs)) ≡ term_fits parts t
      front : List Body
      old : arguments_of t ≡ front ++ c.arguments
      new : arguments_of (replace_at place t (Call c.symbol qs)) ≡ front ++ qs

    abbrev Replaces : Term → Type 0
    Replaces t = call_of t ≡ Some c → Replacing t

    at_call : (f : Sym) (ps : List Body) → Replaces (Call f ps)
    at_call f ps e =
        let made : Applied = record { symbol = f; arguments = ps } in
        let same : made ≡ c = same_Some made c (sym (call-Call f ps) ∙ e) in
        let name : f ≡ c.symbol = ap (λ (a : Applied). a.symbol) same in
        let args : ps ≡ c.arguments = ap (λ (a : Applied). a.arguments) same in record {
          place = 0;
          there = redex-Call f ps;
          fits =
              fits-Call parts c.symbol qs
              ∙ ap (λ n. is_declared parts.symbols c.symbol false n) count
              ∙ sym (λ i. is_declared parts.symbols (name i) false (length (args i)))
              ∙ sym (fits-Call parts f ps);
          front = [];
          old = arguments-Call f ps ∙ args;
          new = arguments-Call c.symbol qs;
        }

    at_frame : (f : Sym) (ps : List Body) (t : Term) → Replaces t → Replaces (Frame f ps t)
    at_frame f ps t inner e =
        let k = inner (sym (call-Frame f ps t) ∙ e) in
        let next : 1 + k.place ≡ suc k.place = omega arith in
        let other = replace_at k.place t (Call c.symbol qs) in record {
          place = suc k.place;
          there =
              redex-Frame f ps t ∙ ap (λ (o : Option ℕ). Some (option_map_or (λ n. 1 + n) o 0))
              k.there ∙ ap (λ (n : ℕ). Some n) next;
          fits =
              ap (term_fits parts) (replace_at-Frame k.place f ps t (Call c.symbol qs))
              ∙ fits-Frame parts f ps other
              ∙ ap (λ b. is_declared parts.symbols f true (length ps) && b) k.fits
              ∙ sym (fits-Frame parts f ps t);
          front = ps ++ k.front;
          old =
              arguments-Frame f ps t ∙ ap (λ xs. ps ++ xs) k.old ∙
              sym (append_assoc ps k.front c.arguments);
          new =
              ap arguments_of (replace_at-Frame k.place f ps t (Call c.symbol qs))
              ∙ arguments-Frame f ps other ∙ ap (λ xs. ps ++ xs) k.new ∙
              sym (append_assoc ps k.front qs);
        }

    replaces : (t : Term) → Replaces t
    replaces =
        induct Replaces (λ p e. absurd (no_call c (sym (call-Return p) ∙ e)))
        (λ n e. absurd (no_call c (sym (call-Fail n) ∙ e))) at_call at_frame

    -- the term still fits, and its polynomials before those of the call stay
    pub record Replaced (t : Term) : Type 0 where
      pub fits : term_fits parts (replace_redex t (Call c.symbol qs)) ≡ term_fits parts t
      pub front : List Body
      pub old : arguments_of t ≡ front ++ c.arguments
      pub new : arguments_of (replace_redex t (Call c.symbol qs)) ≡ front ++ qs

    pub replaced_call : (t : Term) → call_of t ≡ Some c → Replaced t
    replaced_call t e =
        let k = replaces t e in
        let there = ap (λ (o : Option ℕ). option_map_or (λ n. replace_at n t (Call c.symbol qs)) o t)
        k.there in record {
          fits = ap (term_fits parts) there ∙ k.fits;
          front = k.front;
          old = k.old;
          new = ap arguments_of there ∙ k.new;
        }
