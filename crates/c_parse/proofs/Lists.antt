-- Parameters, while they are read.
use Rattle.std.proofs.Common.{◌≡◌, ℕ, ◌+◌, ◌≤◌, ◌<◌, Option, Some, None, List, [], ◌∷◌, ◌++◌, length, append_assoc, refl, sym, ◌∙◌, ap, arith}
use Rattle.c_lex.specs.declared.token.Token.{Token}
use Rattle.c_lex.specs.declared.token.TokenKind.TheVariants.{Name, Word, Mark}
use Rattle.c_lex.specs.declared.token.Keyword.TheVariants.{Int}
use Rattle.c_lex.specs.declared.token.Mark.TheVariants.{RightParen, Comma}
use Rattle.c_ast.specs.Height.{of_option}
use Rattle.c_syntax.specs.declared.read.Span.{Span}
use Rattle.c_syntax.specs.Grammar.{kind_at}
use Rattle.c_syntax.specs.Programs.{IsVoid, Parameter, named, nameless, Listed, last_parameter, next_parameter, Parameters, unsaid, void, listed}
use Rattle.c_syntax.specs.Readers.{Gives}
use Rattle.c_parse.specs.Readers.{Listing}
use Rattle.c_syntax.proofs.Lookahead.{kind_within}
use Rattle.c_syntax.proofs.Building.{Built}
use Rattle.c_syntax.proofs.UniqueExprs.{Same}

-- what one parameter can be
pub data Sort (ts : List Token) (i j : ℕ) (o : Option ℕ) : Type 0 where
  sort_named : kind_at ts i ≡ Some (Word Int) → kind_at ts (i + 1) ≡ Some Name → j ≡ i + 2 → o ≡
      Some (i + 1) → Sort ts i j o
  sort_nameless : kind_at ts i ≡ Some (Word Int) → (kind_at ts (i + 1) ≡ Some Name → ⊥) → j ≡ i +
      1 → o ≡ None → Sort ts i j o

pub sort_of : (ts : List Token) (i j : ℕ) (o : Option ℕ) → Parameter ts i j o → Sort ts i j o
sort_of ts i j o (named _ _ h g) = sort_named h g refl refl
sort_of ts i j o (nameless _ _ h g) = sort_nameless h g refl refl

-- a parameter begins with `int`
sort_begins : (ts : List Token) (i j : ℕ) (o : Option ℕ) → Sort ts i j o → kind_at ts i ≡
    Some (Word Int)
sort_begins ts i j o (sort_named h g p q) = h
sort_begins ts i j o (sort_nameless h g p q) = h

-- a parameter takes a token
sort_rest : (ts : List Token) (i j : ℕ) (o : Option ℕ) → Sort ts i j o → i + 1 ≤ j
sort_rest ts i j o (sort_named h g p q) = omega arith
sort_rest ts i j o (sort_nameless h g p q) = omega arith

-- a parameter and its end are determined by where it begins
sort_unique : (ts : List Token) (i j k : ℕ) (o r : Option ℕ) → Sort ts i j o → Sort ts i k r →
    Same j k o r
sort_unique ts i j k o r (sort_named h g p q) (sort_named _ _ a b) = (p ∙ sym a, q ∙ sym b)
sort_unique ts i j k o r (sort_named h g p q) (sort_nameless _ n a b) = absurd (n g)
sort_unique ts i j k o r (sort_nameless h n p q) (sort_named _ g a b) = absurd (n g)
sort_unique ts i j k o r (sort_nameless h n p q) (sort_nameless _ _ a b) = (p ∙ sym a, q ∙ sym b)

pub parameter_unique : (ts : List Token) (i j k : ℕ) (o r : Option ℕ) → Parameter ts i j o →
    Parameter ts i k r → Same j k o r
parameter_unique ts i j k o r p q =
    sort_unique ts i j k o r (sort_of ts i j o p) (sort_of ts i k r q)

-- a parameter with its name is read
pub reads_named : (ts : List Token) (at : ℕ) (x : Span (Option ℕ)) → kind_at ts at ≡
    Some (Word Int) → kind_at ts (at + 1) ≡ Some Name → x.value ≡ Some (at + 1) → x.end ≡ at + 2
    → Gives (Parameter ts at) at (length ts) (Some x)
reads_named ts at x h g xv xe =
    let within : at + 1 < length ts = kind_within ts (at + 1) Name g in
    let spelled : Parameter ts at x.end x.value = rw (xe, xv) (named ts at h g) in
    record {
      found = record { spelled = spelled; further = omega arith; within = omega arith };
      only = λ j o p. parameter_unique ts at x.end j x.value o spelled p;
    }

-- a parameter without a name is read
pub reads_nameless : (ts : List Token) (at : ℕ) (x : Span (Option ℕ)) → kind_at ts at ≡
    Some (Word Int) → (kind_at ts (at + 1) ≡ Some Name → ⊥) → x.value ≡ None → x.end ≡ at + 1
    → Gives (Parameter ts at) at (length ts) (Some x)
reads_nameless ts at x h g xv xe =
    let within : at < length ts = kind_within ts at (Word Int) h in
    let spelled : Parameter ts at x.end x.value = rw (xe, xv) (nameless ts at h g) in
    record {
      found = record { spelled = spelled; further = omega arith; within = omega arith };
      only = λ j o p. parameter_unique ts at x.end j x.value o spelled p;
    }

-- what parameters can be
pub data Enlisted (ts : List Token) (i k : ℕ) (os : List (Option ℕ)) : Type 0 where
  enlisted_last : (j : ℕ) → (o : Option ℕ) → Parameter ts i j o → kind_at ts j ≡
      Some (Mark RightParen) → k ≡ j + 1 → os ≡ o ∷ [] → Enlisted ts i k os
  enlisted_next : (j : ℕ) → (o : Option ℕ) → (rest : List (Option ℕ)) → Parameter ts i j o →
      kind_at ts j ≡ Some (Mark Comma) → Listed ts (j + 1) k rest → os ≡ o ∷ rest →
      Enlisted ts i k os

pub enlisted_of : (ts : List Token) (i k : ℕ) (os : List (Option ℕ)) → Listed ts i k os →
    Enlisted ts i k os
enlisted_of ts i k os (last_parameter _ _ j o p h) = enlisted_last j o p h refl refl
enlisted_of ts i k os (next_parameter _ _ j _ o rest p h r) = enlisted_next j o rest p h r refl

-- parameters begin with `int`
listed_begins : (ts : List Token) (i k : ℕ) (os : List (Option ℕ)) → Listed ts i k os →
    kind_at ts i ≡ Some (Word Int)
listed_begins ts i k os (last_parameter _ _ j o p h) = sort_begins ts i j o (sort_of ts i j o p)
listed_begins ts i k os (next_parameter _ _ j _ o rest p h r) =
    sort_begins ts i j o (sort_of ts i j o p)

-- each parameter takes a token
listed_short : (ts : List Token) (i k : ℕ) (os : List (Option ℕ)) → Listed ts i k os → i +
    length os ≤ k
listed_short ts i k os (last_parameter _ _ j o p h) =
    let further : i + 1 ≤ j = sort_rest ts i j o (sort_of ts i j o p) in omega arith
listed_short ts i k os (next_parameter _ _ j l o rest p h r) =
    let further : i + 1 ≤ j = sort_rest ts i j o (sort_of ts i j o p) in
    let more : j + 1 + length rest ≤ l = listed_short ts (j + 1) l rest r in omega arith

-- parameters and their end are determined by where they begin
listed_unique : (ts : List Token) (i j k : ℕ) (os rs : List (Option ℕ)) → Listed ts i j os →
    Enlisted ts i k rs → Same j k os rs
listed_unique ts i j k os rs (last_parameter _ _ l o p h) (enlisted_last m r q g a b) =
    let same : Same l m o r = parameter_unique ts i l m o r p q in
    (ap (λ z. z + 1) same.0 ∙ sym a, ap (λ z. z ∷ []) same.1 ∙ sym b)
listed_unique ts i j k os rs (last_parameter _ _ l o p h) (enlisted_next m r rest q g t b) =
    let same : Same l m o r = parameter_unique ts i l m o r p q in
    let there : kind_at ts m ≡ Some (Mark RightParen) = rw same.0 at h in absurd cc
listed_unique ts i j k os rs (next_parameter _ _ l _ o more p h s) (enlisted_last m r q g a b) =
    let same : Same l m o r = parameter_unique ts i l m o r p q in
    let there : kind_at ts m ≡ Some (Mark Comma) = rw same.0 at h in absurd cc
listed_unique ts i j k os rs (next_parameter _ _ l _ o more p h s) (enlisted_next m r rest q g t b)
    =
    let same : Same l m o r = parameter_unique ts i l m o r p q in
    let there : Listed ts (l + 1) k rest = rw same.0 t in
    let tail : Same j k more rest = listed_unique ts (l + 1) j k more rest s
    (enlisted_of ts (l + 1) k rest there) in
    let list : o ∷ more ≡ r ∷ rest = rw (same.1, tail.1) refl in
    (tail.0, list ∙ sym b)

-- nothing is read
pub listing_begins : (ts : List Token) (at : ℕ) → at ≤ length ts → Listing ts at [] at
listing_begins ts at inside = record {
  forward = λ j os h. h;
  only = λ j all h. (all, (refl, h));
  begun = omega arith;
  within = inside;
}

module _ (ts : List Token) (at : ℕ) (found : List (Option ℕ)) (end : ℕ)
    (l : Listing ts at found end) where
  none_only : Gives (Parameter ts end) end (length ts) None → (k : ℕ) (os : List (Option ℕ)) →
      Enlisted ts end k os → ⊥
  none_only g k os (enlisted_last j o p h a b) = g.only j o p
  none_only g k os (enlisted_next j o rest p h r b) = g.only j o p

  -- no parameter follows
  pub listing_stops : Gives (Parameter ts end) end (length ts) None →
      Gives (Listed ts at) at (length ts) None
  listing_stops g =
      record {
        found = tt;
        only = λ k all p. let go = l.only k all p in
            none_only g k go.0 (enlisted_of ts end k go.0 go.1.1);
      }

  module _ (x : Span (Option ℕ)) (g : Gives (Parameter ts end) end (length ts) (Some x)) where
    -- the last parameter
    pub listing_ends : (y : Span (List (Option ℕ))) → kind_at ts x.end ≡ Some (Mark RightParen) →
        y.value ≡ found ++ x.value ∷ [] → y.end ≡ x.end + 1
        → Gives (Listed ts at) at (length ts) (Some y)
    listing_ends y o yv ye =
        let whole : Listed ts at (x.end + 1) (found ++ x.value ∷ []) =
        l.forward (x.end + 1) (x.value ∷ [])
        (last_parameter ts end x.end x.value g.found.spelled o) in
        let spelled : Listed ts at y.end y.value = rw (ye, yv) whole in
        let begun : at ≤ end = l.begun in
        let further : end < x.end = g.found.further in
        let within : x.end < length ts = kind_within ts x.end (Mark RightParen) o in
        record {
          found = record { spelled = spelled; further = omega arith; within = omega arith };
          only =
              λ k all p. listed_unique ts at y.end k y.value all spelled
              (enlisted_of ts at k all p);
        }

    next_only : kind_at ts x.end ≡ Some (Mark Comma) → (k : ℕ) (all os : List (Option ℕ)) → all ≡
        found ++ os → Enlisted ts end k os
        → (rest : List (Option ℕ)) × ((all ≡ (found ++ x.value ∷ []) ++ rest) ×
        Listed ts (x.end + 1) k rest)
    next_only c k all os same (enlisted_last j o p h a b) =
        let is : (x.end ≡ j) × (x.value ≡ o) = g.only j o p in
        let there : kind_at ts j ≡ Some (Mark Comma) = rw is.0 at c in absurd cc
    next_only c k all os same (enlisted_next j o rest p h r b) =
        let is : (x.end ≡ j) × (x.value ≡ o) = g.only j o p in
        let there : Listed ts (x.end + 1) k rest = rw is.0 r in
        let joined : all ≡ (found ++ x.value ∷ []) ++ rest =
        same ∙ (ap (λ zs. found ++ zs) (b ∙ ap (λ z. z ∷ rest) (sym is.1)) ∙
        sym (append_assoc found (x.value ∷ []) rest)) in
        (rest, (joined, there))

    -- one more parameter
    pub listing_goes : kind_at ts x.end ≡ Some (Mark Comma) →
        Listing ts at (found ++ x.value ∷ []) (x.end + 1)
    listing_goes c =
        let before : at ≤ end = l.begun in
        let further : end < x.end = g.found.further in
        let inside : x.end < length ts = kind_within ts x.end (Mark Comma) c in
        record {
          forward =
              λ k os d. rw (append_assoc found (x.value ∷ []) os)
              (l.forward k (x.value ∷ os) (next_parameter ts end x.end k x.value os g.found.spelled
              c d));
          only =
              λ k all p. let go = l.only k all p in
              next_only c k all go.0 go.1.0 (enlisted_of ts end k go.0 go.1.1);
          begun = omega arith;
          within = omega arith;
        }

    broken_only : (kind_at ts x.end ≡ Some (Mark RightParen) → ⊥) →
        (kind_at ts x.end ≡ Some (Mark Comma) → ⊥) → (k : ℕ) (os : List (Option ℕ)) →
        Enlisted ts end k os → ⊥
    broken_only a b k os (enlisted_last j o p h c d) =
        let is : (x.end ≡ j) × (x.value ≡ o) = g.only j o p in a (rw is.0 h)
    broken_only a b k os (enlisted_next j o rest p h r d) =
        let is : (x.end ≡ j) × (x.value ≡ o) = g.only j o p in b (rw is.0 h)

    -- neither a comma nor the closing parenthesis
    pub listing_breaks : (kind_at ts x.end ≡ Some (Mark RightParen) → ⊥) →
        (kind_at ts x.end ≡ Some (Mark Comma) → ⊥) → Gives (Listed ts at) at (length ts) None
    listing_breaks a b =
        record {
          found = tt;
          only = λ k all p. let go = l.only k all p in
              broken_only a b k go.0 (enlisted_of ts end k go.0 go.1.1);
        }

-- what the parentheses of a heading can hold
pub data Parts (ts : List Token) (i j : ℕ) (ps : Option (List (Option ℕ))) : Type 0 where
  part_unsaid : kind_at ts i ≡ Some (Mark RightParen) → j ≡ i + 1 → ps ≡ None → Parts ts i j ps
  part_void : IsVoid ts i → j ≡ i + 2 → ps ≡ Some [] → Parts ts i j ps
  part_listed : (os : List (Option ℕ)) → Listed ts i j os → ps ≡ Some os → Parts ts i j ps

pub parts_of : (ts : List Token) (i j : ℕ) (ps : Option (List (Option ℕ))) → Parameters ts i j ps →
    Parts ts i j ps
parts_of ts i j ps (unsaid _ _ h) = part_unsaid h refl refl
parts_of ts i j ps (void _ _ h) = part_void h refl refl
parts_of ts i j ps (listed _ _ _ os r) = part_listed os r refl

-- there are no more parameters than tokens
pub parameters_short : (ts : List Token) (i j : ℕ) (ps : Option (List (Option ℕ))) →
    Parameters ts i j ps → of_option (λ (os : List (Option ℕ)). length os) ps ≤ j
parameters_short ts i j ps (unsaid _ _ h) = omega arith
parameters_short ts i j ps (void _ _ h) = omega arith
parameters_short ts i j ps (listed _ _ k os r) =
    let short : i + length os ≤ k = listed_short ts i k os r in omega arith

-- what is in the parentheses is determined by where it begins
pub parts_unique : (ts : List Token) (i j k : ℕ) (ps qs : Option (List (Option ℕ))) →
    Parts ts i j ps → Parts ts i k qs → Same j k ps qs
parts_unique ts i j k ps qs (part_unsaid h p q) (part_unsaid g a b) = (p ∙ sym a, q ∙ sym b)
parts_unique ts i j k ps qs (part_unsaid h p q) (part_void g a b) = let there = g.0 in absurd cc
parts_unique ts i j k ps qs (part_unsaid h p q) (part_listed os r b) =
    let there = listed_begins ts i k os r in absurd cc
parts_unique ts i j k ps qs (part_void h p q) (part_unsaid g a b) = let here = h.0 in absurd cc
parts_unique ts i j k ps qs (part_void h p q) (part_void g a b) = (p ∙ sym a, q ∙ sym b)
parts_unique ts i j k ps qs (part_void h p q) (part_listed os r b) =
    let here = h.0 in let there = listed_begins ts i k os r in absurd cc
parts_unique ts i j k ps qs (part_listed os r b) (part_unsaid h p q) =
    let there = listed_begins ts i j os r in absurd cc
parts_unique ts i j k ps qs (part_listed os r b) (part_void h p q) =
    let here = h.0 in let there = listed_begins ts i j os r in absurd cc
parts_unique ts i j k ps qs (part_listed os r b) (part_listed us t d) =
    let same : Same j k os us = listed_unique ts i j k os us r (enlisted_of ts i k us t) in
    (same.0, b ∙ (ap (λ z. Some z) same.1 ∙ sym d))

module _ (ts : List Token) (at : ℕ) where
  -- empty parentheses
  pub reads_unsaid : (x : Span (Option (List (Option ℕ)))) → kind_at ts at ≡
      Some (Mark RightParen) → x.value ≡ None → x.end ≡ at + 1 →
      Gives (Parameters ts at) at (length ts) (Some x)
  reads_unsaid x h xv xe =
      let within : at < length ts = kind_within ts at (Mark RightParen) h in
      record {
        found =
            record {
              spelled = rw (xe, xv) (unsaid ts at h);
              further = omega arith;
              within =
                  omega arith;
            };
        only =
            λ j ps p. parts_unique ts at x.end j x.value ps (part_unsaid h xe xv)
            (parts_of ts at j ps p);
      }

  -- the word `void`
  pub reads_void : (x : Span (Option (List (Option ℕ)))) → IsVoid ts at → x.value ≡ Some [] →
      x.end ≡ at + 2 → Gives (Parameters ts at) at (length ts) (Some x)
  reads_void x h xv xe =
      let within : at + 1 < length ts = kind_within ts (at + 1) (Mark RightParen) h.1 in
      record {
        found =
            record {
              spelled = rw (xe, xv) (void ts at h);
              further = omega arith;
              within =
                  omega arith;
            };
        only =
            λ j ps p. parts_unique ts at x.end j x.value ps (part_void h xe xv)
            (parts_of ts at j ps p);
      }

  listed_from : (kind_at ts at ≡ Some (Mark RightParen) → ⊥) → (IsVoid ts at → ⊥) →
      (j : ℕ) (ps : Option (List (Option ℕ))) → Parts ts at j ps
      → (os : List (Option ℕ)) × (Listed ts at j os × (ps ≡ Some os))
  listed_from a b j ps (part_unsaid h p q) = absurd (a h)
  listed_from a b j ps (part_void h p q) = absurd (b h)
  listed_from a b j ps (part_listed os r q) = (os, (r, q))

  -- parameters, one or more
  pub builds_listed : (kind_at ts at ≡ Some (Mark RightParen) → ⊥) → (IsVoid ts at → ⊥) →
      Built (λ (os : List (Option ℕ)). Some os) (Listed ts at) (Parameters ts at)
  builds_listed a b = record {
    make = λ j os p. listed ts at j os p;
    part = λ j ps q. listed_from a b j ps (parts_of ts at j ps q);
  }
