-- What all combinations have, and differences and quotients of them keep, those have that are
-- reduced; so the relations that vanish have what it says of a value without terms.
use Rattle.std.proofs.Common.{◌≡◌, refl, subst, Bool, true, false, List, [], ◌∷◌, ℤ}
use Rattle.std.specs.Prelude.{All}
use Rattle.std.proofs.lemmas.List.Elements.{All-append, All-cons, All-head, All-nil, All-tail}
use Rattle.rx_plain.specs.Formed.{Formed, fold_formed}
use Rattle.rx_poly.specs.Limits.{body_difference, scaled_by}
use Rattle.rx_poly.specs.Reading.{coefficient}
use Rattle.rx_poly.specs.Terms.{is_zero}
use Rattle.rx_poly.specs.declared.body.Body.{Body, out-Body}
use Rattle.rx_poly.specs.declared.body.Mono.{Mono}
use Rattle.rx_relations.specs.Cancelling.{cancelled, cancelled_first, cancelled_unless, vanishing}
use Rattle.rx_relations.specs.Reducing.{none_taken, placed, reduced, taken}
use Rattle.rx_relations.specs.Content.{cofactor, primitive_parts}
use Rattle.rx_relations.specs.declared.combination.Combination.{Combination}
use Rattle.rx_relations.specs.declared.reduction.Reduction.{Reduction}
use Rattle.rx_relations.proofs.Eliminating.{in_order_is}

-- k times the first minus l times the second, in both parts
abbrev pub difference_of : ℤ → Combination → ℤ → Combination → Combination
difference_of k c l d =
    record {
      value = body_difference (scaled_by k c.value) (scaled_by l d.value);
      relation =
          body_difference (scaled_by k c.relation) (scaled_by l d.relation);
    }

-- differences and quotients keep it, and of a value without terms it says Z of the relation
pub record IsClosed (P : Combination → Type 0) (Z : Body → Type 0) : Type 0 where
  pub differences : (k : ℤ) (c : Combination) (l : ℤ) (d : Combination) → P c → P d →
      P (difference_of k c l d)
  pub quotients : (c : Combination) → P c → P (primitive_parts c)
  pub zero : (c : Combination) → (out-Body c.value).terms ≡ [] → P c → Z c.relation

module _ (P : Combination → Type 0) (Z : Body → Type 0) (closed : IsClosed P Z) where
  by_test : (b : Bool) (x y : ℤ) (pivot c : Combination) → P pivot → P c →
      P (cancelled_unless b x y pivot c).form
  by_test true x y pivot c g h = h
  by_test false x y pivot c g h =
      closed.quotients (difference_of (cofactor x y) c (cofactor y x) pivot)
      (closed.differences (cofactor x y) c (cofactor y x) pivot h g)

  by_terms : (ts : List (Mono × ℤ)) (pivot c : Combination) → P pivot → P c →
      P (cancelled_first ts pivot c).form
  by_terms [] pivot c g h = h
  by_terms (t ∷ ts) pivot c g h =
      let b = coefficient t.0 (out-Body c.value).terms in
      by_test (is_zero b) t.1 b pivot c g h

  -- a combination that is reduced
  keeps_reduced : (pivots : List Combination) (c : Combination) → All P pivots → P c →
      P (reduced pivots c).form
  keeps_reduced [] c g h = h
  keeps_reduced (p ∷ ps) c g h =
      keeps_reduced ps (cancelled c p).form (All-tail P p ps g)
      (by_terms (out-Body p.value).terms p c (All-head P p ps g) h)

  -- the pivots have it, and the relations what it says
  record Kept (done : Reduction) : Type 0 where
    pivots : All P done.pivots
    relations : All Z done.vanishing

  keeps_placed : (ts : List (Mono × ℤ)) (done : Reduction) (c : Combination) →
      (out-Body c.value).terms ≡ ts → Kept done → P c → Kept (placed ts done c)
  keeps_placed [] done c e k h = record {
    pivots = k.pivots;
    relations =
        All-append Z done.vanishing (c.relation ∷ []) k.relations
        (All-cons Z c.relation [] (closed.zero c e h) (All-nil Z));
  }
  keeps_placed (t ∷ ts) done c e k h = record {
    pivots =
        All-append P done.pivots (c ∷ []) k.pivots (All-cons P c [] h (All-nil P));
    relations = k.relations;
  }

  keeps_taken : (cs : List Combination) (done : Reduction) → Kept done → All P cs →
      Kept (fold_formed taken done cs).form
  keeps_taken [] done k h = k
  keeps_taken (c ∷ cs) done k h =
      let r = (reduced done.pivots c).form in
      keeps_taken cs (taken done c).form
      (keeps_placed (out-Body r.value).terms done r refl k
      (keeps_reduced done.pivots c k.pivots (All-head P c cs h)))
      (All-tail P c cs h)

  -- the relations that vanish
  pub keeps_vanishing : (cs : List Combination) → All P cs → All Z (vanishing cs).form
  keeps_vanishing cs h =
      subst (λ (f : Formed (List Body)). All Z f.form) (in_order_is cs)
      (keeps_taken cs none_taken (record { pivots = All-nil P; relations = All-nil Z }) h).relations
