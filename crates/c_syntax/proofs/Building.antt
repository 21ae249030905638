-- What is built of one phrase alone is read where that phrase is.
use Rattle.std.proofs.Common.{◌≡◌, ℕ, ◌≤◌, ◌<◌, Option, Some, None, Result, Ok, Err, IfOk, sym, ◌∙◌, ap, arith}
use Rattle.c_syntax.specs.declared.read.Span.{Span}
use Rattle.c_syntax.specs.Readers.{Gives}

-- what is spelled as `Q` is what `f` makes of what is spelled as `P`
pub record Built {A B : Type 0} (f : A → B) (P : ℕ → A → Type 0) (Q : ℕ → B → Type 0) : Type 0 where
  pub make : (j : ℕ) → (v : A) → P j v → Q j (f v)
  pub part : (j : ℕ) → (w : B) → Q j w → (v : A) × (P j v × (w ≡ f v))

module _ {A B : Type 0} (f : A → B) (P : ℕ → A → Type 0) (Q : ℕ → B → Type 0) (b : Built f P Q)
    (at here bound : ℕ) where
  -- nothing is built of nothing
  pub built_none : Gives P here bound None → Gives Q at bound None
  built_none g = record { found = tt; only = λ j w q. let p = b.part j w q in g.only j p.0 p.1.0 }

  -- what is built of what was read
  pub built_some : at ≤ here → (x : Span A) (y : Span B) → Gives P here bound (Some x) → y.value ≡
      f x.value → y.end ≡ x.end → Gives Q at bound (Some y)
  built_some before x y g yv ye =
      let further : here < x.end = g.found.further in
      let within : x.end ≤ bound = g.found.within in
      record {
        found =
            record {
              spelled = rw (ye, yv) (b.make x.end x.value g.found.spelled);
              further =
                  omega arith;
              within = omega arith;
            };
        only = λ j w q.
            let p = b.part j w q in
            let is : (x.end ≡ j) × (x.value ≡ p.0) = g.only j p.0 p.1.0 in
            (ye ∙ is.0, yv ∙ (ap f is.1 ∙ sym p.1.1));
      }

-- what is read as one phrase is read as another that spells the same
pub renamed : {A : Type 0} (P Q : ℕ → A → Type 0) (at here bound : ℕ) (r : Option (Span A)) → at ≤
    here → ((j : ℕ) → (v : A) → P j v → Q j v) → ((j : ℕ) → (v : A) → Q j v → P j v)
    → Gives P here bound r → Gives Q at bound r
renamed P Q at here bound None before to from g =
    record { found = tt; only = λ j v q. g.only j v (from j v q) }
renamed P Q at here bound (Some x) before to from g =
    let further : here < x.end = g.found.further in
    record {
      found =
          record {
            spelled = to x.end x.value g.found.spelled;
            further = omega arith;
            within =
                g.found.within;
          };
      only = λ j v q. g.only j v (from j v q);
    }

-- the same of an answer that may be out of memory
pub renamed_ok : {A E : Type 0} (P Q : ℕ → A → Type 0) (at here bound : ℕ)
    (r : Result (Option (Span A)) E) → at ≤ here → ((j : ℕ) → (v : A) → P j v → Q j v) →
    ((j : ℕ) → (v : A) → Q j v → P j v)
    → IfOk r (Gives P here bound) → IfOk r (Gives Q at bound)
renamed_ok P Q at here bound (Ok r) before to from g = renamed P Q at here bound r before to from g
renamed_ok P Q at here bound (Err e) before to from g = tt
