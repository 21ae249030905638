-- What holds with no frames holds under frames.
use Rattle.std.proofs.Common.{refl, ◌≡◌, ℕ, ◌⊎◌, inl, inr, ap, List, [], ◌∷◌, ◌++◌, ℤ}
use Rattle.rx_rewriting.specs.Terms.{Ground, Return, Fail, Call, Frame, IsResult, StackFrame, in_context, Signature, Fits, Relation, TermSet}
use Rattle.rx_rewriting.specs.Steps.{Step, Here, Under, ReplacesInner, Reaches, Stop, Go, ReachesIn, NoStep, OneMore, Convertible, Same, Forth, Back, Joinable, Either, IsSingleValued}
use Rattle.rx_rewriting.specs.Premises.{ClosedUnder, Reducible, ResultsAreNormal, ClosedUnderSubterms, IsReplaceable, IsReplaceableHere}

-- a step carries under frames
pub Step-in_context : {R : Relation} (fs : List StackFrame) {s t : Ground} → Step R s t →
    Step R (in_context fs s) (in_context fs t)
Step-in_context [] step = step
Step-in_context (f ∷ fs) step = Under f.symbol f.arguments (Step-in_context fs step)

-- one stack of frames over another
pub in_context-append : (fs gs : List StackFrame) (s : Ground) → in_context (fs ++ gs) s ≡
    in_context fs (in_context gs s)
in_context-append [] gs s = refl
in_context-append (f ∷ fs) gs s = ap (Frame f.symbol f.arguments) (in_context-append fs gs s)

-- a step replaces an inner part
pub Step-replaces : (R : Relation) (s t : Ground) → Step R s t → ReplacesInner R s t
Step-replaces R s t (Here one) =
    record { kept = []; before = s; after = t; old = refl; new = refl; related = one }
Step-replaces R s t (Under {s = s'} {t = t'} f xs step) =
    let inner = Step-replaces R s' t' step in
    record {
      kept = record { symbol = f; arguments = xs } ∷ inner.kept;
      before = inner.before;
      after = inner.after;
      old = ap (Frame f xs) inner.old;
      new = ap (Frame f xs) inner.new;
      related = inner.related;
    }

-- what replaces an inner part is a step
pub replaces-Step : (R : Relation) (s t : Ground) → ReplacesInner R s t → Step R s t
replaces-Step R s t inner =
    let step : Step R (in_context inner.kept inner.before) (in_context inner.kept inner.after) =
    Step-in_context inner.kept (Here inner.related) in
    rw (inner.old, inner.new) step

-- reach carries under frames
pub Reaches-in_context : {R : Relation} (fs : List StackFrame) {s t : Ground}
    → Reaches R s t → Reaches R (in_context fs s) (in_context fs t)
Reaches-in_context fs Stop = Stop
Reaches-in_context fs (Go step rest) = Go (Step-in_context fs step) (Reaches-in_context fs rest)

-- counted reach carries under frames
pub ReachesIn-in_context : {R : Relation} (fs : List StackFrame) {m : ℕ} {s t : Ground}
    → ReachesIn R m s t → ReachesIn R m (in_context fs s) (in_context fs t)
ReachesIn-in_context fs NoStep = NoStep
ReachesIn-in_context fs (OneMore step rest) =
    OneMore (Step-in_context fs step) (ReachesIn-in_context fs rest)

-- conversion carries under frames
pub Convertible-in_context : {R : Relation} (fs : List StackFrame) {s t : Ground}
    → Convertible R s t → Convertible R (in_context fs s) (in_context fs t)
Convertible-in_context fs Same = Same
Convertible-in_context fs (Forth step rest) =
    Forth (Step-in_context fs step) (Convertible-in_context fs rest)
Convertible-in_context fs (Back step rest) =
    Back (Step-in_context fs step) (Convertible-in_context fs rest)

-- joining carries under frames
pub Joinable-in_context : (R : Relation) (fs : List StackFrame) (s t : Ground) → Joinable R s t →
    Joinable R (in_context fs s) (in_context fs t)
Joinable-in_context R fs s t (u, left, right) =
    (in_context fs u, Reaches-in_context fs left, Reaches-in_context fs right)

-- one frame over a join
pub Joinable-frame : (R : Relation) (f : ℕ) (xs : List ℤ) (s t : Ground)
    → Joinable R s t → Joinable R (Frame f xs s) (Frame f xs t)
Joinable-frame R f xs s t joined =
    Joinable-in_context R (record { symbol = f; arguments = xs } ∷ []) s t joined

-- where each hypothesis with no frames over it is replaceable, so is each hypothesis step
pub replaceable_under_frames : (inside : TermSet) (R H : Relation)
    → ClosedUnderSubterms inside → IsReplaceableHere inside R H → IsReplaceable inside R H
replaceable_under_frames inside R H inner here s t in_s (Here one) = here s t in_s one
replaceable_under_frames inside R H inner here s t in_s (Under {s = s'} {t = t'} f xs step) =
    let (first, leads, joined) = replaceable_under_frames inside R H inner here s' t'
    (inner f xs s' in_s) step in
    (Frame f xs first, Under f xs leads, Joinable-frame (Either R H) f xs first t' joined)

-- a relation that gives each term at most one, and rewrites a frame only where nothing below it
-- steps, is single-valued
pub single_valued_under_frames : (R : Relation) → ((s t u : Ground) → R s t → R s u → t ≡ u)
    → ((f : ℕ) (xs : List ℤ) (s t u : Ground) → R (Frame f xs s) t → Step R s u → ⊥) →
    IsSingleValued R
single_valued_under_frames R once inner s t u (Here one) (Here other) = once s t u one other
single_valued_under_frames R once inner s t u (Here one) (Under {s = s'} {t = u'} f xs other) =
    absurd (inner f xs s' t u' one other)
single_valued_under_frames R once inner s t u (Under {s = s'} {t = t'} f xs one) (Here other) =
    absurd (inner f xs s' u t' other one)
single_valued_under_frames R once inner s t u (Under {s = s'} {t = t'} f xs one)
    (Under {t = u'} g ys other) =
    ap (Frame f xs) (single_valued_under_frames R once inner s' t' u' one other)

-- no step starts at a result, where the relation with no frames over it has none
pub results_rest_under_frames : (R : Relation) → ((s t : Ground) → IsResult s → R s t → ⊥) →
    ResultsAreNormal R
results_rest_under_frames R none s t result (Here one) = none s t result one
results_rest_under_frames R none s t result (Under f xs step) = result

-- where the relation with no frames over it stays inside, and being inside goes frame by frame,
-- each step stays inside
pub stays_under_frames : (inside : TermSet) (R : Relation) → ClosedUnderSubterms inside
    → ((f : ℕ) (xs : List ℤ) (s t : Ground) → inside (Frame f xs s) → inside t →
    inside (Frame f xs t))
    → ((s t : Ground) → inside s → R s t → inside t) → ClosedUnder inside R
stays_under_frames inside R inner exchange here s t in_s (Here one) = here s t in_s one
stays_under_frames inside R inner exchange here s t in_s (Under {s = s'} {t = t'} f xs step) =
    exchange f xs s' t' in_s (stays_under_frames inside R inner exchange here s' t'
    (inner f xs s' in_s) step)

-- where each inside call and each inside frame over a result has a step, each inside term that is
-- no result has one
pub moves_under_frames : (inside : TermSet) (R : Relation) → ClosedUnderSubterms inside
    → ((f : ℕ) (xs : List ℤ) → inside (Call f xs) → (t : Ground) × Step R (Call f xs) t)
    → ((f : ℕ) (xs : List ℤ) (s : Ground) → inside (Frame f xs s) → IsResult s → (t : Ground) ×
    Step R (Frame f xs s) t)
    → Reducible inside R
moves_under_frames inside R inner calls frames (Return k) in_s = inl tt
moves_under_frames inside R inner calls frames (Fail c) in_s = inl tt
moves_under_frames inside R inner calls frames (Call f xs) in_s = inr (calls f xs in_s)
moves_under_frames inside R inner calls frames (Frame f xs s) in_s =
    go (moves_under_frames inside R inner calls frames s (inner f xs s in_s))
  where
    go : IsResult s ⊎ ((t : Ground) × Step R s t) → IsResult (Frame f xs s) ⊎
        ((t : Ground) × Step R (Frame f xs s) t)
    go (inl result) = inr (frames f xs s in_s result)
    go (inr (t, step)) = inr (Frame f xs t, Under f xs step)

-- fitting goes frame by frame: the inner part of a fitting term fits
pub Fits-inner : (symbols : Signature) → ClosedUnderSubterms (Fits symbols)
Fits-inner symbols f xs s fits = fits.1

-- and another fitting term may be in its place
pub Fits-exchange : (symbols : Signature) (f : ℕ) (xs : List ℤ) (s t : Ground)
    → Fits symbols (Frame f xs s) → Fits symbols t → Fits symbols (Frame f xs t)
Fits-exchange symbols f xs s t whole inner = (whole.0, inner)
