-- Elements of lists that are joined, filtered, mapped or formed.
use Rattle.std.proofs.Common.{◌≡◌, inl, inr, Bool, true, false, if◌then◌else◌, List, [], ◌∷◌, ◌++◌, map, refl, sym, ap, ◌∙◌, arith, All, Contains}
use Rattle.std.specs.Prelude.{filter}
use Rattle.std.proofs.lemmas.List.Elements.{All-cons, All-head, All-tail, All-nil}
use Rattle.rx_plain.specs.Formed.{Formed, map_formed}
use Rattle.rx_plain.proofs.Kept.{first_or_other, first_one, other_one}

-- what holds of two lists together holds of each
pub All-parts : {X : Type 0} (P : X → Type 0) (xs ys : List X) → All P (xs ++ ys) → All P xs ×
    All P ys
All-parts P [] ys all = (All-nil P, all)
All-parts P (x ∷ xs) ys all =
    let rest = All-parts P xs ys (All-tail P x (xs ++ ys) all) in
    (All-cons P x xs (All-head P x (xs ++ ys) all) rest.0, rest.1)

-- what is kept by a test passes it
passes_if : {X : Type 0} (p : X → Bool) (y : X) (ys : List X) (x : X) (b : Bool) → p y ≡ b →
    (Contains ys x → p x ≡ true) → Contains (if b then y ∷ ys else ys) x → p x ≡ true
passes_if p y ys x true is later among =
    elim (first_or_other y ys x among) [ inl same ↦ ap p (sym same) ∙ is | inr rest ↦ later rest ]
passes_if p y ys x false is later among = later among

pub passes : {X : Type 0} (p : X → Bool) (xs : List X) (x : X) → Contains (filter p xs) x → p x ≡
    true
passes p [] x among = absurd (let h = among.1 in omega (arith, h))
passes p (y ∷ xs) x among = passes_if p y (filter p xs) x (p y) refl (passes p xs x) among

-- mapped lists
pub All-map_back : {X Y : Type 0} (P : Y → Type 0) (f : X → Y) (xs : List X) → All P (map f xs) →
    All (λ x. P (f x)) xs
All-map_back P f [] all = All-nil (λ x. P (f x))
All-map_back P f (x ∷ xs) all =
    All-cons (λ x. P (f x)) x xs (All-head P (f x) (map f xs) all)
    (All-map_back P f xs (All-tail P (f x) (map f xs) all))

pub All-mapped : {X Y : Type 0} (P : Y → Type 0) (f : X → Y) (xs : List X) →
    ((x : X) → Contains xs x → P (f x)) → All P (map f xs)
All-mapped P f [] each = All-nil P
All-mapped P f (x ∷ xs) each =
    All-cons P (f x) (map f xs) (each x (first_one x xs))
    (All-mapped P f xs (λ y among. each y (other_one x xs y among)))

-- lists of which each element is formed
pub All-formed_back : {X Y : Type 0} (P : Y → Type 0) (f : X → Formed Y) (xs : List X) →
    All P (map_formed f xs).form → All (λ x. P (f x).form) xs
All-formed_back P f [] all = All-nil (λ x. P (f x).form)
All-formed_back P f (x ∷ xs) all =
    All-cons (λ x. P (f x).form) x xs (All-head P (f x).form (map_formed f xs).form all)
    (All-formed_back P f xs (All-tail P (f x).form (map_formed f xs).form all))

pub All-formed : {X Y : Type 0} (P : Y → Type 0) (f : X → Formed Y) (xs : List X) →
    ((x : X) → Contains xs x → P (f x).form) → All P (map_formed f xs).form
All-formed P f [] each = All-nil P
All-formed P f (x ∷ xs) each =
    All-cons P (f x).form (map_formed f xs).form (each x (first_one x xs))
    (All-formed P f xs (λ y among. each y (other_one x xs y among)))
