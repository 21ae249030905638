-- What is formed step by step within limits: its form, with whether everything on the way to it
-- keeps the limits.
use Rattle.std.specs.Prelude.{◌≡◌, Bool, true, false, ◌&&◌, List, [], ◌∷◌, Result, Ok, Err}

-- a form, with whether it and all that led to it keep the limits
pub record Formed (A : Type 0) : Type 0 where
  pub form : A
  pub within : Bool

-- a call forms exactly this: success has its form and everything kept the limits; the error `large`
-- says that something did not
abbrev pub Forms : {A E : Type 0} → E → Result A E → Formed A → Type 0
Forms large (Ok x) f = (x ≡ f.form) × (f.within ≡ true)
Forms large (Err e) f = e ≡ large → f.within ≡ false

-- the same where the result is seen through a view, as a `Vec` by its items
abbrev pub FormsAs : {A B E : Type 0} → (A → B) → E → Result A E → Formed B → Type 0
FormsAs view large (Ok x) f = (view x ≡ f.form) × (f.within ≡ true)
FormsAs view large (Err e) f = e ≡ large → f.within ≡ false

-- what needs no limit
abbrev pub pure : {A : Type 0} → A → Formed A
pure x = record { form = x; within = true }

-- what is formed in one step, and kept only where it passes a test
abbrev pub kept : {A : Type 0} → (A → Bool) → A → Formed A
kept test x = record { form = x; within = test x }

-- the first, and then what is formed of it
infixl 10 ◌>>=◌
abbrev pub ◌>>=◌ : {A B : Type 0} → Formed A → (A → Formed B) → Formed B
f >>= g = record { form = (g f.form).form; within = f.within && (g f.form).within }

-- what is formed, taken along a function that needs no limit
infixl 11 ◌<$>◌
abbrev pub ◌<$>◌ : {A B : Type 0} → (A → B) → Formed A → Formed B
g <$> f = record { form = g f.form; within = f.within }

-- each element formed, in order
abbrev pub map_formed : {A B : Type 0} → (A → Formed B) → List A → Formed (List B)
map_formed f [] = pure []
map_formed f (x ∷ xs) = do
  y ← f x
  (λ ys. y ∷ ys) <$> map_formed f xs

-- a value taken on by each element in order
abbrev pub fold_formed : {A B : Type 0} → (B → A → Formed B) → B → List A → Formed B
fold_formed step done [] = pure done
fold_formed step done (x ∷ xs) = do
  next ← step done x
  fold_formed step next xs
