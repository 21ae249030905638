-- One more of what is made of a list.
use Rattle.std.proofs.Common.{◌≡◌, List, [], ◌∷◌, ◌++◌, map, sym, ap, ◌∙◌}
use Rattle.std.proofs.lemmas.List.{append_assoc, map-append}

pub mapped_push : {A B : Type 0} (f : A → B) (before old new : List B) (ys : List A) (y : A)
    (one : B) → old ≡ before ++ map f ys → one ≡ f y → new ≡ old ++ one ∷ [] →
    new ≡ before ++ map f (ys ++ y ∷ [])
mapped_push f before old new ys y one was is pushed =
    pushed ∙ ap (λ bs. bs ++ one ∷ []) was ∙ ap (λ b. (before ++ map f ys) ++ b ∷ []) is
    ∙ append_assoc before (map f ys) (f y ∷ [])
    ∙ ap (λ bs. before ++ bs) (sym (map-append f ys (y ∷ [])))
