-- Names determine spellings.
use Rattle.std.proofs.Common.{◌≡◌, ◌∙◌, ap, ℕ, suc, ◌+◌, ◌<◌, ◌≤◌, ◌↔◌, refl, sym, List, [], ◌∷◌, ◌++◌, map, length, take, drop, get_or, Option, Some, None, option_map, if◌then◌else◌, unwrap_or, arith}
use Rattle.std.specs.Prelude.{slice_get}
use Rattle.std.specs.Option.{option_or}
use Rattle.std.specs.Borrow.{Bor}
use Rattle.std.specs.Str.{bytes_eq}
use Rattle.std.proofs.lemmas.List.{get_or-map, take-append-drop, take_more, length-map, length-take}
use Rattle.std.proofs.lemmas.Option.{unwrap_or-slice_get, slice_get-map}
use Rattle.std.proofs.Math.Seq.{drop-cons}
use Rattle.c_lex.specs.declared.token.Token.{Token}
use Rattle.c_names.specs.Spellings.{spelling, spelling_at, place_of}
use Rattle.c_names.specs.Names.{names_of, name_at, NamesTellSpellings}
use Rattle.c_names.specs.Seen.{number_in}
use Rattle.c_names.proofs.Places.{place-last, place-is, place-more}

-- a list is what comes before a place, what is there, and what comes after it
split : (words : List (List ℕ)) (i : ℕ) → i < length words → words ≡ take i words ++
    get_or words i [] ∷ drop (suc i) words
split words i h =
    sym (take-append-drop i words) ∙ ap (λ ws. take i words ++ ws) (drop-cons words i [] h)

-- as many come before a place as it says
taken : (words : List (List ℕ)) (i : ℕ) → i < length words → length (take i words) ≡ i
taken words i h = grind (arith, length-take)

-- a word that is in a list is found among those in front of it, or at its own place
found : (words : List (List ℕ)) (i : ℕ) → i < length words → place_of words (get_or words i []) ≡
    option_or (place_of (take i words) (get_or words i [])) (Some i)
found words i h =
    let w = get_or words i [] in
    let len = taken words i h in
    ap (λ ws. place_of ws w) (split words i h) ∙ place-last (take i words) w (drop (suc i) words)
    ∙ ap (λ k. option_or (place_of (take i words) w) (Some k)) len

-- so the number under which it was first seen is its place in the whole
pub first_seen : (words : List (List ℕ)) (i : ℕ) → i < length words →
    unwrap_or (place_of (take i words) (get_or words i [])) i ≡
    unwrap_or (place_of words (get_or words i [])) 0
first_seen words i h =
    by (place_of (take i words) (get_or words i [])) ∙
    ap (λ o. unwrap_or o 0) (sym (found words i h))
  where
    by : (o : Option ℕ) → unwrap_or o i ≡ unwrap_or (option_or o (Some i)) 0
    by None = refl
    by (Some n) = refl

-- and what is at that place is the word
placed : (words : List (List ℕ)) (i : ℕ) → i < length words →
    get_or words (unwrap_or (place_of words (get_or words i [])) 0) [] ≡ get_or words i []
placed words i h = by (place_of (take i words) (get_or words i [])) (found words i h)
  where
    by : (o : Option ℕ) → place_of words (get_or words i []) ≡ option_or o (Some i) →
        get_or words (unwrap_or (place_of words (get_or words i [])) 0) [] ≡ get_or words i []
    by None e = ap (λ o. get_or words (unwrap_or o 0) []) e
    by (Some n) e =
        ap (λ o. get_or words (unwrap_or o 0) []) e ∙ place-is words (get_or words i []) n e

-- the spelling of a token, among those of all
spelled : (source : List ℕ) (tokens : List Token) (i : ℕ) → spelling_at source tokens i ≡
    get_or (map (spelling source) tokens) i []
spelled source tokens i =
    ap (λ o. unwrap_or o []) (sym (slice_get-map (spelling source) tokens i)) ∙
    unwrap_or-slice_get (map (spelling source) tokens) i []

-- the name of a token is the place of its spelling
named : (source : List ℕ) (tokens : List Token) (i : ℕ) → i <
    length (map (spelling source) tokens) → name_at (names_of source tokens) i ≡
    unwrap_or (place_of (map (spelling source) tokens) (get_or (map (spelling source) tokens) i []))
    0
named source tokens i h =
    let words = map (spelling source) tokens in
    unwrap_or-slice_get (names_of source tokens) i 0 ∙
    get_or-map (λ w. unwrap_or (place_of words w) 0) words i [] 0 h

within : (source : List ℕ) (tokens : List Token) (i : ℕ) → i < length tokens → i <
    length (map (spelling source) tokens)
within source tokens i h =
    let same : length (map (spelling source) tokens) ≡ length tokens =
    length-map tokens (spelling source) in omega (arith, same)

-- two tokens have one name exactly where they are spelled alike
pub names_tell_spellings : (source : List ℕ) (tokens : List Token) →
    NamesTellSpellings source tokens
names_tell_spellings source tokens i j h g =
    let words = map (spelling source) tokens in
    let hi = within source tokens i h in
    let hj = within source tokens j g in
    let ni = named source tokens i hi in
    let nj = named source tokens j hj in (
      λ e. spelled source tokens i ∙ sym (placed words i hi) ∙
          ap (λ n. get_or words n []) (sym ni ∙ e ∙ nj) ∙ placed words j hj ∙
          sym (spelled source tokens j),
      λ e. ni ∙ ap (λ w. unwrap_or (place_of words w) 0)
          (sym (spelled source tokens i) ∙ e ∙ spelled source tokens j) ∙ sym nj,
    )

-- ---- one token more

module _ (source : List ℕ) (tokens : List Token) (i : ℕ) (h : i < length tokens) (word : List ℕ)
    (is : word ≡ spelling_at source tokens i) (old : List (Bor (List ℕ) × ℕ))
    (knows : (w : List ℕ) → number_in old w ≡ place_of (take i (map (spelling source) tokens)) w)
  where
    -- the table that the token's word was added to knows one word more
    pub next_seen : (new : List (Bor (List ℕ) × ℕ)) →
        ((w : List ℕ) → number_in new w ≡ option_or (number_in old w)
        (if bytes_eq word w then Some i else None)) → (w : List ℕ) → number_in new w ≡
        place_of (take (i + 1) (map (spelling source) tokens)) w
    next_seen new known w =
        let words = map (spelling source) tokens in
        let hi = within source tokens i h in
        let len = taken words i hi in
        known w ∙ ap (λ o. option_or o (if bytes_eq word w then Some i else None)) (knows w)
        ∙ ap (λ v. option_or (place_of (take i words) w) (if bytes_eq v w then Some i else None))
        (is ∙ spelled source tokens i)
        ∙ ap (λ k. option_or (place_of (take i words) w)
        (if bytes_eq (get_or words i []) w then Some k else None)) (sym len)
        ∙ sym (place-more (take i words) (get_or words i []) w)
        ∙ ap (λ ws. place_of ws w) (sym (take_more words i [] hi))

    -- and the token's name is found
    pub next_name : (name : ℕ) (names : List ℕ) → name ≡ unwrap_or (number_in old word) i → names ≡
        take i (names_of source tokens) → names ++ name ∷ [] ≡ take (i + 1) (names_of source tokens)
    next_name name names e f =
        let words = map (spelling source) tokens in
        let hi = within source tokens i h in
        let hn : i < length (names_of source tokens) =
        (let same : length (names_of source tokens) ≡ length words =
        length-map words (λ w. unwrap_or (place_of words w) 0) in omega (arith, same, hi)) in
        let value : name ≡ get_or (names_of source tokens) i 0 =
        e ∙ ap (λ o. unwrap_or o i) (knows word) ∙
        ap (λ v. unwrap_or (place_of (take i words) v) i) (is ∙ spelled source tokens i)
        ∙ first_seen words i hi ∙ sym (get_or-map (λ w. unwrap_or (place_of words w) 0) words i [] 0
        hi) in
        (λ k. f k ++ value k ∷ []) ∙ sym (take_more (names_of source tokens) i 0 hn)
