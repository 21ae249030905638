-- The tokens found so far, in front of an answer.
use Rattle.std.proofs.Common.{◌≡◌, ℕ, ◌+◌, ◌-◌, ◌<◌, ◌≤◌, zero, suc, Bool, true, List, [], ◌∷◌, ◌++◌, length, get_or, take, drop, Result, Ok, Err, All, AllPairs, fold, refl, sym, ap, subst, ◌∙◌, arith, length-drop, length-append}
use Rattle.std.proofs.lemmas.List.{at_drop_more, at_drop_all, drop-drop, drop_more, get_or-drop}
use Rattle.std.proofs.lemmas.List.Elements.{All-push}
use Rattle.std.proofs.lemmas.List.Quantifiers.{all_pairs_push}
use Rattle.c_lex.specs.declared.error.LexEnd.{LexEnd}
use Rattle.c_lex.specs.declared.piece.Fault.{Fault}
use Rattle.c_lex.specs.declared.piece.Fault.TheVariants as fault
use Rattle.c_lex.specs.declared.piece.Piece.{Piece}
use Rattle.c_lex.specs.declared.piece.Piece.TheVariants.{Blank, Spelled, Bad}
use Rattle.c_lex.specs.declared.token.Token.{Token}
use Rattle.c_lex.specs.declared.token.TokenKind.{TokenKind}
use Rattle.c_lex.specs.Bytes.{fresh_after}
use Rattle.c_lex.specs.Kept.{Keeps}
use Rattle.c_lex.specs.Pieces.{piece, IsPieceOf, IsSeenAtFront}
use Rattle.c_lex.specs.Spelling.{Spells}
use Rattle.c_lex.specs.Tokens.{put, follow, tokens_from, tokens_of, end_at, Gives, IsTokenOf, IsBefore}

-- the tokens, and then those of the answer
abbrev pub put_all : List Token → Result (List Token) LexEnd → Result (List Token) LexEnd
put_all [] answer = answer
put_all (t ∷ ts) answer = put t (put_all ts answer)

-- a token more
pub put_all-push : (ts : List Token) (t : Token) (answer : Result (List Token) LexEnd) →
    put_all (ts ++ t ∷ []) answer ≡ put_all ts (put t answer)
put_all-push [] t answer = refl
put_all-push (s ∷ ts) t answer = ap (put s) (put_all-push ts t answer)

-- nothing more
pub put_all_end : (ts : List Token) → put_all ts (Ok []) ≡ Ok ts
put_all_end [] = refl
put_all_end (t ∷ ts) = ap (put t) (put_all_end ts)

-- a fault is the answer, whatever was found
pub put_all_fault : (ts : List Token) (e : LexEnd) → put_all ts (Err e) ≡ Err e
put_all_fault [] e = refl
put_all_fault (t ∷ ts) e = ap (put t) (put_all_fault ts e)

-- the bytes of a piece are passed over
pub tokens_from_covered : (n : ℕ) (fresh : Bool) (at : ℕ) (xs : List ℕ) → n ≤ length xs →
    tokens_from n fresh at xs ≡ tokens_from 0 (fold fresh_after fresh (take n xs)) (at + n)
    (drop n xs)
unfolding tokens_from
tokens_from_covered zero fresh at xs h = ap (λ k. tokens_from 0 fresh k xs) (omega arith)
tokens_from_covered (suc n) fresh at [] h = absurd (omega arith)
tokens_from_covered (suc n) fresh at (x ∷ xs) h =
    tokens_from_covered n (fresh_after fresh x) (suc at) xs (omega arith)
    ∙ ap (λ k. tokens_from 0 (fold fresh_after (fresh_after fresh x) (take n xs)) k (drop n xs))
    (omega arith)

-- the answer from a place, by the piece that begins there
pub tokens_from_piece : (fresh : Bool) (at : ℕ) (xs : List ℕ) → at < length xs →
    tokens_from 0 fresh at (drop at xs) ≡ follow (piece fresh (drop at xs)) at
    (λ n. tokens_from (n - 1) (fresh_after fresh (get_or xs at 0)) (suc at) (drop (at + 1) xs))
unfolding tokens_from
tokens_from_piece fresh at xs h =
    at_drop_more (tokens_from 0 fresh at) xs at 0 h ∙
    ap (λ p. follow p at (λ n. tokens_from (n - 1) (fresh_after fresh (get_or xs at 0))
    (suc at) (drop (at + 1) xs))) (sym (at_drop_more (piece fresh) xs at 0 h))

-- the bytes after the first
take_more : (xs : List ℕ) (at n : ℕ) → 1 ≤ n → at < length xs → take n (drop at xs) ≡
    get_or xs at 0 ∷ take (n - 1) (drop (at + 1) xs)
take_more xs at zero some below = absurd (omega arith)
take_more xs at (suc n) some below =
    ap (take (suc n)) (drop_more xs at 0 below) ∙
    ap (λ k. get_or xs at 0 ∷ take k (drop (at + 1) xs)) (omega arith)

-- after a piece of n bytes
pub tokens_from_after : (fresh : Bool) (at n : ℕ) (xs : List ℕ) → 1 ≤ n → at + n ≤ length xs →
    IsSeenAtFront (drop at xs) n → tokens_from (n - 1) (fresh_after fresh (get_or xs at 0))
    (suc at) (drop (at + 1) xs) ≡ tokens_from 0 (fresh_after fresh (get_or xs at 0)) (at + n)
    (drop (at + n) xs)
tokens_from_after fresh at n xs some within seen =
    let first = fresh_after fresh (get_or xs at 0) in
    let below : at < length xs = omega arith in
    let front : get_or (drop at xs) 0 0 ≡ get_or xs at 0 = get_or-drop at xs 0 0 ∙
    ap (λ k. get_or xs k 0) (omega arith) in
    let line : fold fresh_after first (take (n - 1) (drop (at + 1) xs)) ≡ first =
    sym (ap (fold fresh_after fresh) (take_more xs at n some below)) ∙ seen fresh ∙
    ap (fresh_after fresh) front in
    tokens_from_covered (n - 1) first (suc at) (drop (at + 1) xs)
    (omega (arith, length-drop (at + 1) xs))
    ∙ ap (λ f. tokens_from 0 f (suc at + (n - 1)) (drop (n - 1) (drop (at + 1) xs))) line
    ∙ ap (tokens_from 0 first (suc at + (n - 1))) (drop-drop (n - 1) (at + 1) xs)
    ∙ ap (λ k. tokens_from 0 first k (drop (at + 1 + (n - 1)) xs))
    (let e : suc at + (n - 1) ≡ at + n = omega arith in e)
    ∙ ap (λ k. tokens_from 0 first (at + n) (drop k xs))
    (let e : at + 1 + (n - 1) ≡ at + n = omega arith in e)

-- What is known at a place of the text: what was found, and then what follows from here, is the
-- answer; what was found are tokens of the text, in order, in front of this place.
pub record Found (xs : List ℕ) (fresh : Bool) (at : ℕ) (ts : List Token) : Type 0 where
  pub within : at ≤ length xs
  pub answer : put_all ts (tokens_from 0 fresh at (drop at xs)) ≡ tokens_of xs
  pub tokens : All (IsTokenOf xs) ts
  pub apart : AllPairs IsBefore ts
  pub passed : All (λ t. t.at + t.len ≤ at) ts
  pub few : length ts ≤ at

-- nothing is found at the front
pub found_none : (xs : List ℕ) → Found xs true 0 []
found_none xs =
    record {
      within = omega arith;
      answer = refl;
      tokens = λ k d h. absurd (omega arith);
      apart =
          λ i j d h k. absurd (omega arith);
      passed = λ k d h. absurd (omega arith);
      few = omega arith;
    }

-- what ends in front of a place ends in front of each later one
passed_more : (ts : List Token) (at n : ℕ) → All (λ t. t.at + t.len ≤ at) ts →
    All (λ t. t.at + t.len ≤ at + n) ts
passed_more ts at n h k d below = omega (arith, h k d below)

-- after a piece that is not kept the same is known
found_blank : (xs : List ℕ) (fresh : Bool) (at n : ℕ) (ts : List Token) → Found xs fresh at ts →
    at < length xs → piece fresh (drop at xs) ≡ Blank n → 1 ≤ n → n ≤ length (drop at xs) →
    IsSeenAtFront (drop at xs) n → Found xs (fresh_after fresh (get_or xs at 0)) (at + n) ts
found_blank xs fresh at n ts f below is some fits seen =
    let within : at + n ≤ length xs = omega (arith, length-drop at xs) in
    let turn = tokens_from_piece fresh at xs below ∙
    ap (λ p. follow p at (λ n. tokens_from (n - 1) (fresh_after fresh (get_or xs at 0))
    (suc at) (drop (at + 1) xs))) is ∙ tokens_from_after fresh at n xs some within seen in
    record {
      within = within;
      answer = sym (ap (put_all ts) turn) ∙ f.answer;
      tokens = f.tokens;
      apart = f.apart;
      passed = passed_more ts at n f.passed;
      few = (let h = f.few in omega arith);
    }

-- after a token, which is kept, the same is known
found_spelled : (xs : List ℕ) (fresh : Bool) (at n : ℕ) (kind : TokenKind) (ts : List Token) →
    Found xs fresh at ts → at < length xs → piece fresh (drop at xs) ≡ Spelled kind n → 1 ≤ n → n ≤
    length (drop at xs) → IsSeenAtFront (drop at xs) n → Spells kind (take n (drop at xs)) →
    Found xs (fresh_after fresh (get_or xs at 0)) (at + n)
    (ts ++ record { kind = kind; at = at; len = n } ∷ [])
found_spelled xs fresh at n kind ts f below is some fits seen spells =
    let t : Token = record { kind = kind; at = at; len = n } in
    let within : at + n ≤ length xs = omega (arith, length-drop at xs) in
    let turn = tokens_from_piece fresh at xs below ∙
    ap (λ p. follow p at (λ n. tokens_from (n - 1) (fresh_after fresh (get_or xs at 0))
    (suc at) (drop (at + 1) xs))) is ∙ ap (put t)
    (tokens_from_after fresh at n xs some within seen) in
    record {
      within = within;
      answer = put_all-push ts t _ ∙ sym (ap (put_all ts) turn) ∙ f.answer;
      tokens = All-push (IsTokenOf xs) ts t f.tokens (some, within, spells);
      apart = all_pairs_push IsBefore ts t f.apart f.passed;
      passed =
          All-push (λ t. t.at + t.len ≤ at + n) ts t (passed_more ts at n f.passed) (omega arith);
      few = (let h = f.few in omega (arith, length-append ts (t ∷ [])));
    }

-- after a piece that is no fault the same is known
pub found_turn : (p : Piece) (xs : List ℕ) (fresh : Bool) (at len : ℕ) (ts new : List Token) →
    Found xs fresh at ts → at < length xs → piece fresh (drop at xs) ≡ p →
    IsPieceOf (drop at xs) p → Keeps p at ts new (Ok len) →
    Found xs (fresh_after fresh (get_or xs at 0)) (at + len) new
found_turn (Blank n) xs fresh at len ts new f below is part keeps =
    rw (keeps.0, keeps.1) (found_blank xs fresh at n ts f below is part.0 part.1 part.2)
found_turn (Spelled kind n) xs fresh at len ts new f below is part keeps =
    rw (keeps.0, keeps.1) (found_spelled xs fresh at n kind ts f below is part.0 part.1 part.2
    part.3)
found_turn (Bad fault n) xs fresh at len ts new f below is part keeps = absurd keeps

-- and the place is later
pub found_in_rest : (p : Piece) (rest : List ℕ) (at len : ℕ) (ts new : List Token) →
    IsPieceOf rest p → Keeps p at ts new (Ok len) → 1 ≤ len
found_in_rest (Blank n) rest at len ts new part keeps = omega (arith, part.0, keeps.0)
found_in_rest (Spelled kind n) rest at len ts new part keeps = omega (arith, part.0, keeps.0)
found_in_rest (Bad fault n) rest at len ts new part keeps = absurd keeps

-- at the end of the text what was found is the answer
pub found_end : (xs : List ℕ) (fresh : Bool) (at : ℕ) (ts : List Token) → Found xs fresh at ts →
    length xs ≤ at → tokens_of xs ≡ Ok ts
unfolding tokens_from
found_end xs fresh at ts f over =
    sym f.answer ∙ ap (put_all ts) (at_drop_all (tokens_from 0 fresh at) xs at over) ∙
    put_all_end ts

-- the fault of the definition is the answer
gives_fault : (fault : Fault) (at : ℕ) (answer : Result (List Token) LexEnd) → answer ≡
    Err (end_at fault at) → Gives (Err (end_at fault at)) answer
gives_fault fault.BadByte at answer h = h
gives_fault fault.OpenComment at answer h = h
gives_fault fault.LiteralTooLarge at answer h = h
gives_fault fault.LeadingZero at answer h = h
gives_fault fault.Directive at answer h = h

-- a piece that ends the call gives the answer, or memory is wanting
pub found_fault : (p : Piece) (xs : List ℕ) (fresh : Bool) (at : ℕ) (e : LexEnd)
    (ts new : List Token) → Found xs fresh at ts → at < length xs → piece fresh (drop at xs) ≡ p →
    Keeps p at ts new (Err e) → Gives (Err e) (tokens_of xs)
found_fault (Blank n) xs fresh at e ts new f below is keeps = absurd keeps
found_fault (Spelled kind n) xs fresh at e ts new f below is keeps =
    subst (λ e. Gives (Err e) (tokens_of xs)) (sym keeps) tt
found_fault (Bad fault n) xs fresh at e ts new f below is keeps =
    let turn = tokens_from_piece fresh at xs below ∙
    ap (λ p. follow p at (λ n. tokens_from (n - 1) (fresh_after fresh (get_or xs at 0))
    (suc at) (drop (at + 1) xs))) is in
    subst (λ e. Gives (Err e) (tokens_of xs)) (sym keeps)
    (gives_fault fault (at + n) (tokens_of xs)
    (sym f.answer ∙ ap (put_all ts) turn ∙ put_all_fault ts (end_at fault (at + n))))
