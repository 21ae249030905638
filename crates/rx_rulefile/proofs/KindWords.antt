-- What symbols are, as words: each is given by its word, and so are a number and what comes after
-- it.
use Rattle.std.proofs.Common.{◌≡◌, ◌∙◌, ap, refl, sym, ℕ, eqb, if◌then◌else◌, Bool, true, false, Option, List, [], ◌∷◌, ◌++◌, arith}
use Rattle.std.proofs.lemmas.List.{append_cancel_left}
use Rattle.rx_text.specs.Formats.{IsUnambiguous, Reads}
use Rattle.rx_text.specs.Numbers.{naturals}
use Rattle.rx_text.proofs.Decimals.{naturals_unambiguous}
use Rattle.rx_words.specs.Lists.{ending_word}
use Rattle.rx_words.proofs.Joined.{pairs_once, word_once, word_reads}
use Rattle.rx_rulefile.specs.SymbolParts.{kinds, shapes, symbols}
use Rattle.rx_rulefile.specs.RuleLines.{arities, fail_codes, has_kind, kind_text, symbol_numbers}
use Rattle.rx_rulefile.specs.declared.kinds.Kind.{Kind}

-- ---- numbers

pub fail_codes_once : IsUnambiguous fail_codes
fail_codes_once = word_once (naturals 255) refl refl (naturals_unambiguous 255 (omega arith))

pub symbol_numbers_once : IsUnambiguous symbol_numbers
symbol_numbers_once =
    word_once (naturals 4095) refl refl (naturals_unambiguous 4095 (omega arith))

pub arities_once : IsUnambiguous arities
arities_once = word_once (naturals 128) refl refl (naturals_unambiguous 128 (omega arith))

pub fail_code_reads : (bytes : List ℕ) (at : ℕ) (r : Option (ℕ × ℕ)) →
    Reads (naturals 255) bytes at r → Reads fail_codes bytes at (ending_word bytes r)
fail_code_reads =
    word_reads (naturals 255) refl refl (naturals_unambiguous 255 (omega arith))

pub symbol_number_reads : (bytes : List ℕ) (at : ℕ) (r : Option (ℕ × ℕ)) →
    Reads (naturals 4095) bytes at r → Reads symbol_numbers bytes at (ending_word bytes r)
symbol_number_reads =
    word_reads (naturals 4095) refl refl (naturals_unambiguous 4095 (omega arith))

pub arity_reads : (bytes : List ℕ) (at : ℕ) (r : Option (ℕ × ℕ)) →
    Reads (naturals 128) bytes at r → Reads arities bytes at (ending_word bytes r)
arity_reads = word_reads (naturals 128) refl refl (naturals_unambiguous 128 (omega arith))

-- ---- words

abbrev Flags : Type 0
Flags = Bool × (Bool × Bool)

abbrev flags_of : Kind → Flags
flags_of kind = (kind.frame, (kind.entry, kind.head))

abbrev flag_text : Flags → List ℕ
flag_text f = kind_text f.0 f.1.0 f.1.1

abbrev in_range : Flags → Bool
in_range f = has_kind f.0 f.1.0 f.1.1

-- what a symbol is by the first letter of its word
abbrev by_letter : ℕ → Flags
by_letter c =
    if eqb c 112 then (false, (false, false)) else
    (if eqb c 101 then (false, (true, false)) else
    (if eqb c 104 then (false, (false, true)) else
    (if eqb c 98 then (false, (true, true)) else (true, (false, false)))))

abbrev by_first : List ℕ → Flags
by_first [] = (true, (false, false))
by_first (letter ∷ bytes) = by_letter letter

named : (f : Flags) (left : List ℕ) → in_range f ≡ true → by_first (flag_text f ++ left) ≡ f
named (true, (true, true)) left r = absurd (cc)
named (true, (true, false)) left r = absurd (cc)
named (true, (false, true)) left r = absurd (cc)
named (true, (false, false)) left r = refl
named (false, (true, true)) left r = refl
named (false, (true, false)) left r = refl
named (false, (false, true)) left r = refl
named (false, (false, false)) left r = refl

same_kind : (x y : Kind) → flags_of x ≡ flags_of y → x ≡ y
same_kind x y e =
    λ i. record { frame = (e i).0; entry = (e i).1.0; head = (e i).1.1 }

pub kinds_once : IsUnambiguous kinds
kinds_once bytes x y left right b c =
    let same : flags_of x ≡ flags_of y =
    sym (named (flags_of x) left b.in_range) ∙ ap by_first (sym b.text ∙ c.text) ∙
    named (flags_of y) right c.in_range in (
      same_kind x y same,
      append_cancel_left (flag_text (flags_of x)) left right
          (sym b.text ∙ c.text ∙ ap (λ (f : Flags). flag_text f ++ right) (sym same)),
    )

-- ---- with the numbers in front

pub shapes_once : IsUnambiguous shapes
shapes_once =
    pairs_once arities.text arities.in_range kinds.text kinds.in_range arities_once kinds_once

pub symbols_once : IsUnambiguous symbols
symbols_once =
    pairs_once symbol_numbers.text symbol_numbers.in_range shapes.text shapes.in_range
    symbol_numbers_once shapes_once
