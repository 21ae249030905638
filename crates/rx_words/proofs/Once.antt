-- Words of numbers, polynomials and rows are unambiguous, and what reads those reads them as words.
use Rattle.std.proofs.Common.{refl, ℕ, ◌-◌, ◌^◌, List, ℤ, Option, arith}
use Rattle.rx_text.specs.Formats.{IsUnambiguous, Reads}
use Rattle.rx_text.specs.Numbers.{integers, naturals}
use Rattle.rx_text.proofs.Decimals.{naturals_unambiguous}
use Rattle.rx_text.specs.Polynomials.{polynomials}
use Rattle.rx_text.specs.Rows.{row_format}
use Rattle.rx_poly.specs.declared.body.Body.{Body}
use Rattle.rx_row.specs.declared.row.Row.{Row}
use Rattle.rx_words.specs.Certificates.{part_lists}
use Rattle.rx_text.proofs.RowTexts.{rows_unambiguous}
use Rattle.rx_text.proofs.Readable.{polynomials_unambiguous}
use Rattle.rx_text.proofs.Integers.{integers_unambiguous}
use Rattle.rx_words.specs.Substitutions.{row_lists, substitutions}
use Rattle.rx_words.specs.Lists.{ending_word}
use Rattle.rx_words.specs.Words.{numbers, pairs, variables, word}
use Rattle.rx_words.proofs.Joined.{counted_once, pairs_once, word_once, word_reads}

pub numbers_once : IsUnambiguous numbers
numbers_once =
    word_once (naturals (2 ^ 32 - 1)) refl refl (naturals_unambiguous (2 ^ 32 - 1) (omega arith))

pub variables_once : IsUnambiguous variables
variables_once = word_once (naturals 999999) refl refl (naturals_unambiguous 999999 (omega arith))

pub integers_once : IsUnambiguous (word integers)
integers_once = word_once integers refl refl integers_unambiguous

pub number_reads : (bytes : List ℕ) (at : ℕ) (r : Option (ℕ × ℕ)) →
    Reads (naturals (2 ^ 32 - 1)) bytes at r → Reads numbers bytes at (ending_word bytes r)
number_reads =
    word_reads (naturals (2 ^ 32 - 1)) refl refl (naturals_unambiguous (2 ^ 32 - 1) (omega arith))

pub variable_reads : (bytes : List ℕ) (at : ℕ) (r : Option (ℕ × ℕ)) →
    Reads (naturals 999999) bytes at r → Reads variables bytes at (ending_word bytes r)
variable_reads = word_reads (naturals 999999) refl refl (naturals_unambiguous 999999 (omega arith))

pub integer_reads : (bytes : List ℕ) (at : ℕ) (r : Option (ℤ × ℕ)) → Reads integers bytes at r →
    Reads (word integers) bytes at (ending_word bytes r)
integer_reads = word_reads integers refl refl integers_unambiguous

pub parts_once : IsUnambiguous (pairs numbers (word integers))
parts_once =
    pairs_once numbers.text numbers.in_range integers.text integers.in_range numbers_once
    integers_once

pub part_lists_once : IsUnambiguous part_lists
part_lists_once =
    counted_once (pairs numbers (word integers)).text (pairs numbers (word integers)).in_range
    numbers_once parts_once

pub second_rows_once : IsUnambiguous (pairs numbers variables)
second_rows_once =
    pairs_once numbers.text numbers.in_range variables.text variables.in_range numbers_once
    variables_once

pub polynomials_once : IsUnambiguous (word polynomials)
polynomials_once = word_once polynomials refl refl polynomials_unambiguous

pub poly_reads : (bytes : List ℕ) (at : ℕ) (r : Option (Body × ℕ)) → Reads polynomials bytes at r →
    Reads (word polynomials) bytes at (ending_word bytes r)
poly_reads = word_reads polynomials refl refl polynomials_unambiguous

pub rows_once : IsUnambiguous (word row_format)
rows_once = word_once row_format refl refl rows_unambiguous

pub row_reads : (bytes : List ℕ) (at : ℕ) (r : Option (Row × ℕ)) → Reads row_format bytes at r →
    Reads (word row_format) bytes at (ending_word bytes r)
row_reads = word_reads row_format refl refl rows_unambiguous

pub row_lists_once : IsUnambiguous row_lists
row_lists_once = counted_once row_format.text row_format.in_range numbers_once rows_once

pub replacements_once : IsUnambiguous (pairs variables (word polynomials))
replacements_once =
    pairs_once variables.text variables.in_range polynomials.text polynomials.in_range
    variables_once polynomials_once

pub substitutions_once : IsUnambiguous substitutions
substitutions_once =
    counted_once (pairs variables (word polynomials)).text
    (pairs variables (word polynomials)).in_range numbers_once replacements_once
