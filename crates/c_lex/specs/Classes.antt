-- The sets of bytes and the ends that the private functions look for.
use Rattle.std.specs.Prelude.{ℕ, Bool, List}
use Rattle.c_lex.specs.declared.bytes.Class.{Class}
use Rattle.c_lex.specs.declared.bytes.Class.TheVariants.{Space, Digit, Word}
use Rattle.c_lex.specs.declared.scan.Stop.{Stop}
use Rattle.c_lex.specs.declared.scan.Stop.TheVariants.{LineEnd, IncludeEnd, Close, Splice}
use Rattle.c_lex.specs.Bytes.{is_space, is_digit, is_word_byte, at_line_end, at_close, at_splice}
use Rattle.c_lex.specs.Pieces.{at_include_end}

abbrev pub class_test : Class → ℕ → Bool
class_test Space = is_space
class_test Digit = is_digit
class_test Word = is_word_byte

abbrev pub stop_test : Stop → List ℕ → Bool
stop_test LineEnd = at_line_end
stop_test IncludeEnd = at_include_end
stop_test Close = at_close
stop_test Splice = at_splice
