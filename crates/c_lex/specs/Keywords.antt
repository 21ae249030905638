-- The 37 keywords (ISO/IEC 9899:1999, 6.4.1), by their length.
use Rattle.std.specs.Prelude.{ℕ, ◌==◌, if◌then◌else◌, List, length, Option, Some, None, codes, bytes_eq}
use Rattle.c_lex.specs.declared.token.Keyword.{Keyword}
use Rattle.c_lex.specs.declared.token.Keyword.TheVariants.{Int, Void, If, Else, While, Do, For, Break, Continue, Return, Other}

abbrev pub keyword_2 : List ℕ → Option Keyword
keyword_2 w =
    if bytes_eq w (codes "if") then Some If
    else (if bytes_eq w (codes "do") then Some Do else None)

abbrev pub keyword_3 : List ℕ → Option Keyword
keyword_3 w =
    if bytes_eq w (codes "int") then Some Int
    else (if bytes_eq w (codes "for") then Some For else None)

abbrev pub keyword_4 : List ℕ → Option Keyword
keyword_4 w =
    if bytes_eq w (codes "void") then Some Void
    else (if bytes_eq w (codes "else") then Some Else
    else (if bytes_eq w (codes "auto") then Some Other
    else (if bytes_eq w (codes "case") then Some Other
    else (if bytes_eq w (codes "char") then Some Other
    else (if bytes_eq w (codes "enum") then Some Other
    else (if bytes_eq w (codes "goto") then Some Other
    else (if bytes_eq w (codes "long") then Some Other else None)))))))

abbrev pub keyword_5 : List ℕ → Option Keyword
keyword_5 w =
    if bytes_eq w (codes "while") then Some While
    else (if bytes_eq w (codes "break") then Some Break
    else (if bytes_eq w (codes "const") then Some Other
    else (if bytes_eq w (codes "float") then Some Other
    else (if bytes_eq w (codes "short") then Some Other
    else (if bytes_eq w (codes "union") then Some Other
    else (if bytes_eq w (codes "_Bool") then Some Other else None))))))

abbrev pub keyword_6 : List ℕ → Option Keyword
keyword_6 w =
    if bytes_eq w (codes "return") then Some Return
    else (if bytes_eq w (codes "double") then Some Other
    else (if bytes_eq w (codes "extern") then Some Other
    else (if bytes_eq w (codes "inline") then Some Other
    else (if bytes_eq w (codes "signed") then Some Other
    else (if bytes_eq w (codes "sizeof") then Some Other
    else (if bytes_eq w (codes "static") then Some Other
    else (if bytes_eq w (codes "struct") then Some Other
    else (if bytes_eq w (codes "switch") then Some Other else None))))))))

abbrev pub keyword_7 : List ℕ → Option Keyword
keyword_7 w =
    if bytes_eq w (codes "default") then Some Other
    else (if bytes_eq w (codes "typedef") then Some Other else None)

abbrev pub keyword_8 : List ℕ → Option Keyword
keyword_8 w =
    if bytes_eq w (codes "continue") then Some Continue
    else (if bytes_eq w (codes "register") then Some Other
    else (if bytes_eq w (codes "restrict") then Some Other
    else (if bytes_eq w (codes "unsigned") then Some Other
    else (if bytes_eq w (codes "volatile") then Some Other
    else (if bytes_eq w (codes "_Complex") then Some Other else None)))))

abbrev pub keyword_10 : List ℕ → Option Keyword
keyword_10 w = if bytes_eq w (codes "_Imaginary") then Some Other else None

-- the keyword that a word is, if it is one
unfoldable pub keyword_of : List ℕ → Option Keyword
keyword_of w =
    if length w == 2 then keyword_2 w
    else (if length w == 3 then keyword_3 w
    else (if length w == 4 then keyword_4 w
    else (if length w == 5 then keyword_5 w
    else (if length w == 6 then keyword_6 w
    else (if length w == 7 then keyword_7 w
    else (if length w == 8 then keyword_8 w
    else (if length w == 10 then keyword_10 w else None)))))))
