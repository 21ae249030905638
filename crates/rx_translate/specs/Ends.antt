-- Why there is no translation.
use Rattle.rx_poly.specs.declared.poly_end.PolyEnd.TheVariants as poly
use Rattle.rx_poly.specs.declared.poly_end.PolyEnd.{PolyEnd}
use Rattle.rx_translate.specs.declared.translate_end.TranslateEnd.{TranslateEnd}
use Rattle.rx_translate.specs.declared.translate_end.TranslateEnd.TheVariants.{Large, NoMemory}

-- where no polynomial was formed
abbrev pub of_poly_end : PolyEnd → TranslateEnd
of_poly_end poly.Large = Large
of_poly_end poly.NoMemory = NoMemory
