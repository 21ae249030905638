use Rattle.std.proofs.Common.{◌∙◌, sym}
use Rattle.rx_rulefile.proofs.OneReading.{never_both, one, one_bad_line}
use Rattle.rx_rulefile.proofs.laws.a_text_has_one_reading.Goals as goal

pub returns-clause-one_text : goal.returns-clause-one_text
returns-clause-one_text c = λ s t parts goal a b. a.is ∙ sym b.is

pub returns-clause-one : goal.returns-clause-one
returns-clause-one c = one

pub returns-clause-never_both : goal.returns-clause-never_both
returns-clause-never_both c = never_both

pub returns-clause-one_bad_line : goal.returns-clause-one_bad_line
returns-clause-one_bad_line c = one_bad_line
