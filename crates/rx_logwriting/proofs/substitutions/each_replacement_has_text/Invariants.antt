use Rattle.std.proofs.Common.{◌≡◌, true, take}
use Rattle.std.specs.List.{list_all}
use Rattle.rx_text.specs.Polynomials.{polynomials}
use Rattle.rx_words.specs.Words.{pairs, variables, word}
use Rattle.rx_logwriting.proofs.substitutions.each_replacement_has_text.Given as goal

abbrev pub invariant-loop-replacement : goal.invariant-loop-replacement
invariant-loop-replacement l =
    list_all (pairs variables (word polynomials)).in_range (take l.replacement-index l.subst) ≡ true
