use Rattle.std.proofs.Common.{◌≡◌, drop}
use Rattle.c_parse.specs.Answers.{long_prototype}
use Rattle.c_parse.proofs.program.long_prototype.Given as goal

abbrev pub invariant-loop-prototype : goal.invariant-loop-prototype
invariant-loop-prototype l =
    long_prototype (drop l.prototype-index l.prototypes) ≡ long_prototype l.prototypes
