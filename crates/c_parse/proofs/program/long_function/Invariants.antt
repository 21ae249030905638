use Rattle.std.proofs.Common.{◌≡◌, drop}
use Rattle.c_parse.specs.Answers.{long_function}
use Rattle.c_parse.proofs.program.long_function.Given as goal

abbrev pub invariant-loop-function : goal.invariant-loop-function
invariant-loop-function l =
    long_function (drop l.function-index l.functions) ≡ long_function l.functions
