use Rattle.std.proofs.Common.{◌≡◌, ◌++◌, drop}
use Rattle.std.specs.Option.{option_map}
use Rattle.c_syntax.specs.Programs.{all_names}
use Rattle.c_parse.proofs.external.all_names.Given as goal

abbrev pub invariant-loop-parameter : goal.invariant-loop-parameter
invariant-loop-parameter l =
    option_map (λ more. l.names ++ more) (all_names (drop l.parameter-index l.listed)) ≡
    all_names l.listed
