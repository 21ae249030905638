use Rattle.std.proofs.Common.{◌≡◌, map, drop}
use Rattle.std.specs.List.{concat}
use Rattle.c_ast.specs.Variables.{variables}
use Rattle.c_assigned.specs.Sets.{first_unset}
use Rattle.c_assigned.proofs.reads.+first_unset.Given as goal

-- the arguments that are left decide, since those that were passed read nothing unset
abbrev pub invariant-loop-argument : goal.invariant-loop-argument
invariant-loop-argument l =
    first_unset l.names l.scope l.set l.own (concat
    (map variables (drop l.argument-index l.argument-items)))
    ≡ first_unset l.names l.scope l.set l.own (concat (map variables l.argument-items))
