use Rattle.std.proofs.Common.{◌≡◌, ◌<◌, ◌∷◌, ◌++◌, ◌+◌, [], List, take, length, refl, subst, ◌∙◌, arith, rules}
use Rattle.std.proofs.lemmas.List.{take_all}
use Rattle.c_ast.specs.declared.program.Function.{Function}
use Rattle.c_code.specs.Flat.{FunctionsLead}
use Rattle.c_code.proofs.ProgramCode.{no-functions, one-function, take-one}
use Rattle.c_code.proofs.compiling.compile_functions.Goals as goal

pub loop-function-init : goal.loop-function-init
loop-function-init c =
    no-functions c.args.ops.now.items c.args.ops.now.items c.new-entries.result.items refl
    c.new-entries.ensures.items

pub loop-function-preserved : goal.loop-function-preserved
loop-function-preserved c =
    let fs = c.as_slice-function-items.result.now in
    let i = c.loop-function.function-index in
    let f = c.function-item.result in
    let below : i < length fs = omega arith in
    let more : c.push.new.self.items ≡ c.loop-function.entries.items ++ c.in_ok-entry.entry ∷ [] =
    first_of (search rules, cc) in
    one-function c.args.ops.now.items c.loop-function.ops.items c.compile_function.new.ops.items
    c.loop-function.entries.items c.push.new.self.items
    (take i fs) (take (i + 1) fs) f c.in_ok-entry.entry c.loop-function.invariant
    c.in_ok-entry.ensures more (take-one Function fs i f below c.function-item.is)

pub returns : goal.returns
returns c =
    let fs = c.as_slice-function-items.result.now in
    let i = c.loop-function.function-index in
    let P : List Function → Type 0 = λ gs. FunctionsLead c.args.ops.now.items
    c.loop-function.ops.items c.loop-function.entries.items gs in
    subst P (take_all i fs (omega arith) ∙ c.as_slice-function-items.ensures)
    c.loop-function.invariant
