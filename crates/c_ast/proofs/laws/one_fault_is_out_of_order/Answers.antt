use Rattle.c_ast.proofs.ScopedEquations.{scoped_equations}
use Rattle.c_ast.proofs.laws.one_fault_is_out_of_order.Goals as goal

pub returns-clause-in_order : goal.returns-clause-in_order
returns-clause-in_order c = simp scoped_equations

pub returns-clause-before_declared : goal.returns-clause-before_declared
returns-clause-before_declared c = simp scoped_equations

pub returns-clause-after_block : goal.returns-clause-after_block
returns-clause-after_block c = simp scoped_equations

pub returns-clause-after_for : goal.returns-clause-after_for
returns-clause-after_for c = simp scoped_equations

pub returns-clause-unreached : goal.returns-clause-unreached
returns-clause-unreached c = simp scoped_equations

pub returns-clause-own_value : goal.returns-clause-own_value
returns-clause-own_value c = simp scoped_equations

pub returns-clause-other_count : goal.returns-clause-other_count
returns-clause-other_count c = simp scoped_equations

pub returns-clause-no_function : goal.returns-clause-no_function
returns-clause-no_function c = simp scoped_equations

pub returns-clause-slot_left_out : goal.returns-clause-slot_left_out
returns-clause-slot_left_out c = simp scoped_equations

pub returns-clause-slot_again : goal.returns-clause-slot_again
returns-clause-slot_again c = simp scoped_equations
