-- Two terms that are to be joined have fewer nodes than what they are the parts of, and each has no
-- more than both.
use Rattle.std.proofs.Common.{◌+◌, ◌*◌}
use Rattle.rx_poly_laws.proofs.Nodes.{nodes}
use Rattle.rx_poly_laws.proofs.normal_form.+norms.Given as goal

abbrev pub decreases-norm : goal.decreases-norm
decreases-norm l = 2 * nodes l.term.now

abbrev pub decreases-norm_of_both : goal.decreases-norm_of_both
decreases-norm_of_both l = 2 * (nodes l.left.now + nodes l.right.now) + 1
