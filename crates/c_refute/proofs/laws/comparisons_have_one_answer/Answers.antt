use Rattle.c_refute.proofs.OneComparison.{one_comparison}
use Rattle.c_refute.proofs.laws.comparisons_have_one_answer.Goals as goal

pub returns : goal.returns
returns c = one_comparison
