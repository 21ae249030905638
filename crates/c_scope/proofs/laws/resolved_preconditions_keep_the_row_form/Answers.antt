use Rattle.c_scope.proofs.Preconditions.{row_form_kept, straight_kept}
use Rattle.c_scope.proofs.laws.resolved_preconditions_keep_the_row_form.Goals as goal

pub returns-clause-row : goal.returns-clause-row
returns-clause-row c = row_form_kept

pub returns-clause-straight : goal.returns-clause-straight
returns-clause-straight c = straight_kept
