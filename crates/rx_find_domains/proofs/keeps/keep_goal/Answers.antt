-- The rows are formed within the limits, and shown.
use Rattle.std.proofs.Common.{◌∙◌, List, ap, subst, sym}
use Rattle.std.proofs.lemmas.Bool.{false≢true}
use Rattle.std.specs.Result.{IfOk}
use Rattle.rx_cert.specs.Showing.{all_shown}
use Rattle.rx_row.specs.declared.row.Row.{Row}
use Rattle.rx_solve.specs.Answers.{AreCertificates}
use Rattle.rx_solve.specs.Bounds.{most_deep}
use Rattle.rx_solve.specs.Refuter.{refuted}
use Rattle.rx_find_domains.proofs.keeps.keep_goal.Goals as goal

pub certify-requires-clause-shown : goal.certify-requires-clause-shown
certify-requires-clause-shown g c =
    ap (λ (rows : List Row). all_shown refuted c.args.goal.now.rows rows)
    (c.as_slice.ensures ∙ c.in-Ok.ensures.forms.0) ∙ c.requires.shown.shows

pub returns-in-Ok-clause-keeps : goal.returns-in-Ok-clause-keeps
returns-in-Ok-clause-keeps g c =
    subst (λ (rows : List Row). IfOk c.certify.result (λ certs.
    AreCertificates most_deep c.args.goal.now.rows rows certs))
    (c.as_slice.ensures ∙ c.in-Ok.ensures.forms.0) c.certify.ensures.certs

pub unreachable-requires : goal.unreachable-requires
unreachable-requires g c =
    false≢true (sym (c.in-Err-Large.ensures.forms c.in-Err-Large.field-0-is) ∙
    c.requires.shown.within)
