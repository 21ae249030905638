-- Steps with the certificates that were found for them.
use Rattle.std.specs.Prelude.{Bool, true, false, List}
use Rattle.rx_cert.specs.declared.cert.Cert.{Cert}
use Rattle.rx_inference.specs.declared.step.Delete.TheVariants as delete
use Rattle.rx_inference.specs.declared.step.Step.{Step}
use Rattle.rx_inference.specs.declared.step.Step.TheVariants as step

-- the step asks rows, and not that rows are refuted
abbrev pub asks_rows : Step → Bool
asks_rows (step.Simplify side rule certs) = true
asks_rows (step.Hyp side place hyp subst certs) = true
asks_rows (step.Expand side keep) = true
asks_rows (step.Delete (delete.Absurd cert)) = false
asks_rows (step.Delete (delete.Equal certs)) = true
asks_rows step.EqDelete = true
asks_rows (step.Generalise left right rows subst certs) = true
asks_rows (step.Postulate left right rows certs) = true
asks_rows (step.Split row) = true
asks_rows (step.Decompose certs) = true
asks_rows (step.Results left right certs) = true

-- the step with these certificates for the rows that it asks; a step of a kind that asks none has
-- none
abbrev pub certified : Step → List Cert → Step
certified (step.Simplify side rule old) certs = step.Simplify side rule certs
certified (step.Hyp side place hyp subst old) certs = step.Hyp side place hyp subst certs
certified (step.Expand side keep) certs = step.Expand side keep
certified (step.Delete (delete.Absurd cert)) certs = step.Delete (delete.Absurd cert)
certified (step.Delete (delete.Equal old)) certs = step.Delete (delete.Equal certs)
certified step.EqDelete certs = step.EqDelete
certified (step.Generalise left right rows subst old) certs =
    step.Generalise left right rows subst certs
certified (step.Postulate left right rows old) certs = step.Postulate left right rows certs
certified (step.Split row) certs = step.Split row
certified (step.Decompose old) certs = step.Decompose certs
certified (step.Results left right old) certs = step.Results left right certs
