-- Steps as lines of a log: what kind of step, and then its parts.
use Rattle.std.specs.Prelude.{ℕ, ◌==◌, Bool, true, false, not, ◌&&◌, List, [], ◌∷◌, codes}
use Rattle.rx_poly.specs.Normal.{is_empty}
use Rattle.rx_poly.specs.declared.body.Body.{Body}
use Rattle.rx_cert.specs.declared.cert.Cert.{Cert}
use Rattle.rx_term.specs.declared.rule.Equation.{Equation}
use Rattle.rx_inference.specs.declared.step.Delete.TheVariants.{Absurd, Equal}
use Rattle.rx_inference.specs.declared.step.Side.{Side}
use Rattle.rx_inference.specs.declared.step.Side.TheVariants.{Left, Right}
use Rattle.rx_inference.specs.declared.step.Step.{Step}
use Rattle.rx_inference.specs.declared.step.Step.TheVariants as step
use Rattle.rx_log.specs.declared.version.Version.{Version}
use Rattle.rx_log.specs.declared.version.Version.TheVariants.{One, Two}
use Rattle.rx_text.specs.Formats.{Format}
use Rattle.rx_text.specs.Rows.{row_format}
use Rattle.rx_words.specs.Certificates.{certificate_lists, certificates}
use Rattle.rx_term_words.specs.Equations.{equations}
use Rattle.rx_words.specs.Substitutions.{substitutions}
use Rattle.rx_words.specs.Words.{numbers, pairs, spaced, words}

-- ---- parts

-- a side of the goal
abbrev pub side_text : Side → List ℕ
side_text Left = codes "l"
side_text Right = codes "r"

abbrev pub sides : Format Side
sides = words side_text (λ side. true)

-- whether an expanded goal is kept as a hypothesis
abbrev pub keep_text : Bool → List ℕ
keep_text true = codes "keep"
keep_text false = codes "drop"

abbrev pub keeps : Format Bool
keeps = words keep_text (λ keep. true)

-- the side, the rule, certificates
abbrev pub simplify_parts : Format (Side × (ℕ × List Cert))
simplify_parts = pairs sides (pairs numbers certificate_lists)

-- the side, how many frames are over the part, the hypothesis, what replaces its variables,
-- certificates
abbrev pub hyp_parts : Format (Side × (ℕ × (ℕ × (List (ℕ × Body) × List Cert))))
hyp_parts = pairs sides (pairs numbers (pairs numbers (pairs substitutions certificate_lists)))

-- the side, and whether the goal is kept
abbrev pub expand_parts : Format (Side × Bool)
expand_parts = pairs sides keeps

-- the new goal, what makes it into the old one, certificates
abbrev pub generalise_parts : Format (Equation × (List (ℕ × Body) × List Cert))
generalise_parts = pairs equations (pairs substitutions certificate_lists)

-- the new goal, and certificates, of which version 1 has none
abbrev pub postulate_parts : Version → Format (Equation × List Cert)
postulate_parts One =
    words (λ it. equations.text it.0) (λ it. is_empty it.1 && equations.in_range it.0)
postulate_parts Two = pairs equations certificate_lists

-- how many frames are over the part of the left side and of the right side, certificates
abbrev pub results_parts : Format (ℕ × (ℕ × List Cert))
results_parts = pairs numbers (pairs numbers certificate_lists)

-- ---- steps

-- a line of a step, without what ends it
abbrev pub step_text : Version → Step → List ℕ
step_text version (step.Simplify side rule certs) =
    spaced (codes "simplify" ∷ simplify_parts.text (side, (rule, certs)) ∷ [])
step_text version (step.Hyp side place hyp subst certs) =
    spaced (codes "hyp" ∷ hyp_parts.text (side, (place, (hyp, (subst, certs)))) ∷ [])
step_text version (step.Expand side keep) =
    spaced (codes "expand" ∷ expand_parts.text (side, keep) ∷ [])
step_text version (step.Delete (Absurd cert)) =
    spaced (codes "absurd" ∷ certificates.text cert ∷ [])
step_text version (step.Delete (Equal certs)) =
    spaced (codes "equal" ∷ certificate_lists.text certs ∷ [])
step_text version step.EqDelete = codes "eqdelete"
step_text version (step.Generalise left right rows subst certs) =
    spaced (codes "generalise"
    ∷ generalise_parts.text (record { left = left; right = right; rows = rows }, (subst, certs))
    ∷ [])
step_text version (step.Postulate left right rows certs) =
    spaced (codes "postulate"
    ∷ (postulate_parts version).text (record { left = left; right = right; rows = rows }, certs)
    ∷ [])
step_text version (step.Split row) = spaced (codes "split" ∷ row_format.text row ∷ [])
step_text version (step.Decompose certs) =
    spaced (codes "decompose" ∷ certificate_lists.text certs ∷ [])
step_text version (step.Results left right certs) =
    spaced (codes "results" ∷ results_parts.text (left, (right, certs)) ∷ [])

-- all in it has a text
abbrev pub is_readable_step : Version → Step → Bool
is_readable_step version (step.Simplify side rule certs) =
    simplify_parts.in_range (side, (rule, certs))
is_readable_step version (step.Hyp side place hyp subst certs) =
    hyp_parts.in_range (side, (place, (hyp, (subst, certs))))
is_readable_step version (step.Expand side keep) = expand_parts.in_range (side, keep)
is_readable_step version (step.Delete (Absurd cert)) = certificates.in_range cert
is_readable_step version (step.Delete (Equal certs)) = certificate_lists.in_range certs
is_readable_step version step.EqDelete = true
is_readable_step version (step.Generalise left right rows subst certs) =
    generalise_parts.in_range (record { left = left; right = right; rows = rows }, (subst, certs))
is_readable_step version (step.Postulate left right rows certs) =
    (postulate_parts version).in_range (record { left = left; right = right; rows = rows }, certs)
is_readable_step version (step.Split row) = row_format.in_range row
is_readable_step version (step.Decompose certs) = certificate_lists.in_range certs
is_readable_step version (step.Results left right certs) =
    results_parts.in_range (left, (right, certs))

-- the text of steps in logs of a version; a line goes on up to a line feed
abbrev pub steps_of : Version → Format Step
steps_of version = record {
  text = step_text version;
  in_range = is_readable_step version;
  goes_on = λ byte. not (byte == 10);
}
