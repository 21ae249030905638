-- The text of a step is one line, and so is that of each line of a log.
use Rattle.std.proofs.Common.{◌≡◌, refl, ℕ, true, false, List, [], ◌∷◌}
use Rattle.std.proofs.lemmas.Bool.{and_from}
use Rattle.std.specs.List.{list_all}
use Rattle.rx_inference.specs.declared.step.Delete.TheVariants.{Absurd, Equal}
use Rattle.rx_inference.specs.declared.step.Side.TheVariants.{Left, Right}
use Rattle.rx_inference.specs.declared.step.Step.TheVariants as step
use Rattle.rx_text.specs.Numbers.{natural_text}
use Rattle.rx_text.specs.Polynomials.{poly_text}
use Rattle.rx_words.specs.Certificates.{certificate_lists}
use Rattle.rx_term_words.specs.Equations.{equations}
use Rattle.rx_text.specs.Rows.{row_format}
use Rattle.rx_words.specs.Substitutions.{row_lists, substitutions}
use Rattle.rx_term_words.specs.Trees.{tree_text}
use Rattle.rx_words.specs.Words.{each_spaced, numbers, pairs, word}
use Rattle.rx_logtext.specs.Lines.{lines_of}
use Rattle.rx_logtext.specs.Logs.{is_one_line, line_texts}
use Rattle.rx_logtext.specs.Steps.{expand_parts, generalise_parts, hyp_parts, keep_text, keeps, postulate_parts, results_parts, side_text, sides, simplify_parts, step_text}
use Rattle.rx_log.specs.declared.line.Line.{Line}
use Rattle.rx_log.specs.declared.line.Line.TheVariants as line
use Rattle.rx_log.specs.declared.version.Version.{Version}
use Rattle.rx_log.specs.declared.version.Version.TheVariants.{One, Two}
use Rattle.rx_logtext.proofs.OneLine.{AreOneLine, each_one_line, joined, list_one_line, natural_one_line, pair_one_line}
use Rattle.rx_logtext.proofs.OneLinePolys.{poly_one_line, row_one_line}
use Rattle.rx_logtext.proofs.OneLineTrees.{cert_list_one_line, cert_one_line, equation_one_line, substitution_one_line, tree_one_line}

-- ---- parts of steps

side_one_line : AreOneLine side_text
side_one_line Left = refl
side_one_line Right = refl

keep_one_line : AreOneLine keep_text
keep_one_line true = refl
keep_one_line false = refl

numbered_one_line : AreOneLine (pairs numbers certificate_lists).text
numbered_one_line = pair_one_line numbers certificate_lists natural_one_line cert_list_one_line

simplify_one_line : AreOneLine simplify_parts.text
simplify_one_line =
    pair_one_line sides (pairs numbers certificate_lists) side_one_line numbered_one_line

replaced_one_line : AreOneLine (pairs substitutions certificate_lists).text
replaced_one_line =
    pair_one_line substitutions certificate_lists substitution_one_line cert_list_one_line

placed_one_line : AreOneLine (pairs numbers (pairs substitutions certificate_lists)).text
placed_one_line =
    pair_one_line numbers (pairs substitutions certificate_lists) natural_one_line
    replaced_one_line

hyp_one_line : AreOneLine hyp_parts.text
hyp_one_line =
    pair_one_line sides (pairs numbers (pairs numbers (pairs substitutions certificate_lists)))
    side_one_line
    (pair_one_line numbers (pairs numbers (pairs substitutions certificate_lists))
    natural_one_line placed_one_line)

expand_one_line : AreOneLine expand_parts.text
expand_one_line = pair_one_line sides keeps side_one_line keep_one_line

generalise_one_line : AreOneLine generalise_parts.text
generalise_one_line =
    pair_one_line equations (pairs substitutions certificate_lists) equation_one_line
    replaced_one_line

results_one_line : AreOneLine results_parts.text
results_one_line =
    pair_one_line numbers (pairs numbers certificate_lists) natural_one_line numbered_one_line

postulate_one_line : (version : Version) → AreOneLine (postulate_parts version).text
postulate_one_line One it = equation_one_line it.0
postulate_one_line Two it =
    pair_one_line equations certificate_lists equation_one_line cert_list_one_line it

rows_one_line : AreOneLine row_lists.text
rows_one_line = list_one_line (word row_format) row_one_line

-- ---- steps

pub step_one_line : (version : Version) → AreOneLine (step_text version)
step_one_line version (step.Simplify side rule certs) = simplify_one_line (side, (rule, certs))
step_one_line version (step.Hyp side place hyp subst certs) =
    hyp_one_line (side, (place, (hyp, (subst, certs))))
step_one_line version (step.Expand side keep) = expand_one_line (side, keep)
step_one_line version (step.Delete (Absurd cert)) = cert_one_line cert
step_one_line version (step.Delete (Equal certs)) = cert_list_one_line certs
step_one_line version step.EqDelete = refl
step_one_line version (step.Generalise left right rows subst certs) =
    generalise_one_line (record { left = left; right = right; rows = rows }, (subst, certs))
step_one_line version (step.Postulate left right rows certs) =
    postulate_one_line version (record { left = left; right = right; rows = rows }, certs)
step_one_line version (step.Split row) = row_one_line row
step_one_line version (step.Decompose certs) = cert_list_one_line certs
step_one_line version (step.Results left right certs) = results_one_line (left, (right, certs))

-- ---- lines

line_one_line : (version : Version) → AreOneLine (lines_of version).text
line_one_line version (line.Header, symbol) = refl
line_one_line version (line.Header2, symbol) = refl
line_one_line version (line.Domain rows, symbol) =
    joined (natural_text symbol) (32 ∷ row_lists.text rows) (natural_one_line symbol)
    (rows_one_line rows)
line_one_line version (line.Keep certs, symbol) = cert_list_one_line certs
line_one_line version (line.Cover covers, symbol) =
    joined (natural_text symbol) (each_spaced tree_text covers) (natural_one_line symbol)
    (each_one_line tree_text tree_one_line covers)
line_one_line version (line.Step step, symbol) = step_one_line version step
line_one_line version (line.Ranks columns, symbol) = natural_one_line columns
line_one_line version (line.Rank rank, symbol) =
    joined (natural_text symbol) (each_spaced poly_text rank) (natural_one_line symbol)
    (each_one_line poly_text poly_one_line rank)
line_one_line version (line.Pair pair, symbol) = numbered_one_line (pair.column, pair.certs)
line_one_line version (line.End, symbol) = refl

-- each line of a log is one line
pub each_is_one_line : (version : Version) (its : List (Line × ℕ)) →
    list_all is_one_line (line_texts version its) ≡ true
each_is_one_line version [] = refl
each_is_one_line version (it ∷ its) =
    and_from (is_one_line ((lines_of version).text it))
    (list_all is_one_line (line_texts version its))
    (line_one_line version it) (each_is_one_line version its)
