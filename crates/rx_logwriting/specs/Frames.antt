-- Lines that are no steps have the same text in each version.
use Rattle.std.specs.Prelude.{ℕ, Bool, List, [], ◌++◌, codes}
use Rattle.std.specs.List.{list_all}
use Rattle.rx_log.specs.declared.line.Line.{Line}
use Rattle.rx_cert.specs.declared.cert.Cert.{Cert}
use Rattle.rx_log.specs.declared.version.Version.{Version}
use Rattle.rx_log.specs.declared.version.Version.TheVariants.{One, Two}
use Rattle.rx_words.specs.Certificates.{certificate_lists}
use Rattle.rx_logtext.specs.Lines.{line_text, lines_of}
use Rattle.rx_logtext.specs.Logs.{ended, line_texts}

-- the text of such a line
abbrev pub frame_text : Line → ℕ → List ℕ
frame_text line symbol = line_text One line symbol

-- that of such lines, each ended by a line feed
abbrev pub frame_texts : List (Line × ℕ) → List ℕ
frame_texts its = ended (line_texts One its)

-- all of them have a text
abbrev pub are_frames : List (Line × ℕ) → Bool
are_frames its = list_all (lines_of One).in_range its

-- what stands behind the equation of a postulate
abbrev pub new_certs_text : Version → List Cert → List ℕ
new_certs_text One certs = []
new_certs_text Two certs = codes " " ++ certificate_lists.text certs
