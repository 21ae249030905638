-- The parts of a log of which each has a text.
use Rattle.std.specs.Prelude.{Bool, true, ◌&&◌, Option, Some, None}
use Rattle.std.specs.List.{list_all}
use Rattle.rx_domain.specs.declared.domains.Domains.{Domains}
use Rattle.rx_pairs.specs.declared.pair_cert.PairCert.{PairCert}
use Rattle.rx_log.specs.declared.log.Log.{Log}
use Rattle.rx_logtext.specs.Lines.{is_width, pair_parts}
use Rattle.rx_log.specs.Lines.{by_symbol, has_widths, version_of}
use Rattle.rx_logtext.specs.Steps.{is_readable_step}
use Rattle.rx_log.specs.declared.line.Line.TheVariants as line
use Rattle.rx_words.specs.Certificates.{certificate_lists}
use Rattle.rx_logwriting.specs.Frames.{are_frames}

-- a pair has a text
abbrev pub is_readable_pair : PairCert → Bool
is_readable_pair pair = pair_parts.in_range (pair.column, pair.certs)

-- domains have a text, where there are any, and the certificates that they are kept
abbrev pub are_domains_in_range : Option Domains → Bool
are_domains_in_range None = true
are_domains_in_range (Some domains) =
    are_frames (by_symbol line.Domain 0 domains.rows)
    && list_all certificate_lists.in_range domains.keeps

-- the domains, the covers, the steps, the ranks and the pairs have a text, and each rank has the
-- table's columns
abbrev pub are_parts_in_range : Log → Bool
are_parts_in_range log =
    are_domains_in_range log.domains
    && (are_frames (by_symbol line.Cover 0 log.covers)
    && (list_all (is_readable_step (version_of log)) log.steps
    && (is_width log.table.columns
    && (are_frames (by_symbol line.Rank 0 log.table.ranks)
    && (list_all is_readable_pair log.pairs && has_widths log)))))
