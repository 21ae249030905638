-- The first line of either version, and in the second the domains and what keeps them.
use Rattle.std.proofs.Common.{◌≡◌, refl, ap, sym, subst, ◌∙◌, Option, Some}
use Rattle.rx_domain.specs.declared.domains.Domains.{Domains}
use Rattle.rx_log.specs.Reading.{no_domains}
use Rattle.rx_log.specs.declared.line.Line.TheVariants as line
use Rattle.rx_log.specs.declared.line_state.LineState.TheVariants.{AtHeader, InCovers, InDomains}
use Rattle.rx_check.specs.Replay.{place_after}
use Rattle.rx_check.specs.Whole.{Replays, domains_alone, with_lists}
use Rattle.rx_check.proofs.WholeLines.{leads_same, one_line}
use Rattle.rx_check.proofs.replayer.Replayer.take_begin.Goals as goal

pub returns-in_default-clause-takes : goal.returns-in_default-clause-takes
returns-in_default-clause-takes c = λ target before.
    subst (λ (o : Option Domains). Replays c.line.new.self c.args.rules.now target
    (domains_alone o)) (sym c.in_default.is)
    (one_line line.Header 0 (InCovers 0) before
    (leads_same (place_after c.args.self.now) AtHeader line.Header line.Header 0 (InCovers 0)
    c.requires.place refl refl) (c.in_ok-line.ensures.stands target))

pub returns-clause-takes : goal.returns-clause-takes
returns-clause-takes c = λ target before.
    let first : Replays c.line-2.new.self c.args.rules.now target
    (domains_alone (Some no_domains)) =
    one_line line.Header2 0 (InDomains 0) before
    (leads_same (place_after c.args.self.now) AtHeader line.Header2 line.Header2 0 (InDomains 0)
    c.requires.place refl refl) (c.in_ok-line-2.ensures.stands target) in
    let listed = c.in_ok-take_domains.ensures.takes target (domains_alone (Some no_domains)) first in
    let kept = c.in_ok-take_keeps.ensures.takes target
    (with_lists (domains_alone (Some no_domains)) c.as_slice.result.now) listed in
    let all : Domains =
    record { rows = c.as_slice.result.now; keeps = c.as_slice-2.result.now } in
    let same : all ≡ c.in-Some.all =
    (λ i. record { rows = c.as_slice.ensures i; keeps = c.as_slice-2.ensures i }) in
    subst (λ (o : Option Domains). Replays c.take_keeps.new.self c.args.rules.now target
    (domains_alone o)) (ap Some same ∙ sym c.in-Some.is) kept
