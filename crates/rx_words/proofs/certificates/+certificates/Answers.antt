-- A certificate is where its first words are with the certificates in it after them.
use Rattle.std.proofs.Common.{◌≡◌, ◌∙◌, sym, subst, arith, ℕ, ◌+◌, ◌-◌, List, Option, Some, None}
use Rattle.rx_cert.specs.declared.cert.Cert.{Cert}
use Rattle.rx_text.specs.Formats.{Reads, StandsAt}
use Rattle.rx_words.specs.Certificates.{cert_text, certificates_within}
use Rattle.rx_words.specs.Lists.{ReadsSpaced}
use Rattle.rx_words.proofs.CertLaws.{cert_stands, certificates_once, made_so, no_head, no_inner}
use Rattle.rx_words.proofs.Spaced.{no_space, no_thing}
use Rattle.rx_words.proofs.certificates.+certificates.Goals as goal

pub read_inner-returns-in_default : goal.read_inner-returns-in_default
read_inner-returns-in_default t c =
    let most = c.args.most in
    no_space cert_text (certificates_within most).in_range (certificates_once most)
    c.loop-turn.invariant c.loop-turn-test.true c.in_default.ensures

pub read_inner-returns-in_default-2 : goal.read_inner-returns-in_default-2
read_inner-returns-in_default-2 t c =
    let most = c.args.most in
    let none = rw c.in_default-2.is at c.in_ok-cert.ensures in
    no_thing cert_text (certificates_within most).in_range (certificates_once most)
    c.loop-turn.invariant c.loop-turn-test.true c.in-Some.ensures none

pub read_within-returns-in_default : goal.read_within-returns-in_default
read_within-returns-in_default t c =
    let bytes = c.args.bytes.now in
    let e : (c.args.most - 1) + 1 ≡ c.args.most = omega arith in
    let none = rw c.in_default.is at c.in_ok-head.ensures in
    subst (λ (m : ℕ). Reads (certificates_within m) bytes c.args.at None) e
    (no_head (c.args.most - 1) bytes c.args.at none)

pub read_within-returns-in_default-2 : goal.read_within-returns-in_default-2
read_within-returns-in_default-2 t c =
    let bytes = c.args.bytes.now in
    let e : (c.args.most - 1) + 1 ≡ c.args.most = omega arith in
    let head = rw c.in-Some.is at c.in_ok-head.ensures in
    let none = subst (λ (r : Option (List Cert × ℕ)). ReadsSpaced
    (certificates_within (c.args.most - 1)) c.inner_count-count.result bytes c.in-Some.behind r)
    c.in_default-2.is c.in_ok-inner.ensures in
    let spaced = subst (λ (k : ℕ). ReadsSpaced (certificates_within (c.args.most - 1)) k bytes
    c.in-Some.behind None) c.inner_count-count.ensures none in
    subst (λ (m : ℕ). Reads (certificates_within m) bytes c.args.at None) e
    (no_inner (c.args.most - 1) bytes c.args.at head spaced)

pub read_within-returns-in-Some-3 : goal.read_within-returns-in-Some-3
read_within-returns-in-Some-3 t c =
    let bytes = c.args.bytes.now in
    let e : (c.args.most - 1) + 1 ≡ c.args.most = omega arith in
    let head = rw c.in-Some.is at c.in_ok-head.ensures in
    let found = subst (λ (r : Option (List Cert × ℕ)). ReadsSpaced
    (certificates_within (c.args.most - 1)) c.inner_count-count.result bytes c.in-Some.behind r)
    c.in-Some-2.is c.in_ok-inner.ensures in
    let spaced = subst (λ (k : ℕ). ReadsSpaced (certificates_within (c.args.most - 1)) k bytes
    c.in-Some.behind (Some (c.in-Some-2.inner, c.in-Some-2.end))) c.inner_count-count.ensures
    found in
    let made = made_so c.in-Some.head c.in-Some-2.inner c.in-Some-3.cert
    (sym c.in_ok-cert.ensures ∙ c.in-Some-3.is) in
    subst (λ (m : ℕ). StandsAt (certificates_within m) bytes c.args.at c.in-Some-3.cert
    c.in-Some-2.end) e (cert_stands (c.args.most - 1) made head spaced)
