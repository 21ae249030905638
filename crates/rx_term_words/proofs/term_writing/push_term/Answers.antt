-- The three parts one after the other are the text of the term.
use Rattle.std.proofs.Common.{◌≡◌, ◌∙◌, ◌++◌, ap, sym, subst}
use Rattle.std.proofs.lemmas.Result.{on_ok_weaker}
use Rattle.rx_term_words.specs.Terms.{term_text}
use Rattle.rx_term_words.specs.Written.{closing_text, innermost_of, opening_text}
use Rattle.rx_term_words.proofs.TermWritten.{innermost_again, written_in_three}
use Rattle.rx_term_words.proofs.term_writing.push_term.Goals as goal

pub push_innermost-requires : goal.push_innermost-requires
push_innermost-requires c =
    subst (λ u. innermost_of u ≡ u) (sym c.in_ok-inner.ensures.inner)
    (innermost_again c.args.term.now)

pub returns : goal.returns
returns c =
    let term = c.args.term.now in
    let before = c.args.out.now.items in
    let opened = c.in_ok-inner.ensures.text in
    let inner = c.in_ok-push_innermost.ensures in
    let both = inner ∙ ap (λ b. b ++ term_text c.in_ok-inner.inner.now) opened
    ∙ ap (λ u. (before ++ opening_text term) ++ term_text u) c.in_ok-inner.ensures.inner in
    on_ok_weaker c.push_closings.result
    (λ h. h ∙ ap (λ b. b ++ closing_text term) both ∙ written_in_three before term)
    c.push_closings.ensures
