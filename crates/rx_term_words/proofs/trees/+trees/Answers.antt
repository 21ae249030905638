-- A tree is where the word of its kind is with its contents after it.
use Rattle.std.proofs.Common.{◌≡◌, subst, arith, ℕ, ◌+◌, ◌-◌, Some, None}
use Rattle.rx_text.specs.Formats.{Reads}
use Rattle.rx_term_words.specs.Branches.{ReadsTreeKind, branches_within}
use Rattle.rx_term_words.specs.Trees.{tree_text, trees_within}
use Rattle.rx_term_words.specs.declared.trees.TreeKind.{TreeKind}
use Rattle.rx_words.proofs.Joined.{no_middle, no_second}
use Rattle.rx_words.proofs.Once.{rows_once}
use Rattle.rx_term_words.proofs.TreeWords.{no_kind, reads_tree, trees_once}
use Rattle.rx_text.specs.Rows.{row_format}
use Rattle.rx_term_words.proofs.trees.+trees.Goals as goal

pub read_branches-returns-in_default-skip_word : goal.read_branches-returns-in_default-skip_word
read_branches-returns-in_default-skip_word t c =
    let most = c.args.most in
    let first = rw c.in-Some.is at c.in_ok-yes.ensures in
    no_middle tree_text (trees_within most).in_range tree_text (trees_within most).in_range
    (trees_once most) first c.in_default-skip_word.ensures

pub read_branches-returns-in_default-2 : goal.read_branches-returns-in_default-2
read_branches-returns-in_default-2 t c =
    let most = c.args.most in
    let first = rw c.in-Some.is at c.in_ok-yes.ensures in
    let none = rw c.in_default-2.is at c.in_ok-no.ensures in
    no_second tree_text (trees_within most).in_range tree_text (trees_within most).in_range
    (trees_once most) first c.in-Some-skip_word.ensures none

pub read_split-returns-in_default-skip_word : goal.read_split-returns-in_default-skip_word
read_split-returns-in_default-skip_word t c =
    let most = c.args.most in
    let first = rw c.in-Some.is at c.in_ok-row.ensures in
    no_middle row_format.text row_format.in_range (branches_within most).text
    (branches_within most).in_range rows_once first c.in_default-skip_word.ensures

pub read_split-returns-in_default-2 : goal.read_split-returns-in_default-2
read_split-returns-in_default-2 t c =
    let most = c.args.most in
    let first = rw c.in-Some.is at c.in_ok-row.ensures in
    let none = rw c.in_default-2.is at c.in_ok-branches.ensures in
    no_second row_format.text row_format.in_range (branches_within most).text
    (branches_within most).in_range rows_once first c.in-Some-skip_word.ensures none

pub read_within-returns-in_default : goal.read_within-returns-in_default
read_within-returns-in_default t c =
    let bytes = c.args.bytes.now in
    let e : (c.args.most - 1) + 1 ≡ c.args.most = omega arith in
    subst (λ (m : ℕ). Reads (trees_within m) bytes c.args.at None) e
    (no_kind (c.args.most - 1) bytes c.args.at c.in_default.ensures)

pub read_within-returns-in_ok-read_use-in-Use : goal.read_within-returns-in_ok-read_use-in-Use
read_within-returns-in_ok-read_use-in-Use t c =
    let bytes = c.args.bytes.now in
    let n = c.args.most - 1 in
    let e : n + 1 ≡ c.args.most = omega arith in
    let kind = subst (λ (k : TreeKind). ReadsTreeKind bytes c.args.at (Some (k, c.in-Some.next)))
    c.in-Use.is c.in-Some.ensures in
    let whole = reads_tree n TreeKind.Use bytes c.args.at c.in-Some.next
    c.in_ok-read_use-in-Use.field-0 kind c.in_ok-read_use-in-Use.ensures in
    subst (λ (m : ℕ). Reads (trees_within m) bytes c.args.at c.as_use.result) e
    (rw c.as_use.ensures whole)

pub read_within-returns-in_ok-read_split-in-Split :
    goal.read_within-returns-in_ok-read_split-in-Split
read_within-returns-in_ok-read_split-in-Split t c =
    let bytes = c.args.bytes.now in
    let n = c.args.most - 1 in
    let e : n + 1 ≡ c.args.most = omega arith in
    let kind = subst (λ (k : TreeKind). ReadsTreeKind bytes c.args.at (Some (k, c.in-Some.next)))
    c.in-Split.is c.in-Some.ensures in
    let whole = reads_tree n TreeKind.Split bytes c.args.at c.in-Some.next
    c.in_ok-read_split-in-Split.field-0 kind c.in_ok-read_split-in-Split.ensures in
    subst (λ (m : ℕ). Reads (trees_within m) bytes c.args.at c.as_split.result) e
    (rw c.as_split.ensures whole)

pub read_within-returns-in_ok-read_cert-in-Absurd :
    goal.read_within-returns-in_ok-read_cert-in-Absurd
read_within-returns-in_ok-read_cert-in-Absurd t c =
    let bytes = c.args.bytes.now in
    let n = c.args.most - 1 in
    let e : n + 1 ≡ c.args.most = omega arith in
    let kind = subst (λ (k : TreeKind). ReadsTreeKind bytes c.args.at (Some (k, c.in-Some.next)))
    c.in-Absurd.is c.in-Some.ensures in
    let whole = reads_tree n TreeKind.Absurd bytes c.args.at c.in-Some.next
    c.in_ok-read_cert-in-Absurd.field-0 kind c.in_ok-read_cert-in-Absurd.ensures in
    subst (λ (m : ℕ). Reads (trees_within m) bytes c.args.at c.as_absurd.result) e
    (rw c.as_absurd.ensures whole)
