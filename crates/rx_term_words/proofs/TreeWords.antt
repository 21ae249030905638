-- A cover tree is the word of its kind with what belongs after it: its text, its depth, and whether
-- it has a text.
use Rattle.std.proofs.Common.{◌≡◌, ◌∙◌, ap, subst, refl, sym, ℕ, zero, suc, ◌+◌, ◌<◌, ◌≤◌, max, ◌==◌, Bool, true, false, cond, ◌&&◌, List, [], ◌∷◌, ◌++◌, drop, Option, Some, None, arith, append_assoc}
use Rattle.std.proofs.lemmas.Bool.{and_from, and_parts, leb-true, le-leb}
use Rattle.std.proofs.lemmas.List.{append_cancel_left}
use Rattle.std.specs.Cmp.{both_ways}
use Rattle.std.specs.Option.{option_map}
use Rattle.std.specs.Prelude.{nat_le}
use Rattle.rx_cover.proofs.Equations.{depth_is}
use Rattle.rx_cert.specs.declared.cert.Cert.{Cert}
use Rattle.rx_cover.specs.Depth.{tree_depth}
use Rattle.rx_cover.specs.declared.cover_tree.CoverTree.{CoverTree, CoverTree-F, fold_out-CoverTree, map-CoverTree, out-CoverTree, roll-CoverTree, roll-out-CoverTree}
use Rattle.rx_cover.specs.declared.cover_tree.CoverTree.TheVariants as made
use Rattle.rx_row.specs.declared.row.Row.{Row}
use Rattle.rx_text.specs.Formats.{BeginsWith, Format, IsUnambiguous, Reads}
use Rattle.rx_text.specs.Rows.{is_readable_row, row_format}
use Rattle.rx_term_words.specs.Branches.{ReadsTreeKind, branches_within, splits_within, tree_word, uses}
use Rattle.rx_words.specs.Certificates.{certificate_lists, certificates}
use Rattle.rx_term_words.specs.Trees.{is_readable_level, is_readable_tree, tree_text, tree_text_level, trees_within}
use Rattle.rx_words.specs.Words.{numbers, words}
use Rattle.rx_term_words.specs.declared.trees.TreeKind.{TreeKind}
use Rattle.rx_words.proofs.CertLaws.{certificate_lists_once, certificates_once, one_deep}
use Rattle.rx_words.proofs.Joined.{pairs_once}
use Rattle.rx_words.proofs.Once.{numbers_once, rows_once}

-- what belongs after the word of a kind
abbrev pub Contents : TreeKind → Type 0
Contents TreeKind.Use = ℕ × List Cert
Contents TreeKind.Split = Row × (CoverTree × CoverTree)
Contents TreeKind.Absurd = Cert

abbrev pub tree_of : (kind : TreeKind) → Contents kind → CoverTree
tree_of TreeKind.Use x = made.Use x.0 x.1
tree_of TreeKind.Split x = made.Split x.0 x.1.0 x.1.1
tree_of TreeKind.Absurd x = made.Absurd x

abbrev contents_text : (kind : TreeKind) → Contents kind → List ℕ
contents_text TreeKind.Use = uses.text
contents_text TreeKind.Split = (splits_within 0).text
contents_text TreeKind.Absurd = certificates.text

abbrev are_readable : ℕ → (kind : TreeKind) → Contents kind → Bool
are_readable n TreeKind.Use = uses.in_range
are_readable n TreeKind.Split = (splits_within n).in_range
are_readable n TreeKind.Absurd = certificates.in_range

abbrev pub contents : ℕ → (kind : TreeKind) → Format (Contents kind)
contents n kind = words (contents_text kind) (are_readable n kind)

text_of : (tree : CoverTree) →
    tree_text tree ≡ tree_text_level (map-CoverTree CoverTree (List ℕ) tree_text
    (out-CoverTree tree))
text_of tree = fold_out-CoverTree (List ℕ) tree_text_level tree

readable : (tree : CoverTree) →
    is_readable_tree tree ≡ is_readable_level
    (map-CoverTree CoverTree Bool is_readable_tree (out-CoverTree tree))
readable tree = fold_out-CoverTree Bool is_readable_level tree

-- its text is the word with the contents after it
pub text_after : (kind : TreeKind) (x : Contents kind) →
    tree_text (tree_of kind x) ≡ tree_word kind ++ contents_text kind x
text_after TreeKind.Use x = text_of (made.Use x.0 x.1) ∙ rw (made.outs-Use x.0 x.1) refl
text_after TreeKind.Split x =
    text_of (made.Split x.0 x.1.0 x.1.1) ∙ rw (made.outs-Split x.0 x.1.0 x.1.1) refl
text_after TreeKind.Absurd x = text_of (made.Absurd x) ∙ rw (made.outs-Absurd x) refl

two_deeper : (x y n : ℕ) → nat_le (1 + max x y) (n + 1) ≡ (nat_le x n && nat_le y n)
two_deeper x y n =
    both_ways (nat_le (1 + max x y) (n + 1)) (nat_le x n && nat_le y n)
    (λ h. let le : 1 + max x y ≤ n + 1 = leb-true (1 + max x y) (n + 1) h in
    and_from (nat_le x n) (nat_le y n) (le-leb x n (omega arith)) (le-leb y n (omega arith)))
    (λ h. let p = and_parts (nat_le x n) (nat_le y n) h in
    let l : x ≤ n = leb-true x n p.0 in
    let r : y ≤ n = leb-true y n p.1 in
    le-leb (1 + max x y) (n + 1) (omega arith))

regroup : (a b c d e : Bool) → ((a && b) && (c && (d && e))) ≡ (c && ((a && d) && (b && e)))
regroup true true true d e = refl
regroup true true false d e = refl
regroup true false true true e = refl
regroup true false true false e = refl
regroup true false false d e = refl
regroup false b true d e = refl
regroup false b false d e = refl

-- it is in range where its contents are, with the trees in it one level less deep
pub in_range_of : (n : ℕ) (kind : TreeKind) (x : Contents kind) →
    (trees_within (n + 1)).in_range (tree_of kind x) ≡ are_readable n kind x
in_range_of n TreeKind.Use x =
    let tree = made.Use x.0 x.1 in
    let deep : tree_depth tree ≡ 1 = depth_is tree ∙ rw (made.outs-Use x.0 x.1) refl in
    let read : is_readable_tree tree ≡ uses.in_range x =
    readable tree ∙ rw (made.outs-Use x.0 x.1) refl in
    (λ i. nat_le (deep i) (n + 1) && read i) ∙ ap (λ t. t && uses.in_range x) (one_deep n)
in_range_of n TreeKind.Split x =
    let tree = made.Split x.0 x.1.0 x.1.1 in
    let l = x.1.0 in
    let r = x.1.1 in
    let deep : tree_depth tree ≡ 1 + max (tree_depth l) (tree_depth r) =
    depth_is tree ∙ rw (made.outs-Split x.0 l r) refl in
    let read : is_readable_tree tree ≡ (is_readable_row x.0 &&
    (is_readable_tree l && is_readable_tree r)) =
    readable tree ∙ rw (made.outs-Split x.0 l r) refl in
    (λ i. nat_le (deep i) (n + 1) && read i)
    ∙ ap (λ t. t && (is_readable_row x.0 && (is_readable_tree l && is_readable_tree r)))
    (two_deeper (tree_depth l) (tree_depth r) n)
    ∙ regroup (nat_le (tree_depth l) n) (nat_le (tree_depth r) n) (is_readable_row x.0)
    (is_readable_tree l) (is_readable_tree r)
in_range_of n TreeKind.Absurd x =
    let tree = made.Absurd x in
    let deep : tree_depth tree ≡ 1 = depth_is tree ∙ rw (made.outs-Absurd x) refl in
    let read : is_readable_tree tree ≡ certificates.in_range x =
    readable tree ∙ rw (made.outs-Absurd x) refl in
    (λ i. nat_le (deep i) (n + 1) && read i) ∙ ap (λ t. t && certificates.in_range x) (one_deep n)

pub some_depth : (kind : TreeKind) (x : Contents kind) → 0 < tree_depth (tree_of kind x)
some_depth TreeKind.Use x =
    let tree = made.Use x.0 x.1 in
    let e : tree_depth tree ≡ 1 = depth_is tree ∙ rw (made.outs-Use x.0 x.1) refl in
    omega arith
some_depth TreeKind.Split x =
    let tree = made.Split x.0 x.1.0 x.1.1 in
    let e : tree_depth tree ≡ 1 + max (tree_depth x.1.0) (tree_depth x.1.1) =
    depth_is tree ∙ rw (made.outs-Split x.0 x.1.0 x.1.1) refl in
    omega arith
some_depth TreeKind.Absurd x =
    let tree = made.Absurd x in
    let e : tree_depth tree ≡ 1 = depth_is tree ∙ rw (made.outs-Absurd x) refl in
    omega arith

-- each tree has a kind and contents
abbrev pub HasKind : CoverTree → Type 0
HasKind tree = (kind : TreeKind) × (x : Contents kind) × (tree_of kind x ≡ tree)

by_level : (y : CoverTree-F CoverTree) → HasKind (roll-CoverTree y)
by_level (CoverTree-F.Use rule certs) =
    (TreeKind.Use, (rule, certs), sym (made.rolls-Use rule certs))
by_level (CoverTree-F.Split row l r) =
    (TreeKind.Split, (row, (l, r)), sym (made.rolls-Split row l r))
by_level (CoverTree-F.Absurd cert) = (TreeKind.Absurd, cert, sym (made.rolls-Absurd cert))

pub each_has_kind : (tree : CoverTree) → HasKind tree
each_has_kind tree = subst HasKind (roll-out-CoverTree tree) (by_level (out-CoverTree tree))

-- the kind whose word a first byte begins
abbrev known_kind : List ℕ → TreeKind
known_kind [] = TreeKind.Use
known_kind (byte ∷ bytes) =
    cond (byte == 115) TreeKind.Split (cond (byte == 97) TreeKind.Absurd TreeKind.Use)

told : (kind : TreeKind) (rest : List ℕ) → known_kind (tree_word kind ++ rest) ≡ kind
told TreeKind.Use rest = refl
told TreeKind.Split rest = refl
told TreeKind.Absurd rest = refl

same_kind : (j k : TreeKind) (s t : List ℕ) → tree_word j ++ s ≡ tree_word k ++ t → j ≡ k
same_kind j k s t e = sym (told j s) ∙ ap known_kind e ∙ told k t

module _ (n : ℕ) where
  -- the bytes after the word of a tree's kind begin with its contents
  after_word : {bytes left rest : List ℕ} (kind : TreeKind) (x : Contents kind) →
      BeginsWith (trees_within (n + 1)) bytes (tree_of kind x) left →
      bytes ≡ tree_word kind ++ rest → BeginsWith (contents n kind) rest x left
  after_word {bytes} {left} {rest} kind x b e = record {
    in_range = sym (in_range_of n kind x) ∙ b.in_range;
    text = append_cancel_left (tree_word kind) rest (contents_text kind x ++ left)
        (sym e ∙ b.text ∙ ap (λ s. s ++ left) (text_after kind x) ∙
        append_assoc (tree_word kind) (contents_text kind x) left);
    over = b.over;
  }

  whole_text : {bytes left : List ℕ} (kind : TreeKind) (x : Contents kind) →
      BeginsWith (trees_within (n + 1)) bytes (tree_of kind x) left →
      bytes ≡ tree_word kind ++ (contents_text kind x ++ left)
  whole_text {bytes} {left} kind x b =
      b.text ∙ ap (λ s. s ++ left) (text_after kind x)
      ∙ append_assoc (tree_word kind) (contents_text kind x) left

  abbrev Begins : List ℕ → List ℕ → CoverTree → Type 0
  Begins bytes left tree = BeginsWith (trees_within (n + 1)) bytes tree left

  -- where there is no kind's word, there is no tree
  pub no_kind : (bytes : List ℕ) (at : ℕ) → ReadsTreeKind bytes at None →
      Reads (trees_within (n + 1)) bytes at None
  no_kind bytes at never tree left b =
      let k = each_has_kind tree in
      never k.0 (contents_text k.0 k.1 ++ left)
      (whole_text k.0 k.1 (subst (Begins (drop at bytes) left) (sym k.2) b))

  -- what was read after the word of a kind is what was read from its beginning
  pub reads_tree : (kind : TreeKind) (bytes : List ℕ) (at next : ℕ) (r : Option (Contents kind × ℕ))
      → ReadsTreeKind bytes at (Some (kind, next)) →
      Reads (contents n kind) bytes next r → Reads (trees_within (n + 1)) bytes at
      (option_map (λ read. (tree_of kind read.0, read.1)) r)
  reads_tree kind bytes at next None k h = λ tree left b.
      let t = each_has_kind tree in
      let c = subst (Begins (drop at bytes) left) (sym t.2) b in
      let same =
      same_kind t.0 kind (contents_text t.0 t.1 ++ left) (drop next bytes)
      (sym (whole_text t.0 t.1 c) ∙ k.1.1) in
      subst (λ (j : TreeKind). (y : Contents j) → Begins (drop at bytes) left (tree_of j y) → ⊥)
      (sym same)
      (λ y d. h y left (after_word kind y d k.1.1)) t.1 c
  reads_tree kind bytes at next (Some r) k h = record {
    forward = omega (arith, h.forward, k.0);
    inside = h.inside;
    begins = record {
      in_range = in_range_of n kind r.0 ∙ h.begins.in_range;
      text =
          k.1.1 ∙ ap (λ s. tree_word kind ++ s) h.begins.text
          ∙ sym (append_assoc (tree_word kind) (contents_text kind r.0) (drop r.1 bytes))
          ∙ ap (λ s. s ++ drop r.1 bytes) (sym (text_after kind r.0));
      over = h.begins.over;
    };
  }

  contents_once : IsUnambiguous (trees_within n) → (kind : TreeKind) →
      IsUnambiguous (contents n kind)
  contents_once once TreeKind.Use =
      pairs_once numbers.text numbers.in_range certificate_lists.text certificate_lists.in_range
      numbers_once certificate_lists_once
  contents_once once TreeKind.Split =
      pairs_once row_format.text row_format.in_range (branches_within n).text
      (branches_within n).in_range rows_once
      (pairs_once tree_text (trees_within n).in_range tree_text (trees_within n).in_range once once)
  contents_once once TreeKind.Absurd = certificates_once 200

  abbrev Alone : List ℕ → List ℕ → List ℕ → CoverTree → TreeKind → Type 0
  Alone bytes left right tree kind =
      (y : Contents kind) → Begins bytes right (tree_of kind y) → (tree ≡ tree_of kind y) ×
      (left ≡ right)

  deeper_once : IsUnambiguous (trees_within n) → IsUnambiguous (trees_within (n + 1))
  deeper_once once bytes x y left right b c =
      let j = each_has_kind x in
      let k = each_has_kind y in
      let d = subst (Begins bytes left) (sym j.2) b in
      let e = subst (Begins bytes right) (sym k.2) c in
      let rest = contents_text j.0 j.1 ++ left in
      let w = whole_text j.0 j.1 d in
      let same =
      same_kind j.0 k.0 rest (contents_text k.0 k.1 ++ right) (sym w ∙ whole_text k.0 k.1 e) in
      let alone : Alone bytes left right (tree_of j.0 j.1) j.0 =
      (λ z f. let s = contents_once once j.0 rest j.1 z left right (after_word j.0 j.1 d w)
      (after_word j.0 z f w) in (ap (tree_of j.0) s.0, s.1)) in
      let t = subst (Alone bytes left right (tree_of j.0 j.1)) same alone k.1 e in
      (sym j.2 ∙ t.0 ∙ k.2, t.1)

-- nothing is not deep at all
pub no_tree : (bytes : List ℕ) (at : ℕ) → Reads (trees_within 0) bytes at None
no_tree bytes at tree left b =
    let k = each_has_kind tree in
    let deep : 0 < tree_depth tree = subst (λ t. 0 < tree_depth t) k.2 (some_depth k.0 k.1) in
    let le : tree_depth tree ≤ 0 =
    leb-true (tree_depth tree) 0
    (and_parts (nat_le (tree_depth tree) 0) (is_readable_tree tree) b.in_range).0 in
    omega arith

-- bytes begin with at most one tree
pub trees_once : (n : ℕ) → IsUnambiguous (trees_within n)
trees_once zero = λ bytes x y left right b c. absurd (no_tree bytes 0 x left b)
trees_once (suc n) =
    let e : n + 1 ≡ suc n = omega arith in
    subst (λ m. IsUnambiguous (trees_within m)) e (deeper_once n (trees_once n))
