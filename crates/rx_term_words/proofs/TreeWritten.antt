-- A tree is written as the word of its kind with its contents after it.
use Rattle.std.proofs.Common.{◌≡◌, ◌∙◌, ap, sym, List, ◌∷◌, ◌++◌, ℕ, append_assoc}
use Rattle.rx_cert.specs.declared.cert.Cert.{Cert}
use Rattle.rx_cover.specs.declared.cover_tree.CoverTree.{CoverTree}
use Rattle.rx_cover.specs.declared.cover_tree.CoverTree.TheVariants as made
use Rattle.rx_row.specs.declared.row.Row.{Row}
use Rattle.rx_text.specs.Rows.{row_text}
use Rattle.rx_term_words.specs.Branches.{tree_word, uses}
use Rattle.rx_words.specs.Certificates.{cert_text}
use Rattle.rx_term_words.specs.Trees.{tree_text}
use Rattle.rx_term_words.specs.declared.trees.TreeKind.{TreeKind}
use Rattle.rx_term_words.proofs.TreeWords.{text_after}

module _ (out : List ℕ) where
  pub use_written : (rule : ℕ) (certs : List Cert) →
      out ++ (tree_word TreeKind.Use ++ uses.text (rule, certs)) ≡ out ++
      tree_text (made.Use rule certs)
  use_written rule certs = ap (λ s. out ++ s) (sym (text_after TreeKind.Use (rule, certs)))

  pub split_written : (row : Row) (x y : CoverTree) →
      ((out ++ (tree_word TreeKind.Split ++ row_text row)) ++ (32 ∷ tree_text x)) ++
      (32 ∷ tree_text y) ≡ out ++ tree_text (made.Split row x y)
  split_written row x y =
      append_assoc (out ++ (tree_word TreeKind.Split ++ row_text row)) (32 ∷ tree_text x)
      (32 ∷ tree_text y)
      ∙ append_assoc out (tree_word TreeKind.Split ++ row_text row)
      (32 ∷ (tree_text x ++ (32 ∷ tree_text y)))
      ∙ ap (λ s. out ++ s) (append_assoc (tree_word TreeKind.Split) (row_text row)
      (32 ∷ (tree_text x ++ (32 ∷ tree_text y))))
      ∙ ap (λ s. out ++ s) (sym (text_after TreeKind.Split (row, (x, y))))

  pub absurd_written : (cert : Cert) →
      out ++ (tree_word TreeKind.Absurd ++ cert_text cert) ≡ out ++ tree_text (made.Absurd cert)
  absurd_written cert = ap (λ s. out ++ s) (sym (text_after TreeKind.Absurd cert))
