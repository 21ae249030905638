-- A certificate is written as its first words with those in it after them.
use Rattle.std.proofs.Common.{◌≡◌, ◌∙◌, ap, sym, List, [], ◌∷◌, ◌++◌, ℕ, append_assoc}
use Rattle.std.proofs.lemmas.List.{append-nil}
use Rattle.rx_cert.specs.declared.cert.Cert.{Cert}
use Rattle.rx_words.specs.Certificates.{cert_text}
use Rattle.rx_words.specs.Heads.{heads}
use Rattle.rx_words.specs.declared.heads.Head.{Head}
use Rattle.rx_words.proofs.CertLaws.{Made}

module _ {head : Head} (out : List ℕ) where
  pub none_written : {cert : Cert} → Made head [] cert → out ++ heads.text head ≡ out ++
      cert_text cert
  none_written m = ap (λ s. out ++ s) (sym (append-nil (heads.text head)) ∙ sym m.text)

  pub one_written : {cert : Cert} (x : Cert) → Made head (x ∷ []) cert → (out ++ heads.text head) ++
      (32 ∷ cert_text x) ≡ out ++ cert_text cert
  one_written x m =
      append_assoc out (heads.text head) (32 ∷ cert_text x)
      ∙ ap (λ s. out ++ (heads.text head ++ (32 ∷ s))) (sym (append-nil (cert_text x)))
      ∙ ap (λ s. out ++ s) (sym m.text)

  pub two_written : {cert : Cert} (x y : Cert) → Made head (x ∷ y ∷ []) cert →
      ((out ++ heads.text head) ++ (32 ∷ cert_text x)) ++ (32 ∷ cert_text y) ≡ out ++ cert_text cert
  two_written x y m =
      append_assoc (out ++ heads.text head) (32 ∷ cert_text x) (32 ∷ cert_text y)
      ∙ append_assoc out (heads.text head) (32 ∷ (cert_text x ++ (32 ∷ cert_text y)))
      ∙ ap (λ s. out ++ (heads.text head ++ (32 ∷ (cert_text x ++ (32 ∷ s)))))
      (sym (append-nil (cert_text y)))
      ∙ ap (λ s. out ++ s) (sym m.text)
