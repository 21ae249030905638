-- The texts of terms, certificates and cover trees are one line. By induction on each.
use Rattle.std.proofs.Common.{◌≡◌, ◌∙◌, ap, refl, subst, ℕ, true, List, [], ◌∷◌, ◌++◌, flat_map, codes}
use Rattle.rx_poly.specs.declared.body.Body.{Body}
use Rattle.rx_cert.specs.declared.cert.Cert.{Cert, Cert-F, fold-roll-Cert, ind-Cert, map-Cert, roll-Cert}
use Rattle.rx_cover.specs.declared.cover_tree.CoverTree.{CoverTree, CoverTree-F, fold-roll-CoverTree, ind-CoverTree, map-CoverTree, roll-CoverTree}
use Rattle.rx_term.specs.declared.term.Sym.{Sym}
use Rattle.rx_term.specs.declared.term.Term.{Term}
use Rattle.rx_term.specs.declared.term.Term.TheFolds.{fold_out-Term}
use Rattle.rx_term.specs.declared.term.Term.TheVariants.{Return, Fail, Call, Frame, outs-Return, outs-Fail, outs-Call, outs-Frame}
use Rattle.rx_term.proofs.Equations.{induct}
use Rattle.rx_text.specs.Numbers.{integer_text, integers, natural_text}
use Rattle.rx_text.specs.Polynomials.{poly_text, polynomials}
use Rattle.rx_text.specs.Rows.{row_format, row_text}
use Rattle.rx_words.specs.Certificates.{cert_text, cert_text_level, certificate_lists, certificates, part_lists}
use Rattle.rx_term_words.specs.Equations.{equations}
use Rattle.rx_words.specs.Substitutions.{row_lists, substitutions}
use Rattle.rx_term_words.specs.Terms.{applied_text, polys_text, term_text, term_text_level}
use Rattle.rx_term_words.specs.Trees.{tree_text, tree_text_level}
use Rattle.rx_words.specs.Words.{numbers, pairs, variables, word}
use Rattle.rx_logtext.specs.Logs.{is_one_line}
use Rattle.rx_logtext.proofs.OneLine.{AreOneLine, integer_one_line, joined, list_one_line, natural_one_line, pair_one_line, spaced_one_line, spread}
use Rattle.rx_logtext.proofs.OneLinePolys.{poly_one_line, row_one_line}

-- ---- terms

polys_one_line : AreOneLine polys_text
polys_one_line [] = refl
polys_one_line (p ∷ ps) =
    joined (poly_text p) (flat_map (λ q. 44 ∷ poly_text q) ps) (poly_one_line p)
    (spread (λ q. 44 ∷ poly_text q) poly_one_line ps)

applied_one_line : (f : Sym) (ps : List Body) → is_one_line (applied_text f ps) ≡ true
applied_one_line f ps =
    joined (natural_text f.0) (40 ∷ polys_text ps) (natural_one_line f.0) (polys_one_line ps)

abbrev OneTerm : Term → Type 0
OneTerm t = is_one_line (term_text t) ≡ true

text_Return : (p : Body) → term_text (Return p) ≡ codes "ret(" ++ (poly_text p ++ codes ")")
text_Return p = fold_out-Term (List ℕ) term_text_level (Return p) ∙ rw (outs-Return p) refl

text_Fail : (c : ℕ) → term_text (Fail c) ≡ codes "fail(" ++ (natural_text c ++ codes ")")
text_Fail c = fold_out-Term (List ℕ) term_text_level (Fail c) ∙ rw (outs-Fail c) refl

text_Call : (f : Sym) (ps : List Body) → term_text (Call f ps) ≡ applied_text f ps ++ codes ")"
text_Call f ps = fold_out-Term (List ℕ) term_text_level (Call f ps) ∙ rw (outs-Call f ps) refl

text_Frame : (f : Sym) (ps : List Body) (t : Term)
    → term_text (Frame f ps t) ≡ applied_text f ps ++ (codes ";" ++ (term_text t ++ codes ")"))
text_Frame f ps t =
    fold_out-Term (List ℕ) term_text_level (Frame f ps t) ∙ rw (outs-Frame f ps t) refl

return_one_line : (p : Body) → OneTerm (Return p)
return_one_line p =
    ap is_one_line (text_Return p) ∙ joined (poly_text p) (codes ")") (poly_one_line p) refl

fail_one_line : (c : ℕ) → OneTerm (Fail c)
fail_one_line c =
    ap is_one_line (text_Fail c) ∙ joined (natural_text c) (codes ")") (natural_one_line c) refl

call_one_line : (f : Sym) (ps : List Body) → OneTerm (Call f ps)
call_one_line f ps =
    ap is_one_line (text_Call f ps)
    ∙ joined (applied_text f ps) (codes ")") (applied_one_line f ps) refl

frame_one_line : (f : Sym) (ps : List Body) (t : Term) → OneTerm t → OneTerm (Frame f ps t)
frame_one_line f ps t one =
    ap is_one_line (text_Frame f ps t)
    ∙ joined (applied_text f ps) (59 ∷ (term_text t ++ 41 ∷ [])) (applied_one_line f ps)
    (joined (term_text t) (41 ∷ []) one refl)

pub term_one_line : AreOneLine term_text
term_one_line = induct OneTerm return_one_line fail_one_line call_one_line frame_one_line

-- ---- lists of rows, equations, substitutions

pub row_list_one_line : AreOneLine row_lists.text
row_list_one_line = list_one_line (word row_format) row_one_line

pub equation_one_line : AreOneLine equations.text
equation_one_line e =
    spaced_one_line (term_text e.left) (term_text e.right ++ 32 ∷ row_lists.text e.rows)
    (term_one_line e.left)
    (spaced_one_line (term_text e.right) (row_lists.text e.rows) (term_one_line e.right)
    (row_list_one_line e.rows))

pub substitution_one_line : AreOneLine substitutions.text
substitution_one_line =
    list_one_line (pairs variables (word polynomials))
    (pair_one_line variables (word polynomials) natural_one_line poly_one_line)

-- ---- certificates

pub part_list_one_line : AreOneLine part_lists.text
part_list_one_line =
    list_one_line (pairs numbers (word integers))
    (pair_one_line numbers (word integers) natural_one_line integer_one_line)

abbrev OneCert : Cert → Type 0
OneCert cert = is_one_line (cert_text cert) ≡ true

abbrev PartCert : Type 0
PartCert = (cert : Cert) × OneCert cert

-- the level without its proofs, and the texts in it
abbrev bare_cert : Cert-F PartCert → Cert-F Cert
bare_cert = map-Cert PartCert Cert (λ (p : PartCert). p.0)

abbrev cert_texts : Cert-F PartCert → Cert-F (List ℕ)
cert_texts y = map-Cert Cert (List ℕ) cert_text (bare_cert y)

both_certs : (x y : PartCert) → is_one_line (cert_text x.0 ++ 32 ∷ cert_text y.0) ≡ true
both_certs x y = spaced_one_line (cert_text x.0) (cert_text y.0) x.1 y.1

cert_level : (y : Cert-F PartCert) → is_one_line (cert_text_level (cert_texts y)) ≡ true
cert_level (Cert-F.Sum parts) = part_list_one_line parts
cert_level (Cert-F.Cut parts div rest) =
    spaced_one_line (part_lists.text parts) (integer_text div ++ 32 ∷ cert_text rest.0)
    (part_list_one_line parts)
    (spaced_one_line (integer_text div) (cert_text rest.0) (integer_one_line div) rest.1)
cert_level (Cert-F.Split row holds fails) =
    spaced_one_line (row_text row) (cert_text holds.0 ++ 32 ∷ cert_text fails.0)
    (row_one_line row) (both_certs holds fails)
cert_level (Cert-F.Differ at above below) =
    spaced_one_line (natural_text at) (cert_text above.0 ++ 32 ∷ cert_text below.0)
    (natural_one_line at) (both_certs above below)
cert_level (Cert-F.Solve first second var rest) =
    spaced_one_line (natural_text first)
    (natural_text second ++ 32 ∷ (natural_text var ++ 32 ∷ cert_text rest.0))
    (natural_one_line first)
    (spaced_one_line (natural_text second) (natural_text var ++ 32 ∷ cert_text rest.0)
    (natural_one_line second)
    (spaced_one_line (natural_text var) (cert_text rest.0) (natural_one_line var) rest.1))
cert_level (Cert-F.DivFacts num den above below) =
    spaced_one_line (poly_text num)
    (integer_text den ++ 32 ∷ (cert_text above.0 ++ 32 ∷ cert_text below.0)) (poly_one_line num)
    (spaced_one_line (integer_text den) (cert_text above.0 ++ 32 ∷ cert_text below.0)
    (integer_one_line den) (both_certs above below))

cert_step : (x : Cert-F Cert) (y : Cert-F PartCert) → bare_cert y ≡ x → OneCert (roll-Cert x)
cert_step x y is =
    subst (λ z. OneCert (roll-Cert z)) is
    (ap is_one_line (fold-roll-Cert (List ℕ) cert_text_level (bare_cert y)) ∙ cert_level y)

pub cert_one_line : AreOneLine cert_text
cert_one_line = ind-Cert OneCert cert_step

pub cert_list_one_line : AreOneLine certificate_lists.text
cert_list_one_line = list_one_line certificates cert_one_line

-- ---- cover trees

abbrev OneTree : CoverTree → Type 0
OneTree tree = is_one_line (tree_text tree) ≡ true

abbrev PartTree : Type 0
PartTree = (tree : CoverTree) × OneTree tree

-- the level without its proofs, and the texts in it
abbrev bare_tree : CoverTree-F PartTree → CoverTree-F CoverTree
bare_tree = map-CoverTree PartTree CoverTree (λ (p : PartTree). p.0)

abbrev tree_texts : CoverTree-F PartTree → CoverTree-F (List ℕ)
tree_texts y = map-CoverTree CoverTree (List ℕ) tree_text (bare_tree y)

tree_level : (y : CoverTree-F PartTree) → is_one_line (tree_text_level (tree_texts y)) ≡ true
tree_level (CoverTree-F.Use rule certs) =
    spaced_one_line (natural_text rule) (certificate_lists.text certs) (natural_one_line rule)
    (cert_list_one_line certs)
tree_level (CoverTree-F.Split row holds fails) =
    spaced_one_line (row_text row) (tree_text holds.0 ++ 32 ∷ tree_text fails.0)
    (row_one_line row)
    (spaced_one_line (tree_text holds.0) (tree_text fails.0) holds.1 fails.1)
tree_level (CoverTree-F.Absurd cert) = cert_one_line cert

tree_step : (x : CoverTree-F CoverTree) (y : CoverTree-F PartTree) → bare_tree y ≡ x
    → OneTree (roll-CoverTree x)
tree_step x y is =
    subst (λ z. OneTree (roll-CoverTree z)) is
    (ap is_one_line (fold-roll-CoverTree (List ℕ) tree_text_level (bare_tree y)) ∙ tree_level y)

pub tree_one_line : AreOneLine tree_text
tree_one_line = ind-CoverTree OneTree tree_step
