-- Each kind of step by the word that its line begins with.
use Rattle.std.proofs.Common.{◌≡◌, ◌∙◌, refl, sym, ap, ℕ, eqb, Bool, true, false, ◌&&◌, Option, Some, None, List, [], ◌∷◌, ◌++◌, codes, drop}
use Rattle.std.specs.Option.{option_map}
use Rattle.rx_poly.specs.declared.body.Body.{Body}
use Rattle.rx_cert.specs.declared.cert.Cert.{Cert}
use Rattle.rx_row.specs.declared.row.Row.{Row}
use Rattle.rx_term.specs.declared.rule.Equation.{Equation}
use Rattle.rx_inference.specs.declared.step.Delete.TheVariants.{Absurd, Equal}
use Rattle.rx_inference.specs.declared.step.Side.{Side}
use Rattle.rx_inference.specs.declared.step.Step.{Step}
use Rattle.rx_inference.specs.declared.step.Step.TheVariants as step
use Rattle.rx_log.specs.declared.version.Version.{Version}
use Rattle.rx_text.specs.Formats.{Format}
use Rattle.rx_text.specs.Rows.{row_format}
use Rattle.rx_words.specs.Certificates.{certificate_lists, certificates}
use Rattle.rx_words.specs.Words.{word}
use Rattle.rx_logtext.specs.Lines.{ReadsAll}
use Rattle.rx_logtext.specs.Steps.{expand_parts, generalise_parts, hyp_parts, is_readable_step, postulate_parts, results_parts, simplify_parts, step_text, steps_of}

-- whether a text begins with another
abbrev pub starts : List ℕ → List ℕ → Bool
starts [] text = true
starts (byte ∷ bytes) [] = false
starts (byte ∷ bytes) (first ∷ text) = eqb first byte && starts bytes text

-- a kind of step: all that have lines with this beginning in logs of the version are made from
-- parts of that format
pub record IsKind {P : Type 0} (version : Version) (beginning : List ℕ) (format : Format P)
    (make : P → Step) : Type 0
  where
    pub text : (parts : P) → step_text version (make parts) ≡ beginning ++ format.text parts
    pub in_range : (parts : P) → is_readable_step version (make parts) ≡ format.in_range parts
    pub only : (rest : List ℕ) (x : Step) → beginning ++ rest ≡ step_text version x → (parts : P) ×
        ((x ≡ make parts) × (rest ≡ format.text parts))

-- the line is read where what comes after its beginning is
pub kind_reads : {P : Type 0} {version : Version} {beginning : List ℕ} {format : Format P}
    {make : P → Step} → IsKind version beginning format make → (line rest : List ℕ) →
    line ≡ beginning ++ rest → (found : Option P) → ReadsAll format rest found →
    ReadsAll (steps_of version) line (option_map make found)
kind_reads {P} {version} {beginning} {format} {make} kind line rest e (Some parts) t = record {
  in_range = kind.in_range parts ∙ t.in_range;
  text = e ∙ ap (λ (r : List ℕ). beginning ++ r) t.text ∙ sym (kind.text parts);
}
kind_reads {P} {version} {beginning} {format} {make} kind line rest e None never = λ x t.
    let o = kind.only rest x (sym e ∙ t.text) in
    never o.0 (record {
      in_range = sym (kind.in_range o.0) ∙ ap (is_readable_step version) (sym o.1.0) ∙ t.in_range;
      text = o.1.1;
    })

module _ (version : Version) where
  -- `simplify`
  abbrev pub simplify_of : Side × (ℕ × List Cert) → Step
  simplify_of p = step.Simplify p.0 p.1.0 p.1.1

  only_simplify : (rest : List ℕ) (x : Step) → codes "simplify " ++ rest ≡ step_text version x →
      (parts : Side × (ℕ × List Cert)) × ((x ≡ simplify_of parts) ×
      (rest ≡ (simplify_parts).text parts))
  only_simplify rest (step.Simplify side rule certs) e =
      ((side, (rule, certs)), (refl, ap (drop 9) e))
  only_simplify rest (step.Delete (Absurd cert)) e =
      absurd (let f : true ≡ false = ap (starts (codes "sim")) e in cc)
  only_simplify rest x e = absurd (let f : true ≡ false = ap (starts (codes "sim")) e in cc)

  pub simplify_kind : IsKind version (codes "simplify ") (simplify_parts) simplify_of
  simplify_kind =
      record {
        text = λ parts. refl;
        in_range = λ parts. refl;
        only = λ rest x. only_simplify rest x;
      }

  -- `hyp`
  abbrev pub hyp_of : Side × (ℕ × (ℕ × (List (ℕ × Body) × List Cert))) → Step
  hyp_of p = step.Hyp p.0 p.1.0 p.1.1.0 p.1.1.1.0 p.1.1.1.1

  only_hyp : (rest : List ℕ) (x : Step) → codes "hyp " ++ rest ≡ step_text version x →
      (parts : Side × (ℕ × (ℕ × (List (ℕ × Body) × List Cert)))) ×
      ((x ≡ hyp_of parts) × (rest ≡ (hyp_parts).text parts))
  only_hyp rest (step.Hyp side place hyp subst certs) e =
      ((side, (place, (hyp, (subst, certs)))), (refl, ap (drop 4) e))
  only_hyp rest (step.Delete (Absurd cert)) e =
      absurd (let f : true ≡ false = ap (starts (codes "hyp")) e in cc)
  only_hyp rest x e = absurd (let f : true ≡ false = ap (starts (codes "hyp")) e in cc)

  pub hyp_kind : IsKind version (codes "hyp ") (hyp_parts) hyp_of
  hyp_kind =
      record { text = λ parts. refl; in_range = λ parts. refl; only = λ rest x. only_hyp rest x }

  -- `expand`
  abbrev pub expand_of : Side × Bool → Step
  expand_of p = step.Expand p.0 p.1

  only_expand : (rest : List ℕ) (x : Step) → codes "expand " ++ rest ≡ step_text version x →
      (parts : Side × Bool) × ((x ≡ expand_of parts) × (rest ≡ (expand_parts).text parts))
  only_expand rest (step.Expand side keep) e = ((side, keep), (refl, ap (drop 7) e))
  only_expand rest (step.Delete (Absurd cert)) e =
      absurd (let f : true ≡ false = ap (starts (codes "exp")) e in cc)
  only_expand rest x e = absurd (let f : true ≡ false = ap (starts (codes "exp")) e in cc)

  pub expand_kind : IsKind version (codes "expand ") (expand_parts) expand_of
  expand_kind =
      record { text = λ parts. refl; in_range = λ parts. refl; only = λ rest x. only_expand rest x }

  -- `absurd`
  abbrev pub absurd_of : Cert → Step
  absurd_of p = step.Delete (Absurd p)

  only_absurd : (rest : List ℕ) (x : Step) → codes "absurd " ++ rest ≡ step_text version x →
      (parts : Cert) ×
      ((x ≡ absurd_of parts) × (rest ≡ (certificates).text parts))
  only_absurd rest (step.Delete (Absurd cert)) e = (cert, (refl, ap (drop 7) e))
  only_absurd rest x e = absurd (let f : true ≡ false = ap (starts (codes "abs")) e in cc)

  pub absurd_kind : IsKind version (codes "absurd ") (certificates) absurd_of
  absurd_kind =
      record { text = λ parts. refl; in_range = λ parts. refl; only = λ rest x. only_absurd rest x }

  -- `equal`
  abbrev pub equal_of : List Cert → Step
  equal_of p = step.Delete (Equal p)

  only_equal : (rest : List ℕ) (x : Step) → codes "equal " ++ rest ≡ step_text version x →
      (parts : List Cert) × ((x ≡ equal_of parts) × (rest ≡ (certificate_lists).text parts))
  only_equal rest (step.Delete (Equal certs)) e = (certs, (refl, ap (drop 6) e))
  only_equal rest (step.Delete (Absurd cert)) e =
      absurd (let f : true ≡ false = ap (starts (codes "equ")) e in cc)
  only_equal rest x e = absurd (let f : true ≡ false = ap (starts (codes "equ")) e in cc)

  pub equal_kind : IsKind version (codes "equal ") (certificate_lists) equal_of
  equal_kind =
      record { text = λ parts. refl; in_range = λ parts. refl; only = λ rest x. only_equal rest x }

  -- `generalise`
  abbrev pub generalise_of : Equation × (List (ℕ × Body) × List Cert) → Step
  generalise_of p = step.Generalise p.0.left p.0.right p.0.rows p.1.0 p.1.1

  only_generalise : (rest : List ℕ) (x : Step) → codes "generalise " ++ rest ≡ step_text version x →
      (parts : Equation × (List (ℕ × Body) × List Cert)) ×
      ((x ≡ generalise_of parts) × (rest ≡ (generalise_parts).text parts))
  only_generalise rest (step.Generalise left right rows subst certs) e =
      ((record { left = left; right = right; rows = rows }, (subst, certs)), (refl, ap (drop 11) e))
  only_generalise rest (step.Delete (Absurd cert)) e =
      absurd (let f : true ≡ false = ap (starts (codes "gen")) e in cc)
  only_generalise rest x e = absurd (let f : true ≡ false = ap (starts (codes "gen")) e in cc)

  pub generalise_kind : IsKind version (codes "generalise ") (generalise_parts) generalise_of
  generalise_kind =
      record {
        text = λ parts. refl;
        in_range = λ parts. refl;
        only = λ rest x. only_generalise rest x;
      }

  -- `postulate`
  abbrev pub postulate_of : Equation × List Cert → Step
  postulate_of p = step.Postulate p.0.left p.0.right p.0.rows p.1

  only_postulate : (rest : List ℕ) (x : Step) → codes "postulate " ++ rest ≡ step_text version x →
      (parts : Equation × List Cert) × ((x ≡ postulate_of parts) ×
      (rest ≡ (postulate_parts version).text parts))
  only_postulate rest (step.Postulate left right rows certs) e =
      ((record { left = left; right = right; rows = rows }, certs), (refl, ap (drop 10) e))
  only_postulate rest (step.Delete (Absurd cert)) e =
      absurd (let f : true ≡ false = ap (starts (codes "pos")) e in cc)
  only_postulate rest x e = absurd (let f : true ≡ false = ap (starts (codes "pos")) e in cc)

  pub postulate_kind : IsKind version (codes "postulate ") (word (postulate_parts version))
      postulate_of
  postulate_kind =
      record {
        text = λ parts. refl;
        in_range = λ parts. refl;
        only = λ rest x. only_postulate rest x;
      }

  -- `split`
  abbrev pub split_of : Row → Step
  split_of p = step.Split p

  only_split : (rest : List ℕ) (x : Step) → codes "split " ++ rest ≡ step_text version x →
      (parts : Row) ×
      ((x ≡ split_of parts) × (rest ≡ (word row_format).text parts))
  only_split rest (step.Split row) e = (row, (refl, ap (drop 6) e))
  only_split rest (step.Delete (Absurd cert)) e =
      absurd (let f : true ≡ false = ap (starts (codes "spl")) e in cc)
  only_split rest x e = absurd (let f : true ≡ false = ap (starts (codes "spl")) e in cc)

  pub split_kind : IsKind version (codes "split ") (word row_format) split_of
  split_kind =
      record { text = λ parts. refl; in_range = λ parts. refl; only = λ rest x. only_split rest x }

  -- `decompose`
  abbrev pub decompose_of : List Cert → Step
  decompose_of p = step.Decompose p

  only_decompose : (rest : List ℕ) (x : Step) → codes "decompose " ++ rest ≡ step_text version x →
      (parts : List Cert) × ((x ≡ decompose_of parts) × (rest ≡ (certificate_lists).text parts))
  only_decompose rest (step.Decompose certs) e = (certs, (refl, ap (drop 10) e))
  only_decompose rest (step.Delete (Absurd cert)) e =
      absurd (let f : true ≡ false = ap (starts (codes "dec")) e in cc)
  only_decompose rest x e = absurd (let f : true ≡ false = ap (starts (codes "dec")) e in cc)

  pub decompose_kind : IsKind version (codes "decompose ") (certificate_lists) decompose_of
  decompose_kind =
      record {
        text = λ parts. refl;
        in_range = λ parts. refl;
        only = λ rest x. only_decompose rest x;
      }

  -- `results`
  abbrev pub results_of : ℕ × (ℕ × List Cert) → Step
  results_of p = step.Results p.0 p.1.0 p.1.1

  only_results : (rest : List ℕ) (x : Step) → codes "results " ++ rest ≡ step_text version x →
      (parts : ℕ × (ℕ × List Cert)) × ((x ≡ results_of parts) × (rest ≡ (results_parts).text parts))
  only_results rest (step.Results left right certs) e =
      ((left, (right, certs)), (refl, ap (drop 8) e))
  only_results rest (step.Delete (Absurd cert)) e =
      absurd (let f : true ≡ false = ap (starts (codes "res")) e in cc)
  only_results rest x e = absurd (let f : true ≡ false = ap (starts (codes "res")) e in cc)

  pub results_kind : IsKind version (codes "results ") (results_parts) results_of
  results_kind =
      record {
        text = λ parts. refl;
        in_range = λ parts. refl;
        only = λ rest x. only_results rest x;
      }
