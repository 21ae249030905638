-- Trees of each kind: what makes them show their shape, how deep they are, and what their
-- variables are.
use Rattle.std.proofs.Common.{◌≡◌, ◌∙◌, ap, sym, subst, refl, cond, arith, ℕ, zero, suc, ◌+◌, ◌≤◌, Bool, true, false, ◌&&◌, Option, Some, None, List, [], ◌∷◌, ◌++◌, slice_get}
use Rattle.std.specs.List.{All, find, list_all}
use Rattle.std.specs.Option.{IfSome, option_map, option_or}
use Rattle.std.specs.Prelude.{IfOk, Result, Ok, Err}
use denote.Ref.{Bor}
use Rattle.std.specs.Prelude.{filter}
use Rattle.std.proofs.lemmas.Bool.{and_from, and_parts}
use Rattle.std.proofs.lemmas.List.Elements.{All-head, All-tail}
use Rattle.std.proofs.lemmas.Option.{IfSome_then, none-some, same_Some}
use Rattle.rx_row.specs.Negation.{negation, negation_within}
use Rattle.rx_row.specs.declared.row.Row.{Row}
use Rattle.rx_cert.specs.Conditions.{conditions, is_shown}
use Rattle.rx_cert.specs.Depth.{cert_depth}
use Rattle.rx_cert.specs.Findings.{Yes, No, and_also, guard}
use Rattle.rx_cert.specs.Variables.{cert_passes, row_passes, rows_pass}
use Rattle.rx_cert.specs.declared.cert.Cert.{Cert}
use Rattle.rx_term.specs.Paired.{rules_of_shape}
use Rattle.rx_term.specs.Shapes.{Shape, same_shape, shape_of}
use Rattle.rx_term.specs.declared.rule.Rule.{Rule}
use Rattle.rx_cover.proofs.Equations.{depth_is, depth_split, finding_absurd, finding_split, finding_use}
use Rattle.rx_cover.specs.Depth.{tree_depth}
use Rattle.rx_cover.specs.Trees.{tree_finding, use_finding}
use Rattle.rx_cover.specs.declared.cover_tree.CoverTree.{CoverTree, fold_out-CoverTree, out-CoverTree, map-CoverTree}
use Rattle.rx_cover.specs.declared.cover_tree.CoverTree.TheVariants.{Use, Split, Absurd, outs-Use, outs-Split, outs-Absurd}
use Rattle.rx_solve.proofs.OwnVariables.{negation_passes, with_row_passes}
use Rattle.rx_solve.specs.Answers.{AreCertificates, IsCertificate}
use Rattle.rx_find_cover.specs.Coverable.{first_open, is_open}
use Rattle.rx_find_cover.specs.declared.built.Built.{Built}
use Rattle.rx_find_cover.specs.Trees.{IsOwnRow, IsSmall, IsTree, IsUse, is_cert_deep, passes_level, rules_pass, tree_passes}

-- ---- equations

depth_use : (number : ℕ) (certs : List Cert) → tree_depth (Use number certs) ≡ 1
depth_use number certs = depth_is (Use number certs) ∙ rw (outs-Use number certs) refl

depth_absurd : (cert : Cert) → tree_depth (Absurd cert) ≡ 1
depth_absurd cert = depth_is (Absurd cert) ∙ rw (outs-Absurd cert) refl

module _ (r : Row → Bool) (c : Cert → Bool) where
  passes_is : (tree : CoverTree) → tree_passes r c tree ≡
      passes_level r c (map-CoverTree CoverTree Bool (tree_passes r c) (out-CoverTree tree))
  passes_is tree = fold_out-CoverTree Bool (passes_level r c) tree

  passes_use : (number : ℕ) (certs : List Cert) → tree_passes r c (Use number certs) ≡
      list_all c certs
  passes_use number certs = passes_is (Use number certs) ∙ rw (outs-Use number certs) refl

  passes_absurd : (cert : Cert) → tree_passes r c (Absurd cert) ≡ c cert
  passes_absurd cert = passes_is (Absurd cert) ∙ rw (outs-Absurd cert) refl

  passes_split : (row : Row) (held other : CoverTree) → tree_passes r c (Split row held other) ≡
      (r row && (tree_passes r c held && tree_passes r c other))
  passes_split row held other =
      passes_is (Split row held other) ∙ rw (outs-Split row held other) refl

-- ---- tests of all elements

all_pass : {A : Type 0} (P : A → Type 0) (test : A → Bool) → ((x : A) → P x → test x ≡ true) →
    (xs : List A) → All P xs → list_all test xs ≡ true
all_pass P test f [] h = refl
all_pass P test f (x ∷ xs) h =
    and_from (test x) (list_all test xs) (f x (All-head P x xs h))
    (all_pass P test f xs (All-tail P x xs h))

deep_enough : (cert : Cert) → cert_depth cert ≤ 174 → is_cert_deep cert ≡ true
deep_enough cert h = grind arith

one_passes : {A : Type 0} (test : A → Bool) (xs : List A) (i : ℕ) (x : A) → slice_get xs i ≡
    Some x → list_all test xs ≡ true → test x ≡ true
one_passes test [] i x there h = absurd (none-some x there)
one_passes test (y ∷ ys) zero x there h =
    subst (λ z. test z ≡ true) (same_Some y x there) (and_parts (test y) (list_all test ys) h).0
one_passes test (y ∷ ys) (suc i) x there h =
    one_passes test ys i x there (and_parts (test y) (list_all test ys) h).1

-- ---- trees

-- more may be deep
pub roomier : {rules : List Rule} {shape : Shape} {few many : ℕ} {path : List Row}
    {tree : CoverTree} → few ≤ many → IsTree rules shape few path tree →
    IsTree rules shape many path tree
roomier h t = let d = t.small.deep in record {
  shows = t.shows;
  small =
      record {
        deep = omega arith;
        certs_deep = t.small.certs_deep;
        own_variables =
            t.small.own_variables;
      };
}

module _ (rules : List Rule) (shape : Shape) where
  module _ (number : ℕ) (rule : Rule) (path : List Row) (certs : List Cert) where
    use_shows : slice_get rules number ≡ Some rule → same_shape (shape_of rule.left) shape ≡ true →
        AreCertificates 174 path rule.rows certs →
        tree_finding rules shape (Use number certs) path ≡ Yes
    use_shows there same proved =
        finding_use rules shape number certs path
        ∙ ap (λ o. use_finding shape o path certs) there
        ∙ ap (λ b. cond b (is_shown (conditions path (Some rule.rows) certs)) No) same
        ∙ ap is_shown proved.shows

    use_small : slice_get rules number ≡ Some rule → AreCertificates 174 path rule.rows certs →
        IsSmall rules 1 path (Use number certs)
    use_small there proved = record {
      deep = let d = depth_use number certs in omega arith;
      certs_deep =
          passes_use (λ row. true) is_cert_deep number certs ∙
          all_pass (λ (c : Cert). cert_depth c ≤ 174) is_cert_deep deep_enough certs proved.deep;
      own_variables = λ test h g.
          passes_use (row_passes test) (cert_passes test) number certs
          ∙ all_pass (λ (c : Cert). cert_passes test c ≡ true) (cert_passes test) (λ c e. e) certs
          (proved.own_variables test h (one_passes (λ (r : Rule). rows_pass test r.rows) rules
          number rule there g));
    }

  -- a rule of the shape that is used
  use_tree : (number : ℕ) (rule : Rule) (path : List Row) (tree : CoverTree) →
      slice_get rules number ≡ Some rule → same_shape (shape_of rule.left) shape ≡ true →
      IsUse number path rule.rows tree → IsTree rules shape 1 path tree
  use_tree number rule path tree there same u =
      subst (IsTree rules shape 1 path) (sym u.is) (record {
        shows = use_shows number rule path u.certs there same u.proved;
        small = use_small number rule path u.certs there u.proved;
      })

  -- a path that is refuted
  pub absurd_tree : (path : List Row) (cert : Cert) → IsCertificate 174 path cert →
      IsTree rules shape 1 path (Absurd cert)
  absurd_tree path cert c = record {
    shows = finding_absurd rules shape cert path ∙ c.refutes;
    small = record {
      deep = let d = depth_absurd cert in omega arith;
      certs_deep = passes_absurd (λ row. true) is_cert_deep cert ∙ deep_enough cert c.deep;
      own_variables =
          λ test h g. passes_absurd (row_passes test) (cert_passes test) cert ∙
          c.own_variables test h;
    };
  }

  -- a path that is split
  module _ (most : ℕ) (path : List Row) (row : Row) (held other : CoverTree) where
    split_shows : negation_within row ≡ true → tree_finding rules shape held (path ++ row ∷ []) ≡
        Yes → tree_finding rules shape other (path ++ negation row ∷ []) ≡ Yes →
        tree_finding rules shape (Split row held other) path ≡ Yes
    split_shows keeps f g =
        finding_split rules shape row held other path
        ∙ ap (λ s. and_also s (guard (negation_within row)
        (tree_finding rules shape other (path ++ negation row ∷ [])))) f
        ∙ ap (λ b. guard b (tree_finding rules shape other (path ++ negation row ∷ []))) keeps
        ∙ g

    split_small : IsOwnRow rules row → IsSmall rules most (path ++ row ∷ []) held →
        IsSmall rules most (path ++ negation row ∷ []) other →
        IsSmall rules (most + 1) path (Split row held other)
    split_small own f g = record {
      deep = let d = depth_split row held other in let h = f.deep in let k = g.deep in omega arith;
      certs_deep =
          passes_split (λ r. true) is_cert_deep row held other
          ∙ and_from (tree_passes (λ r. true) is_cert_deep held)
          (tree_passes (λ r. true) is_cert_deep other) f.certs_deep g.certs_deep;
      own_variables = λ test h k.
          let r = own.passes test k in
          let y = f.own_variables test (with_row_passes test path row h r) k in
          let n = g.own_variables test (with_row_passes test path (negation row) h
          (negation_passes test row r)) k in
          passes_split (row_passes test) (cert_passes test) row held other
          ∙ and_from (row_passes test row) (tree_passes (row_passes test) (cert_passes test) held &&
          tree_passes (row_passes test) (cert_passes test) other) r
          (and_from (tree_passes (row_passes test) (cert_passes test) held)
          (tree_passes (row_passes test) (cert_passes test) other) y n);
    }

    pub split_tree : IsOwnRow rules row → negation_within row ≡ true →
        IsTree rules shape most (path ++ row ∷ []) held →
        IsTree rules shape most (path ++ negation row ∷ []) other →
        IsTree rules shape (most + 1) path (Split row held other)
    split_tree own keeps f g =
        record {
          shows = split_shows keeps f.shows g.shows;
          small =
              split_small own f.small g.small;
        }

-- ---- the row by which a path is split

found_passes : (test p : Row → Bool) (rows : List Row) (row : Row) → list_all test rows ≡ true →
    find p rows ≡ Some row → test row ≡ true
found_passes test p [] row h e = absurd (none-some row e)
found_passes test p (r ∷ rs) row h e = by (found_passes test p rs row parts.1) (p r) e where
  parts : (test r ≡ true) × (list_all test rs ≡ true)
  parts = and_parts (test r) (list_all test rs) h

  by : (find p rs ≡ Some row → test row ≡ true) → (b : Bool) → cond b (Some r) (find p rs) ≡
      Some row → test row ≡ true
  by others true f = subst (λ z. test z ≡ true) (same_Some r row f) parts.0
  by others false f = others f

first_passes : (test : ℕ → Bool) (path : List Row) (rules : List Rule) (row : Row) →
    rules_pass test rules ≡ true → first_open path rules ≡ Some row → row_passes test row ≡ true
first_passes test path [] row h e = absurd (none-some row e)
first_passes test path (r ∷ rs) row h e =
    by (first_passes test path rs row parts.1) (find (is_open path) r.rows) refl e where
      parts : (rows_pass test r.rows ≡ true) × (rules_pass test rs ≡ true)
      parts = and_parts (rows_pass test r.rows) (rules_pass test rs) h

      by : (first_open path rs ≡ Some row → row_passes test row ≡ true) → (o : Option Row) →
          find (is_open path) r.rows ≡ o → option_or o (first_open path rs) ≡ Some row →
          row_passes test row ≡ true
      by others None is f = others f
      by others (Some x) is f =
          found_passes (row_passes test) (is_open path) r.rows row parts.0 (is ∙ f)

kept_pass : {A : Type 0} (test p : A → Bool) (xs : List A) → list_all test xs ≡ true →
    list_all test (filter p xs) ≡ true
kept_pass test p [] h = refl
kept_pass test p (x ∷ xs) h = by (kept_pass test p xs parts.1) (p x) where
  parts : (test x ≡ true) × (list_all test xs ≡ true)
  parts = and_parts (test x) (list_all test xs) h

  by : list_all test (filter p xs) ≡ true → (b : Bool) →
      list_all test (cond b (x ∷ filter p xs) (filter p xs)) ≡ true
  by others true = and_from (test x) (list_all test (filter p xs)) parts.0 others
  by others false = others

-- it is one of the rules' rows, so its variables are theirs
own_open : (path : List Row) (rules : List Rule) (shape : Shape) (row : Row) →
    first_open path (rules_of_shape shape rules) ≡ Some row → IsOwnRow rules row
own_open path rules shape row e = record {
  passes = λ test h.
      first_passes test path (rules_of_shape shape rules) row
      (kept_pass (λ (r : Rule). rows_pass test r.rows)
      (λ (r : Rule). same_shape (shape_of r.left) shape) rules h) e;
}

pub own_found : (path : List Row) (rules : List Rule) (shape : Shape) (o : Option (Bor Row)) →
    option_map (λ (r : Bor Row). r.now) o ≡ first_open path (rules_of_shape shape rules) →
    IfSome o (λ r. IsOwnRow rules r.now)
own_found path rules shape None e = tt
own_found path rules shape (Some r) e = own_open path rules shape r.now (sym e)

-- ---- answers

-- a rule is used
pub use_trees : {number : ℕ} {rows : List Row} (rules : List Rule) (shape : Shape) (i : ℕ) (rule : Rule) (path : List Row) (made : Option CoverTree) →
    slice_get rules i ≡ Some rule → same_shape (shape_of rule.left) shape ≡ true → number ≡ i →
    rows ≡ rule.rows →
    IfSome made (IsUse number path rows) → IfSome made (IsTree rules shape 1 path)
use_trees {number} {rows} rules shape i rule path None there same n r u = tt
use_trees {number} {rows} rules shape i rule path (Some tree) there same n r u =
    use_tree rules shape i rule path tree there same
    (subst (λ rs. IsUse i path rs tree) r (subst (λ k. IsUse k path rows tree) n u))

-- a path is refuted, whatever the rules and the shape
pub refuted_trees : {E : Type 0} (rules : List Rule) (shape : Shape) (path : List Row) (left : ℕ)
    (r : Result (Built CoverTree) E) →
    IfOk r (λ b. IfSome b.made (λ t. (rs : List Rule) (sh : Shape) → IsTree rs sh 1 path t)) →
    IfOk r (λ b. IfSome b.made (IsTree rules shape (left + 1) path))
refuted_trees rules shape path left (Ok b) h =
    IfSome_then b.made h (λ t f. roomier (omega arith) (f rules shape))
refuted_trees rules shape path left (Err e) h = tt

-- a path is split, where both branches have trees
pub split_trees : {E : Type 0} {path' : List Row} {row same : Row} {made : Option CoverTree}
    {held : CoverTree} (rules : List Rule) (shape : Shape) (left : ℕ) (path : List Row)
    (second : Option CoverTree) (r : Result (Built CoverTree) E) →
    IsOwnRow rules row → same ≡ row → path' ≡ path → made ≡ Some held →
    IfSome made (IsTree rules shape (left + 1) (path ++ same ∷ [])) →
    IfSome second (IsTree rules shape (left + 1) (path' ++ negation row ∷ [])) →
    IfSome second (λ t. negation_within row ≡ true) →
    IfOk r (λ b. b.made ≡ option_map (Split row held) second) →
    IfOk r (λ b. IfSome b.made (IsTree rules shape (left + 2) path))
split_trees rules shape left path second (Err e) own alike kept is f g keeps h = tt
split_trees {path'} {row} {same} {made} {held} rules shape left path None (Ok b) own alike kept is f
    g keeps h =
    subst (λ o. IfSome o (IsTree rules shape (left + 2) path)) (sym h) tt
split_trees {path'} {row} {same} {made} {held} rules shape left path (Some other) (Ok b) own alike
    kept is f g keeps h =
    let first : IsTree rules shape (left + 1) (path ++ same ∷ []) held =
    subst (λ o. IfSome o (IsTree rules shape (left + 1) (path ++ same ∷ []))) is f in
    let whole = split_tree rules shape (left + 1) path row held other own keeps
    (subst (λ x. IsTree rules shape (left + 1) (path ++ x ∷ []) held) alike first)
    (subst (λ p. IsTree rules shape (left + 1) (p ++ negation row ∷ []) other) kept g) in
    subst (λ o. IfSome o (IsTree rules shape (left + 2) path)) (sym h) (roomier (omega arith) whole)
