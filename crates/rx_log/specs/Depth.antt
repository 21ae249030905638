-- Logs of which all certificates and trees are at most 200 deep: the others have no text.
use Rattle.std.specs.Prelude.{ℕ, nat_le, Bool, true, ◌&&◌, Option, Some, None, List}
use Rattle.std.specs.List.{list_all}
use Rattle.rx_cert.specs.Depth.{cert_depth}
use Rattle.rx_cert.specs.declared.cert.Cert.{Cert}
use Rattle.rx_cover.specs.Depth.{tree_depth}
use Rattle.rx_cover.specs.declared.cover_tree.CoverTree.{CoverTree}
use Rattle.rx_cover.specs.declared.cover_tree.CoverTree.TheOpen.{CoverTree-F}
use Rattle.rx_cover.specs.declared.cover_tree.CoverTree.TheFolds.{fold-CoverTree}
use Rattle.rx_domain.specs.declared.domains.Domains.{Domains}
use Rattle.rx_inference.specs.Judging.{certificates}
use Rattle.rx_log.specs.declared.log.Log.{Log}

-- how deep a certificate or a tree is at most
abbrev pub deepest : ℕ
deepest = 200

-- certificates that are at most so deep
abbrev pub is_shallow : Cert → Bool
is_shallow cert = nat_le (cert_depth cert) deepest

abbrev pub are_shallow : List Cert → Bool
are_shallow certs = list_all is_shallow certs

-- all certificates in a tree are
abbrev pub certs_level : CoverTree-F Bool → Bool
certs_level (CoverTree-F.Use rule certs) = are_shallow certs
certs_level (CoverTree-F.Split row holds fails) = holds && fails
certs_level (CoverTree-F.Absurd cert) = is_shallow cert

abbrev pub has_shallow_certs : CoverTree → Bool
has_shallow_certs = fold-CoverTree Bool certs_level

-- and so is the tree
abbrev pub is_shallow_tree : CoverTree → Bool
is_shallow_tree tree = nat_le (tree_depth tree) deepest && has_shallow_certs tree

-- all certificates of domains are, where there are any
abbrev pub are_shallow_keeps : Option Domains → Bool
are_shallow_keeps None = true
are_shallow_keeps (Some domains) = list_all are_shallow domains.keeps

-- all certificates and trees of a log are
abbrev pub is_shallow_log : Log → Bool
is_shallow_log log =
    are_shallow_keeps log.domains
    && (list_all (λ trees. list_all is_shallow_tree trees) log.covers
    && (list_all (λ step. are_shallow (certificates step)) log.steps
    && list_all (λ pair. are_shallow pair.certs) log.pairs))
