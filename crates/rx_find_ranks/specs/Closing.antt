-- Pairs that a column closes.
use Rattle.std.specs.Prelude.{Option, Some, None, List, [], ◌∷◌, ◌++◌, ℕ, slice_set, unwrap_or}
use Rattle.std.specs.List.{zip}
use Rattle.rx_cert.specs.declared.cert.Cert.{Cert}
use Rattle.rx_pairs.specs.declared.pair_cert.PairCert.{PairCert}
use Rattle.rx_find_ranks.specs.declared.open_pair.OpenPair.{OpenPair}

-- the certificate of a pair that falls at the column with that number without more certificates
abbrev pub closing : ℕ → OpenPair → PairCert
closing column o = record { column = column; certs = o.certs }

-- the certificates by the numbers of pairs, with those of pairs that are closed
abbrev pub close_all : ℕ → List (Option PairCert) → List OpenPair → List (Option PairCert)
close_all column closed [] = closed
close_all column closed (o ∷ os) =
    close_all column (slice_set closed o.number (Some (closing column o))) os

-- that of a pair; where it isn't closed one by no column, which shows nothing
abbrev pub cert_of : Option PairCert → PairCert
cert_of found = unwrap_or found (record { column = 0; certs = [] })

-- ---- columns of polynomials

-- an open pair with the certificates by which a column holds there, and where it falls with those
-- of that
abbrev pub Fitted : Type 0
Fitted = (OpenPair × List Cert) × Option (List Cert)

abbrev pub fitted : List OpenPair → List (List Cert) → List (Option (List Cert)) → List Fitted
fitted opens holds falls = zip (zip opens holds) falls

-- the open pair with more certificates
abbrev pub with_certs : OpenPair → List Cert → OpenPair
with_certs o more = record { number = o.number; pair = o.pair; certs = o.certs ++ more }

-- those at which the column doesn't fall, with the certificates by which it holds
abbrev pub left_open : List Fitted → List OpenPair
left_open [] = []
left_open (((o, held), None) ∷ fits) = with_certs o held ∷ left_open fits
left_open (((o, held), Some more) ∷ fits) = left_open fits

-- those at which it falls, with the certificates of that
abbrev pub fallen : List Fitted → List OpenPair
fallen [] = []
fallen (((o, held), None) ∷ fits) = fallen fits
fallen (((o, held), Some more) ∷ fits) = with_certs o more ∷ fallen fits
