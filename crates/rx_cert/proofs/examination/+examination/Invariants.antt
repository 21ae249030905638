-- The certificates inside are less deep; of one depth, what looks inside comes before what goes on
-- with a part.
use Rattle.std.proofs.Common.{◌+◌, ◌*◌, max}
use Rattle.rx_cert.specs.Depth.{cert_depth}
use Rattle.rx_cert.proofs.examination.+examination.Given as goal

abbrev pub decreases-examine : goal.decreases-examine
decreases-examine l = 3 * cert_depth l.cert.now

abbrev pub decreases-examine_with : goal.decreases-examine_with
decreases-examine_with l = 3 * cert_depth l.cert.now + 1

abbrev pub decreases-examine_with_all : goal.decreases-examine_with_all
decreases-examine_with_all l = 3 * cert_depth l.cert.now + 1

abbrev pub decreases-examine_cut : goal.decreases-examine_cut
decreases-examine_cut l = 3 * cert_depth l.rest.now + 2

abbrev pub decreases-examine_split : goal.decreases-examine_split
decreases-examine_split l = 3 * max (cert_depth l.yes.now) (cert_depth l.no.now) + 2

abbrev pub decreases-examine_differ : goal.decreases-examine_differ
decreases-examine_differ l = 3 * max (cert_depth l.pos.now) (cert_depth l.neg.now) + 2

abbrev pub decreases-examine_solve : goal.decreases-examine_solve
decreases-examine_solve l = 3 * cert_depth l.rest.now + 2

abbrev pub decreases-examine_division : goal.decreases-examine_division
decreases-examine_division l = 3 * max (cert_depth l.pos.now) (cert_depth l.neg.now) + 2
