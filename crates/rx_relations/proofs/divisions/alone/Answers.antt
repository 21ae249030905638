-- The atom alone is a polynomial.
use Rattle.rx_relations.proofs.divisions.alone.Goals as goal

pub unwrap-requires : goal.unwrap-requires
unwrap-requires c =
    c.in_ok-made.ensures.exact.1
    (rw (
      c.in_ok-push-2.ensures.ok,
      c.in_ok-push.ensures.ok,
      c.new-terms.ensures,
      c.new-atoms.ensures,
    ) c.requires)
