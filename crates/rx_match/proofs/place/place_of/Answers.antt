-- At a place the depths of the side and of the left side differ by the frames over the part.
use Rattle.std.proofs.Common.{◌≡◌, ◌∙◌, ap, sym, subst, rules, ℕ, ◌-◌, ◌<◌, true, false, Some, arith}
use Rattle.rx_term.specs.Stacks.{suffix_at, depth_of}
use Rattle.rx_inference.specs.Pieces.{have_one_shape, side_of}
use Rattle.rx_match.specs.Matching.{is_place}
use Rattle.rx_match.proofs.PlaceLaws.{place_by, place_is}
use Rattle.rx_match.proofs.place.place_of.Goals as goal

pub returns-then-whole-left : goal.returns-then-whole-left
returns-then-whole-left c = λ place. (
  λ e. cc,
  λ h.
      let same = place_is c.args.goal.now c.args.hypothesis.now c.args.side place h in
      let whole : c.depth-whole.result ≡ depth_of (side_of c.args.side c.args.goal.now) =
      c.depth-whole.ensures ∙ ap depth_of c.side_of-term.ensures in
      let left : c.depth-left.result ≡ depth_of c.args.hypothesis.now.left = c.depth-left.ensures in
      let less : c.depth-whole.result < c.depth-left.result = c.if-whole-left.true in
      absurd (omega (arith, same, whole, left, less)),
)

pub returns-then-has_left_shape : goal.returns-then-has_left_shape
returns-then-has_left_shape c = λ place.
    let a = c.args in
    let whole : c.depth-whole.result ≡ depth_of (side_of a.side a.goal.now) =
    c.depth-whole.ensures ∙ ap depth_of c.side_of-term.ensures in
    let left : c.depth-left.result ≡ depth_of a.hypothesis.now.left = c.depth-left.ensures in
    let at : ℕ = c.depth-whole.result - c.depth-left.result in
    let part : suffix_at at (side_of a.side a.goal.now) ≡ Some c.in_ok-part.part.now =
    search rules in
    let shape : have_one_shape c.in_ok-part.part.now a.hypothesis.now.left ≡ true =
    sym c.has_left_shape.ensures ∙ c.if-has_left_shape.true in
    let here : is_place a.goal.now a.hypothesis.now a.side at ≡ true =
    place_by a.goal.now a.hypothesis.now a.side at c.in_ok-part.part.now part ∙ shape in (
      λ e. let same : at ≡ place =
          cc in subst (λ (n : ℕ). is_place a.goal.now a.hypothesis.now a.side n ≡ true) same here,
      λ h.
          let there = place_is a.goal.now a.hypothesis.now a.side place h in
          let same : c.depth-whole.result - c.depth-left.result ≡ place =
          omega (arith, there, whole, left) in
          ap (λ (n : ℕ). Some n) same,
    )

pub returns-else-has_left_shape : goal.returns-else-has_left_shape
returns-else-has_left_shape c = λ place.
    let a = c.args in
    let whole : c.depth-whole.result ≡ depth_of (side_of a.side a.goal.now) =
    c.depth-whole.ensures ∙ ap depth_of c.side_of-term.ensures in
    let left : c.depth-left.result ≡ depth_of a.hypothesis.now.left = c.depth-left.ensures in
    let at : ℕ = c.depth-whole.result - c.depth-left.result in
    let part : suffix_at at (side_of a.side a.goal.now) ≡ Some c.in_ok-part.part.now =
    search rules in
    let shape : have_one_shape c.in_ok-part.part.now a.hypothesis.now.left ≡ false =
    sym c.has_left_shape.ensures ∙ c.if-has_left_shape.false in
    let here : is_place a.goal.now a.hypothesis.now a.side at ≡ false =
    place_by a.goal.now a.hypothesis.now a.side at c.in_ok-part.part.now part ∙ shape in (
      λ e. cc,
      λ h.
          let there = place_is a.goal.now a.hypothesis.now a.side place h in
          let same : place ≡ c.depth-whole.result - c.depth-left.result =
          omega (arith, there, whole, left) in
          let no : true ≡ false = sym h ∙ ap (is_place a.goal.now a.hypothesis.now a.side) same ∙
          here in
          cc,
    )
