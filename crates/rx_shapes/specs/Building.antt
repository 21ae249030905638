-- Frames over a term, the first of them outside.
use Rattle.std.specs.Prelude.{List, [], ◌∷◌}
use Rattle.rx_term.specs.declared.term.Term.{Term}
use Rattle.rx_term.specs.declared.term.Term.TheVariants.{Frame}
use Rattle.rx_shapes.specs.declared.general.OpenFrame.{OpenFrame}

abbrev pub over_frames : List OpenFrame → Term → Term
over_frames [] t = t
over_frames (f ∷ fs) t = Frame f.symbol f.arguments (over_frames fs t)
