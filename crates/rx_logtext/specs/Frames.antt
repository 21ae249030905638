-- Lines by what they don't begin with: what a reader that tries one kind after the other knows.
use Rattle.std.specs.Prelude.{◌≡◌, ℕ, None, List, ◌++◌, codes}
use Rattle.rx_log.specs.declared.version.Version.{Version}
use Rattle.rx_logtext.specs.Lines.{ReadsAll}
use Rattle.rx_logtext.specs.Steps.{steps_of}

-- the bytes don't begin so
abbrev pub NeverBegins : List ℕ → List ℕ → Type 0
NeverBegins beginning bytes = (left : List ℕ) → ¬ (bytes ≡ beginning ++ left)

-- the line is no step, no header and not the end
pub record IsNoMark (version : Version) (bytes : List ℕ) : Type 0 where
  pub steps : ReadsAll (steps_of version) bytes None
  pub header : ¬ (bytes ≡ codes "ctrl-log 1")
  pub header2 : ¬ (bytes ≡ codes "ctrl-log 2")
  pub end : ¬ (bytes ≡ codes "EQUIVALENT")

-- nor anything that comes before the steps
pub record IsNoFront (version : Version) (bytes : List ℕ) : Type 0 where
  pub mark : IsNoMark version bytes
  pub domain : NeverBegins (codes "domain s") bytes
  pub keep : NeverBegins (codes "keep ") bytes
  pub cover : NeverBegins (codes "cover s") bytes
