-- What an examination that ends with No or Yes says of its parts.
use Rattle.std.proofs.Common.{◌≡◌, refl, Bool, true, false, ◌⊎◌, inl, inr}
use Rattle.rx_cert.specs.Findings.{Beyond, No, Said, Yes, and_also, guard}

-- what was formed keeps the limits, and what comes after it isn't refuted
pub guarded_no : (b : Bool) (later : Said) → guard b later ≡ No → (b ≡ true) × (later ≡ No)
guarded_no true later e = (refl, e)
guarded_no false later e = cc

-- one of two parts isn't refuted
pub one_no : (before later : Said) → and_also before later ≡ No → (before ≡ No) ⊎ (later ≡ No)
one_no Yes later e = inr e
one_no No later e = inl e
one_no Beyond later e = cc
