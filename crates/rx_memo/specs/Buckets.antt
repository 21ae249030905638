-- The buckets in which a memo keeps what it has of goals.
use Rattle.std.specs.Prelude.{◌≡◌, Contains, List, [], Vec}
use Rattle.std.specs.List.{flat_map}
use Rattle.std.specs.declared.alloc.Global.{Global}
use Rattle.rx_term.specs.declared.rule.Equation.{Equation}
use Rattle.rx_memo.specs.Kept.{IsKept}
use Rattle.rx_memo.specs.declared.goal_memo.Kept.{Kept}

module _ {V : Type 0} where
  -- what is in the buckets, one after another
  abbrev pub all_kept : List (Vec (Kept V) Global) → List (Kept V)
  all_kept buckets = flat_map (λ (bucket : Vec (Kept V) Global). bucket.items) buckets

  -- one of the buckets has this of the goal
  pub record HasAny (buckets : List (Vec (Kept V) Global)) (goal : Equation) (value : V) : Type 0
    where
      pub bucket : Vec (Kept V) Global
      pub there : Contains buckets bucket
      pub has : IsKept bucket.items goal value

  -- nothing is in the bucket
  abbrev pub IsEmpty : Vec (Kept V) Global → Type 0
  IsEmpty bucket = bucket.items ≡ []
