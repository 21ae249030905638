-- What an accepted log says of both sides.
use Rattle.rx_rewriting.specs.Terms.{Ground, IsResult, Relation}
use Rattle.rx_rewriting.specs.Steps.{Reaches}

-- both terms reach one result
pub record EndEqual (R : Relation) (s t : Ground) : Type 0 where
  pub end : Ground
  pub is_result : IsResult end
  pub left : Reaches R s end
  pub right : Reaches R t end
