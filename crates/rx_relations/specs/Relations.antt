-- The relations of goals with as many places, as rows: linear ones, then those with products.
use Rattle.std.specs.Prelude.{ℕ, List, ◌++◌, map}
use Rattle.rx_plain.specs.Formed.{Formed, ◌>>=◌, ◌<$>◌}
use Rattle.rx_row.specs.declared.row.Row.{Row}
use Rattle.rx_row.specs.declared.row.Row.TheVariants.{Eq}
use Rattle.rx_relations.specs.Linear.{linear}
use Rattle.rx_relations.specs.Products.{free_places, products}
use Rattle.rx_relations.specs.declared.instance.Instance.{Instance}

-- x_i is the polynomial at place i of each goal
abbrev pub relations_formed : ℕ → List Instance → Formed (List Row)
relations_formed count goals = do
  solved ← linear count goals
  (λ ps. map Eq (solved.relations ++ ps)) <$> products (free_places count solved.given) goals
