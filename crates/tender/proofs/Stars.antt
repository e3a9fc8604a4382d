-- The rows of the tables of cases hold.
use Rattle.std.specs.Prelude.{List, [], ◌∷◌, ◌≡◌}
use Rattle.laws.specs.Members.{All}
use Rattle.tender.specs.Stars.{Row, answer, stars, ours}

-- every row of such a table holds
rows_hold : (rs : List Row) → All (λ r. answer r.question r.set r.argument ≡ r.expected) rs
rows_hold [] = tt
rows_hold (r ∷ rs) = (r.holds, rows_hold rs)

pub stars_hold : All (λ r. answer r.question r.set r.argument ≡ r.expected) stars
stars_hold = rows_hold stars

pub ours_hold : All (λ r. answer r.question r.set r.argument ≡ r.expected) ours
ours_hold = rows_hold ours
