-- Condition 3 of the tender, for the address walks: cut anywhere, with refused calls between, joined, the outcome is that of one call, and of
-- the closed form. A way is a parameter: the walk for L is the interleaver's, the walk for M the deinterleaver's. (The part of the byte streams is
-- in Stream.antt.)
use Rattle.std.specs.Prelude.{ℕ, min, ◌+◌, ◌-◌, ◌≤◌, ◌<◌, List, [], ◌⊎◌, ◌≡◌, refl, length, take}
use Rattle.std.proofs.Common.{ap}
use Rattle.laws.specs.declared.Way.{Way}
use Rattle.laws.specs.declared.Way.TheVariants.{Interleaver, Deinterleaver}
use Rattle.laws.specs.Outcome.{done}
use Rattle.laws.specs.Run.{run}
use Rattle.laws.specs.Keep.{keep}
use Rattle.laws.specs.Once.{inside}
use Rattle.laws.specs.Ends.{EndsAt, ends_once}
use Rattle.laws.specs.Pieces as pieces
use Rattle.laws.specs.Walk.{Rule}
use Rattle.sets.specs.declared.Set.{Set}
use Rattle.sets.specs.Set.{rows_of, rotation_of, group_of, f1, f2, couples_of}
use Rattle.sets.specs.Numbered.{carrier_profile, five_turbo, spatial_profile, eight_quadratic, nine_coupled}
use Rattle.carrier.specs.Formula.{carrier_l, carrier_m}
use Rattle.carrier.specs.Third.{spatial_l, spatial_m}
use Rattle.wcdma_shape.specs.Rectangle.{cells}
use Rattle.wcdma.specs.Turbo.{address}
use Rattle.quadratic.specs.Formula.{quadratic_l}
use Rattle.couples.specs.Formula.{couple_l}
use Rattle.walks.specs.declared.Walk.{Walk}
use Rattle.families.specs.Rules.{rule_in, rule_is}
use Rattle.walks.specs.declared.Values.{Values}
use Rattle.walks.specs.Answer.{walked_of, walk_list, walk_cells, walk_padding, walk_next, walk_values}
use Rattle.walks.specs.Whole.{behind, walk_l_is, walk_m_is}
use Rattle.walks.specs.Calls.{Call, Handed, joined, ended, examined, rooms}
use Rattle.walks.specs.Calls as calls
use Rattle.tender.specs.Condition2.{Listed, admits, L, M}

-- any list of calls, the accepted ones handing the record on, refused ones of either way and with any record between: the joined list, the end and
-- the cells are those of one walk with all their room
pub walk_cut : (way : Way) {w : Walk} {cs : List Call} → Handed way w cs
    → (joined cs ≡ walk_list way w (rooms cs)) × (ended w cs ≡ walk_next way w (rooms cs)) × (examined cs ≡ walk_cells way w (rooms cs))
walk_cut way h = let r = calls.walk_cut way h in (r.list, r.end, r.cells)

-- and a record that an accepted walk gives back is accepted again, whatever the room, so that a walk can always go on
pub walk_goes_on : (way : Way) (w : Walk) (room more : ℕ) {v : Values} → walked_of way w room ≡ done v
    → walked_of way v.next more ≡ done (walk_values way v.next more)
walk_goes_on way w room more e = calls.goes_on way w room more e

-- what a walk goes along. L, profiles 1 to 4: N cells, and the address of a cell is the formula's ..
pub rule_carrier : (s : Set) → s.profile < 5
    → ((rule_in Interleaver s).total ≡ s.n) × ((rule_in Interleaver s).address ≡ carrier_l (rows_of s) s.n (group_of s))
rule_carrier s h =
    let e = rule_is s (carrier_profile s h) in
    (ap (λ (r : Rule). r.total) e, ap (λ (r : Rule). r.address) e)

-- .. profile 5: the cells of the rectangle, R-as-C, and the address of a cell is T(i)·C + u, with u of the column that it takes ..
pub rule_turbo : (s : Set) → s.profile ≡ 5 → ((rule_in Interleaver s).total ≡ cells s.n) × ((rule_in Interleaver s).address ≡ address s.n)
rule_turbo s p =
    let e = rule_is s (five_turbo s p) in
    (ap (λ (r : Rule). r.total) e, ap (λ (r : Rule). r.address) e)

-- .. profiles 6 and 7: N cells, and the address of a cell is that of the three steps ..
pub rule_spatial : (s : Set) → (s.profile ≡ 6) ⊎ (s.profile ≡ 7)
    → ((rule_in Interleaver s).total ≡ s.n)
    × ((rule_in Interleaver s).address ≡ spatial_l (rows_of s) s.n (group_of s) s.bits (rotation_of s) s.stream)
rule_spatial s h =
    let e = rule_is s (spatial_profile s h) in
    (ap (λ (r : Rule). r.total) e, ap (λ (r : Rule). r.address) e)

-- .. profile 8: K cells, and the address of a cell is (f1·t + f2·t²) mod K ..
pub rule_lte : (s : Set) → s.profile ≡ 8
    → ((rule_in Interleaver s).total ≡ s.n) × ((rule_in Interleaver s).address ≡ quadratic_l s.n (f1 s) (f2 s))
rule_lte s p =
    let e = rule_is s (eight_quadratic s p) in
    (ap (λ (r : Rule). r.total) e, ap (λ (r : Rule). r.address) e)

-- .. profile 9: N cells, and the address of a cell is the couple P(j) = (P0·j + Q) mod N ..
pub rule_wimax : (s : Set) → s.profile ≡ 9
    → ((rule_in Interleaver s).total ≡ s.n) × ((rule_in Interleaver s).address ≡ couple_l (couples_of s))
rule_wimax s p =
    let e = rule_is s (nine_coupled s p) in
    (ap (λ (r : Rule). r.total) e, ap (λ (r : Rule). r.address) e)

-- .. M: N cells, the input positions, and the address of a cell is the formula's, profiles 1 to 4 ..
pub rule_back : (s : Set) → s.profile < 5
    → ((rule_in Deinterleaver s).total ≡ s.n) × ((rule_in Deinterleaver s).address ≡ carrier_m (rows_of s) s.n (group_of s))
rule_back s h = (refl, ap (λ (r : Rule). r.m) (rule_is s (carrier_profile s h)))

-- .. and 6 and 7
pub rule_back_spatial : (s : Set) → (s.profile ≡ 6) ⊎ (s.profile ≡ 7)
    → ((rule_in Deinterleaver s).total ≡ s.n)
    × ((rule_in Deinterleaver s).address ≡ spatial_m (rows_of s) s.n (group_of s) s.bits (rotation_of s) s.stream)
rule_back_spatial s h = (refl, ap (λ (r : Rule). r.m) (rule_is s (spatial_profile s h)))

module _ (way : Way) (w : Walk) (room : ℕ) where
  -- the closed form of the list: from any cell, with any room, the first of the addresses that are not padding among the cells from there to the total
  pub walk_list_lem : walk_list way w room ≡ take room (keep (rule_in way w.set).address (inside w.set.n) w.cell ((rule_in way w.set).total - w.cell))
  walk_list_lem = pieces.walk_list_lem w.set.n (rule_in way w.set) w.cell room

  -- the cells examined are the addresses written and the padding passed, counted by the test on each address from the old cell to the new
  pub cells_are : walk_cells way w room ≡ length (walk_list way w room) + walk_padding way w room
  cells_are = pieces.cells_are w.set.n (rule_in way w.set) w.cell room

  -- where it stops: at the total, or with its room full, and before its last cell the room was not full (EndsAt); padding behind a full room is not
  -- passed. No other number of cells has that
  pub walk_stops : (m : ℕ) → EndsAt (rule_in way w.set).address (inside w.set.n) w.cell ((rule_in way w.set).total - w.cell) room m
      → m ≡ walk_cells way w room
  walk_stops m e =
      ends_once (rule_in way w.set).address (inside w.set.n) e (pieces.walk_ends w.set.n (rule_in way w.set) w.cell room)

  pub walk_ends : EndsAt (rule_in way w.set).address (inside w.set.n) w.cell ((rule_in way w.set).total - w.cell) room (walk_cells way w room)
  walk_ends = pieces.walk_ends w.set.n (rule_in way w.set) w.cell room

-- with no room it moves nothing
pub walk_without_room : (way : Way) (w : Walk) → (walk_list way w 0 ≡ []) × (walk_cells way w 0 ≡ 0)
walk_without_room way w =
    (pieces.no_list w.set.n (rule_in way w.set) w.cell, pieces.no_cells w.set.n (rule_in way w.set) w.cell)

-- and these are L and M: of a listed set a walk for L from any cell up to the total, with any room, writes L on from as many addresses as are no
-- padding before that cell ..
pub walk_is_l : (w : Walk) (room : ℕ) → Listed w.set → w.cell ≤ (rule_in Interleaver w.set).total
    → walk_list Interleaver w room ≡ run (L w.set) (behind w) (min room (w.set.n - behind w))
walk_is_l w room l h = walk_l_is w room ((admits w.set).0 l) h

-- .. and a walk for M, from cell c on, M(c), M(c + 1), as many as there is room and cells for
pub walk_is_m : (w : Walk) (room : ℕ) → Listed w.set → w.cell ≤ w.set.n
    → walk_list Deinterleaver w room ≡ run (M w.set) w.cell (min room (w.set.n - w.cell))
walk_is_m w room l h = walk_m_is w room ((admits w.set).0 l) h
