-- The loops of the walk for L: along a part of a row, and row by row, d lanes of N/d cells.
use Rattle.std.specs.Prelude.{◌≡◌, List, ℕ, ◌+◌, ◌-◌, ◌*◌, ◌/◌, ◌%◌, ◌≤◌, ◌<◌, set}
use Rattle.std.proofs.Common.{sym, ap, ◌∙◌, mod-lt, mul-le-mul_left, mul_comm, div-le_self, arith}
use Rattle.std.proofs.Math.Nat.{mod-le, div-add-mod}
use Rattle.laws.specs.Digits.{high_below}
use Rattle.laws.specs.Sized.{Sized, row_pos, row_whole, group_le, s_le_row}
use Rattle.laws.specs.Lanes.{Going, going_first, going_next, Lanewise, Part}
use Rattle.carrier_rows.specs.declared.RowSpot.{RowSpot}
use Rattle.carrier.specs.Formula.{carrier_l}
use Rattle.carrier.proofs.Once.{carrier_once}
use Rattle.carrier.specs.Block.{Block}
use Rattle.carrier_rows.specs.Row.{RowAt, RowIn, RowStep, row_cell, row_address}

-- a part of a row, and where the walk stands at its beginning
pub record AlongIn (d n s top group row col : ℕ) (at : RowSpot) (from stop : ℕ) (out : List ℕ) : Type 0 where
  pub size : Sized d n s
  pub top_is : top ≡ d * (s - 1)
  pub group_is : group ≡ d * s
  pub small : n < 65536
  pub spot : RowAt d s row col at
  pub part : Part d (n / d) row col from stop out

-- the loop over it, at entry i
abbrev pub Along : ℕ → ℕ → ℕ → ℕ → ℕ → ℕ → ℕ → List ℕ → List ℕ → RowSpot → ℕ → Type 0
Along d n s row = Going (carrier_l d n s) (n / d * row) (RowAt d s row)

-- row by row
abbrev pub Rows : ℕ → ℕ → ℕ → ℕ → ℕ → List ℕ → List ℕ → ℕ → ℕ → RowSpot → ℕ → Type 0
Rows d n s = Lanewise (carrier_l d n s) (n / d) (RowAt d s)

-- the rows are the block, and a turn's part of an address fits it
module _ {d n s : ℕ} (z : Sized d n s) where
  pub rows_whole : n ≡ n / d * d
  rows_whole = sym (mul_comm (n / d) d ∙ row_whole z)

  pub lift_small : {row col : ℕ} {at : RowSpot} → RowAt d s row col at → at.lift ≤ n
  lift_small {row} {col} p =
      omega (arith, p.lift_is, group_le z, mul-le-mul_left d (let l = mod-lt (col + row) z.s_pos in let k : (col + row) % s ≤ s = omega arith in k))

module _ {d n s top group row col from stop : ℕ} {start : RowSpot} {out₀ : List ℕ} (z : AlongIn d n s top group row col start from stop out₀) where
  pub along_first : Along d n s row col from stop out₀ out₀ start from
  along_first = going_first (carrier_l d n s) (n / d * row) (RowAt d s row) (let h = z.part.more in omega arith) z.spot

  module _ {out : List ℕ} {at : RowSpot} {i : ℕ} (g : Along d n s row col from stop out₀ out at i) (h : i < stop) where
    column_in : col + (i - from) < n / d
    column_in = omega (arith, z.part.ends, g.since)

    address_is : at.base + at.lift ≡ carrier_l d n s (n / d * row + (col + (i - from)))
    address_is = row_address z.size z.part.lane_in column_in g.place

    pub address_small : at.base + at.lift < 65536
    address_small = omega (arith, address_is, (carrier_once z.size).l_below _ (row_cell z.size z.part.lane_in column_in), z.small)

    pub along_step : RowStep d s top group at
    along_step = record {
      d_pos = z.size.d_pos;
      s_pos = z.size.s_pos;
      top_is = z.top_is;
      group_is = z.group_is;
      group_small = omega (arith, group_le z.size, z.small);
      base_small = omega (arith, address_small);
      low_small = omega (arith, g.place.low_is, mod-lt (col + (i - from)) z.size.s_pos, s_le_row z.size, div-le_self n d, z.small);
      lift_small = omega (arith, address_small);
    }

    pub along_next : {v : ℕ} {next : RowSpot} → v ≡ at.base + at.lift → RowAt d s row (col + (i - from) + 1) next
        → Along d n s row col from stop out₀ (set out i v) next (i + 1)
    along_next e p = going_next (carrier_l d n s) (n / d * row) (RowAt d s row) g h z.part.room (e ∙ address_is) p

-- the set-up at a cell: its row and its column
module _ {d n s cell : ℕ} (b : Block d n s cell) where
  pub cell_is : cell ≡ n / d * (cell / (n / d)) + cell % (n / d)
  cell_is = sym (div-add-mod cell (n / d))

  pub set_up : RowIn d s (cell / (n / d)) (cell % (n / d))
  set_up = record {
    s_pos = b.size.s_pos;
    col_small = omega (arith, mod-le cell (n / d), b.cell_in, b.small);
    place_small = omega (arith, row_most, col_most, row_whole b.size, b.small);
    group_small = omega (arith, group_le b.size, b.small);
  }
    where
      row_most : cell / (n / d) ≤ d
      row_most = omega (arith, high_below (n / d) (d + 1) cell (row_pos b.size) (omega (arith, row_whole b.size, row_pos b.size, b.cell_in)))

      col_most : d * (cell % (n / d)) + d ≤ d * (n / d)
      col_most = omega (arith, mul-le-mul_left d (mod-lt cell (row_pos b.size)))

  pub spot_address : cell < n → {at : RowSpot} → RowAt d s (cell / (n / d)) (cell % (n / d)) at → at.base + at.lift ≡ carrier_l d n s cell
  spot_address h p =
      row_address b.size (high_below (n / d) d cell (row_pos b.size) (omega (arith, row_whole b.size))) (mod-lt cell (row_pos b.size)) p
      ∙ ap (carrier_l d n s) (sym cell_is)

  pub spot_small : cell < n → {at : RowSpot} → RowAt d s (cell / (n / d)) (cell % (n / d)) at → at.base + at.lift < 65536
  spot_small h p = omega (arith, spot_address h p, (carrier_once b.size).l_below cell h, b.small)
