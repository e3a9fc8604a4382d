-- The loops of the walk for M: down a part of a column, and column by column, N/d lanes of d cells.
use Rattle.std.specs.Prelude.{◌≡◌, List, ℕ, ◌+◌, ◌-◌, ◌*◌, ◌/◌, ◌%◌, ◌≤◌, ◌<◌, set}
use Rattle.std.proofs.Common.{sym, ap, ◌∙◌, subst, mod-lt, mul-le-mul_left, div-le_self, arith}
use Rattle.std.proofs.Math.Nat.{mod-le, div-add-mod}
use Rattle.laws.specs.Digits.{high_below}
use Rattle.laws.specs.Sized.{Sized, row_whole}
use Rattle.laws.specs.Lanes.{Going, going_next, Lanewise, Part}
use Rattle.carrier_columns.specs.declared.ColumnSpot.{ColumnSpot}
use Rattle.carrier.specs.Formula.{carrier_m}
use Rattle.carrier.proofs.Once.{carrier_once}
use Rattle.carrier.specs.Block.{Block}
use Rattle.carrier_columns.specs.Column.{ColumnAt, ColumnIn, ColumnStep, column_cell, column_address}

-- a part of a column, and where the walk stands at its beginning
pub record DownIn (d n s c col row : ℕ) (at : ColumnSpot) (from stop : ℕ) (out : List ℕ) : Type 0 where
  pub size : Sized d n s
  pub c_is : c ≡ n / d
  pub small : n < 65536
  pub spot : ColumnAt (n / d) n s col row at
  pub part : Part (n / d) d col row from stop out

-- the loop over it, at entry i
abbrev pub Down : ℕ → ℕ → ℕ → ℕ → ℕ → ℕ → ℕ → List ℕ → List ℕ → ColumnSpot → ℕ → Type 0
Down d n s col = Going (carrier_m d n s) (d * col) (ColumnAt (n / d) n s col)

-- column by column
abbrev pub Columns : ℕ → ℕ → ℕ → ℕ → ℕ → List ℕ → List ℕ → ℕ → ℕ → ColumnSpot → ℕ → Type 0
Columns d n s = Lanewise (carrier_m d n s) d (ColumnAt (n / d) n s)

module _ {d n s c row col from stop : ℕ} {start : ColumnSpot} {out₀ : List ℕ} (z : DownIn d n s c col row start from stop out₀) where
  module _ {out : List ℕ} {at : ColumnSpot} {i : ℕ} (g : Down d n s col row from stop out₀ out at i) (h : i < stop) where
    pub row_in : row + (i - from) < d
    row_in = omega (arith, z.part.ends, g.since)

    address_is : at.base + at.turn ≡ carrier_m d n s (d * col + (row + (i - from)))
    address_is = column_address z.size z.part.lane_in row_in g.place

    pub address_small : at.base + at.turn < 65536
    address_small = omega (arith, address_is, (carrier_once z.size).m_below _ (column_cell z.size z.part.lane_in row_in), z.small)

    pub down_step : ColumnStep c s at
    down_step = record { s_pos = z.size.s_pos; c_small = omega (arith, z.c_is, div-le_self n d, z.small); base_small = omega (arith, address_small) }

    pub down_next : {v : ℕ} {next : ColumnSpot} → v ≡ at.base + at.turn
        → (ColumnAt c n s col (row + (i - from)) at → ColumnAt c n s col (row + (i - from) + 1) next)
        → Down d n s col row from stop out₀ (set out i v) next (i + 1)
    down_next {v} {next} e p =
        going_next (carrier_m d n s) (d * col) (ColumnAt (n / d) n s col) g h z.part.room (e ∙ address_is)
        (subst (λ (c : ℕ). ColumnAt c n s col (row + (i - from) + 1) next) z.c_is
        (p (subst (λ (c : ℕ). ColumnAt c n s col (row + (i - from)) at) (sym z.c_is) g.place)))

-- the set-up at a cell: its column and its row
module _ {d n s cell : ℕ} (b : Block d n s cell) where
  pub cell_is : cell ≡ d * (cell / d) + cell % d
  cell_is = sym (div-add-mod cell d)

  pub set_up : ColumnIn (n / d) n s (cell / d) (cell % d)
  set_up = record {
    s_pos = b.size.s_pos;
    n_small = b.small;
    row_in = omega (arith, mod-le cell d, b.cell_in);
    place_small = omega (arith, col_most, row_most, row_whole b.size, b.small);
  }
    where
      col_most : cell / d ≤ n / d
      col_most = omega (arith, high_below d (n / d + 1) cell b.size.d_pos (omega (arith, row_whole b.size, b.size.d_pos, b.cell_in)))

      row_most : n / d * (cell % d) + n / d ≤ n / d * d
      row_most = omega (arith, mul-le-mul_left (n / d) (mod-lt cell b.size.d_pos))

  pub spot_address : cell < n → {at : ColumnSpot} → ColumnAt (n / d) n s (cell / d) (cell % d) at → at.base + at.turn ≡ carrier_m d n s cell
  spot_address h p =
      column_address b.size (high_below d (n / d) cell b.size.d_pos (omega (arith, row_whole b.size))) (mod-lt cell b.size.d_pos) p
      ∙ ap (carrier_m d n s) (sym cell_is)

  pub spot_small : cell < n → {at : ColumnSpot} → ColumnAt (n / d) n s (cell / d) (cell % d) at → at.base + at.turn < 65536
  spot_small h p = omega (arith, spot_address h p, (carrier_once b.size).m_below cell h, b.small)
