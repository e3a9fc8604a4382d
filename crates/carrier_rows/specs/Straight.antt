-- The walk for L along a row where s is 1: nothing is turned, and each address is d more than the one before. Rests on Along.
use Rattle.std.specs.Prelude.{◌≡◌, List, ℕ, ◌+◌, ◌*◌, ◌%◌, ◌<◌, set}
use Rattle.std.proofs.Common.{sym, ap, ◌∙◌, mod-lt, mul-zero, arith}
use Rattle.carrier_rows.specs.declared.RowSpot.{RowSpot}
use Rattle.carrier_rows.specs.Row.{RowAt}
use Rattle.carrier_rows.specs.Along.{AlongIn, Along, address_small, along_next}

-- where such a walk stands
abbrev pub unturned : ℕ → RowSpot
unturned a = record { base = a; low = 0; lift = 0 }

no_rest : (x : ℕ) → x % 1 ≡ 0
no_rest x = omega (arith, mod-lt x (let h : 0 < 1 = omega arith in h))

no_part : (d x : ℕ) → d * (x % 1) ≡ 0
no_part d x = ap (λ (y : ℕ). d * y) (no_rest x) ∙ mul-zero d

module _ {d row col : ℕ} where
  straight_spot : {at : RowSpot} → RowAt d 1 row col at → RowAt d 1 row col (unturned at.base)
  straight_spot {at} p = record {
    low_is = sym (no_rest col);
    base_is = omega (arith, p.base_is, ap (λ (x : ℕ). d * x) p.low_is, no_part d col, mul-zero d);
    lift_is = sym (no_part d (col + row));
  }

  straight_on : {a : ℕ} → RowAt d 1 row col (unturned a) → RowAt d 1 row (col + 1) (unturned (a + d))
  straight_on {a} p = record {
    low_is = sym (no_rest (col + 1));
    base_is = omega (arith, p.base_is, mul-zero d);
    lift_is = sym (no_part d (col + 1 + row));
  }

module _ {d n row col from stop : ℕ} {start : RowSpot} {out₀ : List ℕ} (z : AlongIn d n 1 0 d row col start from stop out₀) where
  unturned_in : AlongIn d n 1 0 d row col (unturned start.base) from stop out₀
  unturned_in = record {
    size = z.size;
    top_is = z.top_is;
    group_is = z.group_is;
    small = z.small;
    spot = straight_spot z.spot;
    part = z.part;
  }

  module _ {out : List ℕ} {a i : ℕ} (g : Along d n 1 row col from stop out₀ out (unturned a) i) (h : i < stop) where
    pub straight_small : a < 65536
    straight_small = omega (arith, address_small unturned_in g h)

    pub straight_next : Along d n 1 row col from stop out₀ (set out i a) (unturned (a + d)) (i + 1)
    straight_next = along_next unturned_in g h (let e : a ≡ a + 0 = omega arith in e) (straight_on g.place)
