-- The third permutation of IEEE 802.11n (data interleaver of the HT PHY), the frequency rotation, after the two of Formula.antt: with j the index
-- after the second, (j - ((2·(i - 1)) mod 3 + 3·((i - 1)/3))·N_ROT·N_BPSCS) mod N_CBPSS. N is N_CBPSS, bits is N_BPSCS, r is N_ROT, which is 11 at
-- 20 MHz and 29 at 40 MHz, and i is i_SS, the spatial stream, from 1 on. (Of the first two steps d is N_COL, N/d is N_ROW, and s is
-- max(N_BPSCS/2, 1); what the standard calls a column, and reads out one after the other, is a row of the output here.) Over any of these numbers;
-- / is whole division. These are definitions.
use Rattle.std.specs.Prelude.{ℕ, ◌+◌, ◌-◌, ◌*◌, ◌/◌, ◌%◌}
use Rattle.laws.specs.Walk.{Rule, bare_rule}
use Rattle.carrier.specs.Formula.{carrier_m, carrier_l}

-- how far stream i is turned: ((2·(i - 1)) mod 3 + 3·((i - 1)/3))·r·bits
unfoldable pub turn : ℕ → ℕ → ℕ → ℕ
turn bits r i = ((2 * (i - 1)) % 3 + 3 * ((i - 1) / 3)) * r * bits

-- (j - turn) mod N. N is added first, which changes no remainder, so that nothing is taken from 0 (`turn_below` in proofs/Turned.antt)
unfoldable pub third_step : ℕ → ℕ → ℕ → ℕ → ℕ → ℕ
third_step n bits r i j = (j + n - turn bits r i) % n

-- M(k), the three steps: input k goes to output M(k)
unfoldable pub spatial_m : ℕ → ℕ → ℕ → ℕ → ℕ → ℕ → ℕ → ℕ
spatial_m d n s bits r i k = third_step n bits r i (carrier_m d n s k)

-- back: (t + turn) mod N
unfoldable pub third_back : ℕ → ℕ → ℕ → ℕ → ℕ → ℕ
third_back n bits r i t = (t + turn bits r i) % n

-- L(t), the three steps back: output t holds input L(t)
unfoldable pub spatial_l : ℕ → ℕ → ℕ → ℕ → ℕ → ℕ → ℕ → ℕ
spatial_l d n s bits r i t = carrier_l d n s (third_back n bits r i t)

-- the rule of a block
abbrev pub spatial_rule : ℕ → ℕ → ℕ → ℕ → ℕ → ℕ → Rule
spatial_rule d n s bits r i = bare_rule n (spatial_l d n s bits r i) (spatial_m d n s bits r i)
