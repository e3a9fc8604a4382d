-- The carrier interleaver of IEEE 802.11a (data interleaving of the OFDM PHY: the first and the second permutation for i and j, and their inverse; 802.11n has the
-- same two before its third, Third.antt) and of IEEE 802.16 (bit interleaving of the OFDM and OFDMA PHY, the same with d for 16), as document 01 writes it: M is (1) and (2), L is (3) and (4), which
-- are source 000's numbers. k is a coded bit's index before the first permutation, N is N_CBPS, s is max(N_BPSC/2, 1). Over any d, N and s; / is whole
-- division. These are definitions.
use Rattle.std.specs.Prelude.{ℕ, ◌+◌, ◌-◌, ◌*◌, ◌/◌, ◌%◌}
use Rattle.laws.specs.Walk.{Rule, bare_rule}

-- (1), the first permutation: m = (N/d)·(k mod d) + k/d
unfoldable pub first_step : ℕ → ℕ → ℕ → ℕ
first_step d n k = (n / d) * (k % d) + k / d

-- (2), the second permutation: s·(m/s) + (m + N - d·m/N) mod s, the product divided by N
unfoldable pub second_step : ℕ → ℕ → ℕ → ℕ → ℕ
second_step d n s m = s * (m / s) + (m + n - d * m / n) % s

-- M(k): input k goes to output M(k)
unfoldable pub carrier_m : ℕ → ℕ → ℕ → ℕ → ℕ
carrier_m d n s k = second_step d n s (first_step d n k)

-- (3), back: m = s·(t/s) + (t + d·t/N) mod s
unfoldable pub back_step : ℕ → ℕ → ℕ → ℕ → ℕ
back_step d n s t = s * (t / s) + (t + d * t / n) % s

-- (4), and then: d·m - (N - 1)·(d·m/N)
unfoldable pub last_step : ℕ → ℕ → ℕ → ℕ
last_step d n m = d * m - (n - 1) * (d * m / n)

-- L(t): output t holds input L(t)
unfoldable pub carrier_l : ℕ → ℕ → ℕ → ℕ → ℕ
carrier_l d n s t = last_step d n (back_step d n s t)

-- the rule of a block
abbrev pub carrier_rule : ℕ → ℕ → ℕ → Rule
carrier_rule d n s = bare_rule n (carrier_l d n s) (carrier_m d n s)
