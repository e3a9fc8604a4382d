-- The starred cases of document 01, "Checked by hand", K 40 as change request 1 mends it and K 200 beside it, and those of requests 6 and 12, in one proved table,
-- over the definitions that the public contracts cite, and a second table of ours for what these leave out. A row says a question, a set, an
-- argument and the numbers that are expected. `refl` at its end: the definitions compute to those numbers.
-- Here stand the definitions; what is said of them is proved in proofs/Stars.antt.
use Rattle.std.specs.Prelude.{ℕ, ◌-◌, ◌≤◌, cond, List, [], ◌∷◌, ◌≡◌, refl, length, take, drop}
use Rattle.std.proofs.Common.{ap, arith}
use Rattle.laws.specs.Euclid.{gcd_in, gcd}
use Rattle.laws.specs.Keep.{keep, padding}
use Rattle.laws.specs.Once.{inside}
use Rattle.laws.specs.Position.{position}
use Rattle.sets.specs.declared.Set.{Set}
use Rattle.sets.specs.Set.{family_of, numbers_of, group_of, no_factors}
use Rattle.profiles.specs.Profiles.{entry_by}
use Rattle.carrier.specs.Formula.{first_step, second_step, carrier_m, back_step, last_step, carrier_l}
use Rattle.carrier.specs.Third.{turn, third_step, spatial_m, third_back, spatial_l}
use Rattle.wcdma_shape.specs.Rectangle.{rows, primes, first_prime, prime, cols_of, cols, cells}
use Rattle.wcdma_shape.specs.Powers.{power, first_one, generates, root_from, root}
use Rattle.wcdma_setup.specs.Numbers.{no_divisor, is_prime, passes, next_in, next_q, q_of}
use Rattle.wcdma_shape.specs.Orders.{row_orders, which_order, order_of, row_at}
use Rattle.wcdma.specs.Turbo.{entry, full, column, origin, address, addresses, turbo_m, pad_cells}
use Rattle.wcdma.proofs.Pads.{cells_are}
use Rattle.quadratic.specs.Formula.{quadratic_l, quadratic_m}
use Rattle.couples.specs.Formula.{offset, couple_l, couple_m}
use Rattle.lte.specs.Factors.{two, lte_with}
use Rattle.families.specs.Rules.{rule_of}
use Rattle.families.specs.Rules as rules
use Rattle.walks.specs.Lists.{list_l}

-- what 01 asks of a set. Some questions have an argument x, said here; for the others it is 0 and not read
pub data Question : Type 0 where
  M : Question  -- M(x)
  L : Question  -- L(x)
  R : Question  -- R
  p : Question  -- p
  C : Question  -- C
  total : Question  -- the cells
  padded : Question  -- how many of them are padding
  begins : Question  -- the first x of L
  ends : Question  -- the last x of L
  give : Question  -- the first x cells: their addresses but the padding
  pads : Question  -- whether cell x is padding, 1 or 0; cells are counted from 0

-- the answer of the definitions
unfoldable pub answer : Question → Set → ℕ → List ℕ
answer M s x = rules.M s x ∷ []
answer L s x = rules.L s x ∷ []
answer R s x = rows s.n ∷ []
answer p s x = prime s.n ∷ []
answer C s x = cols s.n ∷ []
answer total s x = (rule_of s).total ∷ []
answer padded s x = pad_cells s.n ∷ []
answer begins s x = take x (list_l s)
answer ends s x = drop (length (list_l s) - x) (list_l s)
answer give s x = keep (rule_of s).address (inside s.n) 0 x
answer pads s x = cond (inside s.n ((rule_of s).address x)) 0 1 ∷ []

-- a row has its proof with it: where the definitions answer something else, the row is refused, and the table with it
pub record Row : Type 0 where
  pub question : Question
  pub set : Set
  pub argument : ℕ
  pub expected : List ℕ
  pub holds : answer question set argument ≡ expected

abbrev pub row : (q : Question) (s : Set) (x : ℕ) (e : List ℕ) → answer q s x ≡ e → Row
row q s x e h = record { question = q; set = s; argument = x; expected = e; holds = h }

-- a set of profile 1 to 9; b: bits, n: N, k: K, i: the stream, a and b of profile 8: f1 and f2, a, b, c and d of profile 9: P0 to P3
abbrev pub ofdm : ℕ → ℕ → Set
ofdm b n = record { profile = 1; bits = b; n = n; stream = 1; factors = no_factors }

abbrev pub ofdma : ℕ → ℕ → Set
ofdma b n = record { profile = 2; bits = b; n = n; stream = 1; factors = no_factors }

abbrev pub wlan : ℕ → ℕ → Set
wlan b n = record { profile = 3; bits = b; n = n; stream = 1; factors = no_factors }

abbrev pub bench : ℕ → ℕ → Set
bench b n = record { profile = 4; bits = b; n = n; stream = 1; factors = no_factors }

abbrev pub turbo : ℕ → Set
turbo k = record { profile = 5; bits = 1; n = k; stream = 1; factors = no_factors }

abbrev pub ht20 : ℕ → ℕ → ℕ → Set
ht20 b n i = record { profile = 6; bits = b; n = n; stream = i; factors = no_factors }

abbrev pub ht40 : ℕ → ℕ → ℕ → Set
ht40 b n i = record { profile = 7; bits = b; n = n; stream = i; factors = no_factors }

abbrev pub lte : ℕ → ℕ → ℕ → Set
lte k a b = lte_with k (two a b)

abbrev pub wimax : ℕ → ℕ → ℕ → ℕ → ℕ → Set
wimax n a b c d = record { profile = 9; bits = 1; n = n; stream = 1; factors = record { first = a; second = b; third = c; fourth = d } }

-- the padding by cells = K + padding, for a K with too many cells to count them one by one here
pub counted : (k : ℕ) → k ≤ 5114 → answer padded (turbo k) 0 ≡ (cells k - k) ∷ []
unfolding answer
counted k h = let e : pad_cells k ≡ cells k - k = omega (arith, cells_are k h) in ap (λ (x : ℕ). x ∷ []) e

-- the table, in 01's order
unfoldable pub stars : List Row
unfolding answer pad_cells padding list_l rule_of family_of entry_by keep numbers_of group_of first_step second_step carrier_m back_step last_step carrier_l rows primes first_prime prime cols_of cols cells power first_one generates root_from root gcd_in gcd no_divisor is_prime passes next_in next_q q_of row_orders which_order order_of row_at entry full column origin address quadratic_l offset couple_l
stars =
    -- Profile 3, bits 4, N 192: M of 0, 1, 16, 17, 191
    row M (wlan 4 192) 0 (0 ∷ []) refl
    ∷ row M (wlan 4 192) 1 (13 ∷ []) refl
    ∷ row M (wlan 4 192) 16 (1 ∷ []) refl
    ∷ row M (wlan 4 192) 17 (12 ∷ []) refl
    ∷ row M (wlan 4 192) 191 (190 ∷ []) refl
    -- Profile 3, bits 6, N 288: M of 1, 2, 3, 287
    ∷ row M (wlan 6 288) 1 (20 ∷ []) refl
    ∷ row M (wlan 6 288) 2 (37 ∷ []) refl
    ∷ row M (wlan 6 288) 3 (54 ∷ []) refl
    ∷ row M (wlan 6 288) 287 (287 ∷ []) refl
    -- Profile 4, bits 4, N 64: L of 4, 5, 6, 7
    ∷ row L (bench 4 64) 4 (17 ∷ []) refl
    ∷ row L (bench 4 64) 5 (1 ∷ []) refl
    ∷ row L (bench 4 64) 6 (49 ∷ []) refl
    ∷ row L (bench 4 64) 7 (33 ∷ []) refl
    -- Bits 6, N 96: L(6)
    ∷ row L (bench 6 96) 6 (17 ∷ []) refl
    -- K 40: R, p, C; L begins .. and ends ..
    ∷ row R (turbo 40) 0 (5 ∷ []) refl
    ∷ row p (turbo 40) 0 (7 ∷ []) refl
    ∷ row C (turbo 40) 0 (8 ∷ []) refl
    ∷ row begins (turbo 40) 10 (39 ∷ 25 ∷ 17 ∷ 9 ∷ 1 ∷ 35 ∷ 27 ∷ 21 ∷ 11 ∷ 5 ∷ []) refl
    ∷ row ends (turbo 40) 5 (33 ∷ 31 ∷ 23 ∷ 15 ∷ 7 ∷ []) refl
    -- K 200, full like K 40: R, p, C; L begins .. and ends ..
    ∷ row R (turbo 200) 0 (10 ∷ []) refl
    ∷ row p (turbo 200) 0 (19 ∷ []) refl
    ∷ row C (turbo 200) 0 (20 ∷ []) refl
    ∷ row begins (turbo 200) 10 (199 ∷ 161 ∷ 141 ∷ 121 ∷ 101 ∷ 81 ∷ 61 ∷ 41 ∷ 21 ∷ 1 ∷ []) refl
    ∷ row ends (turbo 200) 10 (181 ∷ 179 ∷ 159 ∷ 139 ∷ 119 ∷ 99 ∷ 79 ∷ 59 ∷ 39 ∷ 19 ∷ []) refl
    -- K 41: C, padding cells; ten cells give ..; the sixth cell, cell 5, is padding
    ∷ row C (turbo 41) 0 (10 ∷ []) refl
    ∷ row padded (turbo 41) 0 (9 ∷ []) refl
    ∷ row give (turbo 41) 10 (40 ∷ 30 ∷ 20 ∷ 10 ∷ 0 ∷ 36 ∷ 21 ∷ 17 ∷ 6 ∷ []) refl
    ∷ row pads (turbo 41) 5 (1 ∷ []) refl
    -- K 159: cells
    ∷ row total (turbo 159) 0 (160 ∷ []) refl
    -- K 160: R, C
    ∷ row R (turbo 160) 0 (10 ∷ []) refl
    ∷ row C (turbo 160) 0 (16 ∷ []) refl
    -- K 201: R, C, padding
    ∷ row R (turbo 201) 0 (20 ∷ []) refl
    ∷ row C (turbo 201) 0 (11 ∷ []) refl
    ∷ row padded (turbo 201) 0 (19 ∷ []) refl
    -- K 481: cells
    ∷ row total (turbo 481) 0 (530 ∷ []) refl
    -- K 5,114: p, C, padding
    ∷ row p (turbo 5114) 0 (257 ∷ []) refl
    ∷ row C (turbo 5114) 0 (256 ∷ []) refl
    ∷ row padded (turbo 5114) 0 (6 ∷ []) (counted 5114 (omega arith))
    -- Change request 6: profile 8, K 40 with 3 and 10 begins ..
    ∷ row begins (lte 40 3 10) 5 (0 ∷ 13 ∷ 6 ∷ 19 ∷ 12 ∷ []) refl
    -- Change request 12: profile 9, N 24 with 5, 0, 0, 0 begins ..
    ∷ row begins (wimax 24 5 0 0 0) 8 (1 ∷ 18 ∷ 11 ∷ 4 ∷ 21 ∷ 14 ∷ 7 ∷ 0 ∷ []) refl
    ∷ []

-- cases of ours, in the same form: their numbers were computed from the documents by another program than the definitions
unfoldable pub ours : List Row
unfolding answer pad_cells padding list_l rule_of family_of entry_by keep numbers_of group_of first_step second_step carrier_m back_step last_step carrier_l rows primes first_prime prime cols_of cols cells power first_one generates root_from root gcd_in gcd no_divisor is_prime passes next_in next_q q_of row_orders which_order order_of row_at entry full column origin address addresses turbo_m position turn third_step spatial_m third_back spatial_l quadratic_l quadratic_m offset couple_l couple_m
ours =
    -- Profile 1, d 12: bits 6, N 1,152, where s is 3; bits 4, N 768, where s is 2
    row M (ofdm 6 1152) 1 (98 ∷ []) refl
    ∷ row M (ofdm 6 1152) 2 (193 ∷ []) refl
    ∷ row M (ofdm 6 1152) 1151 (1149 ∷ []) refl
    ∷ row L (ofdm 6 1152) 97 (25 ∷ []) refl
    ∷ row L (ofdm 6 1152) 1151 (1139 ∷ []) refl
    ∷ row M (ofdm 4 768) 1 (65 ∷ []) refl
    ∷ row L (ofdm 4 768) 66 (37 ∷ []) refl
    -- Profile 2, d 16: bits 2, 4, 6
    ∷ row M (ofdma 2 96) 1 (6 ∷ []) refl
    ∷ row L (ofdma 2 96) 7 (17 ∷ []) refl
    ∷ row M (ofdma 4 576) 1 (37 ∷ []) refl
    ∷ row M (ofdma 4 576) 575 (574 ∷ []) refl
    ∷ row L (ofdma 4 576) 38 (49 ∷ []) refl
    ∷ row M (ofdma 6 576) 1 (38 ∷ []) refl
    ∷ row M (ofdma 6 576) 3 (108 ∷ []) refl
    ∷ row L (ofdma 6 576) 37 (33 ∷ []) refl
    -- Profile 6, d 13, r 11: bits 2, N 104, stream 2, turned by 44; bits 4, N 208, stream 3, turned by 44
    ∷ row M (ht20 2 104 2) 0 (60 ∷ []) refl
    ∷ row M (ht20 2 104 2) 6 (4 ∷ []) refl
    ∷ row M (ht20 2 104 2) 103 (59 ∷ []) refl
    ∷ row L (ht20 2 104 2) 0 (57 ∷ []) refl
    ∷ row M (ht20 4 208 3) 3 (5 ∷ []) refl
    -- Profile 7, d 18, r 29: bits 6, N 648, stream 4, turned by 522; stream 1, not turned
    ∷ row M (ht40 6 648 4) 1 (164 ∷ []) refl
    ∷ row M (ht40 6 648 4) 647 (123 ∷ []) refl
    ∷ row L (ht40 6 648 4) 647 (302 ∷ []) refl
    ∷ row M (ht40 6 648 1) 1 (38 ∷ []) refl
    -- Profile 8: K 40 with 3 and 10, K 6,144 with 263 and 480
    ∷ row ends (lte 40 3 10) 3 (1 ∷ 34 ∷ 7 ∷ []) refl
    ∷ row M (lte 40 3 10) 13 (1 ∷ []) refl
    ∷ row M (lte 40 3 10) 7 (39 ∷ []) refl
    ∷ row L (lte 6144 263 480) 1000 (4952 ∷ []) refl
    ∷ row L (lte 6144 263 480) 6143 (217 ∷ []) refl
    -- Profile 9: N 24 with 5, 0, 0, 0, its end; N 96 with 7, 48, 24, 72, and N 28 with 2, 1, 2, 3, where the four numbers differ
    ∷ row ends (wimax 24 5 0 0 0) 4 (5 ∷ 22 ∷ 15 ∷ 8 ∷ []) refl
    ∷ row M (wimax 24 5 0 0 0) 18 (1 ∷ []) refl
    ∷ row begins (wimax 96 7 48 24 72) 8 (1 ∷ 8 ∷ 39 ∷ 46 ∷ 29 ∷ 36 ∷ 67 ∷ 74 ∷ []) refl
    ∷ row M (wimax 96 7 48 24 72) 95 (10 ∷ []) refl
    ∷ row begins (wimax 28 2 1 2 3) 8 (1 ∷ 18 ∷ 7 ∷ 24 ∷ 9 ∷ 26 ∷ 15 ∷ 4 ∷ []) refl
    -- M of profile 5
    ∷ row M (turbo 40) 35 (5 ∷ []) refl
    -- K 201: the second row order of twenty; C = p. The first twenty addresses, in 22 cells
    ∷ row p (turbo 201) 0 (11 ∷ []) refl
    ∷ row give (turbo 201) 22 (100 ∷ 155 ∷ 45 ∷ 1 ∷ 23 ∷ 56 ∷ 78 ∷ 133 ∷ 199 ∷ 111 ∷ 89 ∷ 144 ∷ 188 ∷ 34 ∷ 12 ∷ 177 ∷ 67 ∷ 166 ∷ 122 ∷ 106 ∷ []) refl
    -- K 199, which has the rectangle of K 200 and does not fill it
    ∷ row C (turbo 199) 0 (20 ∷ []) refl
    ∷ row begins (turbo 199) 10 (181 ∷ 161 ∷ 141 ∷ 121 ∷ 101 ∷ 81 ∷ 61 ∷ 41 ∷ 21 ∷ 1 ∷ []) refl
    ∷ row ends (turbo 199) 9 (179 ∷ 159 ∷ 139 ∷ 119 ∷ 99 ∷ 79 ∷ 59 ∷ 39 ∷ 19 ∷ []) refl
    -- K 240, full, of twenty rows: its first five addresses and its last column
    ∷ row R (turbo 240) 0 (20 ∷ []) refl
    ∷ row p (turbo 240) 0 (11 ∷ []) refl
    ∷ row C (turbo 240) 0 (12 ∷ []) refl
    ∷ row begins (turbo 240) 5 (239 ∷ 109 ∷ 169 ∷ 49 ∷ 1 ∷ []) refl
    ∷ row ends (turbo 240) 20 (229 ∷ 119 ∷ 179 ∷ 59 ∷ 11 ∷ 35 ∷ 71 ∷ 95 ∷ 155 ∷ 227 ∷ 131 ∷ 107 ∷ 167 ∷ 215 ∷ 47 ∷ 23 ∷ 203 ∷ 83 ∷ 191 ∷ 143 ∷ []) refl
    -- K 530, the last of R 10, and 531, the first of R 20 above it
    ∷ row R (turbo 530) 0 (10 ∷ []) refl
    ∷ row p (turbo 530) 0 (53 ∷ []) refl
    ∷ row total (turbo 530) 0 (530 ∷ []) refl
    ∷ row give (turbo 530) 20 (478 ∷ 425 ∷ 372 ∷ 319 ∷ 266 ∷ 213 ∷ 160 ∷ 107 ∷ 54 ∷ 1 ∷ 479 ∷ 446 ∷ 405 ∷ 321 ∷ 277 ∷ 245 ∷ 204 ∷ 127 ∷ 72 ∷ 39 ∷ []) refl
    ∷ row R (turbo 531) 0 (20 ∷ []) refl
    ∷ row p (turbo 531) 0 (29 ∷ []) refl
    ∷ row total (turbo 531) 0 (560 ∷ []) refl
    ∷ row give (turbo 531) 22 (252 ∷ 392 ∷ 112 ∷ 0 ∷ 56 ∷ 140 ∷ 196 ∷ 336 ∷ 504 ∷ 280 ∷ 224 ∷ 364 ∷ 476 ∷ 84 ∷ 28 ∷ 448 ∷ 168 ∷ 420 ∷ 308 ∷ 269 ∷ []) refl
    -- K 2,281: the first row order of twenty; C = p - 1
    ∷ row p (turbo 2281) 0 (127 ∷ []) refl
    ∷ row total (turbo 2281) 0 (2520 ∷ []) refl
    ∷ row give (turbo 2281) 22 (1134 ∷ 1764 ∷ 504 ∷ 0 ∷ 252 ∷ 630 ∷ 882 ∷ 1512 ∷ 2268 ∷ 2016 ∷ 1638 ∷ 2142 ∷ 1890 ∷ 378 ∷ 126 ∷ 756 ∷ 1386 ∷ 1008 ∷ 1260 ∷ 1242 ∷ []) refl
    ∷ []
