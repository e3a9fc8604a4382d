-- The profiles: what each is in numbers, and what it admits, counted out with no remainder taken anywhere: document 01's table "Profiles and what each
-- admits", change request 4's profiles 6 and 7, change request 6's profile 8, and change request 12's profile 9. Then the tests of bits and N that the
-- numbers make; proofs/Counted.antt, with specs/Listed.antt of sizes, shows that they and the count agree. What is proved of a further profile of carriers,
-- of one stream or of four, needs its lines here and in src/table.rt, and no others, as far as N is at most 1,536 and its unit below 1,000. These are
-- definitions.
use Rattle.std.specs.Prelude.{Bool, cond, ◌&&◌, List, [], ◌∷◌, ◌++◌, ℕ, ◌+◌, ◌*◌, ◌%◌, leb, eqb}
use Rattle.laws.specs.Run.{run}
use Rattle.laws.specs.Members.{one_of, multiple}
use Rattle.profiles.specs.declared.Family.{Family}
use Rattle.profiles.specs.declared.Family.TheVariants.{Carrier, Spatial, Turbo, Quadratic, Coupled}
use Rattle.profiles.specs.declared.Bits.{Bits}
use Rattle.profiles.specs.declared.Bits.TheVariants.{Each, Even, One}
use Rattle.profiles.specs.declared.Form.{Form}
use Rattle.profiles.specs.declared.Form.TheVariants.{Only, Doubled, Multiple, Grouped, Range, Tiered, Fours}
use Rattle.profiles.specs.declared.Numbers.{Numbers}
use Rattle.profiles.specs.declared.Admitted.{Admitted}
use Rattle.profiles.specs.Entry.{row, Entry, numbers, admitted, multiples, onwards}

-- 1, IEEE 802.16 OFDM: d 12; for w in 1, 2, 4, 8, 16: bits 1: 12w; 2: 24w; 4: 48w; 6: 72w, which is 12 times bits times w
abbrev pub ofdm : Entry
ofdm = record {
  number = 1;
  family = Carrier;
  numbers = numbers 12 0 1;
  admitted = admitted Each Doubled 12 0;
  rows =
      row 1 (12 ∷ 24 ∷ 48 ∷ 96 ∷ 192 ∷ [])
      ∷ row 2 (24 ∷ 48 ∷ 96 ∷ 192 ∷ 384 ∷ [])
      ∷ row 4 (48 ∷ 96 ∷ 192 ∷ 384 ∷ 768 ∷ [])
      ∷ row 6 (72 ∷ 144 ∷ 288 ∷ 576 ∷ 1152 ∷ [])
      ∷ [];
}

-- 2, IEEE 802.16 OFDMA, house limit: d 16; bits 2, 4, 6; N a positive multiple of 48·bits, at most 576
abbrev pub ofdma : Entry
ofdma = record {
  number = 2;
  family = Carrier;
  numbers = numbers 16 0 1;
  admitted = admitted Even Multiple 48 576;
  rows =
      row 2 (96 ∷ 192 ∷ 288 ∷ 384 ∷ 480 ∷ 576 ∷ [])
      ∷ row 4 (192 ∷ 384 ∷ 576 ∷ [])
      ∷ row 6 (288 ∷ 576 ∷ [])
      ∷ [];
}

-- 3, IEEE 802.11a: d 16; bits 1: 48; 2: 96; 4: 192; 6: 288
abbrev pub wlan : Entry
wlan = record {
  number = 3;
  family = Carrier;
  numbers = numbers 16 0 1;
  admitted = admitted Each Only 48 0;
  rows = row 1 (48 ∷ []) ∷ row 2 (96 ∷ []) ∷ row 4 (192 ∷ []) ∷ row 6 (288 ∷ []) ∷ [];
}

-- 4, bench: d 16; bits 1, 2, 4, 6; N a positive multiple of 16·s, at most 1,536
abbrev pub bench : Entry
bench = record {
  number = 4;
  family = Carrier;
  numbers = numbers 16 0 1;
  admitted = admitted Each Grouped 16 1536;
  rows = row 1 (multiples 16 96) ∷ row 2 (multiples 16 96) ∷ row 4 (multiples 32 48) ∷ row 6 (multiples 48 32) ∷ [];
}

-- 5, WCDMA turbo, 3GPP TS 25.212 4.2.3.2.3: bits 1; N from 40 to 5,114
unfoldable pub turbo_sizes : List ℕ
turbo_sizes = run (λ j. 40 + j) 0 5075

abbrev pub turbo : Entry
turbo = record {
  number = 5;
  family = Turbo;
  numbers = numbers 0 0 1;
  admitted = admitted One Range 40 5114;
  rows = row 1 turbo_sizes ∷ [];
}

-- 6, IEEE 802.11n at 20 MHz: d 13, r 11, streams 1 to 4; N = 52·bits, bits 1, 2, 4, 6
abbrev pub ht20 : Entry
ht20 = record {
  number = 6;
  family = Spatial;
  numbers = numbers 13 11 4;
  admitted = admitted Each Only 52 0;
  rows = row 1 (52 ∷ []) ∷ row 2 (104 ∷ []) ∷ row 4 (208 ∷ []) ∷ row 6 (312 ∷ []) ∷ [];
}

-- 7, IEEE 802.11n at 40 MHz: d 18, r 29, streams 1 to 4; N = 108·bits, bits 1, 2, 4, 6
abbrev pub ht40 : Entry
ht40 = record {
  number = 7;
  family = Spatial;
  numbers = numbers 18 29 4;
  admitted = admitted Each Only 108 0;
  rows = row 1 (108 ∷ []) ∷ row 2 (216 ∷ []) ∷ row 4 (432 ∷ []) ∷ row 6 (648 ∷ []) ∷ [];
}

-- 8, LTE turbo, 3GPP TS 36.212 5.1.3.2.3: bits 1; K 40 to 512 by 8, to 1,024 by 16, to 2,048 by 32, to 6,144 by 64
unfoldable pub lte_sizes : List ℕ
lte_sizes = onwards 40 8 60 ++ (onwards 528 16 32 ++ (onwards 1056 32 32 ++ onwards 2112 64 64))

abbrev pub lte : Entry
lte = record {
  number = 8;
  family = Quadratic;
  numbers = numbers 0 0 1;
  admitted = admitted One Tiered 40 6144;
  rows = row 1 lte_sizes ∷ [];
}

-- 9, the couples of the turbo code of IEEE 802.16: bits 1; N couples, N a multiple of 4 from 24 to 2,400
unfoldable pub couple_sizes : List ℕ
couple_sizes = onwards 24 4 595

abbrev pub wimax : Entry
wimax = record {
  number = 9;
  family = Coupled;
  numbers = numbers 0 0 1;
  admitted = admitted One Fours 24 2400;
  rows = row 1 couple_sizes ∷ [];
}

-- the profiles, by family
abbrev pub carriers : List Entry
carriers = ofdm ∷ ofdma ∷ wlan ∷ bench ∷ []

abbrev pub turbos : List Entry
turbos = turbo ∷ []

abbrev pub spatials : List Entry
spatials = ht20 ∷ ht40 ∷ []

abbrev pub quadratics : List Entry
quadratics = lte ∷ []

abbrev pub coupleds : List Entry
coupleds = wimax ∷ []

abbrev pub profiles : List Entry
profiles = carriers ++ (turbos ++ (spatials ++ (quadratics ++ coupleds)))

abbrev pub last_profile : ℕ
last_profile = 9

-- the profile whose entry stands for the numbers past the last: one whose M is walked, so that 1 is said of such a number for itself alone
abbrev pub beyond : ℕ
beyond = 7

-- those of several streams
abbrev pub many_streams : List ℕ
many_streams = 6 ∷ 7 ∷ []

-- the number is a profile's
abbrev pub number_listed : ℕ → Bool
number_listed p = leb 1 p && leb p last_profile

-- the entry of a number. (Of 0 it is that of 1, and past the last number that of 7: no address comes of either, and no refusal but 1)
abbrev pub among : ℕ → Entry → List Entry → Entry
among p z [] = z
among p z (q ∷ qs) = cond (eqb p q.number) q (among p z qs)

abbrev pub ends : ℕ → Entry
ends p = cond (eqb p 0) (among 1 ofdm profiles) (among beyond ofdm profiles)

abbrev pub in_table : ℕ → Entry
in_table p = among p (ends p) profiles

unfoldable pub entry_by : ℕ → Entry
entry_by p = in_table p

abbrev pub family_by : ℕ → Family
family_by p = (entry_by p).family

abbrev pub numbers_by : ℕ → Numbers
numbers_by p = (entry_by p).numbers

abbrev pub admitted_by : ℕ → Admitted
admitted_by p = (entry_by p).admitted

-- s of a carrier interleaver: 1, 1, 2, 3 for bits 1, 2, 4, 6, which is max(N_BPSC/2, 1) of IEEE 802.11, N_BPSC being the bits per carrier
-- (`group_standard` in specs/Listed.antt of sizes). For other bits it is not read
abbrev pub group_by : ℕ → ℕ
group_by b = cond (eqb b 6) 3 (cond (eqb b 4) 2 1)

-- the step to a size of LTE from the one before it
abbrev pub step_by : ℕ → ℕ
step_by n = cond (leb n 512) 8 (cond (leb n 1024) 16 (cond (leb n 2048) 32 64))

-- the bits are among those that are admitted
abbrev pub bits_of : Bits → List ℕ
bits_of Each = 1 ∷ 2 ∷ 4 ∷ 6 ∷ []
bits_of Even = 2 ∷ 4 ∷ 6 ∷ []
bits_of One = 1 ∷ []

abbrev pub bits_in : Admitted → ℕ → Bool
bits_in a b = one_of b (bits_of a.bits)

-- N is admitted with the bits: by the form of the sizes, over the unit u and the limit m
abbrev pub doubles : ℕ → List ℕ
doubles u = u ∷ 2 * u ∷ 4 * u ∷ 8 * u ∷ 16 * u ∷ []

abbrev pub size_in : Form → ℕ → ℕ → ℕ → ℕ → Bool
size_in Only u m b n = eqb n (u * b)
size_in Doubled u m b n = one_of n (doubles (u * b))
size_in Multiple u m b n = multiple (u * b) m n
size_in Grouped u m b n = multiple (u * group_by b) m n
size_in Range u m b n = leb u n && leb n m
size_in Tiered u m b n = leb u n && (leb n m && eqb (n % step_by n) 0)
size_in Fours u m b n = leb u n && (leb n m && eqb (n % 4) 0)

abbrev pub size_by : Admitted → ℕ → ℕ → Bool
size_by a b n = size_in a.form a.unit a.limit b n
