-- The table as the code has it: f1 and f2 each in the order of K, and the place of a K, by the tiers of the sizes. One computed law says that at the place
-- of each listed K stand the numbers of its row. Rests on Standard.
use Rattle.std.specs.Prelude.{Bool, true, cond, ◌&&◌, ◌≡◌, refl, ℕ, ◌+◌, ◌-◌, ◌/◌, ◌≤◌, ◌<◌, leb, ltb, eqb, get_or}
use mathlib.Core.List.{List, [], ◌∷◌, map, Memᴰ}
use Rattle.std.proofs.Common.{leb-true, ltb-true, eqb-true}
use Rattle.laws.specs.Members.{both, every, at_each}
use Rattle.profiles.specs.Profiles.{lte_sizes}
use Rattle.lte.specs.Standard.{Row, row, standard}

unfoldable pub firsts : List ℕ
firsts = map (λ r. r.first) standard

unfoldable pub seconds : List ℕ
seconds = map (λ r. r.second) standard

-- the row of a K in a table. (Of a K that has none, one of zeros)
abbrev pub row_in : List Row → ℕ → Row
row_in [] k = row k 0 0
row_in (r ∷ rs) k = cond (eqb k r.size) r (row_in rs k)

-- f1 and f2 of a K
unfoldable pub first_of : ℕ → ℕ
first_of k = (row_in standard k).first

unfoldable pub second_of : ℕ → ℕ
second_of k = (row_in standard k).second

-- the place of a K: 40 to 512 by 8 are 60 sizes, to 1,024 by 16 are 32, to 2,048 by 32 are 32, and the last is place 187
unfoldable pub place_of : ℕ → ℕ
place_of k = cond (leb k 512) (k / 8 - 5) (cond (leb k 1024) (k / 16 + 27) (cond (leb k 2048) (k / 32 + 59) (k / 64 + 91)))

-- what stands there
pub record InTable (k : ℕ) : Type 0 where
  pub least : 40 ≤ k
  pub place_in : place_of k < 188
  pub first_is : get_or firsts (place_of k) 0 ≡ first_of k
  pub second_is : get_or seconds (place_of k) 0 ≡ second_of k

in_table : ℕ → Bool
in_table k =
    leb 40 k
    && (ltb (place_of k) 188 && (eqb (get_or firsts (place_of k) 0) (first_of k) && eqb (get_or seconds (place_of k) 0) (second_of k)))

all_in : every in_table lte_sizes ≡ true
unfolding in_table lte_sizes firsts seconds standard place_of first_of second_of
all_in = refl

pub in_table_lem : {k : ℕ} → Memᴰ k lte_sizes → InTable k
unfolding in_table
in_table_lem {k} m =
    let p = both (leb 40 k) _ (at_each in_table lte_sizes all_in m) in
    let q = both (ltb (place_of k) 188) _ p.1 in
    let r = both (eqb (get_or firsts (place_of k) 0) (first_of k)) _ q.1 in
    record {
      least = leb-true 40 k p.0;
      place_in = ltb-true (place_of k) 188 q.0;
      first_is = eqb-true _ _ r.0;
      second_is = eqb-true _ _ r.1;
    }
