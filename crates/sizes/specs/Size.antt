-- A size is a profile, bits per carrier and N; and the sizes of a table, entry by entry. Over any table. Rests on Entry of
-- crate profiles.
use Rattle.std.specs.Prelude.{◌⊎◌, ℕ}
use Rattle.std.proofs.Common.{inl, inr, ⊎_elim}
use mathlib.Core.List.Memᴰ
use mathlib.Core.List.{List, ◌++◌, map, Memᴰ}
use Rattle.laws.specs.Members.{chained, in_chained, of_chained}
use Rattle.profiles.specs.Entry.{Row, Entry}
use Rattle.sizes.specs.declared.Size.{Size}

abbrev pub size : ℕ → ℕ → ℕ → Size
size p b n = record { profile = p; bits = b; n = n }

-- the sizes of a row, of a profile, of profiles
abbrev pub in_row : ℕ → Row → List Size
in_row p r = map (size p r.bits) r.sizes

abbrev pub sizes_of : Entry → List Size
sizes_of q = chained (in_row q.number) q.rows

abbrev pub all_sizes : List Entry → List Size
all_sizes qs = chained sizes_of qs

-- what stands in a row stands in the profile
pub in_rows : (p : ℕ) (rs : List Row) {r : Row} {n : ℕ}
    → Memᴰ r rs → Memᴰ n r.sizes → Memᴰ (size p r.bits n) (chained (in_row p) rs)
in_rows p rs {r} m h = in_chained (in_row p) rs m (Memᴰ.map (size p r.bits) h)

-- in one of two tables
pub either_all : (ps qs : List Entry) {z : Size}
    → Memᴰ z (all_sizes (ps ++ qs)) → Memᴰ z (all_sizes ps) ⊎ Memᴰ z (all_sizes qs)
either_all ps qs m =
    let r = of_chained sizes_of (ps ++ qs) m in
    ⊎_elim (λ l. inl (in_chained sizes_of ps l r.2)) (λ l. inr (in_chained sizes_of qs l r.2)) (Memᴰ.append_cases ps r.1)
