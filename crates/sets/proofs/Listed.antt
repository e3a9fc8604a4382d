-- The listed sets: every listed size with every stream of its profile, counted out; and that exactly these are accepted, where no sentence of what
-- a set must have beside them holds.
use Rattle.std.specs.Prelude.{ℕ, ◌*◌, Bool, true, ◌↔◌, ◌≡◌, refl, leb, eqb, length}
use mathlib.Core.List.Memᴰ
use mathlib.Core.List.{List, [], ◌∷◌, map, Memᴰ}
use Rattle.std.proofs.Common.{sym, ap, ap₂, ◌∙◌, zero-mul, arith, length-append}
use Rattle.std.proofs.lemmas.List.{length-map}
use borrow.Author.Tests.{leb-true, le-leb, eqb-true}
use Rattle.laws.specs.Outcome.{done}
use Rattle.laws.specs.Told.{NoneTrue}
use Rattle.laws.specs.Run.{run, run_mem, mem_run, length_run}
use Rattle.laws.specs.Members.{both, at_each, chained, in_chained, of_chained}
use Rattle.sizes.specs.declared.Size.{Size}
use Rattle.profiles.specs.Entry.{Row, Entry}
use Rattle.profiles.specs.Profiles.{profiles, in_table, entry_by, numbers_by}
use Rattle.sizes.specs.Size.{size, in_row, sizes_of}
use Rattle.sizes.specs.Tests.{listed_sizes}
use Rattle.sets.specs.declared.Set.{Set}
use Rattle.sets.specs.Set.{size_of, numbers_of}
use Rattle.sets.specs.Stream.{stream_listed}
use Rattle.sets.specs.Beside.{beside_sentences}
use Rattle.sets.specs.Verdict.{verdict_of}
use Rattle.sets.proofs.Admits.{passed_accepted}
use Rattle.sets.specs.Listed.{streamed, with_each, sets_of, listed_sets, entry_of}

-- what is in such a list
of_streams : (is : List ℕ) (zs : List Size) {z : Size} {i : ℕ} → Memᴰ (streamed z i) (chained (with_each is) zs) → Memᴰ z zs × Memᴰ i is
of_streams is zs m =
    let g = of_chained (with_each is) zs m in
    let r = Memᴰ.of_map (streamed g.0) is g.2 in
    (Memᴰ.cast (sym (ap (λ (x : Size × ℕ). x.0) r.2)) g.1, Memᴰ.cast (sym (ap (λ (x : Size × ℕ). x.1) r.2)) r.1)

-- a size of an entry has its number
of_number : (p : ℕ) (rs : List Row) {z : Size} → Memᴰ z (chained (in_row p) rs) → z.profile ≡ p
of_number p rs m =
    let g = of_chained (in_row p) rs m in
    sym (ap (λ (x : Size). x.profile) (Memᴰ.of_map (size p g.0.bits) g.0.sizes g.2).2)

-- so its streams are those of its profile
own_streams : Entry → Bool
own_streams q = eqb q.numbers.streams (in_table q.number).numbers.streams

streams_of : {q : Entry} {z : Size} → Memᴰ q profiles → Memᴰ z (sizes_of q) → q.numbers.streams ≡ (numbers_by z.profile).streams
unfolding own_streams entry_by
streams_of {q} {z} m h =
    eqb-true _ _ (at_each own_streams profiles refl m) ∙ ap (λ (p : ℕ). (in_table p).numbers.streams) (sym (of_number q.number q.rows h))

-- a set is listed exactly when its size is and its stream passes
module _ (s : Set) where
  listed_in : Memᴰ (entry_of s) listed_sets → Memᴰ (size_of s) listed_sizes × (stream_listed s ≡ true)
  unfolding listed_sets listed_sizes stream_listed numbers_of
  listed_in m =
      let q = of_chained sets_of profiles m in
      let r = of_streams (run (λ i. i) 1 q.0.numbers.streams) (sizes_of q.0) q.2 in
      let i = mem_run (λ i. i) 1 q.0.numbers.streams r.1 in
      let e = streams_of q.1 r.0 in
      (in_chained sizes_of profiles q.1 r.0, rw (le-leb 1 s.stream (omega (arith, i.1, i.3)), le-leb s.stream (numbers_by s.profile).streams (omega (arith, e, i.2, i.3))))

  in_listed : Memᴰ (size_of s) listed_sizes → stream_listed s ≡ true → Memᴰ (entry_of s) listed_sets
  unfolding listed_sets listed_sizes stream_listed numbers_of
  in_listed m t =
      let q = of_chained sizes_of profiles m in
      let e = streams_of q.1 q.2 in
      let b = both (leb 1 s.stream) _ t in
      let lo = leb-true 1 s.stream b.0 in
      let hi = leb-true s.stream (numbers_by s.profile).streams b.1 in
      let i = run_mem (λ i. i) 1 q.0.numbers.streams s.stream lo (omega (arith, e)) in
      in_chained sets_of profiles q.1 (in_chained (with_each (run (λ i. i) 1 q.0.numbers.streams)) (sizes_of q.0) q.2 (Memᴰ.map (streamed (size_of s)) i))

  -- and so it is accepted exactly when it is listed and no sentence of what it must have beside that holds
  pub admits : (Memᴰ (entry_of s) listed_sets × NoneTrue (beside_sentences s)) ↔ (verdict_of s ≡ done tt)
  admits = (
    λ h. let l = listed_in h.0 in (passed_accepted s).0 (record { size_listed_lem = l.0; stream_passes = l.1; beside_none = h.1 }),
    λ e. let p = (passed_accepted s).1 e in (in_listed p.size_listed_lem p.stream_passes, p.beside_none),
  )

-- how many there are: sizes, times streams
length_with : (is : List ℕ) (zs : List Size) → length (chained (with_each is) zs) ≡ length zs * length is
length_with is [] = sym (zero-mul (length is))
length_with is (z ∷ zs) =
    length-append (map (streamed z) is) (chained (with_each is) zs) ∙ omega (arith, length-map is (streamed z), length_with is zs)

pub sets_of_lem : (q : Entry) {n i : ℕ} → length (sizes_of q) ≡ n → q.numbers.streams ≡ i → length (sets_of q) ≡ n * i
sets_of_lem q e f =
    length_with (run (λ i. i) 1 q.numbers.streams) (sizes_of q) ∙ ap₂ ◌*◌ e (length_run (λ i. i) 1 q.numbers.streams ∙ f)
