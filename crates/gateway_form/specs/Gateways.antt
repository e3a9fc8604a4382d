-- The form of a gateway's store in the request's sentences: 1 to 8 machines, whose entries lie inside the store; each entry of a known kind and direction, its length the
-- kind's, its branch and places in their ranges; the first share where the header ends, each other where the one before it ends, and the last to the store's
-- end. A store passes the test of the form exactly if it is so.
use Rattle.std.specs.Prelude.{ℕ, ◌+◌, ◌≤◌, ◌<◌, true, ◌&&◌, List, ◌⊎◌, ◌↔◌, ◌≡◌, refl, eqb, leb, length}
use Rattle.std.proofs.Common.{sym, ◌∙◌, arith, eq-eqb, eqb-true, leb-true}
use Rattle.laws.specs.Gapless.{Gapless, meets_gapless, gapless_meets, before, from_the_first, inside}
use Rattle.laws.specs.Members.{both, every, at_run, every_run, either_is, is_either}
use Rattle.laws.specs.Run.{run}
use Rattle.kinds.specs.Kinds.{known, sizes_of, in_range}
use Rattle.kinds.specs.Ranges.{Known, known_is, is_known, Ranges, ranges, range_in}
use Rattle.gateway_form.specs.Form.{kind_of, direction_of, length_of, record_of, directed, entry_fits}
use Rattle.gateway_form.specs.Form.{machines_in, entry_place, entry_in, offset_in, length_in, entries_fit, formed}
use Rattle.gateway_form.specs.Testing.{by_entries}

-- directions are 1 and 2
abbrev pub Directed : ℕ → Type 0
Directed d = (d ≡ 1) ⊎ (d ≡ 2)

-- an entry of the form, wherever its share begins
pub record Entry (e : List ℕ) : Type 0 where
  pub kind : Known (kind_of e)
  pub direction : Directed (direction_of e)
  pub long : length_of e ≡ (sizes_of (kind_of e)).store
  pub within : Ranges (record_of e)

pub entry_fits_lem : (e : List ℕ) → (entry_fits e ≡ true) ↔ Entry e
unfolding entry_fits directed
entry_fits_lem e = (there, back)
  where
    there : (known (kind_of e) && (directed (direction_of e) && (eqb (length_of e) (sizes_of (kind_of e)).store && in_range (record_of e)))) ≡ true → Entry e
    there t =
        let p = both (known (kind_of e)) _ t in
        let q = both (directed (direction_of e)) _ p.1 in
        let r = both (eqb (length_of e) (sizes_of (kind_of e)).store) _ q.1 in
        record {
          kind = known_is (kind_of e) p.0;
          direction = either_is 1 2 (direction_of e) q.0;
          long = eqb-true (length_of e) (sizes_of (kind_of e)).store r.0;
          within = ranges (record_of e) r.1;
        }

    back : Entry e → (known (kind_of e) && (directed (direction_of e) && (eqb (length_of e) (sizes_of (kind_of e)).store && in_range (record_of e)))) ≡ true
    back z =
        rw (is_known (kind_of e) z.kind, is_either 1 2 (direction_of e) z.direction, eq-eqb (length_of e) (sizes_of (kind_of e)).store z.long)
        (range_in (record_of e) z.within)

-- a store of the form
pub record Gateway (f : List ℕ) : Type 0 where
  pub some : 1 ≤ machines_in f
  pub few : machines_in f ≤ 8
  pub header : entry_place (machines_in f) ≤ length f
  pub entries : (i : ℕ) → i < machines_in f → Entry (entry_in f i)
  pub shares : Gapless (offset_in f) (length_in f) (length f) (machines_in f) (entry_place (machines_in f))

pub formed_exactly : (f : List ℕ) → (formed f ≡ true) ↔ Gateway f
unfolding formed entries_fit
formed_exactly f = (there, back)
  where
    m : ℕ
    m = machines_in f

    there : formed f ≡ true → Gateway f
    there t =
        let a = both (leb 4 (length f)) _ t in
        let b = both (leb 1 (machines_in f)) _ a.1 in
        let c = both (leb (machines_in f) 8) _ b.1 in
        let d = both (leb (entry_place (machines_in f)) (length f)) _ c.1 in
        let g = both (every entry_fits (run (entry_in f) 0 (machines_in f))) _ d.1 in
        let one = leb-true 1 (machines_in f) b.0 in
        record {
          some = one;
          few = leb-true (machines_in f) 8 c.0;
          header = leb-true (entry_place (machines_in f)) (length f) d.0;
          entries = λ i h. (entry_fits_lem (entry_in f i)).0 (at_run entry_fits (entry_in f) 0 (machines_in f) g.0 i (omega arith) (omega arith));
          shares = meets_gapless (offset_in f) (length_in f) (length f) (machines_in f) (entry_place (machines_in f)) one g.1;
        }

    back : Gateway f → formed f ≡ true
    back z =
        sym (by_entries f (omega (arith, z.header)) refl z.some z.few z.header)
        ∙ rw (every_run entry_fits (entry_in f) 0 (machines_in f) (λ i h l. (entry_fits_lem (entry_in f i)).1 (z.entries i (omega arith))))
        (gapless_meets (offset_in f) (length_in f) (length f) (machines_in f) (entry_place (machines_in f)) z.some z.shares)

-- where entries and shares lie: every entry in the header, every share behind it and inside the store, and no two of them meet
module _ {f : List ℕ} (z : Gateway f) where
  pub entry_inside : (i : ℕ) → i < machines_in f → entry_place i + 224 ≤ length f
  entry_inside i h = omega (arith, z.header)

  pub share_inside : (i : ℕ) → i < machines_in f → offset_in f i + length_in f i ≤ length f
  share_inside i h = inside (offset_in f) (length_in f) (length f) z.shares i h

  pub share_behind : (i j : ℕ) → i < machines_in f → j < machines_in f → entry_place i + 224 ≤ offset_in f j
  share_behind i j h l = omega (arith, from_the_first (offset_in f) (length_in f) (length f) z.shares j l)

  pub shares_apart : (i j : ℕ) → i < j → j < machines_in f → offset_in f i + length_in f i ≤ offset_in f j
  shares_apart i j h l = before (offset_in f) (length_in f) (length f) z.shares i j h l
