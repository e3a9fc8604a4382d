-- A record stored in an entry is read back: its branch and its places, behind the first four numbers; and these stay as they were.
use Rattle.std.specs.Prelude.{ℕ, ◌+◌, ◌-◌, ◌*◌, ◌≤◌, ◌<◌, ◌≡◌, length}
use mathlib.Core.List.{List, [], append-nil}
use Rattle.std.proofs.Common.{⊎_elim, sym, ap₂, ◌∙◌, zero-add, length-append}
use Rattle.std.proofs.Math.Path.{refl, ap}
use native.Mathlib.Omega.{arith}
use Rattle.std.proofs.Math.ListN.{get_or}
use Rattle.std.proofs.lemmas.List.Edits.{sets}
use Rattle.laws.specs.Chained.{chained_length}
use Rattle.laws.specs.Members.{chained}
use Rattle.laws.specs.Parts.{part, part_behind, part_stored}
use Rattle.laws.specs.Run.{run, run_same, run_get_or}
use Rattle.big_end.specs.Numbers.{number_at, number_bytes}
use Rattle.big_end.specs.Back.{number_back, number_part, number_in_part, numbers_back}
use Rattle.kinds.specs.declared.Stream.{Stream}
use Rattle.kinds.specs.Kinds.{sizes_of, sound}
use Rattle.kinds.specs.Ranges.{Ranges}
use Rattle.gateway_form.specs.Form.{kind_of, direction_of, offset_of, length_of, branch_of, places_of, record_of, stand_bytes}
use Rattle.gateway_form.specs.Limits.{either_side}

-- a record whose numbers an entry can hold: those of every record in its ranges
pub record Kept (s : Stream) : Type 0 where
  pub long : length s.places ≡ 51
  pub branch : s.branch < 4294967296
  pub places : (x : ℕ) → x < 51 → get_or s.places x 0 < 4294967296

pub ranges_kept : (s : Stream) → length s.places ≡ 51 → Ranges s → Kept s
ranges_kept s l r = record {
  long = l;
  branch = omega (arith, r.branch, (sound s.kind).few);
  places = λ x h. ⊎_elim
      (λ o.
      let q : x + 1 - 1 ≡ x = omega arith in
      omega (arith, rw q at (r.places (x + 1) (omega arith) o), (sound s.kind).ring (x + 1) o))
      (λ o. omega (arith, r.lacks x h (omega arith)))
      (either_side (x + 1) (sizes_of s.kind).branches);
}

pub stand_length : (s : Stream) → length s.places ≡ 51 → length (stand_bytes s) ≡ 208
unfolding stand_bytes
stand_length s e =
    length-append (number_bytes s.branch) (chained number_bytes s.places)
    ∙ ap (λ (n : ℕ). 4 + n) (chained_length number_bytes 4 (λ v. refl) s.places ∙ ap (λ (n : ℕ). 4 * n) e)

-- a list of bytes that has a record's from byte 16 on says that record's branch and places
module _ (e : List ℕ) (s : Stream) (k : Kept s) (there : part 16 208 e ≡ stand_bytes s) where
  in_stand : (i : ℕ) → i + 4 ≤ 208 → number_at e (16 + i) ≡ number_at (stand_bytes s) i
  in_stand i h = sym (number_in_part e 16 208 i h) ∙ ap (λ (l : List ℕ). number_at l i) there

  pub branch_back : branch_of e ≡ s.branch
  unfolding stand_bytes number_at
  branch_back = in_stand 0 (omega arith) ∙ number_back s.branch k.branch

  place_back : (x : ℕ) → x < 51 → number_at e (20 + 4 * x) ≡ get_or s.places x 0
  unfolding stand_bytes
  place_back x h =
      let q : 20 + 4 * x ≡ 16 + (4 + 4 * x) = omega arith in
      ap (number_at e) q ∙ in_stand (4 + 4 * x) (omega arith)
      ∙ number_part (number_bytes s.branch) (chained number_bytes s.places) 4 (4 * x) refl
      ∙ ap (λ (l : List ℕ). number_at l (4 * x)) (sym (append-nil (chained number_bytes s.places)))
      ∙ numbers_back s.places [] (λ i l. k.places i (omega (arith, k.long))) x (omega (arith, k.long))

  pub places_back : places_of e ≡ s.places
  unfolding places_of
  places_back =
      run_same (λ x. number_at e (20 + 4 * x)) (λ x. get_or s.places x 0) 0 51 (λ x h. place_back x (omega arith))
      ∙ ap (run (λ x. get_or s.places x 0) 0) (sym k.long) ∙ run_get_or s.places 0

-- a record stored in an entry: the first four numbers stay, and the record is there
module _ (e : List ℕ) (s : Stream) (k : Kept s) (room : length e ≡ 224) where
  abbrev new : List ℕ
  new = sets e 16 (stand_bytes s)

  stays : (i : ℕ) → i + 4 ≤ 16 → number_at new i ≡ number_at e i
  stays i h =
      let q = sym (number_in_part new 0 16 i h) ∙ ap (λ (l : List ℕ). number_at l i) (part_behind 0 16 e 16 (stand_bytes s) (omega arith)) ∙ number_in_part e 0 16 i h in
      rw (zero-add i) at q

  pub head_stays : (kind_of new ≡ kind_of e) × (direction_of new ≡ direction_of e) × (offset_of new ≡ offset_of e) × (length_of new ≡ length_of e)
  head_stays = (stays 0 (omega arith), stays 4 (omega arith), stays 8 (omega arith), stays 12 (omega arith))

  pub record_back : s.kind ≡ kind_of e → record_of new ≡ s
  record_back q =
      let there : part 16 208 new ≡ stand_bytes s = part_stored e 16 208 (stand_bytes s) (stand_length s k.long) (omega (arith, room)) in
      ap₂ (λ (b : ℕ) (ps : List ℕ). record { kind = kind_of new; branch = b; places = ps }) (branch_back new s k there) (places_back new s k there)
      ∙ ap (λ (n : ℕ). record { kind = n; branch = s.branch; places = s.places }) (head_stays.0 ∙ sym q)
