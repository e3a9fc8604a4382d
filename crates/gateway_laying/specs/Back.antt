-- A store just laid out is of the form: it has as many machines as kinds were given, and each vessel's entry and share are its own.
use Rattle.std.specs.Prelude.{ℕ, min, ◌+◌, ◌-◌, ◌*◌, ◌≤◌, ◌<◌, true, ◌≡◌, get_or, take}
use mathlib.Core.List.{List, [], ◌++◌, append-nil, append_assoc}
use Rattle.std.proofs.Common.{⊎_elim, ◌∙◌, arith, length-take-le, take_all}
use Rattle.std.proofs.Math.Path.{refl, sym, ap, ap₂}
use Rattle.std.proofs.Math.ListN.{length, length-append}
use Rattle.laws.specs.Chained.{chained_part}
use Rattle.laws.specs.Members.{chained, every, at_each, either_is}
use Rattle.laws.specs.Parts.{part, part_append}
use Rattle.laws.specs.Run.{run, take_run, mem_at}
use Rattle.big_end.specs.Numbers.{number_at, number_bytes}
use Rattle.big_end.specs.Back.{number_back}
use Rattle.kinds.specs.declared.Stream.{Stream}
use Rattle.kinds.specs.Kinds.{known, sizes_of, sound, start_record}
use Rattle.kinds.specs.Ranges.{known_is, ranges}
use Rattle.streams.specs.Fed.{start_store}
use Rattle.streams.specs.Ready.{Ready}
use Rattle.streams.proofs.Ready.{ready_start}
use Rattle.gateway_form.specs.Form.{kind_of, direction_of, offset_of, length_of, record_of, directed, stand_bytes, entry_bytes}
use Rattle.gateway_form.specs.Form.{machines_in, entry_place, entry_in, offset_in, length_in, share_in}
use Rattle.gateway_form.specs.Back.{Kept, ranges_kept, stand_length, branch_back, places_back}
use Rattle.gateway_form.specs.Gateways.{Directed, Entry, Gateway}
use Rattle.gateway_laying.specs.Laid.{start_of, laid_entry, laid_share, vessels, laid_out}
use Rattle.gateway_laying.specs.Laying.{entry_length, share_length, entries_length, shares_length, laid_length, vessel_at, vessels_long}
use Rattle.gateway_laying.specs.Laying.{start_first, start_next, start_low, header_inside, kind_at}

-- an entry written is an entry read
pub record EntryRead (e : List ℕ) (direction offset : ℕ) (s : Stream) : Type 0 where
  pub direction_is : direction_of e ≡ direction
  pub offset_is : offset_of e ≡ offset
  pub length_is : length_of e ≡ (sizes_of s.kind).store
  pub record_is : record_of e ≡ s

pub entry_read : (direction offset : ℕ) (s : Stream) → direction < 4294967296 → offset < 4294967296 → s.kind < 4294967296 → Kept s
    → EntryRead (entry_bytes direction offset s) direction offset s
unfolding entry_bytes number_at
entry_read direction offset s hd ho hk k =
    let e = number_bytes s.kind ++ (number_bytes direction ++ (number_bytes offset ++ (number_bytes (sizes_of s.kind).store ++ stand_bytes s))) in
    let front = number_bytes s.kind ++ (number_bytes direction ++ (number_bytes offset ++ number_bytes (sizes_of s.kind).store)) in
    let all : take 208 (stand_bytes s) ≡ stand_bytes s = take_all 208 (stand_bytes s) (omega (arith, stand_length s k.long)) in
    let there : part 16 208 e ≡ stand_bytes s = part_append front (stand_bytes s) {at = 16} 0 208 refl ∙ all in
    record {
      direction_is = number_back direction hd;
      offset_is = number_back offset ho;
      length_is = number_back (sizes_of s.kind).store (omega (arith, (sound s.kind).low));
      record_is =
          ap₂ (λ (b : ℕ) (ps : List ℕ). record { kind = kind_of e; branch = b; places = ps }) (branch_back e s k there) (places_back e s k there)
          ∙ ap (λ (n : ℕ). record { kind = n; branch = s.branch; places = s.places }) (number_back s.kind hk);
    }

-- lists that are not refused
pub record Good (kinds directions fills : List ℕ) : Type 0 where
  pub some : 1 ≤ length kinds
  pub few : length kinds ≤ 8
  pub directions_equal : length directions ≡ length kinds
  pub fills_equal : length fills ≡ length kinds
  pub kinds_good : every known kinds ≡ true
  pub directions_good : every directed directions ≡ true

start_kind : (k : ℕ) → (start_record k).kind ≡ k
unfolding start_record
start_kind k = refl

-- 1 and 2 are no large numbers
either_low : (x : ℕ) → Directed x → x < 4294967296
either_low x d = ⊎_elim (λ (e : x ≡ 1). omega arith) (λ (e : x ≡ 2). omega arith) d

module _ (kinds directions fills : List ℕ) (g : Good kinds directions fills) where
  abbrev laid : List ℕ
  laid = laid_out kinds directions fills

  pub laid_machines : machines_in laid ≡ length kinds
  unfolding laid_out number_at
  laid_machines = number_back (length kinds) (omega (arith, g.few))

  module _ (i : ℕ) (h : i < length kinds) where
    before : take i (vessels kinds) ≡ run (λ j. j) 0 i
    before = take_run (λ j. j) 0 (length kinds) i ∙ ap (run (λ j. j) 0) (let e : min i (length kinds) ≡ i = omega arith in e)

    abbrev kind : ℕ
    kind = get_or kinds i 0

    pub kind_known : known kind ≡ true
    kind_known = kind_at kinds i h g.kinds_good

    pub direction_known : Directed (get_or directions i 0)
    unfolding directed
    direction_known = either_is 1 2 (get_or directions i 0) (at_each directed directions g.directions_good (mem_at directions 0 i (omega (arith, g.directions_equal))))

    pub laid_entry_lem : entry_in laid i ≡ laid_entry kinds directions i
    unfolding laid_out entry_in
    laid_entry_lem =
        part_append (number_bytes (length kinds)) (chained (laid_entry kinds directions) (vessels kinds) ++ chained (laid_share kinds fills) (vessels kinds)) {at = 4} (224 * i) 224 refl
        ∙ chained_part (laid_entry kinds directions) (vessels kinds) (chained (laid_share kinds fills) (vessels kinds)) i 0 (omega (arith, vessels_long kinds))
        (entries_length kinds directions fills (take i (vessels kinds)) ∙ ap (λ (n : ℕ). 224 * n) (length-take-le i (vessels kinds) (omega (arith, vessels_long kinds))))
        (entry_length kinds directions fills (get_or (vessels kinds) i 0))
        ∙ ap (laid_entry kinds directions) (sym (vessel_at kinds i h))

    started : Ready (start_record kind) (start_store {A = ℕ} kind 0)
    started = ready_start kind 0 kind_known

    pub laid_says : EntryRead (entry_in laid i) (get_or directions i 0) (start_of kinds i) (start_record kind)
    unfolding laid_entry
    laid_says =
        rw laid_entry_lem
        (entry_read (get_or directions i 0) (start_of kinds i) (start_record kind) (either_low (get_or directions i 0) direction_known) (omega (arith, start_low kinds i, g.few))
        (rw (start_kind kind) (either_low kind (known_is kind kind_known))) (ranges_kept (start_record kind) started.long (ranges (start_record kind) started.range)))

    pub laid_length_is : length_in laid i ≡ (sizes_of kind).store
    laid_length_is = laid_says.length_is ∙ ap (λ (k : ℕ). (sizes_of k).store) (start_kind kind)

    pub laid_share_lem : share_in laid i ≡ laid_share kinds fills i
    unfolding share_in laid_out
    laid_share_lem =
        let es = chained (laid_entry kinds directions) (vessels kinds) in
        let ss = chained (laid_share kinds fills) (vessels kinds) in
        let n = length (chained (laid_share kinds fills) (take i (vessels kinds))) in
        let o : offset_in laid i ≡ entry_place (length kinds) + n =
        laid_says.offset_is ∙ sym (shares_length kinds directions fills i) ∙ ap (λ (l : List ℕ). entry_place (length kinds) + length (chained (laid_share kinds fills) l)) (sym before) in
        let front : length (number_bytes (length kinds) ++ es) ≡ entry_place (length kinds) =
        length-append (number_bytes (length kinds)) es ∙ omega (arith, entries_length kinds directions fills (vessels kinds), vessels_long kinds) in
        ap₂ (λ (a b : ℕ). part a b (number_bytes (length kinds) ++ (es ++ ss))) o laid_length_is
        ∙ ap (part (entry_place (length kinds) + n) (sizes_of kind).store) (sym (append_assoc (number_bytes (length kinds)) es ss))
        ∙ part_append (number_bytes (length kinds) ++ es) ss n (sizes_of kind).store front
        ∙ ap (part n (sizes_of kind).store) (sym (append-nil ss))
        ∙ chained_part (laid_share kinds fills) (vessels kinds) [] i 0 (omega (arith, vessels_long kinds)) refl
        (share_length kinds directions fills (get_or (vessels kinds) i 0) ∙ ap (λ (j : ℕ). (sizes_of (get_or kinds j 0)).store) (sym (vessel_at kinds i h)))
        ∙ ap (laid_share kinds fills) (sym (vessel_at kinds i h))

    laid_good : Entry (entry_in laid i)
    laid_good =
        let e = laid_says in
        let k : kind_of (entry_in laid i) ≡ kind = ap (λ (s : Stream). s.kind) e.record_is ∙ start_kind kind in
        record {
          kind = rw k (known_is kind kind_known);
          direction = rw e.direction_is direction_known;
          long = laid_length_is ∙ ap (λ (n : ℕ). (sizes_of n).store) (sym k);
          within = rw e.record_is (ranges (start_record kind) started.range);
        }

  -- it is of the form
  pub laid_gateway : Gateway laid
  laid_gateway =
      let m = laid_machines in
      let long = laid_length kinds directions fills in
      let l = g.some in
      record {
        some = omega (arith, m);
        few = omega (arith, m, g.few);
        header = rw (m, long) (header_inside kinds);
        entries = λ i h. laid_good i (omega (arith, m));
        shares =
            rw (m, long) (record {
              first_part = (laid_says 0 (omega arith)).offset_is ∙ start_first kinds;
              no_gap = λ i h.
                  (laid_says (i + 1) h).offset_is ∙ start_next kinds i
                  ∙ sym (ap₂ ◌+◌ (laid_says i (omega arith)).offset_is (laid_length_is i (omega arith)));
              to_the_end =
                  let last : length kinds - 1 + 1 ≡ length kinds = omega arith in
                  ap₂ ◌+◌ (laid_says (length kinds - 1) (omega arith)).offset_is (laid_length_is (length kinds - 1) (omega arith))
                  ∙ sym (start_next kinds (length kinds - 1)) ∙ ap (start_of kinds) last;
            });
      }
