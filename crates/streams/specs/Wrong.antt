-- Wrong builds that condition 3 rules out, stated as definitions, each with an input at which it differs, computed.
use Rattle.std.specs.Prelude.{ℕ, cond, ◌≡◌, refl, List, [], ◌∷◌, ◌++◌, get_or, replicate, eqb}
use Rattle.laws.specs.Outcome.{refused, after}
use Rattle.laws.specs.declared.Way.{Way}
use Rattle.laws.specs.declared.Way.TheVariants.{Interleaver, Deinterleaver}
use Rattle.delay.specs.Machine.{offset, slot_of, next_of, start_stand, run_output, run_store, run_record}
use Rattle.kinds.specs.declared.Stream.{Stream}
use Rattle.kinds.specs.Kinds.{known, sizes_of, below_from, in_range, start_record}
use Rattle.streams.specs.Fed.{start_store, fed_output, fed_store, fed_record}
use Rattle.streams.specs.Answers.{start_lines, Call, call, says, store_after}

abbrev pub first_byte : List ℕ
first_byte = 1 ∷ []

abbrev pub second_byte : List ℕ
second_byte = 2 ∷ []

-- a build that handles its first feed, the one from branch 0, and then echoes its input
abbrev pub echo_output : Way → Stream → List ℕ → List ℕ → List ℕ
echo_output way s store input = cond (eqb s.branch 0) (fed_output way s store input) input

-- a start of DVB with 9, and two calls of one byte: 1, then 2. The machine gives 1, 9; the build gives 1, 2
pub echo_differs : (fed_output Interleaver (start_record 1) (start_store 1 9) (first_byte ++ second_byte) ≡ 1 ∷ 9 ∷ [])
    × (echo_output Interleaver (start_record 1) (start_store 1 9) first_byte
    ++ echo_output Interleaver (fed_record Interleaver (start_record 1) first_byte) (fed_store Interleaver (start_record 1) (start_store 1 9) first_byte) second_byte ≡ 1 ∷ 2 ∷ [])
unfolding sizes_of start_record start_stand start_store fed_output fed_store fed_record slot_of next_of offset run_output run_store run_record
echo_differs = (refl, refl)

-- a build that tests kind and store before it writes the store, and ranges and lengths after
abbrev pub early_store : Call ℕ → List ℕ
early_store c = after (start_lines c.stream.kind c.store) (fed_store c.way c.stream c.store c.input) c.store

-- a started ATSC store, the byte 2 at branch 1, and no room for output: both say 6. The machine's first byte of the store stays 9; the build's is 2
abbrev pub no_room : Call ℕ
no_room = call Interleaver (record { kind = 2; branch = 1; places = replicate 51 0 }) (start_store 2 9) second_byte []

pub early_differs : (says no_room ≡ refused 6) × (get_or (store_after no_room) 0 0 ≡ 9) × (get_or (early_store no_room) 0 0 ≡ 2)
unfolding known sizes_of below_from in_range start_store fed_store slot_of next_of offset run_store
early_differs = (refl, refl, refl)

-- a place is taken as it stands: at branch 1 of a record whose ring 1 stands at place 3 the byte goes to place 3 of the store, and the ring's next to
-- place 4. A build that counts a ring's bytes from the start would use place 0
abbrev pub third : Stream
third = record { kind = 1; branch = 1; places = 3 ∷ replicate 50 0 }

pub place_3_taken : (get_or (fed_store Interleaver third (start_store 1 9) second_byte) 3 0 ≡ 2)
    × (fed_record Interleaver third second_byte ≡ record { kind = 1; branch = 2; places = 4 ∷ replicate 50 0 })
unfolding sizes_of start_store fed_store fed_record slot_of next_of offset run_store run_record
place_3_taken = (refl, refl)

-- places stand in rising ring size for the deinterleaver, too: its branch 10 of DVB is ring 1, whose place is the first. A build that has the places in
-- the order of branches would use the tenth, which is 0
abbrev pub tenth : Stream
tenth = record { kind = 1; branch = 10; places = 3 ∷ replicate 50 0 }

pub in_rising_size : (get_or (fed_store Deinterleaver tenth (start_store 1 9) second_byte) 3 0 ≡ 2)
    × (fed_record Deinterleaver tenth second_byte ≡ record { kind = 1; branch = 11; places = 4 ∷ replicate 50 0 })
unfolding sizes_of start_store fed_store fed_record slot_of next_of offset run_store run_record
in_rising_size = (refl, refl)
