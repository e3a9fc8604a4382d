-- The two loops that move symbols of w entries by a table of addresses: what holds at each turn, group by group. Over any element. Rests on
-- Groups, on Moves of `movers` and on the loops of `laws`.
use Rattle.std.specs.Prelude.{ℕ, ◌+◌, ◌*◌, ◌≤◌, ◌<◌, List, [], ◌≡◌, length, drop}
use Rattle.std.proofs.Common.{sym, ap, ◌∙◌, zero-mul, suc-mul, add-one, arith, length-drop}
use Rattle.std.proofs.Math.Seq.{paste}
use Rattle.std.proofs.lemmas.List.Edits.{length-paste}
use Rattle.laws.specs.declared.Way.{Way}
use Rattle.laws.specs.Move.{gather, scatter}
use Rattle.laws.specs.Loop.{by, Within, Gathered, gather_first, gather_more, gather_all, Scattered, scatter_first, scatter_more, scatter_all}
use Rattle.movers.specs.Moves.{moved_by}
use Rattle.symbol_movers.specs.Groups.{groups, joined, length_groups, joined_groups, group_fits, group_moved}

-- n symbols of w entries moved by a list: the groups of w are moved, and joined again. [] is getD's default: an accepted call never reads it
abbrev pub symbols_by : {A : Type 0} → Way → (ℕ → ℕ) → ℕ → ℕ → List A → List A → List A
symbols_by way l n w src dst = joined (moved_by way l n [] (groups w n src) (groups w n dst))

-- n symbols of w entries, and a table of n addresses below n
pub record Movable {A : Type 0} (table : List ℕ) (n w : ℕ) (src dst : List A) : Type 0 where
  pub room : n ≤ length table
  pub within : Within table n n
  pub src_long : length src ≡ n * w
  pub dst_long : length dst ≡ n * w

-- t symbols are moved; on the side that is stepped, the output in gathering and the input in scattering, the next begins at `at`
pub record Turn {A : Type 0} (n w : ℕ) (new : List A) (t at : ℕ) : Type 0 where
  pub far : t ≤ n
  pub place : at ≡ t * w
  pub long : length new ≡ n * w

-- out[j] = in[table[j]], symbols for entries, is done for the first t
pub record GatheredSymbols {A : Type 0} (table : List ℕ) (n w : ℕ) (src old new : List A) (t to : ℕ) : Type 0 where
  pub turn : Turn n w new t to
  pub moved : Gathered table [] (groups w n src) (groups w n old) (groups w n new) t

-- out[table[j]] = in[j] is done for the first t
pub record ScatteredSymbols {A : Type 0} (table : List ℕ) (n w : ℕ) (src old new : List A) (t from : ℕ) : Type 0 where
  pub turn : Turn n w new t from
  pub moved : Scattered table [] (groups w n src) (groups w n old) (groups w n new) t

module _ {A : Type 0} {table : List ℕ} {n w : ℕ} {src old : List A} (m : Movable table n w src old) where
  first_turn : Turn n w old 0 0
  first_turn = record { far = omega arith; place = sym (zero-mul w); long = m.dst_long }

  -- symbol j copied to place k
  next_turn : {new : List A} {t at : ℕ} (j k : ℕ) → Turn n w new t at → t < n → j < n → k < n → Turn n w (paste new (k * w) (drop (j * w) src) w) (t + 1) (at + w)
  next_turn {new} {t} {at} j k g h hj hk = record {
    far = omega arith;
    place = omega (arith, g.place, suc-mul t w, ap (λ (x : ℕ). x * w) (add-one t));
    long = length-paste new (k * w) (drop (j * w) src) w (omega (arith, g.long, group_fits w n k hk))
        (omega (arith, m.src_long, group_fits w n j hj, length-drop (j * w) src))
        ∙ g.long;
  }

  -- what a turn copies lies inside both
  pub gather_inside : {new : List A} {t to : ℕ} → GatheredSymbols table n w src old new t to → t < n → (by table t * w + w ≤ length src) × (to + w ≤ length new)
  gather_inside {new} {t} {to} g h =
      (omega (arith, m.src_long, group_fits w n (by table t) (m.within t h)), omega (arith, g.turn.place, g.turn.long, group_fits w n t h))

  pub scatter_inside : {new : List A} {t from : ℕ} → ScatteredSymbols table n w src old new t from → t < n → (from + w ≤ length src) × (by table t * w + w ≤ length new)
  scatter_inside {new} {t} {from} g h =
      (omega (arith, m.src_long, g.turn.place, group_fits w n t h), omega (arith, g.turn.long, group_fits w n (by table t) (m.within t h)))

  pub gather_begins : GatheredSymbols table n w src old old 0 0
  gather_begins = record { turn = first_turn; moved = gather_first table [] (groups w n src) (groups w n old) }

  pub gather_goes : {new next : List A} {t to on : ℕ} → GatheredSymbols table n w src old new t to → t < n → next ≡ paste new to (drop (by table t * w) src) w → on ≡ to + w
      → GatheredSymbols table n w src old next (t + 1) on
  gather_goes {new} {next} {t} {to} {on} g h copied stepped =
      let k = m.within t h in
      let e = copied ∙ ap (λ (a : ℕ). paste new a (drop (by table t * w) src) w) g.turn.place in record {
        turn = rw (e, stepped) (next_turn (by table t) t g.turn h k h);
        moved = rw (e, group_moved w n src new (by table t) t m.src_long g.turn.long k h)
            (gather_more table [] (groups w n src) (groups w n old) g.moved (omega (arith, length_groups w n new)));
      }

  pub gather_ends : {new : List A} {t to : ℕ} → GatheredSymbols table n w src old new t to → n ≤ t → new ≡ joined (gather (by table) n [] (groups w n src))
  gather_ends {new} g h =
      sym (joined_groups w n new g.turn.long)
      ∙ ap joined (gather_all table [] (groups w n src) (groups w n old) g.moved (omega (arith, length_groups w n new))
      ∙ ap (λ (k : ℕ). gather (by table) k [] (groups w n src)) (length_groups w n old))

  pub scatter_begins : ScatteredSymbols table n w src old old 0 0
  scatter_begins = record { turn = first_turn; moved = scatter_first table [] (groups w n src) (groups w n old) }

  pub scatter_goes : {new next : List A} {t from on : ℕ} → ScatteredSymbols table n w src old new t from → t < n → next ≡ paste new (by table t * w) (drop from src) w → on ≡ from + w
      → ScatteredSymbols table n w src old next (t + 1) on
  scatter_goes {new} {next} {t} {from} {on} g h copied stepped =
      let k = m.within t h in
      let e = copied ∙ ap (λ (a : ℕ). paste new (by table t * w) (drop a src) w) g.turn.place in record {
        turn = rw (e, stepped) (next_turn t (by table t) g.turn h h k);
        moved = rw (e, group_moved w n src new t (by table t) m.src_long g.turn.long h k)
            (scatter_more table [] (groups w n src) (groups w n old) g.moved (omega (arith, length_groups w n src)));
      }

  pub scatter_ends : {new : List A} {t from : ℕ} → ScatteredSymbols table n w src old new t from → n ≤ t
      → new ≡ joined (scatter (by table) n [] (groups w n src) (groups w n old))
  scatter_ends {new} g h =
      sym (joined_groups w n new g.turn.long)
      ∙ ap joined (scatter_all table [] (groups w n src) (groups w n old) g.moved (omega (arith, length_groups w n src))
      ∙ ap (λ (k : ℕ). scatter (by table) k [] (groups w n src) (groups w n old)) (length_groups w n src))
