-- What the pieces of a turned walk make up: of L, those on either side of the seam, which is the cell N - v; of M, the walk and the pass that takes
-- the turn off. Rests on Turned.
use Rattle.std.specs.Prelude.{ℕ, min, ◌+◌, ◌-◌, ◌≤◌, ◌<◌, ◌≡◌, length, map, take, drop}
use mathlib.Core.List.{List, ◌++◌, append_assoc}
use Rattle.std.proofs.Common.{sym, ◌∙◌, arith, length-drop, length-append, length-take-le, take_at, drop-drop}
use Rattle.std.proofs.Math.Path.{ap, ap₂}
use Rattle.std.proofs.Math.Seq.{drop_at}
use Rattle.laws.specs.Run.{run, length_run, get_or_run, run_moved, run_cut}
use Rattle.laws.specs.Lanes.{Ran, ran_full}
use Rattle.laws.specs.Loop.{by}
use Rattle.laws.specs.Blind.{map_run}
use Rattle.carrier.specs.Formula.{carrier_l, carrier_m}
use Rattle.carrier.proofs.Once.{carrier_once}
use Rattle.carrier_turned.specs.Turned.{turned_l, turned_m, Within, TakenOff, off, ahead, behind}

module _ (d n s v : ℕ) (h : v < n) where
  -- cells before the seam: the two steps' from the turn ahead
  ahead_run : (x k : ℕ) → x + v + k ≤ n → run (carrier_l d n s) (x + v) k ≡ run (turned_l d n s v) x k
  ahead_run x k l =
      run_moved (carrier_l d n s) (turned_l d n s v) (x + v) x k
      (λ i o. ap (carrier_l d n s) (let e : x + v + i ≡ x + i + v = omega arith in e) ∙ ahead d n s v (x + i) h (omega arith) (omega arith))

  -- and from it on: from as far behind it
  behind_run : (x k : ℕ) → n ≤ x + v → x + k ≤ n → run (carrier_l d n s) (x - (n - v)) k ≡ run (turned_l d n s v) x k
  behind_run x k o l =
      run_moved (carrier_l d n s) (turned_l d n s v) (x - (n - v)) x k
      (λ i p. ap (carrier_l d n s) (let e : x - (n - v) + i ≡ x + i - (n - v) = omega arith in e) ∙ behind d n s v (x + i) h (omega arith) (omega arith))

-- where cells are left behind the first piece, it ended at the seam
at_seam : (long n v cell count first : ℕ) → count ≡ min long (n - cell) → first ≡ min long (n - (cell + v)) → first < count → first ≡ n - (cell + v)
at_seam long n v cell count first c f o = omega arith

within_block : (long n cell count : ℕ) → cell ≤ n → count ≡ min long (n - cell) → (cell + count ≤ n) × (count ≤ long)
within_block long n cell count h c = (omega arith, omega arith)

module _ {d n s v cell : ℕ} (w : Within d n s v cell) {old : List ℕ} {count : ℕ} (c : count ≡ min (length old) (n - cell)) where
  -- no cell from the seam on: one piece
  pub one_piece : {mid : List ℕ} {first : ℕ} → cell + v < n → Ran (carrier_l d n s) n (cell + v) old mid first → count ≤ first
      → Ran (turned_l d n s v) n cell old mid count
  one_piece {mid} {first} b r o =
      let e : first ≡ count = omega (arith, r.count_is) in
      record {
        count_is = c;
        list_is =
            r.list_is
            ∙ ap (λ (k : ℕ). run (carrier_l d n s) (cell + v) k ++ drop k old) e
            ∙ ap (λ (l : List ℕ). l ++ drop count old) (ahead_run d n s v w.turn_in cell count (omega (arith, r.count_is)));
      }

  -- cells on either side: two
  pub two_pieces : {mid part : List ℕ} {first k : ℕ} → cell + v < n → Ran (carrier_l d n s) n (cell + v) old mid first → first < count
      → Ran (carrier_l d n s) n 0 (take (count - first) (drop first mid)) part k
      → Ran (turned_l d n s v) n cell old (take first mid ++ (part ++ drop (count - first) (drop first mid))) count
  two_pieces {mid} {part} {first} {k} b r o q = record {
    count_is = c;
    list_is =
        ap₂ ◌++◌ (front ∙ ahead_run d n s v w.turn_in cell first (omega (arith, r.count_is))) (ap₂ ◌++◌ (second ∙ join) rest)
        ∙ sym (append_assoc (run (turned_l d n s v) cell first) (run (turned_l d n s v) (cell + first) (count - first)) (drop count old))
        ∙ ap (λ (l : List ℕ). l ++ drop count old) (sym (run_cut (turned_l d n s v) cell count first (omega arith)));
  }
    where
      inside : (cell + count ≤ n) × (count ≤ length old)
      inside = within_block (length old) n cell count w.at.cell_in c

      ended : first ≡ n - (cell + v)
      ended = at_seam (length old) n v cell count first c r.count_is o

      front : take first mid ≡ run (carrier_l d n s) (cell + v) first
      front = ap (take first) r.list_is ∙ take_at (run (carrier_l d n s) (cell + v) first) (drop first old) first (length_run (carrier_l d n s) (cell + v) first)

      behind_first : drop first mid ≡ drop first old
      behind_first = ap (drop first) r.list_is ∙ drop_at (run (carrier_l d n s) (cell + v) first) (drop first old) first (length_run (carrier_l d n s) (cell + v) first)

      lent : length (take (count - first) (drop first mid)) ≡ count - first
      lent =
          length-take-le (count - first) (drop first mid)
          (omega (arith, ap length behind_first ∙ length-drop first old, inside.1))

      second : part ≡ run (carrier_l d n s) 0 (count - first)
      second = ran_full q (omega (arith, lent, inside.0)) ∙ ap (run (carrier_l d n s) 0) lent

      join : run (carrier_l d n s) 0 (count - first) ≡ run (turned_l d n s v) (cell + first) (count - first)
      join =
          ap (λ (x : ℕ). run (carrier_l d n s) x (count - first)) (let e : 0 ≡ cell + first - (n - v) = omega (arith, ended) in e)
          ∙ behind_run d n s v w.turn_in (cell + first) (count - first) (omega (arith, ended)) (omega (arith, ended))

      rest : drop (count - first) (drop first mid) ≡ drop count old
      rest =
          ap (drop (count - first)) behind_first
          ∙ drop-drop (count - first) first old
          ∙ ap (λ (x : ℕ). drop x old) (let e : first + (count - first) ≡ count = omega arith in e)

  -- no cell before the seam
  pub past_seam : {part : List ℕ} {k : ℕ} → n ≤ cell + v → Ran (carrier_l d n s) n (cell - (n - v)) (take count old) part k
      → Ran (turned_l d n s v) n cell old (part ++ drop count old) count
  past_seam {part} {k} b r = record {
    count_is = c;
    list_is = ap (λ (l : List ℕ). l ++ drop count old) (all ∙ behind_run d n s v w.turn_in cell count b inside.0);
  }
    where
      inside : (cell + count ≤ n) × (count ≤ length old)
      inside = within_block (length old) n cell count w.at.cell_in c

      lent : length (take count old) ≡ count
      lent = length-take-le count old inside.1

      all : part ≡ run (carrier_l d n s) (cell - (n - v)) count
      all = ran_full r (omega (arith, lent, inside.0)) ∙ ap (run (carrier_l d n s) (cell - (n - v))) lent

-- M: what the walk wrote, and the pass over it
module _ {d n s v cell : ℕ} (w : Within d n s v cell) {old mid : List ℕ} {count : ℕ} (r : Ran (carrier_m d n s) n cell old mid count) where
  front : take count mid ≡ run (carrier_m d n s) cell count
  front = ap (take count) r.list_is ∙ take_at (run (carrier_m d n s) cell count) (drop count old) count (length_run (carrier_m d n s) cell count)

  pub walk_fits : count ≤ length mid
  walk_fits = omega (arith, ap length r.list_is, length-append (run (carrier_m d n s) cell count) (drop count old), length_run (carrier_m d n s) cell count)

  pub taken_off : TakenOff n v (take count mid)
  taken_off = record {
    small = w.at.small;
    turn_in = w.turn_in;
    below = λ y l.
        let h : y < count = omega (arith, length-take-le count mid walk_fits) in
        rw (ap (λ (l : List ℕ). by l y) front ∙ get_or_run (carrier_m d n s) cell count y 0 h)
        ((carrier_once w.at.size).m_below (cell + y) (omega (arith, r.count_is)));
  }

  pub both_passes : {part : List ℕ} → part ≡ map (off n v) (take count mid) → Ran (turned_m d n s v) n cell old (part ++ drop count mid) count
  unfolding turned_m
  both_passes f = record {
    count_is = r.count_is;
    list_is =
        ap₂ ◌++◌
        (f ∙ ap (map (off n v)) front ∙ map_run (off n v) (carrier_m d n s) cell count)
        (ap (drop count) r.list_is ∙ drop_at (run (carrier_m d n s) cell count) (drop count old) count (length_run (carrier_m d n s) cell count));
  }
