-- The rings of a feed, one after the other, and their places: what holds when those below x are done, and when all are.
use Rattle.std.specs.Prelude.{ℕ, suc, ◌+◌, ◌-◌, ◌*◌, ◌≤◌, ◌<◌, ◌≡◌, refl, List, length, get_or, set}
use Rattle.std.proofs.Common.{sym, ◌∙◌, mod-eq_of_lt, add-one, arith, length-set, get_or-set_same, get_or-set_other, ext_get_or}
use Rattle.std.proofs.Math.Path.{ap}
use Rattle.std.proofs.Math.Nat.{div-eq_of_lt, add-zero}
use Rattle.std.proofs.Math.Decide.{dec_lt, ℕ_discrete}
use Rattle.delay.specs.Machine.{Machine, Stand, place_of, offset, slot_of, next_of, run_output, run_store, run_record}
use Rattle.delay.specs.Slots.{offset_suc, offset_le}
use Rattle.delay.specs.Bytes.{row_at, ring_few}
use Rattle.delay.specs.Standing.{Within, After}
use Rattle.delay.proofs.Standing.{output_number, store_number, stands_after}
use Rattle.delay.specs.Lane.{Lane, Leads, Next}
use Rattle.delay.specs.Laning.{Rings, rings_none, rings_more, rings_all}

pub record Served (M : Machine) (R : Stand) (store₀ input store out places : List ℕ) (first x : ℕ) : Type 0 where
  pub rings : Rings M R store₀ input store out x
  pub some : 0 < x
  pub most : x ≤ M.branches
  pub begins : first ≡ offset M.step x
  pub low : first ≤ offset M.step M.branches
  pub long : length places ≡ length R.places
  pub moved : (y : ℕ) → 0 < y → y < x → Next M R y (length input) (get_or places (y - 1) 0)
  pub still : (i : ℕ) → x ≤ suc i → get_or places i 0 ≡ get_or R.places i 0

first_ring : (s : ℕ) → 0 ≡ offset s 1
unfolding offset
first_ring s = omega arith

offset_low : (s x b : ℕ) → x ≤ b → offset s x ≤ offset s b
offset_low s x b h =
    let e : x + (b - x) ≡ b = omega arith in
    rw e at (offset_le s x (b - x))

module _ {M : Machine} {R : Stand} {store₀ input : List ℕ} where
  pub served_none : {out out' : List ℕ} → length store₀ ≡ offset M.step M.branches → length out ≡ length input
      → Lane M R 0 store₀ input out store₀ out' (length input) → Served M R store₀ input store₀ out' R.places 0 1
  served_none {out} {out'} es eo l = record {
    rings = rings_more M R store₀ input store₀ out store₀ out' 0 M.some_branches (rings_none M R store₀ input out es eo) l;
    some = omega arith;
    most = M.some_branches;
    begins = first_ring M.step;
    low = omega arith;
    long = refl;
    moved = λ y p q. absurd (omega arith);
    still = λ i h. refl;
  }

  module _ {store out places : List ℕ} {first x : ℕ} (w : Within M R) (g : Served M R store₀ input store out places first x) where
    -- the first byte of the next ring, byte k, goes where the machine stood
    pub row_now : {k : ℕ} → Leads M R x k → first + place_of R x ≡ first + row_at M R k
    unfolding row_at
    row_now {k} l =
        let few : x < M.branches = rw l.here at (ring_few M R k) in
        ap (λ (n : ℕ). first + n) (sym (rw (l.here, div-eq_of_lt l.few, add-zero (place_of R x)) (mod-eq_of_lt (w.places x g.some few))))

    pub served_more : {store' out' : List ℕ} {v : ℕ} → x < M.branches → Lane M R x store input out store' out' (length input) → Next M R x (length input) v
        → Served M R store₀ input store' out' (set places (x - 1) v) (first + M.step * x) (x + 1)
    served_more {store'} {out'} {v} h l n = record {
      rings = rings_more M R store₀ input store out store' out' x h g.rings l;
      some = omega arith;
      most = omega arith;
      begins = ends;
      low = rw ends (offset_low M.step (x + 1) M.branches (omega arith));
      long = simp length-set g.long;
      moved = λ y p q. go y p (ℕ_discrete y x) q;
      still = λ i q. get_or-set_other places (x - 1) i v 0 (λ e. omega (arith, g.some, e)) ∙ g.still i (omega arith);
    }
      where
        ends : first + M.step * x ≡ offset M.step (x + 1)
        ends = rw (add-one x, offset_suc M.step x, g.begins)

        go : (y : ℕ) → 0 < y → Dec (y ≡ x) → y < x + 1 → Next M R y (length input) (get_or (set places (x - 1) v) (y - 1) 0)
        go y p (yes e) q = rw (e, get_or-set_same places (x - 1) v 0 (omega (arith, g.some, g.long, w.long))) n
        go y p (no d) q = rw (get_or-set_other places (x - 1) (y - 1) v 0 (λ e. d (omega (arith, g.some, e)))) (g.moved y p (omega (arith, d)))

    -- all of them: the run, byte after byte
    pub served_all : M.branches ≤ x → (places ≡ (run_record (next_of M) R input).places)
        × (store ≡ run_store (slot_of M) (next_of M) R store₀ input) × (out ≡ run_output (slot_of M) (next_of M) R store₀ input)
    served_all h =
        let e : x ≡ M.branches = omega (arith, g.most) in
        let all = rings_all M R store₀ input store out (rw e at g.rings) in
        (ext_get_or 0 places Q.places (g.long ∙ sym a.long) (λ i l. at i (dec_lt (suc i) M.branches)), all.0 ∙ sym (store_number w store₀ input), all.1 ∙ sym (output_number w store₀ input))
      where
        Q : Stand
        Q = run_record (next_of M) R input

        a : After M R (length input) Q
        a = stands_after w input

        at : (i : ℕ) → Dec (suc i < M.branches) → get_or places i 0 ≡ get_or Q.places i 0
        at i (yes l) =
            let n = g.moved (suc i) (omega arith) (omega arith) in
            let e : suc i - 1 ≡ i = omega arith in
            let row : get_or places i 0 ≡ row_at M R n.byte = rw e at n.stands in
            row ∙ sym (rw (n.here, e) at (a.rows n.byte n.low n.high (rw n.here (omega arith))))
        at i (no l) = g.still i (omega (arith, l)) ∙ sym (a.others i (omega (arith, l)))
