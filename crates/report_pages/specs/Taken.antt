-- What is kept of standard input: at most ten bytes, each of them asked for where those before it settle nothing; and they settle it, or standard input
-- ended with them. Rests on crate report_asked.
use Rattle.std.specs.Prelude.{ℕ, ◌+◌, ◌≤◌, ◌<◌, Bool, true, false, List, ◌≡◌, refl, length, take, set}
use Rattle.std.proofs.Common.{⊎_elim, ap, ◌∙◌, eq-or-lt_of_le, arith, length-take}
use Rattle.std.proofs.lemmas.List.{take-set-le}
use Rattle.report_asked.specs.Asked.{settled_by}
use Rattle.report_asked.specs.Settled.{open_is}
use Rattle.report_pages.specs.declared.taken.Taken.{Taken}
use Rattle.report_pages.specs.declared.taken.Taken.TheVariants.{Settled, Ended}

-- the first n bytes of the room, none of them behind bytes that settle it
pub record Read (room : List ℕ) (n : ℕ) : Type 0 where
  pub few : n ≤ 10
  pub open_before : (m : ℕ) → m < n → settled_by (take m room) ≡ false

abbrev pub TakenBy : List ℕ → Taken → Type 0
TakenBy room (Settled n) = Read room n × (settled_by (take n room) ≡ true)
TakenBy room (Ended n) = Read room n

pub read_none : (room : List ℕ) → Read room 0
read_none room = record { few = omega arith; open_before = λ m h. absurd (omega arith) }

pub read_more : {room : List ℕ} {n : ℕ} (b : ℕ) → n < 10 → settled_by (take n room) ≡ false → Read room n → Read (set room n b) (n + 1)
read_more {room} {n} b h e r =
    record {
      few = omega arith;
      open_before =
          λ m l.
          ap settled_by (take-set-le m room n b (omega arith))
          ∙ ⊎_elim (λ (q : m ≡ n). ap (λ (k : ℕ). settled_by (take k room)) q ∙ e) (λ (q : m < n). r.open_before m q) (eq-or-lt_of_le {n = m} {m = n} (omega arith));
    }

-- ten bytes settle it
pub ten_settle : (room : List ℕ) → length room ≡ 10 → settled_by (take 10 room) ≡ true
ten_settle room l = go (settled_by (take 10 room)) refl
  where
    go : (b : Bool) → settled_by (take 10 room) ≡ b → settled_by (take 10 room) ≡ true
    go true e = e
    go false e =
        let t : length (take 10 room) ≡ 10 = simp length-take (omega arith) in
        absurd (let z = (open_is (take 10 room) e).short in omega arith)
