-- Where a machine stands that was started n bytes ago: of each ring as many bytes have passed as there were whole turns, and one more where the
-- ring's branch is among the bytes behind them.
use Rattle.std.specs.Prelude.{ℕ, suc, ◌+◌, ◌-◌, ◌*◌, ◌/◌, ◌%◌, ◌≤◌, ◌<◌, ◌≡◌, refl}
use Rattle.std.proofs.Math.Path.{ap}
use Rattle.std.proofs.Common.{◌∙◌, mod-lt, suc-mul, div-add-mod', add-one, arith, lt-ltb, le-ltb}
use Rattle.std.proofs.Math.Nat.{zero-add}
use Rattle.std.proofs.Math.Decide.{dec_lt}
use Rattle.std.proofs.Math.Arith.{digits_div, digits_mod}
use Rattle.std.proofs.Math.ListN.{get_or-replicate}
use Rattle.delay.specs.Machine.{Machine, Stand, branch_of, place_of, start_stand}
use Rattle.delay.specs.Slots.{ring_lt, there_and_back}
use Rattle.delay.specs.Bytes.{ring_at, row_at}
use Rattle.delay.specs.Standing.{After}
use Rattle.delay.specs.Lane.{count_of}

module _ {M : Machine} (m : ℕ) {n : ℕ} {Q : Stand} (a : After M (start_stand m) n Q) where
  pub branch_since : Q.branch ≡ n % M.branches
  unfolding start_stand
  branch_since = a.branch ∙ ap (λ (k : ℕ). k % M.branches) (zero-add n)

  module _ (x : ℕ) (h : 0 < x) (l : x < M.branches) (e : M.branches ≤ suc m) where
    abbrev branch_of_lem : ℕ
    branch_of_lem = branch_of M.way M.branches x

    -- byte u of the ring's branch is its q-th
    its_byte : (q u : ℕ) → u ≡ q * M.branches + branch_of_lem → (ring_at M (start_stand m) u ≡ x) × (row_at M (start_stand m) u ≡ q % (M.step * x))
    unfolding ring_at row_at start_stand
    its_byte q u i =
        let j : branch_of_lem < M.branches = ring_lt M.way M.branches x l in
        let s : u % M.branches ≡ branch_of_lem = ap (λ (k : ℕ). k % M.branches) i ∙ digits_mod q j in
        let d : u / M.branches ≡ q = ap (λ (k : ℕ). k / M.branches) i ∙ digits_div q j in
        let r : ring_at M (start_stand m) u ≡ x = rw (zero-add u, s) (there_and_back M.way M.branches x l) in
        (r, rw (r, d, get_or-replicate {A = ℕ} m (x - 1) 0 0 (omega arith), zero-add q))

    comes : (q u : ℕ) → u ≡ q * M.branches + branch_of_lem → n ≤ u → u < n + M.branches → place_of Q x ≡ q % (M.step * x)
    comes q u i low high =
        let b = its_byte q u i in
        (rw b.0 at (a.rows u low high (rw b.0 h))) ∙ b.1

    pub place_since : place_of Q x ≡ count_of (n / M.branches) (n % M.branches) (branch_of M.way M.branches x) % (M.step * x)
    unfolding count_of
    place_since = go (dec_lt branch_of_lem (n % M.branches))
      where
        j : branch_of_lem < M.branches
        j = ring_lt M.way M.branches x l

        go : Dec (branch_of_lem < n % M.branches) → place_of Q x ≡ count_of (n / M.branches) (n % M.branches) branch_of_lem % (M.step * x)
        go (yes f) =
            let t : suc (n / M.branches) * M.branches ≡ n / M.branches * M.branches + M.branches = suc-mul (n / M.branches) M.branches in
            rw (lt-ltb branch_of_lem (n % M.branches) f, add-one (n / M.branches))
            (comes (suc (n / M.branches)) (suc (n / M.branches) * M.branches + branch_of_lem) refl
            (omega (arith, t, div-add-mod' n M.branches, mod-lt n M.some_branches)) (omega (arith, t, div-add-mod' n M.branches)))
        go (no f) =
            rw (le-ltb branch_of_lem (n % M.branches) (omega (arith, f)))
            (comes (n / M.branches) (n / M.branches * M.branches + branch_of_lem) refl (omega (arith, f, div-add-mod' n M.branches)) (omega (arith, j, div-add-mod' n M.branches)))
