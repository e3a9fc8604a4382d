-- The exchange of a full rectangle, made in the slice behind the walk: what it leaves, and that this is the slice of a walk that goes by the
-- exchanged columns. Rests on Full, Touched and Law of crate wcdma, and on Put of laws.
use Prim.Native.Nat.{ℕ, min, ◌+◌, ◌*◌, ◌-◌, ◌≤◌, ◌<◌}
use Rattle.std.specs.Prelude.{Bool, true, false, cond, ◌≡◌, refl}
use mathlib.Core.List.{List, [], ◌++◌}
use Rattle.std.proofs.Math.Path.{ap, sym, fun_ext}
use Rattle.std.proofs.Common.{◌∙◌, eq-eqb, ne_eqb, lt-ltb}
use Rattle.std.proofs.Math.Decide.{ℕ_discrete}
use native.Mathlib.Omega.{arith}
use Rattle.std.proofs.Math.ListN.{length, drop}
use Rattle.std.proofs.Math.Seq.{drop-length}
use Rattle.laws.specs.Keep.{wrote, steps}
use Rattle.laws.specs.Bare.{Bare, wrote_bare, steps_bare}
use Rattle.laws.specs.Once.{inside}
use Rattle.laws.specs.Put.{but, put_at, put_run}
use Rattle.laws.specs.Run.{run, length_run}
use Rattle.laws.specs.Walk.{Rule, walk_list, walk_cells, walk_slice}
use Rattle.wcdma_shape.specs.Rectangle.{rows, prime, cells}
use Rattle.wcdma_shape.specs.Shape.{rows_pos}
use Rattle.wcdma.specs.Turbo.{full, address, turbo_rule}
use Rattle.wcdma.specs.Laid.{plain, rule_by, plain_rule}
use Rattle.wcdma.specs.Full.{full_cells, last_column}
use Rattle.wcdma.proofs.Touched.{untouched, at_first, at_last, elsewhere}
use Rattle.wcdma.proofs.Law.{address_lt, plain_lt}

-- what it makes of a slice that a walk from a cell on filled: in a full rectangle K - 1 stands at cell 0, and K - p at the first cell of column p
unfoldable pub exchange_in : ℕ → ℕ → List ℕ → List ℕ
exchange_in k first out = cond (full k) (put_at first (prime k * rows k) (k - prime k) (put_at first 0 (k - 1) out)) out

-- a walk with the exchange made behind it, and a walk along the rule: they write as many addresses, examine the same cells, and leave the same slice
pub record Alike (k cell : ℕ) (old : List ℕ) : Type 0 where
  pub written : length (walk_list k (plain_rule k) cell (length old)) ≡ length (walk_list k (turbo_rule k) cell (length old))
  pub passed : walk_cells k (plain_rule k) cell (length old) ≡ walk_cells k (turbo_rule k) cell (length old)
  pub slice : exchange_in k cell (walk_slice k (plain_rule k) cell old) ≡ walk_slice k (turbo_rule k) cell old

module _ (k : ℕ) where
  module _ (f : full k ≡ false) where
    same : plain_rule k ≡ turbo_rule k
    same = ap (rule_by k) (fun_ext (λ (n : ℕ). sym (untouched k f n)))

    not_full : (cell : ℕ) (old : List ℕ) → Alike k cell old
    unfolding exchange_in
    not_full cell old = record {
      written = ap (λ (r : Rule). length (walk_list k r cell (length old))) same;
      passed = ap (λ (r : Rule). walk_cells k r cell (length old)) same;
      slice = rw f (ap (λ (r : Rule). walk_slice k r cell old) same);
    }

  module _ (f : full k ≡ true) where
    -- the addresses are the plain ones but in two cells
    two_cells : but (but (plain k) 0 (k - 1)) (prime k * rows k) (k - prime k) ≡ address k
    two_cells = fun_ext (λ (n : ℕ). go n (ℕ_discrete n (prime k * rows k)) (ℕ_discrete n 0))
      where
        go : (n : ℕ) → Dec (n ≡ prime k * rows k) → Dec (n ≡ 0) → but (but (plain k) 0 (k - 1)) (prime k * rows k) (k - prime k) n ≡ address k n
        go n (yes e) d = rw (eq-eqb n (prime k * rows k) e) (sym (ap (address k) e ∙ at_last k f))
        go n (no a) (yes e) = rw (ne_eqb n (prime k * rows k) a, eq-eqb n 0 e) (sym (ap (address k) e ∙ at_first k f))
        go n (no a) (no b) = rw (ne_eqb n (prime k * rows k) a, ne_eqb n 0 b) (sym (elsewhere k f n b a))

    -- the first cell of the last column is a cell
    last_inside : prime k * rows k < cells k
    last_inside = omega (arith, last_column k f, full_cells k f, rows_pos k)

    module _ (cell : ℕ) (within : cell ≤ cells k) (old : List ℕ) where
      -- no padding: as many addresses as there are cells and room
      many : ℕ
      many = min (length old) (cells k - cell)

      module _ (a : ℕ → ℕ) (h : (n : ℕ) → n < cells k → a n < cells k) where
        bare : Bare a (inside k) cell (cells k - cell)
        bare x l m = lt-ltb (a x) k (let b = h x (omega arith) in let e = full_cells k f in omega arith)

        list : wrote a (inside k) cell (cells k - cell) (length old) ≡ run a cell many
        unfolding many
        list = wrote_bare a (inside k) cell (cells k - cell) (length old) bare

        number : length (wrote a (inside k) cell (cells k - cell) (length old)) ≡ many
        number = ap length list ∙ length_run a cell many

        seen : steps a (inside k) cell (cells k - cell) (length old) ≡ many
        unfolding many
        seen = steps_bare a (inside k) cell (cells k - cell) (length old) bare

        left : wrote a (inside k) cell (cells k - cell) (length old) ++ drop (length (wrote a (inside k) cell (cells k - cell) (length old))) old ≡ run a cell many ++ drop many old
        left = rw (number, list)

      -- where a cell lies behind the last address that is written, the slice ends with that
      ends : (x : ℕ) → x < cells k → cell + many ≤ x → drop many old ≡ []
      unfolding many
      ends x h l = ap (λ (n : ℕ). drop n old) (let e : min (length old) (cells k - cell) ≡ length old = omega arith in e) ∙ drop-length old

      put_both : put_at cell (prime k * rows k) (k - prime k) (put_at cell 0 (k - 1) (run (plain k) cell many ++ drop many old)) ≡ run (address k) cell many ++ drop many old
      put_both =
          ap (put_at cell (prime k * rows k) (k - prime k)) (put_run (plain k) 0 (k - 1) cell many (drop many old) (ends 0 (omega (arith, last_inside))))
          ∙ put_run (but (plain k) 0 (k - 1)) (prime k * rows k) (k - prime k) cell many (drop many old) (ends (prime k * rows k) last_inside)
          ∙ ap (λ (a : ℕ → ℕ). run a cell many ++ drop many old) two_cells

      is_full_lem : Alike k cell old
      unfolding exchange_in walk_list walk_cells walk_slice
      is_full_lem = record {
        written = number (plain k) (plain_lt k) ∙ sym (number (address k) (address_lt k));
        passed = seen (plain k) (plain_lt k) ∙ sym (seen (address k) (address_lt k));
        slice = rw f (ap (λ (l : List ℕ). put_at cell (prime k * rows k) (k - prime k) (put_at cell 0 (k - 1) l)) (left (plain k) (plain_lt k)) ∙ put_both ∙ sym (left (address k) (address_lt k)));
      }

  -- so it is in any rectangle
  pub alike : (cell : ℕ) → cell ≤ cells k → (old : List ℕ) → Alike k cell old
  alike cell h old = go (full k) refl
    where
      go : (b : Bool) → full k ≡ b → Alike k cell old
      go true f = is_full_lem f cell h old
      go false f = not_full f cell old
