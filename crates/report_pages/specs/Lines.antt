-- What the calls of the library give inside the range, and the loop over the lines. Rests on Text.
use Prim.Native.Nat.{ℕ, suc, ◌+◌, ◌-◌, ◌≤◌, ◌<◌}
use Rattle.std.specs.Prelude.{◌≡◌}
use Rattle.std.proofs.Common.{◌∙◌}
use native.Mathlib.Omega.{arith}
use Rattle.laws.specs.Outcome.{Outcome, done, refused}
use Rattle.wcdma_shape.specs.Rectangle.{Size}
use Rattle.wcdma_report.specs.Report.{figures, sizes_in, Between}
use Rattle.words.specs.declared.text.Text.{Text}
use Rattle.words.specs.Texts.{Puts}
use Rattle.words.specs.Puts.{put_nothing, put_join}
use Rattle.report_pages.specs.Text.{row_text, rows_text}

-- an answer that is given is the one, and none is refused
pub given_is : {R A : Type 0} {o : Outcome R A} {a b : A} → o ≡ done b → done a ≡ o → a ≡ b
given_is g e = let z = e ∙ g in cc

pub given_only : {R A : Type 0} {o : Outcome R A} {b : A} {r : R} → o ≡ done b → refused r ≡ o → ⊥
given_only g e = let q = e ∙ g in let z : ◌≡◌ {A = ℕ} 0 1 = cc in omega arith

-- the loop: the lines of the sizes before k are put
pub record Rows (before : Text) (first last : ℕ) (now : Text) (k : ℕ) : Type 0 where
  pub low : first ≤ k
  pub high : k ≤ last + 1
  pub so_far : Puts before (rows_text first (k - first)) now

module _ {first last : ℕ} (b : Between first last) where
  pub rows_none : (t : Text) → Rows t first last t first
  unfolding rows_text
  rows_none t =
      let n : first - first ≡ 0 = omega arith in
      let r = b.rising in
      record { low = omega arith; high = omega arith; so_far = rw n (put_nothing t.room t.at t.within) }

  module _ {before now : Text} {k : ℕ} (s : Rows before first last now k) where
    pub row_size : k ≤ last → Size k
    row_size h = record { low = omega (arith, b.low, s.low); high = omega (arith, b.high) }

    pub rows_more : {after : Text} → k ≤ last → Puts now (row_text (figures k)) after → Rows before first last after (k + 1)
    unfolding rows_text
    rows_more h p =
        let l = s.low in
        let n : k + 1 - first ≡ suc (k - first) = omega arith in
        let e : first + (k - first) ≡ k = omega arith in
        record { low = omega arith; high = omega arith; so_far = rw (n, e) (put_join s.so_far p) }

    pub rows_done : last < k → Puts before (rows_text first (sizes_in first last)) now
    rows_done h = let e : k ≡ last + 1 = omega (arith, s.high) in rw e at s.so_far
