-- What the number given back tells of receptions, as Zero.antt has it of the other calls: 0 is given exactly when the call is done, any other number is that
-- of the first line that applies, and the sum and the count behind the two pointers are like any lent buffer. A position that is blank gives 0, the count 0, and the sum as it was.
use Rattle.std.specs.Prelude.{ℕ, ◌↔◌, ◌≢◌, ◌≡◌, Float}
use Rattle.laws.specs.Outcome.{done, after, First}
use Rattle.sets.specs.declared.Set.{Set}
use Rattle.sets.specs.Verdict.{set_lines, refusal, refusal_number}
use Rattle.positions.specs.Heard.{Reception, Kept, held}
use Rattle.combine.specs.Answer.{add_lines, added_of, told_of, read_lines, read_of}
use Rattle.flat.specs.Flat.{number_of}
use Rattle.lent_sums.specs.Sums.{sum_held, count_held, sum_out, count_out}
use Rattle.tender.specs.Zero.{Numbered, positive, numbered_join, set_numbered, zero_is_done, number_is_first, out_is_after}

add_numbered : (s : Set) (b : Reception) (h : Kept) → Numbered (add_lines s b h)
unfolding add_lines
add_numbered s b h = (positive 0, numbered_join (set_lines s) _ (set_numbered s) (positive 4, (positive 5, (positive 13, (positive 12, (positive 14, tt))))))

read_numbered : (s : Set) (h : Kept) (k : ℕ) → Numbered (read_lines s h k)
unfolding read_lines
read_numbered s h k = (positive 0, numbered_join (set_lines s) _ (set_numbered s) (positive 3, (positive 5, tt)))

module _ (s : Set) (h : Kept) where
  pub add_zero : (b : Reception) → (number_of (added_of s b h) ≡ 0) ↔ (added_of s b h ≡ done tt)
  unfolding added_of
  add_zero b = zero_is_done (λ x. x.number) (refusal s) (refusal_number s) (add_lines s b h) tt (add_numbered s b h)

  pub read_zero : (x : ℕ) → (number_of (read_of s h x) ≡ 0) ↔ (read_of s h x ≡ done (told_of (held h x)))
  unfolding read_of
  read_zero x = zero_is_done (λ x. x.number) (refusal s) (refusal_number s) (read_lines s h x) (told_of (held h x)) (read_numbered s h x)

  pub add_first : (b : Reception) (k : ℕ) → k ≢ 0 → (number_of (added_of s b h) ≡ k) ↔ First (add_lines s b h) k
  unfolding added_of
  add_first b k p = number_is_first (λ x. x.number) (refusal s) (refusal_number s) (add_lines s b h) tt (add_numbered s b h) k p

  pub read_first : (x k : ℕ) → k ≢ 0 → (number_of (read_of s h x) ≡ k) ↔ First (read_lines s h x) k
  unfolding read_of
  read_first x k p = number_is_first (λ x. x.number) (refusal s) (refusal_number s) (read_lines s h x) (told_of (held h x)) (read_numbered s h x) k p

  pub read_outs : (x : ℕ) (sum : Float) (count : ℕ)
      → (sum_out (read_of s h x) sum ≡ after (read_lines s h x) (sum_held sum (told_of (held h x))) sum)
      × (count_out (read_of s h x) count ≡ after (read_lines s h x) (count_held (told_of (held h x))) count)
  unfolding read_of
  read_outs x sum count = (
    out_is_after (refusal s) (read_lines s h x) (told_of (held h x)) (sum_held sum) sum,
    out_is_after (refusal s) (read_lines s h x) (told_of (held h x)) count_held count,
  )
