-- `times` is v times the last power: each sum is a multiple of it, and the tests of v leave one of the six numbers.
use Prim.Native.Nat.{ℕ, ◌+◌, ◌%◌, ◌≤◌, ◌<◌}
use mathlib.Core.Path.{◌≡◌}
use native.Mathlib.Omega.{arith}
use Rattle.wcdma_powers.proofs.Steps.{Times, once, times_sum, each_root}
use Rattle.wcdma_powers.proofs.times.Goals as goal

-- the sums, one after the other: two, three, six and seven times x
module _ {p x : ℕ} (h : x < p) {two : ℕ} (e : two ≡ (x + x) % p) where
  twice : Times p x 2 two
  twice = times_sum (once h) (once h) e

  module _ {three : ℕ} (f : three ≡ (two + x) % p) where
    thrice : Times p x 3 three
    thrice = times_sum twice (once h) f

    module _ {six : ℕ} (g : six ≡ (three + three) % p) where
      six_times : Times p x 6 six
      six_times = times_sum thrice thrice g

      seven_times : {seven : ℕ} → seven ≡ (six + x) % p → Times p x 7 seven
      seven_times k = times_sum six_times (once h) k

pub returns-then-v-lt5 : goal.returns-then-v-lt5
returns-then-v-lt5 c =
    rw (each_root (λ x. 3 ≤ x → x < 5 → x ≡ 3) (omega arith) _ c.requires.six c.if-v-lt3.false c.if-v-lt5.true)
    (thrice c.requires.below c.plus-two.ensures c.plus-three.ensures).is

pub returns-then-v-lt6 : goal.returns-then-v-lt6
returns-then-v-lt6 c =
    let two = twice c.requires.below c.plus-two.ensures in
    let three = thrice c.requires.below c.plus-two.ensures c.plus-three.ensures in
    rw (each_root (λ x. 5 ≤ x → x < 6 → x ≡ 5) (omega arith) _ c.requires.six c.if-v-lt5.false c.if-v-lt6.true) (times_sum three two c.plus.ensures).is

pub returns-then-v-lt7 : goal.returns-then-v-lt7
returns-then-v-lt7 c =
    rw (each_root (λ x. 6 ≤ x → x < 7 → x ≡ 6) (omega arith) _ c.requires.six c.if-v-lt6.false c.if-v-lt7.true)
    (six_times c.requires.below c.plus-two.ensures c.plus-three.ensures c.plus-six.ensures).is

pub returns-then-v-lt19 : goal.returns-then-v-lt19
returns-then-v-lt19 c =
    rw (each_root (λ x. 7 ≤ x → x < 19 → x ≡ 7) (omega arith) _ c.requires.six c.if-v-lt7.false c.if-v-lt19.true)
    (seven_times c.requires.below c.plus-two.ensures c.plus-three.ensures c.plus-six.ensures c.plus-seven.ensures).is

pub returns : goal.returns
returns c =
    let six = six_times c.requires.below c.plus-two.ensures c.plus-three.ensures c.plus-six.ensures in
    let seven = seven_times c.requires.below c.plus-two.ensures c.plus-three.ensures c.plus-six.ensures c.plus-seven.ensures in
    rw (each_root (λ x. 19 ≤ x → x ≡ 19) (omega arith) _ c.requires.six c.if-v-lt19.false)
    (times_sum (times_sum six six c.plus-twelve.ensures) seven c.plus-2.ensures).is
