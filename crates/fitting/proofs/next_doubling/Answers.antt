-- `fitting::next_doubling` goes through the five numbers from the least on.
use Prim.Native.Nat.{ℕ, ◌*◌, ◌<◌}
use mathlib.Core.Bool.{false}
use mathlib.Core.Path.{◌≡◌}
use native.Mathlib.Omega.{arith}
use lib.Dec.{leb}
use borrow.Author.Tests.{le-leb, lt-leb}
use Rattle.profiles.specs.Profiles.{doubles}
use Rattle.laws.specs.Members.{one_of}
use Rattle.laws.specs.Next.{Next, first_from, Rising, next_rising}
use Rattle.fitting.proofs.next_doubling.Goals as goal

-- the five rise
rising : (u : ℕ) → 0 < u → Rising 0 (doubles u)
rising u pos = (pos, (omega arith, (omega arith, (omega arith, (omega arith, tt)))))

found : (u n r : ℕ) → 0 < u → first_from n (doubles u) ≡ r → Next (λ k. one_of k (doubles u)) n r
found u n r pos e = rw (← e) (next_rising n 0 (doubles u) (rising u pos))

pub returns-then-n-u : goal.returns-then-n-u
returns-then-n-u c = found _ _ _ c.requires.0 (simp (le-leb _ _ c.if-n-u.true))

pub returns-then-n-u-2 : goal.returns-then-n-u-2
returns-then-n-u-2 c = found _ _ _ c.requires.0 (simp (lt-leb _ _ c.if-n-u.false, le-leb _ _ c.if-n-u-2.true))

pub returns-then-n-u-3 : goal.returns-then-n-u-3
returns-then-n-u-3 c =
    found _ _ _ c.requires.0 (simp (lt-leb _ _ c.if-n-u.false, lt-leb _ _ c.if-n-u-2.false, le-leb _ _ c.if-n-u-3.true))

pub returns-then-n-u-4 : goal.returns-then-n-u-4
returns-then-n-u-4 c =
    found _ _ _ c.requires.0
    (simp (lt-leb _ _ c.if-n-u.false, lt-leb _ _ c.if-n-u-2.false, lt-leb _ _ c.if-n-u-3.false, le-leb _ _ c.if-n-u-4.true))

pub returns-then-n-u-5 : goal.returns-then-n-u-5
returns-then-n-u-5 c =
    let past : let a = c.args in (leb a.n a.u ≡ false) × (leb a.n (2 * a.u) ≡ false) × (leb a.n (4 * a.u) ≡ false) × (leb a.n (8 * a.u) ≡ false) = (lt-leb _ _ c.if-n-u.false, lt-leb _ _ c.if-n-u-2.false, lt-leb _ _ c.if-n-u-3.false, lt-leb _ _ c.if-n-u-4.false) in
    let p = past in
    found _ _ _ c.requires.0 (simp (p.0, p.1, p.2, p.3, le-leb _ _ c.if-n-u-5.true))

pub returns : goal.returns
returns c =
    let past : let a = c.args in (leb a.n a.u ≡ false) × (leb a.n (2 * a.u) ≡ false) × (leb a.n (4 * a.u) ≡ false) × (leb a.n (8 * a.u) ≡ false) = (lt-leb _ _ c.if-n-u.false, lt-leb _ _ c.if-n-u-2.false, lt-leb _ _ c.if-n-u-3.false, lt-leb _ _ c.if-n-u-4.false) in
    let p = past in
    found _ _ _ c.requires.0 (simp (p.0, p.1, p.2, p.3, lt-leb _ _ c.if-n-u-5.false))
