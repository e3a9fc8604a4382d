-- `fitting::next_listed` is the next size of the profile's form, which is the one that fits.
use Prim.Native.Nat.{ℕ, ◌*◌, ◌<◌}
use mathlib.Core.Bool.{true}
use mathlib.Core.Path.{◌≡◌}
use native.Mathlib.Omega.{arith}
use Rattle.profiles.specs.declared.Admitted.{Admitted}
use Rattle.profiles.specs.Profiles.{admitted_by}
use Rattle.sizes.specs.declared.Size.{Size}
use Rattle.sizes.specs.Listed.{bits_small, unit_small, limit_small, unit_times}
use Rattle.sizes.specs.Tests.{bits_listed}
use Rattle.fitting.specs.NextSize.{fitting_by}
use Rattle.fitting.proofs.next_listed.Goals as goal

-- the unit times the bits, and times s
by_bits : (z : Size) {a : Admitted} → bits_listed z ≡ true → a ≡ admitted_by z.profile → (0 < a.unit * z.bits) × (a.unit * z.bits < 6001)
by_bits z l e = let s = bits_small z l in unit_times _ e _ s.0 s.1

by_group : (p : ℕ) {a : Admitted} → a ≡ admitted_by p → (g : ℕ) → 0 < g → g < 4 → (0 < a.unit * g) × (a.unit * g < 6001)
by_group p e g lo hi = unit_times _ e g lo (omega arith)

limited : (p : ℕ) {a : Admitted} → a ≡ admitted_by p → a.limit < 65536
limited p e = rw e (limit_small _)

positive : (p : ℕ) {a : Admitted} → a ≡ admitted_by p → 0 < a.unit
positive p e = rw e (unit_small _).0

pub overflow_mul-u : goal.overflow_mul-u
overflow_mul-u c = record { fits = omega (arith, (by_bits _ c.requires.1 c.admitted_by-admitted.ensures).1) }

pub next_single-requires : goal.next_single-requires
next_single-requires c = (by_bits _ c.requires.1 c.admitted_by-admitted.ensures).0

pub next_doubling-requires : goal.next_doubling-requires
next_doubling-requires c = let p = by_bits _ c.requires.1 c.admitted_by-admitted.ensures in (p.0, omega (arith, p.1))

pub next_multiple-requires : goal.next_multiple-requires
next_multiple-requires c = let p = by_bits _ c.requires.1 c.admitted_by-admitted.ensures in (p.0, omega (arith, p.1), limited _ c.admitted_by-admitted.ensures)

pub overflow_mul-admitted : goal.overflow_mul-admitted
overflow_mul-admitted c = let g = c.group_by.ensures.result_nonzero in record { fits = omega (arith, (by_group _ c.admitted_by-admitted.ensures _ g.0 g.1).1) }

pub next_multiple-requires-in-Grouped : goal.next_multiple-requires-in-Grouped
next_multiple-requires-in-Grouped c =
    let g = c.group_by.ensures.result_nonzero in
    let p = by_group _ c.admitted_by-admitted.ensures _ g.0 g.1 in
    (p.0, omega (arith, p.1), limited _ c.admitted_by-admitted.ensures)

pub next_in_range-requires : goal.next_in_range-requires
next_in_range-requires c = positive _ c.admitted_by-admitted.ensures

pub next_tiered-requires : goal.next_tiered-requires
next_tiered-requires c = (positive _ c.admitted_by-admitted.ensures, limited _ c.admitted_by-admitted.ensures)

pub next_by_four-requires : goal.next_by_four-requires
next_by_four-requires c = (positive _ c.admitted_by-admitted.ensures, limited _ c.admitted_by-admitted.ensures)

pub returns-in-Only : goal.returns-in-Only
returns-in-Only c = fitting_by _ c.requires.0 c.requires.1 c.admitted_by-admitted.ensures c.in-Only.is c.next_single.ensures

pub returns-in-Doubled : goal.returns-in-Doubled
returns-in-Doubled c = fitting_by _ c.requires.0 c.requires.1 c.admitted_by-admitted.ensures c.in-Doubled.is c.next_doubling.ensures

pub returns-in-Multiple : goal.returns-in-Multiple
returns-in-Multiple c = fitting_by _ c.requires.0 c.requires.1 c.admitted_by-admitted.ensures c.in-Multiple.is c.next_multiple.ensures

pub returns-in-Grouped : goal.returns-in-Grouped
returns-in-Grouped c = fitting_by _ c.requires.0 c.requires.1 c.admitted_by-admitted.ensures c.in-Grouped.is (rw (← c.group_by.ensures.value) c.next_multiple-in-Grouped.ensures)

pub returns-in-Range : goal.returns-in-Range
returns-in-Range c = fitting_by _ c.requires.0 c.requires.1 c.admitted_by-admitted.ensures c.in-Range.is c.next_in_range.ensures

pub returns-in-Tiered : goal.returns-in-Tiered
returns-in-Tiered c = fitting_by _ c.requires.0 c.requires.1 c.admitted_by-admitted.ensures c.in-Tiered.is c.next_tiered.ensures

pub returns-in-Fours : goal.returns-in-Fours
returns-in-Fours c = fitting_by _ c.requires.0 c.requires.1 c.admitted_by-admitted.ensures c.in-Fours.is c.next_by_four.ensures
