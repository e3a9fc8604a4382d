-- What a walk of an accepted set writes, from any cell and with any room: L, or M, on from there.
use Rattle.std.specs.Prelude.{ℕ, min, ◌-◌, ◌≤◌, ◌<◌, ◌≡◌}
use Rattle.std.proofs.Common.{sym, ap, subst, ◌∙◌}
use Rattle.laws.specs.declared.Way.TheVariants.{Interleaver, Deinterleaver}
use Rattle.laws.specs.Run.{run}
use Rattle.laws.specs.Walk.{Rule, bare_rule, passed_by, bare_behind, bare_cells}
use Rattle.laws.specs.Walk as along
use Rattle.walks.specs.declared.Walk.{Walk}
use Rattle.families.specs.Rules.{rule_of, L, M, lawful, lawful_way}
use Rattle.walks.specs.Answer.{walk_list, walk_cells}
use Rattle.sets.specs.Admits.{Accepted}

-- how many addresses, no padding, the walk for L has behind it at its cell
abbrev pub behind : Walk → ℕ
behind w = passed_by w.set.n (rule_of w.set) w.cell

module _ (w : Walk) (room : ℕ) (e : Accepted w.set) where
  pub walk_l_is : w.cell ≤ (rule_of w.set).total
      → walk_list Interleaver w room ≡ run (L w.set) (behind w) (min room (w.set.n - behind w))
  walk_l_is h = along.walk_from (lawful w.set e) w.cell room h

  -- a family without padding, and M
  pub walk_bare_is : {l m : ℕ → ℕ} → rule_of w.set ≡ bare_rule w.set.n l m → w.cell ≤ w.set.n
      → walk_list Interleaver w room ≡ run (L w.set) w.cell (min room (w.set.n - w.cell))
  walk_bare_is {l} {m} q h =
      let below : (x : ℕ) → x < w.set.n → l x < w.set.n =
      λ x o. subst (λ (r : Rule). r.l x < w.set.n) q ((lawful w.set e).perm.l_below x o) in
      walk_l_is (subst (λ (r : Rule). w.cell ≤ r.total) (sym q) h)
      ∙ ap (λ (c : ℕ). run (L w.set) c (min room (w.set.n - c)))
      (ap (λ (r : Rule). passed_by w.set.n r w.cell) q ∙ bare_behind m w.cell below h)

  -- and examines as many cells as it writes addresses
  pub cells_bare_are : {l m : ℕ → ℕ} → rule_of w.set ≡ bare_rule w.set.n l m → walk_cells Interleaver w room ≡ min room (w.set.n - w.cell)
  cells_bare_are {l} {m} q =
      ap (λ (r : Rule). along.walk_cells w.set.n r w.cell room) q
      ∙ bare_cells m w.cell room (λ x o. subst (λ (r : Rule). r.l x < w.set.n) q ((lawful w.set e).perm.l_below x o))

  pub walk_m_is : w.cell ≤ w.set.n → walk_list Deinterleaver w room ≡ run (M w.set) w.cell (min room (w.set.n - w.cell))
  walk_m_is h =
      along.walk_from (lawful_way Deinterleaver w.set e) w.cell room h
      ∙ ap (λ (c : ℕ). run (M w.set) c (min room (w.set.n - c))) (bare_behind (L w.set) w.cell (lawful w.set e).perm.m_below h)
