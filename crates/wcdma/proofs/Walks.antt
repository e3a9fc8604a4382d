-- A walk from cell 0 with room for all of it writes L. (The rest is proved once for every family, in crates laws, families and walks.)
use Rattle.std.specs.Prelude.{ℕ, ◌≤◌, ◌≡◌}
use Rattle.std.proofs.Common.{sym, ◌∙◌}
use Rattle.laws.specs.Walk.{walk_list, whole_list}
use Rattle.wcdma_shape.specs.Rectangle.{Size}
use Rattle.wcdma.specs.Turbo.{addresses, turbo_rule}
use Rattle.wcdma.proofs.Law.{turbo_lawful}

pub walk_whole : (k : ℕ) → Size k → (room : ℕ) → k ≤ room → walk_list k (turbo_rule k) 0 room ≡ addresses k
unfolding addresses
walk_whole k size room h = whole_list (turbo_lawful k size.high) room h ∙ sym (turbo_lawful k size.high).list
