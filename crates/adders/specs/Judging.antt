-- The loop that judges a block: what holds at each turn.
use Rattle.std.specs.Prelude.{ℕ, ◌+◌, ◌≤◌, ◌<◌, Bool, false, ◌||◌, List, ◌≡◌, refl, length}
use Rattle.std.proofs.Common.{sym, ap, ap₂, ◌∙◌, le_antisymm, add-one, arith}
use Rattle.laws.specs.Loop.{by}
use Rattle.laws.specs.Outcome.{first}
use Rattle.positions.specs.Heard.{Reception, Kept}
use Rattle.adders.specs.Any.{any}
use Rattle.adders.specs.Lines.{is_high, is_spoiled, is_full, first_of, value_lines, ruled}

-- the first t values are judged
pub record Judged (table : List ℕ) (b : Reception) (h : Kept) (high spoiled full : Bool) (t : ℕ) : Type 0 where
  pub far : t ≤ length b.received
  pub is_high_lem : high ≡ any (is_high (by table) b h) t
  pub is_spoiled_lem : spoiled ≡ any (is_spoiled (by table) b h) t
  pub is_full_lem : full ≡ any (is_full (by table) b h) t

module _ (table : List ℕ) (b : Reception) (h : Kept) where
  pub judged_none : Judged table b h false false false 0
  judged_none = record { far = omega arith; is_high_lem = refl; is_spoiled_lem = refl; is_full_lem = refl }

  pub judged_more : {high spoiled full x y z : Bool} {t : ℕ} → Judged table b h high spoiled full t → t < length b.received
      → x ≡ is_high (by table) b h t → y ≡ is_spoiled (by table) b h t → z ≡ is_full (by table) b h t
      → Judged table b h (high || x) (spoiled || y) (full || z) (t + 1)
  judged_more {t = t} j l p q r = record {
    far = omega arith;
    is_high_lem = ap₂ (λ (u v : Bool). u || v) j.is_high_lem p ∙ ap (any (is_high (by table) b h)) (sym (add-one t));
    is_spoiled_lem = ap₂ (λ (u v : Bool). u || v) j.is_spoiled_lem q ∙ ap (any (is_spoiled (by table) b h)) (sym (add-one t));
    is_full_lem = ap₂ (λ (u v : Bool). u || v) j.is_full_lem r ∙ ap (any (is_full (by table) b h)) (sym (add-one t));
  }

  pub judged_all : {high spoiled full : Bool} {t : ℕ} → Judged table b h high spoiled full t → length b.received ≤ t
      → ruled (first (first_of high spoiled full)) ≡ ruled (first (value_lines (by table) (length b.received) b h))
  judged_all {t = t} j g = rw (sym (le_antisymm j.far g), j.is_high_lem, j.is_spoiled_lem, j.is_full_lem)
