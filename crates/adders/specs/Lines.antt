-- The lines of a received block against what is stored: 14, 13, 15, each over the whole block before the next. l is the list that says which position
-- a value goes to.
use Rattle.std.specs.Prelude.{ℕ, ◌<◌, Bool, true, false, List, [], ◌∷◌, Result, Ok, Err, ◌≡◌, refl, ltb, get_or}
use Rattle.std.proofs.Common.{ap, ap₂, arith}
use Rattle.std.specs.Float.{nan}
use Rattle.laws.specs.Outcome.{Line, line, Ruling, clear, stopped, first, settle}
use Rattle.positions.specs.declared.Running.{Running}
use Rattle.positions.specs.Heard.{Reception, Kept, held, heard, spoils}
use Rattle.adders.specs.Any.{any, any_same}

abbrev pub first_of : Bool → Bool → Bool → List Line
first_of high spoiled full = line 14 high ∷ line 13 spoiled ∷ line 15 full ∷ []

module _ (l : ℕ → ℕ) (b : Reception) (h : Kept) where
  -- value t at its position
  abbrev pub heard_at : ℕ → Running
  heard_at t = heard (get_or b.present t 0) (get_or b.received t nan) (held h (l t))

  -- 14 a presence byte above 1; 13 a value, a stored sum or their sum isn't finite; 15 a count would pass 65,535
  abbrev pub is_high : ℕ → Bool
  is_high t = ltb 1 (get_or b.present t 0)

  abbrev pub is_spoiled : ℕ → Bool
  is_spoiled t = spoils (get_or b.present t 0) (get_or b.received t nan) (held h (l t))

  abbrev pub is_full : ℕ → Bool
  is_full t = ltb 65535 (heard_at t).count

abbrev pub value_lines : (ℕ → ℕ) → ℕ → Reception → Kept → List Line
value_lines l n b h = first_of (any (is_high l b h) n) (any (is_spoiled l b h) n) (any (is_full l b h) n)

-- a ruling as an answer: the number of the line that applies, if one does
abbrev pub ruled : Ruling → Result (Unit {0}) ℕ
ruled r = settle r Err (Ok tt)

-- which tells the ruling
pub ruled_clear : (r : Ruling) → ruled r ≡ Ok tt → r ≡ clear
ruled_clear clear e = refl
ruled_clear (stopped k) e = cc

pub ruled_stopped : (r : Ruling) (k : ℕ) → ruled r ≡ Err k → r ≡ stopped k
ruled_stopped clear k e = cc
ruled_stopped (stopped j) k e = let same : j ≡ k = cc in ap stopped same

-- by lists that are the same below n
module _ (f g : ℕ → ℕ) (n : ℕ) (b : Reception) (h : Kept) (same : (t : ℕ) → t < n → f t ≡ g t) where
  pub lines_same : value_lines f n b h ≡ value_lines g n b h
  lines_same =
      ap₂ (λ (x y : Bool). first_of (any (is_high f b h) n) x y)
      (any_same (is_spoiled f b h) (is_spoiled g b h) n (λ t l. ap (λ (k : ℕ). spoils (get_or b.present t 0) (get_or b.received t nan) (held h k)) (same t l)))
      (any_same (is_full f b h) (is_full g b h) n (λ t l. ap (λ (k : ℕ). ltb 65535 (heard (get_or b.present t 0) (get_or b.received t nan) (held h k)).count) (same t l)))
