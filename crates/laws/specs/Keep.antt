-- Walking cells. f gives a cell's entry, and an entry is kept where it passes the test ok; the others are padding. Over any element,
-- rule and test. These are definitions.
use Rattle.std.specs.Prelude.{ℕ, zero, suc, Bool, cond, List, [], ◌∷◌}

-- Both branches of each test are bound by a let, so that a computed case works out one of them only.
module _ {A : Type 0} (f : ℕ → A) (ok : A → Bool) where
  -- the entries that pass the test among the n cells from c on, in order
  unfoldable pub keep : ℕ → ℕ → List A
  keep c zero = []
  keep c (suc n) =
      let rest = keep (suc c) n in
      let more = f c ∷ rest in
      cond (ok (f c)) more rest

  -- what a walk writes: from cell c, with n cells left and room for so many entries
  unfoldable pub wrote : ℕ → ℕ → ℕ → List A
  wrote c zero room = []
  wrote c (suc n) zero = []
  wrote c (suc n) (suc room) =
      let more = f c ∷ wrote (suc c) n room in
      let rest = wrote (suc c) n (suc room) in
      cond (ok (f c)) more rest

  -- the cells that it examines: it stops right after its room is full, or where no cell is left
  unfoldable pub steps : ℕ → ℕ → ℕ → ℕ
  steps c zero room = 0
  steps c (suc n) zero = 0
  steps c (suc n) (suc room) =
      let more = suc (steps (suc c) n room) in
      let rest = suc (steps (suc c) n (suc room)) in
      cond (ok (f c)) more rest

  -- how many of the n cells from c on are padding
  unfoldable pub padding : ℕ → ℕ → ℕ
  padding c zero = 0
  padding c (suc n) =
      let rest = padding (suc c) n in
      let more = suc rest in
      cond (ok (f c)) rest more
