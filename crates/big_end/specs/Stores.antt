-- Bytes stored one after the other are one store of a list, and so are numbers; a list and then another right behind it are one store of both.
use Rattle.std.specs.Prelude.{ℕ, suc, ◌+◌, List, [], ◌∷◌, ◌++◌, ◌≡◌, refl, length, set}
use Rattle.std.proofs.Common.{sym, ap, ap₂, ◌∙◌, add-zero, suc-add, add-suc, add-one, arith}
use Rattle.std.proofs.lemmas.List.Edits.{sets}
use Rattle.big_end.specs.Numbers.{number_bytes}

-- stores one after the other, four and two of them
pub four : (l : List ℕ) (at a b c d : ℕ) → set (set (set (set l at a) (at + 1) b) (at + 2) c) (at + 3) d ≡ sets l at (a ∷ b ∷ c ∷ d ∷ [])
four l at a b c d =
    rw (add-one at, let e : at + 2 ≡ suc (suc at) = omega arith in e, let e : at + 3 ≡ suc (suc (suc at)) = omega arith in e)

pub two : (l : List ℕ) (at a b : ℕ) → set (set l at a) (at + 1) b ≡ sets l at (a ∷ b ∷ [])
two l at a b = rw (add-one at)

-- a list stored, and then another right behind it
pub sets_join : (l : List ℕ) (i : ℕ) (vs ws : List ℕ) → sets l i (vs ++ ws) ≡ sets (sets l i vs) (i + length vs) ws
sets_join l i [] ws = rw add-zero
sets_join l i (v ∷ vs) ws =
    sets_join (set l i v) (suc i) vs ws ∙ ap (λ (k : ℕ). sets (sets (set l i v) (suc i) vs) k ws) (suc-add i (length vs) ∙ sym (add-suc i (length vs)))

pub sets_then : (o : List ℕ) {p : List ℕ} (at k : ℕ) (vs ws : List ℕ) → p ≡ sets o at vs → at + length vs ≡ k → sets o at (vs ++ ws) ≡ sets p k ws
sets_then o {p} at k vs ws e q = sets_join o at vs ws ∙ ap₂ (λ (l : List ℕ) (i : ℕ). sets l i ws) (sym e) q

-- four numbers, and what comes behind them
pub numbers_put : (o₀ : List ℕ) {o₁ o₂ o₃ o₄ o₅ : List ℕ} (at a b c d : ℕ) (rest : List ℕ)
    → o₁ ≡ sets o₀ at (number_bytes a) → o₂ ≡ sets o₁ (at + 4) (number_bytes b) → o₃ ≡ sets o₂ (at + 8) (number_bytes c) → o₄ ≡ sets o₃ (at + 12) (number_bytes d)
    → o₅ ≡ sets o₄ (at + 16) rest → o₅ ≡ sets o₀ at (number_bytes a ++ (number_bytes b ++ (number_bytes c ++ (number_bytes d ++ rest))))
numbers_put o₀ {o₁} {o₂} {o₃} {o₄} at a b c d rest p q r t u =
    let w₃ = number_bytes d ++ rest in
    let w₂ = number_bytes c ++ w₃ in
    let w₁ = number_bytes b ++ w₂ in
    sym (sets_then o₀ at (at + 4) (number_bytes a) w₁ p refl
    ∙ sets_then o₁ (at + 4) (at + 8) (number_bytes b) w₂ q (let e : at + 4 + 4 ≡ at + 8 = omega arith in e)
    ∙ sets_then o₂ (at + 8) (at + 12) (number_bytes c) w₃ r (let e : at + 8 + 4 ≡ at + 12 = omega arith in e)
    ∙ sets_then o₃ (at + 12) (at + 16) (number_bytes d) rest t (let e : at + 12 + 4 ≡ at + 16 = omega arith in e)
    ∙ sym u)
