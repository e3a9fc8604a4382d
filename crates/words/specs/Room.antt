-- What a line of standard input leaves in the room: some bytes, fewer than 512, none of them a line's end, and behind them what stood there. What
-- those bytes are is standard input's to say.
use Rattle.std.specs.Prelude.{ℕ, suc, ◌+◌, ◌<◌, ◌≡◌, refl, ◌≢◌, List, [], ◌∷◌, ◌++◌, length, set}
use Rattle.std.proofs.Common.{◌∙◌, ap, sym, add-zero, arith, length-append}
use Rattle.std.proofs.lemmas.List.Edits.{sets}
use Rattle.words.specs.declared.line.Line.{Line}
use Rattle.words.specs.declared.line.Line.TheVariants.{Of, Long, Nothing}

-- no byte is a line's end
abbrev pub Unbroken : List ℕ → Type 0
Unbroken [] = Unit {0}
Unbroken (b ∷ bs) = (b ≢ 10) × Unbroken bs

-- n bytes were read
pub record Taken (before after : List ℕ) (n : ℕ) : Type 0 where
  pub bytes : List ℕ
  pub unbroken : Unbroken bytes
  pub count : n ≡ length bytes
  pub room : after ≡ sets before 0 bytes

abbrev pub Read : List ℕ → List ℕ → Line → Type 0
Read before after (Of n) = (n < 512) × Taken before after n
Read before after Long = Taken before after 512
Read before after Nothing = after ≡ before

pub taken_none : (before : List ℕ) → Taken before before 0
taken_none before = record { bytes = []; unbroken = Prim.tt; count = refl; room = refl }

module _ (b : ℕ) (h : b ≢ 10) where
  unbroken_more : (bs : List ℕ) → Unbroken bs → Unbroken (bs ++ (b ∷ []))
  unbroken_more [] u = (h, Prim.tt)
  unbroken_more (x ∷ bs) u = (u.0, unbroken_more bs u.1)

sets_last : (bs l : List ℕ) (i b : ℕ) → set (sets l i bs) (i + length bs) b ≡ sets l i (bs ++ (b ∷ []))
sets_last [] l i b = ap (λ (n : ℕ). set l n b) (add-zero i)
sets_last (x ∷ bs) l i b =
    let e : i + suc (length bs) ≡ suc i + length bs = omega arith in
    ap (λ (n : ℕ). set (sets (set l i x) (suc i) bs) n b) e ∙ sets_last bs (set l i x) (suc i) b

pub taken_more : {before after : List ℕ} {n b : ℕ} → Taken before after n → b ≢ 10 → Taken before (set after n b) (n + 1)
taken_more {before} {after} {n} {b} t h =
    let e : n ≡ 0 + length t.bytes = omega (arith, t.count) in
    record {
      bytes = t.bytes ++ (b ∷ []);
      unbroken = unbroken_more b h t.bytes t.unbroken;
      count = omega (arith, t.count, length-append t.bytes (b ∷ []));
      room = rw t.room (ap (λ (k : ℕ). set (sets before 0 t.bytes) k b) e ∙ sets_last t.bytes before 0 b);
    }

pub taken_as : {before after : List ℕ} {n m : ℕ} → Taken before after n → n ≡ m → Taken before after m
taken_as t e = record { bytes = t.bytes; unbroken = t.unbroken; count = sym e ∙ t.count; room = t.room }

empty : (bs : List ℕ) → 0 ≡ length bs → bs ≡ []
empty [] e = refl
empty (b ∷ bs) e = absurd (omega arith)

pub taken_nothing : {before after : List ℕ} → Taken before after 0 → after ≡ before
taken_nothing {before} t = t.room ∙ ap (sets before 0) (empty t.bytes t.count)
