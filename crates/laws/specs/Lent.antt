-- What a refused call was lent, of a buffer that other calls go on with: the buffer, a part of it, or something else. Over any element.
use Rattle.std.specs.Prelude.{List, ◌++◌, ◌≡◌, refl}
use Rattle.std.proofs.Common.{sym, ap, ◌∙◌}

pub data Lent {A : Type 0} (whole : List A) : List A → Type 0 where
  part : (before lent behind : List A) → whole ≡ before ++ (lent ++ behind) → Lent whole lent
  other : (lent : List A) → Lent whole lent

-- the buffer, where new is what such a call left of what it was lent
abbrev pub left_of : {A : Type 0} {whole lent : List A} → Lent whole lent → List A → List A
left_of (part before lent behind e) new = before ++ (new ++ behind)
left_of {whole = whole} (other lent) new = whole

-- what is lent and left as it was leaves the buffer as it was
pub left_alone : {A : Type 0} {whole lent : List A} (l : Lent whole lent) {new : List A} → new ≡ lent → left_of l new ≡ whole
left_alone (other lent) e = refl
left_alone {A} (part before lent behind w) e = ap (λ (l : List A). before ++ (l ++ behind)) e ∙ sym w
