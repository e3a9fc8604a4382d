-- Lines told by sentences, as many as there are: when none of them applies, and lists of them joined. Rests on Sentences.
use Rattle.std.specs.Prelude.{ℕ, Bool, true, false, not, List, [], ◌∷◌, ◌++◌, ◌↔◌, ◌≡◌, refl}
use Rattle.std.proofs.lemmas.Bool.{false≢true, not-true, not-false}
use Rattle.std.proofs.Common.{sym, ◌∙◌}
use Rattle.laws.specs.Outcome.{Line, line, Clear}
use Rattle.laws.specs.Sentences.{Sentence, sentence, Told, none, more}

-- no line of two lists applies
pub clear_join : (ls ms : List Line) → Clear ls → Clear ms → Clear (ls ++ ms)
clear_join [] ms c d = d
clear_join (l ∷ ls) ms c d = (c.0, clear_join ls ms c.1 d)

pub clear_parts : (ls ms : List Line) → Clear (ls ++ ms) → Clear ls × Clear ms
clear_parts [] ms c = (tt, c)
clear_parts (l ∷ ls) ms c = let r = clear_parts ls ms c.1 in ((c.0, r.0), r.1)

-- none of the sentences holds
abbrev pub NoneTrue : List Sentence → Type 0
NoneTrue [] = Unit {0}
NoneTrue (p ∷ ps) = (p.holds → ⊥) × NoneTrue ps

-- no line applies exactly when no sentence holds
pub told_clear : {C : Type 0} {ls : List Line} {ps : List Sentence} → Told C ls ps → C → Clear ls ↔ NoneTrue ps
told_clear none c = (λ e. tt, λ e. tt)
told_clear (more {b = b} {p = p} {ls = ls} {ps = ps} applies fails t) c =
    (λ e. (fails c e.0, (told_clear t (c, e.0)).0 e.1), λ h. go b refl h.0 (λ e. (told_clear t (c, e)).1 h.1))
  where
    go : (d : Bool) → b ≡ d → (p → ⊥) → (b ≡ false → Clear ls) → (b ≡ false) × Clear ls
    go true e n r = absurd (n (applies c e))
    go false e n r = (e, r e)

-- what is told where C holds is told where more does
pub told_under : {C D : Type 0} {ls : List Line} {ps : List Sentence} → (D → C) → Told C ls ps → Told D ls ps
told_under f none = none
told_under f (more {p = p} applies fails t) = more {p = p} (λ d. applies (f d)) (λ d. fails (f d)) (told_under (λ d. (f d.0, d.1)) t)

-- a line that applies unless a test passes, as it does exactly when P holds
pub told_unless : {C : Type 0} {t : Bool} {P : Type 0} {ls : List Line} {ps : List Sentence} (k : ℕ)
    → (C → t ≡ true → P) → (C → P → t ≡ true) → Told (C × (t ≡ true)) ls ps → Told C (line k (not t) ∷ ls) (sentence k (P → ⊥) ∷ ps)
told_unless {t = t} {P = P} k holds passes u =
    more {p = P → ⊥} (λ c e h. false≢true (sym (not-true t e) ∙ passes c h)) (λ c e n. n (holds c (not-false t e)))
    (told_under (λ d. (d.0, not-false t d.1)) u)

-- lines behind others: they are told where none of those applies
pub told_join : {C : Type 0} {ls ms : List Line} {ps qs : List Sentence}
    → Told C ls ps → Told (C × Clear ls) ms qs → Told C (ls ++ ms) (ps ++ qs)
told_join none u = told_under (λ c. (c, tt)) u
told_join (more {p = p} applies fails t) u = more {p = p} applies fails (told_join t (told_under (λ d. (d.0.0, (d.0.1, d.1))) u))
