-- The pattern of every call. Its refusals are lines in the order of the checks, each a number and whether it applies: the first that
-- applies is given, and where one applies no lent buffer changes. Over any values and any kind of refusal.
use Rattle.std.specs.Prelude.{ℕ, Bool, true, false, cond, List, [], ◌∷◌, ◌++◌, ◌≡◌, refl, Result, Ok, Err}
use Rattle.std.proofs.Common.{arith, sym, ap, ap₂, ◌∙◌}

-- what a call says: it is done, with its values, or it is refused
pub data Outcome (R A : Type 0) : Type 0 where
  done : A → Outcome R A
  refused : R → Outcome R A

-- a part of the values where a call is done, else another thing
abbrev pub part_or : {R A B : Type 0} → Outcome R A → (A → B) → B → B
part_or (done a) part z = part a
part_or (refused r) part z = z

-- what the answer of a call says
abbrev pub say : {R A : Type 0} → Result A R → Outcome R A
say (Ok a) = done a
say (Err r) = refused r

-- what can be read back from what an answer says tells any two answers apart: answers that say the same are the same
pub apart : {X Y : Type 0} (say : X → Y) (read : Y → X) → ((a : X) → read (say a) ≡ a) → (a b : X) → say a ≡ say b → a ≡ b
apart say read same a b e = sym (same a) ∙ ap read e ∙ same b

pub answers_apart : {R A : Type 0} (a b : Result A R) → say a ≡ say b → a ≡ b
answers_apart {R} {A} = apart say read same
  where
    read : Outcome R A → Result A R
    read (done a) = Ok a
    read (refused r) = Err r

    same : (a : Result A R) → read (say a) ≡ a
    same (Ok a) = refl
    same (Err r) = refl

-- a line of the order of checks: its number, and whether it applies
pub record Line : Type 0 where
  pub number : ℕ
  pub applies : Bool

abbrev pub line : ℕ → Bool → Line
line k b = record { number = k; applies = b }

-- the number of the first line that applies, if one does
pub data Ruling : Type 0 where
  clear : Ruling
  stopped : ℕ → Ruling

abbrev pub first : List Line → Ruling
first [] = clear
first (l ∷ ls) = cond l.applies (stopped l.number) (first ls)

-- one thing where a line applies, another where none does
abbrev pub settle : {A : Type 0} → Ruling → (ℕ → A) → A → A
settle clear stop go = go
settle (stopped k) stop go = stop k

-- the answer of a call: refused by the first line that applies, else done. give makes the refusal of a number
abbrev pub judged : {R A : Type 0} → (ℕ → R) → List Line → A → Outcome R A
judged give ls a = settle (first ls) (λ k. refused (give k)) (done a)

-- a lent buffer after a call: the new one where no line applies, else the old one
abbrev pub after : {B : Type 0} → List Line → B → B → B
after ls new old = settle (first ls) (λ k. old) new

-- no line applies
abbrev pub Clear : List Line → Type 0
Clear [] = Unit {0}
Clear (l ∷ ls) = (l.applies ≡ false) × Clear ls

-- a line with the number k applies, and none before it does
pub record First (ls : List Line) (k : ℕ) : Type 0 where
  pub before : List Line
  pub behind : List Line
  pub whole : ls ≡ before ++ (line k true ∷ behind)
  pub none_before : Clear before

-- a ruling, read as what it says of the lines

pub never : {k : ℕ} → stopped k ≡ clear → ⊥
never {k} p = let z : ◌≡◌ {A = ℕ} 0 1 = cc in omega arith

pub first_clear : (ls : List Line) → first ls ≡ clear → Clear ls
first_clear [] e = tt
first_clear (l ∷ ls) e = go l.applies refl e (first_clear ls)
  where
    go : (b : Bool) → l.applies ≡ b → cond b (stopped l.number) (first ls) ≡ clear → (first ls ≡ clear → Clear ls) → Clear (l ∷ ls)
    go true q e r = absurd (never e)
    go false q e r = (q, r e)

pub clear_first : (ls : List Line) → Clear ls → first ls ≡ clear
clear_first [] c = refl
clear_first (l ∷ ls) c = rw c.0 (clear_first ls c.1)

pub first_stopped : (ls : List Line) (k : ℕ) → first ls ≡ stopped k → First ls k
first_stopped [] k e = absurd (never (sym e))
first_stopped (l ∷ ls) k e = go l.applies refl e (first_stopped ls k)
  where
    go : (b : Bool) → l.applies ≡ b → cond b (stopped l.number) (first ls) ≡ stopped k → (first ls ≡ stopped k → First ls k) → First (l ∷ ls) k
    go true q e r =
        let n : l.number ≡ k = cc in
        record { before = []; behind = ls; whole = ap₂ (λ (a : ℕ) (b : Bool). line a b ∷ ls) n q; none_before = tt }
    go false q e r =
        let f = r e in
        record { before = l ∷ f.before; behind = f.behind; whole = ap (λ (x : List Line). l ∷ x) f.whole; none_before = (q, f.none_before) }

-- lines after lines
pub first_join : (ls ms : List Line) → first (ls ++ ms) ≡ settle (first ls) stopped (first ms)
first_join [] ms = refl
first_join (l ∷ ls) ms = go l.applies (first_join ls ms)
  where
    go : (b : Bool) → first (ls ++ ms) ≡ settle (first ls) stopped (first ms)
        → cond b (stopped l.number) (first (ls ++ ms)) ≡ settle (cond b (stopped l.number) (first ls)) stopped (first ms)
    go true r = refl
    go false r = r

pub stopped_first : (ls : List Line) (k : ℕ) → First ls k → first ls ≡ stopped k
stopped_first ls k f =
    ap first f.whole ∙ first_join f.before (line k true ∷ f.behind) ∙ ap (λ (r : Ruling). settle r stopped (stopped k)) (clear_first f.before f.none_before)

-- the lines in front are clear where all are, and then the lines behind decide
pub clear_front : (ls ms : List Line) → first (ls ++ ms) ≡ clear → first ls ≡ clear
clear_front ls ms e = go (first ls) (sym (first_join ls ms) ∙ e)
  where
    go : (r : Ruling) → settle r stopped (first ms) ≡ clear → r ≡ clear
    go clear e = refl
    go (stopped k) e = absurd (never e)

pub clear_then : (ls ms : List Line) → first ls ≡ clear → first (ls ++ ms) ≡ first ms
clear_then ls ms e = first_join ls ms ∙ rw e

pub clear_back : (ls ms : List Line) → first (ls ++ ms) ≡ clear → first ms ≡ clear
clear_back ls ms e = sym (clear_then ls ms (clear_front ls ms e)) ∙ e

pub stopped_front : (ls ms : List Line) (k : ℕ) → first ls ≡ stopped k → first (ls ++ ms) ≡ stopped k
stopped_front ls ms k e = first_join ls ms ∙ rw e

-- what an answer says of the lines, and what the lines say of an answer

module _ {R A : Type 0} (give : ℕ → R) (a : A) where
  -- a refusal that is said is that of the first line that applies ..
  pub record Given (ls : List Line) (r : R) : Type 0 where
    pub number : ℕ
    pub its_line : First ls number
    pub refusal_is : r ≡ give number

  pub refused_first : (ls : List Line) (r : R) → judged give ls a ≡ refused r → Given ls r
  refused_first ls r e = go (first ls) refl e
    where
      go : (x : Ruling) → first ls ≡ x → settle x (λ k. refused (give k)) (done a) ≡ refused r → Given ls r
      go clear q e = let z : ◌≡◌ {A = ℕ} 0 1 = cc in absurd (omega arith)
      go (stopped k) q e = record { number = k; its_line = first_stopped ls k q; refusal_is = cc }

  -- .. and the first line that applies is said
  pub first_refused : (ls : List Line) (k : ℕ) → First ls k → judged give ls a ≡ refused (give k)
  first_refused ls k f = rw (stopped_first ls k f)

  pub done_clear : (ls : List Line) (b : A) → judged give ls a ≡ done b → Clear ls × (a ≡ b)
  done_clear ls b e = go (first ls) refl e
    where
      go : (x : Ruling) → first ls ≡ x → settle x (λ k. refused (give k)) (done a) ≡ done b → Clear ls × (a ≡ b)
      go clear q e = (first_clear ls q, cc)
      go (stopped k) q e = let z : ◌≡◌ {A = ℕ} 0 1 = cc in absurd (omega arith)

  pub clear_done : (ls : List Line) → Clear ls → judged give ls a ≡ done a
  clear_done ls c = rw (clear_first ls c)

-- where a line applies every lent buffer is what it was, and else it is the new one
pub buffer_kept : {B : Type 0} (ls : List Line) (k : ℕ) (new old : B) → First ls k → after ls new old ≡ old
buffer_kept ls k new old f = rw (stopped_first ls k f)

pub buffer_new : {B : Type 0} (ls : List Line) (new old : B) → Clear ls → after ls new old ≡ new
buffer_new ls new old c = rw (clear_first ls c)

-- a change made to both buffers is made to what the call leaves
pub after_map : {A B : Type 0} (h : A → B) (ls : List Line) (new old : A) → after ls (h new) (h old) ≡ h (after ls new old)
after_map h ls new old = go (first ls)
  where
    go : (r : Ruling) → settle r (λ k. h old) (h new) ≡ h (settle r (λ k. old) new)
    go clear = refl
    go (stopped k) = refl

-- two new buffers that are the same where no line applies leave the same
pub after_same : {B : Type 0} (ls : List Line) {a b : B} (old : B) → (first ls ≡ clear → a ≡ b) → after ls a old ≡ after ls b old
after_same ls {a} {b} old same = go (first ls) same
  where
    go : (r : Ruling) → (r ≡ clear → a ≡ b) → settle r (λ k. old) a ≡ settle r (λ k. old) b
    go clear same = same refl
    go (stopped k) same = refl

-- the same from an answer
module _ {R A : Type 0} (give : ℕ → R) (a : A) (ls : List Line) where
  pub answer_keeps : {r : R} → judged give ls a ≡ refused r → {B : Type 0} (new old : B) → after ls new old ≡ old
  answer_keeps {r} e new old = let g = refused_first give a ls r e in buffer_kept ls g.number new old g.its_line

  pub answer_clear : {b : A} → judged give ls a ≡ done b → first ls ≡ clear
  answer_clear {b} e = clear_first ls (done_clear give a ls b e).0

-- lines in front that refuse, refuse for all that stand behind them
module _ {R A : Type 0} (give : ℕ → R) (a : A) (ls ms : List Line) {r : R} (e : judged give ls a ≡ refused r) where
  pub refused_front : {B : Type 0} (b : B) → judged give (ls ++ ms) b ≡ refused r
  refused_front b = go (first ls) refl e
    where
      go : (x : Ruling) → first ls ≡ x → settle x (λ k. refused (give k)) (done a) ≡ refused r → judged give (ls ++ ms) b ≡ refused r
      go clear q e = let z : ◌≡◌ {A = ℕ} 0 1 = cc in absurd (omega arith)
      go (stopped k) q e = rw (stopped_front ls ms k q) (let z : give k ≡ r = cc in ap refused z)

  pub kept_front : {B : Type 0} (new old : B) → after (ls ++ ms) new old ≡ old
  kept_front new old = go (first ls) refl e
    where
      go : (x : Ruling) → first ls ≡ x → settle x (λ k. refused (give k)) (done a) ≡ refused r → after (ls ++ ms) new old ≡ old
      go clear q e = let z : ◌≡◌ {A = ℕ} 0 1 = cc in absurd (omega arith)
      go (stopped k) q e = rw (stopped_front ls ms k q)

-- lines in front that are clear leave it to those behind
pub done_front : {R A : Type 0} (give : ℕ → R) (a b : A) (ls ms : List Line) → judged give ls a ≡ done b → first (ls ++ ms) ≡ first ms
done_front give a b ls ms e = clear_then ls ms (clear_first ls (done_clear give a ls b e).0)
