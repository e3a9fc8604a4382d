-- The arguments as a line: a space after each. One that is empty, or too long to be taken in, stands there as a question mark. What the arguments
-- are is the system's to say, so the contracts speak of some words, of at most 48 bytes each; so many of them, at most, are not named. The last one comes first.
use Rattle.std.specs.Prelude.{ℕ, ◌+◌, ◌≤◌, ◌<◌, min, ◌≡◌, refl, true, false, cond, List, [], ◌∷◌, length}
use Rattle.std.proofs.Common.{sym, subst, arith}
use Rattle.lines.specs.Appended.{appended, Appended}
use Rattle.named.specs.Named.{is_named}

-- how a word is shown
abbrev pub shown : List ℕ → List ℕ
shown [] = 63 ∷ []
shown (b ∷ bs) = b ∷ bs

-- a line with a word after it, and a space; and where that ends
abbrev pub word_end : ℕ → List ℕ → ℕ
word_end from w = min 512 (from + length (shown w))

unfoldable pub with_word : List ℕ → ℕ → List ℕ → List ℕ
with_word room from w = appended (appended room from (shown w)) (word_end from w) (32 ∷ [])

abbrev pub space_end : ℕ → List ℕ → ℕ
space_end from w = min 512 (word_end from w + 1)

pub record Spaced (room : List ℕ) (from : ℕ) (w after : List ℕ) (r : ℕ) : Type 0 where
  pub line : after ≡ with_word room from w
  pub end : r ≡ space_end from w

-- a line that ends at `at`, with so many words that are not named, and one word more: where it is named it is put; where it is not, only if fewer than
-- `most` were put before
pub data WithSome (room : List ℕ) (at plain most : ℕ) (w after : List ℕ) (r p : ℕ) : Type 0 where
  named : is_named w ≡ true → Spaced room at w after r → p ≡ plain → WithSome room at plain most w after r p
  counted : is_named w ≡ false → plain < most → Spaced room at w after r → p ≡ plain + 1 → WithSome room at plain most w after r p
  passed : is_named w ≡ false → most ≤ plain → after ≡ room → r ≡ at → p ≡ plain → WithSome room at plain most w after r p

pub record WithArgument (room : List ℕ) (at plain most : ℕ) (after : List ℕ) (r p : ℕ) : Type 0 where
  pub word : List ℕ
  pub few : length word ≤ 48
  pub line : WithSome room at plain most word after r p

-- words one after the other, the last one first
unfoldable pub joined_end : List (List ℕ) → ℕ
joined_end [] = 0
joined_end (w ∷ ws) = space_end (joined_end ws) w

unfoldable pub joined : List ℕ → List (List ℕ) → List ℕ
joined room [] = room
joined room (w ∷ ws) = with_word (joined room ws) (joined_end ws) w

abbrev pub Short : List (List ℕ) → Type 0
Short [] = Unit {0}
Short (w ∷ ws) = (length w ≤ 48) × Short ws

-- how many of them are not named
unfoldable pub plain_in : List (List ℕ) → ℕ
plain_in [] = 0
plain_in (w ∷ ws) = cond (is_named w) (plain_in ws) (plain_in ws + 1)

pub record Joined (room : List ℕ) (most : ℕ) (after : List ℕ) (r : ℕ) : Type 0 where
  pub words : List (List ℕ)
  pub many : plain_in words ≤ most
  pub short : Short words
  pub line : after ≡ joined room words
  pub end : r ≡ joined_end words

-- a word as it is shown
pub shown_none : (w : List ℕ) → length w ≡ 0 → shown w ≡ 63 ∷ []
shown_none [] e = refl
shown_none (b ∷ bs) e = absurd (omega arith)

pub shown_some : (w : List ℕ) → 0 < length w → shown w ≡ w
shown_some [] h = absurd (omega arith)
shown_some (b ∷ bs) h = refl

pub as_shown : {room : List ℕ} {from : ℕ} {s t after : List ℕ} {r : ℕ} → t ≡ s → Appended room from s after r → Appended room from t after r
as_shown {room} {from} {s} {t} {after} {r} e a = subst (λ (x : List ℕ). Appended room from x after r) (sym e) a

-- the word and then the space
pub with_space : {room : List ℕ} {from : ℕ} (w : List ℕ) {between after : List ℕ} {at r : ℕ} → Appended room from (shown w) between at
    → Appended between at (32 ∷ []) after r → Spaced room from w after r
unfolding with_word
with_space w a b = record { line = rw (b.line, a.line, a.end); end = omega (arith, a.end, b.end) }

-- the loop: so many of the words that were put are not named
pub record Going (room : List ℕ) (most : ℕ) (now : List ℕ) (at plain : ℕ) : Type 0 where
  pub so_far : Joined room most now at
  pub count : plain_in so_far.words ≡ plain

pub joined_none : (room : List ℕ) (most : ℕ) → Going room most room 0 0
unfolding joined joined_end plain_in
joined_none room most =
    record { so_far = record { words = []; many = omega arith; short = Prim.tt; line = refl; end = refl }; count = refl }

-- a word more, which is put
module _ {room now after : List ℕ} {most at plain r : ℕ} (g : Going room most now at plain) (w : List ℕ) (few : length w ≤ 48) (s : Spaced now at w after r) where
  one_more : {p : ℕ} → plain_in (w ∷ g.so_far.words) ≡ p → p ≤ most → Going room most after r p
  unfolding joined joined_end
  one_more e h =
      let j = g.so_far in
      record {
        so_far =
            record {
              words = w ∷ j.words;
              many = omega (arith, e);
              short = (few, j.short);
              line = rw (s.line, j.line, j.end);
              end = rw (s.end, j.end);
            };
        count = e;
      }

  more_named : is_named w ≡ true → Going room most after r plain
  unfolding plain_in
  more_named e = one_more (rw e g.count) (omega (arith, g.count, g.so_far.many))

  more_counted : is_named w ≡ false → plain < most → Going room most after r (plain + 1)
  unfolding plain_in
  more_counted e h = one_more (rw e (omega (arith, g.count))) (omega arith)

more_some : {room now after : List ℕ} {most at plain r p : ℕ} → Going room most now at plain → (w : List ℕ) → length w ≤ 48
    → WithSome now at plain most w after r p → Going room most after r p
more_some g w few (named e s q) = rw q (more_named g w few s e)
more_some g w few (counted e h s q) = rw q (more_counted g w few s e h)
more_some g w few (passed e h l r q) = rw (l, r, q) g

pub joined_more : {room now after : List ℕ} {most at plain r p : ℕ} → Going room most now at plain → WithArgument now at plain most after r p
    → Going room most after r p
joined_more g a = more_some g a.word a.few a.line
