-- Calls on one machine, one after the other: starts and feeds, each of which says and leaves what its contract says. Over bytes of any type. These
-- are definitions.
use Rattle.std.specs.Prelude.{ℕ, List, [], ◌++◌, ◌≡◌}
use Rattle.laws.specs.Lent.{Lent, left_of}
use Rattle.laws.specs.Outcome.{done, refused}
use Rattle.laws.specs.declared.Way.{Way}
use Rattle.kinds.specs.declared.Stream.{Stream}
use Rattle.streams.specs.Answers.{started_of, started_store, Call, says, store_after, output_after}

-- a start of kind k that was not refused, in whatever store was lent: it gave the record s and left the store
pub record Fresh {A : Type 0} (k : ℕ) (f : A) (s : Stream) (store : List A) : Type 0 where
  pub lent : List A
  pub said : started_of k lent ≡ done s
  pub filled : store ≡ started_store k f lent

-- calls one after the other, from a record and a store: xs went into the accepted ones and ys came out of them, all in all, and at the end
-- stand the record s' and the store'. An accepted call has the record and the store that the one before it handed on. A refused one may come
-- at any place: a feed of either way, with any record and any input, that is lent the machine's store or a part of it for its store, its
-- output or both; and a start, of any kind and with any fill, that is lent the machine's store or a part of it
pub data Calls {A : Type 0} (way : Way) : Stream → List A → List A → List A → Stream → List A → Type 0 where
  none : {s : Stream} {store : List A} → Calls way s store [] [] s store
  fed : {s r s' : Stream} {store xs ys store' : List A} (c : Call A) → c.way ≡ way → c.stream ≡ s → c.store ≡ store → says c ≡ done r
      → Calls way r (store_after c) xs ys s' store' → Calls way s store (c.input ++ xs) (output_after c ++ ys) s' store'
  stopped : {s s' : Stream} {store xs ys store' : List A} {k : ℕ} (c : Call A) → says c ≡ refused k → (l : Lent store c.store)
      → (m : Lent (left_of l (store_after c)) c.output) → Calls way s (left_of m (output_after c)) xs ys s' store' → Calls way s store xs ys s' store'
  unstarted : {s s' : Stream} {store xs ys store' lent : List A} {k : ℕ} (j : ℕ) (f : A) → started_of j lent ≡ refused k → (l : Lent store lent)
      → Calls way s (left_of l (started_store j f lent)) xs ys s' store' → Calls way s store xs ys s' store'
