-- What the code answers, by the first line that applies: of a start and of a feed.
use Rattle.std.specs.Prelude.{ℕ, List, ◌≡◌, Ok, Err}
use Rattle.std.proofs.Common.{ap}
use Rattle.laws.specs.Outcome.{clear, stopped, first, done}
use Rattle.kinds.specs.declared.Stream.{Stream}
use Rattle.kinds.specs.Kinds.{start_record}
use Rattle.streams.specs.declared.Answer.{Answer}
use Rattle.streams.specs.Fed.{start_store, Runs}
use Rattle.streams.specs.Answers.{say, start_lines, started_of, started_record, started_store, Call, lines_of, says, record_after, store_after, output_after}

abbrev pub refusal_of : ℕ → Stream → Answer
refusal_of k s = record { said = Err k; stream = s }

-- the parts of a contract
abbrev pub Starts : ℕ → ℕ → List ℕ → Answer → List ℕ → Type 0
Starts k f store r store' = (say r ≡ started_of k store) × ((r.stream ≡ started_record k store) × (store' ≡ started_store k f store))

abbrev pub Feeds : Call ℕ → Answer → List ℕ → List ℕ → Type 0
Feeds c r store' out' = (say r ≡ says c) × ((r.stream ≡ record_after c) × ((store' ≡ store_after c) × (out' ≡ output_after c)))

module _ (k f : ℕ) (store : List ℕ) where
  pub starts_refused : {n : ℕ} {r : Answer} → first (start_lines k store) ≡ stopped n → r ≡ refusal_of n (start_record 0) → Starts k f store r store
  starts_refused q e = rw e (rw q, (rw q, rw q))

  pub starts_done : {s : Stream} {store' : List ℕ} → first (start_lines k store) ≡ clear → s ≡ start_record k → store' ≡ start_store k f
      → Starts k f store (record { said = Ok tt; stream = s }) store'
  starts_done q e w = (rw q (ap done e), (rw q e, rw q w))

module _ (c : Call ℕ) where
  pub feeds_refused : {n : ℕ} {r : Answer} → first (lines_of c) ≡ stopped n → r ≡ refusal_of n c.stream → Feeds c r c.store c.output
  feeds_refused q e = rw e (rw q, (rw q, (rw q, rw q)))

  pub feeds_done : {s : Stream} {store' out' : List ℕ} → first (lines_of c) ≡ clear → Runs c.way c.stream c.store c.input s store' out'
      → Feeds c (record { said = Ok tt; stream = s }) store' out'
  feeds_done q ran = (rw q (ap done ran.next), (rw q ran.next, (rw q ran.stored, rw q ran.written)))
