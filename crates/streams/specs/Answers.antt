-- What a start and a feed say, and what they leave: the lines that refuse them, in the order of the checks, and the answers in the paper's numbers
-- and values. Over bytes of any type. Rests on the pattern of every call.
use Rattle.std.specs.Prelude.{ℕ, not, List, [], ◌∷◌, ◌≡◌, refl, length, eqb, Result, Ok, Err}
use Rattle.std.proofs.Common.{ap₂}
use Rattle.laws.specs.declared.Way.{Way}
use Rattle.laws.specs.Outcome.{Outcome, done, refused, apart, Line, line, judged, after}
use Rattle.kinds.specs.declared.Stream.{Stream}
use Rattle.kinds.specs.Kinds.{known, sizes_of, in_range, start_record}
use Rattle.streams.specs.declared.Answer.{Answer}
use Rattle.streams.specs.Fed.{start_store, fed_output, fed_store, fed_record}

-- what a start or a feed says
abbrev pub Said : Type 0
Said = Result (Unit {0}) ℕ

-- an answer's record, or its number
abbrev pub say_by : Said → Stream → Outcome ℕ Stream
say_by (Ok u) s = done s
say_by (Err k) s = refused k

abbrev pub say : Answer → Outcome ℕ Stream
say r = say_by r.said r.stream

-- two answers that say the same and hand over the same record are the same
pub answer_apart : (a b : Answer) → say a ≡ say b → a.stream ≡ b.stream → a ≡ b
answer_apart a b e q = apart (λ r. (say r, r.stream)) read (λ r. same r.said r.stream) a b (ap₂ (λ (o : Outcome ℕ Stream) (s : Stream). (o, s)) e q)
  where
    read : Outcome ℕ Stream × Stream → Answer
    read (done s, r) = record { said = Ok tt; stream = r }
    read (refused k, r) = record { said = Err k; stream = r }

    same : (x : Said) (s : Stream) → read (say_by x s, s) ≡ record { said = x; stream = s }
    same (Ok u) s = refl
    same (Err k) s = refl

-- ---- a start

module _ {A : Type 0} where
  -- 9: the kind is unknown; 7: the store isn't the kind's
  abbrev pub start_lines : ℕ → List A → List Line
  start_lines k store = line 9 (not (known k)) ∷ line 7 (not (eqb (length store) (sizes_of k).store)) ∷ []

  -- what it has to say; the record it gives, zeros throughout where it is refused; the store after it
  abbrev pub started_of : ℕ → List A → Outcome ℕ Stream
  started_of k store = judged (λ n. n) (start_lines k store) (start_record k)

  abbrev pub started_record : ℕ → List A → Stream
  started_record k store = after (start_lines k store) (start_record k) (start_record 0)

  abbrev pub started_store : ℕ → A → List A → List A
  started_store k f store = after (start_lines k store) (start_store k f) store

-- ---- a feed

-- a call: which machine, its record, its store, its input and its output
pub record Call (A : Type 0) : Type 0 where
  pub way : Way
  pub stream : Stream
  pub store : List A
  pub input : List A
  pub output : List A

module _ {A : Type 0} where
  abbrev pub call : Way → Stream → List A → List A → List A → Call A
  call way s store input out = record { way = way; stream = s; store = store; input = input; output = out }

  -- 9: the kind is unknown; 7: the store isn't the kind's; 9: the branch or a place is out of its range; 6: the output's length isn't the input's
  abbrev pub lines_of : Call A → List Line
  lines_of c =
      line 9 (not (known c.stream.kind))
      ∷ line 7 (not (eqb (length c.store) (sizes_of c.stream.kind).store))
      ∷ line 9 (not (in_range c.stream))
      ∷ line 6 (not (eqb (length c.output) (length c.input)))
      ∷ []

  -- what it says; the record it hands over, its own where it is refused; and what it leaves of its store and its output
  abbrev pub says : Call A → Outcome ℕ Stream
  says c = judged (λ k. k) (lines_of c) (fed_record c.way c.stream c.input)

  abbrev pub record_after : Call A → Stream
  record_after c = after (lines_of c) (fed_record c.way c.stream c.input) c.stream

  abbrev pub store_after : Call A → List A
  store_after c = after (lines_of c) (fed_store c.way c.stream c.store c.input) c.store

  abbrev pub output_after : Call A → List A
  output_after c = after (lines_of c) (fed_output c.way c.stream c.store c.input) c.output
