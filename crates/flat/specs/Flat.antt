-- An answer, flattened for C: numbers in a row are a parameter set, one number is the answer, and the rest goes through out-parameters. These are
-- definitions, and that a record comes back.
use Rattle.std.specs.Prelude.{ℕ, suc, ◌+◌, ◌*◌, List, [], ◌∷◌, ◌≡◌, length, get_or}
use Rattle.std.proofs.Common.{sym, ap, ◌∙◌, arith}
use Rattle.laws.specs.Run.{run, run_same, run_get_or}
use Rattle.laws.specs.declared.Way.{Way}
use Rattle.laws.specs.Outcome.{Outcome, done, refused, part_or}
use Rattle.sets.specs.declared.Factors.{Factors}
use Rattle.sets.specs.declared.Set.{Set}
use Rattle.sets.specs.declared.Refusal.{Refusal}
use Rattle.walks.specs.declared.Walk.{Walk}
use Rattle.walks.specs.declared.Values.{Values}
use Rattle.walks.specs.Answer.{walked_of}
use Rattle.families.specs.Symbols.{symbols_of}
use Rattle.tables.specs.Answer.{moved_of}
use Rattle.kinds.specs.declared.Stream.{Stream}
use Rattle.streams.specs.Answers.{Call, call}
use Rattle.wcdma_report.specs.declared.Figures.{Figures}
use Rattle.wcdma_report.specs.declared.Totals.{Totals}

-- the parameter set that C lends: profile, bits, n, stream, and the four factors
unfoldable pub set_of : List ℕ → Set
set_of l = record {
  profile = get_or l 0 0;
  bits = get_or l 1 0;
  n = get_or l 2 0;
  stream = get_or l 3 0;
  factors = record { first = get_or l 4 0; second = get_or l 5 0; third = get_or l 6 0; fourth = get_or l 7 0 };
}

-- factors as C has them
abbrev pub factors_list : Factors → List ℕ
factors_list f = f.first ∷ f.second ∷ f.third ∷ f.fourth ∷ []

-- a line of the padding report, and its totals
abbrev pub figures_list : Figures → List ℕ
figures_list f = f.k ∷ f.r ∷ f.c ∷ f.cells ∷ f.pads ∷ []

abbrev pub totals_list : Totals → List ℕ
totals_list t = t.sizes ∷ t.cells ∷ t.pads ∷ []

-- a walk's record: the set, and the number behind `cell`
unfoldable pub walk_of : List ℕ → ℕ → Walk
walk_of l c = record { set = set_of l; cell = c }

-- the record of a stream that C lends: kind, branch, and the places ..
unfoldable pub stream_of : List ℕ → Stream
stream_of l = record { kind = get_or l 0 0; branch = get_or l 1 0; places = run (λ i. get_or l (i + 2) 0) 0 51 }

-- .. and as C has it
abbrev pub stream_list : Stream → List ℕ
stream_list s = s.kind ∷ s.branch ∷ s.places

-- a record that C has been handed and lends again is that record
pub lent_again : (s : Stream) → length s.places ≡ 51 → stream_of (stream_list s) ≡ s
unfolding stream_of
lent_again s l =
    let behind : run (λ i. get_or (stream_list s) (i + 2) 0) 0 51 ≡ s.places =
    run_same (λ i. get_or (stream_list s) (i + 2) 0) (λ i. get_or s.places i 0) 0 51 (λ i h. let e : i + 2 ≡ suc (suc i) = omega arith in rw e)
    ∙ ap (λ (n : ℕ). run (λ i. get_or s.places i 0) 0 n) (sym l) ∙ run_get_or s.places 0 in
    ap (λ (ps : List ℕ). record { kind = s.kind; branch = s.branch; places = ps }) behind

-- what the calls that are served have to say, of what C lends: a walk into a slice ..
abbrev pub lent_walk : Way → List ℕ → ℕ → List ℕ → Outcome Refusal Values
lent_walk way set cell out = walked_of way (walk_of set cell) (length out)

-- .. a block of symbols of one entry, and one of symbols of w bytes
abbrev pub lent_block : {A : Type 0} → List ℕ → List A → List A → Outcome Refusal (Unit {0})
lent_block set src dst = moved_of (set_of set) (symbols_of (set_of set)) (length src) (length dst)

abbrev pub lent_symbols : {A : Type 0} → List ℕ → ℕ → List A → List A → Outcome Refusal (Unit {0})
lent_symbols set w src dst = moved_of (set_of set) (symbols_of (set_of set) * w) (length src) (length dst)

-- .. and a feed
abbrev pub lent_feed : {A : Type 0} → Way → List ℕ → List A → List A → List A → Call A
lent_feed way stream store input out = call way (stream_of stream) store input out

-- the number given back: 0 where the call is done, else that of the refusal
abbrev pub number_by : {R A : Type 0} → (R → ℕ) → Outcome R A → ℕ
number_by number (done a) = 0
number_by number (refused x) = number x

-- a refusal of a set holds its number, one of a stream is its number
abbrev pub number_of : {A : Type 0} → Outcome Refusal A → ℕ
number_of = number_by (λ (x : Refusal). x.number)

abbrev pub stream_number_of : {A : Type 0} → Outcome ℕ A → ℕ
stream_number_of = number_by (λ (k : ℕ). k)

-- what an out-parameter holds after a call: a part of its values where it is done, else what it held
abbrev pub out_of : {R A B : Type 0} → Outcome R A → (A → B) → B → B
out_of o part old = part_or o part old

-- the numbers behind `stream`: those of the record
abbrev pub stream_out : Outcome ℕ Stream → List ℕ → List ℕ
stream_out o old = out_of o stream_list old
