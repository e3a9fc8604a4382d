-- How far a burst in the channel is spread: where its bytes come out of a started deinterleaver, whatever the calls, and how far apart. For both kinds
-- at once, and over bytes of any type.
-- Here stand the definitions; what is said of them is proved in proofs/Burst.antt.
use Rattle.std.specs.Prelude.{ℕ, List}
use Rattle.laws.specs.declared.Way.TheVariants.{Deinterleaver}
use Rattle.delay.specs.Numbered.{numbered}
use Rattle.kinds.specs.Kinds.{start_record}
use Rattle.streams.specs.Fed.{start_store, fed_output}

-- what comes out of a started deinterleaver of kind k that is fed each byte with its number
unfoldable pub traced : {A : Type 0} → ℕ → A → List A → List (ℕ × A)
traced k f xs = fed_output Deinterleaver (start_record k) (start_store k (0, f)) (numbered f xs)
