-- Accepted means served: a set that the test accepts is refused by no other call for its own numbers. A walk is done from every cell up to the total,
-- an address is found at every position below N.
use Rattle.std.specs.Prelude.{ℕ, ◌≤◌, ◌<◌, false, ◌≡◌, refl}
use Rattle.std.proofs.Common.{inl, inr, sym, le-ltb}
use Rattle.laws.specs.declared.Way.{Way}
use Rattle.laws.specs.declared.Way.TheVariants.{Interleaver, Deinterleaver}
use Rattle.laws.specs.Outcome.{done}
use Rattle.sets.specs.declared.Set.{Set}
use Rattle.profiles.specs.declared.Family.{Family}
use Rattle.profiles.specs.declared.Family.TheVariants.{Carrier, Spatial, Turbo, Quadratic, Coupled}
use Rattle.sets.specs.Set.{family_of}
use Rattle.sets.specs.Numbered.{turbo_five, quadratic_eight, coupled_nine}
use Rattle.walks.specs.declared.Walk.{Walk}
use Rattle.families.specs.Rules.{rule_in, one_way, barred}
use Rattle.walks.specs.Answer.{walk_lines, walk_values, walked_of, found_of}
use Rattle.sets.specs.Admits.{Accepted}
use Rattle.sets.proofs.Admits.{accepted_front}
use Rattle.families.specs.Taken.{Walkable}
use Rattle.walks.proofs.Passed.{one_found}
use Rattle.walks.specs.Refusals.{NotWalked}

-- a walk is had but for M of profiles 5, 8 and 9
pub walkable_listed : (way : Way) (s : Set) → Accepted s → (way ≡ Deinterleaver → NotWalked s → ⊥) → Walkable way s
walkable_listed way s e n = record { accepted = e; had = go way (λ q. had (family_of s) refl (n q)) }
  where
    go : (way : Way) → (way ≡ Deinterleaver → one_way (family_of s) ≡ false) → barred way (family_of s) ≡ false
    go Interleaver h = refl
    go Deinterleaver h = h refl

    had : (f : Family) → family_of s ≡ f → (NotWalked s → ⊥) → one_way f ≡ false
    had Carrier q n = refl
    had Spatial q n = refl
    had Turbo q n = absurd (n (inl (turbo_five s q)))
    had Quadratic q n = absurd (n (inr (inl (quadratic_eight s q))))
    had Coupled q n = absurd (n (inr (inr (coupled_nine s q))))

pub walk_served : (way : Way) (w : Walk) (room : ℕ) → Walkable way w.set → w.cell ≤ (rule_in way w.set).total
    → walked_of way w room ≡ done (walk_values way w room)
unfolding walked_of walk_lines
walk_served way w room h l =
    rw (h.had, accepted_front w.set _ h.accepted, le-ltb (rule_in way w.set).total w.cell l)

pub address_served : (way : Way) (s : Set) (x : ℕ) → Accepted s → x < s.n → found_of way s x ≡ done ((rule_in way s).l x)
address_served way s x e h = sym (one_found way s x e h refl)
