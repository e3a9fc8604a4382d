-- What adding a block does, over the definitions that its contract cites: a refused block leaves all as it was; of an accepted one each value goes to
-- its input index, and each position hears one value.
use Rattle.std.specs.Prelude.{ℕ, ◌<◌, false, List, ◌≡◌, Float, length, get_or}
use Rattle.std.proofs.Common.{true≢false, sym, ap, ap₂, ◌∙◌, zero-add}
use Rattle.std.specs.Float.Ieee.{nan}
use Rattle.laws.specs.Outcome.{done, refused, clear, first, first_clear, clear_front, answer_clear, answer_keeps}
use Rattle.laws.specs.Run.{run, length_run, get_or_run}
use Rattle.laws.specs.Perm.{Perm}
use Rattle.sets.specs.declared.Set.{Set}
use Rattle.sets.specs.declared.Refusal.{Refusal}
use Rattle.sets.specs.Set.{family_of, is_coupled}
use Rattle.sets.specs.Numbered.{nine_coupled}
use Rattle.sets.specs.Verdict.{refusal}
use Rattle.families.specs.Rules.{L, M, lawful}
use Rattle.positions.specs.Heard.{running, Reception, Kept, kept, held, heard}
use Rattle.tables.specs.Answer.{block_lines, moved_of}
use Rattle.tables.proofs.Passed as tabled
use Rattle.adders.specs.Lines.{value_lines}
use Rattle.adders.specs.Adding.{sums_by, counts_by}
use Rattle.combine.specs.Answer.{add_lines, added_of, sums_of, counts_of}
use Rattle.combine.specs.Placed.{heard_in, placed}
use Rattle.combine.specs.Passed.{input_of, output_of, lines_are, Long, all_long}

-- what is stored after a call
abbrev pub kept_after : Set → Reception → Kept → Kept
kept_after s b h = kept (sums_of s b h) (counts_of s b h)

-- a refused block leaves all as it was
pub refused_alone : (s : Set) (b : Reception) (h : Kept) {x : Refusal} → added_of s b h ≡ refused x → kept_after s b h ≡ h
unfolding added_of sums_of counts_of
refused_alone s b h e =
    ap₂ kept
    (answer_keeps (refusal s) tt (add_lines s b h) e (sums_by (L s) s.n b h) h.sums)
    (answer_keeps (refusal s) tt (add_lines s b h) e (counts_by (L s) s.n b h) h.counts)

-- an accepted block: its set is accepted, every length is N
module _ (s : Set) (b : Reception) (h : Kept) (e : added_of s b h ≡ done tt) where
  no_line : first (add_lines s b h) ≡ clear
  unfolding added_of
  no_line = answer_clear (refusal s) tt (add_lines s b h) e

  pub plain : is_coupled (family_of s) ≡ false
  unfolding add_lines
  plain = (first_clear (add_lines s b h) no_line).0

  pub not_nine : s.profile ≡ 9 → ⊥
  not_nine p = true≢false (sym (ap is_coupled (nine_coupled s p)) ∙ plain)

  -- as `tables` says of its lengths
  its_block : moved_of s s.n (input_of s b h) (output_of s b h) ≡ done tt
  its_block =
      rw (clear_front (block_lines s s.n (input_of s b h) (output_of s b h)) (value_lines (L s) s.n b h) (sym (lines_are s b h plain) ∙ no_line))

  pub its_perm : Perm s.n (L s) (M s)
  its_perm = (lawful s (tabled.judged_so s s.n (input_of s b h) (output_of s b h) its_block).accepted).perm

  pub its_lengths : Long s.n b h
  its_lengths = all_long s b h (record { plain = plain; judged_so = tabled.judged_so s s.n (input_of s b h) (output_of s b h) its_block })

  -- by input index, what each position becomes
  pub sums_are : sums_of s b h ≡ run (λ k. (heard_in s b h k).sum) 0 s.n
  unfolding sums_of
  sums_are = rw no_line (placed s b h its_perm (λ r. r.sum) nan h.sums its_lengths.sums)

  pub counts_are : counts_of s b h ≡ run (λ k. (heard_in s b h k).count) 0 s.n
  unfolding counts_of
  counts_are = rw no_line (placed s b h its_perm (λ r. r.count) 0 h.counts its_lengths.counts)

  -- before that, as it is written
  pub counts_scattered : counts_of s b h ≡ counts_by (L s) s.n b h
  unfolding counts_of
  counts_scattered = rw no_line

  -- position k hears value M(k) ..
  pub hears : (k : ℕ) → k < s.n → held (kept_after s b h) k ≡ heard_in s b h k
  hears k l =
      ap₂ running
      (ap (λ (xs : List Float). get_or xs k nan) sums_are ∙ get_or_run (λ k. (heard_in s b h k).sum) 0 s.n k nan l ∙ ap (λ (x : ℕ). (heard_in s b h x).sum) (zero-add k))
      (ap (λ (xs : List ℕ). get_or xs k 0) counts_are ∙ get_or_run (λ k. (heard_in s b h k).count) 0 s.n k 0 l ∙ ap (λ (x : ℕ). (heard_in s b h x).count) (zero-add k))

  -- .. and value t goes to position L(t)
  pub goes_to : (t : ℕ) → t < s.n → held (kept_after s b h) (L s t) ≡ heard (get_or b.present t 0) (get_or b.received t nan) (held h (L s t))
  goes_to t l =
      hears (L s t) (its_perm.l_below t l)
      ∙ ap (λ (x : ℕ). heard (get_or b.present x 0) (get_or b.received x nan) (held h (L s t))) (its_perm.m_of_l t l)

  pub sums_long : length (sums_of s b h) ≡ s.n
  sums_long = ap length sums_are ∙ length_run (λ k. (heard_in s b h k).sum) 0 s.n

  pub counts_long : length (counts_of s b h) ≡ s.n
  counts_long = ap length counts_are ∙ length_run (λ k. (heard_in s b h k).count) 0 s.n
