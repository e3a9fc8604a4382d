-- The three parts of a file, stored one after the other in a buffer of its length, make the file.
use Rattle.std.specs.Prelude.{ℕ, ◌+◌, ◌*◌, List, [], ◌∷◌, ◌++◌, ◌≡◌, length, take}
use Rattle.std.proofs.Common.{append-nil, ap₂, ◌∙◌, arith, drop_of_length-le}
use Rattle.std.proofs.Math.Path.{refl, sym, ap}
use Rattle.std.proofs.lemmas.List.Edits.{sets, sets-eq}
use Rattle.laws.specs.Run.{run, length_run}
use Rattle.big_end.specs.Numbers.{number_bytes}
use Rattle.big_end.specs.Stores.{sets_then}
use Rattle.sets.specs.declared.Set.{Set}
use Rattle.plan_form.specs.Form.{entry_place}
use Rattle.plan_writer.specs.File.{set_at, entries_bytes, lists_bytes, file_of, total_of, file_length}
use Rattle.plan_writer.specs.Lengths.{entries_length, file_length_lem}
use Rattle.plan_writer.specs.Storing.{Filed}

sets_whole : (o v : List ℕ) → length o ≡ length v → sets o 0 v ≡ v
sets_whole o v e =
    sets-eq v o 0 (omega arith)
    ∙ ap₂ (λ (a b : List ℕ). a ++ v ++ b) (front o) (drop_of_length-le o {i = 0 + length v} (omega arith))
    ∙ append-nil ([] ++ v)
  where
    front : (l : List ℕ) → take 0 l ≡ []
    front [] = refl
    front (x ∷ xs) = refl

module _ {numbers : List ℕ} {count : ℕ} (o₀ : List ℕ) (z : Filed numbers count (length o₀)) where
  abbrev sets_of : List Set
  sets_of = run (set_at numbers) 0 count

  many : length sets_of ≡ count
  many = length_run (set_at numbers) 0 count

  long : length o₀ ≡ length (file_of sets_of)
  unfolding file_length
  long = sym z.fits ∙ ap (λ (k : ℕ). entry_place k + 2 * total_of sets_of) (sym many) ∙ sym (file_length_lem sets_of)

  pub whole_file : {o₁ o₂ o₃ : List ℕ} → o₁ ≡ sets o₀ 0 (number_bytes count) → o₂ ≡ sets o₁ 4 (entries_bytes sets_of (entry_place count))
      → o₃ ≡ sets o₂ (entry_place count) (lists_bytes sets_of) → o₃ ≡ file_of sets_of
  unfolding file_of
  whole_file {o₁} {o₂} {o₃} p q r =
      let file : file_of sets_of ≡ number_bytes count ++ (entries_bytes sets_of (entry_place count) ++ lists_bytes sets_of) =
      ap (λ (k : ℕ). number_bytes k ++ (entries_bytes sets_of (entry_place k) ++ lists_bytes sets_of)) many in
      sym (ap (sets o₀ 0) file
      ∙ sets_then o₀ 0 4 (number_bytes count) (entries_bytes sets_of (entry_place count) ++ lists_bytes sets_of) p refl
      ∙ sets_then o₁ 4 (entry_place count) (entries_bytes sets_of (entry_place count)) (lists_bytes sets_of) q
      (omega (arith, entries_length sets_of (entry_place count), many))
      ∙ sym r)
      ∙ sets_whole o₀ (file_of sets_of) long
