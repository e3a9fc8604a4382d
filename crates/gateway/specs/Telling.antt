-- What the code answers of a vessel's share and of laying out, by the first line that applies.
use Rattle.std.specs.Prelude.{ℕ, ◌+◌, ◌-◌, ◌≤◌, Bool, true, false, not, List, [], ◌∷◌, ◌≡◌, refl, ltb, length, take, drop}
use Rattle.std.proofs.Common.{sym, ap, ap₂, ◌∙◌, arith, ltb-true}
use Rattle.std.proofs.Math.Nat.{add-sub_cancel_left}
use Rattle.std.proofs.lemmas.Bool.{not-false}
use Rattle.laws.specs.Outcome.{done, refused, line, clear, stopped, first, judged, done_clear, buffer_new, answer_keeps}
use Rattle.gateway_form.specs.Form.{machines_in, offset_in, length_in, share_in, formed}
use Rattle.gateway_form.specs.Gateways.{formed_exactly, share_inside}
use Rattle.gateway_laying.specs.Laid.{laid_out}
use Rattle.gateway.specs.Answers.{vessel_lines, stretch_in, placed_of, share_of, lay_lines, laid_of, laid_store}
use Rattle.gateway.specs.declared.Stretch.{Stretch}
use Rattle.gateway.specs.Turning.{the_share}

-- ---- a share

module _ (f : List ℕ) (v : ℕ) where
  pub share_stopped : {k : ℕ} → placed_of f v ≡ refused k → [] ≡ share_of f v
  share_stopped e = sym (answer_keeps (λ n. n) (stretch_in f v) (vessel_lines f v) e (share_in f v) [])

  module _ {o n : ℕ} (e : placed_of f v ≡ done (record { offset = o; long = n })) where
    placed : (stretch_in f v ≡ record { offset = o; long = n }) × (share_of f v ≡ share_in f v) × (offset_in f v + length_in f v ≤ length f)
    placed =
        let q = done_clear (λ n. n) (stretch_in f v) (vessel_lines f v) _ e in
        let t = not-false (formed f) q.0.0 in
        let h = ltb-true v (machines_in f) (not-false (ltb v (machines_in f)) q.0.1.0) in
        (q.1, buffer_new (vessel_lines f v) (share_in f v) [] q.0, share_inside ((formed_exactly f).0 t) v h)

    offset_is : offset_in f v ≡ o
    offset_is = ap (λ (s : Stretch). s.offset) placed.0

    length_is : length_in f v ≡ n
    length_is = ap (λ (s : Stretch). s.long) placed.0

    pub share_fits : o + n ≤ length f
    share_fits = omega (arith, offset_is, length_is, placed.2)

    pub share_placed : take (o + n - o) (drop o f) ≡ share_of f v
    share_placed =
        ap₂ (λ (k a : ℕ). take k (drop a f)) (add-sub_cancel_left o n ∙ sym length_is) (sym offset_is) ∙ the_share f v ∙ sym placed.1

-- ---- laying out

module _ (kinds directions fills store : List ℕ) where
  pub lay_stopped : {n : ℕ} → first (lay_lines kinds directions fills store) ≡ stopped n
      → (refused n ≡ laid_of kinds directions fills store) × (store ≡ laid_store kinds directions fills store)
  lay_stopped q = (rw q, rw q)

  pub lay_done : {store' : List ℕ} → first (lay_lines kinds directions fills store) ≡ clear → store' ≡ laid_out kinds directions fills
      → (done tt ≡ laid_of kinds directions fills store) × (store' ≡ laid_store kinds directions fills store)
  lay_done q e = (rw q, rw q e)

-- one test, whose number is 9
pub nine : {A : Type 0} (t : Bool) (a : A) {k : ℕ} → judged (λ (n : ℕ). n) (line 9 (not t) ∷ []) a ≡ refused k → (t ≡ false) × (k ≡ 9)
nine true a e = let z : ◌≡◌ {A = ℕ} 0 1 = cc in absurd (omega arith)
nine false a e = (refl, cc)

pub passed_test : {A : Type 0} (t : Bool) (a : A) {b : A} → judged (λ (n : ℕ). n) (line 9 (not t) ∷ []) a ≡ done b → (t ≡ true) × (a ≡ b)
passed_test true a e = (refl, cc)
passed_test false a e = let z : ◌≡◌ {A = ℕ} 0 1 = cc in absurd (omega arith)
