-- Storing a list of addresses: along a piece, and from piece to piece of L.
use Rattle.std.specs.Prelude.{ℕ, ◌+◌, ◌*◌, ◌-◌, ◌≤◌, ◌<◌, ◌≡◌, refl, get_or, take}
use mathlib.Core.List.{List, ◌∷◌, ◌++◌}
use Rattle.std.proofs.Math.Path.{sym, ap, ap₂}
use Rattle.std.proofs.Common.{◌∙◌, zero-add, add-one, arith, drop_of_length-le}
use Rattle.std.proofs.Math.ListN.{length, drop}
use Rattle.std.proofs.Math.Seq.{sets, length-sets, drop-cons}
use Rattle.laws.specs.Run.{run, run_cut, length_run}
use Rattle.big_end.specs.Numbers.{pair_bytes}
use Rattle.big_end.specs.Stores.{sets_then}
use Rattle.sets.specs.declared.Set.{Set}
use Rattle.families.specs.Rules.{L}
use Rattle.pieces.specs.declared.Standing.{Standing}
use Rattle.pieces.specs.Pieces.{list_of, Stands, Pieced}
use Rattle.plan_writer.specs.File.{list_bytes}
use Rattle.plan_writer.specs.Lengths.{list_length, list-join}

-- along a piece: j addresses are stored
pub record Putting (out₀ : List ℕ) (at : ℕ) (ys out : List ℕ) (j : ℕ) : Type 0 where
  pub here : j ≤ length ys
  pub size : length out ≡ length out₀
  pub same : sets out (at + 2 * j) (list_bytes (drop j ys)) ≡ sets out₀ at (list_bytes ys)

pub put_first : (out₀ : List ℕ) (at : ℕ) (ys : List ℕ) → Putting out₀ at ys out₀ 0
put_first out₀ at ys =
    record { here = omega arith; size = refl; same = ap (λ (k : ℕ). sets out₀ k (list_bytes ys)) (let e : at + 2 * 0 ≡ at = omega arith in e) }

module _ {out₀ : List ℕ} {at : ℕ} {ys out : List ℕ} {j : ℕ} (p : Putting out₀ at ys out j) where
  pub put_end : length ys ≤ j → out ≡ sets out₀ at (list_bytes ys)
  unfolding list_bytes
  put_end h = sym (rw (drop_of_length-le ys h)) ∙ p.same

  pub put_more : j < length ys → {y : ℕ} → y ≡ get_or ys j 0 → {out' : List ℕ} → out' ≡ sets out (at + 2 * j) (pair_bytes y) → Putting out₀ at ys out' (j + 1)
  unfolding list_bytes
  put_more h {y} q {out'} e = record {
    here = omega arith;
    size = ap length e ∙ length-sets out (at + 2 * j) (pair_bytes y) ∙ p.size;
    same =
        sym (sets_then out (at + 2 * j) (at + 2 * (j + 1)) (pair_bytes y) (list_bytes (drop (j + 1) ys)) e (omega arith))
        ∙ ap (λ (l : List ℕ). sets out (at + 2 * j) (list_bytes l)) (sym split)
        ∙ p.same;
  }
    where
      split : drop j ys ≡ y ∷ drop (j + 1) ys
      split = drop-cons ys j 0 h ∙ ap₂ (λ (a : ℕ) (k : ℕ). a ∷ drop k ys) (sym q) (sym (add-one j))

-- from piece to piece: what was walked is stored
pub record Filing (s : Set) (out₀ : List ℕ) (at : ℕ) (w : Standing) (out : List ℕ) : Type 0 where
  pub stands : Stands s w
  pub size : length out ≡ length out₀
  pub same : out ≡ sets out₀ at (list_bytes (run (L s) 0 w.at))

pub file_first : (s : Set) (out₀ : List ℕ) (at : ℕ) {w : Standing} → Stands s w → w.at ≡ 0 → Filing s out₀ at w out₀
unfolding list_bytes
file_first s out₀ at {w} h e = record { stands = h; size = refl; same = sym (rw e) }

module _ {s : Set} {out₀ : List ℕ} {at : ℕ} {w : Standing} {out : List ℕ} (j : Filing s out₀ at w out) where
  pub file_end : s.n ≤ w.at → out ≡ sets out₀ at (list_bytes (list_of s))
  file_end h = j.same ∙ ap (λ (k : ℕ). sets out₀ at (list_bytes (run (L s) 0 k))) (let e : w.at ≡ s.n = omega (arith, j.stands.inside) in e)

  module _ {old new : List ℕ} {v : Standing} (q : Pieced s w old new v) where
    pub many : length (take (v.at - w.at) new) ≡ v.at - w.at
    many = ap length q.list ∙ length_run (L s) w.at (v.at - w.at)

    in_two : run (L s) 0 v.at ≡ run (L s) 0 w.at ++ run (L s) w.at (v.at - w.at)
    in_two =
        run_cut (L s) 0 v.at w.at (omega (arith, q.moved))
        ∙ ap (λ (k : ℕ). run (L s) 0 w.at ++ run (L s) k (v.at - w.at)) (zero-add w.at)

    pub file_more : {out' : List ℕ} → out' ≡ sets out (at + 2 * w.at) (list_bytes (take (v.at - w.at) new)) → Filing s out₀ at v out'
    file_more {out'} e =
        let front = run (L s) 0 w.at in
        let back = run (L s) w.at (v.at - w.at) in
        record {
          stands = q.stands;
          size = ap length e ∙ length-sets out (at + 2 * w.at) (list_bytes (take (v.at - w.at) new)) ∙ j.size;
          same =
              e ∙ ap (λ (l : List ℕ). sets out (at + 2 * w.at) (list_bytes l)) q.list
              ∙ sym (sets_then out₀ at (at + 2 * w.at) (list_bytes front) (list_bytes back) j.same (omega (arith, list_length front, length_run (L s) 0 w.at)))
              ∙ ap (sets out₀ at) (sym (list-join front back) ∙ ap list_bytes (sym in_two));
        }
