-- What a refusal of a set carries, change request 8, and that whatever judges a set by lines hands it on: its refusal is that of its number, and with 3 it is
-- the one that the test of the set gives. Where N is listed the size is N itself, and 3 is not said. Rests on NextSize of fitting.
use Rattle.std.specs.Prelude.{ℕ, false, List, ◌++◌, ◌≡◌}
use Rattle.std.proofs.Math.Path.{refl}
use Rattle.std.proofs.Common.{sym, ap, ◌∙◌, subst, arith, ne_eqb}
use Rattle.laws.specs.Outcome.{refused, Line, Ruling, stopped, settle, done, clear_first, clear_then, judged, refused_first, stopped_first}
use Rattle.laws.specs.Unsaid.{numbers, among, unsaid, not_in_front, not_behind}
use Rattle.laws.specs.Least.{LeastFrom}
use Rattle.fitting.specs.Fitting.{fitting}
use Rattle.fitting.specs.NextSize.{ListedFor, fitting_least}
use Rattle.sets.specs.declared.Set.{Set}
use Rattle.sets.specs.declared.Refusal.{Refusal}
use Rattle.sets.specs.Set.{size_of}
use Rattle.sets.specs.Stream.{stream_lines}
use Rattle.sets.specs.Beside.{beside_lines}
use Rattle.sets.specs.Verdict.{size_lines, set_lines, refusal, refusal_number, verdict_of, stopped_refuses}
use Rattle.sets.proofs.Admits.{listed_clear}

-- with 3: the least listed size from N on, or 0
size_of_3 : (s : Set) → (refusal s 3).size ≡ fitting (size_of s)
unfolding refusal
size_of_3 s = refl

pub least_with_3 : (s : Set) → LeastFrom (ListedFor (size_of s)) s.n (refusal s 3).size
least_with_3 s = subst (LeastFrom (ListedFor (size_of s)) s.n) (sym (size_of_3 s)) (fitting_least (size_of s))

-- with any other number: 0
pub none_without_3 : (s : Set) (k : ℕ) → (k ≡ 3 → ⊥) → (refusal s k).size ≡ 0
unfolding refusal
none_without_3 s k h = rw (ne_eqb k 3 h) refl

-- what is judged by lines with the refusals of a set
module _ {A : Type 0} (s : Set) (a : A) (x : Refusal) where
  pub its_number : (ls : List Line) → judged (refusal s) ls a ≡ refused x → x ≡ refusal s x.number
  its_number ls e =
      let g = refused_first (refusal s) a ls x e in
      g.refusal_is ∙ ap (refusal s) (sym (ap (λ (x : Refusal). x.number) g.refusal_is ∙ refusal_number s g.number))

  -- where the set's own lines are among them, and no other says 3, what says 3 is what the test says
  pub as_tested : (before behind : List Line) → among 3 (numbers before) ≡ false → among 3 (numbers behind) ≡ false
      → judged (refusal s) (before ++ (set_lines s ++ behind)) a ≡ refused x → x.number ≡ 3 → verdict_of s ≡ refused x
  as_tested before behind p q e w =
      let ls = before ++ (set_lines s ++ behind) in
      let g = refused_first (refusal s) a ls x e in
      let n : g.number ≡ 3 = sym (ap (λ (x : Refusal). x.number) g.refusal_is ∙ refusal_number s g.number) ∙ w in
      let f = stopped_first ls g.number g.its_line ∙ ap stopped n in
      stopped_refuses s (not_behind 3 (set_lines s) behind q (not_in_front 3 before (set_lines s ++ behind) p f))
      ∙ ap refused (ap (refusal s) (sym w) ∙ sym (its_number ls e))

-- where N is listed
module _ (s : Set) (i : ListedFor (size_of s) s.n) where
  -- it fits itself ..
  pub fits_itself : (refusal s 3).size ≡ s.n
  fits_itself =
      let l = least_with_3 s in
      let b = l.none_between s.n i (omega arith) in
      omega (arith, b.1, l.not_below b.0)

  -- .. and the test of the set doesn't say 3
  pub three_unsaid : (x : Refusal) → verdict_of s ≡ refused x → x.number ≡ 3 → ⊥
  unfolding verdict_of set_lines among
  three_unsaid x e =
      let behind = clear_then (size_lines (size_of s)) (stream_lines s ++ beside_lines s) (clear_first (size_lines (size_of s)) (listed_clear (size_of s) i)) in
      unsaid (refusal s) (λ x. x.number) (refusal_number s) 3 (stream_lines s ++ beside_lines s) tt refl x
      (sym (ap (λ (r : Ruling). settle r (λ k. refused (refusal s k)) (done tt)) behind) ∙ e)
