-- `sets::ruling_of` says which line applies first: each return by the tests that led there.
use mathlib.Core.Bool.{Bool, true, false}
use mathlib.Core.Path.{◌≡◌, refl, sym, ap, subst, ◌∙◌}
use Rattle.std.proofs.Common.{rules}
use Rattle.laws.specs.Outcome.{first, stopped}
use Rattle.sizes.specs.Tests.{profile_listed, bits_listed, size_listed}
use Rattle.sizes.specs.Listed.{bits_small}
use Rattle.sets.specs.declared.Set.{Set}
use Rattle.couples.specs.declared.Couples.{Couples}
use Rattle.profiles.specs.declared.Family.TheVariants.{Quadratic, Coupled}
use Rattle.sets.specs.Set.{size_of, family_of, couples_of}
use Rattle.sets.specs.Stream.{stream_listed}
use Rattle.sets.specs.Factored.{factor_lines, Sized}
use Rattle.sets.specs.Beside.{beside_lines, the_quadratic, the_coupled, lines_by, none_in, none_apart, squares_sized, couples_sized}
use Rattle.sets.specs.Verdict.{say_ruled, set_lines, ruling_of}
use Rattle.sizes.specs.Admits.{passing_listed}
use Rattle.sets.proofs.ruling_of.Goals as goal
use Rattle.sets.proofs.ruling_of.Goals.{then-is_quadratic+in_ok-ruling_of, else-is_quadratic}

-- what a test found is what the sentence has
found : {r t v : Bool} → r ≡ t → r ≡ v → t ≡ v
found e h = sym e ∙ h

-- behind the first four tests the factors decide
beside : (s : Set)
    → profile_listed (size_of s) ≡ true
    → bits_listed (size_of s) ≡ true
    → size_listed (size_of s) ≡ true
    → stream_listed s ≡ true
    → first (set_lines s) ≡ first (beside_lines s)
unfolding set_lines
beside s p b n t = rw (p, b, n, t)

-- of the quadratic interleaver
by_squares : (s : Set) → first (set_lines s) ≡ first (beside_lines s) → family_of s ≡ Quadratic → (p : Couples) → p ≡ couples_of s
    → first (factor_lines true p) ≡ ruling_of s
by_squares s b f p e = ap (λ (p : Couples). first (factor_lines true p)) e ∙ lines_by _ true f refl refl ∙ sym b

-- of couples
by_couples : (s : Set) → first (set_lines s) ≡ first (beside_lines s) → family_of s ≡ Coupled → (p : Couples) → p ≡ couples_of s
    → first (factor_lines false p) ≡ ruling_of s
by_couples s b f p e = ap (λ (p : Couples). first (factor_lines false p)) e ∙ lines_by _ false f refl refl ∙ sym b

pub returns-then-not-profile_listed : goal.returns-then-not-profile_listed
unfolding set_lines
returns-then-not-profile_listed c = simp (found c.profile_listed.ensures c.if-not-profile_listed.true)

pub returns-then-not-bits_listed : goal.returns-then-not-bits_listed
unfolding set_lines
returns-then-not-bits_listed c =
    simp (found c.profile_listed.ensures c.if-not-profile_listed.false, found c.bits_listed.ensures c.if-not-bits_listed.true)

pub size_listed-requires : goal.size_listed-requires
size_listed-requires c = bits_small _ (found c.bits_listed.ensures c.if-not-bits_listed.false)

pub returns-then-not-size_listed : goal.returns-then-not-size_listed
unfolding set_lines
returns-then-not-size_listed c =
    simp (
      found c.profile_listed.ensures c.if-not-profile_listed.false,
      found c.bits_listed.ensures c.if-not-bits_listed.false,
      found c.size_listed.ensures c.if-not-size_listed.true,
    )

pub returns-then-not-stream_listed : goal.returns-then-not-stream_listed
unfolding set_lines
returns-then-not-stream_listed c =
    simp (
      found c.profile_listed.ensures c.if-not-profile_listed.false,
      found c.bits_listed.ensures c.if-not-bits_listed.false,
      found c.size_listed.ensures c.if-not-size_listed.false,
      found c.stream_listed.ensures c.if-not-stream_listed.true,
    )

pub ruling_of-requires : goal.ruling_of-requires
ruling_of-requires c =
    let l = passing_listed (size_of c.args.set) (found c.profile_listed.ensures c.if-not-profile_listed.false) (found c.bits_listed.ensures c.if-not-bits_listed.false) (found c.size_listed.ensures c.if-not-size_listed.false) in
    subst (Sized true) (sym c.couples_of.ensures) (squares_sized _ l (the_quadratic _ (found c.is_quadratic.ensures c.if-is_quadratic.true)))

pub ruling_of-requires-then-is_coupled : goal.ruling_of-requires-then-is_coupled
ruling_of-requires-then-is_coupled c =
    let l = passing_listed (size_of c.args.set) (found c.profile_listed.ensures c.if-not-profile_listed.false) (found c.bits_listed.ensures c.if-not-bits_listed.false) (found c.size_listed.ensures c.if-not-size_listed.false) in
    subst (Sized false) (sym c.couples_of-then-is_coupled.ensures) (couples_sized _ l (the_coupled _ (found c.is_coupled.ensures c.if-is_coupled.true)))

pub returns-in_err-ruling_of : goal.returns-in_err-ruling_of
returns-in_err-ruling_of c =
    let b = beside c.args.set (found c.profile_listed.ensures c.if-not-profile_listed.false) (found c.bits_listed.ensures c.if-not-bits_listed.false) (found c.size_listed.ensures c.if-not-size_listed.false) (found c.stream_listed.ensures c.if-not-stream_listed.false) in
    let said : say_ruled c.from_residual.result ≡ stopped c.in_err-ruling_of.field-0.0 = search rules in
    said ∙ c.in_err-ruling_of.ensures ∙ by_squares c.args.set b (the_quadratic _ (found c.is_quadratic.ensures c.if-is_quadratic.true)) _ c.couples_of.ensures

pub returns-in_err-ruling_of-2 : goal.returns-in_err-ruling_of-2
returns-in_err-ruling_of-2 c =
    let b = beside c.args.set (found c.profile_listed.ensures c.if-not-profile_listed.false) (found c.bits_listed.ensures c.if-not-bits_listed.false) (found c.size_listed.ensures c.if-not-size_listed.false) (found c.stream_listed.ensures c.if-not-stream_listed.false) in
    let said : say_ruled c.from_residual-in_err-ruling_of-2.result ≡ stopped c.in_err-ruling_of-2.field-0.0 = search rules in
    said ∙ c.in_err-ruling_of-2.ensures ∙ by_couples c.args.set b (the_coupled _ (found c.is_coupled.ensures c.if-is_coupled.true)) _ c.couples_of-then-is_coupled.ensures

pub returns-in_ok-ruling_of-2 : goal.returns-in_ok-ruling_of-2
returns-in_ok-ruling_of-2 c =
    let b = beside c.args.set (found c.profile_listed.ensures c.if-not-profile_listed.false) (found c.bits_listed.ensures c.if-not-bits_listed.false) (found c.size_listed.ensures c.if-not-size_listed.false) (found c.stream_listed.ensures c.if-not-stream_listed.false) in
    c.in_ok-ruling_of-2.ensures ∙ by_couples c.args.set b (the_coupled _ (found c.is_coupled.ensures c.if-is_coupled.true)) _ c.couples_of-then-is_coupled.ensures

pub returns-else-is_coupled : goal.returns-else-is_coupled
returns-else-is_coupled c =
    let b = beside c.args.set (found c.profile_listed.ensures c.if-not-profile_listed.false) (found c.bits_listed.ensures c.if-not-bits_listed.false) (found c.size_listed.ensures c.if-not-size_listed.false) (found c.stream_listed.ensures c.if-not-stream_listed.false) in
    elim c.if-is_quadratic.branch [
      | then-is_quadratic+in_ok-ruling_of w ↦ w.in_ok-ruling_of.ensures ∙ by_squares c.args.set b (the_quadratic _ (found c.is_quadratic.ensures w.if-is_quadratic.true)) _ w.couples_of.ensures
      | else-is_quadratic w ↦
          let n = found c.is_quadratic.ensures w.if-is_quadratic.false in
          let o = found c.is_coupled.ensures c.if-is_coupled.false in
          sym (b ∙ rw (← none_in c.args.set n o, ← none_apart c.args.set n o))
    ]
