-- What the functions of src/table.rt promise, in arithmetic alone, so that a profile needs no line of proof: at each number of the table what its
-- entry has, below the first what the first has, past the last what profile 7 has. And that this is what the entry of the number has. Rests on
-- Profiles.
use Rattle.std.specs.Prelude.{◌≡◌, refl, Bool, true, false, cond, ◌⊎◌, ℕ, ◌≤◌, ◌<◌, ltb, eqb}
use Rattle.std.proofs.Common.{sym, ap, ap₂, subst, ◌∙◌, inl, inr, ⊎_elim, arith, eqb-true, ne_eqb, ltb-true, ltb-false}
use mathlib.Core.List.Memᴰ
use mathlib.Core.List.{List, [], ◌∷◌, ◌++◌, Memᴰ}
use Rattle.laws.specs.Outcome.{apart}
use Rattle.laws.specs.Run.{run, run_mem}
use Rattle.laws.specs.Members.{All, all_join, all_tested, every, at_each, by_member}
use Rattle.profiles.specs.declared.Family.{Family}
use Rattle.profiles.specs.declared.Family.TheVariants.{Carrier, Spatial, Turbo, Quadratic, Coupled}
use Rattle.profiles.specs.declared.Bits.{Bits}
use Rattle.profiles.specs.declared.Bits.TheVariants.{Each, Even, One}
use Rattle.profiles.specs.declared.Form.{Form}
use Rattle.profiles.specs.declared.Form.TheVariants.{Only, Doubled, Multiple, Grouped, Range, Tiered, Fours}
use Rattle.profiles.specs.declared.Numbers.{Numbers}
use Rattle.profiles.specs.declared.Admitted.{Admitted}
use Rattle.profiles.specs.Entry.{Entry, numbers, admitted}
use Rattle.profiles.specs.Profiles.{ofdm, turbo, carriers, turbos, spatials, quadratics, coupleds, profiles, last_profile, beyond, among, ends, in_table, entry_by, family_by, numbers_by, admitted_by}

-- families, bits and forms as numbers
abbrev pub family_tag : Family → ℕ
family_tag Carrier = 0
family_tag Spatial = 1
family_tag Turbo = 2
family_tag Quadratic = 3
family_tag Coupled = 4

abbrev pub bits_tag : Bits → ℕ
bits_tag Each = 0
bits_tag Even = 1
bits_tag One = 2

abbrev pub form_tag : Form → ℕ
form_tag Only = 0
form_tag Doubled = 1
form_tag Multiple = 2
form_tag Grouped = 3
form_tag Range = 4
form_tag Tiered = 5
form_tag Fours = 6

-- the same of two entries, part by part
abbrev pub SameNumbers : Numbers → Numbers → Type 0
SameNumbers a b = (a.d ≡ b.d) × ((a.r ≡ b.r) × (a.streams ≡ b.streams))

abbrev pub SameAdmitted : Admitted → Admitted → Type 0
SameAdmitted a b =
    (bits_tag a.bits ≡ bits_tag b.bits)
    × ((form_tag a.form ≡ form_tag b.form) × ((a.unit ≡ b.unit) × (a.limit ≡ b.limit)))

-- as the table has it: at each number of an entry, below the first and past the last
abbrev pub AsEntered : (Entry → Type 0) → ℕ → Type 0
AsEntered Same p =
    All (λ q. p ≡ q.number → Same q) profiles × ((p ≡ 0 → Same (in_table 0)) × (last_profile < p → Same (in_table beyond)))

abbrev pub FamilyEntered : ℕ → Family → Type 0
FamilyEntered p f = AsEntered (λ q. family_tag f ≡ family_tag q.family) p

abbrev pub NumbersEntered : ℕ → Numbers → Type 0
NumbersEntered p x = AsEntered (λ q. SameNumbers x q.numbers) p

abbrev pub AdmittedEntered : ℕ → Admitted → Type 0
AdmittedEntered p a = AsEntered (λ q. SameAdmitted a q.admitted) p

-- so it is the entry of the number that has it
module _ (p : ℕ) (z : Entry) where
  -- past every number it is z
  past : (xs : List Entry) → All (λ x. x.number < p) xs → z ≡ among p z xs
  past [] h = refl
  past (x ∷ xs) h = rw (ne_eqb p x.number (λ e. omega (arith, h.0))) (past xs h.1)

  one_of_them : (xs : List Entry) → Memᴰ (among p z xs) (z ∷ xs)
  one_of_them [] = Memᴰ.head refl
  one_of_them (x ∷ xs) = go (eqb p x.number) (Memᴰ.cases_cons (one_of_them xs))
    where
      go : (b : Bool) → (among p z xs ≡ z) ⊎ Memᴰ (among p z xs) xs → Memᴰ (cond b x (among p z xs)) (z ∷ x ∷ xs)
      go true m = Memᴰ.tail (Memᴰ.head refl)
      go false (inl e) = Memᴰ.head e
      go false (inr m) = Memᴰ.tail (Memᴰ.tail m)

-- the numbers are 1 to the last
numbered : every (λ p. eqb p (in_table p).number) (run (λ j. j) 1 last_profile) ≡ true
numbered = refl

pub own_number : (p : ℕ) → 1 ≤ p → p ≤ last_profile → p ≡ (entry_by p).number
unfolding entry_by
own_number p lo hi =
    eqb-true p _ (at_each (λ p. eqb p (in_table p).number) (run (λ j. j) 1 last_profile) numbered (run_mem (λ j. j) 1 last_profile p lo (omega arith)))

-- each is one of the table's
pub in_profiles : (p : ℕ) → Memᴰ (entry_by p) profiles
unfolding entry_by
in_profiles p = ⊎_elim (λ e. Memᴰ.cast e (end (eqb p 0))) (λ m. m) (Memᴰ.cases_cons (one_of_them p (ends p) profiles))
  where
    named : (k : ℕ) → Memᴰ (among k ofdm profiles) profiles
    named k = ⊎_elim (λ e. Memᴰ.head e) (λ m. m) (Memᴰ.cases_cons (one_of_them k ofdm profiles))

    end : (b : Bool) → Memᴰ (cond b (among 1 ofdm profiles) (among beyond ofdm profiles)) profiles
    end true = named 1
    end false = named beyond

-- what a test shows of those entries that it is computed of, and is shown of the turbo one, holds of every profile
pub every_profile : (P : Entry → Type 0) (test : Entry → Bool) → ((q : Entry) → test q ≡ true → P q) → every test carriers ≡ true → P turbo
    → every test spatials ≡ true → every test quadratics ≡ true → every test coupleds ≡ true → All P profiles
every_profile P test show c t s q u =
    all_join P carriers (turbos ++ (spatials ++ (quadratics ++ coupleds))) (all_tested test show carriers c)
    (all_join P turbos (spatials ++ (quadratics ++ coupleds)) (t, tt)
    (all_join P spatials (quadratics ++ coupleds) (all_tested test show spatials s)
    (all_join P quadratics coupleds (all_tested test show quadratics q) (all_tested test show coupleds u))))

-- what holds of the entries by their numbers holds of the entry of every number
pub entered_is : (Same : Entry → Type 0) (p : ℕ) → AsEntered Same p → Same (entry_by p)
unfolding entry_by
entered_is Same p h = go (ltb 0 p) refl (ltb last_profile p) refl
  where
    go : (a : Bool) → ltb 0 p ≡ a → (b : Bool) → ltb last_profile p ≡ b → Same (entry_by p)
    go false e b o = let z : p ≡ 0 = omega (arith, ltb-false 0 p e) in subst (λ (x : ℕ). Same (in_table x)) (sym z) (h.1.0 z)
    go true e true o =
        let l = ltb-true last_profile p o in
        let z : ends p ≡ in_table beyond = rw (ne_eqb p 0 (λ e. omega arith)) in
        subst Same (sym z ∙ past p (ends p) profiles (omega arith)) (h.1.1 l)
    go true e false o =
        by_member (λ q. p ≡ q.number → Same q) profiles h.0 (in_profiles p)
        (own_number p (ltb-true 0 p e) (ltb-false last_profile p o))

-- what the tags say, read back
pub families_apart : (f g : Family) → family_tag f ≡ family_tag g → f ≡ g
families_apart = apart family_tag read same
  where
    read : ℕ → Family
    read t = cond (eqb t 0) Carrier (cond (eqb t 1) Spatial (cond (eqb t 2) Turbo (cond (eqb t 3) Quadratic Coupled)))

    same : (f : Family) → read (family_tag f) ≡ f
    same Carrier = refl
    same Spatial = refl
    same Turbo = refl
    same Quadratic = refl
    same Coupled = refl

bits_apart : (f g : Bits) → bits_tag f ≡ bits_tag g → f ≡ g
bits_apart = apart bits_tag read same
  where
    read : ℕ → Bits
    read t = cond (eqb t 0) Each (cond (eqb t 1) Even One)

    same : (f : Bits) → read (bits_tag f) ≡ f
    same Each = refl
    same Even = refl
    same One = refl

forms_apart : (f g : Form) → form_tag f ≡ form_tag g → f ≡ g
forms_apart = apart form_tag read same
  where
    read : ℕ → Form
    read t = cond (eqb t 0) Only (cond (eqb t 1) Doubled (cond (eqb t 2) Multiple (cond (eqb t 3) Grouped (cond (eqb t 4) Range (cond (eqb t 5) Tiered Fours)))))

    same : (f : Form) → read (form_tag f) ≡ f
    same Only = refl
    same Doubled = refl
    same Multiple = refl
    same Grouped = refl
    same Range = refl
    same Tiered = refl
    same Fours = refl

pub family_entered : (p : ℕ) (f : Family) → FamilyEntered p f → f ≡ family_by p
family_entered p f h = families_apart f _ (entered_is (λ q. family_tag f ≡ family_tag q.family) p h)

pub numbers_entered : (p : ℕ) (x : Numbers) → NumbersEntered p x → x ≡ numbers_by p
numbers_entered p x h =
    let e = entered_is (λ q. SameNumbers x q.numbers) p h in
    ap (λ (d : ℕ). numbers d x.r x.streams) e.0
    ∙ ap₂ (λ (r i : ℕ). numbers (numbers_by p).d r i) e.1.0 e.1.1

pub admitted_entered : (p : ℕ) (a : Admitted) → AdmittedEntered p a → a ≡ admitted_by p
admitted_entered p a h =
    let e = entered_is (λ q. SameAdmitted a q.admitted) p h in
    let b = admitted_by p in
    ap (λ (x : Bits). admitted x a.form a.unit a.limit) (bits_apart a.bits b.bits e.0)
    ∙ ap (λ (f : Form). admitted b.bits f a.unit a.limit) (forms_apart a.form b.form e.1.0)
    ∙ ap₂ (λ (u m : ℕ). admitted b.bits b.form u m) e.1.1.0 e.1.1.1
