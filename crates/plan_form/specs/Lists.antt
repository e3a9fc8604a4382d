-- Two lists of addresses, position by position: where they differ, a missing or surplus place among them. And a list of a file: where it stands, and what
-- stands in it.
use Rattle.std.specs.Prelude.{ℕ, max, ◌+◌, ◌*◌, ◌-◌, ◌≤◌, ◌<◌, Bool, true, not, cond, ◌&&◌, List, Option, Some, None, ◌≡◌, eqb, ltb, length, get_or}
use Rattle.std.proofs.Common.{sym, ap₂, ◌∙◌, zero-add, arith, lt-ltb, le-ltb}
use Rattle.std.proofs.Math.Path.{ap}
use Rattle.laws.specs.Run.{length_run, get_or_run}
use Rattle.laws.specs.Kept.{passing}
use Rattle.big_end.specs.Numbers.{pair_at}
use Rattle.plan_form.specs.declared.Listing.{Listing}
use Rattle.plan_form.specs.Form.{entry_place, plans_in, offset_in, count_in, addresses_at, list_in, formed}
use Rattle.plan_form.specs.Meets.{formed_is, entry_inside, list_inside}

-- a position is right if both lists have it, with the same address there
abbrev pub agree : List ℕ → List ℕ → ℕ → Bool
agree xs ys p = ltb p (length xs) && (ltb p (length ys) && eqb (get_or xs p 0) (get_or ys p 0))

abbrev pub wrong : List ℕ → List ℕ → ℕ → Bool
wrong xs ys p = not (agree xs ys p)

-- the wrong positions from p on, below the larger length
unfoldable pub wrongs_from : List ℕ → List ℕ → ℕ → List ℕ
wrongs_from xs ys p = passing (wrong xs ys) p (max (length xs) (length ys) - p)

-- all of them
abbrev pub wrongs : List ℕ → List ℕ → List ℕ
wrongs xs ys = wrongs_from xs ys 0

-- the address at a position of a list, which has none past its end
abbrev pub place_of : List ℕ → ℕ → Option ℕ
place_of l p = cond (ltb p (length l)) (Some (get_or l p 0)) None

-- the list that stands there in a file
abbrev pub list_at : List ℕ → Listing → List ℕ
list_at f list = addresses_at f list.offset list.count

-- it lies inside the file
pub record Inside (f : List ℕ) (list : Listing) : Type 0 where
  pub short : length f ≤ 65536
  pub inside : list.offset + 2 * list.count ≤ length f

module _ (f : List ℕ) (list : Listing) where
  pub listed_length : length (list_at f list) ≡ list.count
  unfolding addresses_at
  listed_length = length_run (λ t. pair_at f (list.offset + 2 * t)) 0 list.count

  pub listed_address : (p : ℕ) → p < list.count → get_or (list_at f list) p 0 ≡ pair_at f (list.offset + 2 * p)
  unfolding addresses_at
  listed_address p h =
      get_or_run (λ t. pair_at f (list.offset + 2 * t)) 0 list.count p 0 h ∙ ap (λ (t : ℕ). pair_at f (list.offset + 2 * t)) (zero-add p)

  pub place_absent : (p : ℕ) → list.count ≤ p → None ≡ place_of (list_at f list) p
  place_absent p h = sym (rw (le-ltb p (length (list_at f list)) (omega (arith, listed_length))))

  pub place_address : (p : ℕ) → p < list.count → {a : ℕ} → a ≡ pair_at f (list.offset + 2 * p) → Some a ≡ place_of (list_at f list) p
  place_address p h q =
      ap (λ (a : ℕ). Some a) (q ∙ sym (listed_address p h)) ∙ sym (rw (lt-ltb p (length (list_at f list)) (omega (arith, listed_length))))

-- a file of the form, with what its readers ask of its numbers
pub record Proper (f : List ℕ) : Type 0 where
  pub is_formed : formed f ≡ true
  pub long : 4 ≤ length f
  pub few : plans_in f ≤ 16

pub proper : {f : List ℕ} → formed f ≡ true → Proper f
proper {f} e = let z = formed_is f e in record { is_formed = e; long = omega (arith, z.header); few = z.few }

-- one that has plan i, whose entry lies inside it
pub record Having (f : List ℕ) (i : ℕ) : Type 0 where
  pub is_formed : formed f ≡ true
  pub has : i < plans_in f
  pub entry : entry_place i + 20 ≤ length f
  pub short : length f ≤ 65536

pub having : {f : List ℕ} {i : ℕ} → formed f ≡ true → i < plans_in f → Having f i
having {f} {i} e h = let z = formed_is f e in record { is_formed = e; has = h; entry = entry_inside z i h; short = z.short }

-- where its list stands
pub record Listed (f : List ℕ) (i : ℕ) (list : Listing) : Type 0 where
  pub offset_is : list.offset ≡ offset_in f i
  pub count_is : list.count ≡ count_in f i
  pub count_small : list.count < 4294967296

module _ {f : List ℕ} {i : ℕ} {list : Listing} (l : Listed f i list) where
  pub listed_list : list_at f list ≡ list_in f i
  listed_list = ap₂ (addresses_at f) l.offset_is l.count_is

  pub listed_inside : Having f i → Inside f list
  listed_inside h = record { short = h.short; inside = omega (arith, l.offset_is, l.count_is, list_inside (formed_is f h.is_formed) i h.has) }
