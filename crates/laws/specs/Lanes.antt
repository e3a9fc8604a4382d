-- Writing a rule into a slice lane by lane: the cells lie in lanes of w, and inside a lane a stepped state gives the next entry.
-- Over any rule and any state.
use Rattle.std.specs.Prelude.{◌≡◌, refl, List, ◌++◌, ℕ, min, ◌+◌, ◌-◌, ◌*◌, ◌/◌, ◌≤◌, ◌<◌, length, set, drop}
use Rattle.std.proofs.Common.{ap, ◌∙◌, subst, append-nil, le_antisymm, arith, length-set}
use Rattle.std.proofs.Math.Seq.{drop-length}
use Rattle.laws.specs.Digits.{high, high_below}
use Rattle.laws.specs.Run.{run, run_same}
use Rattle.laws.specs.Fill.{Filled, filled_none, filled_more}

-- what writing a part does, whatever was written before it: a slice whose first entries, up to from, are the rule's, cell x being the next,
-- becomes one whose entries up to stop are
abbrev pub Goes : (ℕ → ℕ) → ℕ → ℕ → ℕ → List ℕ → List ℕ → Type 0
Goes f x from stop old new = (a : ℕ) (o : List ℕ) → a + from ≡ x → Filled f a o old from → Filled f a o new stop

-- inside the lane that begins at cell lane: At y is what the state is at its place y
module _ {S : Type 0} (f : ℕ → ℕ) (lane : ℕ) (At : ℕ → S → Type 0) where
  -- the loop, from place y and entry from on, at entry i
  pub record Going (y from stop : ℕ) (out₀ out : List ℕ) (at : S) (i : ℕ) : Type 0 where
    pub since : from ≤ i
    pub until : i ≤ stop
    pub place : At (y + (i - from)) at
    pub long : length out ≡ length out₀
    pub goes : Goes f (lane + y) from i out₀ out

  module _ {y from stop : ℕ} {out₀ : List ℕ} where
    pub going_first : {at : S} → from ≤ stop → At y at → Going y from stop out₀ out₀ at from
    going_first {at} h p = record {
      since = omega arith;
      until = h;
      place = subst (λ (x : ℕ). At x at) (omega arith) p;
      long = refl;
      goes = λ a o e g. g;
    }

    -- an entry more, and the state one place on
    pub going_next : {out : List ℕ} {at next : S} {i : ℕ} {v : ℕ} → Going y from stop out₀ out at i → i < stop → stop ≤ length out₀
        → v ≡ f (lane + (y + (i - from))) → At (y + (i - from) + 1) next → Going y from stop out₀ (set out i v) next (i + 1)
    going_next {out} {at} {next} {i} {v} g h room e p = record {
      since = omega (arith, g.since);
      until = omega arith;
      place = subst (λ (x : ℕ). At x next) (omega (arith, g.since)) p;
      long = length-set out i v ∙ g.long;
      goes = λ a o q z. filled_more f a o out i v (g.goes a o q z) (omega (arith, z.long))
          (e ∙ ap f (let r : lane + (y + (i - from)) ≡ a + i = omega (arith, q, g.since) in r));
    }

    pub going_all : {out : List ℕ} {at : S} {i : ℕ} → Going y from stop out₀ out at i → stop ≤ i → Going y from stop out₀ out at stop
    going_all {out} {at} {i} g h = subst (λ (k : ℕ). Going y from stop out₀ out at k) (le_antisymm g.until h) g

-- lane by lane: At lane y is what the state is at place y of a lane. Where nothing is left the state may be any
pub record Lanewise {S : Type 0} (f : ℕ → ℕ) (w : ℕ) (At : ℕ → ℕ → S → Type 0) (cell count : ℕ) (out₀ out : List ℕ) (lane y : ℕ) (at : S) (i : ℕ) : Type 0 where
  pub far : i ≤ count
  pub filled : Filled f cell out₀ out i
  pub place : i < count → cell + i ≡ w * lane + y
  pub inside : i < count → y < w
  pub state : i < count → At lane y at

module _ {S : Type 0} {f : ℕ → ℕ} {w : ℕ} {At : ℕ → ℕ → S → Type 0} {cell count : ℕ} {out₀ : List ℕ} where
  pub lanes_first : {lane y : ℕ} {at : S} → cell ≡ w * lane + y → y < w → At lane y at → Lanewise f w At cell count out₀ out₀ lane y at 0
  lanes_first e h p = record {
    far = omega arith;
    filled = filled_none f cell out₀;
    place = λ l. omega arith;
    inside = λ l. h;
    state = λ l. p;
  }

-- a part of lane number lane of m lanes: from place y and entry from on, up to entry stop
pub record Part (m w lane y from stop : ℕ) (out : List ℕ) : Type 0 where
  pub lane_in : lane < m
  pub more : from < stop
  pub ends : y + (stop - from) ≤ w
  pub room : stop ≤ length out

-- what comes next: the rest of the lane, or what there is room for of it
module _ {S : Type 0} {f : ℕ → ℕ} {w : ℕ} {At : ℕ → ℕ → S → Type 0} {cell count : ℕ} {out₀ out : List ℕ} {lane y : ℕ} {at : S} {i stop : ℕ}
    (g : Lanewise f w At cell count out₀ out lane y at i) (h : i < count) (q : stop ≡ min count (i + (w - y))) where
  pub part : {n m : ℕ} → n ≡ w * m → count ≡ min (length out₀) (n - cell) → Part m w lane y i stop out
  part {n} {m} whole e = record {
    lane_in = lane_below;
    more = omega (arith, g.inside h);
    ends = omega (arith, g.inside h);
    room = omega (arith, g.filled.long);
  }
    where
      lane_below : lane < m
      lane_below =
          subst (λ (x : ℕ). x < m) (ap (λ (x : ℕ). x / w) (g.place h) ∙ high w lane (g.inside h))
          (high_below w m (cell + i) (let l = g.inside h in omega arith) (omega (arith, whole)))

  -- then the state at the beginning of the next lane, if cells are left
  pub lanes_next : {new : List ℕ} {end next : S} → Going f (w * lane) (At lane) y i stop out new end stop → (At lane w end → At (lane + 1) 0 next)
      → Lanewise f w At cell count out₀ new (lane + 1) 0 next stop
  lanes_next {new} {end} {next} a p = record {
    far = omega arith;
    filled = a.goes cell out₀ (g.place h) g.filled;
    place = λ l. omega (arith, g.place h, g.inside h);
    inside = λ l. omega (arith, g.inside h);
    state = λ l. p (subst (λ (x : ℕ). At lane x end) (let k : y + (stop - i) ≡ w = omega (arith, g.inside h) in k) a.place);
  }

-- a walk of a rule over n cells, from cell on: as many entries as there is room and cells for, and the rest kept
pub record Ran (f : ℕ → ℕ) (n cell : ℕ) (old new : List ℕ) (count : ℕ) : Type 0 where
  pub count_is : count ≡ min (length old) (n - cell)
  pub list_is : new ≡ run f cell count ++ drop count old

-- of a rule that agrees
pub ran_same : {f g : ℕ → ℕ} {n cell count : ℕ} {old new : List ℕ} → ((i : ℕ) → f i ≡ g i) → Ran f n cell old new count → Ran g n cell old new count
ran_same {f} {g} {cell = cell} {count = count} {old = old} e r = record {
  count_is = r.count_is;
  list_is = r.list_is ∙ ap (λ (l : List ℕ). l ++ drop count old) (run_same f g cell count (λ i h. e i));
}

-- where there are as many cells as room, the rule alone is left
pub ran_full : {f : ℕ → ℕ} {n cell count : ℕ} {old new : List ℕ} → Ran f n cell old new count → length old ≤ n - cell → new ≡ run f cell (length old)
ran_full {f} {n} {cell} {count} {old} r h =
    r.list_is
    ∙ ap (λ (k : ℕ). run f cell k ++ drop k old) (let e : count ≡ length old = omega (arith, r.count_is) in e)
    ∙ ap (λ (l : List ℕ). run f cell (length old) ++ l) (drop-length old)
    ∙ append-nil (run f cell (length old))

pub lanes_all : {S : Type 0} {f : ℕ → ℕ} {w : ℕ} {At : ℕ → ℕ → S → Type 0} {n cell count : ℕ} {out₀ out : List ℕ} {lane y : ℕ} {at : S} {i : ℕ}
    → Lanewise f w At cell count out₀ out lane y at i → count ≤ i → count ≡ min (length out₀) (n - cell) → Ran f n cell out₀ out count
lanes_all {f = f} {cell = cell} {out₀ = out₀} g h e = record {
  count_is = e;
  list_is = g.filled.list ∙ ap (λ (k : ℕ). run f cell k ++ drop k out₀) (le_antisymm g.far h);
}
