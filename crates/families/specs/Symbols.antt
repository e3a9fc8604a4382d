-- The symbols of a block, one definition for every profile: how many there are, which input symbol output symbol t holds, and where input symbol k goes. Of
-- couples there are two for each, and they are swapped and moved as IEEE 802.16 has it (specs/Symbols.antt of couples); of every other profile they are the N
-- positions, by L and M. Rests on Rules.
use Rattle.std.specs.Prelude.{Bool, ◌≡◌}
use Rattle.std.proofs.Math.Bool.{true, false, cond}
use Rattle.std.proofs.Math.Path.{refl}
use Prim.Native.Nat.{ℕ, ◌*◌, ◌≤◌}
use Rattle.std.proofs.Common.{arith}
use Rattle.laws.specs.Outcome.{done}
use Rattle.laws.specs.declared.Way.{Way}
use Rattle.laws.specs.Perm.{Perm}
use Rattle.laws.specs.Walk.{Rule, in_way}
use Rattle.sets.specs.declared.Set.{Set}
use Rattle.sets.specs.Set.{family_of, is_coupled}
use Rattle.sets.specs.Beside.{the_coupled}
use Rattle.sets.proofs.Carried.{sizes_small, coupled_size}
use Rattle.sets.specs.Verdict.{verdict_of}
use Rattle.couples.specs.Symbols.{symbol_rule, symbols_once}
use Rattle.families.specs.Rules.{rule_of, lawful}

-- how many symbols a block has: two for each of N couples, else N
unfoldable pub symbols_of : Set → ℕ
symbols_of s = cond (is_coupled (family_of s)) (2 * s.n) s.n

-- the rule that they are moved by: of couples the two steps, else L and M
unfoldable pub block_rule : Set → Rule
block_rule s = cond (is_coupled (family_of s)) (symbol_rule s.n (rule_of s)) (rule_of s)

-- output symbol t holds input symbol block_l t
abbrev pub block_l : Set → ℕ → ℕ
block_l s = (block_rule s).l

-- input symbol k goes to output symbol block_m k
abbrev pub block_m : Set → ℕ → ℕ
block_m s = (block_rule s).m

-- what a block is moved by, either way: to interleave, output symbol t holds the input symbol that it has at t
abbrev pub block_in : Way → Set → Rule
block_in way s = in_way way (symbols_of s) (block_rule s)

-- of couples ..
module _ (s : Set) (c : is_coupled (family_of s) ≡ true) where
  pub symbols_two : symbols_of s ≡ 2 * s.n
  unfolding symbols_of
  symbols_two = rw c

  pub block_coupled : block_rule s ≡ symbol_rule s.n (rule_of s)
  unfolding block_rule
  block_coupled = rw c

-- .. and of every other
module _ (s : Set) (c : is_coupled (family_of s) ≡ false) where
  pub symbols_plain : symbols_of s ≡ s.n
  unfolding symbols_of
  symbols_plain = rw c

  pub block_plain : block_rule s ≡ rule_of s
  unfolding block_rule
  block_plain = rw c

-- of an accepted set each symbol is used once, and there are at most 6,144
module _ (s : Set) (e : verdict_of s ≡ done tt) where
  pub block_once : Perm (symbols_of s) (block_l s) (block_m s)
  unfolding symbols_of block_rule
  block_once = go (is_coupled (family_of s))
    where
      of : ℕ → Rule → Type 0
      of n r = Perm n r.l r.m

      go : (c : Bool) → of (cond c (2 * s.n) s.n) (cond c (symbol_rule s.n (rule_of s)) (rule_of s))
      go true = symbols_once (lawful s e).perm
      go false = (lawful s e).perm

  pub symbols_most : symbols_of s ≤ 6144
  unfolding symbols_of
  symbols_most = go (is_coupled (family_of s)) refl
    where
      go : (c : Bool) → is_coupled (family_of s) ≡ c → cond c (2 * s.n) s.n ≤ 6144
      go true q = omega (arith, (coupled_size s e (the_coupled (family_of s) q)).most)
      go false q = sizes_small s e
