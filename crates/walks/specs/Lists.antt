-- The list of L: what passes the test among the cells. It is L at 0 to N - 1, and L and M undo each other below N.
use Rattle.std.specs.Prelude.{List, ◌≡◌, ℕ}
use Rattle.laws.specs.Run.{run}
use Rattle.laws.specs.Keep.{keep}
use Rattle.laws.specs.Once.{inside}
use Rattle.laws.specs.Perm.{Perm}
use Rattle.sets.specs.declared.Set.{Set}
use Rattle.families.specs.Rules.{rule_of, L, M, lawful}
use Rattle.sets.specs.Admits.{Accepted}

-- the list of L: what passes the test among the cells
unfoldable pub list_l : Set → List ℕ
list_l s = keep (rule_of s).address (inside s.n) 0 (rule_of s).total

-- L and M undo each other below N
pub each_once : (s : Set) → Accepted s → Perm s.n (L s) (M s)
each_once s e = (lawful s e).perm

-- the list of L is L at 0 to N - 1
pub list_is : (s : Set) → Accepted s → list_l s ≡ run (L s) 0 s.n
unfolding list_l
list_is s e = (lawful s e).list
