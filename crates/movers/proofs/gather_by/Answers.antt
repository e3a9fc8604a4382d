-- `movers::gather_by` gathers by the table. The loop's invariant: the first i entries are in place, whatever stands in for one that isn't there.
use Rattle.std.proofs.Common.{ℕ, ◌+◌, ◌<◌, ◌≡◌, List, length, get_or, set, ap, ◌∙◌, subst, sym, arith}
use Rattle.laws.specs.Move.{gather, get_d_any}
use Rattle.laws.specs.Loop.{by, Gathered, gather_more, gather_all}
use Rattle.movers.proofs.gather_by.Goals as goal

-- an entry that is there is copied, whatever stands in for one that isn't
copied : {A : Type 0} {table : List ℕ} {z : A} {src old new : List A} {i from : ℕ} {v : A} → Gathered table z src old new i → v ≡ get_or src from v
    → from ≡ by table i → i < length new → from < length src → Gathered table z src old (set new i v) (i + 1)
copied {A} {table} {z} {src} {old} {new} {i} {from} {v} g read address here there =
    subst (λ (x : A). Gathered table z src old (set new i x) (i + 1))
    (sym (read ∙ get_d_any src from v z there ∙ ap (λ (k : ℕ). get_or src k z) address)) (gather_more table z src old g here)

pub loop-i-preserved : goal.loop-i-preserved
loop-i-preserved g c = λ z. copied (c.loop-i.invariant z) c.index-src-from.is (omega arith) (omega arith) (omega (arith, c.requires.within c.loop-i.i, c.requires.same))

pub returns : goal.returns
returns g c = λ z. let a = c.args in gather_all a.table.now z a.src.now a.dst.now (c.loop-i.invariant z) (omega arith) ∙ ap (λ (n : ℕ). gather (by a.table.now) n z a.src.now) c.requires.same
