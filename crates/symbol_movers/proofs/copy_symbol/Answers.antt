-- `symbol_movers::copy_symbol` copies `width` bytes. The loop's invariant: the first i are copied.
use Rattle.std.proofs.Common.{sym, ap, ◌∙◌, List, ℕ, ◌+◌, ◌<◌, length, get_or, set, drop, add-one, arith, length-drop, get_or-drop}
use Rattle.std.proofs.Math.Seq.{paste, paste-suc}
use Rattle.symbol_movers.proofs.copy_symbol.Goals as goal

pub loop-i-preserved : goal.loop-i-preserved
loop-i-preserved c =
    let l = c.loop-i in let a = c.args in let rest = drop a.from a.src.now in let room : l.i < length rest = omega (arith, length-drop a.from a.src.now) in
    ap (λ (x : ℕ). set l.dst (a.to + l.i) x) (sym (get_or-drop a.from a.src.now l.i 0))
    ∙ ap (λ (d : List ℕ). set d (a.to + l.i) (get_or rest l.i 0)) l.invariant
    ∙ paste-suc a.dst.now a.to rest l.i 0 (omega arith) room
    ∙ ap (paste a.dst.now a.to rest) (sym (add-one l.i))
