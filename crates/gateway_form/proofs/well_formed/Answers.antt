-- `gateway_form::well_formed`.
use mathlib.Core.Path.{◌∙◌}
use native.Mathlib.Omega.{arith}
use Rattle.gateway_form.specs.Testing.{too_short, no_machine, many_machines, header_cut, by_entries}
use Rattle.gateway_form.proofs.well_formed.Goals as goal

pub returns-then-len-lt4 : goal.returns-then-len-lt4
returns-then-len-lt4 c = too_short _ c.if-len-lt4.true

pub returns-then-machines-lt1 : goal.returns-then-machines-lt1
returns-then-machines-lt1 c = no_machine _ c.if-len-lt4.false c.machines_in-machines.ensures.0 c.if-machines-lt1.true

pub returns-then-machines-gt-MACHINES : goal.returns-then-machines-gt-MACHINES
returns-then-machines-gt-MACHINES c = many_machines _ c.if-len-lt4.false c.machines_in-machines.ensures.0 c.if-machines-lt1.false (omega (arith, c.if-machines-gt-MACHINES.true))

pub returns-then-len-machines : goal.returns-then-len-machines
returns-then-len-machines c = header_cut _ c.if-len-lt4.false c.machines_in-machines.ensures.0 c.if-machines-lt1.false c.if-machines-gt-MACHINES.false c.if-len-machines.true

pub returns : goal.returns
returns c = c.entries_fit.ensures ∙ by_entries _ c.if-len-lt4.false c.machines_in-machines.ensures.0 c.if-machines-lt1.false c.if-machines-gt-MACHINES.false c.if-len-machines.false
