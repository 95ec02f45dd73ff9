-- The record: which records are well formed, what power-up gives, and what a reset changes.
use Rattle.std.specs.Prelude.{Bool}
use Rattle.inputs.specs.Inputs.{well_inputs, idle}
use Rattle.inputs.specs.declared.Inputs.{Inputs}
use Rattle.ports.specs.Ports.{silent, fresh}
use Rattle.tpi6525.specs.declared.Tpi.{Tpi}

-- only the inputs can be ill formed: every value of the other fields' types is allowed
abbrev pub well_formed : Tpi → Bool
well_formed v = well_inputs v.inputs

-- the record with other inputs
abbrev pub with_inputs : Inputs → Tpi → Tpi
with_inputs i v = record { a = v.a; b = v.b; c = v.c; cr = v.cr; inputs = i }

-- after a reset no line is driven, CR is 0, and nothing is latched or in service; the levels outside are as before
abbrev pub reset_of : Tpi → Tpi
reset_of v = record { a = silent v.a; b = silent v.b; c = silent v.c; cr = 0; inputs = idle }

-- at power-up the ports are at their own power-up, and the rest is as after a reset
abbrev pub power_up : Tpi
power_up = record { a = fresh; b = fresh; c = fresh; cr = 0; inputs = idle }
