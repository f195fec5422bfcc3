-- The invariant: the fields that are left begin with the rest.
use Rattle.std.proofs.Common.{◌≡◌, ◌-◌}
use Rattle.line_fields.specs.LineFields.{field_at}
use Rattle.line_fields.proofs.field_at.Given as goal

abbrev pub invariant-loop : goal.invariant-loop
invariant-loop l = field_at l.i l.line ≡ field_at (l.i - l.counter) l.rest
