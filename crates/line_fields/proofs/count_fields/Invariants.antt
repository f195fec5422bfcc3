use Rattle.std.proofs.Common.{◌≡◌, ◌≤◌, ◌+◌, drop}
use Rattle.line_fields.specs.LineFields.{field_count}
use Rattle.line_fields.proofs.count_fields.Given as goal

abbrev pub invariant-loop-b : goal.invariant-loop-b
invariant-loop-b l = (l.ended ≤ l.b-index) × (field_count l.line ≡ l.ended + field_count (drop l.b-index l.line))
