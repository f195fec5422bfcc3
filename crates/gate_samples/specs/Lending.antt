-- What a call over the first of some records answers and leaves: those past them stay.
use Rattle.std.specs.Prelude.{ℕ, List, ◌++◌, drop}
use Rattle.table.specs.declared.Record.{Record}
use Rattle.records.specs.Records.{Called}

unfoldable pub with_rest : ℕ → List Record → Called → Called
with_rest n ts c = record { code = c.code; gate = c.gate; records = c.records ++ drop n ts; out = c.out; size = c.size }
