use Rattle.table.proofs.RowsLaws.{rows-viewed}
use Rattle.figures.proofs.SumLaws.{nameless-sums}
use Rattle.gathering.specs.Held.{held_of}
use Rattle.console.proofs.PartLaws.{turn-sums, turn-shown, turn-room, nameless-shown, ended_at}
use Rattle.console.proofs.feed.end_line.Goals as goal

pub write_shown-size-requires : goal.write_shown-size-requires
write_shown-size-requires c =
    let h = held_of c.args.bytes.now c.args.m in
    record {
      summable = (
        nameless-sums _ _ _ _ (turn-sums _ _ h _ c.first_bytes-line.ensures _ _ _ _ c.line_turn-r.ensures.value c.requires.0),
        rw (rows-viewed _ _ c.view.ensures) (turn-shown _ _ h _ c.first_bytes-line.ensures _ _ _ _ c.line_turn-r.ensures.value),
      );
      nums_in_bounds = rw c.view.ensures.nums (turn-room _ _ h _ c.first_bytes-line.ensures _ _ _ _ c.line_turn-r.ensures.value _ _ c.requires.1);
    }

pub returns-clause-ended_at : goal.returns-clause-ended_at
returns-clause-ended_at c =
    let h = held_of c.args.bytes.now c.args.m in
    ended_at _ _ h _ c.first_bytes-line.ensures _ _ _ _ c.line_turn-r.ensures.value _ _ _ (nameless-shown _ _ _ _ _ _ _) _ _
    (rw (rows-viewed _ _ c.view.ensures) at c.write_shown-size.ensures)

pub returns-clause-summable : goal.returns-clause-summable
returns-clause-summable c =
    let h = held_of c.args.bytes.now c.args.m in
    turn-sums _ _ h _ c.first_bytes-line.ensures _ _ _ _ c.line_turn-r.ensures.value c.requires.0
