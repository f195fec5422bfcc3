use Rattle.std.proofs.Common.{◌∙◌}
use Rattle.listing.proofs.RegistryLaws.{listed-date, listed-line, lines_start, lines-skip, lines-line, lines-end}
use Rattle.listing.proofs.write_lines.Goals as goal
use Rattle.listing.proofs.write_lines.Goals.{then-is_listed, else-is_listed}

pub loop-i-init : goal.loop-i-init
loop-i-init c = lines_start _ _ _ _ c.requires.dates_value.0 c.requires.in_bounds

pub is_listed-requires : goal.is_listed-requires
is_listed-requires c = listed-date _ _ c.requires.dates_value.0 _ c.loop-i-test.true _ c.load_entry-e.ensures.value

pub put-at-requires : goal.put-at-requires
put-at-requires c = listed-line _ _ c.requires.dates_value.0 _ c.loop-i-test.true _ c.load_entry-e.ensures.value _ c.entry_line.ensures

pub loop-i-preserved : goal.loop-i-preserved
loop-i-preserved c =
    elim c.if-is_listed.branch [
      | then-is_listed w ↦ lines-line c.args.b _ _ c.loop-i.invariant _ c.loop-i-test.true c.load_entry-e.ensures.value _ c.is_listed.ensures w.if-is_listed.true c.requires.dates_value.0
          _ w.entry_line.ensures _ (w.at-is ∙ w.put-at.ensures.0) _ (w.out-is ∙ w.put-at.ensures.1)
      | else-is_listed w ↦ lines-skip c.args.b _ _ c.loop-i.invariant _ c.loop-i-test.true c.load_entry-e.ensures.value _ c.is_listed.ensures w.if-is_listed.false _ w.at-is _ w.out-is
    ]

pub returns : goal.returns
returns c = lines-end c.args.b _ _ c.loop-i.invariant c.loop-i-test.false
