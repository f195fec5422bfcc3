use native.Mathlib.Omega.{arith}
use borrow.Author.Rules.{rules}
use Rattle.book_validity.proofs.CountLaws.{few-days, good-day, date-known, counts-none, counts_step, counts-full, counts_end}
use Rattle.book_validity.proofs.counts.days_good.Goals as goal

ruleset laws = (few-days, good-day, date-known, counts-none, counts_end, rules)

pub returns-then-used-le-DAY_MOST : goal.returns-then-used-le-DAY_MOST
returns-then-used-le-DAY_MOST c = search laws

pub loop-i-init : goal.loop-i-init
loop-i-init c = search laws

pub day_slot-s-requires : goal.day_slot-s-requires
day_slot-s-requires c = search laws

pub returns-then-counts-s-ge-COUNT_MOST : goal.returns-then-counts-s-ge-COUNT_MOST
returns-then-counts-s-ge-COUNT_MOST c =
    counts-full _ _ _ c.loop-i.invariant _ c.load_entry-e.ensures.value _ c.written_day.ensures _ c.day_slot-s.ensures.0 _ (omega arith) (omega arith)

pub loop-i-preserved : goal.loop-i-preserved
loop-i-preserved c =
    counts_step _ _ _ c.loop-i.invariant _ c.load_entry-e.ensures.value _ c.written_day.ensures _ c.day_slot-s.ensures.0 (omega arith)

pub returns : goal.returns
returns c = search laws
