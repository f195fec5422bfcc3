use borrow.Author.Rules.{rules}
use mathlib.Core.Path.{refl, ◌∙◌}
use Rattle.marking.proofs.MarkingLaws.{marking-start, date-there, marking-on, marking-end, nums-same, numbers-same, dates-same}
use Rattle.marking.proofs.mark_entries.Goals as goal

pub loop-i-init : goal.loop-i-init
loop-i-init c = record {
  nums = refl;
  numbers = refl;
  dates = refl;
  marking = marking-start _ _ _ _ c.requires.ready_book.whole c.requires.s_len;
  same_loan = search rules;
}

pub mark_at-k-requires-clause-i_value : goal.mark_at-k-requires-clause-i_value
mark_at-k-requires-clause-i_value c = date-there _ _ _ _ _ _ _ c.loop-i.invariant.marking c.loop-i-test.true c.requires.dated

pub loop-i-preserved : goal.loop-i-preserved
loop-i-preserved c =
    let m = c.loop-i.invariant.marking in
    let h = c.loop-i-test.true in
    let e = c.mark_at-k.ensures.dates_value in record {
      nums = nums-same _ _ _ _ _ _ _ m h _ e ∙ c.loop-i.invariant.nums;
      numbers = numbers-same _ _ _ _ _ _ _ m h _ e ∙ c.loop-i.invariant.numbers;
      dates = dates-same _ _ _ _ _ _ _ m h _ e ∙ c.loop-i.invariant.dates;
      marking = marking-on _ _ _ _ _ _ _ m h _ c.mark_at-k.ensures.value _ e;
      same_loan = search rules;
    }

pub returns-clause-value : goal.returns-clause-value
returns-clause-value c = marking-end _ _ _ _ _ _ _ c.loop-i.invariant.marking c.loop-i-test.false
