use borrow.Author.Rules.{rules}
use Rattle.table.proofs.TableLaws.{whole-more}
use Rattle.validity.proofs.ValidLaws.{record-own, record-guessed, record-stranger, record-known, records-end}
use Rattle.validity.proofs.valid.records_good.Goals as goal
use Rattle.validity.proofs.valid.records_good.Goals.{else-not-guess_fits-via-then-not-guess_fits+else-not-is_known, else-not-guess_fits-via-else-not-guess_fits}

pub returns-then-not-record_good-clause-value : goal.returns-then-not-record_good-clause-value
returns-then-not-record_good-clause-value c = search (record-own, rules)

pub returns-then-not-is_known-clause-value : goal.returns-then-not-is_known-clause-value
returns-then-not-is_known-clause-value c = search (record-stranger, rules)

pub loop-i-preserved : goal.loop-i-preserved
loop-i-preserved c = (
  elim c.else-not-guess_fits.branch [
    | else-not-guess_fits-via-then-not-guess_fits+else-not-is_known w ↦ search (record-known, rules)
    | else-not-guess_fits-via-else-not-guess_fits w ↦ search (record-guessed, rules)
  ],
  search (whole-more, rules),
)

pub returns-clause-value : goal.returns-clause-value
returns-clause-value c = search (records-end, rules)
