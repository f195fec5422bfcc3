use Rattle.book_validity.proofs.BookLaws.{good-dated}
use Rattle.acceptance.proofs.accepting.has_place.Goals as goal

pub day_open-requires-clause-dated : goal.day_open-requires-clause-dated
day_open-requires-clause-dated c = good-dated _ _ c.requires.0
