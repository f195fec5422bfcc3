use Rattle.posting.proofs.PostLaws.{match-nums, match-numbers, match-dates, judged-match, judged-new}
use Rattle.posting.proofs.verdict.judge.Goals as goal

pub load-requires : goal.load-requires
load-requires c = (
  match-nums _ _ _ _ c.find.ensures c.requires.whole.0 _ c.in-Some.is,
  match-numbers _ _ _ _ c.find.ensures c.requires.whole.0 _ c.in-Some.is,
  match-dates _ _ _ _ c.find.ensures c.requires.whole.0 _ c.in-Some.is,
)

pub returns-in-Some : goal.returns-in-Some
returns-in-Some c g listed e = judged-match _ _ _ _ c.find.ensures _ g e _ c.in-Some.is _ c.load.ensures.value _ c.judge_match.ensures

pub returns-in-None : goal.returns-in-None
returns-in-None c g listed e =
    judged-new _ _ _ _ c.find.ensures _ g e _ _ listed c.in-None.is _ c.find-recorded.ensures _ c.find-account.ensures _ c.judge_new.ensures
