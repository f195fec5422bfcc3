-- The reply of a call.
use Rattle.ledger.specs.declared.Reply.{Reply}
use Rattle.admission.specs.Delivery.{Delivery}

-- the reply of a call that left this
abbrev pub reply_of : Delivery → Reply
reply_of d = record { code = d.code; gate = d.gate; size = d.size }
