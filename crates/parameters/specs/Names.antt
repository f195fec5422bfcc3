-- Document 01, "Requests": the names that a request may use, the actions, and the fields that each action has (the table of source 001, 3.1).
use Rattle.std.specs.Prelude.{ℕ, List, [], ◌∷◌, Bool, true, false, cond, Option, Some, None}
use Rattle.payments.specs.declared.Action.{Action}
use Rattle.payments.specs.declared.Action.TheVariants.{Check, Payment, Status, Cancel}
use Rattle.texts.specs.Lists.{eq_list}

-- `action`, `number`, `type`, `amount`, `receipt`, `date`, `mes`
abbrev pub action_name : List ℕ
action_name = 97 ∷ 99 ∷ 116 ∷ 105 ∷ 111 ∷ 110 ∷ []

abbrev pub number_name : List ℕ
number_name = 110 ∷ 117 ∷ 109 ∷ 98 ∷ 101 ∷ 114 ∷ []

abbrev pub kind_name : List ℕ
kind_name = 116 ∷ 121 ∷ 112 ∷ 101 ∷ []

abbrev pub amount_name : List ℕ
amount_name = 97 ∷ 109 ∷ 111 ∷ 117 ∷ 110 ∷ 116 ∷ []

abbrev pub receipt_name : List ℕ
receipt_name = 114 ∷ 101 ∷ 99 ∷ 101 ∷ 105 ∷ 112 ∷ 116 ∷ []

abbrev pub date_name : List ℕ
date_name = 100 ∷ 97 ∷ 116 ∷ 101 ∷ []

abbrev pub reason_name : List ℕ
reason_name = 109 ∷ 101 ∷ 115 ∷ []

-- their places among the seven
abbrev pub action_place : ℕ
action_place = 0

abbrev pub number_place : ℕ
number_place = 1

abbrev pub kind_place : ℕ
kind_place = 2

abbrev pub amount_place : ℕ
amount_place = 3

abbrev pub receipt_place : ℕ
receipt_place = 4

abbrev pub date_place : ℕ
date_place = 5

abbrev pub reason_place : ℕ
reason_place = 6

unfoldable pub name_index : List ℕ → Option ℕ
name_index n =
    cond (eq_list n action_name) (Some action_place)
    (cond (eq_list n number_name) (Some number_place)
    (cond (eq_list n kind_name) (Some kind_place)
    (cond (eq_list n amount_name) (Some amount_place)
    (cond (eq_list n receipt_name) (Some receipt_place) (cond (eq_list n date_name) (Some date_place) (cond (eq_list n reason_name) (Some reason_place) None))))))

-- `check`, `payment`, `status`, `cancel`
unfoldable pub action_word : Action → List ℕ
action_word Check = 99 ∷ 104 ∷ 101 ∷ 99 ∷ 107 ∷ []
action_word Payment = 112 ∷ 97 ∷ 121 ∷ 109 ∷ 101 ∷ 110 ∷ 116 ∷ []
action_word Status = 115 ∷ 116 ∷ 97 ∷ 116 ∷ 117 ∷ 115 ∷ []
action_word Cancel = 99 ∷ 97 ∷ 110 ∷ 99 ∷ 101 ∷ 108 ∷ []

unfoldable pub action_of : List ℕ → Option Action
action_of w =
    cond (eq_list w (action_word Check)) (Some Check)
    (cond (eq_list w (action_word Payment)) (Some Payment)
    (cond (eq_list w (action_word Status)) (Some Status) (cond (eq_list w (action_word Cancel)) (Some Cancel) None)))

-- number, type and amount
abbrev pub has_account : Action → Bool
has_account Check = true
has_account Payment = true
has_account Status = false
has_account Cancel = false

abbrev pub has_receipt : Action → Bool
has_receipt Check = false
has_receipt Payment = true
has_receipt Status = true
has_receipt Cancel = true

abbrev pub has_date : Action → Bool
has_date Check = false
has_date Payment = true
has_date Status = false
has_date Cancel = false

abbrev pub has_reason : Action → Bool
has_reason Check = false
has_reason Payment = false
has_reason Status = false
has_reason Cancel = true
