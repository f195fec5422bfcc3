-- Document 01, "Agent" and the rows 68, 50, 60, 62 and 63: the agent writes a request.
use Rattle.std.specs.Prelude.{ℕ, List, cond, ◌&&◌, leb, length, get_or, set, Option, Some, None}
use Rattle.fields.specs.declared.number.Number.{Number}
use Rattle.texts.specs.Lists.{written, cursor_after}
use Rattle.fields.specs.Amount.{is_amount}
use Rattle.fields.specs.Codes.{is_kind}
use Rattle.fields.specs.Number.{is_number}
use Rattle.payments.specs.declared.Action.{Action}
use Rattle.message.specs.RequestText.{request_text}
use Rattle.book.specs.declared.Book.{Book}
use Rattle.book.specs.Entries.{BookRows, no_entry, entries_of, book_from, find_entry}
use Rattle.book_validity.specs.BookValid.{book_good}
use Rattle.asking.specs.Asking.{written_entry, request_of, check_of, forms_good, is_open}
use Rattle.daybook.specs.declared.Writing.{Writing as Given}

-- what a writing answers and leaves; `size` bytes of the buffer hold the request, none with a fault
pub record Writing : Type 0 where
  pub code : ℕ
  pub rows : BookRows
  pub out : List ℕ
  pub size : ℕ

abbrev pub writing_of : Given → BookRows → List ℕ → Writing
writing_of r rows out = record { code = r.code; rows = rows; out = out; size = r.size }

abbrev pub unwritten : ℕ → BookRows → List ℕ → Writing
unwritten code t out = record { code = code; rows = t; out = out; size = 0 }

abbrev pub wrote : BookRows → List ℕ → List ℕ → Writing
wrote t out text = record { code = 0; rows = t; out = written out 0 text; size = cursor_after out 0 text }

-- ---- payment, status and cancel
unfoldable pub write_at : Book → BookRows → Action → ℕ → List ℕ → Option ℕ → Writing
write_at b t a reason out None = unwritten 62 t out
write_at b t a reason out (Some i) =
    let e = get_or (entries_of t b.used) i no_entry in
    cond (is_open b a e)
    (wrote (book_from t (set (entries_of t b.used) i (written_entry a e))) out (request_text (request_of a e reason)))
    (unwritten 63 t out)

unfoldable pub write_request : Book → BookRows → Action → ℕ → ℕ → List ℕ → Writing
write_request b t a receipt reason out =
    cond (book_good b t)
    (cond (leb 512 (length out))
    (cond (forms_good a receipt reason) (write_at b t a reason out (find_entry receipt (entries_of t b.used))) (unwritten 60 t out))
    (unwritten 50 t out))
    (unwritten 68 t out)

-- ---- a check, which may always be written
unfoldable pub write_check : Book → BookRows → Number → ℕ → ℕ → List ℕ → Writing
write_check b t n k amount out =
    cond (book_good b t)
    (cond (leb 512 (length out))
    (cond (is_number n && (is_kind k && is_amount amount)) (wrote t out (request_text (check_of n k amount))) (unwritten 60 t out))
    (unwritten 50 t out))
    (unwritten 68 t out)
