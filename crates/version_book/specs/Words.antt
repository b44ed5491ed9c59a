-- What the words of a row are to show.
use Rattle.std.specs.Prelude.{◌≡◌, ℕ, ◌/◌, ◌%◌, ◌^◌, Bool, true, Some}
use Rattle.lazy_rec.specs.declared.places.Ref.{Ref}
use Rattle.lazy_rec.specs.declared.events.Kind.{Kind}
use Rattle.lazy_rec.specs.declared.events.Op.{Op}
use Rattle.lazy_rec.specs.declared.events.Reply.{Reply}
use Rattle.lazy_rec.specs.declared.events.Reply.TheVariants.{Number}
use Rattle.heap_store.specs.Rows.{is_reply_word, reply_of_words, op_of_word, is_begun_word, caller_of_word, version_of_word}
use Rattle.heap_store.specs.RowCalls.{is_word_value}

-- word 0 of a row with this caller and this operation, begun or skipped
pub record IsFirstWord (w caller : ℕ) (op : Op) (begun : Bool) : Type 0 where
  pub op_is : op_of_word w ≡ Some op
  pub begun_is : is_begun_word w ≡ begun
  pub caller_is : caller_of_word w ≡ caller
  pub fits : is_word_value 0 w ≡ true

-- word 1 of a row with this base and this other
pub record IsBasesWord (w base other : ℕ) : Type 0 where
  pub base_is : w % 2 ^ 32 ≡ base
  pub other_is : w / 2 ^ 32 ≡ other
  pub fits : is_word_value 1 w ≡ true

-- word 3 of a row whose version has this root, kind and size
pub record IsVersionWord (w : ℕ) (root : Ref) (kind : Kind) (size : ℕ) : Type 0 where
  pub version_is : (name : ℕ) → version_of_word name w ≡ Some (record { name = name; kind = kind; size = size; root = root })
  pub fits : is_word_value 3 w ≡ true

-- word 7 after a reply is stored: its number where it is one, else what stood there
abbrev pub number_after : Reply → ℕ → ℕ
number_after (Number n) before = n
number_after _ before = before

-- words 4 and 7 of a row that ended with this reply
pub record AreReplyWords (w number : ℕ) (reply : Reply) : Type 0 where
  pub is : is_reply_word w ≡ true
  pub reply_is : reply_of_words w number ≡ reply
