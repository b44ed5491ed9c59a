-- Rows of events, and the eight words that show one.
use Rattle.std.specs.Prelude.{ℕ, zero, suc, ◌+◌, ◌-◌, ◌/◌, ◌%◌, ◌^◌, eqb, leb, ltb, ◌&&◌, Bool, true, false, cond, Option, Some, None, List, [], ◌∷◌, slice_index, slice_index_or, slice_set, option_map, option_and_then}
use Rattle.lazy_rec.specs.declared.events.Kind.{Kind}
use Rattle.lazy_rec.specs.declared.events.Op.{Op}
use Rattle.lazy_rec.specs.declared.events.Event.{Event}
use Rattle.lazy_rec.specs.declared.events.Reply.{Reply}
use Rattle.lazy_rec.specs.declared.events.Reply.TheVariants as replies
use Rattle.lazy_rec.specs.Tests.{is_some_and}
use Rattle.lazy_rec.specs.Numbering.{kind_of_number, op_of_number}
use Rattle.lazy_rec.specs.History.{second_mark, is_second, event_name}
use Rattle.heap_store.specs.declared.versions.Version.{Version}
use Rattle.heap_store.specs.World.{World}

-- ---- rows

-- how a row ended: with a reply and a version, a split with a second version too; or given up, with no version
pub data Ending : Type 0 where
  not_ended : Ending
  answered : Reply → Version → Option Version → Ending
  full : ℕ → ℕ → Ending
  memory : Ending
  no_base : Ending

-- the row of an event whose word 0 is stored
pub record Row : Type 0 where
  pub caller : ℕ
  pub event : Event
  pub begun : Bool
  pub ending : Ending

-- the first version of a row
abbrev pub first_of : Ending → Option Version
first_of (answered _ v _) = Some v
first_of _ = None

-- the second one
abbrev pub second_of : Ending → Option Version
second_of (answered _ _ w) = w
second_of _ = None

-- the one that a version's number tells
abbrev pub version_of : ℕ → Ending → Option Version
version_of n e = cond (is_second n) (second_of e) (first_of e)

abbrev pub reply_of : Ending → Option Reply
reply_of (answered told _ _) = Some told
reply_of _ = None

abbrev pub is_ended : Ending → Bool
is_ended not_ended = false
is_ended _ = true

-- ended full, memory or nobase
abbrev pub is_refused : Ending → Bool
is_refused (full _ _) = true
is_refused memory = true
is_refused no_base = true
is_refused _ = false

abbrev pub is_full : Ending → Bool
is_full (full _ _) = true
is_full _ = false

abbrev pub is_memory : Ending → Bool
is_memory memory = true
is_memory _ = false

abbrev pub is_without_base : Ending → Bool
is_without_base no_base = true
is_without_base _ = false

-- ---- words

abbrev pub word : List ℕ → ℕ → ℕ
word words i = slice_index words i

-- word 1 has the base and the other, word 2 the argument
abbrev pub event_with : List ℕ → Op → Event
event_with words op = record { op = op; base = word words 1 % 2 ^ 32; other = word words 1 / 2 ^ 32; arg = word words 2 }

-- word 3 has the root's place, the kind's number and the size
abbrev pub version_with : ℕ → ℕ → Kind → Version
version_with name w kind = record { name = name; kind = kind; size = w / 2 ^ 32; root = record { 0 = w % 2 ^ 22 } }

abbrev pub version_of_word : ℕ → ℕ → Option Version
version_of_word name w = option_map (version_with name w) (kind_of_number (w / 2 ^ 22 % 2 ^ 10))

-- word 6 has the second root's place and the second size; it is 0 where there is no second version. Its kind is the first one's
abbrev pub is_second_word : ℕ → Bool
is_second_word w = ltb (w % 2 ^ 32) (2 ^ 22) && ltb (w / 2 ^ 32) (2 ^ 31)

abbrev pub second_of_word : ℕ → ℕ → Version → Option Version
second_of_word name w first = cond (eqb w 0) None (Some (record { name = name + second_mark; kind = first.kind; size = w / 2 ^ 32; root = record { 0 = w % 2 ^ 32 } }))

-- word 4 has the reply: 0 ok, 1 empty, 2 toolong, or 3 a number, which stands in word 7. No other word is a reply's
abbrev pub is_reply_word : ℕ → Bool
is_reply_word w = ltb w 4

abbrev pub reply_of_words : ℕ → ℕ → Reply
reply_of_words w number = slice_index_or (replies.Ok ∷ replies.Empty ∷ replies.TooLong ∷ replies.Number number ∷ []) w replies.Ok

-- a row with a reply has the words of a reply and of versions
abbrev pub answered_if : Bool → Reply → (Version → Option Version) → Option Version → Ending
answered_if are_words told second None = not_ended
answered_if are_words told second (Some v) = cond are_words (answered told v (second v)) not_ended

abbrev pub answer_of : ℕ → List ℕ → Ending
answer_of name words = answered_if (is_reply_word (word words 4) && is_second_word (word words 6))
    (reply_of_words (word words 4) (word words 7)) (second_of_word name (word words 6)) (version_of_word name (word words 3))

-- word 5 tells how the row ended, or 0; for a full row word 4 has the drawn and the wanted number
abbrev pub ending_of : ℕ → List ℕ → Ending
ending_of name words = slice_index_or
    (not_ended ∷ answer_of name words ∷ full (word words 4 % 2 ^ 32) (word words 4 / 2 ^ 32) ∷ memory ∷ no_base ∷ []) (word words 5) not_ended

-- word 0 is 1 and twice the caller's number of a begun event, twice the number after the caller's of a skipped one; from
-- bit 8 on stands the operation's number
abbrev pub is_begun_word : ℕ → Bool
is_begun_word w = eqb (w % 2) 1

abbrev pub caller_of_word : ℕ → ℕ
caller_of_word w = cond (is_begun_word w) (w % 256 / 2) (w % 256 / 2 - 1)

-- the operation of word 0, none where it shows no caller's number below 64
abbrev pub op_of_word : ℕ → Option Op
op_of_word w = cond (leb 1 (w % 256) && leb (w % 256) 128) (op_of_number (w / 256)) None

abbrev pub row_with : ℕ → List ℕ → Op → Row
row_with name words op = record {
  caller = caller_of_word (word words 0);
  event = event_with words op;
  begun = is_begun_word (word words 0);
  ending = ending_of name words;
}

-- the row of a name that the words show, none before word 0 is stored
abbrev pub row_of : ℕ → List ℕ → Option Row
row_of name words = option_map (row_with name words) (op_of_word (word words 0))

-- ---- the rows of a world

-- eight words, or none where the name is 0 or past the rows
abbrev pub words_at : World → ℕ → List ℕ
words_at w zero = []
words_at w (suc i) = slice_index_or w.rows i []

abbrev pub row_at : World → ℕ → Option Row
row_at w name = row_of name (words_at w name)

abbrev pub word_at : World → ℕ → ℕ → ℕ
word_at w name i = word (words_at w name) i

-- a world in which a word of a row is stored
abbrev pub store_word : World → ℕ → ℕ → ℕ → World
store_word w zero i value = w
store_word w (suc k) i value = record w { rows = slice_set w.rows k (slice_set (slice_index_or w.rows k []) i value) }

-- the row of each name, none where word 0 isn't stored
abbrev pub NamedRows : Type 0
NamedRows = ℕ → Option Row

-- the version with a number
abbrev pub version_at : NamedRows → ℕ → Option Version
version_at rows n = option_and_then (λ (r : Row). version_of n r.ending) (rows (event_name n))

-- there is a version with the number: its row is answered, and is one of a split where the version is a second one
abbrev pub is_answered : NamedRows → ℕ → Bool
is_answered rows n = is_some_and (λ _. true) (version_at rows n)

-- the row of the version's name is given up
abbrev pub is_given_up : NamedRows → ℕ → Bool
is_given_up rows n = is_some_and (λ (r : Row). is_refused r.ending) (rows (event_name n))

-- the row of a name is ended
abbrev pub is_ended_at : NamedRows → ℕ → Bool
is_ended_at rows i = is_some_and (λ (r : Row). is_ended r.ending) (rows i)

-- the event of each name whose word 0 is stored
abbrev pub events_of : NamedRows → ℕ → Option Event
events_of rows i = option_map (λ (r : Row). r.event) (rows i)
