-- Reads of tables.
use Rattle.std.proofs.Common.{◌≡◌, ◌≢◌, ℕ, zero, suc, ◌+◌, ◌*◌, ◌/◌, ◌%◌, ◌^◌, ◌<◌, refl, sym, ap, arith, true, Option, Some, None, [], ◌∷◌}
use Rattle.std.specs.Prelude.{is_some, option_map, slice_index_or}
use Rattle.lazy_rec.specs.declared.places.Ref.{Ref}
use Rattle.lazy_rec.specs.declared.events.Kind.{Kind}
use Rattle.lazy_rec.specs.declared.events.Reply.{Reply}
use Rattle.lazy_rec.specs.declared.events.Reply.TheVariants as replies
use Rattle.lazy_rec.specs.Numbering.{kind_of_number}
use Rattle.heap_store.specs.Rows.{reply_of_words, version_of_word, version_with}
use Rattle.version_book.specs.Words.{IsVersionWord}

map_some : {X Y : Type 0} (f : X → Y) (o : Option X) → is_some (option_map f o) ≡ true → is_some o ≡ true
map_some f None h = h
map_some f (Some x) h = refl

other_reply : (x : Reply) (m : ℕ) → m ≢ 1 → m ≢ 2 → m ≢ 3 → slice_index_or (replies.Ok ∷ replies.Empty ∷ replies.TooLong ∷ x ∷ []) m replies.Ok ≡ replies.Ok
other_reply x zero a b c = refl
other_reply x (suc zero) a b c = absurd (a (omega arith))
other_reply x (suc (suc zero)) a b c = absurd (b (omega arith))
other_reply x (suc (suc (suc zero))) a b c = absurd (c (omega arith))
other_reply x (suc (suc (suc (suc m)))) a b c = refl

pub reply_ok : (w number : ℕ) → w ≢ 1 → w ≢ 2 → w ≢ 3 → replies.Ok ≡ reply_of_words w number
reply_ok w number a b c = sym (other_reply (replies.Number number) w a b c)

pub version_kind : (name w : ℕ) → is_some (version_of_word name w) ≡ true → is_some (kind_of_number (w / 2 ^ 22 % 2 ^ 10)) ≡ true
version_kind name w h = map_some (version_with name w) _ h

pub version_word_is : (w k : ℕ) (root : Ref) (kind : Kind) (size : ℕ) → root.0 < 4194304 → size < 2147483648 → k < 8 → kind_of_number k ≡ Some kind → w ≡ root.0 + k * 4194304 + size * 4294967296 → IsVersionWord w root kind size
version_word_is w k root kind size a b c kind_is e =
    let r : w % 2 ^ 22 ≡ root.0 = omega arith in
    let m : w / 2 ^ 22 % 2 ^ 10 ≡ k = omega arith in
    let s : w / 2 ^ 32 ≡ size = omega arith in
    record {
      version_is = λ name. rw (m, kind_is, r, s) refl;
      fits = rw (m, kind_is, s) (grind arith);
    }

pub version_at_word : (name w : ℕ) (kind : Kind) → kind_of_number (w / 2 ^ 22 % 2 ^ 10) ≡ Some kind → version_of_word name w ≡ Some (record { name = name; kind = kind; size = w / 4294967296; root = record { 0 = w % 4194304 } })
version_at_word name w kind h = ap (option_map (version_with name w)) h
