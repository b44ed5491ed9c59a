-- The entries of a queue: those of its front, and behind them those of its rear in reverse.
use Rattle.std.proofs.Common.{◌≡◌, ℕ, ◌+◌, sym, ap, ◌∙◌, true, List, [], ◌∷◌, ◌++◌, length, reverse}
use Rattle.std.proofs.lemmas.List.{append_assoc, reverse-append, length-append, length-reverse}
use Rattle.lazy_rec.specs.Meaning.{Entry, an_item}
use Rattle.heap_store.specs.Values.{items_in}
use Rattle.heap_store.proofs.EntryLaws.{are_items, are_items-append, are_items-reverse, items_in-append, items_in-length}

abbrev pub queued : List Entry → List Entry → List Entry
queued front rear = front ++ reverse rear

pub queued-items : (front rear : List Entry) → are_items front ≡ true → are_items rear ≡ true → are_items (queued front rear) ≡ true
queued-items front rear f g = are_items-append front (reverse rear) f (are_items-reverse rear g)

pub queued-length : (front rear : List Entry) → are_items front ≡ true → are_items rear ≡ true → length (items_in (queued front rear)) ≡ length front + length rear
queued-length front rear f g = items_in-length (queued front rear) (queued-items front rear f g) ∙ (length-append front (reverse rear) ∙ ap (λ n. length front + n) (length-reverse rear))

-- an entry put on the rear
pub queued-snoc : (front rear : List Entry) (v : ℕ) → items_in (queued front (an_item v ∷ rear)) ≡ items_in (queued front rear) ++ v ∷ []
queued-snoc front rear v =
    ap (λ t. items_in (front ++ t)) (reverse-append (an_item v ∷ []) rear)
    ∙ ap items_in (sym (append_assoc front (reverse rear) (an_item v ∷ [])))
    ∙ items_in-append (front ++ reverse rear) (an_item v ∷ [])
