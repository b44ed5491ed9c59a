-- One step of a run: the lists so far, and the next event of a script.
use Rattle.std.proofs.Common.{◌≡◌, ℕ, zero, suc, ◌+◌, ◌≤◌, ◌<◌, List, [], ◌∷◌, ◌++◌, length, map, take, get_or, refl, ap, sym, ◌∙◌, arith, Some, ⊎_elim}
use Rattle.std.specs.Prelude.{slice_get}
use Rattle.std.proofs.lemmas.Bool.{cases_lt}
use Rattle.std.proofs.lemmas.List.{take_more, map-append}
use Rattle.std.proofs.lemmas.Option.{slice_get-get_or}
use Rattle.lazy_rec.specs.Plain.{effect, second_list}
use Rattle.lazy_rec.specs.History.{event_of, event_name, lists, plain, reply_to, IsScript}
use Rattle.lazy_rec.specs.declared.events.Event.{Event}
use Rattle.lazy_rec.specs.declared.events.Reply.{Reply}
use Rattle.lazy_rec.proofs.HistoryLaws.{StandsAt, stands, base-low, other-low, picked_same, lists_is, lists_none}
use Rattle.plain_model.specs.declared.runs.ListPair.{ListPair}
use Rattle.plain_model.specs.Versions.{lists_at, list_at}

lists_at-before : (versions : List ListPair) (v : ListPair) (k : ℕ) → k < length versions → lists_at (versions ++ v ∷ []) k ≡ lists_at versions k
lists_at-before [] v k h = absurd (omega arith)
lists_at-before (x ∷ xs) v zero h = refl
lists_at-before (x ∷ xs) v (suc k) h = lists_at-before xs v k (omega arith)

lists_at-end : (versions : List ListPair) (v : ListPair) → lists_at (versions ++ v ∷ []) (length versions) ≡ (v.first.items, v.second.items)
lists_at-end [] v = refl
lists_at-end (x ∷ xs) v = lists_at-end xs v

-- the lists of the versions so far
abbrev pub AreLists : List Event → List ListPair → ℕ → Type 0
AreLists events versions i = (k : ℕ) → k ≤ i → lists_at versions k ≡ lists (event_of events) k

pub lists-same : (events : List Event) (versions same : List ListPair) (i : ℕ) → same ≡ versions → AreLists events versions i → AreLists events same i
lists-same events versions same i e a k h = ap (λ (l : List ListPair). lists_at l k) e ∙ a k h

-- the name 0 stands for no event
pub lists-start : (events : List Event) (none versions : List ListPair) (v : ListPair) → none ≡ [] → versions ≡ none ++ v ∷ [] → v.first.items ≡ [] → v.second.items ≡ [] → AreLists events versions 0
lists-start events none versions v e q first second k h =
    let start : k ≡ 0 = omega arith in
    let nothing = lists_none (event_of events) 0 refl in
    rw (q, e, start, first, second) (sym nothing)

-- the second list, read off the versions once more
pub second-made : (events : List Event) (i : ℕ) (d : Event) (read again : List ListPair) (base second : List ℕ) → again ≡ read → base ≡ list_at again (get_or events i d).base
    → second ≡ second_list (get_or events i d).op base (get_or events i d).arg → second ≡ second_list (get_or events i d).op (list_at read (get_or events i d).base) (get_or events i d).arg
second-made events i d read again base second same of_base made =
    let e = get_or events i d in
    made ∙ ap (λ (v : List ℕ). second_list e.op v e.arg) (of_base ∙ ap (λ (l : List ListPair). list_at l e.base) same)

module _ (events : List Event) (script : IsScript events) (i : ℕ) (e : Event) (is : slice_get events i ≡ Some e) where
  standing : StandsAt (event_of events) (suc i) e
  standing = stands (event_of events) (suc i) e (script.each (suc i) e is)

  pub base-in : (n : ℕ) → n ≡ suc i → event_name e.base < n
  base-in n m = let low = base-low (suc i) e (omega arith) standing.trim standing.smaller in omega arith

  pub other-in : (n : ℕ) → n ≡ suc i → event_name e.other < n
  other-in n m = let low = other-low (suc i) e (omega arith) standing.trim standing.smaller in omega arith

  module _ (versions : List ListPair) (so_far : AreLists events versions i) where
    list-same : (v : ℕ) → event_name v < suc i → list_at versions v ≡ plain (event_of events) v
    unfolding plain
    list-same v h = picked_same (lists_at versions) (lists (event_of events)) v (so_far (event_name v) (omega arith))

    outcome-is : effect e.op (list_at versions e.base) (list_at versions e.other) e.arg ≡ effect e.op (plain (event_of events) e.base) (plain (event_of events) e.other) e.arg
    outcome-is =
        ap (λ (v : List ℕ). effect e.op v (list_at versions e.other) e.arg) (list-same e.base (base-in (suc i) refl))
        ∙ ap (λ (w : List ℕ). effect e.op (plain (event_of events) e.base) w e.arg) (list-same e.other (other-in (suc i) refl))

    -- what the event makes
    pair-is : (v : ListPair) → v.first.items ≡ (effect e.op (list_at versions e.base) (list_at versions e.other) e.arg).0 → v.second.items ≡ second_list e.op (list_at versions e.base) e.arg → (v.first.items, v.second.items) ≡ lists (event_of events) (suc i)
    pair-is v first second =
        let made = lists_is (event_of events) (suc i) e is standing.smaller in
        let one = first ∙ ap (λ (r : List ℕ × Reply). r.0) outcome-is in
        let two = second ∙ ap (λ (w : List ℕ). second_list e.op w e.arg) (list-same e.base (base-in (suc i) refl)) in
        rw (one, two) (sym made)

    pub lists-more : (next : List ListPair) (v : ListPair) → length versions ≡ suc i → next ≡ versions ++ v ∷ []
        → v.first.items ≡ (effect e.op (list_at versions e.base) (list_at versions e.other) e.arg).0 → v.second.items ≡ second_list e.op (list_at versions e.base) e.arg → AreLists events next (i + 1)
    lists-more next v n q first second k le =
        rw q
        (⊎_elim
        (λ (l : k < suc i). lists_at-before versions v k (omega arith) ∙ so_far k (omega arith))
        (λ (l : suc i ≤ k). let last : k ≡ length versions = omega arith in
        let top : k ≡ suc i = omega arith in
        ap (lists_at (versions ++ v ∷ [])) last ∙ lists_at-end versions v ∙ pair-is v first second ∙ ap (lists (event_of events)) (sym top))
        (cases_lt k (suc i)))

    reply-is : (r : Reply) → r ≡ (effect e.op (list_at versions e.base) (list_at versions e.other) e.arg).1 → r ≡ reply_to (event_of events) e
    reply-is r m = m ∙ ap (λ (p : List ℕ × Reply). p.1) outcome-is

pub told-more : (events : List Event) (script : IsScript events) (i : ℕ) (d : Event) (h : i < length events) (versions : List ListPair) → AreLists events versions i → (told next : List Reply) (r : Reply)
    → told ≡ map (reply_to (event_of events)) (take i events) → next ≡ told ++ r ∷ []
    → r ≡ (effect (get_or events i d).op (list_at versions (get_or events i d).base) (list_at versions (get_or events i d).other) (get_or events i d).arg).1
    → next ≡ map (reply_to (event_of events)) (take (i + 1) events)
told-more events script i d h versions so_far told next r t q m =
    let e = get_or events i d in
    let here : r ≡ reply_to (event_of events) e = reply-is events script i e (slice_get-get_or events i d h) versions so_far r m in
    let f = reply_to (event_of events) in
    let more : map f (take (i + 1) events) ≡ map f (take i events) ++ f e ∷ [] = ap (map f) (take_more events i d h) ∙ map-append f (take i events) (e ∷ []) in
    cc
