-- One pass over a script keeps the size bounds of each name.
use Rattle.std.proofs.Common.{◌≡◌, ℕ, zero, suc, ◌+◌, ◌≤◌, ◌<◌, refl, sym, ap, ◌∙◌, subst, arith, cond, ⊎_elim, Some, None, List, [], ◌∷◌, ◌++◌, length, length-append}
use Rattle.std.specs.Prelude.{slice_get}
use Rattle.std.proofs.lemmas.Bool.{cases_lt}
use Rattle.lazy_rec.specs.declared.events.Kind.{Kind}
use Rattle.lazy_rec.specs.declared.events.Event.{Event}
use Rattle.lazy_rec.specs.ByPlace.{below, by_place}
use Rattle.lazy_rec.specs.History.{Events, event_of, event_name, is_second, IsScript}
use Rattle.lazy_rec.proofs.ByPlaceLaws.{below_low}
use Rattle.lazy_rec.proofs.HistoryLaws.{stands, base-low, other-low, slice_get-append, slice_get-last}
use Rattle.dues.specs.declared.rooms.SizeBounds.{SizeBounds}
use Rattle.dues.specs.Sizes.{picked_bound, bounds_made, bounds, bound_of}
use Rattle.dues.specs.Rooms.{places, both_bounds}
use Rattle.dues.specs.Versions.{no_bounds, bounds_if, bounds_at, bound_at, next_bounds, next_places, AreKept}

-- the versions that an event uses are of names so far
record IsReadable (i : ℕ) (e : Event) : Type 0 where
  base : event_name e.base < i
  other : event_name e.other < i

readable : (events : List Event) → IsScript events → (i : ℕ) (e : Event) → 0 < i → event_of events i ≡ Some e → IsReadable i e
readable events script i e pos is =
    let at = stands (event_of events) i e (script.each i e is) in
    record { base = base-low i e pos at.trim at.smaller; other = other-low i e pos at.trim at.smaller }

-- a version has the bound of its name's pair
picked_bound_same : (f g : ℕ → ℕ × ℕ) (v : ℕ) → f (event_name v) ≡ g (event_name v) → picked_bound f v ≡ picked_bound g v
picked_bound_same f g v h = ap (λ (pair : ℕ × ℕ). cond (is_second v) pair.1 pair.0) h

-- an event's bounds are made from those of its bases alone
bounds_made_same : (e : Event) (f g : ℕ → ℕ) → f e.base ≡ g e.base → f e.other ≡ g e.other → bounds_made f (Some e) ≡ bounds_made g (Some e)
bounds_made_same e f g h k = rw (h, k) refl

module _ (events : Events) where
  bounds_unfold : (i : ℕ) (e : Event) → events i ≡ Some e → event_name e.base < i → event_name e.other < i → bounds_made (bound_of events) (Some e) ≡ bounds events i
  unfolding bound_of bounds by_place
  bounds_unfold i e is base other =
      let step : (ℕ → ℕ × ℕ) → ℕ → ℕ × ℕ = λ lower j. bounds_made (picked_bound lower) (events j) in
      let lower : ℕ → ℕ × ℕ = below (0, 0) step i in
      let all : ℕ → ℕ × ℕ = by_place (0, 0) step in
      bounds_made_same e (picked_bound all) (picked_bound lower)
      (sym (picked_bound_same lower all e.base (below_low (0, 0) step i (event_name e.base) base)))
      (sym (picked_bound_same lower all e.other (below_low (0, 0) step i (event_name e.other) other)))
      ∙ ap (bounds_made (picked_bound lower)) (sym is)

  none_kept : events 0 ≡ None → AreKept events (no_bounds ∷ [])
  unfolding bounds by_place
  none_kept none zero h = ap (bounds_made (picked_bound (λ _. (0, 0)))) (sym none)
  none_kept none (suc i) h = absurd (omega arith)

  module _ (kept : List SizeBounds) (right : AreKept events kept) (e : Event) (base : event_name e.base < length kept) (other : event_name e.other < length kept) where
    bound_kept : (v : ℕ) → event_name v < length kept → bound_at kept v ≡ bound_of events v
    unfolding bound_of
    bound_kept v h = picked_bound_same (bounds_at kept) (bounds events) v (right (event_name v) h)

    bounds_next : events (length kept) ≡ Some e → next_bounds kept e ≡ bounds events (length kept)
    bounds_next is =
        bounds_made_same e (bound_at kept) (bound_of events) (bound_kept e.base base) (bound_kept e.other other)
        ∙ bounds_unfold (length kept) e is base other

    places_next : (k : Kind) → next_places kept k e ≡ places k e.op (bound_of events e.base) (bound_of events e.other)
    places_next k =
        ap (λ n. places k e.op n (bound_at kept e.other)) (bound_kept e.base base)
        ∙ ap (λ m. places k e.op (bound_of events e.base) m) (bound_kept e.other other)

    -- the pass goes on
    more_kept : (b : SizeBounds) → events (length kept) ≡ Some e → (b.first, b.second) ≡ next_bounds kept e → AreKept events (kept ++ b ∷ [])
    more_kept b is of_bounds name h = ⊎_elim
        (λ before. ap bounds_if (slice_get-append kept (b ∷ []) name before) ∙ right name before)
        (λ past. subst (λ n. bounds_at (kept ++ b ∷ []) n ≡ bounds events n) (last past) (ap bounds_if (slice_get-last kept b []) ∙ of_bounds ∙ bounds_next is))
        (cases_lt name (length kept))
      where
        last : length kept ≤ name → length kept ≡ name
        last past = omega (arith, length-append kept (b ∷ []))

-- a pass has taken so many events, keeps what it should, and has added up so much
pub record IsPassed (events : List Event) (sum : ℕ → ℕ) (kept : List SizeBounds) (taken total : ℕ) : Type 0 where
  pub right : AreKept (event_of events) kept
  pub as_many : length kept ≡ suc taken
  pub added : total ≡ sum taken

pub passed_none : (events : List Event) (sum : ℕ → ℕ) (kept : List SizeBounds) → kept ≡ no_bounds ∷ [] → sum 0 ≡ 0 → IsPassed events sum kept 0 0
passed_none events sum kept none zero_sum = subst (λ bs. IsPassed events sum bs 0 0) (sym none) (record { right = none_kept (event_of events) refl; as_many = refl; added = sym zero_sum })

module _ (events : List Event) (script : IsScript events) (sum : ℕ → ℕ) (kept seen : List SizeBounds) (taken total : ℕ) (e : Event)
    (passed : IsPassed events sum kept taken total) (same : seen ≡ kept) (is : slice_get events taken ≡ Some e) where
  so_far : IsPassed events sum seen taken total
  so_far = subst (λ bs. IsPassed events sum bs taken total) (sym same) passed

  named : event_of events (length seen) ≡ Some e
  named = ap (event_of events) so_far.as_many ∙ is

  may_read : IsReadable (length seen) e
  may_read = readable events script (length seen) e (omega (arith, so_far.as_many)) named

  pub base_kept : event_name e.base < length seen
  base_kept = may_read.base

  pub other_kept : event_name e.other < length seen
  other_kept = may_read.other

  pub places_kept : (k : Kind) → next_places seen k e ≡ places k e.op (bound_of (event_of events) e.base) (bound_of (event_of events) e.other)
  places_kept k = places_next (event_of events) seen so_far.right e may_read.base may_read.other k

  -- the total with the next event's size bounds, where these are summed
  pub bounds_added : (first second : ℕ) → (first, second) ≡ next_bounds seen e → sum taken + both_bounds (event_of events) (suc taken) ≡ sum (suc taken) → total + (first + second) ≡ sum (suc taken)
  bounds_added first second of_bounds whole =
      let made : first + second ≡ both_bounds (event_of events) (suc taken) = ap (λ (pair : ℕ × ℕ). pair.0 + pair.1)
      (of_bounds ∙ bounds_next (event_of events) seen so_far.right e may_read.base may_read.other named ∙ ap (bounds (event_of events)) so_far.as_many) in
      ap (λ t. t + (first + second)) passed.added ∙ ap (λ n. sum taken + n) made ∙ whole

  pub passed_more : (after : List SizeBounds) (b : SizeBounds) (now : ℕ) → (b.first, b.second) ≡ next_bounds seen e → after ≡ kept ++ b ∷ [] → now ≡ sum (suc taken) → IsPassed events sum after (taken + 1) now
  passed_more after b now of_bounds grown added = record {
    right = subst (AreKept (event_of events)) (sym (grown ∙ ap (λ bs. bs ++ b ∷ []) (sym same)))
        (more_kept (event_of events) seen so_far.right e may_read.base may_read.other b named of_bounds);
    as_many = omega (arith, ap length grown, length-append kept (b ∷ []), passed.as_many);
    added = added ∙ ap sum (omega arith);
  }
