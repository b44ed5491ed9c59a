-- The events that were gone through, of which each stands where it stands, and their kinds.
use Rattle.std.proofs.Common.{◌≡◌, ℕ, zero, suc, ◌+◌, ◌<◌, ◌≤◌, true, Some, None, List, [], ◌∷◌, ◌++◌, length, refl, sym, subst, ◌∙◌, arith, inl, inr, length-append}
use Rattle.std.specs.Prelude.{slice_get, IsSome}
use Rattle.std.proofs.lemmas.Bool.{true≢false, cases_lt}
use Rattle.std.proofs.lemmas.Option.{slice_get_within}
use Rattle.lazy_rec.specs.declared.events.Kind.{Kind}
use Rattle.lazy_rec.specs.declared.events.Event.{Event}
use Rattle.lazy_rec.specs.declared.limits.TheConstants.{MOST_EVENTS}
use Rattle.lazy_rec.specs.History.{IsScript, event_of, kind_of, kind_made, is_event_at}
use Rattle.lazy_rec.proofs.HistoryLaws.{stands, kind_is, event-has_kind, slice_get-append, slice_get-last}
use Rattle.plain_model.specs.Scripts.{AreKinds, kind_standing}
use Rattle.plain_model.proofs.Standing.{value_if, if_value}

pub record SoFar (events : List Event) (kinds : List Kind) (i : ℕ) : Type 0 where
  pub known : AreKinds events kinds
  pub count : length kinds ≡ i
  pub stand : (n : ℕ) (e : Event) → n ≤ i → event_of events n ≡ Some e → is_event_at (event_of events) n e ≡ true

pub so_far-start : (events : List Event) (kinds : List Kind) → kinds ≡ [] → SoFar events kinds 0
so_far-start events kinds none = rw none (record {
  known = record { few = omega arith; each = λ i l. absurd (omega arith) };
  count = refl;
  stand = λ n e l is. absurd (no_event n e l is);
})
  where
    no_event : (n : ℕ) (e : Event) → n ≤ 0 → event_of events n ≡ Some e → ⊥
    no_event zero e l is = cc
    no_event (suc n) e l is = omega arith

-- all events stand where they stand
pub whole : (events : List Event) (kinds : List Kind) (i : ℕ) → SoFar events kinds i → length events ≤ i → length events ≤ MOST_EVENTS → IsScript events
whole events kinds i s all few = record { few = few; each = λ n e is. s.stand n e (low n e is) is }
  where
    low : (n : ℕ) (e : Event) → event_of events n ≡ Some e → n ≤ i
    low zero e is = omega arith
    low (suc n) e is = let within = slice_get_within events n e is in omega arith

module _ (events : List Event) (kinds : List Kind) (i : ℕ) (e : Event) (here : slice_get events i ≡ Some e) (count : length kinds ≡ i) where
  -- the next event doesn't stand there
  pub refused : None ≡ kind_standing (event_of events) (suc (length kinds)) e → IsScript events → ⊥
  refused none script =
      let at : event_of events (suc (length kinds)) ≡ Some e = rw count here in
      let fits = script.each (suc (length kinds)) e at in
      let its = event-has_kind (event_of events) e (stands (event_of events) (suc (length kinds)) e fits).kinds in
      let same = none ∙ sym (value_if _ (kind_made (kind_of (event_of events)) (Some e)) fits) in
      true≢false (sym (subst IsSome (sym same) its))

  -- the next event stands there, and has this kind
  module _ (kind : Kind) (stands_with : Some kind ≡ kind_standing (event_of events) (suc (length kinds)) e) where
    fits : (is_event_at (event_of events) (suc i) e ≡ true) × (kind_made (kind_of (event_of events)) (Some e) ≡ Some kind)
    fits = if_value _ (kind_made (kind_of (event_of events)) (Some e)) kind (sym (subst (λ n. Some kind ≡ kind_standing (event_of events) (suc n) e) count stands_with))

    kind-next : Some kind ≡ kind_of (event_of events) (suc i)
    kind-next = sym (kind_is (event_of events) (suc i) e here (stands (event_of events) (suc i) e fits.0).smaller ∙ fits.1)

    kinds-more : AreKinds events kinds → i < length events → AreKinds events (kinds ++ kind ∷ [])
    kinds-more h room = record {
      few = omega (arith, length-append kinds (kind ∷ []));
      each = λ n l. elim (cases_lt n i) [
        | inl old ↦ slice_get-append kinds (kind ∷ []) n (omega arith) ∙ h.each n (omega arith)
        | inr new ↦ let same : n ≡ i = omega (arith, length-append kinds (kind ∷ [])) in last n same
      ];
    }
      where
        last : (n : ℕ) → n ≡ i → slice_get (kinds ++ kind ∷ []) n ≡ kind_of (event_of events) (suc n)
        last n same =
            subst (λ m. slice_get (kinds ++ kind ∷ []) m ≡ kind_of (event_of events) (suc m)) (sym same)
            (subst (λ m. slice_get (kinds ++ kind ∷ []) m ≡ kind_of (event_of events) (suc i)) count (slice_get-last kinds kind [] ∙ kind-next))

    stand-more : ((n : ℕ) (d : Event) → n ≤ i → event_of events n ≡ Some d → is_event_at (event_of events) n d ≡ true) → (n : ℕ) (d : Event) → n ≤ i + 1 → event_of events n ≡ Some d → is_event_at (event_of events) n d ≡ true
    stand-more h n d l is = elim (cases_lt n (suc i)) [
      | inl old ↦ h n d (omega arith) is
      | inr new ↦ let same : n ≡ suc i = omega arith in last n same is
    ]
      where
        last : (m : ℕ) → m ≡ suc i → event_of events m ≡ Some d → is_event_at (event_of events) m d ≡ true
        last m same is =
            let at : event_of events (suc i) ≡ Some d = subst (λ k. event_of events k ≡ Some d) same is in
            let one : e ≡ d = cc in
            subst (λ k. is_event_at (event_of events) k d ≡ true) (sym same) (subst (λ x. is_event_at (event_of events) (suc i) x ≡ true) one fits.0)

    pub so_far-more : (next : List Kind) → i < length events → SoFar events kinds i → next ≡ kinds ++ kind ∷ [] → SoFar events next (i + 1)
    so_far-more next room s grown = rw grown (record {
      known = kinds-more s.known room;
      count = omega (arith, length-append kinds (kind ∷ []));
      stand = stand-more s.stand;
    })
