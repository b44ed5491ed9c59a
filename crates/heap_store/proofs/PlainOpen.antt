-- A store in which nothing is drawn.
use Rattle.std.proofs.Common.{◌≡◌, ℕ, zero, suc, ◌+◌, ◌-◌, ◌≤◌, true, false, [], length, Some, None, refl, sym, ap, ◌∙◌, arith, subst, ◌⊎◌, inl, inr, ⊎_elim}
use Rattle.std.specs.Prelude.{option_map, option_and_then, cond, leb, Option}
use Rattle.std.proofs.lemmas.Bool.{true≢false}
use Rattle.std.proofs.lemmas.List.{get_or_default}
use Rattle.lazy_rec.specs.declared.records.Rec.{Rec}
use Rattle.lazy_rec.specs.declared.records.Rec.TheVariants.{Nil, LNil, TNil, CatNil, TEmpty}
use Rattle.lazy_rec.specs.declared.states.SuspState.{SuspState}
use Rattle.lazy_rec.specs.declared.states.SuspState.TheVariants.{Unforced}
use Rattle.lazy_rec.specs.Named.{at_record, is_pending}
use Rattle.lazy_rec.specs.States.{kept}
use Rattle.heap_store.specs.declared.nodes.Node.{Node}
use Rattle.heap_store.specs.World.{World, recs, node_at, state_at, done_at, is_claimed_at, is_taken, fixed_places}
use Rattle.heap_store.specs.declared.versions.Version.{Version}
use Rattle.heap_store.specs.Rows.{Row, row_of, row_at, word_at, word, version_of, version_at}
use Rattle.heap_store.specs.Legal.{IsLegal}
use Rattle.heap_store.specs.Lawful.{HasLaws, IsLawful, has_origin, has_maker}
use Rattle.lazy_rec.specs.Tests.{implies}
use Rattle.lazy_rec.specs.History.{event_name}
use Rattle.lazy_rec.specs.Units.{paid}
use Rattle.heap_store.specs.Budget.{discharged, unit_count, sum_below, is_funded, is_settled, IsFunded, IsInBudget, alone_with}
use Rattle.heap_store.specs.Plain.{IsPlain, held_things, free_places, plain_world, fresh_node, five_records, no_words, is_claimed_node}
use Rattle.heap_store.proofs.ShowLaws.{one_value}
use Rattle.heap_store.proofs.PlainLists.{filled-beyond, get_or-replicate_cases}
use Rattle.heap_store.proofs.PlainWorlds.{rows_undrawn, zero_word}

module _ (capacity row_capacity : ℕ) where
  abbrev opened : World
  opened = plain_world capacity row_capacity five_records []

  pub none_beyond : (q : ℕ) → node_at (plain_world capacity row_capacity five_records []) (suc (suc (suc (suc (suc q))))) ≡ None
  none_beyond q = get_or-replicate_cases None (fixed_places + capacity - 5) q

  -- a place shows nothing, or a record that was never touched
  pub fresh_or_none : (p : ℕ) → (node_at (plain_world capacity row_capacity five_records []) p ≡ None) ⊎ ((r : Rec) × (node_at (plain_world capacity row_capacity five_records []) p ≡ fresh_node r))
  fresh_or_none zero = inr (Nil, refl)
  fresh_or_none (suc zero) = inr (LNil, refl)
  fresh_or_none (suc (suc zero)) = inr (TNil, refl)
  fresh_or_none (suc (suc (suc zero))) = inr (CatNil, refl)
  fresh_or_none (suc (suc (suc (suc zero)))) = inr (TEmpty, refl)
  fresh_or_none (suc (suc (suc (suc (suc q))))) = inl (none_beyond q)

  -- what holds of the five records holds of each
  pub each_five : (P : ℕ → Rec → Type 0) → P 0 Nil → P 1 LNil → P 2 TNil → P 3 CatNil → P 4 TEmpty → (p : ℕ) (r : Rec) → recs (plain_world capacity row_capacity five_records []) p ≡ Some r → P p r
  each_five P a b c d e zero r h = subst (P 0) (one_value Nil r h) a
  each_five P a b c d e (suc zero) r h = subst (P 1) (one_value LNil r h) b
  each_five P a b c d e (suc (suc zero)) r h = subst (P 2) (one_value TNil r h) c
  each_five P a b c d e (suc (suc (suc zero))) r h = subst (P 3) (one_value CatNil r h) d
  each_five P a b c d e (suc (suc (suc (suc zero)))) r h = subst (P 4) (one_value TEmpty r h) e
  each_five P a b c d e (suc (suc (suc (suc (suc q))))) r h = let z : None ≡ Some r = sym (ap (option_map (λ (n : Node). n.rec)) (none_beyond q)) ∙ h in cc

  values : (p : ℕ) (r : Rec) → recs (plain_world capacity row_capacity five_records []) p ≡ Some r → is_pending r ≡ false
  values = each_five (λ p r. is_pending r ≡ false) refl refl refl refl refl

  laws : (p : ℕ) (r : Rec) → recs (plain_world capacity row_capacity five_records []) p ≡ Some r → HasLaws (plain_world capacity row_capacity five_records []) p r
  laws = each_five (λ p r. HasLaws (plain_world capacity row_capacity five_records []) p r) (record { range = refl; names = refl; sizes = refl; unmixed = refl; bank_queue = refl; rt_queue = refl; heap = refl; cat = refl; finger = refl; heights = refl })
      (record { range = refl; names = refl; sizes = refl; unmixed = refl; bank_queue = refl; rt_queue = refl; heap = refl; cat = refl; finger = refl; heights = refl })
      (record { range = refl; names = refl; sizes = refl; unmixed = refl; bank_queue = refl; rt_queue = refl; heap = refl; cat = refl; finger = refl; heights = refl })
      (record { range = refl; names = refl; sizes = refl; unmixed = refl; bank_queue = refl; rt_queue = refl; heap = refl; cat = refl; finger = refl; heights = refl })
      (record { range = refl; names = refl; sizes = refl; unmixed = refl; bank_queue = refl; rt_queue = refl; heap = refl; cat = refl; finger = refl; heights = refl })

  not_done : (p : ℕ) → done_at (plain_world capacity row_capacity five_records []) p ≡ None
  not_done p = ⊎_elim (λ e. ap (option_and_then (λ (n : Node). kept n.state)) e) (λ e. ap (option_and_then (λ (n : Node). kept n.state)) e.1) (fresh_or_none p)

  untouched : (p : ℕ) (s : SuspState) → state_at (plain_world capacity row_capacity five_records []) p ≡ Some s → Unforced 0 ≡ s
  untouched p s e = ⊎_elim
      (λ f. (let z : None ≡ Some s = sym (ap (option_map (λ (n : Node). n.state)) f) ∙ e in cc))
      (λ f. one_value (Unforced 0) s (sym (ap (option_map (λ (n : Node). n.state)) f.1) ∙ e)) (fresh_or_none p)

  pub unclaimed : (p : ℕ) → is_claimed_at (plain_world capacity row_capacity five_records []) p ≡ false
  unclaimed p = ⊎_elim (λ e. ap is_claimed_node e) (λ e. ap is_claimed_node e.1) (fresh_or_none p)

  opened_lawful : IsLawful (plain_world capacity row_capacity five_records [])
  opened_lawful = record {
    fixed = refl;
    each = laws;
    origins = each_five (λ p r. has_origin p r ≡ true) refl refl refl refl refl;
    one = λ p r e pending. absurd (true≢false (sym pending ∙ values p r e));
    makers = each_five (λ p r. has_maker (plain_world capacity row_capacity five_records []) p r ≡ true) refl refl refl refl refl;
    done = λ p r e d f. (let z : None ≡ Some d = sym (not_done p) ∙ f in cc);
    states = λ p s e. rw (← untouched p s e) refl;
    still = λ p r e f s g. rw (← untouched p s g) refl;
  }

  pub no_rows : (i : ℕ) → row_at (plain_world capacity row_capacity five_records []) i ≡ None
  no_rows zero = refl
  no_rows (suc k) = ⊎_elim (λ e. ap (row_of (suc k)) e) (λ e. ap (row_of (suc k)) e) (rows_undrawn row_capacity k [] (omega arith))

  pub word_none : (i j : ℕ) → word_at (plain_world capacity row_capacity five_records []) i j ≡ 0
  word_none zero j = refl
  word_none (suc k) j = ⊎_elim (λ e. ap (λ ws. word ws j) e ∙ zero_word j) (λ e. ap (λ ws. word ws j) e) (rows_undrawn row_capacity k [] (omega arith))

  pub rowless : (i : ℕ) (r : Row) → row_at (plain_world capacity row_capacity five_records []) i ≡ Some r → ⊥
  rowless i r e = let z : None ≡ Some r = sym (no_rows i) ∙ e in cc

  versionless : (n : ℕ) (v : Version) → version_at (row_at (plain_world capacity row_capacity five_records [])) n ≡ Some v → ⊥
  versionless n v f = let z : None ≡ Some v = sym (ap (option_and_then (λ (r : Row). version_of n r.ending)) (no_rows (event_name n))) ∙ f in cc

  opened_legal : IsLegal (plain_world capacity row_capacity five_records [])
  opened_legal = record {
    ranges = λ i r e. absurd (rowless i r e);
    trim = λ i r e. absurd (rowless i r e);
    bases = λ i r e. absurd (rowless i r e);
    begun = λ i r e. absurd (rowless i r e);
    kinds = λ i r e. absurd (rowless i r e);
    seconds = λ i r e. absurd (rowless i r e);
    versions = λ n v f. absurd (versionless n v f);
    replies = λ i r e. absurd (rowless i r e);
    meanings = λ n v f. absurd (versionless n v f);
  }

  -- nothing is discharged, given, claimed or done
  opened_discharged : (n : ℕ) → discharged (recs (plain_world capacity row_capacity five_records [])) n ≡ []
  unfolding discharged
  opened_discharged zero = refl
  opened_discharged (suc n) = rw (by (recs (plain_world capacity row_capacity five_records []) n) refl, opened_discharged n) refl
    where
      by : (o : Option Rec) → recs (plain_world capacity row_capacity five_records []) n ≡ o → at_record [] (paid (recs (plain_world capacity row_capacity five_records [])) n) o ≡ []
      by None e = refl
      by (Some r) e = each_five (λ p r. paid (recs (plain_world capacity row_capacity five_records [])) p r ≡ []) refl refl refl refl refl n r e

  opened_given : (n : ℕ) → sum_below n (recs (plain_world capacity row_capacity five_records [])) (λ p r. cond (leb 5 p) 1 0) ≡ 0
  opened_given zero = refl
  opened_given (suc n) = omega (arith, by (recs (plain_world capacity row_capacity five_records []) n) refl, opened_given n)
    where
      by : (o : Option Rec) → recs (plain_world capacity row_capacity five_records []) n ≡ o → ◌≡◌ {A = ℕ} (at_record 0 (λ r. cond (leb 5 n) 1 0) o) 0
      by None e = refl
      by (Some r) e = each_five (λ p r. ◌≡◌ {A = ℕ} (cond (leb 5 p) 1 0) 0) refl refl refl refl refl n r e

  opened_funded : IsFunded (plain_world capacity row_capacity five_records [])
  opened_funded = record {
    taken = each_five (λ p r. implies (is_pending r) (implies (is_taken (plain_world capacity row_capacity five_records []) p) (is_funded (plain_world capacity row_capacity five_records []) p r)) ≡ true) refl refl refl refl refl;
    settled = each_five (λ p r. is_settled (plain_world capacity row_capacity five_records []) p r ≡ true) refl refl refl refl refl;
  }

  opened_budget : IsInBudget (alone_with (plain_world capacity row_capacity five_records []) (held_things [] (free_places 0 five_records) [] []))
  opened_budget =
      let w = plain_world capacity row_capacity five_records [] in
      record {
        paid = omega (arith, ap unit_count (opened_discharged (length w.nodes)));
        places = omega (arith, opened_given (length w.nodes));
      }

  pub opened_plain : capacity ≤ 4000000 → row_capacity ≤ 200000 → IsPlain capacity row_capacity five_records [] []
  opened_plain small rows_small = record {
    seen = record {
      lawful = opened_lawful;
      legal = opened_legal;
      roots = record { roots = λ n v f. absurd (versionless n v f); looked = λ i r e. absurd (rowless i r e) };
      well = refl;
      held = λ s. sym (unclaimed s);
      wide = λ k l. ap length (get_or_default (plain_world capacity row_capacity five_records []).rows k [] no_words l ∙ filled-beyond no_words row_capacity [] k (omega arith));
      unended = λ i e. word_none i 5;
    };
    marked = refl;
    once = refl;
    funded = opened_funded;
    budget = opened_budget;
    fits = omega arith;
    small = small;
    rows_fit = omega arith;
    rows_small = rows_small;
  }
