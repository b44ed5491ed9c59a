-- What the tests of the plain heap put and begin.
use Rattle.std.proofs.Common.{◌≡◌, ℕ, zero, suc, ◌+◌, ◌≤◌, true, not, ◌||◌, ◌&&◌, Bool, false, cond, Option, List, [], ◌∷◌, Some, None, refl, sym, ap, ◌∙◌, subst, arith}
use Rattle.std.specs.Prelude.{is_some, option_and_then}
use Rattle.std.proofs.lemmas.Bool.{eq-eqb, or_left, true≢false}
use Rattle.lazy_rec.specs.declared.records.Rec.TheVariants.{Leaf}
use Rattle.lazy_rec.specs.declared.events.Event.{Event}
use Rattle.lazy_rec.specs.declared.events.Op.TheVariants as ops
use Rattle.lazy_rec.specs.declared.events.Kind.TheVariants as kinds
use Rattle.lazy_rec.specs.declared.events.Reply.{Reply}
use Rattle.lazy_rec.specs.Kinds.{is_trim, is_split}
use Rattle.lazy_rec.specs.History.{is_second, event_name, reply_to, has_smaller_bases, is_of_its_kind}
use Rattle.heap_store.specs.declared.versions.Version.{Version}
use Rattle.heap_store.specs.World.{World, recs}
use Rattle.heap_store.specs.Rows.{Row, not_ended, first_of, second_of, reply_of, version_of, version_at, events_of, row_at, store_word}
use Rattle.heap_store.specs.Legal.{IsLegal, is_begun_well, row_in_range}
use Rattle.heap_store.specs.LookedAt.{HasRoots, row_has_looked}
use Rattle.heap_store.proofs.Steps.{stored_alone, contains-append_right}
use Rattle.heap_store.proofs.ShowLaws.{one_value}
use Rattle.heap_store.specs.Hand.{Hand, contains}
use Rattle.heap_store.specs.View.{View, About, Fits}
use Rattle.heap_store.specs.Budget.{direct_at}
use Rattle.heap_store.specs.RowCalls.{NameDrawn, MayStore, Stored}
use Rattle.heap_store.specs.Opened.{opened_view}

-- a leaf names and shows nothing, and fits everywhere
pub leaf_fits : (v : View) (p : ℕ) → Fits v p (Leaf (record { 0 = 5 }))
leaf_fits v p = record {
  laws = record { range = refl; names = refl; sizes = refl; unmixed = refl; bank_queue = refl; rt_queue = refl; heap = refl; cat = refl; finger = refl; heights = refl };
  origin = eq-eqb p p refl;
  follows = λ i e. cc;
  paid = omega arith;
  settled = refl;
}

-- ---- the first event begins

abbrev pub new_event : Event
new_event = record { op = ops.New kinds.Bankq; base = 0; other = 0; arg = 0 }

abbrev pub begun_world : ℕ → World
begun_world n = store_word (opened_view n 1).seen 1 0 8449

abbrev pub new_row : Row
new_row = record { caller = 0; event = new_event; begun = true; ending = not_ended }

-- what holds of the first row holds of each
only_row : (n i : ℕ) (r : Row) → row_at (begun_world n) i ≡ Some r → (P : ℕ → Row → Type 0) → P 1 new_row → P i r
only_row n zero r e P h = cc
only_row n (suc zero) r e P h = subst (P 1) (one_value new_row r e) h
only_row n (suc (suc i)) r e P h = cc

-- it isn't ended
no_version : (n m : ℕ) (v : Version) → version_at (row_at (begun_world n)) m ≡ Some v → ⊥
no_version n m v f = by (row_at (begun_world n) (event_name m)) refl f
  where
    none : (b : Bool) → cond {A = Option Version} b None None ≡ Some v → ⊥
    none true g = cc
    none false g = cc

    by : (o : Option Row) → row_at (begun_world n) (event_name m) ≡ o → option_and_then (λ (r : Row). version_of m r.ending) o ≡ Some v → ⊥
    by None e g = cc
    by (Some r) e g = only_row n (event_name m) r e (λ i r. version_of m r.ending ≡ Some v → ⊥) (none (is_second m)) g

begun_legal : (n : ℕ) → IsLegal (begun_world n)
begun_legal n =
    let rs = recs (begun_world n) in
    let rows = row_at (begun_world n) in
    record {
      ranges = λ i r e. only_row n i r e (λ i r. row_in_range r ≡ true) refl;
      trim = λ i r e. only_row n i r e (λ i r. is_trim r.event ≡ true) refl;
      bases = λ i r e. only_row n i r e (λ i r. has_smaller_bases i r.event ≡ true) refl;
      begun = λ i r e. only_row n i r e (λ i r. is_begun_well rows r ≡ true) refl;
      kinds = λ i r e. only_row n i r e (λ i r. not r.begun || is_of_its_kind (events_of rows) r.event ≡ true) refl;
      seconds = λ i r e. only_row n i r e (λ i r. is_some (second_of r.ending) ≡ is_some (first_of r.ending) && is_split r.event.op) refl;
      versions = λ m v f. absurd (no_version n m v f);
      replies = λ i r e. only_row n i r e (λ i r. (told : Reply) → reply_of r.ending ≡ Some told → told ≡ reply_to (events_of rows) r.event) (λ told f. cc);
      meanings = λ m v f. absurd (no_version n m v f);
    }

begun_roots : (n : ℕ) → HasRoots (begun_world n)
begun_roots n =
    let w = begun_world n in
    record {
      roots = λ m v f. absurd (no_version n m v f);
      looked = λ i r e. only_row n i r e (λ i r. (told : Reply) → reply_of r.ending ≡ Some told → row_has_looked w (row_at w) r.event told (version_at (row_at w) r.event.base) ≡ true) (λ told f. cc);
    }

-- the first name of an opened store
module _ (n : ℕ) (v0 v1 : View) (name : ℕ) (e : v0 ≡ opened_view n 1) (d : NameDrawn v0 v1 name) where
  alone : v0.about.alone ≡ true
  alone = ap (λ (v : View). v.about.alone) e

  seen : v1.seen ≡ (opened_view n 1).seen
  seen = (d.alone alone).0 ∙ ap (λ (v : View). v.seen) e

  one : name ≡ 1
  one = (d.alone alone).2 ∙ ap (λ (v : View). v.named + 1) e

  about : v1.about ≡ (opened_view n 1).about
  about = d.about ∙ ap (λ (v : View). v.about) e

  stored_as : (P : World → Type 0) → P (begun_world n) → P (store_word v1.seen name 0 8449)
  stored_as P h = subst (λ w. P (store_word w name 0 8449)) (sym seen) (subst (λ k. P (store_word (opened_view n 1).seen k 0 8449)) (sym one) h)

  no_plan : (events : List Event) → v1.about.plan ≡ Some events → ⊥
  no_plan events f = let z : None ≡ Some events = sym (ap (λ (t : About). t.plan) about) ∙ f in cc

  pub may_begin : MayStore v1 name 0 8449
  may_begin = record {
    drawn = ap (λ (h : Hand). contains h.names name) d.hand ∙ contains-append_right v0.hand.names (name ∷ []) name (or_left _ _ (eq-eqb name name refl));
    word = omega arith;
    fits = refl;
    once = λ l. d.empty 0;
    caller = λ c f. (let z : None ≡ Some c = sym (ap (λ (t : About). t.caller) about) ∙ f in cc);
    ended = λ b. absurd (true≢false (sym b));
    end = λ b. absurd (true≢false (sym b));
    legal = stored_as IsLegal (begun_legal n);
    roots = stored_as HasRoots (begun_roots n);
    plan = λ events f. absurd (no_plan events f);
    plan_words = λ events f. absurd (no_plan events f);
  }

  pub one_place : (v2 : View) → Stored v1 v2 name 0 8449 → 1 ≤ v2.hand.allowance
  one_place v2 s =
      let two : direct_at (store_word v1.seen name 0 8449) name ≡ 1 = subst (λ k. direct_at (store_word v1.seen name 0 8449) k ≡ 1) (sym one) (stored_as (λ w. direct_at w 1 ≡ 1) refl) in
      omega (arith, two, ap (λ (h : Hand). h.allowance) (stored_alone s (ap (λ (t : About). t.alone) about) (ap (λ (t : About). t.caller) about)))
