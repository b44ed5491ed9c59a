-- States, Done places, and the values of places.
use Rattle.std.proofs.Common.{◌≡◌, ℕ, ◌≤◌, refl, sym, ap, ◌∙◌, arith, ⊎_elim, Bool, true, false, not, ◌⊎◌, ◌&&◌, Option, Some, None}
use Rattle.std.specs.Prelude.{option_and_then}
use Rattle.std.proofs.lemmas.Bool.{true≢false, or_cases, or_left, or_right, leb-true, cases_Bool}
use Rattle.lazy_rec.specs.declared.places.Ref.{Ref}
use Rattle.lazy_rec.specs.declared.records.Rec.{Rec}
use Rattle.lazy_rec.specs.declared.states.SuspState.{SuspState}
use Rattle.lazy_rec.specs.declared.states.SuspState.TheVariants.{Unforced, Claimed, Done}
use Rattle.lazy_rec.specs.Named.{sort_of, same_sort, is_pending}
use Rattle.lazy_rec.specs.States.{kept}
use Rattle.lazy_rec.specs.Tests.{is_some_and}
use Rattle.lazy_rec.specs.Meaning.{cells, means}
use Rattle.heap_store.specs.World.{World, recs, holds, state_at, done_at, is_done, is_value, value_at}
use Rattle.heap_store.specs.Values.{value_place_of, value_place}
use Rattle.heap_store.specs.Growth.{Grows}
use Rattle.heap_store.specs.Lawful.{IsLawful, height}
use Rattle.heap_store.proofs.NameLaws.{IsPublished}
use Rattle.heap_store.proofs.GrowthLaws.{done_by_state, done_grows, value_up}
use Rattle.heap_store.proofs.ShowLaws.{one_value}
use Rattle.heap_store.proofs.RecordLaws.{known}
use Rattle.heap_store.proofs.LawfulLaws.{lawful_names, done_there}
use Rattle.heap_store.proofs.ReadLaws.{holds_at, rec_back}
use Rattle.heap_store.proofs.WellNamed.{sort_self}

-- ---- Done places

pub done_of_state : (w : World) (p : ℕ) (s : SuspState) → state_at w p ≡ Some s → done_at w p ≡ kept s
done_of_state w p s h = done_by_state w p ∙ ap (option_and_then kept) h

-- a state that is unforced or claimed keeps no place
abbrev pub IsUndone : SuspState → Type 0
IsUndone s = ((n : ℕ) × (s ≡ Unforced n)) ⊎ ((n : ℕ) × (s ≡ Claimed n))

pub not_done : (w : World) (p : ℕ) (s : SuspState) → state_at w p ≡ Some s → IsUndone s → done_at w p ≡ None
not_done w p s e h = done_of_state w p s e ∙ ⊎_elim (λ k. rw k.1 refl) (λ k. rw k.1 refl) h

-- a suspension that is known is done
pub known_done : (w : World) (p : ℕ) (r : Rec) → recs w p ≡ Some r → is_pending r ≡ true → is_value w p ≡ true → (d : ℕ × ℕ) × (done_at w p ≡ Some d)
known_done w p r e pend h = ⊎_elim
    (λ k. absurd (not_both (is_pending r) pend (holds_at (recs w) p (λ r. not (is_pending r)) r k e)))
    (λ k. go (done_at w p) refl k)
    (or_cases (holds (recs w) p (λ r. not (is_pending r))) (is_done w p) h)
  where
    not_both : (b : Bool) → b ≡ true → not b ≡ true → ⊥
    not_both true e k = true≢false (sym k)
    not_both false e k = true≢false (sym e)

    go : (o : Option (ℕ × ℕ)) → done_at w p ≡ o → is_some_and (λ d. true) o ≡ true → (d : ℕ × ℕ) × (done_at w p ≡ Some d)
    go None e k = absurd (true≢false (sym k))
    go (Some d) e k = (d, e)

-- ---- values

pub value_known : (w : World) (p : ℕ) (r : Rec) → recs w p ≡ Some r → is_pending r ≡ false → is_value w p ≡ true
value_known w p r e n = or_left (holds (recs w) p (λ r. not (is_pending r))) (is_done w p) (rw (e, n) refl)

pub done_known : (w : World) (p : ℕ) (d : ℕ × ℕ) → done_at w p ≡ Some d → is_value w p ≡ true
done_known w p d e = or_right (holds (recs w) p (λ r. not (is_pending r))) (is_done w p) (rw e refl)

pub value_self : (w : World) (p : ℕ) (r : Rec) → recs w p ≡ Some r → is_pending r ≡ false → value_at w p ≡ Some r
value_self w p r e n = rw (e, n) refl

pub value_done : (w : World) (p : ℕ) (r : Rec) (d : ℕ × ℕ) → recs w p ≡ Some r → is_pending r ≡ true → done_at w p ≡ Some d → value_at w p ≡ recs w d.0
value_done w p r d e pend f = rw (e, f, pend) refl

-- a suspension that has a value is done with it
pub done_of_value : (w : World) (p : ℕ) (r s : Rec) → recs w p ≡ Some r → is_pending r ≡ true → value_at w p ≡ Some s → (d : ℕ × ℕ) × (done_at w p ≡ Some d) × (recs w d.0 ≡ Some s)
done_of_value w p r s e pend h = go (done_at w p) refl
  where
    go : (o : Option (ℕ × ℕ)) → done_at w p ≡ o → (d : ℕ × ℕ) × (done_at w p ≡ Some d) × (recs w d.0 ≡ Some s)
    go None f = absurd (let k : value_at w p ≡ None = rw (e, f, pend) refl in let z : Some s ≡ None = sym h ∙ k in cc)
    go (Some d) f = (d, f, sym (value_done w p r d e pend f) ∙ h)

-- a later world shows the same value of a place that was known
pub value_down : {a b : World} → IsLawful a → Grows a b → (p : ℕ) → is_value a p ≡ true → (r : Rec) → value_at b p ≡ Some r → value_at a p ≡ Some r
value_down {a} {b} law g p h r e =
    let k = known a b (lawful_names law) g (done_there law) p h in
    k.1 ∙ (sym (value_up a b g p k.0 k.1) ∙ e)

-- ---- the place of a value

-- the value of the place p stands at q
pub record ValuePlace (w : World) (p q : ℕ) : Type 0 where
  pub rec : Rec
  pub here : recs w p ≡ Some rec
  pub known : is_value w p ≡ true
  pub value : value_at w p ≡ recs w q
  pub sort : holds (recs w) q (λ s. not (is_pending s) && same_sort (sort_of s) (sort_of rec)) ≡ true
  pub means : means (recs w) q ≡ means (recs w) p
  pub cells : cells (recs w) q ≡ cells (recs w) p
  pub low : height (recs w) q ≤ height (recs w) p

module _ (w : World) (law : IsLawful w) (p : ℕ) (r : Rec) (e : recs w p ≡ Some r) where
  own_place : is_pending r ≡ false → ValuePlace w p p
  own_place n = record {
    rec = r;
    here = e;
    known = value_known w p r e n;
    value = value_self w p r e n ∙ sym e;
    sort = rw (e, n) (sort_self (sort_of r));
    means = refl;
    cells = refl;
    low = omega arith;
  }

  pub done_place : is_pending r ≡ true → (d : ℕ × ℕ) → done_at w p ≡ Some d → ValuePlace w p d.0
  done_place pend d f =
      let well = law.done p r e d f in
      record {
        rec = r;
        here = e;
        known = done_known w p d f;
        value = value_done w p r d e pend f;
        sort = well.value;
        means = well.means;
        cells = well.cells;
        low = leb-true (height (recs w) d.0) (height (recs w) p) well.height;
      }

  place_by : (c : Bool) → is_pending r ≡ c → (o : Option (ℕ × ℕ)) → done_at w p ≡ o → (q : ℕ) → value_place_of w p r ≡ Some q → ValuePlace w p q
  place_by false n o f q h = let z : Some p ≡ Some q = rw n at h in rw (← one_value p q z) (own_place n)
  place_by true n None f q h = absurd (let z : None ≡ Some q = rw (n, f) at h in cc)
  place_by true n (Some d) f q h = let z : Some d.0 ≡ Some q = rw (n, f) at h in rw (← one_value d.0 q z) (done_place n d f)

pub value_place_is : {w : World} → IsLawful w → (p q : ℕ) → value_place w p ≡ Some q → ValuePlace w p q
value_place_is {w} law p q h = go (recs w p) refl h
  where
    go : (o : Option Rec) → recs w p ≡ o → option_and_then (value_place_of w p) o ≡ Some q → ValuePlace w p q
    go None e k = absurd (let z : None ≡ Some q = k in cc)
    go (Some r) e k = place_by w law p r e (is_pending r) refl (done_at w p) refl q k

-- the value that is told stands at a place
pub value_stands : {w : World} → IsLawful w → (p : ℕ) (s : Rec) → value_at w p ≡ Some s → (q : ℕ) × (ValuePlace w p q) × (recs w q ≡ Some s)
value_stands {w} law p s h = go (recs w p) refl
  where
    by : (r : Rec) → recs w p ≡ Some r → (is_pending r ≡ true) ⊎ (is_pending r ≡ false) → (q : ℕ) × (ValuePlace w p q) × (recs w q ≡ Some s)
    by r e c = ⊎_elim
        (λ pend. (let d = done_of_value w p r s e pend h in (d.0.0, done_place w law p r e pend d.0 d.1, d.2)))
        (λ n. (p, own_place w law p r e n, e ∙ (sym (value_self w p r e n) ∙ h)))
        c

    go : (o : Option Rec) → recs w p ≡ o → (q : ℕ) × (ValuePlace w p q) × (recs w q ≡ Some s)
    go None e = absurd (let k : value_at w p ≡ None = rw e refl in let z : Some s ≡ None = sym h ∙ k in cc)
    go (Some r) e = by r e (cases_Bool (is_pending r))

-- a place without a value is a suspension that isn't done
pub record Waits (w : World) (p : ℕ) : Type 0 where
  pub pending : holds (recs w) p is_pending ≡ true
  pub undone : done_at w p ≡ None

pub place_waits : (w : World) (p : ℕ) → IsPublished (recs w) p → value_place w p ≡ None → Waits w p
place_waits w p is h = by (is_pending is.0) refl (done_at w p) refl (let k = is.1 in rw k at h)
  where
    by : (c : Bool) → is_pending is.0 ≡ c → (o : Option (ℕ × ℕ)) → done_at w p ≡ o → value_place_of w p is.0 ≡ None → Waits w p
    by false n o f k = absurd (let z : Some p ≡ None = rw n at k in cc)
    by true n None f k = record { pending = rw (is.1, n) refl; undone = f }
    by true n (Some d) f k = absurd (let z : Some d.0 ≡ None = rw (n, f) at k in cc)

-- ---- what a read of a known suspension's state shows

-- a later world shows it done with the same place
pub done_value : {a b : World} → IsLawful a → Grows a b → (p : ℕ) (r : Rec) → recs a p ≡ Some r → is_pending r ≡ true → is_value a p ≡ true → (place : Ref) (steps given : ℕ) → state_at b p ≡ Some (Done place steps given) → (s : Rec) → recs b place.0 ≡ Some s → value_at a p ≡ Some s
done_value {a} {b} law g p r e pend h place steps given f s t =
    let d = known_done a p r e pend h in
    let same : d.0.0 ≡ place.0 = ap (elim [ None ↦ 0 | Some k ↦ k.0 ]) (sym (done_grows g p d.0 d.1) ∙ done_of_state b p (Done place steps given) f) in
    let t' : recs b d.0.0 ≡ Some s = rw same t in
    value_done a p r d.0 e pend d.1 ∙ rec_back g.records d.0.0 s (done_there law p d.0 d.1) t'

-- and never undone
pub still_done : {a b : World} → Grows a b → (p : ℕ) (r : Rec) → recs a p ≡ Some r → is_pending r ≡ true → is_value a p ≡ true → (s : SuspState) → state_at b p ≡ Some s → IsUndone s → ⊥
still_done {a} {b} g p r e pend h s f undone =
    let d = known_done a p r e pend h in
    let z : Some d.0 ≡ None = sym (done_grows g p d.0 d.1) ∙ not_done b p s f undone in
    cc
