-- What growth keeps of the claims of a force.
use Rattle.std.proofs.Common.{◌≡◌, ℕ, zero, suc, Bool, true, ◌&&◌, List, [], ◌∷◌, Option, Some, None, refl, sym}
use Rattle.std.specs.Prelude.{option_and_then, eqb}
use Rattle.std.proofs.lemmas.Bool.{true≢false, and_parts}
use Rattle.lazy_rec.specs.declared.records.Rec.{Rec}
use Rattle.lazy_rec.specs.Named.{is_pending}
use Rattle.lazy_rec.specs.Tests.{is_some_and}
use Rattle.heap_store.specs.declared.jobs.Cursor.{Cursor}
use Rattle.heap_store.specs.World.{World, recs, holds, value_at, is_published}
use Rattle.heap_store.specs.Growth.{Grows}
use Rattle.heap_store.specs.Lawful.{IsLawful, walk, rest_of, height}
use Rattle.heap_store.specs.Jobs.{IsWork, cursor_fits, cursor_fits_record, first_cells}
use Rattle.heap_store.proofs.LawfulLaws.{lawful_names}
use Rattle.heap_store.proofs.RecordLaws.{height_kept}
use Rattle.heap_store.proofs.GrowthLaws.{at_true, value_up, holds_up, or_up, same_up}
use Rattle.force_engine.specs.declared.stack.Frame.{Frame}
use Rattle.force_engine.specs.Stacked.{HeightsRise}

-- ---- heights

pub published : (w : World) (p : ℕ) (r : Rec) → recs w p ≡ Some r → is_published (recs w) p ≡ true
published w p r e = rw e refl

pub height-grows : {a b : World} → IsLawful a → Grows a b → (p : ℕ) → is_published (recs a) p ≡ true → height (recs b) p ≡ height (recs a) p
height-grows {a} {b} law g p h =
    let r = at_true (λ _. true) (recs a p) h in
    sym (height_kept (recs a) (recs b) (lawful_names law) g.records p (r.0, r.1))

pub HeightsRise-grows : {a b : World} → IsLawful a → Grows a b → (fs : List Frame) → HeightsRise a fs → HeightsRise b fs
HeightsRise-grows law g [] h = tt
HeightsRise-grows {a} {b} law g (f ∷ []) h = (holds_up a b g f.place.0 _ _ (λ r. same_up) h.0, tt, tt)
HeightsRise-grows {a} {b} law g (f ∷ f' ∷ fs) h =
    let e = height-grows law g f.place.0 h.0 in
    let e' = height-grows law g f'.place.0 h.2.0 in
    (holds_up a b g f.place.0 _ _ (λ r. same_up) h.0, rw (e, e') h.1, HeightsRise-grows law g (f' ∷ fs) h.2)

-- ---- cursors

rest_grows : {a b : World} → Grows a b → (m q : ℕ) (o : Option Rec) → value_at a m ≡ o → option_and_then rest_of o ≡ Some q → option_and_then rest_of (value_at b m) ≡ Some q
rest_grows g m q None e k = cc
rest_grows {a} {b} g m q (Some r) e k = rw (value_up a b g m r e) k

walk_more : {a b : World} → Grows a b → (q : ℕ) (here there : Option ℕ) → ((m : ℕ) → here ≡ Some m → there ≡ Some m) → option_and_then (λ m. option_and_then rest_of (value_at a m)) here ≡ Some q → option_and_then (λ m. option_and_then rest_of (value_at b m)) there ≡ Some q
walk_more g q None there k h = cc
walk_more {a} {b} g q (Some m) there k h = rw (k m refl) (rest_grows g m q (value_at a m) refl h)

walk-grows : {a b : World} → Grows a b → (n p q : ℕ) → walk a n p ≡ Some q → walk b n p ≡ Some q
walk-grows g zero p q h = h
walk-grows {a} {b} g (suc n) p q h = walk_more g q (walk a n p) (walk b n p) (walk-grows g n p) h

walk_ends : {a b : World} → Grows a b → (c : Cursor) (first : ℕ) → is_some_and (eqb c.place.0) (walk a c.passed first) ≡ true → is_some_and (eqb c.place.0) (walk b c.passed first) ≡ true
walk_ends {a} {b} g c first h = go (walk a c.passed first) refl h
  where
    go : (o : Option ℕ) → walk a c.passed first ≡ o → is_some_and (eqb c.place.0) o ≡ true → is_some_and (eqb c.place.0) (walk b c.passed first) ≡ true
    go None e k = absurd (true≢false (sym k))
    go (Some q) e k = rw (walk-grows g c.passed first q e) k

cursor_record : {a b : World} → Grows a b → (c : Cursor) (r : Rec) → cursor_fits_record a c r ≡ true → cursor_fits_record b c r ≡ true
cursor_record {a} {b} g c r = or_up same_up (go (first_cells r))
  where
    go : (o : Option ℕ) → is_some_and (λ first. is_some_and (eqb c.place.0) (walk a c.passed first)) o ≡ true → is_some_and (λ first. is_some_and (eqb c.place.0) (walk b c.passed first)) o ≡ true
    go None h = h
    go (Some first) h = walk_ends g c first h

pub cursor_fits-grows : {a b : World} → Grows a b → (p : ℕ) (c : Cursor) → cursor_fits a p c ≡ true → cursor_fits b p c ≡ true
cursor_fits-grows {a} {b} g p c = holds_up a b g p _ _ (cursor_record g c)

-- a cursor that has passed nothing fits
pub cursor_fits-new : (w : World) (p : ℕ) (c : Cursor) → is_published (recs w) p ≡ true → c.passed ≡ 0 → cursor_fits w p c ≡ true
cursor_fits-new w p c h e = let r = at_true (λ _. true) (recs w p) h in let k = r.1 in rw (k, e) refl

pub IsWork-grows : {a b : World} → Grows a b → (does : Rec → Bool) (p : ℕ) → IsWork does a p → IsWork does b p
IsWork-grows {a} {b} g does p = holds_up a b g p _ _ (λ r. same_up)

pub IsWork-published : (does : Rec → Bool) (w : World) (p : ℕ) → IsWork does w p → is_published (recs w) p ≡ true
IsWork-published does w p h = let r = at_true (λ r. is_pending r && does r) (recs w p) h in published w p r.0 r.1

pub IsWork-pending : (does : Rec → Bool) (w : World) (p : ℕ) → IsWork does w p → holds (recs w) p is_pending ≡ true
IsWork-pending does w p h = let r = at_true (λ r. is_pending r && does r) (recs w p) h in let k = r.1 in rw k (and_parts (is_pending r.0) (does r.0) r.2).0

pub pending_published : (w : World) (p : ℕ) → holds (recs w) p is_pending ≡ true → is_published (recs w) p ≡ true
pending_published w p h = let r = at_true is_pending (recs w p) h in published w p r.0 r.1
