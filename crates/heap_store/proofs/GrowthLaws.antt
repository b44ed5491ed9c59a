-- What a world's growth keeps.
use Rattle.std.proofs.Common.{◌≡◌, ℕ, refl, sym, ap, ◌∙◌, arith, ltb, Bool, true, false, cond, ◌&&◌, ◌||◌, ⊎_elim, Option, Some, None, List, [], ◌∷◌}
use Rattle.std.specs.Prelude.{option_and_then, option_map, is_some, slice_index_or}
use Rattle.std.specs.List.{AllByRecursion}
use Rattle.std.proofs.lemmas.Bool.{true≢false, eqb-true, and_parts, and_from, or_left, or_right, or_cases, ltb-true}
use Rattle.lazy_rec.specs.declared.records.Rec.{Rec}
use Rattle.lazy_rec.specs.declared.records.Sort.{Sort}
use Rattle.lazy_rec.specs.declared.records.Sort.TheVariants as sorts
use Rattle.lazy_rec.specs.declared.states.SuspState.{SuspState}
use Rattle.lazy_rec.specs.States.{kept}
use Rattle.heap_store.specs.declared.nodes.Node.{Node}
use Rattle.heap_store.specs.World.{World, recs, holds, node_at, state_at, done_at, same_place, value_of, value_at, is_value}
use Rattle.heap_store.specs.Lawful.{EachRecord, is_named_well, names_well}
use Rattle.heap_store.proofs.NameLaws.{NamesWell, IsNamedWell}
use Rattle.heap_store.specs.Growth.{Grows}
use Rattle.lazy_rec.specs.Named.{named, sort_of, sort_number, same_sort, at_record, is_pending}
use Rattle.lazy_rec.specs.Tests.{is_some_and}
use Rattle.lazy_rec.proofs.HistoryLaws.{all_true}

-- ---- sorts

sort_at : ℕ → Sort
sort_at n = slice_index_or (sorts.Stream ∷ sorts.List ∷ sorts.StreamTop ∷ sorts.BankTop ∷ sorts.RtTop ∷ sorts.HeapTop ∷ sorts.TreeList ∷ sorts.Tree ∷ sorts.Cat ∷ sorts.Element ∷ sorts.Digit ∷ sorts.Finger ∷ []) n sorts.Stream

sort_back : (s : Sort) → sort_at (sort_number s) ≡ s
unfolding sort_at
sort_back sorts.Stream = refl
sort_back sorts.List = refl
sort_back sorts.StreamTop = refl
sort_back sorts.BankTop = refl
sort_back sorts.RtTop = refl
sort_back sorts.HeapTop = refl
sort_back sorts.TreeList = refl
sort_back sorts.Tree = refl
sort_back sorts.Cat = refl
sort_back sorts.Element = refl
sort_back sorts.Digit = refl
sort_back sorts.Finger = refl

pub sorts_agree : (s t : Sort) → same_sort s t ≡ true → s ≡ t
sorts_agree s t e = sym (sort_back s) ∙ ap sort_at (eqb-true (sort_number s) (sort_number t) e) ∙ sort_back t

-- ---- tests that hold

pub at_true : (test : Rec → Bool) (o : Option Rec) → at_record false test o ≡ true → (r : Rec) × (o ≡ Some r) × (test r ≡ true)
at_true test None h = absurd (true≢false (sym h))
at_true test (Some r) h = (r, refl, h)

pub all_map : {X : Type 0} (P Q : X → Type 0) → ((x : X) → P x → Q x) → (xs : List X) → AllByRecursion P xs → AllByRecursion Q xs
all_map P Q f [] h = tt
all_map P Q f (x ∷ xs) h = (f x h.0, all_map P Q f xs h.1)

-- the places that a record names, as a fact
pub named_of : (w : World) (p : ℕ) (r : Rec) → names_well w p r ≡ true → AllByRecursion (IsNamedWell (recs w) p) (named r)
named_of w p r h = all_map (λ q. is_named_well (recs w) p q ≡ true) (IsNamedWell (recs w) p) (λ q k.
    let parts = and_parts (ltb q.0 p) (holds (recs w) q.0 (λ s. same_sort (sort_of s) q.1)) k in
    let there = at_true (λ s. same_sort (sort_of s) q.1) (recs w q.0) parts.1 in
    (ltb-true q.0 p parts.0, there.0, there.1, sorts_agree (sort_of there.0) q.1 there.2)) (named r) (all_true (is_named_well (recs w) p) (named r) h)

pub names_of : (w : World) → EachRecord w (names_well w) → NamesWell (recs w)
names_of w h p r e = named_of w p r (h p r e)

-- ---- tests that last

abbrev pub Up : Bool → Bool → Type 0
Up x y = x ≡ true → y ≡ true

pub and_up : {x y u v : Bool} → Up x y → Up u v → Up (x && u) (y && v)
and_up {x} {y} {u} {v} f g h = let k = and_parts x u h in and_from y v (f k.0) (g k.1)

pub or_up : {x y u v : Bool} → Up x y → Up u v → Up (x || u) (y || v)
or_up {x} {y} {u} {v} f g h = ⊎_elim (λ e. or_left y v (f e)) (λ e. or_right y v (g e)) (or_cases x u h)

pub same_up : {x : Bool} → Up x x
same_up h = h

pub at_up : (f g : Rec → Bool) (o o' : Option Rec) → ((r : Rec) → o ≡ Some r → o' ≡ Some r) → ((r : Rec) → Up (f r) (g r)) → Up (at_record false f o) (at_record false g o')
at_up f g o o' k up h = let there = at_true f o h in rw (k there.0 there.1) (up there.0 there.2)

pub done_by_state : (w : World) (p : ℕ) → done_at w p ≡ option_and_then kept (state_at w p)
done_by_state w p = go (node_at w p)
  where
    go : (o : Option Node) → option_and_then (λ (n : Node). kept n.state) o ≡ option_and_then kept (option_map (λ (n : Node). n.state) o)
    go None = refl
    go (Some n) = refl

-- growth keeps what is done
pub done_grows : {a b : World} → Grows a b → (p : ℕ) (d : ℕ × ℕ) → done_at a p ≡ Some d → done_at b p ≡ Some d
done_grows {a} {b} x p d h = done_by_state b p ∙ from (state_at a p) refl (sym (done_by_state a p) ∙ h)
  where
    from : (o : Option SuspState) → state_at a p ≡ o → option_and_then kept o ≡ Some d → option_and_then kept (state_at b p) ≡ Some d
    from None e k = cc
    from (Some s) e k = rw (x.done p s e (ap is_some k)) k

-- a place that shows a record shows a state, and the other way round
pub state_there : (w : World) (p : ℕ) (r : Rec) → recs w p ≡ Some r → (s : SuspState) × (state_at w p ≡ Some s)
state_there w p r h = go (node_at w p) h
  where
    go : (o : Option Node) → option_map (λ (n : Node). n.rec) o ≡ Some r → (s : SuspState) × (option_map (λ (n : Node). n.state) o ≡ Some s)
    go None e = cc
    go (Some n) e = (n.state, refl)

pub rec_there : (w : World) (p : ℕ) (s : SuspState) → state_at w p ≡ Some s → (r : Rec) × (recs w p ≡ Some r)
rec_there w p s h = go (node_at w p) h
  where
    go : (o : Option Node) → option_map (λ (n : Node). n.state) o ≡ Some s → (r : Rec) × (option_map (λ (n : Node). n.rec) o ≡ Some r)
    go None e = cc
    go (Some n) e = (n.rec, refl)

pub grows_trans : {a b c : World} → Grows a b → Grows b c → Grows a c
grows_trans {a} {b} {c} g h = record {
  records = λ p r e. h.records p r (g.records p r e);
  done = λ p s e k. h.done p s (g.done p s e k) k;
  given_up = λ p s t e k. (let r = rec_there a p s e in let u = state_there b p r.0 (g.records p r.0 r.1) in omega (arith, g.given_up p s u.0 e u.1, h.given_up p u.0 t u.1 k));
  begun = λ i e k. h.begun i e (g.begun i e k);
  ended = λ i r e k. h.ended i r (g.ended i r e k) k;
}

pub grows_refl : (w : World) → Grows w w
grows_refl w = record { records = λ p r h. h; done = λ p s h k. h; given_up = λ p s t h k. (let e = one_state s t (sym h ∙ k) in rw e (omega arith)); begun = λ i e h. h; ended = λ i r h k. h }
  where
    one_state : (s t : SuspState) → Some s ≡ Some t → s ≡ t
    one_state s t e = ap (elim [ None ↦ s | Some z ↦ z ]) e

module _ (a b : World) (x : Grows a b) where
  pub holds_up : (p : ℕ) (f g : Rec → Bool) → ((r : Rec) → Up (f r) (g r)) → Up (holds (recs a) p f) (holds (recs b) p g)
  holds_up p f g up = at_up f g (recs a p) (recs b p) (x.records p) up

  pub done_up : (p : ℕ) (f : ℕ × ℕ → Bool) → Up (is_some_and f (done_at a p)) (is_some_and f (done_at b p))
  done_up p f h = go (done_at a p) refl h
    where
      go : (o : Option (ℕ × ℕ)) → done_at a p ≡ o → is_some_and f o ≡ true → is_some_and f (done_at b p) ≡ true
      go None e k = absurd (true≢false (sym k))
      go (Some d) e k = rw (done_grows x p d e) k

  pub place_up : (p q : ℕ) → Up (same_place a p q) (same_place b p q)
  place_up p q = or_up same_up (or_up (done_up p _) (done_up q _))

  pub value_up : (p : ℕ) (r : Rec) → value_at a p ≡ Some r → value_at b p ≡ Some r
  value_up p r h = go (recs a p) refl h
    where
      from : (s : Rec) (c : Bool) (o : Option (ℕ × ℕ)) → done_at a p ≡ o → cond c (option_and_then (λ k. recs a k.0) o) (Some s) ≡ Some r → cond c (option_and_then (λ k. recs b k.0) (done_at b p)) (Some s) ≡ Some r
      from s true None e k = cc
      from s true (Some d) e k = rw (done_grows x p d e) (x.records d.0 r k)
      from s false o e k = k

      go : (o : Option Rec) → recs a p ≡ o → option_and_then (value_of a (done_at a p)) o ≡ Some r → value_at b p ≡ Some r
      go None e k = cc
      go (Some s) e k = rw (x.records p s e) (from s (is_pending s) (done_at a p) refl k)

  pub is_value_up : (p : ℕ) → Up (is_value a p) (is_value b p)
  is_value_up p = or_up (holds_up p _ _ (λ r. same_up)) (done_up p _)
