-- Closing: the seats are joined, and what the last one then knows of the store.
use Rattle.std.proofs.Common.{◌≡◌, ℕ, zero, suc, ◌+◌, ◌<◌, List, [], ◌∷◌, ◌++◌, length, refl, sym, ap, ap₂, ◌∙◌, arith, subst, false, Some, None}
use Rattle.std.specs.Prelude.{slice_index, slice_set, slice_get, map, sum_by}
use Rattle.std.proofs.lemmas.List.{set-get_or, length-append}
use Rattle.std.proofs.lemmas.List.Sums.{sum_by-cons}
use mathlib.Core.Option.{some}
use lib.ListN.{get_elem?}
use Rattle.atomic_table.specs.Table.{keeps, Allows, Joins}
use Rattle.heap_store.specs.Growth.{Grows}
use Rattle.heap_store.specs.Hand.{Hand, contains}
use Rattle.heap_store.specs.Shared.{added}
use Rattle.word_world.specs.Words.{world_of, word_count}
use Rattle.word_world.proofs.Worlds.{contains-append}
use Rattle.word_store.specs.declared.sight.Sight.{Sight}
use Rattle.word_store.specs.declared.sight.Size.{Size}
use Rattle.word_store.specs.Rule.{IsKept, shows, plan_of}
use Rattle.word_store.specs.Plays.{Sat, LookedLast, sight_after}
use Rattle.word_store.specs.Joined.{MayClose, joined, joined_hand, gathered, no_sight}
use Rattle.word_store.proofs.Moves.{Move, board}
use Rattle.word_store.proofs.Seats.{moves}
use Rattle.word_store.proofs.Soundness.{sound_of, whole_of}
use Rattle.word_store.proofs.PlaceSteps.{looks}
use Rattle.word_store.proofs.Joining.{joins_kept, both_added}
use Rattle.word_store.proofs.Allowed.{set_here}

-- ---- the steps

pub joins_allowed : (k : Size) (id other c : ℕ) (v w : Sight) → (v.nodes ≡ k.nodes) × (v.rows ≡ k.rows) × (v.callers ≡ k.callers) × (v.plan ≡ plan_of k) → length v.words ≡ word_count k.nodes k.rows → w.numbers ≡ c ∷ [] → MayClose v.hand → MayClose w.hand
    → Joins (IsKept k) id v other w (joined v w) no_sight
joins_allowed k id other c v w sizes long one idle idle' s o me ne them = joins_kept k s o id other c v w me ne them sizes long one idle idle'

pub last_allowed : (k : Size) (n id : ℕ) (m : Sat) (i : ℕ) → 0 < length m.0.numbers → Allows (IsKept k) n id m i (λ x. x) (λ found after. LookedLast m after)
last_allowed k n id m i rights s o homes me _ =
    let v = m.0 in let ws : List ℕ = slice_set s.words i (slice_index s.words i) in let f = o.seats id v me in
    let sizes = f.size rights in
    let same : ws ≡ s.words = set-get_or s.words i 0 in
    let w : Sight = sight_after v ws v.hand v.wasted in
    let move : Move k s o id v ws ws v.hand v.wasted = subst (λ l. Move k s o id v l l v.hand v.wasted) (sym same) (looks k s o id v me rights v.hand refl refl refl refl refl f.hand f.works refl refl) in
    let now = moves k s o id v me rights ws ws v.hand v.wasted move in
    let here = set_here s.views id v w me in
    let world_is : (l : List ℕ) → world_of v.nodes v.rows l ≡ shows k l = λ l. ap₂ (λ a b. world_of a b l) sizes.0 sizes.1 in
    let up : (l : List ℕ) → Grows (shows k l) (shows k s.words) → Grows (world_of v.nodes v.rows l) (world_of v.nodes v.rows ws) = λ l g. rw (world_is l, world_is ws) (subst (λ z. Grows (shows k l) (shows k z)) (sym same) g) in (
      w,
      keeps,
      tt,
      now,
      record {
        is = refl;
        slots = refl;
        grows = up v.words f.seen;
        told = λ j t at. rw (world_is ws) (subst (λ z. Grows (world_of t.0 t.1 t.2) (shows k z)) (sym same) (f.told j t at));
        sound = sound_of k (board s ws id w) now id w here rights refl refl;
        whole = λ all. whole_of k (board s ws id w) now id w here rights refl (all ∙ sizes.2);
      },
    )

-- ---- hands that may be closed

pub joined_idle : (h g : Hand) → MayClose h → MayClose g → MayClose (joined_hand h g)
joined_idle h g a b = record { claims = none a.claims b.claims; reserved = none a.reserved b.reserved; rows = none a.rows b.rows }
  where
    none : {X : Type 0} {xs ys : List X} → xs ≡ [] → ys ≡ [] → xs ++ ys ≡ []
    none e f = rw (e, f) refl

pub gathered_idle : (v : Sight) (ws : List Sight) → MayClose v.hand → ((j : ℕ) (w : Sight) → slice_get ws j ≡ Some w → MayClose w.hand) → MayClose (gathered v ws).hand
gathered_idle v [] a each = a
gathered_idle v (w ∷ ws) a each = joined_idle (gathered v ws).hand w.hand (gathered_idle v ws a (λ j u at. each (suc j) u at)) (each 0 w refl)

-- ---- what a seat that took others in has

pub gathered_sizes : (v : Sight) (ws : List Sight) → ((gathered v ws).nodes ≡ v.nodes) × ((gathered v ws).rows ≡ v.rows) × ((gathered v ws).callers ≡ v.callers) × ((gathered v ws).plan ≡ v.plan) × ((gathered v ws).words ≡ v.words)
gathered_sizes v [] = (refl, refl, refl, refl, refl)
gathered_sizes v (w ∷ ws) = gathered_sizes v ws

-- each of them has one caller's rights
pub gathered_numbers : (v : Sight) (ws : List Sight) → ((j : ℕ) (w : Sight) → slice_get ws j ≡ Some w → length w.numbers ≡ 1) → length (gathered v ws).numbers ≡ length v.numbers + length ws
gathered_numbers v [] each = omega arith
gathered_numbers v (w ∷ ws) each = (let t = gathered_numbers v ws (λ j u at. each (suc j) u at) in omega (arith, t, length-append (gathered v ws).numbers w.numbers, each 0 w refl))

pub gathered_told : (v : Sight) (ws : List Sight) (j : ℕ) (w : Sight) → slice_get ws j ≡ Some w → (i : ℕ) × (get_elem? (gathered v ws).told i ≡ some (w.nodes, w.rows, w.words))
gathered_told v [] j w at = absurd (none_some at)
  where
    none_some : None ≡ Some w → ⊥
    none_some e = let z : None ≡ Some w = e in cc
gathered_told v (u ∷ ws) zero w at = (0, ap (λ (x : Sight). some (x.nodes, x.rows, x.words)) (some_is at))
  where
    some_is : Some u ≡ Some w → u ≡ w
    some_is e = cc
gathered_told v (u ∷ ws) (suc j) w at = let t = gathered_told v ws j w at in (suc t.0, t.1)

pub gathered_names : (v : Sight) (ws : List Sight) (i : ℕ) → contains v.hand.names i ≡ false → ((j : ℕ) (w : Sight) → slice_get ws j ≡ Some w → contains w.hand.names i ≡ false) → contains (gathered v ws).hand.names i ≡ false
gathered_names v [] i none each = none
gathered_names v (w ∷ ws) i none each = rw (contains-append (gathered v ws).hand.names w.hand.names i, gathered_names v ws i none (λ j u at. each (suc j) u at), each 0 w refl) refl

pub gathered_vain : (v : Sight) (ws : List Sight) → added (gathered v ws).hand.vain ≡ added v.hand.vain + sum_by (λ (w : Sight). added w.hand.vain) ws
gathered_vain v [] = omega arith
gathered_vain v (w ∷ ws) = omega (arith, both_added (gathered v ws).hand.vain w.hand.vain, gathered_vain v ws, sum_by-cons (λ (u : Sight). added u.hand.vain) w ws)

-- ---- the passes that are taken in, the last first

module _ {X Y : Type 0} (f : X → Y) where
  pub taken : (xs : List X) (x : X) (done all : List Y) → map f (xs ++ x ∷ []) ++ done ≡ all → map f xs ++ f x ∷ done ≡ all
  taken xs x done all e = sym (same xs) ∙ e
    where
      same : (ys : List X) → map f (ys ++ x ∷ []) ++ done ≡ map f ys ++ f x ∷ done
      same [] = refl
      same (y ∷ ys) = ap (λ l. f y ∷ l) (same ys)

  pub taken_at : (xs : List X) (x : X) (done all : List Y) → map f (xs ++ x ∷ []) ++ done ≡ all → slice_get all (length xs) ≡ Some (f x)
  taken_at xs x done all e = ap (λ l. slice_get l (length xs)) (sym (taken xs x done all e)) ∙ here xs
    where
      here : (ys : List X) → slice_get (map f ys ++ f x ∷ done) (length ys) ≡ Some (f x)
      here [] = refl
      here (y ∷ ys) = here ys
