-- Rows that a caller has begun and ended.
use Rattle.std.proofs.Common.{◌≡◌, ℕ, ◌+◌, ◌≤◌, eqb, inl, inr, List, ◌∷◌, length, refl, sym, ap, ◌∙◌, arith, subst, Some, ⊎_elim, Result}
use Rattle.std.proofs.lemmas.Bool.{eqb-true, or_cases}
use Rattle.lazy_rec.specs.declared.events.Kind.TheVariants.{Bankq}
use Rattle.heap_store.specs.World.{World}
use Rattle.heap_store.specs.Growth.{Grows}
use Rattle.heap_store.specs.Hand.{Hand, contains, hand_mine}
use Rattle.heap_store.specs.RowCalls.{NameDrawn}
use Rattle.heap_store.specs.View.{View, About}
use Rattle.heap_store.proofs.GrowthLaws.{grows_trans, grows_refl}
use Rattle.version_book.specs.declared.answers.Entry.{Entry}
use Rattle.version_book.specs.declared.answers.Refuse.{Refuse}
use Rattle.version_book.specs.declared.answers.Refuse.TheVariants as refusals
use Rattle.version_book.specs.Pass.{Pass}
use Rattle.version_book.specs.RowSteps.{ended_row}
use Rattle.version_book.specs.Calls.{Ended, IsOutOfNames, ending_told, new_event}
use Rattle.version_book.proofs.InOrder.{ending_ended}
use Rattle.store_runs.specs.Crews.{HasBegun, IsQueueRow}

pub nothing_begun : (v : View) → HasBegun v v 0
nothing_begun v = record { grows = grows_refl v.seen; about = refl; count_is = omega arith; rows = λ i h. inl h }

row_stays : {a b : World} → Grows a b → (i : ℕ) → IsQueueRow a i → IsQueueRow b i
row_stays g i r = record { row = r.row; here = g.ended i r.row r.here r.ended; event = r.event; ended = r.ended }

-- a name was drawn, and an empty queue made under it
module _ (start : View) (p q r : Pass) (name count : ℕ) (answer : Result Entry Refuse) (bound : p.view.about.caller ≡ Some p.caller) (before : HasBegun start p.view count) (n : NameDrawn p.view q.view name) (d : Ended q r name (new_event Bankq) answer) where
  own : q.view.about.caller ≡ Some p.caller
  own = ap (λ (a : About). a.caller) n.about ∙ bound

  mine : r.view.hand.mine ≡ name ∷ p.view.hand.mine
  mine = d.called.mine ∙ (ap (λ o. (hand_mine o name 0 q.view.hand).mine) own ∙ ap (λ (h : Hand). name ∷ h.mine) n.hand)

  pub begun_more : HasBegun start r.view (count + 1)
  begun_more = record {
    grows = grows_trans before.grows (grows_trans n.grows d.called.grows);
    about = d.called.about ∙ (n.about ∙ before.about);
    count_is = (let e = ap (λ (l : List ℕ). length l) mine in omega (arith, e, before.count_is));
    rows = λ i h. ⊎_elim
        (λ new. inr (subst (IsQueueRow r.view.seen) (eqb-true name i new) here))
        (λ old. ⊎_elim (λ first. inl first) (λ row. inr (row_stays (grows_trans n.grows d.called.grows) i row)) (before.rows i old))
        (or_cases (eqb name i) (contains p.view.hand.mine i) (ap (λ (l : List ℕ). contains l i) (sym mine) ∙ h));
  }
    where
      here : IsQueueRow r.view.seen name
      here = record { row = ended_row q.caller (new_event Bankq) (ending_told answer); here = d.called.here; event = refl; ended = ending_ended name answer d.named }

-- no name was left
pub begun_all : (start v w : View) (count : ℕ) (refuse : Refuse) → HasBegun start v count → IsOutOfNames v w refuse → HasBegun start w count × (w.about.rows ≤ w.named)
begun_all start v w count (refusals.NamesFull none) before n = (
  record {
    grows = grows_trans before.grows n.grows;
    about = n.about ∙ before.about;
    count_is = (let e = ap (λ (h : Hand). length h.mine) n.hand in omega (arith, e, before.count_is));
    rows = λ i h. ⊎_elim (λ first. inl first) (λ row. inr (row_stays n.grows i row)) (before.rows i (ap (λ (k : Hand). contains k.mine i) (sym n.hand) ∙ h));
  },
  (let e = ap (λ (a : About). a.rows) n.about in omega (arith, n.full, n.told, e)),
)
begun_all start v w count (refusals.StoreFull full) before n = absurd n
begun_all start v w count refusals.NoMemory before n = absurd n
