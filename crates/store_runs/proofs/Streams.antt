-- Empty streams, begun under names of which no word is stored.
use Rattle.std.proofs.Common.{◌≡◌, ℕ, ◌+◌, true, Some, None, refl, sym, ap, ◌∙◌, arith}
use Rattle.std.proofs.lemmas.Bool.{true≢false}
use Rattle.lazy_rec.specs.declared.events.Kind.TheVariants.{Stream}
use Rattle.lazy_rec.specs.declared.events.Op.TheVariants.{New}
use Rattle.lazy_rec.specs.Due.{direct}
use Rattle.heap_store.specs.World.{recs}
use Rattle.heap_store.specs.Rows.{row_at, word_at, store_word}
use Rattle.heap_store.specs.Hand.{Hand, contains}
use Rattle.heap_store.specs.Budget.{direct_at}
use Rattle.heap_store.specs.View.{View, IsLawfulView}
use Rattle.heap_store.specs.RowCalls.{MayStore, Stored, hand_stored}
use Rattle.heap_store.proofs.RowBudget.{new_row}
use Rattle.version_book.specs.Words.{IsFirstWord, IsBasesWord}
use Rattle.version_book.specs.RowSteps.{IsCaller, IsNextEvent, IsPlanned, begun_row}
use Rattle.version_book.specs.Calls.{new_event}
use Rattle.version_book.proofs.WordLaws.{word-other, word-same}
use Rattle.version_book.proofs.Begins.{started_is, started_well}
use Rattle.version_book.proofs.EventJobs.{may_begin_new}
use Rattle.version_book.proofs.Puts.{mine_only}
use Rattle.version_book.proofs.Setting.{set_stores, unanswered_rooted}

module _ (v : View) (name : ℕ) (law : IsLawfulView v) (held : contains v.hand.names name ≡ true) (empty : (j : ℕ) → word_at v.seen name j ≡ 0) (free : v.about.plan ≡ None) (own : IsCaller v 0) where
  first : IsFirstWord 8193 0 (New Stream) true
  first = record { op_is = refl; begun_is = refl; caller_is = refl; fits = refl }

  bases : IsBasesWord 0 0 0
  bases = record { base_is = refl; other_is = refl; fits = refl }

  here : row_at (store_word v.seen name 0 8193) name ≡ Some (begun_row 0 (new_event Stream))
  here =
      let low = (law.hand.names name held).0 in
      started_is (store_word v.seen name 0 8193) name 8193 0 0 (new_event Stream) true
      (word-same v.seen name 0 8193 low (law.words name low (law.names_low name held)) (omega arith))
      (word-other v.seen name 0 8193 1 (λ z. absurd (omega arith)) ∙ empty 1)
      (word-other v.seen name 0 8193 2 (λ z. absurd (omega arith)) ∙ empty 2)
      (word-other v.seen name 0 8193 5 (λ z. absurd (omega arith)) ∙ empty 5)
      bases first

  planned : IsPlanned v.about.plan name (new_event Stream)
  planned events h = let z : None ≡ Some events = sym free ∙ h in cc

  next : IsNextEvent v name (new_event Stream)
  next = record { trim = refl; smaller = refl; argument = refl; planned = planned }

  pub may_begin_stream : MayStore v name 0 8193
  may_begin_stream =
      let well = started_well (recs v.seen) v 0 name (new_event Stream) true own.small next (λ _. may_begin_new v name Stream planned) in
      let stores = set_stores v name 0 8193 (begun_row 0 (new_event Stream)) law held here well (unanswered_rooted v.seen (begun_row 0 (new_event Stream)) refl) planned in
      record {
        drawn = held;
        word = omega arith;
        fits = refl;
        once = λ _. empty 0;
        caller = λ c e _. own.own c e;
        ended = λ z. absurd (true≢false (sym z));
        end = λ z. absurd (true≢false (sym z));
        legal = stores.legal;
        roots = stores.roots;
        plan = stores.plan;
        plan_words = λ events p t f. (λ z. absurd (omega arith), λ z. absurd (omega arith));
      }

  -- which brings a place
  pub one_place_more : (w : View) → Stored v w name 0 8193 → w.hand.allowance ≡ v.hand.allowance + 1
  one_place_more w s =
      let places : direct_at (store_word v.seen name 0 8193) name ≡ 1 = new_row direct (store_word v.seen name 0 8193) name (begun_row 0 (new_event Stream)) Stream here refl refl in
      let same : w.hand.allowance ≡ v.hand.allowance + direct_at (store_word v.seen name 0 8193) name = ap (λ (h : Hand). h.allowance) s.hand ∙ ap (λ (h : Hand). h.allowance) (mine_only v.about.caller name 0 (record (hand_stored (store_word v.seen name 0 8193) v.hand name 0 8193) { vain = w.hand.vain })) in
      omega (arith, places, same)
