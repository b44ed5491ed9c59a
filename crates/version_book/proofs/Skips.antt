-- How a row is stored that ends without its event being begun.
use Rattle.std.proofs.Common.{◌≡◌, ℕ, refl, sym, ap, ◌∙◌, arith, true, false, Option, Some, None}
use Rattle.lazy_rec.specs.declared.events.Event.{Event}
use Rattle.heap_store.specs.declared.claims.Full.{Full}
use Rattle.heap_store.specs.World.{recs}
use Rattle.heap_store.specs.Rows.{Row, no_base, ending_of, row_at, words_at, store_word}
use Rattle.heap_store.specs.Legal.{row_in_range}
use Rattle.heap_store.specs.Hand.{Hand, contains, hand_ended, hand_mine}
use Rattle.heap_store.specs.View.{View, IsLawfulView}
use Rattle.heap_store.specs.RowCalls.{MayStore, vain_after}
use Rattle.version_book.specs.RowSteps.{IsDrawn, IsNextEvent, HasLostBase, RowEnded, Skipped, skipped_row}
use Rattle.version_book.specs.RowWords.{RowStarted, started_row}
use Rattle.version_book.proofs.GrownRows.{next_stays, lost_stays}
use Rattle.version_book.proofs.Setting.{unanswered_well, unanswered_rooted}
use Rattle.version_book.proofs.Puts.{on_trans, mine_only}
use Rattle.version_book.proofs.Ends.{end_here, end_word, may_end}

module _ {v0 v : View} {caller name : ℕ} {e : Event} (drawn : IsDrawn v0 name) (s : RowStarted v0 v caller name e false) (law : IsLawfulView v) where
  hand_is : v.hand ≡ record v0.hand { mine = v.hand.mine }
  hand_is = s.hand ∙ (mine_only v0.about.caller name 0 v0.hand ∙ ap (λ m. record v0.hand { mine = m }) (sym (ap (λ (h : Hand). h.mine) s.hand)))

  held : contains v.hand.names name ≡ true
  held = ap (λ (h : Hand). contains h.names name) hand_is ∙ drawn.drawn

  skip_end : ending_of name (words_at (store_word v.seen name 5 4) name) ≡ no_base
  skip_end = let a = end_word v name 4 law held in rw a refl

  skip_here : row_at (store_word v.seen name 5 4) name ≡ Some (skipped_row caller e)
  skip_here = end_here v name 4 (started_row caller e false) no_base s.here skip_end

  pub skip_may : IsNextEvent v0 name e → HasLostBase v0 e → MayStore v name 5 4
  skip_may next lost =
      let own : IsNextEvent v name e = next_stays s.on.about next in
      let range : row_in_range (skipped_row caller e) ≡ true = law.legal.ranges name (started_row caller e false) s.here in
      may_end v name 4 (skipped_row caller e) law held (omega arith) (omega arith) skip_here refl
      (record { idle = ap (λ (h : Hand). h.claims) hand_is ∙ drawn.claims; full_where = refl; numbers = λ d n z. cc; cause = tt })
      (unanswered_well (recs v.seen) (row_at v.seen) name (skipped_row caller e) refl range next.trim next.smaller (lost_stays s.on.grows e lost) refl)
      (unanswered_rooted v.seen (skipped_row caller e) refl) own.planned

  pub skip_done : {v' : View} → ((r : Row) → row_at (store_word v.seen name 5 4) name ≡ Some r → RowEnded v v' name r) → Skipped v0 v' caller name e
  skip_done {v'} done =
      let ended = done (skipped_row caller e) skip_here in
      record {
        on = on_trans (ap (λ (h : Hand). h.names) hand_is) s.on ended.on;
        here = ended.here;
        hand = ended.hand ∙ (same_vain (hand_ended v.hand name) (vain_kept v.hand.vain) ∙ (ap (λ h. hand_ended h name) s.hand ∙ past v0.about.caller));
      }
    where
      -- it has no numbers
      vain_kept : (f : Option Full) → vain_after true (Some (skipped_row caller e)) f ≡ f
      vain_kept None = refl
      vain_kept (Some f) = refl

      same_vain : (h : Hand) {f : Option Full} → f ≡ h.vain → record h { vain = f } ≡ h
      same_vain h g = rw g refl

      past : (c : Option ℕ) → hand_ended (hand_mine c name 0 v0.hand) name ≡ hand_mine c name 0 (hand_ended v0.hand name)
      past None = refl
      past (Some own) = refl
