-- How a row is started, and begun.
use Rattle.std.proofs.Common.{◌≡◌, ◌≢◌, ℕ, ◌+◌, ◌^◌, ◌<◌, ltb, refl, sym, ap, ◌∙◌, arith, Bool, true, false, cond, not, ◌&&◌, ◌||◌, Some, [], ◌∷◌, ◌++◌}
use Rattle.std.proofs.lemmas.Bool.{true≢false, lt-ltb}
use Rattle.lazy_rec.specs.declared.events.Event.{Event}
use Rattle.lazy_rec.specs.Named.{Records}
use Rattle.heap_store.specs.World.{World, recs}
use Rattle.heap_store.specs.Rows.{op_of_word, row_at, word_at, store_word}
use Rattle.heap_store.specs.Legal.{row_in_range}
use Rattle.heap_store.specs.Hand.{Hand, contains, hand_begun, hand_mine}
use Rattle.heap_store.specs.Budget.{due_at, direct_at}
use Rattle.heap_store.specs.View.{View, About, IsLawfulView}
use Rattle.heap_store.specs.RowCalls.{MayStore, Stored}
use Rattle.heap_store.proofs.HistoryLaws.{RowWell}
use Rattle.version_book.specs.Words.{IsFirstWord, IsBasesWord}
use Rattle.version_book.specs.RowSteps.{IsCaller, IsDrawn, IsNextEvent, MayBegin, IsWorking, Begun}
use Rattle.version_book.specs.RowWords.{Unsaid, WordPut, RowStarted, started_row}
use Rattle.version_book.proofs.WordLaws.{word-other, word-same, open-row}
use Rattle.version_book.proofs.GrownRows.{next_stays, may_begin_stays}
use Rattle.version_book.proofs.Setting.{unanswered_well, unanswered_rooted, set_stores}
use Rattle.version_book.proofs.Puts.{unsaid_trans, stored_on, stored_row, stored_other, on_trans, mine_only, first_stored}

-- the row of an event whose first three words are stored
pub started_is : (w : World) (name w0 w1 caller : ℕ) (e : Event) (begun : Bool) → word_at w name 0 ≡ w0 → word_at w name 1 ≡ w1 → word_at w name 2 ≡ e.arg → word_at w name 5 ≡ 0 → IsBasesWord w1 e.base e.other → IsFirstWord w0 caller e.op begun
    → row_at w name ≡ Some (started_row caller e begun)
started_is w name w0 w1 caller e begun a b c z bases first =
    let op : op_of_word (word_at w name 0) ≡ Some e.op = rw a first.op_is in
    open-row w name e.op op z ∙ rw (a, b, c, first.caller_is, first.begun_is, bases.base_is, bases.other_is) refl

-- a row that hasn't ended is in its range where its caller and its argument are
started_in_range : (caller : ℕ) (e : Event) (begun : Bool) → ltb caller 64 ≡ true → ltb e.arg (2 ^ 64) ≡ true → row_in_range (started_row caller e begun) ≡ true
started_in_range caller e begun h k = rw (h, k) refl

-- words 1 and 2 of the event are stored, and no other
pub record IsReady (v0 v : View) (caller name w1 : ℕ) (e : Event) : Type 0 where
  pub own : IsCaller v0 caller
  pub drawn : IsDrawn v0 name
  pub next : IsNextEvent v0 name e
  pub unsaid : Unsaid v0 v name
  pub bases : IsBasesWord w1 e.base e.other
  pub one : word_at v.seen name 1 ≡ w1
  pub two : word_at v.seen name 2 ≡ e.arg
  pub empty : (j : ℕ) → j ≢ 1 → j ≢ 2 → word_at v.seen name j ≡ 0

pub ready : {v0 v1 v2 : View} {caller name w1 : ℕ} {e : Event} → IsCaller v0 caller → IsDrawn v0 name → IsNextEvent v0 name e → IsBasesWord w1 e.base e.other → WordPut v0 v1 name 1 w1 → WordPut v1 v2 name 2 e.arg → IsReady v0 v2 caller name w1 e
ready own drawn next bases p1 p2 = record {
  own = own;
  drawn = drawn;
  next = next;
  unsaid = unsaid_trans p1.unsaid p2.unsaid;
  bases = bases;
  one = p2.others 1 (λ z. absurd (omega arith)) ∙ p1.here;
  two = p2.here;
  empty = λ j one two. p2.others j two ∙ (p1.others j one ∙ drawn.empty j);
}

-- a row of an event that may begin, where it begins, is well
pub started_well : (rs : Records) (v : View) (caller name : ℕ) (e : Event) (begun : Bool) → caller < 64 → IsNextEvent v name e → (begun ≡ true → MayBegin v name e) → RowWell rs (row_at v.seen) name (started_row caller e begun)
started_well rs v caller name e begun small next may =
    unanswered_well rs (row_at v.seen) name (started_row caller e begun) refl (started_in_range caller e begun (lt-ltb caller 64 small) next.argument) next.trim next.smaller
    (known begun (λ z. (may z).answered)) (kind begun (λ z. (may z).kinds))
  where
    known : (b : Bool) {x : Bool} → (b ≡ true → x ≡ true) → cond (false || b) (b && x) true ≡ true
    known true h = h refl
    known false h = refl

    kind : (b : Bool) {x : Bool} → (b ≡ true → x ≡ true) → (not b || x) ≡ true
    kind true h = h refl
    kind false h = refl

module _ {v0 v : View} {caller name w1 w0 : ℕ} {e : Event} {begun : Bool} (k : IsReady v0 v caller name w1 e) (first : IsFirstWord w0 caller e.op begun) (law : IsLawfulView v) where
  held : contains v.hand.names name ≡ true
  held = rw k.unsaid.hand k.drawn.drawn

  here0 : row_at (store_word v.seen name 0 w0) name ≡ Some (started_row caller e begun)
  here0 =
      let low = (law.hand.names name held).0 in
      started_is (store_word v.seen name 0 w0) name w0 w1 caller e begun
      (word-same v.seen name 0 w0 low (law.words name low (law.names_low name held)) (omega arith))
      (word-other v.seen name 0 w0 1 (λ z. absurd (omega arith)) ∙ k.one)
      (word-other v.seen name 0 w0 2 (λ z. absurd (omega arith)) ∙ k.two)
      (word-other v.seen name 0 w0 5 (λ z. absurd (omega arith)) ∙ k.empty 5 (λ z. absurd (omega arith)) (λ z. absurd (omega arith)))
      k.bases first

  pub start_may : IsLawfulView v0 → (begun ≡ true → MayBegin v0 name e) → MayStore v name 0 w0
  start_may law0 may =
      let about = k.unsaid.on.about in
      let next : IsNextEvent v name e = next_stays about k.next in
      let well = started_well (recs v.seen) v caller name e begun k.own.small next (λ z. may_begin_stays law0.legal k.unsaid.on.grows about name e (may z)) in
      let stores = set_stores v name 0 w0 (started_row caller e begun) law held here0 well (unanswered_rooted v.seen (started_row caller e begun) refl) next.planned in
      record {
        drawn = held;
        word = omega arith;
        fits = first.fits;
        once = λ _. k.empty 0 (λ z. absurd (omega arith)) (λ z. absurd (omega arith));
        caller = λ c z _. first.caller_is ∙ k.own.own c (sym (ap (λ (t : About). t.caller) about) ∙ z);
        ended = λ z. absurd (true≢false (sym z));
        end = λ z. absurd (true≢false (sym z));
        legal = stores.legal;
        roots = stores.roots;
        plan = stores.plan;
        plan_words = λ events p t f. (λ z. absurd (omega arith), λ z. absurd (omega arith));
      }

  pub started : {v' : View} → MayStore v name 0 w0 → Stored v v' name 0 w0 → IsLawfulView v' → RowStarted v0 v' caller name e begun
  started {v'} may s law' = record {
    on = on_trans (ap (λ (h : Hand). h.names) k.unsaid.hand) k.unsaid.on (stored_on held s);
    here = stored_row held s ∙ here0;
    empty = λ j later. stored_other held s j (λ z. absurd (omega arith)) ∙ k.empty j (λ z. absurd (omega arith)) (λ z. absurd (omega arith));
    hand = first_stored held s first.begun_is may.legal law'.legal
        ∙ (ap (λ (t : About). hand_mine t.caller name 0 (cond begun (hand_begun v.hand name (due_at v'.seen name) (direct_at v'.seen name)) v.hand)) k.unsaid.on.about
        ∙ ap (λ h. hand_mine v0.about.caller name 0 (cond begun (hand_begun h name (due_at v'.seen name) (direct_at v'.seen name)) h)) k.unsaid.hand);
  }

pub begun : {v v' : View} {caller name : ℕ} {e : Event} → RowStarted v v' caller name e true → Begun v v' caller name e
begun s = record {
  on = s.on;
  here = s.here;
  end_word = s.empty 5 (omega arith);
  second_word = s.empty 6 (omega arith);
  hand = s.hand;
}

-- ---- what it leaves

module _ {v v' : View} {caller name : ℕ} {e : Event} (b : Begun v v' caller name e) where
  pub begun_hand : v'.hand ≡ record (hand_begun v.hand name (due_at v'.seen name) (direct_at v'.seen name)) { mine = v'.hand.mine }
  begun_hand =
      let bound = mine_only v.about.caller name 0 (hand_begun v.hand name (due_at v'.seen name) (direct_at v'.seen name)) in
      b.hand ∙ (bound ∙ ap (λ m. record (hand_begun v.hand name (due_at v'.seen name) (direct_at v'.seen name)) { mine = m }) (sym (ap (λ (h : Hand). h.mine) b.hand)))

  -- the row is the one that is worked on
  pub begun_working : IsDrawn v name → IsWorking v' name false
  begun_working drawn = record {
    claims = ap (λ (h : Hand). h.claims) begun_hand ∙ drawn.claims;
    open_rows = ap (λ (h : Hand). h.open_rows) begun_hand ∙ ap (λ rows. rows ++ record { name = name; refused = false } ∷ []) drawn.open_rows;
    drawn = ap (λ (h : Hand). contains h.names name) begun_hand ∙ drawn.drawn;
    caller = caller;
    event = e;
    here = b.here;
    end_word = b.end_word;
    second_word = b.second_word;
  }

  -- and what the event brought is in hand
  pub begun_credits : v'.hand.credits ≡ v.hand.credits + due_at v'.seen name
  begun_credits = ap (λ (h : Hand). h.credits) begun_hand

  pub begun_allowance : v'.hand.allowance ≡ v.hand.allowance + direct_at v'.seen name
  begun_allowance = ap (λ (h : Hand). h.allowance) begun_hand
