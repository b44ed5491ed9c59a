-- What storing one word of a row does, where others may work on the store too; and words that say nothing yet.
use Rattle.std.proofs.Common.{◌≡◌, ◌≢◌, ℕ, zero, suc, ◌≤◌, refl, sym, ap, subst, ◌∙◌, arith, Bool, true, false, cond, ⊎_elim, Option, Some, None, List}
use Rattle.std.specs.Prelude.{option_map, option_and_then}
use Rattle.std.proofs.lemmas.Bool.{true≢false, ne_eqb, cases_eq, cases_lt}
use Rattle.lazy_rec.specs.declared.events.Kind.{Kind}
use Rattle.lazy_rec.specs.declared.events.Op.{Op}
use Rattle.lazy_rec.specs.declared.events.Reply.{Reply}
use Rattle.lazy_rec.specs.declared.events.Reply.TheVariants.{Number}
use Rattle.lazy_rec.specs.Due.{due, direct}
use Rattle.heap_store.specs.declared.claims.Full.{Full}
use Rattle.heap_store.specs.World.{World}
use Rattle.heap_store.specs.Rows.{Row, is_ended, is_begun_word, op_of_word, row_with, row_of, row_at, word, words_at, word_at, store_word}
use Rattle.heap_store.specs.Hand.{Hand, contains, hand_begun, hand_ended, hand_mine}
use Rattle.heap_store.specs.Budget.{of_row, due_at, direct_at}
use Rattle.heap_store.specs.Growth.{begun_of}
use Rattle.heap_store.specs.Legal.{IsLegal}
use Rattle.heap_store.specs.View.{View, About, IsLawfulView}
use Rattle.heap_store.specs.RowCalls.{MayStore, Stored, begins_row, ends_row, hand_stored, vain_after}
use Rattle.heap_store.proofs.GrowthLaws.{grows_trans}
use Rattle.heap_store.proofs.RowBudget.{row_same}
use Rattle.version_book.specs.Words.{AreReplyWords, number_after}
use Rattle.version_book.specs.RowSteps.{OnRow}
use Rattle.version_book.specs.RowWords.{MayPut, Unsaid, WordPut, ReplyPut, hand_started}
use Rattle.version_book.proofs.WordLaws.{words-other, word-other, row-other, no-row, nodes-store}
use Rattle.version_book.proofs.Setting.{same_stores}

-- ---- one word

module _ {v v' : View} {name i value : ℕ} (drawn : contains v.hand.names name ≡ true) (s : Stored v v' name i value) where
  -- the row is what the word makes it
  pub stored_words : words_at v'.seen name ≡ words_at (store_word v.seen name i value) name
  stored_words = s.words name drawn

  pub stored_row : row_at v'.seen name ≡ row_at (store_word v.seen name i value) name
  stored_row = ap (row_of name) stored_words

  pub stored_other : (j : ℕ) → j ≢ i → word_at v'.seen name j ≡ word_at v.seen name j
  stored_other j ne = ap (λ ws. word ws j) stored_words ∙ word-other v.seen name i value j ne

  pub stored_on : OnRow v v' name
  stored_on = record {
    grows = s.grows;
    others = λ m ne held. s.words m held ∙ words-other v.seen name i value m ne;
    about = s.about;
    refusals = s.refusals;
    alone = λ alone. (let same = s.alone alone in record {
      nodes = ap (λ (w : World). w.nodes) same.0 ∙ nodes-store v.seen name i value;
      others = λ m ne. ap (λ w. row_at w m) same.0 ∙ row-other v.seen name i value m ne;
      drawn = same.1;
      named = same.2;
    });
  }

-- steps on one row, one after another
pub on_trans : {a b c : View} {name : ℕ} → b.hand.names ≡ a.hand.names → OnRow a b name → OnRow b c name → OnRow a c name
on_trans {a} {b} {c} {name} names f g = record {
  grows = grows_trans f.grows g.grows;
  others = λ i ne held. g.others i ne (ap (λ xs. contains xs i) names ∙ held) ∙ f.others i ne held;
  about = g.about ∙ f.about;
  refusals = g.refusals ∙ f.refusals;
  alone = λ alone. (let p = f.alone alone in let q = g.alone (ap (λ (t : About). t.alone) f.about ∙ alone) in record {
    nodes = q.nodes ∙ p.nodes;
    others = λ i ne. q.others i ne ∙ p.others i ne;
    drawn = q.drawn ∙ p.drawn;
    named = q.named ∙ p.named;
  });
}

-- ---- the hand

-- only the names of the caller's rows change
pub mine_only : (c : Option ℕ) (name i : ℕ) (h : Hand) → hand_mine c name i h ≡ record h { mine = (hand_mine c name i h).mine }
mine_only None name i h = refl
mine_only (Some caller) name i h = refl

pub mine_later : (c : Option ℕ) (name i : ℕ) (h : Hand) → 1 ≤ i → hand_mine c name i h ≡ h
mine_later None name i h pos = refl
mine_later (Some caller) name i h pos = rw (ne_eqb i 0 (λ z. absurd (omega arith))) refl

-- a word that doesn't end a row leaves the numbers of an add in vain
vain_kept : (o : Option Row) (f : Option Full) → vain_after false o f ≡ f
vain_kept o None = refl
vain_kept o (Some f) = refl

with_vain : (h : Hand) (f : Option Full) → f ≡ h.vain → record h { vain = f } ≡ h
with_vain h f e = rw e refl

-- what a stored word does to the hand, by whether it begins or ends a row
inner_hand : (w : World) (h : Hand) (name i value : ℕ) → begins_row i value ≡ false → ends_row i ≡ false → hand_stored w h name i value ≡ h
inner_hand w h name i value e f = by (begins_row i value) (ends_row i) e f
  where
    by : (b c : Bool) → b ≡ false → c ≡ false → elim b [ true ↦ hand_begun h name (due_at w name) (direct_at w name) | false ↦ elim c [ true ↦ hand_ended h name | false ↦ h ] ] ≡ h
    by true c e f = absurd (true≢false e)
    by false true e f = absurd (true≢false f)
    by false false e f = refl

module _ {v v' : View} {name i value : ℕ} (s : Stored v v' name i value) where
  vain_stored : ends_row i ≡ false → v'.hand.vain ≡ v.hand.vain
  vain_stored other = s.vain ∙ (ap (λ b. vain_after b (row_at (store_word v.seen name i value) name) v.hand.vain) other ∙ vain_kept (row_at (store_word v.seen name i value) name) v.hand.vain)

  pub inner_stored : 1 ≤ i → ends_row i ≡ false → v'.hand ≡ v.hand
  inner_stored pos other =
      let none : begins_row i value ≡ false = later i pos in
      s.hand ∙ (mine_later v.about.caller name i _ pos ∙ (ap (λ (h : Hand). record h { vain = v'.hand.vain }) (inner_hand (store_word v.seen name i value) v.hand name i value none other) ∙ with_vain v.hand v'.hand.vain (vain_stored other)))
    where
      later : (j : ℕ) → 1 ≤ j → begins_row j value ≡ false
      later zero h = absurd (omega arith)
      later (suc j) h = refl

-- once word 0 is stored
first_hand : (w : World) (h : Hand) (name value : ℕ) (begun : Bool) (f : Option Full) → is_begun_word value ≡ begun → f ≡ h.vain → record (hand_stored w h name 0 value) { vain = f } ≡ cond begun (hand_begun h name (due_at w name) (direct_at w name)) h
first_hand w h name value begun f e same = by (is_begun_word value) e
  where
    by : (b : Bool) → b ≡ begun → record (elim b [ true ↦ hand_begun h name (due_at w name) (direct_at w name) | false ↦ h ]) { vain = f } ≡ cond begun (hand_begun h name (due_at w name) (direct_at w name)) h
    by true e = rw (same, ← e) refl
    by false e = rw (same, ← e) refl

-- its event counts as much whatever else has come meanwhile
stored_same : {v v' : View} {name i value : ℕ} → contains v.hand.names name ≡ true → Stored v v' name i value → IsLegal (store_word v.seen name i value) → IsLegal v'.seen → (table : Kind → Op → ℕ → ℕ → ℕ)
    → of_row table (store_word v.seen name i value) (row_at (store_word v.seen name i value) name) ≡ of_row table v'.seen (row_at v'.seen name)
stored_same {v} {v'} {name} {i} {value} drawn s legal legal' table =
    row_same (store_word v.seen name i value) v'.seen legal legal' stay table name (ap (option_and_then begun_of) (sym (stored_row drawn s)))
  where
    stay : (m : ℕ) (r : Row) → row_at (store_word v.seen name i value) m ≡ Some r → is_ended r.ending ≡ true → row_at v'.seen m ≡ Some r
    stay m r e f = ⊎_elim
        (λ eq. subst (λ n. row_at v'.seen n ≡ Some r) (sym eq) (stored_row drawn s ∙ subst (λ n. row_at (store_word v.seen name i value) n ≡ Some r) eq e))
        (λ ne. s.grows.ended m r (sym (row-other v.seen name i value m ne) ∙ e) f) (cases_eq m name)

pub first_stored : {v v' : View} {name value : ℕ} {begun : Bool} → contains v.hand.names name ≡ true → Stored v v' name 0 value → is_begun_word value ≡ begun → IsLegal (store_word v.seen name 0 value) → IsLegal v'.seen → v'.hand ≡ hand_started v v'.seen name begun
first_stored {v} {v'} {name} {value} {begun} drawn s is legal legal' =
    s.hand ∙ (ap (hand_mine v.about.caller name 0) (first_hand (store_word v.seen name 0 value) v.hand name value begun v'.hand.vain is (vain_stored s refl))
    ∙ (ap (λ n. hand_mine v.about.caller name 0 (cond begun (hand_begun v.hand name n (direct_at (store_word v.seen name 0 value) name)) v.hand)) (stored_same drawn s legal legal' due)
    ∙ ap (λ n. hand_mine v.about.caller name 0 (cond begun (hand_begun v.hand name (due_at v'.seen name) n) v.hand)) (stored_same drawn s legal legal' direct)))

-- ---- words that say nothing yet

-- words without an end word show the same row where their first three are the same
row-three : (name : ℕ) (ws vs : List ℕ) → word ws 0 ≡ word vs 0 → word ws 1 ≡ word vs 1 → word ws 2 ≡ word vs 2 → word ws 5 ≡ 0 → word vs 5 ≡ 0 → row_of name ws ≡ row_of name vs
row-three name ws vs a b c e f = by (op_of_word (word ws 0)) ∙ ap (λ w0. option_map (row_with name vs) (op_of_word w0)) a
  where
    by : (o : Option Op) → option_map (row_with name ws) o ≡ option_map (row_with name vs) o
    by None = refl
    by (Some op) = rw (a, b, c, e, f) refl

put_same : (v : View) (name i value : ℕ) → MayPut v name i value → row_at (store_word v.seen name i value) name ≡ row_at v.seen name
put_same v name i value m = ⊎_elim
    (λ l. no-row (store_word v.seen name i value) name (first ∙ m.once l) ∙ sym (no-row v.seen name (m.once l)))
    (λ l. row-three name (words_at (store_word v.seen name i value) name) (words_at v.seen name) first (word-other v.seen name i value 1 (λ e. absurd (omega arith))) (word-other v.seen name i value 2 (λ e. absurd (omega arith)))
    (word-other v.seen name i value 5 (λ e. m.inner (sym e)) ∙ m.open_yet) m.open_yet)
    (cases_lt i 3)
  where
    first : word_at (store_word v.seen name i value) name 0 ≡ word_at v.seen name 0
    first = word-other v.seen name i value 0 (λ e. absurd (omega (arith, m.later)))

pub may_put : (v : View) (name i value : ℕ) → IsLawfulView v → MayPut v name i value → MayStore v name i value
may_put v name i value law m =
    let well = same_stores v name i value law (put_same v name i value m) in
    record {
      drawn = m.drawn;
      word = m.word;
      fits = m.fits;
      once = m.once;
      caller = λ c e z. absurd (omega (arith, m.later, z));
      ended = λ e. absurd (true≢false (sym e ∙ ne_eqb i 5 m.inner));
      end = λ e. absurd (true≢false (sym e ∙ ne_eqb i 5 m.inner));
      legal = well.legal;
      roots = well.roots;
      plan = well.plan;
      plan_words = m.planned;
    }

pub word_put : (v v' : View) (name i value : ℕ) → MayPut v name i value → Stored v v' name i value → WordPut v v' name i value
word_put v v' name i value m s = record {
  unsaid = record {
    on = stored_on m.drawn s;
    row = stored_row m.drawn s ∙ put_same v name i value m;
    hand = inner_stored s m.later (ne_eqb i 5 m.inner);
  };
  here = s.word;
  others = stored_other m.drawn s;
}

pub unsaid_trans : {a b c : View} {name : ℕ} → Unsaid a b name → Unsaid b c name → Unsaid a c name
unsaid_trans f g = record {
  on = on_trans (ap (λ (h : Hand). h.names) f.hand) f.on g.on;
  row = g.row ∙ f.row;
  hand = g.hand ∙ f.hand;
}

-- a reply without a number, and one with it
pub reply_put : {v v' : View} {name w : ℕ} {reply : Reply} → WordPut v v' name 4 w → ((before : ℕ) → AreReplyWords w (number_after reply before) reply) → ((n : ℕ) → number_after reply n ≡ n) → ReplyPut v v' name reply
reply_put {v} {v'} {name} {w} {reply} p words none = record {
  unsaid = p.unsaid;
  here = rw p.here (subst (λ n. AreReplyWords w n reply) (none (word_at v'.seen name 7)) (words (word_at v'.seen name 7)));
  others = λ j four seven. p.others j four;
}

pub no_number : (reply : Reply) → ((n : ℕ) → reply ≡ Number n → ⊥) → (before : ℕ) → number_after reply before ≡ before
no_number (Number n) other before = absurd (other n refl)
no_number _ other before = refl

pub number_put : {v v' v'' : View} {name w n : ℕ} {reply : Reply} → WordPut v v' name 4 w → ((before : ℕ) → AreReplyWords w (number_after reply before) reply) → number_after reply 0 ≡ n → WordPut v' v'' name 7 n → ReplyPut v v'' name reply
number_put {v} {v'} {v''} {name} {w} {n} {reply} p words number q =
    let four : word_at v''.seen name 4 ≡ w = q.others 4 (λ z. absurd (omega arith)) ∙ p.here in
    record {
      unsaid = unsaid_trans p.unsaid q.unsaid;
      here = rw (four, q.here) (subst (λ k. AreReplyWords w k reply) number (words 0));
      others = λ j four seven. q.others j seven ∙ p.others j four;
    }
