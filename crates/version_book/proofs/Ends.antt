-- How a row is ended.
use Rattle.std.proofs.Common.{◌≡◌, ℕ, ◌<◌, ◌≤◌, refl, sym, ap, ◌∙◌, arith, eqb, Bool, true, false, cond, ◌&&◌, ◌||◌, Option, Some, None, List, [], ◌∷◌}
use Rattle.std.specs.Prelude.{leb, option_map}
use Rattle.std.specs.List.{list_all, list_any}
use Rattle.std.proofs.lemmas.Bool.{true≢false, eq-eqb, and_from, le-leb}
use Rattle.lazy_rec.specs.Tests.{is_some_and}
use Rattle.lazy_rec.specs.declared.events.Op.{Op}
use Rattle.lazy_rec.specs.declared.events.Event.{Event}
use Rattle.lazy_rec.specs.declared.events.Reply.{Reply}
use Rattle.lazy_rec.specs.Kinds.{bases}
use Rattle.heap_store.specs.declared.claims.OpenRow.{OpenRow}
use Rattle.heap_store.specs.World.{World, recs}
use Rattle.heap_store.specs.Rows.{Row, Ending, is_without_base, is_ended, reply_of, op_of_word, caller_of_word, is_begun_word, event_with, ending_of, row_with, row_of, row_at, word, words_at, word_at, store_word, is_answered}
use Rattle.heap_store.specs.Legal.{row_in_range}
use Rattle.heap_store.specs.Hand.{Hand, KeepsWords, contains, hand_ended}
use Rattle.heap_store.specs.View.{View, IsLawfulView}
use Rattle.heap_store.specs.RowCalls.{MayStore, Stored, EndsWell, was_refused, vain_after}
use Rattle.heap_store.proofs.ShowLaws.{one_value}
use Rattle.heap_store.proofs.HistoryLaws.{RowWell}
use Rattle.version_book.specs.RowSteps.{IsPlanned, IsWorking, RowEnded, begun_row, ended_row}
use Rattle.version_book.specs.RowWords.{Unsaid, WordPut, ReplyPut}
use Rattle.version_book.proofs.WordLaws.{word-other, word-same, whole-row}
use Rattle.version_book.proofs.Setting.{IsRooted, unanswered_well, set_stores}
use Rattle.version_book.proofs.Puts.{stored_on, stored_row, on_trans, mine_later}

-- ---- the end word

pub row_ended : (v v' : View) (name code : ℕ) → MayStore v name 5 code → Stored v v' name 5 code → (r : Row) → row_at (store_word v.seen name 5 code) name ≡ Some r → RowEnded v v' name r
row_ended v v' name code m s r e =
    let vain : v'.hand.vain ≡ vain_after true (Some r) v.hand.vain = s.vain ∙ ap (λ o. vain_after true o v.hand.vain) e in
    record {
      on = stored_on m.drawn s;
      here = stored_row m.drawn s ∙ e;
      hand = s.hand ∙ (mine_later v.about.caller name 5 _ (omega arith) ∙ ap (λ f. record (hand_ended v.hand name) { vain = f }) vain);
    }

-- words that were put before don't matter
pub ended_after : {v v' v'' : View} {name : ℕ} {r : Row} → Unsaid v v' name → RowEnded v' v'' name r → RowEnded v v'' name r
ended_after {name = name} {r = r} p e = record {
  on = on_trans (ap (λ (h : Hand). h.names) p.hand) p.on e.on;
  here = e.here;
  hand = e.hand ∙ ap (λ (h : Hand). record (hand_ended h name) { vain = vain_after true (Some r) h.vain }) p.hand;
}

-- ---- the row with its end word

record Back (name : ℕ) (ws : List ℕ) (r : Row) : Type 0 where
  op : Op
  op_is : op_of_word (word ws 0) ≡ Some op
  row_is : row_with name ws op ≡ r

back_of : (name : ℕ) (ws : List ℕ) (r : Row) → row_of name ws ≡ Some r → Back name ws r
back_of name ws r e = by (op_of_word (word ws 0)) refl e
  where
    by : (o : Option Op) → op_of_word (word ws 0) ≡ o → option_map (row_with name ws) o ≡ Some r → Back name ws r
    by None g h = cc
    by (Some op) g h = record { op = op; op_is = g; row_is = one_value _ _ h }

ended_is : (w w' : World) (name : ℕ) (r : Row) (ending : Ending) → row_at w name ≡ Some r
    → word_at w' name 0 ≡ word_at w name 0 → word_at w' name 1 ≡ word_at w name 1 → word_at w' name 2 ≡ word_at w name 2 → ending_of name (words_at w' name) ≡ ending
    → row_at w' name ≡ Some (record r { ending = ending })
ended_is w w' name r ending here a b c d =
    let k = back_of name (words_at w name) r here in
    let op : op_of_word (word_at w' name 0) ≡ Some k.op = ap op_of_word a ∙ k.op_is in
    let caller : caller_of_word (word_at w' name 0) ≡ r.caller = ap caller_of_word a ∙ ap (λ (t : Row). t.caller) k.row_is in
    let begun : is_begun_word (word_at w' name 0) ≡ r.begun = ap is_begun_word a ∙ ap (λ (t : Row). t.begun) k.row_is in
    let event : event_with (words_at w' name) k.op ≡ r.event = same_event (words_at w' name) (words_at w name) k.op b c ∙ ap (λ (t : Row). t.event) k.row_is in
    whole-row w' name k.op op ∙ ap Some (parts caller event begun d)
  where
    same_event : (ws vs : List ℕ) (op : Op) → word ws 1 ≡ word vs 1 → word ws 2 ≡ word vs 2 → event_with ws op ≡ event_with vs op
    same_event ws vs op f g = rw (f, g) refl

    parts : {x y : ℕ} {u v : Event} {p q : Bool} {s t : Ending} → x ≡ y → u ≡ v → p ≡ q → s ≡ t → ◌≡◌ {A = Row} (record { caller = x; event = u; begun = p; ending = s }) (record { caller = y; event = v; begun = q; ending = t })
    parts f g h i = rw (f, g, h, i) refl

-- with an end word the row has ended so
pub end_here : (v : View) (name code : ℕ) (r : Row) (ending : Ending) → row_at v.seen name ≡ Some r → ending_of name (words_at (store_word v.seen name 5 code) name) ≡ ending → row_at (store_word v.seen name 5 code) name ≡ Some (record r { ending = ending })
end_here v name code r ending here =
    ended_is v.seen (store_word v.seen name 5 code) name r ending here
    (word-other v.seen name 5 code 0 (λ z. absurd (omega arith))) (word-other v.seen name 5 code 1 (λ z. absurd (omega arith))) (word-other v.seen name 5 code 2 (λ z. absurd (omega arith)))

-- which the end word of a name in hand may make it
pub may_end : (v : View) (name code : ℕ) (r : Row) → IsLawfulView v → contains v.hand.names name ≡ true → 1 ≤ code → code ≤ 4 → row_at (store_word v.seen name 5 code) name ≡ Some r → is_ended r.ending ≡ true
    → EndsWell v name r → RowWell (recs v.seen) (row_at v.seen) name r → IsRooted v.seen r → IsPlanned v.about.plan name r.event → MayStore v name 5 code
may_end v name code r law drawn low high here ended ends well rooted planned =
    let stores = set_stores v name 5 code r law drawn here well rooted planned in
    record {
      drawn = drawn;
      word = omega arith;
      fits = and_from (leb 1 code) (leb code 4) (le-leb 1 code low) (le-leb code 4 high);
      once = λ l. absurd (omega arith);
      caller = λ c e z. absurd (omega arith);
      ended = λ _. ap (is_some_and (λ (t : Row). is_ended t.ending)) here ∙ ended;
      end = λ _. (r, here, ends);
      legal = stores.legal;
      roots = stores.roots;
      plan = stores.plan;
      plan_words = λ events p e f. (λ z. absurd (omega arith), λ z. absurd (omega arith));
    }

-- ---- the row that is worked on

-- a row that is begun follows the plan
pub row_planned : (v : View) (name : ℕ) (r : Row) → IsLawfulView v → row_at v.seen name ≡ Some r → IsPlanned v.about.plan name r.event
row_planned v name r law here events p = law.plan events p name r here

-- while the words of names in hand stay, and the row is the one that is worked on
pub working_kept : {v v' : View} {name : ℕ} {refused : Bool} (now : Bool) → IsWorking v name refused → KeepsWords v.hand v.seen v'.seen → v'.hand.claims ≡ [] → v'.hand.names ≡ v.hand.names → v'.hand.open_rows ≡ record { name = name; refused = now } ∷ [] → IsWorking v' name now
working_kept {v} {v'} {name} now k words claims names rows = record {
  claims = claims;
  open_rows = rows;
  drawn = ap (λ xs. contains xs name) names ∙ k.drawn;
  caller = k.caller;
  event = k.event;
  here = ap (row_of name) (words name k.drawn) ∙ k.here;
  end_word = ap (λ ws. word ws 5) (words name k.drawn) ∙ k.end_word;
  second_word = ap (λ ws. word ws 6) (words name k.drawn) ∙ k.second_word;
}

working_unsaid : {v v' : View} {name : ℕ} {refused : Bool} → IsWorking v name refused → Unsaid v v' name → word_at v'.seen name 5 ≡ word_at v.seen name 5 → word_at v'.seen name 6 ≡ word_at v.seen name 6 → IsWorking v' name refused
working_unsaid {name = name} k p five six = record {
  claims = ap (λ (h : Hand). h.claims) p.hand ∙ k.claims;
  open_rows = ap (λ (h : Hand). h.open_rows) p.hand ∙ k.open_rows;
  drawn = ap (λ (h : Hand). contains h.names name) p.hand ∙ k.drawn;
  caller = k.caller;
  event = k.event;
  here = p.row ∙ k.here;
  end_word = five ∙ k.end_word;
  second_word = six ∙ k.second_word;
}

-- once a word before the end word is put, or a reply
pub working_put : {v v' : View} {name i value : ℕ} {refused : Bool} → IsWorking v name refused → i < 5 → WordPut v v' name i value → IsWorking v' name refused
working_put k low p = working_unsaid k p.unsaid (p.others 5 (λ z. absurd (omega (arith, z, low)))) (p.others 6 (λ z. absurd (omega (arith, z, low))))

pub working_replied : {v v' : View} {name : ℕ} {reply : Reply} {refused : Bool} → IsWorking v name refused → ReplyPut v v' name reply → IsWorking v' name refused
working_replied k p = working_unsaid k p.unsaid (p.others 5 (λ z. absurd (omega arith)) (λ z. absurd (omega arith))) (p.others 6 (λ z. absurd (omega arith)) (λ z. absurd (omega arith)))

-- a begun row that ends without a version is well
pub refused_well : (v : View) (name caller : ℕ) (e : Event) (ending : Ending) → IsLawfulView v → row_at v.seen name ≡ Some (begun_row caller e) → row_in_range (ended_row caller e ending) ≡ true → is_without_base ending ≡ false → reply_of ending ≡ None
    → RowWell (recs v.seen) (row_at v.seen) name (ended_row caller e ending)
refused_well v name caller e ending law here range based none =
    unanswered_well (recs v.seen) (row_at v.seen) name (ended_row caller e ending) none range (law.legal.trim name _ here) (law.legal.bases name _ here) (rw based (by (is_ended ending) (law.legal.begun name _ here))) (law.legal.kinds name _ here)
  where
    by : (b : Bool) → list_all (is_answered (row_at v.seen)) (bases e) ≡ true → cond (b || true) (true && list_all (is_answered (row_at v.seen)) (bases e)) true ≡ true
    by true h = h
    by false h = h

-- whether a reserve was refused since it began
pub refused_is : (h : Hand) (name : ℕ) (refused : Bool) → h.open_rows ≡ record { name = name; refused = refused } ∷ [] → was_refused h name ≡ refused
refused_is h name refused e = ap (list_any (λ (o : OpenRow). eqb o.name name && o.refused)) e ∙ by (eqb name name) refused (eq-eqb name name refl)
  where
    by : (b c : Bool) → b ≡ true → (b && c) || false ≡ c
    by true true f = refl
    by true false f = refl
    by false c f = absurd (true≢false (sym f))

-- it may end so, with this end word
pub working_may : {v : View} {name : ℕ} {refused : Bool} (code : ℕ) (ending : Ending) (k : IsWorking v name refused) → IsLawfulView v → 1 ≤ code → code ≤ 4 → ending_of name (words_at (store_word v.seen name 5 code) name) ≡ ending → is_ended ending ≡ true
    → EndsWell v name (ended_row k.caller k.event ending) → RowWell (recs v.seen) (row_at v.seen) name (ended_row k.caller k.event ending) → IsRooted v.seen (ended_row k.caller k.event ending) → MayStore v name 5 code
working_may {v} {name} code ending k law low high is ended ends well rooted =
    may_end v name code (ended_row k.caller k.event ending) law k.drawn low high (end_here v name code (begun_row k.caller k.event) ending k.here is) ended ends well rooted (row_planned v name (begun_row k.caller k.event) law k.here)

-- the end word is there once it is stored
pub end_word : (v : View) (name code : ℕ) → IsLawfulView v → contains v.hand.names name ≡ true → word_at (store_word v.seen name 5 code) name 5 ≡ code
end_word v name code law drawn = let low = (law.hand.names name drawn).0 in word-same v.seen name 5 code low (law.words name low (law.names_low name drawn)) (omega arith)
