-- The ways in which a begun row ends.
use Rattle.std.proofs.Common.{◌≡◌, ℕ, ◌≤◌, ◌/◌, ◌%◌, ◌^◌, refl, sym, ap, ◌∙◌, arith, ltb, Bool, true, false, cond, ◌&&◌, Some, None}
use Rattle.std.proofs.lemmas.Bool.{eq-eqb, and_parts, and_from, le-leb, lt-ltb}
use Rattle.lazy_rec.specs.declared.events.Event.{Event}
use Rattle.lazy_rec.specs.declared.events.Reply.{Reply}
use Rattle.lazy_rec.specs.History.{is_second}
use Rattle.heap_store.specs.declared.versions.Version.{Version}
use Rattle.heap_store.specs.declared.claims.Full.{Full}
use Rattle.heap_store.specs.World.{World, recs}
use Rattle.heap_store.specs.Rows.{Row, Ending, answered, full, memory, ending_of, version_of, row_at, words_at, word_at, store_word}
use Rattle.heap_store.specs.Legal.{reply_in_range, ending_in_range, row_in_range}
use Rattle.heap_store.specs.View.{View, IsLawfulView, Refusals}
use Rattle.heap_store.specs.RowCalls.{MayStore}
use Rattle.heap_store.specs.Budget.{direct_at}
use Rattle.heap_store.specs.Causes.{given_back_count, IsFullCause}
use Rattle.heap_store.proofs.ShowLaws.{one_value}
use Rattle.heap_store.proofs.HistoryLaws.{RowWell}
use Rattle.version_book.specs.Words.{IsVersionWord, AreReplyWords}
use Rattle.version_book.specs.RowSteps.{IsWorking, Answers, RowEnded, begun_row, ended_row}
use Rattle.version_book.specs.RowWords.{Unsaid, WordPut, ReplyPut}
use Rattle.version_book.proofs.WordLaws.{word-other}
use Rattle.version_book.proofs.GrownRows.{row_known, answers_stay, cause_stays}
use Rattle.version_book.proofs.Setting.{unanswered_rooted}
use Rattle.version_book.proofs.Puts.{unsaid_trans}
use Rattle.version_book.proofs.Ends.{ended_after, end_here, end_word, working_put, working_replied, working_may, refused_well, refused_is}

-- what the end word makes of the row, after words that said nothing
done_after : {v v' v'' : View} {name : ℕ} (code : ℕ) (ending : Ending) → Unsaid v v' name → ending_of name (words_at (store_word v'.seen name 5 code) name) ≡ ending
    → ((r : Row) → row_at (store_word v'.seen name 5 code) name ≡ Some r → RowEnded v' v'' name r) → (r : Row) → row_at v.seen name ≡ Some r → RowEnded v v'' name (record r { ending = ending })
done_after {v' = v'} {name = name} code ending p is done r here = ended_after p (done (record r { ending = ending }) (end_here v' name code r ending (p.row ∙ here) is))

-- a begun row's caller and argument are in range, and so is the ended row where its ending is
ended_in_range : (v : View) (name caller : ℕ) (e : Event) (ending : Ending) → IsLawfulView v → row_at v.seen name ≡ Some (begun_row caller e) → ending_in_range ending ≡ true → row_in_range (ended_row caller e ending) ≡ true
ended_in_range v name caller e ending law here h = and_from _ _ (and_parts (ltb caller 64 && ltb e.arg (2 ^ 64)) true (law.legal.ranges name _ here)).0 h

-- ---- a reply

reply_ending : (w : World) (name w3 : ℕ) (reply : Reply) (version : Version) → word_at w name 5 ≡ 1 → word_at w name 3 ≡ w3 → word_at w name 6 ≡ 0 → IsVersionWord w3 version.root version.kind version.size → AreReplyWords (word_at w name 4) (word_at w name 7) reply → version.name ≡ name
    → ending_of name (words_at w name) ≡ answered reply version None
reply_ending w name w3 reply version a b six v r n = rw (a, b, six, v.version_is name, r.is, r.reply_is, ← n) refl

-- such a row has a first version alone
only_first : (m : ℕ) (reply : Reply) (u t : Version) → version_of m (answered reply u None) ≡ Some t → (is_second m ≡ false) × (u ≡ t)
only_first m reply u t z = by (is_second m) z
  where
    by : (b : Bool) → cond b None (Some u) ≡ Some t → (b ≡ false) × (u ≡ t)
    by true y = cc
    by false y = (refl, one_value u t y)

answered_well : (v : View) (name caller : ℕ) (e : Event) (reply : Reply) (u : Version) → IsLawfulView v → row_at v.seen name ≡ Some (begun_row caller e) → reply_in_range reply ≡ true → Answers v.seen e reply u → RowWell (recs v.seen) (row_at v.seen) name (ended_row caller e (answered reply u None))
answered_well v name caller e reply u law here reply_fits a = record {
  range = ended_in_range v name caller e (answered reply u None) law here reply_fits;
  trim = law.legal.trim name _ here;
  smaller = law.legal.bases name _ here;
  begun = law.legal.begun name _ here;
  kind = law.legal.kinds name _ here;
  second = rw a.unsplit refl;
  version = λ m t z. (let k = only_first m reply u t z in rw (k.0, ← k.1) (and_from _ _ (and_from _ _ (and_from _ _ a.kind (eq-eqb _ _ a.size)) a.in_range) a.value));
  reply = λ told z. one_value told reply (sym z) ∙ a.reply_is;
  meaning = λ m t z. (let k = only_first m reply u t z in rw (k.0, ← k.1) a.meaning);
}

module _ {v0 v1 v2 : View} {w3 : ℕ} {reply : Reply} {version : Version} (k : IsWorking v0 version.name false) (p3 : WordPut v0 v1 version.name 3 w3) (p4 : ReplyPut v1 v2 version.name reply)
    (version_word : IsVersionWord w3 version.root version.kind version.size) (law : IsLawfulView v2) where
  reply_words : Unsaid v0 v2 version.name
  reply_words = unsaid_trans p3.unsaid p4.unsaid

  reply_working : IsWorking v2 version.name false
  reply_working = working_replied (working_put k (omega arith) p3) p4

  reply_end : ending_of version.name (words_at (store_word v2.seen version.name 5 1) version.name) ≡ answered reply version None
  reply_end =
      let other : (j : ℕ) → (j ≡ 5 → ⊥) → word_at (store_word v2.seen version.name 5 1) version.name j ≡ word_at v2.seen version.name j = word-other v2.seen version.name 5 1 in
      reply_ending (store_word v2.seen version.name 5 1) version.name w3 reply version
      (end_word v2 version.name 1 law reply_working.drawn)
      (other 3 (λ z. absurd (omega arith)) ∙ (p4.others 3 (λ z. absurd (omega arith)) (λ z. absurd (omega arith)) ∙ p3.here))
      (other 6 (λ z. absurd (omega arith)) ∙ reply_working.second_word)
      version_word (rw (other 4 (λ z. absurd (omega arith)), other 7 (λ z. absurd (omega arith))) p4.here) refl

  pub reply_may : IsLawfulView v0 → reply_in_range reply ≡ true → ((r : Row) → row_at v0.seen version.name ≡ Some r → Answers v0.seen r.event reply version) → MayStore v2 version.name 5 1
  reply_may law0 reply_fits answers =
      let w = reply_working in
      let here : row_at v0.seen version.name ≡ Some (begun_row w.caller w.event) = sym reply_words.row ∙ w.here in
      let a = answers_stay reply_words.on.grows law0.world law0.legal w.event reply version (row_known v0.seen law0.legal version.name (begun_row w.caller w.event) here refl) (answers (begun_row w.caller w.event) here) in
      working_may 1 (answered reply version None) w law (omega arith) (omega arith) reply_end refl
      (record { idle = w.claims; full_where = sym (refused_is v2.hand version.name false w.open_rows); numbers = λ d n z. cc; cause = tt })
      (answered_well v2 version.name w.caller w.event reply version law w.here reply_fits a)
      (record {
        roots = λ m u z. (let same = only_first m reply version u z in rw (← same.1) a.root);
        looked = λ told z. (let f = one_value told reply (sym z) in rw f a.looked);
      })

  pub reply_done : {v3 : View} → ((r : Row) → row_at (store_word v2.seen version.name 5 1) version.name ≡ Some r → RowEnded v2 v3 version.name r) → (r : Row) → row_at v0.seen version.name ≡ Some r → RowEnded v0 v3 version.name (record r { ending = answered reply version None })
  reply_done = done_after 1 (answered reply version None) reply_words reply_end

-- ---- no version

-- the numbers of a full row
pub full_drawn : {x y d n : ℕ} → full x y ≡ full d n → x ≡ d
full_drawn e = cc

pub full_wanted : {x y d n : ℕ} → full x y ≡ full d n → y ≡ n
full_wanted e = cc

module _ {v0 v1 : View} {name w4 : ℕ} (refusal : Full) (k : IsWorking v0 name true) (p4 : WordPut v0 v1 name 4 w4) (drawn : w4 % 2 ^ 32 ≡ refusal.drawn) (wanted : w4 / 2 ^ 32 ≡ refusal.wanted) (law : IsLawfulView v1) where
  full_working : IsWorking v1 name true
  full_working = working_put k (omega arith) p4

  full_end : ending_of name (words_at (store_word v1.seen name 5 2) name) ≡ full refusal.drawn refusal.wanted
  full_end =
      let a : word_at (store_word v1.seen name 5 2) name 5 ≡ 2 = end_word v1 name 2 law full_working.drawn in
      let b : word_at (store_word v1.seen name 5 2) name 4 ≡ w4 = word-other v1.seen name 5 2 4 (λ z. absurd (omega arith)) ∙ p4.here in
      rw (a, b, drawn, wanted) refl

  pub full_may : IsLawfulView v0 → refusal ≡ v0.refusals.last → refusal.drawn ≤ 260000000 → IsFullCause v0.seen (direct_at v0.seen name) refusal.wanted → MayStore v1 name 5 2
  full_may law0 last few cause =
      let w = full_working in
      let l : refusal ≡ v1.refusals.last = last ∙ sym (ap (λ (r : Refusals). r.last) p4.unsaid.on.refusals) in
      let range = ended_in_range v1 name w.caller w.event (full refusal.drawn refusal.wanted) law w.here (and_from _ _ (le-leb refusal.drawn 260000000 few) (lt-ltb 0 refusal.wanted cause.asked)) in
      working_may 2 (full refusal.drawn refusal.wanted) w law (omega arith) (omega arith) full_end refl
      (record {
        idle = w.claims;
        full_where = sym (refused_is v1.hand name true w.open_rows);
        numbers = λ d n z. (sym (full_drawn z) ∙ ap (λ (f : Full). f.drawn) l, sym (full_wanted z) ∙ ap (λ (f : Full). f.wanted) l);
        cause = cause_stays p4.unsaid.on.grows law0.legal law.legal name (begun_row k.caller k.event) k.here refl (full refusal.drawn refusal.wanted) cause;
      })
      (refused_well v1 name w.caller w.event (full refusal.drawn refusal.wanted) law w.here range refl refl)
      (unanswered_rooted v1.seen (ended_row w.caller w.event (full refusal.drawn refusal.wanted)) refl)

  pub full_done : {v2 : View} → ((r : Row) → row_at (store_word v1.seen name 5 2) name ≡ Some r → RowEnded v1 v2 name r) → (r : Row) → row_at v0.seen name ≡ Some r → RowEnded v0 v2 name (record r { ending = full refusal.drawn refusal.wanted })
  full_done = done_after 2 (full refusal.drawn refusal.wanted) p4.unsaid full_end

module _ {v : View} {name : ℕ} (k : IsWorking v name false) (law : IsLawfulView v) where
  memory_end : ending_of name (words_at (store_word v.seen name 5 3) name) ≡ memory
  memory_end = let a = end_word v name 3 law k.drawn in rw a refl

  pub memory_may : 64 ≤ given_back_count v.seen → MayStore v name 5 3
  memory_may cause =
      working_may 3 memory k law (omega arith) (omega arith) memory_end refl
      (record { idle = k.claims; full_where = sym (refused_is v.hand name false k.open_rows); numbers = λ d n z. cc; cause = cause })
      (refused_well v name k.caller k.event memory law k.here (ended_in_range v name k.caller k.event memory law k.here refl) refl refl)
      (unanswered_rooted v.seen (ended_row k.caller k.event memory) refl)

  pub memory_done : {v' : View} → ((r : Row) → row_at (store_word v.seen name 5 3) name ≡ Some r → RowEnded v v' name r) → (r : Row) → row_at v.seen name ≡ Some r → RowEnded v v' name (record r { ending = memory })
  memory_done done r here = done (record r { ending = memory }) (end_here v name 3 r memory here memory_end)
