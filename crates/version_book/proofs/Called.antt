-- A call from its beginning to its end: what ending its row asks, and what the call leaves.
use Rattle.std.proofs.Common.{◌≡◌, ◌≢◌, ℕ, ◌+◌, ◌<◌, ◌≤◌, refl, sym, ap, ◌∙◌, subst, arith, eqb, leb, ltb, not, Bool, true, false, cond, ◌&&◌, Option, Some, None, Result, Ok, Err, List, [], ◌∷◌, map, ⊎_elim}
use Rattle.std.specs.Prelude.{IfOk, option_and_then}
use Rattle.std.proofs.lemmas.Bool.{true≢false, and_from, or_left, or_right, or_cases, eq-eqb, eqb-true, le-leb, lt-ltb}
use Rattle.lazy_rec.specs.declared.events.Kind.{Kind}
use Rattle.lazy_rec.specs.declared.events.Event.{Event}
use Rattle.lazy_rec.specs.declared.records.Rec.{Rec}
use Rattle.heap_store.specs.declared.claims.Full.{Full}
use Rattle.heap_store.specs.declared.claims.OpenRow.{OpenRow}
use Rattle.heap_store.specs.World.{World, recs, holds}
use Rattle.lazy_rec.proofs.HistoryLaws.{is_second-first, event_name-first}
use Rattle.heap_store.specs.Rows.{Row, Ending, version_of, version_at, full, is_full, row_of, row_at, words_at, word}
use Rattle.heap_store.specs.Growth.{Grows}
use Rattle.heap_store.specs.Hand.{Hand, contains, without, rows_after_end, hand_ended, hand_mine, hand_begun}
use Rattle.heap_store.specs.Budget.{due_at, direct_at}
use Rattle.heap_store.specs.Causes.{IsFullCause, HasCause}
use Rattle.heap_store.specs.RowCalls.{vain_after}
use Rattle.heap_store.specs.View.{View, About, Refusals, IsLawfulView, SameRows}
use Rattle.heap_store.proofs.GrowthLaws.{at_true, grows_trans}
use Rattle.heap_store.proofs.RowBudget.{room_rises}
use Rattle.heap_store.proofs.RoomLaws.{all_published}
use Rattle.heap_store.proofs.CauseLaws.{total_nodes_grows}
use Rattle.heap_store.proofs.Steps.{alone_of}
use Rattle.force_engine.specs.declared.solo.GiveUp.{GiveUp}
use Rattle.force_engine.specs.declared.solo.GiveUp.TheVariants as causes
use Rattle.version_book.specs.declared.answers.Entry.{Entry}
use Rattle.version_book.specs.declared.answers.Refuse.{Refuse}
use Rattle.version_book.specs.declared.event_work.Outcome.{Outcome}
use Rattle.version_book.specs.Closed.{IsRefusal}
use Rattle.version_book.specs.Pass.{Pass}
use Rattle.version_book.specs.Works.{Worked, Balked, Stopped}
use Rattle.version_book.specs.RowSteps.{IsCaller, IsDrawn, IsWorking, Answers, Begun, RowEnded, begun_row, ended_row}
use Rattle.version_book.specs.Finish.{version_made, ending_made, answer_made, MayEnd}
use Rattle.version_book.specs.Calls.{IsIdle, Called, Ended, ending_told, is_named}
use Rattle.heap_store.proofs.ShowLaws.{one_value}
use Rattle.version_book.proofs.GrownRows.{direct_stays, cause_stays}
use Rattle.version_book.proofs.Begins.{begun_hand, begun_working}
use Rattle.version_book.proofs.Ends.{working_kept}
use Rattle.version_book.proofs.Endings.{full_drawn, full_wanted}
use Rattle.version_book.proofs.Works.{worked_claims, worked_names, words_same}

-- ---- how the work came out

-- whatever the work was, it left the rest as it was, or was stopped
abbrev pub CameOut : View → View → ℕ → Result Outcome GiveUp → Type 0
CameOut a b most (Ok o) = Worked a b
CameOut a b most (Err cause) = Stopped a b most cause

-- the row is still the one that is worked on, now with a refusal or without
abbrev was_full : Result Outcome GiveUp → Bool
was_full (Err (causes.Full _)) = true
was_full _ = false

refused_open : (name : ℕ) (rows : List OpenRow) → rows ≡ record { name = name; refused = false } ∷ [] → map (λ (o : OpenRow). record o { refused = true }) rows ≡ record { name = name; refused = true } ∷ []
refused_open name rows e = rw e refl

pub still_working : {a b : View} {name : ℕ} (most : ℕ) (made : Result Outcome GiveUp) → IsWorking a name false → CameOut a b most made → IsWorking b name (was_full made)
still_working most (Ok o) k w = working_kept false k w.words (worked_claims w ∙ k.claims) (worked_names w) (ap (λ (h : Hand). h.open_rows) w.hand ∙ k.open_rows)
still_working most (Err causes.NoMemory) k s = working_kept false k s.worked.words (worked_claims s.worked ∙ k.claims) (worked_names s.worked) (ap (λ (h : Hand). h.open_rows) s.worked.hand ∙ k.open_rows)
still_working {a} {b} {name} most (Err (causes.Full refusal)) k s = working_kept true k s.words (ap (λ (h : Hand). h.claims) s.hand ∙ k.claims) (ap (λ (h : Hand). h.names) s.hand) (ap (λ (h : Hand). h.open_rows) s.hand ∙ refused_open name a.hand.open_rows k.open_rows)

-- what all of that left as it was
record Left (a b : View) (made : Result Outcome GiveUp) : Type 0 where
  pub grows : Grows a.seen b.seen
  pub words : (i : ℕ) → contains a.hand.names i ≡ true → words_at b.seen i ≡ words_at a.seen i
  pub names : b.hand.names ≡ a.hand.names
  pub mine : b.hand.mine ≡ a.hand.mine
  pub reserved : b.hand.reserved ≡ a.hand.reserved
  pub about : b.about ≡ a.about
  pub rows : a.about.alone ≡ true → SameRows a b

left : {a b : View} (most : ℕ) (made : Result Outcome GiveUp) → CameOut a b most made → Left a b made
left most (Ok o) w = record { grows = w.grows; words = w.words; names = worked_names w; mine = ap (λ (h : Hand). h.mine) w.hand; reserved = ap (λ (h : Hand). h.reserved) w.hand; about = w.about; rows = w.rows }
left most (Err (causes.Full refusal)) w = record { grows = w.grows; words = w.words; names = ap (λ (h : Hand). h.names) w.hand; mine = ap (λ (h : Hand). h.mine) w.hand; reserved = ap (λ (h : Hand). h.reserved) w.hand; about = w.about; rows = w.rows }
left most (Err causes.NoMemory) s = let w = s.worked in record { grows = w.grows; words = w.words; names = worked_names w; mine = ap (λ (h : Hand). h.mine) w.hand; reserved = ap (λ (h : Hand). h.reserved) w.hand; about = w.about; rows = w.rows }

pub came_grows : (a b : View) (most : ℕ) (made : Result Outcome GiveUp) → CameOut a b most made → Grows a.seen b.seen
came_grows a b most made came = (left most made came).grows

-- the number of an add in vain leaves the hand with the row that ends full with it
vain_none : (a b : View) (most : ℕ) (made : Result Outcome GiveUp) (name : ℕ) (kind : Kind) (r : Row) → CameOut a b most made → a.hand.vain ≡ None → r.ending ≡ ending_made name kind made → vain_after true (Some r) b.hand.vain ≡ None
vain_none a b most (Ok o) name kind r w none e = ap (vain_after true (Some r)) (ap (λ (h : Hand). h.vain) w.hand ∙ none)
vain_none a b most (Err causes.NoMemory) name kind r w none e = ap (vain_after true (Some r)) (ap (λ (h : Hand). h.vain) w.worked.hand ∙ none)
vain_none a b most (Err (causes.Full refusal)) name kind r w none e = ⊎_elim
    (λ same. ap (vain_after true (Some r)) (same ∙ none))
    (λ told. ap (vain_after true (Some r)) told ∙ ap (λ (x : Ending). vain_after true (Some (record r { ending = x })) (Some refusal)) e ∙ rw (eq-eqb refusal.drawn refusal.drawn refl, eq-eqb refusal.wanted refusal.wanted refl) refl)
    w.vain

place_low : {v : View} (p : ℕ) (test : Rec → Bool) → IsLawfulView v → holds (recs v.seen) p test ≡ true → p < 4194304
place_low {v} p test law h = let k = at_true test (recs v.seen p) h in law.published_low p (rw k.1 refl)

-- ---- what ending the row asks

-- a begun row may take as many places wherever it is seen, and so the cause of its refusal stays
came_cause : (a b : View) (name most : ℕ) (kind : Kind) (made : Result Outcome GiveUp) → IsLawfulView a → IsLawfulView b → IsWorking a name false → direct_at a.seen name ≡ most → CameOut a b most made → HasCause b.seen (direct_at b.seen name) (ending_made name kind made)
came_cause a b name most kind (Ok o) law law' k own w = tt
came_cause a b name most kind (Err causes.NoMemory) law law' k own s = s.cause
came_cause a b name most kind (Err (causes.Full refusal)) law law' k own s =
    let same = sym own ∙ direct_stays s.grows law.legal law'.legal name (begun_row k.caller k.event) k.here refl in
    subst (λ n. IsFullCause b.seen n refusal.wanted) same s.cause

pub may_end : (a b : View) (caller name most : ℕ) (event : Event) (kind : Kind) (made : Result Outcome GiveUp) → IsLawfulView a → IsLawfulView b → IsWorking a name false → row_at a.seen name ≡ Some (begun_row caller event) → direct_at a.seen name ≡ most → CameOut a b most made
    → IfOk made (λ o. Answers b.seen event o.reply (version_made name kind o)) → MayEnd b name kind made
may_end a b caller name most event kind (Ok o) law law' k was own w answers =
    let here = ap (row_of name) (w.words name k.drawn) ∙ was in
    record {
      working = still_working most (Ok o) k w;
      answers = λ r e. (let same : begun_row caller event ≡ r = one_value (begun_row caller event) r (sym here ∙ e) in subst (λ (t : Row). Answers b.seen t.event o.reply (version_made name kind o)) same answers);
      place = place_low o.root.0 _ law' answers.root;
    }
may_end a b caller name most event kind (Err (causes.Full refusal)) law law' k was own s answers = record {
  working = still_working most (Err (causes.Full refusal)) k s;
  last = sym s.last;
  drawn = s.low;
  cause = came_cause a b name most kind (Err (causes.Full refusal)) law law' k own s;
}
may_end a b caller name most event kind (Err causes.NoMemory) law law' k was own s answers = record { working = still_working most (Err causes.NoMemory) k s; cause = s.cause }

-- ---- what a call leaves

-- the numbers of a full row, which stay right as the world grows
balked_numbers : {a b c : View} {most : ℕ} {refusal : Full} → IsLawfulView b → IsLawfulView c → Grows b.seen c.seen → a.about.alone ≡ true → b.hand.reserved ≡ [] → Balked a b most refusal → IsRefusal c.seen a.about.capacity refusal.drawn refusal.wanted
balked_numbers {a} {b} {c} law law' g alone none s =
    let drawn = s.drawn alone in
    record {
      no_room = omega (arith, s.no_room, ap (λ (t : About). t.capacity) s.about);
      there = omega (arith, drawn, all_published b law (alone_of a b s.about alone) none, total_nodes_grows g);
      within = omega (arith, s.within alone, room_rises b.seen c.seen law.legal law'.legal g.ended g.begun);
    }

ended_open : (h : Hand) (name : ℕ) (refused : Bool) → h.open_rows ≡ record { name = name; refused = refused } ∷ [] → (hand_ended h name).open_rows ≡ []
ended_open h name refused e = ap (rows_after_end name) e ∙ rw (eq-eqb name name refl) refl

-- the names that are left are others
pub left_name : (names : List ℕ) (name i : ℕ) → contains (without name (name + 1) names) i ≡ true → (contains names i ≡ true) × (i ≢ name)
left_name [] name i h = absurd (true≢false (sym h))
left_name (x ∷ xs) name i h = by (λ k. (let ih = left_name xs name i k in (or_right (eqb x i) _ ih.0, ih.1))) (leb name x && ltb x (name + 1)) refl h
  where
    other : leb name x && ltb x (name + 1) ≡ false → x ≡ i → i ≢ name
    other out same z = absurd (true≢false (sym (and_from _ _ (le-leb name x (omega (arith, same, z))) (lt-ltb x (name + 1) (omega (arith, same, z)))) ∙ out))

    by : (contains (without name (name + 1) xs) i ≡ true → (contains (x ∷ xs) i ≡ true) × (i ≢ name)) → (b : Bool) → leb name x && ltb x (name + 1) ≡ b → contains (cond (not b) (x ∷ without name (name + 1) xs) (without name (name + 1) xs)) i ≡ true → (contains (x ∷ xs) i ≡ true) × (i ≢ name)
    by rest true e k = rest k
    by rest false e k = ⊎_elim
        (λ here. (or_left (eqb x i) _ here, other e (eqb-true x i here)))
        (λ later. rest later)
        (or_cases (eqb x i) (contains (without name (name + 1) xs) i) k)

same_mine : (c : Option ℕ) (name : ℕ) (h now : Hand) → now.mine ≡ h.mine → (hand_mine c name 0 now).mine ≡ (hand_mine c name 0 h).mine
same_mine None name h now e = e
same_mine (Some c) name h now e = ap (λ m. name ∷ m) e

-- the name of a ticket
pub drawn_name : {v : View} {name : ℕ} → IsIdle v → contains v.hand.names name ≡ true → IsDrawn v name
drawn_name {v} {name} idle drawn = record { claims = idle.claims; open_rows = idle.open_rows; drawn = drawn; empty = λ j. idle.unused name j drawn }

module _ (v0 v1 v2 v3 : View) (caller name most : ℕ) (e : Event) (kind : Kind) (made : Result Outcome GiveUp) (idle : IsIdle v0) (drawn : contains v0.hand.names name ≡ true) (begun : Begun v0 v1 caller name e)
    (came : CameOut v1 v2 most made) (end : (r : Row) → row_at v2.seen name ≡ Some r → RowEnded v2 v3 name (record r { ending = ending_made name kind made })) where
  working : IsWorking v1 name false
  working = begun_working begun (drawn_name idle drawn)

  l : Left v1 v2 made
  l = left most made came

  k2 : IsWorking v2 name (was_full made)
  k2 = still_working most made working came

  here2 : row_at v2.seen name ≡ Some (begun_row caller e)
  here2 = ap (row_of name) (l.words name working.drawn) ∙ begun.here

  abbrev pub row : Row
  row = ended_row caller e (ending_made name kind made)

  done : RowEnded v2 v3 name row
  done = end (begun_row caller e) here2

  pub last_grows : Grows v2.seen v3.seen
  last_grows = done.on.grows

  pub ended_here : row_at v3.seen name ≡ Some row
  ended_here = done.here

  grown : Grows v0.seen v3.seen
  grown = grows_trans begun.on.grows (grows_trans l.grows done.on.grows)

  about_is : v3.about ≡ v0.about
  about_is = done.on.about ∙ (l.about ∙ begun.on.about)

  begun_rest : v1.hand ≡ record (hand_begun v0.hand name (due_at v1.seen name) (direct_at v1.seen name)) { mine = v1.hand.mine }
  begun_rest = begun_hand begun

  names_is : v3.hand.names ≡ without name (name + 1) v0.hand.names
  names_is = ap (λ (h : Hand). h.names) done.hand ∙ ap (without name (name + 1)) (l.names ∙ ap (λ (h : Hand). h.names) begun_rest)

  mine_is : v3.hand.mine ≡ (hand_mine v0.about.caller name 0 v0.hand).mine
  mine_is = ap (λ (h : Hand). h.mine) done.hand ∙ (l.mine ∙ (ap (λ (h : Hand). h.mine) begun.hand ∙ same_mine v0.about.caller name v0.hand (hand_begun v0.hand name (due_at v1.seen name) (direct_at v1.seen name)) refl))

  -- the words of the names that are left are as before
  words_left : (i : ℕ) → contains v0.hand.names i ≡ true → i ≢ name → words_at v3.seen i ≡ words_at v0.seen i
  words_left i held ne =
      let held1 = ap (λ (h : Hand). contains h.names i) begun_rest ∙ held in
      let held2 = ap (λ ns. contains ns i) l.names ∙ held1 in
      done.on.others i ne held2 ∙ (l.words i held1 ∙ begun.on.others i ne held)

  pub called_idle : IsIdle v3
  called_idle = record {
    claims = ap (λ (h : Hand). h.claims) done.hand ∙ k2.claims;
    open_rows = ap (λ (h : Hand). h.open_rows) done.hand ∙ ended_open v2.hand name (was_full made) k2.open_rows;
    reserved = ap (λ (h : Hand). h.reserved) done.hand ∙ (l.reserved ∙ (ap (λ (h : Hand). h.reserved) begun_rest ∙ idle.reserved));
    vain = ap (λ (h : Hand). h.vain) done.hand ∙ vain_none v1 v2 most made name kind row came (ap (λ (h : Hand). h.vain) begun_rest ∙ idle.vain) refl;
    unused = λ i j held. (let other = left_name v0.hand.names name i (ap (λ ns. contains ns i) (sym names_is) ∙ held) in ap (λ ws. word ws j) (words_left i other.0 other.1) ∙ idle.unused i j other.0);
  }

  pub called_caller : IsCaller v0 caller → IsCaller v3 caller
  called_caller c = record { small = c.small; own = λ n z. c.own n (sym (ap (λ (t : About). t.caller) about_is) ∙ z) }

  module _ (law1 : IsLawfulView v1) (law2 : IsLawfulView v2) (law3 : IsLawfulView v3) (own : direct_at v1.seen name ≡ most) where
    same_rows : v0.about.alone ≡ true → SameRows v1 v2
    same_rows alone = l.rows (alone_of v0 v1 begun.on.about alone)

    alone2 : v0.about.alone ≡ true → v2.about.alone ≡ true
    alone2 alone = alone_of v1 v2 l.about (alone_of v0 v1 begun.on.about alone)

    reserved2 : v2.hand.reserved ≡ []
    reserved2 = l.reserved ∙ (ap (λ (h : Hand). h.reserved) begun_rest ∙ idle.reserved)

    numbers : v0.about.alone ≡ true → (made : Result Outcome GiveUp) → CameOut v1 v2 most made → (d w : ℕ) → ending_made name kind made ≡ full d w → IsRefusal v3.seen v0.about.capacity d w
    numbers alone (Ok o) c d w z = cc
    numbers alone (Err causes.NoMemory) c d w z = cc
    numbers alone (Err (causes.Full refusal)) c d w z =
        let n = balked_numbers law2 law3 done.on.grows (alone_of v0 v1 begun.on.about alone) reserved2 c in
        let n' = subst (λ (t : About). IsRefusal v3.seen t.capacity refusal.drawn refusal.wanted) begun.on.about n in
        rw (← full_drawn z, ← full_wanted z) n'

    unrefused : (made : Result Outcome GiveUp) → CameOut v1 v2 most made → is_full (ending_made name kind made) ≡ false → v2.refusals ≡ v1.refusals
    unrefused (Ok o) c z = c.refusals
    unrefused (Err causes.NoMemory) c z = c.worked.refusals
    unrefused (Err (causes.Full refusal)) c z = absurd (true≢false z)

    refused : (made : Result Outcome GiveUp) → CameOut v1 v2 most made → (d w : ℕ) → ending_made name kind made ≡ full d w → (v2.refusals.last.drawn ≡ d) × (v2.refusals.last.wanted ≡ w)
    refused (Ok o) c d w z = cc
    refused (Err causes.NoMemory) c d w z = cc
    refused (Err (causes.Full refusal)) c d w z = (ap (λ (f : Full). f.drawn) c.last ∙ full_drawn z, ap (λ (f : Full). f.wanted) c.last ∙ full_wanted z)

    pub called : Called (record { view = v0; caller = caller }) (record { view = v3; caller = caller }) name row
    called = record {
      grows = grown;
      here = done.here;
      names = names_is;
      mine = mine_is;
      about = about_is;
      caller = refl;
      cause = cause_stays done.on.grows law2.legal law3.legal name (begun_row caller e) here2 refl (ending_made name kind made) (came_cause v1 v2 name most kind made law1 law2 working own came);
      unrefused = λ z. done.on.refusals ∙ (unrefused made came z ∙ begun.on.refusals);
      refused = λ d w z. (let r = refused made came d w z in (ap (λ (t : Refusals). t.last.drawn) done.on.refusals ∙ r.0, ap (λ (t : Refusals). t.last.wanted) done.on.refusals ∙ r.1));
      alone = λ alone. (let one = begun.on.alone alone in let two = same_rows alone in let three = done.on.alone (alone2 alone) in record {
        others = λ i ne. three.others i ne ∙ (ap (row_of i) (words_same v1.seen v2.seen two.rows i) ∙ one.others i ne);
        named = three.named ∙ (two.named ∙ one.named);
        numbers = λ d w z. numbers alone made came d w z;
      });
    }

-- the answer is the row's
told_made : (name : ℕ) (kind : Kind) (made : Result Outcome GiveUp) → ending_told (answer_made name kind made) ≡ ending_made name kind made
told_made name kind (Ok o) = refl
told_made name kind (Err (causes.Full refusal)) = refl
told_made name kind (Err causes.NoMemory) = refl

named_made : (name : ℕ) (kind : Kind) (made : Result Outcome GiveUp) → is_named name (answer_made name kind made) ≡ true
named_made name kind (Ok o) = and_from (eqb name name) _ (eq-eqb name name refl) (eq-eqb name name refl)
named_made name kind (Err (causes.Full refusal)) = refl
named_made name kind (Err causes.NoMemory) = refl

pub ended_so : (old new : Pass) (name : ℕ) (e : Event) (kind : Kind) (made : Result Outcome GiveUp) (answer : Result Entry Refuse) → answer ≡ answer_made name kind made → Called old new name (ended_row old.caller e (ending_made name kind made)) → Ended old new name e answer
ended_so old new name e kind made answer same c =
    let P : Result Entry Refuse → Type 0 = λ a. Ended old new name e a in
    subst P (sym same) (record { called = rw (told_made name kind made) c; named = named_made name kind made })

-- ---- the entry of a call

-- the version of a row that was answered is known from then on
pub row_known : (w : World) (name caller : ℕ) (e : Event) (kind : Kind) (o : Outcome) → name ≤ 200000 → row_at w name ≡ Some (ended_row caller e (ending_made name kind (Ok o))) → version_at (row_at w) name ≡ Some (version_made name kind o)
row_known w name caller e kind o low here =
    let first = is_second-first name (omega (arith, low)) in
    let same = event_name-first name (omega (arith, low)) in
    ap (λ n. option_and_then (λ (r : Row). version_of name r.ending) (row_at w n)) same ∙ (ap (option_and_then (λ (r : Row). version_of name r.ending)) here ∙ ap (λ b. cond b None (Some (version_made name kind o))) first)
